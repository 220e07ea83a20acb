-- What reading a buffer leaves, by a lawful program, of bytes of which more may come: what stands in the output buffer and what is still to
-- be printed are together what was there and what was to be printed. By `settled_advance` and `shifted_advance`: what is answered of a record
-- depends neither on the bytes after it nor on those before it. Assumes nothing.
use mathlib.Core.Bool.{Bool, true, false, cond, true≢false}
use mathlib.Core.Path.{◌≡◌, refl, ap, sym, ◌∙◌}
use mathlib.Core.List.{List, [], ◌++◌, append-nil, append_assoc}
use Prim.Native.Nat.{ℕ, zero, suc, ◌+◌, ◌-◌, ◌≤◌}
use native.Mathlib.Omega.{arith}
use borrow.Author.Tests.{leb-true}
use lib.ListN.{length, take, drop, take-append-drop}
use lib.Seq.{length-take-le, drop-append-le, drop-drop}
use Rattle.programs.specs.declared.Progress.{Progress}
use Rattle.programs.specs.declared.Progress.TheVariants.{Went, More, Done, Refused}
use Rattle.programs.specs.Program.{Program}
use Rattle.programs.specs.Advancing.{Advance, goes_on, joined, advance_of}
use Rattle.programs.specs.Buffering.{Reached, Buffered, room_for, buffered_step, buffered_from}
use Rattle.programs.specs.Whole.{finished}
use Rattle.programs.proofs.Pieces.{settled_advance, further, asks-more}
use Rattle.programs.proofs.Shifts.{shifted, shifted_advance}
use Rattle.programs.proofs.Lines.{ahead, lines_of, lines_step}
use Rattle.programs.proofs.PutLines.{lines_reach, lines-length, lines_show}
use Rattle.reads.specs.Lawful.{Lawful}
use Rattle.reads.proofs.Rooms.{lines-room, good-kept}

-- what is still to be printed once a record was looked at
abbrev pub remaining : Progress → List ℕ → List ℕ
remaining Went l = l
remaining More l = l
remaining Done l = []
remaining (Refused n) l = []

pub goes-went : (p : Progress) → goes_on p ≡ true → p ≡ Went
goes-went Went e = refl
goes-went More e = let z : ◌≡◌ {A = ℕ} 0 1 = cc in absurd (omega arith)
goes-went Done e = let z : ◌≡◌ {A = ℕ} 0 1 = cc in absurd (omega arith)
goes-went (Refused n) e = let z : ◌≡◌ {A = ℕ} 0 1 = cc in absurd (omega arith)

went-not-more : (p : Progress) → goes_on p ≡ true → p ≡ More → ⊥
went-not-more Went e m = let z : ◌≡◌ {A = ℕ} 0 1 = cc in omega arith
went-not-more More e m = let z : ◌≡◌ {A = ℕ} 0 1 = cc in omega arith
went-not-more Done e m = let z : ◌≡◌ {A = ℕ} 0 1 = cc in omega arith
went-not-more (Refused n) e m = let z : ◌≡◌ {A = ℕ} 0 1 = cc in omega arith

finished-not-more : (p : Progress) → finished p ≡ true → p ≡ More → ⊥
finished-not-more Went e m = true≢false (sym e)
finished-not-more More e m = true≢false (sym e)
finished-not-more Done e m = let z : ◌≡◌ {A = ℕ} 0 1 = cc in omega arith
finished-not-more (Refused n) e m = let z : ◌≡◌ {A = ℕ} 0 1 = cc in omega arith

finished_stops : (p : Progress) → finished p ≡ true → goes_on p ≡ false
finished_stops Went e = sym e
finished_stops More e = refl
finished_stops Done e = refl
finished_stops (Refused n) e = refl

pub nothing_remains : (p : Progress) → finished p ≡ true → (l : List ℕ) → remaining p l ≡ []
nothing_remains Went e l = absurd (true≢false (sym e))
nothing_remains More e l = absurd (true≢false (sym e))
nothing_remains Done e l = refl
nothing_remains (Refused n) e l = refl

module _ {S : Type 0} (P : Program S) (L : Lawful P) where
  -- `fin`: how the input ends at last, `ended`: whether it has; `more`: the bytes that are to come
  module _ (fin ended : Bool) (bytes more : List ℕ) (over : ended ≡ true → (more ≡ []) × (fin ≡ true)) where
    -- the record at a place, as the first of the bytes from there on
    from-drop : (s : S) (next : ℕ) → next ≤ length bytes → advance_of P s bytes next ended ≡ shifted next (advance_of P s (drop next bytes) 0 ended)
    from-drop s next h =
        let t : length (take next bytes) ≡ next = length-take-le next bytes h in
        let z : length (take next bytes) + 0 ≡ next = omega arith in
        ap (λ (p : ℕ). advance_of P s bytes p ended) (sym z)
        ∙ ap (λ (l : List ℕ). advance_of P s l (length (take next bytes) + 0) ended) (sym (take-append-drop next bytes))
        ∙ shifted_advance P s (take next bytes) (drop next bytes) 0 ended
        ∙ ap (λ (p : ℕ). shifted p (advance_of P s (drop next bytes) 0 ended)) t

    -- it is the same record with the bytes that are to come
    same_ahead : (s : S) (l : List ℕ) → ((advance_of P s l 0 ended).progress ≡ More → ⊥) → ahead P fin s (l ++ more) ≡ advance_of P s l 0 ended
    same_ahead s l h = go ended refl h
      where
        go : (e : Bool) → ended ≡ e → ((advance_of P s l 0 e).progress ≡ More → ⊥) → ahead P fin s (l ++ more) ≡ advance_of P s l 0 e
        go true e h = let o = over e in rw (o.0, o.1, append-nil l)
        go false e h = settled_advance P s l more 0 fin h

    -- what is to be printed from a place on, by the record there
    module _ (s : S) (next : ℕ) (inside : next ≤ length bytes) where
      abbrev here : Advance S
      here = advance_of P s bytes next ended

      abbrev first : Advance S
      first = advance_of P s (drop next bytes) 0 ended

      rest-here : goes_on first.progress ≡ true → drop first.next (drop next bytes ++ more) ≡ drop here.next bytes ++ more
      rest-here e =
          let x = further P s (drop next bytes) 0 ended e in
          drop-append-le first.next (drop next bytes) more x.1
          ∙ ap (λ (l : List ℕ). l ++ more) (drop-drop first.next next bytes)
          ∙ ap (λ (a : Advance S). drop a.next bytes ++ more) (sym (from-drop s next inside))

      pub lines-here : (here.progress ≡ More → ⊥) → lines_of P fin s (drop next bytes ++ more)
          ≡ joined here.lines ++ cond (goes_on here.progress) (lines_of P fin here.state (drop here.next bytes ++ more)) []
      lines-here h =
          let d = from-drop s next inside in
          let m : first.progress ≡ More → ⊥ = λ e. h (ap (λ (a : Advance S). a.progress) d ∙ e) in
          lines_step P fin s (drop next bytes ++ more)
          ∙ ap (λ (a : Advance S). joined a.lines ++ cond (goes_on a.progress) (lines_of P fin a.state (drop a.next (drop next bytes ++ more))) [])
          (same_ahead s (drop next bytes) m)
          ∙ go (goes_on first.progress) refl
          ∙ ap (λ (a : Advance S). joined a.lines ++ cond (goes_on a.progress) (lines_of P fin a.state (drop here.next bytes ++ more)) []) (sym d)
        where
          go : (b : Bool) → goes_on first.progress ≡ b
              → joined first.lines ++ cond b (lines_of P fin first.state (drop first.next (drop next bytes ++ more))) []
              ≡ joined first.lines ++ cond b (lines_of P fin first.state (drop here.next bytes ++ more)) []
          go true e = ap (λ (l : List ℕ). joined first.lines ++ lines_of P fin first.state l) (rest-here e)
          go false e = refl

    -- what the loop leaves
    pub record Left (buffer : List ℕ) (n : Reached S) (r : Buffered S) : Type 0 where
      pub written : take r.answer.at r.buffer ++ remaining r.answer.progress (lines_of P fin r.answer.state (drop r.answer.next bytes ++ more))
          ≡ take n.at buffer ++ lines_of P fin n.state (drop n.next bytes ++ more)
      pub size : length r.buffer ≡ length buffer
      pub within : r.answer.at ≤ length buffer
      pub good : L.Good r.answer.state
      pub onward : finished r.answer.progress ≡ false → n.next ≤ r.answer.next
      pub inside : finished r.answer.progress ≡ false → r.answer.next ≤ length bytes
      pub few : r.answer.progress ≡ More → (ended ≡ false) × (length bytes - r.answer.next ≤ suc P.longest)
      pub none : r.answer.progress ≡ More → lines_of P false r.answer.state (drop r.answer.next bytes) ≡ []

    -- where nothing is done
    stays : (buffer : List ℕ) (n : Reached S) → n.progress ≡ Went → n.next ≤ length bytes → n.at ≤ length buffer → L.Good n.state
        → Left buffer n (record { buffer = buffer; answer = n })
    stays buffer n w i a p =
        record {
          written = ap (λ (g : Progress). take n.at buffer ++ remaining g (lines_of P fin n.state (drop n.next bytes ++ more))) w;
          size = refl;
          within = a;
          good = p;
          onward = λ e. omega arith;
          inside = λ e. i;
          few = λ e. absurd (went-not-more n.progress (ap goes_on w) e);
          none = λ e. absurd (went-not-more n.progress (ap goes_on w) e);
        }

    -- one record, with room for its line
    module _ (buffer : List ℕ) (n : Reached S) (inside : n.next ≤ length bytes) (good : L.Good n.state)
        (room : room_for P (length buffer) n.at ≡ true) where
      abbrev this : Advance S
      this = advance_of P n.state bytes n.next ended

      abbrev next : Buffered S
      next = buffered_step P bytes ended buffer n

      line-fits : n.at + length (joined this.lines) ≤ length buffer
      line-fits = omega (arith, lines-room P L n.state good bytes n.next ended, leb-true (n.at + P.room) (length buffer) room)

      shows : take next.answer.at next.buffer ≡ take n.at buffer ++ joined this.lines
      shows = lines_show this.lines buffer n.at line-fits

      pub step-size : length next.buffer ≡ length buffer
      step-size = lines-length this.lines buffer n.at line-fits

      pub step-within : next.answer.at ≤ length buffer
      step-within = omega (arith, lines_reach this.lines buffer n.at line-fits, line-fits)

      pub step-good : L.Good next.answer.state
      step-good = good-kept P L n.state good bytes n.next ended

      went-left : goes_on this.progress ≡ true → (r : Buffered S) → Left next.buffer next.answer r → Left buffer n r
      went-left e r rest =
          let x = further P n.state bytes n.next ended e in
          record {
            written =
                rest.written
                ∙ ap (λ (l : List ℕ). l ++ lines_of P fin this.state (drop this.next bytes ++ more)) shows
                ∙ append_assoc (take n.at buffer) (joined this.lines) (lines_of P fin this.state (drop this.next bytes ++ more))
                ∙ ap (λ (l : List ℕ). take n.at buffer ++ l)
                (sym (lines-here n.state n.next inside (went-not-more this.progress e)
                ∙ ap (λ (b : Bool). joined this.lines ++ cond b (lines_of P fin this.state (drop this.next bytes ++ more)) []) e));
            size = rest.size ∙ step-size;
            within = omega (arith, rest.within, step-size);
            good = rest.good;
            onward = λ f. omega (arith, rest.onward f, x.0);
            inside = rest.inside;
            few = rest.few;
            none = rest.none;
          }

      -- a record that asks for more bytes: nothing is printed of it
      none_yet : this.progress ≡ More → ended ≡ false → lines_of P false n.state (drop n.next bytes) ≡ []
      none_yet e u =
          let first : (advance_of P n.state (drop n.next bytes) 0 false).progress ≡ More
          = ap (λ (b : Bool). (advance_of P n.state (drop n.next bytes) 0 b).progress) (sym u)
          ∙ sym (ap (λ (a : Advance S). a.progress) (from-drop n.state n.next inside))
          ∙ e in
          lines_step P false n.state (drop n.next bytes)
          ∙ ap (λ (a : Advance S). joined a.lines ++ cond (goes_on a.progress) (lines_of P false a.state (drop a.next (drop n.next bytes))) [])
          (asks-more P n.state (drop n.next bytes) 0 false first).stays

      more_left : this.progress ≡ More → Left buffer n next
      more_left e =
          let k = asks-more P n.state bytes n.next ended e in
          let same = ap (λ (a : Advance S). a.next) k.stays in
          record {
            written =
                ap (λ (l : List ℕ). l ++ remaining this.progress (lines_of P fin this.state (drop this.next bytes ++ more))) shows
                ∙ ap (λ (a : Advance S). take n.at buffer ++ joined a.lines ++ remaining a.progress (lines_of P fin a.state (drop a.next bytes ++ more)))
                k.stays
                ∙ ap (λ (l : List ℕ). l ++ lines_of P fin n.state (drop n.next bytes ++ more)) (append-nil (take n.at buffer));
            size = step-size;
            within = step-within;
            good = step-good;
            onward = λ f. omega (arith, same);
            inside = λ f. omega (arith, same);
            few = λ f. (k.unended, omega (arith, k.few, same));
            none = λ f. ap (λ (a : Advance S). lines_of P false a.state (drop a.next bytes)) k.stays ∙ none_yet e k.unended;
          }

      -- a record after which nothing is printed
      last-left : finished this.progress ≡ true → Left buffer n next
      last-left d =
          let none : finished this.progress ≡ false → ⊥ = λ e. true≢false (sym d ∙ e) in
          let m = finished-not-more this.progress d in
          record {
            written =
                ap (λ (l : List ℕ). l ++ remaining this.progress (lines_of P fin this.state (drop this.next bytes ++ more))) shows
                ∙ ap (λ (l : List ℕ). take n.at buffer ++ joined this.lines ++ l)
                (nothing_remains this.progress d (lines_of P fin this.state (drop this.next bytes ++ more)))
                ∙ append_assoc (take n.at buffer) (joined this.lines) []
                ∙ ap (λ (l : List ℕ). take n.at buffer ++ l)
                (sym (lines-here n.state n.next inside m
                ∙ ap (λ (b : Bool). joined this.lines ++ cond b (lines_of P fin this.state (drop this.next bytes ++ more)) [])
                (finished_stops this.progress d)));
            size = step-size;
            within = step-within;
            good = step-good;
            onward = λ e. absurd (none e);
            inside = λ e. absurd (none e);
            few = λ e. absurd (m e);
            none = λ e. absurd (m e);
          }

      stops_left : goes_on this.progress ≡ false → Left buffer n next
      stops_left g = go this.progress refl g
        where
          go : (p : Progress) → this.progress ≡ p → goes_on p ≡ false → Left buffer n next
          go Went e g = let z : ◌≡◌ {A = ℕ} 0 1 = cc in absurd (omega arith)
          go More e g = more_left e
          go Done e g = last-left (ap finished e)
          go (Refused n) e g = last-left (ap finished e)

    -- THE LOOP
    pub loop-left : (k : ℕ) (buffer : List ℕ) (n : Reached S) → n.progress ≡ Went → n.next ≤ length bytes → n.at ≤ length buffer → L.Good n.state
        → Left buffer n (buffered_from P k bytes ended buffer n)
    unfolding buffered_from
    loop-left zero buffer n w i a p = stays buffer n w i a p
    loop-left (suc k) buffer n w i a p = go (room_for P (length buffer) n.at) refl
        (goes_on (advance_of P n.state bytes n.next ended).progress) refl
        (loop-left k (buffered_step P bytes ended buffer n).buffer (buffered_step P bytes ended buffer n).answer)
      where
        go : (b : Bool) → room_for P (length buffer) n.at ≡ b → (g : Bool) → goes_on (advance_of P n.state bytes n.next ended).progress ≡ g
            → ((buffered_step P bytes ended buffer n).answer.progress ≡ Went → (buffered_step P bytes ended buffer n).answer.next ≤ length bytes
            → (buffered_step P bytes ended buffer n).answer.at ≤ length (buffered_step P bytes ended buffer n).buffer
            → L.Good (buffered_step P bytes ended buffer n).answer.state
            → Left (buffered_step P bytes ended buffer n).buffer (buffered_step P bytes ended buffer n).answer
            (buffered_from P k bytes ended (buffered_step P bytes ended buffer n).buffer (buffered_step P bytes ended buffer n).answer))
            → Left buffer n
            (cond b
            (cond g (buffered_from P k bytes ended (buffered_step P bytes ended buffer n).buffer (buffered_step P bytes ended buffer n).answer) (buffered_step P bytes ended buffer n))
            (record { buffer = buffer; answer = n }))
        go false r g e ih = stays buffer n w i a p
        go true r false e ih = stops_left buffer n i p r e
        go true r true e ih =
            let x = further P n.state bytes n.next ended e in
            went-left buffer n i p r e _
            (ih (goes-went _ e) x.1 (omega (arith, step-within buffer n i p r, step-size buffer n i p r)) (step-good buffer n i p r))
