-- THE LAW OF SETTING A CALENDAR: its records written over the lent table, its wire and its answer are those of the channel's definition. Assumes nothing.
use mathlib.Core.Path.{◌≡◌, sym, ap, ◌∙◌}
use mathlib.Core.Bool.{Bool, true, false, cond}
use mathlib.Core.List.{List, map}
use mathlib.Core.Logic.{by_cases}
use Prim.Native.Nat.{ℕ, ◌≤◌, ◌<◌}
use native.Mathlib.Omega.{arith}
use native.Mathlib.Decide.{dec_lt}
use lib.Dec.{eqb}
use lib.ListN.{length, length-map}
use Rattle.std.proofs.lemmas.List.{take-map}
use Rattle.listlaws.specs.Steps.{all_steps, latter}
use Rattle.listlaws.proofs.Steps.{all_steps-whole}
use Rattle.rules.specs.declared.Station.{Station}
use Rattle.rules.specs.declared.WireRow.{WireRow}
use Rattle.rules.specs.Settings.{calendar_on}
use Rattle.channel_rules.specs.ChannelCalls.{refused, calendar_set, channel_calendar_number_of, channel_calendar_of}
use Rattle.table.specs.Loading.{of, load_of, store_of}
use Rattle.table.proofs.Loading.{table-loaded}
use Rattle.calls.specs.declared.Decided.{Decided}
use Rattle.calls.specs.ByValue.{channel_of, array_channel}
use Rattle.calls.specs.Replies.{refused_decided, decided_left}
use Rattle.calls.proofs.ByValue.{many_false, array-loaded, array-many, refused-left}
use Rattle.setting_numbers.proofs.Numbers.{calendar_14}
use Rattle.settings.specs.Setting.{set_of, setting_of}

module _ (ys : List Station) (wire : List WireRow) (entries : List ℕ) where
  -- the records of the copy, written over the table, are the table's own
  set-stored : length ys ≤ 64 → store_of ys (of (map (calendar_on entries) (load_of ys).stations) (load_of ys).count) ≡ map (calendar_on entries) ys
  unfolding store_of
  set-stored few =
      ap (all_steps latter ys) (take-map (calendar_on entries) (load_of ys).count (load_of ys).stations ∙ ap (map (calendar_on entries)) (table-loaded ys few))
      ∙ all_steps-whole ys (map (calendar_on entries) ys) (sym (length-map ys (calendar_on entries)))

  abbrev decided : ℕ → Decided
  decided n = cond (eqb n 0) (set_of (load_of ys).stations (load_of ys).count wire entries) (refused_decided wire n)

  few-is : length ys ≤ 64 → decided_left ys (decided (channel_calendar_number_of (channel_of ys wire) entries)) ≡ channel_calendar_of (channel_of ys wire) entries
  unfolding channel_calendar_of
  few-is few = go (eqb number 0)
    where
      number : ℕ
      number = channel_calendar_number_of (channel_of ys wire) entries

      go : (b : Bool) → decided_left ys (cond b (set_of (load_of ys).stations (load_of ys).count wire entries) (refused_decided wire number))
          ≡ cond b (calendar_set (channel_of ys wire) entries) (refused (channel_of ys wire) number)
      go true = rw (set-stored few)
      go false = refused-left ys wire number

  many_is : 64 < length ys → decided_left ys (setting_of (load_of ys).stations (load_of ys).count wire entries) ≡ channel_calendar_of (channel_of ys wire) entries
  unfolding setting_of channel_calendar_of
  many_is h =
      rw (
        ← calendar_14 (array_channel (load_of ys).stations (load_of ys).count wire) entries (rw (array-many ys) (many_false (length ys) h)),
        ← calendar_14 (channel_of ys wire) entries (many_false (length ys) h),
      )
      (refused-left ys wire 14)

  pub setting_is : decided_left ys (setting_of (load_of ys).stations (load_of ys).count wire entries) ≡ channel_calendar_of (channel_of ys wire) entries
  unfolding setting_of
  setting_is =
      by_cases (dec_lt 64 (length ys)) many_is
      (λ h.
      ap (λ (t : List Station). decided_left ys (decided (channel_calendar_number_of (channel_of t wire) entries))) (array-loaded ys (omega arith))
      ∙ few-is (omega arith))
