-- A channel by value has room for 65 records, so that the first `min count 65` of them are the first `count`. And what a call on them leaves is told as the paper
-- tells it: both halves of the contract at once, of the first. Assumes nothing.
use mathlib.Core.Path.{◌≡◌, ap, ◌∙◌}
use mathlib.Core.List.{List}
use Prim.Native.Nat.{ℕ, min}
use lib.ListN.{length, take}
use Rattle.rules.specs.declared.Station.{Station}
use Rattle.calls.specs.ByValue.{channel_of}
use Rattle.coming_rules.specs.declared.ComingAnswer.{ComingAnswer}
use Rattle.coming_rules.specs.Coming.{ComingResult, coming_of, coming_told, coming_told_of}
use Rattle.coming_rules.proofs.Told.{coming-told}
use Rattle.channel_coming.specs.Leaving.{leaves_coming}
use Rattle.lent_channel.specs.Lent.{lent_of}
use Rattle.lent_channel.proofs.Counts.{first_of}
use Rattle.local_channel.specs.declared.LocalChannel.{LocalChannel}
use Rattle.local_channel.specs.Local.{lent_by}

module _ (c : LocalChannel) (list : List ℕ) where
  pub lends_the_first : length c.stations ≡ 65 → (k : ℕ) → k ≡ min c.count 65 → coming_of (lent_of c.stations k c.wire) list ≡ coming_of (lent_by c) list
  lends_the_first full k e =
      ap (λ (stations : List Station). coming_of (channel_of stations c.wire) list)
      (ap (λ (n : ℕ). take n c.stations) e ∙ first_of c.stations full c.count)

  pub coming-both : {zs : List ℕ} {r : ComingAnswer} → leaves_coming zs r ≡ coming_of (lent_by c) list
      → (leaves_coming zs r ≡ coming_of (lent_by c) list) × (coming_told r ≡ coming_told_of (lent_by c) (length list))
  coming-both e = (e, ap (λ (x : ComingResult). coming_told x.answer) e ∙ coming-told (lent_by c) list)
