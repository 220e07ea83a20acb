-- The definition on samples, by computation: edges of a record's form.
-- Assumes nothing.
use mathlib.Core.Bool.{true, false}
use mathlib.Core.Path.{◌≡◌, refl}
use mathlib.Core.List.{[], ◌∷◌}
use lib.ListN.{replicate}
use Rattle.records.specs.Cutting.{after_return, goes_on, begins, cut_of}
use Rattle.records.specs.declared.Cut.TheVariants.{Record, More, Done, Broken}

-- CR LF at once, a CR that may still get its LF, a CR at the input's end, an LF alone
at_once : cut_of 128 (13 ∷ 10 ∷ []) 0 false ≡ Record 0 2
unfolding cut_of begins goes_on after_return
at_once = refl

return_waits : cut_of 128 (49 ∷ 13 ∷ []) 0 false ≡ More
unfolding cut_of begins goes_on after_return
return_waits = refl

return_alone : cut_of 128 (49 ∷ 13 ∷ []) 0 true ≡ Broken
unfolding cut_of begins goes_on after_return
return_alone = refl

feed_alone : cut_of 128 (49 ∷ 10 ∷ []) 0 false ≡ Broken
unfolding cut_of begins goes_on after_return
feed_alone = refl

-- 128 bytes end with the input; a 129th breaks the record, unless it may have more; after the last record there is none
longest : cut_of 128 (replicate 128 49) 0 true ≡ Record 128 128
unfolding cut_of begins goes_on after_return
longest = refl

too_long : cut_of 128 (replicate 129 49) 0 false ≡ Broken
unfolding cut_of begins goes_on after_return
too_long = refl

longer : cut_of 512 (replicate 129 49) 0 false ≡ More
unfolding cut_of begins goes_on after_return
longer = refl

none_left : cut_of 128 (49 ∷ 13 ∷ 10 ∷ []) 3 true ≡ Done
unfolding cut_of begins goes_on after_return
none_left = refl
