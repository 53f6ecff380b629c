-- Cells behind a step.
use Rattle.std.proofs.Common.{◌≡◌, suc, List, [], ◌∷◌, length, refl, ap}
use Rattle.sa_typed.specs.Cells.{Step, Inner, all_behind}

pub length-behind : (s : Step) (cs : List Inner) → length (all_behind s cs) ≡ length cs
unfolding all_behind
length-behind s [] = refl
length-behind s (c ∷ cs) = ap suc (length-behind s cs)
