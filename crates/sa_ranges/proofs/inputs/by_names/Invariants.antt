use Rattle.std.proofs.Common.{◌≡◌, ℕ, List, drop}
use Rattle.sa_ranges.specs.Inputs.{range_with, range_named, range_in_map}
use Rattle.sa_ranges.proofs.inputs.by_names.Given as goal

abbrev pub invariant-loop-input : goal.invariant-loop-input
invariant-loop-input l = (n : List ℕ) → range_with n (range_in_map l.map n) (drop l.input-index l.inputs) ≡ range_named l.inputs n
