use Rattle.std.proofs.Common.{◌≡◌, ◌+◌, ◌≤◌, drop}
use Rattle.sa_typed.specs.Frames.{all_kept}
use Rattle.sa_ir.specs.Sizes.{capped}
use Rattle.sa_lower.proofs.kept.all_kept.Given as goal

abbrev pub invariant-loop-arg : goal.invariant-loop-arg
invariant-loop-arg l = (capped (l.count + all_kept (drop l.arg-index l.args)) ≡ capped (all_kept l.args)) × (l.count ≤ 18446744073709551615)
