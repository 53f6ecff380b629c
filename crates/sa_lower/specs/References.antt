-- No promise of the top calls rests on this page: it is for inner functions. What the references of a call stand for, as the list
-- that code makes of it.
use Rattle.std.specs.Prelude.{ℕ, ◌+◌, List, [], ◌∷◌, ◌++◌}
use Rattle.sa_typed.specs.Frames.{kept_indices}
use Rattle.sa_typed.specs.declared.program.Param.{Param}
use Rattle.sa_typed.specs.declared.program.Program.{Program}
use Rattle.sa_typed.specs.declared.stmt.Arg.{Arg}
use Rattle.sa_typed.specs.declared.stmt.Arg.TheVariants.{Value as ByValue, Object as ByReference}
use Rattle.sa_ir.specs.declared.frame.Reference.{Reference}
use Rattle.sa_ir.specs.Frames.{Frame}
use Rattle.sa_ir.specs.Places.{target}

abbrev pub reference_for : Program → Frame → ℕ → Param → Arg → List Reference
reference_for p fr h q (ByValue at a) = []
reference_for p fr h q (ByReference x) = record { var = q.var; target = target p fr h x } ∷ []

unfoldable pub references_for : Program → Frame → ℕ → List Param → List Arg → List Reference
references_for p fr h [] args = []
references_for p fr h (q ∷ params) [] = []
references_for p fr h (q ∷ params) (a ∷ args) = reference_for p fr h q a ++ references_for p fr (h + kept_indices a) params args
