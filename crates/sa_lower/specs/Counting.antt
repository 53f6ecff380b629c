-- A lowered program has as many cells and loops as are counted of the typed one: the limits on cells and loops are limits of
-- lowered programs.
use Rattle.std.specs.Prelude.{◌≡◌, length}
use Rattle.sa_typed.specs.Frames.{program_cells, program_loops}
use Rattle.sa_typed.specs.declared.program.Program.{Program}
use Rattle.sa_ir.specs.Lowered.{lowered_program}

abbrev pub LengthsAreCounts : Type 0
LengthsAreCounts = (p : Program) → (length (lowered_program p).cells ≡ program_cells p) × (length (lowered_program p).loops ≡ program_loops p)
