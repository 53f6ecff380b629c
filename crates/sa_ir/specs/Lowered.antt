-- No promise of the top calls rests on this page: it is for laws beside them, for proofs and for inner functions.
-- The lowered program of a typed one.
use Rattle.std.specs.Prelude.{ℕ, ◌+◌, [], length}
use Rattle.sa_typed.specs.Frames.{frame_cells}
use Rattle.sa_typed.specs.declared.program.Program.{Program}
use Rattle.sa_ir.specs.declared.ir.Ir.{Ir}
use Rattle.sa_ir.specs.Frames.{program_cells, initial_ends_of, main_first, main_frame}
use Rattle.sa_ir.specs.Nodes.{body_nodes}
use Rattle.sa_ir.specs.Shown.{body_infos}

-- the number of the first cell behind those of main
abbrev pub behind_main : Program → ℕ
behind_main p = main_first p + frame_cells p p.entry []

unfoldable pub lowered_program : Program → Ir
lowered_program p = record {
  cells = program_cells p;
  loops = body_infos p (length p.funcs) p.entry (main_frame p) (behind_main p) 0;
  initial = initial_ends_of p;
  body = body_nodes p (length p.funcs) p.entry (main_frame p) (behind_main p) 0;
  program = p;
}
