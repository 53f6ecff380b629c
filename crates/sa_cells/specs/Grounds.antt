-- No promise of the top calls rests on this page: it is for laws beside them, for proofs and for inner functions.
-- What is fixed of a program during an analysis.
use Rattle.std.specs.Prelude.{ℕ, ◌≡◌, ◌≤◌, List, [], ◌∷◌, Bool, length, reverse, slice_get}
use Rattle.sa_typed.specs.Cells.{Cell, cells, is_starred}
use Rattle.sa_typed.specs.declared.program.Program.{Program}
use Rattle.sa_reference.specs.Environments.{ranges}
use Rattle.sa_cells.specs.declared.ground.Ground.{Ground}
use Rattle.sa_cells.specs.Sizes.{all_extents, stretch_at}
use Rattle.sa_cells.specs.Spots.{AreCores}

unfoldable pub stars : List Cell → List Bool
stars [] = []
stars (c ∷ cs) = is_starred c.steps ∷ stars cs

pub record IsGround (p : Program) (g : Ground) : Type 0 where
  pub few : length (cells p) ≤ 65536
  pub tops : g.tops ≡ ranges (cells p)
  pub starred : g.starred ≡ stars (cells p)
  pub vars : (v : ℕ) → slice_get g.vars v ≡ stretch_at p v
  pub structs : g.structs ≡ all_extents (reverse p.structs)
  pub cores : AreCores p.structs g.cores
