-- No promise of the top calls rests on this page: it is for inner functions. Steps of a reference's argument as a list, as code
-- goes over them.
use Rattle.std.specs.Prelude.{ℕ, ◌+◌, List, [], ◌∷◌, ◌++◌}
use Rattle.sa_typed.specs.Layouts.{Layout}
use Rattle.sa_typed.specs.declared.expr.Step.{Step, At', Field}
use Rattle.sa_ir.specs.declared.frame.Kept.{Kept}
use Rattle.sa_ir.specs.Indices.{step_layout}
use Rattle.sa_ir.specs.Places.{stride_of, cells_to}

-- how many cells further a step leads, the index that is kept, and how many cells keep it
unfoldable pub step_far : Layout → Step → ℕ
step_far l (At' q n m a) = 0
step_far l (Field f) = cells_to l f

unfoldable pub step_kept : Layout → ℕ → Step → List Kept
step_kept l h (At' q n m a) = record { cell = h; size = n; stride = stride_of l } ∷ []
step_kept l h (Field f) = []

unfoldable pub step_count : Step → ℕ
step_count (At' q n m a) = 1
step_count (Field f) = 0

-- the same of all steps
unfoldable pub list_far : Layout → List Step → ℕ
list_far l [] = 0
list_far l (s ∷ ss) = step_far l s + list_far (step_layout l s) ss

unfoldable pub list_kept : Layout → ℕ → List Step → List Kept
list_kept l h [] = []
list_kept l h (s ∷ ss) = step_kept l h s ++ list_kept (step_layout l s) (h + step_count s) ss

unfoldable pub list_count : List Step → ℕ
list_count [] = 0
list_count (s ∷ ss) = step_count s + list_count ss
