-- No promise of the top calls rests on this page: it is for inner functions. Rows of places and parts of constant expressions as
-- lists, as code goes over them.
use Rattle.std.specs.Prelude.{ℕ, List, [], ◌∷◌, Bool, true, ◌&&◌, if◌then◌else◌}
use Rattle.sa_ir.specs.declared.expr.IrExpr.{IrExpr, end_of-IrExpr, more_of-IrExpr}
use Rattle.sa_ir.specs.declared.expr.IrLink.{IrLink}
use Rattle.sa_ir.specs.declared.expr.Row.{Row, At', Kept}
use Rattle.sa_ir.specs.Occurrences.{is_constant, led}

unfoldable pub all_are_constant : List IrExpr → Bool
all_are_constant [] = true
all_are_constant (e ∷ es) = is_constant e && all_are_constant es

unfoldable pub links_are_constant : List IrLink → Bool
links_are_constant [] = true
links_are_constant (l ∷ ls) = is_constant l.operand && links_are_constant ls

-- from some cells by one index
unfoldable pub row_leads : Row → List ℕ → List ℕ
row_leads (At' q n stride m (more_of-IrExpr a end_of-IrExpr)) cs = if is_constant a then [] else led n stride cs
row_leads (Kept c n stride) cs = led n stride cs

unfoldable pub rows_lead : List Row → List ℕ → List ℕ
rows_lead [] cs = cs
rows_lead (r ∷ rs) cs = rows_lead rs (row_leads r cs)
