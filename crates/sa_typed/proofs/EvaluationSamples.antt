-- What statements do, computed on samples: which of two errors comes first, and in which order numbers are read.
use Rattle.std.proofs.Common.{◌≡◌, pos, [], ◌∷◌, refl}
use Rattle.sa_base.specs.declared.alarm.Kind.TheVariants.{Index, Division}
use Rattle.sa_base.specs.declared.num.Num.TheVariants.{I32, U8}
use Rattle.sa_base.specs.declared.pos.Pos.{Pos}
use Rattle.sa_typed.specs.declared.expr.Access.{Access}
use Rattle.sa_typed.specs.declared.expr.Expr.{Expr}
use Rattle.sa_typed.specs.declared.expr.Expr.TheVariants as e
use Rattle.sa_typed.specs.declared.expr.Operator.TheVariants as o
use Rattle.sa_typed.specs.declared.expr.Step.TheVariants as step
use Rattle.sa_typed.specs.declared.program.Program.{Program}
use Rattle.sa_typed.specs.declared.shape.Part.TheVariants as part
use Rattle.sa_typed.specs.declared.stmt.Simple.TheVariants.{Assign}
use Rattle.sa_typed.specs.Evaluation.{Gives, Stops, Error, Store, Setting, Here, place_of, eval, steps_value, step_value, links_value, read_place}
use Rattle.sa_typed.specs.Executions.{simple_value, strong_update}
use Rattle.sa_typed.specs.Arithmetic.{operate, divided}

abbrev bracket : Pos
bracket = record { line = 1; col = 2 }

abbrev equals : Pos
equals = record { line = 1; col = 6 }

abbrev slash : Pos
slash = record { line = 1; col = 10 }

-- the variable 1 without steps
abbrev z : Expr
z = e.Read (record { var = 1; steps = [] }) I32

-- 1 / z
abbrev quotient : Expr
quotient = e.Chain (e.Number 1 I32) (record { op = o.Divide; pos = slash; num = I32; operand = z } ∷ [])

-- the element of the variable 0 with this index, of four elements
abbrev element : Expr → Access
element i = record { var = 0; steps = step.At bracket 4 i ∷ [] }

-- `a[4] = 1 / z;`, of `int a[4]`, where z is 0, ends at the bracket
index_first : (p : Program) (w : Setting) (here : Here) → simple_value p w here (Assign (element (e.Number 4 I32)) I32 equals quotient) (λ q. pos 0) [] ≡ Stops (Error bracket Index)
unfolding simple_value read_place steps_value step_value eval Rattle.sa_typed.specs.declared.expr.Expr.TheBlock.hidden-the_row-Step-0 denote.Hole.Carrier.hidden Rattle.sa_typed.specs.declared.expr.Expr.TheBlock.hidden-the_row-Expr-1
index_first p w here = refl

-- and `a[3] = 1 / z;` at the operator
then_division : (p : Program) (w : Setting) (here : Here) → simple_value p w here (Assign (element (e.Number 3 I32)) I32 equals quotient) (λ q. pos 0) [] ≡ Stops (Error slash Division)
unfolding simple_value read_place steps_value step_value eval links_value operate divided Rattle.sa_typed.specs.declared.expr.Expr.TheBlock.hidden-the_row-Step-0 denote.Hole.Carrier.hidden Rattle.sa_typed.specs.declared.expr.Expr.TheBlock.hidden-the_row-Expr-1 Rattle.sa_typed.specs.declared.expr.Expr.TheBlock.hidden-the_row-Link-2 Rattle.sa_typed.specs.Arithmetic.as_num
then_division p w here = refl

-- `b[u] = u;`, of an input u, reads the number of the index first
index_reads_first : (p : Program) (here : Here) (st : Store) → simple_value p (record { inputs = record { lo = pos 0; hi = pos 255 } ∷ []; max_clock = pos 10 }) here (Assign (element (e.Input 0 U8)) I32 equals (e.Input 0 U8)) st (pos 1 ∷ pos 7 ∷ []) ≡ Gives (strong_update (place_of here 0 (part.At 1 ∷ [])) (pos 7) st) []
unfolding simple_value read_place steps_value step_value eval Rattle.sa_typed.specs.declared.expr.Expr.TheBlock.hidden-the_row-Step-0 denote.Hole.Carrier.hidden Rattle.sa_typed.specs.declared.expr.Expr.TheBlock.hidden-the_row-Expr-1 Rattle.sa_typed.specs.Arithmetic.in_type
index_reads_first p here st = refl
