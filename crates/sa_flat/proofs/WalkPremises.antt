-- What the walk asks of typed expressions. Typing promises each: steps follow what their variable is made of, operands convert to
-- the types in which their operators work, the operand of a prefix operator is promoted (ISO C 6.5.3.3), and `&&` and `||` have a
-- second operand at least. `ok` says which variables stand in the frame of the call at hand.
use Rattle.std.specs.Prelude.{ℕ, pos, ◌≡◌, IsTrue, Some, slice_get}
use Rattle.sa_base.specs.declared.num.Num.{Num}
use Rattle.sa_typed.specs.Arithmetic.{is_of, promoted, result_type}
use Rattle.sa_typed.specs.Layouts.{leaf, layout_of}
use Rattle.sa_typed.specs.WellTyped.{type_of, converts, steps_layout, num_of_input, IsLink}
use Rattle.sa_typed.specs.declared.expr.Expr.{Expr, Number, Read', Input, Prefix', Cast', Chain', And', Or', Choice', end_of-Expr, more_of-Expr, Row_of-Expr, Row_of-Link, end_of-Link, more_of-Link, Row_of-Step, end_of-Step, more_of-Step}
use Rattle.sa_typed.specs.declared.expr.Step.{Step, At', Field}
use Rattle.sa_typed.specs.declared.program.Program.{Program}

unfoldable mutual
  pub Walks : Program → (ℕ → Type 0) → Expr → Type 0
  Walks p ok (Number n num) = IsTrue (is_of num (pos n))
  Walks p ok (Read' v n steps num) = ok v × (StepsWalk p ok steps × (steps_layout (Some (layout_of p v)) steps ≡ Some (leaf num)))
  Walks p ok (Input k num) = num_of_input (slice_get p.inputs k) ≡ Some num
  Walks p ok (Prefix' op q num n (more_of-Expr a end_of-Expr)) = Walks p ok a × (IsTrue (converts (type_of a) num) × (num ≡ promoted (type_of a)))
  Walks p ok (Cast' q num n (more_of-Expr a end_of-Expr)) = Walks p ok a
  Walks p ok (Chain' n (more_of-Expr a end_of-Expr) m ls) = Walks p ok a × LinksWalk p ok (type_of a) ls
  Walks p ok (And' n (more_of-Expr a end_of-Expr) m rest) = Walks p ok a × SomeWalk p ok rest
  Walks p ok (Or' n (more_of-Expr a end_of-Expr) m rest) = Walks p ok a × SomeWalk p ok rest
  Walks p ok (Choice' n (more_of-Expr a end_of-Expr) m (more_of-Expr b end_of-Expr) l (more_of-Expr c end_of-Expr) num) =
      Walks p ok a × ((Walks p ok b × IsTrue (converts (type_of b) num)) × (Walks p ok c × IsTrue (converts (type_of c) num)))

  -- one operand at least
  pub SomeWalk : {n : _} → Program → (ℕ → Type 0) → Row_of-Expr n → Type 0
  SomeWalk p ok end_of-Expr = ⊥
  SomeWalk p ok (more_of-Expr a rest) = Walks p ok a × AllWalk p ok rest

  pub AllWalk : {n : _} → Program → (ℕ → Type 0) → Row_of-Expr n → Type 0
  AllWalk p ok end_of-Expr = Unit {0}
  AllWalk p ok (more_of-Expr a rest) = Walks p ok a × AllWalk p ok rest

  -- links after a left operand of this type
  pub LinksWalk : {n : _} → Program → (ℕ → Type 0) → Num → Row_of-Link n → Type 0
  LinksWalk p ok left end_of-Link = Unit {0}
  LinksWalk p ok left (more_of-Link op q work b rest) = Walks p ok b × (IsLink op left work (type_of b) × LinksWalk p ok (result_type op work) rest)

  pub StepsWalk : {n : _} → Program → (ℕ → Type 0) → Row_of-Step n → Type 0
  StepsWalk p ok end_of-Step = Unit {0}
  StepsWalk p ok (more_of-Step s rest) = StepWalks p ok s × StepsWalk p ok rest

  pub StepWalks : Program → (ℕ → Type 0) → Step → Type 0
  StepWalks p ok (At' q m k (more_of-Expr a end_of-Expr)) = Walks p ok a
  StepWalks p ok (Field f) = Unit {0}
