-- No promise of the top calls rests on this page: it is for laws beside them, for proofs and for inner functions.
-- What typing promises of expressions and places, over every form of the language: steps follow what their variable is made of,
-- each operand converts to the type in which its operator works without loss of meaning (ISO C 6.3.1.8, 6.5), and each variable
-- is one that the function may name. `TypedPrograms` goes on from here to statements and programs.
use Rattle.std.specs.Prelude.{ℕ, pos, ◌≡◌, ◌==◌, ◌&&◌, ◌||◌, Bool, true, false, IsTrue, List, [], ◌∷◌, ◌++◌, Option, Some, None, slice_get}
use Rattle.std.specs.List.{AllByRecursion}
use Rattle.sa_base.specs.declared.num.Num.{Num}
use Rattle.sa_base.specs.declared.num.Num.TheVariants.{I32}
use Rattle.sa_typed.specs.Arithmetic.{is_of, promoted, result_type}
use Rattle.sa_typed.specs.Executions.{params_of}
use Rattle.sa_typed.specs.Layouts.{Layout, leaf, layout_of}
use Rattle.sa_typed.specs.WellTyped.{type_of, converts, steps_layout, num_of_input, IsLink, is_fixed_read}
use Rattle.sa_typed.specs.declared.expr.Expr.{Expr, Number, Read', Input, Prefix', Cast', Chain', And', Or', Choice', end_of-Expr, more_of-Expr, Row_of-Expr, Row_of-Link, end_of-Link, more_of-Link, Row_of-Step, end_of-Step, more_of-Step}
use Rattle.sa_typed.specs.declared.expr.Expr.TheVariants as e
use Rattle.sa_typed.specs.declared.expr.Access.{Access}
use Rattle.sa_typed.specs.declared.expr.Step.{Step, At', Field}
use Rattle.sa_typed.specs.declared.program.Home.{Home}
use Rattle.sa_typed.specs.declared.program.Home.TheVariants as home
use Rattle.sa_typed.specs.declared.program.Param.{Param}
use Rattle.sa_typed.specs.declared.program.Program.{Program}
use Rattle.sa_typed.specs.declared.program.Var.{Var}

-- ---- expressions
unfoldable mutual
  pub IsTypedExpression : Program → Expr → Type 0
  IsTypedExpression p (Number n num) = IsTrue (is_of num (pos n))
  IsTypedExpression p (Read' v n steps num) = AreTypedSteps p steps × (steps_layout (Some (layout_of p v)) steps ≡ Some (leaf num))
  IsTypedExpression p (Input k num) = num_of_input (slice_get p.inputs k) ≡ Some num
  IsTypedExpression p (Prefix' op q num n (more_of-Expr a end_of-Expr)) = IsTypedExpression p a × IsTrue (converts (type_of a) num)
  IsTypedExpression p (Cast' q num n (more_of-Expr a end_of-Expr)) = IsTypedExpression p a
  IsTypedExpression p (Chain' n (more_of-Expr a end_of-Expr) m ls) = IsTypedExpression p a × AreTypedLinks p (type_of a) ls
  IsTypedExpression p (And' n (more_of-Expr a end_of-Expr) m rest) = IsTypedExpression p a × AreSomeTyped p rest
  IsTypedExpression p (Or' n (more_of-Expr a end_of-Expr) m rest) = IsTypedExpression p a × AreSomeTyped p rest
  -- both results convert to the type of the whole (ISO C 6.5.15p5)
  IsTypedExpression p (Choice' n (more_of-Expr a end_of-Expr) m (more_of-Expr b end_of-Expr) l (more_of-Expr c end_of-Expr) num) =
      IsTypedExpression p a × ((IsTypedExpression p b × IsTrue (converts (type_of b) num)) × (IsTypedExpression p c × IsTrue (converts (type_of c) num)))

  pub AreTypedExpressions : {n : _} → Program → Row_of-Expr n → Type 0
  AreTypedExpressions p end_of-Expr = Unit {0}
  AreTypedExpressions p (more_of-Expr a rest) = IsTypedExpression p a × AreTypedExpressions p rest

  -- one operand at least
  pub AreSomeTyped : {n : _} → Program → Row_of-Expr n → Type 0
  AreSomeTyped p end_of-Expr = ⊥
  AreSomeTyped p (more_of-Expr a rest) = IsTypedExpression p a × AreTypedExpressions p rest

  -- links after a left operand of this type
  pub AreTypedLinks : {n : _} → Program → Num → Row_of-Link n → Type 0
  AreTypedLinks p left end_of-Link = Unit {0}
  AreTypedLinks p left (more_of-Link op q work b rest) = IsTypedExpression p b × (IsLink op left work (type_of b) × AreTypedLinks p (result_type op work) rest)

  pub AreTypedSteps : {n : _} → Program → Row_of-Step n → Type 0
  AreTypedSteps p end_of-Step = Unit {0}
  AreTypedSteps p (more_of-Step s rest) = IsTypedStep p s × AreTypedSteps p rest

  pub IsTypedStep : Program → Step → Type 0
  IsTypedStep p (At' q m k (more_of-Expr a end_of-Expr)) = IsTypedExpression p a
  IsTypedStep p (Field x) = Unit {0}

-- ---- places
-- an access whose indices are typed and that leads there
abbrev pub LeadsThere : Program → Layout → Expr → Type 0
LeadsThere p l (Read' v n steps num) = AreTypedSteps p steps × (steps_layout (Some (layout_of p v)) steps ≡ Some l)
LeadsThere p l _ = ⊥

abbrev pub IsTypedPlace : Program → Layout → Access → Type 0
IsTypedPlace p l x = LeadsThere p l (e.Read x I32)

-- ---- operators before an operand work in its promoted type (ISO C 6.5.3.3p2 to p5)
unfoldable mutual
  pub IsPromoted : Expr → Type 0
  IsPromoted (Number n num) = Unit {0}
  IsPromoted (Read' v n steps num) = ArePromotedSteps steps
  IsPromoted (Input k num) = Unit {0}
  IsPromoted (Prefix' op q num n (more_of-Expr a end_of-Expr)) = (num ≡ promoted (type_of a)) × IsPromoted a
  IsPromoted (Cast' q num n (more_of-Expr a end_of-Expr)) = IsPromoted a
  IsPromoted (Chain' n (more_of-Expr a end_of-Expr) m ls) = IsPromoted a × ArePromotedLinks ls
  IsPromoted (And' n (more_of-Expr a end_of-Expr) m rest) = IsPromoted a × ArePromoted rest
  IsPromoted (Or' n (more_of-Expr a end_of-Expr) m rest) = IsPromoted a × ArePromoted rest
  IsPromoted (Choice' n (more_of-Expr a end_of-Expr) m (more_of-Expr b end_of-Expr) l (more_of-Expr c end_of-Expr) num) = IsPromoted a × (IsPromoted b × IsPromoted c)

  pub ArePromoted : {n : _} → Row_of-Expr n → Type 0
  ArePromoted end_of-Expr = Unit {0}
  ArePromoted (more_of-Expr a rest) = IsPromoted a × ArePromoted rest

  pub ArePromotedLinks : {n : _} → Row_of-Link n → Type 0
  ArePromotedLinks end_of-Link = Unit {0}
  ArePromotedLinks (more_of-Link op q work b rest) = IsPromoted b × ArePromotedLinks rest

  pub ArePromotedSteps : {n : _} → Row_of-Step n → Type 0
  ArePromotedSteps end_of-Step = Unit {0}
  ArePromotedSteps (more_of-Step s rest) = IsPromotedStep s × ArePromotedSteps rest

  pub IsPromotedStep : Step → Type 0
  IsPromotedStep (At' q m k (more_of-Expr a end_of-Expr)) = IsPromoted a
  IsPromotedStep (Field x) = Unit {0}

-- ---- variables in an expression
unfoldable mutual
  pub variables_in : Expr → List ℕ
  variables_in (Number n num) = []
  variables_in (Read' v n steps num) = v ∷ variables_in_steps steps
  variables_in (Input k num) = []
  variables_in (Prefix' op q num n (more_of-Expr a end_of-Expr)) = variables_in a
  variables_in (Cast' q num n (more_of-Expr a end_of-Expr)) = variables_in a
  variables_in (Chain' n (more_of-Expr a end_of-Expr) m ls) = variables_in a ++ variables_in_links ls
  variables_in (And' n (more_of-Expr a end_of-Expr) m rest) = variables_in a ++ variables_in_all rest
  variables_in (Or' n (more_of-Expr a end_of-Expr) m rest) = variables_in a ++ variables_in_all rest
  variables_in (Choice' n (more_of-Expr a end_of-Expr) m (more_of-Expr b end_of-Expr) l (more_of-Expr c end_of-Expr) num) = variables_in a ++ (variables_in b ++ variables_in c)

  pub variables_in_all : {n : _} → Row_of-Expr n → List ℕ
  variables_in_all end_of-Expr = []
  variables_in_all (more_of-Expr a rest) = variables_in a ++ variables_in_all rest

  pub variables_in_links : {n : _} → Row_of-Link n → List ℕ
  variables_in_links end_of-Link = []
  variables_in_links (more_of-Link op q work b rest) = variables_in b ++ variables_in_links rest

  pub variables_in_steps : {n : _} → Row_of-Step n → List ℕ
  variables_in_steps end_of-Step = []
  variables_in_steps (more_of-Step s rest) = variables_in_step s ++ variables_in_steps rest

  pub variables_in_step : Step → List ℕ
  variables_in_step (At' q m k (more_of-Expr a end_of-Expr)) = variables_in a
  variables_in_step (Field x) = []

-- ---- expressions and places of a function
-- a function names globals, static locals, and its own locals and parameters (ISO C 6.2.1)
abbrev pub is_named_by : ℕ → Home → Bool
is_named_by f home.Global = true
is_named_by f home.Static = true
is_named_by f (home.Local g) = f == g

abbrev pub IsNamed : ℕ → Option Var → Type 0
IsNamed f None = ⊥
IsNamed f (Some v) = IsTrue (is_named_by f v.home)

abbrev pub AreNamed : Program → ℕ → List ℕ → Type 0
AreNamed p f vs = AllByRecursion (λ v. IsNamed f (slice_get p.vars v)) vs

pub record IsExpression (p : Program) (f : ℕ) (a : Expr) : Type 0 where
  pub typed : IsTypedExpression p a
  pub promoted : IsPromoted a
  pub named : AreNamed p f (variables_in a)

pub record IsPlace (p : Program) (f : ℕ) (l : Layout) (x : Access) : Type 0 where
  pub typed : IsTypedPlace p l x
  pub promoted : IsPromoted (e.Read x I32)
  pub named : AreNamed p f (variables_in (e.Read x I32))

-- a variable that may change after its declaration (ISO C 6.5.16p2)
abbrev pub IsVariable : Option Var → Type 0
IsVariable None = ⊥
IsVariable (Some v) = v.constant ≡ false

abbrev pub ChangesVariable : Program → Expr → Type 0
ChangesVariable p (Read' v n steps num) = IsVariable (slice_get p.vars v)
ChangesVariable p _ = ⊥

-- a place that may be assigned to
pub record IsLeftSide (p : Program) (f : ℕ) (l : Layout) (x : Access) : Type 0 where
  pub place : IsPlace p f l x
  pub variable : ChangesVariable p (e.Read x I32)

-- the variable is a parameter that stands for another object
unfoldable pub is_reference : ℕ → List Param → Bool
is_reference v [] = false
is_reference v (q ∷ qs) = (q.reference && q.var == v) || is_reference v qs

abbrev pub is_through_reference : Program → ℕ → Expr → Bool
is_through_reference p f (Read' v n steps num) = is_reference v (params_of (slice_get p.funcs f))
is_through_reference p f _ = false

-- the places of a copied structure: of one place in every execution, and through no reference, which is this project's own
-- choice
pub record IsFixedPlace (p : Program) (f : ℕ) (x : Access) : Type 0 where
  pub fixed : IsTrue (is_fixed_read (e.Read x I32))
  pub direct : is_through_reference p f (e.Read x I32) ≡ false
