-- No promise of the top calls rests on this page: it is for laws beside them, for proofs and for inner functions.
-- What typing promises of statements, functions and programs, over every form of the language. Executions and analyses of
-- typed programs meet no other.
use Rattle.std.specs.Prelude.{ℕ, ◌≡◌, ◌<◌, ◌==◌, ◌⊎◌, ◌||◌, Bool, true, false, IsTrue, List, [], ◌∷◌, ◌++◌, map, length, Option, Some, None, slice_get}
use Rattle.std.specs.List.{AllByRecursion}
use Rattle.sa_base.specs.declared.num.Num.{Num}
use Rattle.sa_base.specs.declared.num.Num.TheVariants.{I32}
use Rattle.sa_base.specs.declared.pos.Pos.{Pos}
use Rattle.sa_typed.specs.Arithmetic.{is_of, promoted}
use Rattle.sa_typed.specs.Executions.{params_of}
use Rattle.sa_typed.specs.Layouts.{Layout, leaf, row, fields, layout_of}
use Rattle.sa_typed.specs.WellTyped.{type_of, IsLink, HasTypedItems}
use Rattle.sa_typed.specs.TypedExpressions.{IsExpression, IsPlace, IsLeftSide, IsFixedPlace}
use Rattle.sa_typed.specs.declared.expr.Expr.{Expr}
use Rattle.sa_typed.specs.declared.stmt.Arg.{Arg}
use Rattle.sa_typed.specs.declared.stmt.Arg.TheVariants.{Value as ByValue, Object as ByReference}
use Rattle.sa_typed.specs.declared.stmt.Destination.{Destination}
use Rattle.sa_typed.specs.declared.stmt.Label.{Label}
use Rattle.sa_typed.specs.declared.stmt.Label.TheVariants.{Case, Default}
use Rattle.sa_typed.specs.declared.stmt.LoopKind.{LoopKind}
use Rattle.sa_typed.specs.declared.stmt.LoopKind.TheVariants as kind
use Rattle.sa_typed.specs.declared.stmt.Start.{Start}
use Rattle.sa_typed.specs.declared.stmt.Start.TheVariants as begins
use Rattle.sa_typed.specs.declared.stmt.Simple.{Simple}
use Rattle.sa_typed.specs.declared.stmt.Simple.TheVariants.{Declare, Assign, Compound, Copy}
use Rattle.sa_typed.specs.declared.stmt.Stmt.{Stmt, Row_of-Stmt, end_of-Stmt, more_of-Stmt, Row_of-Group, end_of-Group, more_of-Group}
use Rattle.sa_typed.specs.declared.stmt.Stmt.TheVariants as stmt
use Rattle.sa_typed.specs.declared.program.Func.{Func}
use Rattle.sa_typed.specs.declared.program.Home.TheVariants as home
use Rattle.sa_typed.specs.declared.program.Param.{Param}
use Rattle.sa_typed.specs.declared.program.Program.{Program}
use Rattle.sa_typed.specs.declared.program.Var.{Var}

-- no value stands twice in the list
abbrev pub AreDistinct : {A : Type 0} → List A → Type 0
AreDistinct {A} xs = (i j : ℕ) (x : A) → slice_get xs i ≡ Some x → slice_get xs j ≡ Some x → i ≡ j

-- ---- simple statements
-- a local or parameter of the function
abbrev pub IsOwn : ℕ → Option Var → Type 0
IsOwn f None = ⊥
IsOwn f (Some v) = v.home ≡ home.Local f

unfoldable pub is_parameter : ℕ → List Param → Bool
is_parameter v [] = false
is_parameter v (q ∷ qs) = q.var == v || is_parameter v qs

-- a local that is declared in a block
pub record IsDeclared (p : Program) (f v : ℕ) : Type 0 where
  pub own : IsOwn f (slice_get p.vars v)
  pub parameter : is_parameter v (params_of (slice_get p.funcs f)) ≡ false

abbrev pub IsTypedBeginning : Program → ℕ → ℕ → Start → Type 0
IsTypedBeginning p f v begins.Any = Unit {0}
IsTypedBeginning p f v (begins.Value q a) = IsExpression p f a × ((num : Num) × (layout_of p v ≡ leaf num))
IsTypedBeginning p f v begins.Items = Unit {0}

abbrev pub IsSimple : Program → ℕ → Simple → Type 0
IsSimple p f (Declare v s) = IsDeclared p f v × IsTypedBeginning p f v s
IsSimple p f (Assign x num q a) = IsLeftSide p f (leaf num) x × IsExpression p f a
IsSimple p f (Compound x num op q work a) = IsLeftSide p f (leaf num) x × (IsExpression p f a × IsLink op num work (type_of a))
IsSimple p f (Copy k x q y) = (l : Layout) × ((IsLeftSide p f l x × IsFixedPlace p f x) × (IsPlace p f l y × IsFixedPlace p f y))

abbrev pub IsStep : Program → ℕ → Option Simple → Type 0
IsStep p f None = Unit {0}
IsStep p f (Some s) = IsSimple p f s

-- ---- calls (ISO C 6.5.2.2)
-- an argument and its parameter: a value, or a place of the same kind that may change
abbrev pub IsArgument : Program → ℕ → Param → Arg → Type 0
IsArgument p f q (ByValue at a) = (q.reference ≡ false) × IsExpression p f a
IsArgument p f q (ByReference x) = (q.reference ≡ true) × IsLeftSide p f (layout_of p q.var) x

unfoldable pub AreArguments : Program → ℕ → List Param → List Arg → Type 0
AreArguments p f [] [] = Unit {0}
AreArguments p f [] (a ∷ args) = ⊥
AreArguments p f (q ∷ params) [] = ⊥
AreArguments p f (q ∷ params) (a ∷ args) = IsArgument p f q a × AreArguments p f params args

-- where the result goes, if it isn't dropped; a function without a result gives none
abbrev pub IsDestination : Program → ℕ → Option Num → Option Destination → Type 0
IsDestination p f result None = Unit {0}
IsDestination p f None (Some d) = ⊥
IsDestination p f (Some num) (Some d) = IsLeftSide p f (leaf d.num) d.place

abbrev pub IsCall : Program → ℕ → Option Func → List Arg → Option Destination → Type 0
IsCall p f None args dest = ⊥
IsCall p f (Some g) args dest = AreArguments p f g.params args × IsDestination p f g.result dest

-- ---- labels (ISO C 6.8.4.2)
unfoldable pub all_labels : {n : _} → Row_of-Group n → List Label
all_labels end_of-Group = []
all_labels (more_of-Group labels n body rest) = labels ++ all_labels rest

abbrev pub IsLabel : Num → Label → Type 0
IsLabel num (Case k) = IsTrue (is_of num k)
IsLabel num Default = Unit {0}

pub record AreLabels (num : Num) (labels : List Label) : Type 0 where
  pub typed : AllByRecursion (λ l. IsLabel num l) labels
  pub distinct : AreDistinct labels

-- ---- statements
-- `while` and `for` may lack a condition, and only they have a step (ISO C 6.8.5)
abbrev pub IsHead : Program → ℕ → LoopKind → Option Expr → Option Simple → Type 0
IsHead p f kind.While None step = IsStep p f step
IsHead p f kind.While (Some a) step = IsExpression p f a × IsStep p f step
IsHead p f kind.Do (Some a) None = IsExpression p f a
IsHead p f _ _ _ = ⊥

abbrev pub IsDeclaredLater : ℕ → Option Var → Type 0
IsDeclaredLater f None = ⊥
IsDeclaredLater f (Some v) = (v.home ≡ home.Static) ⊎ (v.home ≡ home.Local f)

-- a statement of the function f; inside of a loop a break may stand. The clock loop, its wait and a `return` stand in a whole
-- body alone ("Functions", below)
unfoldable mutual
  pub IsStatement : Program → ℕ → Bool → Stmt → Type 0
  IsStatement p f inside (Stmt.Simple s) = IsSimple p f s
  IsStatement p f inside (Stmt.Scope v) = IsDeclaredLater f (slice_get p.vars v)
  IsStatement p f inside (Stmt.Block' n all) = AreStatements p f inside all
  IsStatement p f inside (Stmt.Call q g args dest) = IsCall p f (slice_get p.funcs g) args dest
  IsStatement p f inside (Stmt.If' a n (more_of-Stmt b end_of-Stmt) m (more_of-Stmt c end_of-Stmt) marked) =
      IsExpression p f a × (IsStatement p f inside b × IsStatement p f inside c)
  IsStatement p f inside (Stmt.Switch' a num n groups marked) =
      (IsExpression p f a × (num ≡ promoted (type_of a))) × (AreLabels num (all_labels groups) × AreGroups p f groups)
  IsStatement p f inside (Stmt.Loop' q kind cond n (more_of-Stmt body end_of-Stmt) step) = IsHead p f kind cond step × IsStatement p f true body
  IsStatement p f inside (Stmt.Known a) = IsExpression p f a
  IsStatement p f inside (Stmt.Assert q a) = IsExpression p f a
  IsStatement p f inside Stmt.Break = IsTrue inside
  IsStatement p f inside _ = ⊥

  pub AreStatements : {n : _} → Program → ℕ → Bool → Row_of-Stmt n → Type 0
  AreStatements p f inside end_of-Stmt = Unit {0}
  AreStatements p f inside (more_of-Stmt s rest) = IsStatement p f inside s × AreStatements p f inside rest

  -- a break there would leave the switch, and none stands in the list but the one at its end, which is no statement here
  pub AreGroups : {n : _} → Program → ℕ → Row_of-Group n → Type 0
  AreGroups p f end_of-Group = Unit {0}
  AreGroups p f (more_of-Group labels n (more_of-Stmt body end_of-Stmt) rest) = IsStatement p f false body × AreGroups p f rest

-- ---- functions
abbrev pub IsEmpty : {n : _} → Row_of-Stmt n → Type 0
IsEmpty end_of-Stmt = Unit {0}
IsEmpty (more_of-Stmt s rest) = ⊥

-- a `return` with a value of the function's type (ISO C 6.8.6.4)
abbrev pub IsReturn : Program → ℕ → Option Num → Stmt → Type 0
IsReturn p f result (Stmt.Return q num a) = (result ≡ Some num) × IsExpression p f a
IsReturn p f result _ = ⊥

-- the block of a function other than main: statements, and a `return` as the last one exactly where there is a result. That it
-- stands there alone is this project's own choice
unfoldable pub IsBlock : {n : _} → Program → ℕ → Option Num → Row_of-Stmt n → Type 0
IsBlock p f result end_of-Stmt = result ≡ None
IsBlock p f result (more_of-Stmt s rest) = (IsReturn p f result s × IsEmpty rest) ⊎ (IsStatement p f false s × IsBlock p f result rest)

abbrev pub IsWait : Stmt → Type 0
IsWait Stmt.Wait = Unit {0}
IsWait _ = ⊥

-- one turn of the clock loop: the wait comes last, and no break leaves the loop
unfoldable pub IsTurn : {n : _} → Program → ℕ → Row_of-Stmt n → Type 0
IsTurn p f end_of-Stmt = ⊥
IsTurn p f (more_of-Stmt s rest) = (IsWait s × IsEmpty rest) ⊎ (IsStatement p f false s × IsTurn p f rest)

abbrev pub IsClockLoop : Program → ℕ → Stmt → Type 0
IsClockLoop p f (Stmt.Loop' q kind.Clock None n (more_of-Stmt (Stmt.Block' m all) end_of-Stmt) None) = IsTurn p f all
IsClockLoop p f _ = ⊥

abbrev pub IsAfterClock : {n : _} → Program → ℕ → Option Num → Row_of-Stmt n → Type 0
IsAfterClock p f result end_of-Stmt = Unit {0}
IsAfterClock p f result (more_of-Stmt s rest) = IsReturn p f result s × IsEmpty rest

-- main's block: statements, the clock loop, and a `return` at most
unfoldable pub IsMainBlock : {n : _} → Program → ℕ → Option Num → Row_of-Stmt n → Type 0
IsMainBlock p f result end_of-Stmt = ⊥
IsMainBlock p f result (more_of-Stmt s rest) = (IsClockLoop p f s × IsAfterClock p f result rest) ⊎ (IsStatement p f false s × IsMainBlock p f result rest)

abbrev pub IsBody : Program → ℕ → Option Num → Stmt → Type 0
IsBody p f result (Stmt.Block' n all) = IsBlock p f result all
IsBody p f result _ = ⊥

abbrev pub IsMainBody : Program → ℕ → Option Num → Stmt → Type 0
IsMainBody p f result (Stmt.Block' n all) = IsMainBlock p f result all
IsMainBody p f result _ = ⊥

-- main has no parameters, and no result or an int (ISO C 5.1.2.2.1)
pub record IsMain (p : Program) (f : Func) : Type 0 where
  pub params : f.params ≡ []
  pub result : (f.result ≡ None) ⊎ (f.result ≡ Some I32)
  pub body : IsMainBody p p.entry f.result (stmt.Block f.body)

abbrev pub IsMainOr : Program → ℕ → Func → Bool → Type 0
IsMainOr p k f true = IsMain p f
IsMainOr p k f false = IsBody p k f.result (stmt.Block f.body)

-- a number, or a reference to a number or a structure
abbrev pub IsParameterLayout : Bool → Layout → Type 0
IsParameterLayout reference (leaf num) = Unit {0}
IsParameterLayout reference (fields ls) = reference ≡ true
IsParameterLayout reference (row n l) = ⊥

pub record IsParameter (p : Program) (k : ℕ) (q : Param) : Type 0 where
  pub own : IsOwn k (slice_get p.vars q.var)
  pub layout : IsParameterLayout q.reference (layout_of p q.var)

-- ---- calls and loops of a body, in the order of the text
-- a call: the place of the called name, and the function
pub record Site : Type 0 where
  pub pos : Pos
  pub func : ℕ

unfoldable mutual
  pub calls_in : Stmt → List Site
  calls_in (Stmt.Call q g args dest) = record { pos = q; func = g } ∷ []
  calls_in (Stmt.Block' n all) = calls_in_all all
  calls_in (Stmt.If' a n (more_of-Stmt b end_of-Stmt) m (more_of-Stmt c end_of-Stmt) marked) = calls_in b ++ calls_in c
  calls_in (Stmt.Switch' a num n groups marked) = calls_in_groups groups
  calls_in (Stmt.Loop' q kind cond n (more_of-Stmt body end_of-Stmt) step) = calls_in body
  calls_in _ = []

  pub calls_in_all : {n : _} → Row_of-Stmt n → List Site
  calls_in_all end_of-Stmt = []
  calls_in_all (more_of-Stmt s rest) = calls_in s ++ calls_in_all rest

  pub calls_in_groups : {n : _} → Row_of-Group n → List Site
  calls_in_groups end_of-Group = []
  calls_in_groups (more_of-Group labels n (more_of-Stmt body end_of-Stmt) rest) = calls_in body ++ calls_in_groups rest

unfoldable mutual
  -- the places of the words of loops
  pub loops_at : Stmt → List Pos
  loops_at (Stmt.Block' n all) = loops_at_all all
  loops_at (Stmt.If' a n (more_of-Stmt b end_of-Stmt) m (more_of-Stmt c end_of-Stmt) marked) = loops_at b ++ loops_at c
  loops_at (Stmt.Switch' a num n groups marked) = loops_at_groups groups
  loops_at (Stmt.Loop' q kind cond n (more_of-Stmt body end_of-Stmt) step) = q ∷ loops_at body
  loops_at _ = []

  pub loops_at_all : {n : _} → Row_of-Stmt n → List Pos
  loops_at_all end_of-Stmt = []
  loops_at_all (more_of-Stmt s rest) = loops_at s ++ loops_at_all rest

  pub loops_at_groups : {n : _} → Row_of-Group n → List Pos
  loops_at_groups end_of-Group = []
  loops_at_groups (more_of-Group labels n (more_of-Stmt body end_of-Stmt) rest) = loops_at body ++ loops_at_groups rest

abbrev pub calls_of : Func → List Site
calls_of f = calls_in (stmt.Block f.body)

abbrev pub loops_of : Func → List Pos
loops_of f = loops_at (stmt.Block f.body)

-- ---- programs
pub record IsFunction (p : Program) (k : ℕ) (f : Func) : Type 0 where
  pub params : AllByRecursion (λ q. IsParameter p k q) f.params
  pub distinct : AreDistinct (map (λ q. q.var) f.params)
  pub body : IsMainOr p k f (k == p.entry)
  -- so that the places of the names on the way to a call tell it from every other call, and a place tells a loop
  pub calls : AreDistinct (map (λ s. s.pos) (calls_of f))
  pub loops : AreDistinct (loops_of f)

-- no function calls itself, by however many others: each has a rank, and calls functions of lower rank alone (this project's
-- own choice; C lets functions call themselves, 6.5.2.2p11)
pub record AreRanked (p : Program) (rank : ℕ → ℕ) : Type 0 where
  pub few : (k : ℕ) → k < length p.funcs → rank k < length p.funcs
  pub falls : (k : ℕ) (f : Func) → slice_get p.funcs k ≡ Some f → AllByRecursion (λ s. rank s.func < rank k) (calls_of f)

-- the initial values are of the types of their elements (`items`); what isn't listed is 0
pub record IsTypedProgram (p : Program) : Type 0 where
  pub entry : p.entry < length p.funcs
  pub funcs : (k : ℕ) (f : Func) → slice_get p.funcs k ≡ Some f → IsFunction p k f
  pub ranks : (rank : ℕ → ℕ) × AreRanked p rank
  pub items : (k : ℕ) (v : Var) → slice_get p.vars k ≡ Some v → HasTypedItems p k v
