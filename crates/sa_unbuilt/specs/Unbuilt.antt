-- Which forms of a source are built, and the place of the first one, in the order of the text, that isn't. What is built is
-- this project's own choice: one function `main` without parameters, and directly in its block loops of the clock loop's
-- form, `while (1)` or `for (;;)` with a block that ends with the wait. Not built are prototypes, other functions and static
-- names of a block, each at the first token of its type; calls, at the called name; `&&`, `||` and `?`, at the mark; and
-- `if`, `switch`, `do`, other `while` and `for`, `break`, `return` and directives other than the wait, at the word.
use Rattle.std.specs.Prelude.{◌==◌, ◌&&◌, not, List, [], ◌∷◌, Bool, true, false, if◌then◌else◌, Option, Some, None, ◌≡◌}
use Rattle.std.specs.List.{list_any}
use Rattle.sa_base.specs.declared.pos.Pos.{Pos}
use Rattle.sa_syntax.specs.Forms.{is_wait, is_main}
use Rattle.sa_syntax.specs.declared.decl.Name.{Name}
use Rattle.sa_syntax.specs.declared.decl.Qualified.{Qualified}
use Rattle.sa_syntax.specs.declared.decl.Qualifier.TheVariants as q
use Rattle.sa_syntax.specs.declared.decl.Specifiers.{Specifiers, out-Specifiers}
use Rattle.sa_syntax.specs.declared.decl.Base as b
use Rattle.sa_syntax.specs.declared.decl.Base.{Base}
use Rattle.sa_syntax.specs.declared.decl.Struct.{Struct, Struct', Row_of-Field, end_of-Field, more_of-Field}
use Rattle.sa_syntax.specs.declared.decl.Field.{Field, Field', Row_of-Declr, end_of-Declr, more_of-Declr}
use Rattle.sa_syntax.specs.declared.decl.Declr.{Declr, Declr', Row_of-Bound, end_of-Bound, more_of-Bound}
use Rattle.sa_syntax.specs.declared.decl.Bound.{Bound, out-Bound}
use Rattle.sa_syntax.specs.declared.decl.Init as i
use Rattle.sa_syntax.specs.declared.decl.Init.{Init, Row_of-Init, end_of-Init, more_of-Init}
use Rattle.sa_syntax.specs.declared.decl.InitDeclr.{InitDeclr}
use Rattle.sa_syntax.specs.declared.decl.Start.{Start}
use Rattle.sa_syntax.specs.declared.decl.Start.TheVariants as start
use Rattle.sa_syntax.specs.declared.expr.Expr as e
use Rattle.sa_syntax.specs.declared.expr.Expr.{Expr, Row_of-Link, end_of-Link, more_of-Link, Row_of-Step, end_of-Step, more_of-Step, end_of-Expr, more_of-Expr, end_of-Specifiers, more_of-Specifiers}
use Rattle.sa_syntax.specs.declared.expr.Operator.{Operator}
use Rattle.sa_syntax.specs.declared.expr.Operator.TheVariants as o
use Rattle.sa_syntax.specs.declared.expr.Link.{Link, out-Link}
use Rattle.sa_syntax.specs.declared.expr.Place.{Place, out-Place}
use Rattle.sa_syntax.specs.declared.expr.Step as step
use Rattle.sa_syntax.specs.declared.expr.Step.{Step}
use Rattle.sa_syntax.specs.declared.stmt.Simple.{Simple}
use Rattle.sa_syntax.specs.declared.stmt.Simple.TheVariants as simple
use Rattle.sa_syntax.specs.declared.stmt.Directive.{Directive}
use Rattle.sa_syntax.specs.declared.stmt.Directive.TheVariants as d
use Rattle.sa_syntax.specs.declared.stmt.First.{First}
use Rattle.sa_syntax.specs.declared.stmt.First.TheVariants as first
use Rattle.sa_syntax.specs.declared.stmt.Local.{Local}
use Rattle.sa_syntax.specs.declared.stmt.LocalDeclr.{LocalDeclr}
use Rattle.sa_syntax.specs.declared.stmt.LocalStart.{LocalStart}
use Rattle.sa_syntax.specs.declared.stmt.LocalStart.TheVariants as begins
use Rattle.sa_syntax.specs.declared.stmt.Stmt as s
use Rattle.sa_syntax.specs.declared.stmt.Stmt.{Stmt, out-Stmt, Row_of-BlockItem, end_of-BlockItem, more_of-BlockItem}
use Rattle.sa_syntax.specs.declared.stmt.BlockItem as block
use Rattle.sa_syntax.specs.declared.stmt.BlockItem.{BlockItem, out-BlockItem}
use Rattle.sa_syntax.specs.declared.stmt.BlockItem.TheOpen.{Stmt-F, BlockItem-F}
use Rattle.sa_syntax.specs.declared.stmt.Block.{Block, out-Block}
use Rattle.sa_syntax.specs.declared.unit.Params.{Params}
use Rattle.sa_syntax.specs.declared.unit.Params.TheVariants as given
use Rattle.sa_syntax.specs.declared.unit.Item.{Item}
use Rattle.sa_syntax.specs.declared.unit.Item.TheVariants as top
use Rattle.sa_syntax.specs.declared.unit.Unit.{Unit as Source}

-- the first place in two parts of a form, the first of which stands before the second in the text
infixr 10 ◌or◌
abbrev pub ◌or◌ : Option Pos → Option Pos → Option Pos
None or q = q
Some p or q = Some p

-- the first place in parts that follow one another
unfoldable pub first_in : {A : Type 0} → (A → Option Pos) → List A → Option Pos
first_in f [] = None
first_in f (x ∷ xs) = f x or first_in f xs

-- ---- expressions, places and types
-- an operator at its mark: `&&` and `||` aren't built (ISO C 6.5.13, 6.5.14)
abbrev pub in_operator : Operator → Pos → Option Pos
in_operator o.And p = Some p
in_operator o.Or p = Some p
in_operator _ p = None

unfoldable mutual
  pub in_expr : Expr → Option Pos
  in_expr (e.Number value unsigned longs decimal p) = None
  in_expr (e.Place' base n ss) = in_steps ss
  in_expr (e.Bracket' p n (more_of-Expr a end_of-Expr)) = in_expr a
  in_expr (e.Prefix' op p n (more_of-Expr a end_of-Expr)) = in_expr a
  in_expr (e.Cast' p m (more_of-Specifiers r qs ty end_of-Specifiers) n (more_of-Expr a end_of-Expr)) = in_base ty or in_expr a
  in_expr (e.Chain' m (more_of-Expr a end_of-Expr) n ls) = in_expr a or in_links ls
  -- `?` isn't built (ISO C 6.5.15)
  in_expr (e.Choice' l (more_of-Expr a end_of-Expr) p m b n c) = in_expr a or Some p

  pub in_links : {n : _} → Row_of-Link n → Option Pos
  in_links end_of-Link = None
  in_links (more_of-Link op p a rest) = (in_operator op p or in_expr a) or in_links rest

  pub in_step : Step → Option Pos
  in_step (step.Index' p n (more_of-Expr a end_of-Expr)) = in_expr a
  in_step (step.Field p x) = None
  in_step (step.Arrow p x) = None

  pub in_steps : {n : _} → Row_of-Step n → Option Pos
  in_steps end_of-Step = None
  in_steps (more_of-Step s rest) = in_step s or in_steps rest

  pub in_base : Base → Option Pos
  in_base (b.Scalar ws) = None
  in_base b.Void = None
  in_base (b.Tag x) = None
  in_base (b.Struct s) = in_struct s
  in_base (b.Named x) = None

  pub in_struct : Struct → Option Pos
  in_struct (Struct' tag n fs) = in_fields fs

  pub in_fields : {n : _} → Row_of-Field n → Option Pos
  in_fields end_of-Field = None
  in_fields (more_of-Field f rest) = in_field f or in_fields rest

  pub in_field : Field → Option Pos
  in_field (Field' p qs ty n ds) = in_base ty or in_declrs ds

  pub in_declrs : {n : _} → Row_of-Declr n → Option Pos
  in_declrs end_of-Declr = None
  in_declrs (more_of-Declr d rest) = in_declr d or in_declrs rest

  pub in_declr : Declr → Option Pos
  in_declr (Declr' x n bs) = in_bounds bs

  pub in_bounds : {n : _} → Row_of-Bound n → Option Pos
  in_bounds end_of-Bound = None
  in_bounds (more_of-Bound p a rest) = in_expr a or in_bounds rest

abbrev pub in_link : Link → Option Pos
in_link l = in_operator (out-Link l).op (out-Link l).pos or in_expr (out-Link l).operand

abbrev pub in_place : Place → Option Pos
in_place x = first_in in_step (out-Place x).steps

abbrev pub in_specifiers : Specifiers → Option Pos
in_specifiers ty = in_base (out-Specifiers ty).base

abbrev pub in_bound : Bound → Option Pos
in_bound b = in_expr (out-Bound b).size

-- ---- initialisers
unfoldable mutual
  pub in_init : Init → Option Pos
  in_init (i.Value a) = in_expr a
  in_init (i.Braces' p n is) = in_inits is

  pub in_inits : {n : _} → Row_of-Init n → Option Pos
  in_inits end_of-Init = None
  in_inits (more_of-Init i rest) = in_init i or in_inits rest

abbrev pub in_start : Start → Option Pos
in_start start.Nothing = None
in_start (start.Init p i) = in_init i

unfoldable pub in_init_declr : InitDeclr → Option Pos
in_init_declr d = in_declr d.declr or in_start d.start

-- a call isn't built
abbrev pub in_local_start : LocalStart → Option Pos
in_local_start begins.Nothing = None
in_local_start (begins.Init p i) = in_init i
in_local_start (begins.Call p c) = Some c.name.pos

unfoldable pub in_local_declr : LocalDeclr → Option Pos
in_local_declr d = in_declr d.declr or in_local_start d.start

abbrev pub is_static : Qualified → Bool
is_static x = elim x.word as (λ _. Bool) [ q.Static ↦ true | _ ↦ false ]

-- `static` before a type, at the type's first token
abbrev pub in_storage : Specifiers → Option Pos
in_storage ty = if list_any is_static (out-Specifiers ty).qualifiers then Some (out-Specifiers ty).pos else None

unfoldable pub in_local : Local → Option Pos
in_local l = in_storage l.ty or in_specifiers l.ty or first_in in_local_declr l.declrs

-- ---- statements
unfoldable pub in_simple : Simple → Option Pos
in_simple (simple.Assign x p a) = in_place x or in_expr a
in_simple (simple.Compound x op p a) = in_place x or in_expr a
in_simple (simple.After x turn p) = in_place x
in_simple (simple.Before turn p x) = in_place x

-- a directive at its word
abbrev pub in_directive : Directive → Pos → Option Pos
in_directive d.Wait p = None
in_directive _ p = Some p

-- a statement in a block or in the clock loop
unfoldable mutual
  pub in_stmt : Stmt → Option Pos
  in_stmt (s.Block' p n is r) = in_row is
  in_stmt (s.Empty p) = None
  in_stmt (s.Simple x) = in_simple x
  in_stmt (s.Gives x p c) = in_place x or Some c.name.pos
  in_stmt (s.Call c) = Some c.name.pos
  in_stmt (s.If' p c n a) = Some p
  in_stmt (s.IfElse' p c m a n b) = Some p
  in_stmt (s.While' p c n a) = Some p
  in_stmt (s.DoWhile' p n a c) = Some p
  in_stmt (s.For' p f c x n a) = Some p
  in_stmt (s.Switch' p c n gs) = Some p
  in_stmt (s.Break p) = Some p
  in_stmt (s.Return p a) = Some p
  in_stmt (s.Directive p x) = in_directive x p

  pub in_item : BlockItem → Option Pos
  in_item (block.Local l) = in_local l
  in_item (block.Stmt a) = in_stmt a

  pub in_row : {n : _} → Row_of-BlockItem n → Option Pos
  in_row end_of-BlockItem = None
  in_row (more_of-BlockItem i rest) = in_item i or in_row rest

-- ---- the clock loop
-- the token `1`
abbrev pub is_one : Expr → Bool
is_one (e.Number value unsigned longs decimal p) = value == 1 && not unsigned && longs == 0 && decimal
is_one _ = false

-- `for (;;)`
abbrev pub is_endless : First → Option Expr → Option Simple → Bool
is_endless first.Nothing None None = true
is_endless _ _ _ = false

unfoldable pub ends_with_wait : List BlockItem → Bool
ends_with_wait [] = false
ends_with_wait (i ∷ []) = is_wait i
ends_with_wait (i ∷ j ∷ is) = ends_with_wait (j ∷ is)

-- a block whose last statement is the wait
abbrev pub is_turn : Stmt → Bool
is_turn a = elim (out-Stmt a) as (λ _. Bool) [ Stmt-F.Block b ↦ ends_with_wait (out-Block b).items | _ ↦ false ]

-- a loop directly in main's block, with the place of its word, whether its head goes on for ever, and its body
abbrev pub in_loop : Pos → Bool → Stmt → Option Pos
in_loop p endless body = if endless && is_turn body then in_stmt body else Some p

-- ---- main
-- a statement directly in main's block
unfoldable pub in_main_stmt : Stmt → Option Pos
in_main_stmt a = elim (out-Stmt a) as (λ _. Option Pos) [
  | Stmt-F.While p c body ↦ in_loop p (is_one c) body
  | Stmt-F.For p f c x body ↦ in_loop p (is_endless f c x) body
  | _ ↦ in_stmt a
]

unfoldable pub in_main_item : BlockItem → Option Pos
in_main_item i = elim (out-BlockItem i) as (λ _. Option Pos) [ BlockItem-F.Local l ↦ in_local l | BlockItem-F.Stmt a ↦ in_main_stmt a ]

-- `()` and `(void)`
abbrev pub is_empty_list : Params → Bool
is_empty_list (given.List ps) = false
is_empty_list _ = true

unfoldable pub in_func : Specifiers → Name → Params → Block → Option Pos
in_func ty x ps b = if is_main x && is_empty_list ps then in_specifiers ty or first_in in_main_item (out-Block b).items else Some (out-Specifiers ty).pos

-- ---- the whole
unfoldable pub in_top : Item → Option Pos
in_top (top.Typedef p ty x) = in_specifiers ty
in_top (top.Struct p x) = in_struct x
in_top (top.Global ty ds) = in_specifiers ty or first_in in_init_declr ds
in_top (top.Proto ty x ps) = Some (out-Specifiers ty).pos
in_top (top.Func ty x ps b) = in_func ty x ps b

unfoldable pub first_unbuilt : Source → Option Pos
first_unbuilt u = first_in in_top u.items

abbrev pub IsBuilt : Source → Type 0
IsBuilt u = first_unbuilt u ≡ None
