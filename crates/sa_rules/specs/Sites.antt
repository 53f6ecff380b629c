-- Where refusals with code 5 can stand: at what takes an operand, which may be a structure or an array; at the mark of a step, which
-- may not lead on from there; at the name of a variable or function, and at a `*` before one. Whether they stand there depends on
-- what expressions are typed as.
use Rattle.std.specs.List.{Contains, flat_map}
use Rattle.std.specs.Prelude.{List, [], ◌∷◌, ◌++◌, if◌then◌else◌, codes, Option, Some, None}
use Rattle.std.specs.Str.{bytes_eq}
use Rattle.sa_base.specs.declared.pos.Pos.{Pos}
use Rattle.sa_syntax.specs.declared.decl.Base as base
use Rattle.sa_syntax.specs.declared.decl.Bound.{Bound, out-Bound}
use Rattle.sa_syntax.specs.declared.decl.Declr.{Declr, out-Declr, Declr', Row_of-Bound, more_of-Bound, end_of-Bound}
use Rattle.sa_syntax.specs.declared.decl.Field as group
use Rattle.sa_syntax.specs.declared.decl.Field.{Field', Row_of-Declr, more_of-Declr, end_of-Declr}
use Rattle.sa_syntax.specs.declared.decl.Init as init
use Rattle.sa_syntax.specs.declared.decl.Init.{Init, Row_of-Init, end_of-Init, more_of-Init}
use Rattle.sa_syntax.specs.declared.decl.InitDeclr.{InitDeclr}
use Rattle.sa_syntax.specs.declared.decl.Name.{Name}
use Rattle.sa_syntax.specs.declared.decl.Specifiers.{Specifiers, out-Specifiers}
use Rattle.sa_syntax.specs.declared.decl.Start.{Start}
use Rattle.sa_syntax.specs.declared.decl.Start.TheVariants as start
use Rattle.sa_syntax.specs.declared.decl.Struct.{Struct, Struct', Row_of-Field, more_of-Field, end_of-Field}
use Rattle.sa_syntax.specs.declared.expr.Expr.{Expr, Number, Place', Bracket', Prefix', Cast', Chain', Choice', end_of-Expr, more_of-Expr, Row_of-Link, end_of-Link, more_of-Link, Row_of-Step, end_of-Step, more_of-Step, more_of-Specifiers, end_of-Specifiers}
use Rattle.sa_syntax.specs.declared.expr.Place.{Place, out-Place}
use Rattle.sa_syntax.specs.declared.expr.PlaceBase.{PlaceBase}
use Rattle.sa_syntax.specs.declared.expr.PlaceBase.TheVariants as at
use Rattle.sa_syntax.specs.declared.expr.Step.{Step, Index', Field, Arrow}
use Rattle.sa_syntax.specs.declared.stmt.Block.{Block, out-Block}
use Rattle.sa_syntax.specs.declared.stmt.BlockItem as block
use Rattle.sa_syntax.specs.declared.stmt.BlockItem.{BlockItem}
use Rattle.sa_syntax.specs.declared.stmt.Local.{Local}
use Rattle.sa_syntax.specs.declared.stmt.LocalDeclr.{LocalDeclr}
use Rattle.sa_syntax.specs.declared.stmt.LocalStart.{LocalStart}
use Rattle.sa_syntax.specs.declared.stmt.LocalStart.TheVariants as begins
use Rattle.sa_syntax.specs.declared.stmt.Simple.{Simple}
use Rattle.sa_syntax.specs.declared.stmt.Simple.TheVariants as simple
use Rattle.sa_syntax.specs.declared.stmt.Stmt as stmt
use Rattle.sa_syntax.specs.declared.stmt.Stmt.{Stmt, Row_of-BlockItem, end_of-BlockItem, more_of-BlockItem}
use Rattle.sa_syntax.specs.declared.unit.Item.{Item}
use Rattle.sa_syntax.specs.declared.unit.Item.TheVariants as top
use Rattle.sa_syntax.specs.declared.unit.Unit.{Unit as Source}
use Rattle.sa_typer.specs.Bodies.{clock_loop}
use Rattle.sa_scopes.specs.Typing.{fault}
use Rattle.sa_typer.specs.Units.{refusals}

-- where a place begins: what the name stands for is no variable, or the variable is an operand that nothing takes; no name is that
-- of a reference
abbrev pub of_begin : PlaceBase → List Pos
of_begin (at.Name x) = x.pos ∷ []
of_begin (at.Through p star x) = star ∷ []
of_begin (at.Star star x) = star ∷ []

unfoldable mutual
  pub of_expr : Expr → List Pos
  of_expr (Number v unsigned longs decimal p) = []
  of_expr (Place' b n row) = of_begin b ++ of_steps row
  of_expr (Bracket' p n (more_of-Expr x end_of-Expr)) = of_expr x
  of_expr (Prefix' op p n (more_of-Expr x end_of-Expr)) = p ∷ of_expr x
  of_expr (Cast' p m (more_of-Specifiers q qs b end_of-Specifiers) n (more_of-Expr x end_of-Expr)) = p ∷ (of_base b ++ of_expr x)
  of_expr (Chain' m (more_of-Expr x end_of-Expr) n row) = of_expr x ++ of_links row
  of_expr (Choice' l (more_of-Expr x end_of-Expr) p m (more_of-Expr y end_of-Expr) n (more_of-Expr z end_of-Expr)) = p ∷ (of_expr x ++ (of_expr y ++ of_expr z))

  pub of_links : {n : _} → Row_of-Link n → List Pos
  of_links end_of-Link = []
  of_links (more_of-Link op p x rest) = (p ∷ of_expr x) ++ of_links rest

  pub of_steps : {n : _} → Row_of-Step n → List Pos
  of_steps end_of-Step = []
  of_steps (more_of-Step x rest) = of_step x ++ of_steps rest

  pub of_step : Step → List Pos
  of_step (Index' p n (more_of-Expr x end_of-Expr)) = p ∷ of_expr x
  of_step (Field p x) = p ∷ []
  of_step (Arrow p x) = p ∷ []

  pub of_base : base.Base → List Pos
  of_base (base.Scalar ws) = []
  of_base base.Void = []
  of_base (base.Tag x) = []
  of_base (base.Struct x) = of_struct x
  of_base (base.Named x) = []

  pub of_struct : Struct → List Pos
  of_struct (Struct' tag n row) = of_fields row

  pub of_fields : {n : _} → Row_of-Field n → List Pos
  of_fields end_of-Field = []
  of_fields (more_of-Field x rest) = of_field x ++ of_fields rest

  pub of_field : group.Field → List Pos
  of_field (Field' p qs b n row) = of_base b ++ of_declrs row

  pub of_declrs : {n : _} → Row_of-Declr n → List Pos
  of_declrs end_of-Declr = []
  of_declrs (more_of-Declr x rest) = of_declr x ++ of_declrs rest

  pub of_declr : Declr → List Pos
  of_declr (Declr' x n row) = of_bounds row

  pub of_bounds : {n : _} → Row_of-Bound n → List Pos
  of_bounds end_of-Bound = []
  of_bounds (more_of-Bound p x rest) = of_expr x ++ of_bounds rest

abbrev pub of_bound : Bound → List Pos
of_bound b = of_expr (out-Bound b).size

abbrev pub of_place : Place → List Pos
of_place x = of_begin (out-Place x).base ++ flat_map of_step (out-Place x).steps

abbrev pub of_specifiers : Specifiers → List Pos
of_specifiers ty = of_base (out-Specifiers ty).base

-- ---- initialisers
unfoldable mutual
  pub of_init : Init → List Pos
  of_init (init.Value e) = of_expr e
  of_init (init.Braces' p n row) = of_inits row

  pub of_inits : {n : _} → Row_of-Init n → List Pos
  of_inits end_of-Init = []
  of_inits (more_of-Init i rest) = of_init i ++ of_inits rest

abbrev pub of_start : Start → List Pos
of_start start.Nothing = []
of_start (start.Init p i) = of_init i

abbrev pub of_global : InitDeclr → List Pos
of_global d = flat_map of_bound (out-Declr d.declr).bounds ++ of_start d.start

-- a local begins with a number behind that `=`
unfoldable pub of_local_init : Pos → Init → List Pos
of_local_init p (init.Value e) = p ∷ of_expr e
of_local_init p (init.Braces' q n row) = of_inits row

abbrev pub of_local_start : LocalStart → List Pos
of_local_start begins.Nothing = []
of_local_start (begins.Init p i) = of_local_init p i
of_local_start (begins.Call p c) = []

abbrev pub of_local_declr : LocalDeclr → List Pos
of_local_declr d = flat_map of_bound (out-Declr d.declr).bounds ++ of_local_start d.start

abbrev pub of_local : Local → List Pos
of_local l = of_specifiers l.ty ++ flat_map of_local_declr l.declrs

-- ---- statements
abbrev pub of_simple : Simple → List Pos
of_simple (simple.Assign x p e) = p ∷ (of_place x ++ of_expr e)
of_simple (simple.Compound x op p e) = p ∷ (of_place x ++ of_expr e)
of_simple (simple.After x turn p) = p ∷ of_place x
of_simple (simple.Before turn p x) = p ∷ of_place x

unfoldable mutual
  pub of_stmt : Stmt → List Pos
  of_stmt (stmt.Block' p n row q) = of_items row
  of_stmt (stmt.Simple x) = of_simple x
  of_stmt _ = []

  pub of_items : {n : _} → Row_of-BlockItem n → List Pos
  of_items end_of-BlockItem = []
  of_items (more_of-BlockItem i rest) = of_block_item i ++ of_items rest

  pub of_block_item : BlockItem → List Pos
  of_block_item (block.Local l) = of_local l
  of_block_item (block.Stmt a) = of_stmt a

-- an item directly in main's block, given what stands before the wait where it is a clock loop
abbrev pub of_loop_or_item : Option (List BlockItem) → BlockItem → List Pos
of_loop_or_item (Some before) i = flat_map of_block_item before
of_loop_or_item None i = of_block_item i

abbrev pub of_main_item : BlockItem → List Pos
of_main_item i = of_loop_or_item (clock_loop i) i

-- ---- the whole
-- the result of main is no structure
abbrev pub of_main : Name → Specifiers → Block → List Pos
of_main x ty b = x.pos ∷ (of_specifiers ty ++ flat_map of_main_item (out-Block b).items)

abbrev pub of_top : Item → List Pos
of_top (top.Typedef p ty x) = of_specifiers ty
of_top (top.Struct p x) = of_struct x
of_top (top.Global ty ds) = of_specifiers ty ++ flat_map of_global ds
of_top (top.Proto ty x ps) = []
of_top (top.Func ty x ps b) = if bytes_eq x.text (codes "main") then of_main x ty b else []

-- the places at which a text can be refused with that code
abbrev pub sites : Source → List Pos
sites u = flat_map of_top u.items

-- refusals with it stand nowhere else
abbrev pub StandAtSites : Type 0
StandAtSites = (u : Source) (end : Pos) (p : Pos) → Contains (refusals u end) (fault 5 p) → Contains (sites u) p
