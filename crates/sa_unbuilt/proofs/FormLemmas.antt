-- The equation of each form of a tree, as code sees it, and the first place in a list, one step on and at its end.
use Rattle.std.proofs.Common.{◌≡◌, ℕ, suc, ◌+◌, ◌-◌, ◌≤◌, ◌<◌, false, arith, List, [], ◌∷◌, length, drop, get_or, refl, ap, sym, ◌∙◌, Option, Some, None}
use Rattle.std.proofs.lemmas.List.{drop_more, drop_all}
use Rattle.sa_base.specs.declared.pos.Pos.{Pos}
use Rattle.sa_syntax.specs.declared.decl.Name.{Name}
use Rattle.sa_syntax.specs.declared.decl.Specifiers.{Specifiers}
use Rattle.sa_syntax.specs.declared.decl.Init.{Init, Braces', Row_of-Init, end_of-Init, more_of-Init, items-the_row-Init, items_hidden-the_row-Init-0}
use Rattle.sa_syntax.specs.declared.decl.Init.TheVariants as init
use Rattle.sa_syntax.specs.declared.stmt.Stmt.{Stmt, Block', Row_of-BlockItem, end_of-BlockItem, more_of-BlockItem, items-the_row-BlockItem, items_hidden-the_row-BlockItem-0}
use Rattle.sa_syntax.specs.declared.stmt.Stmt.TheVariants as s
use Rattle.sa_syntax.specs.declared.stmt.Block.{Block, out-Block}
use Rattle.sa_syntax.specs.declared.stmt.BlockItem.{BlockItem}
use Rattle.sa_syntax.specs.declared.stmt.BlockItem.TheVariants as item
use Rattle.sa_syntax.specs.declared.stmt.First.{First}
use Rattle.sa_syntax.specs.declared.stmt.Local.{Local}
use Rattle.sa_syntax.specs.declared.stmt.Call.{Call}
use Rattle.sa_syntax.specs.declared.stmt.Simple.{Simple}
use Rattle.sa_syntax.specs.declared.stmt.Directive.{Directive}
use Rattle.sa_syntax.specs.declared.stmt.Group.{Group}
use Rattle.sa_syntax.specs.declared.decl.Struct.{Struct, Struct', out-Struct, Row_of-Field, end_of-Field, more_of-Field, items-the_row-Field, items_shown-the_row-Field-6}
use Rattle.sa_syntax.specs.declared.decl.Field.{Field, Field', out-Field, Row_of-Declr, end_of-Declr, more_of-Declr, items-the_row-Declr, items_shown-the_row-Declr-5}
use Rattle.sa_syntax.specs.declared.decl.Declr.{Declr, Declr', out-Declr, Row_of-Bound, end_of-Bound, more_of-Bound, items-the_row-Bound, items_shown-the_row-Bound-4}
use Rattle.sa_syntax.specs.declared.expr.Expr.{Expr, Chain', Place', Row_of-Step, end_of-Step, more_of-Step, items-the_row-Step, items_hidden-the_row-Step-0, Row_of-Link, end_of-Link, more_of-Link, items-the_row-Link, items_hidden-the_row-Link-3}
use Rattle.sa_syntax.specs.declared.expr.Expr.TheVariants as v
use Rattle.sa_syntax.specs.declared.expr.Prefix.{Prefix}
use Rattle.sa_syntax.specs.declared.expr.Link.{Link}
use Rattle.sa_syntax.specs.declared.expr.Place.{Place}
use Rattle.sa_syntax.specs.declared.expr.Step.TheVariants as step
use Rattle.sa_syntax.specs.Forms.{is_wait}
use Rattle.sa_unbuilt.specs.Unbuilt.{◌or◌, first_in, in_operator, in_expr, in_links, in_link, in_step, in_steps, in_place, in_base, in_specifiers, in_struct, in_fields, in_field, in_declrs, in_declr, in_bounds, in_bound, in_init, in_inits, in_simple, in_directive, in_local, in_stmt, in_item, in_row, ends_with_wait}

-- ---- lists
next : {A : Type 0} (xs : List A) (i : ℕ) (x : A) → i < length xs → x ≡ get_or xs i x → drop i xs ≡ x ∷ drop (i + 1) xs
next xs i x h e = drop_more xs i x h ∙ ap (λ (y : _). y ∷ drop (i + 1) xs) (sym e)

module _ {A : Type 0} (f : A → Option Pos) (all : List A) (i : ℕ) (x : A) (here : i < length all) (is : x ≡ get_or all i x) (so_far : first_in f all ≡ first_in f (drop i all)) where
  from : first_in f all ≡ f x or first_in f (drop (i + 1) all)
  unfolding first_in
  from = so_far ∙ ap (first_in f) (next all i x here is)

  pub first_stop : (p : Pos) → Some p ≡ f x → first_in f all ≡ Some p
  first_stop p e = from ∙ ap (λ (o : Option Pos). o or first_in f (drop (i + 1) all)) (sym e)

  pub first_more : None ≡ f x → first_in f all ≡ first_in f (drop (i + 1) all)
  first_more e = from ∙ ap (λ (o : Option Pos). o or first_in f (drop (i + 1) all)) (sym e)

pub first_end : {A : Type 0} (f : A → Option Pos) (all : List A) (i : ℕ) → length all ≤ i → first_in f all ≡ first_in f (drop i all) → first_in f all ≡ None
unfolding first_in
first_end f all i h e = e ∙ ap (first_in f) (drop_all i all h)

-- ---- expressions, places and types
links_row : (n : _) (r : Row_of-Link n) → in_links r ≡ first_in in_link (items-the_row-Link n r)
unfolding in_expr first_in
links_row n end_of-Link = refl
links_row n (more_of-Link op p a rest) = ap (λ (o : Option Pos). (in_operator op p or in_expr a) or o) (links_row _ rest)

steps_row : (n : _) (r : Row_of-Step n) → in_steps r ≡ first_in in_step (items-the_row-Step n r)
unfolding in_expr first_in
steps_row n end_of-Step = refl
steps_row n (more_of-Step s rest) = ap (λ (o : Option Pos). in_step s or o) (steps_row _ rest)

fields_row : (n : _) (r : Row_of-Field n) → in_fields r ≡ first_in in_field (items-the_row-Field n r)
unfolding in_expr first_in
fields_row n end_of-Field = refl
fields_row n (more_of-Field f rest) = ap (λ (o : Option Pos). in_field f or o) (fields_row _ rest)

declrs_row : (n : _) (r : Row_of-Declr n) → in_declrs r ≡ first_in in_declr (items-the_row-Declr n r)
unfolding in_expr first_in
declrs_row n end_of-Declr = refl
declrs_row n (more_of-Declr d rest) = ap (λ (o : Option Pos). in_declr d or o) (declrs_row _ rest)

bounds_row : (n : _) (r : Row_of-Bound n) → in_bounds r ≡ first_in in_bound (items-the_row-Bound n r)
unfolding in_expr first_in
bounds_row n end_of-Bound = refl
bounds_row n (more_of-Bound p a rest) = ap (λ (o : Option Pos). in_expr a or o) (bounds_row _ rest)

abbrev steps_of : Expr → (n : _) × Row_of-Step n
steps_of (Place' base n ss) = (_, ss)
steps_of _ = (_, end_of-Step)

abbrev links_of : Expr → (n : _) × Row_of-Link n
links_of (Chain' m a n ls) = (_, ls)
links_of _ = (_, end_of-Link)

pub expr_number : (value : ℕ) (unsigned : _) (longs : ℕ) (decimal : _) (p : Pos) → in_expr (v.Number value unsigned longs decimal p) ≡ None
unfolding in_expr
expr_number value unsigned longs decimal p = refl

pub expr_place : (x : Place) → in_expr (v.Place x) ≡ in_place x
unfolding in_expr Rattle.sa_syntax.specs.declared.decl.Base.TheBlock.hidden-the_row-Step-0 denote.Hole.Carrier.hidden
expr_place x = let row = steps_of (v.Place x) in steps_row row.0 row.1 ∙ ap (first_in in_step) (items_hidden-the_row-Step-0 _)

pub expr_bracket : (p : Pos) (a : Expr) → in_expr (v.Bracket p a) ≡ in_expr a
unfolding in_expr Rattle.sa_syntax.specs.declared.decl.Base.TheBlock.hidden-the_row-Expr-1 denote.Hole.Carrier.hidden
expr_bracket p a = refl

pub expr_prefix : (op : Prefix) (p : Pos) (a : Expr) → in_expr (v.Prefix op p a) ≡ in_expr a
unfolding in_expr Rattle.sa_syntax.specs.declared.decl.Base.TheBlock.hidden-the_row-Expr-1 denote.Hole.Carrier.hidden
expr_prefix op p a = refl

pub expr_cast : (p : Pos) (ty : Specifiers) (a : Expr) → in_expr (v.Cast p ty a) ≡ in_specifiers ty or in_expr a
unfolding in_expr Rattle.sa_syntax.specs.declared.decl.Base.TheBlock.hidden-the_row-Expr-1 Rattle.sa_syntax.specs.declared.decl.Base.TheBlock.hidden-the_row-Specifiers-2 denote.Hole.Carrier.hidden
expr_cast p ty a = refl

pub expr_chain : (a : Expr) (ls : List Link) → in_expr (v.Chain a ls) ≡ in_expr a or first_in in_link ls
unfolding in_expr Rattle.sa_syntax.specs.declared.decl.Base.TheBlock.hidden-the_row-Expr-1 denote.Hole.Carrier.hidden
expr_chain a ls = let row = links_of (v.Chain a ls) in ap (λ (o : Option Pos). in_expr a or o) (links_row row.0 row.1 ∙ ap (first_in in_link) (items_hidden-the_row-Link-3 ls))

pub expr_choice : (c : Expr) (p : Pos) (a b : Expr) → in_expr (v.Choice c p a b) ≡ in_expr c or Some p
unfolding in_expr Rattle.sa_syntax.specs.declared.decl.Base.TheBlock.hidden-the_row-Expr-1 denote.Hole.Carrier.hidden
expr_choice c p a b = refl

pub step_index : (p : Pos) (a : Expr) → in_step (step.Index p a) ≡ in_expr a
unfolding in_expr Rattle.sa_syntax.specs.declared.decl.Base.TheBlock.hidden-the_row-Expr-1 denote.Hole.Carrier.hidden
step_index p a = refl

pub step_field : (p : Pos) (x : Name) → in_step (step.Field p x) ≡ None
unfolding in_expr
step_field p x = refl

pub step_arrow : (p : Pos) (x : Name) → in_step (step.Arrow p x) ≡ None
unfolding in_expr
step_arrow p x = refl

pub struct_fields : (s : Struct) → in_struct s ≡ first_in in_field (out-Struct s).fields
unfolding in_expr out-Struct denote.Hole.Carrier.out
struct_fields (Struct' tag n fs) = fields_row _ fs ∙ ap (first_in in_field) (sym (items_shown-the_row-Field-6 _ fs))

pub field_declrs : (f : Field) → in_field f ≡ in_specifiers (out-Field f).ty or first_in in_declr (out-Field f).declrs
unfolding in_expr out-Field denote.Hole.Carrier.out
field_declrs (Field' p qs ty n ds) = ap (λ (o : Option Pos). in_base ty or o) (declrs_row _ ds ∙ ap (first_in in_declr) (sym (items_shown-the_row-Declr-5 _ ds)))

pub declr_bounds : (d : Declr) → in_declr d ≡ first_in in_bound (out-Declr d).bounds
unfolding in_expr out-Declr denote.Hole.Carrier.out
declr_bounds (Declr' x n bs) = bounds_row _ bs ∙ ap (first_in in_bound) (sym (items_shown-the_row-Bound-4 _ bs))

-- ---- initialisers
inits_row : (n : _) (r : Row_of-Init n) → in_inits r ≡ first_in in_init (items-the_row-Init n r)
unfolding in_init first_in
inits_row n end_of-Init = refl
inits_row n (more_of-Init i rest) = ap (λ (o : Option Pos). in_init i or o) (inits_row _ rest)

abbrev inits_of : Init → (n : _) × Row_of-Init n
inits_of (Braces' p n is) = (_, is)
inits_of _ = (_, end_of-Init)

pub init_value : (a : Expr) → in_init (init.Value a) ≡ in_expr a
unfolding in_init
init_value a = refl

pub init_braces : (p : Pos) (is : List Init) → in_init (init.Braces p is) ≡ first_in in_init is
unfolding in_init Rattle.sa_syntax.specs.declared.decl.Init.TheBlock.hidden-the_row-Init-0 denote.Hole.Carrier.hidden
init_braces p is = let row = inits_of (init.Braces p is) in inits_row row.0 row.1 ∙ ap (first_in in_init) (items_hidden-the_row-Init-0 is)

-- ---- statements
items_row : (n : _) (r : Row_of-BlockItem n) → in_row r ≡ first_in in_item (items-the_row-BlockItem n r)
unfolding in_stmt first_in
items_row n end_of-BlockItem = refl
items_row n (more_of-BlockItem i rest) = ap (λ (o : Option Pos). in_item i or o) (items_row _ rest)

abbrev items_of : Stmt → (n : _) × Row_of-BlockItem n
items_of (Block' p n is q) = (_, is)
items_of _ = (_, end_of-BlockItem)

pub stmt_block : (b : Block) → in_stmt (s.Block b) ≡ first_in in_item (out-Block b).items
unfolding in_stmt Rattle.sa_syntax.specs.declared.stmt.BlockItem.TheBlock.hidden-the_row-BlockItem-0 denote.Hole.Carrier.hidden
stmt_block b = let row = items_of (s.Block b) in items_row row.0 row.1 ∙ ap (first_in in_item) (items_hidden-the_row-BlockItem-0 _)

pub stmt_empty : (p : Pos) → in_stmt (s.Empty p) ≡ None
unfolding in_stmt
stmt_empty p = refl

pub stmt_simple : (x : Simple) → in_stmt (s.Simple x) ≡ in_simple x
unfolding in_stmt
stmt_simple x = refl

pub stmt_gives : (x : Place) (p : Pos) (c : Call) → in_stmt (s.Gives x p c) ≡ in_place x or Some c.name.pos
unfolding in_stmt
stmt_gives x p c = refl

pub stmt_call : (c : Call) → in_stmt (s.Call c) ≡ Some c.name.pos
unfolding in_stmt
stmt_call c = refl

pub stmt_if : (p : Pos) (c : Expr) (a : Stmt) → in_stmt (s.If p c a) ≡ Some p
unfolding in_stmt
stmt_if p c a = refl

pub stmt_if_else : (p : Pos) (c : Expr) (a b : Stmt) → in_stmt (s.IfElse p c a b) ≡ Some p
unfolding in_stmt
stmt_if_else p c a b = refl

pub stmt_while : (p : Pos) (c : Expr) (a : Stmt) → in_stmt (s.While p c a) ≡ Some p
unfolding in_stmt
stmt_while p c a = refl

pub stmt_do : (p : Pos) (a : Stmt) (c : Expr) → in_stmt (s.DoWhile p a c) ≡ Some p
unfolding in_stmt
stmt_do p a c = refl

pub stmt_for : (p : Pos) (f : First) (c : Option Expr) (x : Option Simple) (a : Stmt) → in_stmt (s.For p f c x a) ≡ Some p
unfolding in_stmt
stmt_for p f c x a = refl

pub stmt_switch : (p : Pos) (c : Expr) (gs : List Group) → in_stmt (s.Switch p c gs) ≡ Some p
unfolding in_stmt
stmt_switch p c gs = refl

pub stmt_break : (p : Pos) → in_stmt (s.Break p) ≡ Some p
unfolding in_stmt
stmt_break p = refl

pub stmt_return : (p : Pos) (a : Option Expr) → in_stmt (s.Return p a) ≡ Some p
unfolding in_stmt
stmt_return p a = refl

pub stmt_directive : (p : Pos) (x : Directive) → in_stmt (s.Directive p x) ≡ in_directive x p
unfolding in_stmt
stmt_directive p x = refl

pub item_local : (l : Local) → in_item (item.Local l) ≡ in_local l
unfolding in_stmt
item_local l = refl

pub item_stmt : (a : Stmt) → in_item (item.Stmt a) ≡ in_stmt a
unfolding in_stmt
item_stmt a = refl

-- ---- the wait
pub ends_none : (is : List BlockItem) → length is < 1 → ends_with_wait is ≡ false
unfolding ends_with_wait
ends_none [] h = refl
ends_none (j ∷ is) h = absurd (omega arith)

pub ends_last : (is : List BlockItem) (i : BlockItem) → 1 ≤ length is → i ≡ get_or is (length is - 1) i → ends_with_wait is ≡ is_wait i
unfolding ends_with_wait
ends_last [] i h e = absurd (omega arith)
ends_last (j ∷ []) i h e = ap is_wait (sym e)
ends_last (j ∷ k ∷ is) i h e =
    let one_less : length (j ∷ k ∷ is) - 1 ≡ suc (length (k ∷ is) - 1) = omega arith in
    ends_last (k ∷ is) i (omega arith) (e ∙ ap (λ n. get_or (j ∷ k ∷ is) n i) one_less)

pub ruleset of_exprs = (expr_number, expr_place, expr_bracket, expr_prefix, expr_cast, expr_chain, expr_choice)

pub ruleset of_steps = (step_index, step_field, step_arrow)

pub ruleset of_inits = (init_value, init_braces)

pub ruleset of_stmts = (stmt_block, stmt_empty, stmt_simple, stmt_gives, stmt_call, stmt_if, stmt_if_else, stmt_while, stmt_do, stmt_for, stmt_switch, stmt_break, stmt_return, stmt_directive)

pub ruleset of_items = (item_local, item_stmt)

pub ruleset of_ends = (ends_none, ends_last)

pub ruleset of_lists = (first_stop, first_more, first_end)
