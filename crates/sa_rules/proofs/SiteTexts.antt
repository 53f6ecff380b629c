-- What initialisers, declarations, statements and whole texts may refuse.
use Rattle.std.proofs.Common.{ℕ, ◌+◌, Bool, true, false, not, ◌&&◌, List, [], ◌∷◌, ◌++◌, refl, inl, inr, Option, Some, None}
use Rattle.std.proofs.lemmas.List.Elements.{Contains-push_cases}
use Rattle.std.specs.List.{Contains, flat_map}
use Rattle.std.specs.Prelude.{ℤ, if◌then◌else◌}
use Rattle.sa_base.specs.declared.num.Num.{Num}
use Rattle.sa_base.specs.declared.num.Num.TheVariants.{I32}
use Rattle.sa_base.specs.declared.pos.Pos.{Pos}
use Rattle.sa_syntax.specs.declared.decl.Declr.{out-Declr}
use Rattle.sa_syntax.specs.declared.decl.Init as inits
use Rattle.sa_syntax.specs.declared.decl.Init.{Init, Value, Braces', Row_of-Init, end_of-Init, more_of-Init}
use Rattle.sa_syntax.specs.declared.decl.InitDeclr.{InitDeclr}
use Rattle.sa_syntax.specs.declared.decl.Name.{Name}
use Rattle.sa_syntax.specs.declared.decl.Specifiers.{Specifiers, out-Specifiers}
use Rattle.sa_syntax.specs.declared.decl.Start.{Start as Begins}
use Rattle.sa_syntax.specs.declared.decl.Start.TheVariants as begins
use Rattle.sa_syntax.specs.declared.expr.Place.{Place}
use Rattle.sa_syntax.specs.declared.stmt.Block.{Block, out-Block}
use Rattle.sa_syntax.specs.declared.stmt.BlockItem as blocks
use Rattle.sa_syntax.specs.declared.stmt.BlockItem.{BlockItem}
use Rattle.sa_syntax.specs.declared.stmt.Directive.{Directive}
use Rattle.sa_syntax.specs.declared.stmt.Directive.TheVariants as d
use Rattle.sa_syntax.specs.declared.stmt.Local.{Local}
use Rattle.sa_syntax.specs.declared.stmt.LocalDeclr.{LocalDeclr}
use Rattle.sa_syntax.specs.declared.stmt.LocalStart.{LocalStart}
use Rattle.sa_syntax.specs.declared.stmt.LocalStart.TheVariants as inner
use Rattle.sa_syntax.specs.declared.stmt.Simple as from_tree
use Rattle.sa_syntax.specs.declared.stmt.Simple.TheVariants as x
use Rattle.sa_syntax.specs.declared.stmt.Stmt as stmts
use Rattle.sa_syntax.specs.declared.stmt.Stmt.{Row_of-BlockItem, end_of-BlockItem, more_of-BlockItem}
use Rattle.sa_syntax.specs.declared.unit.Item.{Item}
use Rattle.sa_syntax.specs.declared.unit.Item.TheVariants as top
use Rattle.sa_syntax.specs.declared.unit.Unit.{Unit as Source}
use Rattle.sa_typed.specs.declared.program.Home.TheVariants as home
use Rattle.sa_typed.specs.declared.shape.Shape.{Shape}
use Rattle.sa_typed.specs.declared.stmt.Stmt.{Stmt}
use Rattle.sa_typer.specs.declared.bodies.Body.{Body}
use Rattle.sa_typer.specs.declared.bodies.Entry.{Entry}
use Rattle.sa_scopes.specs.declared.typer.Typer.{Typer}
use Rattle.sa_scopes.specs.declared.types.Named.TheVariants as n
use Rattle.sa_scopes.specs.declared.types.Ty.{Ty}
use Rattle.sa_typer.specs.Bodies as body
use Rattle.sa_typer.specs.Bodies.{block, no_body, main_by, main_item, main_items, main_block, clock_loop}
use Rattle.sa_declarations.specs.Declarations.{initial, global_by, global, next_global, declared, input_type, are_bare, is_struct, begun_by, begun, local_of, next_local, local}
use Rattle.sa_scopes.specs.First.{expr_pos, init_pos, place_pos, item_pos}
use Rattle.sa_scopes.specs.Forms.{form_of, scalar}
use Rattle.sa_declarations.specs.Initialisers.{slotted, init, braced, values}
use Rattle.sa_scopes.specs.Scopes.{is_visible}
use Rattle.sa_typer.specs.Statements.{compound_of, update_of, one as just_one, left_side, simple, scoped, directive, stmt, items, item}
use Rattle.sa_scopes.specs.Structures.{slot}
use Rattle.sa_scopes.specs.Types.{has_volatile, shape_of}
use Rattle.sa_scopes.specs.Typing.{Typed, Typing, Gives, pure, fault}
use Rattle.sa_typer.specs.Units as unit
use Rattle.sa_syntax.specs.Forms.{is_main}
use Rattle.sa_typer.specs.Units.{plain_type, type_name, first_main, main, blank, has_entry, all_items, refusals}
use Rattle.sa_rules.specs.Sites.{of_expr, of_bound, of_place, of_specifiers, of_init, of_inits, of_start, of_global, of_local_init, of_local_start, of_local_declr, of_local, of_simple, of_stmt, of_items, of_block_item, of_loop_or_item, of_main_item, of_main, of_top, sites, StandAtSites}
use Rattle.sa_rules.proofs.Exact.{none_in}
use Rattle.sa_rules.proofs.SiteWalks.{Adds, Sub, sub_left, sub_right, sub_head, sub_rest, adds_none, adds_other, other_code, adds_then, adds_here, adds_unless, other_unless, adds_by, adds_all}
use Rattle.sa_rules.proofs.SiteParts.{valued_adds, begun_with_adds, qualifiers_adds, named_adds, variable_adds, input_adds, assigned_adds, compounded_adds}
use Rattle.sa_operands.specs.Expressions.{expr}
use Rattle.sa_rules.proofs.SiteOperands.{expr_operands}
use Rattle.sa_rules.proofs.SiteTrees.{expr_adds, spot_adds, type_adds, objects_adds, dimensions_adds, structure_adds}
use Rattle.sa_rules.proofs.Walks.{state, value}

module _ (P : Pos → Type 0) where
  -- ---- initialisers
  slotted_adds : (p : Pos) (o : Option Shape) (m : Shape → Typing (List ℤ)) (s : Typer) → ((shape : Shape) (t : Typer) → Adds P t (m shape t)) → Adds P s (slotted p o m s)
  slotted_adds p None m s h = adds_then P {A = Unit {0}} (adds_other P {a = tt} 20 p refl) (λ u t. h (scalar I32) t)
  slotted_adds p (Some shape) m s h = h shape s

  mutual
    unfolding init of_init

    init_adds : (i : Init) (shape : Shape) (zs : List ℤ) (s : Typer) → Sub P (of_init i) → Adds P s (init i shape zs s)
    init_adds (Value e) shape zs s h =
        adds_here P _ (expr_adds P e s h) (valued_adds P (expr_pos e) (form_of shape) (value (expr e s)) zs (state (expr e s)) (expr_operands P e s h).operands)
    init_adds (Braces' p n row) shape zs s h = braced_adds row p shape 0 zs s h

    braced_adds : {n : _} (row : Row_of-Init n) (p : Pos) (shape : Shape) (k : ℕ) (zs : List ℤ) (s : Typer) → Sub P (of_inits row) → Adds P s (braced row p shape k zs s)
    braced_adds end_of-Init p shape k zs s h = adds_none P
    braced_adds (more_of-Init i rest) p shape k zs s h =
        adds_then P (slotted_adds p (slot s.structs shape k) (λ inner. init i inner zs) s (λ inner t. init_adds i inner zs t (sub_left (of_init i) (of_inits rest) h)))
        (λ zs t. braced_adds rest p shape (k + 1) zs t (sub_right (of_init i) (of_inits rest) h))

  values_adds : (i : Init) (shape : Shape) (s : Typer) → Sub P (of_init i) → Adds P s (values i shape s)
  unfolding values
  values_adds i shape s h = adds_then P (init_adds i shape [] s h) (λ zs t. adds_none P)

  -- ---- the file scope
  initial_adds : (volatile : Bool) (shape : Shape) (b : Begins) (s : Typer) → Sub P (of_start b) → Adds P s (initial volatile shape b s)
  initial_adds volatile shape begins.Nothing s h = adds_none P
  initial_adds volatile shape (begins.Init p i) s h = adds_then P (other_unless P volatile 20 (init_pos i) refl) (λ a t. values_adds i shape t h)

  global_by_adds : (o : Option Num) (volatile : Bool) (ty : Ty) (x : Name) (shape : Shape) (b : Begins) (s : Typer) → Sub P (of_start b) → Adds P s (global_by o volatile ty x shape b s)
  global_by_adds (Some num) volatile ty x shape b s h = input_adds P x num s
  global_by_adds None volatile ty x shape b s h =
      adds_then P (initial_adds volatile shape b s h) (λ zs t. adds_then P (variable_adds P x shape home.Global ty.constant zs t) (λ k u. adds_none P))

  global_adds : (volatile : Bool) (ty : Ty) (d : InitDeclr) (s : Typer) → Sub P (of_global d) → Adds P s (global volatile ty d s)
  unfolding global
  global_adds volatile ty d s h =
      let bs = (out-Declr d.declr).bounds in
      adds_then P (dimensions_adds P bs s (sub_left (flat_map of_bound bs) (of_start d.start) h))
      (λ dims t. global_by_adds (input_type volatile ty.element dims d.start) volatile ty (out-Declr d.declr).name (shape_of ty.element dims) d.start t (sub_right (flat_map of_bound bs) (of_start d.start) h))

  declared_adds : (ty : Specifiers) (ds : List InitDeclr) (s : Typer) → Sub P (of_specifiers ty ++ flat_map of_global ds) → Adds P s (declared ty ds s)
  unfolding declared
  declared_adds ty ds s h =
      adds_then P (objects_adds P ty s (sub_left (of_specifiers ty) (flat_map of_global ds) h))
      (λ y t. adds_then P (qualifiers_adds P (not (is_struct y.element) && are_bare ds) true (out-Specifiers ty).qualifiers t)
      (λ a u. adds_all P (next_global (has_volatile (out-Specifiers ty).qualifiers) y) of_global (λ d a s k. global_adds (has_volatile (out-Specifiers ty).qualifiers) y d s k) ds tt u
      (sub_right (of_specifiers ty) (flat_map of_global ds) h)))

  -- ---- locals
  begun_by_adds : (p : Pos) (shape : Shape) (i : Init) (s : Typer) → Sub P (of_local_init p i) → Adds P s (begun_by p shape i s)
  unfolding inits.out-Init denote.Hole.Carrier.out of_local_init of_init
  begun_by_adds p shape (Value e) s h =
      adds_then P (expr_adds P e s (sub_rest p (of_expr e) h)) (λ x t. begun_with_adds P p (expr_pos e) (form_of shape) x t (sub_head p (of_expr e) h))
  begun_by_adds p shape (Braces' q n row) s h = adds_then P (values_adds (Braces' q n row) shape s h) (λ zs t. adds_none P)

  begun_adds : (shape : Shape) (b : LocalStart) (s : Typer) → Sub P (of_local_start b) → Adds P s (begun shape b s)
  unfolding begun
  begun_adds shape inner.Nothing s h = adds_none P
  begun_adds shape (inner.Init p i) s h = begun_by_adds p shape i s h
  begun_adds shape (inner.Call p c) s h = adds_none P

  local_of_adds : (ty : Ty) (d : LocalDeclr) (s : Typer) → Sub P (of_local_declr d) → Adds P s (local_of ty d s)
  unfolding local_of
  local_of_adds ty d s h =
      let bs = (out-Declr d.declr).bounds in
      adds_then P (dimensions_adds P bs s (sub_left (flat_map of_bound bs) (of_local_start d.start) h))
      (λ dims t. adds_then P (begun_adds (shape_of ty.element dims) d.start t (sub_right (flat_map of_bound bs) (of_local_start d.start) h))
      (λ b u. adds_then P (variable_adds P (out-Declr d.declr).name (shape_of ty.element dims) (home.Local 0) ty.constant b.initial u) (λ k v. adds_none P)))

  local_adds : (l : Local) (ss : List Stmt) (s : Typer) → Sub P (of_local l) → Adds P s (local l ss s)
  unfolding local
  local_adds l ss s h =
      adds_then P (qualifiers_adds P false true (out-Specifiers l.ty).qualifiers s)
      (λ a t. adds_then P (objects_adds P l.ty t (sub_left (of_specifiers l.ty) (flat_map of_local_declr l.declrs) h))
      (λ ty u. adds_all P (next_local ty) of_local_declr (λ d all s k. adds_then P (local_of_adds ty d s k) (λ b v. adds_none P)) l.declrs ss u
      (sub_right (of_specifiers l.ty) (flat_map of_local_declr l.declrs) h)))

  -- ---- statements
  left_adds : (y : Place) (s : Typer) → Sub P (of_place y) → Adds P s (left_side y s)
  left_adds y s h =
      adds_then P (spot_adds P y s h) (λ l t. adds_then P (other_unless P l.locked 6 (place_pos y) refl) (λ u v. adds_none P))

  simple_adds : (y : from_tree.Simple) (s : Typer) → Sub P (of_simple y) → Adds P s (simple y s)
  unfolding simple
  simple_adds (x.Assign y q i) s h =
      let l = sub_rest q (of_place y ++ of_expr i) h in
      adds_then P (left_adds y s (sub_left (of_place y) (of_expr i) l))
      (λ m t. adds_then P (expr_adds P i t (sub_right (of_place y) (of_expr i) l)) (λ j u. assigned_adds P m q j u (sub_head q (of_place y ++ of_expr i) h)))
  simple_adds (x.Compound y o q i) s h =
      let l = sub_rest q (of_place y ++ of_expr i) h in
      adds_then P (left_adds y s (sub_left (of_place y) (of_expr i) l))
      (λ m t. adds_then P (expr_adds P i t (sub_right (of_place y) (of_expr i) l)) (λ j u. compounded_adds P m (compound_of o) q j u (sub_head q (of_place y ++ of_expr i) h)))
  simple_adds (x.After y o q) s h = adds_then P (left_adds y s (sub_rest q (of_place y) h)) (λ m t. compounded_adds P m (update_of o) q just_one t (sub_head q (of_place y) h))
  simple_adds (x.Before o q y) s h = adds_then P (left_adds y s (sub_rest q (of_place y) h)) (λ m t. compounded_adds P m (update_of o) q just_one t (sub_head q (of_place y) h))

  scoped_adds : {A : Type 0} (m : Typing A) (s : Typer) → Adds P s (m s) → Adds P s (scoped m s)
  unfolding scoped
  scoped_adds m s h = adds_then P h (λ b t. record { new = λ f k. inl k })

  directive_adds : (q : Pos) (y : Directive) (s : Typer) → Adds P s (directive q y s)
  directive_adds q d.Wait s = adds_other P 23 q refl
  directive_adds q d.Partition s = adds_none P
  directive_adds q (d.KnownFact y) s = adds_none P
  directive_adds q (d.Assert y) s = adds_none P

  mutual
    unfolding stmt of_stmt

    stmt_adds : (y : stmts.Stmt) (ss : List Stmt) (s : Typer) → Sub P (of_stmt y) → Adds P s (stmt y ss s)
    stmt_adds (stmts.Block' p n row r) ss s h = adds_then P (scoped_adds (items row []) s (items_adds row [] s h)) (λ ts t. adds_none P)
    stmt_adds (stmts.Simple y) ss s h = adds_then P (simple_adds y s h) (λ y t. adds_none P)
    stmt_adds (stmts.Directive q y) ss s h = adds_then P (directive_adds q y s) (λ u t. adds_none P)
    stmt_adds _ ss s h = adds_none P

    items_adds : {n : _} (row : Row_of-BlockItem n) (ss : List Stmt) (s : Typer) → Sub P (of_items row) → Adds P s (items row ss s)
    items_adds end_of-BlockItem ss s h = adds_none P
    items_adds (more_of-BlockItem i rest) ss s h = adds_then P (item_adds i ss s (sub_left (of_block_item i) (of_items rest) h)) (λ ss t. items_adds rest ss t (sub_right (of_block_item i) (of_items rest) h))

    item_adds : (i : blocks.BlockItem) (ss : List Stmt) (s : Typer) → Sub P (of_block_item i) → Adds P s (item i ss s)
    item_adds (blocks.Local l) ss s h = local_adds l ss s h
    item_adds (blocks.Stmt y) ss s h = stmt_adds y ss s h

  -- ---- main
  main_by_adds : (o : Option (List BlockItem)) (i : BlockItem) (b : Body) (s : Typer) → Sub P (of_loop_or_item o i) → Adds P s (main_by o i b s)
  unfolding block
  main_by_adds (Some before) i b s h = adds_then P (scoped_adds (body.items before []) s (adds_all P item of_block_item item_adds before [] s h)) (λ ss t. adds_none P)
  main_by_adds None i b s h = adds_then P (item_adds i b.stmts s h) (λ ss t. adds_none P)

  main_item_adds : (i : BlockItem) (b : Body) (s : Typer) → Sub P (of_main_item i) → Adds P s (main_item i b s)
  unfolding main_item
  main_item_adds i b s h = adds_then P (other_unless P b.clock 23 (item_pos i) refl) (λ u t. main_by_adds (clock_loop i) i b t h)

  main_block_adds : (is : List BlockItem) (s : Typer) → Sub P (flat_map of_main_item is) → Adds P s (main_block is s)
  unfolding main_block
  main_block_adds is s h = scoped_adds (main_items is no_body) s (adds_all P main_item of_main_item main_item_adds is no_body s h)

  -- ---- items
  plain_adds : (ty : Specifiers) (s : Typer) → Sub P (of_specifiers ty) → Adds P s (plain_type ty s)
  plain_adds ty s h = adds_then P (qualifiers_adds P false true (out-Specifiers ty).qualifiers s) (λ a t. type_adds P ty t h)

  type_name_adds : (ty : Specifiers) (x : Name) (s : Typer) → Sub P (of_specifiers ty) → Adds P s (type_name ty x s)
  unfolding type_name
  type_name_adds ty x s h = adds_then P (plain_adds ty s h) (λ t u. named_adds P x (n.Alias t) u)

  first_main_adds : (x : Name) (ty : Ty) (b : Block) (s : Typer) → P x.pos → Sub P (flat_map of_main_item (out-Block b).items) → Adds P s (first_main x ty b s)
  first_main_adds x ty b s k h =
      adds_then P (named_adds P x n.Function s) (λ a t. adds_then P (adds_unless P (is_struct ty.element) x.pos k) (λ a u. adds_then P (main_block_adds (out-Block b).items u h) (λ b v. adds_none P)))

  main_adds : (ty : Specifiers) (x : Name) (b : Block) (o : Option Entry) (s : Typer) → Sub P (of_main x ty b) → Adds P s (main ty x b o s)
  unfolding main
  main_adds ty x b o s h =
      let ms = flat_map of_main_item (out-Block b).items in
      let inner = sub_rest x.pos (of_specifiers ty ++ ms) h in
      adds_then P (plain_adds ty s (sub_left (of_specifiers ty) ms inner))
      (λ t u. adds_by P (is_visible u.names x.text) (adds_other P 2 x.pos refl) (first_main_adds x t b u (sub_head x.pos (of_specifiers ty ++ ms) h) (sub_right (of_specifiers ty) ms inner)))

  func_adds : (v : Bool) (ty : Specifiers) (x : Name) (b : Block) (o : Option Entry) (s : Typer) → Sub P (if v then of_main x ty b else []) → Adds P s ((if v then main ty x b o else pure o) s)
  func_adds true ty x b o s h = main_adds ty x b o s h
  func_adds false ty x b o s h = adds_none P

  top_adds : (i : Item) (o : Option Entry) (s : Typer) → Sub P (of_top i) → Adds P s (unit.item i o s)
  unfolding unit.item
  top_adds (top.Typedef q ty x) o s h = adds_then P (type_name_adds ty x s h) (λ a t. adds_none P)
  top_adds (top.Struct q x) o s h = adds_then P (structure_adds P x s h) (λ a t. adds_none P)
  top_adds (top.Global ty ds) o s h = adds_then P (declared_adds ty ds s h) (λ a t. adds_none P)
  top_adds (top.Proto ty x ps) o s h = adds_none P
  top_adds (top.Func ty x ps b) o s h = func_adds (is_main x) ty x b o s h

  whole_adds : (is : List Item) (s : Typer) → Sub P (flat_map of_top is) → Adds P s (unit.items is None s)
  whole_adds is s h = adds_all P unit.item of_top top_adds is None s h

-- ---- the whole
module _ (u : Source) where
  abbrev AtSite : Pos → Type 0
  AtSite p = Contains (sites u) p

  by_entry : (end : Pos) (b : Bool) (s : Typer) (p : Pos) → (Contains s.faults (fault 5 p) → AtSite p) → Contains (if b then s.faults else (s.faults ++ fault 22 end ∷ [])) (fault 5 p) → AtSite p
  by_entry end true s p h g = h g
  by_entry end false s p h g = elim (Contains-push_cases s.faults (fault 22 end) (fault 5 p) g) [ inl k ↦ h k | inr e ↦ absurd (other_code AtSite 22 end p refl e) ]

  by_walk : (end : Pos) (t : Typed (Option Entry)) (p : Pos) → (Contains (state t).faults (fault 5 p) → AtSite p) → Contains (unit.refusals_in end t) (fault 5 p) → AtSite p
  by_walk end (Gives o s) p h g = by_entry end (has_entry o) s p h g

  walk_at : (p : Pos) → Contains (state (all_items u)).faults (fault 5 p) → AtSite p
  walk_at p h = elim ((whole_adds AtSite u.items blank (λ g k. k)).new p h) [ inl g ↦ absurd (none_in (fault 5 p) g) | inr g ↦ g ]

  at_sites : (end : Pos) (p : Pos) → Contains (refusals u end) (fault 5 p) → AtSite p
  unfolding refusals
  at_sites end p h = by_walk end (all_items u) p (walk_at p) h

pub stand_at_sites : StandAtSites
stand_at_sites u end p h = at_sites u end p h
