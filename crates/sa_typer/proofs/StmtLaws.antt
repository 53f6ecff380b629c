-- Statements of the program that the walk ends in are typed.
use Rattle.std.proofs.Common.{◌≡◌, ℕ, zero, suc, ◌+◌, ◌≤◌, Bool, true, false, ◌&&◌, List, [], ◌∷◌, ◌++◌, length, take, drop, refl, sym, ap, subst, ◌∙◌, arith, Option, Some, None}
use Rattle.std.proofs.lemmas.Bool.Decides.{nat_tests}
use Rattle.std.specs.Prelude.{if◌then◌else◌, slice_get, not, ◌==◌}
use Rattle.sa_base.specs.declared.num.Num.{Num}
use Rattle.sa_base.specs.declared.num.Num.TheVariants.{I32}
use Rattle.sa_base.specs.declared.pos.Pos.{Pos}
use Rattle.sa_syntax.specs.declared.expr.Place.{Place}
use Rattle.sa_syntax.specs.declared.stmt.BlockItem as blocks
use Rattle.sa_syntax.specs.declared.stmt.Directive.{Directive}
use Rattle.sa_syntax.specs.declared.stmt.Directive.TheVariants as d
use Rattle.sa_syntax.specs.declared.stmt.Local.{Local}
use Rattle.sa_syntax.specs.declared.stmt.Simple as from_tree
use Rattle.sa_syntax.specs.declared.stmt.Simple.TheVariants as x
use Rattle.sa_syntax.specs.declared.stmt.Stmt as stmts
use Rattle.sa_syntax.specs.declared.stmt.Stmt.{Row_of-BlockItem, end_of-BlockItem, more_of-BlockItem}
use Rattle.sa_typed.specs.Layouts.{Layout, leaf, rows, layout_with, shape_layout}
use Rattle.sa_typed.specs.WellTyped.{type_of, IsLink}
use Rattle.sa_typed.specs.TypedExpressions.{ChangesVariable, IsLeftSide}
use Rattle.sa_typed.specs.declared.expr.Access.{Access}
use Rattle.sa_typed.specs.declared.expr.Expr.{Expr}
use Rattle.sa_typed.specs.declared.expr.Expr.TheVariants as made
use Rattle.sa_typed.specs.declared.expr.Operator.{Operator}
use Rattle.sa_typed.specs.declared.program.Program.{Program}
use Rattle.sa_typed.specs.declared.shape.Plain.{Plain}
use Rattle.sa_typed.specs.declared.shape.Plain.TheVariants.{Scalar, Struct}
use Rattle.sa_typed.specs.declared.shape.Shape.{Shape}
use Rattle.sa_typed.specs.declared.stmt.Simple.{Simple}
use Rattle.sa_typed.specs.declared.stmt.Simple.TheVariants as simply
use Rattle.sa_typed.specs.declared.stmt.Stmt.{Stmt}
use Rattle.sa_typed.specs.declared.stmt.Stmt.TheVariants as typed
use Rattle.sa_operands.specs.declared.operand.Operand.{Operand}
use Rattle.sa_operands.specs.declared.operand.Operand.TheVariants as a
use Rattle.sa_operands.specs.declared.operand.Root.{Root}
use Rattle.sa_operands.specs.declared.operand.Root.TheVariants as root
use Rattle.sa_operands.specs.declared.operand.Sort.TheVariants as sort
use Rattle.sa_operands.specs.declared.operand.Spot.{Spot}
use Rattle.sa_scopes.specs.declared.typer.Typer.{Typer}
use Rattle.sa_scopes.specs.First.{place_pos, item_pos}
use Rattle.sa_scopes.specs.Constants.{working}
use Rattle.sa_scopes.specs.Forms.{form_by, form_inside}
use Rattle.sa_operands.specs.Places.{access, access_of}
use Rattle.sa_operands.specs.Expressions.{expr}
use Rattle.sa_declarations.specs.Declarations.{local}
use Rattle.sa_scopes.specs.Scopes.{Scope, oldest, count}
use Rattle.sa_typer.specs.Statements.{mismatched, to_number, to_struct, to_form, assigned, compound_of, update_of, one, sort_by, compounded_number, compounded_by, compounded, left_side, simple, left_scope, scoped, directive, stmt, items, item}
use Rattle.sa_scopes.specs.Typing.{Typed, Typing, Gives, and_then, pure, each}
use Rattle.sa_operands.proofs.RowLaws.{GoodSimple, AllStmts, stmts_append, access_typed, access_changes, access_fixed, simple_typed, block_typed}
use Rattle.sa_scopes.proofs.WalkLaws.{Ends, Later, Well, Leads, Any, gives, refuses, refusal, bind, next, from, free, so, unless}
use Rattle.sa_operands.proofs.OperandLaws.{IsGood, LeadsTo, GoodOperand, struct_in, one_good, works, all_three}
use Rattle.sa_operands.proofs.PlaceLaws.{IsAt, GoodSpot, there, shaped}
use Rattle.sa_operands.proofs.ExprLaws.{expr_leads, spot_leads}

pub taken : {A : Type 0} (n i : ℕ) (xs : List A) (x : A) → slice_get (take n xs) i ≡ Some x → slice_get xs i ≡ Some x
taken zero i [] x h = h
taken zero i (y ∷ xs) x h = cc
taken (suc n) i [] x h = h
taken (suc n) zero (y ∷ xs) x h = h
taken (suc n) (suc i) (y ∷ xs) x h = taken n i xs x h

not_false : (b : Bool) → not b ≡ false → b ≡ true
not_false true h = refl
not_false false h = cc

module _ (p : Program) where
  pub none_typed : AllStmts p []
  unfolding AllStmts
  none_typed = tt

  -- ---- left sides
  -- an access to a variable that may change
  record IsLeft (layout : Layout) (fixed : Bool) (x : Access) : Type 0 where
    leads : LeadsTo p layout fixed x
    changes : ChangesVariable p (made.Read x I32)

  left_access : (l : Spot) (r : Root) (shape : Shape) → IsAt p l r (Some shape) → l.locked ≡ false → IsLeft (shape_layout p.structs shape) l.fixed (access_of r l.steps)
  left_access l root.Nothing shape h f = absurd h
  left_access l (root.Variable k) shape h f = record {
    leads = record { place = access_typed p k l.steps (shape_layout p.structs shape) h.typed h.leads h.named; constant = λ c. access_fixed k l.steps (h.constant c) };
    changes = access_changes p k l.steps (h.free f);
  }
  left_access l (root.Input k num) shape h f = let g = h.kept in cc

  side : {layout : Layout} {fixed : Bool} {x : Access} → IsLeft layout fixed x → IsLeftSide p 0 layout x
  side h = record { place = h.leads.place; variable = h.changes }

  is_there : (l : Spot) (r : Root) → IsAt p l r None → ⊥
  is_there l root.Nothing h = h
  is_there l (root.Variable k) h = h
  is_there l (root.Input k num) h = h

  -- what a left side leads to
  abbrev Leading : Spot → Option Shape → Type 0
  Leading l None = ⊥
  Leading l (Some shape) = IsLeft (shape_layout p.structs shape) l.fixed (access l)

  leading : (l : Spot) (o : Option Shape) → IsAt p l l.root o → l.locked ≡ false → Leading l o
  leading l None h f = is_there l l.root h
  leading l (Some shape) h f = left_access l l.root shape h f

  -- ---- assignments
  number_leads : (l : Spot) (num : Num) (q : Pos) (i : Operand) (s : Typer) → Leads p (IsLeft (leaf num) l.fixed (access l) × GoodOperand p i) s (λ y t. GoodSimple p y) (to_number (access l) num q i s)
  number_leads l num q (a.Number e m v) s = gives (λ w h e. (side h.0, h.1.typed))
  number_leads l num q (a.Struct y k fixed r) s = refuses 5 q
  number_leads l num q (a.Array r) s = refuses 5 q
  number_leads l num q a.Unknown s = gives (λ w h e. absurd h.1)

  same_number : (k j : ℕ) → (k == j) ≡ true → j ≡ k
  same_number k j h = grind (arith, nat_tests)

  copied : (l : Spot) (k j : ℕ) (fixed : Bool) (y : Access) (q : Pos) → IsLeft (struct_in p k) l.fixed (access l) → LeadsTo p (struct_in p j) fixed y → (k == j && l.fixed && fixed) ≡ true →
      GoodSimple p (simply.Copy k (access l) q y)
  copied l k j fixed y q left right h =
      let all = all_three (k == j) l.fixed fixed h in
      let same = subst (λ (n : ℕ). LeadsTo p (struct_in p n) fixed y) (same_number k j all.0) right in
      (struct_in p k, ((side left, left.leads.constant all.1.0), (same.place, same.constant all.1.1)))

  struct_leads : (l : Spot) (k : ℕ) (q : Pos) (i : Operand) (s : Typer) → Leads p (IsLeft (struct_in p k) l.fixed (access l) × GoodOperand p i) s (λ y t. GoodSimple p y) (to_struct (access l) l.fixed k q i s)
  struct_leads l k q (a.Number e m v) s = refuses 5 q
  struct_leads l k q (a.Struct y j fixed r) s =
      next (unless (not (k == j && l.fixed && fixed)) 7 q) (λ u t. gives (λ w h e. copied l k j fixed y q h.0.0 h.0.1 (not_false (k == j && l.fixed && fixed) h.1)))
  struct_leads l k q (a.Array r) s = refuses 5 q
  struct_leads l k q a.Unknown s = gives (λ w h e. absurd h.1)

  form_leads : (l : Spot) (q : Pos) (i : Operand) (ns : List ℕ) (t : Plain) (s : Typer) → Leads p (Leading l (Some (shaped ns t)) × GoodOperand p i) s (λ y t. GoodSimple p y) (to_form l (Some (form_by ns t)) q i s)
  unfolding layout_with rows
  form_leads l q i [] (Scalar num) s = number_leads l num q i s
  form_leads l q i [] (Struct k) s = struct_leads l k q i s
  form_leads l q i (n ∷ ns) t s = refuses 5 q

  option_leads : (l : Spot) (q : Pos) (i : Operand) (o : Option Shape) (d : ℕ) (s : Typer) → Leads p (Leading l (there o d) × GoodOperand p i) s (λ y t. GoodSimple p y) (to_form l (form_inside o d) q i s)
  option_leads l q i None d s = gives (λ w h e. absurd h.0)
  option_leads l q i (Some shape) d s = form_leads l q i (drop d shape.dims) shape.plain s

  assigned_leads : (l : Spot) (q : Pos) (i : Operand) (s : Typer) → Leads p (Leading l (there l.shape l.depth) × GoodOperand p i) s (λ y t. GoodSimple p y) (assigned l q i s)
  unfolding assigned
  assigned_leads l q i s = option_leads l q i l.shape l.depth s

  -- ---- compound assignments
  link_there : (o : Operator) (to m : Num) (e : Expr) → type_of e ≡ m → IsLink o to (working o to m) (type_of e)
  link_there o to m e h = subst (λ (n : Num). IsLink o to (working o to m) n) (sym h) (works o to m)

  object_leads : {Y : Type 0} (l : Spot) (o : Operator) (q : Pos) (i : Operand) (s : Typer) → Leads p (Y × GoodOperand p i) s (λ y t. GoodSimple p y) (compounded_by (access l) o q sort.Object i s)
  object_leads l o q (a.Number e m v) s = refuses 5 q
  object_leads l o q (a.Struct y k fixed r) s = refuses 5 q
  object_leads l o q (a.Array r) s = refuses 5 q
  object_leads l o q a.Unknown s = refuses 5 q

  numbers_leads : (l : Spot) (to : Num) (o : Operator) (q : Pos) (i : Operand) (s : Typer) → Leads p (IsLeft (leaf to) l.fixed (access l) × GoodOperand p i) s (λ y t. GoodSimple p y) (compounded_by (access l) o q (sort.Number to) i s)
  numbers_leads l to o q (a.Number e m v) s = gives (λ w h g. (side h.0, (h.1.typed, link_there o to m e h.1.is)))
  numbers_leads l to o q (a.Struct y k fixed r) s = refuses 5 q
  numbers_leads l to o q (a.Array r) s = refuses 5 q
  numbers_leads l to o q a.Unknown s = gives (λ w h e. absurd h.1)

  unknown_leads : (l : Spot) (o : Operator) (q : Pos) (i : Operand) (s : Typer) → Leads p (⊥ × GoodOperand p i) s (λ y t. GoodSimple p y) (compounded_by (access l) o q sort.Unknown i s)
  unknown_leads l o q (a.Number e num v) s = gives (λ w h e. absurd h.0)
  unknown_leads l o q (a.Struct y k fixed r) s = refuses 5 q
  unknown_leads l o q (a.Array r) s = refuses 5 q
  unknown_leads l o q a.Unknown s = gives (λ w h e. absurd h.0)

  by_sort : (l : Spot) (o : Operator) (q : Pos) (i : Operand) (ns : List ℕ) (t : Plain) (s : Typer) →
      Leads p (Leading l (Some (shaped ns t)) × GoodOperand p i) s (λ y t. GoodSimple p y) (compounded_by (access l) o q (sort_by (Some (form_by ns t))) i s)
  unfolding layout_with rows
  by_sort l o q i [] (Scalar to) s = numbers_leads l to o q i s
  by_sort l o q i [] (Struct k) s = object_leads l o q i s
  by_sort l o q i (n ∷ ns) t s = object_leads l o q i s

  sort_leads : (l : Spot) (o : Operator) (q : Pos) (i : Operand) (z : Option Shape) (d : ℕ) (s : Typer) →
      Leads p (Leading l (there z d) × GoodOperand p i) s (λ y t. GoodSimple p y) (compounded_by (access l) o q (sort_by (form_inside z d)) i s)
  sort_leads l o q i None d s = unknown_leads l o q i s
  sort_leads l o q i (Some shape) d s = by_sort l o q i (drop d shape.dims) shape.plain s

  compounded_leads : (l : Spot) (o : Operator) (q : Pos) (i : Operand) (s : Typer) → Leads p (Leading l (there l.shape l.depth) × GoodOperand p i) s (λ y t. GoodSimple p y) (compounded l o q i s)
  unfolding compounded
  compounded_leads l o q i s = sort_leads l o q i l.shape l.depth s

  -- ---- simple statements
  left_leads : {X : Type 0} (y : Place) (s : Typer) → Leads p X s (λ l t. Leading l (there l.shape l.depth)) (left_side y s)
  left_leads y s = next (spot_leads p y s) (λ l t. next (unless l.locked 6 (place_pos y)) (λ u v. gives (λ w h e. leading l (there l.shape l.depth) h.0.1 h.1)))

  right_leads : {X : Type 0} (i : _) (s : Typer) → Leads p X s (λ y t. GoodOperand p y) (expr i s)
  right_leads i s = free (expr_leads p i s)

  by_one : (l : Spot) (o : Operator) (q : Pos) (s : Typer) → Leads p (Leading l (there l.shape l.depth)) s (λ y t. GoodSimple p y) (compounded l o q one s)
  by_one l o q s = from (λ h. (h, one_good p)) (compounded_leads l o q one s)

  simple_leads : {X : Type 0} (y : from_tree.Simple) (s : Typer) → Leads p X s (λ y t. GoodSimple p y) (simple y s)
  unfolding simple
  simple_leads (x.Assign y q i) s = next (left_leads y s) (λ l t. next (right_leads i t) (λ j u. from (λ h. (h.0.1, h.1)) (assigned_leads l q j u)))
  simple_leads (x.Compound y o q i) s = next (left_leads y s) (λ l t. next (right_leads i t) (λ j u. from (λ h. (h.0.1, h.1)) (compounded_leads l (compound_of o) q j u)))
  simple_leads (x.After y o q) s = next (left_leads y s) (λ l t. from (λ h. h.1) (by_one l (update_of o) q t))
  simple_leads (x.Before o q y) s = next (left_leads y s) (λ l t. from (λ h. h.1) (by_one l (update_of o) q t))

  -- ---- scopes
  scope_later : (names tags : ℕ) (s : Typer) → Later p s (record s { names = oldest names s.names; tags = oldest tags s.tags })
  scope_later names tags s = record { back = λ e. record { clear = e.clear; structs = e.structs; vars = e.vars; inputs = e.inputs }; more = omega arith }

  scope_well : (names tags : ℕ) (s : Typer) → Well p s → Well p (record s { names = oldest names s.names; tags = oldest tags s.tags })
  scope_well names tags s w = record {
    names = λ i m h. w.names i m (taken names i s.names.meanings m h);
    tags = λ i m h. w.tags i m (taken tags i s.tags.meanings m h);
    defs = w.defs;
    vars = w.vars;
  }

  scope_leads : {A : Type 0} {Y : A → Type 0} (names tags : ℕ) (b : A) (s : Typer) → Leads p (Y b) s (λ b t. Y b) (left_scope names tags b s)
  scope_leads names tags b s = record { later = scope_later names tags s; good = λ w h e. (scope_well names tags s w, h) }

  pub scoped_leads : {A : Type 0} {X : Type 0} {Y : A → Type 0} (m : Typing A) (s : Typer) → Leads p X s (λ b t. Y b) (m s) → Leads p X s (λ b t. Y b) (scoped m s)
  unfolding scoped
  scoped_leads m s h = next h (λ b t. from (λ h. h.1) (scope_leads (count s.names) (count s.tags) b t))

  -- ---- statements
  abbrev pub LocalsLead : Type 0
  LocalsLead = (l : Local) (found : List Stmt) (s : Typer) → Leads p (AllStmts p found) s (λ ss t. AllStmts p ss) (local l found s)

  directive_leads : {X : Type 0} (q : Pos) (y : Directive) (s : Typer) → Leads p X s Any (directive q y s)
  directive_leads q d.Wait s = refuses 23 q
  directive_leads q d.Partition s = gives (λ w h e. tt)
  directive_leads q (d.KnownFact y) s = gives (λ w h e. tt)
  directive_leads q (d.Assert y) s = gives (λ w h e. tt)

  module _ (locals_lead : LocalsLead) where
    mutual
      unfolding stmt

      pub stmt_leads : (y : stmts.Stmt) (found : List Stmt) (s : Typer) → Leads p (AllStmts p found) s (λ ss t. AllStmts p ss) (stmt y found s)
      stmt_leads (stmts.Block' q n row r) found s =
          next (scoped_leads (items row []) s (from (λ h. none_typed) (items_leads row [] s))) (λ ss t. gives (λ w h e. stmts_append p found (typed.Block ss) h.0 (block_typed p ss h.1)))
      stmt_leads (stmts.Simple y) found s = next (simple_leads y s) (λ y t. gives (λ w h e. stmts_append p found (typed.Simple y) h.0 (simple_typed p y h.1)))
      stmt_leads (stmts.Directive q y) found s = next (directive_leads q y s) (λ u t. gives (λ w h e. h.0))
      stmt_leads _ found s = gives (λ w h e. h)

      pub items_leads : {n : _} (row : Row_of-BlockItem n) (found : List Stmt) (s : Typer) → Leads p (AllStmts p found) s (λ ss t. AllStmts p ss) (items row found s)
      items_leads end_of-BlockItem found s = gives (λ w h e. h)
      items_leads (more_of-BlockItem i rest) found s = next (item_leads i found s) (λ found t. from (λ h. h.1) (items_leads rest found t))

      pub item_leads : (i : blocks.BlockItem) (found : List Stmt) (s : Typer) → Leads p (AllStmts p found) s (λ ss t. AllStmts p ss) (item i found s)
      item_leads (blocks.Local l) found s = locals_lead l found s
      item_leads (blocks.Stmt y) found s = stmt_leads y found s
