-- Statements, blocks and main see and refuse what their events do.
use Rattle.std.proofs.Common.{◌≡◌, ℕ, Bool, true, false, not, ◌||◌, ◌&&◌, List, [], ◌∷◌, ◌++◌, refl, ap, subst, ◌∙◌, Option, Some, None}
use Rattle.std.specs.List.{flat_map}
use Rattle.std.specs.Prelude.{◌==◌}
use Rattle.sa_base.specs.declared.num.Num.{Num}
use Rattle.sa_base.specs.declared.pos.Pos.{Pos}
use Rattle.sa_syntax.specs.declared.expr.Place as from_place
use Rattle.sa_syntax.specs.declared.stmt.BlockItem as blocks
use Rattle.sa_syntax.specs.declared.stmt.BlockItem.{BlockItem}
use Rattle.sa_syntax.specs.declared.stmt.Directive.{Directive}
use Rattle.sa_syntax.specs.declared.stmt.Directive.TheVariants as d
use Rattle.sa_syntax.specs.declared.stmt.Simple as from_tree
use Rattle.sa_syntax.specs.declared.stmt.Simple.TheVariants as x
use Rattle.sa_syntax.specs.declared.stmt.Stmt as stmts
use Rattle.sa_syntax.specs.declared.stmt.Stmt.{Row_of-BlockItem, end_of-BlockItem, more_of-BlockItem}
use Rattle.sa_typed.specs.declared.expr.Access.{Access}
use Rattle.sa_syntax.specs.declared.expr.Expr as tree
use Rattle.sa_syntax.specs.declared.expr.Expr.{Number, Place', Bracket', Prefix', Cast', Chain', Choice', end_of-Expr, more_of-Expr, more_of-Specifiers, end_of-Specifiers}
use Rattle.sa_typed.specs.declared.expr.Expr.{Expr}
use Rattle.sa_typed.specs.declared.stmt.Simple.{Simple}
use Rattle.sa_typed.specs.declared.expr.Operator.{Operator}
use Rattle.sa_typed.specs.declared.stmt.Stmt.{Stmt}
use Rattle.sa_typer.specs.declared.bodies.Body.{Body}
use Rattle.sa_scopes.specs.declared.form.Form.{Form}
use Rattle.sa_scopes.specs.declared.form.Form.TheVariants as form
use Rattle.sa_operands.specs.declared.operand.Operand.{Operand}
use Rattle.sa_operands.specs.declared.operand.Operand.TheVariants as a
use Rattle.sa_operands.specs.declared.operand.Sort.{Sort}
use Rattle.sa_operands.specs.declared.operand.Sort.TheVariants as sort
use Rattle.sa_operands.specs.declared.operand.Spot.{Spot}
use Rattle.sa_scopes.specs.declared.typer.Typer.{Typer}
use Rattle.sa_typer.specs.Bodies as body
use Rattle.sa_typer.specs.Bodies.{block, no_body, main_by, main_item, main_items, main_block, clock_loop}
use Rattle.sa_scopes.specs.First.{place_pos, item_pos}
use Rattle.sa_operands.specs.Expressions.{expr}
use Rattle.sa_operands.specs.Operands.{is_object}
use Rattle.sa_scopes.specs.declared.types.Ty.{Ty}
use Rattle.sa_operands.specs.Places.{access, form_at, operand, operand_by}
use Rattle.sa_scopes.specs.Scopes.{Scope, is_some, oldest, count}
use Rattle.sa_typer.specs.Statements.{to_number, to_struct, to_form, assigned, compound_of, update_of, one as just_one, sort_by, compounded_number, compounded_by, compounded, left_side, simple, left_scope, scoped, directive, stmt, items, item}
use Rattle.sa_scopes.specs.Typing.{Typed, Typing, Gives, and_then, pure, each, refuse_if, fault}
use Rattle.sa_rules.specs.Events.{Event, Copies, Stores, Begins, Ends}
use Rattle.sa_rules.specs.Scenes.{Meaning, within}
use Rattle.sa_rules.specs.Rules.{at_if}
use Rattle.sa_rules.specs.Sight.{Sight, Open, Place, Block, see}
use Rattle.sa_rules.specs.Spots as seen
use Rattle.sa_rules.specs.Spots.{is_ill_copied}
use Rattle.sa_rules.specs.Texts.{in_left, in_right, in_simple, in_directive, in_stmt, in_items, in_item, in_loop_or_item, stray_if, in_main, has_loop}
use Rattle.sa_rules.proofs.Walks.{broken, faults_at, meant, scene_of, state, value, Reads, Quiet, quiet_gives, quiet_refuses, quiet_then, quiet_unless, quiet, bind, then_here, then_event, then_quiet, ends, all_parts, refused_noted}
use Rattle.sa_rules.proofs.PlainParts.{IsPlain, Plain, plain_gives, number_plain, prefix_plain, conversion_plain, chain_plain, choice_plain}
use Rattle.sa_rules.proofs.Steps.{At, AtSpot, seeing, seen_spot, begins_reads as place_begins, free_at, one, one_at, one_as, quiet_one, refused_one, nothing_added}
use Rattle.sa_rules.proofs.Names.{oldest_seen}
use Rattle.sa_rules.proofs.Places.{assigns_reads}
use Rattle.sa_rules.proofs.Trees.{expr_reads, spot_reads, steps_reads}
use Rattle.sa_rules.proofs.Declared.{local_reads}

-- ---- assignments
to_number_quiet : (y : Access) (num : Num) (p : Pos) (i : Operand) (s : Typer) → Quiet s (to_number y num p i s)
to_number_quiet y num p (a.Number e from v) s = quiet_gives
to_number_quiet y num p (a.Struct z k fixed q) s = quiet_refuses 5 p refl
to_number_quiet y num p (a.Array q) s = quiet_refuses 5 p refl
to_number_quiet y num p a.Unknown s = quiet_gives

to_struct_quiet : (y : Access) (fixed : Bool) (k : ℕ) (p : Pos) (i : Operand) (s : Typer) → IsPlain i → Quiet s (to_struct y fixed k p i s)
to_struct_quiet y fixed k p (a.Number e from v) s h = quiet_refuses 5 p refl
to_struct_quiet y fixed k p (a.Struct z j g q) s h = absurd h
to_struct_quiet y fixed k p (a.Array q) s h = quiet_refuses 5 p refl
to_struct_quiet y fixed k p a.Unknown s h = quiet_gives

to_form_quiet : (l : Spot) (o : Option Form) (p : Pos) (i : Operand) (s : Typer) → IsPlain i → Quiet s (to_form l o p i s)
to_form_quiet l None p i s h = quiet_gives
to_form_quiet l (Some (form.Scalar num)) p i s h = to_number_quiet (access l) num p i s
to_form_quiet l (Some (form.Struct k)) p i s h = to_struct_quiet (access l) l.fixed k p i s h
to_form_quiet l (Some (form.Array n)) p i s h = quiet_refuses 5 p refl

-- what is no structure
assigned_quiet : (l : Spot) (p : Pos) (i : Operand) (s : Typer) → IsPlain i → Quiet s (assigned l p i s)
unfolding assigned
assigned_quiet l p i s h = to_form_quiet l (form_at l) p i s h

compounded_number_quiet : (y : Access) (o : Operator) (p : Pos) (k : Sort) (e : Expr) (num : Num) (s : Typer) → Quiet s (compounded_number y o p k e num s)
compounded_number_quiet y o p (sort.Number to) e num s = quiet_gives
compounded_number_quiet y o p sort.Object e num s = quiet_refuses 5 p refl
compounded_number_quiet y o p sort.Unknown e num s = quiet_gives

compounded_by_quiet : (y : Access) (o : Operator) (p : Pos) (k : Sort) (i : Operand) (s : Typer) → Quiet s (compounded_by y o p k i s)
compounded_by_quiet y o p k (a.Number e num v) s = compounded_number_quiet y o p k e num s
compounded_by_quiet y o p k (a.Struct z j fixed q) s = quiet_refuses 5 p refl
compounded_by_quiet y o p k (a.Array q) s = quiet_refuses 5 p refl
compounded_by_quiet y o p k a.Unknown s = quiet_then (quiet_unless (is_object k) 5 p refl) (λ b t. quiet_gives)

compounded_quiet : (l : Spot) (o : Operator) (p : Pos) (i : Operand) (s : Typer) → Quiet s (compounded l o p i s)
unfolding compounded
compounded_quiet l o p i s = compounded_by_quiet (access l) o p (sort_by (form_at l)) i s

-- ---- the clock loop
pub then_is : {A B : Type 0} (t : Typed A) (f : A → Typing B) → and_then t f ≡ f (value t) (state t)
then_is (Gives a s) f = refl

or_true : (b : Bool) → true ≡ (b || true)
or_true true = refl
or_true false = refl

or_false : (b : Bool) → b ≡ (b || false)
or_false true = refl
or_false false = refl

clock_by : (o : Option (List BlockItem)) (i : BlockItem) (b : Body) (s : Typer) → (value (main_by o i b s)).clock ≡ (b.clock || is_some o)
clock_by (Some before) i b s = ap (λ (t : Typed Body). (value t).clock) (then_is (block before s) _) ∙ or_true b.clock
clock_by None i b s = ap (λ (t : Typed Body). (value t).clock) (then_is (item i b.stmts s) _) ∙ or_false b.clock

clock_after : (i : BlockItem) (b : Body) (s : Typer) → (value (main_item i b s)).clock ≡ (b.clock || is_some (clock_loop i))
unfolding main_item
clock_after i b s =
    ap (λ (t : Typed Body). (value t).clock) (then_is (refuse_if b.clock 23 (item_pos i) s) (λ u. main_by (clock_loop i) i b)) ∙ clock_by (clock_loop i) i b (state (refuse_if b.clock 23 (item_pos i) s))

clock_in : (is : List BlockItem) (b : Body) (s : Typer) → (value (main_items is b s)).clock ≡ has_loop b.clock is
unfolding each has_loop
clock_in [] b s = refl
clock_in (i ∷ is) b s =
    ap (λ (t : Typed Body). (value t).clock) (then_is (main_item i b s) (each main_item is)) ∙ clock_in is (value (main_item i b s)) (state (main_item i b s))
    ∙ ap (λ (c : Bool). has_loop c is) (clock_after i b s)

pub main_clock : (is : List BlockItem) (s : Typer) → (value (main_block is s)).clock ≡ has_loop false is
unfolding main_block scoped
main_clock is s =
    ap (λ (t : Typed Body). (value t).clock) (then_is (main_items is no_body s) (left_scope (count s.names) (count s.tags))) ∙ clock_in is no_body s

module _ (found : Bool) where
  left_reads : (os : List Open) (y : from_place.Place) (s : Typer) → Reads (At os found) s (in_left y) (AtSpot os found) (left_side y s)
  left_reads os y s = bind (spot_reads found os y s) (λ l t. assigns_reads os found (place_pos y) l t)

  -- anything but a place by itself is assigned
  stores : {A : Type 0} {X : Sight → Type 0} {s : Typer} {xs : List Event} {t : Typed A} (os : List Open) (l : seen.Spot) → Reads X s xs (λ (b : A). At (Place l ∷ os) found) t → Reads X s (xs ++ Stores ∷ []) (λ (b : A). At os found) t
  unfolding see
  stores os l h = then_event h (λ b m y. free_at m (λ v z. record { scene = refl; broken = refl; post = record { opened = refl; entry = refl } }) y)

  stored : {X : Sight → Type 0} {s : Typer} {xs : List Event} {t : Typed Operand} (os : List Open) (l : Spot) (q : Pos) → Plain t → Reads X s xs (λ j. At (Place (seen_spot l) ∷ os) found) t →
      Reads X s (xs ++ Stores ∷ []) (λ b. At os found) (and_then t (assigned l q))
  stored {t = Gives j u} os l q h r = stores os (seen_spot l) (then_quiet r (assigned_quiet l q j u h.plain))

  -- a place by itself is
  copies_break : (u : Typer) (os : List Open) (l r : Spot) (q : Pos) (o k : Option Form) (y : Ty) → form_at l ≡ o → form_at r ≡ k →
      broken (seeing u (Place (seen_spot r) ∷ (Place (seen_spot l) ∷ os)) found y) (Copies q) ≡ faults_at 7 (at_if (is_ill_copied (seen_spot l) (seen_spot r) o k) q) ++ []
  copies_break u os l r q o k y h g =
      ap (λ (z : Option Form). faults_at 7 (at_if (is_ill_copied (seen_spot l) (seen_spot r) z (form_at r)) q) ++ []) h
      ∙ ap (λ (z : Option Form). faults_at 7 (at_if (is_ill_copied (seen_spot l) (seen_spot r) o z) q) ++ []) g

  quietly : (os : List Open) (l r : Spot) (q : Pos) (o k : Option Form) (t : Typed Simple) (u : Typer) → form_at l ≡ o → form_at r ≡ k → is_ill_copied (seen_spot l) (seen_spot r) o k ≡ false → Quiet u t →
      Reads (AtSpot (Place (seen_spot l) ∷ os) found r) u (Copies q ∷ []) (λ b. At os found) t
  unfolding see
  quietly os l r q o k t u h g e c =
      one_at (λ y. quiet_one (seeing u os found y) c refl (copies_break u os l r q o k y h g ∙ ap (λ (b : Bool). faults_at 7 (at_if b q) ++ []) e) refl (record { opened = refl; entry = refl }))

  structs_read : (os : List Open) (l r : Spot) (q : Pos) (k j : ℕ) (b : Bool) (z : Simple) (u : Typer) → form_at l ≡ Some (form.Struct k) → form_at r ≡ Some (form.Struct j) → not (k == j && l.fixed && r.fixed) ≡ b →
      Reads (AtSpot (Place (seen_spot l) ∷ os) found r) u (Copies q ∷ []) (λ (b : Simple). At os found) (and_then (refuse_if b 7 q u) (λ c. pure z))
  unfolding see
  structs_read os l r q k j true z u h g e =
      one_at (λ y. refused_one 7 q (seeing u os found y) (fault 7 q ∷ []) refl
      (copies_break u os l r q (Some (form.Struct k)) (Some (form.Struct j)) y h g ∙ ap (λ (b : Bool). faults_at 7 (at_if b q) ++ []) e) refl (refused_noted 7 q u) (record { opened = refl; entry = refl }))
  structs_read os l r q k j false z u h g e =
      one_at (λ y. one_as (seeing u os found y) [] refl
      (copies_break u os l r q (Some (form.Struct k)) (Some (form.Struct j)) y h g ∙ ap (λ (b : Bool). faults_at 7 (at_if b q) ++ []) e) refl (nothing_added u) (record { opened = refl; entry = refl }))

  copied_by : (os : List Open) (l r : Spot) (q : Pos) (o k : Option Form) (u : Typer) → form_at l ≡ o → form_at r ≡ k →
      Reads (AtSpot (Place (seen_spot l) ∷ os) found r) u (Copies q ∷ []) (λ b. At os found) (to_form l o q (operand_by r k) u)
  copied_by os l r q None None u h g = quietly os l r q None None _ u h g refl quiet_gives
  copied_by os l r q None (Some (form.Scalar num)) u h g = quietly os l r q None (Some (form.Scalar num)) _ u h g refl quiet_gives
  copied_by os l r q None (Some (form.Struct j)) u h g = quietly os l r q None (Some (form.Struct j)) _ u h g refl quiet_gives
  copied_by os l r q None (Some (form.Array n)) u h g = quietly os l r q None (Some (form.Array n)) _ u h g refl quiet_gives
  copied_by os l r q (Some (form.Scalar m)) None u h g = quietly os l r q (Some (form.Scalar m)) None _ u h g refl quiet_gives
  copied_by os l r q (Some (form.Scalar m)) (Some (form.Scalar num)) u h g = quietly os l r q (Some (form.Scalar m)) (Some (form.Scalar num)) _ u h g refl quiet_gives
  copied_by os l r q (Some (form.Scalar m)) (Some (form.Struct j)) u h g = quietly os l r q (Some (form.Scalar m)) (Some (form.Struct j)) _ u h g refl (quiet_refuses 5 q refl)
  copied_by os l r q (Some (form.Scalar m)) (Some (form.Array n)) u h g = quietly os l r q (Some (form.Scalar m)) (Some (form.Array n)) _ u h g refl (quiet_refuses 5 q refl)
  copied_by os l r q (Some (form.Struct k)) None u h g = quietly os l r q (Some (form.Struct k)) None _ u h g refl quiet_gives
  copied_by os l r q (Some (form.Struct k)) (Some (form.Scalar num)) u h g = quietly os l r q (Some (form.Struct k)) (Some (form.Scalar num)) _ u h g refl (quiet_refuses 5 q refl)
  copied_by os l r q (Some (form.Struct k)) (Some (form.Struct j)) u h g = structs_read os l r q k j (not (k == j && l.fixed && r.fixed)) _ u h g refl
  copied_by os l r q (Some (form.Struct k)) (Some (form.Array n)) u h g = quietly os l r q (Some (form.Struct k)) (Some (form.Array n)) _ u h g refl (quiet_refuses 5 q refl)
  copied_by os l r q (Some (form.Array m)) None u h g = quietly os l r q (Some (form.Array m)) None _ u h g refl (quiet_refuses 5 q refl)
  copied_by os l r q (Some (form.Array m)) (Some (form.Scalar num)) u h g = quietly os l r q (Some (form.Array m)) (Some (form.Scalar num)) _ u h g refl (quiet_refuses 5 q refl)
  copied_by os l r q (Some (form.Array m)) (Some (form.Struct j)) u h g = quietly os l r q (Some (form.Array m)) (Some (form.Struct j)) _ u h g refl (quiet_refuses 5 q refl)
  copied_by os l r q (Some (form.Array m)) (Some (form.Array n)) u h g = quietly os l r q (Some (form.Array m)) (Some (form.Array n)) _ u h g refl (quiet_refuses 5 q refl)

  copied : (os : List Open) (l r : Spot) (q : Pos) (u : Typer) → Reads (AtSpot (Place (seen_spot l) ∷ os) found r) u (Copies q ∷ []) (λ b. At os found) (assigned l q (operand r) u)
  unfolding assigned operand
  copied os l r q u = copied_by os l r q (form_at l) (form_at r) u refl refl

  copies : {X : Sight → Type 0} {s : Typer} {xs : List Event} {t : Typed Spot} (os : List Open) (l : Spot) (q : Pos) → Reads X s xs (AtSpot (Place (seen_spot l) ∷ os) found) t →
      Reads X s (xs ++ Copies q ∷ []) (λ b. At os found) (and_then (and_then t (λ r. pure (operand r))) (assigned l q))
  copies {t = Gives r u} os l q h = bind h (λ r u. copied os l r q u)

  right_reads : (os : List Open) (l : Spot) (q : Pos) (i : tree.Expr) (s : Typer) → Reads (AtSpot os found l) s (in_right q i) (λ b. At os found) (and_then (expr i s) (assigned l q))
  unfolding expr in_right
  right_reads os l q (Number v unsigned longs decimal p) s = stored os l q (number_plain v unsigned longs decimal p s) (expr_reads found (Place (seen_spot l) ∷ os) (Number v unsigned longs decimal p) s)
  right_reads os l q (Place' b n row) s =
      copies os l q (bind (place_begins (Place (seen_spot l) ∷ os) found b s) (λ r t. steps_reads found (Place (seen_spot l) ∷ os) row r t))
  right_reads os l q (Bracket' p n (more_of-Expr y end_of-Expr)) s = right_reads os l q y s
  right_reads os l q (Prefix' o p n (more_of-Expr y end_of-Expr)) s = stored os l q (prefix_plain o p n y s) (expr_reads found (Place (seen_spot l) ∷ os) (Prefix' o p n (more_of-Expr y end_of-Expr)) s)
  right_reads os l q (Cast' p m (more_of-Specifiers r qs b end_of-Specifiers) n (more_of-Expr y end_of-Expr)) s =
      stored os l q (conversion_plain p m r qs b n y s) (expr_reads found (Place (seen_spot l) ∷ os) (Cast' p m (more_of-Specifiers r qs b end_of-Specifiers) n (more_of-Expr y end_of-Expr)) s)
  right_reads os l q (Chain' m (more_of-Expr y end_of-Expr) n row) s = stored os l q (chain_plain m y n row s) (expr_reads found (Place (seen_spot l) ∷ os) (Chain' m (more_of-Expr y end_of-Expr) n row) s)
  right_reads os l q (Choice' o (more_of-Expr y end_of-Expr) p m (more_of-Expr z end_of-Expr) n (more_of-Expr w end_of-Expr)) s =
      stored os l q (choice_plain o y p m z n w s) (expr_reads found (Place (seen_spot l) ∷ os) (Choice' o (more_of-Expr y end_of-Expr) p m (more_of-Expr z end_of-Expr) n (more_of-Expr w end_of-Expr)) s)

  simple_reads : (os : List Open) (y : from_tree.Simple) (s : Typer) → Reads (At os found) s (in_simple y) (λ a. At os found) (simple y s)
  unfolding simple in_simple
  simple_reads os (x.Assign y q i) s = bind (left_reads os y s) (λ l t. right_reads os l q i t)
  simple_reads os (x.Compound y o q i) s = bind (left_reads os y s) (λ l t. stores os (seen_spot l) (ends (expr_reads found (Place (seen_spot l) ∷ os) i t) (λ j u. compounded_quiet l (compound_of o) q j u)))
  simple_reads os (x.After y o q) s = bind (left_reads os y s) (λ l t. stores os (seen_spot l) (quiet (compounded_quiet l (update_of o) q just_one t)))
  simple_reads os (x.Before o q y) s = bind (left_reads os y s) (λ l t. stores os (seen_spot l) (quiet (compounded_quiet l (update_of o) q just_one t)))

  -- ---- blocks
  begins_reads : (os : List Open) (s : Typer) → Reads (At os found) s (Begins ∷ []) (λ u. At (Block (count s.names) (count s.tags) ∷ os) found) (Gives (tt {0}) s)
  unfolding see
  begins_reads os s = one_at (λ y. one_as (seeing s (Block (count s.names) (count s.tags) ∷ os) found y) [] refl refl refl (nothing_added s) (record { opened = refl; entry = refl }))

  ends_reads : {A : Type 0} (os : List Open) (names tags : ℕ) (b : A) (s : Typer) → Reads (At (Block names tags ∷ os) found) s (Ends ∷ []) (λ (b : A). At os found) (left_scope names tags b s)
  unfolding see
  ends_reads os names tags b s =
      one_at (λ y. one_as (record { scene = within names tags (scene_of s); opened = os; last = y; entry = found }) [] refl refl
      (ap (λ (k : Scope Meaning). record (scene_of s) { names = k; tags = oldest tags s.tags }) (oldest_seen meant names s.names)) (nothing_added s) (record { opened = refl; entry = refl }))

  scoped_reads : {A : Type 0} (os : List Open) (m : Typing A) (es : List Event) (s : Typer) →
      ((inner : List Open) → Reads (At inner found) s es (λ (b : A). At inner found) (m s)) → Reads (At os found) s (Begins ∷ (es ++ Ends ∷ [])) (λ (b : A). At os found) (scoped m s)
  unfolding scoped
  scoped_reads os m es s h =
      then_here (λ u t. and_then (m t) (left_scope (count s.names) (count s.tags))) (begins_reads os s)
      (bind (h (Block (count s.names) (count s.tags) ∷ os)) (λ b t. ends_reads os (count s.names) (count s.tags) b t))

  -- ---- statements
  directive_reads : (os : List Open) (q : Pos) (y : Directive) (s : Typer) → Reads (At os found) s (in_directive q y) (λ (u : Unit {0}). At os found) (directive q y s)
  unfolding see
  directive_reads os q d.Wait s = one (λ m e h. refused_one 23 q m (fault 23 q ∷ []) refl refl e (refused_noted 23 q s) h)
  directive_reads os q d.Partition s = quiet quiet_gives
  directive_reads os q (d.KnownFact y) s = quiet quiet_gives
  directive_reads os q (d.Assert y) s = quiet quiet_gives

  mutual
    unfolding stmt in_stmt

    stmt_reads : (os : List Open) (y : stmts.Stmt) (ss : List Stmt) (s : Typer) → Reads (At os found) s (in_stmt y) (λ ss. At os found) (stmt y ss s)
    stmt_reads os (stmts.Block' p n row r) ss s = ends (scoped_reads os (items row []) (in_items row) s (λ inner. items_reads inner row [] s)) (λ ts t. quiet_gives)
    stmt_reads os (stmts.Simple y) ss s = ends (simple_reads os y s) (λ y t. quiet_gives)
    stmt_reads os (stmts.Directive q y) ss s = ends (directive_reads os q y s) (λ u t. quiet_gives)
    stmt_reads os _ ss s = quiet quiet_gives

    items_reads : {n : _} (os : List Open) (row : Row_of-BlockItem n) (ss : List Stmt) (s : Typer) → Reads (At os found) s (in_items row) (λ ss. At os found) (items row ss s)
    items_reads os end_of-BlockItem ss s = quiet quiet_gives
    items_reads os (more_of-BlockItem i rest) ss s = bind (item_reads os i ss s) (λ ss t. items_reads os rest ss t)

    item_reads : (os : List Open) (i : blocks.BlockItem) (ss : List Stmt) (s : Typer) → Reads (At os found) s (in_item i) (λ ss. At os found) (item i ss s)
    item_reads os (blocks.Local l) ss s = local_reads os found l ss s
    item_reads os (blocks.Stmt y) ss s = stmt_reads os y ss s

  block_reads : (os : List Open) (is : List BlockItem) (s : Typer) → Reads (At os found) s (Begins ∷ (flat_map in_item is ++ Ends ∷ [])) (λ ss. At os found) (block is s)
  unfolding block
  block_reads os is s = scoped_reads os (body.items is []) (flat_map in_item is) s (λ inner. all_parts (λ (ss : List Stmt). At inner found) item in_item (λ i ss s. item_reads inner i ss s) is [] s)

  -- ---- main
  stray_reads : (os : List Open) (c : Bool) (p : Pos) (s : Typer) → Reads (At os found) s (stray_if c p) (λ (u : Unit {0}). At os found) (refuse_if c 23 p s)
  unfolding see
  stray_reads os true p s = one (λ m e h. refused_one 23 p m (fault 23 p ∷ []) refl refl e (refused_noted 23 p s) h)
  stray_reads os false p s = quiet quiet_gives

  by_reads : (os : List Open) (o : Option (List BlockItem)) (i : BlockItem) (b : Body) (s : Typer) → Reads (At os found) s (in_loop_or_item o i) (λ b. At os found) (main_by o i b s)
  by_reads os (Some before) i b s = ends (block_reads os before s) (λ ss t. quiet_gives)
  by_reads os None i b s = ends (item_reads os i b.stmts s) (λ ss t. quiet_gives)

  main_item_reads : (os : List Open) (i : BlockItem) (b : Body) (s : Typer) → Reads (At os found) s (stray_if b.clock (item_pos i) ++ in_loop_or_item (clock_loop i) i) (λ b. At os found) (main_item i b s)
  unfolding main_item
  main_item_reads os i b s = bind (stray_reads os b.clock (item_pos i) s) (λ u t. by_reads os (clock_loop i) i b t)

  main_items_reads : (os : List Open) (is : List BlockItem) (b : Body) (c : Bool) (s : Typer) → b.clock ≡ c → Reads (At os found) s (in_main c is) (λ b. At os found) (main_items is b s)
  unfolding each in_main
  main_items_reads os [] b c s h = quiet quiet_gives
  main_items_reads os (i ∷ is) b c s h =
      then_here (each main_item is)
      (subst (λ (k : Bool). Reads (At os found) s (stray_if k (item_pos i) ++ in_loop_or_item (clock_loop i) i) (λ b. At os found) (main_item i b s)) h (main_item_reads os i b s))
      (main_items_reads os is (value (main_item i b s)) (c || is_some (clock_loop i)) (state (main_item i b s)) (clock_after i b s ∙ ap (λ (k : Bool). k || is_some (clock_loop i)) h))

  pub main_block_reads : (os : List Open) (is : List BlockItem) (s : Typer) → Reads (At os found) s (Begins ∷ (in_main false is ++ Ends ∷ [])) (λ b. At os found) (main_block is s)
  unfolding main_block
  main_block_reads os is s = scoped_reads os (main_items is no_body) (in_main false is) s (λ inner. main_items_reads inner is no_body false s refl)
