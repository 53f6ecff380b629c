-- Steps of typing into places.
use Rattle.std.proofs.Common.{◌≡◌, ℕ, Bool, true, false, List, [], ◌∷◌, ◌++◌, refl, sym, ap, ◌∙◌, Option, Some, None}
use Rattle.sa_base.specs.declared.pos.Pos.{Pos}
use Rattle.sa_syntax.specs.declared.decl.Name.{Name}
use Rattle.sa_syntax.specs.declared.expr.Expr.{Expr}
use Rattle.sa_typed.specs.declared.expr.Expr as made
use Rattle.sa_scopes.specs.declared.constant.Value.{Value}
use Rattle.sa_scopes.specs.declared.form.Form.{Form}
use Rattle.sa_scopes.specs.declared.form.Form.TheVariants as form
use Rattle.sa_operands.specs.declared.operand.Operand.{Operand}
use Rattle.sa_operands.specs.declared.operand.Spot as typed
use Rattle.sa_scopes.specs.declared.structs.Member.{Member}
use Rattle.sa_scopes.specs.declared.typer.Typer.{Typer}
use Rattle.sa_scopes.specs.declared.types.Ty.{Ty}
use Rattle.sa_operands.specs.Operands.{sort_of, is_object, expr_or, known_value}
use Rattle.sa_typed.specs.declared.expr.Step.TheVariants as step
use Rattle.sa_operands.specs.Places as places
use Rattle.sa_operands.specs.Places.{form_at, index, indexed_with, element_of, field, field_of, to_member, arrow, is_known}
use Rattle.sa_scopes.specs.Structures.{member_of}
use Rattle.sa_scopes.specs.Values.{is_constant}
use Rattle.sa_scopes.specs.Typing.{Typed, and_then, pure, refuse_if, fault}
use Rattle.sa_rules.specs.Events.{Event, Indexes, Picks, Points, Loads, Assigns}
use Rattle.sa_rules.specs.Rules.{at_if}
use Rattle.sa_rules.specs.Sight.{Open, Place, Sight, see}
use Rattle.sa_rules.specs.Spots.{Spot, lost, element_by, indexed, field_by, member_spot, is_none, lacks_by}
use Rattle.sa_rules.specs.Values.{value_of}
use Rattle.sa_rules.proofs.QuietParts.{index_quiet, arrow_quiet}
use Rattle.sa_rules.proofs.Steps.{At, AtSpot, seeing, seen_spot, one_at, one_as, quiet_one, refused_one, nothing_added, other_added, free_at}
use Rattle.sa_rules.proofs.Walks.{broken, faults_at, meant, seen_as, value, Reads, quiet_to, event, then_event, refused_noted}

abbrev lost_to : typed.Spot → typed.Spot
lost_to l = places.lost (step.Field 0) l

-- ---- indices
element_spot : (p : Pos) (i : made.Expr) (o : Option Form) (l : typed.Spot) (s : Typer) → seen_spot (value (element_of p i o l s)) ≡ element_by o (seen_spot l)
element_spot p i None l s = refl
element_spot p i (Some (form.Array count)) l s = refl
element_spot p i (Some (form.Scalar num)) l s = refl
element_spot p i (Some (form.Struct k)) l s = refl

index_by : (b : Bool) (p : Pos) (i : Operand) (l : typed.Spot) (s : Typer) →
    seen_spot (value (and_then (refuse_if b 5 p s) (λ u. element_of p (expr_or i) (form_at l) (indexed_with i l)))) ≡ indexed (is_constant (known_value i)) (seen_spot l)
index_by true p i l s = element_spot p (expr_or i) (form_at l) (indexed_with i l) _
index_by false p i l s = element_spot p (expr_or i) (form_at l) (indexed_with i l) s

index_spot : (p : Pos) (i : Operand) (l : typed.Spot) (s : Typer) → seen_spot (value (index p i l s)) ≡ indexed (is_constant (known_value i)) (seen_spot l)
unfolding index
index_spot p i l s = index_by (is_object (sort_of i)) p i l s

arrow_by : (b : Bool) (p : Pos) (l : typed.Spot) (s : Typer) → seen_spot (value (and_then (refuse_if b 5 p s) (λ u. pure (lost_to l)))) ≡ lost (seen_spot l)
arrow_by true p l s = refl
arrow_by false p l s = refl

arrow_spot : (p : Pos) (l : typed.Spot) (s : Typer) → seen_spot (value (arrow p l s)) ≡ lost (seen_spot l)
unfolding arrow
arrow_spot p l s = arrow_by (is_known l.shape) p l s

module _ (os : List Open) (found : Bool) where
  index_sees : (x : Expr) (v : Value) (l : typed.Spot) (s : Typer) (y : Ty) → v ≡ value_of (seen_as meant s.names) x →
      see (seeing s (Place (seen_spot l) ∷ os) found y) (Indexes x) ≡ seeing s (Place (indexed (is_constant v) (seen_spot l)) ∷ os) found y
  unfolding see
  index_sees x v l s y h = ap (λ (k : Value). seeing s (Place (indexed (is_constant k) (seen_spot l)) ∷ os) found y) (sym h)

  pub index_reads : (q : Pos) (x : Expr) (i : Operand) (l : typed.Spot) (s : Typer) → known_value i ≡ value_of (seen_as meant s.names) x → Reads (AtSpot os found l) s (Indexes x ∷ []) (AtSpot os found) (index q i l s)
  index_reads q x i l s h =
      one_at (λ y. quiet_one (seeing s (Place (indexed (is_constant (known_value i)) (seen_spot l)) ∷ os) found y) (index_quiet q i l s) (index_sees x (known_value i) l s y h) refl refl
      (record { opened = ap (λ (k : Spot). Place k ∷ os) (sym (index_spot q i l s)); entry = refl }))

  pub arrow_reads : (q : Pos) (l : typed.Spot) (s : Typer) → Reads (AtSpot os found l) s (Points ∷ []) (AtSpot os found) (arrow q l s)
  unfolding see
  arrow_reads q l s =
      event {Z = At (Place (lost (seen_spot l)) ∷ os) found} (λ m a. free_at m (λ v y. record { scene = refl; broken = refl; post = record { opened = refl; entry = refl } }) a)
      (quiet_to (arrow_quiet q l s) (λ m a. record { opened = a.opened ∙ ap (λ (k : Spot). Place k ∷ os) (sym (arrow_spot q l s)); entry = a.entry }))

  -- ---- fields
  picks_see : (s : Typer) (x : Name) (l : typed.Spot) (o : Option Form) (y : Ty) → form_at l ≡ o →
      see (seeing s (Place (seen_spot l) ∷ os) found y) (Picks x) ≡ seeing s (Place (field_by s.structs x.text o (seen_spot l)) ∷ os) found y
  unfolding see
  picks_see s x l o y h = ap (λ (z : Option Form). seeing s (Place (field_by s.structs x.text z (seen_spot l)) ∷ os) found y) h

  picks_broken : (s : Typer) (x : Name) (l : typed.Spot) (o : Option Form) (y : Ty) → form_at l ≡ o → broken (seeing s (Place (seen_spot l) ∷ os) found y) (Picks x) ≡ faults_at 4 (at_if (lacks_by s.structs x.text o) x.pos)
  picks_broken s x l o y h = ap (λ (z : Option Form). faults_at 4 (at_if (lacks_by s.structs x.text z) x.pos)) h

  picked_see : (s : Typer) (x : Name) (l : typed.Spot) (k : ℕ) (o : Option Member) (y : Ty) → form_at l ≡ Some (form.Struct k) → member_of s.structs k x.text ≡ o →
      see (seeing s (Place (seen_spot l) ∷ os) found y) (Picks x) ≡ seeing s (Place (member_spot o (seen_spot l)) ∷ os) found y
  picked_see s x l k o y h e = picks_see s x l (Some (form.Struct k)) y h ∙ ap (λ (z : Option Member). seeing s (Place (member_spot z (seen_spot l)) ∷ os) found y) e

  member_reads : (x : Name) (k : ℕ) (o : Option Member) (l : typed.Spot) (s : Typer) → form_at l ≡ Some (form.Struct k) → member_of s.structs k x.text ≡ o →
      Reads (AtSpot os found l) s (Picks x ∷ []) (AtSpot os found) (to_member x.pos o l s)
  member_reads x k None l s h e =
      one_at (λ y. refused_one 4 x.pos (seeing s (Place (lost (seen_spot l)) ∷ os) found y) (fault 4 x.pos ∷ [])
      (picked_see s x l k None y h e)
      (picks_broken s x l (Some (form.Struct k)) y h ∙ ap (λ (z : Option Member). faults_at 4 (at_if (is_none z) x.pos)) e) refl (refused_noted 4 x.pos s) (record { opened = refl; entry = refl }))
  member_reads x k (Some f) l s h e =
      one_at (λ y. one_as (seeing s (Place (member_spot (Some f) (seen_spot l)) ∷ os) found y) []
      (picked_see s x l k (Some f) y h e)
      (picks_broken s x l (Some (form.Struct k)) y h ∙ ap (λ (z : Option Member). faults_at 4 (at_if (is_none z) x.pos)) e) refl (nothing_added s) (record { opened = refl; entry = refl }))

  field_of_reads : (q : Pos) (x : Name) (o : Option Form) (l : typed.Spot) (s : Typer) → form_at l ≡ o → Reads (AtSpot os found l) s (Picks x ∷ []) (AtSpot os found) (field_of q x o l s)
  field_of_reads q x None l s h =
      one_at (λ y. one_as (seeing s (Place (lost (seen_spot l)) ∷ os) found y) [] (picks_see s x l None y h) (picks_broken s x l None y h) refl (nothing_added s) (record { opened = refl; entry = refl }))
  field_of_reads q x (Some (form.Struct k)) l s h = member_reads x k (member_of s.structs k x.text) l s h refl
  field_of_reads q x (Some (form.Scalar num)) l s h =
      one_at (λ y. refused_one 5 q (seeing s (Place (lost (seen_spot l)) ∷ os) found y) [] (picks_see s x l (Some (form.Scalar num)) y h) (picks_broken s x l (Some (form.Scalar num)) y h) refl (other_added 5 q s refl) (record { opened = refl; entry = refl }))
  field_of_reads q x (Some (form.Array n)) l s h =
      one_at (λ y. refused_one 5 q (seeing s (Place (lost (seen_spot l)) ∷ os) found y) [] (picks_see s x l (Some (form.Array n)) y h) (picks_broken s x l (Some (form.Array n)) y h) refl (other_added 5 q s refl) (record { opened = refl; entry = refl }))

  pub field_reads : (q : Pos) (x : Name) (l : typed.Spot) (s : Typer) → Reads (AtSpot os found l) s (Picks x ∷ []) (AtSpot os found) (field q x l s)
  unfolding field
  field_reads q x l s = field_of_reads q x (form_at l) l s refl

  -- ---- the end of a place
  pub loads : {X : Sight → Type 0} {s : Typer} {xs : List Event} {t : Typed typed.Spot} → Reads X s xs (AtSpot os found) t → Reads X s (xs ++ Loads ∷ []) (λ l. At os found) t
  unfolding see
  loads h = then_event h (λ l m a. free_at m (λ v y. record { scene = refl; broken = refl; post = record { opened = refl; entry = refl } }) a)

  assigns_broken : (s : Typer) (p : Pos) (l : typed.Spot) (b : Bool) (y : Ty) → l.locked ≡ b → broken (seeing s (Place (seen_spot l) ∷ os) found y) (Assigns p) ≡ faults_at 6 (at_if b p) ++ []
  assigns_broken s p l b y h = ap (λ (c : Bool). faults_at 6 (at_if c p) ++ []) h

  assigns_by : (p : Pos) (l : typed.Spot) (b : Bool) (s : Typer) → l.locked ≡ b → Reads (AtSpot os found l) s (Assigns p ∷ []) (AtSpot os found) (and_then (refuse_if b 6 p s) (λ u. pure l))
  unfolding see
  assigns_by p l true s h = one_at (λ y. refused_one 6 p (seeing s (Place (seen_spot l) ∷ os) found y) (fault 6 p ∷ []) refl (assigns_broken s p l true y h) refl (refused_noted 6 p s) (record { opened = refl; entry = refl }))
  assigns_by p l false s h = one_at (λ y. one_as (seeing s (Place (seen_spot l) ∷ os) found y) [] refl (assigns_broken s p l false y h) refl (nothing_added s) (record { opened = refl; entry = refl }))

  pub assigns_reads : (p : Pos) (l : typed.Spot) (s : Typer) → Reads (AtSpot os found l) s (Assigns p ∷ []) (AtSpot os found) (and_then (refuse_if l.locked 6 p s) (λ u. pure l))
  assigns_reads p l s = assigns_by p l l.locked s refl
