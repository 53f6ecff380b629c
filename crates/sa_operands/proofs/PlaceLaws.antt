-- What places promise of the program that the walk ends in.
use Rattle.std.proofs.Common.{◌≡◌, ℕ, zero, suc, ◌+◌, ◌<◌, ◌≤◌, ℤ, pos, Bool, true, false, ◌&&◌, List, [], ◌∷◌, ◌++◌, length, drop, refl, sym, ap, subst, ◌∙◌, arith, Option, Some, None}
use Rattle.std.proofs.lemmas.Bool.Decides.{nat_tests}
use Rattle.std.proofs.lemmas.List.{drop-drop}
use Rattle.std.specs.Prelude.{if◌then◌else◌, IsTrue, slice_get, reverse, not, ◌||◌, ◌==◌}
use Rattle.sa_base.specs.declared.num.Num.{Num}
use Rattle.sa_base.specs.declared.num.Num.TheVariants.{I32}
use Rattle.sa_base.specs.declared.pos.Pos.{Pos}
use Rattle.sa_syntax.specs.declared.decl.Name.{Name}
use Rattle.sa_syntax.specs.declared.expr.PlaceBase.{PlaceBase}
use Rattle.sa_syntax.specs.declared.expr.PlaceBase.TheVariants as base
use Rattle.sa_typed.specs.Constants.{is_constant, is_fixed}
use Rattle.sa_typed.specs.Layouts.{Layout, Layouts, leaf, row, fields, rows, layout_with, layouts_with, nth_field, struct_layout, shape_layout, layout_of, var_layout}
use Rattle.sa_typed.specs.TypedExpressions.{is_named_by, IsNamed, IsVariable}
use Rattle.sa_typed.specs.WellTyped.{typed_step, into, num_of_input, is_fixed_read}
use Rattle.sa_typed.specs.declared.expr.Access.{Access}
use Rattle.sa_typed.specs.declared.expr.Expr.{Expr}
use Rattle.sa_typed.specs.declared.expr.Expr.TheVariants as e
use Rattle.sa_typed.specs.declared.expr.Step.{Step}
use Rattle.sa_typed.specs.declared.expr.Step.TheVariants as step
use Rattle.sa_typed.specs.declared.program.Program.{Program}
use Rattle.sa_typed.specs.declared.program.Var.{Var}
use Rattle.sa_typed.specs.declared.shape.FieldDef.{FieldDef}
use Rattle.sa_typed.specs.declared.shape.Plain.{Plain}
use Rattle.sa_typed.specs.declared.shape.Plain.TheVariants.{Scalar, Struct}
use Rattle.sa_typed.specs.declared.shape.Shape.{Shape}
use Rattle.sa_typed.specs.declared.shape.StructDef.{StructDef}
use Rattle.sa_scopes.specs.declared.constant.Value.TheVariants.{Varies}
use Rattle.sa_operands.specs.declared.operand.Operand.{Operand}
use Rattle.sa_operands.specs.declared.operand.Operand.TheVariants as a
use Rattle.sa_operands.specs.declared.operand.Root.{Root}
use Rattle.sa_operands.specs.declared.operand.Root.TheVariants as root
use Rattle.sa_operands.specs.declared.operand.Spot.{Spot}
use Rattle.sa_scopes.specs.declared.structs.Member.{Member}
use Rattle.sa_scopes.specs.declared.types.Named.{Named}
use Rattle.sa_scopes.specs.declared.types.Named.TheVariants as n
use Rattle.sa_scopes.specs.declared.typer.Typer.{Typer}
use Rattle.sa_scopes.specs.Scopes.{Scope, at, index_of, meaning_of}
use Rattle.sa_scopes.specs.declared.form.Form.{Form}
use Rattle.sa_scopes.specs.declared.form.Form.TheVariants as form
use Rattle.sa_scopes.specs.Forms.{form_by, form_of, inside, form_inside}
use Rattle.sa_scopes.specs.Structures.{Structs, fields_in, member_by, member_at, member_in, member_of}
use Rattle.sa_scopes.specs.Values as values
use Rattle.sa_operands.specs.Operands.{sort_of, is_object, known_value, expr_or, num_or}
use Rattle.sa_operands.specs.Places.{root_by, root_of, pointed_by, pointed, spot_at, variable_at, spot_of, begun, begins, lost, deeper, stepped, indexed_with, element_of, index, to_member, field_of, field, is_known, arrow, var_of, access_of, access, reading, operand_by, operand}
use Rattle.sa_scopes.specs.Typing.{Typed, Typing, Gives, and_then, pure, refused}
use Rattle.sa_scopes.proofs.StructLaws.{FieldsBelow, struct_known}
use Rattle.sa_operands.proofs.RowLaws.{AllSteps, list_layout, all_fixed, steps_append, layout_append, fixed_append, GoodExpr, GoodStep, read_typed, access_typed, access_fixed, at_typed, field_typed, at_fixed, field_fixed, input_typed, type_input, type_read}
use Rattle.sa_scopes.proofs.WalkLaws.{Ends, Later, Well, IsThere, Leads, Any, gives, refuses, refusal, bind, next, from, so, either, unless}
use Rattle.sa_operands.proofs.OperandLaws.{IsGood, LeadsTo, GoodOperand, struct_in, part_good}

-- ---- promises
abbrev pub scalar_by : Form → Option Num
scalar_by (form.Scalar num) = Some num
scalar_by _ = None

abbrev pub scalar_of : Shape → Option Num
scalar_of s = scalar_by (form_of s)

-- what stands so many dimensions inside a shape that is known
abbrev pub there : Option Shape → ℕ → Option Shape
there None n = None
there (Some s) n = Some (inside n s)

-- arrays of such dimensions around that
abbrev pub shaped : List ℕ → Plain → Shape
shaped ns q = record { dims = ns; plain = q }

-- steps into a variable, to what is made so
pub record IsPlace (p : Program) (k : ℕ) (steps : List Step) (l : Layout) (fixed locked : Bool) : Type 0 where
  pub typed : AllSteps p steps
  pub leads : list_layout (Some (layout_of p k)) steps ≡ Some l
  pub constant : fixed ≡ true → all_fixed steps ≡ true
  pub named : IsNamed 0 (slice_get p.vars k)
  pub free : locked ≡ false → IsVariable (slice_get p.vars k)

-- an input as a whole
pub record IsInput (p : Program) (k : ℕ) (num : Num) (shape : Shape) (locked : Bool) : Type 0 where
  pub there : num_of_input (slice_get p.inputs k) ≡ Some num
  pub scalar : scalar_of shape ≡ Some num
  pub kept : locked ≡ true

abbrev pub IsAt : Program → Spot → Root → Option Shape → Type 0
IsAt p l root.Nothing o = ⊥
IsAt p l (root.Variable k) None = ⊥
IsAt p l (root.Variable k) (Some shape) = IsPlace p k l.steps (shape_layout p.structs shape) l.fixed l.locked
IsAt p l (root.Input k num) None = ⊥
IsAt p l (root.Input k num) (Some shape) = IsInput p k num shape l.locked

abbrev pub GoodSpot : Program → Spot → Type 0
GoodSpot p l = IsAt p l l.root (there l.shape l.depth)

-- a variable or an input that is there
abbrev pub IsRoot : Program → ℕ → Root → Type 0
IsRoot p vars root.Nothing = ⊥
IsRoot p vars (root.Variable k) = k < vars
IsRoot p vars (root.Input k num) = num_of_input (slice_get p.inputs k) ≡ Some num

-- ---- names
at_there : {A : Type 0} (xs : List A) (o : Option ℕ) (x : A) → at xs o ≡ Some x → (i : ℕ) × (slice_get xs i ≡ Some x)
at_there xs None x h = cc
at_there xs (Some i) x h = (i, h)

-- what a name stands for is among the meanings
pub meaning_there : {M : Type 0} (s : Scope M) (w : List ℕ) (m : M) → meaning_of s w ≡ Some m → (i : ℕ) × (slice_get s.meanings i ≡ Some m)
unfolding meaning_of
meaning_there s w m h = at_there s.meanings (index_of s w) m h

within : {A : Type 0} (xs : List A) (k : ℕ) → k < length xs → (x : A) × (slice_get xs k ≡ Some x)
within [] k h = absurd (omega arith)
within (x ∷ xs) zero h = (x, refl)
within (x ∷ xs) (suc k) h = within xs k (omega arith)

module _ (p : Program) where
  root_leads : {X : Type 0} (q : Pos) (s : Typer) (o : Option Named) → ((m : Named) → o ≡ Some m → Well p s → IsThere p (length s.structs.defs) (length s.vars) m) →
      Leads p X s (λ r t. IsRoot p (length t.vars) r) (root_by q o s)
  root_leads q s None h = refuses 1 q
  root_leads q s (Some (n.Variable k)) h = gives (λ w x e. h (n.Variable k) refl w)
  root_leads q s (Some (n.Input k num)) h = gives (λ w x e. h (n.Input k num) refl w)
  root_leads q s (Some (n.Alias ty)) h = refuses 5 q
  root_leads q s (Some n.Function) h = refuses 5 q

  pointed_leads : {X : Type 0} (star q : Pos) (s : Typer) (o : Option Named) → Leads p X s (λ r t. IsRoot p (length t.vars) r) (pointed_by star q o s)
  pointed_leads star q s None = refuses 1 q
  pointed_leads star q s (Some m) = refuses 5 star

  whole_layout : (k : ℕ) (v : Var) → slice_get p.vars k ≡ Some v → layout_of p k ≡ shape_layout p.structs v.shape
  unfolding layout_of
  whole_layout k v h = ap (var_layout p.structs) h

  -- a variable as a whole
  variable_good : (q : Pos) (k : ℕ) (o : Option Var) (v : Var) → o ≡ Some v → slice_get p.vars k ≡ Some v → is_named_by 0 v.home ≡ true → GoodSpot p (variable_at q k o)
  unfolding AllSteps list_layout all_fixed
  variable_good q k None v h g n = cc
  variable_good q k (Some u) v h g n =
      let same : u ≡ v = cc in
      let here : slice_get p.vars k ≡ Some u = g ∙ sym h in
      record { typed = tt; leads = ap (λ (l : Layout). Some l) (whole_layout k u here); constant = λ f. refl; named = subst (IsNamed 0) (sym g) n; free = λ e. subst IsVariable (sym here) e }

  spot_good : (s : Typer) (q : Pos) (r : Root) → Well p s → Ends p s → IsRoot p (length s.vars) r → GoodSpot p (spot_of s q r)
  unfolding spot_of
  spot_good s q (root.Variable k) w e h = let v = within s.vars k h in variable_good q k (slice_get s.vars k) v.0 v.1 (e.vars k v.0 v.1) (w.vars k v.0 v.1).home
  spot_good s q (root.Input k num) w e h = record { there = h; scalar = refl; kept = refl }
  spot_good s q root.Nothing w e h = absurd h

  spot_leads : (q : Pos) (r : Root) (s : Typer) → Leads p (IsRoot p (length s.vars) r) s (λ l t. GoodSpot p l) (Gives (spot_of s q r) s)
  spot_leads q r s = gives (λ w x e. spot_good s q r w e x)

  begun_leads : {X : Type 0} (q : Pos) (m : Typing Root) (s : Typer) → Leads p X s (λ r t. IsRoot p (length t.vars) r) (m s) → Leads p X s (λ l t. GoodSpot p l) (begun q m s)
  begun_leads q m s h = bind {Z = λ r t. IsRoot p (length t.vars) r} h (λ r t l x w y. y) (λ r t. spot_leads q r t)

  pub begins_leads : {X : Type 0} (b : PlaceBase) (s : Typer) → Leads p X s (λ l t. GoodSpot p l) (begins b s)
  unfolding begins
  begins_leads (base.Name x) s =
      begun_leads x.pos (root_of x) s (root_leads x.pos s (meaning_of s.names x.text) (λ m h w. let i = meaning_there s.names x.text m h in w.names i.0 m i.1))
  begins_leads (base.Through q star x) s = begun_leads x.pos (pointed star x) s (pointed_leads star x.pos s (meaning_of s.names x.text))
  begins_leads (base.Star star x) s = begun_leads x.pos (pointed star x) s (pointed_leads star x.pos s (meaning_of s.names x.text))

  -- ---- steps
  and_first : (x y : Bool) → (x && y) ≡ true → x ≡ true
  and_first true y h = refl
  and_first false y h = cc

  or_first : (x y : Bool) → (x || y) ≡ false → x ≡ false
  or_first true y h = cc
  or_first false y h = refl

  and_rest : (x y : Bool) → (x && y) ≡ true → y ≡ true
  and_rest true y h = h
  and_rest false y h = cc

  -- one step further into a variable
  one_further : (k : ℕ) (steps : List Step) (l m : Layout) (fixed more locked kept : Bool) (x : Step) → IsPlace p k steps l fixed locked → GoodStep p x → typed_step l x ≡ Some m → (more ≡ true → (fixed ≡ true) × (is_fixed x ≡ true)) →
      (kept ≡ false → locked ≡ false) → IsPlace p k (steps ++ x ∷ []) m more kept
  one_further k steps l m fixed more locked kept x h t s f g = record {
    typed = steps_append p steps x h.typed t;
    leads = layout_append (Some (layout_of p k)) steps x ∙ ap (λ (o : Option Layout). into o x) h.leads ∙ s;
    constant = λ e. fixed_append steps x (h.constant (f e).0) (f e).1;
    named = h.named;
    free = λ e. h.free (g e);
  }

  -- an object that isn't a number is in a variable
  stepped_good : (l m : Spot) (r : Root) (shape inner : Shape) (x : Step) → m.steps ≡ l.steps ++ x ∷ [] → scalar_of shape ≡ None → GoodStep p x →
      typed_step (shape_layout p.structs shape) x ≡ Some (shape_layout p.structs inner) → (m.fixed ≡ true → (l.fixed ≡ true) × (is_fixed x ≡ true)) → (m.locked ≡ false → l.locked ≡ false) →
      IsAt p l r (Some shape) → IsAt p m r (Some inner)
  stepped_good l m root.Nothing shape inner x e n t s f g h = h
  stepped_good l m (root.Variable k) shape inner x e n t s f g h =
      subst (λ (steps : List Step). IsPlace p k steps (shape_layout p.structs inner) m.fixed m.locked) (sym e)
      (one_further k l.steps (shape_layout p.structs shape) (shape_layout p.structs inner) l.fixed m.fixed l.locked m.locked x h t s f g)
  stepped_good l m (root.Input k num) shape inner x e n t s f g h = let c = h.scalar in cc (n, c)

  row_step : (n : ℕ) (m : Layout) (q : Pos) (x : Expr) → typed_step (row n m) (step.At q n x) ≡ Some m
  unfolding Rattle.sa_typed.specs.declared.expr.Expr.TheBlock.hidden-the_row-Expr-1 denote.Hole.Carrier.hidden
  row_step n m q x = let t : (n == n) ≡ true = grind (arith, nat_tests) in rw t refl

  known_shape : (l : Spot) (r : Root) (o : Option Shape) → IsAt p l r o → is_known o ≡ true
  known_shape l root.Nothing o h = absurd h
  known_shape l (root.Variable k) None h = absurd h
  known_shape l (root.Variable k) (Some shape) h = refl
  known_shape l (root.Input k num) None h = absurd h
  known_shape l (root.Input k num) (Some shape) h = refl

  known_there : (l : Spot) (r : Root) (o : Option Shape) (d : ℕ) → IsAt p l r (there o d) → is_known o ≡ true
  known_there l r None d h = known_shape l r None h
  known_there l r (Some shape) d h = refl

  array_step : (n : ℕ) (ns : List ℕ) (t : Plain) (q : Pos) (x : Expr) → typed_step (shape_layout p.structs (shaped (n ∷ ns) t)) (step.At q n x) ≡ Some (shape_layout p.structs (shaped ns t))
  unfolding layout_with rows
  array_step n ns t q x = row_step n (shape_layout p.structs (shaped ns t)) q x

  -- given the dimensions that are left
  element_by : (q : Pos) (i : Operand) (shape : Shape) (d : ℕ) (l : Spot) (ns : List ℕ) (t : Plain) (s : Typer) → drop d shape.dims ≡ ns → shape.plain ≡ t →
      Leads p (IsGood p (expr_or i) (num_or i) (known_value i) × IsAt p l l.root (Some (shaped ns t))) s (λ l t. GoodSpot p l) (element_of q (expr_or i) (Some (form_by ns t)) (indexed_with i (record l { shape = Some shape; depth = d })) s)
  element_by q i shape d l [] (Scalar num) s e g = refuses 5 q
  element_by q i shape d l [] (Struct k) s e g = refuses 5 q
  element_by q i shape d l (n ∷ ns) t s e g =
      let x = step.At q n (expr_or i) in
      let m = deeper x (indexed_with i (record l { shape = Some shape; depth = d })) in
      let rest : inside (d + 1) shape ≡ shaped ns t = ap (λ (js : List ℕ). shaped js shape.plain) (sym (drop-drop 1 d shape.dims) ∙ ap (drop 1) e) ∙ ap (shaped ns) g in
      gives (λ w h k.
      subst (λ (o : Shape). IsAt p m l.root (Some o)) (sym rest)
      (stepped_good l m l.root (shaped (n ∷ ns) t) (shaped ns t) x refl refl (at_typed p q n (expr_or i) h.0.typed) (array_step n ns t q (expr_or i))
      (λ f. (and_first l.fixed (values.is_constant (known_value i)) f, at_fixed q n (expr_or i) ∙ h.0.constant (and_rest l.fixed (values.is_constant (known_value i)) f))) (λ g. g) h.1))

  element_leads : (q : Pos) (i : Operand) (o : Option Shape) (d : ℕ) (l : Spot) (s : Typer) →
      Leads p (IsGood p (expr_or i) (num_or i) (known_value i) × IsAt p l l.root (there o d)) s (λ l t. GoodSpot p l) (element_of q (expr_or i) (form_inside o d) (indexed_with i (record l { shape = o; depth = d })) s)
  element_leads q i None d l s = gives (λ w x e. let h = known_shape l l.root None x.1 in cc)
  element_leads q i (Some shape) d l s = element_by q i shape d l (drop d shape.dims) shape.plain s refl refl

  pub index_leads : (q : Pos) (i : Operand) (l : Spot) (s : Typer) → Leads p (GoodOperand p i × GoodSpot p l) s (λ l t. GoodSpot p l) (index q i l s)
  unfolding index
  index_leads q i l s = next (unless (is_object (sort_of i)) 5 q) (λ a t. from (λ h. (part_good p i h.0.0 h.1, h.0.1)) (element_leads q i l.shape l.depth l t))

  -- ---- fields
  nth_known : (f : ℕ → Layout) (fs : List FieldDef) (i : ℕ) (d : FieldDef) → slice_get fs i ≡ Some d → nth_field (layouts_with f fs) i ≡ Some (layout_with f d.shape)
  unfolding layouts_with nth_field
  nth_known f [] i d h = cc
  nth_known f (x ∷ fs) zero d h = let same : x ≡ d = cc in ap (λ (y : FieldDef). Some (layout_with f y.shape)) same
  nth_known f (x ∷ fs) (suc i) d h = nth_known f fs i d h

  -- a member is a field of the structure
  record IsMember (defs : List StructDef) (k : ℕ) (m : Member) : Type 0 where
    def : StructDef
    field : FieldDef
    there : slice_get defs k ≡ Some def
    nth : slice_get def.fields m.number ≡ Some field
    shape : m.shape ≡ field.shape

  by_field : (defs : List StructDef) (k i : ℕ) (d : StructDef) (o : Option FieldDef) (c : Option Bool) (m : Member) → slice_get defs k ≡ Some d → slice_get d.fields i ≡ o → member_by i o c ≡ Some m → IsMember defs k m
  by_field defs k i d None c m h g e = cc
  by_field defs k i d (Some f) None m h g e = cc
  by_field defs k i d (Some f) (Some c) m h g e =
      let is : record { number = i; shape = f.shape; constant = c } ≡ m = cc in
      subst (IsMember defs k) is (record { def = d; field = f; there = h; nth = g; shape = refl })

  by_number : (defs : List StructDef) (k : ℕ) (d : StructDef) (names : Scope Bool) (o : Option ℕ) (m : Member) → slice_get defs k ≡ Some d → member_at (Some d) names o ≡ Some m → IsMember defs k m
  by_number defs k d names None m h e = cc
  by_number defs k d names (Some i) m h e = by_field defs k i d (slice_get d.fields i) (slice_get names.meanings i) m h refl e

  no_number : (names : Scope Bool) (o : Option ℕ) (m : Member) → member_at None names o ≡ Some m → ⊥
  no_number names None m e = cc
  no_number names (Some i) m e = cc

  by_struct : (defs : List StructDef) (k : ℕ) (w : List ℕ) (o : Option StructDef) (names : Option (Scope Bool)) (m : Member) → slice_get defs k ≡ o → member_in o names w ≡ Some m → IsMember defs k m
  by_struct defs k w o None m h e = cc
  by_struct defs k w None (Some names) m h e = absurd (no_number names (index_of names w) m e)
  by_struct defs k w (Some d) (Some names) m h e = by_number defs k d names (index_of names w) m h e

  member_known : (st : Structs) (k : ℕ) (w : List ℕ) (m : Member) → member_of st k w ≡ Some m → IsMember st.defs k m
  unfolding member_of
  member_known st k w m e = by_struct st.defs k w (slice_get st.defs k) (slice_get st.members k) m refl e

  fields_step : (ls : Layouts) (i : ℕ) → typed_step (fields ls) (step.Field i) ≡ nth_field ls i
  fields_step ls i = refl

  -- the step to a member
  member_step : (s : Typer) (k : ℕ) (m : Member) → Well p s → Ends p s → IsMember s.structs.defs k m → typed_step (struct_in p k) (step.Field m.number) ≡ Some (shape_layout p.structs m.shape)
  member_step s k m w e h =
      let g = λ (j : ℕ). struct_layout (reverse p.structs) j in
      ap (λ (l : Layout). typed_step l (step.Field m.number)) (struct_known p.structs k h.def (e.structs k h.def h.there) (w.defs k h.def h.there))
      ∙ fields_step (layouts_with g h.def.fields) m.number ∙ nth_known g h.def.fields m.number h.field h.nth ∙ ap (λ (x : Shape). Some (layout_with g x)) (sym h.shape)

  to_member_leads : (q : Pos) (k : ℕ) (l : Spot) (s : Typer) (o : Option Member) → ((m : Member) → o ≡ Some m → IsMember s.structs.defs k m) →
      Leads p (IsAt p l l.root (Some (shaped [] (Struct k)))) s (λ l t. GoodSpot p l) (to_member q o l s)
  unfolding layout_with rows
  to_member_leads q k l s None h = refuses 4 q
  to_member_leads q k l s (Some m) h =
      gives (λ w x e.
      stepped_good l (stepped (step.Field m.number) m.shape (l.locked || m.constant) l) l.root (shaped [] (Struct k)) m.shape (step.Field m.number) refl refl (field_typed p m.number)
      (member_step s k m w e (h m refl)) (λ f. (f, field_fixed m.number)) (or_first l.locked m.constant) x)

  field_by : (q : Pos) (x : Name) (l : Spot) (ns : List ℕ) (t : Plain) (s : Typer) → Leads p (IsAt p l l.root (Some (shaped ns t))) s (λ l t. GoodSpot p l) (field_of q x (Some (form_by ns t)) l s)
  field_by q x l [] (Scalar num) s = refuses 5 q
  field_by q x l [] (Struct k) s = to_member_leads x.pos k l s (member_of s.structs k x.text) (λ m e. member_known s.structs k x.text m e)
  field_by q x l (n ∷ ns) t s = refuses 5 q

  field_in_leads : (q : Pos) (x : Name) (l : Spot) (o : Option Shape) (d : ℕ) (s : Typer) → Leads p (IsAt p l l.root (there o d)) s (λ l t. GoodSpot p l) (field_of q x (form_inside o d) l s)
  field_in_leads q x l None d s = gives (λ w h e. let k = known_shape l l.root None h in cc)
  field_in_leads q x l (Some shape) d s = field_by q x l (drop d shape.dims) shape.plain s

  pub field_leads : (q : Pos) (x : Name) (l : Spot) (s : Typer) → Leads p (GoodSpot p l) s (λ l t. GoodSpot p l) (field q x l s)
  unfolding field
  field_leads q x l s = field_in_leads q x l l.shape l.depth s

  pub arrow_leads : (q : Pos) (l : Spot) (s : Typer) → Leads p (GoodSpot p l) s (λ l t. GoodSpot p l) (arrow q l s)
  unfolding arrow
  arrow_leads q l s = next (unless (is_known l.shape) 5 q) (λ a t. gives (λ w x e. let h = known_there l l.root l.shape l.depth x.0 in let g = x.1 in cc))

  -- ---- the whole place
  access_good : (k : ℕ) (steps : List Step) (l : Layout) (fixed locked : Bool) → IsPlace p k steps l fixed locked → LeadsTo p l fixed (access_of (root.Variable k) steps)
  access_good k steps l fixed locked h = record { place = access_typed p k steps l h.typed h.leads h.named; constant = λ f. access_fixed k steps (h.constant f) }

  operand_by_leads : (l : Spot) (r : Root) (ns : List ℕ) (t : Plain) → IsAt p l r (Some (shaped ns t)) → GoodOperand p (operand_by (record l { root = r }) (Some (form_by ns t)))
  unfolding layout_with rows
  operand_by_leads l root.Nothing ns t h = absurd h
  operand_by_leads l (root.Variable k) [] (Scalar num) h = record { typed = read_typed p k l.steps num h.typed h.leads h.named; is = type_read (access_of (root.Variable k) l.steps) num; constant = λ c. cc }
  operand_by_leads l (root.Variable k) [] (Struct j) h = access_good k l.steps (struct_in p j) l.fixed l.locked h
  operand_by_leads l (root.Variable k) (n ∷ ns) t h = tt
  operand_by_leads l (root.Input k num) [] (Scalar m) h = record { typed = input_typed p k m (h.there ∙ sym h.scalar); is = type_input k m; constant = λ c. cc }
  operand_by_leads l (root.Input k num) [] (Struct j) h = let c = h.scalar in cc
  operand_by_leads l (root.Input k num) (n ∷ ns) t h = let c = h.scalar in cc

  none_there : (l : Spot) (r : Root) → IsAt p l r None → ⊥
  none_there l root.Nothing h = h
  none_there l (root.Variable k) h = h
  none_there l (root.Input k num) h = h

  operand_at : (l : Spot) (r : Root) (o : Option Shape) (d : ℕ) → IsAt p l r (there o d) → GoodOperand p (operand_by (record l { root = r }) (form_inside o d))
  operand_at l r None d h = absurd (none_there l r h)
  operand_at l r (Some shape) d h = operand_by_leads l r (drop d shape.dims) shape.plain h

  pub operand_good : (l : Spot) → GoodSpot p l → GoodOperand p (operand l)
  unfolding operand
  operand_good l h = operand_at l l.root l.shape l.depth h
