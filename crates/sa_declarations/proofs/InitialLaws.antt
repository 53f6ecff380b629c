-- Initial values are of the types of their elements, one for each.
use Rattle.std.proofs.Common.{◌≡◌, ℕ, zero, suc, ◌+◌, ◌*◌, ◌<◌, ◌≤◌, ℤ, pos, Bool, true, false, List, [], ◌∷◌, ◌++◌, length, map, replicate, drop, get_or, refl, sym, ap, subst, ◌∙◌, arith, append_assoc, Option, Some, None}
use Rattle.std.proofs.lemmas.Bool.Decides.{Decides-int_eq}
use Rattle.std.proofs.lemmas.List.{append-nil, length-append}
use Rattle.std.specs.Ordering.{int_eq}
use Rattle.std.specs.Prelude.{if◌then◌else◌, slice_get, reverse, IsTrue}
use Rattle.sa_base.specs.declared.num.Num.{Num}
use Rattle.sa_base.specs.declared.num.Num.TheVariants.{I32}
use Rattle.sa_base.specs.declared.pos.Pos.{Pos}
use Rattle.sa_syntax.specs.declared.decl.Init.{Init, Value, Braces', Row_of-Init, end_of-Init, more_of-Init}
use Rattle.sa_typed.specs.Arithmetic.{is_of}
use Rattle.sa_typed.specs.Layouts as layouts
use Rattle.sa_typed.specs.Layouts.{Layout, Layouts, leaf, row, fields, no_field, field, rows, layout_with, layouts_with, struct_layout, shape_layout, layout_of, var_layout, nums, all_nums}
use Rattle.sa_typed.specs.WellTyped.{HasTypedItems}
use Rattle.sa_typed.specs.declared.program.Program.{Program}
use Rattle.sa_typed.specs.declared.program.Var.{Var}
use Rattle.sa_typed.specs.declared.shape.FieldDef.{FieldDef}
use Rattle.sa_typed.specs.declared.shape.Plain.{Plain}
use Rattle.sa_typed.specs.declared.shape.Plain.TheVariants.{Scalar, Struct}
use Rattle.sa_typed.specs.declared.shape.Shape.{Shape}
use Rattle.sa_typed.specs.declared.shape.StructDef.{StructDef}
use Rattle.sa_operands.specs.declared.operand.Operand.{Operand}
use Rattle.sa_operands.specs.declared.operand.Operand.TheVariants as a
use Rattle.sa_scopes.specs.declared.typer.Typer.{Typer}
use Rattle.sa_scopes.specs.First.{expr_pos}
use Rattle.sa_scopes.specs.declared.form.Form.{Form}
use Rattle.sa_scopes.specs.declared.form.Form.TheVariants as form
use Rattle.sa_scopes.specs.Forms.{form_by, form_of, inside, scalar}
use Rattle.sa_scopes.specs.Structures.{Structs, sum_by, sizes_of, elements_in, field_shape, field_shapes, shapes_in, slots_by, slots, slot, missing_by, missing}
use Rattle.sa_operands.specs.Operands.{known_value}
use Rattle.sa_operands.specs.Expressions.{expr}
use Rattle.sa_declarations.specs.Initialisers.{within, item, valued, zeros, slotted, init, braced, is_zero, before_zeros, trimmed}
use Rattle.sa_scopes.specs.Typing.{Typed, Typing, Gives, and_then, pure, refused}
use Rattle.sa_scopes.proofs.StructLaws.{RefersBelow, FieldsBelow, refers_more, struct_known, elements_weight, weight, AreSized, size_weight, sizes_known}
use Rattle.sa_scopes.proofs.WalkLaws.{Ends, Later, Well, Leads, state, Any, gives, refuses, refusal, bind, next, from, here, free, so, either, one_of, unless}
use Rattle.sa_operands.proofs.OperandLaws.{GoodOperand, zero_is_of, constant_leads, no_object_leads}
use Rattle.sa_operands.proofs.PlaceLaws.{shaped}
use Rattle.sa_operands.proofs.ExprLaws.{expr_leads}

-- ---- values of such types
unfoldable pub Fits : List Num → List ℤ → Type 0
Fits [] [] = Unit {0}
Fits [] (z ∷ zs) = ⊥
Fits (n ∷ ns) [] = ⊥
Fits (n ∷ ns) (z ∷ zs) = IsTrue (is_of n z) × Fits ns zs

fits_append : (ns ms : List Num) (zs ys : List ℤ) → Fits ns zs → Fits ms ys → Fits (ns ++ ms) (zs ++ ys)
unfolding Fits
fits_append [] ms [] ys h k = k
fits_append [] ms (z ∷ zs) ys h k = absurd h
fits_append (n ∷ ns) ms [] ys h k = absurd h
fits_append (n ∷ ns) ms (z ∷ zs) ys h k = (h.0, fits_append ns ms zs ys h.1 k)

fits_one : (n : Num) (z : ℤ) → is_of n z ≡ true → Fits (n ∷ []) (z ∷ [])
unfolding Fits
fits_one n z h = (h, tt)

fits_none : Fits [] []
unfolding Fits
fits_none = tt

fits_zeros : (ns : List Num) (n : ℕ) → n ≡ length ns → Fits ns (zeros n)
unfolding Fits
fits_zeros [] zero h = tt
fits_zeros [] (suc n) h = absurd (omega arith)
fits_zeros (m ∷ ns) zero h = absurd (omega arith)
fits_zeros (m ∷ ns) (suc n) h = (zero_is_of m, fits_zeros ns n (omega arith))

fits_get : (ns : List Num) (zs : List ℤ) (i : ℕ) (n : Num) → Fits ns zs → slice_get ns i ≡ Some n → IsTrue (is_of n (get_or zs i (pos 0)))
unfolding Fits
fits_get [] zs i n h e = cc
fits_get (m ∷ ns) [] i n h e = absurd h
fits_get (m ∷ ns) (z ∷ zs) zero n h e = let same : m ≡ n = cc in subst (λ (x : Num). IsTrue (is_of x z)) same h.0
fits_get (m ∷ ns) (z ∷ zs) (suc i) n h e = fits_get ns zs i n h.1 e

-- ---- without the zeros at the end
before_head : (z : ℤ) (zs : List ℤ) → get_or (before_zeros z zs) 0 (pos 0) ≡ z
before_head z [] =
    elim (int_eq z (pos 0)) as (λ b. int_eq z (pos 0) ≡ b → get_or (if b then [] else (z ∷ [])) 0 (pos 0) ≡ z) [ true ↦ λ h. sym ((Decides-int_eq z (pos 0)).0 h) | false ↦ λ h. refl ] refl
before_head z (y ∷ ys) = refl

before_rest : (z : ℤ) (zs : List ℤ) (i : ℕ) → get_or (before_zeros z zs) (suc i) (pos 0) ≡ get_or zs i (pos 0)
before_rest z [] i = elim (is_zero z) as (λ b. get_or (if b then [] else (z ∷ [])) (suc i) (pos 0) ≡ pos 0) [ true ↦ refl | false ↦ refl ]
before_rest z (y ∷ ys) i = refl

trimmed_get : (zs : List ℤ) (i : ℕ) → get_or (trimmed zs) i (pos 0) ≡ get_or zs i (pos 0)
unfolding trimmed
trimmed_get [] i = refl
trimmed_get (z ∷ zs) zero = before_head z (trimmed zs)
trimmed_get (z ∷ zs) (suc i) = before_rest z (trimmed zs) i ∙ trimmed_get zs i

-- ---- items

unfoldable slots_nums : Program → List Shape → List Num
slots_nums p [] = []
slots_nums p (x ∷ xs) = nums (shape_layout p.structs x) ++ slots_nums p xs

abbrev all_structs : Program → Structs
all_structs p = record { defs = p.structs; members = [] }

-- the types of the elements after so many items
abbrev left_by : Program → Shape → Form → ℕ → List Num
left_by p shape (form.Scalar num) k = num ∷ []
left_by p shape f k = slots_nums p (drop k (slots_by (all_structs p) shape f))

abbrev left_nums : Program → Shape → ℕ → List Num
left_nums p shape k = left_by p shape (form_of shape) k

-- a structure that is defined
abbrev FormBelow : ℕ → Form → Type 0
FormBelow n (form.Struct k) = k < n
FormBelow n _ = Unit {0}

form_below_by : (n : ℕ) (ns : List ℕ) (q : Plain) → RefersBelow n (shaped ns q) → FormBelow n (form_by ns q)
form_below_by n [] (Scalar num) h = tt
form_below_by n [] (Struct k) h = h
form_below_by n (m ∷ ns) q h = tt

form_below : (n : ℕ) (shape : Shape) → RefersBelow n shape → FormBelow n (form_of shape)
form_below n shape h = form_below_by n shape.dims shape.plain h

unfoldable AllBelow : ℕ → List Shape → Type 0
AllBelow n [] = Unit {0}
AllBelow n (x ∷ xs) = RefersBelow n x × AllBelow n xs

fields_below : (n k : ℕ) (fs : List FieldDef) → k ≤ n → FieldsBelow k fs → AllBelow n (map field_shape fs)
unfolding FieldsBelow AllBelow
fields_below n k [] le h = tt
fields_below n k (f ∷ fs) le h = (refers_more k n f.shape le h.0, fields_below n k fs le h.1)

same_below : (n m : ℕ) (x : Shape) → RefersBelow n x → AllBelow n (replicate m x)
unfolding AllBelow
same_below n zero x h = tt
same_below n (suc m) x h = (h, same_below n m x h)

drop_below : (n k : ℕ) (xs : List Shape) → AllBelow n xs → AllBelow n (drop k xs)
unfolding AllBelow
drop_below n zero xs h = h
drop_below n (suc k) [] h = tt
drop_below n (suc k) (x ∷ xs) h = drop_below n k xs h.1

get_below : (n k : ℕ) (xs : List Shape) (x : Shape) → AllBelow n xs → slice_get xs k ≡ Some x → RefersBelow n x
unfolding AllBelow
get_below n k [] x h e = cc
get_below n zero (y ∷ xs) x h e = let same : y ≡ x = cc in subst (RefersBelow n) same h.0
get_below n (suc k) (y ∷ xs) x h e = get_below n k xs x h.1 e

get_drop : {A : Type 0} (xs : List A) (k : ℕ) (x : A) → slice_get xs k ≡ Some x → drop k xs ≡ x ∷ drop (suc k) xs
get_drop [] k x e = cc
get_drop (y ∷ xs) zero x e = let same : y ≡ x = cc in ap (λ (z : _). z ∷ xs) same
get_drop (y ∷ xs) (suc k) x e = get_drop xs k x e

module _ (p : Program) where
  -- ---- items
  within_leads : {X : Type 0} (q : Pos) (num : Num) (o : Option ℤ) (s : Typer) → Leads p X s (λ z t. is_of num z ≡ true) (within q num o s)
  within_leads q num None s = gives (λ w h e. zero_is_of num)
  within_leads q num (Some z) s = one_of (is_of num z) _ _ (λ b. gives (λ w h e. b)) (λ b. refuses 20 q)

  item_leads : {X : Type 0} (q : Pos) (num : Num) (x : Operand) (s : Typer) → Leads p X s (λ z t. is_of num z ≡ true) (item q num x s)
  unfolding item
  item_leads q num x s = next (no_object_leads p x s) (λ a t. next (constant_leads p q (known_value x) t) (λ o u. within_leads q num o u))

  valued_by : (q : Pos) (ns : List ℕ) (t : Plain) (x : Operand) (before : List Num) (found : List ℤ) (s : Typer) →
      Leads p (Fits before found) s (λ zs u. Fits (before ++ nums (shape_layout p.structs (shaped ns t))) zs) (valued q (form_by ns t) x found s)
  unfolding layout_with rows nums
  valued_by q [] (Scalar num) x before found s = next (item_leads q num x s) (λ z t. gives (λ w h e. fits_append before (num ∷ []) found (z ∷ []) h.0 (fits_one num z h.1)))
  valued_by q [] (Struct k) x before found s = refuses 20 q
  valued_by q (n ∷ ns) t x before found s = refuses 20 q

  valued_leads : (q : Pos) (shape : Shape) (x : Operand) (before : List Num) (found : List ℤ) (s : Typer) →
      Leads p (Fits before found) s (λ zs t. Fits (before ++ nums (shape_layout p.structs shape)) zs) (valued q (form_of shape) x found s)
  valued_leads q shape x before found s = valued_by q shape.dims shape.plain x before found s

  -- ---- slots
  fields_nums : (fs : List FieldDef) → all_nums (layouts_with (λ k. struct_layout (reverse p.structs) k) fs) ≡ slots_nums p (map field_shape fs)
  unfolding layouts_with nums slots_nums
  fields_nums [] = refl
  fields_nums (f ∷ fs) = ap (λ (ns : List Num). nums (shape_layout p.structs f.shape) ++ ns) (fields_nums fs)

  same_nums : (n : ℕ) (x : Shape) → layouts.times n (nums (shape_layout p.structs x)) ≡ slots_nums p (replicate n x)
  unfolding layouts.times slots_nums
  same_nums zero x = refl
  same_nums (suc n) x = ap (λ (ns : List Num). nums (shape_layout p.structs x) ++ ns) (same_nums n x)

  struct_there : (s : Typer) (k : ℕ) → k < length s.structs.defs → (d : StructDef) × (slice_get s.structs.defs k ≡ Some d)
  struct_there s k h = among s.structs.defs k h
    where
      among : (ds : List StructDef) (k : ℕ) → k < length ds → (d : StructDef) × (slice_get ds k ≡ Some d)
      among [] k h = absurd (omega arith)
      among (d ∷ ds) zero h = (d, refl)
      among (d ∷ ds) (suc k) h = among ds k (omega arith)

  slots_same : (s : Typer) (shape : Shape) (f : Form) → Ends p s → FormBelow (length s.structs.defs) f → slots_by s.structs shape f ≡ slots_by (all_structs p) shape f
  slots_same s shape (form.Scalar num) e h = refl
  slots_same s shape (form.Struct k) e h = let d = struct_there s k h in ap shapes_in (d.1 ∙ sym (e.structs k d.0 d.1))
  slots_same s shape (form.Array n) e h = refl

  slots_below : (s : Typer) (shape : Shape) (f : Form) → Well p s → RefersBelow (length s.structs.defs) shape → FormBelow (length s.structs.defs) f → AllBelow (length s.structs.defs) (slots_by s.structs shape f)
  unfolding AllBelow
  slots_below s shape (form.Scalar num) w h g = tt
  slots_below s shape (form.Struct k) w h g =
      let d = struct_there s k g in
      subst (λ (o : Option StructDef). AllBelow (length s.structs.defs) (shapes_in o)) (sym d.1) (fields_below (length s.structs.defs) k d.0.fields (omega arith) (w.defs k d.0 d.1))
  slots_below s shape (form.Array n) w h g = same_below (length s.structs.defs) n (inside 1 shape) h

  sum_slots : (n : ℕ) (sizes : List ℕ) (xs : List Shape) → AreSized false p.structs n sizes → AllBelow n xs → sum_by false sizes xs ≡ length (slots_nums p xs)
  unfolding sum_by slots_nums AllBelow
  sum_slots n sizes [] z h = refl
  sum_slots n sizes (x ∷ xs) z h =
      let one = size_weight false p.structs n sizes x z h.0 ∙ elements_weight (shape_layout p.structs x) in
      let more = sum_slots n sizes xs z h.1 in
      let both = length-append (nums (shape_layout p.structs x)) (slots_nums p xs) in
      omega (arith, one, more, both)

  slots_count : (s : Typer) (shape : Shape) (f : Form) (k : ℕ) → Well p s → Ends p s → RefersBelow (length s.structs.defs) shape → FormBelow (length s.structs.defs) f →
      elements_in s.structs (drop k (slots_by s.structs shape f)) ≡ length (slots_nums p (drop k (slots_by (all_structs p) shape f)))
  unfolding elements_in
  slots_count s shape f k w e h g =
      sum_slots (length s.structs.defs) (sizes_of false s.structs.defs) (drop k (slots_by s.structs shape f)) (sizes_known false p.structs s.structs.defs e.structs w.defs)
      (drop_below (length s.structs.defs) k (slots_by s.structs shape f) (slots_below s shape f w h g))
      ∙ ap (λ (xs : List Shape). length (slots_nums p (drop k xs))) (slots_same s shape f e g)

  count_by : (s : Typer) (shape : Shape) (f : Form) (k : ℕ) → Well p s → Ends p s → RefersBelow (length s.structs.defs) shape → FormBelow (length s.structs.defs) f → missing_by s.structs shape f k ≡ length (left_by p shape f k)
  count_by s shape (form.Scalar num) k w e h g = refl
  count_by s shape (form.Struct j) k w e h g = slots_count s shape (form.Struct j) k w e h g
  count_by s shape (form.Array n) k w e h g = slots_count s shape (form.Array n) k w e h g

  missing_count : (s : Typer) (shape : Shape) (k : ℕ) → Well p s → Ends p s → RefersBelow (length s.structs.defs) shape → missing s.structs shape k ≡ length (left_nums p shape k)
  unfolding missing
  missing_count s shape k w e h = count_by s shape (form_of shape) k w e h (form_below (length s.structs.defs) shape h)

  slot_nums : (xs : List Shape) (x : Shape) (k : ℕ) → slice_get xs k ≡ Some x → slots_nums p (drop k xs) ≡ nums (shape_layout p.structs x) ++ slots_nums p (drop (k + 1) xs)
  unfolding slots_nums
  slot_nums xs x k h =
      let more : suc k ≡ k + 1 = omega arith in
      ap (slots_nums p) (get_drop xs k x h) ∙ ap (λ (j : ℕ). nums (shape_layout p.structs x) ++ slots_nums p (drop j xs)) more

  next_by : (shape : Shape) (f : Form) (x : Shape) (k : ℕ) → slice_get (slots_by (all_structs p) shape f) k ≡ Some x → left_by p shape f k ≡ nums (shape_layout p.structs x) ++ left_by p shape f (k + 1)
  next_by shape (form.Scalar num) x k h = cc
  next_by shape (form.Struct j) x k h = slot_nums (slots_by (all_structs p) shape (form.Struct j)) x k h
  next_by shape (form.Array n) x k h = slot_nums (slots_by (all_structs p) shape (form.Array n)) x k h

  next_slot : (s : Typer) (shape x : Shape) (k : ℕ) → Ends p s → RefersBelow (length s.structs.defs) shape → slot s.structs shape k ≡ Some x → left_nums p shape k ≡ nums (shape_layout p.structs x) ++ left_nums p shape (k + 1)
  unfolding slot slots
  next_slot s shape x k e h g = next_by shape (form_of shape) x k (ap (λ (xs : List Shape). slice_get xs k) (sym (slots_same s shape (form_of shape) e (form_below (length s.structs.defs) shape h))) ∙ g)

  slot_below : (s : Typer) (shape x : Shape) (k : ℕ) → Well p s → RefersBelow (length s.structs.defs) shape → slot s.structs shape k ≡ Some x → RefersBelow (length s.structs.defs) x
  unfolding slot slots
  slot_below s shape x k w h g =
      get_below (length s.structs.defs) k (slots_by s.structs shape (form_of shape)) x (slots_below s shape (form_of shape) w h (form_below (length s.structs.defs) shape h)) g

  first_by : (s : Typer) (ns : List ℕ) (q : Plain) → Well p s → Ends p s → RefersBelow (length s.structs.defs) (shaped ns q) → left_nums p (shaped ns q) 0 ≡ nums (shape_layout p.structs (shaped ns q))
  unfolding layout_with rows nums
  first_by s [] (Scalar num) w e h = refl
  first_by s [] (Struct k) w e h =
      let d = struct_there s k h in
      let there = e.structs k d.0 d.1 in
      ap (λ (o : Option StructDef). slots_nums p (shapes_in o)) there ∙ sym (fields_nums d.0.fields) ∙ ap nums (sym (struct_known p.structs k d.0 there (w.defs k d.0 d.1)))
  first_by s (n ∷ ns) q w e h = sym (same_nums n (shaped ns q))

  first_slots : (s : Typer) (shape : Shape) → Well p s → Ends p s → RefersBelow (length s.structs.defs) shape → left_nums p shape 0 ≡ nums (shape_layout p.structs shape)
  first_slots s shape w e h = first_by s shape.dims shape.plain w e h

  -- ---- initialisers
  -- an object whose structures are defined, after values that fit
  pub record Starts (s : Typer) (shape : Shape) (before : List Num) (found : List ℤ) : Type 0 where
    pub below : RefersBelow (length s.structs.defs) shape
    pub fits : Fits before found

  -- the same after so many items, with the types of all values in the end
  record IsLeft (s : Typer) (shape : Shape) (k : ℕ) (total : List Num) (found : List ℤ) : Type 0 where
    before : List Num
    below : RefersBelow (length s.structs.defs) shape
    whole : before ++ left_nums p shape k ≡ total
    fits : Fits before found

  ends_row : (s : Typer) (shape : Shape) (k : ℕ) (total : List Num) (found : List ℤ) → Leads p (IsLeft s shape k total found) s (λ zs t. Fits total zs) (Gives (found ++ zeros (missing s.structs shape k)) s)
  ends_row s shape k total found =
      gives (λ w h e.
      subst (λ (ns : List Num). Fits ns (found ++ zeros (missing s.structs shape k))) h.whole
      (fits_append h.before (left_nums p shape k) found (zeros (missing s.structs shape k)) h.fits (fits_zeros (left_nums p shape k) (missing s.structs shape k) (missing_count s shape k w e h.below))))

  -- an item fills its slot
  slot_leads : (q : Pos) (shape : Shape) (k : ℕ) (total : List Num) (found : List ℤ) (s : Typer) (o : Option Shape) (m : Shape → Typing (List ℤ)) → slot s.structs shape k ≡ o →
      ((x : Shape) (before : List Num) (t : Typer) → Leads p (Starts t x before found) t (λ zs u. Fits (before ++ nums (shape_layout p.structs x)) zs) (m x t)) →
      Leads p (IsLeft s shape k total found) s (λ zs t. IsLeft t shape (k + 1) total zs) (slotted q o m s)
  slot_leads q shape k total found s None m g one =
      bind {Y = λ (a : Unit {0}) u. ⊥} {Z = λ a u. ⊥} {f = λ a. m (scalar I32)} (refuses 20 q) (λ a u l x w y. y) (λ a u. record { later = (one (scalar I32) [] u).later; good = λ w h e. absurd {0} h })
  slot_leads q shape k total found s (Some x) m g one = record {
    later = (one x [] s).later;
    good = λ w h e.
        let now = (one x [] s).later.back e in
        let done = (one x h.before s).good w (record { below = slot_below s shape x k w h.below g; fits = h.fits }) e in (
          done.0,
          record {
            before = h.before ++ nums (shape_layout p.structs x);
            below = refers_more (length s.structs.defs) (length (state (m x s)).structs.defs) shape (one x [] s).later.more h.below;
            whole = append_assoc h.before (nums (shape_layout p.structs x)) (left_nums p shape (k + 1)) ∙ ap (λ (ns : List Num). h.before ++ ns) (sym (next_slot s shape x k now h.below g)) ∙ h.whole;
            fits = done.1;
          },
        );
  }

  mutual
    unfolding init

    pub init_leads : (i : Init) (shape : Shape) (before : List Num) (found : List ℤ) (s : Typer) → Leads p (Starts s shape before found) s (λ zs t. Fits (before ++ nums (shape_layout p.structs shape)) zs) (init i shape found s)
    init_leads (Value e) shape before found s = next (free (expr_leads p e s)) (λ x t. from (λ h. h.0.fits) (valued_leads (expr_pos e) shape x before found t))
    init_leads (Braces' q n is) shape before found s =
        here (λ w h e. record { before = before; below = h.below; whole = ap (λ (ns : List Num). before ++ ns) (first_slots s shape w e h.below); fits = h.fits })
        (braced_leads is q shape 0 (before ++ nums (shape_layout p.structs shape)) found s)

    braced_leads : {n : _} (is : Row_of-Init n) (q : Pos) (shape : Shape) (k : ℕ) (total : List Num) (found : List ℤ) (s : Typer) → Leads p (IsLeft s shape k total found) s (λ zs t. Fits total zs) (braced is q shape k found s)
    braced_leads end_of-Init q shape k total found s = ends_row s shape k total found
    braced_leads (more_of-Init i rest) q shape k total found s =
        bind {Z = λ zs t. IsLeft t shape (k + 1) total zs} (slot_leads q shape k total found s (slot s.structs shape k) (λ inner. init i inner found) refl (λ x before t. init_leads i x before found t)) (λ zs t l h w y. y)
        (λ zs t. braced_leads rest q shape (k + 1) total zs t)

  -- an object from its first value on
  pub initial_leads : (i : Init) (shape : Shape) (s : Typer) → Leads p (RefersBelow (length s.structs.defs) shape) s (λ zs t. Fits (nums (shape_layout p.structs shape)) zs) (init i shape [] s)
  initial_leads i shape s = from (λ h. record { below = h; fits = fits_none }) (init_leads i shape [] [] s)

  -- ---- variables
  pub whole_layout : (k : ℕ) (v : Var) → slice_get p.vars k ≡ Some v → layout_of p k ≡ shape_layout p.structs v.shape
  unfolding layout_of
  whole_layout k v h = ap (var_layout p.structs) h

  pub has_items : (k : ℕ) (v : Var) (zs : List ℤ) → slice_get p.vars k ≡ Some v → v.initial ≡ trimmed zs → Fits (nums (shape_layout p.structs v.shape)) zs → HasTypedItems p k v
  has_items k v zs h e f i num g =
      subst (λ (z : ℤ). IsTrue (is_of num z)) (sym (ap (λ (ys : List ℤ). get_or ys i (pos 0)) e ∙ trimmed_get zs i))
      (fits_get (nums (shape_layout p.structs v.shape)) zs i num f (ap (λ (l : Layout). slice_get (nums l) i) (sym (whole_layout k v h)) ∙ g))

  pub has_none : (k : ℕ) (v : Var) → v.initial ≡ [] → HasTypedItems p k v
  has_none k v e i num g = subst (λ (ys : List ℤ). IsTrue (is_of num (get_or ys i (pos 0)))) (sym e) (zero_is_of num)
