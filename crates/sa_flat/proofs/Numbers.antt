-- Numbers in types: where a conversion changes nothing, and what forms of numbers make.
use Rattle.std.proofs.Common.{◌≡◌, ℕ, ◌+◌, ◌*◌, ◌-◌, ◌^◌, ◌<◌, ◌%◌, ℤ, pos, negsuc, ◌+ℤ◌, ◌-ℤ◌, ◌≤ℤ◌, Bool, true, false, not, List, [], ◌∷◌, ◌++◌, refl, ap, ◌∙◌, subst, arith, Option, Some, None}
use Rattle.std.specs.Prelude.{if◌then◌else◌, ◌==◌, Result, Ok, Err}
use Rattle.std.proofs.lemmas.Int.{ints, int_rem_euclid_is}
use Rattle.std.proofs.lemmas.Nat.{pow_pos, mod-mul-add}
use Rattle.sa_base.specs.declared.alarm.Kind.{Kind}
use Rattle.sa_base.specs.declared.num.Num.{Num}
use Rattle.sa_interval.specs.Span.{Span, Within, cut}
use Rattle.sa_interval.specs.Rows.{is_part, sum_of, difference_of}
use Rattle.sa_interval.proofs.Sums.{least_sum, least_difference}
use Rattle.sa_typed.specs.Arithmetic.{bits, is_signed, is_of, IsOf, wrapped, as_num, in_type}
use Rattle.sa_typed.proofs.ArithmeticLaws.{unsigned_low, unsigned_high, is_of_to}
use Rattle.sa_operators.specs.Operators.{range_of}
use Rattle.sa_operators.proofs.FitLaws.{uncut_of, is_part_from, within_part}
use Rattle.sa_env.specs.declared.form.Form.{Form}
use Rattle.sa_env.specs.declared.form.Term.{Term}
use Rattle.sa_flat.specs.Forms.{listed, terms, form_of, turned, negative, sum_form, difference_form, signed, term_number, form_number}
use Rattle.sa_flat.proofs.Lawful.{IfAlive, IsForm}

-- ---- conversions that change nothing
below_mod : (m n : ℕ) → m < n → m % n ≡ m
below_mod m n h = let e : 0 * n + m ≡ m = omega arith in subst (λ (k : ℕ). k % n ≡ m) e (mod-mul-add 0 n m h)

wrapped_same : (num : Num) (z : ℤ) → is_signed num ≡ false → IsOf num z → wrapped num z ≡ z
unfolding wrapped
wrapped_same num (pos m) e h =
    let high : pos m ≤ℤ pos (2 ^ bits num - 1) = subst (λ (k : ℤ). pos m ≤ℤ k) (unsigned_high num e) h.high in
    let some = pow_pos (bits num) in
    let under : m < 2 ^ bits num = omega (arith, ints) in
    int_rem_euclid_is (pos m) (pos (2 ^ bits num)) (2 ^ bits num) 0 m some refl (omega (arith, ints)) ∙ ap pos (below_mod m (2 ^ bits num) under)
wrapped_same num (negsuc m) e h =
    let low : pos 0 ≤ℤ negsuc m = subst (λ (k : ℤ). k ≤ℤ negsuc m) (unsigned_low num e) h.low in absurd (omega (arith, ints))

pub as_num_same : (num : Num) (z : ℤ) → IsOf num z → as_num num z ≡ z
unfolding as_num
as_num_same num z h = elim (is_signed num) as (λ b. is_signed num ≡ b → (if b then z else wrapped num z) ≡ z) [ true ↦ λ e. refl | false ↦ λ e. wrapped_same num z e h ] refl

pub in_type_same : (kind : Kind) (num : Num) (z : ℤ) → IsOf num z → in_type kind num z ≡ Ok z
unfolding in_type
in_type_same kind num z h =
    elim (is_signed num) as (λ b. is_signed num ≡ b → (if b then (if is_of num z then Ok z else Err kind) else Ok (wrapped num z)) ≡ Ok z) [
      | true ↦ λ e. rw (is_of_to num z h) refl
      | false ↦ λ e. ap Ok (wrapped_same num z e h)
    ] refl

abbrev pub gives_ok : ℤ → Result ℤ Kind
gives_ok z = Ok z

pub ok_is : (a b : ℤ) → gives_ok a ≡ gives_ok b → a ≡ b
ok_is a b e = cc

-- of a span in the type
pub of_part : (num : Num) (s : Span) (z : ℤ) → is_part s (range_of num) ≡ true → Within s z → IsOf num z
of_part num s z e h = let k = within_part s (range_of num) z (is_part_from s (range_of num) e) h in record { low = k.above; high = k.below }

pub sum_of_type : (num : Num) (a b : Span) (x y : ℤ) → a.lo ≤ℤ a.hi → b.lo ≤ℤ b.hi → Within a x → Within b y → is_part (sum_of a b) (range_of num) ≡ true → IsOf num (x +ℤ y)
sum_of_type num a b x y oa ob h k e =
    uncut_of num (x +ℤ y) (of_part num (sum_of a b) (cut (x +ℤ y)) e ((least_sum a b oa ob).holds (x +ℤ y) (x, y, h, k, refl)))

pub difference_of_type : (num : Num) (a b : Span) (x y : ℤ) → a.lo ≤ℤ a.hi → b.lo ≤ℤ b.hi → Within a x → Within b y → is_part (difference_of a b) (range_of num) ≡ true → IsOf num (x -ℤ y)
difference_of_type num a b x y oa ob h k e =
    uncut_of num (x -ℤ y) (of_part num (difference_of a b) (cut (x -ℤ y)) e ((least_difference a b oa ob).holds (x -ℤ y) (x, y, h, k, refl)))

-- ---- forms
term_value : Term → (ℕ → ℤ) → ℤ
term_value t at = signed t.plus (at t.cell)

abbrev pub list_number : List Term → (ℕ → ℤ) → ℤ
list_number [] at = pos 0
list_number (t ∷ ts) at = signed t.plus (at t.cell) +ℤ list_number ts at

listed_number : (o : Option Term) (at : ℕ → ℤ) → list_number (listed o) at ≡ term_number o at
listed_number None at = refl
listed_number (Some t) at = omega (arith, ints)

append_number : (ts us : List Term) (at : ℕ → ℤ) → list_number (ts ++ us) at ≡ list_number ts at +ℤ list_number us at
append_number [] us at = omega (arith, ints)
append_number (t ∷ ts) us at = let e = append_number ts us at in omega (arith, ints)

terms_number : (f : Form) (at : ℕ → ℤ) → list_number (terms f) at ≡ term_number f.first at +ℤ term_number f.second at
terms_number f at = append_number (listed f.first) (listed f.second) at ∙ (let a = listed_number f.first at in let b = listed_number f.second at in omega (arith, ints))

some_is_form : (a h : Form) → Some a ≡ Some h → a ≡ h
some_is_form a h e = cc

form_of_number : (ts : List Term) (c : ℤ) (h : Form) (at : ℕ → ℤ) → form_of ts c ≡ Some h → form_number h at ≡ list_number ts at +ℤ c
unfolding form_of
form_of_number [] c h at e = subst (λ (h : Form). form_number h at ≡ pos 0 +ℤ c) (some_is_form _ h e) (omega (arith, ints))
form_of_number (a ∷ []) c h at e = subst (λ (h : Form). form_number h at ≡ (signed a.plus (at a.cell) +ℤ pos 0) +ℤ c) (some_is_form _ h e) (omega (arith, ints))
form_of_number (a ∷ b ∷ []) c h at e =
    elim (a.cell == b.cell) as (λ t. (if t then None else Some (record { first = Some a; second = Some b; c = c })) ≡ Some h →
    form_number h at ≡ (signed a.plus (at a.cell) +ℤ (signed b.plus (at b.cell) +ℤ pos 0)) +ℤ c) [
      | true ↦ λ e. cc
      | false ↦ λ e. subst (λ (h : Form). form_number h at ≡ (signed a.plus (at a.cell) +ℤ (signed b.plus (at b.cell) +ℤ pos 0)) +ℤ c) (some_is_form _ h e) (omega (arith, ints))
    ] e
form_of_number (a ∷ b ∷ t ∷ ts) c h at e = cc

pub sum_number : (f g h : Form) (at : ℕ → ℤ) → sum_form f g ≡ Some h → form_number h at ≡ form_number f at +ℤ form_number g at
unfolding sum_form
sum_number f g h at e =
    form_of_number (terms f ++ terms g) (f.c +ℤ g.c) h at e ∙
    (let a = append_number (terms f) (terms g) at in let b = terms_number f at in let k = terms_number g at in omega (arith, ints))

turned_number : (o : Option Term) (at : ℕ → ℤ) → term_number (turned o) at ≡ pos 0 -ℤ term_number o at
turned_number None at = omega (arith, ints)
turned_number (Some t) at = flipped t.plus (at t.cell)
  where
    flipped : (b : Bool) (z : ℤ) → signed (not b) z ≡ pos 0 -ℤ signed b z
    flipped true z = refl
    flipped false z = omega (arith, ints)

pub negative_number : (f : Form) (at : ℕ → ℤ) → form_number (negative f) at ≡ pos 0 -ℤ form_number f at
negative_number f at = let a = turned_number f.first at in let b = turned_number f.second at in omega (arith, ints)

pub difference_number : (f g h : Form) (at : ℕ → ℤ) → difference_form f g ≡ Some h → form_number h at ≡ form_number f at -ℤ form_number g at
difference_number f g h at e = sum_number f (negative g) h at e ∙ (let k = negative_number g at in omega (arith, ints))

-- ---- the cells of forms
module _ (is_cell : ℕ → Type 0) where
  abbrev AreCells : List Term → Type 0
  AreCells [] = Unit {0}
  AreCells (t ∷ ts) = is_cell t.cell × AreCells ts

  append_cells : (ts us : List Term) → AreCells ts → AreCells us → AreCells (ts ++ us)
  append_cells [] us h k = k
  append_cells (t ∷ ts) us h k = (h.0, append_cells ts us h.1 k)

  listed_cells : (o : Option Term) → IfAlive (λ t. is_cell t.cell) o → AreCells (listed o)
  listed_cells None h = tt
  listed_cells (Some t) h = (h, tt)

  form_of_cells : (ts : List Term) (c : ℤ) → AreCells ts → IfAlive (IsForm is_cell) (form_of ts c)
  unfolding form_of
  form_of_cells [] c h = (tt, tt)
  form_of_cells (a ∷ []) c h = (h.0, tt)
  form_of_cells (a ∷ b ∷ []) c h = elim (a.cell == b.cell) as (λ t. IfAlive (IsForm is_cell) (if t then None else Some (record { first = Some a; second = Some b; c = c }))) [ true ↦ tt | false ↦ (h.0, h.1.0) ]
  form_of_cells (a ∷ b ∷ t ∷ ts) c h = tt

  terms_cells : (f : Form) → IsForm is_cell f → AreCells (terms f)
  terms_cells f h = append_cells (listed f.first) (listed f.second) (listed_cells f.first h.0) (listed_cells f.second h.1)

  pub sum_cells : (f g : Form) → IsForm is_cell f → IsForm is_cell g → IfAlive (IsForm is_cell) (sum_form f g)
  unfolding sum_form
  sum_cells f g h k = form_of_cells (terms f ++ terms g) (f.c +ℤ g.c) (append_cells (terms f) (terms g) (terms_cells f h) (terms_cells g k))

  turned_cells : (o : Option Term) → IfAlive (λ t. is_cell t.cell) o → IfAlive (λ t. is_cell t.cell) (turned o)
  turned_cells None h = tt
  turned_cells (Some t) h = h

  pub negative_cells : (f : Form) → IsForm is_cell f → IsForm is_cell (negative f)
  negative_cells f h = (turned_cells f.first h.0, turned_cells f.second h.1)

  pub difference_cells : (f g : Form) → IsForm is_cell f → IsForm is_cell g → IfAlive (IsForm is_cell) (difference_form f g)
  difference_cells f g h k = sum_cells f (negative g) h (negative_cells g k)
