-- How many cells and elements there are, in numbers of a machine word.
use Rattle.std.proofs.Common.{◌≡◌, ℕ, zero, suc, ◌+◌, ◌-◌, ◌*◌, ◌^◌, ◌<◌, ◌≤◌, true, false, List, length, drop, get_or, refl, sym, ap, ◌∙◌, inl, inr, length-append, zero-add, arith}
use Rattle.std.specs.Prelude.{min, nat_le, slice_get, Some, None}
use Rattle.std.proofs.lemmas.List.{drop_more, drop_all}
use Rattle.std.proofs.lemmas.Bool.{cases_lt}
use Rattle.std.proofs.lemmas.Bool.Decides.{nat_tests}
use Rattle.sa_typed.specs.Layouts.{Layout, Layouts, row, fields, no_field, field, nums, all_nums, before_field, layout_with, rows}
use Rattle.sa_typed.specs.Cells.{inner_cells, field_cells, most_elements}
use Rattle.sa_typed.specs.declared.shape.Plain.{Plain}
use Rattle.sa_typed.specs.declared.shape.Plain.TheVariants.{Scalar, Struct}
use Rattle.sa_typed.specs.declared.shape.Shape.{Shape}
use Rattle.sa_typed.specs.declared.shape.StructDef.{StructDef}
use Rattle.sa_ir.specs.declared.sizes.Extent.{Extent}
use Rattle.sa_typed.specs.Frames.{size}
use Rattle.sa_ir.specs.Sizes.{sizes, cells_before, cells_for, extent, extent_of, extents_from, among, no_array, made_of, Covers}
use Rattle.sa_ir.proofs.StructLemmas.{among-none, among-struct, extents-at, fields_count}
use Rattle.sa_ir.proofs.StepLemmas.{here, size-small, size-large, size-of-fields}
use Rattle.sa_ir.proofs.SlotLaws.{length-times}

-- ---- structures
pub nothing-extent : extent_of (fields no_field) ≡ record { cells = 0; elements = 0 }
unfolding size inner_cells field_cells nums all_nums
nothing-extent = refl

pub number-extent : (structs : List StructDef) (m : ℕ) (s : Plain) (num : _) → s ≡ Scalar num → extent_of (among structs m (no_array s)) ≡ record { cells = 1; elements = 1 }
unfolding size inner_cells nums among layout_with rows
number-extent structs m s num h = ap (λ (t : Plain). extent_of (among structs m (no_array t))) h

pub beyond-extent : (structs : List StructDef) (m k : ℕ) → m ≤ length structs → m ≤ k → extent_of (among structs m (no_array (Struct k))) ≡ record { cells = 0; elements = 0 }
beyond-extent structs m k h l = ap (λ (t : Layout). extent_of t) (among-none structs m k h l) ∙ nothing-extent

all-before : (ls : Layouts) → (cells_before ls (fields_count ls) ≡ sizes ls) × (before_field ls (fields_count ls) ≡ length (all_nums ls))
unfolding cells_before before_field fields_count sizes all_nums
all-before no_field = (refl, refl)
all-before (field x l ls) =
    let r = all-before ls in
    (ap (λ (k : ℕ). size l + k) r.0, ap (λ (k : ℕ). length (nums l) + k) r.1 ∙ sym (length-append (nums l) (all_nums ls)))

pub length-extents-from : (c e : ℕ) (ls : Layouts) → length (extents_from c e ls) ≡ suc (fields_count ls)
unfolding extents_from fields_count
length-extents-from c e no_field = refl
length-extents-from c e (field x l ls) = ap suc (length-extents-from (c + size l) (e + length (nums l)) ls)

last-extent : (ls : Layouts) → slice_get (extents_from 0 0 ls) (length (extents_from 0 0 ls) - 1) ≡ Some (extent_of (fields ls))
unfolding nums
last-extent ls =
    let n = length-extents-from 0 0 ls in
    let at : length (extents_from 0 0 ls) - 1 ≡ fields_count ls = omega (arith, n) in
    let a = all-before ls in
    let s = size-of-fields ls in
    ap (λ (i : ℕ). slice_get (extents_from 0 0 ls) i) at ∙ extents-at 0 0 ls (fields_count ls) (omega arith)
    ∙ ap (λ (k : ℕ). Some (extent k (0 + before_field ls (fields_count ls)))) (zero-add (cells_before ls (fields_count ls)) ∙ a.0 ∙ sym s)
    ∙ ap (λ (k : ℕ). Some (extent (size (fields ls)) k)) (zero-add (before_field ls (fields_count ls)) ∙ a.1)

module _ (structs : List StructDef) (m : ℕ) (table : List (List Extent)) (covers : Covers structs m table) (k : ℕ) (less : k < m) where
  pub covered : (d : StructDef) × (slice_get structs k ≡ Some d) × (slice_get table k ≡ Some (extents_from 0 0 (made_of structs k d)))
  covered =
      let known = covers.known in
      let d = here structs k (omega (arith, less, known)) in
      (d.0, d.1, covers.each k d.0 less d.1)

  pub in-table : slice_get table k ≡ None → ⊥
  in-table h = let c = covered in let e = c.2 in cc

  pub extents-some : (es : List Extent) → slice_get table k ≡ Some es → slice_get es (length es - 1) ≡ Some (extent_of (among structs m (no_array (Struct k))))
  extents-some es h =
      let c = covered in
      let same : es ≡ extents_from 0 0 (made_of structs k c.0) = let e = c.2 in cc in
      ap (λ (l : List Extent). slice_get l (length l - 1)) same ∙ last-extent (made_of structs k c.0)
      ∙ ap (λ (t : Layout). Some (extent_of t)) (sym (among-struct structs m k c.0 covers.known less c.1))

-- ---- products
pub one-times : (n : ℕ) → 1 * n ≡ n
one-times n = grind arith

pub capped-left : (a x : ℕ) → min (min a (2 ^ 64 - 1) * x) (2 ^ 64 - 1) ≡ min (a * x) (2 ^ 64 - 1)
capped-left a zero = let e : min a (2 ^ 64 - 1) * 0 ≡ 0 = grind arith in let f : a * 0 ≡ 0 = grind arith in rw (e, f) refl
capped-left a (suc x) = elim (cases_lt a (2 ^ 64 - 1)) [
  | inl small ↦ let e : min a (2 ^ 64 - 1) ≡ a = omega (arith, small) in rw e refl
  | inr large ↦
      let e : min a (2 ^ 64 - 1) ≡ 2 ^ 64 - 1 = omega (arith, large) in
      let f : min a (2 ^ 64 - 1) * suc x ≡ min a (2 ^ 64 - 1) * x + min a (2 ^ 64 - 1) = grind arith in
      let g : a * suc x ≡ a * x + a = grind arith in
      omega (arith, large, e, f, g)
]

pub capped-right : (a x : ℕ) → min (a * min x (2 ^ 64 - 1)) (2 ^ 64 - 1) ≡ min (a * x) (2 ^ 64 - 1)
capped-right a x =
    let e : a * min x (2 ^ 64 - 1) ≡ min x (2 ^ 64 - 1) * a = grind arith in
    let f : x * a ≡ a * x = grind arith in
    ap (λ (k : ℕ). min k (2 ^ 64 - 1)) e ∙ capped-left x a ∙ ap (λ (k : ℕ). min k (2 ^ 64 - 1)) f

size-row : (n : ℕ) (l : Layout) → size (row n l) ≡ cells_for n * size l
unfolding cells_for
size-row n l = elim (cases_lt 128 n) [
  | inl large ↦ let t : nat_le n most_elements ≡ false = grind (arith, nat_tests, large) in rw t (size-large n l large ∙ (let e : size l ≡ 1 * size l = grind arith in e))
  | inr small ↦ let t : nat_le n most_elements ≡ true = grind (arith, nat_tests, small) in rw t (size-small n l small)
]

-- the dimensions from one on
module _ (dims : List ℕ) (i n : ℕ) (l : Layout) (less : i < length dims) (is : n ≡ get_or dims i 0) where
  pub next-row : rows (drop i dims) l ≡ row n (rows (drop (i + 1) dims) l)
  unfolding rows
  next-row = ap (λ (ns : List ℕ). rows ns l) (drop_more dims i 0 less) ∙ ap (λ (k : ℕ). row k (rows (drop (i + 1) dims) l)) (sym is)

  pub cells-step : (c : ℕ) → min (min (c * cells_for n) (2 ^ 64 - 1) * size (rows (drop (i + 1) dims) l)) (2 ^ 64 - 1) ≡ min (c * size (rows (drop i dims) l)) (2 ^ 64 - 1)
  cells-step c =
      let e = rows (drop (i + 1) dims) l in
      let z = ap size next-row ∙ size-row n e in
      let g : c * cells_for n * size e ≡ c * (cells_for n * size e) = grind arith in
      capped-left (c * cells_for n) (size e) ∙ ap (λ (k : ℕ). min k (2 ^ 64 - 1)) (g ∙ ap (λ (k : ℕ). c * k) (sym z))

  pub elements-step : (c : ℕ) → min (min (c * n) (2 ^ 64 - 1) * length (nums (rows (drop (i + 1) dims) l))) (2 ^ 64 - 1) ≡ min (c * length (nums (rows (drop i dims) l))) (2 ^ 64 - 1)
  unfolding nums
  elements-step c =
      let e = rows (drop (i + 1) dims) l in
      let z = ap (λ (t : Layout). length (nums t)) next-row ∙ length-times n (nums e) in
      let g : c * n * length (nums e) ≡ c * (n * length (nums e)) = grind arith in
      capped-left (c * n) (length (nums e)) ∙ ap (λ (k : ℕ). min k (2 ^ 64 - 1)) (g ∙ ap (λ (k : ℕ). c * k) (sym z))

-- a shape is its dimensions around its base
pub among-rows : (structs : List StructDef) (m : ℕ) (s : Shape) → among structs m s ≡ rows s.dims (among structs m (no_array s.plain))
unfolding among layout_with rows
among-rows structs m s = refl

-- no dimension is left
pub no-dims : (dims : List ℕ) (i : ℕ) (l : Layout) → length dims ≤ i → rows (drop i dims) l ≡ l
unfolding rows
no-dims dims i l h = ap (λ (ns : List ℕ). rows ns l) (drop_all i dims h)
