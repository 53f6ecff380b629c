-- What braces hold items for.
use Rattle.std.proofs.Common.{◌≡◌, zero, suc, ℕ, ◌+◌, ◌*◌, ◌-◌, ◌<◌, ◌≤◌, List, [], ◌∷◌, false, length, drop, get_or, map, replicate, refl, ap, sym, ◌∙◌, arith, Option, Some, None}
use Rattle.std.specs.Prelude.{slice_get, option_map}
use Rattle.std.proofs.Math.Nat.{suc-mul, zero-mul}
use Rattle.std.proofs.lemmas.List.{drop-map, drop-drop}
use Rattle.std.proofs.lemmas.Option.{slice_get-map}
use Rattle.sa_base.specs.declared.num.Num.{Num}
use Rattle.sa_typed.specs.declared.shape.FieldDef.{FieldDef}
use Rattle.sa_typed.specs.declared.shape.Shape.{Shape}
use Rattle.sa_typed.specs.declared.shape.StructDef.{StructDef}
use Rattle.sa_scopes.specs.declared.form.Form.{Form}
use Rattle.sa_scopes.specs.declared.form.Form.TheVariants as form
use Rattle.sa_scopes.specs.Forms.{form_of, inside}
use Rattle.sa_scopes.specs.Structures.{Structs, size_by, sum_by, sizes_of, field_shape, fields_in, shapes_in, slots_by, slots, slot, missing_by, missing, elements_in}

-- ---- slots
fields-get : (d : Option StructDef) (i : ℕ) → slice_get (shapes_in d) i ≡ option_map field_shape (slice_get (fields_in d) i)
fields-get None i = refl
fields-get (Some d) i = slice_get-map field_shape d.fields i

pub get-within : (x : Shape) (n i : ℕ) → i < n → slice_get (replicate n x) i ≡ Some x
get-within x zero i h = absurd (omega arith)
get-within x (suc n) zero h = refl
get-within x (suc n) (suc i) h = get-within x n i (omega arith)

pub get-past : (x : Shape) (n i : ℕ) → n ≤ i → slice_get (replicate n x) i ≡ None
get-past x zero i h = refl
get-past x (suc n) zero h = absurd (omega arith)
get-past x (suc n) (suc i) h = get-past x n i (omega arith)

pub ruleset same_rows = (get-within, get-past)

by_form : (s : Structs) (shape : Shape) (f : Form) (i : ℕ) → form_of shape ≡ f → slot s shape i ≡ slice_get (slots_by s shape f) i
unfolding slot slots
by_form s shape f i h = ap (λ (g : Form). slice_get (slots_by s shape g) i) h

pub slot-Scalar : (s : Structs) (shape : Shape) (num : Num) (i : ℕ) → form_of shape ≡ form.Scalar num → slot s shape i ≡ None
slot-Scalar s shape num i h = by_form s shape (form.Scalar num) i h

pub slot-Struct : (s : Structs) (shape : Shape) (k i : ℕ) → form_of shape ≡ form.Struct k → slot s shape i ≡ option_map field_shape (slice_get (fields_in (slice_get s.defs k)) i)
slot-Struct s shape k i h = by_form s shape (form.Struct k) i h ∙ fields-get (slice_get s.defs k) i

-- an element of an array stands one dimension deeper
deeper : (d : ℕ) (shape : Shape) → inside 1 (inside d shape) ≡ inside (d + 1) shape
deeper d shape = ap (λ (ns : List ℕ). record { dims = ns; plain = shape.plain }) (drop-drop 1 d shape.dims)

pub slot-Array : (s : Structs) (shape : Shape) (d n i : ℕ) → form_of (inside d shape) ≡ form.Array n → slot s (inside d shape) i ≡ slice_get (replicate n (inside (d + 1) shape)) i
slot-Array s shape d n i h = by_form s (inside d shape) (form.Array n) i h ∙ ap (λ (x : Shape). slice_get (replicate n x) i) (deeper d shape)

pub ruleset slot_rows = (slot-Scalar, slot-Struct, slot-Array)

-- ---- what is missing
drop-fields : (d : Option StructDef) (k : ℕ) → drop k (shapes_in d) ≡ map field_shape (drop k (fields_in d))
drop-fields None zero = refl
drop-fields None (suc k) = refl
drop-fields (Some d) k = drop-map field_shape k d.fields

drop-same : (x : Shape) (n k : ℕ) → drop k (replicate n x) ≡ replicate (n - k) x
drop-same x n zero = let h : n - 0 ≡ n = omega arith in rw h refl
drop-same x zero (suc k) = let h : 0 - suc k ≡ 0 = omega arith in rw h refl
drop-same x (suc n) (suc k) = let h : suc n - suc k ≡ n - k = omega arith in rw h (drop-same x n k)

sum-same : (sizes : List ℕ) (x : Shape) (n : ℕ) → sum_by false sizes (replicate n x) ≡ n * size_by false sizes x
unfolding sum_by
sum-same sizes x zero = sym (zero-mul (size_by false sizes x))
sum-same sizes x (suc n) = let h = sum-same sizes x n in let m = suc-mul n (size_by false sizes x) in omega (arith, h, m)

as_missing : (s : Structs) (shape : Shape) (f : Form) (k : ℕ) → form_of shape ≡ f → missing s shape k ≡ missing_by s shape f k
unfolding missing
as_missing s shape f k h = ap (λ (g : Form). missing_by s shape g k) h

pub missing-Scalar : (s : Structs) (shape : Shape) (num : Num) (k : ℕ) → form_of shape ≡ form.Scalar num → missing s shape k ≡ 1
missing-Scalar s shape num k h = as_missing s shape (form.Scalar num) k h

pub missing-Struct : (s : Structs) (shape : Shape) (n k : ℕ) → form_of shape ≡ form.Struct n → missing s shape k ≡ sum_by false (sizes_of false s.defs) (map field_shape (drop k (fields_in (slice_get s.defs n))))
unfolding elements_in
missing-Struct s shape n k h = as_missing s shape (form.Struct n) k h ∙ ap (sum_by false (sizes_of false s.defs)) (drop-fields (slice_get s.defs n) k)

pub missing-Array : (s : Structs) (shape : Shape) (d n k : ℕ) → form_of (inside d shape) ≡ form.Array n → missing s (inside d shape) k ≡ (n - k) * size_by false (sizes_of false s.defs) (inside (d + 1) shape)
unfolding elements_in
missing-Array s shape d n k h =
    as_missing s (inside d shape) (form.Array n) k h ∙ ap (λ (x : Shape). sum_by false (sizes_of false s.defs) (drop k (replicate n x))) (deeper d shape)
    ∙ ap (sum_by false (sizes_of false s.defs)) (drop-same (inside (d + 1) shape) n k) ∙ sum-same (sizes_of false s.defs) (inside (d + 1) shape) (n - k)

pub ruleset missing_rows = (missing-Scalar, missing-Struct, missing-Array)
