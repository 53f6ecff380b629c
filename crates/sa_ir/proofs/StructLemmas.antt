-- Structures by their numbers: what each is made of, and where its fields stand.
use Rattle.std.proofs.Common.{◌≡◌, ℕ, zero, suc, ◌+◌, ◌<◌, ◌≤◌, Bool, true, false, List, [], ◌∷◌, ◌++◌, length, take, reverse, get_or, refl, sym, ap, ◌∙◌, add-one, add-zero, length-append, arith}
use Rattle.std.specs.Prelude.{◌==◌, if◌then◌else◌, Option, Some, slice_get, option_map}
use Rattle.std.proofs.lemmas.Bool.Decides.{nat_tests}
use Rattle.std.proofs.lemmas.List.{take_more, take_all, reverse-append, length-reverse, length-take-le}
use Rattle.std.proofs.lemmas.Option.{slice_get_within, get_or_from_slice_get}
use Rattle.sa_typed.specs.Layouts.{Layout, Layouts, fields, no_field, field, nums, nth_field, before_field, layout_with, layouts_with, struct_layout, rows}
use Rattle.sa_typed.specs.Cells.{inner_cells, field_cells, all_behind, of}
use Rattle.sa_typed.specs.declared.shape.FieldDef.{FieldDef}
use Rattle.sa_typed.specs.declared.shape.StructDef.{StructDef}
use Rattle.sa_typed.specs.declared.shape.Plain.TheVariants.{Struct}
use Rattle.sa_ir.specs.declared.sizes.Extent.{Extent}
use Rattle.sa_typed.specs.Frames.{size}
use Rattle.sa_ir.specs.Sizes.{sizes, cells_before, extent, extents_from, all_extents, among, no_array, made_of}
use Rattle.sa_ir.proofs.ReachLemmas.{length-behind}

-- the newest of the first structures stands first
pub newest : (xs : List StructDef) (m : ℕ) (d : StructDef) → m < length xs → reverse (take (m + 1) xs) ≡ get_or xs m d ∷ reverse (take m xs)
newest xs m d h = ap (λ (l : List StructDef). reverse l) (take_more xs m d h) ∙ reverse-append (take m xs) (get_or xs m d ∷ [])

pub older-length : (xs : List StructDef) (m : ℕ) → m ≤ length xs → length (reverse (take m xs)) ≡ m
older-length xs m h = length-reverse (take m xs) ∙ length-take-le m xs h

pub struct-at : (structs : List StructDef) (m k : ℕ) (d : StructDef) → m ≤ length structs → k < m → slice_get structs k ≡ Some d →
    struct_layout (reverse (take m structs)) k ≡ fields (made_of structs k d)
unfolding struct_layout
struct-at structs zero k d h l e = absurd (omega arith)
struct-at structs (suc m) k d h l e =
    let more = ap (λ (l : List StructDef). struct_layout l k) (ap (λ (n : ℕ). reverse (take n structs)) (sym (add-one m)) ∙ newest structs m d (omega arith)) in
    let long = older-length structs m (omega arith) in
    let is : get_or structs k d ≡ d = get_or_from_slice_get structs k d d e in
    more ∙ rw long (cases (k == m) refl is (λ less. struct-at structs m k d (omega arith) less e))
  where
    cases : (b : Bool) → (k == m) ≡ b → get_or structs k d ≡ d → (k < m → struct_layout (reverse (take m structs)) k ≡ fields (made_of structs k d)) → (if b then fields (layouts_with (λ j. struct_layout (reverse (take m structs)) j) (get_or structs m d).fields) else struct_layout (reverse (take m structs)) k) ≡ fields (made_of structs k d)
    cases true t is older =
        let same : k ≡ m = grind (arith, nat_tests) in
        rw (← same, is) refl
    cases false t is older = older (grind (arith, nat_tests))

pub struct-past : (older : List StructDef) (k : ℕ) → length older ≤ k → struct_layout older k ≡ fields no_field
unfolding struct_layout
struct-past [] k h = refl
struct-past (d ∷ older) k h =
    let e : (k == length older) ≡ false = grind (arith, nat_tests) in
    rw (e, struct-past older k (omega arith)) refl

pub nth-field : (g : ℕ → Layout) (fs : List FieldDef) (f : ℕ) → nth_field (layouts_with g fs) f ≡ option_map (λ d. layout_with g d.shape) (slice_get fs f)
unfolding nth_field layouts_with
nth-field g [] f = refl
nth-field g (d ∷ fs) zero = refl
nth-field g (d ∷ fs) (suc f) = nth-field g fs f

-- ---- where fields stand
pub size-fields : (k : ℕ) (ls : Layouts) → length (field_cells k ls) ≡ sizes ls
unfolding field_cells sizes size
size-fields k no_field = refl
size-fields k (field x l ls) =
    length-append (all_behind (of k) (inner_cells l)) (field_cells (k + 1) ls)
    ∙ rw (length-behind (of k) (inner_cells l), size-fields (k + 1) ls) refl

pub before-next : (ls : Layouts) (f : ℕ) (l : Layout) → nth_field ls f ≡ Some l → cells_before ls (suc f) ≡ cells_before ls f + size l
unfolding cells_before nth_field
before-next no_field f l h = absurd cc
before-next (field x m ls) zero l h =
    let e : m ≡ l = cc in
    let none : cells_before ls 0 ≡ 0 = at-zero ls in
    rw (e, none) (omega arith)
  where
    at-zero : (ls : Layouts) → cells_before ls 0 ≡ 0
    at-zero no_field = refl
    at-zero (field x l ls) = refl
before-next (field x m ls) (suc f) l h =
    let e = before-next ls f l h in
    omega (arith, e)

pub before-most : (ls : Layouts) (f : ℕ) → cells_before ls f ≤ sizes ls
unfolding cells_before sizes
before-most no_field f = omega arith
before-most (field x l ls) zero = omega arith
before-most (field x l ls) (suc f) = let h = before-most ls f in omega (arith, h)

-- how many fields
unfoldable pub fields_count : Layouts → ℕ
fields_count no_field = 0
fields_count (field x l ls) = suc (fields_count ls)

pub count-fields : (g : ℕ → Layout) (fs : List FieldDef) → fields_count (layouts_with g fs) ≡ length fs
unfolding fields_count layouts_with
count-fields g [] = refl
count-fields g (d ∷ fs) = ap suc (count-fields g fs)

pub extents-at : (c e : ℕ) (ls : Layouts) (f : ℕ) → f ≤ fields_count ls → slice_get (extents_from c e ls) f ≡ Some (extent (c + cells_before ls f) (e + before_field ls f))
unfolding extents_from cells_before before_field fields_count
extents-at c e no_field zero h = rw (add-zero, add-zero) refl
extents-at c e no_field (suc f) h = absurd (omega arith)
extents-at c e (field x l ls) zero h = rw (add-zero, add-zero) refl
extents-at c e (field x l ls) (suc f) h =
    let i : (c + size l) + cells_before ls f ≡ c + (size l + cells_before ls f) = omega arith in
    let j : (e + length (nums l)) + before_field ls f ≡ e + (length (nums l) + before_field ls f) = omega arith in
    extents-at (c + size l) (e + length (nums l)) ls f (omega arith) ∙ rw (i, j) refl

at-end : {X : Type 0} (xs : List X) (x : X) (i : ℕ) → length xs ≡ i → slice_get (xs ++ x ∷ []) i ≡ Some x
at-end [] x zero h = refl
at-end [] x (suc i) h = absurd (omega arith)
at-end (y ∷ xs) x zero h = absurd (omega arith)
at-end (y ∷ xs) x (suc i) h = at-end xs x i (omega arith)

pub at-front : {X : Type 0} (xs ys : List X) (i : ℕ) → i < length xs → slice_get (xs ++ ys) i ≡ slice_get xs i
at-front [] ys i h = absurd (omega arith)
at-front (x ∷ xs) ys zero h = refl
at-front (x ∷ xs) ys (suc i) h = at-front xs ys i (omega arith)

length-extents : (ds : List StructDef) → length (all_extents ds) ≡ length ds
unfolding all_extents
length-extents [] = refl
length-extents (d ∷ ds) = length-append (all_extents ds) (extents_from 0 0 (layouts_with (λ k. struct_layout ds k) d.fields) ∷ []) ∙ rw (length-extents ds) (omega arith)

pub extents-among : (structs : List StructDef) (m k : ℕ) (d : StructDef) → m ≤ length structs → k < m → slice_get structs k ≡ Some d →
    slice_get (all_extents (reverse (take m structs))) k ≡ Some (extents_from 0 0 (made_of structs k d))
unfolding all_extents
extents-among structs zero k d h l e = absurd (omega arith)
extents-among structs (suc m) k d h l e =
    let more = ap (λ (l : List StructDef). slice_get (all_extents l) k) (ap (λ (n : ℕ). reverse (take n structs)) (sym (add-one m)) ∙ newest structs m d (omega arith)) in
    let long = length-extents (reverse (take m structs)) ∙ older-length structs m (omega arith) in
    more ∙ cases (k == m) refl long (λ less. extents-among structs m k d (omega arith) less e)
  where
    last : List Extent
    last = extents_from 0 0 (layouts_with (λ j. struct_layout (reverse (take m structs)) j) (get_or structs m d).fields)

    cases : (b : Bool) → (k == m) ≡ b → length (all_extents (reverse (take m structs))) ≡ m → (k < m → slice_get (all_extents (reverse (take m structs))) k ≡ Some (extents_from 0 0 (made_of structs k d))) → slice_get (all_extents (reverse (take m structs)) ++ extents_from 0 0 (layouts_with (λ j. struct_layout (reverse (take m structs)) j) (get_or structs m d).fields) ∷ []) k ≡ Some (extents_from 0 0 (made_of structs k d))
    cases true t long older =
        let same : k ≡ m = grind (arith, nat_tests) in
        let is : get_or structs m d ≡ d = ap (λ (n : ℕ). get_or structs n d) (sym same) ∙ get_or_from_slice_get structs k d d e in
        at-end (all_extents (reverse (take m structs))) (extents_from 0 0 (layouts_with (λ j. struct_layout (reverse (take m structs)) j) (get_or structs m d).fields)) k (omega (arith, long, same))
        ∙ rw is (ap (λ (n : ℕ). Some (extents_from 0 0 (made_of structs n d))) (sym same))
    cases false t long older =
        let less : k < m = grind (arith, nat_tests) in
        at-front (all_extents (reverse (take m structs))) (extents_from 0 0 (layouts_with (λ j. struct_layout (reverse (take m structs)) j) (get_or structs m d).fields) ∷ []) k (omega (arith, long, less))
        ∙ older less

pub extents-of : (structs : List StructDef) (k : ℕ) (d : StructDef) → slice_get structs k ≡ Some d →
    slice_get (all_extents (reverse structs)) k ≡ Some (extents_from 0 0 (made_of structs k d))
extents-of structs k d e =
    ap (λ (l : List StructDef). slice_get (all_extents (reverse l)) k) (sym (take_all (length structs) structs (omega arith)))
    ∙ extents-among structs (length structs) k d (omega arith) (slice_get_within structs k d e) e

-- ---- shapes among the first structures
pub among-struct : (structs : List StructDef) (m k : ℕ) (d : StructDef) → m ≤ length structs → k < m → slice_get structs k ≡ Some d →
    among structs m (no_array (Struct k)) ≡ fields (made_of structs k d)
unfolding among layout_with rows
among-struct structs m k d h l e = struct-at structs m k d h l e

pub among-none : (structs : List StructDef) (m k : ℕ) → m ≤ length structs → m ≤ k → among structs m (no_array (Struct k)) ≡ fields no_field
unfolding among layout_with rows
among-none structs m k h l = let long = older-length structs m h in struct-past (reverse (take m structs)) k (omega (arith, long))

pub among-field : (structs : List StructDef) (k f : ℕ) (d : StructDef) (x : FieldDef) → slice_get d.fields f ≡ Some x →
    nth_field (made_of structs k d) f ≡ Some (among structs k x.shape)
unfolding among
among-field structs k f d x h =
    nth-field (λ j. struct_layout (reverse (take k structs)) j) d.fields f
    ∙ ap (λ (o : Option FieldDef). option_map (λ y. layout_with (λ j. struct_layout (reverse (take k structs)) j) y.shape) o) h
