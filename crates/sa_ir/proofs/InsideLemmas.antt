-- One step further on the way to a cell: to an element, and to a field.
use Rattle.std.proofs.Common.{◌≡◌, ℕ, zero, suc, ◌+◌, ◌-◌, ◌*◌, ◌/◌, ◌%◌, ◌^◌, ◌<◌, ◌≤◌, Bool, true, false, List, [], ◌∷◌, ◌++◌, length, get_or, take, reverse, refl, sym, ap, ap₂, ◌∙◌, inl, inr, append_assoc, add-one, arith, Some}
use Rattle.std.proofs.lemmas.Bool.{cases_lt}
use Rattle.std.proofs.lemmas.Bool.Decides.{nat_tests}
use Rattle.std.proofs.lemmas.Nat.{mod_below}
use Rattle.std.proofs.lemmas.Option.{slice_get_within, slice_get_read, get_or_from_slice_get}
use Rattle.std.specs.Fmt.{decimal}
use Rattle.std.specs.Prelude.{if◌then◌else◌, nat_le, nat_lt, slice_get, codes, min}
use Rattle.sa_typed.specs.Cells.{most_elements}
use Rattle.sa_typed.specs.Layouts.{Layout, Layouts, row, fields, no_field, field, nth_field, before_field, nums, layouts_with, layout_with, struct_layout, rows}
use Rattle.sa_typed.specs.declared.shape.FieldDef.{FieldDef}
use Rattle.sa_typed.specs.declared.shape.Shape.{Shape}
use Rattle.sa_typed.specs.declared.shape.Plain.{Plain}
use Rattle.sa_typed.specs.declared.shape.Plain.TheVariants.{Scalar, Struct}
use Rattle.sa_typed.specs.declared.shape.StructDef.{StructDef}
use Rattle.sa_typed.specs.declared.program.Program.{Program}
use Rattle.sa_ir.specs.declared.sizes.Extent.{Extent}
use Rattle.sa_typed.specs.Frames.{size}
use Rattle.sa_ir.specs.Sizes.{sizes, cells_before, among, no_array, extent, extents_from, all_extents, made_of}
use Rattle.sa_ir.proofs.StepLemmas.{size-small, size-large, size-of-fields, width-is}
use Rattle.sa_ir.proofs.StructLemmas.{among-struct, among-none, among-field, extents-of, extents-at, before-next, before-most, fields_count, count-fields}
use Rattle.sa_ir.specs.declared.names.Inside.{Inside}
use Rattle.sa_ir.specs.Names.{field_name}
use Rattle.sa_ir.specs.Naming.{inner_name, field_inner, inside_layout, IsInside, inside_name, depth, depth_of, IsNext, before, HasField, IsField, index_text, star_text, dot_text}
use Rattle.sa_ir.proofs.NameLemmas.{positive}

-- ---- numbers alone
pub leaf-name : (p : Program) (i : Inside) (num : _) → inside_layout p i ≡ among p.structs i.structs (no_array (Scalar num)) → inside_name p i ≡ []
unfolding inner_name among layout_with rows
leaf-name p i num e = ap (λ (l : Layout). inner_name l i.number) e

-- where no dimension is left
pub plain-inside : (p : Program) (i : Inside) (x : Plain) → i.dims.now ≡ [] → i.plain ≡ x → inside_layout p i ≡ among p.structs i.structs (no_array x)
plain-inside p i x h e = ap₂ (λ (ds : List ℕ) (y : Plain). among p.structs i.structs (record { dims = ds; plain = y })) h e

pub array-inside : (p : Program) (i : Inside) (n : ℕ) (rest : List ℕ) → i.dims.now ≡ n ∷ rest → inside_layout p i ≡ row n (among p.structs i.structs (record { dims = rest; plain = i.plain }))
unfolding among layout_with rows
array-inside p i n rest h = ap (λ (ds : List ℕ). among p.structs i.structs (record { dims = ds; plain = i.plain })) h

layout-of : (p : Program) (i : Inside) (m : ℕ) (s : Shape) → i.structs ≡ m → i.dims.now ≡ s.dims → i.plain ≡ s.plain → inside_layout p i ≡ among p.structs m s
layout-of p i m s e f g =
    ap (λ (k : ℕ). among p.structs k (record { dims = i.dims.now; plain = i.plain })) e
    ∙ ap₂ (λ (ds : List ℕ) (y : Plain). among p.structs m (record { dims = ds; plain = y })) f g

-- ---- elements
module _ (p : Program) (i n : Inside) (l : Layout) (dim : ℕ) (inside : IsInside p i) (array : inside_layout p i ≡ row dim l) where
  less-deep : inside_layout p n ≡ l → depth (inside_layout p n) < depth (inside_layout p i)
  unfolding depth
  less-deep h = let a = ap depth h in let b = ap depth array in omega (arith, a, b)

  known_next : n.structs ≡ i.structs → n.structs ≤ length p.structs
  known_next k = let a = inside.known in omega (arith, a, k)

  pub next-large : (old new : List ℕ) → 128 < dim → inside_layout p n ≡ l → n.structs ≡ i.structs → n.cells ≡ i.cells → n.number ≡ i.number → new ≡ old ++ star_text → IsNext p old new i n
  unfolding inner_name star_text
  next-large old new many own k c j t =
      let test : nat_le dim most_elements ≡ false = grind (arith, nat_tests) in
      record {
        inside = record {
          known = known_next k;
          cells = c ∙ inside.cells ∙ ap size array ∙ size-large dim l many ∙ ap size (sym own);
          small = (let a = inside.small in omega (arith, a, c));
          number = (let a = inside.number in omega (arith, a, c, j));
        };
        text = ap₂ (λ (x : List ℕ) (y : List ℕ). x ++ y) t (ap₂ inner_name own j) ∙ append_assoc old (codes "[*]") (inner_name l i.number)
            ∙ ap (λ (x : List ℕ). old ++ x) (sym (ap (λ (m : Layout). inner_name m i.number) array ∙ ap (λ (b : Bool). if b then codes "[" ++ (decimal (i.number / size l) ++ (codes "]" ++ inner_name l (i.number % size l))) else codes "[*]" ++ inner_name l i.number) test));
        less = less-deep own;
      }

  pub whole-is : dim ≤ 128 → i.cells ≡ dim * size l
  whole-is few = inside.cells ∙ ap size array ∙ size-small dim l few

  pub some-elements : dim ≤ 128 → 0 < dim
  some-elements few = (let a = whole-is few in let b = inside.number in let c : dim * size l ≡ size l * dim = grind arith in positive (size l) dim i.number (omega (arith, a, b, c)))

  pub some-cells : dim ≤ 128 → 0 < size l
  some-cells few = (let a = whole-is few in let b = inside.number in positive dim (size l) i.number (omega (arith, a, b)))

  pub one-width : dim ≤ 128 → i.cells / dim ≡ size l
  one-width few = width-is dim (size l) i.cells (some-elements few) (whole-is few)

  pub next-small : (old new : List ℕ) → dim ≤ 128 → inside_layout p n ≡ l → n.structs ≡ i.structs → n.cells ≡ i.cells / dim → n.number ≡ i.number % (i.cells / dim) → new ≡ old ++ index_text (i.number / (i.cells / dim)) →
      IsNext p old new i n
  unfolding inner_name index_text
  next-small old new few own k c j t =
      let test : nat_le dim most_elements ≡ true = grind (arith, nat_tests) in
      let w = one-width few in
      let some = some-cells few in
      let wide = c ∙ w in
      let number : n.number ≡ i.number % size l = j ∙ ap (λ (m : ℕ). i.number % m) w in
      let written : new ≡ old ++ (codes "[" ++ (decimal (i.number / size l) ++ codes "]")) = t ∙ ap (λ (m : ℕ). old ++ (codes "[" ++ (decimal (i.number / m) ++ codes "]"))) w in
      let rest = inner_name l (i.number % size l) in
      record {
        inside = record {
          known = known_next k;
          cells = wide ∙ ap size (sym own);
          small = (let a = inside.small in let b = whole-is few in let d = some-elements few in let m : size l ≤ dim * size l = grind arith in omega (arith, a, b, m, wide));
          number = (let a = mod_below i.number (size l) some in omega (arith, a, number, wide));
        };
        text = ap₂ (λ (x : List ℕ) (y : List ℕ). x ++ y) written (ap₂ inner_name own number) ∙ append_assoc old (codes "[" ++ (decimal (i.number / size l) ++ codes "]")) rest
            ∙ ap (λ (x : List ℕ). old ++ (codes "[" ++ x)) (append_assoc (decimal (i.number / size l)) (codes "]") rest)
            ∙ ap (λ (x : List ℕ). old ++ x) (sym (ap (λ (m : Layout). inner_name m i.number) array ∙ ap (λ (b : Bool). if b then codes "[" ++ (decimal (i.number / size l) ++ (codes "]" ++ rest)) else codes "[*]" ++ inner_name l i.number) test));
        less = less-deep own;
      }

-- ---- fields
nothing-before : (ls : Layouts) → cells_before ls 0 ≡ 0
unfolding cells_before
nothing-before no_field = refl
nothing-before (field x l ls) = refl

field-text : (ls : Layouts) (f j : ℕ) (l : Layout) → nth_field ls f ≡ Some l → cells_before ls f ≤ j → j < cells_before ls (suc f) →
    field_inner ls j ≡ codes "." ++ (field_name ls f ++ inner_name l (j - cells_before ls f))
unfolding inner_name nth_field cells_before field_name
field-text no_field f j l e h k = absurd cc
field-text (field x m ls) zero j l e h k =
    let is : m ≡ l = cc in
    let none : cells_before ls 0 ≡ 0 = nothing-before ls in
    let t : nat_lt j (size m) ≡ true = grind (arith, nat_tests, k, none) in
    ap (λ (b : Bool). if b then codes "." ++ (x ++ inner_name m j) else field_inner ls (j - size m)) t ∙ ap (λ (n : Layout). codes "." ++ (x ++ inner_name n j)) is
    ∙ ap (λ (n : ℕ). codes "." ++ (x ++ inner_name l n)) (let r : j ≡ j - 0 = omega arith in r)
field-text (field x m ls) (suc f) j l e h k =
    let t : nat_lt j (size m) ≡ false = grind (arith, nat_tests, h) in
    let from : cells_before ls f ≤ j - size m = omega (arith, h) in
    let until : j - size m < cells_before ls (suc f) = omega (arith, h, k) in
    let left : (j - size m) - cells_before ls f ≡ j - (size m + cells_before ls f) = omega arith in
    ap (λ (b : Bool). if b then codes "." ++ (x ++ inner_name m j) else field_inner ls (j - size m)) t ∙ field-text ls f (j - size m) l e from until
    ∙ ap (λ (n : ℕ). codes "." ++ (field_name ls f ++ inner_name l n)) left

name-field : (g : ℕ → Layout) (fs : List FieldDef) (f : ℕ) (x : FieldDef) → slice_get fs f ≡ Some x → field_name (layouts_with g fs) f ≡ x.name
unfolding field_name layouts_with
name-field g [] f x e = absurd cc
name-field g (d ∷ fs) zero x e = (let is : d ≡ x = cc in ap (λ (y : FieldDef). y.name) is)
name-field g (d ∷ fs) (suc f) x e = name-field g fs f x e

field-less : (ls : Layouts) (f : ℕ) (l : Layout) → nth_field ls f ≡ Some l → depth l < suc (depth_of ls)
unfolding depth nth_field
field-less no_field f l e = absurd cc
field-less (field x m ls) zero l e = (let is : m ≡ l = cc in let a = ap depth is in omega (arith, a))
field-less (field x m ls) (suc f) l e = (let a = field-less ls f l e in omega (arith, a))

all-before : (ls : Layouts) → cells_before ls (fields_count ls) ≡ sizes ls
unfolding cells_before sizes fields_count
all-before no_field = refl
all-before (field x l ls) = ap (λ (n : ℕ). size l + n) (all-before ls)

length-extents : (c e : ℕ) (ls : Layouts) → length (extents_from c e ls) ≡ suc (fields_count ls)
unfolding extents_from fields_count
length-extents c e no_field = refl
length-extents c e (field x l ls) = ap suc (length-extents (c + size l) (e + length (nums l)) ls)

fits : (n : ℕ) → n ≤ 4294967295 → min (0 + n) (2 ^ 64 - 1) ≡ n
fits n h = omega arith

before-is : (ls : Layouts) (f : ℕ) → sizes ls ≤ 4294967295 → f ≤ fields_count ls → before (extents_from 0 0 ls) f ≡ cells_before ls f
before-is ls f small h =
    let at = extents-at 0 0 ls f h in
    let most = before-most ls f in
    ap (λ (x : Extent). x.cells) (get_or_from_slice_get (extents_from 0 0 ls) f (extent (0 + cells_before ls f) (0 + before_field ls f)) (extent 0 0) at) ∙ fits (cells_before ls f) (omega (arith, most, small))

no-fields : (structs : List StructDef) (m k : ℕ) → m ≤ length structs → m ≤ k → size (among structs m (no_array (Struct k))) ≡ 0
unfolding sizes
no-fields structs m k h l = ap size (among-none structs m k h l) ∙ size-of-fields no_field

module _ (p : Program) (i : Inside) (k : ℕ) (inside : IsInside p i) (shape : inside_layout p i ≡ among p.structs i.structs (no_array (Struct k))) where
  pub struct-known : k < i.structs
  struct-known = elim (cases_lt k i.structs) [
    | inl less ↦ less
    | inr more ↦
        absurd (let a = inside.cells ∙ ap size shape ∙ no-fields p.structs i.structs k inside.known more in let b = inside.number in omega (arith, a, b))
  ]

  pub struct-there : k < length p.structs
  struct-there = (let a = struct-known in let b = inside.known in omega (arith, a, b))

  module _ (d : StructDef) (es : List Extent) (there : slice_get p.structs k ≡ Some d) (says : es ≡ extents_from 0 0 (made_of p.structs k d)) where
    abbrev ls : Layouts
    ls = made_of p.structs k d

    fields-layout : inside_layout p i ≡ fields ls
    fields-layout = shape ∙ among-struct p.structs i.structs k d inside.known struct-known there

    fields-cells : i.cells ≡ sizes ls
    fields-cells = inside.cells ∙ ap size fields-layout ∙ size-of-fields ls

    small-fields : sizes ls ≤ 4294967295
    small-fields = (let a = inside.small in let b = fields-cells in omega (arith, a, b))

    count-is : fields_count ls ≡ length d.fields
    count-is = count-fields (λ j. struct_layout (reverse (take k p.structs)) j) d.fields

    long : length es ≡ suc (fields_count ls)
    long = ap (λ (xs : List Extent). length xs) says ∙ length-extents 0 0 ls

    starts : (f : ℕ) → f ≤ fields_count ls → before es f ≡ cells_before ls f
    starts f h = ap (λ (xs : List Extent). before xs f) says ∙ before-is ls f small-fields h

    last-is : before es (length es - 1) ≡ sizes ls
    last-is = (let e : length es - 1 ≡ fields_count ls = (let a = long in omega (arith, a)) in ap (before es) e ∙ starts (fields_count ls) (omega arith) ∙ all-before ls)

    pub has-field : HasField es i.number
    has-field = record {
      some = (let a = long in elim (cases_lt 0 (fields_count ls)) [
        | inl more ↦ omega (arith, a, more)
        | inr none ↦ absurd (let z : fields_count ls ≡ 0 = omega (arith, none) in let b = all-before ls in let c : cells_before ls (fields_count ls) ≡ 0 = ap (cells_before ls) z ∙ nothing-before ls in let n = inside.number in let e = fields-cells in omega (arith, b, c, n, e))
      ]);
      first = (let a = starts 0 (omega arith) ∙ nothing-before ls in omega (arith, a));
      last = (let a = last-is in let b = fields-cells in let n = inside.number in omega (arith, a, b, n));
    }

    module _ (f : ℕ) (field : IsField es i.number f) where
      pub field-there : f < length d.fields
      field-there = (let a = field.known in let b = long in let c = count-is in omega (arith, a, b, c))

      pub field-order : before es f ≤ before es (f + 1)
      field-order = (let a = field.from in let b = field.until in omega (arith, a, b))

      module _ (n : Inside) (x : FieldDef) (at : slice_get d.fields f ≡ Some x) (same : n.dims.now ≡ x.shape.dims) (plain : n.plain ≡ x.shape.plain) (structs : n.structs ≡ k) (cells : n.cells ≡ before es (f + 1) - before es f) (number : n.number ≡ i.number - before es f) where
        abbrev m : Layout
        m = among p.structs k x.shape

        nth : nth_field ls f ≡ Some m
        nth = among-field p.structs k f d x at

        own : inside_layout p n ≡ m
        own = layout-of p n k x.shape structs same plain

        start : before es f ≡ cells_before ls f
        start = starts f (let a = field-there in let b = count-is in omega (arith, a, b))

        until : before es (f + 1) ≡ cells_before ls f + size m
        until = starts (f + 1) (let a = field-there in let b = count-is in omega (arith, a, b)) ∙ ap (cells_before ls) (add-one f) ∙ before-next ls f m nth

        wide : n.cells ≡ size m
        wide = (let a = start in let b = until in omega (arith, a, b, cells))

        pub next-field : (old new : List ℕ) → new ≡ old ++ dot_text x.name → IsNext p old new i n
        unfolding dot_text inner_name depth
        next-field old new t =
            let name : field_name ls f ≡ x.name = name-field (λ j. struct_layout (reverse (take k p.structs)) j) d.fields f x at in
            let place : n.number ≡ i.number - cells_before ls f = number ∙ ap (λ (b : ℕ). i.number - b) start in
            let from : cells_before ls f ≤ i.number = (let a = field.from in let b = start in omega (arith, a, b)) in
            let to : i.number < cells_before ls (suc f) = (let a = field.until in let b = until in let c = before-next ls f m nth in omega (arith, a, b, c)) in
            record {
              inside = record {
                known = (let a = struct-there in omega (arith, a, structs));
                cells = wide ∙ ap size (sym own);
                small = (let a = wide in let b = until in let c = starts (f + 1) (let d = field-there in let e = count-is in omega (arith, d, e)) in let g = before-most ls (f + 1) in let h = small-fields in omega (arith, a, b, c, g, h));
                number = (let a = field.from in let b = field.until in omega (arith, a, b, number, cells));
              };
              text = ap₂ (λ (a : List ℕ) (b : List ℕ). a ++ b) t (ap₂ inner_name own place) ∙ append_assoc old (codes "." ++ x.name) (inner_name m (i.number - cells_before ls f))
                  ∙ ap (λ (a : List ℕ). old ++ a) (append_assoc (codes ".") x.name (inner_name m (i.number - cells_before ls f))
                  ∙ ap (λ (a : List ℕ). codes "." ++ (a ++ inner_name m (i.number - cells_before ls f))) (sym name) ∙ sym (field-text ls f i.number m nth from to) ∙ sym (ap (λ (a : Layout). inner_name a i.number) fields-layout));
              less = (let a = ap depth own in let b = ap depth fields-layout in let c = field-less ls f m nth in omega (arith, a, b, c));
            }

-- what is read of the tables
pub def-is : (p : Program) (i : Inside) (k : ℕ) (ds : List StructDef) (d : StructDef) → IsInside p i → inside_layout p i ≡ among p.structs i.structs (no_array (Struct k)) → ds ≡ p.structs → d ≡ get_or ds k d → slice_get p.structs k ≡ Some d
def-is p i k ds d inside s e h =
    slice_get_read p.structs (length p.structs) k d refl (struct-there p i k inside s) (h ∙ ap (λ (xs : List StructDef). get_or xs k d) e)

pub table-there : (p : Program) (k : ℕ) (d : StructDef) (t u : List (List Extent)) → slice_get p.structs k ≡ Some d → t ≡ all_extents (reverse p.structs) → u ≡ t → k < length u
table-there p k d t u h e f = slice_get_within u k (extents_from 0 0 (made_of p.structs k d)) (ap (λ (xs : List (List Extent)). slice_get xs k) (f ∙ e) ∙ extents-of p.structs k d h)

pub row-is : (p : Program) (k : ℕ) (d : StructDef) (t u : List (List Extent)) (es : List Extent) → slice_get p.structs k ≡ Some d → t ≡ all_extents (reverse p.structs) → u ≡ t → es ≡ get_or u k es →
    es ≡ extents_from 0 0 (made_of p.structs k d)
row-is p k d t u es h e f is =
    is ∙ get_or_from_slice_get u k (extents_from 0 0 (made_of p.structs k d)) es (ap (λ (xs : List (List Extent)). slice_get xs k) (f ∙ e) ∙ extents-of p.structs k d h)

pub field-is : (d : StructDef) (f : ℕ) (fs : List FieldDef) (x : FieldDef) → fs ≡ d.fields → f < length d.fields → x ≡ get_or fs f x → slice_get d.fields f ≡ Some x
field-is d f fs x e h is = slice_get_read d.fields (length d.fields) f x refl h (is ∙ ap (λ (xs : List FieldDef). get_or xs f x) e)
