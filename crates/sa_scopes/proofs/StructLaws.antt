-- What structures are made of is known from those before each, and how many elements and cells objects have.
use Rattle.std.proofs.Common.{◌≡◌, ℕ, zero, suc, ◌+◌, ◌*◌, ◌<◌, ◌≤◌, Bool, true, false, List, [], ◌∷◌, ◌++◌, length, get_or, map, refl, sym, ap, subst, ◌∙◌, arith, Option, Some, None, ◌⊎◌, inl, inr}
use Rattle.std.proofs.lemmas.Bool.Decides.{nat_tests}
use Rattle.std.proofs.lemmas.List.{reverse-reverse, reverse-append, length-reverse, length-append}
use Rattle.std.proofs.lemmas.Option.{slice_get_within}
use Rattle.std.proofs.Math.Nat.{suc-mul, zero-mul}
use Rattle.std.specs.Prelude.{if◌then◌else◌, slice_get, reverse, ◌==◌, nat_le}
use Rattle.sa_base.specs.declared.num.Num.{Num}
use Rattle.sa_typed.specs.Cells.{Step, Inner, inner_cells, field_cells, all_behind, each_behind, one, all, of}
use Rattle.sa_typed.specs.Layouts as layouts
use Rattle.sa_typed.specs.Layouts.{Layout, Layouts, leaf, row, fields, no_field, field, rows, plain_layout, layout_with, layouts_with, struct_layout, shape_layout, nums, all_nums}
use Rattle.sa_typed.specs.declared.shape.FieldDef.{FieldDef}
use Rattle.sa_typed.specs.declared.shape.Plain.{Plain}
use Rattle.sa_typed.specs.declared.shape.Plain.TheVariants.{Scalar, Struct}
use Rattle.sa_typed.specs.declared.shape.Shape.{Shape}
use Rattle.sa_typed.specs.declared.shape.StructDef.{StructDef}
use Rattle.sa_scopes.specs.Structures.{times, extent, plain_size, size_by, sum_by, sizes_from, sizes_of, field_shape, field_shapes}

-- ---- lists
-- what stands in the first list stands at the same place in the second
abbrev pub IsFront : {A : Type 0} → List A → List A → Type 0
IsFront {A} xs ys = (k : ℕ) (x : A) → slice_get xs k ≡ Some x → slice_get ys k ≡ Some x

pub slice_front : {A : Type 0} (xs ys : List A) (k : ℕ) (x : A) → slice_get xs k ≡ Some x → slice_get (xs ++ ys) k ≡ Some x
slice_front [] ys k x h = cc
slice_front (y ∷ xs) ys zero x h = h
slice_front (y ∷ xs) ys (suc k) x h = slice_front xs ys k x h

pub slice_last : {A : Type 0} (xs : List A) (x : A) → slice_get (xs ++ x ∷ []) (length xs) ≡ Some x
slice_last [] x = refl
slice_last (y ∷ xs) x = slice_last xs x

pub slice_cases : {A : Type 0} (xs : List A) (x : A) (k : ℕ) (y : A) → slice_get (xs ++ x ∷ []) k ≡ Some y → (slice_get xs k ≡ Some y) ⊎ ((k ≡ length xs) × (x ≡ y))
slice_cases [] x zero y h = inr (refl, cc)
slice_cases [] x (suc k) y h = cc
slice_cases (z ∷ xs) x zero y h = inl h
slice_cases (z ∷ xs) x (suc k) y h = elim (slice_cases xs x k y h) [ inl g ↦ inl g | inr g ↦ inr (ap suc g.0, g.1) ]

-- ---- shapes that refer to older structures alone
abbrev pub PlainBelow : ℕ → Plain → Type 0
PlainBelow n (Scalar num) = Unit {0}
PlainBelow n (Struct k) = k < n

abbrev pub RefersBelow : ℕ → Shape → Type 0
RefersBelow n s = PlainBelow n s.plain

unfoldable pub FieldsBelow : ℕ → List FieldDef → Type 0
FieldsBelow n [] = Unit {0}
FieldsBelow n (f ∷ fs) = RefersBelow n f.shape × FieldsBelow n fs

abbrev pub DefsBelow : List StructDef → Type 0
DefsBelow ds = (k : ℕ) (d : StructDef) → slice_get ds k ≡ Some d → FieldsBelow k d.fields

plain_more : (n m : ℕ) (q : Plain) → n ≤ m → PlainBelow n q → PlainBelow m q
plain_more n m (Scalar num) le h = tt
plain_more n m (Struct k) le h = omega arith

pub refers_more : (n m : ℕ) (s : Shape) → n ≤ m → RefersBelow n s → RefersBelow m s
refers_more n m s le h = plain_more n m s.plain le h

pub fields_more : (n m : ℕ) (fs : List FieldDef) → n ≤ m → FieldsBelow n fs → FieldsBelow m fs
unfolding FieldsBelow
fields_more n m [] le h = tt
fields_more n m (f ∷ fs) le h = (refers_more n m f.shape le h.0, fields_more n m fs le h.1)

pub fields_append : (n : ℕ) (fs : List FieldDef) (f : FieldDef) → FieldsBelow n fs → RefersBelow n f.shape → FieldsBelow n (fs ++ f ∷ [])
unfolding FieldsBelow
fields_append n [] f h k = (k, tt)
fields_append n (g ∷ fs) f h k = (h.0, fields_append n fs f h.1 k)

-- ---- what a structure is made of
same_plain : (f g : ℕ → Layout) (n : ℕ) (q : Plain) → ((k : ℕ) → k < n → f k ≡ g k) → PlainBelow n q → plain_layout f q ≡ plain_layout g q
same_plain f g n (Scalar num) e h = refl
same_plain f g n (Struct k) e h = e k h

same_layout : (f g : ℕ → Layout) (n : ℕ) (s : Shape) → ((k : ℕ) → k < n → f k ≡ g k) → RefersBelow n s → layout_with f s ≡ layout_with g s
unfolding layout_with
same_layout f g n s e h = ap (rows s.dims) (same_plain f g n s.plain e h)

same_fields : (f g : ℕ → Layout) (n : ℕ) (fs : List FieldDef) → ((k : ℕ) → k < n → f k ≡ g k) → FieldsBelow n fs → layouts_with f fs ≡ layouts_with g fs
unfolding layouts_with FieldsBelow
same_fields f g n [] e h = refl
same_fields f g n (x ∷ fs) e h =
    ap (λ (l : Layout). field x.name l (layouts_with f fs)) (same_layout f g n x.shape e h.0)
    ∙ ap (λ (ls : Layouts). field x.name (layout_with g x.shape) ls) (same_fields f g n fs e h.1)

-- newer structures change nothing
struct_older : (d : StructDef) (older : List StructDef) (k : ℕ) → k < length older → struct_layout older k ≡ struct_layout (d ∷ older) k
unfolding struct_layout
struct_older d older k h = let t : (k == length older) ≡ false = grind (arith, nat_tests) in rw t refl

struct_newest : (d : StructDef) (older : List StructDef) → struct_layout (d ∷ older) (length older) ≡ fields (layouts_with (λ k. struct_layout older k) d.fields)
unfolding struct_layout
struct_newest d older = let t : (length older == length older) ≡ true = grind (arith, nat_tests) in rw t refl

struct_at : (rs : List StructDef) (k : ℕ) (d : StructDef) → slice_get (reverse rs) k ≡ Some d → FieldsBelow k d.fields → struct_layout rs k ≡ fields (layouts_with (λ j. struct_layout rs j) d.fields)
struct_at [] k d h b = cc
struct_at (x ∷ older) k d h b = by_place (slice_cases (reverse older) x k d (subst (λ (xs : List StructDef). slice_get xs k ≡ Some d) (reverse-append (x ∷ []) older) h)) (λ g. struct_at older k d g b)
  where
    long : length (reverse older) ≡ length older
    long = length-reverse older

    by_place : (slice_get (reverse older) k ≡ Some d) ⊎ ((k ≡ length (reverse older)) × (x ≡ d)) → (slice_get (reverse older) k ≡ Some d → struct_layout older k ≡ fields (layouts_with (λ j. struct_layout older j) d.fields)) →
        struct_layout (x ∷ older) k ≡ fields (layouts_with (λ j. struct_layout (x ∷ older) j) d.fields)
    by_place (inl g) more =
        let inside = slice_get_within (reverse older) k d g in
        let small : k < length older = omega (arith, long) in
        sym (struct_older x older k small) ∙ more g
        ∙ ap fields (same_fields (λ j. struct_layout older j) (λ j. struct_layout (x ∷ older) j) k d.fields (λ j l. struct_older x older j (omega arith)) b)
    by_place (inr g) more =
        let same : k ≡ length older = g.0 ∙ long in
        ap (struct_layout (x ∷ older)) same ∙ struct_newest x older ∙ ap (λ (y : StructDef). fields (layouts_with (λ j. struct_layout older j) y.fields)) g.1
        ∙ ap fields (same_fields (λ j. struct_layout older j) (λ j. struct_layout (x ∷ older) j) k d.fields (λ j l. struct_older x older j (omega arith)) b)

-- the structure with that number, whose fields refer to older ones
pub struct_known : (ds : List StructDef) (k : ℕ) (d : StructDef) → slice_get ds k ≡ Some d → FieldsBelow k d.fields →
    struct_layout (reverse ds) k ≡ fields (layouts_with (λ j. struct_layout (reverse ds) j) d.fields)
struct_known ds k d h b = struct_at (reverse ds) k d (subst (λ (xs : List StructDef). slice_get xs k ≡ Some d) (sym (reverse-reverse ds)) h) b

-- ---- how many elements or cells there are
unfoldable mutual
  pub weight : Bool → Layout → ℕ
  weight b (leaf num) = 1
  weight b (row n l) = times b n * weight b l
  weight b (fields ls) = weights b ls

  pub weights : Bool → Layouts → ℕ
  weights b no_field = 0
  weights b (field x l ls) = weight b l + weights b ls

suc_times : (a b : ℕ) → suc a * b ≡ b + a * b
suc_times a b = let h = suc-mul a b in omega (arith, h)

times_length : {A : Type 0} (n : ℕ) (xs : List A) → length (layouts.times n xs) ≡ n * length xs
unfolding layouts.times
times_length zero xs = sym (zero-mul (length xs))
times_length (suc n) xs = length-append xs (layouts.times n xs) ∙ ap (λ (m : ℕ). length xs + m) (times_length n xs) ∙ sym (suc_times n (length xs))

mutual
  unfolding weight nums

  pub elements_weight : (l : Layout) → weight false l ≡ length (nums l)
  elements_weight (leaf num) = refl
  elements_weight (row n l) = ap (λ (m : ℕ). n * m) (elements_weight l) ∙ sym (times_length n (nums l))
  elements_weight (fields ls) = all_weight ls

  all_weight : (ls : Layouts) → weights false ls ≡ length (all_nums ls)
  all_weight no_field = refl
  all_weight (field x l ls) = ap (λ (m : ℕ). m + weights false ls) (elements_weight l) ∙ ap (λ (m : ℕ). length (nums l) + m) (all_weight ls) ∙ sym (length-append (nums l) (all_nums ls))

behind_length : (s : Step) (cs : List Inner) → length (all_behind s cs) ≡ length cs
unfolding all_behind
behind_length s [] = refl
behind_length s (c ∷ cs) = ap suc (behind_length s cs)

each_length : (n k : ℕ) (cs : List Inner) → length (each_behind n k cs) ≡ n * length cs
unfolding each_behind
each_length zero k cs = sym (zero-mul (length cs))
each_length (suc n) k cs =
    length-append (all_behind (one k) cs) (each_behind n (k + 1) cs) ∙ ap (λ (m : ℕ). m + length (each_behind n (k + 1) cs)) (behind_length (one k) cs)
    ∙ ap (λ (m : ℕ). length cs + m) (each_length n (k + 1) cs) ∙ sym (suc_times n (length cs))

one_times : (n : ℕ) → 1 * n ≡ n
one_times n = omega arith

row_cells : (n : ℕ) (cs : List Inner) → times true n * length cs ≡ length (if nat_le n 128 then each_behind n 0 cs else all_behind (all n) cs)
row_cells n cs =
    elim (nat_le n 128) as (λ b. (if b then n else 1) * length cs ≡ length (if b then each_behind n 0 cs else all_behind (all n) cs)) [
      | true ↦ sym (each_length n 0 cs)
      | false ↦ one_times (length cs) ∙ sym (behind_length (all n) cs)
    ]

mutual
  unfolding weight inner_cells

  pub cells_weight : (l : Layout) → weight true l ≡ length (inner_cells l)
  cells_weight (leaf num) = refl
  cells_weight (row n l) = ap (λ (m : ℕ). times true n * m) (cells_weight l) ∙ row_cells n (inner_cells l)
  cells_weight (fields ls) = field_weight 0 ls

  field_weight : (k : ℕ) (ls : Layouts) → weights true ls ≡ length (field_cells k ls)
  field_weight k no_field = refl
  field_weight k (field x l ls) =
      ap (λ (m : ℕ). m + weights true ls) (cells_weight l ∙ sym (behind_length (of k) (inner_cells l)))
      ∙ ap (λ (m : ℕ). length (all_behind (of k) (inner_cells l)) + m) (field_weight (k + 1) ls)
      ∙ sym (length-append (all_behind (of k) (inner_cells l)) (field_cells (k + 1) ls))

-- the sizes of the first structures
pub record AreSized (b : Bool) (structs : List StructDef) (n : ℕ) (sizes : List ℕ) : Type 0 where
  pub long : length sizes ≡ n
  pub each : (k : ℕ) → k < n → get_or sizes k 0 ≡ weight b (struct_layout (reverse structs) k)

module _ (b : Bool) (structs : List StructDef) where
  extent_weight : (ns : List ℕ) (l : Layout) → extent b ns (weight b l) ≡ weight b (rows ns l)
  unfolding extent rows weight
  extent_weight [] l = refl
  extent_weight (n ∷ ns) l = ap (λ (m : ℕ). times b n * m) (extent_weight ns l)

  plain_weight : (n : ℕ) (sizes : List ℕ) (q : Plain) → AreSized b structs n sizes → PlainBelow n q → plain_size sizes q ≡ weight b (plain_layout (λ k. struct_layout (reverse structs) k) q)
  unfolding weight
  plain_weight n sizes (Scalar num) z h = refl
  plain_weight n sizes (Struct k) z h = z.each k h

  pub size_weight : (n : ℕ) (sizes : List ℕ) (s : Shape) → AreSized b structs n sizes → RefersBelow n s → size_by b sizes s ≡ weight b (shape_layout structs s)
  unfolding layout_with
  size_weight n sizes s z h = ap (extent b s.dims) (plain_weight n sizes s.plain z h) ∙ extent_weight s.dims (plain_layout (λ k. struct_layout (reverse structs) k) s.plain)

  pub sum_weight : (n : ℕ) (sizes : List ℕ) (fs : List FieldDef) → AreSized b structs n sizes → FieldsBelow n fs →
      sum_by b sizes (map field_shape fs) ≡ weights b (layouts_with (λ k. struct_layout (reverse structs) k) fs)
  unfolding sum_by layouts_with FieldsBelow weight
  sum_weight n sizes [] z h = refl
  sum_weight n sizes (f ∷ fs) z h =
      ap (λ (m : ℕ). m + sum_by b sizes (map field_shape fs)) (size_weight n sizes f.shape z h.0)
      ∙ ap (λ (m : ℕ). weight b (shape_layout structs f.shape) + m) (sum_weight n sizes fs z h.1)

  get_last : (xs : List ℕ) (x : ℕ) → get_or (xs ++ x ∷ []) (length xs) 0 ≡ x
  get_last [] x = refl
  get_last (y ∷ xs) x = get_last xs x

  get_front : (xs ys : List ℕ) (k : ℕ) → k < length xs → get_or (xs ++ ys) k 0 ≡ get_or xs k 0
  get_front [] ys k h = absurd (omega arith)
  get_front (x ∷ xs) ys zero h = refl
  get_front (x ∷ xs) ys (suc k) h = get_front xs ys k (omega arith)

  one_more : (n : ℕ) (sizes : List ℕ) (size : ℕ) → AreSized b structs n sizes → size ≡ weight b (struct_layout (reverse structs) n) → AreSized b structs (n + 1) (sizes ++ size ∷ [])
  one_more n sizes size z e = record {
    long = length-append sizes (size ∷ []) ∙ ap (λ (m : ℕ). m + 1) z.long;
    each = at;
  }
    where
      at : (k : ℕ) → k < n + 1 → get_or (sizes ++ size ∷ []) k 0 ≡ weight b (struct_layout (reverse structs) k)
      at k h =
          elim (k == n) as (λ t. (k == n) ≡ t → get_or (sizes ++ size ∷ []) k 0 ≡ weight b (struct_layout (reverse structs) k)) [
            | true ↦ λ t.
                let same : k ≡ n = grind (arith, nat_tests) in
                let long : k ≡ length sizes = same ∙ sym z.long in
                ap (λ (j : ℕ). get_or (sizes ++ size ∷ []) j 0) long ∙ get_last sizes size ∙ e ∙ ap (λ (j : ℕ). weight b (struct_layout (reverse structs) j)) (sym same)
            | false ↦ λ t.
                let less : k < n = grind (arith, nat_tests) in
                get_front sizes (size ∷ []) k (omega (arith, z.long)) ∙ z.each k less
          ] refl

  of_fields : (d : StructDef) → weights b (layouts_with (λ k. struct_layout (reverse structs) k) d.fields) ≡ weight b (fields (layouts_with (λ k. struct_layout (reverse structs) k) d.fields))
  unfolding weight
  of_fields d = refl

  sizes_grow : (n : ℕ) (sizes : List ℕ) (ds : List StructDef) → AreSized b structs n sizes →
      ((k : ℕ) (d : StructDef) → slice_get ds k ≡ Some d → (slice_get structs (n + k) ≡ Some d) × FieldsBelow (n + k) d.fields) → AreSized b structs (n + length ds) (sizes_from b sizes ds)
  unfolding sizes_from
  sizes_grow n sizes [] z h = subst (λ (m : ℕ). AreSized b structs m sizes) (omega arith) z
  sizes_grow n sizes (d ∷ ds) z h =
      let first : (slice_get structs n ≡ Some d) × FieldsBelow n d.fields = subst (λ (m : ℕ). (slice_get structs m ≡ Some d) × FieldsBelow m d.fields) (omega arith) (h 0 d refl) in
      let is : sum_by b sizes (field_shapes d) ≡ weight b (struct_layout (reverse structs) n) =
      sum_weight n sizes d.fields z first.1 ∙ of_fields d ∙ ap (weight b) (sym (struct_known structs n d first.0 first.1)) in
      subst (λ (m : ℕ). AreSized b structs m (sizes_from b (sizes ++ sum_by b sizes (field_shapes d) ∷ []) ds)) (omega arith)
      (sizes_grow (n + 1) (sizes ++ sum_by b sizes (field_shapes d) ∷ []) ds (one_more n sizes (sum_by b sizes (field_shapes d)) z is)
      (λ k x g. subst (λ (m : ℕ). (slice_get structs m ≡ Some x) × FieldsBelow m x.fields) (omega arith) (h (suc k) x g)))

  -- the sizes of all structures defined so far
  pub sizes_known : (defs : List StructDef) → IsFront defs structs → DefsBelow defs → AreSized b structs (length defs) (sizes_of b defs)
  sizes_known defs front below =
      subst (λ (m : ℕ). AreSized b structs m (sizes_of b defs)) (omega arith)
      (sizes_grow 0 [] defs (record { long = refl; each = λ k h. absurd (omega arith) })
      (λ k d h. (subst (λ (m : ℕ). slice_get structs m ≡ Some d) (omega arith) (front k d h), subst (λ (m : ℕ). FieldsBelow m d.fields) (omega arith) (below k d h))))
