-- Elements in the order of their addresses, and what a cell begins with.
use Rattle.std.proofs.lemmas.Bool.Decides.{nat_tests}
use Rattle.std.proofs.Common.{◌≡◌, ℕ, zero, suc, ◌+◌, ◌*◌, ◌<◌, ◌≤◌, ℤ, pos, Bool, true, false, ◌&&◌, List, [], ◌∷◌, ◌++◌, length, refl, sym, ap, subst, ◌∙◌, arith, Option, Some, None, inl, inr}
use Rattle.std.specs.Prelude.{if◌then◌else◌, get_or, IsTrue, ◌==◌, nat_lt, nat_le, slice_get}
use Rattle.std.proofs.Math.Nat.{suc-mul, zero-mul}
use Rattle.std.proofs.lemmas.Int.{ints, clamps}
use Rattle.sa_base.specs.Numbers.{num_lo, num_hi}
use Rattle.sa_base.specs.declared.num.Num.{Num}
use Rattle.sa_base.specs.declared.num.Num.TheVariants.{I8, U8, I16, U16, I32, U32, I64, U64}
use Rattle.sa_interval.specs.Span.{Span, Within}
use Rattle.sa_interval.specs.Rows.{single, join_of}
use Rattle.sa_typed.specs.Arithmetic.{is_of}
use Rattle.sa_typed.specs.Layouts.{Layout, Layouts, leaf, row, fields, no_field, field, times, nums, all_nums, nth_field, before_field, step_into, or_nothing, skipped, index_of}
use Rattle.sa_typed.specs.Cells.{Inner, one, all, of, behind, all_behind, each_behind, inner_cells, field_cells, covers_step, covers, most_elements}
use Rattle.sa_typed.specs.Cells as cell
use Rattle.sa_typed.specs.Evaluation.{Value, Gives, Stops, Blocked, Tape, then_value}
use Rattle.sa_typed.specs.Executions.{any_numbers}
use Rattle.sa_typed.specs.declared.shape.Part.{Part}
use Rattle.sa_typed.specs.declared.shape.Part.TheVariants.{At, Field}
use Rattle.sa_operators.specs.Operators.{IsIn, range_of}
use Rattle.sa_reference.specs.Environments.{joined_from, initial_span}
use Rattle.sa_reference.proofs.Laws.{Covers}
use Rattle.sa_reference.proofs.SpanLaws.{and_left, and_right, le_fact, join_left, join_right, join_in, single_within}
use Rattle.sa_reference.proofs.CellLaws.{parts_layout, none_is, AllOf, all_of_append}

-- ---- lists
get_left : {A : Type 0} (xs ys : List A) (j : ℕ) (a : A) → slice_get xs j ≡ Some a → slice_get (xs ++ ys) j ≡ Some a
get_left [] ys j a h = cc
get_left (x ∷ xs) ys zero a h = h
get_left (x ∷ xs) ys (suc j) a h = get_left xs ys j a h

get_right : {A : Type 0} (xs ys : List A) (j : ℕ) → slice_get (xs ++ ys) (length xs + j) ≡ slice_get ys j
get_right [] ys j = let e : 0 + j ≡ j = omega arith in ap (λ (i : ℕ). slice_get ys i) e
get_right (x ∷ xs) ys j =
    let e : suc (length xs) + j ≡ suc (length xs + j) = omega arith in ap (λ (i : ℕ). slice_get (x ∷ (xs ++ ys)) i) e ∙ get_right xs ys j

times_get : {A : Type 0} (n : ℕ) (xs : List A) (i j : ℕ) (a : A) → i < n → slice_get xs j ≡ Some a → slice_get (times n xs) (i * length xs + j) ≡ Some a
unfolding times
times_get zero xs i j a h g = absurd (omega (arith, h))
times_get (suc n) xs zero j a h g =
    let e : zero * length xs + j ≡ j = simp (zero-mul) (omega arith) in ap (λ (k : ℕ). slice_get (xs ++ times n xs) k) e ∙ get_left xs (times n xs) j a g
times_get (suc n) xs (suc i) j a h g =
    ap (λ (k : ℕ). slice_get (xs ++ times n xs) k) (arranged i (length xs) j) ∙ get_right xs (times n xs) (i * length xs + j) ∙ times_get n xs i j a (omega (arith, h)) g
  where
    arranged : (i m j : ℕ) → suc i * m + j ≡ m + (i * m + j)
    arranged i m j = let e = suc-mul i m in omega (arith, e)

-- ---- an element by its number
mutual
  unfolding parts_layout nums index_of step_into nth_field before_field

  pub number_of : (l : Layout) (ps : List Part) (num : Num) → parts_layout (Some l) ps ≡ Some (leaf num) → slice_get (nums l) (index_of l ps) ≡ Some num
  number_of (leaf m) [] num h = let e : m ≡ num = cc in ap Some e
  number_of (leaf m) (s ∷ ps) num h = none_is ps (leaf num) h
  number_of (row n l) [] num h = cc
  number_of (row n l) (Field f ∷ ps) num h = none_is ps (leaf num) h
  number_of (row n l) (At i ∷ ps) num h =
      elim (nat_lt i n) as (λ b. nat_lt i n ≡ b → parts_layout (if b then Some l else None) ps ≡ Some (leaf num) →
      slice_get (times n (nums l)) (i * length (nums l) + index_of (or_nothing (if b then Some l else None)) ps) ≡ Some num) [
        | true ↦ λ e h. times_get n (nums l) i (index_of l ps) num (grind (arith, nat_tests)) (number_of l ps num h)
        | false ↦ λ e h. none_is ps (leaf num) h
      ] refl h
  number_of (fields ls) [] num h = cc
  number_of (fields ls) (At i ∷ ps) num h = none_is ps (leaf num) h
  number_of (fields ls) (Field f ∷ ps) num h = number_in ls f ps num h

  number_in : (ls : Layouts) (f : ℕ) (ps : List Part) (num : Num) → parts_layout (nth_field ls f) ps ≡ Some (leaf num) →
      slice_get (all_nums ls) (before_field ls f + index_of (or_nothing (nth_field ls f)) ps) ≡ Some num
  number_in no_field f ps num h = none_is ps (leaf num) h
  number_in (field x l ls) zero ps num h =
      let e : 0 + index_of l ps ≡ index_of l ps = omega arith in
      ap (λ (i : ℕ). slice_get (nums l ++ all_nums ls) i) e ∙ get_left (nums l) (all_nums ls) (index_of l ps) num (number_of l ps num h)
  number_in (field x l ls) (suc f) ps num h =
      let j = before_field ls f + index_of (or_nothing (nth_field ls f)) ps in
      let e : length (nums l) + before_field ls f + index_of (or_nothing (nth_field ls f)) ps ≡ length (nums l) + j = omega arith in
      ap (λ (i : ℕ). slice_get (nums l ++ all_nums ls) i) e ∙ get_right (nums l) (all_nums ls) j ∙ number_in ls f ps num h

-- numbers of the types of some elements
abbrev pub AreNumbers : List Num → List ℤ → Type 0
AreNumbers ns zs = (i : ℕ) (num : Num) → slice_get ns i ≡ Some num → is_of num (get_or zs i (pos 0)) ≡ true

pub any_cover : (ns : List Num) (tape : List ℤ) → Covers (AreNumbers ns) [] (any_numbers ns tape)
unfolding any_numbers
any_cover [] tape = none
  where
    none : AreNumbers [] []
    none i num h = cc
any_cover (n ∷ ns) [] = tt
any_cover (n ∷ ns) (z ∷ tape) =
    elim (is_of n z) as (λ b. is_of n z ≡ b → Covers (AreNumbers (n ∷ ns)) [] (if b then then_value (any_numbers ns tape) (λ zs tape. Gives (z ∷ zs) tape) else Stops Blocked)) [
      | true ↦ λ e. more e (any_numbers ns tape) (any_cover ns tape)
      | false ↦ λ e. tt
    ] refl
  where
    more : is_of n z ≡ true → (v : Value (List ℤ)) → Covers (AreNumbers ns) [] v → Covers (AreNumbers (n ∷ ns)) [] (then_value v (λ zs tape. Gives (z ∷ zs) tape))
    more e (Stops end) h = h
    more e (Gives zs tape) h = longer zs h
      where
        longer : (zs : List ℤ) → AreNumbers ns zs → AreNumbers (n ∷ ns) (z ∷ zs)
        longer zs h zero num g = let is : n ≡ num = cc in subst (λ (m : Num). is_of m z ≡ true) is e
        longer zs h (suc i) num g = h i num g

pub of_within : (num : Num) (z : ℤ) → is_of num z ≡ true → Within (range_of num) z
of_within num z h = record { above = le_fact _ _ (and_left _ _ h); below = le_fact _ _ (and_right _ _ h) }

pub single_in : (num : Num) (z : ℤ) → is_of num z ≡ true → IsIn num (single z)
single_in num z h = record { ordered = omega (arith, ints); part = record { above = le_fact _ _ (and_left _ _ h); below = le_fact _ _ (and_right _ _ h) } }

-- ---- initial values
joined_within : (more k i : ℕ) (f : ℕ → Span) (z : ℤ) → i ≤ more → Within (f (k + i)) z → Within (joined_from k f more) z
unfolding joined_from
joined_within zero k i f z h w = let e : k + i ≡ k = omega (arith, h) in subst (λ (j : ℕ). Within (f j) z) e w
joined_within (suc more) k zero f z h w = let e : k + 0 ≡ k = omega arith in join_left (f k) (joined_from (k + 1) f more) z (subst (λ (j : ℕ). Within (f j) z) e w)
joined_within (suc more) k (suc i) f z h w =
    let e : k + suc i ≡ k + 1 + i = omega arith in
    join_right (f k) (joined_from (k + 1) f more) z (joined_within more (k + 1) i f z (omega (arith, h)) (subst (λ (j : ℕ). Within (f j) z) e w))

joined_stays : (num : Num) (more k : ℕ) (f : ℕ → Span) → ((i : ℕ) → i ≤ more → IsIn num (f (k + i))) → IsIn num (joined_from k f more)
unfolding joined_from
joined_stays num zero k f h = let e : k + 0 ≡ k = omega arith in subst (λ (j : ℕ). IsIn num (f j)) e (h 0 (omega arith))
joined_stays num (suc more) k f h =
    let e : k + 0 ≡ k = omega arith in
    join_in num (f k) (joined_from (k + 1) f more) (subst (λ (j : ℕ). IsIn num (f j)) e (h 0 (omega arith)))
    (joined_stays num more (k + 1) f (λ i g. let d : k + suc i ≡ k + 1 + i = omega arith in subst (λ (j : ℕ). IsIn num (f j)) d (h (suc i) (omega (arith, g)))))

pub zero_of : (num : Num) → is_of num (pos 0) ≡ true
zero_of I8 = refl
zero_of U8 = refl
zero_of I16 = refl
zero_of U16 = refl
zero_of I32 = refl
zero_of U32 = refl
zero_of I64 = refl
zero_of U64 = refl

-- the numbers that elements begin with, from one on, are of their types
abbrev pub Fits : Layout → List ℤ → ℕ → Type 0
Fits l zs at = (i : ℕ) (num : Num) → slice_get (nums l) i ≡ Some num → is_of num (get_or zs (at + i) (pos 0)) ≡ true

number_is : (k i : ℕ) → (k == i) ≡ true → k ≡ i
number_is k i h = grind (arith, nat_tests)

row_fits : (n : ℕ) (l : Layout) (zs : List ℤ) (at k : ℕ) → k < n → Fits (row n l) zs at → Fits l zs (at + k * length (nums l))
unfolding nums
row_fits n l zs at k h f i num g =
    let e : at + k * length (nums l) + i ≡ at + (k * length (nums l) + i) = omega arith in
    subst (λ (j : ℕ). is_of num (get_or zs j (pos 0)) ≡ true) (sym e) (f (k * length (nums l) + i) num (times_get n (nums l) k i num h g))

field_fits : (ls : Layouts) (f : ℕ) (l : Layout) (i : ℕ) (num : Num) → nth_field ls f ≡ Some l → slice_get (nums l) i ≡ Some num → slice_get (all_nums ls) (before_field ls f + i) ≡ Some num
unfolding nth_field before_field nums
field_fits no_field f l i num h g = cc
field_fits (field x m ls) zero l i num h g =
    let is : m ≡ l = cc in
    let e : 0 + i ≡ i = omega arith in
    ap (λ (j : ℕ). slice_get (nums m ++ all_nums ls) j) e ∙ get_left (nums m) (all_nums ls) i num (subst (λ (l : Layout). slice_get (nums l) i ≡ Some num) (sym is) g)
field_fits (field x m ls) (suc f) l i num h g =
    let e : length (nums m) + before_field ls f + i ≡ length (nums m) + (before_field ls f + i) = omega arith in
    ap (λ (j : ℕ). slice_get (nums m ++ all_nums ls) j) e ∙ get_right (nums m) (all_nums ls) (before_field ls f + i) ∙ field_fits ls f l i num h g

fields_fit : (ls : Layouts) (f : ℕ) (l : Layout) (zs : List ℤ) (at : ℕ) → nth_field ls f ≡ Some l → Fits (fields ls) zs at → Fits l zs (at + before_field ls f)
unfolding nums
fields_fit ls f l zs at h g i num e =
    let d : at + before_field ls f + i ≡ at + (before_field ls f + i) = omega arith in
    subst (λ (j : ℕ). is_of num (get_or zs j (pos 0)) ≡ true) (sym d) (g (before_field ls f + i) num (field_fits ls f l i num h e))

-- a cell's initial span is of its type
abbrev pub Begins : List ℤ → Layout → Inner → Type 0
Begins zs l c = (at : ℕ) → Fits l zs at → IsIn c.num (initial_span zs l c.steps at)

begin_behind : (zs : List ℤ) (s : cell.Step) (m l : Layout) (cs : List Inner) → ((c : Inner) → Begins zs l c → Begins zs m (behind s c)) → AllOf (Begins zs l) cs → AllOf (Begins zs m) (all_behind s cs)
unfolding all_behind
begin_behind zs s m l [] k h = tt
begin_behind zs s m l (c ∷ cs) k h = (k c h.0, begin_behind zs s m l cs k h.1)

begin_one : (zs : List ℤ) (n k : ℕ) (l : Layout) → k < n → (c : Inner) → Begins zs l c → Begins zs (row n l) (behind (one k) c)
unfolding initial_span
begin_one zs zero k l h c b at f = absurd (omega (arith, h))
begin_one zs (suc n) k l h c b at f = b (at + k * length (nums l)) (row_fits (suc n) l zs at k h f)

begin_all : (zs : List ℤ) (n m : ℕ) (l : Layout) (c : Inner) → Begins zs l c → Begins zs (row n l) (behind (all m) c)
unfolding initial_span
begin_all zs zero m l c b at f = single_in c.num (pos 0) (zero_of c.num)
begin_all zs (suc n) m l c b at f =
    joined_stays c.num n 0 (λ k. initial_span zs l c.steps (at + k * length (nums l)))
    (λ i h. b (at + (0 + i) * length (nums l)) (row_fits (suc n) l zs at (0 + i) (omega (arith, h)) f))

begin_field : (zs : List ℤ) (ls : Layouts) (k : ℕ) (l : Layout) → nth_field ls k ≡ Some l → (c : Inner) → Begins zs l c → Begins zs (fields ls) (behind (of k) c)
unfolding initial_span
begin_field zs ls k l h c b at f =
    subst (λ (o : Option Layout). IsIn c.num (initial_span zs (or_nothing o) c.steps (at + before_field ls k))) (sym h) (b (at + before_field ls k) (fields_fit ls k l zs at h f))

begin_each : (zs : List ℤ) (m n k : ℕ) (l : Layout) (cs : List Inner) → k + m ≤ n → AllOf (Begins zs l) cs → AllOf (Begins zs (row n l)) (each_behind m k cs)
unfolding each_behind
begin_each zs zero n k l cs h a = tt
begin_each zs (suc m) n k l cs h a =
    all_of_append (Begins zs (row n l)) (all_behind (one k) cs) (each_behind m (k + 1) cs) (begin_behind zs (one k) (row n l) l cs (begin_one zs n k l (omega (arith, h))) a)
    (begin_each zs m n (k + 1) l cs (omega (arith, h)) a)

begin_rows : (zs : List ℤ) (n : ℕ) (l : Layout) (b : Bool) → AllOf (Begins zs l) (inner_cells l) →
    AllOf (Begins zs (row n l)) (if b then each_behind n 0 (inner_cells l) else all_behind (all n) (inner_cells l))
begin_rows zs n l true a = begin_each zs n n 0 l (inner_cells l) (omega arith) a
begin_rows zs n l false a = begin_behind zs (all n) (row n l) l (inner_cells l) (begin_all zs n n l) a

begin_leaf : (zs : List ℤ) (num : Num) → Begins zs (leaf num) (record { steps = []; num = num })
unfolding initial_span nums
begin_leaf zs num at f = let e : at + 0 ≡ at = omega arith in single_in num _ (subst (λ (j : ℕ). is_of num (get_or zs j (pos 0)) ≡ true) e (f 0 num refl))

mutual
  unfolding inner_cells field_cells nth_field

  pub cells_begin : (zs : List ℤ) (l : Layout) → AllOf (Begins zs l) (inner_cells l)
  cells_begin zs (leaf num) = (begin_leaf zs num, tt)
  cells_begin zs (row n l) = begin_rows zs n l (nat_le n most_elements) (cells_begin zs l)
  cells_begin zs (fields ls) = fields_begin zs ls ls 0 (λ j. let e : j ≡ 0 + j = omega arith in ap (λ (i : ℕ). nth_field ls i) e)

  fields_begin : (zs : List ℤ) (ls whole : Layouts) (k : ℕ) → ((j : ℕ) → nth_field ls j ≡ nth_field whole (k + j)) → AllOf (Begins zs (fields whole)) (field_cells k ls)
  fields_begin zs no_field whole k h = tt
  fields_begin zs (field x l ls) whole k h =
      let e : k + 0 ≡ k = omega arith in
      all_of_append (Begins zs (fields whole)) (all_behind (of k) (inner_cells l)) (field_cells (k + 1) ls)
      (begin_behind zs (of k) (fields whole) l (inner_cells l) (begin_field zs whole k l (sym (h 0 ∙ ap (λ (i : ℕ). nth_field whole i) e))) (cells_begin zs l))
      (fields_begin zs ls whole (k + 1) (λ j. let d : k + suc j ≡ k + 1 + j = omega arith in h (suc j) ∙ ap (λ (i : ℕ). nth_field whole i) d))

-- and it holds the number that each element begins with for which the cell stands
index_case : (b : Bool) (l : Layout) (ps : List Part) (num : Num) (P : ℕ → Type 0) → parts_layout (if b then Some l else None) ps ≡ Some (leaf num) →
    (b ≡ true → parts_layout (Some l) ps ≡ Some (leaf num) → P (index_of l ps)) → P (index_of (or_nothing (if b then Some l else None)) ps)
index_case true l ps num P h go = go refl h
index_case false l ps num P h go = none_is ps (leaf num) h

field_case : (o : Option Layout) (ps : List Part) (num : Num) (P : Layout → ℕ → Type 0) → parts_layout o ps ≡ Some (leaf num) →
    ((l : Layout) → parts_layout (Some l) ps ≡ Some (leaf num) → P l (index_of l ps)) → P (or_nothing o) (index_of (or_nothing o) ps)
field_case None ps num P h go = none_is ps (leaf num) h
field_case (Some l) ps num P h go = go l h

-- the element with this index in a row, whose steps within are counted from its own start
row_index : (zs : List ℤ) (s : ℕ → Span) (at k i m j : ℕ) → k ≡ i → Within (s (at + k * m)) (get_or zs (at + k * m + j) (pos 0)) → Within (s (at + i * m)) (get_or zs (at + (i * m + j)) (pos 0))
row_index zs s at k i m j e w =
    let d : at + i * m + j ≡ at + (i * m + j) = omega arith in
    subst (λ (x : ℕ). Within (s (at + i * m)) (get_or zs x (pos 0))) d (subst (λ (k : ℕ). Within (s (at + k * m)) (get_or zs (at + k * m + j) (pos 0))) e w)

all_index : (zs : List ℤ) (ss : List cell.Step) (n m : ℕ) (l : Layout) (at i j : ℕ) → i < n → Within (initial_span zs l ss (at + i * length (nums l))) (get_or zs (at + i * length (nums l) + j) (pos 0)) →
    Within (initial_span zs (row n l) (all m ∷ ss) at) (get_or zs (at + (i * length (nums l) + j)) (pos 0))
unfolding initial_span
all_index zs ss zero m l at i j h w = absurd (omega (arith, h))
all_index zs ss (suc n) m l at i j h w =
    let d : at + i * length (nums l) + j ≡ at + (i * length (nums l) + j) = omega arith in
    let e : i ≡ 0 + i = omega arith in
    joined_within n 0 i (λ k. initial_span zs l ss (at + k * length (nums l))) (get_or zs (at + (i * length (nums l) + j)) (pos 0)) (omega (arith, h))
    (subst (λ (k : ℕ). Within (initial_span zs l ss (at + k * length (nums l))) (get_or zs (at + (i * length (nums l) + j)) (pos 0))) e
    (subst (λ (x : ℕ). Within (initial_span zs l ss (at + i * length (nums l))) (get_or zs x (pos 0))) d w))

one_index : (zs : List ℤ) (ss : List cell.Step) (n k : ℕ) (l : Layout) (at i j : ℕ) → k ≡ i → Within (initial_span zs l ss (at + k * length (nums l))) (get_or zs (at + k * length (nums l) + j) (pos 0)) →
    Within (initial_span zs (row n l) (one k ∷ ss) at) (get_or zs (at + (i * length (nums l) + j)) (pos 0))
unfolding initial_span
one_index zs ss zero k l at i j e w =
    subst (λ (x : ℕ). Within (initial_span zs l ss (at + x * length (nums l))) (get_or zs (at + (i * length (nums l) + j)) (pos 0))) (sym e) (row_index zs (λ x. initial_span zs l ss x) at k i (length (nums l)) j e w)
one_index zs ss (suc n) k l at i j e w =
    subst (λ (x : ℕ). Within (initial_span zs l ss (at + x * length (nums l))) (get_or zs (at + (i * length (nums l) + j)) (pos 0))) (sym e) (row_index zs (λ x. initial_span zs l ss x) at k i (length (nums l)) j e w)

of_field : (zs : List ℤ) (ss : List cell.Step) (ls : Layouts) (k f at : ℕ) (ps : List Part) → k ≡ f →
    Within (initial_span zs (or_nothing (nth_field ls f)) ss (at + before_field ls f)) (get_or zs (at + before_field ls f + index_of (or_nothing (nth_field ls f)) ps) (pos 0)) →
    Within (initial_span zs (fields ls) (of k ∷ ss) at) (get_or zs (at + (before_field ls f + index_of (or_nothing (nth_field ls f)) ps)) (pos 0))
unfolding initial_span
of_field zs ss ls k f at ps e w =
    let j = index_of (or_nothing (nth_field ls f)) ps in
    let d : at + before_field ls f + j ≡ at + (before_field ls f + j) = omega arith in
    subst (λ (k : ℕ). Within (initial_span zs (or_nothing (nth_field ls k)) ss (at + before_field ls k)) (get_or zs (at + (before_field ls f + j)) (pos 0))) (sym e)
    (subst (λ (x : ℕ). Within (initial_span zs (or_nothing (nth_field ls f)) ss (at + before_field ls f)) (get_or zs x (pos 0))) d w)

at_element : (zs : List ℤ) (l : Layout) (at : ℕ) → Within (initial_span zs l [] at) (get_or zs (at + 0) (pos 0))
unfolding initial_span
at_element zs l at = let e : at + 0 ≡ at = omega arith in subst (λ (j : ℕ). Within (single (get_or zs at (pos 0))) (get_or zs j (pos 0))) (sym e) (single_within (get_or zs at (pos 0)))

less : (i n : ℕ) → nat_lt i n ≡ true → i < n
less i n h = grind (arith, nat_tests)

pub begins_within : (zs : List ℤ) (ss : List cell.Step) (l : Layout) (ps : List Part) (num : Num) (at : ℕ) → covers ss ps ≡ true → parts_layout (Some l) ps ≡ Some (leaf num) →
    Within (initial_span zs l ss at) (get_or zs (at + index_of l ps) (pos 0))
unfolding covers parts_layout index_of step_into
begins_within zs [] l [] num at c h = at_element zs l at
begins_within zs [] l (p ∷ ps) num at c h = cc
begins_within zs (s ∷ ss) l [] num at c h = cc
begins_within zs (s ∷ ss) (leaf m) (p ∷ ps) num at c h = none_is ps (leaf num) h
begins_within zs (s ∷ ss) (row n l) (Field f ∷ ps) num at c h = none_is ps (leaf num) h
begins_within zs (of k ∷ ss) (row n l) (At i ∷ ps) num at c h = cc
begins_within zs (one k ∷ ss) (row n l) (At i ∷ ps) num at c h =
    index_case (nat_lt i n) l ps num (λ j. Within (initial_span zs (row n l) (one k ∷ ss) at) (get_or zs (at + (i * length (nums l) + j)) (pos 0))) h
    (λ e g. one_index zs ss n k l at i (index_of l ps) (number_is k i (and_left (k == i) (covers ss ps) c)) (begins_within zs ss l ps num (at + k * length (nums l)) (and_right (k == i) (covers ss ps) c) g))
begins_within zs (all m ∷ ss) (row n l) (At i ∷ ps) num at c h =
    index_case (nat_lt i n) l ps num (λ j. Within (initial_span zs (row n l) (all m ∷ ss) at) (get_or zs (at + (i * length (nums l) + j)) (pos 0))) h
    (λ e g. all_index zs ss n m l at i (index_of l ps) (less i n e) (begins_within zs ss l ps num (at + i * length (nums l)) (and_right (nat_lt i m) (covers ss ps) c) g))
begins_within zs (s ∷ ss) (fields ls) (At i ∷ ps) num at c h = none_is ps (leaf num) h
begins_within zs (one k ∷ ss) (fields ls) (Field f ∷ ps) num at c h = cc
begins_within zs (all m ∷ ss) (fields ls) (Field f ∷ ps) num at c h = cc
begins_within zs (of k ∷ ss) (fields ls) (Field f ∷ ps) num at c h =
    of_field zs ss ls k f at ps (number_is k f (and_left (k == f) (covers ss ps) c))
    (field_case (nth_field ls f) ps num (λ l j. Within (initial_span zs l ss (at + before_field ls f)) (get_or zs (at + before_field ls f + j) (pos 0))) h
    (λ l g. begins_within zs ss l ps num (at + before_field ls f) (and_right (k == f) (covers ss ps) c) g))
