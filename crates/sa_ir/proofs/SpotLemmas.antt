-- Objects that are still to be read.
use Rattle.std.proofs.Common.{◌≡◌, ℕ, zero, suc, ◌+◌, ◌-◌, ◌*◌, ◌^◌, ◌<◌, ◌≤◌, ℤ, pos, Bool, true, false, List, [], ◌∷◌, ◌++◌, length, get_or, drop, take, map, refl, sym, ap, ◌∙◌, append_assoc, append-nil, length-append, arith}
use Rattle.std.specs.Prelude.{if◌then◌else◌, nat_le, min, Option, Some, None, Result, Ok, Err, IfOk}
use Rattle.std.specs.List.{flat_map}
use Rattle.std.proofs.lemmas.Bool.Decides.{nat_tests}
use Rattle.std.proofs.lemmas.List.{drop_more, drop_all, take_more, length-map}
use Rattle.std.proofs.lemmas.Grind.{flat_map-append}
use Rattle.sa_ir.specs.declared.ir.Ends.{Ends}
use Rattle.sa_ir.specs.Initial.{single, join_some}
use Rattle.sa_base.specs.declared.num.Num.{Num}
use Rattle.sa_typed.specs.Layouts.{Layout, leaf, row, nums, all_nums, rows}
use Rattle.sa_typed.specs.Cells.{Inner, inner_cells, is_starred, most_elements}
use Rattle.sa_typed.specs.declared.shape.Plain.{Plain}
use Rattle.sa_typed.specs.declared.shape.Plain.TheVariants.{Scalar, Struct}
use Rattle.sa_typed.specs.declared.shape.StructDef.{StructDef}
use Rattle.sa_ir.specs.Initial.{initial_ends}
use Rattle.sa_ir.specs.declared.slots.Row.{Row}
use Rattle.sa_ir.specs.declared.slots.Spot.{Spot}
use Rattle.sa_ir.specs.declared.slots.Slot.{Slot}
use Rattle.sa_ir.specs.declared.slots.Elements.{Elements}
use Rattle.sa_ir.specs.Sizes.{among, no_array, capped}
use Rattle.sa_ir.specs.Slots.{spread, values_of, slot, slot_of, slots_in, together, apart}
use Rattle.sa_ir.specs.Spots.{all_slots, base_layout, IsKnown, AreKnown, spot_slots, left, work, weight, wound, HasWidths, IsNothing, IsSpotOf, first_element}
use Rattle.sa_ir.proofs.SpreadLaws.{zeros}
use Rattle.sa_ir.proofs.SlotLaws.{slots-apart, slots-one, slots-together, no-slots, length-times, apart-capped, together-capped}
use Rattle.sa_ir.proofs.StructLemmas.{among-struct, among-none}
use Rattle.sa_ir.proofs.StepLemmas.{here}
use Rattle.sa_ir.proofs.SizeLemmas.{capped-left}

-- ---- lists of lists
flat-same : {X Y : Type 0} (f g : X → List Y) (xs : List X) → ((x : X) → f x ≡ g x) → flat_map f xs ≡ flat_map g xs
flat-same f g [] h = refl
flat-same f g (x ∷ xs) h = rw (h x, flat-same f g xs h) refl

flat-flat : {X Y Z : Type 0} (f : Y → List Z) (g : X → List Y) (xs : List X) → flat_map f (flat_map g xs) ≡ flat_map (λ x. flat_map f (g x)) xs
flat-flat f g [] = refl
flat-flat f g (x ∷ xs) = flat_map-append f (g x) (flat_map g xs) ∙ ap (λ l. flat_map f (g x) ++ l) (flat-flat f g xs)

flat-mapped : {X Y Z : Type 0} (f : Y → List Z) (g : X → Y) (xs : List X) → flat_map f (map g xs) ≡ flat_map (λ x. f (g x)) xs
flat-mapped f g [] = refl
flat-mapped f g (x ∷ xs) = ap (λ l. f (g x) ++ l) (flat-mapped f g xs)

length-flat : {X Y : Type 0} (f : X → List Y) (n : ℕ) (xs : List X) → ((x : X) → length (f x) ≡ n) → length (flat_map f xs) ≡ length xs * n
length-flat f n [] h = grind arith
length-flat f n (x ∷ xs) h = length-append (f x) (flat_map f xs) ∙ rw (h x, length-flat f n xs h) (grind arith)

-- ---- one array
length-apart : (n w k j : ℕ) (e : Elements) → length (apart n w k j e) ≡ k
unfolding apart
length-apart n w zero j e = refl
length-apart n w (suc k) j e = ap suc (length-apart n w k (j + 1) e)

pub work-small : (n : ℕ) (l : Layout) → n ≤ 128 → work (row n l) ≡ n * work l
unfolding work
work-small n l h = let t : nat_le n most_elements ≡ true = grind (arith, nat_tests) in rw t refl

pub work-large : (n : ℕ) (l : Layout) → 128 < n → work (row n l) ≡ work l
unfolding work
work-large n l h = let t : nat_le n most_elements ≡ false = grind (arith, nat_tests) in rw t refl

module _ (zs : List ℤ) (n : ℕ) (l : Layout) (xs : List Elements) where
  pub within-one : n ≡ 1 → flat_map (slots_in zs l) xs ≡ flat_map (slots_in zs (row n l)) xs
  within-one h = flat-same (slots_in zs l) (slots_in zs (row n l)) xs (λ e. sym (ap (λ (k : ℕ). slots_in zs (row k l) e) h ∙ slots-one zs l e))

  module _ (len w : ℕ) (long : length zs ≡ len) (fits : len ≤ 2 ^ 64 - 1) (width : w ≡ capped (length (nums l))) where
    pub within-apart : n ≤ 128 → flat_map (slots_in zs l) (flat_map (λ e. apart len w n 0 e) xs) ≡ flat_map (slots_in zs (row n l)) xs
    within-apart h =
        flat-flat (slots_in zs l) (λ e. apart len w n 0 e) xs
        ∙ flat-same (λ e. flat_map (slots_in zs l) (apart len w n 0 e)) (slots_in zs (row n l)) xs
        (λ e. ap (λ (k : ℕ). flat_map (slots_in zs l) (apart len k n 0 e)) width
        ∙ ap (λ (es : List Elements). flat_map (slots_in zs l) es) (apart-capped len (length (nums l)) n 0 e fits)
        ∙ ap (λ (k : ℕ). flat_map (slots_in zs l) (apart k (length (nums l)) n 0 e)) (sym long)
        ∙ sym (slots-apart zs n l e h))

    pub within-together : 128 < n → flat_map (slots_in zs l) (map (λ e. together len w n e) xs) ≡ flat_map (slots_in zs (row n l)) xs
    within-together h =
        flat-mapped (slots_in zs l) (λ e. together len w n e) xs
        ∙ flat-same (λ e. slots_in zs l (together len w n e)) (slots_in zs (row n l)) xs
        (λ e. ap (λ (k : ℕ). slots_in zs l (together len k n e)) width
        ∙ ap (λ (x : Elements). slots_in zs l x) (together-capped len (length (nums l)) n e fits)
        ∙ ap (λ (k : ℕ). slots_in zs l (together k (length (nums l)) n e)) (sym long)
        ∙ sym (slots-together zs n l e h))

pub work-one : (n : ℕ) (l : Layout) (xs : List Elements) → n ≡ 1 → length xs * work l ≡ length xs * work (row n l)
work-one n l xs h =
    let e : work (row n l) ≡ work l = ap (λ (k : ℕ). work (row k l)) h ∙ work-small 1 l (omega arith) ∙ (let f : 1 * work l ≡ work l = grind arith in f) in
    ap (λ (k : ℕ). length xs * k) (sym e)

pub work-apart : (n len w : ℕ) (l : Layout) (xs : List Elements) → n ≤ 128 → length (flat_map (λ e. apart len w n 0 e) xs) * work l ≡ length xs * work (row n l)
work-apart n len w l xs h =
    ap (λ (k : ℕ). k * work l) (length-flat (λ e. apart len w n 0 e) n xs (λ e. length-apart len w n 0 e))
    ∙ (let f : length xs * n * work l ≡ length xs * (n * work l) = grind arith in f) ∙ ap (λ (k : ℕ). length xs * k) (sym (work-small n l h))

pub work-together : (n len w : ℕ) (l : Layout) (xs : List Elements) → 128 < n → length (map (λ e. together len w n e) xs) * work l ≡ length xs * work (row n l)
work-together n len w l xs h =
    ap (λ (k : ℕ). k * work l) (length-map xs (λ e. together len w n e)) ∙ ap (λ (k : ℕ). length xs * k) (sym (work-large n l h))

-- ---- arrays within arrays
rows-push : (ns : List ℕ) (n : ℕ) (l : Layout) → rows (ns ++ n ∷ []) l ≡ rows ns (row n l)
unfolding rows
rows-push [] n l = refl
rows-push (m ∷ ns) n l = ap (λ (x : Layout). row m x) (rows-push ns n l)

-- the last of the first dimensions
pub rows-last : (dims : List ℕ) (k n : ℕ) (l : Layout) → 0 < k → k ≤ length dims → n ≡ get_or dims (k - 1) 0 → rows (take k dims) l ≡ rows (take (k - 1) dims) (row n l)
rows-last dims k n l some inside is =
    let next : (k - 1) + 1 ≡ k = omega arith in
    ap (λ (i : ℕ). rows (take i dims) l) (sym next) ∙ ap (λ (ns : List ℕ). rows ns l) (take_more dims (k - 1) 0 (omega arith))
    ∙ rows-push (take (k - 1) dims) (get_or dims (k - 1) 0) l ∙ ap (λ (m : ℕ). rows (take (k - 1) dims) (row m l)) (sym is)

pub wound-push : (rs : List Row) (r : Row) (l : Layout) → wound (rs ++ r ∷ []) l ≡ row r.n (wound rs l)
unfolding wound
wound-push [] r l = refl
wound-push (q ∷ rs) r l = wound-push rs r (row q.n l)

pub widths-push : (rs : List Row) (r : Row) (l : Layout) → HasWidths rs l → r.width ≡ capped (length (nums (wound rs l))) → HasWidths (rs ++ r ∷ []) l
unfolding wound
widths-push [] r l h k = (k, tt)
widths-push (q ∷ rs) r l h k = (h.0, widths-push rs r (row q.n l) h.1 k)

pub widths-pop : (rs : List Row) (r : Row) (l : Layout) → HasWidths (rs ++ r ∷ []) l → HasWidths rs l × (r.width ≡ capped (length (nums (wound rs l))))
unfolding wound
widths-pop [] r l h = (tt, h.0)
widths-pop (q ∷ rs) r l h = let k = widths-pop rs r (row q.n l) h.1 in ((h.0, k.0), k.1)

pub width-next : (e n : ℕ) (l : Layout) → e ≡ capped (length (nums l)) → min (e * n) (2 ^ 64 - 1) ≡ capped (length (nums (row n l)))
unfolding nums
width-next e n l h =
    ap (λ (k : ℕ). min (k * n) (2 ^ 64 - 1)) h ∙ capped-left (length (nums l)) n
    ∙ ap (λ (k : ℕ). min k (2 ^ 64 - 1)) ((let f : length (nums l) * n ≡ n * length (nums l) = grind arith in f) ∙ sym (length-times n (nums l)))

wound-empty : (rs : List Row) (l : Layout) → length (nums l) ≡ 0 → length (nums (wound rs l)) ≡ 0
unfolding wound nums
wound-empty [] l h = h
wound-empty (r ∷ rs) l h = wound-empty rs (row r.n l) (length-times r.n (nums l) ∙ ap (λ (k : ℕ). r.n * k) h ∙ (let f : r.n * 0 ≡ 0 = grind arith in f))

-- ---- what shapes are
-- a structure among the first is the same among more
pub among-own : (structs : List StructDef) (m k : ℕ) → m ≤ length structs → k < m → among structs m (no_array (Struct k)) ≡ base_layout structs (Struct k)
unfolding base_layout
among-own structs m k h less =
    let d = here structs k (omega (arith, less, h)) in
    among-struct structs m k d.0 h less d.1 ∙ sym (among-struct structs (suc k) k d.0 (omega (arith, less, h)) (omega arith) d.1)

-- what has no elements has none in arrays
pub none-within : (structs : List StructDef) (m : ℕ) (x : Plain) (rs : List Row) → IsNothing structs m x → length (nums (wound rs (among structs m (no_array x)))) ≡ 0
none-within structs m x rs h = wound-empty rs (among structs m (no_array x)) h

pub none-past : (structs : List StructDef) (m k : ℕ) → m ≤ length structs → m ≤ k → IsNothing structs m (Struct k)
unfolding nums all_nums
none-past structs m k h past = ap (λ (l : Layout). length (nums l)) (among-none structs m k h past)

-- ---- lists of what is to be read
module _ (structs : List StructDef) where
  pub left-push : (zs : List ℤ) (ss : List Spot) (s : Spot) → left structs zs (ss ++ s ∷ []) ≡ spot_slots structs zs s ++ left structs zs ss
  unfolding left
  left-push zs [] s = sym (append-nil (spot_slots structs zs s))
  left-push zs (q ∷ ss) s = ap (λ (l : List Slot). l ++ spot_slots structs zs q) (left-push zs ss s) ∙ append_assoc (spot_slots structs zs s) (left structs zs ss) (spot_slots structs zs q)

  pub weight-push : (ss : List Spot) (s : Spot) → weight structs (ss ++ s ∷ []) ≡ work (base_layout structs s.base) + weight structs ss
  unfolding weight
  weight-push [] s = refl
  weight-push (q ∷ ss) s = ap (λ (k : ℕ). work (base_layout structs q.base) + k) (weight-push ss s) ∙ omega arith

  pub known-push : (ss : List Spot) (s : Spot) → AreKnown structs ss → IsKnown structs s.base → AreKnown structs (ss ++ s ∷ [])
  known-push [] s h k = (k, tt)
  known-push (q ∷ ss) s h k = (h.0, known-push ss s h.1 k)

  pub known-pop : (ss : List Spot) (s : Spot) → AreKnown structs (ss ++ s ∷ []) → AreKnown structs ss × IsKnown structs s.base
  known-pop [] s h = (tt, h.0)
  known-pop (q ∷ ss) s h = let k = known-pop ss s h.1 in ((h.0, k.0), k.1)

-- ---- the first element
pub first-slots : (zs : List ℤ) (l : Layout) → slots_in zs l (first_element (length zs)) ≡ all_slots zs l
unfolding slots_in all_slots spread
first-slots zs l = same zs l (inner_cells l)
  where
    one-same : (zs : List ℤ) (l : Layout) (i : Inner) → slot_of zs l (first_element (length zs)) i ≡ slot i.num (is_starred i.steps) (initial_ends zs l i.steps 0)
    one-same [] l i = ap (λ (s : Ends). slot i.num (is_starred i.steps) s) (sym (zeros l i.steps [] 0 (omega arith)))
    one-same (z ∷ zs) l i = refl

    same : (zs : List ℤ) (l : Layout) (cs : List Inner) → map (λ i. slot_of zs l (first_element (length zs)) i) cs ≡ map (λ i. slot i.num (is_starred i.steps) (initial_ends zs l i.steps 0)) cs
    same zs l [] = refl
    same zs l (c ∷ cs) = rw (one-same zs l c, same zs l cs) refl

-- what else holds of a good answer
pub weaker-ok : {T E : Type 0} (P Q : T → Type 0) (r : Result T E) → ((x : T) → P x → Q x) → IfOk r P → IfOk r Q
weaker-ok P Q (Ok x) h k = h x k
weaker-ok P Q (Err e) h k = tt

-- ---- initial values of elements
pub values-more : (zs : List ℤ) (at : List ℕ) (i : ℕ) (more : Bool) → 0 < i → i ≤ length at →
    values_of zs (drop (i - 1) at) more ≡ join_some (Some (single (get_or zs (get_or at (i - 1) 0) (pos 0)))) (values_of zs (drop i at) more)
unfolding values_of
values-more zs at i more h l =
    let next : (i - 1) + 1 ≡ i = omega arith in
    ap (λ (os : List ℕ). values_of zs os more) (drop_more at (i - 1) 0 (omega arith))
    ∙ ap (λ (k : ℕ). join_some (Some (single (get_or zs (get_or at (i - 1) 0) (pos 0)))) (values_of zs (drop k at) more)) next

pub values-last : (zs : List ℤ) (at : List ℕ) (more : Bool) → values_of zs (drop (length at) at) more ≡ (if more then Some (single (pos 0)) else None)
unfolding values_of
values-last zs at more = ap (λ (os : List ℕ). values_of zs os more) (drop_all (length at) at (omega arith))

pub values-spread : (zs : List ℤ) (at : List ℕ) (more : Bool) → values_of zs at more ≡ spread (λ o. single (get_or zs o (pos 0))) at more
unfolding values_of spread
values-spread zs [] more = refl
values-spread zs (o ∷ os) more = ap (λ (s : Option Ends). join_some (Some (single (get_or zs o (pos 0)))) s) (values-spread zs os more)

-- ---- one more to be read
module _ (structs : List StructDef) (inner : Layout) (es all : List Elements) (e : Elements) (todo new : List Spot) (s : Spot) (is : IsSpotOf structs inner e s) (popped : all ≡ es ++ e ∷ []) (pushed : new ≡ todo ++ s ∷ []) where
  pub spot-step : (zs : List ℤ) → flat_map (slots_in zs inner) es ++ left structs zs new ≡ flat_map (slots_in zs inner) all ++ left structs zs todo
  spot-step zs =
      let f : Elements → List Slot = slots_in zs inner in
      let rest = left structs zs todo in
      ap (λ (l : List Spot). flat_map f es ++ left structs zs l) pushed
      ∙ ap (λ (l : List Slot). flat_map f es ++ l) (left-push structs zs todo s ∙ ap (λ (l : List Slot). l ++ rest) (is.slots zs))
      ∙ sym (append_assoc (flat_map f es) (f e) rest)
      ∙ ap (λ (l : List Slot). (flat_map f es ++ l) ++ rest) (sym (append-nil (f e)))
      ∙ ap (λ (l : List Slot). l ++ rest) (sym (flat_map-append f es (e ∷ [])))
      ∙ ap (λ (l : List Elements). flat_map f l ++ rest) (sym popped)

  pub weight-step : length es * work inner + weight structs new ≤ length all * work inner + weight structs todo
  weight-step =
      let w = work inner in
      let a = ap (λ (l : List Spot). weight structs l) pushed ∙ weight-push structs todo s in
      let n = ap length popped ∙ length-append es (e ∷ []) in
      let m : length all * w ≡ length es * w + w = ap (λ (k : ℕ). k * w) n ∙ grind arith in
      let less = is.work in
      omega (arith, a, m, less)

-- ---- an object that has no elements
pub nothing-read : (zs : List ℤ) (l : Layout) (e : Elements) (rest : List Slot) → capped (length (nums l)) ≡ 0 → rest ≡ slots_in zs l e ++ rest
nothing-read zs l e rest h = ap (λ (xs : List Slot). xs ++ rest) (sym (no-slots zs l e (omega (arith, h))))

pub number-is : (structs : List StructDef) (b : Plain) (num : Num) → b ≡ Scalar num → base_layout structs b ≡ leaf num
unfolding base_layout
number-is structs b num h = ap (λ (x : Plain). base_layout structs x) h

pub number-work : (num : Num) → work (leaf num) ≡ 1
unfolding work
number-work num = refl

pub left-none : (structs : List StructDef) (zs : List ℤ) → left structs zs [] ≡ []
unfolding left
left-none structs zs = refl
