-- The cells within rows and fields are those of their elements further on.
use Rattle.std.proofs.Common.{◌≡◌, ℕ, zero, suc, ◌+◌, ◌-◌, ◌*◌, ◌^◌, ◌<◌, ◌≤◌, ◌⊎◌, ℤ, pos, Bool, true, false, ◌||◌, List, [], ◌∷◌, ◌++◌, length, get_or, map, refl, sym, ap, ◌∙◌, inl, inr, append-nil, length-append, add-zero, zero-add, arith}
use Rattle.std.specs.Prelude.{if◌then◌else◌, nat_lt, nat_le, Option, Some, min}
use Rattle.std.specs.List.{flat_map}
use Rattle.std.proofs.lemmas.Bool.{cases_lt}
use Rattle.std.proofs.lemmas.Bool.Decides.{nat_tests}
use Rattle.std.proofs.lemmas.List.{map-append}
use Rattle.sa_ir.specs.declared.ir.Ends.{Ends}
use Rattle.sa_ir.specs.Initial.{single}
use Rattle.sa_base.specs.declared.num.Num.{Num}
use Rattle.sa_typed.specs.Layouts.{Layout, Layouts, leaf, row, fields, no_field, field, nums, all_nums, times, nth_field, before_field, or_nothing}
use Rattle.sa_typed.specs.Cells.{Step, one, all, of, Inner, behind, inner_cells, field_cells, each_behind, all_behind, is_starred, most_elements}
use Rattle.sa_ir.specs.Initial.{joined_from, initial_ends}
use Rattle.sa_ir.specs.declared.slots.Elements.{Elements}
use Rattle.sa_ir.specs.declared.slots.Slot.{Slot}
use Rattle.sa_ir.specs.Slots.{spread, or_zero, slot, slot_of, slots_in, kept, any_past, moved_on, run, stops, any_stops, together, apart, fields_in}
use Rattle.sa_ir.proofs.SpreadLaws.{zeros, spread-same, moved-law, together-law}

or-false : (b : Bool) → (b || false) ≡ b
or-false true = refl
or-false false = refl

or-true : (b : Bool) → (b || true) ≡ true
or-true true = refl
or-true false = refl

-- cells behind a step that say the same as cells of other elements
map-behind : (s : Step) (cs : List Inner) (f g : Inner → Slot) → ((i : Inner) → f (behind s i) ≡ g i) → map f (all_behind s cs) ≡ map g cs
unfolding all_behind
map-behind s [] f g h = refl
map-behind s (c ∷ cs) f g h = rw (h c, map-behind s cs f g h) refl

module _ (zs : List ℤ) where
  pub slots-leaf : (num : Num) (e : Elements) → slots_in zs (leaf num) e ≡ slot num e.starred (or_zero (spread (λ o. single (get_or zs o (pos 0))) e.at e.more)) ∷ []
  unfolding slots_in inner_cells initial_ends is_starred
  slots-leaf num e = ap (λ (b : Bool). slot num b (or_zero (spread (λ o. single (get_or zs o (pos 0))) e.at e.more)) ∷ []) (or-false e.starred)

  -- ---- rows
  one-is : (n j : ℕ) (l : Layout) (e : Elements) (i : Inner) → slot_of zs (row n l) e (behind (one j) i) ≡ slot_of zs l (moved_on (length zs) (j * length (nums l)) e) i
  unfolding initial_ends is_starred moved_on
  one-is n j l e i =
      ap (λ (s : Option Ends). slot i.num (e.starred || is_starred i.steps) (or_zero s))
      (moved-law (λ o. initial_ends zs l i.steps o) (length zs) (λ o h. zeros l i.steps zs o h) (j * length (nums l)) e.at e.more)

  each-is : (n k j : ℕ) (l : Layout) (e : Elements) → map (λ i. slot_of zs (row n l) e i) (each_behind k j (inner_cells l)) ≡ flat_map (λ x. slots_in zs l x) (apart (length zs) (length (nums l)) k j e)
  unfolding each_behind apart slots_in
  each-is n zero j l e = refl
  each-is n (suc k) j l e =
      map-append (λ i. slot_of zs (row n l) e i) (all_behind (one j) (inner_cells l)) (each_behind k (j + 1) (inner_cells l))
      ∙ ap (λ (xs : List Slot). xs ++ map (λ i. slot_of zs (row n l) e i) (each_behind k (j + 1) (inner_cells l)))
      (map-behind (one j) (inner_cells l) (λ i. slot_of zs (row n l) e i) (λ i. slot_of zs l (moved_on (length zs) (j * length (nums l)) e) i) (λ i. one-is n j l e i))
      ∙ ap (λ (xs : List Slot). slots_in zs l (moved_on (length zs) (j * length (nums l)) e) ++ xs) (each-is n k (j + 1) l e)

  pub slots-apart : (n : ℕ) (l : Layout) (e : Elements) → n ≤ 128 → slots_in zs (row n l) e ≡ flat_map (λ x. slots_in zs l x) (apart (length zs) (length (nums l)) n 0 e)
  unfolding slots_in inner_cells
  slots-apart n l e h =
      let t : nat_le n most_elements ≡ true = grind (arith, nat_tests) in
      rw t (each-is n n 0 l e)

  -- one element alone
  pub slots-one : (l : Layout) (e : Elements) → slots_in zs (row 1 l) e ≡ slots_in zs l e
  unfolding slots_in inner_cells each_behind initial_ends is_starred
  slots-one l e =
      let at : (o : ℕ) → o + 0 * length (nums l) ≡ o = λ o. grind arith in
      ap (λ (cs : List Inner). map (λ i. slot_of zs (row 1 l) e i) cs) (append-nil (all_behind (one 0) (inner_cells l)))
      ∙ map-behind (one 0) (inner_cells l) (λ i. slot_of zs (row 1 l) e i) (λ i. slot_of zs l e i)
      (λ i. ap (λ (s : Option Ends). slot i.num (e.starred || is_starred i.steps) (or_zero s))
      (spread-same (λ o. initial_ends zs l i.steps (o + 0 * length (nums l))) (λ o. initial_ends zs l i.steps o) e.at e.more (λ o. ap (λ (x : ℕ). initial_ends zs l i.steps x) (at o))))

  all-is : (n : ℕ) (l : Layout) (e : Elements) (m : ℕ) (i : Inner) → slot_of zs (row (suc n) l) e (behind (all m) i) ≡ slot_of zs l (together (length zs) (length (nums l)) (suc n) e) i
  unfolding initial_ends is_starred together
  all-is n l e m i =
      ap (λ (b : Bool). slot i.num b (or_zero (spread (λ o. joined_from 0 (λ k. initial_ends zs l i.steps (o + k * length (nums l))) n) e.at e.more))) (or-true e.starred)
      ∙ ap (λ (s : Option Ends). slot i.num true (or_zero s)) (together-law (λ o. initial_ends zs l i.steps o) (length zs) (λ o h. zeros l i.steps zs o h) (length (nums l)) n e.at e.more)

  pub slots-together : (n : ℕ) (l : Layout) (e : Elements) → 128 < n → slots_in zs (row n l) e ≡ slots_in zs l (together (length zs) (length (nums l)) n e)
  unfolding slots_in inner_cells
  slots-together zero l e h = absurd (omega arith)
  slots-together (suc n) l e h =
      let t : nat_le (suc n) most_elements ≡ false = grind (arith, nat_tests) in
      rw t (map-behind (all (suc n)) (inner_cells l) (λ i. slot_of zs (row (suc n) l) e i) (λ i. slot_of zs l (together (length zs) (length (nums l)) (suc n) e) i) (λ i. all-is n l e (suc n) i))

  -- ---- fields
  field-is : (whole : Layouts) (k b : ℕ) (l : Layout) (e : Elements) (i : Inner) → nth_field whole k ≡ Some l → before_field whole k ≡ b →
      slot_of zs (fields whole) e (behind (of k) i) ≡ slot_of zs l (moved_on (length zs) b e) i
  unfolding initial_ends is_starred moved_on
  field-is whole k b l e i h j =
      ap (λ (s : Option Ends). slot i.num (e.starred || is_starred i.steps) (or_zero s))
      (spread-same (λ o. initial_ends zs (or_nothing (nth_field whole k)) i.steps (o + before_field whole k)) (λ o. initial_ends zs l i.steps (o + b)) e.at e.more
      (λ o. ap (λ (m : Option Layout). initial_ends zs (or_nothing m) i.steps (o + before_field whole k)) h ∙ ap (λ (x : ℕ). initial_ends zs l i.steps (o + x)) j)
      ∙ moved-law (λ o. initial_ends zs l i.steps o) (length zs) (λ o h. zeros l i.steps zs o h) b e.at e.more)

  fields-are : (whole ls : Layouts) (k b : ℕ) (e : Elements) → ((j : ℕ) → nth_field whole (k + j) ≡ nth_field ls j) → ((j : ℕ) → before_field whole (k + j) ≡ b + before_field ls j) →
      map (λ i. slot_of zs (fields whole) e i) (field_cells k ls) ≡ fields_in zs ls b e
  unfolding field_cells fields_in slots_in nth_field before_field
  fields-are whole no_field k b e h p = refl
  fields-are whole (field x l ls) k b e h p =
      let nth : nth_field whole k ≡ Some l = ap (λ (j : ℕ). nth_field whole j) (sym (add-zero k)) ∙ h 0 in
      let at : before_field whole k ≡ b = ap (λ (j : ℕ). before_field whole j) (sym (add-zero k)) ∙ p 0 ∙ add-zero b in
      let shift : (j : ℕ) → (k + 1) + j ≡ k + suc j = λ j. omega arith in
      let next = fields-are whole ls (k + 1) (b + length (nums l)) e
      (λ j. ap (λ (m : ℕ). nth_field whole m) (shift j) ∙ h (suc j))
      (λ j. ap (λ (m : ℕ). before_field whole m) (shift j) ∙ p (suc j) ∙ (let r : b + (length (nums l) + before_field ls j) ≡ (b + length (nums l)) + before_field ls j = omega arith in r)) in
      map-append (λ i. slot_of zs (fields whole) e i) (all_behind (of k) (inner_cells l)) (field_cells (k + 1) ls)
      ∙ ap (λ (xs : List Slot). xs ++ map (λ i. slot_of zs (fields whole) e i) (field_cells (k + 1) ls))
      (map-behind (of k) (inner_cells l) (λ i. slot_of zs (fields whole) e i) (λ i. slot_of zs l (moved_on (length zs) b e) i) (λ i. field-is whole k b l e i nth at))
      ∙ ap (λ (xs : List Slot). slots_in zs l (moved_on (length zs) b e) ++ xs) next

  pub slots-fields : (ls : Layouts) (e : Elements) → slots_in zs (fields ls) e ≡ fields_in zs ls 0 e
  unfolding slots_in inner_cells
  slots-fields ls e =
      fields-are ls ls 0 0 e (λ j. ap (λ (m : ℕ). nth_field ls m) (zero-add j)) (λ j. ap (λ (m : ℕ). before_field ls m) (zero-add j) ∙ sym (zero-add (before_field ls j)))

-- ---- objects without elements have no cells
pub length-times : {X : Type 0} (n : ℕ) (xs : List X) → length (times n xs) ≡ n * length xs
unfolding times
length-times zero xs = grind arith
length-times (suc n) xs = length-append xs (times n xs) ∙ rw (length-times n xs) (grind arith)

none-each : (n k : ℕ) → each_behind n k [] ≡ []
unfolding each_behind all_behind
none-each zero k = refl
none-each (suc n) k = none-each n (k + 1)

row-empty : (n : ℕ) (l : Layout) → n * length (nums l) ≡ 0 → (length (nums l) ≡ 0 → inner_cells l ≡ []) → inner_cells (row n l) ≡ []
unfolding inner_cells each_behind all_behind
row-empty zero l h below = refl
row-empty (suc n) l h below =
    let less : suc n * length (nums l) ≡ length (nums l) + n * length (nums l) = grind arith in
    let none : inner_cells l ≡ [] = below (omega (arith, h, less)) in
    elim (nat_le (suc n) most_elements) as (λ b. (if b then each_behind (suc n) 0 (inner_cells l) else all_behind (all (suc n)) (inner_cells l)) ≡ []) [
      | true ↦ ap (λ (cs : List Inner). each_behind (suc n) 0 cs) none ∙ none-each (suc n) 0
      | false ↦ ap (λ (cs : List Inner). all_behind (all (suc n)) cs) none
    ]

mutual
  unfolding nums all_nums inner_cells field_cells all_behind

  pub no-cells : (l : Layout) → length (nums l) ≡ 0 → inner_cells l ≡ []
  no-cells (leaf num) h = absurd (omega (arith, h))
  no-cells (row n l) h = row-empty n l (sym (length-times n (nums l)) ∙ h) (λ k. no-cells l k)
  no-cells (fields ls) h = no-fields 0 ls h

  no-fields : (k : ℕ) (ls : Layouts) → length (all_nums ls) ≡ 0 → field_cells k ls ≡ []
  no-fields k no_field h = refl
  no-fields k (field x l ls) h =
      let e = length-append (nums l) (all_nums ls) in
      let none : inner_cells l ≡ [] = no-cells l (omega (arith, h, e)) in
      ap (λ (cs : List Inner). all_behind (of k) cs ++ field_cells (k + 1) ls) none ∙ no-fields (k + 1) ls (omega (arith, h, e))

pub no-slots : (zs : List ℤ) (l : Layout) (e : Elements) → length (nums l) ≡ 0 → slots_in zs l e ≡ []
unfolding slots_in
no-slots zs l e h = ap (λ (cs : List Inner). map (λ i. slot_of zs l e i) cs) (no-cells l h)

-- ---- numbers that stop at the greatest of a machine word are as good below a length that fits
abbrev Alike : ℕ → ℕ → ℕ → Type 0
Alike n a b = (a ≡ b) ⊎ ((n ≤ a) × (n ≤ b))

kept-alike : (n a b : ℕ) (os : List ℕ) → Alike n a b → (kept n a os ≡ kept n b os) × (any_past n a os ≡ any_past n b os)
unfolding kept any_past
kept-alike n a b os (inl h) = (ap (λ (x : ℕ). kept n x os) h, ap (λ (x : ℕ). any_past n x os) h)
kept-alike n a b [] (inr h) = (refl, refl)
kept-alike n a b (o ∷ os) (inr h) =
    let f : nat_lt (o + a) n ≡ false = let k = h.0 in grind (arith, nat_tests) in
    let g : nat_lt (o + b) n ≡ false = let k = h.1 in grind (arith, nat_tests) in
    let rest = kept-alike n a b os (inr h) in
    (rw (f, g) rest.0, rw (f, g) refl)

pub moved-alike : (n a b : ℕ) (e : Elements) → Alike n a b → moved_on n a e ≡ moved_on n b e
unfolding moved_on
moved-alike n a b e h =
    let k = kept-alike n a b e.at h in
    ap (λ (os : List ℕ). record { starred = e.starred; at = os; more = e.more || any_past n a e.at }) k.0
    ∙ ap (λ (m : Bool). record { starred = e.starred; at = kept n b e.at; more = e.more || m }) k.1

pub capped-alike : (n a : ℕ) → n ≤ 2 ^ 64 - 1 → Alike n (min a (2 ^ 64 - 1)) a
capped-alike n a h = elim (cases_lt a (2 ^ 64 - 1)) [
  | inl small ↦ inl (omega (arith, small))
  | inr large ↦ inr (omega (arith, large, h), omega (arith, large, h))
]

product-alike : (n j w : ℕ) → n ≤ 2 ^ 64 - 1 → Alike n (j * min w (2 ^ 64 - 1)) (j * w)
product-alike n zero w h = inl (grind arith)
product-alike n (suc j) w h = elim (cases_lt w (2 ^ 64 - 1)) [
  | inl small ↦ let e : min w (2 ^ 64 - 1) ≡ w = omega (arith, small) in inl (ap (λ (x : ℕ). suc j * x) e)
  | inr large ↦
      let e : min w (2 ^ 64 - 1) ≡ 2 ^ 64 - 1 = omega (arith, large) in
      let a : suc j * min w (2 ^ 64 - 1) ≡ min w (2 ^ 64 - 1) + j * min w (2 ^ 64 - 1) = grind arith in
      let b : suc j * w ≡ w + j * w = grind arith in
      inr (omega (arith, large, h, e, a), omega (arith, large, h, b))
]

pub apart-capped : (n w k j : ℕ) (e : Elements) → n ≤ 2 ^ 64 - 1 → apart n (min w (2 ^ 64 - 1)) k j e ≡ apart n w k j e
unfolding apart
apart-capped n w zero j e h = refl
apart-capped n w (suc k) j e h = rw (moved-alike n (j * min w (2 ^ 64 - 1)) (j * w) e (product-alike n j w h), apart-capped n w k (j + 1) e h) refl

pub past-run : (n w k o : ℕ) → n ≤ o → (run n w k o ≡ []) × (stops n w (suc k) o ≡ true)
unfolding run stops
past-run n w zero o h = let f : nat_lt o n ≡ false = grind (arith, nat_tests) in (refl, rw f refl)
past-run n w (suc k) o h = let f : nat_lt o n ≡ false = grind (arith, nat_tests) in (rw f refl, rw f refl)

-- elements of which the second begins past the length
pub run-alike : (n v w k o : ℕ) → Alike n v w → (run n v k o ≡ run n w k o) × (stops n v k o ≡ stops n w k o)
unfolding run stops
run-alike n v w k o (inl h) = (ap (λ (x : ℕ). run n x k o) h, ap (λ (x : ℕ). stops n x k o) h)
run-alike n v w zero o (inr h) = (refl, refl)
run-alike n v w (suc zero) o (inr h) = (refl, refl)
run-alike n v w (suc (suc k)) o (inr h) =
    let hv = h.0 in
    let hw = h.1 in
    let a = past-run n v (suc k) (o + v) (omega (arith, hv)) in
    let b = past-run n w (suc k) (o + w) (omega (arith, hw)) in
    let c = past-run n v k (o + v) (omega (arith, hv)) in
    let d = past-run n w k (o + w) (omega (arith, hw)) in
    (rw (a.0, b.0) refl, rw (c.1, d.1) refl)

runs-alike : (n v w k : ℕ) (os : List ℕ) → Alike n v w → (flat_map (λ o. run n v k o) os ≡ flat_map (λ o. run n w k o) os) × (any_stops n v k os ≡ any_stops n w k os)
unfolding any_stops
runs-alike n v w k [] h = (refl, refl)
runs-alike n v w k (o ∷ os) h =
    let f = run-alike n v w k o h in
    let r = runs-alike n v w k os h in
    (rw (f.0, r.0) refl, rw (f.1, r.1) refl)

pub together-capped : (n w k : ℕ) (e : Elements) → n ≤ 2 ^ 64 - 1 → together n (min w (2 ^ 64 - 1)) k e ≡ together n w k e
unfolding together
together-capped n w k e h =
    let r = runs-alike n (min w (2 ^ 64 - 1)) w k e.at (capped-alike n w h) in
    ap (λ (os : List ℕ). record { starred = true; at = os; more = e.more || any_stops n (min w (2 ^ 64 - 1)) k e.at }) r.0
    ∙ ap (λ (m : Bool). record { starred = true; at = flat_map (λ o. run n w k o) e.at; more = e.more || m }) r.1
