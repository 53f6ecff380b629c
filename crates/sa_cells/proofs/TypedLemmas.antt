-- Initial values of the types of their elements make spans of the types of their cells.
use Rattle.std.proofs.Common.{◌≡◌, ℕ, zero, suc, ◌+◌, ◌-◌, ◌*◌, ◌<◌, ◌≤◌, ℤ, pos, ◌≤ℤ◌, Bool, true, false, ◌&&◌, List, [], ◌∷◌, ◌++◌, length, get_or, map, refl, sym, ap, subst, ◌∙◌, length-append, add-zero, zero-add, add-one, arith}
use Rattle.std.specs.Prelude.{if◌then◌else◌, nat_le, slice_get, Option, Some, None, IsTrue}
use Rattle.std.specs.Int.RustNames.{int_le}
use Rattle.std.specs.List.{All}
use Rattle.std.proofs.lemmas.Bool.Decides.{nat_tests}
use Rattle.std.proofs.lemmas.Int.{ints}
use Rattle.std.proofs.lemmas.List.Elements.{All-nil, All-cons}
use Rattle.sa_base.specs.Numbers.{num_lo, num_hi}
use Rattle.sa_base.specs.declared.num.Num.{Num}
use Rattle.sa_interval.specs.Span.{Span, IsPart}
use Rattle.sa_interval.specs.Rows.{single, join_of}
use Rattle.sa_typed.specs.Arithmetic.{is_of}
use Rattle.sa_typed.specs.Layouts.{Layout, Layouts, leaf, row, fields, no_field, field, nums, all_nums, times, nth_field, before_field, or_nothing}
use Rattle.sa_typed.specs.Cells.{Step, one, all, of, Inner, behind, inner_cells, field_cells, each_behind, all_behind, most_elements, is_starred}
use Rattle.sa_operators.specs.Operators.{range_of, IsIn}
use Rattle.sa_reference.specs.Environments.{joined_from, initial_span}
use Rattle.sa_cells.specs.declared.slots.Slot.{Slot}
use Rattle.sa_cells.specs.Slots.{slot}
use Rattle.sa_cells.specs.Spots.{all_slots}
use Rattle.sa_cells.specs.Settings.{slot_span, IsTypedSlot}
use Rattle.sa_cells.proofs.EnvLemmas.{join-in}
use Rattle.sa_cells.proofs.SlotLaws.{length-times}
use Rattle.sa_cells.proofs.StructLemmas.{at-front}

-- the elements from a number on are of the layout's types
abbrev pub IsTypedAt : List ℤ → Layout → ℕ → Type 0
IsTypedAt zs l at = (i : ℕ) (num : Num) → slice_get (nums l) i ≡ Some num → IsTrue (is_of num (get_or zs (at + i) (pos 0)))

-- each cell's span is of the cell's type
abbrev pub AllIn : (Inner → Span) → List Inner → Type 0
AllIn f [] = Unit {0}
AllIn f (c ∷ cs) = IsIn c.num (f c) × AllIn f cs

in-append : (f : Inner → Span) (xs ys : List Inner) → AllIn f xs → AllIn f ys → AllIn f (xs ++ ys)
in-append f [] ys h k = k
in-append f (x ∷ xs) ys h k = (h.0, in-append f xs ys h.1 k)

in-behind : (s : Step) (cs : List Inner) (f g : Inner → Span) → ((c : Inner) → f (behind s c) ≡ g c) → AllIn g cs → AllIn f (all_behind s cs)
unfolding all_behind
in-behind s [] f g h k = tt
in-behind s (c ∷ cs) f g h k = (subst (λ (x : Span). IsIn c.num x) (sym (h c)) k.0, in-behind s cs f g h k.1)

of-type : (num : Num) (z : ℤ) → IsTrue (is_of num z) → IsIn num (single z)
of-type num z h =
    let low : num_lo num ≤ℤ z = grind (arith, ints) in
    let high : z ≤ℤ num_hi num = grind (arith, ints) in
    record { ordered = omega (arith, ints); part = record { above = low; below = high } }

at-back : {X : Type 0} (xs ys : List X) (i : ℕ) → slice_get (xs ++ ys) (length xs + i) ≡ slice_get ys i
at-back [] ys i = ap (λ (k : ℕ). slice_get ys k) (zero-add i)
at-back (x ∷ xs) ys i = let e : suc (length xs) + i ≡ suc (length xs + i) = omega arith in ap (λ (k : ℕ). slice_get (x ∷ (xs ++ ys)) k) e ∙ at-back xs ys i

within-list : {X : Type 0} (xs : List X) (i : ℕ) (x : X) → slice_get xs i ≡ Some x → i < length xs
within-list [] i x h = absurd cc
within-list (y ∷ xs) zero x h = omega arith
within-list (y ∷ xs) (suc i) x h = let r = within-list xs i x h in omega (arith, r)

-- element k of a row
at-times : {X : Type 0} (n : ℕ) (xs : List X) (k i : ℕ) → k < n → i < length xs → slice_get (times n xs) (k * length xs + i) ≡ slice_get xs i
unfolding times
at-times zero xs k i h l = absurd (omega arith)
at-times (suc n) xs zero i h l =
    let e : 0 * length xs + i ≡ i = grind arith in
    ap (λ (j : ℕ). slice_get (xs ++ times n xs) j) e ∙ at-front xs (times n xs) i l
at-times (suc n) xs (suc k) i h l =
    let e : suc k * length xs + i ≡ length xs + (k * length xs + i) = grind arith in
    ap (λ (j : ℕ). slice_get (xs ++ times n xs) j) e ∙ at-back xs (times n xs) (k * length xs + i) ∙ at-times n xs k i (omega arith) l

typed-element : (zs : List ℤ) (n : ℕ) (l : Layout) (at k : ℕ) → IsTypedAt zs (row n l) at → k < n → IsTypedAt zs l (at + k * length (nums l))
unfolding nums
typed-element zs n l at k t h i num e =
    let w = within-list (nums l) i num e in
    let s : at + (k * length (nums l) + i) ≡ (at + k * length (nums l)) + i = omega arith in
    subst (λ (j : ℕ). IsTrue (is_of num (get_or zs j (pos 0)))) s (t (k * length (nums l) + i) num (at-times n (nums l) k i h w ∙ e))

-- field by field
field-nums : (ls : Layouts) (k : ℕ) (l : Layout) (i : ℕ) → nth_field ls k ≡ Some l → i < length (nums l) → slice_get (all_nums ls) (before_field ls k + i) ≡ slice_get (nums l) i
unfolding all_nums nth_field before_field
field-nums no_field k l i h w = absurd cc
field-nums (field x m ls) zero l i h w =
    let e : m ≡ l = cc in
    let v : length (nums m) ≡ length (nums l) = ap (λ (y : Layout). length (nums y)) e in
    ap (λ (j : ℕ). slice_get (nums m ++ all_nums ls) j) (zero-add i) ∙ at-front (nums m) (all_nums ls) i (omega (arith, w, v)) ∙ ap (λ (y : Layout). slice_get (nums y) i) e
field-nums (field x m ls) (suc k) l i h w =
    let e : (length (nums m) + before_field ls k) + i ≡ length (nums m) + (before_field ls k + i) = omega arith in
    ap (λ (j : ℕ). slice_get (nums m ++ all_nums ls) j) e ∙ at-back (nums m) (all_nums ls) (before_field ls k + i) ∙ field-nums ls k l i h w

typed-field : (zs : List ℤ) (ls : Layouts) (at k : ℕ) (l : Layout) → IsTypedAt zs (fields ls) at → nth_field ls k ≡ Some l → IsTypedAt zs l (at + before_field ls k)
unfolding nums
typed-field zs ls at k l t h i num e =
    let w = within-list (nums l) i num e in
    let s : at + (before_field ls k + i) ≡ (at + before_field ls k) + i = omega arith in
    subst (λ (j : ℕ). IsTrue (is_of num (get_or zs j (pos 0)))) s (t (before_field ls k + i) num (field-nums ls k l i h w ∙ e))

-- ---- several together
joined-in : (num : Num) (f : ℕ → Span) (k n : ℕ) → ((j : ℕ) → k ≤ j → j ≤ k + n → IsIn num (f j)) → IsIn num (joined_from k f n)
unfolding joined_from
joined-in num f k zero h = h k (omega arith) (omega arith)
joined-in num f k (suc n) h = join-in num (f k) (joined_from (k + 1) f n) (h k (omega arith) (omega arith)) (joined-in num f (k + 1) n (λ j l m. h j (omega arith) (omega arith)))

each-in : (cs : List Inner) (f : ℕ → Inner → Span) (n : ℕ) → ((k : ℕ) → k ≤ n → AllIn (f k) cs) → AllIn (λ c. joined_from 0 (λ k. f k c) n) cs
each-in [] f n h = tt
each-in (c ∷ cs) f n h = (joined-in c.num (λ k. f k c) 0 n (λ j _ l. (h j (omega arith)).0), each-in cs f n (λ k l. (h k l).1))

apart-in : (zs : List ℤ) (n k j at : ℕ) (l : Layout) → ((m : ℕ) → m < j + k → AllIn (λ c. initial_span zs l c.steps (at + m * length (nums l))) (inner_cells l)) →
    AllIn (λ c. initial_span zs (row n l) c.steps at) (each_behind k j (inner_cells l))
unfolding each_behind initial_span
apart-in zs n zero j at l h = tt
apart-in zs n (suc k) j at l h =
    in-append (λ c. initial_span zs (row n l) c.steps at) (all_behind (one j) (inner_cells l)) (each_behind k (j + 1) (inner_cells l))
    (in-behind (one j) (inner_cells l) (λ c. initial_span zs (row n l) c.steps at) (λ c. initial_span zs l c.steps (at + j * length (nums l))) (λ c. refl) (h j (omega arith)))
    (apart-in zs n k (j + 1) at l (λ m less. h m (omega arith)))

row-in : (zs : List ℤ) (n at : ℕ) (l : Layout) → ((m : ℕ) → m < n → AllIn (λ c. initial_span zs l c.steps (at + m * length (nums l))) (inner_cells l)) →
    AllIn (λ c. initial_span zs (row n l) c.steps at) (inner_cells (row n l))
unfolding inner_cells each_behind initial_span
row-in zs zero at l h = tt
row-in zs (suc n) at l h =
    elim (nat_le (suc n) most_elements) as (λ b. AllIn (λ c. initial_span zs (row (suc n) l) c.steps at) (if b then each_behind (suc n) 0 (inner_cells l) else all_behind (all (suc n)) (inner_cells l))) [
      | true ↦ apart-in zs (suc n) (suc n) 0 at l (λ m less. h m (omega arith))
      | false ↦
          in-behind (all (suc n)) (inner_cells l) (λ c. initial_span zs (row (suc n) l) c.steps at) (λ c. joined_from 0 (λ k. initial_span zs l c.steps (at + k * length (nums l))) n) (λ c. refl)
          (each-in (inner_cells l) (λ k c. initial_span zs l c.steps (at + k * length (nums l))) n (λ k less. h k (omega arith)))
    ]

mutual
  unfolding inner_cells field_cells initial_span nums nth_field before_field

  pub cells-in : (zs : List ℤ) (l : Layout) (at : ℕ) → IsTypedAt zs l at → AllIn (λ c. initial_span zs l c.steps at) (inner_cells l)
  cells-in zs (leaf num) at t = (subst (λ (j : ℕ). IsIn num (single (get_or zs j (pos 0)))) (add-zero at) (of-type num (get_or zs (at + 0) (pos 0)) (t 0 num refl)), tt)
  cells-in zs (row n l) at t = row-in zs n at l (λ m less. cells-in zs l (at + m * length (nums l)) (typed-element zs n l at m t less))
  cells-in zs (fields ls) at t = fields-in zs ls ls 0 at t (λ j. ap (λ (m : ℕ). nth_field ls m) (zero-add j))

  fields-in : (zs : List ℤ) (whole ls : Layouts) (k at : ℕ) → IsTypedAt zs (fields whole) at → ((j : ℕ) → nth_field whole (k + j) ≡ nth_field ls j) →
      AllIn (λ c. initial_span zs (fields whole) c.steps at) (field_cells k ls)
  fields-in zs whole no_field k at t h = tt
  fields-in zs whole (field x l ls) k at t h =
      let nth : nth_field whole k ≡ Some l = ap (λ (j : ℕ). nth_field whole j) (sym (add-zero k)) ∙ h 0 in
      let shift : (j : ℕ) → (k + 1) + j ≡ k + suc j = λ j. omega arith in
      in-append (λ c. initial_span zs (fields whole) c.steps at) (all_behind (of k) (inner_cells l)) (field_cells (k + 1) ls)
      (in-behind (of k) (inner_cells l) (λ c. initial_span zs (fields whole) c.steps at) (λ c. initial_span zs l c.steps (at + before_field whole k))
      (λ c. ap (λ (m : Option Layout). initial_span zs (or_nothing m) c.steps (at + before_field whole k)) nth)
      (cells-in zs l (at + before_field whole k) (typed-field zs whole at k l t nth)))
      (fields-in zs whole ls (k + 1) at t (λ j. ap (λ (m : ℕ). nth_field whole m) (shift j) ∙ h (suc j)))

pub typed-slots : (zs : List ℤ) (l : Layout) → IsTypedAt zs l 0 → All IsTypedSlot (all_slots zs l)
unfolding all_slots
typed-slots zs l t = go (inner_cells l) (cells-in zs l 0 t)
  where
    go : (cs : List Inner) → AllIn (λ c. initial_span zs l c.steps 0) cs → All IsTypedSlot (map (λ i. slot i.num (is_starred i.steps) (initial_span zs l i.steps 0)) cs)
    go [] h = All-nil IsTypedSlot
    go (c ∷ cs) h = All-cons IsTypedSlot (slot c.num (is_starred c.steps) (initial_span zs l c.steps 0)) (map (λ i. slot i.num (is_starred i.steps) (initial_span zs l i.steps 0)) cs) h.0 (go cs h.1)
