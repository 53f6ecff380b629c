-- Walks: that `walks` gives least totals, joined and turned walks, and walks without detours.
use Rattle.std.proofs.Common.{◌≡◌, ◌≢◌, ℕ, zero, suc, ◌+◌, ◌<◌, ◌≤◌, cond, ◌==◌, ℤ, pos, ◌+ℤ◌, ◌≤ℤ◌, List, [], ◌∷◌, length, Some, None, ◌⊎◌, inl, inr, ap, sym, subst, refl, ◌∙◌, arith}
use Rattle.std.specs.List.{range_with_len}
use Rattle.std.proofs.lemmas.Bool.{cases_eq, eq-eqb, ne_eqb, cond_both}
use Rattle.std.proofs.lemmas.Option.{none-some, same_Some}
use Rattle.std.proofs.lemmas.Int.{ints}
use Rattle.std.proofs.lemmas.List.FromFn.{length-range_with_len}
use Rattle.sa_dbm.specs.Bounds.{Bound, plus, lesser, AtMost, least}
use Rattle.sa_dbm.specs.Tables.{Table, nodes, bar, entry, IsMatrix}
use Rattle.sa_dbm.specs.Walks.{Walk, stay, go, IsLeastTotal, at_once, one_more, walks}
use Rattle.sa_numbers.proofs.Order.{≤ℤ_refl}
use Rattle.sa_numbers.proofs.Sums.{add-zero_right, add_zero_left, add_group, add_swap}
use Rattle.sa_dbm.proofs.BoundLaws.{at_most_trans, at_most_antisym, lesser_left, lesser_right, lesser_is_one, plus_mono, plus_parts, least_below, least_reached}
use Rattle.sa_dbm.proofs.TableLaws.{entry-table, bar_bar, bar_below}

-- a walk, with its number of arcs and its total written in another way
pub walk_as : {m : Table} {k l i j : ℕ} {t u : ℤ} → k ≡ l → t ≡ u → Walk m k i j t → Walk m l i j u
walk_as {m} {k} {l} {i} {j} {t} {u} e f w = subst (λ s. Walk m l i j s) f (subst (λ a. Walk m a i j t) e w)

pub one_arc : (m : Table) (i j : ℕ) (x : ℤ) → i < nodes m → j < nodes m → entry m i j ≡ Some x → Walk m 1 i j x
one_arc m i j x p q e = walk_as refl (add-zero_right x) (go p q e stay)

-- one walk after another
pub joined_walks : {m : Table} {k l i h j : ℕ} {t u : ℤ} → Walk m k i h t → Walk m l h j u → Walk m (k + l) i j (t +ℤ u)
joined_walks {m} {k} {l} {i} {h} {j} {t} {u} stay w = walk_as (omega arith) (sym (add_zero_left u)) w
joined_walks {l = l} {u = u} (go {k} {i} {h} {j} {x} {y} p q e v) w =
    walk_as (suc_sum k l) (sym (add_group x y u)) (go p q e (joined_walks v w))
  where
    suc_sum : (a b : ℕ) → suc (a + b) ≡ suc a + b
    suc_sum a b = omega arith

-- ---- `walks` gives least totals

walk_entry : (m : Table) (k i j : ℕ) → i < nodes m → j < nodes m
    → entry (walks m (suc k)) i j ≡ lesser (at_once i j) (least (nodes m) (λ h. plus (entry m i h) (entry (walks m k) h j)))
unfolding walks one_more
walk_entry m k i j p q = entry-table m.vars (λ i j. lesser (at_once i j) (least (nodes m) (λ h. plus (entry m i h) (entry (walks m k) h j)))) i j p q

first_entry : (m : Table) (i j : ℕ) → i < nodes m → j < nodes m → entry (walks m zero) i j ≡ at_once i j
unfolding walks
first_entry m i j p q = entry-table m.vars at_once i j p q

abbrev pub Reached : Table → ℕ → ℕ → ℕ → ℤ → Type 0
Reached m most i j t = (k : ℕ) × (k ≤ most) × Walk m k i j t

by_staying : (m : Table) (most i j : ℕ) (t : ℤ) → at_once i j ≡ Some t → Reached m most i j t
by_staying m most i j t e =
    elim (cases_eq i j) [
      | inl same ↦ (0, omega arith, subst (λ h. Walk m 0 i h t) same (walk_as refl (same_Some (pos 0) t (rw (eq-eqb i j same) at e)) stay))
      | inr other ↦ absurd (none-some t (rw (ne_eqb i j other) at e))
    ]

by_going : (m : Table) (most i h j : ℕ) (x y t : ℤ) → i < nodes m → h < nodes m → entry m i h ≡ Some x → t ≡ x +ℤ y → Reached m most h j y → Reached m (suc most) i j t
by_going m most i h j x y t p q e f r = let b = r.1 in (suc r.0, omega arith, walk_as refl (sym f) (go p q e r.2))

pub reached_by_walk : (m : Table) (k i j : ℕ) (t : ℤ) → i < nodes m → j < nodes m → entry (walks m k) i j ≡ Some t → Reached m k i j t
reached_by_walk m zero i j t p q e = by_staying m zero i j t (sym (first_entry m i j p q) ∙ e)
reached_by_walk m (suc k) i j t p q e =
    elim (lesser_is_one (at_once i j) (least (nodes m) arcs)) [
      | inl at ↦ by_staying m (suc k) i j t (sym at ∙ found)
      | inr on ↦
          let f = least_reached (nodes m) arcs t (sym on ∙ found) in
          let parts = plus_parts (entry m i f.0) (entry (walks m k) f.0 j) t f.2 in
          by_going m k i f.0 j parts.0 parts.1 t p f.1 parts.2 parts.4 (reached_by_walk m k f.0 j parts.1 f.1 q parts.3)
    ]
  where
    arcs : ℕ → Bound
    arcs h = plus (entry m i h) (entry (walks m k) h j)

    found : lesser (at_once i j) (least (nodes m) arcs) ≡ Some t
    found = sym (walk_entry m k i j p q) ∙ e

below_staying : (m : Table) (k i : ℕ) → i < nodes m → AtMost (entry (walks m k) i i) (Some (pos 0))
below_staying m zero i p = rw (first_entry m i i p p, eq-eqb i i refl) (≤ℤ_refl (pos 0))
below_staying m (suc k) i p =
    let l = lesser_left (at_once i i) (least (nodes m) (λ h. plus (entry m i h) (entry (walks m k) h i))) in
    rw (walk_entry m k i i p p) (at_most_trans _ (at_once i i) (Some (pos 0)) l (rw (eq-eqb i i refl) (≤ℤ_refl (pos 0))))

pub below_each_walk : (m : Table) (k : ℕ) {a i j : ℕ} {t : ℤ} → a ≤ k → i < nodes m → j < nodes m → Walk m a i j t → AtMost (entry (walks m k) i j) (Some t)
below_each_walk m k {i = i} b p q stay = below_staying m k i p
below_each_walk m zero b p q (go r s e w) = absurd (omega arith)
below_each_walk m (suc k) {j = j} b p q (go {k = a} {i} {h} {x = x} {y} r s e w) =
    let arcs : ℕ → Bound = λ l. plus (entry m i l) (entry (walks m k) l j) in
    let further = plus_mono (entry m i h) (Some x) (entry (walks m k) h j) (Some y) (rw e (≤ℤ_refl x)) (below_each_walk m k (omega arith) s q w) in
    rw (walk_entry m k i j p q)
    (at_most_trans _ (least (nodes m) arcs) (Some (x +ℤ y)) (lesser_right (at_once i j) (least (nodes m) arcs))
    (at_most_trans _ (arcs h) (Some (x +ℤ y)) (least_below (nodes m) arcs h s) further))

-- the law of `walks`
pub least_totals : (m : Table) (k i j : ℕ) → i < nodes m → j < nodes m → IsLeastTotal m k i j (entry (walks m k) i j)
least_totals m k i j p q = record {
  reached = λ t e. reached_by_walk m k i j t p q e;
  least = λ a t b w. below_each_walk m k b p q w;
}

-- ---- walks turned round

pub turned_walk : {m : Table} {k i j : ℕ} {t : ℤ} → IsMatrix m → Walk m k i j t → Walk m k (bar j) (bar i) t
turned_walk h stay = stay
turned_walk {m} h (go {k} {i} {h = l} {j} {x} {y} p q e w) =
    walk_as (omega arith) (add_swap y x)
    (joined_walks (turned_walk h w) (one_arc m (bar l) (bar i) x (bar_below l m.vars q) (bar_below i m.vars p) (sym (h.twins i l p q) ∙ e)))

-- a bound that is at most each number that another one is
pub at_most_by_numbers : (a b : Bound) → ((t : ℤ) → b ≡ Some t → AtMost a (Some t)) → AtMost a b
at_most_by_numbers a None h = tt
at_most_by_numbers a (Some t) h = h t refl

pub twin_totals : (m : Table) (k i j : ℕ) → IsMatrix m → i < nodes m → j < nodes m → entry (walks m k) i j ≡ entry (walks m k) (bar j) (bar i)
twin_totals m k i j h p q =
    let one = below (bar j) (bar i) (bar_below j m.vars q) (bar_below i m.vars p) in
    at_most_antisym _ _ (rw (bar_bar i, bar_bar j) at one) (below i j p q)
  where
    -- the twin's total is at most the total
    below : (i j : ℕ) → i < nodes m → j < nodes m → AtMost (entry (walks m k) (bar j) (bar i)) (entry (walks m k) i j)
    below i j p q =
        at_most_by_numbers _ _ (λ t e.
        let r = reached_by_walk m k i j t p q e in
        below_each_walk m k r.1 (bar_below j m.vars q) (bar_below i m.vars p) (turned_walk h r.2))

-- ---- walks without detours

abbrev In : ℕ → List ℕ → Type 0
In i [] = ⊥
In i (h ∷ s) = (i ≡ h) ⊎ In i s

without : ℕ → List ℕ → List ℕ
without i [] = []
without i (h ∷ s) = cond (i == h) (without i s) (h ∷ without i s)

without_shorter : (i : ℕ) (s : List ℕ) → length (without i s) ≤ length s
unfolding without
without_shorter i [] = omega arith
without_shorter i (h ∷ s) = let k = without_shorter i s in cond_both (i == h) (without i s) (h ∷ without i s) (λ l. length l ≤ suc (length s)) (λ e. omega arith) (λ e. omega arith)

without_one : (i : ℕ) (s : List ℕ) → In i s → suc (length (without i s)) ≤ length s
unfolding without
without_one i [] b = absurd b
without_one i (h ∷ s) (inl e) = let k = without_shorter i s in rw (eq-eqb i h e) (omega arith)
without_one i (h ∷ s) (inr b) = let k = without_one i s b in cond_both (i == h) (without i s) (h ∷ without i s) (λ l. suc (length l) ≤ suc (length s)) (λ e. omega arith) (λ e. omega arith)

in_without : (i h : ℕ) (s : List ℕ) → In h s → h ≢ i → In h (without i s)
unfolding without
in_without i h [] b n = absurd b
in_without i h (l ∷ s) (inl e) n = rw (ne_eqb i l (λ f. n (e ∙ sym f))) (inl e)
in_without i h (l ∷ s) (inr b) n =
    let k = in_without i h s b n in
    cond_both (i == l) (without i s) (l ∷ without i s) (λ r. In h r) (λ _. k) (λ _. inr k)

-- a walk all of whose nodes are in a list
data Trail (m : Table) : List ℕ → ℕ → ℕ → ℕ → ℤ → Type 0 where
  ends : {s : List ℕ} {i : ℕ} → In i s → Trail m s zero i i (pos 0)
  goes : {s : List ℕ} {k i h j : ℕ} {x y : ℤ} → In i s → i < nodes m → h < nodes m → entry m i h ≡ Some x → Trail m s k h j y → Trail m s (suc k) i j (x +ℤ y)

starts_in : {m : Table} {s : List ℕ} {k i j : ℕ} {t : ℤ} → Trail m s k i j t → In i s
starts_in (ends b) = b
starts_in (goes b p q e w) = b

-- a trail to node i that is there for the first time at its end: it has no arc, or a last arc into i
data Arrival (m : Table) (s : List ℕ) (i : ℕ) : ℕ → ℤ → Type 0 where
  there : {h : ℕ} → h ≡ i → Arrival m s i h (pos 0)
  comes : {h g k : ℕ} {v x : ℤ} → Trail m (without i s) k h g v → g < nodes m → i < nodes m → entry m g i ≡ Some x → Arrival m s i h (v +ℤ x)

-- a trail from h to j that is cut where it first comes to i
record Cut (m : Table) (s : List ℕ) (i h j k : ℕ) (t : ℤ) : Type 0 where
  before : ℤ
  after : ℤ
  arcs : ℕ
  fewer : arcs ≤ k
  arrival : Arrival m s i h before
  rest : Trail m s arcs i j after
  sum : t ≡ before +ℤ after

cut_at_once : {m : Table} {s : List ℕ} {i h j k : ℕ} {t : ℤ} → h ≡ i → Trail m s k h j t → Cut m s i h j k t
cut_at_once {m} {s} {i} {h} {j} {k} {t} same w = record {
  before = pos 0;
  after = t;
  arcs = k;
  fewer = omega arith;
  arrival = there same;
  rest = subst (λ l. Trail m s k l j t) same w;
  sum = sym (add_zero_left t);
}

-- an arc in front of an arrival
later : {m : Table} {s : List ℕ} {i l h : ℕ} {u x : ℤ} → In l s → l ≢ i → l < nodes m → h < nodes m → entry m l h ≡ Some x → Arrival m s i h u → Arrival m s i l (x +ℤ u)
later {m} {s} {i} {l} {h} {x = x} b n p q e (there same) =
    subst (λ t. Arrival m s i l t) (add_swap (pos 0) x)
    (comes (ends (in_without i l s b n)) p (subst (λ g. g < nodes m) same q) (subst (λ g. entry m l g ≡ Some x) same e))
later {m} {s} {i} {l} {x = x} b n p q e (comes {v = v} {x = y} w r f d) =
    subst (λ t. Arrival m s i l t) (add_group x v y) (comes (goes (in_without i l s b n) p q e w) r f d)

cut_later : {m : Table} {s : List ℕ} {i l h j k : ℕ} {x y : ℤ} → In l s → l ≢ i → l < nodes m → h < nodes m → entry m l h ≡ Some x → Cut m s i h j k y → Cut m s i l j (suc k) (x +ℤ y)
cut_later {x = x} b n p q e c =
    let fewer = c.fewer in
    record {
      before = x +ℤ c.before;
      after = c.after;
      arcs = c.arcs;
      fewer = omega arith;
      arrival = later b n p q e c.arrival;
      rest = c.rest;
      sum = ap (λ t. x +ℤ t) c.sum ∙ sym (add_group x c.before c.after);
    }

-- a trail that never comes to i, or is cut there
cut : {m : Table} (i : ℕ) {s : List ℕ} {k h j : ℕ} {t : ℤ} → Trail m s k h j t → Trail m (without i s) k h j t ⊎ Cut m s i h j k t
cut i (ends {s} {i = h} b) =
    elim (cases_eq h i) [
      | inl same ↦ inr (cut_at_once same (ends b))
      | inr other ↦ inl (ends (in_without i h s b other))
    ]
cut i (goes {s} {i = l} b p q e w) =
    elim (cases_eq l i) [
      | inl same ↦ inr (cut_at_once same (goes b p q e w))
      | inr other ↦ elim (cut i w) [ inl clear ↦ inl (goes (in_without i l s b other) p q e clear) | inr found ↦ inr (cut_later b other p q e found) ]
    ]

-- a walk of fewer than c arcs, whose total is at most t
abbrev Short : Table → ℕ → ℕ → ℕ → ℤ → Type 0
Short m c i j t = (a : ℕ) × (u : ℤ) × (suc a ≤ c) × (u ≤ℤ t) × Walk m a i j u

-- no walk of at most 16 arcs from a node back to itself has a negative total
abbrev pub NoDescent : Table → Type 0
NoDescent m = (i a : ℕ) (t : ℤ) → i < nodes m → a ≤ 16 → Walk m a i i t → pos 0 ≤ℤ t

-- trails through at most c nodes have short walks in their place
abbrev Simplifies : Table → ℕ → Type 0
Simplifies m c = (s : List ℕ) (k i j : ℕ) (t : ℤ) → length s ≤ c → Trail m s k i j t → Short m c i j t

module _ (m : Table) (c : ℕ) (few : suc c ≤ 16) (flat : NoDescent m) (simpler : Simplifies m c) where
  -- a detour from i back to i doesn't descend
  detour : (s : List ℕ) {i h : ℕ} {x u : ℤ} → In i s → length s ≤ suc c → i < nodes m → h < nodes m → entry m i h ≡ Some x → Arrival m s i h u → pos 0 ≤ℤ (x +ℤ u)
  detour s {i} {h} {x} b l p q e (there same) =
      rw (add-zero_right x) (flat i 1 x p (omega arith) (one_arc m i i x p p (subst (λ g. entry m i g ≡ Some x) same e)))
  detour s {i} {h} {x} b l p q e (comes {g = g} {k} {v} {x = y} w r f d) =
      let one = without_one i s b in
      let short = simpler (without i s) k h g v (omega arith) w in
      let fewer = short.2 in
      let lower = short.3 in
      let up = flat i (suc (short.0 + 1)) (x +ℤ (short.1 +ℤ y)) p (omega arith) (go p q e (joined_walks short.4 (one_arc m g i y r f d))) in
      omega (arith, ints)

  simple_by : (s : List ℕ) → length s ≤ suc c → (fuel : ℕ) {k i j : ℕ} {t : ℤ} → k ≤ fuel → Trail m s k i j t → Short m (suc c) i j t
  simple_by s l fuel b (ends h) = (0, pos 0, omega arith, ≤ℤ_refl (pos 0), stay)
  simple_by s l zero b (goes h p q e w) = absurd (omega arith)
  simple_by s l (suc fuel) b (goes {k = k} {i} {h = g} {j} {x} {y} h p q e w) =
      elim (cut i w) [
        | inl clear ↦ (let one = without_one i s h in ahead (simpler (without i s) k g j y (omega arith) clear))
        | inr found ↦ (let fewer = found.fewer in lowered found.before found.after found.sum (detour s h l p q e found.arrival) (simple_by s l fuel (omega arith) found.rest))
      ]
    where
      ahead : Short m c g j y → Short m (suc c) i j (x +ℤ y)
      ahead r = let fewer = r.2 in let lower = r.3 in (suc r.0, x +ℤ r.1, omega arith, omega (arith, ints), go p q e r.4)

      lowered : (u v : ℤ) → y ≡ u +ℤ v → pos 0 ≤ℤ (x +ℤ u) → Short m (suc c) i j v → Short m (suc c) i j (x +ℤ y)
      lowered u v sum up r = let lower = r.3 in (r.0, r.1, r.2, omega (arith, ints), r.4)

simple : (m : Table) → NoDescent m → (c : ℕ) → c ≤ 16 → Simplifies m c
simple m flat zero few [] k i j t l w = absurd (starts_in w)
simple m flat zero few (h ∷ s) k i j t l w = absurd (omega arith)
simple m flat (suc c) few s k i j t l w = simple_by m c few flat (simple m flat c (omega arith)) s l k (omega arith) w

in_range : (a n i : ℕ) → a ≤ i → i < a + n → In i (range_with_len a n)
in_range a zero i low high = absurd (omega arith)
in_range a (suc n) i low high =
    elim (cases_eq i a) [ inl e ↦ inl e | inr d ↦ inr (in_range (a + 1) n i (omega arith) (omega arith)) ]

-- each walk is a trail through all nodes
trail_of : {m : Table} {k i j : ℕ} {t : ℤ} → i < nodes m → Walk m k i j t → Trail m (range_with_len 0 (nodes m)) k i j t
trail_of {m} {i = i} b stay = ends (in_range 0 (nodes m) i (omega arith) (omega arith))
trail_of {m} b (go {i = i} p q e w) = goes (in_range 0 (nodes m) i (omega arith) (omega arith)) p q e (trail_of q w)

-- Where no short walk back descends, the least total over walks of at most 16 arcs is at most that of each walk.
pub below_every_walk : (m : Table) → m.vars ≤ 8 → NoDescent m → {k i j : ℕ} {t : ℤ} → i < nodes m → j < nodes m → Walk m k i j t → AtMost (entry (walks m 16) i j) (Some t)
below_every_walk m few flat {k} {i} {j} {t} p q w =
    let r = simple m flat (nodes m) (omega arith) (range_with_len 0 (nodes m)) k i j t (rw (length-range_with_len 0 (nodes m)) (omega arith)) (trail_of p w) in
    let fewer = r.2 in
    at_most_trans _ (Some r.1) (Some t) (below_each_walk m 16 (omega arith) p q r.4) r.3
