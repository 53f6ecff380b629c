-- Elements as the loops make them.
use Rattle.std.proofs.Common.{◌≡◌, ℕ, zero, suc, ◌+◌, ◌-◌, ◌*◌, ◌^◌, ◌<◌, ◌≤◌, Bool, true, false, ◌||◌, List, [], ◌∷◌, ◌++◌, length, get_or, drop, map, filter, refl, sym, ap, ◌∙◌, inl, inr, append_assoc, append-nil, arith}
use Rattle.std.specs.Prelude.{nat_lt, min}
use Rattle.std.specs.List.{flat_map}
use Rattle.std.proofs.lemmas.Bool.{cases_lt}
use Rattle.std.proofs.lemmas.Bool.Decides.{nat_tests}
use Rattle.std.proofs.lemmas.List.{drop_more, drop_all}
use Rattle.sa_ir.specs.declared.slots.Elements.{Elements}
use Rattle.sa_ir.specs.Slots.{kept, any_past, moved_on, run, stops, any_stops, apart}
use Rattle.sa_ir.proofs.SlotLaws.{capped-alike, moved-alike, past-run}

abbrev most : ℕ
most = 2 ^ 64 - 1

capped-test : (n a : ℕ) → n ≤ most → nat_lt (min a most) n ≡ nat_lt a n
capped-test n a h = elim (cases_lt a most) [
  | inl small ↦ let e : min a most ≡ a = omega (arith, small) in rw e refl
  | inr large ↦
      let f : nat_lt (min a most) n ≡ false = grind (arith, nat_tests, large, h) in
      let g : nat_lt a n ≡ false = grind (arith, nat_tests, large, h) in
      f ∙ sym g
]

pub filter-kept : (n by : ℕ) (os : List ℕ) → n ≤ most → filter (λ o. nat_lt o n) (map (λ o. min (o + by) most) os) ≡ kept n by os
unfolding kept
filter-kept n by [] h = refl
filter-kept n by (o ∷ os) h =
    let t = capped-test n (o + by) h in
    let rest = filter-kept n by os h in
    elim (cases_lt (o + by) n) [
      | inl in' ↦
          let e : nat_lt (o + by) n ≡ true = grind (arith, nat_tests, in') in
          let s : min (o + by) most ≡ o + by = omega (arith, in', h) in
          rw (s, e, rest) refl
      | inr out ↦
          let e : nat_lt (o + by) n ≡ false = grind (arith, nat_tests, out) in
          rw (t, e, rest) refl
    ]

pub past-here : (n by o : ℕ) (os : List ℕ) → n ≤ most → n ≤ min (o + by) most → any_past n by (o ∷ os) ≡ true
unfolding any_past
past-here n by o os h l = let e : nat_lt (o + by) n ≡ false = grind (arith, nat_tests) in rw e refl

pub past-later : (n by o : ℕ) (os : List ℕ) → min (o + by) most < n → n ≤ most → any_past n by (o ∷ os) ≡ any_past n by os
unfolding any_past
past-later n by o os l h = let e : nat_lt (o + by) n ≡ true = grind (arith, nat_tests) in rw e refl

-- ---- runs
pub run-stopped : (n w k o : ℕ) → 0 < k → n ≤ o → (run n w k o ≡ []) × (stops n w k o ≡ true)
run-stopped n w zero o h l = absurd (omega arith)
run-stopped n w (suc k) o h l = (let a = past-run n w (suc k) o l in a.0, let b = past-run n w k o l in b.1)

start-alike : (n w k a b : ℕ) → (a ≡ b → ⊥) → n ≤ a → n ≤ b → (run n w k a ≡ run n w k b) × (stops n w k a ≡ stops n w k b)
unfolding run stops
start-alike n w zero a b d h l = (refl, refl)
start-alike n w (suc k) a b d h l =
    let x = run-stopped n w (suc k) a (omega arith) h in
    let y = run-stopped n w (suc k) b (omega arith) l in
    (x.0 ∙ sym y.0, x.1 ∙ sym y.1)

pub run-next : (n w k o : ℕ) → n ≤ most → o < n → (run n w (suc k) o ≡ o ∷ run n w k (min (o + w) most)) × (stops n w (suc k) o ≡ stops n w k (min (o + w) most))
unfolding run stops
run-next n w k o h l =
    let e : nat_lt o n ≡ true = grind (arith, nat_tests) in
    elim (cases_lt (o + w) most) [
      | inl small ↦ let s : min (o + w) most ≡ o + w = omega (arith, small) in (rw (e, s) refl, rw (e, s) refl)
      | inr large ↦
          let s : min (o + w) most ≡ most = omega (arith, large) in
          elim (cases_lt most (o + w)) [
            | inl over ↦
                let a = start-alike n w k (o + w) (min (o + w) most) (λ q. omega (arith, q, s, over)) (omega (arith, h, over)) (omega (arith, h, s)) in
                (rw e (ap (λ (l : List ℕ). o ∷ l) a.0), rw e a.1)
            | inr same ↦ let t : min (o + w) most ≡ o + w = omega (arith, same, large) in (rw (e, t) refl, rw (e, t) refl)
          ]
    ]

-- ---- arrays
pub apart-more : (n w k j : ℕ) (e : Elements) (old new whole : List Elements) → n ≤ most → j < k → new ≡ old ++ moved_on n (min (w * j) most) e ∷ [] →
    old ++ apart n w (k - j) j e ≡ whole → new ++ apart n w (k - (j + 1)) (j + 1) e ≡ whole
unfolding apart
apart-more n w k j e old new whole h l is goes =
    let left : k - j ≡ suc (k - (j + 1)) = omega arith in
    let swap : w * j ≡ j * w = grind arith in
    let at : moved_on n (min (w * j) most) e ≡ moved_on n (j * w) e = ap (λ (x : ℕ). moved_on n (min x most) e) swap ∙ moved-alike n (min (j * w) most) (j * w) e (capped-alike n (j * w) h) in
    ap (λ (xs : List Elements). xs ++ apart n w (k - (j + 1)) (j + 1) e) is ∙ append_assoc old (moved_on n (min (w * j) most) e ∷ []) (apart n w (k - (j + 1)) (j + 1) e)
    ∙ ap (λ (x : Elements). old ++ x ∷ apart n w (k - (j + 1)) (j + 1) e) at ∙ ap (λ (m : ℕ). old ++ apart n w m j e) (sym left) ∙ goes

pub apart-end : (n w k j : ℕ) (e : Elements) (old whole : List Elements) → k ≤ j → old ++ apart n w (k - j) j e ≡ whole → old ≡ whole
unfolding apart
apart-end n w k j e old whole h goes =
    let none : k - j ≡ 0 = omega arith in
    sym (append-nil old) ∙ ap (λ (m : ℕ). old ++ apart n w m j e) (sym none) ∙ goes

module _ {X Y : Type 0} (f : X → List Y) where
  pub flat-step : (xs : List X) (i : ℕ) (d : X) (old new whole : List Y) → i < length xs → new ≡ old ++ f (get_or xs i d) → old ++ flat_map f (drop i xs) ≡ whole → new ++ flat_map f (drop (i + 1) xs) ≡ whole
  flat-step xs i d old new whole h e goes =
      let rest = flat_map f (drop (i + 1) xs) in
      ap (λ (l : List Y). l ++ rest) e ∙ append_assoc old (f (get_or xs i d)) rest ∙ ap (λ (l : List X). old ++ flat_map f l) (sym (drop_more xs i d h)) ∙ goes

  pub flat-last : (xs : List X) (i : ℕ) (old whole : List Y) → length xs ≤ i → old ++ flat_map f (drop i xs) ≡ whole → old ≡ whole
  flat-last xs i old whole h goes = sym (append-nil old) ∙ ap (λ (l : List X). old ++ flat_map f l) (sym (drop_all i xs h)) ∙ goes

module _ {X Y : Type 0} (f : X → Y) where
  pub map-step : (xs : List X) (i : ℕ) (d : X) (old new whole : List Y) → i < length xs → new ≡ old ++ f (get_or xs i d) ∷ [] → old ++ map f (drop i xs) ≡ whole → new ++ map f (drop (i + 1) xs) ≡ whole
  map-step xs i d old new whole h e goes =
      let rest = map f (drop (i + 1) xs) in
      ap (λ (l : List Y). l ++ rest) e ∙ append_assoc old (f (get_or xs i d) ∷ []) rest ∙ ap (λ (l : List X). old ++ map f l) (sym (drop_more xs i d h)) ∙ goes

  pub map-last : (xs : List X) (i : ℕ) (old whole : List Y) → length xs ≤ i → old ++ map f (drop i xs) ≡ whole → old ≡ whole
  map-last xs i old whole h goes = sym (append-nil old) ∙ ap (λ (l : List X). old ++ map f l) (sym (drop_all i xs h)) ∙ goes

or-regroup : (a b c : Bool) → ((a || b) || c) ≡ (a || (b || c))
or-regroup a b c = grind arith

pub stops-more : (n w k : ℕ) (os : List ℕ) (i : ℕ) (m r whole : Bool) → i < length os → r ≡ stops n w k (get_or os i 0) → (m || any_stops n w k (drop i os)) ≡ whole → ((m || r) || any_stops n w k (drop (i + 1) os)) ≡ whole
unfolding any_stops
stops-more n w k os i m r whole h e goes =
    or-regroup m r (any_stops n w k (drop (i + 1) os)) ∙ ap (λ (b : Bool). m || (b || any_stops n w k (drop (i + 1) os))) e
    ∙ ap (λ (l : List ℕ). m || any_stops n w k l) (sym (drop_more os i 0 h)) ∙ goes

pub stops-end : (n w k : ℕ) (os : List ℕ) (i : ℕ) (m whole : Bool) → length os ≤ i → (m || any_stops n w k (drop i os)) ≡ whole → m ≡ whole
unfolding any_stops
stops-end n w k os i m whole h goes =
    sym (or-none m) ∙ ap (λ (l : List ℕ). m || any_stops n w k l) (sym (drop_all i os h)) ∙ goes
  where
    or-none : (m : Bool) → (m || false) ≡ m
    or-none true = refl
    or-none false = refl
