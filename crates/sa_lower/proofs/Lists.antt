-- Cells put into a set one after another, and loops over lists.
use Rattle.std.proofs.Common.{◌≡◌, ℕ, suc, ◌+◌, ◌-◌, ◌<◌, ◌≤◌, List, [], ◌∷◌, ◌++◌, length, drop, get_or, refl, sym, ap, ◌∙◌, arith, append-nil, append_assoc}
use Rattle.std.proofs.lemmas.List.{drop_more, drop_all}
use Rattle.std.specs.BTreeSet.{insert_key}
use Rattle.std.specs.List.{flat_map}
use Rattle.std.specs.Ordering.{nat_cmp}
use Rattle.sa_ir.specs.Occurrences.{every}
use Rattle.sa_ir.specs.Shown.{with_all}

-- ---- sets
pub with_more : (ks xs ys : List ℕ) → with_all ks (xs ++ ys) ≡ with_all (with_all ks xs) ys
unfolding with_all
with_more ks [] ys = refl
with_more ks (x ∷ xs) ys = with_more (insert_key nat_cmp ks x) xs ys

pub with_none : (ks : List ℕ) → with_all ks [] ≡ ks
unfolding with_all
with_none ks = refl

pub one_more : (ks new xs whole : List ℕ) (i d : ℕ) → i < length xs → new ≡ insert_key nat_cmp ks (get_or xs i d) →
    with_all ks (drop i xs) ≡ whole → with_all new (drop (i + 1) xs) ≡ whole
unfolding with_all
one_more ks new xs whole i d h e left = ap (λ (l : List ℕ). with_all l (drop (i + 1) xs)) e ∙ sym (ap (with_all ks) (drop_more xs i d h)) ∙ left

pub no_more : (ks xs whole : List ℕ) (i : ℕ) → length xs ≤ i → with_all ks (drop i xs) ≡ whole → ks ≡ whole
unfolding with_all
no_more ks xs whole i h left = sym (ap (with_all ks) (drop_all i xs h)) ∙ left

-- items that each bring some
pub each_more : {X : Type 0} (f : X → List ℕ) (ks new whole : List ℕ) (xs : List X) (i : ℕ) (d : X) → i < length xs → new ≡ with_all ks (f (get_or xs i d)) →
    with_all ks (flat_map f (drop i xs)) ≡ whole → with_all new (flat_map f (drop (i + 1) xs)) ≡ whole
each_more f ks new whole xs i d h e left =
    ap (λ (l : List ℕ). with_all l (flat_map f (drop (i + 1) xs))) e ∙ sym (with_more ks (f (get_or xs i d)) (flat_map f (drop (i + 1) xs)))
    ∙ sym (ap (λ (l : List _). with_all ks (flat_map f l)) (drop_more xs i d h)) ∙ left

pub each_end : {X : Type 0} (f : X → List ℕ) (ks whole : List ℕ) (xs : List X) (i : ℕ) → length xs ≤ i → with_all ks (flat_map f (drop i xs)) ≡ whole → ks ≡ whole
unfolding with_all
each_end f ks whole xs i h left = sym (ap (λ (l : List _). with_all ks (flat_map f l)) (drop_all i xs h)) ∙ left

-- one part after another
pub then_more : (ks mid new xs ys : List ℕ) → mid ≡ with_all ks xs → new ≡ with_all mid ys → new ≡ with_all ks (xs ++ ys)
then_more ks mid new xs ys a b = b ∙ ap (λ (l : List ℕ). with_all l ys) a ∙ sym (with_more ks xs ys)

-- ---- lists
pub flat-more : {X Y : Type 0} (f : X → List Y) (xs : List X) (i : ℕ) (d : X) (out new whole : List Y) → i < length xs → new ≡ out ++ f (get_or xs i d) →
    out ++ flat_map f (drop i xs) ≡ whole → new ++ flat_map f (drop (i + 1) xs) ≡ whole
flat-more f xs i d out new whole h e left =
    ap (λ (l : List _). l ++ flat_map f (drop (i + 1) xs)) e ∙ append_assoc out (f (get_or xs i d)) (flat_map f (drop (i + 1) xs))
    ∙ ap (λ (l : List _). out ++ flat_map f l) (sym (drop_more xs i d h)) ∙ left

pub flat-end : {X Y : Type 0} (f : X → List Y) (xs : List X) (i : ℕ) (out whole : List Y) → length xs ≤ i → out ++ flat_map f (drop i xs) ≡ whole → out ≡ whole
flat-end f xs i out whole h left = sym (append-nil out) ∙ ap (λ (l : List _). out ++ flat_map f l) (sym (drop_all i xs h)) ∙ left

-- so many cells, one on
pub every-more : (n stride c : ℕ) (out new whole : List ℕ) (i : ℕ) → i < n → new ≡ out ++ c ∷ [] →
    out ++ every (n - i) stride c ≡ whole → new ++ every (n - (i + 1)) stride (c + stride) ≡ whole
unfolding every
every-more n stride c out new whole i h e left =
    let less : n - i ≡ suc (n - (i + 1)) = omega (arith, h) in
    ap (λ (l : List ℕ). l ++ every (n - (i + 1)) stride (c + stride)) e ∙ append_assoc out (c ∷ []) (every (n - (i + 1)) stride (c + stride))
    ∙ sym (ap (λ (m : ℕ). out ++ every m stride c) less) ∙ left

pub every-end : (n stride c : ℕ) (out whole : List ℕ) (i : ℕ) → n ≤ i → out ++ every (n - i) stride c ≡ whole → out ≡ whole
unfolding every
every-end n stride c out whole i h left =
    let none : n - i ≡ 0 = omega (arith, h) in
    sym (append-nil out) ∙ sym (ap (λ (m : ℕ). out ++ every m stride c) none) ∙ left

pub every-step : (n stride next cell : ℕ) (out new whole : List ℕ) (i : ℕ) → i < n → cell ≡ next → new ≡ out ++ cell ∷ [] →
    out ++ every (n - i) stride next ≡ whole → new ++ every (n - (i + 1)) stride (cell + stride) ≡ whole
every-step n stride next cell out new whole i h is e left =
    ap (λ (c : ℕ). new ++ every (n - (i + 1)) stride (c + stride)) is ∙ every-more n stride next out new whole i h (e ∙ ap (λ (c : ℕ). out ++ c ∷ []) is) left
