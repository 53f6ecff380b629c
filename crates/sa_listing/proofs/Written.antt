-- Lists that are made by adding a piece for each element of another one.
use Rattle.std.proofs.Common.{◌≡◌, ℕ, ◌+◌, ◌<◌, ◌≤◌, ◌⊎◌, List, [], ◌∷◌, ◌++◌, length, drop, get_or, flat_map, map, zip, inl, inr, refl, sym, ap, ◌∙◌, append_assoc, append-nil, arith}
use Rattle.std.proofs.lemmas.List.{drop_more, drop_all}

-- one more piece of a text
pub passed : {A : Type 0} (f : A → List ℕ) (xs : List A) (i : ℕ) (d x : A) (old new whole : List ℕ) → i < length xs → x ≡ get_or xs i d → new ≡ old ++ f x →
    old ++ flat_map f (drop i xs) ≡ whole → new ++ flat_map f (drop (i + 1) xs) ≡ whole
passed f xs i d x old new whole h is n left =
    let rest = flat_map f (drop (i + 1) xs) in
    ap (λ (t : List ℕ). t ++ rest) n ∙ append_assoc old (f x) rest
    ∙ ap (λ t. old ++ (f t ++ rest)) is
    ∙ sym (ap (λ (t : List _). old ++ flat_map f t) (drop_more xs i d h)) ∙ left

-- the last one stands
pub over : {A : Type 0} (f : A → List ℕ) (xs : List A) (i : ℕ) (old whole : List ℕ) → length xs ≤ i → old ++ flat_map f (drop i xs) ≡ whole → old ≡ whole
over f xs i old whole h left = sym (append-nil old) ∙ sym (ap (λ (t : List _). old ++ flat_map f t) (drop_all i xs h)) ∙ left

-- ---- two lists side by side
no-pairs : {A B C : Type 0} (f : A × B → C) (xs : List A) (ys : List B) → (length xs ≡ 0) ⊎ (length ys ≡ 0) → map f (zip xs ys) ≡ []
no-pairs f [] ys e = refl
no-pairs f (x ∷ xs) [] e = refl
no-pairs f (x ∷ xs) (y ∷ ys) (inl e) = absurd (omega (arith, e))
no-pairs f (x ∷ xs) (y ∷ ys) (inr e) = absurd (omega (arith, e))

-- one of them has ended
pub pairs-over : {A B C S T : Type 0} {P : S → Type 0} {Q : T → Type 0} (f : A × B → C) (xs : List A) (ys : List B) (old whole : List C) →
    ((x : S) × ((length xs ≡ 0) × P x)) ⊎ ((x : T) × ((length ys ≡ 0) × Q x)) → old ++ map f (zip xs ys) ≡ whole → old ≡ whole
pairs-over f xs ys old whole (inl e) left = sym (append-nil old) ∙ sym (ap (λ (t : List _). old ++ t) (no-pairs f xs ys (inl e.1.0))) ∙ left
pairs-over f xs ys old whole (inr e) left = sym (append-nil old) ∙ sym (ap (λ (t : List _). old ++ t) (no-pairs f xs ys (inr e.1.0))) ∙ left
