-- Lists by their items.
use Rattle.std.proofs.Common.{◌≡◌, ℕ, zero, suc, ◌<◌, List, [], ◌∷◌, ◌++◌, length, take, drop, refl, ap, arith}
use Rattle.std.specs.Prelude.{Some, slice_get}

-- a list at one of its items
pub parted : {X : Type 0} (xs : List X) (i : ℕ) (x : X) → slice_get xs i ≡ Some x → xs ≡ take i xs ++ x ∷ drop (suc i) xs
parted [] i x h = absurd cc
parted (y ∷ ys) zero x h = let e : y ≡ x = cc in ap (λ z. z ∷ ys) e
parted (y ∷ ys) (suc i) x h = ap (λ l. y ∷ l) (parted ys i x h)

pub length-taken : {X : Type 0} (xs : List X) (i : ℕ) → i < length xs → length (take i xs) ≡ i
length-taken xs zero h = refl
length-taken [] (suc i) h = absurd (omega arith)
length-taken (x ∷ xs) (suc i) h = ap suc (length-taken xs i (omega arith))
