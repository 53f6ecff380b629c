-- Readers with more room answer the same, unless the one with less ran out of it.
use Rattle.std.proofs.Common.{◌≡◌, ℕ, zero, suc, ◌≤◌, List, [], ◌∷◌, ◌++◌, Bool, true, false, cond, refl, arith, ◌⊎◌, inl, inr}
use Rattle.sa_tokens.specs.declared.punct.Punct.{Punct}
use Rattle.sa_tokens.specs.declared.token.Token.{Token}
use Rattle.sa_syntax.specs.Reading.{Read, Got, Stuck, Deep, Parser, and_then, sees, opens_any, opens, turns, while_from, many}

-- the same answer, or out of room
pub data Less {A : Type 0} : Read A → Read A → Type 0 where
  out : {us : List Token} {s : Read A} → Less (Deep us) s
  same : {r : Read A} → Less r r

pub less_then : {A B : Type 0} {r s : Read A} {f g : A → Parser B} → Less r s → ((a : A) (us : List Token) → Less (f a us) (g a us)) → Less (and_then r f) (and_then s g)
less_then Less.out go = Less.out
less_then (Less.same {r}) go = less_next r go
  where
    less_next : {A B : Type 0} (r : Read A) {f g : A → Parser B} → ((a : A) (us : List Token) → Less (f a us) (g a us)) → Less (and_then r f) (and_then r g)
    less_next (Got a us) go = go a us
    less_next (Stuck us) go = Less.same
    less_next (Deep us) go = Less.same

pub less_if : {A : Type 0} {r s x y : Read A} (b : Bool) → Less r s → Less x y → Less (cond b r x) (cond b s y)
less_if true one other = one
less_if false one other = other

pub less_opens_any : (n more : ℕ) → n ≤ more → (ts : List Token) → Less (opens_any n ts) (opens_any more ts)
unfolding opens_any
less_opens_any n more h [] = Less.same
less_opens_any zero more h (t ∷ ts) = Less.out
less_opens_any (suc n) zero h (t ∷ ts) = absurd (omega arith)
less_opens_any (suc n) (suc more) h (t ∷ ts) = Less.same

pub less_opens : (n more : ℕ) → n ≤ more → (m : Punct) (ts : List Token) → Less (opens n m ts) (opens more m ts)
unfolding opens
less_opens n more h m ts = less_if (sees m ts) (less_opens_any n more h ts) Less.same

less_while : {A : Type 0} (goes : List Token → Bool) (item wide : Parser A) → ((ts : List Token) → Less (item ts) (wide ts)) → (n : ℕ) (found : List A) (ts : List Token) → Less (while_from goes item n found ts) (while_from goes wide n found ts)
unfolding while_from
less_while goes item wide one zero found ts = Less.same
less_while goes item wide one (suc n) found ts = less_if (goes ts) (less_then (one ts) (λ x us. less_while goes item wide one n (found ++ x ∷ []) us)) Less.same

pub less_many : {A : Type 0} (goes : List Token → Bool) (item wide : Parser A) → ((ts : List Token) → Less (item ts) (wide ts)) → (ts : List Token) → Less (many goes item ts) (many goes wide ts)
less_many goes item wide one ts = less_while goes item wide one (turns ts) [] ts

pub agree : {A : Type 0} {r s : Read A} → Less r s → ((vs : List Token) × (r ≡ Deep vs)) ⊎ (r ≡ s)
agree (Less.out {us}) = inl (us, refl)
agree Less.same = inr refl
