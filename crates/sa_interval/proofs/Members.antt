-- What stands in a list, and in what a filter keeps of it.
use Rattle.std.proofs.Common.{◌≡◌, zero, suc, Bool, true, false, cond, List, [], ◌∷◌, ◌⊎◌, inl, inr, filter, refl, arith, Contains}

pub Contains-head : {X : Type 0} (y : X) (ys : List X) → Contains (y ∷ ys) y
Contains-head y ys = (0, omega arith, refl)

pub Contains-tail : {X : Type 0} (y x : X) (ys : List X) → Contains ys x → Contains (y ∷ ys) x
Contains-tail y x ys h = (suc h.0, omega (arith, h.1), h.2)

pub Contains-cons_cases : {X : Type 0} (y x : X) (ys : List X) → Contains (y ∷ ys) x → (y ≡ x) ⊎ Contains ys x
Contains-cons_cases y x ys (zero, l, e) = inl e
Contains-cons_cases y x ys (suc k, l, e) = inr (k, omega (arith, l), e)

kept : {X : Type 0} (b : Bool) (y x : X) (ys : List X) → Contains ys x → Contains (cond b (y ∷ ys) ys) x
kept true y x ys h = Contains-tail y x ys h
kept false y x ys h = h

kept_itself : {X : Type 0} (b : Bool) (y x : X) (ys : List X) → b ≡ true → y ≡ x → Contains (cond b (y ∷ ys) ys) x
kept_itself true y x ys t e = (0, omega arith, e)
kept_itself false y x ys t e = cc

pub Contains-filter : {X : Type 0} (p : X → Bool) (xs : List X) (x : X) → Contains xs x → p x ≡ true → Contains (filter p xs) x
Contains-filter p [] x h q = absurd (omega (arith, h.1))
Contains-filter p (y ∷ ys) x h q =
    elim (Contains-cons_cases y x ys h) [
      | inl e ↦ kept_itself (p y) y x (filter p ys) (rw e q) e
      | inr k ↦ kept (p y) y x (filter p ys) (Contains-filter p ys x k q)
    ]

was_kept : {X : Type 0} (b : Bool) (y x : X) (ys : List X) → Contains (cond b (y ∷ ys) ys) x → ((b ≡ true) × (y ≡ x)) ⊎ Contains ys x
was_kept true y x ys h = elim (Contains-cons_cases y x ys h) [ inl e ↦ inl (refl, e) | inr k ↦ inr k ]
was_kept false y x ys h = inr h

pub Contains-from_filter : {X : Type 0} (p : X → Bool) (xs : List X) (x : X) → Contains (filter p xs) x → Contains xs x × (p x ≡ true)
Contains-from_filter p [] x h = absurd (omega (arith, h.1))
Contains-from_filter p (y ∷ ys) x h =
    elim (was_kept (p y) y x (filter p ys) h) [
      | inl e ↦ rw (← e.1) (Contains-head y ys, e.0)
      | inr k ↦ let rest = Contains-from_filter p ys x k in (Contains-tail y x ys rest.0, rest.1)
    ]
