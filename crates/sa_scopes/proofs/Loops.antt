-- Lists that are typed one part after the other, one step on and at the end.
use Rattle.std.proofs.Common.{◌≡◌, ℕ, ◌+◌, ◌<◌, ◌≤◌, List, [], ◌∷◌, length, drop, get_or, refl, ap, sym, ◌∙◌}
use Rattle.std.proofs.lemmas.List.{drop_more, drop_all}
use Rattle.sa_scopes.specs.declared.typer.Typer.{Typer}
use Rattle.sa_scopes.specs.Typing.{Typed, Gives, Typing, and_then, each}

pub next : {X : Type 0} (xs : List X) (i : ℕ) (x : X) → i < length xs → x ≡ get_or xs i x → drop i xs ≡ x ∷ drop (i + 1) xs
next xs i x h e = drop_more xs i x h ∙ ap (λ y. y ∷ drop (i + 1) xs) (sym e)

pub each-next : {X A : Type 0} (f : X → A → Typing A) (xs : List X) (i : ℕ) (x : X) (a b : A) (s t : Typer) → i < length xs → x ≡ get_or xs i x → f x a s ≡ Gives b t →
    each f (drop i xs) a s ≡ each f (drop (i + 1) xs) b t
unfolding each
each-next f xs i x a b s t h e step = ap (λ ys. each f ys a s) (next xs i x h e) ∙ ap (λ u. and_then u (each f (drop (i + 1) xs))) step

-- the same with the element as a number of the list
pub each-at : {X A : Type 0} (f : X → A → Typing A) (xs : List X) (i : ℕ) (d : X) (a b : A) (s t : Typer) → i < length xs → f (get_or xs i d) a s ≡ Gives b t →
    each f (drop i xs) a s ≡ each f (drop (i + 1) xs) b t
unfolding each
each-at f xs i d a b s t h step = ap (λ ys. each f ys a s) (drop_more xs i d h) ∙ ap (λ u. and_then u (each f (drop (i + 1) xs))) step

pub each-end : {X A : Type 0} (f : X → A → Typing A) (xs : List X) (i : ℕ) (a : A) (s : Typer) → length xs ≤ i → each f (drop i xs) a s ≡ Gives a s
unfolding each
each-end f xs i a s h = ap (λ ys. each f ys a s) (drop_all i xs h)

pub ruleset loops = (each-next, each-at, each-end)
