-- Scopes and what a loop shows, as code goes over them.
use Rattle.std.proofs.Common.{◌≡◌, ℕ, ◌+◌, ◌<◌, ◌≤◌, Bool, true, false, ◌||◌, List, [], ◌∷◌, ◌++◌, length, drop, get_or, refl, sym, ap, ◌∙◌, if◌then◌else◌, append-nil, append_assoc}
use Rattle.std.proofs.lemmas.List.{drop_more, drop_all}
use Rattle.std.specs.Prelude.{filter}
use Rattle.sa_base.specs.declared.pos.Pos.{Pos}
use Rattle.sa_typed.specs.declared.program.Program.{Program}
use Rattle.sa_ir.specs.declared.frame.Span.{Span}
use Rattle.sa_ir.specs.Shown.{global_places, is_within, in_scope}
use Rattle.sa_lower.specs.Showing.{in_span, is_shown, some_if}

-- ---- scopes
from : (ss : List Span) (c i : ℕ) (d : Span) → i < length ss → is_within ss c ≡ is_within (drop i ss) c → is_within ss c ≡ (in_span (get_or ss i d) c || is_within (drop (i + 1) ss) c)
unfolding is_within in_span
from ss c i d h e = e ∙ ap (λ (l : List Span). is_within l c) (drop_more ss i d h)

module _ (ss : List Span) (c : ℕ) (i : ℕ) (d : Span) (t : Bool) (here : i < length ss) (is : t ≡ in_span (get_or ss i d) c) (left : is_within ss c ≡ is_within (drop i ss) c) where
  pub within_more : t ≡ false → is_within ss c ≡ is_within (drop (i + 1) ss) c
  within_more e = from ss c i d here left ∙ ap (λ (x : Bool). x || is_within (drop (i + 1) ss) c) (sym is ∙ e)

  pub within_stop : t ≡ true → true ≡ is_within ss c
  within_stop e = sym (from ss c i d here left ∙ ap (λ (x : Bool). x || is_within (drop (i + 1) ss) c) (sym is ∙ e))

pub within_end : (ss : List Span) (c i : ℕ) → length ss ≤ i → is_within ss c ≡ is_within (drop i ss) c → false ≡ is_within ss c
unfolding is_within
within_end ss c i h e = sym (e ∙ ap (λ (l : List Span). is_within l c) (drop_all i ss h))

-- ---- lists, one item on
filter_one : (f : ℕ → Bool) (x : ℕ) (xs : List ℕ) (t : Bool) → f x ≡ t → filter f (x ∷ xs) ≡ some_if t x ++ filter f xs
filter_one f x xs true e = ap (λ (b : Bool). if b then x ∷ filter f xs else filter f xs) e
filter_one f x xs false e = ap (λ (b : Bool). if b then x ∷ filter f xs else filter f xs) e

pub filter_more : (f : ℕ → Bool) (xs : List ℕ) (i d : ℕ) (out new whole : List ℕ) (t : Bool) → i < length xs → t ≡ f (get_or xs i d) → new ≡ out ++ some_if t (get_or xs i d) →
    out ++ filter f (drop i xs) ≡ whole → new ++ filter f (drop (i + 1) xs) ≡ whole
filter_more f xs i d out new whole t h is e left =
    ap (λ (l : List ℕ). l ++ filter f (drop (i + 1) xs)) e ∙ append_assoc out (some_if t (get_or xs i d)) (filter f (drop (i + 1) xs))
    ∙ ap (λ (l : List ℕ). out ++ l) (sym (ap (filter f) (drop_more xs i d h) ∙ filter_one f (get_or xs i d) (drop (i + 1) xs) t (sym is))) ∙ left

pub filter_end : {X : Type 0} (f : X → Bool) (xs : List X) (i : ℕ) (out whole : List X) → length xs ≤ i → out ++ filter f (drop i xs) ≡ whole → out ≡ whole
filter_end f xs i out whole h left = sym (append-nil out) ∙ ap (λ (l : List _). out ++ filter f l) (sym (drop_all i xs h)) ∙ left

-- ---- what is shown is in scope
pub shown_in_scope : (p : Program) (scope : List Span) (q : Pos) (c : ℕ) → is_shown (global_places p) scope q c ≡ in_scope p scope q c
unfolding is_shown in_scope
shown_in_scope p scope q c = refl

pub filter_same : {X : Type 0} (f g : X → Bool) → ((x : X) → f x ≡ g x) → (xs : List X) → filter f xs ≡ filter g xs
filter_same f g h [] = refl
filter_same f g h (x ∷ xs) =
    ap (λ (b : Bool). if b then x ∷ filter f xs else filter f xs) (h x) ∙ ap (λ (l : List _). if g x then x ∷ l else l) (filter_same f g h xs)
