-- How many indices of arguments are kept, as code counts them.
use Rattle.std.proofs.Common.{◌≡◌, ℕ, ◌+◌, ◌<◌, ◌≤◌, List, [], ◌∷◌, length, drop, get_or, refl, sym, ap, ◌∙◌, arith}
use Rattle.std.proofs.lemmas.List.{drop_more, drop_all}
use Rattle.sa_base.specs.declared.num.Num.TheVariants.{I32}
use Rattle.sa_base.specs.declared.pos.Pos.{Pos}
use Rattle.sa_typed.specs.Frames.{indices_of, read_indices, access_indices, kept_indices, all_kept}
use Rattle.sa_typed.specs.declared.expr.Access.{Access, out-Access}
use Rattle.sa_typed.specs.declared.expr.Expr.{Expr, Read', Row_of-Step, end_of-Step, more_of-Step, items-the_row-Step, items_hidden-the_row-Step-0}
use Rattle.sa_typed.specs.declared.expr.Expr.TheVariants as v
use Rattle.sa_typed.specs.declared.expr.Step.{Step, At', Field}
use Rattle.sa_typed.specs.declared.expr.Step.TheVariants as step
use Rattle.sa_typed.specs.declared.stmt.Arg.{Arg}
use Rattle.sa_ir.specs.Sizes.{capped}
use Rattle.sa_lower.specs.Arguments.{step_count, list_count}

abbrev steps_of : Expr → (n : _) × Row_of-Step n
steps_of (Read' x n ss num) = (_, ss)
steps_of _ = (_, end_of-Step)

zero-plus : (n : ℕ) → n ≡ 0 + n
zero-plus n = omega arith

count-row : (n : _) (r : Row_of-Step n) → indices_of r ≡ list_count (items-the_row-Step n r)
unfolding indices_of list_count step_count
count-row n end_of-Step = refl
count-row n (more_of-Step (At' q m k a) rest) = ap (λ (i : ℕ). 1 + i) (count-row _ rest)
count-row n (more_of-Step (Field f) rest) = count-row _ rest ∙ zero-plus (list_count (items-the_row-Step _ rest))

pub access-count : (x : Access) → access_indices x ≡ list_count (out-Access x).steps
unfolding read_indices Rattle.sa_typed.specs.declared.expr.Expr.TheBlock.hidden-the_row-Step-0 denote.Hole.Carrier.hidden
access-count x =
    let row = steps_of (v.Read x I32) in
    count-row row.0 row.1 ∙ ap list_count (items_hidden-the_row-Step-0 (out-Access x).steps)

pub access_count : (x : Access) (ss : List Step) (n : ℕ) → ss ≡ (out-Access x).steps → n ≡ capped (list_count ss) → n ≡ capped (access_indices x)
access_count x ss n e h = h ∙ ap (λ (l : List Step). capped (list_count l)) e ∙ sym (ap capped (access-count x))

pub count_at : (q : Pos) (n : ℕ) (a : Expr) → step_count (step.At q n a) ≡ 1
unfolding step_count
count_at q n a = refl

pub count_field : (f : ℕ) → step_count (step.Field f) ≡ 0
unfolding step_count
count_field f = refl

pub ruleset of_count = (count_at, count_field)

pub sum-more : {X : Type 0} (f : X → ℕ) (sums : List X → ℕ) → ((x : X) (xs : List X) → sums (x ∷ xs) ≡ f x + sums xs) → (xs : List X) (i : ℕ) (x : X) → x ≡ get_or xs i x → i < length xs →
    (a n b w : ℕ) → n ≡ capped (f x) → b ≡ capped (a + n) → capped (a + sums (drop i xs)) ≡ w → capped (b + sums (drop (i + 1) xs)) ≡ w
sum-more f sums step xs i x at h a n b w e g left =
    let here : sums (drop i xs) ≡ f x + sums (drop (i + 1) xs) = ap sums (drop_more xs i x h) ∙ step (get_or xs i x) (drop (i + 1) xs) ∙ ap (λ (y : _). f y + sums (drop (i + 1) xs)) (sym at) in
    omega (arith, here, e, g, left)

pub sum-end : {X : Type 0} (sums : List X → ℕ) → sums [] ≡ 0 → (xs : List X) (i a w : ℕ) → length xs ≤ i → a ≤ 18446744073709551615 → capped (a + sums (drop i xs)) ≡ w → a ≡ w
sum-end sums none xs i a w h fits left =
    let rest : sums (drop i xs) ≡ 0 = ap sums (drop_all i xs h) ∙ none in
    omega (arith, rest, fits, left)

pub list-step : (s : Step) (ss : List Step) → list_count (s ∷ ss) ≡ step_count s + list_count ss
unfolding list_count
list-step s ss = refl

pub list-none : list_count [] ≡ 0
unfolding list_count
list-none = refl

pub args-step : (a : Arg) (as' : List Arg) → all_kept (a ∷ as') ≡ kept_indices a + all_kept as'
unfolding all_kept
args-step a as' = refl

pub args-none : all_kept [] ≡ 0
unfolding all_kept
args-none = refl

pub count-small : (s : Step) → step_count s ≡ capped (step_count s)
unfolding step_count
count-small (At' q n m a) = refl
count-small (Field f) = refl

pub sum-fits : (a n b : ℕ) → b ≡ capped (a + n) → b ≤ 18446744073709551615
sum-fits a n b e = omega (arith, e)
