-- The cells that a call brings, in numbers of a machine word.
use Rattle.std.proofs.Common.{◌≡◌, ℕ, ◌+◌, ◌-◌, ◌^◌, ◌<◌, ◌≤◌, List, [], ◌∷◌, length, drop, get_or, refl, sym, ap, ◌∙◌, arith}
use Rattle.std.proofs.lemmas.List.{drop_all}
use Rattle.std.specs.Prelude.{slice_get}
use Rattle.sa_base.specs.declared.num.Num.TheVariants.{I32}
use Rattle.sa_base.specs.declared.pos.Pos.{Pos}
use Rattle.sa_typed.specs.Frames.{indices_of, read_indices, kept_indices, all_kept, one_for, result_of, home_cells, frame_cells}
use Rattle.sa_typed.specs.declared.expr.Access.{Access, out-Access}
use Rattle.sa_typed.specs.declared.expr.Expr.{Expr, Read', Row_of-Step, end_of-Step, more_of-Step, items-the_row-Step, items_hidden-the_row-Step-0}
use Rattle.sa_typed.specs.declared.expr.Expr.TheVariants as v
use Rattle.sa_typed.specs.declared.expr.Step.{Step, At', Field}
use Rattle.sa_typed.specs.declared.expr.Step.TheVariants as step
use Rattle.sa_typed.specs.declared.program.Home.TheVariants as home
use Rattle.sa_typed.specs.declared.program.Program.{Program}
use Rattle.sa_typed.specs.declared.stmt.Arg.{Arg}
use Rattle.sa_typed.specs.declared.stmt.Arg.TheVariants as arg
use Rattle.sa_calls.specs.Rooms.{one_index, indices_in, AreLocals}
use Rattle.sa_calls.specs.Weights.{capped}
use Rattle.sa_calls.proofs.WeightLemmas.{next}

pub step_at : (q : Pos) (n : ℕ) (a : Expr) → one_index (step.At q n a) ≡ 1
unfolding one_index
step_at q n a = refl

pub step_field : (f : ℕ) → one_index (step.Field f) ≡ 0
unfolding one_index
step_field f = refl

pub ruleset of_steps = (step_at, step_field)

abbrev steps_of : Expr → (n : _) × Row_of-Step n
steps_of (Read' x n ss num) = (_, ss)
steps_of _ = (_, end_of-Step)

steps_row : (n : _) (r : Row_of-Step n) → indices_of r ≡ indices_in (items-the_row-Step n r)
unfolding indices_of indices_in one_index
steps_row n end_of-Step = refl
steps_row n (more_of-Step (At' q m l a) rest) = ap (λ (k : ℕ). 1 + k) (steps_row _ rest)
steps_row n (more_of-Step (Field f) rest) = steps_row _ rest ∙ plain (indices_in (items-the_row-Step _ rest))
  where
    plain : (k : ℕ) → k ≡ 0 + k
    plain k = omega arith

pub object_kept : (x : Access) → kept_indices (arg.Object x) ≡ indices_in (out-Access x).steps
unfolding read_indices Rattle.sa_typed.specs.declared.expr.Expr.TheBlock.hidden-the_row-Step-0 denote.Hole.Carrier.hidden
object_kept x = let row = steps_of (v.Read x I32) in steps_row row.0 row.1 ∙ ap indices_in (items_hidden-the_row-Step-0 (out-Access x).steps)

-- ---- sums
sum-more : (old new one c rest whole : ℕ) → new ≡ capped (old + c) → c ≡ capped one → capped (old + (one + rest)) ≡ capped whole → capped (new + rest) ≡ capped whole
sum-more old new one c rest whole e f left = omega (arith, e, f, left)

pub steps-more : (old new c : ℕ) (ss : List Step) (i : ℕ) (s : Step) → i < length ss → s ≡ get_or ss i s → new ≡ capped (old + c) → c ≡ one_index s → capped (old + indices_in (drop i ss)) ≡ capped (indices_in ss) →
    capped (new + indices_in (drop (i + 1) ss)) ≡ capped (indices_in ss)
unfolding indices_in
steps-more old new c ss i s h is e f left =
    let rest = indices_in (drop (i + 1) ss) in
    let whole : capped (old + (one_index s + rest)) ≡ capped (indices_in ss) = sym (ap (λ (xs : List Step). capped (old + indices_in xs)) (next ss i s h is)) ∙ left in
    sums old new (one_index s) c rest (indices_in ss) e f whole
  where
    sums : (old new one c rest whole : ℕ) → new ≡ capped (old + c) → c ≡ one → capped (old + (one + rest)) ≡ capped whole → capped (new + rest) ≡ capped whole
    sums old new one c rest whole e f left = omega (arith, e, f, left)

pub args-more : (old new c : ℕ) (us : List Arg) (i : ℕ) (a : Arg) → i < length us → a ≡ get_or us i a → new ≡ capped (old + c) → c ≡ capped (kept_indices a) → capped (old + all_kept (drop i us)) ≡ capped (all_kept us) →
    capped (new + all_kept (drop (i + 1) us)) ≡ capped (all_kept us)
unfolding all_kept
args-more old new c us i a h is e f left =
    sum-more old new (kept_indices a) c (all_kept (drop (i + 1) us)) (all_kept us) e f (sym (ap (λ (xs : List Arg). capped (old + all_kept xs)) (next us i a h is)) ∙ left)

pub steps-end : (sum : ℕ) (ss : List Step) (i : ℕ) → sum ≡ capped sum → length ss ≤ i → capped (sum + indices_in (drop i ss)) ≡ capped (indices_in ss) → sum ≡ capped (indices_in ss)
unfolding indices_in
steps-end sum ss i fits h left =
    let e : capped (sum + 0) ≡ capped (indices_in ss) = sym (ap (λ (xs : List Step). capped (sum + indices_in xs)) (drop_all i ss h)) ∙ left in
    omega (arith, e, fits)

pub args-end : (sum : ℕ) (xs : List Arg) (i : ℕ) → sum ≡ capped sum → length xs ≤ i → capped (sum + all_kept (drop i xs)) ≡ capped (all_kept xs) → sum ≡ capped (all_kept xs)
unfolding all_kept
args-end sum xs i fits h left =
    let e : capped (sum + 0) ≡ capped (all_kept xs) = sym (ap (λ (ys : List Arg). capped (sum + all_kept ys)) (drop_all i xs h)) ∙ left in
    omega (arith, e, fits)

pub frame-sum : (p : Program) (locals : List ℕ) (f : ℕ) (args : List Arg) (l k m r : ℕ) → AreLocals p locals → l ≡ get_or locals f 0 → k ≡ capped (all_kept args) → r ≡ capped (k + one_for (result_of (slice_get p.funcs f))) → m ≡ capped (l + r) →
    m ≡ capped (frame_cells p f args)
unfolding frame_cells
frame-sum p locals f args l k m r are is kept rest e =
    sums (home_cells p (home.Local f)) (all_kept args) (one_for (result_of (slice_get p.funcs f))) l k r m (is ∙ are f) kept rest e
  where
    sums : (h a o l k r m : ℕ) → l ≡ capped h → k ≡ capped a → r ≡ capped (k + o) → m ≡ capped (l + r) → m ≡ capped (h + (a + o))
    sums h a o l k r m b c d e = omega (arith, b, c, d, e)
