-- Cells that are changed one after another, one step on and at the end; and that this is what the reference analysis does.
use Rattle.std.proofs.Common.{◌≡◌, ℕ, zero, suc, ◌+◌, ◌<◌, ◌≤◌, Bool, true, false, List, [], ◌∷◌, ◌++◌, length, drop, get_or, refl, sym, ap, ◌∙◌, arith, append_assoc, append-nil}
use Rattle.std.proofs.lemmas.Bool.Decides.{nat_tests}
use Rattle.std.proofs.lemmas.List.{drop_more, drop_all}
use Rattle.std.specs.Prelude.{if◌then◌else◌, min, nat_le}
use Rattle.sa_interval.specs.Span.{Span}
use Rattle.sa_interval.specs.Rows.{join_of}
use Rattle.sa_typed.specs.Cells.{Cell}
use Rattle.sa_cells.specs.Grounds.{stars}
use Rattle.sa_reference.specs.Assignments.{starred_at, weakly, assigned, copied}
use Rattle.sa_reference.specs.Environments.{put}
use Rattle.sa_reference.specs.Values.{cell_span}
use Rattle.sa_transfer.specs.Lists.{starred_in, stored, assigned_by, spans_at, copied_by}

-- ---- joins
pub weakly_more : (ks : List ℕ) (i : ℕ) (s : Span) (spans : List Span) (d : ℕ) → i < length ks →
    weakly (drop i ks) s spans ≡ weakly (drop (i + 1) ks) s (put (get_or ks i d) (join_of (cell_span spans (get_or ks i d)) s) spans)
unfolding weakly
weakly_more ks i s spans d h = ap (λ (xs : List ℕ). weakly xs s spans) (drop_more ks i d h)

pub weakly_end : (ks : List ℕ) (i : ℕ) (s : Span) (spans : List Span) → length ks ≤ i → weakly (drop i ks) s spans ≡ spans
unfolding weakly
weakly_end ks i s spans h = ap (λ (xs : List ℕ). weakly xs s spans) (drop_all i ks h)

-- ---- spans of cells
pub spans_more : (spans : List Span) (ks : List ℕ) (i d : ℕ) (all new whole : List Span) → i < length ks → new ≡ all ++ cell_span spans (get_or ks i d) ∷ [] → all ++ spans_at spans (drop i ks) ≡ whole →
    new ++ spans_at spans (drop (i + 1) ks) ≡ whole
unfolding spans_at
spans_more spans ks i d all new whole h e w =
    let rest = spans_at spans (drop (i + 1) ks) in
    ap (λ (xs : List Span). xs ++ rest) e ∙ append_assoc all (cell_span spans (get_or ks i d) ∷ []) rest ∙ ap (λ (xs : List ℕ). all ++ spans_at spans xs) (sym (drop_more ks i d h)) ∙ w

pub spans_end : (spans : List Span) (ks : List ℕ) (i : ℕ) (all whole : List Span) → length ks ≤ i → all ++ spans_at spans (drop i ks) ≡ whole → all ≡ whole
unfolding spans_at
spans_end spans ks i all whole h w = sym (ap (λ (xs : List ℕ). all ++ spans_at spans xs) (drop_all i ks h) ∙ append-nil all) ∙ w

-- ---- copies
pub copied_more : (starred : List Bool) (ks : List ℕ) (ss : List Span) (i d : ℕ) (e : Span) (spans : List Span) → i < length ks → i < length ss →
    copied_by starred (drop i ks) (drop i ss) spans
    ≡ copied_by starred (drop (i + 1) ks) (drop (i + 1) ss) (put (get_or ks i d) (stored starred (get_or ks i d) (get_or ss i e) spans) spans)
unfolding copied_by
copied_more starred ks ss i d e spans h l =
    ap (λ (xs : List ℕ). copied_by starred xs (drop i ss) spans) (drop_more ks i d h)
    ∙ ap (λ (ys : List Span). copied_by starred (get_or ks i d ∷ drop (i + 1) ks) ys spans) (drop_more ss i e l)

copied_no_span : (starred : List Bool) (ks : List ℕ) (spans : List Span) → copied_by starred ks [] spans ≡ spans
unfolding copied_by
copied_no_span starred [] spans = refl
copied_no_span starred (k ∷ ks) spans = refl

copied_no_cell : (starred : List Bool) (ss : List Span) (spans : List Span) → copied_by starred [] ss spans ≡ spans
unfolding copied_by
copied_no_cell starred ss spans = refl

copied_cells_end : (starred : List Bool) (ks : List ℕ) (ss : List Span) (i : ℕ) (spans : List Span) → length ks ≤ i → copied_by starred (drop i ks) (drop i ss) spans ≡ spans
copied_cells_end starred ks ss i spans h = ap (λ (xs : List ℕ). copied_by starred xs (drop i ss) spans) (drop_all i ks h) ∙ copied_no_cell starred (drop i ss) spans

copied_spans_end : (starred : List Bool) (ks : List ℕ) (ss : List Span) (i : ℕ) (spans : List Span) → length ss ≤ i → copied_by starred (drop i ks) (drop i ss) spans ≡ spans
copied_spans_end starred ks ss i spans h = ap (λ (ys : List Span). copied_by starred (drop i ks) ys spans) (drop_all i ss h) ∙ copied_no_span starred (drop i ks) spans

le_is : (m i : ℕ) → nat_le m i ≡ true → m ≤ i
le_is m i e = grind (arith, nat_tests)

other_le : (m n i : ℕ) → min m n ≤ i → nat_le m i ≡ false → n ≤ i
other_le m n i h e = let more : i < m = grind (arith, nat_tests) in omega arith

pub copied_end : (starred : List Bool) (ks : List ℕ) (ss : List Span) (i : ℕ) (spans : List Span) → min (length ks) (length ss) ≤ i → copied_by starred (drop i ks) (drop i ss) spans ≡ spans
copied_end starred ks ss i spans h =
    elim (nat_le (length ks) i) as (λ b. nat_le (length ks) i ≡ b → copied_by starred (drop i ks) (drop i ss) spans ≡ spans) [
      | true ↦ λ e. copied_cells_end starred ks ss i spans (le_is (length ks) i e)
      | false ↦ λ e. copied_spans_end starred ks ss i spans (other_le (length ks) (length ss) i h e)
    ] refl

-- ---- as the reference analysis says it
starred_is : (cs : List Cell) (k : ℕ) → starred_in (stars cs) k ≡ starred_at cs k
unfolding stars
starred_is [] k = refl
starred_is (c ∷ cs) zero = refl
starred_is (c ∷ cs) (suc k) = starred_is cs k

choose : (b : Bool) (k : ℕ) (x y : Span) (spans : List Span) → put k (if b then x else y) spans ≡ (if b then put k x spans else put k y spans)
choose true k x y spans = refl
choose false k x y spans = refl

pub assigned_is : (cs : List Cell) (ks : List ℕ) (s : Span) (spans : List Span) → assigned_by (stars cs) ks s spans ≡ assigned cs ks s spans
unfolding assigned_by assigned stored weakly
assigned_is cs [] s spans = refl
assigned_is cs (k ∷ []) s spans =
    ap (λ (b : Bool). put k (if b then join_of (cell_span spans k) s else s) spans) (starred_is cs k) ∙ choose (starred_at cs k) k (join_of (cell_span spans k) s) s spans
assigned_is cs (k ∷ j ∷ ks) s spans = refl

pub copied_is : (cs : List Cell) (ks ds : List ℕ) (old spans : List Span) → copied_by (stars cs) ks (spans_at old ds) spans ≡ copied cs ks ds old spans
unfolding copied_by copied stored spans_at
copied_is cs [] ds old spans = refl
copied_is cs (k ∷ ks) [] old spans = refl
copied_is cs (k ∷ ks) (d ∷ ds) old spans =
    ap (λ (b : Bool). copied_by (stars cs) ks (spans_at old ds) (put k (if b then join_of (cell_span spans k) (cell_span old d) else cell_span old d) spans)) (starred_is cs k)
    ∙ copied_is cs ks ds old (put k (if starred_at cs k then join_of (cell_span spans k) (cell_span old d) else cell_span old d) spans)

pub ruleset of_joins = (weakly_more, weakly_end)

pub ruleset of_spans = (spans_more, spans_end)
