-- The steps of a reference's argument, as code goes over them.
use Rattle.std.proofs.Common.{◌≡◌, ℕ, ◌+◌, ◌<◌, ◌≤◌, List, [], ◌∷◌, ◌++◌, length, drop, get_or, refl, sym, ap, subst, ◌∙◌, arith, append-nil, append_assoc}
use Rattle.std.proofs.lemmas.List.{drop_more, drop_all}
use Rattle.sa_base.specs.declared.num.Num.TheVariants.{I32}
use Rattle.sa_base.specs.declared.pos.Pos.{Pos}
use Rattle.sa_typed.specs.Layouts.{Layout, layout_of}
use Rattle.sa_typed.specs.declared.expr.Access.{Access, out-Access}
use Rattle.sa_typed.specs.declared.expr.Expr.{Expr, Read', Row_of-Step, end_of-Step, more_of-Step, items-the_row-Step, items_hidden-the_row-Step-0}
use Rattle.sa_typed.specs.declared.expr.Expr.TheVariants as v
use Rattle.sa_typed.specs.declared.expr.Step.{Step, At', Field}
use Rattle.sa_typed.specs.declared.expr.Step.TheVariants as step
use Rattle.sa_typed.specs.declared.program.Program.{Program}
use Rattle.sa_ir.specs.declared.frame.Kept.{Kept}
use Rattle.sa_ir.specs.declared.frame.Target.{Target}
use Rattle.sa_ir.specs.declared.places.Cursor.{Cursor}
use Rattle.sa_ir.specs.declared.places.Stepped.{Stepped}
use Rattle.sa_ir.specs.Cursors.{IsCursor, IsStepped}
use Rattle.sa_ir.specs.Frames.{Frame}
use Rattle.sa_ir.specs.Indices.{step_layout}
use Rattle.sa_ir.specs.Names.{inner, at_field}
use Rattle.sa_ir.specs.Places.{stride_of, cells_to, fields_cells, kept_rows, read_target, target}
use Rattle.sa_ir.specs.Sizes.{capped}
use Rattle.sa_lower.specs.Arguments.{step_far, step_kept, step_count, list_far, list_kept}

plus-zero : (n : ℕ) → n + 0 ≡ n
plus-zero n = omega arith

zero-plus : (n : ℕ) → 0 + n ≡ n
zero-plus n = omega arith

-- ---- rows as lists
abbrev steps_of : Expr → (n : _) × Row_of-Step n
steps_of (Read' x n ss num) = (_, ss)
steps_of _ = (_, end_of-Step)

far-row : (l : Layout) (n : _) (r : Row_of-Step n) → fields_cells l r ≡ list_far l (items-the_row-Step n r)
unfolding fields_cells list_far step_far step_layout
far-row l n end_of-Step = refl
far-row l n (more_of-Step (At' q m k a) rest) = far-row (inner l) _ rest ∙ sym (zero-plus (list_far (inner l) (items-the_row-Step _ rest)))
far-row l n (more_of-Step (Field f) rest) = ap (λ (c : ℕ). cells_to l f + c) (far-row (at_field l f) _ rest)

kept-row : (l : Layout) (h n : _) (r : Row_of-Step n) → kept_rows l h r ≡ list_kept l h (items-the_row-Step n r)
unfolding kept_rows list_kept step_kept step_count step_layout
kept-row l h n end_of-Step = refl
kept-row l h n (more_of-Step (At' q m k a) rest) = ap (λ (rs : List Kept). record { cell = h; size = m; stride = stride_of l } ∷ rs) (kept-row (inner l) (h + 1) _ rest)
kept-row l h n (more_of-Step (Field f) rest) = kept-row (at_field l f) h _ rest ∙ sym (ap (λ (k : ℕ). list_kept (at_field l f) k (items-the_row-Step _ rest)) (plus-zero h))

target-list : (p : Program) (fr : Frame) (h : ℕ) (x : Access) → target p fr h x ≡ record {
  first = (fr.base (out-Access x).var).first + list_far (layout_of p (out-Access x).var) (out-Access x).steps;
  rows = (fr.base (out-Access x).var).rows ++ list_kept (layout_of p (out-Access x).var) h (out-Access x).steps;
}
unfolding read_target Rattle.sa_typed.specs.declared.expr.Expr.TheBlock.hidden-the_row-Step-0 denote.Hole.Carrier.hidden
target-list p fr h x =
    let row = steps_of (v.Read x I32) in
    let u = (out-Access x).var in
    let l = layout_of p u in
    ap (λ (c : ℕ). record { first = (fr.base u).first + c; rows = (fr.base u).rows ++ kept_rows l h row.1 }) (far-row l row.0 row.1 ∙ ap (list_far l) (items_hidden-the_row-Step-0 (out-Access x).steps))
    ∙ ap (λ (rs : List Kept). record { first = (fr.base u).first + list_far l (out-Access x).steps; rows = (fr.base u).rows ++ rs }) (kept-row l h row.0 row.1 ∙ ap (list_kept l h) (items_hidden-the_row-Step-0 (out-Access x).steps))

-- ---- one step
at-far : (l : Layout) (q : Pos) (n : ℕ) (a : Expr) → step_far l (step.At q n a) ≡ 0
unfolding step_far
at-far l q n a = refl

at-kept : (l : Layout) (h : ℕ) (q : Pos) (n : ℕ) (a : Expr) → step_kept l h (step.At q n a) ≡ record { cell = h; size = n; stride = stride_of l } ∷ []
unfolding step_kept
at-kept l h q n a = refl

at-count : (q : Pos) (n : ℕ) (a : Expr) → step_count (step.At q n a) ≡ 1
unfolding step_count
at-count q n a = refl

at-layout : (l : Layout) (q : Pos) (n : ℕ) (a : Expr) → step_layout l (step.At q n a) ≡ inner l
unfolding step_layout
at-layout l q n a = refl

module _ (l : Layout) (t : Step) (q : Pos) (n : ℕ) (a : Expr) (is : t ≡ step.At q n a) where
  pub index-far : 0 ≡ capped (step_far l t)
  index-far = sym (ap (λ (u : Step). capped (step_far l u)) is ∙ ap capped (at-far l q n a))

  pub index-cursor : (p : Program) (d : Cursor) → IsCursor p (inner l) d → IsCursor p (step_layout l t) d
  index-cursor p d h = subst (λ (m : Layout). IsCursor p m d) (sym (at-layout l q n a) ∙ ap (step_layout l) (sym is)) h

  pub index-kept : (h cell s w : ℕ) (old new : List Kept) → cell ≡ h → s ≡ capped (stride_of l) → w ≡ s → s ≤ 4294967295 →
      new ≡ old ++ record { cell = cell; size = n; stride = w } ∷ [] → new ≡ old ++ step_kept l h t
  index-kept h cell s w old new c e g few f =
      let exact : w ≡ stride_of l = omega (arith, e, g, few) in
      f ∙ ap (λ (i : ℕ). old ++ record { cell = i; size = n; stride = w } ∷ []) c ∙ ap (λ (i : ℕ). old ++ record { cell = h; size = n; stride = i } ∷ []) exact
      ∙ ap (λ (rs : List Kept). old ++ rs) (sym (at-kept l h q n a) ∙ ap (step_kept l h) (sym is))

  pub index-count : (h cell : ℕ) → cell ≡ h → cell + 1 ≡ h + step_count t
  index-count h cell c = ap (λ (i : ℕ). i + 1) c ∙ ap (λ (i : ℕ). h + i) (sym (at-count q n a) ∙ ap step_count (sym is))

module _ (l : Layout) (t : Step) (f : ℕ) (is : t ≡ step.Field f) where
  pub field-far : (p : Program) (s : Stepped) → IsStepped p l f s → s.cells ≡ capped (step_far l t)
  unfolding step_far
  field-far p s h = h.cells ∙ sym (ap (λ (u : Step). capped (step_far l u)) is)

  pub field-cursor : (p : Program) (s : Stepped) → IsStepped p l f s → IsCursor p (step_layout l t) s.cursor
  unfolding step_layout
  field-cursor p s h = subst (λ (u : Step). IsCursor p (step_layout l u) s.cursor) (sym is) h.cursor

  pub field-kept : (h : ℕ) (old : List Kept) → old ≡ old ++ step_kept l h t
  unfolding step_kept
  field-kept h old = sym (ap (λ (u : Step). old ++ step_kept l h u) is ∙ append-nil old)

  pub field-count : (h : ℕ) → h ≡ h + step_count t
  unfolding step_count
  field-count h = sym (ap (λ (u : Step). h + step_count u) is ∙ plus-zero h)

-- ---- all steps
pub far-more : (l m : Layout) (ss : List Step) (i : ℕ) (s : Step) → s ≡ get_or ss i s → i < length ss → m ≡ step_layout l s → (a n b w : ℕ) → n ≡ capped (step_far l s) → b ≡ capped (a + n) →
    capped (a + list_far l (drop i ss)) ≡ w → capped (b + list_far m (drop (i + 1) ss)) ≡ w
unfolding list_far
far-more l m ss i s at h to a n b w e f left =
    let here : list_far l (drop i ss) ≡ step_far l s + list_far (step_layout l s) (drop (i + 1) ss)
    = ap (list_far l) (drop_more ss i s h) ∙ ap (λ (t : Step). step_far l t + list_far (step_layout l t) (drop (i + 1) ss)) (sym at) in
    let there : list_far m (drop (i + 1) ss) ≡ list_far (step_layout l s) (drop (i + 1) ss) = ap (λ (k : Layout). list_far k (drop (i + 1) ss)) to in
    omega (arith, here, there, e, f, left)

pub kept-more : (l m : Layout) (ss : List Step) (i : ℕ) (s : Step) → s ≡ get_or ss i s → i < length ss → m ≡ step_layout l s → (h g : ℕ) (out new whole : List Kept) → g ≡ h + step_count s →
    new ≡ out ++ step_kept l h s → out ++ list_kept l h (drop i ss) ≡ whole → new ++ list_kept m g (drop (i + 1) ss) ≡ whole
unfolding list_kept
kept-more l m ss i s at here to h g out new whole c e left =
    let rest = list_kept (step_layout l s) (h + step_count s) (drop (i + 1) ss) in
    let one : list_kept l h (drop i ss) ≡ step_kept l h s ++ rest
    = ap (list_kept l h) (drop_more ss i s here) ∙ ap (λ (t : Step). step_kept l h t ++ list_kept (step_layout l t) (h + step_count t) (drop (i + 1) ss)) (sym at) in
    ap (λ (k : Layout). new ++ list_kept k g (drop (i + 1) ss)) to ∙ ap (λ (k : ℕ). new ++ list_kept (step_layout l s) k (drop (i + 1) ss)) c
    ∙ ap (λ (rs : List Kept). rs ++ rest) e ∙ append_assoc out (step_kept l h s) rest ∙ ap (λ (rs : List Kept). out ++ rs) (sym one) ∙ left

target-end : (p : Program) (fr : Frame) (h : ℕ) (x : Access) (i g : ℕ) (m k : Layout) (b : Target) (cells r : ℕ) (out : List Kept) → length (out-Access x).steps ≤ i → k ≡ layout_of p (out-Access x).var →
    b ≡ fr.base (out-Access x).var → capped (cells + list_far m (drop i (out-Access x).steps)) ≡ capped (b.first + list_far k (out-Access x).steps) →
    out ++ list_kept m g (drop i (out-Access x).steps) ≡ b.rows ++ list_kept k h (out-Access x).steps → r ≡ cells → cells ≤ 4294967295 →
    (let y : Target = record { first = r; rows = out } in y) ≡ target p fr h x
unfolding list_far list_kept
target-end p fr h x i g m k b cells r out over whole base cs rs is few =
    let none : list_far m (drop i (out-Access x).steps) ≡ 0 = ap (list_far m) (drop_all i (out-Access x).steps over) in
    let empty : list_kept m g (drop i (out-Access x).steps) ≡ [] = ap (list_kept m g) (drop_all i (out-Access x).steps over) in
    let first : r ≡ b.first + list_far k (out-Access x).steps = omega (arith, none, cs, is, few) in
    let all : out ≡ b.rows ++ list_kept k h (out-Access x).steps = sym (append-nil out) ∙ ap (λ (l : List Kept). out ++ l) (sym empty) ∙ rs in
    ap (λ (n : ℕ). record { first = n; rows = out }) first ∙ ap (λ (l : List Kept). record { first = b.first + list_far k (out-Access x).steps; rows = l }) all
    ∙ ap (λ (t : Target). record { first = t.first + list_far k (out-Access x).steps; rows = t.rows ++ list_kept k h (out-Access x).steps }) base
    ∙ ap (λ (t : Layout). record { first = (fr.base (out-Access x).var).first + list_far t (out-Access x).steps; rows = (fr.base (out-Access x).var).rows ++ list_kept t h (out-Access x).steps }) whole
    ∙ sym (target-list p fr h x)

pub target-ends : (p : Program) (fr : Frame) (h : ℕ) (x : Access) (ss : List Step) → ss ≡ (out-Access x).steps → (i g : ℕ) (m k : Layout) (b : Target) (cells r : ℕ) (out : List Kept) → length ss ≤ i →
    k ≡ layout_of p (out-Access x).var → b ≡ fr.base (out-Access x).var → capped (cells + list_far m (drop i ss)) ≡ capped (b.first + list_far k ss) →
    out ++ list_kept m g (drop i ss) ≡ b.rows ++ list_kept k h ss → r ≡ cells → cells ≤ 4294967295 → (let y : Target = record { first = r; rows = out } in y) ≡ target p fr h x
target-ends p fr h x ss e i g m k b cells r out over whole base cs rs is few =
    target-end p fr h x i g m k b cells r out (subst (λ (l : List Step). length l ≤ i) e over) whole base
    (subst (λ (l : List Step). capped (cells + list_far m (drop i l)) ≡ capped (b.first + list_far k l)) e cs)
    (subst (λ (l : List Step). out ++ list_kept m g (drop i l) ≡ b.rows ++ list_kept k h l) e rs) is few
