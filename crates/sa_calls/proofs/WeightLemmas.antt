-- The equation of each form of a statement, as code sees it, and sums of weights in numbers of a machine word.
use Rattle.std.proofs.Common.{◌≡◌, ℕ, ◌+◌, ◌<◌, ◌≤◌, Bool, List, [], ◌∷◌, ◌++◌, length, drop, get_or, refl, sym, ap, ◌∙◌, arith, Option, Some, None}
use Rattle.std.proofs.lemmas.List.{drop_more, drop_all}
use Rattle.std.specs.Prelude.{max}
use Rattle.sa_base.specs.declared.num.Num.{Num}
use Rattle.sa_base.specs.declared.pos.Pos.{Pos}
use Rattle.sa_typed.specs.Frames.{statements_in, all_statements_in, group_statements_in}
use Rattle.sa_typed.specs.TypedPrograms.{Site, calls_in, calls_in_all, calls_in_groups}
use Rattle.sa_typed.specs.declared.expr.Expr.{Expr}
use Rattle.sa_typed.specs.declared.stmt.Arg.{Arg}
use Rattle.sa_typed.specs.declared.stmt.Destination.{Destination}
use Rattle.sa_typed.specs.declared.stmt.LoopKind.{LoopKind}
use Rattle.sa_typed.specs.declared.stmt.Group.{Group}
use Rattle.sa_typed.specs.declared.stmt.Simple.{Simple}
use Rattle.sa_typed.specs.declared.stmt.Stmt.{Stmt, Row_of-Stmt, end_of-Stmt, more_of-Stmt, items-the_row-Stmt, items_hidden-the_row-Stmt-0, Row_of-Group, end_of-Group, more_of-Group, items-the_row-Group, items_hidden-the_row-Group-2}
use Rattle.sa_typed.specs.declared.stmt.Stmt.TheVariants as stmt
use Rattle.sa_calls.specs.declared.weights.Weight.{Weight}
use Rattle.sa_calls.specs.Depths.{deepest}
use Rattle.sa_calls.specs.Weights.{capped, weight, nothing, one, both, one_more, called, with_step, weight_at, calls_by, statements_by, weight_in, weight_after, groups_after}

-- ---- numbers
pub same_weight : (c d k l : ℕ) → capped c ≡ capped d → capped k ≡ capped l → weight c k ≡ weight d l
same_weight c d k l e f = ap (λ (n : ℕ). record { calls = n; statements = capped k }) e ∙ ap (λ (n : ℕ). record { calls = capped d; statements = n }) f

most-capped : (c d : ℕ) → capped (max (capped c) (capped d)) ≡ capped (max c d)
most-capped c d = omega arith

sum-capped : (k l : ℕ) → capped (capped k + capped l) ≡ capped (k + l)
sum-capped k l = omega arith

more-capped : (k : ℕ) → capped (capped k + 1) ≡ capped (1 + k)
more-capped k = omega arith

twice-capped : (k : ℕ) → capped (capped k) ≡ capped k
twice-capped k = omega arith

pub both-weights : (c d k l : ℕ) → both (weight c k) (weight d l) ≡ weight (max c d) (k + l)
unfolding both
both-weights c d k l = same_weight (max (capped c) (capped d)) (max c d) (capped k + capped l) (k + l) (most-capped c d) (sum-capped k l)

pub more-weight : (c k : ℕ) → one_more (weight c k) ≡ weight c (1 + k)
unfolding one_more
more-weight c k = same_weight (capped c) c (capped k + 1) (1 + k) (twice-capped c) (more-capped k)

-- ---- calls one after the other
most-of-none : (n : ℕ) → n ≡ max 0 n
most-of-none n = omega arith

most-right : (a b c : ℕ) → max a (max b c) ≡ max (max a b) c
most-right a b c = omega arith

most-left : (a b c : ℕ) → capped (max (max a b) c) ≡ capped (max a (max b c))
most-left a b c = omega arith

pub deepest-append : (bodies : ℕ → ℕ) (xs ys : List Site) → deepest bodies (xs ++ ys) ≡ max (deepest bodies xs) (deepest bodies ys)
unfolding deepest
deepest-append bodies [] ys = most-of-none (deepest bodies ys)
deepest-append bodies (s ∷ xs) ys = ap (λ (n : ℕ). max (1 + bodies s.func) n) (deepest-append bodies xs ys) ∙ most-right (1 + bodies s.func) (deepest bodies xs) (deepest bodies ys)

-- ---- lists
pub next : {A : Type 0} (xs : List A) (i : ℕ) (x : A) → i < length xs → x ≡ get_or xs i x → drop i xs ≡ x ∷ drop (i + 1) xs
next xs i x h e = drop_more xs i x h ∙ ap (λ (y : _). y ∷ drop (i + 1) xs) (sym e)

abbrev pub stmts_of : Stmt → (n : _) × Row_of-Stmt n
stmts_of (Stmt.Block' n ss) = (_, ss)
stmts_of _ = (_, end_of-Stmt)

abbrev pub groups_of : Stmt → (n : _) × Row_of-Group n
groups_of (Stmt.Switch' e num n groups marked) = (_, groups)
groups_of _ = (_, end_of-Group)

module _ (rows : List Weight) where
  pub stmts-more : (whole a new : Weight) (ss : List Stmt) (i : ℕ) (s : Stmt) → i < length ss → s ≡ get_or ss i s → new ≡ both a (weight_in rows s) →
      weight_after rows (drop i ss) a ≡ whole → weight_after rows (drop (i + 1) ss) new ≡ whole
  unfolding weight_after
  stmts-more whole a new ss i s h is e left = ap (weight_after rows (drop (i + 1) ss)) e ∙ sym (ap (λ (xs : List Stmt). weight_after rows xs a) (next ss i s h is)) ∙ left

  pub stmts-end : (whole a : Weight) (ss : List Stmt) (i : ℕ) → length ss ≤ i → weight_after rows (drop i ss) a ≡ whole → a ≡ whole
  unfolding weight_after
  stmts-end whole a ss i h left = sym (ap (λ (xs : List Stmt). weight_after rows xs a) (drop_all i ss h)) ∙ left

  pub groups-more : (whole a new : Weight) (gs : List Group) (i : ℕ) (g : Group) → i < length gs → g ≡ get_or gs i g → new ≡ both a (weight_in rows g.body) →
      groups_after rows (drop i gs) a ≡ whole → groups_after rows (drop (i + 1) gs) new ≡ whole
  unfolding groups_after
  groups-more whole a new gs i g h is e left = ap (groups_after rows (drop (i + 1) gs)) e ∙ sym (ap (λ (xs : List Group). groups_after rows xs a) (next gs i g h is)) ∙ left

  pub groups-end : (whole a : Weight) (gs : List Group) (i : ℕ) → length gs ≤ i → groups_after rows (drop i gs) a ≡ whole → a ≡ whole
  unfolding groups_after
  groups-end whole a gs i h left = sym (ap (λ (xs : List Group). groups_after rows xs a) (drop_all i gs h)) ∙ left

  pub row_weight : (c k : ℕ) (n : _) (r : Row_of-Stmt n) →
      weight_after rows (items-the_row-Stmt n r) (weight c k) ≡ weight (max c (deepest (calls_by rows) (calls_in_all r))) (k + all_statements_in (statements_by rows) r)
  unfolding weight_after weight_in calls_in statements_in deepest
  row_weight c k n end_of-Stmt = same_weight c (max c 0) k (k + 0) (omega arith) (omega arith)
  row_weight c k n (more_of-Stmt s rest) =
      let d = deepest (calls_by rows) (calls_in s) in
      let m = statements_in (statements_by rows) s in
      let ds = deepest (calls_by rows) (calls_in_all rest) in
      let ms = all_statements_in (statements_by rows) rest in
      ap (weight_after rows (items-the_row-Stmt _ rest)) (both-weights c d k m) ∙ row_weight (max c d) (k + m) _ rest
      ∙ same_weight (max (max c d) ds) (max c (deepest (calls_by rows) (calls_in s ++ calls_in_all rest))) ((k + m) + ms) (k + (m + ms))
      (most-left c d ds ∙ ap (λ (x : ℕ). capped (max c x)) (sym (deepest-append (calls_by rows) (calls_in s) (calls_in_all rest)))) (omega arith)

  pub row_groups : (c k : ℕ) (n : _) (r : Row_of-Group n) →
      groups_after rows (items-the_row-Group n r) (weight c k) ≡ weight (max c (deepest (calls_by rows) (calls_in_groups r))) (k + group_statements_in (statements_by rows) r)
  unfolding groups_after weight_in calls_in statements_in deepest Rattle.sa_typed.specs.declared.stmt.Stmt.TheBlock.shown-the_row-Stmt-1 denote.Hole.Carrier.shown
  row_groups c k n end_of-Group = same_weight c (max c 0) k (k + 0) (omega arith) (omega arith)
  row_groups c k n (more_of-Group labels l (more_of-Stmt s end_of-Stmt) rest) =
      let d = deepest (calls_by rows) (calls_in s) in
      let m = statements_in (statements_by rows) s in
      let ds = deepest (calls_by rows) (calls_in_groups rest) in
      let ms = group_statements_in (statements_by rows) rest in
      ap (groups_after rows (items-the_row-Group _ rest)) (both-weights c d k m) ∙ row_groups (max c d) (k + m) _ rest
      ∙ same_weight (max (max c d) ds) (max c (deepest (calls_by rows) (calls_in s ++ calls_in_groups rest))) ((k + m) + ms) (k + (m + ms))
      (most-left c d ds ∙ ap (λ (x : ℕ). capped (max c x)) (sym (deepest-append (calls_by rows) (calls_in s) (calls_in_groups rest)))) (omega arith)

  -- ---- forms
  pub simple_weight : (s : Simple) → weight_in rows (stmt.Simple s) ≡ one
  unfolding weight_in calls_in statements_in deepest
  simple_weight s = refl

  pub scope_weight : (v : ℕ) → weight_in rows (stmt.Scope v) ≡ nothing
  unfolding weight_in calls_in statements_in deepest
  scope_weight v = refl

  pub known_weight : (e : Expr) → weight_in rows (stmt.Known e) ≡ one
  unfolding weight_in calls_in statements_in deepest
  known_weight e = refl

  pub assert_weight : (q : Pos) (e : Expr) → weight_in rows (stmt.Assert q e) ≡ one
  unfolding weight_in calls_in statements_in deepest
  assert_weight q e = refl

  pub wait_weight : weight_in rows stmt.Wait ≡ one
  unfolding weight_in calls_in statements_in deepest
  wait_weight = refl

  pub break_weight : weight_in rows stmt.Break ≡ one
  unfolding weight_in calls_in statements_in deepest
  break_weight = refl

  pub return_weight : (q : Pos) (num : Num) (e : Expr) → weight_in rows (stmt.Return q num e) ≡ one
  unfolding weight_in calls_in statements_in deepest
  return_weight q num e = refl

  pub block_weight : (ss : List Stmt) → weight_in rows (stmt.Block ss) ≡ weight_after rows ss nothing
  unfolding weight_in calls_in statements_in
  block_weight ss =
      let row = stmts_of (stmt.Block ss) in
      same_weight (deepest (calls_by rows) (calls_in_all row.1)) (max 0 (deepest (calls_by rows) (calls_in_all row.1))) (all_statements_in (statements_by rows) row.1) (0 + all_statements_in (statements_by rows) row.1) (omega arith) (omega arith)
      ∙ sym (row_weight 0 0 row.0 row.1) ∙ ap (λ (xs : List Stmt). weight_after rows xs nothing) (items_hidden-the_row-Stmt-0 ss)

  pub call_weight : (q : Pos) (f : ℕ) (args : List Arg) (dest : Option Destination) → weight_in rows (stmt.Call q f args dest) ≡ called (weight_at rows f)
  unfolding weight_in calls_in statements_in deepest called calls_by statements_by
  call_weight q f args dest =
      let w = weight_at rows f in same_weight (max (1 + w.calls) 0) (w.calls + 1) (1 + w.statements) (w.statements + 1) (omega arith) (omega arith)

  pub if_weight : (e : Expr) (a b : Stmt) (marked : Bool) → weight_in rows (stmt.If e a b marked) ≡ one_more (both (weight_in rows a) (weight_in rows b))
  unfolding weight_in calls_in statements_in Rattle.sa_typed.specs.declared.stmt.Stmt.TheBlock.hidden-the_row-Stmt-1 denote.Hole.Carrier.hidden
  if_weight e a b marked =
      let c = deepest (calls_by rows) (calls_in a) in
      let d = deepest (calls_by rows) (calls_in b) in
      let k = statements_in (statements_by rows) a in
      let l = statements_in (statements_by rows) b in
      ap (λ (n : ℕ). weight n (1 + (k + l))) (deepest-append (calls_by rows) (calls_in a) (calls_in b))
      ∙ sym (ap one_more (both-weights c d k l) ∙ more-weight (max c d) (k + l))

  pub loop_weight : (q : Pos) (form : LoopKind) (cond : Option Expr) (body : Stmt) (step : Option Simple) → weight_in rows (stmt.Loop q form cond body step) ≡ with_step step (one_more (weight_in rows body))
  unfolding weight_in calls_in statements_in with_step Rattle.sa_typed.specs.declared.stmt.Stmt.TheBlock.hidden-the_row-Stmt-1 denote.Hole.Carrier.hidden
  loop_weight q form cond body None =
      let c = deepest (calls_by rows) (calls_in body) in
      let k = statements_in (statements_by rows) body in
      same_weight c c (1 + (k + 0)) (1 + k) refl (omega arith) ∙ sym (more-weight c k)
  loop_weight q form cond body (Some s) =
      let c = deepest (calls_by rows) (calls_in body) in
      let k = statements_in (statements_by rows) body in
      same_weight c c (1 + (k + 1)) (1 + (1 + k)) refl (omega arith) ∙ sym (ap one_more (more-weight c k) ∙ more-weight c (1 + k))

  pub switch_weight : (e : Expr) (num : Num) (gs : List Group) (marked : Bool) → weight_in rows (stmt.Switch e num gs marked) ≡ one_more (groups_after rows gs nothing)
  unfolding weight_in calls_in statements_in
  switch_weight e num gs marked =
      let row = groups_of (stmt.Switch e num gs marked) in
      let c = deepest (calls_by rows) (calls_in_groups row.1) in
      let k = group_statements_in (statements_by rows) row.1 in
      same_weight c (max 0 c) (1 + k) (1 + (0 + k)) (omega arith) (omega arith) ∙ sym (more-weight (max 0 c) (0 + k))
      ∙ ap one_more (sym (row_groups 0 0 row.0 row.1) ∙ ap (λ (xs : List Group). groups_after rows xs nothing) (items_hidden-the_row-Group-2 gs))

pub ruleset of_stmts = (simple_weight, scope_weight, known_weight, assert_weight, wait_weight, break_weight, return_weight, block_weight, call_weight, if_weight, loop_weight, switch_weight)

pub ruleset of_lists = (stmts-more, stmts-end, groups-more, groups-end)
