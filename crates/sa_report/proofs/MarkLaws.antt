-- What each form of an expression, a statement and a step marks, as code sees it.
use Rattle.std.proofs.Common.{◌≡◌, ℕ, zero, suc, ◌+◌, ◌<◌, ◌≤◌, pos, ◌-ℤ◌, Bool, true, false, ◌&&◌, List, [], ◌∷◌, ◌++◌, length, drop, get_or, refl, sym, ap, subst, ◌∙◌, arith, append_assoc, append-nil, length-append, Option, Some, None}
use Rattle.std.proofs.lemmas.Bool.Decides.{nat_tests}
use Rattle.std.proofs.lemmas.Int.{ints, clamps}
use Rattle.std.proofs.lemmas.List.{drop_more, drop_all}
use Rattle.std.proofs.lemmas.List.Elements.{All-nil, All-cons, All-same, All-get_or}
use Rattle.std.specs.List.{All}
use Rattle.std.specs.Prelude.{◌||◌, ◌==◌, if◌then◌else◌, nat_lt, set, slice_get, option_map}
use Rattle.std.specs.Int.{int_min}
use Rattle.std.specs.Int.RustNames.{int_le}
use Rattle.sa_base.specs.declared.num.Num.{Num}
use Rattle.sa_base.specs.declared.num.Num.TheVariants.{I32}
use Rattle.sa_base.specs.declared.pos.Pos.{Pos}
use Rattle.sa_interval.specs.Rows.{single}
use Rattle.sa_typed.specs.Cells.{Cell, cells, one, all, of}
use Rattle.sa_typed.specs.Cells as cell
use Rattle.sa_typed.specs.Constants.{is_constant, fixed_index}
use Rattle.sa_typed.specs.Executions.{same_pos, block_of, main_of}
use Rattle.sa_typed.specs.Layouts.{Layout, leaf}
use Rattle.sa_typed.specs.Links.{HasType, AreTypedAfter}
use Rattle.sa_typed.specs.WellTyped.{IsTypedExpr, IsTypedStep, AreTypedSteps, IsTypedAccess, IsTypedStart, IsTypedSimple, IsTypedStmt, AreTypedStmts}
use Rattle.sa_typed.specs.declared.expr.Access.{Access, out-Access}
use Rattle.sa_typed.specs.declared.expr.Expr.{Expr, Read', Chain', end_of-Expr, more_of-Expr, Row_of-Link, end_of-Link, more_of-Link, items-the_row-Link, items_hidden-the_row-Link-2, Row_of-Step, end_of-Step, more_of-Step, items-the_row-Step, items_hidden-the_row-Step-0}
use Rattle.sa_typed.specs.declared.expr.Expr.TheVariants as v
use Rattle.sa_typed.specs.declared.expr.Link.{Link, out-Link}
use Rattle.sa_typed.specs.declared.expr.Operator.{Operator}
use Rattle.sa_typed.specs.declared.expr.Prefix.{Prefix}
use Rattle.sa_typed.specs.declared.expr.Step.{Step, At', Field}
use Rattle.sa_typed.specs.declared.expr.Step.TheVariants as step
use Rattle.sa_typed.specs.declared.program.Func.{Func}
use Rattle.sa_typed.specs.declared.program.Program.{Program}
use Rattle.sa_typed.specs.declared.stmt.LoopKind.{LoopKind}
use Rattle.sa_typed.specs.declared.stmt.LoopKind.TheVariants as kind
use Rattle.sa_typed.specs.declared.stmt.Simple.{Simple}
use Rattle.sa_typed.specs.declared.stmt.Simple.TheVariants as simple
use Rattle.sa_typed.specs.declared.stmt.Start.{Start}
use Rattle.sa_typed.specs.declared.stmt.Start.TheVariants as begins
use Rattle.sa_typed.specs.declared.stmt.Stmt as statement
use Rattle.sa_typed.specs.declared.stmt.Stmt.{Stmt, Row_of-Stmt, end_of-Stmt, more_of-Stmt, items-the_row-Stmt, items_hidden-the_row-Stmt-0, roll-out-Stmt}
use Rattle.sa_typed.specs.declared.stmt.Stmt.TheVariants as stmt
use Rattle.sa_typed.specs.declared.stmt.Stmt.TheVariants.{rolls-Block}
use Rattle.sa_typed.proofs.LinkLaws.{typed_still, prefix_typed, cast_typed, chain_typed}
use Rattle.sa_iterate.specs.Analysis.{body_in, main_body}
use Rattle.sa_iterate.proofs.TypedForms.{clock_is}
use Rattle.sa_reference.specs.declared.reach.Reach.{Reach}
use Rattle.sa_reference.specs.declared.reach.Reach.TheVariants as reach
use Rattle.sa_reference.specs.Passes.{alive_then}
use Rattle.sa_reference.specs.Values.{indices, reaches_step, reaches, named_from, named}
use Rattle.sa_report.specs.Shown.{may_reach, may_reaches, is_named, in_expr, in_links, in_step, in_steps, in_access, in_simple, in_stmt, in_stmts, in_loop, in_loops}
use Rattle.sa_report.specs.Marks.{marked, mark_at, mark_each, some_indices, index_step, one_step, steps_taken, IsSomeStep, AreSomeSteps, HasTypedSteps, HasTypedOperand, by_named, by_expr, by_links, by_step, by_steps, by_access, by_start, by_simple, by_stmt, by_stmts, by_loop, by_loops}

-- ---- tests
or-assoc : (a b c : Bool) → ((a || b) || c) ≡ (a || (b || c))
or-assoc true b c = refl
or-assoc false b c = refl

and-none : (a : Bool) → (a && false) ≡ false
and-none true = refl
and-none false = refl

or-true : (a : Bool) → (a || true) ≡ true
or-true true = refl
or-true false = refl

or-none : (a : Bool) → (a || false) ≡ a
or-none true = refl
or-none false = refl

pub marked-none : (cs : List Cell) (bs : List Bool) → marked (λ c. false) cs bs ≡ bs
unfolding marked
marked-none [] bs = refl
marked-none (c ∷ cs) [] = refl
marked-none (c ∷ cs) (b ∷ bs) = rw (or-none b, marked-none cs bs) refl

pub marked-or : (f g : Cell → Bool) (cs : List Cell) (bs : List Bool) → marked (λ c. f c || g c) cs bs ≡ marked g cs (marked f cs bs)
unfolding marked
marked-or f g [] bs = refl
marked-or f g (c ∷ cs) [] = refl
marked-or f g (c ∷ cs) (b ∷ bs) = rw (or-assoc b (f c) (g c), marked-or f g cs bs) refl

pub marked-same : (f g : Cell → Bool) (cs : List Cell) (bs : List Bool) → ((c : Cell) → f c ≡ g c) → marked f cs bs ≡ marked g cs bs
unfolding marked
marked-same f g [] bs h = refl
marked-same f g (c ∷ cs) [] h = refl
marked-same f g (c ∷ cs) (b ∷ bs) h = rw (h c, marked-same f g cs bs h) refl

-- ---- the cells that an access names
module _ (v : ℕ) (rs : List Reach) where
  own : Cell → Bool
  own c = c.var == v && reaches rs c.steps

  none-past : (cs : List Cell) (k : ℕ) (bs : List Bool) → length bs ≤ k → mark_each (named_from k cs v rs) bs ≡ bs
  unfolding named_from mark_each mark_at
  none-past [] k bs h = refl
  none-past (c ∷ cs) k bs h =
      let rest = none-past cs (k + 1) bs (omega arith) in
      let past : nat_lt k (length bs) ≡ false = grind (arith, nat_tests) in
      elim (c.var == v && reaches rs c.steps) as (λ t. mark_each (if t then k ∷ named_from (k + 1) cs v rs else named_from (k + 1) cs v rs) bs ≡ bs) [
        | true ↦ ap (mark_each (named_from (k + 1) cs v rs)) (ap (λ (t : Bool). if t then set bs k true else bs) past) ∙ rest
        | false ↦ rest
      ]

  set-here : (front bs : List Bool) (b : Bool) → set (front ++ b ∷ bs) (length front) true ≡ front ++ true ∷ bs
  set-here [] bs b = refl
  set-here (a ∷ front) bs b = ap (λ (xs : List Bool). a ∷ xs) (set-here front bs b)

  mark-here : (front bs : List Bool) (b : Bool) (k : ℕ) → length front ≡ k → mark_at k (front ++ b ∷ bs) ≡ (front ++ true ∷ []) ++ bs
  unfolding mark_at
  mark-here front bs b k h =
      let inside : nat_lt k (length (front ++ b ∷ bs)) ≡ true = rw (length-append front (b ∷ bs)) (grind (arith, nat_tests)) in
      rw (inside, ← h) (set-here front bs b ∙ sym (append_assoc front (true ∷ []) bs))

  mark-named : (cs : List Cell) (k : ℕ) (front back : List Bool) → length front ≡ k → mark_each (named_from k cs v rs) (front ++ back) ≡ front ++ marked own cs back
  unfolding named_from mark_each marked own
  mark-named [] k front back h = refl
  mark-named (c ∷ cs) k front [] h = none-past (c ∷ cs) k (front ++ []) (rw (length-append front []) (omega arith))
  mark-named (c ∷ cs) k front (b ∷ bs) h =
      let next : (x : Bool) → mark_each (named_from (k + 1) cs v rs) ((front ++ x ∷ []) ++ bs) ≡ front ++ x ∷ marked own cs bs
      = λ x. mark-named cs (k + 1) (front ++ x ∷ []) bs (length-append front (x ∷ []) ∙ omega (arith, h)) ∙ append_assoc front (x ∷ []) (marked own cs bs) in
      elim (c.var == v && reaches rs c.steps) as (λ t. mark_each (if t then k ∷ named_from (k + 1) cs v rs else named_from (k + 1) cs v rs) (front ++ b ∷ bs) ≡ front ++ (b || t) ∷ marked own cs bs) [
        | true ↦ ap (mark_each (named_from (k + 1) cs v rs)) (mark-here front bs b k h) ∙ next true ∙ ap (λ (x : Bool). front ++ x ∷ marked own cs bs) (sym (or-true b))
        | false ↦ ap (mark_each (named_from (k + 1) cs v rs)) (sym (append_assoc front (b ∷ []) bs)) ∙ next b ∙ ap (λ (x : Bool). front ++ x ∷ marked own cs bs) (sym (or-none b))
      ]

pub each-named : (p : Program) (v : ℕ) (rs : List Reach) (bs : List Bool) → mark_each (named p v rs) bs ≡ by_named (cells p) v (Some rs) bs
unfolding named by_named own
each-named p v rs bs = mark-named v rs (cells p) 0 [] bs refl

pub none-named : (cs : List Cell) (v : ℕ) (bs : List Bool) → by_named cs v None bs ≡ bs
unfolding by_named
none-named cs v bs = marked-none cs bs

-- ---- lists, one step on and at the end
next : {A : Type 0} (xs : List A) (i : ℕ) (x : A) → i < length xs → x ≡ get_or xs i x → drop i xs ≡ x ∷ drop (i + 1) xs
next xs i x h e = drop_more xs i x h ∙ ap (λ (y : _). y ∷ drop (i + 1) xs) (sym e)

pub each-more : (whole : List Bool) (ks : List ℕ) (i d : ℕ) (bs new : List Bool) → i < length ks → new ≡ mark_at (get_or ks i d) bs → mark_each (drop i ks) bs ≡ whole → mark_each (drop (i + 1) ks) new ≡ whole
unfolding mark_each
each-more whole ks i d bs new h e left = ap (mark_each (drop (i + 1) ks)) e ∙ sym (ap (λ (xs : List ℕ). mark_each xs bs) (drop_more ks i d h)) ∙ left

pub each-end : (whole : List Bool) (ks : List ℕ) (i : ℕ) (bs : List Bool) → length ks ≤ i → mark_each (drop i ks) bs ≡ whole → bs ≡ whole
unfolding mark_each
each-end whole ks i bs h left = sym (ap (λ (xs : List ℕ). mark_each xs bs) (drop_all i ks h)) ∙ left

-- ---- steps
abbrev SameStep : Option Reach → Option Reach → Type 0
SameStep None None = Unit {0}
SameStep None (Some q) = ⊥
SameStep (Some r) None = ⊥
SameStep (Some r) (Some q) = (s : cell.Step) → reaches_step r s ≡ reaches_step q s

abbrev SameSteps : Option (List Reach) → Option (List Reach) → Type 0
SameSteps None None = Unit {0}
SameSteps None (Some qs) = ⊥
SameSteps (Some rs) None = ⊥
SameSteps (Some rs) (Some qs) = (ss : List cell.Step) → reaches rs ss ≡ reaches qs ss

same-itself : (o : Option Reach) → SameStep o o
same-itself None = tt
same-itself (Some r) = λ s. refl

no_index : (k : ℕ) → int_le (pos k) (pos 0 -ℤ pos 1) ≡ false
no_index k = grind (arith, ints)

index-same : (n : ℕ) (s : cell.Step) → reaches_step (reach.At (indices n)) s ≡ reaches_step (reach.At (some_indices n)) s
unfolding some_indices
index-same zero (one k) =
    let none : int_le (pos k) (pos 0 -ℤ pos 1) ≡ false = no_index k in
    ap (λ (b : Bool). int_le (pos 0) (pos k) && b) none ∙ and-none (int_le (pos 0) (pos k)) ∙ sym (ap (λ (b : Bool). int_le (int_min (pos 0) (pos 0 -ℤ pos 1)) (pos k) && b) none ∙ and-none (int_le (int_min (pos 0) (pos 0 -ℤ pos 1)) (pos k)))
index-same (suc n) (one k) = let e : int_min (pos 0) (pos (suc n) -ℤ pos 1) ≡ pos 0 = omega (arith, ints, clamps) in rw e refl
index-same n (all m) = refl
index-same n (of f) = refl

step-same : (s : Step) → SameStep (may_reach s) (one_step s)
unfolding may_reach one_step index_step
step-same (At' q n m (more_of-Expr a end_of-Expr)) =
    let fixed = option_map (λ i. reach.At (single (pos i))) (fixed_index n a) in
    elim (is_constant a) as (λ b. SameStep (if b then fixed else Some (reach.At (indices n))) (if b then fixed else Some (reach.At (some_indices n)))) [
      | true ↦ same-itself fixed
      | false ↦ λ s. index-same n s
    ]
step-same (Field f) = λ s. refl

abbrev then_step : Option Reach → Option (List Reach) → Option (List Reach)
then_step o os = alive_then o (λ r. option_map (λ rs. r ∷ rs) os)

more-same : (o p : Option Reach) (os ps : Option (List Reach)) → SameStep o p → SameSteps os ps → SameSteps (then_step o os) (then_step p ps)
unfolding reaches
more-same None None os ps h k = tt
more-same None (Some q) os ps h k = absurd h
more-same (Some r) None os ps h k = absurd h
more-same (Some r) (Some q) None None h k = tt
more-same (Some r) (Some q) None (Some qs) h k = absurd k
more-same (Some r) (Some q) (Some rs) None h k = absurd k
more-same (Some r) (Some q) (Some rs) (Some qs) h k = by_list
  where
    by_list : (ss : List cell.Step) → reaches (r ∷ rs) ss ≡ reaches (q ∷ qs) ss
    by_list [] = refl
    by_list (s ∷ ss) = rw (h s, k ss) refl

row-same : (n : _) (row : Row_of-Step n) → SameSteps (may_reaches row) (steps_taken (items-the_row-Step n row))
unfolding may_reaches steps_taken
row-same n end_of-Step = λ ss. refl
row-same n (more_of-Step s rest) = more-same (may_reach s) (one_step s) (may_reaches rest) (steps_taken (items-the_row-Step _ rest)) (step-same s) (row-same _ rest)

named-same : (c : Cell) (v : ℕ) (o p : Option (List Reach)) → SameSteps o p → is_named c v o ≡ is_named c v p
named-same c v None None h = refl
named-same c v None (Some qs) h = absurd h
named-same c v (Some rs) None h = absurd h
named-same c v (Some rs) (Some qs) h = ap (λ (t : Bool). c.var == v && t) (h c.steps)

pub step_at : (q : Pos) (n : ℕ) (a : Expr) → one_step (step.At q n a) ≡ index_step n a
unfolding one_step Rattle.sa_typed.specs.declared.expr.Expr.TheBlock.hidden-the_row-Expr-1 denote.Hole.Carrier.hidden
step_at q n a = refl

pub step_field : (f : ℕ) → one_step (step.Field f) ≡ Some (reach.Into f)
unfolding one_step
step_field f = refl

pub index_typed : (p : Program) (q : Pos) (n : ℕ) (a : Expr) → IsTypedStep p (step.At q n a) → IsTypedExpr p a
unfolding IsTypedExpr Rattle.sa_typed.specs.declared.expr.Expr.TheBlock.hidden-the_row-Expr-1 denote.Hole.Carrier.hidden
index_typed p q n a t = t

pub index_has : (s : Step) (q : Pos) (n : ℕ) (a : Expr) → s ≡ step.At q n a → IsSomeStep s → HasType a
index_has s q n a is h = record { program = h.program; typed = typed_still h.program a (index_typed h.program q n a (subst (IsTypedStep h.program) is h.typed)) }

pub ruleset of_steps = (step_at, step_field, index_has)

-- steps one after another
module _ (whole : Option (List Reach)) (ss : List Step) (i : ℕ) (s : Step) (out : List Reach) (h : i < length ss) (is : s ≡ get_or ss i s)
    (left : option_map (λ rs. out ++ rs) (steps_taken (drop i ss)) ≡ whole) where
  pub taken-none : one_step s ≡ None → None ≡ whole
  unfolding steps_taken
  taken-none e =
      let rest = steps_taken (drop (i + 1) ss) in
      sym (ap (λ (xs : List Step). option_map (λ rs. out ++ rs) (steps_taken xs)) (next ss i s h is) ∙ ap (λ (o : Option Reach). option_map (λ rs. out ++ rs) (then_step o rest)) e) ∙ left

  map-more : (r : Reach) (o : Option (List Reach)) → option_map (λ rs. (out ++ r ∷ []) ++ rs) o ≡ option_map (λ rs. out ++ rs) (option_map (λ rs. r ∷ rs) o)
  map-more r None = refl
  map-more r (Some rs) = ap Some (append_assoc out (r ∷ []) rs)

  pub taken-more : (r : Reach) (new : List Reach) → one_step s ≡ Some r → new ≡ out ++ r ∷ [] → option_map (λ rs. new ++ rs) (steps_taken (drop (i + 1) ss)) ≡ whole
  unfolding steps_taken
  taken-more r new e n =
      let rest = steps_taken (drop (i + 1) ss) in
      ap (λ (xs : List Reach). option_map (λ rs. xs ++ rs) rest) n ∙ map-more r rest
      ∙ sym (ap (λ (xs : List Step). option_map (λ rs. out ++ rs) (steps_taken xs)) (next ss i s h is) ∙ ap (λ (o : Option Reach). option_map (λ rs. out ++ rs) (then_step o rest)) e) ∙ left

pub taken-end : (whole : Option (List Reach)) (ss : List Step) (i : ℕ) (out : List Reach) → length ss ≤ i → option_map (λ rs. out ++ rs) (steps_taken (drop i ss)) ≡ whole → Some out ≡ whole
unfolding steps_taken
taken-end whole ss i out h left =
    sym (ap (λ (xs : List Step). option_map (λ rs. out ++ rs) (steps_taken xs)) (drop_all i ss h) ∙ ap Some (append-nil out)) ∙ left

pub taken-start : (o : Option (List Reach)) → option_map (λ rs. [] ++ rs) o ≡ o
taken-start None = refl
taken-start (Some rs) = refl

pub some-step : (ss : List Step) (i : ℕ) (s : Step) → AreSomeSteps ss → i < length ss → s ≡ get_or ss i s → IsSomeStep s
some-step ss i s h l is = record { program = h.program; typed = subst (IsTypedStep h.program) (sym is) (All-get_or (IsTypedStep h.program) ss i s l h.typed) }

-- ---- rows as lists
abbrev links_of : Expr → (n : _) × Row_of-Link n
links_of (Chain' n a m ls) = (_, ls)
links_of _ = (_, end_of-Link)

abbrev steps_of : Expr → (n : _) × Row_of-Step n
steps_of (Read' x n ss num) = (_, ss)
steps_of _ = (_, end_of-Step)

abbrev pub stmts_of : Stmt → (n : _) × Row_of-Stmt n
stmts_of (Stmt.Block' n r) = (_, r)
stmts_of _ = (_, end_of-Stmt)

module _ (cs : List Cell) where
  links-row : (n : _) (r : Row_of-Link n) (bs : List Bool) → marked (λ c. in_links c r) cs bs ≡ by_links cs (items-the_row-Link n r) bs
  unfolding in_expr by_links by_expr
  links-row n end_of-Link bs = marked-none cs bs
  links-row n (more_of-Link op q num b rest) bs = marked-or (λ c. in_expr c b) (λ c. in_links c rest) cs bs ∙ links-row _ rest (marked (λ c. in_expr c b) cs bs)

  steps-row : (n : _) (r : Row_of-Step n) (bs : List Bool) → marked (λ c. in_steps c r) cs bs ≡ by_steps cs (items-the_row-Step n r) bs
  unfolding in_expr by_steps by_step
  steps-row n end_of-Step bs = marked-none cs bs
  steps-row n (more_of-Step s rest) bs = marked-or (λ c. in_step c s) (λ c. in_steps c rest) cs bs ∙ steps-row _ rest (marked (λ c. in_step c s) cs bs)

  stmts-row : (n : _) (r : Row_of-Stmt n) (bs : List Bool) → marked (λ c. in_stmts c r) cs bs ≡ by_stmts cs (items-the_row-Stmt n r) bs
  unfolding in_stmt by_stmts by_stmt
  stmts-row n end_of-Stmt bs = marked-none cs bs
  stmts-row n (more_of-Stmt s rest) bs = marked-or (λ c. in_stmt c s) (λ c. in_stmts c rest) cs bs ∙ stmts-row _ rest (marked (λ c. in_stmt c s) cs bs)

  loops-row : (q : Pos) (n : _) (r : Row_of-Stmt n) (bs : List Bool) → marked (λ c. in_loops q c r) cs bs ≡ by_loops q cs (items-the_row-Stmt n r) bs
  unfolding in_loop by_loops by_loop
  loops-row q n end_of-Stmt bs = marked-none cs bs
  loops-row q n (more_of-Stmt s rest) bs = marked-or (λ c. in_loop q c s) (λ c. in_loops q c rest) cs bs ∙ loops-row q _ rest (marked (λ c. in_loop q c s) cs bs)

  -- ---- expressions
  pub expr_number : (n : ℕ) (num : Num) (bs : List Bool) → by_expr cs (v.Number n num) bs ≡ bs
  unfolding by_expr in_expr
  expr_number n num bs = marked-none cs bs

  pub expr_input : (k : ℕ) (num : Num) (bs : List Bool) → by_expr cs (v.Input k num) bs ≡ bs
  unfolding by_expr in_expr
  expr_input k num bs = marked-none cs bs

  pub expr_read : (x : Access) (num : Num) (bs : List Bool) → by_expr cs (v.Read x num) bs ≡ by_access cs x bs
  unfolding by_expr by_access in_expr Rattle.sa_typed.specs.declared.expr.Expr.TheBlock.hidden-the_row-Step-0 denote.Hole.Carrier.hidden
  expr_read x num bs = refl

  pub expr_prefix : (op : Prefix) (q : Pos) (num : Num) (a : Expr) (bs : List Bool) → by_expr cs (v.Prefix op q num a) bs ≡ by_expr cs a bs
  unfolding by_expr in_expr Rattle.sa_typed.specs.declared.expr.Expr.TheBlock.hidden-the_row-Expr-1 denote.Hole.Carrier.hidden
  expr_prefix op q num a bs = refl

  pub expr_cast : (q : Pos) (num : Num) (a : Expr) (bs : List Bool) → by_expr cs (v.Cast q num a) bs ≡ by_expr cs a bs
  unfolding by_expr in_expr Rattle.sa_typed.specs.declared.expr.Expr.TheBlock.hidden-the_row-Expr-1 denote.Hole.Carrier.hidden
  expr_cast q num a bs = refl

  pub expr_chain : (a : Expr) (ls : List Link) (bs : List Bool) → by_expr cs (v.Chain a ls) bs ≡ by_links cs ls (by_expr cs a bs)
  unfolding by_expr in_expr Rattle.sa_typed.specs.declared.expr.Expr.TheBlock.hidden-the_row-Expr-1 denote.Hole.Carrier.hidden
  expr_chain a ls bs =
      let row = links_of (v.Chain a ls) in
      marked-or (λ c. in_expr c a) (λ c. in_links c row.1) cs bs ∙ links-row row.0 row.1 (marked (λ c. in_expr c a) cs bs)
      ∙ ap (λ (xs : List Link). by_links cs xs (marked (λ c. in_expr c a) cs bs)) (items_hidden-the_row-Link-2 ls)

  pub access_steps : (x : Access) (bs : List Bool) → by_access cs x bs ≡ by_steps cs (out-Access x).steps (by_named cs (out-Access x).var (steps_taken (out-Access x).steps) bs)
  unfolding by_access by_named in_expr Rattle.sa_typed.specs.declared.expr.Expr.TheBlock.hidden-the_row-Step-0 denote.Hole.Carrier.hidden
  access_steps x bs =
      let row = steps_of (v.Read x I32) in
      let u = (out-Access x).var in
      marked-or (λ c. is_named c u (may_reaches row.1)) (λ c. in_steps c row.1) cs bs
      ∙ ap (marked (λ c. in_steps c row.1) cs) (marked-same (λ c. is_named c u (may_reaches row.1)) (λ c. is_named c u (steps_taken (items-the_row-Step row.0 row.1))) cs bs
      (λ c. named-same c u (may_reaches row.1) (steps_taken (items-the_row-Step row.0 row.1)) (row-same row.0 row.1)))
      ∙ steps-row row.0 row.1 (marked (λ c. is_named c u (steps_taken (items-the_row-Step row.0 row.1))) cs bs)
      ∙ ap (λ (ss : List Step). by_steps cs ss (marked (λ c. is_named c u (steps_taken ss)) cs bs)) (items_hidden-the_row-Step-0 (out-Access x).steps)

  pub step_index : (q : Pos) (n : ℕ) (a : Expr) (bs : List Bool) → by_step cs (step.At q n a) bs ≡ by_expr cs a bs
  unfolding by_step by_expr in_expr Rattle.sa_typed.specs.declared.expr.Expr.TheBlock.hidden-the_row-Expr-1 denote.Hole.Carrier.hidden
  step_index q n a bs = refl

  pub step_into : (f : ℕ) (bs : List Bool) → by_step cs (step.Field f) bs ≡ bs
  unfolding by_step in_expr
  step_into f bs = marked-none cs bs

  pub expr_and : (a : Expr) (es : List Expr) (bs : List Bool) → by_expr cs (v.And a es) bs ≡ bs
  unfolding by_expr in_expr Rattle.sa_typed.specs.declared.expr.Expr.TheBlock.hidden-the_row-Expr-1 denote.Hole.Carrier.hidden
  expr_and a es bs = marked-none cs bs

  pub expr_or : (a : Expr) (es : List Expr) (bs : List Bool) → by_expr cs (v.Or a es) bs ≡ bs
  unfolding by_expr in_expr Rattle.sa_typed.specs.declared.expr.Expr.TheBlock.hidden-the_row-Expr-1 denote.Hole.Carrier.hidden
  expr_or a es bs = marked-none cs bs

  pub expr_choice : (a b d : Expr) (num : Num) (bs : List Bool) → by_expr cs (v.Choice a b d num) bs ≡ bs
  unfolding by_expr in_expr Rattle.sa_typed.specs.declared.expr.Expr.TheBlock.hidden-the_row-Expr-1 denote.Hole.Carrier.hidden
  expr_choice a b d num bs = marked-none cs bs

  -- ---- statements
  pub start_any : (bs : List Bool) → by_start cs begins.Any bs ≡ bs
  unfolding by_start
  start_any bs = marked-none cs bs

  pub start_value : (q : Pos) (a : Expr) (bs : List Bool) → by_start cs (begins.Value q a) bs ≡ by_expr cs a bs
  unfolding by_start by_expr
  start_value q a bs = refl

  pub start_items : (bs : List Bool) → by_start cs begins.Items bs ≡ bs
  unfolding by_start
  start_items bs = marked-none cs bs

  pub simple_declare : (u : ℕ) (s : Start) (bs : List Bool) → by_simple cs (simple.Declare u s) bs ≡ by_start cs s bs
  unfolding by_simple by_start in_simple
  simple_declare u s bs = refl

  pub simple_assign : (x : Access) (num : Num) (q : Pos) (a : Expr) (bs : List Bool) → by_simple cs (simple.Assign x num q a) bs ≡ by_expr cs a (by_access cs x bs)
  unfolding by_simple by_expr by_access in_simple
  simple_assign x num q a bs = marked-or (λ c. in_access c x) (λ c. in_expr c a) cs bs

  pub simple_compound : (x : Access) (num : Num) (op : Operator) (q : Pos) (work : Num) (a : Expr) (bs : List Bool) →
      by_simple cs (simple.Compound x num op q work a) bs ≡ by_expr cs a (by_access cs x bs)
  unfolding by_simple by_expr by_access in_simple
  simple_compound x num op q work a bs = marked-or (λ c. in_access c x) (λ c. in_expr c a) cs bs

  pub simple_copy : (k : ℕ) (x : Access) (q : Pos) (y : Access) (bs : List Bool) → by_simple cs (simple.Copy k x q y) bs ≡ by_access cs y (by_access cs x bs)
  unfolding by_simple by_access in_simple
  simple_copy k x q y bs = marked-or (λ c. in_access c x) (λ c. in_access c y) cs bs

  pub stmt_simple : (s : Simple) (bs : List Bool) → by_stmt cs (stmt.Simple s) bs ≡ by_simple cs s bs
  unfolding by_stmt by_simple in_stmt
  stmt_simple s bs = refl

  pub stmt_block : (ss : List Stmt) (bs : List Bool) → by_stmt cs (stmt.Block ss) bs ≡ by_stmts cs ss bs
  unfolding by_stmt in_stmt
  stmt_block ss bs =
      let row = stmts_of (stmt.Block ss) in
      stmts-row row.0 row.1 bs ∙ ap (λ (xs : List Stmt). by_stmts cs xs bs) (items_hidden-the_row-Stmt-0 ss)

  stmt_clock : (q : Pos) (body : Stmt) (bs : List Bool) → by_stmt cs (stmt.Loop q kind.Clock None body None) bs ≡ by_stmt cs body bs
  unfolding by_stmt in_stmt Rattle.sa_typed.specs.declared.stmt.Stmt.TheBlock.hidden-the_row-Stmt-1 denote.Hole.Carrier.hidden
  stmt_clock q body bs = refl

  -- of any other form
  pub stmt-none : (s : Stmt) (bs : List Bool) → ((x : Simple) → s ≡ stmt.Simple x → ⊥) → ((ss : List Stmt) → s ≡ stmt.Block ss → ⊥) →
      ((q : Pos) (k : LoopKind) (c : Option Expr) (body : Stmt) (x : Option Simple) → s ≡ stmt.Loop q k c body x → ⊥) → by_stmt cs s bs ≡ bs
  unfolding by_stmt in_stmt Rattle.sa_typed.specs.declared.stmt.Stmt.TheBlock.hidden-the_row-Stmt-1 denote.Hole.Carrier.hidden statement.out-Stmt statement.roll-Stmt denote.Hole.Carrier.out
  stmt-none (Stmt.Simple x) bs simple block loop = absurd (simple x refl)
  stmt-none (Stmt.Block' n ss) bs simple block loop = absurd (block _ (sym (roll-out-Stmt (Stmt.Block' n ss)) ∙ rolls-Block _))
  stmt-none (Stmt.Loop' q k c n (more_of-Stmt body end_of-Stmt) x) bs simple block loop = absurd (loop q k c body x refl)
  stmt-none _ bs simple block loop = marked-none cs bs

  -- ---- loops
  module _ (q : Pos) where
    -- of any other form than blocks and loops
    pub loop-none : (s : Stmt) (bs : List Bool) → ((ss : List Stmt) → s ≡ stmt.Block ss → ⊥) →
        ((r : Pos) (k : LoopKind) (c : Option Expr) (body : Stmt) (x : Option Simple) → s ≡ stmt.Loop r k c body x → ⊥) → by_loop q cs s bs ≡ bs
    unfolding by_loop in_loop Rattle.sa_typed.specs.declared.stmt.Stmt.TheBlock.hidden-the_row-Stmt-1 denote.Hole.Carrier.hidden statement.out-Stmt statement.roll-Stmt denote.Hole.Carrier.out
    loop-none (Stmt.Block' n ss) bs block loop = absurd (block _ (sym (roll-out-Stmt (Stmt.Block' n ss)) ∙ rolls-Block _))
    loop-none (Stmt.Loop' r k c n (more_of-Stmt body end_of-Stmt) x) bs block loop = absurd (loop r k c body x refl)
    loop-none _ bs block loop = marked-none cs bs

    pub loop_block : (ss : List Stmt) (bs : List Bool) → by_loop q cs (stmt.Block ss) bs ≡ by_loops q cs ss bs
    unfolding by_loop in_loop
    loop_block ss bs =
        let row = stmts_of (stmt.Block ss) in
        loops-row q row.0 row.1 bs ∙ ap (λ (xs : List Stmt). by_loops q cs xs bs) (items_hidden-the_row-Stmt-0 ss)

    loop_clock : (r : Pos) (body : Stmt) (bs : List Bool) → by_loop q cs (stmt.Loop r kind.Clock None body None) bs ≡ (if same_pos r q then by_stmt cs body bs else by_loop q cs body bs)
    unfolding by_loop by_stmt in_loop Rattle.sa_typed.specs.declared.stmt.Stmt.TheBlock.hidden-the_row-Stmt-1 denote.Hole.Carrier.hidden
    loop_clock r body bs =
        elim (same_pos r q) as (λ t. marked (λ c. if t then in_stmt c body else in_loop q c body) cs bs ≡ (if t then marked (λ c. in_stmt c body) cs bs else marked (λ c. in_loop q c body) cs bs)) [
          | true ↦ refl
          | false ↦ refl
        ]

  -- ---- lists one after another
  pub links-more : (whole bs new : List Bool) (ls : List Link) (i : ℕ) (l : Link) → i < length ls → l ≡ get_or ls i l → new ≡ by_expr cs (out-Link l).operand bs →
      by_links cs (drop i ls) bs ≡ whole → by_links cs (drop (i + 1) ls) new ≡ whole
  unfolding by_links
  links-more whole bs new ls i l h is e left = ap (by_links cs (drop (i + 1) ls)) e ∙ sym (ap (λ (xs : List Link). by_links cs xs bs) (next ls i l h is)) ∙ left

  pub links-end : (whole bs : List Bool) (ls : List Link) (i : ℕ) → length ls ≤ i → by_links cs (drop i ls) bs ≡ whole → bs ≡ whole
  unfolding by_links
  links-end whole bs ls i h left = sym (ap (λ (xs : List Link). by_links cs xs bs) (drop_all i ls h)) ∙ left

  pub steps-more : (whole bs new : List Bool) (ss : List Step) (i : ℕ) (s : Step) → i < length ss → s ≡ get_or ss i s → new ≡ by_step cs s bs →
      by_steps cs (drop i ss) bs ≡ whole → by_steps cs (drop (i + 1) ss) new ≡ whole
  unfolding by_steps
  steps-more whole bs new ss i s h is e left = ap (by_steps cs (drop (i + 1) ss)) e ∙ sym (ap (λ (xs : List Step). by_steps cs xs bs) (next ss i s h is)) ∙ left

  pub steps-end : (whole bs : List Bool) (ss : List Step) (i : ℕ) → length ss ≤ i → by_steps cs (drop i ss) bs ≡ whole → bs ≡ whole
  unfolding by_steps
  steps-end whole bs ss i h left = sym (ap (λ (xs : List Step). by_steps cs xs bs) (drop_all i ss h)) ∙ left

  pub stmts-more : (whole bs new : List Bool) (ss : List Stmt) (i : ℕ) (s : Stmt) → i < length ss → s ≡ get_or ss i s → new ≡ by_stmt cs s bs →
      by_stmts cs (drop i ss) bs ≡ whole → by_stmts cs (drop (i + 1) ss) new ≡ whole
  unfolding by_stmts
  stmts-more whole bs new ss i s h is e left = ap (by_stmts cs (drop (i + 1) ss)) e ∙ sym (ap (λ (xs : List Stmt). by_stmts cs xs bs) (next ss i s h is)) ∙ left

  pub stmts-end : (whole bs : List Bool) (ss : List Stmt) (i : ℕ) → length ss ≤ i → by_stmts cs (drop i ss) bs ≡ whole → bs ≡ whole
  unfolding by_stmts
  stmts-end whole bs ss i h left = sym (ap (λ (xs : List Stmt). by_stmts cs xs bs) (drop_all i ss h)) ∙ left

  pub loops-more : (q : Pos) (whole bs new : List Bool) (ss : List Stmt) (i : ℕ) (s : Stmt) → i < length ss → s ≡ get_or ss i s → new ≡ by_loop q cs s bs →
      by_loops q cs (drop i ss) bs ≡ whole → by_loops q cs (drop (i + 1) ss) new ≡ whole
  unfolding by_loops
  loops-more q whole bs new ss i s h is e left = ap (by_loops q cs (drop (i + 1) ss)) e ∙ sym (ap (λ (xs : List Stmt). by_loops q cs xs bs) (next ss i s h is)) ∙ left

  pub loops-end : (q : Pos) (whole bs : List Bool) (ss : List Stmt) (i : ℕ) → length ss ≤ i → by_loops q cs (drop i ss) bs ≡ whole → bs ≡ whole
  unfolding by_loops
  loops-end q whole bs ss i h left = sym (ap (λ (xs : List Stmt). by_loops q cs xs bs) (drop_all i ss h)) ∙ left

-- ---- what typing promises of the parts
module _ (p : Program) where
  steps-typed : (n : _) (r : Row_of-Step n) → AreTypedSteps p r → All (IsTypedStep p) (items-the_row-Step n r)
  unfolding IsTypedExpr
  steps-typed n end_of-Step h = All-nil (IsTypedStep p)
  steps-typed n (more_of-Step s rest) h = All-cons (IsTypedStep p) s (items-the_row-Step _ rest) h.0 (steps-typed _ rest h.1)

  pub read_typed : (x : Access) (num : Num) → IsTypedExpr p (v.Read x num) → HasTypedSteps p x
  unfolding IsTypedExpr Rattle.sa_typed.specs.declared.expr.Expr.TheBlock.hidden-the_row-Step-0 denote.Hole.Carrier.hidden
  read_typed x num t =
      let row = steps_of (v.Read x num) in
      All-same (IsTypedStep p) (out-Access x).steps (items-the_row-Step row.0 row.1) (sym (items_hidden-the_row-Step-0 (out-Access x).steps)) (steps-typed row.0 row.1 t.0)

  pub access_typed : (l : Layout) (x : Access) → IsTypedAccess p l x → HasTypedSteps p x
  unfolding Rattle.sa_typed.specs.declared.expr.Expr.TheBlock.hidden-the_row-Step-0 denote.Hole.Carrier.hidden
  access_typed l x t =
      let row = steps_of (v.Read x I32) in
      All-same (IsTypedStep p) (out-Access x).steps (items-the_row-Step row.0 row.1) (sym (items_hidden-the_row-Step-0 (out-Access x).steps)) (steps-typed row.0 row.1 t.0)

  operands-typed : (num : Num) (ls : List Link) → AreTypedAfter p num ls → All (HasTypedOperand p) ls
  unfolding AreTypedAfter
  operands-typed num [] h = All-nil (HasTypedOperand p)
  operands-typed num (l ∷ ls) h = All-cons (HasTypedOperand p) l ls h.0.operand (operands-typed _ ls h.1)

  stmts-typed : (n : _) (r : Row_of-Stmt n) → AreTypedStmts p r → All (IsTypedStmt p) (items-the_row-Stmt n r)
  unfolding IsTypedStmt
  stmts-typed n end_of-Stmt h = All-nil (IsTypedStmt p)
  stmts-typed n (more_of-Stmt s rest) h = All-cons (IsTypedStmt p) s (items-the_row-Stmt _ rest) h.0 (stmts-typed _ rest h.1)

  -- of a value that is of this form
  pub has_read : (e : Expr) (x : Access) (num : Num) → e ≡ v.Read x num → IsTypedExpr p e → HasTypedSteps p x
  has_read e x num is t = read_typed x num (subst (IsTypedExpr p) is t)

  pub has_prefix : (e : Expr) (op : Prefix) (q : Pos) (num : Num) (a : Expr) → e ≡ v.Prefix op q num a → IsTypedExpr p e → IsTypedExpr p a
  has_prefix e op q num a is t = (prefix_typed p op q num a (subst (IsTypedExpr p) is t)).0

  pub has_cast : (e : Expr) (q : Pos) (num : Num) (a : Expr) → e ≡ v.Cast q num a → IsTypedExpr p e → IsTypedExpr p a
  has_cast e q num a is t = cast_typed p q num a (subst (IsTypedExpr p) is t)

  pub has_first : (e : Expr) (a : Expr) (ls : List Link) → e ≡ v.Chain a ls → IsTypedExpr p e → IsTypedExpr p a
  has_first e a ls is t = (chain_typed p a ls (subst (IsTypedExpr p) is t)).0

  pub has_links : (e : Expr) (a : Expr) (ls : List Link) → e ≡ v.Chain a ls → IsTypedExpr p e → All (HasTypedOperand p) ls
  has_links e a ls is t = operands-typed _ ls (chain_typed p a ls (subst (IsTypedExpr p) is t)).1

  pub has_index : (s : Step) (q : Pos) (n : ℕ) (a : Expr) → s ≡ step.At q n a → IsTypedStep p s → IsTypedExpr p a
  has_index s q n a is t = index_typed p q n a (subst (IsTypedStep p) is t)

  pub has_value : (u : ℕ) (s : Start) (q : Pos) (a : Expr) → s ≡ begins.Value q a → IsTypedStart p u s → IsTypedExpr p a
  has_value u s q a is t = (subst (IsTypedStart p u) is t).0

  pub has_start : (x : Simple) (u : ℕ) (s : Start) → x ≡ simple.Declare u s → IsTypedSimple p x → IsTypedStart p u s
  has_start x u s is t = subst (IsTypedSimple p) is t

  pub has_left : (x : Simple) (y : Access) (num : Num) (q : Pos) (a : Expr) → x ≡ simple.Assign y num q a → IsTypedSimple p x → HasTypedSteps p y
  has_left x y num q a is t = access_typed (leaf num) y (subst (IsTypedSimple p) is t).0

  pub has_right : (x : Simple) (y : Access) (num : Num) (q : Pos) (a : Expr) → x ≡ simple.Assign y num q a → IsTypedSimple p x → IsTypedExpr p a
  has_right x y num q a is t = (subst (IsTypedSimple p) is t).1

  pub has_target : (x : Simple) (y : Access) (num : Num) (op : Operator) (q : Pos) (work : Num) (a : Expr) → x ≡ simple.Compound y num op q work a → IsTypedSimple p x → HasTypedSteps p y
  has_target x y num op q work a is t = access_typed (leaf num) y (subst (IsTypedSimple p) is t).0

  pub has_operand : (x : Simple) (y : Access) (num : Num) (op : Operator) (q : Pos) (work : Num) (a : Expr) → x ≡ simple.Compound y num op q work a → IsTypedSimple p x → IsTypedExpr p a
  has_operand x y num op q work a is t = (subst (IsTypedSimple p) is t).1.0

  pub has_copied : (x : Simple) (k : ℕ) (y : Access) (q : Pos) (z : Access) → x ≡ simple.Copy k y q z → IsTypedSimple p x → HasTypedSteps p y × HasTypedSteps p z
  has_copied x k y q z is t = let u = subst (IsTypedSimple p) is t in (access_typed u.0 y u.1.typed, access_typed u.0 z u.2.typed)

  pub has_simple : (s : Stmt) (x : Simple) → s ≡ stmt.Simple x → IsTypedStmt p s → IsTypedSimple p x
  unfolding IsTypedStmt
  has_simple s x is t = subst (IsTypedStmt p) is t

  pub has_block : (s : Stmt) (ss : List Stmt) → s ≡ stmt.Block ss → IsTypedStmt p s → All (IsTypedStmt p) ss
  unfolding IsTypedStmt
  has_block s ss is t =
      let row = stmts_of (stmt.Block ss) in
      All-same (IsTypedStmt p) ss (items-the_row-Stmt row.0 row.1) (sym (items_hidden-the_row-Stmt-0 ss)) (stmts-typed row.0 row.1 (subst (IsTypedStmt p) is t))

  -- of a loop, which typing gives as the clock loop alone
  module _ (s : Stmt) (q : Pos) (k : LoopKind) (c : Option Expr) (body : Stmt) (x : Option Simple) (is : s ≡ stmt.Loop q k c body x) (t : IsTypedStmt p s) (cs : List Cell) (bs : List Bool) where
    pub in-clock : by_stmt cs s bs ≡ by_stmt cs body bs
    in-clock = ap (λ (s : Stmt). by_stmt cs s bs) (clock_is p s q k c body x is t) ∙ stmt_clock cs q body bs

    in-either : (r : Pos) → by_loop r cs s bs ≡ (if same_pos q r then by_stmt cs body bs else by_loop r cs body bs)
    in-either r = ap (λ (s : Stmt). by_loop r cs s bs) (clock_is p s q k c body x is t) ∙ loop_clock cs r q body bs

    pub in-this : (r : Pos) → same_pos q r ≡ true → by_loop r cs s bs ≡ by_stmt cs body bs
    in-this r h = in-either r ∙ ap (λ (t : Bool). if t then by_stmt cs body bs else by_loop r cs body bs) h

    pub in-inner : (r : Pos) → same_pos q r ≡ false → by_loop r cs s bs ≡ by_loop r cs body bs
    in-inner r h = in-either r ∙ ap (λ (t : Bool). if t then by_stmt cs body bs else by_loop r cs body bs) h

pub ruleset of_named = (each-named, none-named)

pub ruleset of_forms = (expr_number, expr_input, expr_read, expr_prefix, expr_cast, expr_chain, expr_and, expr_or, expr_choice, access_steps, step_index, step_into, links-more, links-end, steps-more, steps-end, has_read, has_prefix, has_cast, has_first, has_links, has_index)

pub ruleset of_stmts = (
  start_any,
  start_value,
  start_items,
  simple_declare,
  simple_assign,
  simple_compound,
  simple_copy,
  stmt_simple,
  stmt_block,
  stmts-more,
  stmts-end,
  has_value,
  has_start,
  has_left,
  has_right,
  has_target,
  has_operand,
  has_copied,
  has_simple,
  has_block,
)

pub ruleset of_loops = (loop_block, loops-more, loops-end, has_simple, has_block)

-- ---- main
pub main-block : (p : Program) → main_of p ≡ stmt.Block (main_body p)
main-block p = by_cases (slice_get p.funcs p.entry)
  where
    by_cases : (o : Option Func) → block_of o ≡ stmt.Block (body_in o)
    by_cases None = refl
    by_cases (Some f) = refl

pub main-typed : (p : Program) (ss : List Stmt) → ss ≡ main_body p → IsTypedStmt p (main_of p) → All (IsTypedStmt p) ss
main-typed p ss e h = All-same (IsTypedStmt p) ss (main_body p) e (has_block p (main_of p) (main_body p) (main-block p) h)
