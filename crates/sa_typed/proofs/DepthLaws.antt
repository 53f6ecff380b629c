-- Statements do the same with bodies that agree on the functions that they call.
use Rattle.std.proofs.Common.{◌≡◌, ℕ, zero, suc, ◌+◌, ◌<◌, ◌≤◌, ℤ, pos, ◌+ℤ◌, Bool, true, false, List, [], ◌∷◌, ◌++◌, length, refl, sym, ap, subst, ◌∙◌, arith, Option, Some, None}
use Rattle.std.specs.List.{AllByRecursion}
use Rattle.std.specs.Prelude.{if◌then◌else◌, slice_get}
use Rattle.sa_base.specs.declared.num.Num.{Num}
use Rattle.sa_base.specs.declared.pos.Pos.{Pos}
use Rattle.sa_typed.specs.Evaluation.{Value, Gives, Stops, Setting, eval, is_zero}
use Rattle.sa_typed.specs.Executions.{Loop, State, Result, Goes, Breaks, Over, Turn, Again, Leaves, Ended, with_value, turn_with, with_store, Activation, Bodies, here_in, simple_value, then_state, then_again, visit_with, turns, after_body, tested, stepped, turn_of, entered, delivered, chosen, is_listed, run, run_all, run_group, block_of, bodies_of, main_of, main_activation, start, ended, execution}
use Rattle.sa_typed.specs.TypedPrograms.{Site, calls_in, calls_in_all, calls_in_groups, AreRanked}
use Rattle.sa_typed.specs.Depth.{execution_within, CallsEnd}
use Rattle.sa_typed.specs.declared.expr.Expr.{Expr}
use Rattle.sa_typed.specs.declared.program.Func.{Func}
use Rattle.sa_typed.specs.declared.program.Program.{Program}
use Rattle.sa_typed.specs.declared.stmt.Label.{Label}
use Rattle.sa_typed.specs.declared.stmt.LoopKind.{LoopKind}
use Rattle.sa_typed.specs.declared.stmt.LoopKind.TheVariants as kind
use Rattle.sa_typed.specs.declared.stmt.Simple.{Simple}
use Rattle.sa_typed.specs.declared.stmt.Stmt.{Stmt, Row_of-Stmt, end_of-Stmt, more_of-Stmt, Row_of-Group, end_of-Group, more_of-Group}

-- ---- lists
all_left : {A : Type 0} (P : A → Type 0) (xs ys : List A) → AllByRecursion P (xs ++ ys) → AllByRecursion P xs
all_left P [] ys h = tt
all_left P (x ∷ xs) ys h = (h.0, all_left P xs ys h.1)

all_right : {A : Type 0} (P : A → Type 0) (xs ys : List A) → AllByRecursion P (xs ++ ys) → AllByRecursion P ys
all_right P [] ys h = h
all_right P (x ∷ xs) ys h = all_right P xs ys h.1

-- ---- what goes on the same goes on the same
same_value : {A : Type 0} (st : State) (v : Value A) (f g : A → State → Result) → ((a : A) (new : State) → f a new ≡ g a new) → with_value st v f ≡ with_value st v g
same_value st (Gives a tape) f g h = h a (record st { tape = tape })
same_value st (Stops x) f g h = refl

same_turn : {A : Type 0} (st : State) (v : Value A) (f g : A → State → Turn) → ((a : A) (new : State) → f a new ≡ g a new) → turn_with st v f ≡ turn_with st v g
same_turn st (Gives a tape) f g h = h a (record st { tape = tape })
same_turn st (Stops x) f g h = refl

same_then : (x y : Result) (f g : State → Result) → x ≡ y → ((st : State) → f st ≡ g st) → then_state x f ≡ then_state y g
same_then x (Goes st) f g e h = rw e (h st)
same_then x (Breaks st) f g e h = rw e refl
same_then x (Over r) f g e h = rw e refl

same_if : {A : Type 0} (b : Bool) (x y u v : A) → x ≡ u → y ≡ v → (if b then x else y) ≡ (if b then u else v)
same_if true x y u v e h = e
same_if false x y u v e h = h

same_after : (x y : Result) (f g : State → Turn) → x ≡ y → ((st : State) → f st ≡ g st) → after_body x f ≡ after_body y g
same_after x (Goes st) f g e h = rw e (h st)
same_after x (Breaks st) f g e h = rw e refl
same_after x (Over r) f g e h = rw e refl

same_again : (t u : Turn) (f g : State → Result) → t ≡ u → ((st : State) → f st ≡ g st) → then_again t f ≡ then_again u g
same_again t (Again st) f g e h = rw e (h st)
same_again t (Leaves st) f g e h = rw e refl
same_again t (Ended r) f g e h = rw e refl

same_visit : (left : ℕ) (loop : Loop) (st : State) (f g : State → Result) → ((st : State) → f st ≡ g st) → visit_with left loop st f ≡ visit_with left loop st g
same_visit zero loop st f g h = refl
same_visit (suc left) loop st f g h = h _

same_turns : (loop : Loop) (f g : State → Turn) → ((st : State) → f st ≡ g st) → (tries : ℕ) (st : State) → turns loop f tries st ≡ turns loop g tries st
unfolding turns
same_turns loop f g h zero st = refl
same_turns loop f g h (suc tries) st =
    same_visit st.left loop st (λ st. then_again (f st) (λ st. turns loop f tries st)) (λ st. then_again (g st) (λ st. turns loop g tries st))
    (λ st. same_again (f st) (g st) (λ st. turns loop f tries st) (λ st. turns loop g tries st) (h st) (λ st. same_turns loop f g h tries st))

same_tested : (w : Setting) (act : Activation) (cond : Option Expr) (st : State) (f g : State → Turn) → ((st : State) → f st ≡ g st) → tested w act cond st f ≡ tested w act cond st g
same_tested w act None st f g h = h st
same_tested w act (Some e) st f g h =
    same_turn st (eval w (here_in act st) st.store e st.tape) (λ z st. if is_zero z then Leaves st else f st) (λ z st. if is_zero z then Leaves st else g st)
    (λ z st. same_if (is_zero z) (Leaves st) (f st) (Leaves st) (g st) refl (h st))

same_turn_of : (p : Program) (w : Setting) (act : Activation) (form : LoopKind) (cond : Option Expr) (f g : State → Result) (step : Option Simple) → ((st : State) → f st ≡ g st) →
    (st : State) → turn_of p w act form cond f step st ≡ turn_of p w act form cond g step st
same_turn_of p w act kind.Do cond f g step h st = same_after (f st) (g st) (λ st. tested w act cond st Again) (λ st. tested w act cond st Again) (h st) (λ st. refl)
same_turn_of p w act kind.While cond f g step h st =
    same_tested w act cond st (λ st. after_body (f st) (λ st. stepped p w act step st)) (λ st. after_body (g st) (λ st. stepped p w act step st))
    (λ st. same_after (f st) (g st) (λ st. stepped p w act step st) (λ st. stepped p w act step st) (h st) (λ st. refl))
same_turn_of p w act kind.Clock cond f g step h st =
    same_tested w act cond st (λ st. after_body (f st) (λ st. stepped p w act step st)) (λ st. after_body (g st) (λ st. stepped p w act step st))
    (λ st. same_after (f st) (g st) (λ st. stepped p w act step st) (λ st. stepped p w act step st) (h st) (λ st. refl))

-- ---- bodies that agree on the functions below a rank
abbrev Agree : (ℕ → ℕ) → ℕ → Bodies → Bodies → Type 0
Agree rank k B C = (f : ℕ) → rank f < k → (act : Activation) (st : State) → B f act st ≡ C f act st

abbrev AreBelow : (ℕ → ℕ) → ℕ → List Site → Type 0
AreBelow rank k sites = AllByRecursion (λ s. rank s.func < k) sites

agree_below : (rank : ℕ → ℕ) (j k : ℕ) (B C : Bodies) → j ≤ k → Agree rank k B C → Agree rank j B C
agree_below rank j k B C le a = λ f l act st. a f (omega (arith, le, l)) act st

module _ (p : Program) (w : Setting) (rank : ℕ → ℕ) (k : ℕ) (B C : Bodies) (agree : Agree rank k B C) (act : Activation) where
  mutual
    unfolding run calls_in

    same : (s : Stmt) → AreBelow rank k (calls_in s) → (st : State) → run p w B act s st ≡ run p w C act s st
    same (Stmt.Simple s) h st = refl
    same (Stmt.Scope v) h st = refl
    same (Stmt.Block' n all) h st = all_same all h st
    same (Stmt.Call q f args dest) h st =
        same_value st (entered p w act q f args st)
        (λ b st. then_state (B f (record { path = act.path ++ q ∷ []; base = b.base }) (with_store st b.store)) (λ st. delivered w act dest st))
        (λ b st. then_state (C f (record { path = act.path ++ q ∷ []; base = b.base }) (with_store st b.store)) (λ st. delivered w act dest st))
        (λ b st. ap (λ (r : Result). then_state r (λ st. delivered w act dest st)) (agree f h.0 (record { path = act.path ++ q ∷ []; base = b.base }) (with_store st b.store)))
    same (Stmt.If' e n (more_of-Stmt a end_of-Stmt) m (more_of-Stmt b end_of-Stmt) marked) h st =
        same_value st (eval w (here_in act st) st.store e st.tape)
        (λ z st. if is_zero z then run p w B act b st else run p w B act a st) (λ z st. if is_zero z then run p w C act b st else run p w C act a st)
        (λ z st. same_if (is_zero z) (run p w B act b st) (run p w B act a st) (run p w C act b st) (run p w C act a st)
        (same b (all_right (λ s. rank s.func < k) (calls_in a) (calls_in b) h) st) (same a (all_left (λ s. rank s.func < k) (calls_in a) (calls_in b) h) st))
    same (Stmt.Switch' e num n groups marked) h st =
        same_value st (eval w (here_in act st) st.store e st.tape)
        (λ z st. run_group p w B act (chosen (is_listed z groups) z) groups st) (λ z st. run_group p w C act (chosen (is_listed z groups) z) groups st)
        (λ z st. group_same (chosen (is_listed z groups) z) groups h st)
    same (Stmt.Loop' q form cond n (more_of-Stmt body end_of-Stmt) step) h st =
        same_turns (record { path = act.path; place = q }) (turn_of p w act form cond (λ st. run p w B act body st) step) (turn_of p w act form cond (λ st. run p w C act body st) step)
        (λ st. same_turn_of p w act form cond (λ st. run p w B act body st) (λ st. run p w C act body st) step (λ st. same body h st) st) st.left st
    same (Stmt.Known e) h st = refl
    same (Stmt.Assert q e) h st = refl
    same Stmt.Wait h st = refl
    same Stmt.Break h st = refl
    same (Stmt.Return q num e) h st = refl

    all_same : {n : _} (r : Row_of-Stmt n) → AreBelow rank k (calls_in_all r) → (st : State) → run_all p w B act r st ≡ run_all p w C act r st
    all_same end_of-Stmt h st = refl
    all_same (more_of-Stmt s rest) h st =
        same_then (run p w B act s st) (run p w C act s st) (λ st. run_all p w B act rest st) (λ st. run_all p w C act rest st)
        (same s (all_left (λ s. rank s.func < k) (calls_in s) (calls_in_all rest) h) st) (λ st. all_same rest (all_right (λ s. rank s.func < k) (calls_in s) (calls_in_all rest) h) st)

    group_same : {n : _} (fits : List Label → Bool) (r : Row_of-Group n) → AreBelow rank k (calls_in_groups r) → (st : State) → run_group p w B act fits r st ≡ run_group p w C act fits r st
    group_same fits end_of-Group h st = refl
    group_same fits (more_of-Group labels n (more_of-Stmt body end_of-Stmt) rest) h st =
        same_if (fits labels) (run p w B act body st) (run_group p w B act fits rest st) (run p w C act body st) (run_group p w C act fits rest st)
        (same body (all_left (λ s. rank s.func < k) (calls_in body) (calls_in_groups rest) h) st) (group_same fits rest (all_right (λ s. rank s.func < k) (calls_in body) (calls_in_groups rest) h) st)

-- ---- depths above the rank
all_more : (rank : ℕ → ℕ) (j k : ℕ) (sites : List Site) → j ≤ k → AreBelow rank j sites → AreBelow rank k sites
all_more rank j k [] l h = tt
all_more rank j k (s ∷ sites) l h = (let x = h.0 in omega (arith, l, x), all_more rank j k sites l h.1)

some_below : {A : Type 0} (xs : List A) (i : ℕ) (x : A) → slice_get xs i ≡ Some x → i < length xs
some_below [] i x h = cc
some_below (y ∷ ys) zero x h = omega arith
some_below (y ∷ ys) (suc i) x h = let l = some_below ys i x h in omega (arith, l)

module _ (p : Program) (w : Setting) (rank : ℕ → ℕ) (ranked : AreRanked p rank) where
  body_below : (f : ℕ) (o : Option Func) → slice_get p.funcs f ≡ o → AreBelow rank (rank f) (calls_in (block_of o))
  unfolding calls_in Rattle.sa_typed.specs.declared.stmt.Stmt.TheBlock.hidden-the_row-Stmt-0 denote.Hole.Carrier.hidden
  body_below f None is = tt
  body_below f (Some g) is = ranked.falls f g is

  one_deeper : (k d e : ℕ) → Agree rank k (bodies_of p w d) (bodies_of p w e) → Agree rank (suc k) (bodies_of p w (suc d)) (bodies_of p w (suc e))
  unfolding bodies_of
  one_deeper k d e a = λ f h act st.
      same p w rank (rank f) (bodies_of p w d) (bodies_of p w e) (agree_below rank (rank f) k (bodies_of p w d) (bodies_of p w e) (omega (arith, h)) a) act (block_of (slice_get p.funcs f)) (body_below f (slice_get p.funcs f) refl) st

  bodies_agree : (k d e : ℕ) → k ≤ d → k ≤ e → Agree rank k (bodies_of p w d) (bodies_of p w e)
  bodies_agree zero d e l m = λ f h act st. absurd (omega (arith, h))
  bodies_agree (suc k) zero e l m = absurd (omega (arith, l))
  bodies_agree (suc k) (suc d) zero l m = absurd (omega (arith, m))
  bodies_agree (suc k) (suc d) (suc e) l m = one_deeper k d e (bodies_agree k d e (omega (arith, l)) (omega (arith, m)))

  -- the rank of main is below the number of functions, if there is a main
  main_below : (o : Option Func) → slice_get p.funcs p.entry ≡ o → AreBelow rank (length p.funcs) (calls_in (block_of o))
  unfolding calls_in Rattle.sa_typed.specs.declared.stmt.Stmt.TheBlock.hidden-the_row-Stmt-0 denote.Hole.Carrier.hidden
  main_below None is = tt
  main_below (Some g) is =
      let few = ranked.few p.entry (some_below p.funcs p.entry g is) in
      all_more rank (rank p.entry) (length p.funcs) (calls_in (block_of (Some g))) (omega (arith, few)) (body_below p.entry (Some g) is)

  deep : (depth : ℕ) → length p.funcs ≤ depth → (tape : List ℤ) (n : ℕ) → execution_within p depth w tape n ≡ execution p w tape n
  unfolding execution
  deep depth l tape n =
      ap ended
      (same p w rank (length p.funcs) (bodies_of p w depth) (bodies_of p w (length p.funcs)) (bodies_agree (length p.funcs) depth (length p.funcs) l (omega arith)) (main_activation p) (main_of p)
      (main_below (slice_get p.funcs p.entry) refl) (start p tape n))

pub calls-end : CallsEnd
calls-end p rank ranked w depth l tape n = deep p w rank ranked depth l tape n
