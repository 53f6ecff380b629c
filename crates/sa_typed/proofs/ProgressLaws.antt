-- Executions go on: what an evaluation, a statement and a turn take of the tape, and why each may end.
use Rattle.std.proofs.Common.{◌≡◌, ℕ, ◌+◌, ◌*◌, ◌≤◌, ◌<◌, zero, suc, ℤ, pos, ◌+ℤ◌, true, false, List, [], ◌∷◌, ◌++◌, length, length-append, refl, ap, sym, subst, ◌∙◌, arith, inl, inr}
use Rattle.std.proofs.lemmas.Int.{ints}
use Rattle.std.proofs.Math.Nat.{mul-le-mul_left, mul-suc, mul-zero}
use Rattle.std.specs.Prelude.{Bool, ◌&&◌, if◌then◌else◌, slice_get, Option, Some, None, min, unsigned_abs, Result as Either, Ok, Err}
use Rattle.std.specs.Int.RustNames.{int_le, int_lt}
use Rattle.std.specs.List.{AllByRecursion}
use Rattle.sa_base.specs.declared.alarm.Kind.{Kind}
use Rattle.sa_base.specs.declared.alarm.Kind.TheVariants.{Index}
use Rattle.sa_base.specs.declared.num.Num.{Num}
use Rattle.sa_base.specs.declared.num.Num.TheVariants.{I32}
use Rattle.sa_base.specs.declared.pos.Pos.{Pos}
use Rattle.sa_typed.specs.Arithmetic.{operate, prefixed, converted, as_num, is_of}
use Rattle.sa_typed.specs.Layouts.{nums, layout_of, num_in}
use Rattle.sa_typed.specs.Evaluation.{End, Error, Clock, Blocked, Tape, Going, Value, Gives, Stops, then_value, given, Store, Range, Setting, Here, is_in, range_of, read, checked_index, place_of, is_zero, eval, and_value, or_value, links_value, steps_value, step_value, read_place, access_place}
use Rattle.sa_typed.specs.Executions.{Loop, Visit, Run, State, Result, Goes, Breaks, Over, Turn, Again, Leaves, Ended, with_value, with_store, Activation, Bodies, here_in, any_numbers, simple_value, declare_value, then_state, then_again, visit_with, turns, after_body, turn_of, entered, delivered, chosen, is_listed, run, run_all, run_group, wait, block_of, bodies_of, main_of, main_activation, start, ended, execution, converted_value, compound_value, filled, strong_update, copied}
use Rattle.sa_typed.specs.Progress.{IsStraight, AreStraight, IsEnd, WaitLast, IsTurn, EndsInClock, EndInClock, reads, all_of_reads, links_reads, steps_reads, step_reads, place_reads, access_reads, start_reads, simple_reads, stmt_reads, all_reads, takes, all_of_take, links_take, steps_take, step_takes, place_takes, access_takes, is_of_all, start_takes, simple_takes, stmt_takes, all_take, SomeFails, AreTurns, Causes, Lasts, IsNoError, IsOver, GoesOn, NeverBreaks, IsUnbroken, IsClosed, AreClosed, HaveClosed}
use Rattle.sa_typed.specs.declared.expr.Expr.{Expr, Number, Read', Input, Prefix', Cast', Chain', And', Or', Choice', end_of-Expr, more_of-Expr, Row_of-Expr, Row_of-Link, end_of-Link, more_of-Link, Row_of-Step, end_of-Step, more_of-Step}
use Rattle.sa_typed.specs.declared.expr.Expr.TheVariants as e
use Rattle.sa_typed.specs.declared.expr.Operator.{Operator}
use Rattle.sa_typed.specs.declared.expr.Step.{Step, At', Field}
use Rattle.sa_typed.specs.declared.shape.Part.TheVariants as part
use Rattle.sa_typed.specs.declared.stmt.Start.{Start}
use Rattle.sa_typed.specs.declared.stmt.Start.TheVariants as begins
use Rattle.sa_typed.specs.declared.stmt.Simple.{Simple}
use Rattle.sa_typed.specs.declared.stmt.Simple.TheVariants.{Declare, Assign, Compound, Copy}
use Rattle.sa_typed.specs.declared.stmt.Destination.{Destination}
use Rattle.sa_typed.specs.declared.stmt.Label.{Label}
use Rattle.sa_typed.specs.declared.stmt.LoopKind.{LoopKind}
use Rattle.sa_typed.specs.declared.stmt.LoopKind.TheVariants as kind
use Rattle.sa_typed.specs.declared.stmt.Stmt.{Stmt, Row_of-Stmt, end_of-Stmt, more_of-Stmt, Row_of-Group, end_of-Group, more_of-Group}
use Rattle.sa_typed.specs.declared.stmt.Stmt.TheVariants as stmt
use Rattle.sa_typed.specs.declared.program.Program.{Program}

-- ---- tests
and_left : (a b : Bool) → (a && b) ≡ true → a ≡ true
and_left true b h = refl
and_left false b h = h

and_right : (a b : Bool) → (a && b) ≡ true → b ≡ true
and_right true b h = h
and_right false b h = cc

refused : (a b : Bool) → (a ≡ true → b ≡ true) → b ≡ false → a ≡ false
refused true b h e = let k = h refl in cc
refused false b h e = refl

-- ---- evaluations. `test` holds of the numbers that all reads take
module _ (test : ℤ → Bool) where
  -- at most so many numbers of the tape are taken
  record Took (k : ℕ) (tape rest : List ℤ) : Type 0 where
    count : length tape ≤ length rest + k
    back : SomeFails test rest → SomeFails test tape

  abbrev EndOk : ℕ → List ℤ → End → Type 0
  EndOk k tape (Error p kind) = Unit {0}
  EndOk k tape Clock = ⊥
  EndOk k tape Blocked = SomeFails test tape
  EndOk k tape Tape = length tape < k
  EndOk k tape Going = ⊥

  abbrev Fed : {A : Type 0} → ℕ → List ℤ → Value A → Type 0
  Fed k tape (Gives a rest) = Took k tape rest
  Fed k tape (Stops e) = EndOk k tape e

  abbrev Passes : (ℤ → Bool) → Type 0
  Passes reader = (z : ℤ) → test z ≡ true → reader z ≡ true

  left_passes : (f g : ℤ → Bool) → Passes (λ z. f z && g z) → Passes f
  left_passes f g h z t = and_left (f z) (g z) (h z t)

  right_passes : (f g : ℤ → Bool) → Passes (λ z. f z && g z) → Passes g
  right_passes f g h z t = and_right (f z) (g z) (h z t)

  none : (tape : List ℤ) → Took 0 tape tape
  none tape = record { count = omega arith; back = λ h. h }

  joined : (j k t : ℕ) (a b c : List ℤ) → j + k ≡ t → Took j a b → Took k b c → Took t a c
  joined j k t a b c e h l = record { count = (let x = h.count in let y = l.count in omega (arith, x, y)); back = λ s. h.back (l.back s) }

  end_more : (j k t : ℕ) (tape : List ℤ) (x : End) → j + k ≡ t → EndOk j tape x → EndOk t tape x
  end_more j k t tape (Error p kind) e h = tt
  end_more j k t tape Clock e h = h
  end_more j k t tape Blocked e h = h
  end_more j k t tape Tape e h = omega (arith, h)
  end_more j k t tape Going e h = h

  end_after : (j k t : ℕ) (a b : List ℤ) (x : End) → j + k ≡ t → Took j a b → EndOk k b x → EndOk t a x
  end_after j k t a b (Error p kind) e h l = tt
  end_after j k t a b Clock e h l = l
  end_after j k t a b Blocked e h l = h.back l
  end_after j k t a b Tape e h l = let x = h.count in omega (arith, l, x)
  end_after j k t a b Going e h l = l

  fed_after : {A : Type 0} (j k t : ℕ) (a b : List ℤ) (v : Value A) → j + k ≡ t → Took j a b → Fed k b v → Fed t a v
  fed_after j k t a b (Gives x c) e h l = joined j k t a b c e h l
  fed_after j k t a b (Stops x) e h l = end_after j k t a b x e h l

  -- one evaluation after another
  fed_then : {A B : Type 0} (j k t : ℕ) (tape : List ℤ) (v : Value A) (go : A → List ℤ → Value B) → j + k ≡ t → Fed j tape v → ((a : A) (rest : List ℤ) → Fed k rest (go a rest)) → Fed t tape (then_value v go)
  fed_then j k t tape (Gives a rest) go e h l = fed_after j k t tape rest (go a rest) e h (l a rest)
  fed_then j k t tape (Stops x) go e h l = end_more j k t tape x e h

  -- the last evaluation, of which a value is made
  fed_last : {A B : Type 0} (j : ℕ) (tape : List ℤ) (v : Value A) (go : A → List ℤ → Value B) → Fed j tape v → ((a : A) (rest : List ℤ) → Fed 0 rest (go a rest)) → Fed j tape (then_value v go)
  fed_last j tape v go h l = fed_then j 0 j tape v go (omega arith) h l

  fed_more : {A : Type 0} (j t : ℕ) (tape : List ℤ) (v : Value A) → j ≡ t → Fed j tape v → Fed t tape v
  fed_more j t tape v e h = subst (λ (k : ℕ). Fed k tape v) e h

  end_most : (j t : ℕ) (tape : List ℤ) (x : End) → j ≤ t → EndOk j tape x → EndOk t tape x
  end_most j t tape (Error p kind) e h = tt
  end_most j t tape Clock e h = h
  end_most j t tape Blocked e h = h
  end_most j t tape Tape e h = omega (arith, e, h)
  end_most j t tape Going e h = h

  -- a bound may be greater
  fed_most : {A : Type 0} (j t : ℕ) (tape : List ℤ) (v : Value A) → j ≤ t → Fed j tape v → Fed t tape v
  fed_most j t tape (Gives a rest) e h = record { count = (let x = h.count in omega (arith, x, e)); back = h.back }
  fed_most j t tape (Stops x) e h = end_most j t tape x e h

  given_ok : {A : Type 0} (p : Pos) (r : Either A Kind) (tape : List ℤ) → Fed 0 tape (given p r tape)
  given_ok p (Ok a) tape = none tape
  given_ok p (Err kind) tape = tt

  either_ok : {A : Type 0} (b : Bool) (k : ℕ) (tape : List ℤ) (x y : Value A) → Fed k tape x → Fed k tape y → Fed k tape (if b then x else y)
  either_ok true k tape x y h l = h
  either_ok false k tape x y h l = l

  index_ok : (p : Pos) (n : ℕ) (i : ℤ) (tape : List ℤ) → Fed 0 tape (checked_index p n i tape)
  index_ok p n i tape = either_ok (int_le (pos 0) i && int_lt i (pos n)) 0 tape (Gives (unsigned_abs i) tape) (Stops (Error p Index)) (none tape) tt

  one : (z : ℤ) (tape : List ℤ) → Took 1 (z ∷ tape) tape
  one z tape = record { count = omega arith; back = λ h. inr h }

  read_ok : (r : Range) (tape : List ℤ) → Passes (is_in r) → Fed 1 tape (read r tape)
  read_ok r [] h = omega arith
  read_ok r (z ∷ tape) h =
      elim (is_in r z) as (λ b. is_in r z ≡ b → Fed 1 (z ∷ tape) (if b then Gives z tape else Stops Blocked)) [
        | true ↦ λ _. one z tape
        | false ↦ λ f. inl (refused (test z) (is_in r z) (h z) f)
      ] refl

  -- one number for each element
  numbers_ok : (ns : List Num) (tape : List ℤ) → Passes (is_of_all ns) → Fed (length ns) tape (any_numbers ns tape)
  unfolding any_numbers is_of_all
  numbers_ok [] tape h = none tape
  numbers_ok (num ∷ ns) [] h = omega arith
  numbers_ok (num ∷ ns) (z ∷ tape) h =
      elim (is_of num z) as (λ b. is_of num z ≡ b →
      Fed (length (num ∷ ns)) (z ∷ tape) (if b then then_value (any_numbers ns tape) (λ zs tape. Gives (z ∷ zs) tape) else Stops Blocked)) [
        | true ↦ λ _. fed_after 1 (length ns) (length (num ∷ ns)) (z ∷ tape) tape (then_value (any_numbers ns tape) (λ zs tape. Gives (z ∷ zs) tape)) (omega arith) (one z tape)
            (fed_last (length ns) tape (any_numbers ns tape) (λ zs tape. Gives (z ∷ zs) tape) (numbers_ok ns tape (λ y t. and_right (is_of num y) (is_of_all ns y) (h y t))) (λ zs rest. none rest))
        | false ↦ λ f. inl (refused (test z) (is_of num z) (λ t. and_left (is_of num z) (is_of_all ns z) (h z t)) f)
      ] refl

  module _ (w : Setting) (here : Here) (st : Store) where
    mutual
      unfolding eval reads takes

      eval_ok : (a : Expr) (tape : List ℤ) → Passes (takes w a) → Fed (reads a) tape (eval w here st a tape)
      eval_ok (Number n num) tape h = none tape
      eval_ok (Read' v n steps num) tape h =
          fed_last (steps_reads steps) tape (steps_value w here st steps tape) (λ parts tape. Gives (st (place_of here v parts)) tape) (steps_ok steps tape h) (λ parts rest. none rest)
      eval_ok (Input k num) tape h = read_ok (range_of w k) tape h
      eval_ok (Prefix' op p num n (more_of-Expr a end_of-Expr)) tape h =
          fed_last (reads a) tape (eval w here st a tape) (λ x tape. given p (prefixed op num x) tape) (eval_ok a tape h) (λ x rest. given_ok p (prefixed op num x) rest)
      eval_ok (Cast' p num n (more_of-Expr a end_of-Expr)) tape h =
          fed_last (reads a) tape (eval w here st a tape) (λ x tape. given p (converted num x) tape) (eval_ok a tape h) (λ x rest. given_ok p (converted num x) rest)
      eval_ok (Chain' n (more_of-Expr a end_of-Expr) m ls) tape h =
          links_ok ls (reads a) tape (eval w here st a tape) (right_passes (takes w a) (links_take w ls) h) (eval_ok a tape (left_passes (takes w a) (links_take w ls) h))
      eval_ok (And' n (more_of-Expr a end_of-Expr) m rest) tape h =
          and_ok rest (reads a) tape (eval w here st a tape) (right_passes (takes w a) (all_of_take w rest) h) (eval_ok a tape (left_passes (takes w a) (all_of_take w rest) h))
      eval_ok (Or' n (more_of-Expr a end_of-Expr) m rest) tape h =
          or_ok rest (reads a) tape (eval w here st a tape) (right_passes (takes w a) (all_of_take w rest) h) (eval_ok a tape (left_passes (takes w a) (all_of_take w rest) h))
      eval_ok (Choice' n (more_of-Expr a end_of-Expr) m (more_of-Expr b end_of-Expr) l (more_of-Expr c end_of-Expr) num) tape h =
          let k = right_passes (takes w a) (λ z. takes w b z && takes w c z) h in
          fed_then (reads a) (reads b + reads c) (reads a + (reads b + reads c)) tape (eval w here st a tape)
          (λ x tape. then_value (if is_zero x then eval w here st c tape else eval w here st b tape) (λ y tape. Gives (as_num num y) tape)) refl
          (eval_ok a tape (left_passes (takes w a) (λ z. takes w b z && takes w c z) h))
          (λ x t. fed_last (reads b + reads c) t (if is_zero x then eval w here st c t else eval w here st b t) (λ y tape. Gives (as_num num y) tape)
          (either_ok (is_zero x) (reads b + reads c) t (eval w here st c t) (eval w here st b t)
          (fed_most (reads c) (reads b + reads c) t (eval w here st c t) (omega arith) (eval_ok c t (right_passes (takes w b) (takes w c) k)))
          (fed_most (reads b) (reads b + reads c) t (eval w here st b t) (omega arith) (eval_ok b t (left_passes (takes w b) (takes w c) k))))
          (λ y u. none u))

      -- operands of `&&` and `||` after a value that took at most `j` numbers
      and_ok : {n : _} (es : Row_of-Expr n) (j : ℕ) (tape : List ℤ) (v : Value ℤ) → Passes (all_of_take w es) → Fed j tape v → Fed (j + all_of_reads es) tape (and_value w here st es v)
      and_ok end_of-Expr j tape v h f =
          fed_then j 0 (j + 0) tape v (λ x tape. if is_zero x then Gives (pos 0) tape else Gives (pos 1) tape) refl f
          (λ x t. either_ok (is_zero x) 0 t (Gives (pos 0) t) (Gives (pos 1) t) (none t) (none t))
      and_ok (more_of-Expr b rest) j tape v h f =
          fed_then j (reads b + all_of_reads rest) (j + (reads b + all_of_reads rest)) tape v (λ x tape. if is_zero x then Gives (pos 0) tape else and_value w here st rest (eval w here st b tape)) refl f
          (λ x t. either_ok (is_zero x) (reads b + all_of_reads rest) t (Gives (pos 0) t) (and_value w here st rest (eval w here st b t)) (fed_most 0 (reads b + all_of_reads rest) t (Gives (pos 0) t) (omega arith) (none t))
          (and_ok rest (reads b) t (eval w here st b t) (right_passes (takes w b) (all_of_take w rest) h) (eval_ok b t (left_passes (takes w b) (all_of_take w rest) h))))

      or_ok : {n : _} (es : Row_of-Expr n) (j : ℕ) (tape : List ℤ) (v : Value ℤ) → Passes (all_of_take w es) → Fed j tape v → Fed (j + all_of_reads es) tape (or_value w here st es v)
      or_ok end_of-Expr j tape v h f =
          fed_then j 0 (j + 0) tape v (λ x tape. if is_zero x then Gives (pos 0) tape else Gives (pos 1) tape) refl f
          (λ x t. either_ok (is_zero x) 0 t (Gives (pos 0) t) (Gives (pos 1) t) (none t) (none t))
      or_ok (more_of-Expr b rest) j tape v h f =
          fed_then j (reads b + all_of_reads rest) (j + (reads b + all_of_reads rest)) tape v (λ x tape. if is_zero x then or_value w here st rest (eval w here st b tape) else Gives (pos 1) tape) refl f
          (λ x t. either_ok (is_zero x) (reads b + all_of_reads rest) t (or_value w here st rest (eval w here st b t)) (Gives (pos 1) t)
          (or_ok rest (reads b) t (eval w here st b t) (right_passes (takes w b) (all_of_take w rest) h) (eval_ok b t (left_passes (takes w b) (all_of_take w rest) h)))
          (fed_most 0 (reads b + all_of_reads rest) t (Gives (pos 1) t) (omega arith) (none t)))

      -- links after a value that took `j` numbers
      links_ok : {n : _} (ls : Row_of-Link n) (j : ℕ) (tape : List ℤ) (v : Value ℤ) → Passes (links_take w ls) → Fed j tape v → Fed (j + links_reads ls) tape (links_value w here st ls v)
      links_ok end_of-Link j tape v h f = fed_more j (j + 0) tape v (omega arith) f
      links_ok (more_of-Link op p num b rest) j tape v h f =
          let next = λ (x : ℤ) (tape : List ℤ). then_value (eval w here st b tape) (λ y tape. given p (operate op num x y) tape) in
          fed_more (j + reads b + links_reads rest) (j + (reads b + links_reads rest)) tape (links_value w here st rest (then_value v next)) (omega arith)
          (links_ok rest (j + reads b) tape (then_value v next) (right_passes (takes w b) (links_take w rest) h)
          (fed_then j (reads b) (j + reads b) tape v next refl f (λ x t. fed_last (reads b) t (eval w here st b t) (λ y tape. given p (operate op num x y) tape) (eval_ok b t (left_passes (takes w b) (links_take w rest) h)) (λ y u. given_ok p (operate op num x y) u))))

      steps_ok : {n : _} (steps : Row_of-Step n) (tape : List ℤ) → Passes (steps_take w steps) → Fed (steps_reads steps) tape (steps_value w here st steps tape)
      steps_ok end_of-Step tape h = none tape
      steps_ok (more_of-Step s rest) tape h =
          fed_then (step_reads s) (steps_reads rest) (step_reads s + steps_reads rest) tape (step_value w here st s tape) (λ s tape. then_value (steps_value w here st rest tape) (λ parts tape. Gives (s ∷ parts) tape)) refl
          (step_ok s tape (left_passes (step_takes w s) (steps_take w rest) h))
          (λ x t. fed_last (steps_reads rest) t (steps_value w here st rest t) (λ parts tape. Gives (x ∷ parts) tape) (steps_ok rest t (right_passes (step_takes w s) (steps_take w rest) h)) (λ parts u. none u))

      step_ok : (s : Step) (tape : List ℤ) → Passes (step_takes w s) → Fed (step_reads s) tape (step_value w here st s tape)
      step_ok (At' p n m (more_of-Expr a end_of-Expr)) tape h =
          fed_last (reads a) tape (eval w here st a tape) (λ i tape. then_value (checked_index p n i tape) (λ i tape. Gives (part.At i) tape)) (eval_ok a tape h)
          (λ i t. fed_last 0 t (checked_index p n i t) (λ i tape. Gives (part.At i) tape) (index_ok p n i t) (λ k u. none u))
      step_ok (Field f) tape h = none tape

    place_ok : (a : Expr) (tape : List ℤ) → Passes (place_takes w a) → Fed (place_reads a) tape (read_place w here st a tape)
    unfolding read_place place_reads place_takes
    place_ok (Read' v n steps num) tape h =
        fed_last (steps_reads steps) tape (steps_value w here st steps tape) (λ parts tape. Gives (place_of here v parts) tape) (steps_ok steps tape h) (λ parts rest. none rest)
    place_ok _ tape h = none tape

    -- ---- simple statements
    converted_ok : (num : Num) (q : Pos) (a : Expr) (tape : List ℤ) → Passes (takes w a) → Fed (reads a) tape (converted_value w here st num q a tape)
    converted_ok num q a tape h =
        fed_last (reads a) tape (eval w here st a tape) (λ z tape. given q (converted num z) tape) (eval_ok a tape h) (λ z rest. given_ok q (converted num z) rest)

    compound_ok : (num : Num) (op : Operator) (work : Num) (q : Pos) (x : ℤ) (a : Expr) (tape : List ℤ) → Passes (takes w a) → Fed (reads a) tape (compound_value w here st num op work q x a tape)
    compound_ok num op work q x a tape h =
        fed_last (reads a) tape (eval w here st a tape) (λ y tape. then_value (given q (operate op work x y) tape) (λ z tape. given q (converted num z) tape)) (eval_ok a tape h)
        (λ y t. fed_last 0 t (given q (operate op work x y) t) (λ z tape. given q (converted num z) tape) (given_ok q (operate op work x y) t) (λ z u. given_ok q (converted num z) u))

  -- what a simple statement takes of the tape
  module _ (p : Program) (w : Setting) (here : Here) (st : Store) where
    start_ok : (v : ℕ) (s : Start) (tape : List ℤ) → Passes (start_takes p w v s) → Fed (start_reads p v s) tape (declare_value p w here v s st tape)
    unfolding declare_value
    start_ok v begins.Any tape h =
        fed_last (length (nums (layout_of p v))) tape (any_numbers (nums (layout_of p v)) tape) (λ zs tape. Gives (filled p here v zs st) tape) (numbers_ok (nums (layout_of p v)) tape h) (λ zs rest. none rest)
    start_ok v (begins.Value q a) tape h =
        fed_last (reads a) tape (converted_value w here st (num_in (layout_of p v)) q a tape) (λ z tape. Gives (strong_update (place_of here v []) z st) tape)
        (converted_ok w here st (num_in (layout_of p v)) q a tape h) (λ z rest. none rest)
    start_ok v begins.Items tape h = none tape

    simple_ok : (s : Simple) (tape : List ℤ) → Passes (simple_takes p w s) → Fed (simple_reads p s) tape (simple_value p w here s st tape)
    unfolding simple_value
    simple_ok (Declare v s) tape h = start_ok v s tape h
    simple_ok (Assign x num q a) tape h =
        fed_then (access_reads x) (reads a) (access_reads x + reads a) tape (access_place w here st x tape) (λ b tape. then_value (converted_value w here st num q a tape) (λ z tape. Gives (strong_update b z st) tape)) refl
        (place_ok w here st (e.Read x I32) tape (left_passes (access_takes w x) (takes w a) h))
        (λ b t. fed_last (reads a) t (converted_value w here st num q a t) (λ z tape. Gives (strong_update b z st) tape) (converted_ok w here st num q a t (right_passes (access_takes w x) (takes w a) h)) (λ z u. none u))
    simple_ok (Compound x num op q work a) tape h =
        fed_then (access_reads x) (reads a) (access_reads x + reads a) tape (access_place w here st x tape) (λ b tape. then_value (compound_value w here st num op work q (st b) a tape) (λ z tape. Gives (strong_update b z st) tape)) refl
        (place_ok w here st (e.Read x I32) tape (left_passes (access_takes w x) (takes w a) h))
        (λ b t. fed_last (reads a) t (compound_value w here st num op work q (st b) a t) (λ z tape. Gives (strong_update b z st) tape) (compound_ok w here st num op work q (st b) a t (right_passes (access_takes w x) (takes w a) h)) (λ z u. none u))
    simple_ok (Copy k x q y) tape h =
        fed_then (access_reads x) (access_reads y) (access_reads x + access_reads y) tape (access_place w here st x tape) (λ a tape. then_value (access_place w here st y tape) (λ b tape. Gives (copied a b st) tape)) refl
        (place_ok w here st (e.Read x I32) tape (left_passes (access_takes w x) (access_takes w y) h))
        (λ a t. fed_last (access_reads y) t (access_place w here st y t) (λ b tape. Gives (copied a b st) tape) (place_ok w here st (e.Read y I32) t (right_passes (access_takes w x) (access_takes w y) h)) (λ b u. none u))

  -- ---- statements without a loop
  -- a state after so many numbers were taken, with no further visit and no tick
  record Moved (k : ℕ) (st new : State) : Type 0 where
    clock : new.clock ≡ st.clock
    left : new.left ≡ st.left
    visits : new.visits ≡ st.visits
    tape : Took k st.tape new.tape

  record Stopped (k : ℕ) (st : State) (r : Run) : Type 0 where
    visits : r.visits ≡ st.visits
    end : EndOk k st.tape r.end

  abbrev Straight : ℕ → State → Result → Type 0
  Straight k st (Goes new) = Moved k st new
  Straight k st (Breaks new) = ⊥
  Straight k st (Over r) = Stopped k st r

  straight_value : (k : ℕ) (st : State) (v : Value Store) → Fed k st.tape v → Straight k st (with_value st v (λ store st. Goes (with_store st store)))
  straight_value k st (Gives store tape) h = record { clock = refl; left = refl; visits = refl; tape = h }
  straight_value k st (Stops x) h = record { visits = refl; end = h }

  straight_after : (j k t : ℕ) (st new : State) (r : Result) → j + k ≡ t → Moved j st new → Straight k new r → Straight t st r
  straight_after j k t st new (Goes x) e h l = record { clock = l.clock ∙ h.clock; left = l.left ∙ h.left; visits = l.visits ∙ h.visits; tape = joined j k t st.tape new.tape x.tape e h.tape l.tape }
  straight_after j k t st new (Breaks x) e h l = absurd l
  straight_after j k t st new (Over r) e h l = record { visits = l.visits ∙ h.visits; end = end_after j k t st.tape new.tape r.end e h.tape l.end }

  straight_then : (j k t : ℕ) (st : State) (r : Result) (go : State → Result) → j + k ≡ t → Straight j st r → ((new : State) → Straight k new (go new)) → Straight t st (then_state r go)
  straight_then j k t st (Goes new) go e h l = straight_after j k t st new (go new) e h (l new)
  straight_then j k t st (Breaks new) go e h l = absurd h
  straight_then j k t st (Over r) go e h l = record { visits = h.visits; end = end_more j k t st.tape r.end e h.end }

  module _ (p : Program) (w : Setting) (bodies : Bodies) (act : Activation) where
    mutual
      unfolding run stmt_reads stmt_takes IsStraight

      straight_ok : (s : Stmt) (st : State) → IsStraight s → Passes (stmt_takes p w s) → Straight (stmt_reads p s) st (run p w bodies act s st)
      straight_ok (Stmt.Simple s) st n h = straight_value (simple_reads p s) st (simple_value p w (here_in act st) s st.store st.tape) (simple_ok p w (here_in act st) st.store s st.tape h)
      straight_ok (Stmt.Scope v) st n h = record { clock = refl; left = refl; visits = refl; tape = none st.tape }
      straight_ok (Stmt.Block' k all) st n h = all_straight all st n h
      straight_ok (Stmt.Call _ _ _ _) st n h = absurd n
      straight_ok (Stmt.If' _ _ _ _ _ _) st n h = absurd n
      straight_ok (Stmt.Switch' _ _ _ _ _) st n h = absurd n
      straight_ok (Stmt.Loop' _ _ _ _ _ _) st n h = absurd n
      straight_ok (Stmt.Known _) st n h = absurd n
      straight_ok (Stmt.Assert _ _) st n h = absurd n
      straight_ok Stmt.Wait st n h = absurd n
      straight_ok Stmt.Break st n h = absurd n
      straight_ok (Stmt.Return _ _ _) st n h = absurd n

      all_straight : {k : _} (r : Row_of-Stmt k) (st : State) → AreStraight r → Passes (all_take p w r) → Straight (all_reads p r) st (run_all p w bodies act r st)
      all_straight end_of-Stmt st n h = record { clock = refl; left = refl; visits = refl; tape = none st.tape }
      all_straight (more_of-Stmt s rest) st n h =
          straight_then (stmt_reads p s) (all_reads p rest) (stmt_reads p s + all_reads p rest) st (run p w bodies act s st) (λ st. run_all p w bodies act rest st) refl
          (straight_ok s st n.0 (left_passes (stmt_takes p w s) (all_take p w rest) h))
          (λ new. all_straight rest new n.1 (right_passes (stmt_takes p w s) (all_take p w rest) h))

-- ---- turns of the clock loop
turns_append : (q : Pos) (k c : ℕ) (vs : List Visit) (v : Visit) → AreTurns q k vs → k + length vs ≡ c → v.loop ≡ record { path = []; place = q } → v.clock ≡ pos c → AreTurns q k (vs ++ v ∷ [])
turns_append q k c [] v h e l t = (l, t ∙ ap pos (let x : c ≡ k = omega (arith, e) in x), tt)
turns_append q k c (u ∷ vs) v h e l t = (h.0, h.1, turns_append q (k + 1) c vs v h.2 (omega (arith, e)) l t)

made_more : (vs : List Visit) (v : Visit) (c : ℕ) → length vs ≡ c → length (vs ++ v ∷ []) ≡ c + 1
made_more vs v c h = length-append vs (v ∷ []) ∙ (let x : length vs + 1 ≡ c + 1 = omega (arith, h) in x)

at_last : (m t : ℤ) (last c : ℕ) → m ≡ pos last → t ≡ pos c → int_le m t ≡ true → last ≤ c
at_last m t last c h l e = grind (arith, ints)

before_last : (m t : ℤ) (last c : ℕ) → m ≡ pos last → t ≡ pos c → int_le m t ≡ false → c + 1 ≤ last
before_last m t last c h l e = grind (arith, ints)

room_less : (a c n : ℕ) → c + 1 ≤ n → a * (c + 1) + a ≤ a * (n + 1)
room_less a c n h = let x : suc (c + 1) ≤ n + 1 = omega (arith, h) in let y = mul-le-mul_left a x in let z = mul-suc a (c + 1) in omega (arith, y, z)

first_part : (a n : ℕ) → a ≤ a * (n + 1)
first_part a n = let x : suc 0 ≤ n + 1 = omega arith in let y = mul-le-mul_left a x in let z = mul-suc a 0 in let u = mul-zero a in omega (arith, y, z, u)

-- an execution on this tape, up to n visits, of a program whose main takes `all` numbers of the tape in its statements
-- before the loop and one turn
module _ (p : Program) (w : Setting) (bodies : Bodies) (act : Activation) (main : act.path ≡ []) (q : Pos) (last : ℕ) (limit : w.max_clock ≡ pos last) (tape : List ℤ) (n : ℕ) where
  abbrev test : ℤ → Bool
  test = stmt_takes p w (main_of p)

  abbrev all : ℕ
  all = stmt_reads p (main_of p)

  -- before the turn with this clock
  record AtTurn (c tries : ℕ) (st : State) : Type 0 where
    turns : AreTurns q 0 st.visits
    made : length st.visits ≡ c
    clock : st.clock ≡ pos c
    left : st.left ≡ tries
    clocks : c ≤ last
    total : c + tries ≡ n
    room : length tape ≤ length st.tape + all * (c + 1)
    back : SomeFails test st.tape → SomeFails test tape

  abbrev Ends : Result → Type 0
  Ends (Goes st) = ⊥
  Ends (Breaks st) = ⊥
  Ends (Over r) = Lasts p w q last tape n r

  -- in the turn with this clock, after its visit, where at most so many numbers were taken
  record InTurn (c tries taken : ℕ) (st : State) : Type 0 where
    turns : AreTurns q 0 st.visits
    made : length st.visits ≡ c + 1
    clock : st.clock ≡ pos c
    left : st.left ≡ tries
    clocks : c ≤ last
    total : c + 1 + tries ≡ n
    room : length tape ≤ length st.tape + taken
    back : SomeFails test st.tape → SomeFails test tape

  end_cause : (k j c m : ℕ) (rest : List ℤ) (x : End) → j + k ≤ all → c + 1 ≤ n → length tape ≤ length rest + (all * (c + 1) + j) → (SomeFails test rest → SomeFails test tape) → EndOk test k rest x → Causes p w last tape n m x
  end_cause k j c m rest (Error a kind) h l s back e = tt
  end_cause k j c m rest Clock h l s back e = absurd e
  end_cause k j c m rest Blocked h l s back e = back e
  end_cause k j c m rest Tape h l s back e = let x = room_less all c n l in omega (arith, x, s, e, h)
  end_cause k j c m rest Going h l s back e = absurd e

  -- after a turn: before the next one, or the run is over
  abbrev Done : ℕ → ℕ → Result → Type 0
  Done c tries (Goes st) = AtTurn (c + 1) tries st
  Done c tries (Breaks st) = ⊥
  Done c tries (Over r) = Lasts p w q last tape n r

  -- the wait after a turn
  wait_ok : (c tries : ℕ) (new : State) → InTurn c tries (all * (c + 1) + all) new → Done c tries (wait w.max_clock new)
  wait_ok c tries new h =
      elim (int_le w.max_clock new.clock) as (λ b. int_le w.max_clock new.clock ≡ b →
      Done c tries (if b then Over (record { visits = new.visits; end = Clock }) else Goes (record new { clock = new.clock +ℤ pos 1 }))) [
        | true ↦ λ t.
            let x = h.made in let y = h.total in let z = h.clocks in let u = at_last w.max_clock new.clock last c limit h.clock t in
            record { turns = h.turns; within = omega (arith, x, y); clocks = omega (arith, x, z); cause = omega (arith, x, z, u) }
        | false ↦ λ f.
            let y = h.total in let r = h.room in let m = mul-suc all (c + 1) in
            record {
              turns = h.turns;
              made = h.made;
              clock = ap (λ (z : ℤ). z +ℤ pos 1) h.clock;
              left = h.left;
              clocks = before_last w.max_clock new.clock last c limit h.clock f;
              total = h.total;
              room = omega (arith, r, m);
              back = h.back;
            }
      ] refl

  in_more : (c tries j k t : ℕ) (st new : State) → j + k ≡ t → InTurn c tries (all * (c + 1) + j) st → Moved test k st new → InTurn c tries (all * (c + 1) + t) new
  in_more c tries j k t st new e h s =
      let r = h.room in let x = s.tape.count in
      record {
        turns = subst (AreTurns q 0) (sym s.visits) h.turns;
        made = ap length s.visits ∙ h.made;
        clock = s.clock ∙ h.clock;
        left = s.left ∙ h.left;
        clocks = h.clocks;
        total = h.total;
        room = omega (arith, r, x, e);
        back = λ x. h.back (s.tape.back x);
      }

  in_over : (c tries j k : ℕ) (st : State) (r : Run) → j + k ≤ all → InTurn c tries (all * (c + 1) + j) st → Stopped test k st r → Lasts p w q last tape n r
  in_over c tries j k st r few h s =
      let m : length r.visits ≡ c + 1 = ap length s.visits ∙ h.made in
      let x = h.total in let y = h.clocks in
      record {
        turns = subst (AreTurns q 0) (sym s.visits) h.turns;
        within = omega (arith, m, x);
        clocks = omega (arith, m, y);
        cause = end_cause k j c (length r.visits) st.tape r.end few (omega (arith, x)) h.room h.back s.end;
      }

  done_then : (c tries j k t : ℕ) (st : State) (x : Result) (go : State → Result) → j + k ≡ t → t ≤ all → InTurn c tries (all * (c + 1) + j) st → Straight test k st x →
      ((new : State) → InTurn c tries (all * (c + 1) + t) new → Done c tries (go new)) → Done c tries (then_state x go)
  done_then c tries j k t st (Goes new) go e few h s l = l new (in_more c tries j k t st new e h s)
  done_then c tries j k t st (Breaks new) go e few h s l = absurd s
  done_then c tries j k t st (Over r) go e few h s l = in_over c tries j k st r (omega (arith, e, few)) h s

  in_most : (c tries j t : ℕ) (st : State) → j ≤ t → InTurn c tries (all * (c + 1) + j) st → InTurn c tries (all * (c + 1) + t) st
  in_most c tries j t st e h = record {
    turns = h.turns;
    made = h.made;
    clock = h.clock;
    left = h.left;
    clocks = h.clocks;
    total = h.total;
    room = (let r = h.room in omega (arith, r, e));
    back = h.back;
  }

  at_wait : (c tries : ℕ) {k : _} (rest : Row_of-Stmt k) (s : Stmt) (st : State) → s ≡ stmt.Wait → IsEnd rest → InTurn c tries (all * (c + 1) + all) st → Done c tries (run_all p w bodies act (more_of-Stmt s rest) st)
  unfolding run
  at_wait c tries (more_of-Stmt s rest) s' st e f h = absurd f
  at_wait c tries end_of-Stmt s st e f h =
      subst (λ (s : Stmt). Done c tries (then_state (run p w bodies act s st) (λ st. Goes st))) (sym e) (ended_done (wait w.max_clock st) (wait_ok c tries st h))
    where
      ended_done : (x : Result) → Done c tries x → Done c tries (then_state x (λ st. Goes st))
      ended_done (Goes st) d = d
      ended_done (Breaks st) d = absurd d
      ended_done (Over r) d = d

  -- the statements of a turn, where at most so many numbers were taken in it
  turn_ok : (c tries : ℕ) {k : _} (row : Row_of-Stmt k) (used : ℕ) (st : State) → WaitLast row → Passes test (all_take p w row) → used + all_reads p row ≤ all → InTurn c tries (all * (c + 1) + used) st →
      Done c tries (run_all p w bodies act row st)
  unfolding run WaitLast stmt_reads stmt_takes
  turn_ok c tries end_of-Stmt used st e h few b = absurd e
  turn_ok c tries (more_of-Stmt s rest) used st (inl e) h few b = at_wait c tries rest s st e.0 e.1 (in_most c tries used all st (omega (arith, few)) b)
  turn_ok c tries (more_of-Stmt s rest) used st (inr e) h few b =
      done_then c tries used (stmt_reads p s) (used + stmt_reads p s) st (run p w bodies act s st) (λ st. run_all p w bodies act rest st) refl (omega (arith, few)) b
      (straight_ok test p w bodies act s st e.0 (left_passes test (stmt_takes p w s) (all_take p w rest) h))
      (λ new i. turn_ok c tries rest (used + stmt_reads p s) new e.1 (right_passes test (stmt_takes p w s) (all_take p w rest) h) (omega (arith, few)) i)

  module _ (loop : Loop) (is : loop ≡ record { path = []; place = q }) {k : _} (row : Row_of-Stmt k) (waits : WaitLast row) (passes : Passes test (all_take p w row)) (few : all_reads p row ≤ all) where
    abbrev one_turn : State → Turn
    one_turn st = after_body (run_all p w bodies act row st) (λ st. Again st)

    visit_ok : (left c tries : ℕ) (st : State) (go : State → Result) → left ≡ suc tries → AtTurn c (suc tries) st → ((new : State) → InTurn c tries (all * (c + 1)) new → Ends (go new)) → Ends (visit_with left loop st go)
    visit_ok zero c tries st go e h l = absurd (omega (arith, e))
    visit_ok (suc left) c tries st go e h l =
        let v : Visit = record { loop = loop; store = st.store; clock = st.clock } in
        l (record st { left = left; visits = st.visits ++ v ∷ [] }) (record {
          turns = turns_append q 0 c st.visits v h.turns (let x = h.made in omega (arith, x)) is h.clock;
          made = made_more st.visits v c h.made;
          clock = h.clock;
          left = omega (arith, e);
          clocks = h.clocks;
          total = (let x = h.total in omega (arith, x));
          room = h.room;
          back = h.back;
        })

    in_start : (c tries : ℕ) (st : State) → InTurn c tries (all * (c + 1)) st → InTurn c tries (all * (c + 1) + 0) st
    in_start c tries st h = record {
      turns = h.turns;
      made = h.made;
      clock = h.clock;
      left = h.left;
      clocks = h.clocks;
      total = h.total;
      room = (let r = h.room in omega (arith, r));
      back = h.back;
    }

    again_ok : (c tries : ℕ) (x : Result) (go : State → Result) → Done c tries x → ((st : State) → AtTurn (c + 1) tries st → Ends (go st)) → Ends (then_again (after_body x (λ st. Again st)) go)
    again_ok c tries (Goes st) go h l = l st h
    again_ok c tries (Breaks st) go h l = absurd h
    again_ok c tries (Over r) go h l = h

    turns_ok : (tries c : ℕ) (st : State) → AtTurn c tries st → Ends (turns loop one_turn tries st)
    unfolding turns
    turns_ok zero c st h = record {
      turns = h.turns;
      within = (let x = h.made in let y = h.total in omega (arith, x, y));
      clocks = (let x = h.made in let y = h.clocks in omega (arith, x, y));
      cause = (let x = h.made in let y = h.total in omega (arith, x, y));
    }
    turns_ok (suc tries) c st h =
        visit_ok st.left c tries st (λ st. then_again (one_turn st) (λ st. turns loop one_turn tries st)) h.left h
        (λ new i. again_ok c tries (run_all p w bodies act row new) (λ st. turns loop one_turn tries st) (turn_ok c tries row 0 new waits passes (omega (arith, few)) (in_start c tries new i)) (λ st j. turns_ok tries (c + 1) st j))

  -- ---- down to the clock loop
  -- before it, where so many numbers were taken and at most `left` follow up to the end of its first turn
  record IsBefore (used : ℕ) (st : State) : Type 0 where
    visits : st.visits ≡ []
    clock : st.clock ≡ pos 0
    left : st.left ≡ n
    room : Took test used tape st.tape

  before_more : (j k t : ℕ) (st new : State) → j + k ≡ t → IsBefore j st → Moved test k st new → IsBefore t new
  before_more j k t st new e h l = record { visits = l.visits ∙ h.visits; clock = l.clock ∙ h.clock; left = l.left ∙ h.left; room = joined test j k t tape st.tape new.tape e h.room l.tape }

  before_end : (used k m : ℕ) (rest : List ℤ) (x : End) → Took test used tape rest → used + k ≤ all → EndOk test k rest x → Causes p w last tape n m x
  before_end used k m rest (Error a kind) h l e = tt
  before_end used k m rest Clock h l e = absurd e
  before_end used k m rest Blocked h l e = h.back e
  before_end used k m rest Tape h l e = let c = h.count in let r = mul-suc all n in let u : all ≤ all * (n + 1) = first_part all n in omega (arith, c, l, e, u)
  before_end used k m rest Going h l e = absurd e

  over_before : (used k : ℕ) (st : State) (r : Run) → IsBefore used st → used + k ≤ all → Stopped test k st r → Lasts p w q last tape n r
  over_before used k st r b h s =
      let none : r.visits ≡ [] = s.visits ∙ b.visits in
      let no : length r.visits ≡ 0 = ap length none in
      record {
        turns = subst (AreTurns q 0) (sym none) tt;
        within = omega (arith, no);
        clocks = omega (arith, no);
        cause = before_end used k (length r.visits) st.tape r.end b.room h s.end;
      }

  ends_then : (x : Result) (go : State → Result) → Ends x → Ends (then_state x go)
  ends_then (Goes st) go h = absurd h
  ends_then (Breaks st) go h = absurd h
  ends_then (Over r) go h = h

  before_then : (used k t : ℕ) (st : State) (x : Result) (go : State → Result) → used + k ≡ t → t ≤ all → IsBefore used st → Straight test k st x → ((new : State) → IsBefore t new → Ends (go new)) → Ends (then_state x go)
  before_then used k t st (Goes new) go e u b s l = l new (before_more used k t st new e b s)
  before_then used k t st (Breaks new) go e u b s l = absurd s
  before_then used k t st (Over r) go e u b s l = over_before used k st r b (omega (arith, e, u)) s

  clock_ok : (r : Pos) {k : _} (row : Row_of-Stmt k) (used : ℕ) (st : State) → r ≡ q → WaitLast row → Passes test (all_take p w row) → used + all_reads p row ≤ all → IsBefore used st →
      Ends (turns (record { path = act.path; place = r }) (λ st. after_body (run_all p w bodies act row st) (λ st. Again st)) st.left st)
  clock_ok r row used st e waits passes few b =
      let a = b.left in let c = b.room.count in let u = mul-suc all 0 in let z = mul-zero all in
      turns_ok (record { path = act.path; place = r }) (ap (λ (path : List Pos). record { path = path; place = r }) main ∙ ap (λ (x : Pos). record { path = []; place = x }) e) row waits passes (omega (arith, few)) st.left 0 st (record {
        turns = subst (AreTurns q 0) (sym b.visits) tt;
        made = ap length b.visits;
        clock = b.clock;
        left = refl;
        clocks = omega arith;
        total = omega (arith, a);
        room = (let m : all ≤ all * (0 + 1) = first_part all 0 in omega (arith, c, few, m));
        back = b.room.back;
      })

  loop_ok : (r : Pos) (form : LoopKind) (cond : Option Expr) (body : Stmt) (step : Option Simple) (used : ℕ) (st : State) → r ≡ q → IsTurn form cond body step → Passes test (stmt_takes p w body) → used + stmt_reads p body ≤ all → IsBefore used st →
      Ends (turns (record { path = act.path; place = r }) (turn_of p w act form cond (λ st. run p w bodies act body st) step) st.left st)
  unfolding run stmt_reads stmt_takes
  loop_ok r kind.Clock None (Stmt.Block' k row) None used st e t h few b = clock_ok r row used st e t h few b
  loop_ok r _ _ _ _ used st e t h few b = absurd t

  mutual
    unfolding run stmt_reads stmt_takes EndsInClock

    main_ok : (s : Stmt) (used : ℕ) (st : State) → EndsInClock q s → Passes test (stmt_takes p w s) → used + stmt_reads p s ≤ all → IsBefore used st → Ends (run p w bodies act s st)
    main_ok (Stmt.Block' k row) used st e h few b = all_main row used st e h few b
    main_ok (Stmt.Loop' r form cond k (more_of-Stmt body end_of-Stmt) step) used st e h few b = loop_ok r form cond body step used st e.0 e.1 h few b
    main_ok (Stmt.Simple _) used st e h few b = absurd e
    main_ok (Stmt.Scope _) used st e h few b = absurd e
    main_ok (Stmt.Call _ _ _ _) used st e h few b = absurd e
    main_ok (Stmt.If' _ _ _ _ _ _) used st e h few b = absurd e
    main_ok (Stmt.Switch' _ _ _ _ _) used st e h few b = absurd e
    main_ok (Stmt.Known _) used st e h few b = absurd e
    main_ok (Stmt.Assert _ _) used st e h few b = absurd e
    main_ok Stmt.Wait used st e h few b = absurd e
    main_ok Stmt.Break used st e h few b = absurd e
    main_ok (Stmt.Return _ _ _) used st e h few b = absurd e

    all_main : {k : _} (r : Row_of-Stmt k) (used : ℕ) (st : State) → EndInClock q r → Passes test (all_take p w r) → used + all_reads p r ≤ all → IsBefore used st → Ends (run_all p w bodies act r st)
    all_main end_of-Stmt used st e h few b = absurd e
    all_main (more_of-Stmt s rest) used st (inl e) h few b =
        ends_then (run p w bodies act s st) (λ st. run_all p w bodies act rest st) (main_ok s used st e.0 (left_passes test (stmt_takes p w s) (all_take p w rest) h) (omega (arith, few)) b)
    all_main (more_of-Stmt s rest) used st (inr e) h few b =
        before_then used (stmt_reads p s) (used + stmt_reads p s) st (run p w bodies act s st) (λ st. run_all p w bodies act rest st) refl (omega (arith, few)) b
        (straight_ok test p w bodies act s st e.0 (left_passes test (stmt_takes p w s) (all_take p w rest) h))
        (λ new c. all_main rest (used + stmt_reads p s) new e.1 (right_passes test (stmt_takes p w s) (all_take p w rest) h) (omega (arith, few)) c)

  -- ---- the execution
  none_fails : (test : ℤ → Bool) (zs : List ℤ) → AllByRecursion (λ z. test z ≡ true) zs → SomeFails test zs → ⊥
  none_fails test [] h s = s
  none_fails test (z ∷ zs) h (inl e) = let k = h.0 in cc
  none_fails test (z ∷ zs) h (inr s) = none_fails test zs h.1 s

  full_of : (x : End) (made : ℕ) → made ≤ n → made ≤ last + 1 → Causes p w last tape n made x → IsNoError x → all * (n + 1) ≤ length tape → AllByRecursion (λ z. test z ≡ true) tape → made ≡ min n (last + 1)
  full_of (Error a kind) made u v c e long ok = absurd e
  full_of Clock made u v c e long ok = omega (arith, u, v, c)
  full_of Blocked made u v c e long ok = absurd (none_fails test tape ok c)
  full_of Tape made u v c e long ok = absurd (omega (arith, c, long))
  full_of Going made u v c e long ok = omega (arith, u, v, c)

  visits_of : (x : Result) → Ends x → IsOver x × Lasts p w q last tape n (ended x)
  visits_of (Goes st) h = absurd h
  visits_of (Breaks st) h = absurd h
  visits_of (Over r) h = (tt, h)

pub goes-on : GoesOn
unfolding execution
goes-on p w q last e limit tape n =
    let bodies = bodies_of p w (length p.funcs) in
    let act = main_activation p in
    let h = visits_of p w bodies act refl q last limit tape n (run p w bodies act (main_of p) (start p tape n))
    (main_ok p w bodies act refl q last limit tape n (main_of p) 0 (start p tape n) e (λ z t. t) (omega arith) (record { visits = refl; clock = refl; left = refl; room = none (test p w bodies act refl q last limit tape n) tape })) in
    let lasts = h.1 in
    record {
      over = h.0;
      lasts = lasts;
      full = λ f room ok. full_of p w bodies act refl q last limit tape n (execution p w tape n).end (length (execution p w tape n).visits) lasts.within lasts.clocks lasts.cause f room ok;
    }

-- ---- no break gets out
unbroken_value : {A : Type 0} (st : State) (v : Value A) (go : A → State → Result) → ((a : A) (new : State) → IsUnbroken (go a new)) → IsUnbroken (with_value st v go)
unbroken_value st (Gives a tape) go h = h a (record st { tape = tape })
unbroken_value st (Stops x) go h = tt

unbroken_then : (x : Result) (go : State → Result) → IsUnbroken x → ((st : State) → IsUnbroken (go st)) → IsUnbroken (then_state x go)
unbroken_then (Goes st) go h l = l st
unbroken_then (Breaks st) go h l = absurd h
unbroken_then (Over r) go h l = tt

unbroken_if : (b : Bool) (x y : Result) → IsUnbroken x → IsUnbroken y → IsUnbroken (if b then x else y)
unbroken_if true x y h l = h
unbroken_if false x y h l = l

unbroken_again : (t : Turn) (go : State → Result) → ((st : State) → IsUnbroken (go st)) → IsUnbroken (then_again t go)
unbroken_again (Again st) go l = l st
unbroken_again (Leaves st) go l = tt
unbroken_again (Ended r) go l = tt

unbroken_visit : (left : ℕ) (loop : Loop) (st : State) (go : State → Result) → ((st : State) → IsUnbroken (go st)) → IsUnbroken (visit_with left loop st go)
unbroken_visit zero loop st go l = tt
unbroken_visit (suc left) loop st go l = l _

unbroken_turns : (loop : Loop) (turn : State → Turn) (tries : ℕ) (st : State) → IsUnbroken (turns loop turn tries st)
unfolding turns
unbroken_turns loop turn zero st = tt
unbroken_turns loop turn (suc tries) st =
    unbroken_visit st.left loop st (λ st. then_again (turn st) (λ st. turns loop turn tries st)) (λ st. unbroken_again (turn st) (λ st. turns loop turn tries st) (λ st. unbroken_turns loop turn tries st))

-- where no break gets out of a call
module _ (p : Program) (w : Setting) (bodies : Bodies) (calls : (f : ℕ) (act : Activation) (st : State) → IsUnbroken (bodies f act st)) (act : Activation) where
  mutual
    unfolding run IsClosed

    unbroken : (s : Stmt) → IsClosed s → (st : State) → IsUnbroken (run p w bodies act s st)
    unbroken (Stmt.Simple s) c st = unbroken_value st (simple_value p w (here_in act st) s st.store st.tape) (λ store st. Goes (with_store st store)) (λ store new. tt)
    unbroken (Stmt.Scope v) c st = tt
    unbroken (Stmt.Block' k all) c st = all_unbroken all c st
    unbroken (Stmt.Call q f args dest) c st =
        unbroken_value st (entered p w act q f args st)
        (λ b st. then_state (bodies f (record { path = act.path ++ q ∷ []; base = b.base }) (with_store st b.store)) (λ st. delivered w act dest st))
        (λ b st. unbroken_then (bodies f (record { path = act.path ++ q ∷ []; base = b.base }) (with_store st b.store)) (λ st. delivered w act dest st) (calls f _ _) (λ st. unbroken_delivered dest st))
      where
        unbroken_delivered : (dest : Option Destination) (st : State) → IsUnbroken (delivered w act dest st)
        unbroken_delivered None st = tt
        unbroken_delivered (Some d) st = unbroken_value st _ (λ store st. Goes (with_store st store)) (λ store new. tt)
    unbroken (Stmt.If' e n (more_of-Stmt a end_of-Stmt) m (more_of-Stmt b end_of-Stmt) marked) c st =
        unbroken_value st (eval w (here_in act st) st.store e st.tape) (λ z st. if is_zero z then run p w bodies act b st else run p w bodies act a st)
        (λ z st. unbroken_if (is_zero z) (run p w bodies act b st) (run p w bodies act a st) (unbroken b c.1 st) (unbroken a c.0 st))
    unbroken (Stmt.Switch' e num n groups marked) c st =
        unbroken_value st (eval w (here_in act st) st.store e st.tape) (λ z st. run_group p w bodies act (chosen (is_listed z groups) z) groups st)
        (λ z st. group_unbroken (chosen (is_listed z groups) z) groups c st)
    unbroken (Stmt.Loop' q kind cond n (more_of-Stmt body end_of-Stmt) step) c st =
        unbroken_turns (record { path = act.path; place = q }) (turn_of p w act kind cond (λ st. run p w bodies act body st) step) st.left st
    unbroken (Stmt.Known e) c st =
        unbroken_value st (eval w (here_in act st) st.store e st.tape) (λ z st. if is_zero z then Over (record { visits = st.visits; end = Blocked }) else Goes st) (λ z st. unbroken_if (is_zero z) (Over _) (Goes st) tt tt)
    unbroken (Stmt.Assert q e) c st =
        unbroken_value st (eval w (here_in act st) st.store e st.tape) (λ z st. if is_zero z then Over (record { visits = st.visits; end = Error q Kind.Assert }) else Goes st) (λ z st. unbroken_if (is_zero z) (Over _) (Goes st) tt tt)
    unbroken Stmt.Wait c st = unbroken_if (int_le w.max_clock st.clock) (Over (record { visits = st.visits; end = Clock })) (Goes (record st { clock = st.clock +ℤ pos 1 })) tt tt
    unbroken Stmt.Break c st = absurd c
    unbroken (Stmt.Return q num e) c st = unbroken_value st (converted_value w (here_in act st) st.store num q e st.tape) (λ z st. Goes (record st { result = z })) (λ z st. tt)

    all_unbroken : {k : _} (r : Row_of-Stmt k) → AreClosed r → (st : State) → IsUnbroken (run_all p w bodies act r st)
    all_unbroken end_of-Stmt c st = tt
    all_unbroken (more_of-Stmt s rest) c st =
        unbroken_then (run p w bodies act s st) (λ st. run_all p w bodies act rest st) (unbroken s c.0 st) (λ st. all_unbroken rest c.1 st)

    group_unbroken : {k : _} (fits : List Label → Bool) (groups : Row_of-Group k) → HaveClosed groups → (st : State) → IsUnbroken (run_group p w bodies act fits groups st)
    group_unbroken fits end_of-Group c st = tt
    group_unbroken fits (more_of-Group labels n (more_of-Stmt body end_of-Stmt) rest) c st =
        unbroken_if (fits labels) (run p w bodies act body st) (run_group p w bodies act fits rest st) (unbroken body c.0 st) (group_unbroken fits rest c.1 st)

pub bodies_unbroken : (p : Program) (w : Setting) → ((f : ℕ) → IsClosed (block_of (slice_get p.funcs f))) → (depth f : ℕ) (act : Activation) (st : State) → IsUnbroken (bodies_of p w depth f act st)
unfolding bodies_of
bodies_unbroken p w closed zero f act st = tt
bodies_unbroken p w closed (suc depth) f act st = unbroken p w (bodies_of p w depth) (bodies_unbroken p w closed depth) act (block_of (slice_get p.funcs f)) (closed f) st

pub never-breaks : NeverBreaks
never-breaks p w closed depth act s c st = unbroken p w (bodies_of p w depth) (bodies_unbroken p w closed depth) act s c st
