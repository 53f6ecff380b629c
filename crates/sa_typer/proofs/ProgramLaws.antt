-- What the walk promises of main, in the terms that cover every form of the language: a program of main alone, whose statements
-- are simple ones and blocks, and the clock loop.
use Rattle.std.proofs.Common.{◌≡◌, ℕ, zero, suc, ◌<◌, Bool, true, false, List, [], ◌∷◌, ◌++◌, length, map, refl, sym, ap, subst, ◌∙◌, arith, Option, Some, None, ◌⊎◌, inl, inr}
use Rattle.std.specs.List.{AllByRecursion}
use Rattle.std.specs.Prelude.{slice_get, IsTrue}
use Rattle.sa_base.specs.declared.num.Num.{Num}
use Rattle.sa_base.specs.declared.num.Num.TheVariants.{I8, U8, I16, U16, I32, U32, I64, U64}
use Rattle.sa_base.specs.declared.pos.Pos.{Pos}
use Rattle.sa_typed.specs.Executions.{params_of}
use Rattle.sa_typed.specs.WellTyped.{is_fixed_read, HasTypedItems}
use Rattle.sa_typed.specs.TypedExpressions.{is_reference, is_through_reference, IsFixedPlace}
use Rattle.sa_typed.specs.TypedPrograms.{AreDistinct, is_parameter, IsSimple, IsStatement, AreStatements, IsEmpty, IsWait, IsTurn, IsClockLoop, IsMainBlock, IsMainBody, IsMain, Site, calls_in, calls_in_all, loops_at, loops_at_all, calls_of, loops_of, IsFunction, AreRanked, IsTypedProgram}
use Rattle.sa_typed.specs.declared.expr.Access.{Access}
use Rattle.sa_typed.specs.declared.expr.Expr.{Expr, Read'}
use Rattle.sa_typed.specs.declared.expr.Expr.TheVariants as e
use Rattle.sa_typed.specs.declared.program.Func.{Func}
use Rattle.sa_typed.specs.declared.program.Program.{Program}
use Rattle.sa_typed.specs.declared.program.Var.{Var}
use Rattle.sa_typed.specs.declared.stmt.Simple.{Simple}
use Rattle.sa_typed.specs.declared.stmt.Simple.TheVariants.{Declare, Assign, Compound, Copy}
use Rattle.sa_typed.specs.declared.stmt.Stmt.{Stmt, Row_of-Stmt, end_of-Stmt, more_of-Stmt, items-the_row-Stmt, items_hidden-the_row-Stmt-0}
use Rattle.sa_typed.specs.declared.stmt.Stmt.TheVariants as t
use Rattle.sa_scopes.specs.declared.typer.Typer.{Typer}
use Rattle.sa_scopes.specs.declared.types.Element.{Element}
use Rattle.sa_scopes.specs.declared.types.Element.TheVariants as el
use Rattle.sa_scopes.proofs.WalkLaws.{no_fault}
use Rattle.sa_operands.proofs.RowLaws.{GoodSimple, GoodStmt, AreGood, AllStmts}
use Rattle.sa_typer.specs.declared.bodies.Entry.{Entry}
use Rattle.sa_typer.specs.Bodies.{clock_stmt}
use Rattle.sa_typer.specs.Units.{is_entry_type, result_of, function, program}

-- ---- the statements of main: good ones, and then the clock loop around good ones and the wait
pub record EndsInClock (p : Program) (ss : List Stmt) : Type 0 where
  pub before : List Stmt
  pub place : Pos
  pub turn : List Stmt
  pub is : ss ≡ before ++ clock_stmt place turn ∷ []
  pub befores : AllStmts p before
  pub turns : AllStmts p turn

-- given whether the clock loop came
abbrev pub IsMainList : Program → Bool → List Stmt → Type 0
IsMainList p false ss = AllStmts p ss
IsMainList p true ss = EndsInClock p ss

module _ (p : Program) (no_params : params_of (slice_get p.funcs 0) ≡ []) where
  -- ---- statements
  is_direct : (a : Expr) → is_through_reference p 0 a ≡ false
  unfolding is_reference
  is_direct (Read' v n steps num) = ap (is_reference v) no_params
  is_direct _ = refl

  fixed_place : (x : Access) → IsTrue (is_fixed_read (e.Read x I32)) → IsFixedPlace p 0 x
  fixed_place x h = record { fixed = h; direct = is_direct (e.Read x I32) }

  simple : (x : Simple) → GoodSimple p x → IsSimple p 0 x
  unfolding is_parameter
  simple (Declare k x) h = (record { own = h.0; parameter = ap (is_parameter k) no_params }, h.1)
  simple (Assign x num q a) h = h
  simple (Compound x num op q work a) h = h
  simple (Copy k x q y) h = (h.0, ((h.1.0.0, fixed_place x h.1.0.1), (h.1.1.0, fixed_place y h.1.1.1)))

  mutual
    unfolding GoodStmt IsStatement

    statement : (s : Stmt) → GoodStmt p s → IsStatement p 0 false s
    statement (Stmt.Simple x) h = simple x h
    statement (Stmt.Block' n all) h = statements all h
    statement _ h = absurd h

    statements : {n : _} (r : Row_of-Stmt n) → AreGood p r → AreStatements p 0 false r
    statements end_of-Stmt h = tt
    statements (more_of-Stmt s rest) h = (statement s h.0, statements rest h.1)

  -- they hold no call and no loop
  mutual
    unfolding GoodStmt calls_in

    no_calls : (s : Stmt) → GoodStmt p s → calls_in s ≡ []
    no_calls (Stmt.Simple x) f = refl
    no_calls (Stmt.Block' n all) f = no_calls_in all f
    no_calls _ f = absurd f

    no_calls_in : {n : _} (r : Row_of-Stmt n) → AreGood p r → calls_in_all r ≡ []
    no_calls_in end_of-Stmt f = refl
    no_calls_in (more_of-Stmt s rest) f = let a = no_calls s f.0 in let b = no_calls_in rest f.1 in rw (a, b) refl

  mutual
    unfolding GoodStmt loops_at

    no_loops : (s : Stmt) → GoodStmt p s → loops_at s ≡ []
    no_loops (Stmt.Simple x) f = refl
    no_loops (Stmt.Block' n all) f = no_loops_in all f
    no_loops _ f = absurd f

    no_loops_in : {n : _} (r : Row_of-Stmt n) → AreGood p r → loops_at_all r ≡ []
    no_loops_in end_of-Stmt f = refl
    no_loops_in (more_of-Stmt s rest) f = let a = no_loops s f.0 in let b = no_loops_in rest f.1 in rw (a, b) refl

  -- ---- a turn of the clock loop
  record IsTurnRow {n : _} (r : Row_of-Stmt n) : Type 0 where
    turn : IsTurn p 0 r
    calls : calls_in_all r ≡ []
    loops : loops_at_all r ≡ []

  record IsEmptyRow {n : _} (r : Row_of-Stmt n) : Type 0 where
    empty : IsEmpty r
    calls : calls_in_all r ≡ []
    loops : loops_at_all r ≡ []

  empty_row : (n : _) (r : Row_of-Stmt n) → items-the_row-Stmt n r ≡ [] → IsEmptyRow r
  unfolding calls_in loops_at
  empty_row n end_of-Stmt h = record { empty = tt; calls = refl; loops = refl }
  empty_row n (more_of-Stmt s rest) h = cc

  wait_last : (s : Stmt) {n : _} (rest : Row_of-Stmt n) → t.Wait ≡ s → IsEmptyRow rest → IsTurnRow (more_of-Stmt s rest)
  unfolding IsTurn calls_in loops_at
  wait_last s rest is h =
      subst (λ (x : Stmt). IsTurnRow (more_of-Stmt x rest)) is (record { turn = inl (tt, h.empty); calls = h.calls; loops = h.loops })

  one_more : (s : Stmt) {n : _} (rest : Row_of-Stmt n) → GoodStmt p s → IsTurnRow rest → IsTurnRow (more_of-Stmt s rest)
  unfolding IsTurn calls_in loops_at
  one_more s rest f k = record {
    turn = inr (statement s f, k.turn);
    calls = (let a = no_calls s f in let b = k.calls in rw (a, b) refl);
    loops = (let a = no_loops s f in let b = k.loops in rw (a, b) refl);
  }

  turn_row : (n : _) (r : Row_of-Stmt n) (ss : List Stmt) → items-the_row-Stmt n r ≡ ss ++ t.Wait ∷ [] → AllStmts p ss → IsTurnRow r
  unfolding AllStmts
  turn_row n end_of-Stmt ss h k = absurd (no_fault ss t.Wait (sym h))
  turn_row n (more_of-Stmt s rest) [] h k = let same : t.Wait ≡ s = cc in let none : items-the_row-Stmt _ rest ≡ [] = cc in wait_last s rest same (empty_row _ rest none)
  turn_row n (more_of-Stmt s rest) (x ∷ ss) h k =
      let same : x ≡ s = cc in
      let tail : items-the_row-Stmt _ rest ≡ ss ++ t.Wait ∷ [] = cc in
      one_more s rest (subst (GoodStmt p) same k.0) (turn_row _ rest ss tail k.1)

  abbrev row_of : Stmt → (n : _) × Row_of-Stmt n
  row_of (Stmt.Block' n r) = (_, r)
  row_of _ = (_, end_of-Stmt)

  record IsClock (q : Pos) (s : Stmt) : Type 0 where
    clock : IsClockLoop p 0 s
    calls : calls_in s ≡ []
    loops : loops_at s ≡ q ∷ []

  clock_row : (q : Pos) (ss : List Stmt) → IsTurnRow (row_of (t.Block (ss ++ t.Wait ∷ []))).1 → IsClock q (clock_stmt q ss)
  unfolding calls_in loops_at Rattle.sa_typed.specs.declared.stmt.Stmt.TheBlock.hidden-the_row-Stmt-1 denote.Hole.Carrier.hidden
  clock_row q ss h = record { clock = h.turn; calls = h.calls; loops = ap (λ (ps : List Pos). q ∷ ps) h.loops }

  clock_is : (q : Pos) (ss : List Stmt) → AllStmts p ss → IsClock q (clock_stmt q ss)
  clock_is q ss h = let r = row_of (t.Block (ss ++ t.Wait ∷ [])) in clock_row q ss (turn_row r.0 r.1 ss (items_hidden-the_row-Stmt-0 (ss ++ t.Wait ∷ [])) h)

  -- ---- the block of main
  record IsMainRow (result : Option Num) (q : Pos) {n : _} (r : Row_of-Stmt n) : Type 0 where
    block : IsMainBlock p 0 result r
    calls : calls_in_all r ≡ []
    loops : loops_at_all r ≡ q ∷ []

  clock_last : (result : Option Num) (q : Pos) (s : Stmt) {n : _} (rest : Row_of-Stmt n) → IsClock q s → IsEmptyRow rest → IsMainRow result q (more_of-Stmt s rest)
  unfolding IsMainBlock calls_in loops_at
  clock_last result q s end_of-Stmt c h = record {
    block = inl (c.clock, tt);
    calls = (let a = c.calls in rw a refl);
    loops = (let a = c.loops in rw a refl);
  }
  clock_last result q s (more_of-Stmt x rest) c h = absurd h.empty

  main_more : (result : Option Num) (q : Pos) (s : Stmt) {n : _} (rest : Row_of-Stmt n) → GoodStmt p s → IsMainRow result q rest → IsMainRow result q (more_of-Stmt s rest)
  unfolding IsMainBlock calls_in loops_at
  main_more result q s rest f k = record {
    block = inr (statement s f, k.block);
    calls = (let a = no_calls s f in let b = k.calls in rw (a, b) refl);
    loops = (let a = no_loops s f in let b = k.loops in rw (a, b) refl);
  }

  main_row : (result : Option Num) (q : Pos) (c : Stmt) → IsClock q c → (n : _) (r : Row_of-Stmt n) (ss : List Stmt) → items-the_row-Stmt n r ≡ ss ++ c ∷ [] → AllStmts p ss → IsMainRow result q r
  unfolding AllStmts
  main_row result q c d n end_of-Stmt ss h k = absurd (no_fault ss c (sym h))
  main_row result q c d n (more_of-Stmt s rest) [] h k =
      let same : c ≡ s = cc in let none : items-the_row-Stmt _ rest ≡ [] = cc in clock_last result q s rest (subst (IsClock q) same d) (empty_row _ rest none)
  main_row result q c d n (more_of-Stmt s rest) (x ∷ ss) h k =
      let same : x ≡ s = cc in
      let tail : items-the_row-Stmt _ rest ≡ ss ++ c ∷ [] = cc in
      main_more result q s rest (subst (GoodStmt p) same k.0) (main_row result q c d _ rest ss tail k.1)

  -- what is told of a block of main
  pub record IsWhole (result : Option Num) (s : Stmt) : Type 0 where
    pub place : Pos
    pub body : IsMainBody p 0 result s
    pub calls : calls_in s ≡ []
    pub loops : loops_at s ≡ place ∷ []

  whole_row : (result : Option Num) (q : Pos) (ss : List Stmt) → IsMainRow result q (row_of (t.Block ss)).1 → IsWhole result (t.Block ss)
  unfolding calls_in loops_at
  whole_row result q ss h = record { place = q; body = h.block; calls = h.calls; loops = h.loops }

  pub whole : (result : Option Num) (ss : List Stmt) → EndsInClock p ss → IsWhole result (t.Block ss)
  whole result ss h =
      let r = row_of (t.Block ss) in
      whole_row result h.place ss (main_row result h.place (clock_stmt h.place h.turn) (clock_is h.place h.turn h.turns) r.0 r.1 h.before (items_hidden-the_row-Stmt-0 ss ∙ h.is) h.befores)

-- ---- the program of main alone
one_alone : (q : Pos) → AreDistinct (q ∷ [])
one_alone q zero zero x h k = refl
one_alone q zero (suc j) x h k = cc
one_alone q (suc i) j x h k = cc

none_alone : {A : Type 0} → AreDistinct {A = A} []
none_alone i j x h k = cc

result_is : (r : Element) → is_entry_type r ≡ true → (result_of r ≡ None) ⊎ (result_of r ≡ Some I32)
result_is el.Void h = inl refl
result_is el.Unknown h = inl refl
result_is (el.Struct k) h = inl refl
result_is (el.Scalar I8) h = cc
result_is (el.Scalar U8) h = cc
result_is (el.Scalar I16) h = cc
result_is (el.Scalar U16) h = cc
result_is (el.Scalar I32) h = inr refl
result_is (el.Scalar U32) h = cc
result_is (el.Scalar I64) h = cc
result_is (el.Scalar U64) h = cc

module _ (s : Typer) (x : Entry) (kind : is_entry_type x.result ≡ true)
    (items : (k : ℕ) (v : Var) → slice_get s.vars k ≡ Some v → HasTypedItems (program s x) k v) (ends : EndsInClock (program s x) x.body.stmts) where
  told : IsWhole (program s x) refl (result_of x.result) (t.Block x.body.stmts)
  told = whole (program s x) refl (result_of x.result) x.body.stmts ends

  main_function : IsFunction (program s x) 0 (function x)
  main_function = record {
    params = tt;
    distinct = none_alone;
    body = record { params = refl; result = result_is x.result kind; body = told.body };
    calls = subst (λ (ss : List Site). AreDistinct (map (λ s. s.pos) ss)) (sym told.calls) none_alone;
    loops = subst (λ (ps : List Pos). AreDistinct ps) (sym told.loops) (one_alone told.place);
  }

  is_main : (k : ℕ) (f : Func) → slice_get (function x ∷ []) k ≡ Some f → (k ≡ 0) × (function x ≡ f)
  is_main zero f h = (refl, cc)
  is_main (suc k) f h = cc

  each_function : (k : ℕ) (f : Func) → slice_get (function x ∷ []) k ≡ Some f → IsFunction (program s x) k f
  each_function zero f h = let m = is_main zero f h in subst (IsFunction (program s x) 0) m.1 main_function
  each_function (suc k) f h = cc

  abbrev no_rank : ℕ → ℕ
  no_rank k = 0

  calls_nothing : (k : ℕ) (f : Func) → slice_get (function x ∷ []) k ≡ Some f → calls_of f ≡ []
  calls_nothing k f h = let m = is_main k f h in subst (λ (g : Func). calls_of g ≡ []) m.1 told.calls

  pub program_typed : IsTypedProgram (program s x)
  program_typed = record {
    entry = omega arith;
    funcs = each_function;
    ranks = (
      no_rank,
      record {
        few = λ k l. let z : no_rank k ≡ 0 = refl in omega (arith, l, z);
        falls = λ k f h. subst (λ (ss : List Site). AllByRecursion (λ s. no_rank s.func < no_rank k) ss) (sym (calls_nothing k f h)) tt;
      },
    );
    items = items;
  }
