-- Whole executions of programs of a few lines, computed: what stands at one place at each visit, and the end.
use Rattle.std.proofs.Common.{◌≡◌, ℕ, ℤ, pos, List, [], ◌∷◌, ◌++◌, refl, None, false, inl, inr}
use Rattle.sa_base.specs.declared.alarm.Kind.TheVariants.{Conversion}
use Rattle.sa_base.specs.declared.num.Num.TheVariants.{I8, U8, I32}
use Rattle.sa_base.specs.declared.pos.Pos.{Pos}
use Rattle.sa_typed.specs.Arithmetic.{operate, as_num, in_type}
use Rattle.sa_typed.specs.Layouts.{rows, layout_with, layouts_with, struct_layout, layout_of, nums, before_field, index_of}
use Rattle.sa_typed.specs.Evaluation.{End, Error, Clock, Blocked, Tape, Going, Setting, steps_value, read_place}
use Rattle.sa_typed.specs.Executions.{Run, Visit, same_parts, after_parts, any_numbers, declare_value, simple_value, turns, run, execution, main_of}
use Rattle.sa_typed.specs.Progress.{EndsInClock, WaitLast, IsStraight, place_reads, steps_reads, stmt_reads, is_of_all, stmt_takes}
use Rattle.sa_typed.specs.WellTyped.{IsTypedStmt, AreTypedSteps, steps_layout, converts, type_of, are_fixed}
use Rattle.sa_typed.specs.declared.expr.Access.{Access}
use Rattle.sa_typed.specs.declared.expr.Expr.TheVariants as e
use Rattle.sa_typed.specs.declared.expr.Expr.TheBlock.{hidden-the_row-Step-0, hidden-the_row-Expr-1, hidden-the_row-Link-2}
use Rattle.sa_typed.specs.declared.expr.Operator.TheVariants as o
use Rattle.sa_typed.specs.declared.program.Func.{Func}
use Rattle.sa_typed.specs.declared.program.Home.TheVariants as home
use Rattle.sa_typed.specs.declared.program.Place.{Place}
use Rattle.sa_typed.specs.declared.program.Program.{Program}
use Rattle.sa_typed.specs.declared.program.Var.{Var}
use Rattle.sa_typed.specs.declared.shape.Part.TheVariants as part
use Rattle.sa_typed.specs.declared.shape.Plain.{Plain}
use Rattle.sa_typed.specs.declared.shape.Plain.TheVariants as plain
use Rattle.sa_typed.specs.declared.shape.StructDef.{StructDef}
use Rattle.sa_typed.specs.declared.stmt.Simple.TheVariants.{Declare, Assign, Compound, Copy}
use Rattle.sa_typed.specs.declared.stmt.LoopKind.TheVariants as kind
use Rattle.sa_typed.specs.declared.stmt.Start.TheVariants as begins
use Rattle.sa_typed.specs.declared.stmt.Stmt.{Stmt}
use Rattle.sa_typed.specs.declared.stmt.Stmt.TheVariants as stmt
use Rattle.sa_typed.specs.declared.stmt.Stmt.TheBlock.{hidden-the_row-Stmt-0, hidden-the_row-Stmt-1}

abbrev pub at : ℕ → Pos
at col = record { line = 1; col = col }

abbrev global : Plain → List ℤ → Var
global p initial = record { name = []; pos = at 1; shape = record { dims = []; plain = p }; home = home.Global; constant = false; initial = initial }

-- these statements in each turn of the clock loop at column 9
abbrev clock_loop : List Stmt → Stmt
clock_loop turn = stmt.Loop (at 9) kind.Clock None (stmt.Block (turn ++ stmt.Wait ∷ [])) None

-- functions and a main that does so
abbrev pub program_with : List Func → List StructDef → List Var → List Stmt → Program
program_with funcs structs vars turn = record {
  structs = structs;
  vars = vars;
  inputs = [];
  funcs = record { name = []; params = []; result = None; body = clock_loop turn ∷ [] } ∷ funcs;
  entry = 0;
  thresholds = [];
}

abbrev program : List StructDef → List Var → List Stmt → Program
program = program_with []

abbrev pub until : ℕ → Setting
until last = record { inputs = []; max_clock = pos last }

abbrev whole : ℕ → Access
whole v = record { var = v; steps = [] }

abbrev pub variable : ℕ → Place
variable v = record { path = []; var = v; parts = [] }

pub record Sight : Type 0 where
  pub clock : ℤ
  pub number : ℤ

pub record Seen : Type 0 where
  pub visits : List Sight
  pub end : End

abbrev pub sights : Place → List Visit → List Sight
sights a [] = []
sights a (v ∷ vs) = record { clock = v.clock; number = v.store a } ∷ sights a vs

abbrev pub seen : Place → Run → Seen
seen a r = record { visits = sights a r.visits; end = r.end }

abbrev pub sight : ℕ → ℕ → Sight
sight clock number = record { clock = pos clock; number = pos number }

-- `int x; for (;;) { x = x + 1; wait(); }`
abbrev counter : Program
counter = program [] (global (plain.Scalar I32) [] ∷ [])
    (stmt.Simple (Assign (whole 0) I32 (at 20) (e.Chain (e.Read (whole 0) I32) (record { op = o.Plus; pos = at 24; num = I32; operand = e.Number 1 I32 } ∷ []))) ∷ [])

-- two turns, and the wait of the second one at the last clock
to_last_clock : seen (variable 0) (execution counter (until 1) [] 5) ≡ record { visits = sight 0 0 ∷ sight 1 1 ∷ []; end = Clock }
unfolding execution run turns simple_value hidden-the_row-Stmt-0 hidden-the_row-Stmt-1 denote.Hole.Carrier.hidden read_place steps_value hidden-the_row-Step-0 hidden-the_row-Expr-1 hidden-the_row-Link-2 operate in_type as_num same_parts
to_last_clock = refl

-- the same up to one visit
up_to_one : seen (variable 0) (execution counter (until 1) [] 1) ≡ record { visits = sight 0 0 ∷ []; end = Going }
unfolding execution run turns simple_value hidden-the_row-Stmt-0 hidden-the_row-Stmt-1 denote.Hole.Carrier.hidden read_place steps_value hidden-the_row-Step-0 hidden-the_row-Expr-1 hidden-the_row-Link-2 operate in_type as_num same_parts
up_to_one = refl

-- `int x; for (;;) { unsigned char y; x = y; wait(); }`
abbrev taker : Program
taker = program [] (global (plain.Scalar I32) [] ∷ record { name = []; pos = at 20; shape = record { dims = []; plain = plain.Scalar U8 }; home = home.Local 0; constant = false; initial = [] } ∷ [])
    (stmt.Simple (Declare 1 begins.Any) ∷ stmt.Simple (Assign (whole 0) I32 (at 30) (e.Read (whole 1) U8)) ∷ [])

-- each turn takes a number, until the tape is at its end
takes_numbers : seen (variable 0) (execution taker (until 5) (pos 7 ∷ pos 200 ∷ []) 9) ≡ record { visits = sight 0 0 ∷ sight 1 7 ∷ sight 2 200 ∷ []; end = Tape }
unfolding execution run turns simple_value hidden-the_row-Stmt-0 hidden-the_row-Stmt-1 denote.Hole.Carrier.hidden declare_value any_numbers nums layout_of layout_with rows read_place steps_value hidden-the_row-Step-0 in_type index_of same_parts
takes_numbers = refl

-- 256 is no value of `unsigned char`
blocks_at_number : seen (variable 0) (execution taker (until 5) (pos 7 ∷ pos 256 ∷ []) 9) ≡ record { visits = sight 0 0 ∷ sight 1 7 ∷ []; end = Blocked }
unfolding execution run turns simple_value hidden-the_row-Stmt-0 hidden-the_row-Stmt-1 denote.Hole.Carrier.hidden declare_value any_numbers nums layout_of layout_with rows read_place steps_value hidden-the_row-Step-0 in_type index_of same_parts
blocks_at_number = refl

-- `struct { int a; int b; } s = {3, 4}, t; for (;;) { t = s; wait(); }`
abbrev copier : Program
copier = program
    (record { name = []; fields = record { name = []; shape = record { dims = []; plain = plain.Scalar I32 } } ∷ record { name = []; shape = record { dims = []; plain = plain.Scalar I32 } } ∷ [] } ∷ [])
    (global (plain.Struct 0) (pos 3 ∷ pos 4 ∷ []) ∷ global (plain.Struct 0) [] ∷ [])
    (stmt.Simple (Copy 0 (whole 1) (at 30) (whole 0)) ∷ [])

-- `t.b` is the 4 of `s.b` after the first turn
copies_field : seen (record { path = []; var = 1; parts = part.Field 1 ∷ [] }) (execution copier (until 5) [] 2) ≡ record { visits = sight 0 0 ∷ sight 1 4 ∷ []; end = Going }
unfolding execution run turns simple_value hidden-the_row-Stmt-0 hidden-the_row-Stmt-1 denote.Hole.Carrier.hidden read_place steps_value hidden-the_row-Step-0 after_parts index_of layout_of layout_with rows struct_layout before_field layouts_with nums
copies_field = refl

-- `signed char c = 100; for (;;) { c += 100; wait(); }`
abbrev adder : Program
adder = program [] (global (plain.Scalar I8) (pos 100 ∷ []) ∷ []) (stmt.Simple (Compound (whole 0) I8 o.Plus (at 22) I32 (e.Number 100 I32)) ∷ [])

-- the sum is an `int`, and no `signed char`
errs_in_conversion : seen (variable 0) (execution adder (until 5) [] 9) ≡ record { visits = sight 0 100 ∷ []; end = Error (at 22) Conversion }
unfolding execution run turns simple_value hidden-the_row-Stmt-0 hidden-the_row-Stmt-1 denote.Hole.Carrier.hidden read_place steps_value hidden-the_row-Step-0 operate in_type as_num index_of
errs_in_conversion = refl

-- the law on executions that go on is about such programs
counter_ends : EndsInClock (at 9) (main_of counter)
unfolding EndsInClock WaitLast IsStraight hidden-the_row-Stmt-0 hidden-the_row-Stmt-1 denote.Hole.Carrier.hidden
counter_ends = inl ((refl, inr (tt, inl (refl, tt))), tt)

taker_ends : EndsInClock (at 9) (main_of taker)
unfolding EndsInClock WaitLast IsStraight hidden-the_row-Stmt-0 hidden-the_row-Stmt-1 denote.Hole.Carrier.hidden
taker_ends = inl ((refl, inr (tt, inr (tt, inl (refl, tt)))), tt)

taker_reads : stmt_reads taker (main_of taker) ≡ 1
unfolding stmt_reads hidden-the_row-Stmt-0 hidden-the_row-Stmt-1 denote.Hole.Carrier.hidden nums layout_of layout_with rows place_reads steps_reads hidden-the_row-Step-0
taker_reads = refl

taker_takes : stmt_takes taker (until 5) (main_of taker) (pos 256) ≡ false
unfolding stmt_takes hidden-the_row-Stmt-0 hidden-the_row-Stmt-1 denote.Hole.Carrier.hidden is_of_all nums layout_of layout_with rows
taker_takes = refl

-- and they are typed
counter_typed : IsTypedStmt counter (main_of counter)
unfolding IsTypedStmt hidden-the_row-Stmt-0 hidden-the_row-Stmt-1 denote.Hole.Carrier.hidden AreTypedSteps hidden-the_row-Step-0 steps_layout layout_of layout_with rows hidden-the_row-Expr-1 hidden-the_row-Link-2 converts type_of
counter_typed = ((((tt, refl), ((tt, refl), (refl, (record { first = refl; second = refl }, tt)))), (tt, tt)), tt)

taker_typed : IsTypedStmt taker (main_of taker)
unfolding IsTypedStmt hidden-the_row-Stmt-0 hidden-the_row-Stmt-1 denote.Hole.Carrier.hidden AreTypedSteps hidden-the_row-Step-0 steps_layout layout_of layout_with rows
taker_typed = ((tt, (((tt, refl), (tt, refl)), (tt, tt))), tt)

copier_typed : IsTypedStmt copier (main_of copier)
unfolding IsTypedStmt hidden-the_row-Stmt-0 hidden-the_row-Stmt-1 denote.Hole.Carrier.hidden AreTypedSteps hidden-the_row-Step-0 steps_layout layout_of layout_with rows are_fixed
copier_typed = (((layout_of copier 0, record { typed = (tt, refl); fixed = refl }, record { typed = (tt, refl); fixed = refl }), (tt, tt)), tt)

adder_typed : IsTypedStmt adder (main_of adder)
unfolding IsTypedStmt hidden-the_row-Stmt-0 hidden-the_row-Stmt-1 denote.Hole.Carrier.hidden AreTypedSteps hidden-the_row-Step-0 steps_layout layout_of layout_with rows converts type_of
adder_typed = ((((tt, refl), (refl, record { first = refl; second = refl })), (tt, tt)), tt)
