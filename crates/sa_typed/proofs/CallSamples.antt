-- Calls, branches and loops of a few lines, computed: what stands at one place at each visit, and the end.
use Rattle.std.proofs.Common.{◌≡◌, ℕ, pos, List, [], ◌∷◌, refl, Option, None, Some, true, false}
use Rattle.sa_base.specs.declared.alarm.Kind.TheVariants.{Division, Assert}
use Rattle.sa_base.specs.declared.num.Num.{Num}
use Rattle.sa_base.specs.declared.num.Num.TheVariants.{I32}
use Rattle.sa_typed.specs.Arithmetic.{operate, as_num, in_type, divided}
use Rattle.sa_typed.specs.Layouts.{rows, layout_with, layout_of, index_of}
use Rattle.sa_typed.specs.Evaluation.{Error, Clock, eval, steps_value, read_place}
use Rattle.sa_typed.specs.Executions.{same_parts, simple_value, turns, run, bodies_of, all_bound, has_case, has_default, is_listed, execution}
use Rattle.sa_typed.specs.declared.expr.Access.{Access}
use Rattle.sa_typed.specs.declared.expr.Expr.{Expr}
use Rattle.sa_typed.specs.declared.expr.Expr.TheVariants as e
use Rattle.sa_typed.specs.declared.expr.Expr.TheBlock.{hidden-the_row-Step-0, hidden-the_row-Expr-1, hidden-the_row-Link-2, hidden-the_row-Expr-3}
use Rattle.sa_typed.specs.declared.expr.Operator.{Operator}
use Rattle.sa_typed.specs.declared.expr.Operator.TheVariants as o
use Rattle.sa_typed.specs.declared.program.Func.{Func}
use Rattle.sa_typed.specs.declared.program.Home.{Home}
use Rattle.sa_typed.specs.declared.program.Home.TheVariants as home
use Rattle.sa_typed.specs.declared.program.Param.{Param}
use Rattle.sa_typed.specs.declared.program.Program.{Program}
use Rattle.sa_typed.specs.declared.program.Var.{Var}
use Rattle.sa_typed.specs.declared.shape.Plain.TheVariants as plain
use Rattle.sa_typed.specs.declared.stmt.Arg.{Arg}
use Rattle.sa_typed.specs.declared.stmt.Arg.TheVariants.{Value as ByValue, Object as ByReference}
use Rattle.sa_typed.specs.declared.stmt.Destination.{Destination}
use Rattle.sa_typed.specs.declared.stmt.Label.TheVariants.{Case, Default}
use Rattle.sa_typed.specs.declared.stmt.LoopKind.TheVariants as kind
use Rattle.sa_typed.specs.declared.stmt.Simple.TheVariants.{Assign}
use Rattle.sa_typed.specs.declared.stmt.Stmt.{Stmt}
use Rattle.sa_typed.specs.declared.stmt.Stmt.TheVariants as stmt
use Rattle.sa_typed.specs.declared.stmt.Stmt.TheBlock.{hidden-the_row-Stmt-0, hidden-the_row-Stmt-1, hidden-the_row-Group-2}
use Rattle.sa_typed.proofs.ExecutionSamples.{at, program_with, until, variable, seen, sight}

-- an `int`, of main or of the function with number 1
abbrev int : Home → Var
int h = record { name = []; pos = at 1; shape = record { dims = []; plain = plain.Scalar I32 }; home = h; constant = false; initial = [] }

abbrev whole : ℕ → Access
whole v = record { var = v; steps = [] }

abbrev number : ℕ → Expr
number n = e.Number n I32

abbrev value : ℕ → Expr
value v = e.Read (whole v) I32

abbrev of_two : Operator → Expr → Expr → Expr
of_two op a b = e.Chain a (record { op = op; pos = at 50; num = I32; operand = b } ∷ [])

abbrev set : ℕ → Expr → Stmt
set v a = stmt.Simple (Assign (whole v) I32 (at 40) a)

-- `v = v + 1;`
abbrev count : ℕ → Stmt
count v = set v (of_two o.Plus (value v) (number 1))

abbrev calls : ℕ → List Arg → Option Destination → Stmt
calls col args dest = stmt.Call (at col) 1 args dest

abbrev function : List Param → Option Num → List Stmt → Func
function params result body = record { name = []; params = params; result = result; body = body }

-- `void add(int *p, int *q) { *p = *p + 1; *q = *q + 1; }`, and in each turn `s = 0; add(&s, &s);`: both parameters name s
abbrev aliased : Program
aliased = program_with
    (function (record { var = 1; reference = true } ∷ record { var = 2; reference = true } ∷ []) None (count 1 ∷ count 2 ∷ []) ∷ []) []
    (int home.Global ∷ int (home.Local 1) ∷ int (home.Local 1) ∷ [])
    (set 0 (number 0) ∷ calls 20 (ByReference (whole 0) ∷ ByReference (whole 0) ∷ []) None ∷ [])

aliases_count_twice : seen (variable 0) (execution aliased (until 1) [] 5) ≡ record { visits = sight 0 0 ∷ sight 1 2 ∷ []; end = Clock }
unfolding execution run bodies_of all_bound turns simple_value hidden-the_row-Stmt-0 hidden-the_row-Stmt-1 denote.Hole.Carrier.hidden read_place steps_value hidden-the_row-Step-0 hidden-the_row-Expr-1 hidden-the_row-Link-2 operate in_type as_num same_parts
aliases_count_twice = refl

-- `void f(void) { static int n; n = n + 1; }`, called at two places: n is one object
abbrev counted : Program
counted = program_with (function [] None (stmt.Scope 0 ∷ count 0 ∷ []) ∷ []) [] (int home.Static ∷ []) (calls 20 [] None ∷ calls 30 [] None ∷ [])

static_is_one : seen (variable 0) (execution counted (until 1) [] 5) ≡ record { visits = sight 0 0 ∷ sight 1 2 ∷ []; end = Clock }
unfolding execution run bodies_of all_bound turns simple_value hidden-the_row-Stmt-0 hidden-the_row-Stmt-1 denote.Hole.Carrier.hidden read_place steps_value hidden-the_row-Step-0 hidden-the_row-Expr-1 hidden-the_row-Link-2 operate in_type as_num same_parts
static_is_one = refl

-- `int f(int k) { return k + 1; }`, and `int y = f(6); x = y;` with x the variable 0, k 1 and y 2
abbrev initialised : Program
initialised = program_with
    (function (record { var = 1; reference = false } ∷ []) (Some I32) (stmt.Return (at 60) I32 (of_two o.Plus (value 1) (number 1)) ∷ []) ∷ []) []
    (int home.Global ∷ int (home.Local 1) ∷ int (home.Local 0) ∷ [])
    (stmt.Scope 2 ∷ calls 20 (ByValue (at 21) (number 6) ∷ []) (Some (record { place = whole 2; num = I32; pos = at 19 })) ∷ set 0 (value 2) ∷ [])

call_begins_local : seen (variable 0) (execution initialised (until 1) [] 5) ≡ record { visits = sight 0 0 ∷ sight 1 7 ∷ []; end = Clock }
unfolding execution run bodies_of all_bound turns simple_value hidden-the_row-Stmt-0 hidden-the_row-Stmt-1 denote.Hole.Carrier.hidden read_place steps_value hidden-the_row-Step-0 hidden-the_row-Expr-1 hidden-the_row-Link-2 operate in_type as_num same_parts layout_of layout_with rows
call_begins_local = refl

-- `int f(void) { return 1 / x; }` errs at its operator, at the first call
abbrev dividing : Program
dividing = program_with (function [] (Some I32) (stmt.Return (at 60) I32 (of_two o.Divide (number 1) (value 0)) ∷ []) ∷ []) [] (int home.Global ∷ []) (calls 20 [] None ∷ [])

callee_errs : seen (variable 0) (execution dividing (until 1) [] 5) ≡ record { visits = sight 0 0 ∷ []; end = Error (at 50) Division }
unfolding execution run bodies_of all_bound turns hidden-the_row-Stmt-0 hidden-the_row-Stmt-1 denote.Hole.Carrier.hidden steps_value eval hidden-the_row-Step-0 hidden-the_row-Expr-1 hidden-the_row-Link-2 operate divided as_num index_of
callee_errs = refl

-- `while (1) { x = x + 1; if (x == 3) break; }`: the inner loop is left in its third turn
abbrev leaving : Program
leaving = program_with [] [] (int home.Global ∷ [])
    (stmt.Loop (at 30) kind.While (Some (number 1)) (stmt.Block (count 0 ∷ stmt.If (of_two o.Equal (value 0) (number 3)) stmt.Break (stmt.Block []) false ∷ [])) None ∷ [])

break_leaves_inner_loop : seen (variable 0) (execution leaving (until 0) [] 9) ≡ record { visits = sight 0 0 ∷ sight 0 0 ∷ sight 0 1 ∷ sight 0 2 ∷ []; end = Clock }
unfolding execution run turns simple_value hidden-the_row-Stmt-0 hidden-the_row-Stmt-1 denote.Hole.Carrier.hidden eval read_place steps_value hidden-the_row-Step-0 hidden-the_row-Expr-1 hidden-the_row-Link-2 operate in_type as_num same_parts
break_leaves_inner_loop = refl

-- `do x = x + 1; while (x < 2);`: a visit before each of its two turns
abbrev counting : Program
counting = program_with [] [] (int home.Global ∷ []) (stmt.Loop (at 30) kind.Do (Some (of_two o.Less (value 0) (number 2))) (count 0) None ∷ [])

do_tests_after : seen (variable 0) (execution counting (until 0) [] 9) ≡ record { visits = sight 0 0 ∷ sight 0 0 ∷ sight 0 1 ∷ []; end = Clock }
unfolding execution run turns simple_value hidden-the_row-Stmt-0 hidden-the_row-Stmt-1 denote.Hole.Carrier.hidden eval read_place steps_value hidden-the_row-Step-0 hidden-the_row-Expr-1 hidden-the_row-Link-2 operate in_type as_num same_parts
do_tests_after = refl

-- `for (; x < 2; x = x + 1) ;`: a visit before each test, the last one of which fails
abbrev stepping : Program
stepping = program_with [] [] (int home.Global ∷ [])
    (stmt.Loop (at 30) kind.While (Some (of_two o.Less (value 0) (number 2))) (stmt.Block []) (Some (Assign (whole 0) I32 (at 40) (of_two o.Plus (value 0) (number 1)))) ∷ [])

for_steps : seen (variable 0) (execution stepping (until 0) [] 9) ≡ record { visits = sight 0 0 ∷ sight 0 0 ∷ sight 0 1 ∷ sight 0 2 ∷ []; end = Clock }
unfolding execution run turns simple_value hidden-the_row-Stmt-0 hidden-the_row-Stmt-1 denote.Hole.Carrier.hidden eval read_place steps_value hidden-the_row-Step-0 hidden-the_row-Expr-1 hidden-the_row-Link-2 operate in_type as_num same_parts
for_steps = refl

-- `x = x && 1 / x;` divides only where x isn't 0, and `x = x || 2;` is 1
abbrev short : Program
short = program_with [] [] (int home.Global ∷ [])
    (set 0 (e.And (value 0) (of_two o.Divide (number 1) (value 0) ∷ [])) ∷ set 0 (e.Or (value 0) (number 2 ∷ [])) ∷ set 0 (e.Choice (value 0) (number 5) (of_two o.Divide (number 1) (number 0)) I32) ∷ [])

right_parts_wait : seen (variable 0) (execution short (until 1) [] 9) ≡ record { visits = sight 0 0 ∷ sight 1 5 ∷ []; end = Clock }
unfolding execution run turns simple_value hidden-the_row-Stmt-0 hidden-the_row-Stmt-1 denote.Hole.Carrier.hidden eval read_place steps_value hidden-the_row-Step-0 hidden-the_row-Expr-1 hidden-the_row-Link-2 hidden-the_row-Expr-3 in_type as_num same_parts operate divided
right_parts_wait = refl

-- `switch (x) { default: x = 7; break; case 0: x = 4; break; }`: 0 has a label of its own, 4 has none
abbrev switching : Program
switching = program_with [] [] (int home.Global ∷ [])
    (stmt.Switch (value 0) I32 (record { labels = Default ∷ []; body = set 0 (number 7) } ∷ record { labels = Case (pos 0) ∷ []; body = set 0 (number 4) } ∷ []) false ∷ [])

default_comes_last : seen (variable 0) (execution switching (until 2) [] 9) ≡ record { visits = sight 0 0 ∷ sight 1 4 ∷ sight 2 7 ∷ []; end = Clock }
unfolding execution run turns simple_value hidden-the_row-Stmt-0 hidden-the_row-Stmt-1 hidden-the_row-Group-2 denote.Hole.Carrier.hidden eval read_place steps_value hidden-the_row-Step-0 hidden-the_row-Expr-1 in_type as_num same_parts is_listed has_case has_default
default_comes_last = refl

-- `known_fact(x == 0); x = 1; assert(x == 0);`: the fact holds, the assertion doesn't
abbrev claiming : Program
claiming = program_with [] [] (int home.Global ∷ [])
    (stmt.Known (of_two o.Equal (value 0) (number 0)) ∷ set 0 (number 1) ∷ stmt.Assert (at 35) (of_two o.Equal (value 0) (number 0)) ∷ [])

assertion_fails : seen (variable 0) (execution claiming (until 2) [] 9) ≡ record { visits = sight 0 0 ∷ []; end = Error (at 35) Assert }
unfolding execution run turns simple_value hidden-the_row-Stmt-0 hidden-the_row-Stmt-1 denote.Hole.Carrier.hidden eval read_place steps_value hidden-the_row-Step-0 hidden-the_row-Expr-1 hidden-the_row-Link-2 operate in_type as_num same_parts
assertion_fails = refl
