-- What a program does, statement by statement and turn by turn. It knows stores, tapes and a clock, and no interval.
use Rattle.std.specs.Prelude.{ℕ, zero, suc, ◌==◌, ℤ, pos, ◌+ℤ◌, List, [], ◌∷◌, ◌++◌, length, Bool, true, false, ◌&&◌, ◌||◌, if◌then◌else◌, get_or, slice_get, Option, Some, None}
use Rattle.std.specs.Int.RustNames.{int_le}
use Rattle.std.specs.Ordering.{int_eq}
use Rattle.sa_base.specs.declared.alarm.Kind.TheVariants as alarm
use Rattle.sa_base.specs.declared.num.Num.{Num}
use Rattle.sa_base.specs.declared.pos.Pos.{Pos}
use Rattle.sa_typed.specs.Arithmetic.{operate, converted, is_of}
use Rattle.sa_typed.specs.Layouts.{nums, index_of, layout_of, num_in}
use Rattle.sa_typed.specs.Evaluation.{End, Error, Clock, Blocked, Tape, Going, Value, Gives, Stops, then_value, given, Store, Setting, Here, place_of, is_zero, eval, access_place}
use Rattle.sa_typed.specs.declared.expr.Expr.{Expr}
use Rattle.sa_typed.specs.declared.expr.Operator.{Operator}
use Rattle.sa_typed.specs.declared.shape.Part.{Part}
use Rattle.sa_typed.specs.declared.shape.Part.TheVariants.{At, Field}
use Rattle.sa_typed.specs.declared.stmt.Start.{Start}
use Rattle.sa_typed.specs.declared.stmt.Start.TheVariants as begins
use Rattle.sa_typed.specs.declared.stmt.Simple.{Simple}
use Rattle.sa_typed.specs.declared.stmt.Simple.TheVariants.{Declare, Assign, Compound, Copy}
use Rattle.sa_typed.specs.declared.stmt.Arg.{Arg}
use Rattle.sa_typed.specs.declared.stmt.Arg.TheVariants.{Value as ByValue, Object as ByReference}
use Rattle.sa_typed.specs.declared.stmt.Destination.{Destination}
use Rattle.sa_typed.specs.declared.stmt.Label.{Label}
use Rattle.sa_typed.specs.declared.stmt.Label.TheVariants.{Case, Default}
use Rattle.sa_typed.specs.declared.stmt.LoopKind.{LoopKind}
use Rattle.sa_typed.specs.declared.stmt.LoopKind.TheVariants as kind
use Rattle.sa_typed.specs.declared.stmt.Stmt.{Stmt, Row_of-Stmt, end_of-Stmt, more_of-Stmt, Row_of-Group, end_of-Group, more_of-Group}
use Rattle.sa_typed.specs.declared.stmt.Stmt.TheVariants as stmt
use Rattle.sa_typed.specs.declared.program.Home.TheVariants as home
use Rattle.sa_typed.specs.declared.program.Param.{Param}
use Rattle.sa_typed.specs.declared.program.Func.{Func}
use Rattle.sa_typed.specs.declared.program.Place.{Place}
use Rattle.sa_typed.specs.declared.program.Var.{Var}
use Rattle.sa_typed.specs.declared.program.Program.{Program}

-- a loop: the calls that lead to it, outermost first, and its position
pub record Loop : Type 0 where
  pub path : List Pos
  pub place : Pos

-- what stands where a turn of a loop begins
pub record Visit : Type 0 where
  pub loop : Loop
  pub store : Store
  pub clock : ℤ

-- the visits in order, and how it ended
pub record Run : Type 0 where
  pub visits : List Visit
  pub end : End

-- `left` visits may still be recorded; `result` is what the last `return` gave
pub record State : Type 0 where
  pub store : Store
  pub result : ℤ
  pub clock : ℤ
  pub tape : List ℤ
  pub left : ℕ
  pub visits : List Visit

-- the state after a statement or at a break, or a run that is over
pub data Result : Type 0 where
  Goes : State → Result
  Breaks : State → Result
  Over : Run → Result

-- after a turn: the next one may begin, the loop is left, or the run is over
pub data Turn : Type 0 where
  Again : State → Turn
  Leaves : State → Turn
  Ended : Run → Turn

abbrev pub over : State → End → Result
over st end = Over (record { visits = st.visits; end = end })

-- goes on with a value, or ends as its evaluation does
abbrev pub with_value : {A : Type 0} → State → Value A → (A → State → Result) → Result
with_value st (Gives a tape) go = go a (record st { tape = tape })
with_value st (Stops end) go = over st end

-- one call of a function: the calls that lead to it, and the object that each variable names in it
pub record Activation : Type 0 where
  pub path : List Pos
  pub base : ℕ → Place

abbrev pub then_state : Result → (State → Result) → Result
then_state (Goes st) go = go st
then_state (Breaks st) go = Breaks st
then_state (Over r) go = Over r

-- ---- places
abbrev pub same_pos : Pos → Pos → Bool
same_pos p q = p.line == q.line && p.col == q.col

abbrev pub same_path : List Pos → List Pos → Bool
same_path [] [] = true
same_path [] (q ∷ qs) = false
same_path (p ∷ ps) [] = false
same_path (p ∷ ps) (q ∷ qs) = same_pos p q && same_path ps qs

abbrev pub same_part : Part → Part → Bool
same_part (At i) (At j) = i == j
same_part (Field f) (Field g) = f == g
same_part (At i) (Field g) = false
same_part (Field f) (At j) = false

unfoldable pub same_parts : List Part → List Part → Bool
same_parts [] [] = true
same_parts [] (q ∷ qs) = false
same_parts (p ∷ ps) [] = false
same_parts (p ∷ ps) (q ∷ qs) = same_part p q && same_parts ps qs

abbrev pub same_var : Place → Place → Bool
same_var a b = same_path a.path b.path && a.var == b.var

abbrev pub same_place : Place → Place → Bool
same_place a b = same_var a b && same_parts a.parts b.parts

-- what follows some steps, None where they aren't the first ones
unfoldable pub after_parts : List Part → List Part → Option (List Part)
after_parts [] qs = Some qs
after_parts (p ∷ ps) [] = None
after_parts (p ∷ ps) (q ∷ qs) = if same_part p q then after_parts ps qs else None

-- ---- stores
-- the number at one place changed
abbrev pub strong_update : Place → ℤ → Store → Store
strong_update a z st = λ q. if same_place q a then z else st q

-- the elements of a variable are these numbers, in their order; what the list lacks is 0 (ISO C 6.7.8p21)
abbrev pub filled : Program → Here → ℕ → List ℤ → Store → Store
filled p here v zs st = λ q. if same_var q (place_of here v []) then get_or zs (index_of (layout_of p v) q.parts) (pos 0) else st q

-- each element under the first place is the one under the second (ISO C 6.5.16.1p2)
abbrev pub copied_from : Place → Place → Store → Option (List Part) → Place → ℤ
copied_from a b st None q = st q
copied_from a b st (Some rest) q = st (record { path = b.path; var = b.var; parts = b.parts ++ rest })

abbrev pub copied : Place → Place → Store → Store
copied a b st = λ q. if same_var q a then copied_from a b st (after_parts a.parts q.parts) q else st q

abbrev pub with_store : State → Store → State
with_store st store = record st { store = store }

-- ---- simple statements
abbrev pub here_in : Activation → State → Here
here_in act st = record { base = act.base; clock = st.clock }

-- one number of the tape for each element; one outside its type blocks the execution
unfoldable pub any_numbers : List Num → List ℤ → Value (List ℤ)
any_numbers [] tape = Gives [] tape
any_numbers (num ∷ nums) [] = Stops Tape
any_numbers (num ∷ nums) (z ∷ tape) = if is_of num z then then_value (any_numbers nums tape) (λ zs tape. Gives (z ∷ zs) tape) else Stops Blocked

abbrev pub initial_of : Option Var → List ℤ
initial_of None = []
initial_of (Some v) = v.initial

-- the value of a right side, converted to a type at a position
abbrev pub converted_value : Setting → Here → Store → Num → Pos → Expr → List ℤ → Value ℤ
converted_value w here st num p e tape = then_value (eval w here st e tape) (λ z tape. given p (converted num z) tape)

-- a local at its declaration: any value of its type where nothing is said (ISO C 6.7.8p10), which is one entry's own
unfoldable pub declare_value : Program → Setting → Here → ℕ → Start → Store → List ℤ → Value Store
declare_value p w here v begins.Any st tape = then_value (any_numbers (nums (layout_of p v)) tape) (λ zs tape. Gives (filled p here v zs st) tape)
declare_value p w here v (begins.Value q e) st tape =
    then_value (converted_value w here st (num_in (layout_of p v)) q e tape) (λ z tape. Gives (strong_update (place_of here v []) z st) tape)
declare_value p w here v begins.Items st tape = Gives (filled p here v (initial_of (slice_get p.vars v)) st) tape

-- an operator on the number of a place, converted back to the place's type; both errors stand at the operator
-- (ISO C 6.5.16.2p3: the place is evaluated once)
abbrev pub compound_value : Setting → Here → Store → Num → Operator → Num → Pos → ℤ → Expr → List ℤ → Value ℤ
compound_value w here st num op work q x e tape =
    then_value (eval w here st e tape) (λ y tape. then_value (given q (operate op work x y) tape) (λ z tape. given q (converted num z) tape))

-- the store after a simple statement. The indices of the left side come first, then the right side
unfoldable pub simple_value : Program → Setting → Here → Simple → Store → List ℤ → Value Store
simple_value p w here (Declare v s) st tape = declare_value p w here v s st tape
simple_value p w here (Assign x num q e) st tape =
    then_value (access_place w here st x tape) (λ a tape. then_value (converted_value w here st num q e tape) (λ z tape. Gives (strong_update a z st) tape))
simple_value p w here (Compound x num op q work e) st tape =
    then_value (access_place w here st x tape) (λ a tape. then_value (compound_value w here st num op work q (st a) e tape) (λ z tape. Gives (strong_update a z st) tape))
simple_value p w here (Copy k x q y) st tape =
    then_value (access_place w here st x tape) (λ a tape. then_value (access_place w here st y tape) (λ b tape. Gives (copied a b st) tape))

-- ---- calls
-- a local has an object for each call path, every other variable one alone (ISO C 6.2.4)
abbrev pub path_of : Option Var → List Pos → List Pos
path_of None path = []
path_of (Some v) path = elim v.home as (λ _. List Pos) [ home.Global ↦ [] | home.Static ↦ [] | home.Local f ↦ path ]

abbrev pub own_place : Program → List Pos → ℕ → Place
own_place p path v = record { path = path_of (slice_get p.vars v) path; var = v; parts = [] }

abbrev pub params_of : Option Func → List Param
params_of None = []
params_of (Some f) = f.params

-- what arguments have given so far: the store with the parameters' values, and the object that each variable of the function
-- names
pub record Bound : Type 0 where
  pub store : Store
  pub base : ℕ → Place

-- an argument's value is converted as if by assignment (ISO C 6.5.2.2p7); a parameter that is a reference stands for the object
-- of its argument, whose indices are evaluated now
abbrev pub bound : Program → Setting → Here → Param → Arg → Bound → List ℤ → Value Bound
bound p w here q (ByValue at e) b tape =
    then_value (converted_value w here b.store (num_in (layout_of p q.var)) at e tape) (λ z tape. Gives (record b { store = strong_update (b.base q.var) z b.store }) tape)
bound p w here q (ByReference x) b tape =
    then_value (access_place w here b.store x tape) (λ a tape. Gives (record b { base = λ v. if v == q.var then a else b.base v }) tape)

-- arguments from left to right
unfoldable pub all_bound : Program → Setting → Here → List Param → List Arg → Bound → List ℤ → Value Bound
all_bound p w here [] args b tape = Gives b tape
all_bound p w here (q ∷ params) [] b tape = Gives b tape
all_bound p w here (q ∷ params) (a ∷ args) b tape = then_value (bound p w here q a b tape) (λ b tape. all_bound p w here params args b tape)

-- what stands before the body of a function that is called here
abbrev pub entered : Program → Setting → Activation → Pos → ℕ → List Arg → State → Value Bound
entered p w act q f args st =
    all_bound p w (here_in act st) (params_of (slice_get p.funcs f)) args (record { store = st.store; base = own_place p (act.path ++ q ∷ []) }) st.tape

-- what the body of a function does, by the function's number
abbrev pub Bodies : Type 0
Bodies = ℕ → Activation → State → Result

-- the result of a call goes to its place, whose indices are evaluated after the call
abbrev pub delivered : Setting → Activation → Option Destination → State → Result
delivered w act None st = Goes st
delivered w act (Some d) st =
    with_value st
    (then_value (access_place w (here_in act st) st.store d.place st.tape) (λ a tape. then_value (given d.pos (converted d.num st.result) tape) (λ z tape. Gives (strong_update a z st.store) tape)))
    (λ store st. Goes (with_store st store))

abbrev pub called : Program → Setting → Bodies → Activation → Pos → ℕ → List Arg → Option Destination → State → Result
called p w bodies act q f args dest st =
    with_value st (entered p w act q f args st)
    (λ b st. then_state (bodies f (record { path = act.path ++ q ∷ []; base = b.base }) (with_store st b.store)) (λ st. delivered w act dest st))

-- ---- branches
-- by whether a condition is another number than 0 (ISO C 6.8.4.1p2)
abbrev pub decided : Setting → Activation → Expr → State → (Bool → State → Result) → Result
decided w act e st go = with_value st (eval w (here_in act st) st.store e st.tape) (λ z st. go (is_zero z) st)

unfoldable pub has_case : ℤ → List Label → Bool
has_case z [] = false
has_case z (Case k ∷ labels) = int_eq z k || has_case z labels
has_case z (Default ∷ labels) = has_case z labels

unfoldable pub has_default : List Label → Bool
has_default [] = false
has_default (Case k ∷ labels) = has_default labels
has_default (Default ∷ labels) = true

-- some group has a label with this value
unfoldable pub is_listed : {n : _} → ℤ → Row_of-Group n → Bool
is_listed z end_of-Group = false
is_listed z (more_of-Group labels n body rest) = has_case z labels || is_listed z rest

-- where a value has no label of its own, it goes to `default` (ISO C 6.8.4.2p5)
abbrev pub chosen : Bool → ℤ → List Label → Bool
chosen listed z labels = if listed then has_case z labels else has_default labels

-- ---- loops
-- a visit is recorded where one is left
abbrev pub visit_with : ℕ → Loop → State → (State → Result) → Result
visit_with zero loop st go = over st Going
visit_with (suc left) loop st go = go (record st { left = left; visits = st.visits ++ record { loop = loop; store = st.store; clock = st.clock } ∷ [] })

abbrev pub visit : Loop → State → (State → Result) → Result
visit loop st go = visit_with st.left loop st go

abbrev pub then_again : Turn → (State → Result) → Result
then_again (Again st) go = go st
then_again (Leaves st) go = Goes st
then_again (Ended r) go = Over r

-- the turns of a loop of any form; each makes a visit, so as many tries as visits are left suffice
unfoldable pub turns : Loop → (State → Turn) → ℕ → State → Result
turns loop one zero st = over st Going
turns loop one (suc tries) st = visit loop st (λ st. then_again (one st) (λ st. turns loop one tries st))

abbrev pub turn_with : {A : Type 0} → State → Value A → (A → State → Turn) → Turn
turn_with st (Gives a tape) go = go a (record st { tape = tape })
turn_with st (Stops end) go = Ended (record { visits = st.visits; end = end })

-- a condition that doesn't hold leaves the loop; a loop without one goes on (ISO C 6.8.5p4, 6.8.5.3p2)
abbrev pub tested : Setting → Activation → Option Expr → State → (State → Turn) → Turn
tested w act None st go = go st
tested w act (Some e) st go = turn_with st (eval w (here_in act st) st.store e st.tape) (λ z st. if is_zero z then Leaves st else go st)

-- a break leaves the loop (ISO C 6.8.6.3p2)
abbrev pub after_body : Result → (State → Turn) → Turn
after_body (Goes st) go = go st
after_body (Breaks st) go = Leaves st
after_body (Over r) go = Ended r

-- the step of a `for`, if there is one
abbrev pub stepped : Program → Setting → Activation → Option Simple → State → Turn
stepped p w act None st = Again st
stepped p w act (Some s) st = turn_with st (simple_value p w (here_in act st) s st.store st.tape) (λ store st. Again (with_store st store))

-- one turn, from its visit on: `do` tests its condition after the body
abbrev pub turn_of : Program → Setting → Activation → LoopKind → Option Expr → (State → Result) → Option Simple → State → Turn
turn_of p w act kind.Do cond body step st = after_body (body st) (λ st. tested w act cond st Again)
turn_of p w act kind.While cond body step st = tested w act cond st (λ st. after_body (body st) (λ st. stepped p w act step st))
turn_of p w act kind.Clock cond body step st = tested w act cond st (λ st. after_body (body st) (λ st. stepped p w act step st))

-- the wait at the last clock ends the execution; else the clock ticks
abbrev pub wait : ℤ → State → Result
wait max_clock st = if int_le max_clock st.clock then over st Clock else Goes (record st { clock = st.clock +ℤ pos 1 })

-- ---- statements
unfoldable mutual
  pub run : Program → Setting → Bodies → Activation → Stmt → State → Result
  run p w bodies act (Stmt.Simple s) st = with_value st (simple_value p w (here_in act st) s st.store st.tape) (λ store st. Goes (with_store st store))
  run p w bodies act (Stmt.Scope v) st = Goes st
  run p w bodies act (Stmt.Block' n all) st = run_all p w bodies act all st
  run p w bodies act (Stmt.Call q f args dest) st = called p w bodies act q f args dest st
  run p w bodies act (Stmt.If' e n (more_of-Stmt a end_of-Stmt) m (more_of-Stmt b end_of-Stmt) marked) st =
      decided w act e st (λ zero st. if zero then run p w bodies act b st else run p w bodies act a st)
  run p w bodies act (Stmt.Switch' e num n groups marked) st =
      with_value st (eval w (here_in act st) st.store e st.tape) (λ z st. run_group p w bodies act (chosen (is_listed z groups) z) groups st)
  run p w bodies act (Stmt.Loop' q kind cond n (more_of-Stmt body end_of-Stmt) step) st =
      turns (record { path = act.path; place = q }) (turn_of p w act kind cond (λ st. run p w bodies act body st) step) st.left st
  run p w bodies act (Stmt.Known e) st = decided w act e st (λ zero st. if zero then over st Blocked else Goes st)
  run p w bodies act (Stmt.Assert q e) st = decided w act e st (λ zero st. if zero then over st (Error q alarm.Assert) else Goes st)
  run p w bodies act Stmt.Wait st = wait w.max_clock st
  run p w bodies act Stmt.Break st = Breaks st
  run p w bodies act (Stmt.Return q num e) st =
      with_value st (converted_value w (here_in act st) st.store num q e st.tape) (λ z st. Goes (record st { result = z }))

  pub run_all : {n : _} → Program → Setting → Bodies → Activation → Row_of-Stmt n → State → Result
  run_all p w bodies act end_of-Stmt st = Goes st
  run_all p w bodies act (more_of-Stmt s rest) st = then_state (run p w bodies act s st) (λ st. run_all p w bodies act rest st)

  -- the first group whose labels fit; where none does, nothing
  pub run_group : {n : _} → Program → Setting → Bodies → Activation → (List Label → Bool) → Row_of-Group n → State → Result
  run_group p w bodies act fits end_of-Group st = Goes st
  run_group p w bodies act fits (more_of-Group labels n (more_of-Stmt body end_of-Stmt) rest) st =
      if fits labels then run p w bodies act body st else run_group p w bodies act fits rest st

-- ---- the program
-- objects with static storage duration begin as their initial values, and else as 0 (ISO C 6.7.8p10)
abbrev pub initial_store : Program → Store
initial_store p = λ q. get_or (initial_of (slice_get p.vars q.var)) (index_of (layout_of p q.var) q.parts) (pos 0)

abbrev pub start : Program → List ℤ → ℕ → State
start p tape n = record { store = initial_store p; result = pos 0; clock = pos 0; tape = tape; left = n; visits = [] }

abbrev pub block_of : Option Func → Stmt
block_of None = stmt.Block []
block_of (Some f) = stmt.Block f.body

-- the bodies of all functions, where calls inside calls go so deep; no function calls itself, so the number of functions is deep
-- enough
unfoldable pub bodies_of : Program → Setting → ℕ → Bodies
bodies_of p w zero f act st = over st Going
bodies_of p w (suc depth) f act st = run p w (bodies_of p w depth) act (block_of (slice_get p.funcs f)) st

-- the body of main
abbrev pub main_of : Program → Stmt
main_of p = block_of (slice_get p.funcs p.entry)

abbrev pub main_activation : Program → Activation
main_activation p = record { path = []; base = own_place p [] }

-- what didn't end is still going; of a main that ends in the clock loop there is only what is over, as `Progress` says
abbrev pub ended : Result → Run
ended (Goes st) = record { visits = st.visits; end = Going }
ended (Breaks st) = record { visits = st.visits; end = Going }
ended (Over r) = r

-- the execution on this tape, up to n visits
unfoldable pub execution : Program → Setting → List ℤ → ℕ → Run
execution p w tape n = ended (run p w (bodies_of p w (length p.funcs)) (main_activation p) (main_of p) (start p tape n))
