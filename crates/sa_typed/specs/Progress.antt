-- No promise of the top calls rests on this page: it is for laws beside them, for proofs and for inner functions.
-- That executions go on. Where the clock loop comes last in main and there is no other loop, an execution has fewer than n
-- visits only because of an error, of the wait at the last clock, of a number that a read doesn't take, or of the tape's end.
use Rattle.std.specs.Prelude.{ℕ, ◌+◌, ◌*◌, ◌≤◌, ◌<◌, ℤ, pos, ◌≡◌, ◌⊎◌, List, [], ◌∷◌, length, min, Bool, true, false, ◌&&◌, slice_get, Option, None}
use Rattle.std.specs.List.{AllByRecursion}
use Rattle.sa_base.specs.declared.num.Num.{Num}
use Rattle.sa_base.specs.declared.num.Num.TheVariants.{I32}
use Rattle.sa_base.specs.declared.pos.Pos.{Pos}
use Rattle.sa_typed.specs.Arithmetic.{is_of}
use Rattle.sa_typed.specs.Layouts.{nums, layout_of}
use Rattle.sa_typed.specs.Evaluation.{End, Error, Clock, Blocked, Tape, Going, Setting, is_in, range_of}
use Rattle.sa_typed.specs.Executions.{Visit, Run, State, Result, Goes, Breaks, Over, Activation, run, start, block_of, bodies_of, main_of, main_activation, execution}
use Rattle.sa_typed.specs.declared.expr.Expr.{Expr, Number, Read', Input, Prefix', Cast', Chain', And', Or', Choice', end_of-Expr, more_of-Expr, Row_of-Expr, Row_of-Link, end_of-Link, more_of-Link, Row_of-Step, end_of-Step, more_of-Step}
use Rattle.sa_typed.specs.declared.expr.Expr.TheVariants as e
use Rattle.sa_typed.specs.declared.expr.Access.{Access}
use Rattle.sa_typed.specs.declared.expr.Step.{Step, At', Field}
use Rattle.sa_typed.specs.declared.stmt.Start.{Start}
use Rattle.sa_typed.specs.declared.stmt.Start.TheVariants as begins
use Rattle.sa_typed.specs.declared.stmt.Simple.{Simple}
use Rattle.sa_typed.specs.declared.stmt.Simple.TheVariants.{Declare, Assign, Compound, Copy}
use Rattle.sa_typed.specs.declared.stmt.LoopKind.{LoopKind}
use Rattle.sa_typed.specs.declared.stmt.LoopKind.TheVariants as kind
use Rattle.sa_typed.specs.declared.stmt.Stmt.{Stmt, Row_of-Stmt, end_of-Stmt, more_of-Stmt, Row_of-Group, end_of-Group, more_of-Group}
use Rattle.sa_typed.specs.declared.stmt.Stmt.TheVariants as stmt
use Rattle.sa_typed.specs.declared.program.Program.{Program}

-- ---- the clock loop last
-- declarations, assignments and blocks of them
unfoldable mutual
  pub IsStraight : Stmt → Type 0
  IsStraight (Stmt.Simple s) = Unit {0}
  IsStraight (Stmt.Scope v) = Unit {0}
  IsStraight (Stmt.Block' n all) = AreStraight all
  IsStraight _ = ⊥

  pub AreStraight : {n : _} → Row_of-Stmt n → Type 0
  AreStraight end_of-Stmt = Unit {0}
  AreStraight (more_of-Stmt s rest) = IsStraight s × AreStraight rest

abbrev pub IsEnd : {n : _} → Row_of-Stmt n → Type 0
IsEnd end_of-Stmt = Unit {0}
IsEnd (more_of-Stmt s rest) = ⊥

-- straight statements, and the wait as the last one
unfoldable pub WaitLast : {n : _} → Row_of-Stmt n → Type 0
WaitLast end_of-Stmt = ⊥
WaitLast (more_of-Stmt s rest) = ((s ≡ stmt.Wait) × IsEnd rest) ⊎ (IsStraight s × WaitLast rest)

abbrev pub IsTurn : LoopKind → Option Expr → Stmt → Option Simple → Type 0
IsTurn kind.Clock None (Stmt.Block' n all) None = WaitLast all
IsTurn _ _ _ _ = ⊥

-- the clock loop at this place comes last, and nothing else than straight statements stands before it and in it
unfoldable mutual
  pub EndsInClock : Pos → Stmt → Type 0
  EndsInClock q (Stmt.Block' n all) = EndInClock q all
  EndsInClock q (Stmt.Loop' r kind cond n (more_of-Stmt body end_of-Stmt) step) = (r ≡ q) × IsTurn kind cond body step
  EndsInClock q _ = ⊥

  pub EndInClock : {n : _} → Pos → Row_of-Stmt n → Type 0
  EndInClock q end_of-Stmt = ⊥
  EndInClock q (more_of-Stmt s rest) = (EndsInClock q s × IsEnd rest) ⊎ (IsStraight s × EndInClock q rest)

-- ---- how many numbers of the tape are taken at most where nothing ends before
unfoldable mutual
  pub reads : Expr → ℕ
  reads (Number n num) = 0
  reads (Read' v n steps num) = steps_reads steps
  reads (Input k num) = 1
  reads (Prefix' op p num n (more_of-Expr a end_of-Expr)) = reads a
  reads (Cast' p num n (more_of-Expr a end_of-Expr)) = reads a
  reads (Chain' n (more_of-Expr a end_of-Expr) m ls) = reads a + links_reads ls
  reads (And' n (more_of-Expr a end_of-Expr) m rest) = reads a + all_of_reads rest
  reads (Or' n (more_of-Expr a end_of-Expr) m rest) = reads a + all_of_reads rest
  reads (Choice' n (more_of-Expr a end_of-Expr) m (more_of-Expr b end_of-Expr) l (more_of-Expr c end_of-Expr) num) = reads a + (reads b + reads c)

  pub all_of_reads : {n : _} → Row_of-Expr n → ℕ
  all_of_reads end_of-Expr = 0
  all_of_reads (more_of-Expr b rest) = reads b + all_of_reads rest

  pub links_reads : {n : _} → Row_of-Link n → ℕ
  links_reads end_of-Link = 0
  links_reads (more_of-Link op p num b rest) = reads b + links_reads rest

  pub steps_reads : {n : _} → Row_of-Step n → ℕ
  steps_reads end_of-Step = 0
  steps_reads (more_of-Step s rest) = step_reads s + steps_reads rest

  pub step_reads : Step → ℕ
  step_reads (At' p n m (more_of-Expr a end_of-Expr)) = reads a
  step_reads (Field f) = 0

-- the indices of an access alone are evaluated
unfoldable pub place_reads : Expr → ℕ
place_reads (Read' v n steps num) = steps_reads steps
place_reads _ = 0

abbrev pub access_reads : Access → ℕ
access_reads x = place_reads (e.Read x I32)

-- a local without initialiser takes a number for each element
abbrev pub start_reads : Program → ℕ → Start → ℕ
start_reads p v begins.Any = length (nums (layout_of p v))
start_reads p v (begins.Value q a) = reads a
start_reads p v begins.Items = 0

abbrev pub simple_reads : Program → Simple → ℕ
simple_reads p (Declare v s) = start_reads p v s
simple_reads p (Assign x num q a) = access_reads x + reads a
simple_reads p (Compound x num op q work a) = access_reads x + reads a
simple_reads p (Copy k x q y) = access_reads x + access_reads y

-- of straight statements, and of one turn of the clock loop
unfoldable mutual
  pub stmt_reads : Program → Stmt → ℕ
  stmt_reads p (Stmt.Simple s) = simple_reads p s
  stmt_reads p (Stmt.Block' n all) = all_reads p all
  stmt_reads p (Stmt.Loop' q kind cond n (more_of-Stmt body end_of-Stmt) step) = stmt_reads p body
  stmt_reads p _ = 0

  pub all_reads : {n : _} → Program → Row_of-Stmt n → ℕ
  all_reads p end_of-Stmt = 0
  all_reads p (more_of-Stmt s rest) = stmt_reads p s + all_reads p rest

-- ---- whether a number is in the range of each input that is read
unfoldable mutual
  pub takes : Setting → Expr → ℤ → Bool
  takes w (Number n num) z = true
  takes w (Read' v n steps num) z = steps_take w steps z
  takes w (Input k num) z = is_in (range_of w k) z
  takes w (Prefix' op p num n (more_of-Expr a end_of-Expr)) z = takes w a z
  takes w (Cast' p num n (more_of-Expr a end_of-Expr)) z = takes w a z
  takes w (Chain' n (more_of-Expr a end_of-Expr) m ls) z = takes w a z && links_take w ls z
  takes w (And' n (more_of-Expr a end_of-Expr) m rest) z = takes w a z && all_of_take w rest z
  takes w (Or' n (more_of-Expr a end_of-Expr) m rest) z = takes w a z && all_of_take w rest z
  takes w (Choice' n (more_of-Expr a end_of-Expr) m (more_of-Expr b end_of-Expr) l (more_of-Expr c end_of-Expr) num) z = takes w a z && (takes w b z && takes w c z)

  pub all_of_take : {n : _} → Setting → Row_of-Expr n → ℤ → Bool
  all_of_take w end_of-Expr z = true
  all_of_take w (more_of-Expr b rest) z = takes w b z && all_of_take w rest z

  pub links_take : {n : _} → Setting → Row_of-Link n → ℤ → Bool
  links_take w end_of-Link z = true
  links_take w (more_of-Link op p num b rest) z = takes w b z && links_take w rest z

  pub steps_take : {n : _} → Setting → Row_of-Step n → ℤ → Bool
  steps_take w end_of-Step z = true
  steps_take w (more_of-Step s rest) z = step_takes w s z && steps_take w rest z

  pub step_takes : Setting → Step → ℤ → Bool
  step_takes w (At' p n m (more_of-Expr a end_of-Expr)) z = takes w a z
  step_takes w (Field f) z = true

unfoldable pub place_takes : Setting → Expr → ℤ → Bool
place_takes w (Read' v n steps num) z = steps_take w steps z
place_takes w _ z = true

abbrev pub access_takes : Setting → Access → ℤ → Bool
access_takes w x z = place_takes w (e.Read x I32) z

-- the number is of each of these types
unfoldable pub is_of_all : List Num → ℤ → Bool
is_of_all [] z = true
is_of_all (num ∷ nums) z = is_of num z && is_of_all nums z

-- also of the type of each element of a local that is declared without initialiser
abbrev pub start_takes : Program → Setting → ℕ → Start → ℤ → Bool
start_takes p w v begins.Any z = is_of_all (nums (layout_of p v)) z
start_takes p w v (begins.Value q a) z = takes w a z
start_takes p w v begins.Items z = true

abbrev pub simple_takes : Program → Setting → Simple → ℤ → Bool
simple_takes p w (Declare v s) z = start_takes p w v s z
simple_takes p w (Assign x num q a) z = access_takes w x z && takes w a z
simple_takes p w (Compound x num op q work a) z = access_takes w x z && takes w a z
simple_takes p w (Copy k x q y) z = access_takes w x z && access_takes w y z

unfoldable mutual
  pub stmt_takes : Program → Setting → Stmt → ℤ → Bool
  stmt_takes p w (Stmt.Simple s) z = simple_takes p w s z
  stmt_takes p w (Stmt.Block' n all) z = all_take p w all z
  stmt_takes p w (Stmt.Loop' q kind cond n (more_of-Stmt body end_of-Stmt) step) z = stmt_takes p w body z
  stmt_takes p w _ z = true

  pub all_take : {n : _} → Program → Setting → Row_of-Stmt n → ℤ → Bool
  all_take p w end_of-Stmt z = true
  all_take p w (more_of-Stmt s rest) z = stmt_takes p w s z && all_take p w rest z

-- some number of a list fails a test
abbrev pub SomeFails : (ℤ → Bool) → List ℤ → Type 0
SomeFails test [] = ⊥
SomeFails test (z ∷ zs) = (test z ≡ false) ⊎ SomeFails test zs

-- ---- executions
-- the visits are those of the clock loop at this place, of which the first has clock k, and each further one the next clock
abbrev pub AreTurns : Pos → ℕ → List Visit → Type 0
AreTurns q k [] = Unit {0}
AreTurns q k (v ∷ vs) = (v.loop ≡ record { path = []; place = q }) × (v.clock ≡ pos k) × AreTurns q (k + 1) vs

-- what is known where an execution on a tape, up to n visits and with last clock `last`, ends after so many visits
abbrev pub Causes : Program → Setting → (last : ℕ) → (tape : List ℤ) → (n visits : ℕ) → End → Type 0
Causes p w last tape n visits (Error q kind) = Unit {0}
Causes p w last tape n visits Clock = visits ≡ last + 1
Causes p w last tape n visits Blocked = SomeFails (stmt_takes p w (main_of p)) tape
Causes p w last tape n visits Tape = length tape < stmt_reads p (main_of p) * (n + 1)
Causes p w last tape n visits Going = visits ≡ n

-- the visits are turns of the clock loop, at most n and at most one for each clock, and the end has a cause
pub record Lasts (p : Program) (w : Setting) (q : Pos) (last : ℕ) (tape : List ℤ) (n : ℕ) (r : Run) : Type 0 where
  pub turns : AreTurns q 0 r.visits
  pub within : length r.visits ≤ n
  pub clocks : length r.visits ≤ last + 1
  pub cause : Causes p w last tape n (length r.visits) r.end

abbrev pub IsNoError : End → Type 0
IsNoError (Error q kind) = ⊥
IsNoError Clock = Unit {0}
IsNoError Blocked = Unit {0}
IsNoError Tape = Unit {0}
IsNoError Going = Unit {0}

-- a run that is over: nothing was left to do after it, and no break was on its way out
abbrev pub IsOver : Result → Type 0
IsOver (Goes st) = ⊥
IsOver (Breaks st) = ⊥
IsOver (Over r) = Unit {0}

-- main neither comes to its end nor breaks, so its run is what the execution tells. Where no evaluation errs, and the tape
-- has enough numbers and each of them is taken, there are n visits, or one for each clock where those are fewer
pub record HasVisits (p : Program) (w : Setting) (q : Pos) (last : ℕ) (tape : List ℤ) (n : ℕ) : Type 0 where
  pub over : IsOver (run p w (bodies_of p w (length p.funcs)) (main_activation p) (main_of p) (start p tape n))
  pub lasts : Lasts p w q last tape n (execution p w tape n)
  pub full : IsNoError (execution p w tape n).end → stmt_reads p (main_of p) * (n + 1) ≤ length tape →
      AllByRecursion (λ z. stmt_takes p w (main_of p) z ≡ true) tape → length (execution p w tape n).visits ≡ min n (last + 1)

-- of every program, whether typed or not, whose main ends in the clock loop, with every setting, tape and number of visits
abbrev pub GoesOn : Type 0
GoesOn = (p : Program) (w : Setting) (q : Pos) (last : ℕ) → EndsInClock q (main_of p) → w.max_clock ≡ pos last → (tape : List ℤ) (n : ℕ) → HasVisits p w q last tape n

-- ---- breaks
abbrev pub IsUnbroken : Result → Type 0
IsUnbroken (Goes st) = Unit {0}
IsUnbroken (Breaks st) = ⊥
IsUnbroken (Over r) = Unit {0}

-- each break stands in a loop
unfoldable mutual
  pub IsClosed : Stmt → Type 0
  IsClosed (Stmt.Block' n all) = AreClosed all
  IsClosed (Stmt.If' e n (more_of-Stmt a end_of-Stmt) m (more_of-Stmt b end_of-Stmt) marked) = IsClosed a × IsClosed b
  IsClosed (Stmt.Switch' e num n groups marked) = HaveClosed groups
  IsClosed Stmt.Break = ⊥
  IsClosed _ = Unit {0}

  pub AreClosed : {n : _} → Row_of-Stmt n → Type 0
  AreClosed end_of-Stmt = Unit {0}
  AreClosed (more_of-Stmt s rest) = IsClosed s × AreClosed rest

  pub HaveClosed : {n : _} → Row_of-Group n → Type 0
  HaveClosed end_of-Group = Unit {0}
  HaveClosed (more_of-Group labels n (more_of-Stmt body end_of-Stmt) rest) = IsClosed body × HaveClosed rest

-- no break gets out of a statement whose breaks stand in loops, where that is so of the body of each function
abbrev pub NeverBreaks : Type 0
NeverBreaks = (p : Program) (w : Setting) → ((f : ℕ) → IsClosed (block_of (slice_get p.funcs f))) →
    (depth : ℕ) (act : Activation) (s : Stmt) → IsClosed s → (st : State) → IsUnbroken (run p w (bodies_of p w depth) act s st)
