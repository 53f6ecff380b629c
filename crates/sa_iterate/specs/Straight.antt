-- No promise of the top calls rests on this page: it is for laws beside them, for proofs and for inner functions.
-- Rows of statements over the interval domain, from an environment that may be dead: one environment goes from statement to
-- statement. `StraightLaws` ties this to the lists of environments that a block keeps, which here hold one at most.
use Rattle.std.specs.Prelude.{List, [], ◌∷◌, Bool, true, false, Option, Some, None}
use Rattle.sa_base.specs.declared.pos.Pos.{Pos}
use Rattle.sa_typed.specs.declared.program.Program.{Program}
use Rattle.sa_typed.specs.declared.stmt.Stmt.{Stmt}
use Rattle.sa_typed.specs.Executions.{Loop}
use Rattle.sa_reference.specs.declared.flat.Flat.{Flat}
use Rattle.sa_reference.specs.Domain.{Domain}
use Rattle.sa_reference.specs.Environments.{top_of, whole_clock}
use Rattle.sa_reference.specs.Fair.{IsFair}
use Rattle.sa_reference.specs.Intervals.{intervals}
use Rattle.sa_reference.specs.Passes.{Facts, facts_of}
use Rattle.sa_reference.specs.Sound.{widest}
use Rattle.sa_reference.specs.Steps.{Found, nothing, both, merged, after, found, loop_found}

-- intervals, where nothing is said of the inputs and the clock
abbrev pub domain : Program → Domain
domain p = intervals p (widest p)

abbrev pub IsFairIn : Program → Flat → Type 0
IsFairIn p e = IsFair p (widest p).max_clock e

-- what a statement of main makes of an environment, and what is found in it
unfoldable pub stmt_after : Program → Stmt → Flat → Option Flat
stmt_after p s e = merged (domain p) (after (domain p) s [] e).ends

unfoldable pub stmt_found : Program → Stmt → Flat → Found Flat
stmt_found p s e = found (domain p) s [] e

-- from dead every statement gives dead, and nothing is found
unfoldable pub next_env : Program → Option Flat → Stmt → Option Flat
next_env p None s = None
next_env p (Some e) s = stmt_after p s e

unfoldable pub next_found : Program → Option Flat → Stmt → Found Flat
next_found p None s = nothing
next_found p (Some e) s = stmt_found p s e

unfoldable pub straight : Program → List Stmt → Option Flat → Option Flat
straight p [] o = o
straight p (s ∷ ss) o = straight p ss (next_env p o s)

unfoldable pub straight_found : Program → List Stmt → Option Flat → Found Flat
straight_found p [] o = nothing
straight_found p (s ∷ ss) o = both (next_found p o s) (straight_found p ss (next_env p o s))

-- what is kept of what is found: all of it in checking mode, none in iteration mode
unfoldable pub kept : Bool → Found Flat → Found Flat
kept true f = f
kept false f = nothing

-- the clock loop from its entry
unfoldable pub facts_from : Program → Stmt → Flat → Facts Flat
facts_from p body e = facts_of (domain p) (stmt_after p body) (top_of p (whole_clock (widest p).max_clock)) e

-- a loop of main
unfoldable pub main_loop : Pos → Loop
main_loop q = record { path = []; place = q }

-- what the clock loop finds from its entry
unfoldable pub clock_found : Program → Pos → Stmt → Flat → Found Flat
clock_found p q body e = loop_found (domain p) (main_loop q) (λ r. stmt_found p body r) (facts_from p body e)
