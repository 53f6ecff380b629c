-- What is counted of a statement and of a body, once the bodies that it calls are counted.
use Rattle.std.specs.Prelude.{ℕ, ◌+◌, ◌-◌, ◌^◌, ◌≡◌, max, min, List, [], ◌∷◌, get_or, Option, Some, None, nat_lt, Bool, true, ◌&&◌, if◌then◌else◌}
use Rattle.sa_base.specs.Numbers.{limit_number}
use Rattle.sa_base.specs.declared.limit.Limit.{Limit}
use Rattle.sa_base.specs.declared.limit.Limit.TheVariants.{Calls, Statements}
use Rattle.sa_typed.specs.Frames.{statements_in, body_statements, program_statements}
use Rattle.sa_typed.specs.TypedPrograms.{calls_in}
use Rattle.sa_typed.specs.declared.program.Func.{Func}
use Rattle.sa_typed.specs.declared.program.Program.{Program}
use Rattle.sa_typed.specs.declared.stmt.Simple.{Simple}
use Rattle.sa_typed.specs.declared.stmt.Stmt.{Stmt}
use Rattle.sa_typed.specs.declared.stmt.Group.{Group}
use Rattle.sa_typed.specs.declared.stmt.Stmt.TheVariants as stmt
use Rattle.sa_calls.specs.declared.weights.Weight.{Weight}
use Rattle.sa_calls.specs.Depths.{deepest, body_calls, program_calls}

-- what a machine word keeps of a number
abbrev pub capped : ℕ → ℕ
capped n = min n (2 ^ 64 - 1)

abbrev pub weight : ℕ → ℕ → Weight
weight c s = record { calls = capped c; statements = capped s }

abbrev pub nothing : Weight
nothing = record { calls = 0; statements = 0 }

abbrev pub one : Weight
one = record { calls = 0; statements = 1 }

-- one after the other
unfoldable pub both : Weight → Weight → Weight
both a b = weight (max a.calls b.calls) (a.statements + b.statements)

-- one statement more
unfoldable pub one_more : Weight → Weight
one_more a = weight a.calls (a.statements + 1)

-- a call of a body
unfoldable pub called : Weight → Weight
called a = weight (a.calls + 1) (a.statements + 1)

unfoldable pub with_step : Option Simple → Weight → Weight
with_step None a = a
with_step (Some s) a = one_more a

-- a list of weights by the function's number; what isn't listed weighs nothing
unfoldable pub weight_at : List Weight → ℕ → Weight
weight_at rows f = get_or rows f nothing

unfoldable pub calls_by : List Weight → ℕ → ℕ
calls_by rows f = (weight_at rows f).calls

unfoldable pub statements_by : List Weight → ℕ → ℕ
statements_by rows f = (weight_at rows f).statements

-- of a statement, by the weights of bodies
unfoldable pub weight_in : List Weight → Stmt → Weight
weight_in rows s = weight (deepest (calls_by rows) (calls_in s)) (statements_in (statements_by rows) s)

-- of statements one after the other, and what came before them
unfoldable pub weight_after : List Weight → List Stmt → Weight → Weight
weight_after rows [] a = a
weight_after rows (s ∷ ss) a = weight_after rows ss (both a (weight_in rows s))

unfoldable pub groups_after : List Weight → List Group → Weight → Weight
groups_after rows [] a = a
groups_after rows (g ∷ gs) a = groups_after rows gs (both a (weight_in rows g.body))

-- of all functions, once more
unfoldable pub deeper : List Weight → List Func → List Weight
deeper rows [] = []
deeper rows (f ∷ fs) = weight_in rows (stmt.Block f.body) ∷ deeper rows fs

-- the list has the weight of each body, where calls inside calls go so deep
abbrev pub AreWeights : Program → ℕ → List Weight → Type 0
AreWeights p depth rows = (f : ℕ) → weight_at rows f ≡ weight (body_calls p depth f) (body_statements p depth f)

-- all of them have fewer calls on a path
unfoldable pub all_below : ℕ → List Weight → Bool
all_below depth [] = true
all_below depth (w ∷ rows) = nat_lt w.calls depth && all_below depth rows

-- a round more would change nothing after so many
abbrev pub is_settled : ℕ → List Weight → Bool
is_settled rounds rows = nat_lt 0 rounds && all_below rounds rows

-- the first limit that the inlined program is over
unfoldable pub over_limit : ℕ → ℕ → Option Limit
over_limit calls statements = if nat_lt (limit_number Calls) calls then Some Calls else if nat_lt (limit_number Statements) statements then Some Statements else None

unfoldable pub first_over : Program → Option Limit
first_over p = over_limit (program_calls p) (program_statements p)
