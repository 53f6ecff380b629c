-- What statements make of environments, and what checking mode finds in them. States don't know the mode.
-- A block keeps a list of environments apart to its end (trace partitioning: Rival and Mauborgne 2007), at most 16.
use Rattle.std.specs.Prelude.{ℕ, List, [], ◌∷◌, ◌++◌, Option, Some, None, if◌then◌else◌, nat_le, length}
use Rattle.sa_base.specs.declared.pos.Pos.{Pos}
use Rattle.sa_base.specs.declared.alarm.Alarm.{Alarm}
use Rattle.sa_typed.specs.declared.stmt.LoopKind.TheVariants as kind
use Rattle.sa_typed.specs.declared.stmt.Stmt.{Stmt, Row_of-Stmt, end_of-Stmt, more_of-Stmt}
use Rattle.sa_typed.specs.Executions.{Loop}
use Rattle.sa_reference.specs.Domain.{Domain}
use Rattle.sa_reference.specs.Passes.{Facts, facts_of}

-- the stable state of a loop and its passes
pub record Record (Env : Type 0) : Type 0 where
  pub loop : Loop
  pub passes : ℕ
  pub state : Env

pub record Found (Env : Type 0) : Type 0 where
  pub alarms : List Alarm
  pub records : List (Record Env)

-- the environments at the end, kept apart, none where it is dead; and what leaves by a break
pub record Exits (Env : Type 0) : Type 0 where
  pub ends : List Env
  pub broken : Option Env

abbrev pub nothing : {Env : Type 0} → Found Env
nothing = record { alarms = []; records = [] }

abbrev pub only : {Env : Type 0} → List Alarm → Found Env
only alarms = record { alarms = alarms; records = [] }

abbrev pub both : {Env : Type 0} → Found Env → Found Env → Found Env
both f g = record { alarms = f.alarms ++ g.alarms; records = f.records ++ g.records }

-- nothing is found in a dead environment
abbrev pub found_in : {Env : Type 0} → Option Env → (Env → Found Env) → Found Env
found_in None go = nothing
found_in (Some e) go = go e

-- over a list in order
abbrev pub found_over : {Env : Type 0} → List Env → (Env → Found Env) → Found Env
found_over [] go = nothing
found_over (e ∷ es) go = both (go e) (found_over es go)

abbrev pub recorded : {Env : Type 0} → Loop → ℕ → Env → Found Env
recorded loop passes state = record { alarms = []; records = record { loop = loop; passes = passes; state = state } ∷ [] }

abbrev pub list_of : {A : Type 0} → Option A → List A
list_of None = []
list_of (Some a) = a ∷ []

abbrev pub goes_on : {Env : Type 0} → Option Env → Exits Env
goes_on o = record { ends = list_of o; broken = None }

abbrev pub flat : {A B : Type 0} → (A → List B) → List A → List B
flat f [] = []
flat f (a ∷ as') = f a ++ flat f as'

module _ (D : Domain) where
  -- the merge of two branches, of which either may be dead
  abbrev pub either : Option D.Env → Option D.Env → Option D.Env
  either None b = b
  either (Some a) None = Some a
  either (Some a) (Some b) = Some (D.merge a b)

  -- the merge of a list in order
  abbrev pub merged : List D.Env → Option D.Env
  merged [] = None
  merged (e ∷ es) = either (Some e) (merged es)

  -- each environment goes on by itself; they stay apart up to 16
  abbrev pub spread : (D.Env → Exits D.Env) → List D.Env → List D.Env
  spread go es = if nat_le (length (flat (λ e. (go e).ends) es)) 16 then flat (λ e. (go e).ends) es else flat (λ e. list_of (merged (go e).ends)) es

  abbrev pub broken_over : (D.Env → Exits D.Env) → List D.Env → Option D.Env
  broken_over go [] = None
  broken_over go (e ∷ es) = either (go e).broken (broken_over go es)

  -- one turn of the clock loop, by what its body makes of an environment; the wait stands in the body
  abbrev pub clock_turn_of : (D.Env → Exits D.Env) → D.Env → Option D.Env
  clock_turn_of body e = merged (body e).ends

  -- the clock loop from its entry
  abbrev pub clock_facts : (D.Env → Exits D.Env) → D.Env → Facts D.Env
  clock_facts body s = facts_of D (clock_turn_of body) D.top s

  unfoldable mutual
    pub after : Stmt → List Pos → D.Env → Exits D.Env
    after (Stmt.Simple s) path env = goes_on (D.simple s env)
    after (Stmt.Block' n all) path env =
        let x = after_all all path (env ∷ []) in
        record { ends = list_of (merged x.ends); broken = x.broken }
    after Stmt.Wait path env = goes_on (D.tick env)
    -- nothing leaves the clock loop
    after (Stmt.Loop' q kind.Clock None n (more_of-Stmt body end_of-Stmt) None) path env = goes_on None
    -- typing gives no other form yet
    after _ path env = goes_on (Some env)

    pub after_all : {n : _} → Row_of-Stmt n → List Pos → List D.Env → Exits D.Env
    after_all end_of-Stmt path es = record { ends = es; broken = None }
    after_all (more_of-Stmt s rest) path es =
        let x = after_all rest path (spread (λ e. after s path e) es) in
        record { ends = x.ends; broken = either (broken_over (λ e. after s path e) es) x.broken }

  -- the record of a loop, and what one more turn from its stable state finds
  abbrev pub loop_found : Loop → (D.Env → Found D.Env) → Facts D.Env → Found D.Env
  loop_found loop sees f = found_in f.state (λ r. both (recorded loop f.passes r) (sees r))

  unfoldable mutual
    pub found : Stmt → List Pos → D.Env → Found D.Env
    found (Stmt.Simple s) path env = only (D.simple_alarms s env)
    found (Stmt.Block' n all) path env = found_all all path (env ∷ [])
    found (Stmt.Loop' q kind.Clock None n (more_of-Stmt body end_of-Stmt) None) path env =
        loop_found (record { path = path; place = q }) (λ r. found body path r) (clock_facts (λ e. after body path e) env)
    -- in a wait there is nothing, and typing gives no other form yet
    found _ path env = nothing

    pub found_all : {n : _} → Row_of-Stmt n → List Pos → List D.Env → Found D.Env
    found_all end_of-Stmt path es = nothing
    found_all (more_of-Stmt s rest) path es = both (found_over es (λ e. found s path e)) (found_all rest path (spread (λ e. after s path e) es))
