-- No promise of the top calls rests on this page: it is for laws beside them, for proofs and for inner functions.
-- What pieces of program make of environments, and what checking mode finds in them. States don't know the mode. Each form of
-- statement makes one piece of others, so nothing here knows how statements are written.
-- A block keeps a list of environments apart to its end (trace partitioning: Rival and Mauborgne 2007), at most 16.
use Rattle.std.specs.Prelude.{ℕ, Bool, true, false, List, [], ◌∷◌, ◌++◌, Option, Some, None, if◌then◌else◌, nat_le, length}
use Rattle.sa_base.specs.declared.num.Num.{Num}
use Rattle.sa_base.specs.declared.pos.Pos.{Pos}
use Rattle.sa_base.specs.declared.alarm.Alarm.{Alarm}
use Rattle.sa_base.specs.declared.alarm.Kind.TheVariants.{Assert}
use Rattle.sa_typed.specs.declared.stmt.Label.{Label}
use Rattle.sa_typed.specs.declared.stmt.Label.TheVariants.{Case, Default}
use Rattle.sa_typed.specs.Executions.{has_default}
use Rattle.sa_flat.specs.Domain.{Domain}
use Rattle.sa_flat.specs.Meanings.{Operand, Meaning, in_alive, as_operand, number_operand, either, equal, unequal}
use Rattle.sa_flat.specs.Assignments.{Change}
use Rattle.sa_flat.specs.Passes.{alive_then, facts_of}

-- a loop by its number, the passes of one entry, and its stable state
pub record Record (Env : Type 0) : Type 0 where
  pub loop : ℕ
  pub passes : ℕ
  pub state : Env

-- alarms are a set: what a report says of a list is the same for every order of it, and repeats say nothing
pub record Found (Env : Type 0) : Type 0 where
  pub alarms : List Alarm
  pub records : List (Record Env)

-- the environments at the end, kept apart, none where it is dead; and what leaves by a break
pub record Exits (Env : Type 0) : Type 0 where
  pub ends : List Env
  pub broken : Option Env

pub record Piece (Env : Type 0) : Type 0 where
  pub after : Env → Exits Env
  pub found : Env → Found Env

-- statements one after another, from a list of environments
pub record Walk (Env : Type 0) : Type 0 where
  pub after : List Env → Exits Env
  pub found : List Env → Found Env

-- the environment that goes into a branch, and what is done there
pub record Branch (Env : Type 0) : Type 0 where
  pub start : Env → Option Env
  pub body : Piece Env

-- the labels of a group in a `switch`, and what is done from them
pub record Group (Env : Type 0) : Type 0 where
  pub labels : List Label
  pub body : Piece Env

-- one turn of a loop: what begins the next one, and what leaves the loop
pub record Turn (Env : Type 0) : Type 0 where
  pub again : Env → Option Env
  pub leaves : Env → Option Env
  pub found : Env → Found Env

abbrev pub nothing : {Env : Type 0} → Found Env
nothing = record { alarms = []; records = [] }

abbrev pub only : {Env : Type 0} → List Alarm → Found Env
only alarms = record { alarms = alarms; records = [] }

abbrev pub both : {Env : Type 0} → Found Env → Found Env → Found Env
both f g = record { alarms = f.alarms ++ g.alarms; records = f.records ++ g.records }

-- nothing is found in a dead environment
abbrev pub found_in : {Env : Type 0} → Option Env → (Env → Found Env) → Found Env
found_in None go = nothing
found_in (Some e) go = go e

-- over a list in order
abbrev pub found_over : {Env : Type 0} → List Env → (Env → Found Env) → Found Env
found_over [] go = nothing
found_over (e ∷ es) go = both (go e) (found_over es go)

abbrev pub recorded : {Env : Type 0} → ℕ → ℕ → Env → Found Env
recorded loop passes state = record { alarms = []; records = record { loop = loop; passes = passes; state = state } ∷ [] }

abbrev pub list_of : {A : Type 0} → Option A → List A
list_of None = []
list_of (Some a) = a ∷ []

abbrev pub goes_on : {Env : Type 0} → Option Env → Exits Env
goes_on o = record { ends = list_of o; broken = None }

abbrev pub exits_in : {Env : Type 0} → Option Env → (Env → Exits Env) → Exits Env
exits_in None go = record { ends = []; broken = None }
exits_in (Some e) go = go e

abbrev pub flat : {A B : Type 0} → (A → List B) → List A → List B
flat f [] = []
flat f (a ∷ as') = f a ++ flat f as'

-- ---- without a merge
abbrev pub changed : {Env : Type 0} → Change Env → Piece Env
changed c = record { after = λ env. goes_on (c.after env); found = λ env. only (c.alarms env) }

abbrev pub empty : {Env : Type 0} → Piece Env
empty = record { after = λ env. goes_on (Some env); found = λ env. nothing }

abbrev pub breaks : {Env : Type 0} → Piece Env
breaks = record { after = λ env. record { ends = []; broken = Some env }; found = λ env. nothing }

-- a condition that is taken to hold
abbrev pub known : {Env : Type 0} → Meaning Env → Piece Env
known c = record { after = λ env. goes_on (c.guard true env); found = λ env. only (c.alarms env) }

-- an assertion may fail where its condition may not hold
abbrev pub assert_alarms : {Env : Type 0} → Pos → Option Env → List Alarm
assert_alarms q may_fail = in_alive may_fail (λ _. record { pos = q; kind = Assert } ∷ [])

abbrev pub asserted : {Env : Type 0} → Pos → Meaning Env → Piece Env
asserted q c = record { after = λ env. goes_on (c.guard true env); found = λ env. only (c.alarms env ++ assert_alarms q (c.guard false env)) }

module _ (D : Domain) where
  abbrev pub waits : Piece D.Env
  waits = record { after = λ env. goes_on (D.tick env); found = λ env. nothing }

  -- the merge of a list in order
  abbrev pub merged : List D.Env → Option D.Env
  merged [] = None
  merged (e ∷ es) = either D (Some e) (merged es)

  -- ---- blocks
  -- each environment goes on by itself; they stay apart up to 16
  abbrev pub spread : (D.Env → Exits D.Env) → List D.Env → List D.Env
  spread go es = if nat_le (length (flat (λ e. (go e).ends) es)) 16 then flat (λ e. (go e).ends) es else flat (λ e. list_of (merged (go e).ends)) es

  abbrev pub broken_over : (D.Env → Exits D.Env) → List D.Env → Option D.Env
  broken_over go [] = None
  broken_over go (e ∷ es) = either D (go e).broken (broken_over go es)

  abbrev pub done : Walk D.Env
  done = record { after = λ es. record { ends = es; broken = None }; found = λ es. nothing }

  abbrev pub followed : Piece D.Env → Walk D.Env → Walk D.Env
  followed s rest = record {
    after = λ es.
        let x = rest.after (spread s.after es) in
        record { ends = x.ends; broken = either D (broken_over s.after es) x.broken };
    found = λ es. both (found_over es s.found) (rest.found (spread s.after es));
  }

  abbrev pub block : Walk D.Env → Piece D.Env
  block all = record {
    after = λ env.
        let x = all.after (env ∷ []) in
        record { ends = list_of (merged x.ends); broken = x.broken };
    found = λ env. all.found (env ∷ []);
  }

  -- ---- branches, each of which is a block
  abbrev pub branch_exits : Branch D.Env → D.Env → Exits D.Env
  branch_exits b env = exits_in (b.start env) b.body.after

  -- the ends of the branches that aren't dead
  abbrev pub apart : List (Branch D.Env) → D.Env → List D.Env
  apart [] env = []
  apart (b ∷ bs) env = list_of (merged (branch_exits b env).ends) ++ apart bs env

  abbrev pub branches_broken : List (Branch D.Env) → D.Env → Option D.Env
  branches_broken [] env = None
  branches_broken (b ∷ bs) env = either D (branch_exits b env).broken (branches_broken bs env)

  abbrev pub branches_found : List (Branch D.Env) → D.Env → Found D.Env
  branches_found [] env = nothing
  branches_found (b ∷ bs) env = both (found_in (b.start env) b.body.found) (branches_found bs env)

  -- without the partition directive branches are merged in source order
  abbrev pub branching : (D.Env → List Alarm) → Bool → List (Branch D.Env) → Piece D.Env
  branching alarms marked bs = record {
    after = λ env. record { ends = if marked then apart bs env else list_of (merged (apart bs env)); broken = branches_broken bs env };
    found = λ env. both (only (alarms env)) (branches_found bs env);
  }

  abbrev pub decision : Meaning D.Env → Piece D.Env → Piece D.Env → Bool → Piece D.Env
  decision c a b marked = branching c.alarms marked (record { start = c.guard true; body = a } ∷ record { start = c.guard false; body = b } ∷ [])

  -- no label has the value
  unfoldable pub none_of : Operand D.Env → List Label → D.Env → Option D.Env
  none_of v [] env = Some env
  none_of v (Case k ∷ labels) env = alive_then (unequal D v (number_operand k) env) (none_of v labels)
  none_of v (Default ∷ labels) env = none_of v labels env

  -- `default` is from the labels of all groups
  abbrev pub label_start : Operand D.Env → List Label → Label → D.Env → Option D.Env
  label_start v all (Case k) env = equal D v (number_operand k) env
  label_start v all Default env = none_of v all env

  unfoldable pub labels_start : Operand D.Env → List Label → List Label → D.Env → Option D.Env
  labels_start v all [] env = None
  labels_start v all (l ∷ labels) env = either D (label_start v all l env) (labels_start v all labels env)

  abbrev pub all_labels : List (Group D.Env) → List Label
  all_labels [] = []
  all_labels (g ∷ gs) = g.labels ++ all_labels gs

  abbrev pub group_branches : Operand D.Env → List Label → List (Group D.Env) → List (Branch D.Env)
  group_branches v all [] = []
  group_branches v all (g ∷ gs) = record { start = labels_start v all g.labels; body = g.body } ∷ group_branches v all gs

  -- where no group has `default`, an empty one stands last
  abbrev pub default_branch : Operand D.Env → List Label → List (Branch D.Env)
  default_branch v all = if has_default all then [] else record { start = none_of v all; body = empty } ∷ []

  -- the labels have the promoted type of the expression
  abbrev pub selection : Num → Meaning D.Env → List (Group D.Env) → Bool → Piece D.Env
  selection num e gs marked =
      let v = as_operand num e.value in
      branching e.alarms marked (group_branches v (all_labels gs) gs ++ default_branch v (all_labels gs))

  -- ---- loops
  -- a loop without a condition goes on
  abbrev pub holds : Option (Meaning D.Env) → D.Env → Option D.Env
  holds None env = Some env
  holds (Some c) env = c.guard true env

  abbrev pub fails : Option (Meaning D.Env) → D.Env → Option D.Env
  fails None env = None
  fails (Some c) env = c.guard false env

  abbrev pub test_alarms : Option (Meaning D.Env) → D.Env → Found D.Env
  test_alarms None env = nothing
  test_alarms (Some c) env = only (c.alarms env)

  abbrev pub stepped : Option (Change D.Env) → D.Env → Option D.Env
  stepped None env = Some env
  stepped (Some c) env = c.after env

  abbrev pub step_alarms : Option (Change D.Env) → D.Env → Found D.Env
  step_alarms None env = nothing
  step_alarms (Some c) env = only (c.alarms env)

  -- the condition, the body and the step
  abbrev pub while_turn : Option (Meaning D.Env) → Piece D.Env → Option (Change D.Env) → Turn D.Env
  while_turn c body step = record {
    again = λ env. alive_then (holds c env) (λ e. alive_then (merged (body.after e).ends) (stepped step));
    leaves = λ env. either D (fails c env) (exits_in (holds c env) body.after).broken;
    found = λ env. both (test_alarms c env) (found_in (holds c env) (λ e. both (body.found e) (found_in (merged (body.after e).ends) (step_alarms step))));
  }

  -- the body and the condition
  abbrev pub do_turn : Option (Meaning D.Env) → Piece D.Env → Turn D.Env
  do_turn c body = record {
    again = λ env. alive_then (merged (body.after env).ends) (holds c);
    leaves = λ env. either D (alive_then (merged (body.after env).ends) (fails c)) (body.after env).broken;
    found = λ env. both (body.found env) (found_in (merged (body.after env).ends) (test_alarms c));
  }

  -- a loop by its number, over these cells, with its peak: what follows it leaves the stable state, and checking mode records
  -- that and walks one more turn from it
  abbrev pub looped : List ℕ → ℕ → (D.Env → D.Env) → Turn D.Env → Piece D.Env
  looped cells k peak t = record {
    after = λ env. goes_on (alive_then (facts_of D cells t.again (peak env) env).state t.leaves);
    found = λ env.
        let f = facts_of D cells t.again (peak env) env in
        found_in f.state (λ r. both (recorded k f.passes r) (t.found r));
  }
