-- The dispatch machine: what each event meets, and what it leaves.
use Rattle.std.specs.Prelude.{◌≡◌, ◌≢◌, MatchResult, ℕ, ◌+◌, ◌<◌, ◌==◌, nat_lt, Bool, true, false, if◌then◌else◌, List, [], ◌∷◌, length, slice_index_or, slice_set, replicate, Option, Some, None, Result, Ok, Err}
use Rattle.sa_core.specs.Laws.{Parts}
use Rattle.sa_core.specs.declared.event.Branch.{Branch}
use Rattle.sa_core.specs.declared.event.Branch.TheVariants.{Free, Held, Filed, Given, Swept}
use Rattle.sa_core.specs.declared.event.Event.{Event}
use Rattle.sa_core.specs.declared.event.Event.TheVariants.{Claim, File, Gave, Sweep}
use Rattle.sa_core.specs.declared.event.CoreError.{CoreError}
use Rattle.sa_core.specs.declared.event.CoreError.TheVariants.{Taken, NotClaimed, Done, OutOfMemory}

-- the next number to claim, where each branch stands, and what is merged so far
pub record State (P : Type 0) : Type 0 where
  pub next : ℕ
  pub branches : List Branch
  pub merged : P

-- where branch k stands
abbrev pub branch_at : List Branch → ℕ → Branch
branch_at branches k = slice_index_or branches k Free

-- ---- the table of events

-- what worker w meets who files branch k or gives it back: nothing, or a refusal
abbrev pub holder_meets : ℕ → ℕ → Branch → Option CoreError
holder_meets w k Free = Some (NotClaimed k)
holder_meets w k (Held v) = if v == w then None else Some (Taken k)
holder_meets w k Filed = Some (Done k)
holder_meets w k Given = Some (Done k)
holder_meets w k Swept = Some (Done k)

-- what a sweep of branch k meets
abbrev pub sweep_meets : ℕ → Branch → Option CoreError
sweep_meets k Free = Some (NotClaimed k)
sweep_meets k (Held v) = Some (Taken k)
sweep_meets k Filed = Some (Done k)
sweep_meets k Given = None
sweep_meets k Swept = Some (Done k)

-- a claim meets nothing
abbrev pub meets : Event → List Branch → Option CoreError
meets (Claim w) branches = None
meets (File w k) branches = holder_meets w k (branch_at branches k)
meets (Gave w k) branches = holder_meets w k (branch_at branches k)
meets (Sweep k) branches = sweep_meets k (branch_at branches k)

-- ---- what an accepted event leaves

-- the next branch is held by w, unless all are out
abbrev pub claimed : {P : Type 0} → ℕ → State P → State P
claimed w s = if nat_lt s.next (length s.branches) then record s { next = s.next + 1; branches = slice_set s.branches s.next (Held w) } else s

-- branch k stands so from now on
abbrev pub marked : {P : Type 0} → ℕ → Branch → State P → State P
marked k branch s = record s { branches = slice_set s.branches k branch }

-- and its part is merged
abbrev pub merged_in : {P : Type 0} → Parts P → ℕ → Branch → State P → State P
merged_in m k branch s = record (marked k branch s) { merged = m.merge_of s.merged (m.part_of k) }

abbrev pub after : {P : Type 0} → Parts P → Event → State P → State P
after m (Claim w) s = claimed w s
after m (File w k) s = merged_in m k Filed s
after m (Gave w k) s = marked k Given s
after m (Sweep k) s = merged_in m k Swept s

-- ---- a call

-- the branch that an event names is one of n
abbrev pub IsWithin : ℕ → Event → Type 0
IsWithin n (Claim w) = Unit {0}
IsWithin n (File w k) = k < n
IsWithin n (Gave w k) = k < n
IsWithin n (Sweep k) = k < n

-- only these events need a part, and with it memory
abbrev pub takes_a_part : Event → Bool
takes_a_part (Claim w) = false
takes_a_part (File w k) = true
takes_a_part (Gave w k) = false
takes_a_part (Sweep k) = true

-- how a call that meets this answers, and what it leaves: a refusal changes nothing, and an accepted event leads to the next state or, where memory may lack, changes nothing
abbrev pub Answers : {P U : Type 0} → Option CoreError → Type 0 → State P → State P → State P → Result U CoreError → Type 0
Answers (Some refused) may_lack before next now result = (result ≡ Err refused) × (now ≡ before)
Answers None may_lack before next now result = MatchResult result (λ _. now ≡ next) (λ e. (e ≡ OutOfMemory) × (now ≡ before) × may_lack)

-- ---- lists of events

-- n branches that nobody has claimed
abbrev pub opened : {P : Type 0} → Parts P → ℕ → State P
opened m n = record { next = 0; branches = replicate n Free; merged = m.none_of }

-- the state after all the events, or the first refusal
abbrev pub replayed : {P : Type 0} → Parts P → List Event → State P → Result (State P) CoreError
replayed m [] s = Ok s
replayed m (e ∷ events) s = elim (meets e s.branches) [
  | None ↦ replayed m events (after m e s)
  | Some refused ↦ Err refused
]

-- how a replay answers: what the events lead to, or want of memory
abbrev pub Replays : {P : Type 0} → Result (State P) CoreError → Result (State P) CoreError → Type 0
Replays told result = MatchResult result (λ core. told ≡ Ok core) (λ e. e ≢ OutOfMemory → told ≡ Err e)
