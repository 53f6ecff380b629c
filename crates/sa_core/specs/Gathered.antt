-- The merge of the parts of chosen branches, whatever made the choice.
use Rattle.std.specs.Prelude.{◌≡◌, ℕ, zero, suc, ◌≤◌, ◌==◌, ◌||◌, Bool, true, false, if◌then◌else◌, List, [], ◌∷◌, length}
use Rattle.sa_core.specs.Laws.{Parts}
use Rattle.sa_core.specs.Machine.{State, branch_at}
use Rattle.sa_core.specs.declared.event.Branch.{Branch}
use Rattle.sa_core.specs.declared.event.Branch.TheVariants.{Free, Held, Filed, Given, Swept}
use Rattle.sa_core.specs.declared.event.Event.{Event}
use Rattle.sa_core.specs.declared.event.Event.TheVariants.{Claim, File, Gave, Sweep}

-- the parts of the branches below n that are chosen, merged in order of their numbers
abbrev pub gathered : {P : Type 0} → Parts P → ℕ → (ℕ → Bool) → P
gathered m zero chosen = m.none_of
gathered m (suc k) chosen = if chosen k then m.merge_of (gathered m k chosen) (m.part_of k) else gathered m k chosen

-- all the parts of a job of n branches, merged in order of their numbers
abbrev pub whole : {P : Type 0} → Parts P → ℕ → P
whole m zero = m.none_of
whole m (suc k) = m.merge_of (whole m k) (m.part_of k)

-- whether an event files or sweeps branch k
abbrev pub takes_in : ℕ → Event → Bool
takes_in k (Claim w) = false
takes_in k (File w j) = j == k
takes_in k (Gave w j) = false
takes_in k (Sweep j) = j == k

-- whether one of the events files or sweeps branch k
abbrev pub is_taken_in : List Event → ℕ → Bool
is_taken_in [] k = false
is_taken_in (e ∷ events) k = takes_in k e || is_taken_in events k

-- whether a branch that stands so was filed or swept
abbrev pub is_in : Branch → Bool
is_in Free = false
is_in (Held w) = false
is_in Filed = true
is_in Given = false
is_in Swept = true

-- the state of a machine over these parts: branches from the next number on are free, and merged are the parts of the branches that were filed or swept
pub record IsCoreOf {P : Type 0} (m : Parts P) (s : State P) : Type 0 where
  pub next_within : s.next ≤ length s.branches
  pub free_from_next : (k : ℕ) → s.next ≤ k → branch_at s.branches k ≡ Free
  pub gathers : s.merged ≡ gathered m (length s.branches) (λ k. is_in (branch_at s.branches k))

-- whether an event is a claim
abbrev pub is_claim : Event → Bool
is_claim (Claim w) = true
is_claim (File w k) = false
is_claim (Gave w k) = false
is_claim (Sweep k) = false

-- whether one of the events is a claim
abbrev pub has_claim : List Event → Bool
has_claim [] = false
has_claim (e ∷ events) = is_claim e || has_claim events
