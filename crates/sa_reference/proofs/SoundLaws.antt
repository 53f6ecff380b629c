-- The reference analysis over intervals is sound, and short.
use Rattle.std.proofs.Common.{◌≡◌, ℕ, ◌≤◌, ℤ, List, [], ◌∷◌}
use Rattle.std.specs.List.{AllByRecursion}
use Rattle.sa_reference.specs.Intervals.{intervals}
use Rattle.sa_reference.specs.Sound.{Sound, Short}
use Rattle.sa_reference.proofs.IntervalLaws.{interval_laws}
use Rattle.sa_reference.proofs.OperatorFacts.{operator_facts}
use Rattle.sa_reference.proofs.RunLaws.{execution_ok, reference_fair}

all_map : {A : Type 0} (P Q : A → Type 0) (xs : List A) → ((a : A) → P a → Q a) → AllByRecursion P xs → AllByRecursion Q xs
all_map P Q [] k h = tt
all_map P Q (x ∷ xs) k h = (k x h.0, all_map P Q xs k h.1)

pub sound : Sound
sound p w typed within tape n =
    let ok = execution_ok p w (intervals p w) (interval_laws p w operator_facts typed within) typed tape n in
    record { inside = ok.inside; covered = ok.covered }

pub short : Short
short p w typed within = all_map _ _ _ (λ r h. h.short) (reference_fair p w (intervals p w) (interval_laws p w operator_facts typed within) typed)
