-- `switch`: the group that is chosen begins in the environment of its labels.
use Rattle.std.proofs.Common.{◌≡◌, ℕ, ℤ, Bool, true, false, ◌||◌, List, [], ◌∷◌, ◌++◌, refl, ap, ◌∙◌, inl, inr}
use Rattle.std.specs.Prelude.{if◌then◌else◌}
use Rattle.std.specs.List.{AllByRecursion}
use Rattle.std.specs.Ordering.{int_eq}
use Rattle.sa_base.specs.declared.num.Num.{Num}
use Rattle.sa_base.specs.declared.alarm.Alarm.{Alarm}
use Rattle.sa_interval.specs.Rows.{single}
use Rattle.sa_operators.specs.Alarms.{IsAmong}
use Rattle.sa_operators.specs.Operators.{IsIn}
use Rattle.sa_typed.specs.Evaluation.{Value, Store}
use Rattle.sa_typed.specs.Executions.{Loop, Visit, State, Result, Goes, with_value, has_case, has_default, chosen}
use Rattle.sa_typed.specs.declared.stmt.Label.{Label}
use Rattle.sa_typed.specs.declared.stmt.Label.TheVariants.{Case, Default}
use Rattle.sa_flat.specs.Domain.{Domain}
use Rattle.sa_flat.specs.Meanings.{Meaning, Operand, Cells, as_operand, number_operand, either, equal, unequal}
use Rattle.sa_flat.specs.Pieces.{Found, Piece, Branch, Group, only, both, empty, branches_found, none_of, labels_start, all_labels, group_branches, default_branch, selection, branching}
use Rattle.sa_flat.proofs.Lawful.{Lawful, Frame, anywhere, AliveAnd}
use Rattle.sa_flat.proofs.Goods.{alive_on, alive_both, Good, either_left, either_right, Pick, holds_stable}
use Rattle.sa_flat.proofs.Operands.{among_left, among_right}
use Rattle.sa_flat.proofs.MeaningLaws.{Fits, equal_good, unequal_good}
use Rattle.sa_flat.proofs.CoverLaws.{Now, Always, Pair, equal_now, unequal_now, eq_fact, number_fits, number_shows}
use Rattle.sa_flat.proofs.KeepLaws.{AreFair, Still, StillBranches, StillGroups, groups_still, default_still, all_append, none_of_good, labels_good, StillBranch}
use Rattle.sa_flat.proofs.FollowLaws.{Has, has_left, Said, AlwaysStable, AllInside, HoldsAt, ResultOk, Follows, CoversAll, valued, branch_follows}

case_append : (z : ℤ) (xs ys : List Label) → has_case z (xs ++ ys) ≡ (has_case z xs || has_case z ys)
unfolding has_case
case_append z [] ys = refl
case_append z (Case k ∷ xs) ys = ap (λ (b : Bool). int_eq z k || b) (case_append z xs ys) ∙ or_assoc (int_eq z k) (has_case z xs) (has_case z ys)
  where
    or_assoc : (a b c : Bool) → (a || (b || c)) ≡ ((a || b) || c)
    or_assoc true b c = refl
    or_assoc false b c = refl
case_append z (Default ∷ xs) ys = case_append z xs ys

default_append : (xs ys : List Label) → has_default (xs ++ ys) ≡ (has_default xs || has_default ys)
unfolding has_default
default_append [] ys = refl
default_append (Case k ∷ xs) ys = default_append xs ys
default_append (Default ∷ xs) ys = refl

or_none : (a b : Bool) → (a || b) ≡ false → (a ≡ false) × (b ≡ false)
or_none true b e = cc
or_none false b e = (refl, e)

or_some : (a b : Bool) → a ≡ false → (a || b) ≡ true → b ≡ true
or_some true b e f = cc
or_some false b e f = f

-- labels whose values are of the type
abbrev pub TypedLabels : Num → List Label → Type 0
TypedLabels num [] = Unit {0}
TypedLabels num (Case k ∷ labels) = IsIn num (single k) × TypedLabels num labels
TypedLabels num (Default ∷ labels) = TypedLabels num labels

module _ (x : Cells) (D : Domain) (L : Lawful x D) (has : ℕ → ℤ → Type 0) (one : ℕ → ℤ) (picked : Pick x D L has one) (time : ℤ) (num : Num) (v : Operand D.Env) (z : ℤ) (fits : Fits x D L num v)
    (shows : Always x D L has one picked time v z) where
  abbrev Holds : D.Env → Type 0
  Holds e = Now x D L has one picked time e

  pair_with : (k : ℤ) → IsIn num (single k) → Pair x D L has one picked time v (number_operand k) z k
  pair_with k i = record { left = num; right = num; fits_left = fits; fits_right = number_fits x D L has one picked time num k i; first = shows; second = number_shows x D L has one picked time k }

  -- no label has the value
  pub none_now : (labels : List Label) → TypedLabels num labels → has_case z labels ≡ false → (f : Frame) (env : D.Env) → Good x D L f env → Holds env → AliveAnd Holds (none_of D v labels env)
  unfolding none_of has_case
  none_now [] t e f env g n = n
  none_now (Case k ∷ labels) t e f env g n =
      let parts = or_none (int_eq z k) (has_case z labels) e in
      alive_on (λ e. Holds e × Good x D L f e) Holds (unequal D v (number_operand k) env) (none_of D v labels)
      (alive_both Holds (Good x D L f) (unequal D v (number_operand k) env) (unequal_now x D L has one picked time f v (number_operand k) z k env g n (pair_with k t.0) parts.0) (unequal_good x D L f v (number_operand k) env g))
      (λ e p. none_now labels t.1 parts.1 f e p.1 p.0)
  none_now (Default ∷ labels) t e f env g n = none_now labels t e f env g n

  -- a label has it
  pub case_now : (all labels : List Label) → TypedLabels num labels → has_case z labels ≡ true → (f : Frame) (env : D.Env) → Good x D L f env → Holds env → AliveAnd Holds (labels_start D v all labels env)
  unfolding labels_start has_case
  case_now all [] t e f env g n = cc
  case_now all (Case k ∷ labels) t e f env g n =
      elim (int_eq z k) as (λ b. int_eq z k ≡ b → AliveAnd Holds (either D (equal D v (number_operand k) env) (labels_start D v all labels env))) [
        | true ↦ λ q. either_left x D L Holds (holds_stable x D L has time one picked) f (equal D v (number_operand k) env) (labels_start D v all labels env) (equal_good x D L f v (number_operand k) env g)
            (labels_good x D L f v all labels env g) (equal_now x D L has one picked time f v (number_operand k) z k env g n (pair_with k t.0) (eq_fact x D L has one picked time z k q))
        | false ↦ λ q. either_right x D L Holds (holds_stable x D L has time one picked) f (equal D v (number_operand k) env) (labels_start D v all labels env) (equal_good x D L f v (number_operand k) env g)
            (labels_good x D L f v all labels env g) (case_now all labels t.1 (or_some (int_eq z k) (has_case z labels) q e) f env g n)
      ] refl
  case_now all (Default ∷ labels) t e f env g n =
      either_right x D L Holds (holds_stable x D L has time one picked) f (none_of D v all env) (labels_start D v all labels env) (none_of_good x D L f v all env g) (labels_good x D L f v all labels env g)
      (case_now all labels t e f env g n)

  -- `default` stands among them, and no label has it
  pub default_now : (all labels : List Label) → TypedLabels num all → has_default labels ≡ true → has_case z all ≡ false → (f : Frame) (env : D.Env) → Good x D L f env → Holds env → AliveAnd Holds (labels_start D v all labels env)
  unfolding labels_start has_default
  default_now all [] t e q f env g n = cc
  default_now all (Case k ∷ labels) t e q f env g n =
      either_right x D L Holds (holds_stable x D L has time one picked) f (equal D v (number_operand k) env) (labels_start D v all labels env) (equal_good x D L f v (number_operand k) env g)
      (labels_good x D L f v all labels env g) (default_now all labels t e q f env g n)
  default_now all (Default ∷ labels) t e q f env g n =
      either_left x D L Holds (holds_stable x D L has time one picked) f (none_of D v all env) (labels_start D v all labels env) (none_of_good x D L f v all env g) (labels_good x D L f v all labels env g)
      (none_now all t q f env g n)

-- ---- a switch and what its groups do
module _ (x : Cells) (D : Domain) (L : Lawful x D) (G : Found D.Env) (fair : AreFair x D L G) (Names : ℕ → Loop → Type 0) (V : Visit → D.Env → Type 0) where
  pub record GroupRun : Type 0 where
    pub labels : List Label
    pub go : State → Result
    pub body : Piece D.Env

  abbrev pub as_group : GroupRun → Group D.Env
  as_group g = record { labels = g.labels; body = g.body }

  abbrev pub as_groups : List GroupRun → List (Group D.Env)
  as_groups [] = []
  as_groups (g ∷ gs) = as_group g ∷ as_groups gs

  -- the first group whose labels fit
  abbrev pub run_first : (List Label → Bool) → List GroupRun → State → Result
  run_first fits [] st = Goes st
  run_first fits (g ∷ gs) st = if fits g.labels then g.go st else run_first fits gs st

  abbrev pub any_case : ℤ → List GroupRun → Bool
  any_case z [] = false
  any_case z (g ∷ gs) = has_case z g.labels || any_case z gs

  pub all_case : (z : ℤ) (gs : List GroupRun) → has_case z (all_labels D (as_groups gs)) ≡ any_case z gs
  unfolding has_case
  all_case z [] = refl
  all_case z (g ∷ gs) = case_append z g.labels (all_labels D (as_groups gs)) ∙ ap (λ (b : Bool). has_case z g.labels || b) (all_case z gs)

  -- what a value leaves for its groups
  pub record Starts (P : Said D) (num : Num) (st : State) (e : D.Env) (v : Operand D.Env) (all : List Label) (z : ℤ) : Type 0 where
    pub case : (labels : List Label) → TypedLabels num labels → has_case z labels ≡ true → AliveAnd (HoldsAt x D L G fair Names V P st) (labels_start D v all labels e)
    pub default : (labels : List Label) → has_default labels ≡ true → has_case z all ≡ false → AliveAnd (HoldsAt x D L G fair Names V P st) (labels_start D v all labels e)
    pub none : has_case z all ≡ false → AliveAnd (HoldsAt x D L G fair Names V P st) (none_of D v all e)

  -- what each group owes
  abbrev pub RunsFollow : Said D → Said D → Said D → Num → List GroupRun → Type 0
  RunsFollow P Q R num gs = AllByRecursion (λ g. (TypedLabels num g.labels × Still x D L g.body) × Follows x D L G fair Names V P Q R g.go g.body) gs

  groups_are_still : (P Q R : Said D) (num : Num) (gs : List GroupRun) → RunsFollow P Q R num gs → StillGroups x D L (as_groups gs)
  groups_are_still P Q R num [] h = tt
  groups_are_still P Q R num (g ∷ gs) h = (h.0.0.1, groups_are_still P Q R num gs h.1)

  branch_of : Operand D.Env → List Label → GroupRun → Branch D.Env
  branch_of v all g = record { start = labels_start D v all g.labels; body = g.body }

  module _ (P Q R : Said D) (sq : AlwaysStable x D L G fair Names V Q) (sr : AlwaysStable x D L G fair Names V R) (num : Num) (alarms : D.Env → List Alarm) (marked : Bool) (v : Operand D.Env) (e : D.Env) (good : Good x D L anywhere e)
      (all : List Label) (bs : List (Branch D.Env)) (still : StillBranches x D L bs) (has : Has G (both (only (alarms e)) (branches_found D bs e))) where
    -- the branch of a group, from a state that its labels leave
    into : (g : GroupRun) (st : State) → IsAmong (branch_of v all g) bs → Follows x D L G fair Names V P Q R g.go g.body → AliveAnd (HoldsAt x D L G fair Names V P st) (labels_start D v all g.labels e) → AllInside x D L G fair Names V st.visits →
        ResultOk x D L G fair Names V Q R ((branching D alarms marked bs).after e) (g.go st)
    unfolding branch_of
    into g st m f h i = branch_follows x D L G fair Names V P Q R sq sr alarms marked bs (record { start = labels_start D v all g.labels; body = g.body }) e st g.go still m good has h (labels_good x D L anywhere v all g.labels e good) i f

    listed_follows : (z : ℤ) (st : State) → Starts P num st e v all z → AllInside x D L G fair Names V st.visits → (gs : List GroupRun) → RunsFollow P Q R num gs → ((g : GroupRun) → IsAmong g gs → IsAmong (branch_of v all g) bs) →
        any_case z gs ≡ true → ResultOk x D L G fair Names V Q R ((branching D alarms marked bs).after e) (run_first (λ labels. has_case z labels) gs st)
    listed_follows z st s i [] h m q = cc
    listed_follows z st s i (g ∷ gs) h m q =
        elim (has_case z g.labels) as (λ b. has_case z g.labels ≡ b → ResultOk x D L G fair Names V Q R ((branching D alarms marked bs).after e) (if b then g.go st else run_first (λ labels. has_case z labels) gs st)) [
          | true ↦ λ t. into g st (m g (inl refl)) h.0.1 (s.case g.labels h.0.0.0 t) i
          | false ↦ λ t. listed_follows z st s i gs h.1 (λ k n. m k (inr n)) (or_some (has_case z g.labels) (any_case z gs) t q)
        ] refl

    -- `default`, or what stands last where there is none
    other_follows : (z : ℤ) (st : State) → Starts P num st e v all z → AllInside x D L G fair Names V st.visits → has_case z all ≡ false → (gs : List GroupRun) → RunsFollow P Q R num gs → ((g : GroupRun) → IsAmong g gs → IsAmong (branch_of v all g) bs) →
        (has_default (all_labels D (as_groups gs)) ≡ false → ResultOk x D L G fair Names V Q R ((branching D alarms marked bs).after e) (Goes st)) →
        ResultOk x D L G fair Names V Q R ((branching D alarms marked bs).after e) (run_first has_default gs st)
    unfolding has_default
    other_follows z st s i q [] h m last = last refl
    other_follows z st s i q (g ∷ gs) h m last =
        elim (has_default g.labels) as (λ b. has_default g.labels ≡ b → ResultOk x D L G fair Names V Q R ((branching D alarms marked bs).after e) (if b then g.go st else run_first has_default gs st)) [
          | true ↦ λ t. into g st (m g (inl refl)) h.0.1 (s.default g.labels t q) i
          | false ↦ λ t. other_follows z st s i q gs h.1 (λ k n. m k (inr n)) (λ none. last (default_append g.labels (all_labels D (as_groups gs)) ∙ both_none t none))
        ] refl
      where
        both_none : has_default g.labels ≡ false → has_default (all_labels D (as_groups gs)) ≡ false → (has_default g.labels || has_default (all_labels D (as_groups gs))) ≡ false
        both_none a b = rw (a, b) refl

  in_groups : (v : Operand D.Env) (all : List Label) (g : GroupRun) (gs : List GroupRun) → IsAmong g gs → IsAmong (branch_of v all g) (group_branches D v all (as_groups gs))
  unfolding branch_of
  in_groups v all g [] m = absurd m
  in_groups v all g (k ∷ gs) (inl q) = inl (ap (λ (g : GroupRun). branch_of v all g) q)
  in_groups v all g (k ∷ gs) (inr m) = inr (in_groups v all g gs m)

  pub selection_follows : (P Q R : Said D) → AlwaysStable x D L G fair Names V Q → AlwaysStable x D L G fair Names V R → ((store : Store) (result clock : ℤ) (e : D.Env) → P store result clock e → Q store result clock e) → (num : Num)
      (go : State → Value ℤ) (c : Meaning D.Env) (gs : List GroupRun) (marked : Bool) → RunsFollow P Q R num gs →
      ((e : D.Env) (st : State) → Good x D L anywhere e → HoldsAt x D L G fair Names V P st e →
      CoversAll x D L G fair Names V (λ z. (tape : List ℤ) → Starts P num (record st { tape = tape }) e (as_operand num c.value) (all_labels D (as_groups gs)) z) (c.alarms e) (go st)) →
      Follows x D L G fair Names V P Q R (λ st. with_value st (go st) (λ z st. run_first (chosen (any_case z gs) z) gs st)) (selection D num c (as_groups gs) marked)
  selection_follows P Q R sq sr pq num go c gs marked h starts e st b =
      valued x D L G fair Names V Q R (λ z. (tape : List ℤ) → Starts P num (record st { tape = tape }) e (as_operand num c.value) (all_labels D (as_groups gs)) z) (c.alarms e) (go st) ((selection D num c (as_groups gs) marked).after e) st
      (λ z st. run_first (chosen (any_case z gs) z) gs st) (starts e st b.good b.holds) (has_left G (only (c.alarms e)) (branches_found D branches e) b.has).alarms b.inside (λ z tape s. way z (record st { tape = tape }) (s tape) b.inside (any_case z gs) refl)
    where
      all : List Label
      all = all_labels D (as_groups gs)

      v : Operand D.Env
      v = as_operand num c.value

      branches : List (Branch D.Env)
      branches = group_branches D (as_operand num c.value) (all_labels D (as_groups gs)) (as_groups gs) ++ default_branch D (as_operand num c.value) (all_labels D (as_groups gs))

      still : StillBranches x D L branches
      still = all_append (StillBranch x D L) (group_branches D v all (as_groups gs)) (default_branch D v all) (groups_still x D L v all (as_groups gs) (groups_are_still P Q R num gs h)) (default_still x D L v all)

      members : (g : GroupRun) → IsAmong g gs → IsAmong (branch_of v all g) branches
      members g m = among_left (branch_of v all g) (group_branches D v all (as_groups gs)) (default_branch D v all) (in_groups v all g gs m)

      in_default : has_default all ≡ false → IsAmong (record { start = none_of D v all; body = empty }) branches
      in_default n = among_right (record { start = none_of D v all; body = empty }) (group_branches D v all (as_groups gs)) (default_branch D v all) (rw n (inl refl))

      last : (z : ℤ) (st : State) → Starts P num st e v all z → AllInside x D L G fair Names V st.visits → has_case z all ≡ false → has_default all ≡ false → ResultOk x D L G fair Names V Q R ((branching D c.alarms marked branches).after e) (Goes st)
      last z st s i q n =
          branch_follows x D L G fair Names V P Q R sq sr c.alarms marked branches (record { start = none_of D v all; body = empty }) e st (λ st. Goes st) still (in_default n) b.good b.has (s.none q) (none_of_good x D L anywhere v all e b.good) i
          (λ e st k. record { holds = inl (pq st.store st.result st.clock e k.holds); inside = k.inside })

      way : (z : ℤ) (st : State) → Starts P num st e v all z → AllInside x D L G fair Names V st.visits → (t : Bool) → any_case z gs ≡ t →
          ResultOk x D L G fair Names V Q R ((branching D c.alarms marked branches).after e) (run_first (chosen t z) gs st)
      way z st s i true q = listed_follows P Q R sq sr num c.alarms marked v e b.good all branches still b.has z st s i gs h members q
      way z st s i false q =
          let none : has_case z all ≡ false = all_case z gs ∙ q in
          other_follows P Q R sq sr num c.alarms marked v e b.good all branches still b.has z st s i none gs h members (λ n. last z st s i none n)
