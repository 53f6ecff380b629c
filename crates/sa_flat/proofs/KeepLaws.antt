-- Pieces of program keep what operations keep, and each record is short and under the top.
use Rattle.std.proofs.Common.{◌≡◌, ℕ, ◌≤◌, Bool, true, false, List, [], ◌∷◌, ◌++◌, sym, subst, arith, Option, Some, None, inl, inr}
use Rattle.std.specs.Prelude.{if◌then◌else◌, ◌==◌, nat_le, length}
use Rattle.std.specs.List.{AllByRecursion}
use Rattle.std.proofs.lemmas.Bool.Decides.{nat_tests}
use Rattle.sa_base.specs.declared.num.Num.{Num}
use Rattle.sa_base.specs.declared.pos.Pos.{Pos}
use Rattle.sa_base.specs.declared.alarm.Alarm.{Alarm}
use Rattle.sa_typed.specs.declared.stmt.Label.{Label}
use Rattle.sa_typed.specs.declared.stmt.Label.TheVariants.{Case, Default}
use Rattle.sa_typed.specs.Executions.{has_default}
use Rattle.sa_operators.specs.Alarms.{IsAmong}
use Rattle.sa_flat.specs.Domain.{Domain}
use Rattle.sa_flat.specs.Meanings.{Operand, Meaning, Cells, unequal, number_operand, as_operand}
use Rattle.sa_flat.specs.Assignments.{Change}
use Rattle.sa_flat.specs.Passes.{Facts, alive_then, facts_of}
use Rattle.sa_flat.specs.Pieces.{Record, Found, Exits, Piece, Walk, Branch, Group, Turn, both, found_in, found_over, recorded, list_of, goes_on, exits_in, flat, changed, empty, breaks, known, asserted, waits, merged, spread, broken_over, done, followed, block, branch_exits, apart, branches_broken, branches_found, branching, decision, none_of, label_start, labels_start, all_labels, group_branches, default_branch, selection, holds, fails, test_alarms, stepped, step_alarms, while_turn, do_turn, looped}
use Rattle.sa_flat.specs.Reference.{record_at, with_record}
use Rattle.sa_flat.proofs.Lawful.{Lawful, Frame, anywhere, exactly, IfAlive, AliveAnd}
use Rattle.sa_flat.proofs.Goods.{if_keeps, alive_keeps, Good, GoodIf, good_if, merge_good, either_good, Stable}
use Rattle.sa_flat.proofs.PassLaws.{Keeps, facts_keep, Ends, facts_end}
use Rattle.sa_flat.proofs.MeaningLaws.{Fit, equal_good, unequal_good}

-- ---- lists
pub all_append : {A : Type 0} (P : A → Type 0) (xs ys : List A) → AllByRecursion P xs → AllByRecursion P ys → AllByRecursion P (xs ++ ys)
all_append P [] ys h k = k
all_append P (x ∷ xs) ys h k = (h.0, all_append P xs ys h.1 k)

pub found_all_in : {E : Type 0} (P : Record E → Type 0) (Q : E → Type 0) (o : Option E) (go : E → Found E) → IfAlive Q o → ((e : E) → Q e → AllByRecursion P (go e).records) →
    AllByRecursion P (found_in o go).records
found_all_in P Q None go h k = tt
found_all_in P Q (Some e) go h k = k e h

pub found_over_all : {E : Type 0} (P : Record E → Type 0) (Q : E → Type 0) (es : List E) (go : E → Found E) → AllByRecursion Q es → ((e : E) → Q e → AllByRecursion P (go e).records) →
    AllByRecursion P (found_over es go).records
found_over_all P Q [] go h k = tt
found_over_all P Q (e ∷ es) go h k = all_append P (go e).records (found_over es go).records (k e h.0) (found_over_all P Q es go h.1 k)

pub flat_all : {A B : Type 0} (P : A → Type 0) (Q : B → Type 0) (f : A → List B) (xs : List A) → AllByRecursion P xs → ((a : A) → P a → AllByRecursion Q (f a)) → AllByRecursion Q (flat f xs)
flat_all P Q f [] h k = tt
flat_all P Q f (x ∷ xs) h k = all_append Q (f x) (flat f xs) (k x h.0) (flat_all P Q f xs h.1 k)

pub list_all : {A : Type 0} (P : A → Type 0) (o : Option A) → IfAlive P o → AllByRecursion P (list_of o)
list_all P None h = tt
list_all P (Some a) h = (h, tt)

module _ (x : Cells) (D : Domain) (L : Lawful x D) where
  abbrev pub AllGood : Frame → List D.Env → Type 0
  AllGood f es = AllByRecursion (Good x D L f) es

  pub record ExitsKeep (f : Frame) (r : Exits D.Env) : Type 0 where
    pub ends : AllGood f r.ends
    pub broken : GoodIf x D L f r.broken

  -- a record of few passes, under the top
  pub record Fair (r : Record D.Env) : Type 0 where
    pub short : r.passes ≤ 32
    pub good : Good x D L anywhere r.state

  abbrev pub AreFair : Found D.Env → Type 0
  AreFair f = AllByRecursion Fair f.records

  abbrev pub SeesFair : (D.Env → Found D.Env) → Type 0
  SeesFair go = (e : D.Env) → Good x D L anywhere e → AreFair (go e)

  -- what pieces, lists of statements and changes owe in a frame
  abbrev pub PieceKeeps : Frame → Piece D.Env → Type 0
  PieceKeeps f s = (e : D.Env) → Good x D L f e → ExitsKeep f (s.after e)

  abbrev pub WalkKeeps : Frame → Walk D.Env → Type 0
  WalkKeeps f s = (es : List D.Env) → AllGood f es → ExitsKeep f (s.after es)

  abbrev pub ChangeKeeps : Change D.Env → Type 0
  ChangeKeeps c = (f : Frame) (e : D.Env) → Good x D L f e → GoodIf x D L f (c.after e)

  -- a piece that keeps every frame, and one that keeps that of the clock loop
  pub record Still (s : Piece D.Env) : Type 0 where
    pub keeps : (f : Frame) → PieceKeeps f s
    pub fair : SeesFair s.found

  pub record Moving (s : Piece D.Env) : Type 0 where
    pub keeps : PieceKeeps anywhere s
    pub fair : SeesFair s.found

  pub still_moves : (s : Piece D.Env) → Still s → Moving s
  still_moves s h = record { keeps = h.keeps anywhere; fair = h.fair }

  pub on_keeps : (f : Frame) (o : Option D.Env) → GoodIf x D L f o → ExitsKeep f (goes_on o)
  on_keeps f o h = record { ends = list_all (Good x D L f) o h; broken = tt }

  pub merged_good : (f : Frame) (es : List D.Env) → AllGood f es → GoodIf x D L f (merged D es)
  merged_good f [] h = tt
  merged_good f (e ∷ es) h = either_good x D L f (Some e) (merged D es) h.0 (merged_good f es h.1)

  pub exits_keep : (f : Frame) (o : Option D.Env) (s : Piece D.Env) → GoodIf x D L f o → PieceKeeps f s → ExitsKeep f (exits_in o s.after)
  exits_keep f None s h k = record { ends = tt; broken = tt }
  exits_keep f (Some e) s h k = k e h

  -- ---- without a merge
  pub changed_still : (c : Change D.Env) → ChangeKeeps c → Still (changed c)
  changed_still c h = record { keeps = λ f e g. on_keeps f (c.after e) (h f e g); fair = λ e g. tt }

  pub empty_still : Still empty
  empty_still = record { keeps = λ f e g. record { ends = (g, tt); broken = tt }; fair = λ e g. tt }

  pub breaks_still : Still breaks
  breaks_still = record { keeps = λ f e g. record { ends = tt; broken = g }; fair = λ e g. tt }

  pub known_still : (num : Num) (c : Meaning D.Env) → Fit x D L num c → Still (known c)
  known_still num c h = record { keeps = λ f e g. on_keeps f (c.guard true e) (h.guard f true e g); fair = λ e g. tt }

  pub asserted_still : (q : Pos) (num : Num) (c : Meaning D.Env) → Fit x D L num c → Still (asserted q c)
  asserted_still q num c h = record { keeps = λ f e g. on_keeps f (c.guard true e) (h.guard f true e g); fair = λ e g. tt }

  pub waits_moving : Moving (waits D)
  waits_moving = record { keeps = λ e g. on_keeps anywhere (D.tick e) (good_if x D L anywhere (D.tick e) (L.tick_keeps e g.under g.closed)); fair = λ e g. tt }

  -- ---- blocks
  pub spread_keeps : (f : Frame) (s : Piece D.Env) (es : List D.Env) → PieceKeeps f s → AllGood f es → AllGood f (spread D s.after es)
  spread_keeps f s es k h =
      if_keeps (λ (es : List D.Env). AllGood f es) (nat_le (length (flat (λ e. (s.after e).ends) es)) 16) _ _
      (flat_all (Good x D L f) (Good x D L f) (λ e. (s.after e).ends) es h (λ e g. (k e g).ends))
      (flat_all (Good x D L f) (Good x D L f) (λ e. list_of (merged D (s.after e).ends)) es h (λ e g. list_all (Good x D L f) _ (merged_good f (s.after e).ends (k e g).ends)))

  pub broken_keeps : (f : Frame) (s : Piece D.Env) (es : List D.Env) → PieceKeeps f s → AllGood f es → GoodIf x D L f (broken_over D s.after es)
  broken_keeps f s [] k h = tt
  broken_keeps f s (e ∷ es) k h = either_good x D L f (s.after e).broken (broken_over D s.after es) (k e h.0).broken (broken_keeps f s es k h.1)

  pub done_keeps : (f : Frame) → WalkKeeps f (done D)
  done_keeps f es h = record { ends = h; broken = tt }

  pub followed_keeps : (f : Frame) (s : Piece D.Env) (rest : Walk D.Env) → PieceKeeps f s → WalkKeeps f rest → WalkKeeps f (followed D s rest)
  followed_keeps f s rest k l es h =
      let r = l (spread D s.after es) (spread_keeps f s es k h) in
      record { ends = r.ends; broken = either_good x D L f _ _ (broken_keeps f s es k h) r.broken }

  abbrev pub AllFair : Walk D.Env → Type 0
  AllFair s = (es : List D.Env) → AllGood anywhere es → AreFair (s.found es)

  pub both_fair : (f g : Found D.Env) → AreFair f → AreFair g → AreFair (both f g)
  both_fair f g h k = all_append Fair f.records g.records h k

  pub done_fair : AllFair (done D)
  done_fair es h = tt

  pub followed_fair : (s : Piece D.Env) (rest : Walk D.Env) → Moving s → AllFair rest → AllFair (followed D s rest)
  followed_fair s rest k l es h =
      both_fair (found_over es s.found) (rest.found (spread D s.after es)) (found_over_all Fair (Good x D L anywhere) es s.found h k.fair)
      (l (spread D s.after es) (spread_keeps anywhere s es k.keeps h))

  pub record StillWalk (s : Walk D.Env) : Type 0 where
    pub keeps : (f : Frame) → WalkKeeps f s
    pub fair : AllFair s

  pub record MovingWalk (s : Walk D.Env) : Type 0 where
    pub keeps : WalkKeeps anywhere s
    pub fair : AllFair s

  pub done_still : StillWalk (done D)
  done_still = record { keeps = done_keeps; fair = done_fair }

  pub done_moving : MovingWalk (done D)
  done_moving = record { keeps = done_keeps anywhere; fair = done_fair }

  pub followed_still : (s : Piece D.Env) (rest : Walk D.Env) → Still s → StillWalk rest → StillWalk (followed D s rest)
  followed_still s rest h k = record { keeps = λ f. followed_keeps f s rest (h.keeps f) (k.keeps f); fair = followed_fair s rest (still_moves s h) k.fair }

  pub followed_moving : (s : Piece D.Env) (rest : Walk D.Env) → Moving s → MovingWalk rest → MovingWalk (followed D s rest)
  followed_moving s rest h k = record { keeps = followed_keeps anywhere s rest h.keeps k.keeps; fair = followed_fair s rest h k.fair }

  block_keeps : (f : Frame) (s : Walk D.Env) → WalkKeeps f s → PieceKeeps f (block D s)
  block_keeps f s k e g = let r = k (e ∷ []) (g, tt) in record { ends = list_all (Good x D L f) _ (merged_good f (s.after (e ∷ [])).ends r.ends); broken = r.broken }

  pub block_still : (s : Walk D.Env) → StillWalk s → Still (block D s)
  block_still s h = record { keeps = λ f. block_keeps f s (h.keeps f); fair = λ e g. h.fair (e ∷ []) (g, tt) }

  pub block_moving : (s : Walk D.Env) → MovingWalk s → Moving (block D s)
  block_moving s h = record { keeps = block_keeps anywhere s h.keeps; fair = λ e g. h.fair (e ∷ []) (g, tt) }

  -- ---- branches
  pub record StillBranch (b : Branch D.Env) : Type 0 where
    pub start : (f : Frame) (e : D.Env) → Good x D L f e → GoodIf x D L f (b.start e)
    pub body : Still b.body

  abbrev pub StillBranches : List (Branch D.Env) → Type 0
  StillBranches bs = AllByRecursion StillBranch bs

  pub branch_keeps : (f : Frame) (b : Branch D.Env) (e : D.Env) → StillBranch b → Good x D L f e → ExitsKeep f (branch_exits D b e)
  branch_keeps f b e h g = exits_keep f (b.start e) b.body (h.start f e g) (h.body.keeps f)

  pub apart_good : (f : Frame) (bs : List (Branch D.Env)) (e : D.Env) → StillBranches bs → Good x D L f e → AllGood f (apart D bs e)
  apart_good f [] e h g = tt
  apart_good f (b ∷ bs) e h g =
      all_append (Good x D L f) _ _ (list_all (Good x D L f) _ (merged_good f (branch_exits D b e).ends (branch_keeps f b e h.0 g).ends)) (apart_good f bs e h.1 g)

  pub branches_broken_good : (f : Frame) (bs : List (Branch D.Env)) (e : D.Env) → StillBranches bs → Good x D L f e → GoodIf x D L f (branches_broken D bs e)
  branches_broken_good f [] e h g = tt
  branches_broken_good f (b ∷ bs) e h g = either_good x D L f _ _ (branch_keeps f b e h.0 g).broken (branches_broken_good f bs e h.1 g)

  branches_fair : (bs : List (Branch D.Env)) (e : D.Env) → StillBranches bs → Good x D L anywhere e → AreFair (branches_found D bs e)
  branches_fair [] e h g = tt
  branches_fair (b ∷ bs) e h g =
      both_fair (found_in (b.start e) b.body.found) (branches_found D bs e) (found_all_in Fair (Good x D L anywhere) (b.start e) b.body.found (h.0.start anywhere e g) h.0.body.fair) (branches_fair bs e h.1 g)

  pub branching_still : (alarms : D.Env → List Alarm) (marked : Bool) (bs : List (Branch D.Env)) → StillBranches bs → Still (branching D alarms marked bs)
  branching_still alarms marked bs h = record {
    keeps = λ f e g. record {
      ends = if_keeps (λ (es : List D.Env). AllGood f es) marked _ _ (apart_good f bs e h g) (list_all (Good x D L f) _ (merged_good f (apart D bs e) (apart_good f bs e h g)));
      broken = branches_broken_good f bs e h g;
    };
    fair = λ e g. branches_fair bs e h g;
  }

  pub decision_still : (num : Num) (c : Meaning D.Env) (a b : Piece D.Env) (marked : Bool) → Fit x D L num c → Still a → Still b → Still (decision D c a b marked)
  decision_still num c a b marked h k l =
      branching_still c.alarms marked (record { start = c.guard true; body = a } ∷ record { start = c.guard false; body = b } ∷ [])
      (record { start = λ f e g. h.guard f true e g; body = k }, (record { start = λ f e g. h.guard f false e g; body = l }, tt))

  -- ---- labels
  pub none_of_good : (f : Frame) (v : Operand D.Env) (labels : List Label) (e : D.Env) → Good x D L f e → GoodIf x D L f (none_of D v labels e)
  unfolding none_of
  none_of_good f v [] e g = g
  none_of_good f v (Case k ∷ labels) e g =
      alive_keeps (Good x D L f) (Good x D L f) (unequal D v (number_operand k) e) (none_of D v labels) (unequal_good x D L f v (number_operand k) e g) (λ e g. none_of_good f v labels e g)
  none_of_good f v (Default ∷ labels) e g = none_of_good f v labels e g

  pub label_good : (f : Frame) (v : Operand D.Env) (all : List Label) (l : Label) (e : D.Env) → Good x D L f e → GoodIf x D L f (label_start D v all l e)
  label_good f v all (Case k) e g = equal_good x D L f v (number_operand k) e g
  label_good f v all Default e g = none_of_good f v all e g

  pub labels_good : (f : Frame) (v : Operand D.Env) (all labels : List Label) (e : D.Env) → Good x D L f e → GoodIf x D L f (labels_start D v all labels e)
  unfolding labels_start
  labels_good f v all [] e g = tt
  labels_good f v all (l ∷ labels) e g = either_good x D L f _ _ (label_good f v all l e g) (labels_good f v all labels e g)

  abbrev pub StillGroups : List (Group D.Env) → Type 0
  StillGroups gs = AllByRecursion (λ g. Still g.body) gs

  pub groups_still : (v : Operand D.Env) (all : List Label) (gs : List (Group D.Env)) → StillGroups gs → StillBranches (group_branches D v all gs)
  groups_still v all [] h = tt
  groups_still v all (g ∷ gs) h = (record { start = λ f e k. labels_good f v all g.labels e k; body = h.0 }, groups_still v all gs h.1)

  pub default_still : (v : Operand D.Env) (all : List Label) → StillBranches (default_branch D v all)
  default_still v all = if_keeps StillBranches (has_default all) [] _ tt (record { start = λ f e g. none_of_good f v all e g; body = empty_still }, tt)

  pub selection_still : (num : Num) (c : Meaning D.Env) (gs : List (Group D.Env)) (marked : Bool) → StillGroups gs → Still (selection D num c gs marked)
  selection_still num c gs marked h =
      branching_still c.alarms marked _ (all_append StillBranch _ _ (groups_still (as_operand num c.value) (all_labels D gs) gs h) (default_still (as_operand num c.value) (all_labels D gs)))

  -- ---- loops
  pub record TurnKeeps (f : Frame) (t : Turn D.Env) : Type 0 where
    pub again : Keeps x D L f t.again
    pub leaves : Keeps x D L f t.leaves

  -- what a condition, if there is one, owes
  abbrev pub FitIf : Option (Meaning D.Env) → Type 0
  FitIf None = Unit {0}
  FitIf (Some c) = (num : Num) × Fit x D L num c

  abbrev pub KeepsIf : Option (Change D.Env) → Type 0
  KeepsIf None = Unit {0}
  KeepsIf (Some c) = ChangeKeeps c

  pub holds_good : (f : Frame) (c : Option (Meaning D.Env)) → FitIf c → Keeps x D L f (holds D c)
  holds_good f None h e g = g
  holds_good f (Some c) h e g = h.1.guard f true e g

  pub fails_good : (f : Frame) (c : Option (Meaning D.Env)) → FitIf c → Keeps x D L f (fails D c)
  fails_good f None h e g = tt
  fails_good f (Some c) h e g = h.1.guard f false e g

  pub stepped_good : (f : Frame) (c : Option (Change D.Env)) → KeepsIf c → Keeps x D L f (stepped D c)
  stepped_good f None h e g = g
  stepped_good f (Some c) h e g = h f e g

  pub while_keeps : (f : Frame) (c : Option (Meaning D.Env)) (body : Piece D.Env) (step : Option (Change D.Env)) → FitIf c → PieceKeeps f body → KeepsIf step → TurnKeeps f (while_turn D c body step)
  while_keeps f c body step h k l = record {
    again = λ e g. alive_keeps (Good x D L f) (Good x D L f) (holds D c e) (λ e. alive_then (merged D (body.after e).ends) (stepped D step)) (holds_good f c h e g)
        (λ e g. alive_keeps (Good x D L f) (Good x D L f) (merged D (body.after e).ends) (stepped D step) (merged_good f (body.after e).ends (k e g).ends) (stepped_good f step l));
    leaves = λ e g. either_good x D L f _ _ (fails_good f c h e g) (exits_keep f (holds D c e) body (holds_good f c h e g) k).broken;
  }

  pub do_keeps : (f : Frame) (c : Option (Meaning D.Env)) (body : Piece D.Env) → FitIf c → PieceKeeps f body → TurnKeeps f (do_turn D c body)
  do_keeps f c body h k = record {
    again = λ e g. alive_keeps (Good x D L f) (Good x D L f) (merged D (body.after e).ends) (holds D c) (merged_good f (body.after e).ends (k e g).ends) (holds_good f c h);
    leaves = λ e g. either_good x D L f _ _
        (alive_keeps (Good x D L f) (Good x D L f) (merged D (body.after e).ends) (fails D c) (merged_good f (body.after e).ends (k e g).ends) (fails_good f c h)) (k e g).broken;
  }

  test_fair : (c : Option (Meaning D.Env)) (e : D.Env) → AreFair (test_alarms D c e)
  test_fair None e = tt
  test_fair (Some c) e = tt

  step_fair : (c : Option (Change D.Env)) (e : D.Env) → AreFair (step_alarms D c e)
  step_fair None e = tt
  step_fair (Some c) e = tt

  pub while_fair : (c : Option (Meaning D.Env)) (body : Piece D.Env) (step : Option (Change D.Env)) → FitIf c → Moving body → SeesFair (while_turn D c body step).found
  while_fair c body step h k e g =
      both_fair (test_alarms D c e) (found_in (holds D c e) (λ e. both (body.found e) (found_in (merged D (body.after e).ends) (step_alarms D step)))) (test_fair c e)
      (found_all_in Fair (Good x D L anywhere) (holds D c e) _ (holds_good anywhere c h e g)
      (λ e g. both_fair (body.found e) (found_in (merged D (body.after e).ends) (step_alarms D step)) (k.fair e g)
      (found_all_in Fair (Good x D L anywhere) (merged D (body.after e).ends) (step_alarms D step) (merged_good anywhere (body.after e).ends (k.keeps e g).ends) (λ e g. step_fair step e))))

  pub do_fair : (c : Option (Meaning D.Env)) (body : Piece D.Env) → Moving body → SeesFair (do_turn D c body).found
  do_fair c body k e g =
      both_fair (body.found e) (found_in (merged D (body.after e).ends) (test_alarms D c)) (k.fair e g)
      (found_all_in Fair (Good x D L anywhere) (merged D (body.after e).ends) (test_alarms D c) (merged_good anywhere (body.after e).ends (k.keeps e g).ends) (λ e g. test_fair c e))

  -- the stable state is reached within 32 passes
  pub inner_ends : (f : Frame) (t : Turn D.Env) (s : D.Env) → ((f : Frame) → TurnKeeps f t) → Good x D L f s → Ends x D L t.again s (facts_of D x.all t.again (D.top (D.clock s)) s)
  inner_ends f t s k g =
      let own : Good x D L (exactly (D.clock s)) s = record { under = L.own f s g.under; closed = g.closed } in
      let peak = L.peak_keeps (exactly (D.clock s)) s own.under in
      facts_end x D L (exactly (D.clock s)) t.again (D.top (D.clock s)) s (k (exactly (D.clock s))).again (record { under = peak.0; closed = peak.1 }) own (λ e u. L.below_peak s e u)

  pub clock_ends : (t : Turn D.Env) (s : D.Env) → TurnKeeps anywhere t → Good x D L anywhere s → Ends x D L t.again s (facts_of D x.all t.again (D.top x.clocks) s)
  clock_ends t s k g = facts_end x D L anywhere t.again (D.top x.clocks) s k.again (record { under = L.top_keeps.0; closed = L.top_keeps.1 }) g L.below_top

  pub inner_state : (f : Frame) (t : Turn D.Env) (s : D.Env) → TurnKeeps f t → Good x D L f s → GoodIf x D L f (facts_of D x.all t.again (D.top (D.clock s)) s).state
  inner_state f t s k g = let peak = L.peak_keeps f s g.under in facts_keep x D L f t.again (D.top (D.clock s)) s k.again (record { under = peak.0; closed = peak.1 }) g

  pub clock_state : (t : Turn D.Env) (s : D.Env) → TurnKeeps anywhere t → Good x D L anywhere s → GoodIf x D L anywhere (facts_of D x.all t.again (D.top x.clocks) s).state
  clock_state t s k g = facts_keep x D L anywhere t.again (D.top x.clocks) s k.again (record { under = L.top_keeps.0; closed = L.top_keeps.1 }) g

  loop_fair : (k : ℕ) (t : Turn D.Env) (r : Facts D.Env) → r.passes ≤ 32 → GoodIf x D L anywhere r.state → SeesFair t.found → AreFair (found_in r.state (λ e. both (recorded k r.passes e) (t.found e)))
  loop_fair k t r short h sees = found_all_in Fair (Good x D L anywhere) r.state _ h (λ e g. (record { short = short; good = g }, sees e g))

  -- a loop other than the clock loop
  pub inner_still : (k : ℕ) (t : Turn D.Env) → ((f : Frame) → TurnKeeps f t) → SeesFair t.found → Still (looped D x.all k (λ e. D.top (D.clock e)) t)
  inner_still k t h sees = record {
    keeps = λ f e g. on_keeps f _ (alive_keeps (Good x D L f) (Good x D L f) (facts_of D x.all t.again (D.top (D.clock e)) e).state t.leaves (inner_state f t e (h f) g) (h f).leaves);
    fair = λ e g. loop_fair k t (facts_of D x.all t.again (D.top (D.clock e)) e) (inner_ends anywhere t e h g).short (inner_state anywhere t e (h anywhere) g) sees;
  }

  -- the clock loop
  pub clock_moving : (k : ℕ) (t : Turn D.Env) → TurnKeeps anywhere t → SeesFair t.found → Moving (looped D x.all k (λ e. D.top x.clocks) t)
  clock_moving k t h sees = record {
    keeps = λ e g. on_keeps anywhere _ (alive_keeps (Good x D L anywhere) (Good x D L anywhere) (facts_of D x.all t.again (D.top x.clocks) e).state t.leaves (clock_state t e h g) h.leaves);
    fair = λ e g. loop_fair k t (facts_of D x.all t.again (D.top x.clocks) e) (clock_ends t e h g).short (clock_state t e h g) sees;
  }

  -- ---- the records of one loop
  abbrev pub GoodRecord : Option (Record D.Env) → Type 0
  GoodRecord o = IfAlive (λ r. Good x D L anywhere r.state) o

  with_good : (r : Record D.Env) (o : Option (Record D.Env)) → Good x D L anywhere r.state → GoodRecord o → GoodRecord (with_record D r o)
  with_good r None h k = h
  with_good r (Some q) h k = merge_good x D L anywhere r.state q.state h k

  at_good : (rs : List (Record D.Env)) (k : ℕ) → AllByRecursion Fair rs → GoodRecord (record_at D rs k)
  at_good [] k h = tt
  at_good (r ∷ rs) k h = if_keeps GoodRecord (r.loop == k) _ _ (with_good r _ h.0.good (at_good rs k h.1)) (at_good rs k h.1)

  -- the record of a loop says what each entry's says
  module _ (P : D.Env → Type 0) (st : Stable x D L P) where
    abbrev pub Stands : Option (Record D.Env) → Type 0
    Stands o = AliveAnd (λ r. P r.state) o

    with_left : (r : Record D.Env) (o : Option (Record D.Env)) → Good x D L anywhere r.state → GoodRecord o → P r.state → Stands (with_record D r o)
    with_left r None h k p = p
    with_left r (Some q) h k p = st.left anywhere r.state q.state h k p

    with_right : (r : Record D.Env) (o : Option (Record D.Env)) → Good x D L anywhere r.state → GoodRecord o → Stands o → Stands (with_record D r o)
    with_right r None h k p = absurd p
    with_right r (Some q) h k p = st.right anywhere r.state q.state h k p

    same_number : (k : ℕ) → (k == k) ≡ true
    same_number k = grind (arith, nat_tests)

    pub record_stands : (rs : List (Record D.Env)) (r : Record D.Env) → AllByRecursion Fair rs → IsAmong r rs → P r.state → Stands (record_at D rs r.loop)
    record_stands [] r h m p = absurd m
    record_stands (q ∷ rs) r h (inl e) p =
        subst (λ (q : Record D.Env). Fair q → Stands (if q.loop == r.loop then with_record D q (record_at D rs r.loop) else record_at D rs r.loop)) e
        (λ fair. subst (λ (b : Bool). Stands (if b then with_record D r (record_at D rs r.loop) else record_at D rs r.loop)) (sym (same_number r.loop)) (with_left r _ fair.good (at_good rs r.loop h.1) p)) h.0
    record_stands (q ∷ rs) r h (inr m) p =
        elim (q.loop == r.loop) as (λ b. Stands (if b then with_record D q (record_at D rs r.loop) else record_at D rs r.loop)) [
          | true ↦ with_right q _ h.0.good (at_good rs r.loop h.1) (record_stands rs r h.1 m p)
          | false ↦ record_stands rs r h.1 m p
        ]
