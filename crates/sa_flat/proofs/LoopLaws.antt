-- Loops against their turns, and the statements that are no block: from a state in its environment.
use Rattle.std.proofs.Common.{◌≡◌, ℕ, zero, suc, ℤ, pos, ◌+ℤ◌, Bool, true, false, not, List, [], ◌∷◌, ◌++◌, refl, subst, Option, Some, None, inl}
use Rattle.std.specs.Prelude.{if◌then◌else◌}
use Rattle.std.specs.Int.RustNames.{int_le}
use Rattle.sa_base.specs.declared.pos.Pos.{Pos}
use Rattle.sa_base.specs.declared.alarm.Alarm.{Alarm}
use Rattle.sa_base.specs.declared.alarm.Kind.TheVariants as alarm
use Rattle.sa_typed.specs.Evaluation.{Error, Clock, Blocked, Value, Gives, Stops, Store, is_zero}
use Rattle.sa_typed.specs.Executions.{Loop, Visit, State, Result, Goes, Breaks, Over, Turn, Again, Leaves, Ended, over, with_value, visit_with, then_again, turns, turn_with, after_body, wait}
use Rattle.sa_operators.specs.Alarms.{IsAmong}
use Rattle.sa_flat.specs.Domain.{Domain}
use Rattle.sa_flat.specs.Meanings.{Meaning, Cells, either}
use Rattle.sa_flat.specs.Assignments.{Change}
use Rattle.sa_flat.specs.Passes.{Facts, alive_then, facts_of}
use Rattle.sa_flat.specs.Pieces as pieces
use Rattle.sa_flat.specs.Pieces.{Record, Found, Exits, Piece, Walk, Branch, nothing, only, both, found_in, found_over, recorded, list_of, goes_on, exits_in, flat, changed, known, asserted, assert_alarms, waits, merged, spread, broken_over, done, followed, block, branch_exits, apart, branches_broken, branches_found, branching, holds, fails, test_alarms, stepped, step_alarms, while_turn, do_turn, looped}
use Rattle.sa_flat.proofs.Lawful.{Lawful, Frame, anywhere, AliveAnd}
use Rattle.sa_flat.proofs.Goods.{alive_keeps, Good, GoodIf, Stable}
use Rattle.sa_flat.proofs.Operands.{covered_more, among_left, among_right}
use Rattle.sa_flat.proofs.PassLaws.{Holding}
use Rattle.sa_flat.proofs.KeepLaws.{all_append, AreFair, PieceKeeps, TurnKeeps, FitIf, KeepsIf, merged_good, exits_keep, holds_good, fails_good, record_stands, inner_ends, inner_state, clock_ends, clock_state}
use Rattle.sa_flat.proofs.FollowLaws.{Has, has_left, has_right, AnyOf, Said, AlwaysStable, Inside, AllInside, HoldsAt, RunOk, StateOk, ResultOk, Begins, Follows, on_ok, either_left_at, either_right_at, merged_any, CoversAll, valued}

module _ (x : Cells) (D : Domain) (L : Lawful x D) (G : Found D.Env) (fair : AreFair x D L G) (Names : ℕ → Loop → Type 0) (V : Visit → D.Env → Type 0) where
  abbrev Stab : Said D → Type 0
  Stab P = AlwaysStable x D L G fair Names V P

  abbrev In : List Visit → Type 0
  In vs = AllInside x D L G fair Names V vs

  abbrev At : Said D → State → D.Env → Type 0
  At P st e = HoldsAt x D L G fair Names V P st e

  -- what is said of a state holds at the visit of a loop
  abbrev pub Shown : Said D → Type 0
  Shown P = (loop : Loop) (store : Store) (result clock : ℤ) (e : D.Env) → P store result clock e → V (record { loop = loop; store = store; clock = clock }) e

  abbrev pub VisitsStable : Type 0
  VisitsStable = (v : Visit) → Stable x D L (V v)

  -- ---- a visit
  visited : VisitsStable → (P : Said D) → Shown P → (loop : Loop) (k passes : ℕ) (r : D.Env) (rest : Found D.Env) (st : State) → Names k loop → Has G (both (recorded k passes r) rest) → At P st r →
      Inside x D L G fair Names V (record { loop = loop; store = st.store; clock = st.clock })
  visited vs P shown loop k passes r rest st named g h =
      let one : Record D.Env = record { loop = k; passes = passes; state = r } in
      let v : Visit = record { loop = loop; store = st.store; clock = st.clock } in
      (k, named, record_stands x D L (V v) (vs v) G.records one fair (g.records one (inl refl)) (shown loop st.store st.result st.clock r h))

  visit_follows : VisitsStable → (P Q R : Said D) → Shown P → (loop : Loop) (k passes : ℕ) (r : D.Env) (rest : Found D.Env) (y : Exits D.Env) (go : State → Result) → Names k loop →
      Has G (both (recorded k passes r) rest) → ((st : State) → At P st r → In st.visits → ResultOk x D L G fair Names V Q R y (go st)) → (left : ℕ) (st : State) → At P st r → In st.visits →
      ResultOk x D L G fair Names V Q R y (visit_with left loop st go)
  visit_follows vs P Q R shown loop k passes r rest y go named g next zero st h i = record { inside = i; covered = tt }
  visit_follows vs P Q R shown loop k passes r rest y go named g next (suc left) st h i =
      next (record st { left = left; visits = st.visits ++ record { loop = loop; store = st.store; clock = st.clock } ∷ [] }) h
      (all_append (Inside x D L G fair Names V) st.visits (record { loop = loop; store = st.store; clock = st.clock } ∷ []) i (visited vs P shown loop k passes r rest st named g h, tt))

  -- ---- turns
  -- the next turn begins in `again`, the loop is left in `leaves`, or the run that is over is covered
  abbrev pub TurnOk : Said D → (again leaves : Option D.Env) → Turn → Type 0
  TurnOk P again leaves (Again st) = StateOk x D L G fair Names V P again st
  TurnOk P again leaves (Leaves st) = StateOk x D L G fair Names V P leaves st
  TurnOk P again leaves (Ended r) = RunOk x D L G fair Names V r

  abbrev pub TurnFollows : Said D → (State → Turn) → pieces.Turn D.Env → Type 0
  TurnFollows P one t = (e : D.Env) (st : State) → Begins x D L G fair Names V P e (t.found e) st → TurnOk P (t.again e) (t.leaves e) (one st)

  turn_leads : (P R : Said D) → Stab P → (t : pieces.Turn D.Env) (s r : D.Env) (go : State → Result) → Holding x D L t.again s (Some r) →
      ((st : State) → At P st r → In st.visits → ResultOk x D L G fair Names V P R (goes_on (t.leaves r)) (go st)) → (turn : Turn) → TurnOk P (t.again r) (t.leaves r) turn →
      ResultOk x D L G fair Names V P R (goes_on (t.leaves r)) (then_again turn go)
  turn_leads P R sp t s r go holding more (Again st) h = more st (holding.returns (At P st) (sp st.store st.result st.clock) h.holds) h.inside
  turn_leads P R sp t s r go holding more (Leaves st) h = on_ok x D L G fair Names V P (t.leaves r) st h.holds h.inside
  turn_leads P R sp t s r go holding more (Ended run) h = h

  turns_follow : VisitsStable → (P R : Said D) → Stab P → Shown P → (loop : Loop) (k passes : ℕ) (one : State → Turn) (t : pieces.Turn D.Env) (s r : D.Env) → Names k loop → Holding x D L t.again s (Some r) →
      Good x D L anywhere r → Has G (both (recorded k passes r) (t.found r)) → TurnFollows P one t → (tries : ℕ) (st : State) → At P st r → In st.visits →
      ResultOk x D L G fair Names V P R (goes_on (t.leaves r)) (turns loop one tries st)
  unfolding turns
  turns_follow vs P R sp shown loop k passes one t s r named holding u g f zero st h i = record { inside = i; covered = tt }
  turns_follow vs P R sp shown loop k passes one t s r named holding u g f (suc tries) st h i =
      visit_follows vs P P R shown loop k passes r (t.found r) (goes_on (t.leaves r)) (λ st. then_again (one st) (λ st. turns loop one tries st)) named g
      (λ st h i. turn_leads P R sp t s r (λ st. turns loop one tries st) holding (λ st h i. turns_follow vs P R sp shown loop k passes one t s r named holding u g f tries st h i)
      (one st) (f r st (record { good = u; has = has_right G (recorded k passes r) (t.found r) g; holds = h; inside = i })))
      st.left st h i

  -- a loop of any form, from its stable state, which may be dead
  loop_follows : VisitsStable → (P R : Said D) → Stab P → Shown P → (loop : Loop) (k : ℕ) (f : Facts D.Env) (one : State → Turn) (t : pieces.Turn D.Env) (s : D.Env) → Names k loop → Holding x D L t.again s f.state →
      GoodIf x D L anywhere f.state → Has G (found_in f.state (λ r. both (recorded k f.passes r) (t.found r))) → TurnFollows P one t → (tries : ℕ) (st : State) → At P st s → In st.visits →
      ResultOk x D L G fair Names V P R (goes_on (alive_then f.state t.leaves)) (turns loop one tries st)
  loop_follows vs P R sp shown loop k f one t s named holding u g follows tries st h i = from f.state holding u g (holding.enters (At P st) (sp st.store st.result st.clock) h)
    where
      from : (state : Option D.Env) → Holding x D L t.again s state → GoodIf x D L anywhere state → Has G (found_in state (λ r. both (recorded k f.passes r) (t.found r))) → AliveAnd (At P st) state →
          ResultOk x D L G fair Names V P R (goes_on (alive_then state t.leaves)) (turns loop one tries st)
      from None holding u g h = absurd h
      from (Some r) holding u g h = turns_follow vs P R sp shown loop k f.passes one t s r named holding u g follows tries st h i

  pub inner_follows : VisitsStable → (P R : Said D) → Stab P → Shown P → (loop : Loop) (k : ℕ) (one : State → Turn) (t : pieces.Turn D.Env) → Names k loop → ((f : Frame) → TurnKeeps x D L f t) → TurnFollows P one t →
      Follows x D L G fair Names V P P R (λ st. turns loop one st.left st) (looped D x.all k (λ e. D.top (D.clock e)) t)
  inner_follows vs P R sp shown loop k one t named keeps follows e st b =
      let f = facts_of D x.all t.again (D.top (D.clock e)) e in
      loop_follows vs P R sp shown loop k f one t e named (inner_ends x D L anywhere t e keeps b.good).holding (inner_state x D L anywhere t e (keeps anywhere) b.good) b.has follows st.left st b.holds b.inside

  pub clock_follows : VisitsStable → (P R : Said D) → Stab P → Shown P → (loop : Loop) (k : ℕ) (one : State → Turn) (t : pieces.Turn D.Env) → Names k loop → TurnKeeps x D L anywhere t → TurnFollows P one t →
      Follows x D L G fair Names V P P R (λ st. turns loop one st.left st) (looped D x.all k (λ e. D.top x.clocks) t)
  clock_follows vs P R sp shown loop k one t named keeps follows e st b =
      let f = facts_of D x.all t.again (D.top x.clocks) e in
      loop_follows vs P R sp shown loop k f one t e named (clock_ends x D L t e keeps b.good).holding (clock_state x D L t e keeps b.good) b.has follows st.left st b.holds b.inside

  -- ---- conditions
  -- what a condition leaves, wherever it is evaluated
  abbrev pub Decides : Said D → (State → Value ℤ) → Meaning D.Env → Type 0
  Decides P go c = (e : D.Env) (st : State) → Good x D L anywhere e → At P st e → CoversAll x D L G fair Names V (λ z. AliveAnd (At P st) (c.guard (not (is_zero z)) e)) (c.alarms e) (go st)

  pub guard_is : (P : Said D) (c : Meaning D.Env) (e : D.Env) (st : State) (z : ℤ) (b : Bool) → is_zero z ≡ b → AliveAnd (At P st) (c.guard (not (is_zero z)) e) → AliveAnd (At P st) (c.guard (not b) e)
  guard_is P c e st z b q h = subst (λ (b : Bool). AliveAnd (At P st) (c.guard (not b) e)) q h

  turn_valued : (P : Said D) {A : Type 0} (Q : A → Type 0) (alarms : List Alarm) (v : Value A) (again leaves : Option D.Env) (st : State) (go : A → State → Turn) → CoversAll x D L G fair Names V Q alarms v →
      ((a : Alarm) → IsAmong a alarms → IsAmong a G.alarms) → In st.visits → ((a : A) (tape : List ℤ) → Q a → TurnOk P again leaves (go a (record st { tape = tape }))) → TurnOk P again leaves (turn_with st v go)
  turn_valued P Q alarms (Gives a tape) again leaves st go c g i k = k a tape c
  turn_valued P Q alarms (Stops e) again leaves st go c g i k = record { inside = i; covered = covered_more alarms G.alarms e g c }

  -- a test of a condition that may be missing
  abbrev pub DecidesIf : Said D → Option (State → Value ℤ) → Option (Meaning D.Env) → Type 0
  DecidesIf P None None = Unit {0}
  DecidesIf P None (Some c) = ⊥
  DecidesIf P (Some go) None = ⊥
  DecidesIf P (Some go) (Some c) = Decides P go c

  abbrev pub tested_by : Option (State → Value ℤ) → State → (State → Turn) → Turn
  tested_by None st go = go st
  tested_by (Some v) st go = turn_with st (v st) (λ z st. if is_zero z then Leaves st else go st)

  pub test_follows : (P : Said D) (v : Option (State → Value ℤ)) (c : Option (Meaning D.Env)) (e : D.Env) (st : State) (go : State → Turn) (again leaves : Option D.Env) → DecidesIf P v c → Good x D L anywhere e →
      Has G (test_alarms D c e) → At P st e → In st.visits → ((st : State) → AliveAnd (At P st) (holds D c e) → In st.visits → TurnOk P again leaves (go st)) →
      ((st : State) → AliveAnd (At P st) (fails D c e) → AliveAnd (At P st) leaves) → TurnOk P again leaves (tested_by v st go)
  test_follows P None None e st go again leaves d u g h i k l = k st h i
  test_follows P None (Some c) e st go again leaves d u g h i k l = absurd d
  test_follows P (Some v) None e st go again leaves d u g h i k l = absurd d
  test_follows P (Some v) (Some c) e st go again leaves d u g h i k l =
      turn_valued P (λ z. AliveAnd (At P st) (c.guard (not (is_zero z)) e)) (c.alarms e) (v st) again leaves st (λ z st. if is_zero z then Leaves st else go st) (d e st u h) g.alarms i
      (λ z tape j. way z tape j (is_zero z) refl)
    where
      way : (z : ℤ) (tape : List ℤ) → AliveAnd (At P st) (c.guard (not (is_zero z)) e) → (b : Bool) → is_zero z ≡ b → TurnOk P again leaves (if b then Leaves (record st { tape = tape }) else go (record st { tape = tape }))
      way z tape j true q = record { holds = l (record st { tape = tape }) (guard_is P c e st z true q j); inside = i }
      way z tape j false q = k (record st { tape = tape }) (guard_is P c e st z false q j) i

  -- ---- the turns of the forms of loops
  body_leads : (P : Said D) (y : Exits D.Env) (again leaves : Option D.Env) (go : State → Turn) → ((st : State) → AnyOf (At P st) y.ends → In st.visits → TurnOk P again leaves (go st)) →
      ((st : State) → AliveAnd (At P st) y.broken → AliveAnd (At P st) leaves) → (r : Result) → ResultOk x D L G fair Names V P P y r → TurnOk P again leaves (after_body r go)
  body_leads P y again leaves go k l (Goes st) h = k st h.holds h.inside
  body_leads P y again leaves go k l (Breaks st) h = record { holds = l st h.holds; inside = h.inside }
  body_leads P y again leaves go k l (Over r) h = h

  -- a step that may be missing
  abbrev pub StepsIf : Said D → Option (State → Value Store) → Option (Change D.Env) → Type 0
  StepsIf P None None = Unit {0}
  StepsIf P None (Some c) = ⊥
  StepsIf P (Some go) None = ⊥
  StepsIf P (Some go) (Some c) = (e : D.Env) (st : State) → Good x D L anywhere e → At P st e →
      CoversAll x D L G fair Names V (λ store. AliveAnd (P store st.result st.clock) (c.after e)) (c.alarms e) (go st)

  abbrev pub stepped_by : Option (State → Value Store) → State → Turn
  stepped_by None st = Again st
  stepped_by (Some v) st = turn_with st (v st) (λ store st. Again (record st { store = store }))

  step_follows : (P : Said D) (v : Option (State → Value Store)) (c : Option (Change D.Env)) (o : Option D.Env) (st : State) (leaves : Option D.Env) → StepsIf P v c → GoodIf x D L anywhere o →
      Has G (found_in o (step_alarms D c)) → AliveAnd (At P st) o → In st.visits → TurnOk P (alive_then o (stepped D c)) leaves (stepped_by v st)
  step_follows P v c None st leaves d u g h i = absurd h
  step_follows P None None (Some e) st leaves d u g h i = record { holds = h; inside = i }
  step_follows P None (Some c) (Some e) st leaves d u g h i = absurd d
  step_follows P (Some v) None (Some e) st leaves d u g h i = absurd d
  step_follows P (Some v) (Some c) (Some e) st leaves d u g h i =
      turn_valued P (λ store. AliveAnd (P store st.result st.clock) (c.after e)) (c.alarms e) (v st) (c.after e) leaves st (λ store st. Again (record st { store = store })) (d e st u h) g.alarms i
      (λ store tape j. record { holds = j; inside = i })

  ends_in : (P : Said D) → Stab P → (o : Option D.Env) (body : Piece D.Env) (st : State) → GoodIf x D L anywhere o → PieceKeeps x D L anywhere body → AnyOf (At P st) (exits_in o body.after).ends →
      AliveAnd (At P st) (alive_then o (λ e. merged D (body.after e).ends))
  ends_in P sp None body st u k h = absurd h
  ends_in P sp (Some e) body st u k h = merged_any x D L G fair Names V P sp (body.after e).ends st (k e u).ends h

  pub while_follows : (P : Said D) → Stab P → (v : Option (State → Value ℤ)) (c : Option (Meaning D.Env)) (go : State → Result) (body : Piece D.Env) (w : Option (State → Value Store)) (step : Option (Change D.Env)) →
      DecidesIf P v c → FitIf x D L c → Follows x D L G fair Names V P P P go body → PieceKeeps x D L anywhere body → StepsIf P w step → KeepsIf x D L step →
      TurnFollows P (λ st. tested_by v st (λ st. after_body (go st) (stepped_by w))) (while_turn D c body step)
  while_follows P sp v c go body w step d fit k kept s sk e st b =
      let o = holds D c e in
      let no_env = fails D c e in
      let good = holds_good x D L anywhere c fit e b.good in
      let no_good = fails_good x D L anywhere c fit e b.good in
      let t = while_turn D c body step in
      let inner = λ (e : D.Env). both (body.found e) (found_in (merged D (body.after e).ends) (step_alarms D step)) in
      let kx = exits_keep x D L anywhere o body good kept in
      test_follows P v c e st (λ st. after_body (go st) (stepped_by w)) (t.again e) (t.leaves e) d b.good (has_left G (test_alarms D c e) (found_in o inner) b.has) b.holds b.inside
      (λ st h i. entered o good (has_right G (test_alarms D c e) (found_in o inner) b.has) no_env no_good kx.broken st h i)
      (λ st h. either_left_at x D L G fair Names V P sp no_env (exits_in o body.after).broken st no_good kx.broken h)
    where
      entered : (o : Option D.Env) → GoodIf x D L anywhere o → Has G (found_in o (λ e. both (body.found e) (found_in (merged D (body.after e).ends) (step_alarms D step)))) → (no_env : Option D.Env) → GoodIf x D L anywhere no_env →
          GoodIf x D L anywhere (exits_in o body.after).broken → (st : State) → AliveAnd (At P st) o → In st.visits →
          TurnOk P (alive_then o (λ e. alive_then (merged D (body.after e).ends) (stepped D step))) (either D no_env (exits_in o body.after).broken) (after_body (go st) (stepped_by w))
      entered None good g no_env no_good kb st h i = absurd h
      entered (Some e) good g no_env no_good kb st h i =
          let ends = merged D (body.after e).ends in
          let eg = merged_good x D L anywhere (body.after e).ends (kept e good).ends in
          body_leads P (body.after e) (alive_then ends (stepped D step)) (either D no_env (body.after e).broken) (stepped_by w)
          (λ st h i. step_follows P w step ends st (either D no_env (body.after e).broken) s eg (has_right G (body.found e) (found_in ends (step_alarms D step)) g)
          (merged_any x D L G fair Names V P sp (body.after e).ends st (kept e good).ends h) i)
          (λ st h. either_right_at x D L G fair Names V P sp no_env (body.after e).broken st no_good kb h)
          (go st) (k e st (record { good = good; has = has_left G (body.found e) (found_in ends (step_alarms D step)) g; holds = h; inside = i }))

  pub do_follows : (P : Said D) → Stab P → (v : Option (State → Value ℤ)) (c : Option (Meaning D.Env)) (go : State → Result) (body : Piece D.Env) → DecidesIf P v c → FitIf x D L c →
      Follows x D L G fair Names V P P P go body → PieceKeeps x D L anywhere body → TurnFollows P (λ st. after_body (go st) (λ st. tested_by v st (λ st. Again st))) (do_turn D c body)
  do_follows P sp v c go body d fit k kept e st b =
      let ends = merged D (body.after e).ends in
      let ft = found_in ends (test_alarms D c) in
      let kx = kept e b.good in
      let eg = merged_good x D L anywhere (body.after e).ends kx.ends in
      let t = do_turn D c body in
      let fg : GoodIf x D L anywhere (alive_then ends (fails D c)) = alive_keeps (Good x D L anywhere) (Good x D L anywhere) ends (fails D c) eg (fails_good x D L anywhere c fit) in
      body_leads P (body.after e) (t.again e) (t.leaves e) (λ st. tested_by v st (λ st. Again st))
      (λ st h i. tail ends eg (has_right G (body.found e) ft b.has) (body.after e).broken kx.broken st (merged_any x D L G fair Names V P sp (body.after e).ends st kx.ends h) i)
      (λ st h. either_right_at x D L G fair Names V P sp (alive_then ends (fails D c)) (body.after e).broken st fg kx.broken h)
      (go st) (k e st (record { good = b.good; has = has_left G (body.found e) ft b.has; holds = b.holds; inside = b.inside }))
    where
      tail : (o : Option D.Env) → GoodIf x D L anywhere o → Has G (found_in o (test_alarms D c)) → (broken : Option D.Env) → GoodIf x D L anywhere broken → (st : State) → AliveAnd (At P st) o → In st.visits →
          TurnOk P (alive_then o (holds D c)) (either D (alive_then o (fails D c)) broken) (tested_by v st (λ st. Again st))
      tail None good g broken bg st h i = absurd h
      tail (Some e) good g broken bg st h i =
          test_follows P v c e st (λ st. Again st) (holds D c e) (either D (fails D c e) broken) d good g h i (λ st h i. record { holds = h; inside = i })
          (λ st h. either_left_at x D L G fair Names V P sp (fails D c e) broken st (fails_good x D L anywhere c fit e good) bg h)

  -- ---- what is no block
  pub known_follows : (P R : Said D) (v : State → Value ℤ) (c : Meaning D.Env) → Decides P v c →
      Follows x D L G fair Names V P P R (λ st. with_value st (v st) (λ z st. if is_zero z then over st Blocked else Goes st)) (known c)
  known_follows P R v c d e st b =
      valued x D L G fair Names V P R (λ z. AliveAnd (At P st) (c.guard (not (is_zero z)) e)) (c.alarms e) (v st) ((known c).after e) st (λ z st. if is_zero z then over st Blocked else Goes st) (d e st b.good b.holds)
      b.has.alarms b.inside (λ z tape j. way z tape j (is_zero z) refl)
    where
      way : (z : ℤ) (tape : List ℤ) → AliveAnd (At P st) (c.guard (not (is_zero z)) e) → (q : Bool) → is_zero z ≡ q →
          ResultOk x D L G fair Names V P R (goes_on (c.guard true e)) (if q then over (record st { tape = tape }) Blocked else Goes (record st { tape = tape }))
      way z tape j true q = record { inside = b.inside; covered = tt }
      way z tape j false q = on_ok x D L G fair Names V P (c.guard true e) (record st { tape = tape }) (guard_is P c e st z false q j) b.inside

  pub asserted_follows : (P R : Said D) (at : Pos) (v : State → Value ℤ) (c : Meaning D.Env) → Decides P v c →
      Follows x D L G fair Names V P P R (λ st. with_value st (v st) (λ z st. if is_zero z then over st (Error at alarm.Assert) else Goes st)) (asserted at c)
  asserted_follows P R at v c d e st b =
      valued x D L G fair Names V P R (λ z. AliveAnd (At P st) (c.guard (not (is_zero z)) e)) (c.alarms e) (v st) ((asserted at c).after e) st (λ z st. if is_zero z then over st (Error at alarm.Assert) else Goes st)
      (d e st b.good b.holds) (λ a m. b.has.alarms a (among_left a (c.alarms e) (assert_alarms at (c.guard false e)) m)) b.inside (λ z tape j. way z tape j (is_zero z) refl)
    where
      failed : (o : Option D.Env) → AliveAnd (At P st) o → IsAmong (record { pos = at; kind = alarm.Assert }) (assert_alarms at o)
      failed None h = absurd h
      failed (Some e) h = inl refl

      way : (z : ℤ) (tape : List ℤ) → AliveAnd (At P st) (c.guard (not (is_zero z)) e) → (q : Bool) → is_zero z ≡ q →
          ResultOk x D L G fair Names V P R (goes_on (c.guard true e)) (if q then over (record st { tape = tape }) (Error at alarm.Assert) else Goes (record st { tape = tape }))
      way z tape j true q = record {
        inside = b.inside;
        covered = b.has.alarms _ (among_right _ (c.alarms e) (assert_alarms at (c.guard false e)) (failed (c.guard false e) (guard_is P c e st z true q j)));
      }
      way z tape j false q = on_ok x D L G fair Names V P (c.guard true e) (record st { tape = tape }) (guard_is P c e st z false q j) b.inside

  pub breaks_follow : (P Q : Said D) → Follows x D L G fair Names V P Q P (λ st. Breaks st) pieces.breaks
  breaks_follow P Q e st b = record { holds = b.holds; inside = b.inside }

  -- what a change leaves
  abbrev pub Changes : Said D → Said D → (State → Value (Store × ℤ)) → Change D.Env → Type 0
  Changes P Q go c = (e : D.Env) (st : State) → Good x D L anywhere e → At P st e →
      CoversAll x D L G fair Names V (λ r. AliveAnd (Q r.0 r.1 st.clock) (c.after e)) (c.alarms e) (go st)

  pub changed_follows : (P Q R : Said D) (v : State → Value (Store × ℤ)) (c : Change D.Env) → Changes P Q v c →
      Follows x D L G fair Names V P Q R (λ st. with_value st (v st) (λ r st. Goes (record st { store = r.0; result = r.1 }))) (changed c)
  changed_follows P Q R v c d e st b =
      valued x D L G fair Names V Q R (λ r. AliveAnd (Q r.0 r.1 st.clock) (c.after e)) (c.alarms e) (v st) ((changed c).after e) st (λ r st. Goes (record st { store = r.0; result = r.1 })) (d e st b.good b.holds) b.has.alarms b.inside
      (λ r tape j. on_ok x D L G fair Names V Q (c.after e) (record st { tape = tape; store = r.0; result = r.1 }) j b.inside)

  -- the wait
  abbrev pub Ticks : Said D → ℤ → Type 0
  Ticks P max_clock = (store : Store) (result clock : ℤ) (e : D.Env) → Good x D L anywhere e → int_le max_clock clock ≡ false → P store result clock e → AliveAnd (P store result (clock +ℤ pos 1)) (D.tick e)

  pub waits_follow : (P R : Said D) (max_clock : ℤ) → Ticks P max_clock → Follows x D L G fair Names V P P R (λ st. wait max_clock st) (waits D)
  waits_follow P R max_clock t e st b =
      elim (int_le max_clock st.clock) as (λ q. int_le max_clock st.clock ≡ q →
      ResultOk x D L G fair Names V P R ((waits D).after e) (if q then over st Clock else Goes (record st { clock = st.clock +ℤ pos 1 }))) [
        | true ↦ λ _. record { inside = b.inside; covered = tt }
        | false ↦ λ q. on_ok x D L G fair Names V P (D.tick e) (record st { clock = st.clock +ℤ pos 1 }) (t st.store st.result st.clock e b.good q b.holds) b.inside
      ] refl
