-- Each statement, from a state in its environment: the visits stand in the records, an error is among the alarms, and the
-- state after is in the environment after. From there to turns of the clock loop, and to whole executions.
use Rattle.std.proofs.Common.{◌≡◌, ℕ, zero, suc, ℤ, pos, ◌+ℤ◌, true, false, List, [], ◌∷◌, ◌++◌, refl, subst, Option, Some, None, ◌⊎◌, inl, inr}
use Rattle.std.specs.Prelude.{if◌then◌else◌, nat_le, length}
use Rattle.std.specs.Int.RustNames.{int_le}
use Rattle.std.specs.List.{AllByRecursion}
use Rattle.sa_base.specs.declared.alarm.Alarm.{Alarm}
use Rattle.sa_typed.specs.declared.program.Program.{Program}
use Rattle.sa_typed.specs.declared.stmt.LoopKind.TheVariants as kind
use Rattle.sa_typed.specs.declared.stmt.Stmt.{Stmt, Row_of-Stmt, end_of-Stmt, more_of-Stmt}
use Rattle.sa_typed.specs.Evaluation.{End, Error, Clock, Blocked, Tape, Going, Value, Gives, Stops, Setting}
use Rattle.sa_typed.specs.Executions.{Loop, Visit, Run, State, Result, Goes, Breaks, Over, Turn, Again, Leaves, Ended, Bodies, with_value, with_store, here_in, simple_value, then_state, then_again, visit_with, turns, turn_of as one_turn, after_body, run, run_all, wait, bodies_of, main_of, main_activation, start, over, ended, execution}
use Rattle.sa_typed.specs.WellTyped.{IsTyped, IsTypedStmt, AreTypedStmts}
use Rattle.sa_reference.specs.Domain.{Domain}
use Rattle.sa_reference.specs.Passes.{Facts, alive_then}
use Rattle.sa_reference.specs.Steps.{Record, Found, Exits, both, found_in, found_over, recorded, list_of, flat, goes_on, either, merged, loop_found, spread, broken_over, after, after_all, found, found_all}
use Rattle.sa_reference.specs.Reference.{record_at, reference}
use Rattle.sa_reference.specs.Sound.{IsAmong, IsCovered, AliveAnd}
use Rattle.sa_reference.proofs.Laws.{Laws, IfAlive, Covers}
use Rattle.sa_reference.proofs.PassLaws.{if_keeps, Closed}
use Rattle.sa_reference.proofs.StepLaws.{all_append, among_left, among_right, AreFair, Stands, record_stands, AllUnder, PieceKeeps, merged_keeps, spread_keeps, broken_keeps, after_keeps, all_keep, turn_of, facts_in, clock_ends, clock_keeps, found_fair, unbroken}

-- ---- what one walk found is in the whole
pub record Has {E : Type 0} (G f : Found E) : Type 0 where
  pub alarms : (a : Alarm) → IsAmong a f.alarms → IsAmong a G.alarms
  pub records : (r : Record E) → IsAmong r f.records → IsAmong r G.records

has_left : {E : Type 0} (G f g : Found E) → Has G (both f g) → Has G f
has_left G f g h = record {
  alarms = λ a m. h.alarms a (among_left a f.alarms g.alarms m);
  records = λ r m. h.records r (among_left r f.records g.records m);
}

has_right : {E : Type 0} (G f g : Found E) → Has G (both f g) → Has G g
has_right G f g h = record {
  alarms = λ a m. h.alarms a (among_right a f.alarms g.alarms m);
  records = λ r m. h.records r (among_right r f.records g.records m);
}

pub covered_more : (some all : List Alarm) (e : End) → ((a : Alarm) → IsAmong a some → IsAmong a all) → IsCovered some e → IsCovered all e
covered_more some all (Error p k) h c = h (record { pos = p; kind = k }) c
covered_more some all Clock h c = tt
covered_more some all Blocked h c = tt
covered_more some all Tape h c = tt
covered_more some all Going h c = tt

-- P holds of one of a list
abbrev AnyOf : {A : Type 0} → (A → Type 0) → List A → Type 0
AnyOf P [] = ⊥
AnyOf P (a ∷ as') = P a ⊎ AnyOf P as'

any_left : {A : Type 0} (P : A → Type 0) (xs ys : List A) → AnyOf P xs → AnyOf P (xs ++ ys)
any_left P [] ys h = absurd h
any_left P (x ∷ xs) ys (inl e) = inl e
any_left P (x ∷ xs) ys (inr m) = inr (any_left P xs ys m)

any_right : {A : Type 0} (P : A → Type 0) (xs ys : List A) → AnyOf P ys → AnyOf P (xs ++ ys)
any_right P [] ys h = h
any_right P (x ∷ xs) ys h = inr (any_right P xs ys h)

list_any : {A : Type 0} (P : A → Type 0) (o : Option A) → AliveAnd P o → AnyOf P (list_of o)
list_any P None h = absurd h
list_any P (Some a) h = inl h

module _ (p : Program) (w : Setting) (D : Domain) (L : Laws p w D) (G : Found D.Env) (fair : AreFair p w D L G) where
  -- the record of the visit's loop holds there
  abbrev pub Inside : Visit → Type 0
  Inside v = Stands p w D L v.store v.clock (record_at D G.records v.loop)

  abbrev AllInside : List Visit → Type 0
  AllInside vs = AllByRecursion Inside vs

  abbrev HoldsAt : State → D.Env → Type 0
  HoldsAt st e = D.Holds e st.store st.clock

  abbrev Alive : Option D.Env → Type 0
  Alive o = IfAlive L.Under o

  pub record RunOk (r : Run) : Type 0 where
    pub inside : AllInside r.visits
    pub covered : IsCovered G.alarms r.end

  -- a state in one of the environments at the end
  record EndsOk (es : List D.Env) (st : State) : Type 0 where
    holds : AnyOf (HoldsAt st) es
    inside : AllInside st.visits

  -- a state in an environment that may be dead
  record StateOk (o : Option D.Env) (st : State) : Type 0 where
    holds : AliveAnd (HoldsAt st) o
    inside : AllInside st.visits

  -- the result is in what leaves a piece of program, or the run that is over is covered
  abbrev ResultOk : Exits D.Env → Result → Type 0
  ResultOk x (Goes st) = EndsOk x.ends st
  ResultOk x (Breaks st) = StateOk x.broken st
  ResultOk x (Over r) = RunOk r

  -- a state in e, from which what is found stands in the whole
  record Begins (e : D.Env) (f : Found D.Env) (st : State) : Type 0 where
    under : L.Under e
    has : Has G f
    holds : HoldsAt st e
    inside : AllInside st.visits

  -- what a piece of program owes: its meaning, what leaves it and what is found in it
  abbrev Follows : (State → Result) → (D.Env → Exits D.Env) → (D.Env → Found D.Env) → Type 0
  Follows go next finds = (e : D.Env) (st : State) → Begins e (finds e) st → ResultOk (next e) (go st)

  -- the same from a list of environments
  abbrev FollowsAll : (State → Result) → (List D.Env → Exits D.Env) → (List D.Env → Found D.Env) → Type 0
  FollowsAll go next finds = (es : List D.Env) (st : State) → AllUnder p w D L es → Has G (finds es) → AnyOf (HoldsAt st) es → AllInside st.visits → ResultOk (next es) (go st)

  -- ---- results
  valued : {A : Type 0} (P : A → Type 0) (alarms : List Alarm) (v : Value A) (x : Exits D.Env) (st : State) (go : A → State → Result) → Covers P alarms v →
      ((a : Alarm) → IsAmong a alarms → IsAmong a G.alarms) → AllInside st.visits →
      ((a : A) (tape : List ℤ) → P a → ResultOk x (go a (record st { tape = tape }))) → ResultOk x (with_value st v go)
  valued P alarms (Gives a tape) x st go c g i k = k a tape c
  valued P alarms (Stops e) x st go c g i k = record { inside = i; covered = covered_more alarms G.alarms e g c }

  -- more states are fine too
  widen_to : (x y : Exits D.Env) (r : Result) → ResultOk x r → ((st : State) → AnyOf (HoldsAt st) x.ends → AnyOf (HoldsAt st) y.ends) →
      ((st : State) → AliveAnd (HoldsAt st) x.broken → AliveAnd (HoldsAt st) y.broken) → ResultOk y r
  widen_to x y (Goes st) h k l = record { holds = k st h.holds; inside = h.inside }
  widen_to x y (Breaks st) h k l = record { holds = l st h.holds; inside = h.inside }
  widen_to x y (Over r) h k l = h

  either_left : (a b : Option D.Env) (st : State) → Alive a → Alive b → AliveAnd (HoldsAt st) a → AliveAnd (HoldsAt st) (either D a b)
  either_left None b st u v h = absurd h
  either_left (Some a) None st u v h = h
  either_left (Some a) (Some b) st u v h = L.merge_left a b st.store st.clock u v h

  either_right : (a b : Option D.Env) (st : State) → Alive a → Alive b → AliveAnd (HoldsAt st) b → AliveAnd (HoldsAt st) (either D a b)
  either_right None b st u v h = h
  either_right (Some a) None st u v h = absurd h
  either_right (Some a) (Some b) st u v h = L.merge_right a b st.store st.clock u v h

  merged_any : (es : List D.Env) (st : State) → AllUnder p w D L es → AnyOf (HoldsAt st) es → AliveAnd (HoldsAt st) (merged D es)
  merged_any [] st u h = absurd h
  merged_any (e ∷ es) st u (inl h) = either_left (Some e) (merged D es) st u.0 (merged_keeps p w D L es u.1) h
  merged_any (e ∷ es) st u (inr k) = either_right (Some e) (merged D es) st u.0 (merged_keeps p w D L es u.1) (merged_any es st u.1 k)

  -- ---- statements
  -- one statement from each of a list, where each end goes into what is picked of it
  over_by : (go : State → Result) (next : D.Env → Exits D.Env) (finds : D.Env → Found D.Env) (pick : D.Env → List D.Env) → Follows go next finds → PieceKeeps p w D L next →
      ((e : D.Env) (st : State) → L.Under e → AnyOf (HoldsAt st) (next e).ends → AnyOf (HoldsAt st) (pick e)) →
      FollowsAll go (λ es. record { ends = flat pick es; broken = broken_over D next es }) (λ es. found_over es finds)
  over_by go next finds pick k kept sub [] st u g h i = absurd h
  over_by go next finds pick k kept sub (e ∷ es) st u g (inl h) i =
      widen_to (next e) (record { ends = pick e ++ flat pick es; broken = either D (next e).broken (broken_over D next es) }) (go st)
      (k e st (record { under = u.0; has = has_left G (finds e) (found_over es finds) g; holds = h; inside = i }))
      (λ st x. any_left (HoldsAt st) (pick e) (flat pick es) (sub e st u.0 x))
      (λ st x. either_left (next e).broken (broken_over D next es) st (kept e u.0).broken (broken_keeps p w D L next es kept u.1) x)
  over_by go next finds pick k kept sub (e ∷ es) st u g (inr h) i =
      widen_to (record { ends = flat pick es; broken = broken_over D next es }) (record { ends = pick e ++ flat pick es; broken = either D (next e).broken (broken_over D next es) }) (go st)
      (over_by go next finds pick k kept sub es st u.1 (has_right G (finds e) (found_over es finds) g) h i)
      (λ st x. any_right (HoldsAt st) (pick e) (flat pick es) x)
      (λ st x. either_right (next e).broken (broken_over D next es) st (kept e u.0).broken (broken_keeps p w D L next es kept u.1) x)

  spread_follows : (go : State → Result) (next : D.Env → Exits D.Env) (finds : D.Env → Found D.Env) → Follows go next finds → PieceKeeps p w D L next →
      FollowsAll go (λ es. record { ends = spread D next es; broken = broken_over D next es }) (λ es. found_over es finds)
  spread_follows go next finds k kept es st u g h i =
      if_keeps (λ (ends : List D.Env). ResultOk (record { ends = ends; broken = broken_over D next es }) (go st)) (nat_le (length (flat (λ e. (next e).ends) es)) 16) _ _
      (over_by go next finds (λ e. (next e).ends) k kept (λ e st u x. x) es st u g h i)
      (over_by go next finds (λ e. list_of (merged D (next e).ends)) k kept (λ e st u x. list_any (HoldsAt st) (merged D (next e).ends) (merged_any (next e).ends st (kept e u).ends x)) es st u g h i)

  -- one after another
  chain : (x : Exits D.Env) (r : Result) (go : State → Result) (next : List D.Env → Exits D.Env) (finds : List D.Env → Found D.Env) → ResultOk x r → AllUnder p w D L x.ends → Alive x.broken →
      Alive (next x.ends).broken → Has G (finds x.ends) → FollowsAll go next finds →
      ResultOk (record { ends = (next x.ends).ends; broken = either D x.broken (next x.ends).broken }) (then_state r go)
  chain x (Goes st) go next finds h u b nb g k =
      widen_to (next x.ends) (record { ends = (next x.ends).ends; broken = either D x.broken (next x.ends).broken }) (go st) (k x.ends st u g h.holds h.inside) (λ st y. y)
      (λ st y. either_right x.broken (next x.ends).broken st b nb y)
  chain x (Breaks st) go next finds h u b nb g k = record { holds = either_left x.broken (next x.ends).broken st b nb h.holds; inside = h.inside }
  chain x (Over r) go next finds h u b nb g k = h

  -- ---- loops
  -- what the record of a loop gives at a visit
  visited : (loop : Loop) (passes : ℕ) (r : D.Env) (rest : Found D.Env) (st : State) → Has G (both (recorded loop passes r) rest) → HoldsAt st r →
      Inside (record { loop = loop; store = st.store; clock = st.clock })
  visited loop passes r rest st g h =
      let one : Record D.Env = record { loop = loop; passes = passes; state = r } in
      record_stands p w D L G.records one st.store st.clock fair (g.records one (inl refl)) h

  -- a visit is recorded where one is left
  visit_follows : (loop : Loop) (passes : ℕ) (r : D.Env) (rest : Found D.Env) (x : Exits D.Env) (go : State → Result) → Has G (both (recorded loop passes r) rest) →
      ((st : State) → HoldsAt st r → AllInside st.visits → ResultOk x (go st)) → (left : ℕ) (st : State) → HoldsAt st r → AllInside st.visits → ResultOk x (visit_with left loop st go)
  visit_follows loop passes r rest x go g k zero st h i = record { inside = i; covered = tt }
  visit_follows loop passes r rest x go g k (suc left) st h i =
      k (record st { left = left; visits = st.visits ++ record { loop = loop; store = st.store; clock = st.clock } ∷ [] }) h
      (all_append Inside st.visits (record { loop = loop; store = st.store; clock = st.clock } ∷ []) i (visited loop passes r rest st g h, tt))

  -- a turn: the next one begins in `again`, the loop is left in `leaves`, or the run that is over is covered
  abbrev TurnOk : (again leaves : Option D.Env) → Turn → Type 0
  TurnOk again leaves (Again st) = StateOk again st
  TurnOk again leaves (Leaves st) = StateOk leaves st
  TurnOk again leaves (Ended r) = RunOk r

  -- what one turn of a loop owes
  abbrev TurnFollows : (State → Turn) → (again leaves : D.Env → Option D.Env) → (D.Env → Found D.Env) → Type 0
  TurnFollows one again leaves sees = (e : D.Env) (st : State) → Begins e (sees e) st → TurnOk (again e) (leaves e) (one st)

  turn_leads : (again leaves : D.Env → Option D.Env) (s r : D.Env) (go : State → Result) → Closed p w D L again s (Some r) →
      ((st : State) → HoldsAt st r → AllInside st.visits → ResultOk (goes_on (leaves r)) (go st)) → (t : Turn) → TurnOk (again r) (leaves r) t → ResultOk (goes_on (leaves r)) (then_again t go)
  turn_leads again leaves s r go closed more (Again st) h = more st (closed.returns st.store st.clock h.holds) h.inside
  turn_leads again leaves s r go closed more (Leaves st) h = record { holds = list_any (HoldsAt st) (leaves r) h.holds; inside = h.inside }
  turn_leads again leaves s r go closed more (Ended x) h = h

  turns_follow : (loop : Loop) (passes : ℕ) (one : State → Turn) (again leaves : D.Env → Option D.Env) (sees : D.Env → Found D.Env) (s r : D.Env) → Closed p w D L again s (Some r) →
      L.Under r → Has G (both (recorded loop passes r) (sees r)) → TurnFollows one again leaves sees → (tries : ℕ) (st : State) → HoldsAt st r → AllInside st.visits →
      ResultOk (goes_on (leaves r)) (turns loop one tries st)
  unfolding turns
  turns_follow loop passes one again leaves sees s r closed u g k zero st h i = record { inside = i; covered = tt }
  turns_follow loop passes one again leaves sees s r closed u g k (suc tries) st h i =
      visit_follows loop passes r (sees r) (goes_on (leaves r)) (λ st. then_again (one st) (λ st. turns loop one tries st)) g
      (λ st h i. turn_leads again leaves s r (λ st. turns loop one tries st) closed (λ st h i. turns_follow loop passes one again leaves sees s r closed u g k tries st h i)
      (one st) (k r st (record { under = u; has = has_right G (recorded loop passes r) (sees r) g; holds = h; inside = i })))
      st.left st h i

  -- a loop of any form, from a state that may be dead
  loop_follows : (loop : Loop) (x : Facts D.Env) (one : State → Turn) (again leaves : D.Env → Option D.Env) (sees : D.Env → Found D.Env) (s : D.Env) → Closed p w D L again s x.state →
      Alive x.state → Has G (loop_found D loop sees x) → TurnFollows one again leaves sees → (tries : ℕ) (st : State) → HoldsAt st s → AllInside st.visits →
      ResultOk (goes_on (alive_then x.state leaves)) (turns loop one tries st)
  loop_follows loop x one again leaves sees s closed u g k tries st h i = from x.state closed u g (closed.enters st.store st.clock h)
    where
      from : (state : Option D.Env) → Closed p w D L again s state → Alive state → Has G (found_in state (λ r. both (recorded loop x.passes r) (sees r))) → AliveAnd (HoldsAt st) state →
          ResultOk (goes_on (alive_then state leaves)) (turns loop one tries st)
      from None closed u g h = absurd h
      from (Some r) closed u g h = turns_follow loop x.passes one again leaves sees s r closed u g k tries st h i

  -- ---- the clock loop
  wait_follows : (e : D.Env) (st : State) → L.Under e → HoldsAt st e → AllInside st.visits → ResultOk (goes_on (D.tick e)) (wait w.max_clock st)
  wait_follows e st u h i =
      elim (int_le w.max_clock st.clock) as (λ b. int_le w.max_clock st.clock ≡ b →
      ResultOk (goes_on (D.tick e)) (if b then over st Clock else Goes (record st { clock = st.clock +ℤ pos 1 }))) [
        | true ↦ λ _. record { inside = i; covered = tt }
        | false ↦ λ t. record { holds = list_any (HoldsAt (record st { clock = st.clock +ℤ pos 1 })) (D.tick e) (L.tick_sound e st.store st.clock u h t); inside = i }
      ] refl

  -- what a body leads to begins the next turn
  clock_turn_ok : (x : Exits D.Env) → AllUnder p w D L x.ends → x.broken ≡ None → (r : Result) → ResultOk x r → TurnOk (merged D x.ends) None (after_body r (λ st. Again st))
  clock_turn_ok x u e (Goes st) h = record { holds = merged_any x.ends st u h.holds; inside = h.inside }
  clock_turn_ok x u e (Breaks st) h = subst (λ (o : Option D.Env). StateOk o st) e h
  clock_turn_ok x u e (Over r) h = h

  -- nothing leaves the clock loop
  clock_ok : (x : Facts D.Env) (r : Result) → ResultOk (goes_on (alive_then x.state (λ _. None))) r → ResultOk (goes_on None) r
  clock_ok x r h = dead x.state h
    where
      dead : (o : Option D.Env) → ResultOk (goes_on (alive_then o (λ _. None))) r → ResultOk (goes_on None) r
      dead None h = h
      dead (Some e) h = h

  -- ---- statements of main, whatever calls do
  module _ (bodies : Bodies) where
    mutual
      unfolding run after found IsTypedStmt

      run_follows : (s : Stmt) → IsTypedStmt p s → Follows (λ st. run p w bodies (main_activation p) s st) (λ e. after D s [] e) (λ e. found D s [] e)
      run_follows (Stmt.Simple s) t e st b =
          valued (λ store. AliveAnd (λ i. D.Holds i store st.clock) (D.simple s e)) (D.simple_alarms s e) (simple_value p w (here_in (main_activation p) st) s st.store st.tape) (goes_on (D.simple s e)) st
          (λ store st. Goes (with_store st store)) (L.simple_sound s e st.store st.clock st.tape t b.under b.holds) b.has.alarms b.inside
          (λ store tape h. record { holds = list_any (HoldsAt (with_store (record st { tape = tape }) store)) (D.simple s e) h; inside = b.inside })
      run_follows (Stmt.Block' n all) t e st b =
          let x = after_all D all [] (e ∷ []) in
          let kept = all_keep p w D L all [] t (e ∷ []) (b.under, tt) in
          widen_to x (record { ends = list_of (merged D x.ends); broken = x.broken }) (run_all p w bodies (main_activation p) all st)
          (all_follow all t (e ∷ []) st (b.under, tt) b.has (inl b.holds) b.inside)
          (λ st h. list_any (HoldsAt st) (merged D x.ends) (merged_any x.ends st kept.ends h)) (λ st h. h)
      run_follows Stmt.Wait t e st b = wait_follows e st b.under b.holds b.inside
      run_follows (Stmt.Loop' q kind.Clock None n (more_of-Stmt body end_of-Stmt) None) t e st b =
          clock_ok (facts_in p w D L body [] e) _
          (loop_follows (record { path = []; place = q }) (facts_in p w D L body [] e) (one_turn p w (main_activation p) kind.Clock None (λ st. run p w bodies (main_activation p) body st) None)
          (turn_of p w D L body []) (λ _. None) (λ r. found D body [] r) e (clock_ends p w D L body [] t e b.under).closed (clock_keeps p w D L body [] t e b.under) b.has
          (λ r st b. clock_turn_ok (after D body [] r) (after_keeps p w D L body [] t r b.under).ends (unbroken D body [] r) _ (run_follows body t r st b)) st.left st b.holds b.inside)
      run_follows _ t e st b = absurd t

      all_follow : {n : _} (r : Row_of-Stmt n) → AreTypedStmts p r → FollowsAll (λ st. run_all p w bodies (main_activation p) r st) (λ es. after_all D r [] es) (λ es. found_all D r [] es)
      all_follow end_of-Stmt t es st u g h i = record { holds = h; inside = i }
      all_follow (more_of-Stmt s rest) t es st u g h i =
          let next = λ (e : D.Env). after D s [] e in
          let kept = after_keeps p w D L s [] t.0 in
          let x : Exits D.Env = record { ends = spread D next es; broken = broken_over D next es } in
          let fs = found_over es (λ e. found D s [] e) in
          let ft = found_all D rest [] (spread D next es) in
          let ends = spread_keeps p w D L next es kept u in
          chain x (run p w bodies (main_activation p) s st) (λ st. run_all p w bodies (main_activation p) rest st) (λ es. after_all D rest [] es) (λ es. found_all D rest [] es)
          (spread_follows (λ st. run p w bodies (main_activation p) s st) next (λ e. found D s [] e) (run_follows s t.0) kept es st u (has_left G fs ft g) h i)
          ends (broken_keeps p w D L next es kept u) (all_keep p w D L rest [] t.1 (spread D next es) ends).broken (has_right G fs ft g) (all_follow rest t.1)

  -- ---- the program
  ended_ok : (x : Exits D.Env) (r : Result) → ResultOk x r → RunOk (ended r)
  ended_ok x (Goes st) h = record { inside = h.inside; covered = tt }
  ended_ok x (Breaks st) h = record { inside = h.inside; covered = tt }
  ended_ok x (Over r) h = h

  pub program_follows : IsTyped p → Has G (found D (main_of p) [] D.initial) → (tape : List ℤ) (k : ℕ) → RunOk (execution p w tape k)
  unfolding execution
  program_follows t g tape k =
      ended_ok (after D (main_of p) [] D.initial) (run p w (bodies_of p w (length p.funcs)) (main_activation p) (main_of p) (start p tape k))
      (run_follows (bodies_of p w (length p.funcs)) (main_of p) t.body D.initial (start p tape k) (record { under = L.initial_keeps; has = g; holds = L.initial_sound; inside = tt }))

-- ---- the reference
module _ (p : Program) (w : Setting) (D : Domain) (L : Laws p w D) (t : IsTyped p) where
  pub reference_fair : AreFair p w D L (reference D p)
  unfolding reference
  reference_fair = found_fair p w D L (main_of p) [] t.body D.initial L.initial_keeps

  pub execution_ok : (tape : List ℤ) (k : ℕ) → RunOk p w D L (reference D p) reference_fair (execution p w tape k)
  unfolding reference
  execution_ok tape k = program_follows p w D L (reference D p) reference_fair t (record { alarms = λ a x. x; records = λ r x. x }) tape k
