-- Pieces of program against what statements do, from a state in its environment: the visits stand in the records, the error is
-- among the alarms, and the state after is in the environment after. What is said of a state may differ before and after.
use Rattle.std.proofs.Common.{ℕ, ℤ, Bool, List, [], ◌∷◌, ◌++◌, sym, subst, Option, Some, None, ◌⊎◌, inl, inr}
use Rattle.std.specs.Prelude.{nat_le, length}
use Rattle.std.specs.List.{AllByRecursion}
use Rattle.sa_base.specs.declared.alarm.Alarm.{Alarm}
use Rattle.sa_typed.specs.Evaluation.{Value, Gives, Stops, Store}
use Rattle.sa_typed.specs.Executions.{Loop, Visit, Run, State, Result, Goes, Breaks, Over, with_value, then_state}
use Rattle.sa_operators.specs.Alarms.{IsAmong}
use Rattle.sa_flat.specs.Domain.{Domain}
use Rattle.sa_flat.specs.Meanings.{Cells, either}
use Rattle.sa_flat.specs.Pieces.{Record, Found, Exits, Piece, Walk, Branch, only, both, found_in, found_over, list_of, exits_in, flat, merged, spread, broken_over, done, followed, block, branch_exits, apart, branches_broken, branches_found, branching}
use Rattle.sa_flat.specs.Reference.{record_at}
use Rattle.sa_flat.proofs.Lawful.{Lawful, anywhere, AliveAnd}
use Rattle.sa_flat.proofs.Goods.{if_keeps, Good, GoodIf, either_left, either_right, Stable}
use Rattle.sa_flat.proofs.Operands.{IsCovered, covered_more, among_left, among_right}
use Rattle.sa_flat.proofs.KeepLaws.{AllGood, AreFair, PieceKeeps, WalkKeeps, merged_good, spread_keeps, broken_keeps, branch_keeps, apart_good, branches_broken_good, StillBranches}

-- ---- what one walk found is in the whole
pub record Has {E : Type 0} (G f : Found E) : Type 0 where
  pub alarms : (a : Alarm) → IsAmong a f.alarms → IsAmong a G.alarms
  pub records : (r : Record E) → IsAmong r f.records → IsAmong r G.records

pub has_left : {E : Type 0} (G f g : Found E) → Has G (both f g) → Has G f
has_left G f g h = record {
  alarms = λ a m. h.alarms a (among_left a f.alarms g.alarms m);
  records = λ r m. h.records r (among_left r f.records g.records m);
}

pub has_right : {E : Type 0} (G f g : Found E) → Has G (both f g) → Has G g
has_right G f g h = record {
  alarms = λ a m. h.alarms a (among_right a f.alarms g.alarms m);
  records = λ r m. h.records r (among_right r f.records g.records m);
}

-- P holds of one of a list
abbrev pub AnyOf : {A : Type 0} → (A → Type 0) → List A → Type 0
AnyOf P [] = ⊥
AnyOf P (a ∷ as') = P a ⊎ AnyOf P as'

pub any_left : {A : Type 0} (P : A → Type 0) (xs ys : List A) → AnyOf P xs → AnyOf P (xs ++ ys)
any_left P [] ys h = absurd h
any_left P (x ∷ xs) ys (inl e) = inl e
any_left P (x ∷ xs) ys (inr m) = inr (any_left P xs ys m)

pub any_right : {A : Type 0} (P : A → Type 0) (xs ys : List A) → AnyOf P ys → AnyOf P (xs ++ ys)
any_right P [] ys h = h
any_right P (x ∷ xs) ys h = inr (any_right P xs ys h)

pub list_any : {A : Type 0} (P : A → Type 0) (o : Option A) → AliveAnd P o → AnyOf P (list_of o)
list_any P None h = absurd h
list_any P (Some a) h = inl h

-- what may be said of a store, the last result and the clock in an environment
abbrev pub Said : Domain → Type 1
Said D = Store → ℤ → ℤ → D.Env → Type 0

module _ (x : Cells) (D : Domain) (L : Lawful x D) (G : Found D.Env) (fair : AreFair x D L G) (Names : ℕ → Loop → Type 0) (V : Visit → D.Env → Type 0) where
  abbrev pub AlwaysStable : Said D → Type 0
  AlwaysStable P = (store : Store) (result clock : ℤ) → Stable x D L (P store result clock)

  -- a visited loop has a number, and what stands of it holds at the visit
  abbrev pub Inside : Visit → Type 0
  Inside v = (k : ℕ) × Names k v.loop × AliveAnd (λ r. V v r.state) (record_at D G.records k)

  abbrev pub AllInside : List Visit → Type 0
  AllInside vs = AllByRecursion Inside vs

  abbrev pub HoldsAt : Said D → State → D.Env → Type 0
  HoldsAt P st e = P st.store st.result st.clock e

  pub record RunOk (r : Run) : Type 0 where
    pub inside : AllInside r.visits
    pub covered : IsCovered G.alarms r.end

  -- a state in one of the environments at the end
  pub record EndsOk (P : Said D) (es : List D.Env) (st : State) : Type 0 where
    pub holds : AnyOf (HoldsAt P st) es
    pub inside : AllInside st.visits

  -- a state in an environment that may be dead
  pub record StateOk (P : Said D) (o : Option D.Env) (st : State) : Type 0 where
    pub holds : AliveAnd (HoldsAt P st) o
    pub inside : AllInside st.visits

  -- the result is in what leaves a piece, Q at its end and R at a break, or the run that is over is covered
  abbrev pub ResultOk : Said D → Said D → Exits D.Env → Result → Type 0
  ResultOk Q R r (Goes st) = EndsOk Q r.ends st
  ResultOk Q R r (Breaks st) = StateOk R r.broken st
  ResultOk Q R r (Over run) = RunOk run

  -- a state in e, from which what is found stands in the whole
  pub record Begins (P : Said D) (e : D.Env) (f : Found D.Env) (st : State) : Type 0 where
    pub good : Good x D L anywhere e
    pub has : Has G f
    pub holds : HoldsAt P st e
    pub inside : AllInside st.visits

  -- what a piece owes to what it means
  abbrev pub Follows : Said D → Said D → Said D → (State → Result) → Piece D.Env → Type 0
  Follows P Q R go s = (e : D.Env) (st : State) → Begins P e (s.found e) st → ResultOk Q R (s.after e) (go st)

  -- the same from a list of environments
  abbrev pub FollowsAll : Said D → Said D → Said D → (State → Result) → Walk D.Env → Type 0
  FollowsAll P Q R go s = (es : List D.Env) (st : State) → AllGood x D L anywhere es → Has G (s.found es) → AnyOf (HoldsAt P st) es → AllInside st.visits → ResultOk Q R (s.after es) (go st)

  -- ---- results
  pub more_states : (Q R : Said D) (r s : Exits D.Env) (res : Result) → ResultOk Q R r res → ((st : State) → AnyOf (HoldsAt Q st) r.ends → AnyOf (HoldsAt Q st) s.ends) →
      ((st : State) → AliveAnd (HoldsAt R st) r.broken → AliveAnd (HoldsAt R st) s.broken) → ResultOk Q R s res
  more_states Q R r s (Goes st) h k l = record { holds = k st h.holds; inside = h.inside }
  more_states Q R r s (Breaks st) h k l = record { holds = l st h.holds; inside = h.inside }
  more_states Q R r s (Over run) h k l = h

  pub on_ok : (P : Said D) (o : Option D.Env) (st : State) → AliveAnd (HoldsAt P st) o → AllInside st.visits → EndsOk P (list_of o) st
  on_ok P o st h i = record { holds = list_any (HoldsAt P st) o h; inside = i }

  pub either_left_at : (P : Said D) → AlwaysStable P → (a b : Option D.Env) (st : State) → GoodIf x D L anywhere a → GoodIf x D L anywhere b → AliveAnd (HoldsAt P st) a → AliveAnd (HoldsAt P st) (either D a b)
  either_left_at P s a b st u v h = either_left x D L (HoldsAt P st) (s st.store st.result st.clock) anywhere a b u v h

  pub either_right_at : (P : Said D) → AlwaysStable P → (a b : Option D.Env) (st : State) → GoodIf x D L anywhere a → GoodIf x D L anywhere b → AliveAnd (HoldsAt P st) b → AliveAnd (HoldsAt P st) (either D a b)
  either_right_at P s a b st u v h = either_right x D L (HoldsAt P st) (s st.store st.result st.clock) anywhere a b u v h

  pub merged_any : (P : Said D) → AlwaysStable P → (es : List D.Env) (st : State) → AllGood x D L anywhere es → AnyOf (HoldsAt P st) es → AliveAnd (HoldsAt P st) (merged D es)
  merged_any P s [] st u h = absurd h
  merged_any P s (e ∷ es) st u (inl h) = either_left_at P s (Some e) (merged D es) st u.0 (merged_good x D L anywhere es u.1) h
  merged_any P s (e ∷ es) st u (inr m) = either_right_at P s (Some e) (merged D es) st u.0 (merged_good x D L anywhere es u.1) (merged_any P s es st u.1 m)

  -- ---- values
  -- what a value leaves, and an error is among the alarms
  abbrev pub CoversAll : {A : Type 0} → (A → Type 0) → List Alarm → Value A → Type 0
  CoversAll P alarms (Gives a tape) = P a
  CoversAll P alarms (Stops e) = IsCovered alarms e

  pub valued : {A : Type 0} (Q R : Said D) (P : A → Type 0) (alarms : List Alarm) (v : Value A) (r : Exits D.Env) (st : State) (go : A → State → Result) → CoversAll P alarms v →
      ((a : Alarm) → IsAmong a alarms → IsAmong a G.alarms) → AllInside st.visits → ((a : A) (tape : List ℤ) → P a → ResultOk Q R r (go a (record st { tape = tape }))) → ResultOk Q R r (with_value st v go)
  valued Q R P alarms (Gives a tape) r st go c g i k = k a tape c
  valued Q R P alarms (Stops e) r st go c g i k = record { inside = i; covered = covered_more alarms G.alarms e g c }

  -- ---- blocks
  over_by : (P Q R : Said D) → AlwaysStable R → (go : State → Result) (s : Piece D.Env) (pick : D.Env → List D.Env) → Follows P Q R go s → PieceKeeps x D L anywhere s →
      ((e : D.Env) (st : State) → Good x D L anywhere e → AnyOf (HoldsAt Q st) (s.after e).ends → AnyOf (HoldsAt Q st) (pick e)) → (es : List D.Env) (st : State) → AllGood x D L anywhere es →
      Has G (found_over es s.found) → AnyOf (HoldsAt P st) es → AllInside st.visits → ResultOk Q R (record { ends = flat pick es; broken = broken_over D s.after es }) (go st)
  over_by P Q R sr go s pick k kept p [] st u g h i = absurd h
  over_by P Q R sr go s pick k kept p (e ∷ es) st u g (inl h) i =
      more_states Q R (s.after e) (record { ends = pick e ++ flat pick es; broken = either D (s.after e).broken (broken_over D s.after es) }) (go st)
      (k e st (record { good = u.0; has = has_left G (s.found e) (found_over es s.found) g; holds = h; inside = i }))
      (λ st x. any_left (HoldsAt Q st) (pick e) (flat pick es) (p e st u.0 x))
      (λ st y. either_left_at R sr (s.after e).broken (broken_over D s.after es) st (kept e u.0).broken (broken_keeps x D L anywhere s es kept u.1) y)
  over_by P Q R sr go s pick k kept p (e ∷ es) st u g (inr m) i =
      more_states Q R (record { ends = flat pick es; broken = broken_over D s.after es }) (record { ends = pick e ++ flat pick es; broken = either D (s.after e).broken (broken_over D s.after es) }) (go st)
      (over_by P Q R sr go s pick k kept p es st u.1 (has_right G (s.found e) (found_over es s.found) g) m i)
      (λ st x. any_right (HoldsAt Q st) (pick e) (flat pick es) x)
      (λ st y. either_right_at R sr (s.after e).broken (broken_over D s.after es) st (kept e u.0).broken (broken_keeps x D L anywhere s es kept u.1) y)

  spread_follows : (P Q R : Said D) → AlwaysStable Q → AlwaysStable R → (go : State → Result) (s : Piece D.Env) → Follows P Q R go s → PieceKeeps x D L anywhere s → (es : List D.Env) (st : State) →
      AllGood x D L anywhere es → Has G (found_over es s.found) → AnyOf (HoldsAt P st) es → AllInside st.visits → ResultOk Q R (record { ends = spread D s.after es; broken = broken_over D s.after es }) (go st)
  spread_follows P Q R sq sr go s k kept es st u g h i =
      if_keeps (λ (ends : List D.Env). ResultOk Q R (record { ends = ends; broken = broken_over D s.after es }) (go st)) (nat_le (length (flat (λ e. (s.after e).ends) es)) 16) _ _
      (over_by P Q R sr go s (λ e. (s.after e).ends) k kept (λ e st u y. y) es st u g h i)
      (over_by P Q R sr go s (λ e. list_of (merged D (s.after e).ends)) k kept
      (λ e st u y. list_any (HoldsAt Q st) (merged D (s.after e).ends) (merged_any Q sq (s.after e).ends st (kept e u).ends y)) es st u g h i)

  -- one after another
  chain : (M Q R : Said D) → AlwaysStable R → (r : Exits D.Env) (res : Result) (go : State → Result) (rest : Walk D.Env) → ResultOk M R r res → AllGood x D L anywhere r.ends → GoodIf x D L anywhere r.broken →
      GoodIf x D L anywhere (rest.after r.ends).broken → Has G (rest.found r.ends) → FollowsAll M Q R go rest →
      ResultOk Q R (record { ends = (rest.after r.ends).ends; broken = either D r.broken (rest.after r.ends).broken }) (then_state res go)
  chain M Q R sr r (Goes st) go rest h u b nb g k =
      more_states Q R (rest.after r.ends) (record { ends = (rest.after r.ends).ends; broken = either D r.broken (rest.after r.ends).broken }) (go st) (k r.ends st u g h.holds h.inside) (λ st y. y)
      (λ st y. either_right_at R sr r.broken (rest.after r.ends).broken st b nb y)
  chain M Q R sr r (Breaks st) go rest h u b nb g k = record { holds = either_left_at R sr r.broken (rest.after r.ends).broken st b nb h.holds; inside = h.inside }
  chain M Q R sr r (Over run) go rest h u b nb g k = h

  pub done_follow : (P R : Said D) → FollowsAll P P R (λ st. Goes st) (done D)
  done_follow P R es st u g h i = record { holds = h; inside = i }

  pub followed_follow : (P M Q R : Said D) → AlwaysStable M → AlwaysStable R → (first rest_go : State → Result) (s : Piece D.Env) (rest : Walk D.Env) → Follows P M R first s → PieceKeeps x D L anywhere s →
      FollowsAll M Q R rest_go rest → WalkKeeps x D L anywhere rest → FollowsAll P Q R (λ st. then_state (first st) rest_go) (followed D s rest)
  followed_follow P M Q R sm sr first rest_go s rest k kept l lk es st u g h i =
      let r : Exits D.Env = record { ends = spread D s.after es; broken = broken_over D s.after es } in
      let fs = found_over es s.found in
      let ft = rest.found (spread D s.after es) in
      let ends = spread_keeps x D L anywhere s es kept u in
      chain M Q R sr r (first st) rest_go rest (spread_follows P M R sm sr first s k kept es st u (has_left G fs ft g) h i) ends (broken_keeps x D L anywhere s es kept u)
      (lk (spread D s.after es) ends).broken (has_right G fs ft g) l

  pub block_follows : (P Q R : Said D) → AlwaysStable Q → (go : State → Result) (s : Walk D.Env) → FollowsAll P Q R go s → WalkKeeps x D L anywhere s → Follows P Q R go (block D s)
  block_follows P Q R sq go s k kept e st b =
      let u : AllGood x D L anywhere (e ∷ []) = (b.good, tt) in
      let r = kept (e ∷ []) u in
      more_states Q R (s.after (e ∷ [])) (record { ends = list_of (merged D (s.after (e ∷ [])).ends); broken = (s.after (e ∷ [])).broken }) (go st)
      (k (e ∷ []) st u b.has (inl b.holds) b.inside)
      (λ st y. list_any (HoldsAt Q st) (merged D (s.after (e ∷ [])).ends) (merged_any Q sq (s.after (e ∷ [])).ends st r.ends y)) (λ st y. y)

  -- ---- branches
  enter : (P Q R : Said D) (o : Option D.Env) (st : State) (go : State → Result) (s : Piece D.Env) → GoodIf x D L anywhere o → AliveAnd (HoldsAt P st) o → AllInside st.visits →
      Has G (found_in o s.found) → Follows P Q R go s → ResultOk Q R (exits_in o s.after) (go st)
  enter P Q R None st go s u h i g k = absurd h
  enter P Q R (Some e) st go s u h i g k = k e st (record { good = u; has = g; holds = h; inside = i })

  -- the ends and breaks of one branch are among those of all
  in_apart : (P : Said D) → AlwaysStable P → (b : Branch D.Env) (bs : List (Branch D.Env)) (e : D.Env) (st : State) → IsAmong b bs → StillBranches x D L bs → Good x D L anywhere e →
      AnyOf (HoldsAt P st) (branch_exits D b e).ends → AnyOf (HoldsAt P st) (apart D bs e)
  in_apart P s b [] e st m h g y = absurd m
  in_apart P s b (c ∷ bs) e st (inl q) h g y =
      any_left (HoldsAt P st) (list_of (merged D (branch_exits D c e).ends)) (apart D bs e)
      (list_any (HoldsAt P st) (merged D (branch_exits D c e).ends)
      (merged_any P s (branch_exits D c e).ends st (branch_keeps x D L anywhere c e h.0 g).ends (subst (λ (b : Branch D.Env). AnyOf (HoldsAt P st) (branch_exits D b e).ends) q y)))
  in_apart P s b (c ∷ bs) e st (inr m) h g y = any_right (HoldsAt P st) (list_of (merged D (branch_exits D c e).ends)) (apart D bs e) (in_apart P s b bs e st m h.1 g y)

  in_broken : (P : Said D) → AlwaysStable P → (b : Branch D.Env) (bs : List (Branch D.Env)) (e : D.Env) (st : State) → IsAmong b bs → StillBranches x D L bs → Good x D L anywhere e →
      AliveAnd (HoldsAt P st) (branch_exits D b e).broken → AliveAnd (HoldsAt P st) (branches_broken D bs e)
  in_broken P s b [] e st m h g y = absurd m
  in_broken P s b (c ∷ bs) e st (inl q) h g y =
      either_left_at P s (branch_exits D c e).broken (branches_broken D bs e) st (branch_keeps x D L anywhere c e h.0 g).broken (branches_broken_good x D L anywhere bs e h.1 g)
      (subst (λ (b : Branch D.Env). AliveAnd (HoldsAt P st) (branch_exits D b e).broken) q y)
  in_broken P s b (c ∷ bs) e st (inr m) h g y =
      either_right_at P s (branch_exits D c e).broken (branches_broken D bs e) st (branch_keeps x D L anywhere c e h.0 g).broken (branches_broken_good x D L anywhere bs e h.1 g) (in_broken P s b bs e st m h.1 g y)

  in_found : (b : Branch D.Env) (bs : List (Branch D.Env)) (e : D.Env) → IsAmong b bs → Has G (branches_found D bs e) → Has G (found_in (b.start e) b.body.found)
  in_found b [] e m g = absurd m
  in_found b (c ∷ bs) e (inl q) g =
      subst (λ (b : Branch D.Env). Has G (found_in (b.start e) b.body.found)) (sym q) (has_left G (found_in (c.start e) c.body.found) (branches_found D bs e) g)
  in_found b (c ∷ bs) e (inr m) g = in_found b bs e m (has_right G (found_in (c.start e) c.body.found) (branches_found D bs e) g)

  -- a state that goes into one of the branches
  pub branch_follows : (P Q R : Said D) → AlwaysStable Q → AlwaysStable R → (alarms : D.Env → List Alarm) (marked : Bool) (bs : List (Branch D.Env)) (b : Branch D.Env) (e : D.Env) (st : State) (go : State → Result) →
      StillBranches x D L bs → IsAmong b bs → Good x D L anywhere e → Has G (both (only (alarms e)) (branches_found D bs e)) → AliveAnd (HoldsAt P st) (b.start e) → GoodIf x D L anywhere (b.start e) →
      AllInside st.visits → Follows P Q R go b.body → ResultOk Q R ((branching D alarms marked bs).after e) (go st)
  branch_follows P Q R sq sr alarms marked bs b e st go h m g has at bg i k =
      let inner = enter P Q R (b.start e) st go b.body bg at i (in_found b bs e m (has_right G (only (alarms e)) (branches_found D bs e) has)) k in
      more_states Q R (branch_exits D b e) ((branching D alarms marked bs).after e) (go st) inner
      (λ st y. let all = in_apart Q sq b bs e st m h g y in
      if_keeps (λ (es : List D.Env). AnyOf (HoldsAt Q st) es) marked (apart D bs e) (list_of (merged D (apart D bs e))) all
      (list_any (HoldsAt Q st) (merged D (apart D bs e)) (merged_any Q sq (apart D bs e) st (apart_good x D L anywhere bs e h g) all)))
      (λ st y. in_broken R sr b bs e st m h g y)
