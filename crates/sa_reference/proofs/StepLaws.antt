-- Statements keep what the operations keep, and each record is short and under the top.
use Rattle.std.proofs.lemmas.Bool.Decides.{nat_tests}
use Rattle.std.proofs.Common.{◌≡◌, ◌≤◌, ℤ, Bool, true, false, List, [], ◌∷◌, ◌++◌, refl, sym, subst, ap₂, arith, Option, Some, None, inl, inr}
use Rattle.std.specs.Prelude.{if◌then◌else◌, ◌==◌, nat_le, length}
use Rattle.std.specs.List.{AllByRecursion}
use Rattle.sa_base.specs.declared.pos.Pos.{Pos}
use Rattle.sa_typed.specs.declared.stmt.LoopKind.TheVariants as kind
use Rattle.sa_typed.specs.declared.stmt.Stmt.{Stmt, Row_of-Stmt, end_of-Stmt, more_of-Stmt}
use Rattle.sa_typed.specs.declared.program.Program.{Program}
use Rattle.sa_typed.specs.Evaluation.{Store, Setting}
use Rattle.sa_typed.specs.Executions.{Loop, same_path, same_pos}
use Rattle.sa_typed.specs.WellTyped.{IsTypedStmt, AreTypedStmts}
use Rattle.sa_reference.specs.Domain.{Domain}
use Rattle.sa_reference.specs.Steps.{Record, Found, Exits, both, recorded, found_in, found_over, list_of, flat, goes_on, either, merged, spread, broken_over, clock_turn_of, clock_facts, after, after_all, found, found_all}
use Rattle.sa_reference.specs.Reference.{record_at, with_record, same_loop}
use Rattle.sa_reference.specs.Passes.{Facts}
use Rattle.sa_reference.specs.Sound.{IsAmong, AliveAnd}
use Rattle.sa_reference.proofs.Laws.{Laws, IfAlive}
use Rattle.sa_reference.proofs.PassLaws.{if_keeps, Keeps, Ends, facts_keep, facts_end}

-- ---- lists
pub all_append : {A : Type 0} (P : A → Type 0) (xs ys : List A) → AllByRecursion P xs → AllByRecursion P ys → AllByRecursion P (xs ++ ys)
all_append P [] ys h k = k
all_append P (x ∷ xs) ys h k = (h.0, all_append P xs ys h.1 k)

pub among_left : {A : Type 0} (a : A) (xs ys : List A) → IsAmong a xs → IsAmong a (xs ++ ys)
among_left a [] ys h = absurd h
among_left a (x ∷ xs) ys (inl e) = inl e
among_left a (x ∷ xs) ys (inr m) = inr (among_left a xs ys m)

pub among_right : {A : Type 0} (a : A) (xs ys : List A) → IsAmong a ys → IsAmong a (xs ++ ys)
among_right a [] ys h = h
among_right a (x ∷ xs) ys h = inr (among_right a xs ys h)

pub found_all_in : {E : Type 0} (P : Record E → Type 0) (Q : E → Type 0) (o : Option E) (go : E → Found E) → IfAlive Q o → ((e : E) → Q e → AllByRecursion P (go e).records) →
    AllByRecursion P (found_in o go).records
found_all_in P Q None go h k = tt
found_all_in P Q (Some e) go h k = k e h

found_over_all : {E : Type 0} (P : Record E → Type 0) (Q : E → Type 0) (es : List E) (go : E → Found E) → AllByRecursion Q es → ((e : E) → Q e → AllByRecursion P (go e).records) →
    AllByRecursion P (found_over es go).records
found_over_all P Q [] go h k = tt
found_over_all P Q (e ∷ es) go h k = all_append P (go e).records (found_over es go).records (k e h.0) (found_over_all P Q es go h.1 k)

flat_all : {A B : Type 0} (P : A → Type 0) (Q : B → Type 0) (f : A → List B) (xs : List A) → AllByRecursion P xs → ((a : A) → P a → AllByRecursion Q (f a)) → AllByRecursion Q (flat f xs)
flat_all P Q f [] h k = tt
flat_all P Q f (x ∷ xs) h k = all_append Q (f x) (flat f xs) (k x h.0) (flat_all P Q f xs h.1 k)

list_all : {A : Type 0} (P : A → Type 0) (o : Option A) → IfAlive P o → AllByRecursion P (list_of o)
list_all P None h = tt
list_all P (Some a) h = (h, tt)

same_pos_self : (p : Pos) → same_pos p p ≡ true
same_pos_self p =
    let line : (p.line == p.line) ≡ true = grind (arith, nat_tests) in
    let col : (p.col == p.col) ≡ true = grind (arith, nat_tests) in
    rw (line, col) refl

same_path_self : (ps : List Pos) → same_path ps ps ≡ true
same_path_self [] = refl
same_path_self (p ∷ ps) = rw (same_pos_self p, same_path_self ps) refl

pub same_loop_self : (l : Loop) → same_loop l l ≡ true
same_loop_self l = rw (same_pos_self l.place, same_path_self l.path) refl

-- ---- nothing leaves by a break yet
module _ (D : Domain) where
  none_broken : (go : D.Env → Exits D.Env) → ((e : D.Env) → (go e).broken ≡ None) → (es : List D.Env) → broken_over D go es ≡ None
  none_broken go h [] = refl
  none_broken go h (e ∷ es) = ap₂ (either D) (h e) (none_broken go h es)

  mutual
    unfolding after

    pub unbroken : (s : Stmt) (path : List Pos) (e : D.Env) → (after D s path e).broken ≡ None
    unbroken (Stmt.Block' n all) path e = all_unbroken all path (e ∷ [])
    unbroken (Stmt.Loop' q kind.Clock None n (more_of-Stmt body end_of-Stmt) None) path e = refl
    unbroken _ path e = refl

    all_unbroken : {n : _} (r : Row_of-Stmt n) (path : List Pos) (es : List D.Env) → (after_all D r path es).broken ≡ None
    all_unbroken end_of-Stmt path es = refl
    all_unbroken (more_of-Stmt s rest) path es =
        ap₂ (either D) (none_broken (λ e. after D s path e) (λ e. unbroken s path e) es) (all_unbroken rest path (spread D (λ e. after D s path e) es))

module _ (p : Program) (w : Setting) (D : Domain) (L : Laws p w D) where
  abbrev pub AllUnder : List D.Env → Type 0
  AllUnder es = AllByRecursion L.Under es

  pub record ExitsKeep (x : Exits D.Env) : Type 0 where
    pub ends : AllUnder x.ends
    pub broken : IfAlive L.Under x.broken

  -- what a piece of program owes
  abbrev pub PieceKeeps : (D.Env → Exits D.Env) → Type 0
  PieceKeeps go = (e : D.Env) → L.Under e → ExitsKeep (go e)

  either_keeps : (a b : Option D.Env) → IfAlive L.Under a → IfAlive L.Under b → IfAlive L.Under (either D a b)
  either_keeps None b h k = k
  either_keeps (Some a) None h k = h
  either_keeps (Some a) (Some b) h k = L.merge_keeps a b h k

  pub merged_keeps : (es : List D.Env) → AllUnder es → IfAlive L.Under (merged D es)
  merged_keeps [] h = tt
  merged_keeps (e ∷ es) h = either_keeps (Some e) (merged D es) h.0 (merged_keeps es h.1)

  pub spread_keeps : (go : D.Env → Exits D.Env) (es : List D.Env) → PieceKeeps go → AllUnder es → AllUnder (spread D go es)
  spread_keeps go es k h =
      if_keeps AllUnder (nat_le (length (flat (λ e. (go e).ends) es)) 16) _ _ (flat_all L.Under L.Under (λ e. (go e).ends) es h (λ e u. (k e u).ends))
      (flat_all L.Under L.Under (λ e. list_of (merged D (go e).ends)) es h (λ e u. list_all L.Under (merged D (go e).ends) (merged_keeps (go e).ends (k e u).ends)))

  pub broken_keeps : (go : D.Env → Exits D.Env) (es : List D.Env) → PieceKeeps go → AllUnder es → IfAlive L.Under (broken_over D go es)
  broken_keeps go [] k h = tt
  broken_keeps go (e ∷ es) k h = either_keeps (go e).broken (broken_over D go es) (k e h.0).broken (broken_keeps go es k h.1)

  on_keeps : (o : Option D.Env) → IfAlive L.Under o → ExitsKeep (goes_on o)
  on_keeps o h = record { ends = list_all L.Under o h; broken = tt }

  mutual
    unfolding after IsTypedStmt

    pub after_keeps : (s : Stmt) (path : List Pos) → IsTypedStmt p s → PieceKeeps (λ e. after D s path e)
    after_keeps (Stmt.Simple s) path t e u = on_keeps (D.simple s e) (L.simple_keeps s e t u)
    after_keeps (Stmt.Block' n all) path t e u =
        let x = all_keep all path t (e ∷ []) (u, tt) in
        record { ends = list_all L.Under _ (merged_keeps _ x.ends); broken = x.broken }
    after_keeps Stmt.Wait path t e u = on_keeps (D.tick e) (L.tick_keeps e u)
    after_keeps (Stmt.Loop' q kind.Clock None n (more_of-Stmt body end_of-Stmt) None) path t e u = record { ends = tt; broken = tt }
    after_keeps _ path t e u = on_keeps (Some e) u

    pub all_keep : {n : _} (r : Row_of-Stmt n) (path : List Pos) → AreTypedStmts p r → (es : List D.Env) → AllUnder es → ExitsKeep (after_all D r path es)
    all_keep end_of-Stmt path t es h = record { ends = h; broken = tt }
    all_keep (more_of-Stmt s rest) path t es h =
        let k = after_keeps s path t.0 in
        let x = all_keep rest path t.1 (spread D (λ e. after D s path e) es) (spread_keeps (λ e. after D s path e) es k h) in
        record { ends = x.ends; broken = either_keeps _ _ (broken_keeps (λ e. after D s path e) es k h) x.broken }

  -- the body of the clock loop
  abbrev pub turn_of : Stmt → List Pos → D.Env → Option D.Env
  turn_of body path e = clock_turn_of D (λ e. after D body path e) e

  abbrev pub facts_in : Stmt → List Pos → D.Env → Facts D.Env
  facts_in body path s = clock_facts D (λ e. after D body path e) s

  pub turn_keeps : (body : Stmt) (path : List Pos) → IsTypedStmt p body → Keeps p w D L (turn_of body path)
  turn_keeps body path t e u = merged_keeps (after D body path e).ends (after_keeps body path t e u).ends

  pub clock_ends : (body : Stmt) (path : List Pos) → IsTypedStmt p body → (s : D.Env) → L.Under s → Ends p w D L (turn_of body path) s (facts_in body path s)
  clock_ends body path t s u = facts_end p w D L (turn_of body path) D.top s (turn_keeps body path t) L.top_keeps u L.below_top

  pub clock_keeps : (body : Stmt) (path : List Pos) → IsTypedStmt p body → (s : D.Env) → L.Under s → IfAlive L.Under (facts_in body path s).state
  clock_keeps body path t s u = facts_keep p w D L (turn_of body path) D.top s (turn_keeps body path t) L.top_keeps u

  -- a record of few passes, under the top
  pub record Fair (r : Record D.Env) : Type 0 where
    pub short : r.passes ≤ 32
    pub under : L.Under r.state

  abbrev pub AreFair : Found D.Env → Type 0
  AreFair f = AllByRecursion Fair f.records

  mutual
    unfolding found IsTypedStmt

    pub found_fair : (s : Stmt) (path : List Pos) → IsTypedStmt p s → (e : D.Env) → L.Under e → AreFair (found D s path e)
    found_fair (Stmt.Simple s) path t e u = tt
    found_fair (Stmt.Block' n all) path t e u = all_fair all path t (e ∷ []) (u, tt)
    found_fair (Stmt.Loop' q kind.Clock None n (more_of-Stmt body end_of-Stmt) None) path t e u =
        found_all_in Fair L.Under (facts_in body path e).state (λ r. both (recorded (record { path = path; place = q }) (facts_in body path e).passes r) (found D body path r))
        (clock_keeps body path t e u) (λ r v. (record { short = (clock_ends body path t e u).short; under = v }, found_fair body path t r v))
    found_fair _ path t e u = tt

    pub all_fair : {n : _} (r : Row_of-Stmt n) (path : List Pos) → AreTypedStmts p r → (es : List D.Env) → AllUnder es → AreFair (found_all D r path es)
    all_fair end_of-Stmt path t es h = tt
    all_fair (more_of-Stmt s rest) path t es h =
        all_append Fair (found_over es (λ e. found D s path e)).records (found_all D rest path (spread D (λ e. after D s path e) es)).records
        (found_over_all Fair L.Under es (λ e. found D s path e) h (found_fair s path t.0))
        (all_fair rest path t.1 (spread D (λ e. after D s path e) es) (spread_keeps (λ e. after D s path e) es (after_keeps s path t.0) h))

  -- ---- the records of one loop
  abbrev WithFair : Option (Record D.Env) → Type 0
  WithFair o = IfAlive (λ r. L.Under r.state) o

  with_fair : (r : Record D.Env) (o : Option (Record D.Env)) → L.Under r.state → WithFair o → WithFair (with_record D r o)
  with_fair r None h k = h
  with_fair r (Some q) h k = L.merge_keeps r.state q.state h k

  at_fair : (rs : List (Record D.Env)) (loop : Loop) → AllByRecursion Fair rs → WithFair (record_at D rs loop)
  at_fair [] loop h = tt
  at_fair (r ∷ rs) loop h =
      elim (same_loop r.loop loop) as (λ b. WithFair (if b then with_record D r (record_at D rs loop) else record_at D rs loop)) [
        | true ↦ with_fair r _ h.0.under (at_fair rs loop h.1)
        | false ↦ at_fair rs loop h.1
      ]

  -- the record of a loop holds where it is recorded
  abbrev pub Stands : Store → ℤ → Option (Record D.Env) → Type 0
  Stands store time o = AliveAnd (λ r. D.Holds r.state store time) o

  with_left : (r : Record D.Env) (o : Option (Record D.Env)) (store : Store) (time : ℤ) → L.Under r.state → WithFair o → D.Holds r.state store time → Stands store time (with_record D r o)
  with_left r None store time h k x = x
  with_left r (Some q) store time h k x = L.merge_left r.state q.state store time h k x

  with_right : (r : Record D.Env) (o : Option (Record D.Env)) (store : Store) (time : ℤ) → L.Under r.state → WithFair o → Stands store time o → Stands store time (with_record D r o)
  with_right r None store time h k x = absurd x
  with_right r (Some q) store time h k x = L.merge_right r.state q.state store time h k x

  pub record_stands : (rs : List (Record D.Env)) (r : Record D.Env) (store : Store) (time : ℤ) → AllByRecursion Fair rs → IsAmong r rs → D.Holds r.state store time →
      Stands store time (record_at D rs r.loop)
  record_stands [] r store time h m x = absurd m
  record_stands (q ∷ rs) r store time h (inl e) x =
      subst (λ (q : Record D.Env). Fair q → Stands store time (if same_loop q.loop r.loop then with_record D q (record_at D rs r.loop) else record_at D rs r.loop)) e
      (λ fair. subst (λ (b : Bool). Stands store time (if b then with_record D r (record_at D rs r.loop) else record_at D rs r.loop)) (sym (same_loop_self r.loop))
      (with_left r _ store time fair.under (at_fair rs r.loop h.1) x)) h.0
  record_stands (q ∷ rs) r store time h (inr m) x =
      elim (same_loop q.loop r.loop) as (λ b. Stands store time (if b then with_record D q (record_at D rs r.loop) else record_at D rs r.loop)) [
        | true ↦ with_right q _ store time h.0.under (at_fair rs r.loop h.1) (record_stands rs r store time h.1 m x)
        | false ↦ record_stands rs r store time h.1 m x
      ]
