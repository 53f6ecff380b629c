-- A change after which what goes on depends on a value that no state keeps: the index that an argument by reference has.
use Rattle.std.proofs.Common.{◌≡◌, ℕ, ℤ, List, [], ◌∷◌, refl, subst, Option, None, Some, inl, inr}
use Rattle.sa_typed.specs.Evaluation.{End, Store, Value, Gives, Stops}
use Rattle.sa_typed.specs.Executions.{Loop, Visit, State, Result, Goes, Breaks, Over, over, with_value, then_state}
use Rattle.sa_flat.specs.Domain.{Domain}
use Rattle.sa_flat.specs.Meanings.{Cells}
use Rattle.sa_flat.specs.Assignments.{Change}
use Rattle.sa_flat.specs.Pieces.{Found, Walk, changed, followed}
use Rattle.sa_flat.proofs.Lawful.{Lawful, anywhere, AliveAnd}
use Rattle.sa_flat.proofs.Goods.{Good, Stable}
use Rattle.sa_flat.proofs.Operands.{IsCovered, covered_more}
use Rattle.sa_flat.proofs.KeepLaws.{AllGood, AreFair, ChangeKeeps, WalkKeeps, changed_still}
use Rattle.sa_flat.proofs.FollowLaws.{AnyOf, Said, AlwaysStable, HoldsAt, CoversAll, ResultOk, Follows, FollowsAll, on_ok, followed_follow}
use Rattle.sa_flat.proofs.BodyLaws.{any_said}

module _ (x : Cells) (D : Domain) (L : Lawful x D) (G : Found D.Env) (fair : AreFair x D L G) (Names : ℕ → Loop → Type 0) (V : Visit → D.Env → Type 0) where
  any_with : (P Q : D.Env → Type 0) (es : List D.Env) → AllGood x D L anywhere es → ((e : D.Env) → Good x D L anywhere e → P e → Q e) → AnyOf P es → AnyOf Q es
  any_with P Q [] u k h = absurd h
  any_with P Q (e ∷ es) u k (inl h) = inl (k e u.0 h)
  any_with P Q (e ∷ es) u k (inr h) = inr (any_with P Q es u.1 k h)

  -- nothing is so
  Never : Said D
  Never store result clock e = ⊥

  never_stable : AlwaysStable x D L G fair Names V Never
  unfolding Never
  never_stable store result clock = record { left = λ f a b u v h. h; right = λ f a b u v h. h; below = λ f a b u v le h. h; reduced = λ f a u h. absurd h }

  any_never : {A : Type 0} (st : State) (es : List D.Env) → AnyOf (λ e. Never st.store st.result st.clock e) es → A
  unfolding Never
  any_never st [] h = absurd h
  any_never st (e ∷ es) (inl h) = absurd h
  any_never st (e ∷ es) (inr h) = any_never st es h

  pub value_then : {A : Type 0} (P0 Q R : Said D) (P : A → Said D) (v : State → Value A) (go : A → State → Result) (c : Change D.Env) (rest : Walk D.Env) → ((a : A) → AlwaysStable x D L G fair Names V (P a)) →
      AlwaysStable x D L G fair Names V R → ChangeKeeps x D L c →
      ((e : D.Env) (st : State) → Good x D L anywhere e → P0 st.store st.result st.clock e → CoversAll x D L G fair Names V (λ a. AliveAnd (P a st.store st.result st.clock) (c.after e)) (c.alarms e) (v st)) →
      ((a : A) → FollowsAll x D L G fair Names V (P a) Q R (go a) rest) → WalkKeeps x D L anywhere rest → FollowsAll x D L G fair Names V P0 Q R (λ st. with_value st (v st) go) (followed D (changed c) rest)
  value_then {A = A} P0 Q R P v go c rest stable sr keeps covers follow kept es st u g h i = from (v st) refl
    where
      covered : (r : Value A) → v st ≡ r → (e : D.Env) → Good x D L anywhere e → P0 st.store st.result st.clock e → CoversAll x D L G fair Names V (λ a. AliveAnd (P a st.store st.result st.clock) (c.after e)) (c.alarms e) r
      covered r eq e w s = subst (λ (r : Value A). CoversAll x D L G fair Names V (λ a. AliveAnd (P a st.store st.result st.clock) (c.after e)) (c.alarms e) r) eq (covers e st w s)

      from : (r : Value A) → v st ≡ r → ResultOk x D L G fair Names V Q R ((followed D (changed c) rest).after es) (with_value st r go)
      from (Gives a tape) eq =
          followed_follow x D L G fair Names V (λ store result clock e. AliveAnd (P a store result clock) (c.after e)) (P a) Q R (stable a) sr (λ t. Goes (record t { tape = tape })) (go a) (changed c) rest
          (λ e t b. on_ok x D L G fair Names V (P a) (c.after e) (record t { tape = tape }) b.holds b.inside)
          ((changed_still x D L c keeps).keeps anywhere) (follow a) kept es st u g
          (any_with (λ e. P0 st.store st.result st.clock e) (λ e. AliveAnd (P a st.store st.result st.clock) (c.after e)) es u (λ e w s. covered (Gives a tape) eq e w s) h) i
      from (Stops end) eq =
          followed_follow x D L G fair Names V (λ store result clock e. IsCovered (c.alarms e) end) Never Q R never_stable sr (λ t. over t end) (λ t. Goes t) (changed c) rest
          (λ e t b. record { inside = b.inside; covered = covered_more (c.alarms e) G.alarms end b.has.alarms b.holds })
          ((changed_still x D L c keeps).keeps anywhere) (λ es t u g h i. any_never t es h) kept es st u g
          (any_with (λ e. P0 st.store st.result st.clock e) (λ e. IsCovered (c.alarms e) end) es u (λ e w s. covered (Stops end) eq e w s) h) i
