-- Branches against the statements that choose them.
use Rattle.std.proofs.Common.{◌≡◌, ℕ, ℤ, Bool, true, false, not, List, [], ◌∷◌, refl, inl, inr}
use Rattle.std.specs.Prelude.{if◌then◌else◌}
use Rattle.sa_base.specs.declared.num.Num.{Num}
use Rattle.sa_typed.specs.Evaluation.{Value, is_zero}
use Rattle.sa_typed.specs.Executions.{Loop, Visit, State, Result, with_value}
use Rattle.sa_flat.specs.Domain.{Domain}
use Rattle.sa_flat.specs.Meanings.{Meaning, Cells}
use Rattle.sa_flat.specs.Pieces.{Found, Piece, only, branches_found, decision}
use Rattle.sa_flat.proofs.Lawful.{Lawful, anywhere, AliveAnd}
use Rattle.sa_flat.proofs.MeaningLaws.{Fit}
use Rattle.sa_flat.proofs.KeepLaws.{AreFair, Still, StillBranches}
use Rattle.sa_flat.proofs.FollowLaws.{has_left, Said, AlwaysStable, HoldsAt, ResultOk, Follows, valued, branch_follows}
use Rattle.sa_flat.proofs.LoopLaws.{Decides, guard_is}

module _ (x : Cells) (D : Domain) (L : Lawful x D) (G : Found D.Env) (fair : AreFair x D L G) (Names : ℕ → Loop → Type 0) (V : Visit → D.Env → Type 0) where
  pub decision_follows : (num : Num) (P Q R : Said D) → AlwaysStable x D L G fair Names V Q → AlwaysStable x D L G fair Names V R → (v : State → Value ℤ) (c : Meaning D.Env) (yes_go no_go : State → Result) (a b : Piece D.Env) (marked : Bool) →
      Decides x D L G fair Names V P v c → Fit x D L num c → Still x D L a → Still x D L b → Follows x D L G fair Names V P Q R yes_go a → Follows x D L G fair Names V P Q R no_go b →
      Follows x D L G fair Names V P Q R (λ st. with_value st (v st) (λ z st. if is_zero z then no_go st else yes_go st)) (decision D c a b marked)
  decision_follows num P Q R sq sr v c yes_go no_go a b marked d fit sa sb ka kb e st begins =
      valued x D L G fair Names V Q R (λ z. AliveAnd (HoldsAt x D L G fair Names V P st) (c.guard (not (is_zero z)) e)) (c.alarms e) (v st) ((decision D c a b marked).after e) st (λ z st. if is_zero z then no_go st else yes_go st)
      (d e st begins.good begins.holds) (has_left G (only (c.alarms e)) (branches_found D (record { start = c.guard true; body = a } ∷ record { start = c.guard false; body = b } ∷ []) e) begins.has).alarms begins.inside (λ z tape j. way z tape j (is_zero z) refl)
    where
      still : StillBranches x D L (record { start = c.guard true; body = a } ∷ record { start = c.guard false; body = b } ∷ [])
      still = (record { start = λ f e g. fit.guard f true e g; body = sa }, (record { start = λ f e g. fit.guard f false e g; body = sb }, tt))

      way : (z : ℤ) (tape : List ℤ) → AliveAnd (HoldsAt x D L G fair Names V P st) (c.guard (not (is_zero z)) e) → (q : Bool) → is_zero z ≡ q →
          ResultOk x D L G fair Names V Q R ((decision D c a b marked).after e) (if q then no_go (record st { tape = tape }) else yes_go (record st { tape = tape }))
      way z tape j true q =
          branch_follows x D L G fair Names V P Q R sq sr c.alarms marked (record { start = c.guard true; body = a } ∷ record { start = c.guard false; body = b } ∷ []) (record { start = c.guard false; body = b }) e (record st { tape = tape }) no_go
          still (inr (inl refl)) begins.good begins.has (guard_is x D L G fair Names V P c e st z true q j) (fit.guard anywhere false e begins.good) begins.inside kb
      way z tape j false q =
          branch_follows x D L G fair Names V P Q R sq sr c.alarms marked (record { start = c.guard true; body = a } ∷ record { start = c.guard false; body = b } ∷ []) (record { start = c.guard true; body = a }) e (record st { tape = tape }) yes_go
          still (inl refl) begins.good begins.has (guard_is x D L G fair Names V P c e st z false q j) (fit.guard anywhere true e begins.good) begins.inside ka
