-- Qualifiers.
use Rattle.std.proofs.Common.{◌≡◌, Bool, true, false, List, [], ◌∷◌, refl, subst}
use Rattle.sa_base.specs.declared.pos.Pos.{Pos}
use Rattle.sa_syntax.specs.declared.decl.Qualified.{Qualified}
use Rattle.sa_syntax.specs.declared.decl.Qualifier.{Qualifier}
use Rattle.sa_syntax.specs.declared.decl.Qualifier.TheVariants.{Const, Volatile, Static}
use Rattle.sa_scopes.specs.declared.typer.Typer.{Typer}
use Rattle.sa_scopes.specs.Types.{qualifier, qualifiers, is_misplaced}
use Rattle.sa_scopes.specs.Typing.{each, refuse_if, fault}
use Rattle.sa_rules.specs.Events.{is_volatile, is_no_const, misplaced, misplaced_if}
use Rattle.sa_rules.specs.Sight.{Sight, see}
use Rattle.sa_rules.proofs.Walks.{Reads, quiet_gives, quiet, bind, refused_noted}
use Rattle.sa_rules.proofs.Steps.{one, refused_one}

module _ (X : Sight → Type 0) where
  qualifier_by : (b : Bool) (p : Pos) (s : Typer) → Reads X s (misplaced_if b p) (λ (u : Unit {0}). X) (refuse_if b 21 p s)
  unfolding see
  qualifier_by true p s = one (λ m h x. refused_one 21 p m (fault 21 p ∷ []) refl refl h (refused_noted 21 p s) x)
  qualifier_by false p s = quiet quiet_gives

  all_reads : (volatile static : Bool) (wrong : Qualifier → Bool) → ((w : Qualifier) → is_misplaced volatile static w ≡ wrong w) → (qs : List Qualified) (u : Unit {0}) (s : Typer) →
      Reads X s (misplaced wrong qs) (λ (u : Unit {0}). X) (each (qualifier volatile static) qs u s)
  unfolding misplaced each
  all_reads volatile static wrong same [] u s = quiet quiet_gives
  all_reads volatile static wrong same (q ∷ qs) u s =
      bind (subst (λ (b : Bool). Reads X s (misplaced_if b q.pos) (λ (u : Unit {0}). X) (refuse_if (is_misplaced volatile static q.word) 21 q.pos s)) (same q.word)
      (qualifier_by (is_misplaced volatile static q.word) q.pos s)) (λ v t. all_reads volatile static wrong same qs v t)

  volatile_wrong : (w : Qualifier) → is_misplaced false true w ≡ is_volatile w
  volatile_wrong Const = refl
  volatile_wrong Volatile = refl
  volatile_wrong Static = refl

  no_const_wrong : (w : Qualifier) → is_misplaced false false w ≡ is_no_const w
  no_const_wrong Const = refl
  no_const_wrong Volatile = refl
  no_const_wrong Static = refl

  pub plain_qualifiers : (qs : List Qualified) (s : Typer) → Reads X s (misplaced is_volatile qs) (λ (u : Unit {0}). X) (qualifiers false true qs s)
  unfolding qualifiers
  plain_qualifiers qs s = all_reads false true is_volatile volatile_wrong qs tt s

  pub field_qualifiers : (qs : List Qualified) (s : Typer) → Reads X s (misplaced is_no_const qs) (λ (u : Unit {0}). X) (qualifiers false false qs s)
  unfolding qualifiers
  field_qualifiers qs s = all_reads false false is_no_const no_const_wrong qs tt s
