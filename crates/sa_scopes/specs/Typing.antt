-- Typing as a walk that carries what it has seen. It never stops: each rule that a part of the tree breaks is noted, and all
-- refusals are kept. Which of them is told is said of the whole list, so the order of the walk doesn't matter.
use Rattle.std.specs.Prelude.{ℕ, List, [], ◌∷◌, ◌++◌, ◌≡◌, Result, Ok, Err, Bool, true, false}
use Rattle.sa_base.specs.declared.pos.Pos.{Pos}
use Rattle.std.specs.declared.alloc.AllocError.{AllocError as OutOfMemory}
use Rattle.sa_scopes.specs.declared.typer.Fault.{Fault}
use Rattle.sa_scopes.specs.declared.typer.Typer.{Typer}

-- what a part of the tree is typed as, with what was seen then
pub data Typed (A : Type 0) : Type 0 where
  Gives : A → Typer → Typed A

abbrev pub Typing : Type 0 → Type 0
Typing A = Typer → Typed A

abbrev pub and_then : {A B : Type 0} → Typed A → (A → Typing B) → Typed B
and_then (Gives a s) f = f a s

infixl 10 ◌>>=◌
abbrev pub ◌>>=◌ : {A B : Type 0} → Typing A → (A → Typing B) → Typing B
m >>= f = λ s. and_then (m s) f

infixl 10 ◌>>◌
abbrev pub ◌>>◌ : {A B : Type 0} → Typing A → Typing B → Typing B
m >> n = m >>= (λ _. n)

abbrev pub pure : {A : Type 0} → A → Typing A
pure a = λ s. Gives a s

-- one part after the other, each with what the one before it gave
unfoldable pub each : {X A : Type 0} → (X → A → Typing A) → List X → A → Typing A
each f [] a = pure a
each f (x ∷ xs) a = f x a >>= each f xs

-- ---- refusals
abbrev pub fault : ℕ → Pos → Fault
fault rule p = record { pos = p; rule = rule }

-- what was seen, and a refusal by a rule at a place
unfoldable pub refused : ℕ → Pos → Typer → Typer
refused rule p s = record s { faults = s.faults ++ fault rule p ∷ [] }

abbrev pub refuse : ℕ → Pos → Typing (Unit {0})
refuse rule p = λ s. Gives tt (refused rule p s)

abbrev pub refuse_if : Bool → ℕ → Pos → Typing (Unit {0})
refuse_if true rule p = refuse rule p
refuse_if false rule p = pure tt

-- what a function of the typer ensures, unless memory lacks
abbrev pub Yields : {A : Type 0} → Typed A → Result A OutOfMemory → Typer → Type 0
Yields t (Ok a) new = t ≡ Gives a new
Yields t (Err e) new = Unit {0}

-- what such a function leaves in an argument, in place of a result
abbrev pub given : {A : Type 0} → Result (Unit {0}) OutOfMemory → A → Result A OutOfMemory
given (Ok u) a = Ok a
given (Err e) a = Err e
