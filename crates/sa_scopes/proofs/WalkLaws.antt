-- What a walk promises of the program that it ends in. Refusals are never taken back and lists only grow, so what a later state
-- ends in an earlier one does too.
use Rattle.std.proofs.Common.{◌≡◌, ℕ, zero, suc, ◌+◌, ◌<◌, ◌≤◌, ℤ, pos, Bool, true, false, List, [], ◌∷◌, ◌++◌, length, refl, sym, ap, subst, ◌∙◌, arith, Option, Some, None}
use Rattle.std.specs.Prelude.{if◌then◌else◌, slice_get}
use Rattle.sa_base.specs.declared.num.Num.{Num}
use Rattle.sa_base.specs.declared.pos.Pos.{Pos}
use Rattle.sa_typed.specs.TypedExpressions.{is_named_by}
use Rattle.sa_typed.specs.WellTyped.{num_of_input, HasTypedItems}
use Rattle.sa_typed.specs.declared.program.Program.{Program}
use Rattle.sa_typed.specs.declared.program.Var.{Var}
use Rattle.sa_scopes.specs.declared.types.Element.{Element}
use Rattle.sa_scopes.specs.declared.types.Element.TheVariants as el
use Rattle.sa_scopes.specs.declared.types.Named.{Named}
use Rattle.sa_scopes.specs.declared.types.Named.TheVariants as n
use Rattle.sa_scopes.specs.declared.types.Tagged.{Tagged}
use Rattle.sa_scopes.specs.declared.types.Tagged.TheVariants as t
use Rattle.sa_scopes.specs.declared.typer.Fault.{Fault}
use Rattle.sa_scopes.specs.declared.typer.Typer.{Typer}
use Rattle.sa_scopes.specs.Typing.{Typed, Typing, Gives, and_then, each, fault, refused, refuse, refuse_if}
use Rattle.sa_scopes.proofs.StructLaws.{IsFront, RefersBelow, DefsBelow}

-- ---- states
-- nothing was refused, and the program has all that was seen
pub record Ends (p : Program) (s : Typer) : Type 0 where
  pub clear : s.faults ≡ []
  pub structs : IsFront s.structs.defs p.structs
  pub vars : IsFront s.vars p.vars
  pub inputs : IsFront s.inputs p.inputs

pub record Later (p : Program) (s t : Typer) : Type 0 where
  pub back : Ends p t → Ends p s
  pub more : length s.structs.defs ≤ length t.structs.defs

pub same_state : (p : Program) (s : Typer) → Later p s s
same_state p s = record { back = λ e. e; more = omega arith }

pub later_still : (p : Program) (s t u : Typer) → Later p s t → Later p t u → Later p s u
later_still p s t u a b = record { back = λ e. a.back (b.back e); more = let x = a.more in let y = b.more in omega arith }

-- an element's type is a number's or a structure's that is defined
abbrev pub ElementBelow : ℕ → Element → Type 0
ElementBelow n (el.Struct k) = k < n
ElementBelow n _ = Unit {0}

pub element_more : (n m : ℕ) (e : Element) → n ≤ m → ElementBelow n e → ElementBelow m e
element_more n m el.Void le h = tt
element_more n m (el.Scalar num) le h = tt
element_more n m (el.Struct k) le h = omega arith
element_more n m el.Unknown le h = tt

-- what a name stands for is there
abbrev pub IsThere : Program → ℕ → ℕ → Named → Type 0
IsThere p structs vars (n.Variable k) = k < vars
IsThere p structs vars (n.Input k num) = num_of_input (slice_get p.inputs k) ≡ Some num
IsThere p structs vars (n.Alias ty) = ElementBelow structs ty.element
IsThere p structs vars n.Function = Unit {0}

pub there_more : (p : Program) (a b c d : ℕ) (m : Named) → a ≤ c → b ≤ d → IsThere p a b m → IsThere p c d m
there_more p a b c d (n.Variable k) l r h = omega arith
there_more p a b c d (n.Input k num) l r h = h
there_more p a b c d (n.Alias ty) l r h = element_more a c ty.element l h
there_more p a b c d n.Function l r h = tt

abbrev pub IsTagThere : ℕ → Tagged → Type 0
IsTagThere structs t.Open = Unit {0}
IsTagThere structs (t.Struct k) = k < structs

pub tag_more : (n m : ℕ) (x : Tagged) → n ≤ m → IsTagThere n x → IsTagThere m x
tag_more n m t.Open le h = tt
tag_more n m (t.Struct k) le h = omega arith

-- a variable, given its number and how many structures are defined
pub record IsSound (p : Program) (structs k : ℕ) (v : Var) : Type 0 where
  pub shape : RefersBelow structs v.shape
  pub items : HasTypedItems p k v
  pub home : is_named_by 0 v.home ≡ true

pub record Well (p : Program) (s : Typer) : Type 0 where
  pub names : (i : ℕ) (m : Named) → slice_get s.names.meanings i ≡ Some m → IsThere p (length s.structs.defs) (length s.vars) m
  pub tags : (i : ℕ) (m : Tagged) → slice_get s.tags.meanings i ≡ Some m → IsTagThere (length s.structs.defs) m
  pub defs : DefsBelow s.structs.defs
  pub vars : (k : ℕ) (v : Var) → slice_get s.vars k ≡ Some v → IsSound p (length s.structs.defs) k v

-- ---- walks
abbrev pub state : {A : Type 0} → Typed A → Typer
state (Gives a s) = s

abbrev pub value : {A : Type 0} → Typed A → A
value (Gives a s) = a

-- a walk from that state, given X, gives what is Y
pub record Leads (p : Program) (X : Type 0) (s : Typer) {A : Type 0} (Y : A → Typer → Type 0) (t : Typed A) : Type 0 where
  pub later : Later p s (state t)
  pub good : Well p s → X → Ends p (state t) → Well p (state t) × Y (value t) (state t)

abbrev pub Any : {A : Type 0} → A → Typer → Type 0
Any a s = Unit {0}

pub gives : {A : Type 0} {p : Program} {X : Type 0} {s : Typer} {Y : A → Typer → Type 0} {a : A} → (Well p s → X → Ends p s → Y a s) → Leads p X s Y (Gives a s)
gives {p = p} {s = s} h = record { later = same_state p s; good = λ w x e. (w, h w x e) }

pub no_fault : {A : Type 0} (xs : List A) (x : A) → xs ++ x ∷ [] ≡ [] → ⊥
no_fault [] x h = cc
no_fault (y ∷ xs) x h = cc

-- after a refusal nothing is promised
refused_ends : (p : Program) (rule : ℕ) (q : Pos) (s : Typer) → Ends p (refused rule q s) → ⊥
unfolding refused
refused_ends p rule q s e = no_fault s.faults (fault rule q) e.clear

refused_later : (p : Program) (rule : ℕ) (q : Pos) (s : Typer) → Later p s (refused rule q s)
unfolding refused
refused_later p rule q s = record { back = λ e. absurd (refused_ends p rule q s e); more = omega arith }

pub refuses : {A : Type 0} {p : Program} {X : Type 0} {s : Typer} {Y : A → Typer → Type 0} {a : A} (rule : ℕ) (q : Pos) → Leads p X s Y (Gives a (refused rule q s))
refuses {p = p} {s = s} rule q = record { later = refused_later p rule q s; good = λ w x e. absurd (refused_ends p rule q s e) }

pub refusal : {p : Program} {X : Type 0} {s : Typer} (rule : ℕ) (q : Pos) → Leads p X s Any (refuse rule q s)
refusal rule q = refuses rule q

pub bind : {A B : Type 0} {p : Program} {X : Type 0} {s : Typer} {Y Z : A → Typer → Type 0} {T : B → Typer → Type 0} {t : Typed A} {f : A → Typing B} → Leads p X s Y t →
    ((a : A) (u : Typer) → Later p s u → X → Well p u → Y a u → Z a u) → ((a : A) (u : Typer) → Leads p (Z a u) u T (f a u)) → Leads p X s T (and_then t f)
bind {p = p} {s = s} {t = Gives a u} {f = f} m map go =
    let next = go a u in
    record {
      later = later_still p s u (state (f a u)) m.later next.later;
      good = λ w x e. let here = m.good w x (next.later.back e) in next.good here.0 (map a u m.later x here.0 here.1) e;
    }

-- the same where what was given says nothing of the state
pub next : {A B : Type 0} {p : Program} {X : Type 0} {s : Typer} {Y : A → Typer → Type 0} {T : B → Typer → Type 0} {t : Typed A} {f : A → Typing B} → Leads p X s Y t →
    ((a : A) (u : Typer) → Leads p (X × Y a u) u T (f a u)) → Leads p X s T (and_then t f)
next {X = X} {Y = Y} m go = bind {Z = λ a u. X × Y a u} m (λ a u l x w y. (x, y)) go

-- the same promise from more, and a weaker one
pub from : {A : Type 0} {p : Program} {X Z : Type 0} {s : Typer} {Y : A → Typer → Type 0} {t : Typed A} → (X → Z) → Leads p Z s Y t → Leads p X s Y t
from f m = record { later = m.later; good = λ w x e. m.good w (f x) e }

pub here : {A : Type 0} {p : Program} {X Z : Type 0} {s : Typer} {Y : A → Typer → Type 0} {t : Typed A} → (Well p s → X → Ends p s → Z) → Leads p Z s Y t → Leads p X s Y t
here f m = record { later = m.later; good = λ w x e. m.good w (f w x (m.later.back e)) e }

-- what goes on to hold besides
pub also : {A : Type 0} {p : Program} {X : Type 0} {s : Typer} {Y : A → Typer → Type 0} {t : Typed A} (Q : Typer → Type 0) → ((u : Typer) → Later p s u → Q s → Q u) → Leads p X s Y t → Leads p (X × Q s) s (λ a u. Y a u × Q u) t
also {t = t} Q keep m = record { later = m.later; good = λ w x e. let h = m.good w x.0 e in (h.0, (h.1, keep (state t) m.later x.1)) }

pub free : {A : Type 0} {p : Program} {X : Type 0} {s : Typer} {Y : A → Typer → Type 0} {t : Typed A} → Leads p (Unit {0}) s Y t → Leads p X s Y t
free m = from (λ x. tt) m

pub so : {A : Type 0} {p : Program} {X : Type 0} {s : Typer} {Y Z : A → Typer → Type 0} {t : Typed A} → Leads p X s Y t → ((a : A) (u : Typer) → Y a u → Z a u) → Leads p X s Z t
so {t = t} m f = record { later = m.later; good = λ w x e. let h = m.good w x e in (h.0, f (value t) (state t) h.1) }

-- by a test
pub either : {A : Type 0} {p : Program} {X : Type 0} {s : Typer} {Y : A → Typer → Type 0} (b : Bool) {t u : Typed A} → (b ≡ true → Leads p X s Y t) → (b ≡ false → Leads p X s Y u) → Leads p X s Y (if b then t else u)
either true a b = a refl
either false a b = b refl

pub one_of : {A : Type 0} {p : Program} {X : Type 0} {s : Typer} {Y : A → Typer → Type 0} (b : Bool) (m n : Typing A) → (b ≡ true → Leads p X s Y (m s)) → (b ≡ false → Leads p X s Y (n s)) → Leads p X s Y ((if b then m else n) s)
one_of true m n a b = a refl
one_of false m n a b = b refl

-- a refusal where a test says so
pub unless : {p : Program} {X : Type 0} {s : Typer} (b : Bool) (rule : ℕ) (q : Pos) → Leads p X s (λ u t. b ≡ false) (refuse_if b rule q s)
unless true rule q = refuses rule q
unless false rule q = gives (λ w x e. refl)

-- one part after the other
pub all_parts : {U A : Type 0} (p : Program) (X : Type 0) (Y : A → Typer → Type 0) (f : U → A → Typing A) → ((a : A) (s t : Typer) → Later p s t → Y a s → Y a t) →
    ((x : U) (a : A) (s : Typer) → Leads p (X × Y a s) s Y (f x a s)) → (xs : List U) (a : A) (s : Typer) → Leads p (X × Y a s) s Y (each f xs a s)
unfolding each
all_parts p X Y f keep one [] a s = gives (λ w x e. x.1)
all_parts p X Y f keep one (x ∷ xs) a s = bind (one x a s) (λ b u l h w y. (h.0, y)) (λ b u. all_parts p X Y f keep one xs b u)
