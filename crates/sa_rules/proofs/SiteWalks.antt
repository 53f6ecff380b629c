-- Which refusals with code 5 a walk adds.
use Rattle.std.proofs.Common.{ℕ, Bool, true, false, List, [], ◌∷◌, ◌++◌, ◌≡◌, refl, ap, subst, ◌⊎◌, inl, inr}
use Rattle.std.proofs.lemmas.List.Elements.{Contains-append_left, Contains-append_right, Contains-push_cases}
use Rattle.std.specs.List.{Contains, flat_map}
use Rattle.std.specs.Prelude.{if◌then◌else◌, ◌==◌}
use Rattle.sa_base.specs.declared.pos.Pos.{Pos}
use Rattle.sa_scopes.specs.declared.typer.Fault.{Fault}
use Rattle.sa_scopes.specs.declared.typer.Typer.{Typer}
use Rattle.sa_scopes.specs.Typing.{Typed, Typing, Gives, and_then, each, refused, refuse_if, fault}
use Rattle.sa_rules.proofs.Exact.{head_in, rest_in}
use Rattle.sa_rules.proofs.Walks.{state, value}

-- what is refused with that code from that state on stands where P says
pub record Adds (P : Pos → Type 0) (s : Typer) {A : Type 0} (t : Typed A) : Type 0 where
  pub new : (p : Pos) → Contains (state t).faults (fault 5 p) → Contains s.faults (fault 5 p) ⊎ P p

-- each of a list is P
abbrev pub Sub : (Pos → Type 0) → List Pos → Type 0
Sub P ps = (p : Pos) → Contains ps p → P p

pub sub_left : {P : Pos → Type 0} (xs ys : List Pos) → Sub P (xs ++ ys) → Sub P xs
sub_left xs ys h f k = h f (Contains-append_left xs ys f k)

pub sub_right : {P : Pos → Type 0} (xs ys : List Pos) → Sub P (xs ++ ys) → Sub P ys
sub_right xs ys h f k = h f (Contains-append_right xs ys f k)

pub sub_head : {P : Pos → Type 0} (x : Pos) (xs : List Pos) → Sub P (x ∷ xs) → P x
sub_head x xs h = h x (head_in x x xs refl)

pub sub_rest : {P : Pos → Type 0} (x : Pos) (xs : List Pos) → Sub P (x ∷ xs) → Sub P xs
sub_rest x xs h f k = h f (rest_in x f xs k)

module _ (P : Pos → Type 0) where
  pub adds_none : {A : Type 0} {s : Typer} {a : A} → Adds P s (Gives a s)
  adds_none = record { new = λ f h. inl h }

  pub adds_refusal : {A : Type 0} {s : Typer} {a : A} (q : Pos) → P q → Adds P s (Gives a (refused 5 q s))
  unfolding refused
  adds_refusal {s = s} q k = record { new = λ p h. elim (Contains-push_cases s.faults (fault 5 q) (fault 5 p) h) [ inl g ↦ inl g | inr e ↦ inr (subst P (ap (λ (f : Fault). f.pos) e) k) ] }

  -- a refusal with another code
  pub other_code : (rule : ℕ) (q p : Pos) → (rule == 5) ≡ false → fault rule q ≡ fault 5 p → ⊥
  other_code rule q p h e = let g : (rule == 5) ≡ true = ap (λ (f : Fault). f.rule == 5) e in cc

  pub adds_other : {A : Type 0} {s : Typer} {a : A} (rule : ℕ) (q : Pos) → (rule == 5) ≡ false → Adds P s (Gives a (refused rule q s))
  unfolding refused
  adds_other {s = s} rule q k = record { new = λ p h. elim (Contains-push_cases s.faults (fault rule q) (fault 5 p) h) [ inl g ↦ inl g | inr e ↦ absurd (other_code rule q p k e) ] }

  pub adds_then : {A B : Type 0} {s : Typer} {t : Typed A} {f : A → Typing B} → Adds P s t → ((a : A) (u : Typer) → Adds P u (f a u)) → Adds P s (and_then t f)
  adds_then {t = Gives a u} m go = record { new = λ f h. elim ((go a u).new f h) [ inl g ↦ m.new f g | inr g ↦ inr g ] }

  -- the same for the state that the first part ends in
  pub adds_here : {A B : Type 0} {s : Typer} {t : Typed A} (f : A → Typing B) → Adds P s t → Adds P (state t) (f (value t) (state t)) → Adds P s (and_then t f)
  adds_here {t = Gives a u} f m go = record { new = λ p h. elim (go.new p h) [ inl g ↦ m.new p g | inr g ↦ inr g ] }

  pub adds_unless : {s : Typer} (b : Bool) (q : Pos) → P q → Adds P s (refuse_if b 5 q s)
  adds_unless true q p = adds_refusal q p
  adds_unless false q p = adds_none

  pub other_unless : {s : Typer} (b : Bool) (rule : ℕ) (q : Pos) → (rule == 5) ≡ false → Adds P s (refuse_if b rule q s)
  other_unless true rule q h = adds_other rule q h
  other_unless false rule q h = adds_none

  pub adds_if : {A : Type 0} {s : Typer} (b : Bool) (m n : Typing A) → Adds P s (m s) → Adds P s (n s) → Adds P s ((if b then m else n) s)
  adds_if true m n a b = a
  adds_if false m n a b = b

  pub adds_by : {A : Type 0} {s : Typer} (b : Bool) {t u : Typed A} → Adds P s t → Adds P s u → Adds P s (if b then t else u)
  adds_by true a b = a
  adds_by false a b = b

  pub adds_each : {U A : Type 0} (f : U → A → Typing A) → ((x : U) (a : A) (s : Typer) → Adds P s (f x a s)) → (xs : List U) (a : A) (s : Typer) → Adds P s (each f xs a s)
  unfolding each
  adds_each f one [] a s = adds_none
  adds_each f one (x ∷ xs) a s = adds_then (one x a s) (λ b u. adds_each f one xs b u)

  pub adds_all : {U A : Type 0} (f : U → A → Typing A) (of_one : U → List Pos) → ((x : U) (a : A) (s : Typer) → Sub P (of_one x) → Adds P s (f x a s)) → (xs : List U) (a : A) (s : Typer) → Sub P (flat_map of_one xs) →
      Adds P s (each f xs a s)
  unfolding each
  adds_all f of_one one [] a s h = adds_none
  adds_all f of_one one (x ∷ xs) a s h = adds_then (one x a s (sub_left (of_one x) (flat_map of_one xs) h)) (λ b u. adds_all f of_one one xs b u (sub_right (of_one x) (flat_map of_one xs) h))
