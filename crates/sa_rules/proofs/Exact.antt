-- The places that a rule lists are those at which an event breaks it.
use Rattle.std.proofs.Common.{◌≡◌, ℕ, Bool, true, false, List, [], ◌∷◌, ◌++◌, refl, sym, ap, subst, ◌∙◌, arith, ◌⊎◌, inl, inr, Option, Some, None}
use Rattle.std.proofs.lemmas.Bool.Decides.{nat_tests}
use Rattle.std.proofs.lemmas.List.Elements.{Contains-append_left, Contains-append_right, Contains-append_cases, Contains-push, Contains-push_cases}
use Rattle.std.specs.List.{Contains, cons_option}
use Rattle.std.specs.Prelude.{◌==◌}
use Rattle.sa_base.specs.declared.pos.Pos.{Pos}
use Rattle.sa_scopes.specs.declared.typer.Fault.{Fault}
use Rattle.sa_scopes.specs.Typing.{fault}
use Rattle.sa_rules.specs.Events.{Event}
use Rattle.sa_rules.specs.Rules.{Rule, with_place, places, at_if, refused_by, Breaks, IsRule, IsExact}
use Rattle.sa_rules.specs.Sight.{Sight, nothing_seen, see, after}

pub none_in : {A : Type 0} (x : A) → Contains [] x → ⊥
none_in x h = let l = h.1 in omega arith

in_one : {A : Type 0} (y x : A) → Contains (y ∷ []) x → y ≡ x
in_one y x h = elim (Contains-push_cases [] y x h) [ inl g ↦ absurd (none_in x g) | inr g ↦ g ]

in_more : {A : Type 0} (y x : A) (ys : List A) → Contains (y ∷ ys) x → (y ≡ x) ⊎ Contains ys x
in_more y x ys h = elim (Contains-append_cases (y ∷ []) ys x h) [ inl g ↦ inl (in_one y x g) | inr g ↦ inr g ]

pub head_in : {A : Type 0} (y x : A) (ys : List A) → y ≡ x → Contains (y ∷ ys) x
head_in y x ys e = Contains-append_left (y ∷ []) ys x (subst (λ (z : _). Contains (z ∷ []) x) (sym e) (Contains-push [] x))

pub rest_in : {A : Type 0} (y x : A) (ys : List A) → Contains ys x → Contains (y ∷ ys) x
rest_in y x ys h = Contains-append_right (y ∷ []) ys x h

-- ---- refusals with a code
same_rule : (k c : ℕ) → (k == c) ≡ true → k ≡ c
same_rule k c h = grind (arith, nat_tests)

found_by : (c : ℕ) (f : Fault) (fs : List Fault) (p : Pos) (b : Bool) → (f.rule == c) ≡ b → (Contains (refused_by c fs) p → Contains fs (fault c p)) →
    Contains (cons_option (at_if b f.pos) (refused_by c fs)) p → Contains (f ∷ fs) (fault c p)
found_by c f fs p true h more g =
    elim (in_more f.pos p (refused_by c fs) g) [
      | inl e ↦ head_in f (fault c p) fs (let r = same_rule f.rule c h in ap (λ (k : ℕ). fault k f.pos) r ∙ ap (fault c) e)
      | inr e ↦ rest_in f (fault c p) fs (more e)
    ]
found_by c f fs p false h more g = rest_in f (fault c p) fs (more g)

found : (c : ℕ) (fs : List Fault) (p : Pos) → Contains (refused_by c fs) p → Contains fs (fault c p)
found c [] p g = absurd (none_in p g)
found c (f ∷ fs) p g = found_by c f fs p (f.rule == c) refl (found c fs p) g

listed_by : (c : ℕ) (f : Fault) (fs : List Fault) (p : Pos) (b : Bool) → (f.rule == c) ≡ b → (c == c) ≡ true → (Contains fs (fault c p) → Contains (refused_by c fs) p) →
    Contains (f ∷ fs) (fault c p) → Contains (cons_option (at_if b f.pos) (refused_by c fs)) p
listed_by c f fs p true h own more g = elim (in_more f (fault c p) fs g) [ inl e ↦ head_in f.pos p (refused_by c fs) (ap (λ (x : Fault). x.pos) e) | inr e ↦ rest_in f.pos p (refused_by c fs) (more e) ]
listed_by c f fs p false h own more g =
    elim (in_more f (fault c p) fs g) [
      | inl e ↦ let r : (f.rule == c) ≡ true = ap (λ (x : Fault). x.rule == c) e ∙ own in cc
      | inr e ↦ more e
    ]

is_listed : (c : ℕ) (fs : List Fault) (p : Pos) → (c == c) ≡ true → Contains fs (fault c p) → Contains (refused_by c fs) p
is_listed c [] p own g = absurd (none_in (fault c p) g)
is_listed c (f ∷ fs) p own g = listed_by c f fs p (f.rule == c) refl own (is_listed c fs p own) g

-- ---- events that break a rule
module _ (rule : Rule) where
  later : (m : Sight) (e : Event) (es : List Event) (p : Pos) → Breaks rule (see m e) es p → Breaks rule m (e ∷ es) p
  later m e es p b = record { front = e ∷ b.front; event = b.event; rest = b.rest; is = ap (λ (l : List Event). e ∷ l) b.is; at = b.at }

  broken_by : (m : Sight) (e : Event) (es : List Event) (p : Pos) (o : Option Pos) → rule m e ≡ o → (Contains (places rule (see m e) es) p → Breaks rule (see m e) es p) →
      Contains (with_place o (places rule (see m e) es)) p → Breaks rule m (e ∷ es) p
  broken_by m e es p None h more g = later m e es p (more g)
  broken_by m e es p (Some q) h more g =
      elim (in_more q p (places rule (see m e) es) g) [
        | inl k ↦ record { front = []; event = e; rest = es; is = refl; at = h ∙ ap (λ (x : Pos). Some x) k }
        | inr k ↦ later m e es p (more k)
      ]

  is_broken : (m : Sight) (es : List Event) (p : Pos) → Contains (places rule m es) p → Breaks rule m es p
  unfolding places
  is_broken m [] p g = absurd (none_in p g)
  is_broken m (e ∷ es) p g = broken_by m e es p (rule m e) refl (is_broken (see m e) es p) g

  passes : (o : Option Pos) (p : Pos) (ps : List Pos) → Contains ps p → Contains (with_place o ps) p
  passes None p ps g = g
  passes (Some q) p ps g = rest_in q p ps g

  is_placed : (m : Sight) (front : List Event) (e : Event) (rest : List Event) (p : Pos) → rule (after m front) e ≡ Some p → Contains (places rule m (front ++ e ∷ rest)) p
  unfolding places
  is_placed m [] e rest p h =
      subst (λ (o : Option Pos). Contains (with_place o (places rule (see m e) rest)) p) (sym h) (head_in p p (places rule (see m e) rest) refl)
  is_placed m (f ∷ front) e rest p h = passes (rule m f) p (places rule (see m f) (front ++ e ∷ rest)) (is_placed (see m f) front e rest p h)

  pub exact : (c : ℕ) → (c == c) ≡ true → IsRule c rule → IsExact c rule
  exact c own law u end p = (
    λ g. is_broken _ _ p (subst (λ (ps : List Pos). Contains ps p) (law u end) (is_listed c _ p own g)),
    λ b. found c _ p (subst (λ (ps : List Pos). Contains ps p) (sym (law u end)) (subst (λ (es : List Event). Contains (places rule nothing_seen es) p) (sym b.is) (is_placed nothing_seen b.front b.event b.rest p b.at))),
  )
