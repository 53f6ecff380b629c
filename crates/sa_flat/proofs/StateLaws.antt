-- States of executions and cells: what a cell may have by the places that it names, and what is said of a call's state in an
-- environment.
use Rattle.std.proofs.Common.{◌≡◌, ◌≢◌, ℕ, ◌+◌, ◌*◌, ◌<◌, ℤ, pos, Bool, true, false, List, [], ◌∷◌, refl, sym, ap, subst, ◌∙◌, arith, ◌⊎◌, inl, inr}
use Rattle.std.specs.Prelude.{if◌then◌else◌, ◌==◌}
use Rattle.std.proofs.lemmas.Bool.Decides.{nat_tests}
use Rattle.sa_base.specs.declared.pos.Pos.{Pos}
use Rattle.sa_typed.specs.Layouts.{Layout, layout_of}
use Rattle.sa_typed.specs.Evaluation.{Store}
use Rattle.sa_typed.specs.Executions.{Visit, same_path, same_part, same_parts, same_place, strong_update}
use Rattle.sa_typed.specs.declared.shape.Part.{Part}
use Rattle.sa_typed.specs.declared.shape.Part.TheVariants as part
use Rattle.sa_typed.specs.declared.program.Place.{Place}
use Rattle.sa_typed.specs.declared.program.Program.{Program}
use Rattle.sa_ir.specs.declared.frame.Kept.{Kept}
use Rattle.sa_ir.specs.Frames.{Frame as Call}
use Rattle.sa_flat.specs.Domain.{Domain}
use Rattle.sa_flat.specs.Meanings.{Cells}
use Rattle.sa_flat.proofs.Lawful.{Lawful}
use Rattle.sa_flat.proofs.Goods.{alive_is, Stable, Pick, Holds, holds_stable}
use Rattle.sa_flat.proofs.ChangeLaws.{Agree, Updates}
use Rattle.sa_flat.proofs.LaidLaws.{Laid}

-- ---- places are the same as themselves
same_path_self : (ps : List Pos) → same_path ps ps ≡ true
same_path_self [] = refl
same_path_self (p ∷ ps) = let a : (p.line == p.line) ≡ true = grind (arith, nat_tests) in let b : (p.col == p.col) ≡ true = grind (arith, nat_tests) in rw (a, b, same_path_self ps) refl

same_part_self : (q : Part) → same_part q q ≡ true
same_part_self (part.At i) = grind (arith, nat_tests)
same_part_self (part.Field f) = grind (arith, nat_tests)

same_parts_self : (qs : List Part) → same_parts qs qs ≡ true
unfolding same_parts
same_parts_self [] = refl
same_parts_self (q ∷ qs) = rw (same_part_self q, same_parts_self qs) refl

pub same_place_self : (a : Place) → same_place a a ≡ true
same_place_self a = let v : (a.var == a.var) ≡ true = grind (arith, nat_tests) in rw (same_path_self a.path, v, same_parts_self a.parts) refl

-- how the cells of a lowered program name the places of the typed one. A cell that isn't shown stands for no place: it keeps an
-- index or a result
pub record Naming (x : Cells) : Type 1 where
  pub names : ℕ → Place → Type 0
  pub shown : ℕ → Bool
  pub some : (c : ℕ) → shown c ≡ true → (a : Place) × names c a
  pub is_shown : (c : ℕ) (a : Place) → names c a → shown c ≡ true
  -- a cell for one element names one place, and a place is in one cell
  pub one : (c : ℕ) (a b : Place) → x.starred c ≡ false → names c a → names c b → a ≡ b
  pub apart : (c d : ℕ) (a b : Place) → names c a → names d b → same_place a b ≡ true → c ≡ d

module _ (x : Cells) (N : Naming x) where
  -- what a cell may have: the number at one of its places, or the number that it keeps
  abbrev pub has_by : Bool → Store → (ℕ → ℤ) → ℕ → ℤ → Type 0
  has_by true st kept c z = (a : Place) × N.names c a × (st a ≡ z)
  has_by false st kept c z = kept c ≡ z

  unfoldable pub has : Store → (ℕ → ℤ) → ℕ → ℤ → Type 0
  has st kept c z = has_by (N.shown c) st kept c z

  pub has_named : (st : Store) (kept : ℕ → ℤ) (c : ℕ) (a : Place) → N.names c a → has st kept c (st a)
  unfolding has
  has_named st kept c a n = subst (λ (b : Bool). has_by b st kept c (st a)) (sym (N.is_shown c a n)) (a, n, refl)

  pub has_kept : (st : Store) (kept : ℕ → ℤ) (c : ℕ) (z : ℤ) → N.shown c ≡ false → has st kept c z → kept c ≡ z
  unfolding has
  has_kept st kept c z e h = subst (λ (b : Bool). has_by b st kept c z) e h

  has_some : (st : Store) (kept : ℕ → ℤ) (c : ℕ) → (z : ℤ) × has st kept c z
  unfolding has
  has_some st kept c =
      elim (N.shown c) as (λ b. N.shown c ≡ b → (z : ℤ) × has_by b st kept c z) [
        | true ↦ λ e. let s = N.some c e in (st s.0, (s.0, s.1, refl))
        | false ↦ λ e. (kept c, refl)
      ] refl

  -- a point of the state
  pub point : Store → (ℕ → ℤ) → ℕ → ℤ
  point st kept c = (has_some st kept c).0

  pub point_has : (st : Store) (kept : ℕ → ℤ) (c : ℕ) → has st kept c (point st kept c)
  unfolding point
  point_has st kept c = (has_some st kept c).1

  pub has_single : (st : Store) (kept : ℕ → ℤ) (c : ℕ) (z w : ℤ) → x.starred c ≡ false → has st kept c z → has st kept c w → z ≡ w
  unfolding has
  has_single st kept c z w s h k =
      elim (N.shown c) as (λ b. has_by b st kept c z → has_by b st kept c w → z ≡ w) [
        | true ↦ λ h k. sym h.2 ∙ (ap st (N.one c h.0 k.0 s h.1 k.1) ∙ k.2)
        | false ↦ λ h k. sym h ∙ k
      ] h k

  -- ---- one element changes
  at_true : (st : Store) (a b : Place) (z : ℤ) → same_place b a ≡ true → strong_update a z st b ≡ z
  at_true st a b z e = rw e refl

  at_false : (st : Store) (a b : Place) (z : ℤ) → same_place b a ≡ false → strong_update a z st b ≡ st b
  at_false st a b z e = rw e refl

  -- cells other than that of the element keep what they have
  other_has : (st : Store) (kept : ℕ → ℤ) (c d : ℕ) (a : Place) (z y : ℤ) → N.names c a → d ≢ c → has (strong_update a z st) kept d y → has st kept d y
  unfolding has
  other_has st kept c d a z y n o h =
      elim (N.shown d) as (λ b. has_by b (strong_update a z st) kept d y → has_by b st kept d y) [
        | true ↦ λ h. (
          h.0,
          h.1,
          elim (same_place h.0 a) as (λ t. same_place h.0 a ≡ t → st h.0 ≡ y) [
            | true ↦ λ e. absurd (o (N.apart d c h.0 a h.1 n e))
            | false ↦ λ e. sym (at_false st a h.0 z e) ∙ h.2
          ] refl,
        )
        | false ↦ λ h. h
      ] h

  pub with_cell : ℕ → ℤ → (ℕ → ℤ) → ℕ → ℤ
  with_cell c y bt d = if d == c then y else bt d

  pub with_agrees : (c : ℕ) (y : ℤ) (bt : ℕ → ℤ) → Agree c (with_cell c y bt) bt
  unfolding with_cell
  with_agrees c y bt d n = elim (d == c) as (λ t. (d == c) ≡ t → bt d ≡ (if t then y else bt d)) [ true ↦ λ e. absurd (n (grind (arith, nat_tests))) | false ↦ λ e. refl ] refl

  pub with_same : (c : ℕ) (y : ℤ) (bt : ℕ → ℤ) → with_cell c y bt c ≡ y
  unfolding with_cell
  with_same c y bt = let e : (c == c) ≡ true = grind (arith, nat_tests) in rw e refl

  -- a number for each cell of which one is given
  pub with_pick : (st : Store) (kept : ℕ → ℤ) (c : ℕ) (y : ℤ) (bt : ℕ → ℤ) → has st kept c y → ((d : ℕ) → d ≢ c → has st kept d (bt d)) → (d : ℕ) → has st kept d (with_cell c y bt d)
  unfolding with_cell
  with_pick st kept c y bt h k d =
      elim (d == c) as (λ t. (d == c) ≡ t → has st kept d (if t then y else bt d)) [
        | true ↦ λ e. let is : d ≡ c = grind (arith, nat_tests) in subst (λ (k : ℕ). has st kept k y) (sym is) h
        | false ↦ λ e. k d (λ is. differ d c e is)
      ] refl
    where
      differ : (d c : ℕ) → (d == c) ≡ false → d ≡ c → ⊥
      differ d c e is = grind (arith, nat_tests)

  has_at : (st : Store) (kept : ℕ → ℤ) (c : ℕ) (a : Place) (y : ℤ) → N.names c a → has st kept c y → (q : Place) × N.names c q × (st q ≡ y)
  unfolding has
  has_at st kept c a y n h = subst (λ (b : Bool). has_by b st kept c y) (N.is_shown c a n) h

  module _ (D : Domain) (L : Lawful x D) where
    pub update_has : (st : Store) (kept : ℕ → ℤ) (c : ℕ) (a : Place) (z : ℤ) → N.names c a → Updates x D L (has st kept) (has (strong_update a z st) kept) c z
    update_has st kept c a z n bt p =
        let q = has_at (strong_update a z st) kept c a (bt c) n (p c) in
        elim (same_place q.0 a) as (λ t. same_place q.0 a ≡ t →
        ((at : ℕ → ℤ) × Pick x D L (has st kept) at × Agree c at bt × (bt c ≡ z)) ⊎ ((x.starred c ≡ true) × Pick x D L (has st kept) bt)) [
          | true ↦ λ e. inl (
            with_cell c (st a) bt,
            with_pick st kept c (st a) bt (has_named st kept c a n) (λ d o. other_has st kept c d a z (bt d) n o (p d)),
            with_agrees c (st a) bt,
            sym q.2 ∙ at_true st a q.0 z e,
          )
          | false ↦ λ e. inr (starred q.0 q.1 e, λ d. kept_old d q.0 q.1 e q.2)
        ] refl
      where
        true_false : (b : Bool) → b ≡ true → b ≡ false → ⊥
        true_false b e f = cc

        starred : (q : Place) → N.names c q → same_place q a ≡ false → x.starred c ≡ true
        starred q m e =
            elim (x.starred c) as (λ t. x.starred c ≡ t → t ≡ true) [
              | true ↦ λ _. refl
              | false ↦ λ s. let is : q ≡ a = N.one c q a s m n in absurd (true_false (same_place q a) (subst (λ (b : Place). same_place q b ≡ true) is (same_place_self q)) e)
            ] refl

        kept_old : (d : ℕ) (q : Place) → N.names c q → same_place q a ≡ false → strong_update a z st q ≡ bt c → has st kept d (bt d)
        kept_old d q m e v =
            elim (d == c) as (λ t. (d == c) ≡ t → has st kept d (bt d)) [
              | true ↦ λ t. let is : d ≡ c = grind (arith, nat_tests) in
                  subst (λ (k : ℕ). has st kept k (bt k)) (sym is) (subst (λ (y : ℤ). has st kept c y) (sym (at_false st a q z e) ∙ v) (has_named st kept c q m))
              | false ↦ λ t. other_has st kept c d a z (bt d) n (λ is. differ d c t is) (p d)
            ] refl
          where
            differ : (d c : ℕ) → (d == c) ≡ false → d ≡ c → ⊥
            differ d c e is = grind (arith, nat_tests)

    -- ---- a call
    -- the indices that hidden cells keep lead from this cell to the object
    abbrev pub KeptTo : (ℕ → ℤ) → Layout → List Kept → ℕ → Place → Type 0
    KeptTo kept l [] c a = Laid (λ num c a. N.names c a) l c a
    KeptTo kept l (r ∷ rs) c a = (L.IsCell r.cell × (N.shown r.cell ≡ false)) × ((k : ℕ) × (k < r.size) × (kept r.cell ≡ pos k) × KeptTo kept l rs (c + k * r.stride) a)

    -- each variable of a call stands in its frame
    abbrev pub InFrame : Program → (ℕ → Type 0) → Call → (ℕ → Place) → (ℕ → ℤ) → Type 0
    InFrame p ok fr base kept = (v : ℕ) → ok v → KeptTo kept (layout_of p v) (fr.base v).rows (fr.base v).first (base v)

    -- what is said of a state in a call: with some numbers in hidden cells, the frame stands and the environment holds, and so does
    -- what the calls outside say of these cells
    pub record InCall (p : Program) (ok : ℕ → Type 0) (outer : (ℕ → ℤ) → Type 0) (fr : Call) (base : ℕ → Place) (store : Store) (result clock : ℤ) (e : D.Env) : Type 0 where
      pub kept : ℕ → ℤ
      pub frame : InFrame p ok fr base kept
      pub outside : outer kept
      pub holds : Holds x D L (has store kept) clock e

    pub in_call_stable : (p : Program) (ok : ℕ → Type 0) (outer : (ℕ → ℤ) → Type 0) (fr : Call) (base : ℕ → Place) (store : Store) (result clock : ℤ) → Stable x D L (InCall p ok outer fr base store result clock)
    in_call_stable p ok outer fr base store result clock = record {
      left = λ f a b u v h. record { kept = h.kept; frame = h.frame; outside = h.outside; holds = (stable h.kept).left f a b u v h.holds };
      right = λ f a b u v h. record { kept = h.kept; frame = h.frame; outside = h.outside; holds = (stable h.kept).right f a b u v h.holds };
      below = λ f a b u v le h. record { kept = h.kept; frame = h.frame; outside = h.outside; holds = (stable h.kept).below f a b u v le h.holds };
      reduced = λ f a u h. alive_is (Holds x D L (has store h.kept) clock) (InCall p ok outer fr base store result clock) (D.reduce x.all a) (λ e k. record { kept = h.kept; frame = h.frame; outside = h.outside; holds = k }) ((stable h.kept).reduced f a u h.holds);
    }
      where
        stable : (kept : ℕ → ℤ) → Stable x D L (Holds x D L (has store kept) clock)
        stable kept = holds_stable x D L (has store kept) clock (point store kept) (point_has store kept)

    -- what is said of a visit: with some numbers in hidden cells the environment holds
    pub record AtVisit (v : Visit) (e : D.Env) : Type 0 where
      pub kept : ℕ → ℤ
      pub holds : Holds x D L (has v.store kept) v.clock e

    pub at_visit_stable : (v : Visit) → Stable x D L (AtVisit v)
    at_visit_stable v = record {
      left = λ f a b u w h. record { kept = h.kept; holds = (stable h.kept).left f a b u w h.holds };
      right = λ f a b u w h. record { kept = h.kept; holds = (stable h.kept).right f a b u w h.holds };
      below = λ f a b u w le h. record { kept = h.kept; holds = (stable h.kept).below f a b u w le h.holds };
      reduced = λ f a u h. alive_is (Holds x D L (has v.store h.kept) v.clock) (AtVisit v) (D.reduce x.all a) (λ e k. record { kept = h.kept; holds = k }) ((stable h.kept).reduced f a u h.holds);
    }
      where
        stable : (kept : ℕ → ℤ) → Stable x D L (Holds x D L (has v.store kept) v.clock)
        stable kept = holds_stable x D L (has v.store kept) v.clock (point v.store kept) (point_has v.store kept)
