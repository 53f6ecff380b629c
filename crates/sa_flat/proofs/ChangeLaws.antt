-- Assignments: what they keep, and that the points after an assignment lie in the environment after it.
use Rattle.std.proofs.Common.{◌≡◌, ◌≢◌, ℕ, zero, suc, ◌+◌, ◌<◌, ◌≤◌, ℤ, pos, true, false, List, [], ◌∷◌, refl, sym, subst, ◌∙◌, arith, Option, Some, None, ◌⊎◌, inl, inr}
use Rattle.std.specs.Prelude.{if◌then◌else◌, ◌==◌, length}
use Rattle.std.proofs.lemmas.Bool.Decides.{nat_tests}
use Rattle.std.proofs.lemmas.Int.{ints}
use Rattle.std.proofs.Math.Path.{fun_ext}
use Rattle.sa_base.specs.declared.num.Num.{Num}
use Rattle.sa_interval.specs.Span.{Span, Within}
use Rattle.sa_interval.specs.Rows.{meet_of}
use Rattle.sa_operators.specs.Alarms.{IsAmong}
use Rattle.sa_operators.specs.Operators.{IsIn, range_of}
use Rattle.sa_ir.specs.declared.ir.Ends.{Ends}
use Rattle.sa_env.specs.declared.form.Form.{Form}
use Rattle.sa_flat.specs.Domain.{Domain}
use Rattle.sa_flat.specs.Forms.{form_number}
use Rattle.sa_flat.specs.Meanings.{Operand, Meaning, Target, Cells, indices}
use Rattle.sa_flat.specs.Assignments.{weakly, stored, store_at, assignment, any_from, between, items_from, keep}
use Rattle.sa_flat.specs.Passes.{alive_then, joined}
use Rattle.sa_flat.proofs.Lawful.{Lawful, Frame, IfAlive, AliveAnd, IsForm}
use Rattle.sa_flat.proofs.Goods.{alive_keeps, if_alive_is, alive_on, alive_both, Good, GoodIf, good_if, merge_good, Pick, Holds, alive_all}
use Rattle.sa_flat.proofs.Operands.{InSpan, InType, meet_some}
use Rattle.sa_flat.proofs.MeaningLaws.{Fits, Fit}
use Rattle.sa_flat.proofs.CoverLaws.{IsNumber, Shows}
use Rattle.sa_flat.proofs.TargetLaws.{in_indices, IsOfType, AllOfType, Leads}
use Rattle.sa_flat.proofs.KeepLaws.{ChangeKeeps}
use Rattle.sa_flat.proofs.SpanLaws.{Meets, meet_meets}

-- the numbers of two points are alike but at one cell
abbrev pub Agree : ℕ → (ℕ → ℤ) → (ℕ → ℤ) → Type 0
Agree c at bt = (d : ℕ) → d ≢ c → bt d ≡ at d

-- there is a span
abbrev pub InSpanAny : Option Span → Type 0
InSpanAny None = ⊥
InSpanAny (Some s) = Unit {0}

module _ (x : Cells) (D : Domain) (L : Lawful x D) where
  -- ---- what is kept
  assign_good : (f : Frame) (num : Num) (k : ℕ) (s : Span) (h : Option Form) (env : D.Env) → Good x D L f env → IsOfType x D L num k → IsIn num s → GoodIf x D L f (D.assign k s h env)
  assign_good f num k s h env g o i =
      good_if x D L f (D.assign k s h env) (L.assign_keeps f k s h env o.cell (subst (λ (m : Num). IsIn m s) (sym o.same) i) g.under g.closed)

  joined_good : (f : Frame) (env : D.Env) (o : Option D.Env) → Good x D L f env → GoodIf x D L f o → Good x D L f (joined D x.all env o)
  joined_good f env None g h = g
  joined_good f env (Some e) g h = merge_good x D L f env e g h

  weakly_good : (f : Frame) (num : Num) (ks : List ℕ) (s : Span) (env : D.Env) → Good x D L f env → AllOfType x D L num ks → IsIn num s → Good x D L f (weakly D x ks s env)
  unfolding weakly
  weakly_good f num [] s env g o i = g
  weakly_good f num (k ∷ ks) s env g o i =
      weakly_good f num ks s (joined D x.all env (D.assign k s None env)) (joined_good f env (D.assign k s None env) g (assign_good f num k s None env g o.0 i)) o.1 i

  stored_good : (f : Frame) (num : Num) (ks : List ℕ) (s : Span) (h : Option Form) (env : D.Env) → Good x D L f env → AllOfType x D L num ks → IsIn num s → GoodIf x D L f (stored D x ks s h env)
  unfolding stored
  stored_good f num [] s h env g o i = g
  stored_good f num (k ∷ []) s h env g o i =
      elim (x.starred k) as (λ b. GoodIf x D L f (if b then Some (weakly D x (k ∷ []) s env) else D.assign k s h env)) [
        | true ↦ weakly_good f num (k ∷ []) s env g o i
        | false ↦ assign_good f num k s h env g o.0 i
      ]
  stored_good f num (k ∷ l ∷ ks) s h env g o i = weakly_good f num (k ∷ l ∷ ks) s env g o i

  pub store_good : (f : Frame) (num : Num) (t : Target D.Env) (a : Operand D.Env) (env : D.Env) → Leads x D L num t → Fits x D L num a → Good x D L f env → GoodIf x D L f (store_at D x t a env)
  store_good f num t a env l h g = from (t.cells env) (l.cells f env g) (a.span env) (h.span f env g)
    where
      from : (ks : Option (List ℕ)) → IfAlive (AllOfType x D L num) ks → (s : Option Span) → InType num s → GoodIf x D L f (alive_then ks (λ ks. alive_then s (λ s. stored D x ks s (a.form env) env)))
      from None o s i = tt
      from (Some ks) o None i = tt
      from (Some ks) o (Some s) i = stored_good f num ks s (a.form env) env g o i

  pub assignment_keeps : (num : Num) (t : Target D.Env) (a : Meaning D.Env) → Leads x D L num t → Fit x D L num a → ChangeKeeps x D L (assignment D x t a)
  assignment_keeps num t a l h f env g = store_good f num t a.value env l h.value g

  -- cells from one on, each of its type
  pub any_good : (f : Frame) (k n : ℕ) (env : D.Env) → ((c : ℕ) → k ≤ c → c < k + n → L.IsCell c) → ((num : Num) → IsIn num (range_of num)) → Good x D L f env → GoodIf x D L f (any_from D x k n env)
  unfolding any_from
  any_good f k zero env cells ranges g = g
  any_good f k (suc n) env cells ranges g =
      alive_keeps (Good x D L f) (Good x D L f) (D.assign k (range_of (x.num k)) None env) (any_from D x (k + 1) n)
      (assign_good f (x.num k) k (range_of (x.num k)) None env g (record { cell = cells k (omega arith) (omega arith); same = refl }) (ranges (x.num k)))
      (λ e g. any_good f (k + 1) n e (λ c a b. cells c (omega (arith, a)) (omega (arith, b))) ranges g)

  -- ends of cells from one on
  abbrev pub AreEnds : ℕ → List Ends → Type 0
  AreEnds k [] = Unit {0}
  AreEnds k (e ∷ es) = (L.IsCell k × IsIn (x.num k) (between D x e)) × AreEnds (k + 1) es

  pub items_good : (f : Frame) (k : ℕ) (es : List Ends) (env : D.Env) → AreEnds k es → Good x D L f env → GoodIf x D L f (items_from D x k es env)
  unfolding items_from
  items_good f k [] env h g = g
  items_good f k (e ∷ es) env h g =
      alive_keeps (Good x D L f) (Good x D L f) (D.assign k (between D x e) None env) (items_from D x (k + 1) es)
      (assign_good f (x.num k) k (between D x e) None env g (record { cell = h.0.0; same = refl }) h.0.1) (λ i g. items_good f (k + 1) es i h.1 g)

  -- ---- points
  module _ (time : ℤ) where
    abbrev Lies : (ℕ → ℤ) → D.Env → Type 0
    Lies at e = D.Point e at time

    joined_old : (f : Frame) (env : D.Env) (o : Option D.Env) (at : ℕ → ℤ) → Good x D L f env → GoodIf x D L f o → Lies at env → Lies at (joined D x.all env o)
    joined_old f env None at g h p = p
    joined_old f env (Some e) at g h p = L.merge_left f env e at time g.under h.under p

    joined_new : (f : Frame) (env : D.Env) (o : Option D.Env) (at : ℕ → ℤ) → Good x D L f env → GoodIf x D L f o → AliveAnd (Lies at) o → Lies at (joined D x.all env o)
    joined_new f env None at g h p = absurd p
    joined_new f env (Some e) at g h p = L.merge_right f env e at time g.under h.under p

    weakly_old : (f : Frame) (num : Num) (ks : List ℕ) (s : Span) (env : D.Env) (at : ℕ → ℤ) → Good x D L f env → AllOfType x D L num ks → IsIn num s → Lies at env → Lies at (weakly D x ks s env)
    unfolding weakly
    weakly_old f num [] s env at g o i p = p
    weakly_old f num (k ∷ ks) s env at g o i p =
        let a = assign_good f num k s None env g o.0 i in
        weakly_old f num ks s (joined D x.all env (D.assign k s None env)) at (joined_good f env (D.assign k s None env) g a) o.1 i (joined_old f env (D.assign k s None env) at g a p)

    weakly_new : (f : Frame) (num : Num) (ks : List ℕ) (c : ℕ) (s : Span) (env : D.Env) (at bt : ℕ → ℤ) → Good x D L f env → AllOfType x D L num ks → IsIn num s → IsAmong c ks → Agree c at bt → Within s (bt c) →
        Lies at env → Lies bt (weakly D x ks s env)
    unfolding weakly
    weakly_new f num [] c s env at bt g o i m e w p = absurd m
    weakly_new f num (k ∷ ks) c s env at bt g o i (inl q) e w p =
        let a = assign_good f num k s None env g o.0 i in
        let new = L.assign_sound f k s None env at bt time o.0.cell g.under g.closed p (λ d n. e d (λ r. n (r ∙ q))) (subst (λ (k : ℕ). Within s (bt k)) q w) tt in
        weakly_old f num ks s (joined D x.all env (D.assign k s None env)) bt (joined_good f env (D.assign k s None env) g a) o.1 i (joined_new f env (D.assign k s None env) bt g a new)
    weakly_new f num (k ∷ ks) c s env at bt g o i (inr m) e w p =
        let a = assign_good f num k s None env g o.0 i in
        weakly_new f num ks c s (joined D x.all env (D.assign k s None env)) at bt (joined_good f env (D.assign k s None env) g a) o.1 i m e w (joined_old f env (D.assign k s None env) at g a p)

    -- the cell gets a number of the span
    stored_new : (f : Frame) (num : Num) (ks : List ℕ) (c : ℕ) (s : Span) (h : Option Form) (env : D.Env) (at bt : ℕ → ℤ) → Good x D L f env → AllOfType x D L num ks → IsIn num s → IsAmong c ks → Agree c at bt →
        Within s (bt c) → IfAlive (λ h. IsForm L.IsCell h × (form_number h at ≡ bt c)) h → Lies at env → AliveAnd (Lies bt) (stored D x ks s h env)
    unfolding stored
    stored_new f num [] c s h env at bt g o i m e w n p = absurd m
    stored_new f num (k ∷ []) c s h env at bt g o i m e w n p =
        elim (x.starred k) as (λ b. AliveAnd (Lies bt) (if b then Some (weakly D x (k ∷ []) s env) else D.assign k s h env)) [
          | true ↦ weakly_new f num (k ∷ []) c s env at bt g o i m e w p
          | false ↦ only m
        ]
      where
        only : IsAmong c (k ∷ []) → AliveAnd (Lies bt) (D.assign k s h env)
        only (inl q) = subst (λ (k : ℕ). IsOfType x D L num k → AliveAnd (Lies bt) (D.assign k s h env)) q (λ o. L.assign_sound f c s h env at bt time o.cell g.under g.closed p e w n) o.0
        only (inr m) = absurd m
    stored_new f num (k ∷ l ∷ ks) c s h env at bt g o i m e w n p = weakly_new f num (k ∷ l ∷ ks) c s env at bt g o i m e w p

    -- a cell for several elements may keep what it had
    stored_old : (f : Frame) (num : Num) (ks : List ℕ) (c : ℕ) (s : Span) (h : Option Form) (env : D.Env) (at : ℕ → ℤ) → Good x D L f env → AllOfType x D L num ks → IsIn num s → IsAmong c ks → x.starred c ≡ true →
        Lies at env → AliveAnd (Lies at) (stored D x ks s h env)
    unfolding stored
    stored_old f num [] c s h env at g o i m q p = absurd m
    stored_old f num (k ∷ []) c s h env at g o i (inl e) q p =
        let star : x.starred k ≡ true = subst (λ (k : ℕ). x.starred k ≡ true) e q in
        rw star (weakly_old f num (k ∷ []) s env at g o i p)
    stored_old f num (k ∷ []) c s h env at g o i (inr m) q p = absurd m
    stored_old f num (k ∷ l ∷ ks) c s h env at g o i m q p = weakly_old f num (k ∷ l ∷ ks) s env at g o i p

    -- ---- cells from one on
    first_of : ℕ → (ℕ → ℤ) → (ℕ → ℤ) → ℕ → ℤ
    first_of k at bt d = if d == k then bt d else at d

    first_agrees : (k : ℕ) (at bt : ℕ → ℤ) → Agree k at (first_of k at bt)
    unfolding first_of
    first_agrees k at bt d n =
        elim (d == k) as (λ b. (d == k) ≡ b → (if b then bt d else at d) ≡ at d) [ true ↦ λ e. absurd (n (grind (arith, nat_tests))) | false ↦ λ e. refl ] refl

    first_same : (k : ℕ) (at bt : ℕ → ℤ) → first_of k at bt k ≡ bt k
    unfolding first_of
    first_same k at bt = let e : (k == k) ≡ true = grind (arith, nat_tests) in rw e refl

    -- the second is the first but at cells from k to below k + n
    abbrev pub Alike : ℕ → ℕ → (ℕ → ℤ) → (ℕ → ℤ) → Type 0
    Alike k n at bt = (d : ℕ) → ((d < k) ⊎ (k + n ≤ d)) → bt d ≡ at d

    alike_next : (k n : ℕ) (at bt : ℕ → ℤ) → Alike k (suc n) at bt → Alike (k + 1) n (first_of k at bt) bt
    unfolding first_of
    alike_next k n at bt h d o =
        elim (d == k) as (λ b. (d == k) ≡ b → bt d ≡ (if b then bt d else at d)) [ true ↦ λ e. refl | false ↦ λ e. h d (outside o e) ] refl
      where
        outside : ((d < k + 1) ⊎ (k + 1 + n ≤ d)) → (d == k) ≡ false → (d < k) ⊎ (k + suc n ≤ d)
        outside (inl a) e = inl (grind (arith, nat_tests))
        outside (inr a) e = inr (omega (arith, a))

    at_end : (k : ℕ) (at bt : ℕ → ℤ) → Alike k zero at bt → (d : ℕ) → bt d ≡ at d
    at_end k at bt h d = h d (by (nat_side d k))
      where
        nat_side : (d k : ℕ) → (d < k) ⊎ (k ≤ d)
        nat_side zero zero = inr (omega arith)
        nat_side zero (suc k) = inl (omega arith)
        nat_side (suc d) zero = inr (omega arith)
        nat_side (suc d) (suc k) = up (nat_side d k)
          where
            up : (d < k) ⊎ (k ≤ d) → (suc d < suc k) ⊎ (suc k ≤ suc d)
            up (inl a) = inl (omega (arith, a))
            up (inr a) = inr (omega (arith, a))

        by : (d < k) ⊎ (k ≤ d) → (d < k) ⊎ (k + zero ≤ d)
        by (inl a) = inl a
        by (inr a) = inr (omega (arith, a))

    same_point : (e : D.Env) (at bt : ℕ → ℤ) → ((d : ℕ) → bt d ≡ at d) → Lies at e → Lies bt e
    same_point e at bt h p = subst (λ (at : ℕ → ℤ). Lies at e) (sym (fun_ext h)) p

    -- each of so many cells may have any number of its type
    pub any_new : (f : Frame) (k n : ℕ) (env : D.Env) (at bt : ℕ → ℤ) → ((c : ℕ) → k ≤ c → c < k + n → L.IsCell c × Within (range_of (x.num c)) (bt c)) → ((num : Num) → IsIn num (range_of num)) → Good x D L f env →
        Alike k n at bt → Lies at env → AliveAnd (Lies bt) (any_from D x k n env)
    unfolding any_from
    any_new f k zero env at bt cells ranges g h p = same_point env at bt (at_end k at bt h) p
    any_new f k (suc n) env at bt cells ranges g h p =
        let here = cells k (omega arith) (omega arith) in
        let o : IsOfType x D L (x.num k) k = record { cell = here.0; same = refl } in
        let mid = first_of k at bt in
        let new = L.assign_sound f k (range_of (x.num k)) None env at mid time here.0 g.under g.closed p (first_agrees k at bt) (subst (λ (z : ℤ). Within (range_of (x.num k)) z) (sym (first_same k at bt)) here.1) tt in
        alive_on (λ e. Lies mid e × Good x D L f e) (Lies bt) (D.assign k (range_of (x.num k)) None env) (any_from D x (k + 1) n)
        (alive_both (Lies mid) (Good x D L f) (D.assign k (range_of (x.num k)) None env) new (assign_good f (x.num k) k (range_of (x.num k)) None env g o (ranges (x.num k))))
        (λ e q. any_new f (k + 1) n e mid bt (λ c a b. cells c (omega (arith, a)) (omega (arith, b))) ranges q.1 (alike_next k n at bt h) q.0)

    -- the numbers of a point lie between the ends of cells from one on
    abbrev pub InEnds : ℕ → List Ends → (ℕ → ℤ) → Type 0
    InEnds k [] bt = Unit {0}
    InEnds k (e ∷ es) bt = Within (between D x e) (bt k) × InEnds (k + 1) es bt

    pub items_new : (f : Frame) (k : ℕ) (es : List Ends) (env : D.Env) (at bt : ℕ → ℤ) → AreEnds k es → InEnds k es bt → Good x D L f env → Alike k (length es) at bt → Lies at env → AliveAnd (Lies bt) (items_from D x k es env)
    unfolding items_from
    items_new f k [] env at bt a i g h p = same_point env at bt (at_end k at bt h) p
    items_new f k (e ∷ es) env at bt a i g h p =
        let o : IsOfType x D L (x.num k) k = record { cell = a.0.0; same = refl } in
        let mid = first_of k at bt in
        let new = L.assign_sound f k (between D x e) None env at mid time a.0.0 g.under g.closed p (first_agrees k at bt) (subst (λ (z : ℤ). Within (between D x e) z) (sym (first_same k at bt)) i.0) tt in
        alive_on (λ e. Lies mid e × Good x D L f e) (Lies bt) (D.assign k (between D x e) None env) (items_from D x (k + 1) es)
        (alive_both (Lies mid) (Good x D L f) (D.assign k (between D x e) None env) new (assign_good f (x.num k) k (between D x e) None env g o a.0.1))
        (λ j q. items_new f (k + 1) es j mid bt a.1 i.1 q.1 (alike_next k (length es) at bt h) q.0)

  -- ---- states
  -- what a cell may have before and after, where it gets the number of an operand: each point after is one before but at the
  -- cell, or, where the cell stands for several elements, may be one before
  abbrev pub Moves : (before after : ℕ → ℤ → Type 0) → ℕ → Operand D.Env → D.Env → Type 0
  Moves before after c a env = (bt : ℕ → ℤ) → Pick x D L after bt →
      ((at : ℕ → ℤ) × Pick x D L before at × Agree c at bt × InSpan (a.span env) (bt c) × IfAlive (λ h. form_number h at ≡ bt c) (a.form env)) ⊎ ((x.starred c ≡ true) × Pick x D L before bt)

  pub store_now : (f : Frame) (num : Num) (before after : ℕ → ℤ → Type 0) (one : ℕ → ℤ) (time : ℤ) (t : Target D.Env) (a : Operand D.Env) (env : D.Env) (c : ℕ) → Pick x D L after one → Leads x D L num t →
      Fits x D L num a → Good x D L f env → Holds x D L before time env → AliveAnd (IsAmong c) (t.cells env) → InSpanAny (a.span env) → Moves before after c a env → AliveAnd (Holds x D L after time) (store_at D x t a env)
  store_now f num before after one time t a env c picked l h g holds among some moves = from (t.cells env) (l.cells f env g) among (a.span env) (h.span f env g) some (λ bt q. moves bt q)
    where
      from : (ks : Option (List ℕ)) → IfAlive (AllOfType x D L num) ks → AliveAnd (IsAmong c) ks → (s : Option Span) → InType num s → InSpanAny s →
          ((bt : ℕ → ℤ) → Pick x D L after bt → ((at : ℕ → ℤ) × Pick x D L before at × Agree c at bt × InSpan s (bt c) × IfAlive (λ h. form_number h at ≡ bt c) (a.form env)) ⊎ ((x.starred c ≡ true) × Pick x D L before bt)) →
          AliveAnd (Holds x D L after time) (alive_then ks (λ ks. alive_then s (λ s. stored D x ks s (a.form env) env)))
      from None o m s i j k = absurd m
      from (Some ks) o m None i j k = absurd j
      from (Some ks) o m (Some s) i j k =
          alive_all x D L after one picked (λ e bt. D.Point e bt time) (stored D x ks s (a.form env) env) (λ bt q. by bt (k bt q))
        where
          with_form : (o : Option Form) (at bt : ℕ → ℤ) → IfAlive (IsForm L.IsCell) o → IfAlive (λ h. form_number h at ≡ bt c) o → IfAlive (λ h. IsForm L.IsCell h × (form_number h at ≡ bt c)) o
          with_form None at bt u v = tt
          with_form (Some h) at bt u v = (u, v)

          by : (bt : ℕ → ℤ) → ((at : ℕ → ℤ) × Pick x D L before at × Agree c at bt × Within s (bt c) × IfAlive (λ h. form_number h at ≡ bt c) (a.form env)) ⊎ ((x.starred c ≡ true) × Pick x D L before bt) →
              AliveAnd (λ e. D.Point e bt time) (stored D x ks s (a.form env) env)
          by bt (inl u) = stored_new time f num ks c s (a.form env) env u.0 bt g o i m u.2 u.3 (with_form (a.form env) u.0 bt (h.form env) u.4) (holds u.0 u.1)
          by bt (inr v) = stored_old time f num ks c s (a.form env) env bt g o i m v.0 (holds bt v.1)

  -- one number of one cell changes
  abbrev pub Updates : (before after : ℕ → ℤ → Type 0) → ℕ → ℤ → Type 0
  Updates before after c z = (bt : ℕ → ℤ) → Pick x D L after bt → ((at : ℕ → ℤ) × Pick x D L before at × Agree c at bt × (bt c ≡ z)) ⊎ ((x.starred c ≡ true) × Pick x D L before bt)

  some_span : (o : Option Span) (z : ℤ) → InSpan o z → InSpanAny o
  some_span None z h = absurd h
  some_span (Some s) z h = tt

  -- the number that an operand shows
  pub assign_now : (f : Frame) (num : Num) (before after : ℕ → ℤ → Type 0) (first one : ℕ → ℤ) (time : ℤ) (before_picked : Pick x D L before first) (t : Target D.Env) (a : Operand D.Env) (env : D.Env) (c : ℕ) (z : ℤ) →
      Pick x D L after one → Leads x D L num t → Fits x D L num a → Good x D L f env → Holds x D L before time env → AliveAnd (IsAmong c) (t.cells env) → Shows x D L before first before_picked time a env z → Updates before after c z →
      AliveAnd (Holds x D L after time) (store_at D x t a env)
  assign_now f num before after first one time bp t a env c z picked l h g holds among shows updates =
      store_now f num before after one time t a env c picked l h g holds among (some_span (a.span env) z shows.span) (λ bt q. by bt (updates bt q))
    where
      number : (o : Option Form) (at bt : ℕ → ℤ) → bt c ≡ z → Pick x D L before at → IsNumber x D L before first bp time z o → IfAlive (λ h. form_number h at ≡ bt c) o
      number None at bt e q n = tt
      number (Some h) at bt e q n = n at q ∙ sym e

      by : (bt : ℕ → ℤ) → ((at : ℕ → ℤ) × Pick x D L before at × Agree c at bt × (bt c ≡ z)) ⊎ ((x.starred c ≡ true) × Pick x D L before bt) →
          ((at : ℕ → ℤ) × Pick x D L before at × Agree c at bt × InSpan (a.span env) (bt c) × IfAlive (λ h. form_number h at ≡ bt c) (a.form env)) ⊎ ((x.starred c ≡ true) × Pick x D L before bt)
      by bt (inl u) = inl (u.0, u.1, u.2, subst (λ (z : ℤ). InSpan (a.span env) z) (sym u.3) shows.span, number (a.form env) u.0 bt u.3 u.1 shows.form)
      by bt (inr v) = inr v

  -- ---- an index that is kept
  pub keep_good : (f : Frame) (num : Num) (c size : ℕ) (i : Meaning D.Env) (env : D.Env) → IsOfType x D L num c → Fit x D L num i → Good x D L f env → GoodIf x D L f (keep D x c size i env)
  keep_good f num c size i env o h g = from (i.value.span env) (h.value.span f env g)
    where
      met_in : (s : Span) → IsIn num s → IfAlive (λ s. IsIn num s) (meet_of s (indices size))
      met_in s k = if_alive_is (Meets s (indices size)) (λ t. IsIn num t) (meet_of s (indices size)) (λ t m. narrower s t k m) (meet_meets s (indices size))
        where
          narrower : (s t : Span) → IsIn num s → Meets s (indices size) t → IsIn num t
          narrower s t k m =
              let a = m.first.above in
              let b = m.first.below in
              let c = k.part.above in
              let d = k.part.below in
              record { ordered = m.ordered; part = record { above = omega (arith, ints); below = omega (arith, ints) } }

      from : (s : Option Span) → InType num s → GoodIf x D L f (alive_then s (λ s. alive_then (meet_of s (indices size)) (λ s. D.assign c s None env)))
      from None k = tt
      from (Some s) k = alive_keeps (λ t. IsIn num t) (Good x D L f) (meet_of s (indices size)) (λ t. D.assign c t None env) (met_in s k) (λ t m. assign_good f num c t None env g o m)

  pub keep_now : (f : Frame) (num : Num) (before after : ℕ → ℤ → Type 0) (one : ℕ → ℤ) (time : ℤ) (c size k : ℕ) (i : Meaning D.Env) (env : D.Env) → Pick x D L after one → IsOfType x D L num c → Fit x D L num i → Good x D L f env →
      Holds x D L before time env → InSpan (i.value.span env) (pos k) → k < size → ((bt : ℕ → ℤ) → Pick x D L after bt → (at : ℕ → ℤ) × Pick x D L before at × Agree c at bt × (bt c ≡ pos k)) →
      AliveAnd (Holds x D L after time) (keep D x c size i env)
  keep_now f num before after one time c size k i env picked o h g holds shown less updates = from (i.value.span env) shown
    where
      met : (s t : Span) → Within t (pos k) → (m : Option Span) → m ≡ Some t → AliveAnd (Holds x D L after time) (alive_then m (λ s. D.assign c s None env))
      met s t w m e =
          subst (λ (m : Option Span). AliveAnd (Holds x D L after time) (alive_then m (λ s. D.assign c s None env))) (sym e)
          (alive_all x D L after one picked (λ e bt. D.Point e bt time) (D.assign c t None env)
          (λ bt q. let u = updates bt q in L.assign_sound f c t None env u.0 bt time o.cell g.under g.closed (holds u.0 u.1) u.2 (subst (λ (z : ℤ). Within t z) (sym u.3) w) tt))

      found : (s : Span) (m : Option Span) → meet_of s (indices size) ≡ m → InSpan m (pos k) → AliveAnd (Holds x D L after time) (alive_then (meet_of s (indices size)) (λ s. D.assign c s None env))
      found s None e w = absurd w
      found s (Some t) e w = met s t w (meet_of s (indices size)) e

      from : (s : Option Span) → InSpan s (pos k) → AliveAnd (Holds x D L after time) (alive_then s (λ s. alive_then (meet_of s (indices size)) (λ s. D.assign c s None env)))
      from None w = absurd w
      from (Some s) w = found s (meet_of s (indices size)) refl (meet_some s (indices size) (pos k) w (in_indices size k less))
