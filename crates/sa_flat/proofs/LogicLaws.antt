-- `&&`, `||` and `?:`: what isn't evaluated isn't met, and what is evaluated is met in the guarded environment.
use Rattle.std.proofs.Common.{◌≡◌, ℕ, ℤ, pos, Bool, true, false, ◌||◌, not, List, [], ◌++◌, refl, subst, arith, Option, Some, None}
use Rattle.std.specs.Prelude.{if◌then◌else◌, IsTrue}
use Rattle.std.proofs.lemmas.Int.{ints}
use Rattle.sa_base.specs.declared.num.Num.{Num}
use Rattle.sa_base.specs.declared.num.Num.TheVariants.{I32}
use Rattle.sa_base.specs.declared.alarm.Alarm.{Alarm}
use Rattle.sa_interval.specs.Span.{Span, Within}
use Rattle.sa_typed.specs.Arithmetic.{as_num}
use Rattle.sa_typed.specs.Evaluation.{End, Value, Gives, Stops, then_value, and_then, or_else, is_zero}
use Rattle.sa_typed.specs.WellTyped.{converts}
use Rattle.sa_flat.specs.Domain.{Domain}
use Rattle.sa_flat.specs.Meanings.{Meaning, Cells, in_alive, as_operand, truths, is_there, some_zero, some_other, both_hold, one_holds, and_of, or_of, choice_value, choice_of, plain}
use Rattle.sa_flat.specs.Passes.{alive_then}
use Rattle.sa_flat.proofs.Lawful.{Lawful, Frame, AliveAnd}
use Rattle.sa_flat.proofs.Goods.{alive_keeps, alive_both, alive_on, Good, GoodIf, either_good, either_left, either_right, Pick, holds_stable}
use Rattle.sa_flat.proofs.Operands.{InSpan, InType, IsCovered, covered_left, covered_right, operand_in, some_left, some_right, some_join_in}
use Rattle.sa_flat.proofs.MeaningLaws.{Fits, Fit, plain_fit}
use Rattle.sa_flat.proofs.CoverLaws.{Now, Shows, Covers, Means, Always, operand_always, truth_now, always}

-- ---- both results of a test
is_there_alive : {A : Type 0} (P : A → Type 0) (o : Option A) → AliveAnd P o → is_there o ≡ true
is_there_alive P None h = absurd h
is_there_alive P (Some a) h = refl

zero_in_span : (o : Option Span) (z : ℤ) → InSpan o z → is_zero z ≡ true → some_zero o ≡ true
zero_in_span None z h e = absurd h
zero_in_span (Some s) z h e = let a = h.above in let b = h.below in grind (arith, ints)

other_in_span : (o : Option Span) (z : ℤ) → InSpan o z → is_zero z ≡ false → some_other o ≡ true
other_in_span None z h e = absurd h
other_in_span (Some s) z h e = let a = h.above in let b = h.below in grind (arith, ints)

truths_zero : (a b : Bool) → a ≡ true → InSpan (truths a b) (pos 0)
truths_zero a b e = rw e (from b)
  where
    from : (b : Bool) → InSpan (truths true b) (pos 0)
    from true = record { above = omega (arith, ints); below = omega (arith, ints) }
    from false = record { above = omega (arith, ints); below = omega (arith, ints) }

truths_one : (a b : Bool) → b ≡ true → InSpan (truths a b) (pos 1)
truths_one a b e = rw e (from a)
  where
    from : (a : Bool) → InSpan (truths a true) (pos 1)
    from true = record { above = omega (arith, ints); below = omega (arith, ints) }
    from false = record { above = omega (arith, ints); below = omega (arith, ints) }

truths_in : (a b : Bool) → InType I32 (truths a b)
truths_in true true = record { ordered = omega (arith, ints); part = record { above = omega (arith, ints); below = omega (arith, ints) } }
truths_in true false = record { ordered = omega (arith, ints); part = record { above = omega (arith, ints); below = omega (arith, ints) } }
truths_in false true = record { ordered = omega (arith, ints); part = record { above = omega (arith, ints); below = omega (arith, ints) } }
truths_in false false = tt

or_left : (a b : Bool) → a ≡ true → (a || b) ≡ true
or_left a b e = rw e refl

or_right : (a b : Bool) → b ≡ true → (a || b) ≡ true
or_right true b e = refl
or_right false b e = e

in_alive_covered : {A : Type 0} (P : A → Type 0) (o : Option A) (alarms : A → List Alarm) (end : End) → AliveAnd P o → ((a : A) → P a → IsCovered (alarms a) end) → IsCovered (in_alive o alarms) end
in_alive_covered P None alarms end h k = absurd h
in_alive_covered P (Some a) alarms end h k = k a h

module _ (x : Cells) (D : Domain) (L : Lawful x D) where
  both_good : (f : Frame) (left right : Num) (a b : Meaning D.Env) → Fit x D L left a → Fit x D L right b → (so : Bool) (env : D.Env) → Good x D L f env → GoodIf x D L f (both_hold D a b so env)
  both_good f left right a b h k true env g = alive_keeps (Good x D L f) (Good x D L f) (a.guard true env) (b.guard true) (h.guard f true env g) (λ e g. k.guard f true e g)
  both_good f left right a b h k false env g =
      either_good x D L f (a.guard false env) (alive_then (a.guard true env) (b.guard false)) (h.guard f false env g)
      (alive_keeps (Good x D L f) (Good x D L f) (a.guard true env) (b.guard false) (h.guard f true env g) (λ e g. k.guard f false e g))

  one_good : (f : Frame) (left right : Num) (a b : Meaning D.Env) → Fit x D L left a → Fit x D L right b → (so : Bool) (env : D.Env) → Good x D L f env → GoodIf x D L f (one_holds D a b so env)
  one_good f left right a b h k false env g = alive_keeps (Good x D L f) (Good x D L f) (a.guard false env) (b.guard false) (h.guard f false env g) (λ e g. k.guard f false e g)
  one_good f left right a b h k true env g =
      either_good x D L f (a.guard true env) (alive_then (a.guard false env) (b.guard true)) (h.guard f true env g)
      (alive_keeps (Good x D L f) (Good x D L f) (a.guard false env) (b.guard true) (h.guard f false env g) (λ e g. k.guard f true e g))

  pub and_fit : (left right : Num) (a b : Meaning D.Env) → Fit x D L left a → Fit x D L right b → Fit x D L I32 (and_of D a b)
  unfolding and_of
  and_fit left right a b h k = record {
    value = record { span = λ f env g. truths_in _ _; form = λ env. tt };
    guard = λ f so env g. both_good f left right a b h k so env g;
  }

  pub or_fit : (left right : Num) (a b : Meaning D.Env) → Fit x D L left a → Fit x D L right b → Fit x D L I32 (or_of D a b)
  unfolding or_of
  or_fit left right a b h k = record {
    value = record { span = λ f env g. truths_in _ _; form = λ env. tt };
    guard = λ f so env g. one_good f left right a b h k so env g;
  }

  spans_in : (f : Frame) (num : Num) (o : Option D.Env) (span : D.Env → Option Span) → GoodIf x D L f o → ((env : D.Env) → Good x D L f env → InType num (span env)) → InType num (alive_then o span)
  spans_in f num None span h k = tt
  spans_in f num (Some e) span h k = k e h

  pub choice_fits : (from left right num : Num) (a b c : Meaning D.Env) → IsTrue (converts left num) → IsTrue (converts right num) → Fit x D L from a → Fit x D L left b → Fit x D L right c →
      Fits x D L num (choice_value D num a b c)
  choice_fits from left right num a b c cb cc fa fb fc = record {
    span = λ f env g. some_join_in num _ _ (spans_in f num (a.guard true env) (as_operand num b.value).span (fa.guard f true env g) (λ e g. operand_in left num (b.value.span e) cb (fb.value.span f e g)))
        (spans_in f num (a.guard false env) (as_operand num c.value).span (fa.guard f false env g) (λ e g. operand_in right num (c.value.span e) cc (fc.value.span f e g)));
    form = λ env. tt;
  }

  pub choice_fit : (from left right num : Num) (a b c : Meaning D.Env) → IsTrue (converts left num) → IsTrue (converts right num) → Fit x D L from a → Fit x D L left b → Fit x D L right c →
      Fit x D L num (choice_of D num a b c)
  unfolding choice_of
  choice_fit from left right num a b c cb cc fa fb fc = plain_fit x D L num (choice_value D num a b c) _ (choice_fits from left right num a b c cb cc fa fb fc)

module _ (x : Cells) (D : Domain) (L : Lawful x D) (has : ℕ → ℤ → Type 0) (one : ℕ → ℤ) (picked : Pick x D L has one) (time : ℤ) where
  abbrev Here : D.Env → Type 0
  Here e = Now x D L has one picked time e

  -- what a guard leaves holds and is good
  abbrev Both : Frame → D.Env → Type 0
  Both f e = Here e × Good x D L f e

  guarded : (f : Frame) (num : Num) (a : Meaning D.Env) (so : Bool) (env : D.Env) → Good x D L f env → Fit x D L num a → AliveAnd Here (a.guard so env) → AliveAnd (Both f) (a.guard so env)
  guarded f num a so env g h k = alive_both Here (Good x D L f) (a.guard so env) k (h.guard f so env g)

  zero_is : (z : ℤ) (b : Bool) (P : Bool → Type 0) → is_zero z ≡ b → P (not (is_zero z)) → P (not b)
  zero_is z b P e h = subst (λ (b : Bool). P (not b)) e h

  -- the second part in the environment where the first is so
  second_alarms : (f : Frame) (b : Meaning D.Env) (o : Option D.Env) (next : List ℤ → Value ℤ) (t : List ℤ) (end : End) → Means x D L has one picked time b next → AliveAnd (Both f) o → next t ≡ Stops end →
      IsCovered (in_alive o b.alarms) end
  second_alarms f b o next t end hb h e =
      in_alive_covered (Both f) o b.alarms end h (λ i p. subst (λ (v : Value ℤ). Covers x D L has one picked time b i v) e (hb f i t p.1 p.0))

  second_span : (f : Frame) (b : Meaning D.Env) (o : Option D.Env) (next : List ℤ → Value ℤ) (t u : List ℤ) (z : ℤ) → Means x D L has one picked time b next → AliveAnd (Both f) o → next t ≡ Gives z u →
      InSpan (alive_then o b.value.span) z
  second_span f b o next t u z hb h e = alive_on (Both f) (λ s. Within s z) o b.value.span h (λ i p. (always x D L has one picked time b next t u z hb e f i p.1 p.0).span)

  second_guard : (f : Frame) (b : Meaning D.Env) (o : Option D.Env) (next : List ℤ → Value ℤ) (t u : List ℤ) (z : ℤ) (so : Bool) → Means x D L has one picked time b next → AliveAnd (Both f) o → next t ≡ Gives z u →
      is_zero z ≡ so → AliveAnd Here (alive_then o (b.guard (not so)))
  second_guard f b o next t u z so hb h e is =
      alive_on (Both f) Here o (b.guard (not so)) h (λ i p.
      let c : Covers x D L has one picked time b i (Gives z u) = subst (λ (v : Value ℤ). Covers x D L has one picked time b i v) e (hb f i t p.1 p.0) in
      zero_is z so (λ so. AliveAnd Here (b.guard so i)) is c.1)

  pub and_means : (left right : Num) (a b : Meaning D.Env) (go next : List ℤ → Value ℤ) → Fit x D L left a → Fit x D L right b → Means x D L has one picked time a go → Means x D L has one picked time b next →
      Means x D L has one picked time (and_of D a b) (λ tape. and_then (go tape) (λ tape. and_then (next tape) (λ tape. Gives (pos 1) tape)))
  unfolding and_of
  and_means left right a b go next fa fb ha hb f env tape g n = first (go tape) refl
    where
      holds : Bool → Option D.Env
      holds so = a.guard so env

      good : (so : Bool) → GoodIf x D L f (a.guard so env)
      good so = fa.guard f so env g

      inner_good : (so : Bool) → GoodIf x D L f (alive_then (a.guard true env) (b.guard so))
      inner_good so = alive_keeps (Good x D L f) (Good x D L f) (a.guard true env) (b.guard so) (fa.guard f true env g) (λ e g. fb.guard f so e g)

      second : (t : List ℤ) → AliveAnd (Both f) (a.guard true env) → (v : Value ℤ) → next t ≡ v → Covers x D L has one picked time (and_of D a b) env (and_then v (λ tape. Gives (pos 1) tape))
      second t h (Stops end) e = covered_right (a.alarms env) (in_alive (a.guard true env) b.alarms) end (second_alarms f b (a.guard true env) next t end hb h e)
      second t h (Gives z u) e =
          elim (is_zero z) as (λ q. is_zero z ≡ q → Covers x D L has one picked time (and_of D a b) env (if q then Gives (pos 0) u else Gives (pos 1) u)) [
            | true ↦ λ q. (
              record {
                span = truths_zero _ _ (or_right (is_there (a.guard false env)) _ (zero_in_span _ z (second_span f b (a.guard true env) next t u z hb h e) q));
                form = tt;
              },
              either_right x D L Here (holds_stable x D L has time one picked) f (a.guard false env) (alive_then (a.guard true env) (b.guard false)) (good false) (inner_good false)
                  (second_guard f b (a.guard true env) next t u z true hb h e q),
            )
            | false ↦ λ q. (
              record {
                span = truths_one _ _ (other_in_span _ z (second_span f b (a.guard true env) next t u z hb h e) q);
                form = tt;
              },
              second_guard f b (a.guard true env) next t u z false hb h e q,
            )
          ] refl

      first : (v : Value ℤ) → go tape ≡ v → Covers x D L has one picked time (and_of D a b) env (and_then v (λ tape. and_then (next tape) (λ tape. Gives (pos 1) tape)))
      first (Stops end) e = covered_left (a.alarms env) (in_alive (a.guard true env) b.alarms) end (subst (λ (v : Value ℤ). Covers x D L has one picked time a env v) e (ha f env tape g n))
      first (Gives y t) e =
          let c : Covers x D L has one picked time a env (Gives y t) = subst (λ (v : Value ℤ). Covers x D L has one picked time a env v) e (ha f env tape g n) in
          elim (is_zero y) as (λ q. is_zero y ≡ q → Covers x D L has one picked time (and_of D a b) env (if q then Gives (pos 0) t else and_then (next t) (λ tape. Gives (pos 1) tape))) [
            | true ↦ λ q.
                let no : AliveAnd Here (a.guard false env) = zero_is y true (λ so. AliveAnd Here (a.guard so env)) q c.1 in (
                  record { span = truths_zero _ _ (or_left _ _ (is_there_alive Here (a.guard false env) no)); form = tt },
                  either_left x D L Here (holds_stable x D L has time one picked) f (a.guard false env) (alive_then (a.guard true env) (b.guard false)) (good false) (inner_good false) no,
                )
            | false ↦ λ q. second t (guarded f left a true env g fa (zero_is y false (λ so. AliveAnd Here (a.guard so env)) q c.1)) (next t) refl
          ] refl

  pub or_means : (left right : Num) (a b : Meaning D.Env) (go next : List ℤ → Value ℤ) → Fit x D L left a → Fit x D L right b → Means x D L has one picked time a go → Means x D L has one picked time b next →
      Means x D L has one picked time (or_of D a b) (λ tape. or_else (go tape) (λ tape. or_else (next tape) (λ tape. Gives (pos 0) tape)))
  unfolding or_of
  or_means left right a b go next fa fb ha hb f env tape g n = first (go tape) refl
    where
      good : (so : Bool) → GoodIf x D L f (a.guard so env)
      good so = fa.guard f so env g

      inner_good : (so : Bool) → GoodIf x D L f (alive_then (a.guard false env) (b.guard so))
      inner_good so = alive_keeps (Good x D L f) (Good x D L f) (a.guard false env) (b.guard so) (fa.guard f false env g) (λ e g. fb.guard f so e g)

      second : (t : List ℤ) → AliveAnd (Both f) (a.guard false env) → (v : Value ℤ) → next t ≡ v → Covers x D L has one picked time (or_of D a b) env (or_else v (λ tape. Gives (pos 0) tape))
      second t h (Stops end) e = covered_right (a.alarms env) (in_alive (a.guard false env) b.alarms) end (second_alarms f b (a.guard false env) next t end hb h e)
      second t h (Gives z u) e =
          elim (is_zero z) as (λ q. is_zero z ≡ q → Covers x D L has one picked time (or_of D a b) env (if q then Gives (pos 0) u else Gives (pos 1) u)) [
            | true ↦ λ q. (
              record {
                span = truths_zero _ _ (zero_in_span _ z (second_span f b (a.guard false env) next t u z hb h e) q);
                form = tt;
              },
              second_guard f b (a.guard false env) next t u z true hb h e q,
            )
            | false ↦ λ q. (
              record {
                span = truths_one _ _ (or_right (is_there (a.guard true env)) _ (other_in_span _ z (second_span f b (a.guard false env) next t u z hb h e) q));
                form = tt;
              },
              either_right x D L Here (holds_stable x D L has time one picked) f (a.guard true env) (alive_then (a.guard false env) (b.guard true)) (good true) (inner_good true)
                  (second_guard f b (a.guard false env) next t u z false hb h e q),
            )
          ] refl

      first : (v : Value ℤ) → go tape ≡ v → Covers x D L has one picked time (or_of D a b) env (or_else v (λ tape. or_else (next tape) (λ tape. Gives (pos 0) tape)))
      first (Stops end) e = covered_left (a.alarms env) (in_alive (a.guard false env) b.alarms) end (subst (λ (v : Value ℤ). Covers x D L has one picked time a env v) e (ha f env tape g n))
      first (Gives y t) e =
          let c : Covers x D L has one picked time a env (Gives y t) = subst (λ (v : Value ℤ). Covers x D L has one picked time a env v) e (ha f env tape g n) in
          elim (is_zero y) as (λ q. is_zero y ≡ q → Covers x D L has one picked time (or_of D a b) env (if q then or_else (next t) (λ tape. Gives (pos 0) tape) else Gives (pos 1) t)) [
            | true ↦ λ q. second t (guarded f left a false env g fa (zero_is y true (λ so. AliveAnd Here (a.guard so env)) q c.1)) (next t) refl
            | false ↦ λ q.
                let so : AliveAnd Here (a.guard true env) = zero_is y false (λ so. AliveAnd Here (a.guard so env)) q c.1 in (
                  record { span = truths_one _ _ (or_left _ _ (is_there_alive Here (a.guard true env) so)); form = tt },
                  either_left x D L Here (holds_stable x D L has time one picked) f (a.guard true env) (alive_then (a.guard false env) (b.guard true)) (good true) (inner_good true) so,
                )
          ] refl

  -- ---- `?:`
  branch_shows : (from num : Num) (b : Meaning D.Env) (o : Option D.Env) (z : ℤ) (f : Frame) → IsTrue (converts from num) → Fit x D L from b → Always x D L has one picked time b.value z → AliveAnd (Both f) o →
      InSpan (alive_then o (as_operand num b.value).span) (as_num num z)
  branch_shows from num b o z f c fb zb h =
      alive_on (Both f) (λ s. Within s (as_num num z)) o (as_operand num b.value).span h (λ i p. (operand_always x D L has one picked time from num b.value z c fb.value zb f i p.1 p.0).span)

  pub choice_means : (from left right num : Num) (a b c : Meaning D.Env) (go yes_go no_go : List ℤ → Value ℤ) → IsTrue (converts left num) → IsTrue (converts right num) → Fit x D L from a → Fit x D L left b → Fit x D L right c →
      Means x D L has one picked time a go → Means x D L has one picked time b yes_go → Means x D L has one picked time c no_go →
      Means x D L has one picked time (choice_of D num a b c) (λ tape. then_value (go tape) (λ y tape. then_value (if is_zero y then no_go tape else yes_go tape) (λ z tape. Gives (as_num num z) tape)))
  unfolding choice_of
  choice_means from left right num a b c go yes_go no_go cb cd fa fb fc ha hb hc f env tape g n = first (go tape) refl
    where
      -- the guard of the condition wherever it is evaluated
      decided : (y : ℤ) (t : List ℤ) (q : Bool) → go tape ≡ Gives y t → is_zero y ≡ q → (f : Frame) (env : D.Env) → Good x D L f env → Here env → AliveAnd (Both f) (a.guard (not q) env)
      decided y t q e z f env g n =
          let k : Covers x D L has one picked time a env (Gives y t) = subst (λ (v : Value ℤ). Covers x D L has one picked time a env v) e (ha f env tape g n) in
          guarded f from a (not q) env g fa (zero_is y q (λ so. AliveAnd Here (a.guard so env)) z k.1)

      shown : (z : ℤ) → Always x D L has one picked time (choice_value D num a b c) z → Shows x D L has one picked time (choice_value D num a b c) env z ×
          AliveAnd Here ((plain D (choice_value D num a b c) (λ env. [])).guard (not (is_zero z)) env)
      shown z k = (k f env g n, truth_now x D L has one picked time f num (choice_value D num a b c) z env g n (choice_fits x D L from left right num a b c cb cd fa fb fc) k)

      no_branch : (y : ℤ) (t : List ℤ) → go tape ≡ Gives y t → is_zero y ≡ true → (v : Value ℤ) → no_go t ≡ v →
          Covers x D L has one picked time (choice_of D num a b c) env (then_value v (λ z tape. Gives (as_num num z) tape))
      no_branch y t e q (Gives z u) k =
          shown (as_num num z) (λ f env g n. record {
            span = some_right _ _ (as_num num z) (branch_shows right num c (a.guard false env) z f cd fc (always x D L has one picked time c no_go t u z hc k) (decided y t true e q f env g n));
            form = tt;
          })
      no_branch y t e q (Stops end) k =
          covered_right (a.alarms env) (in_alive (a.guard true env) b.alarms ++ in_alive (a.guard false env) c.alarms) end
          (covered_right (in_alive (a.guard true env) b.alarms) (in_alive (a.guard false env) c.alarms) end (second_alarms f c (a.guard false env) no_go t end hc (decided y t true e q f env g n) k))

      yes_branch : (y : ℤ) (t : List ℤ) → go tape ≡ Gives y t → is_zero y ≡ false → (v : Value ℤ) → yes_go t ≡ v →
          Covers x D L has one picked time (choice_of D num a b c) env (then_value v (λ z tape. Gives (as_num num z) tape))
      yes_branch y t e q (Gives z u) k =
          shown (as_num num z) (λ f env g n. record {
            span = some_left _ _ (as_num num z) (branch_shows left num b (a.guard true env) z f cb fb (always x D L has one picked time b yes_go t u z hb k) (decided y t false e q f env g n));
            form = tt;
          })
      yes_branch y t e q (Stops end) k =
          covered_right (a.alarms env) (in_alive (a.guard true env) b.alarms ++ in_alive (a.guard false env) c.alarms) end
          (covered_left (in_alive (a.guard true env) b.alarms) (in_alive (a.guard false env) c.alarms) end (second_alarms f b (a.guard true env) yes_go t end hb (decided y t false e q f env g n) k))

      first : (v : Value ℤ) → go tape ≡ v → Covers x D L has one picked time (choice_of D num a b c) env (then_value v (λ y tape. then_value (if is_zero y then no_go tape else yes_go tape) (λ z tape. Gives (as_num num z) tape)))
      first (Stops end) e =
          covered_left (a.alarms env) (in_alive (a.guard true env) b.alarms ++ in_alive (a.guard false env) c.alarms) end (subst (λ (v : Value ℤ). Covers x D L has one picked time a env v) e (ha f env tape g n))
      first (Gives y t) e =
          elim (is_zero y) as (λ q. is_zero y ≡ q → Covers x D L has one picked time (choice_of D num a b c) env (then_value (if q then no_go t else yes_go t) (λ z tape. Gives (as_num num z) tape))) [
            | true ↦ λ q. no_branch y t e q (no_go t) refl
            | false ↦ λ q. yes_branch y t e q (yes_go t) refl
          ] refl
