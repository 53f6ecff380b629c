-- Intervals and a clock owe nothing to the laws of a domain.
use Rattle.std.proofs.Common.{ℕ, ◌≤ℤ◌, sym, subst, arith}
use Rattle.std.proofs.lemmas.Int.{ints}
use Rattle.sa_interval.specs.Span.{high_limit}
use Rattle.sa_typed.specs.Evaluation.{Setting}
use Rattle.sa_typed.specs.Executions.{simple_value}
use Rattle.sa_typed.specs.WellTyped.{IsTyped}
use Rattle.sa_typed.specs.declared.program.Place.{Place}
use Rattle.sa_typed.specs.declared.program.Program.{Program}
use Rattle.sa_reference.specs.Intervals.{intervals}
use Rattle.sa_reference.specs.Assignments.{simple_of, simple_alarms}
use Rattle.sa_reference.specs.Fair.{IsFair}
use Rattle.sa_reference.specs.Sound.{IsWithin}
use Rattle.sa_reference.proofs.Laws.{Laws, Covers, main_base}
use Rattle.sa_reference.proofs.EnvLaws.{tick_holds, le_holds, tick_fair, merge_fair, widen_fair, top_fair, merge_holds_left, merge_holds_right, all_below_top}
use Rattle.sa_reference.proofs.ValueLaws.{OperatorFacts}
use Rattle.sa_reference.proofs.AssignLaws.{HoldsAfter, begin_holds, begin_fair}
use Rattle.sa_reference.proofs.SimpleLaws.{simple_sound, simple_keeps}

pub interval_laws : (p : Program) (w : Setting) → OperatorFacts → IsTyped p → IsWithin p w → Laws p w (intervals p w)
interval_laws p w F typed within =
    let m = w.max_clock in
    let last = within.last in
    let big : m ≤ℤ high_limit = omega (arith, ints, last) in
    record {
      Under = IsFair p m;
      simple_sound = λ s env store time tape t u h.
          subst (λ (base : ℕ → Place). Covers (λ st. HoldsAfter p time (simple_of p w s env) st) (simple_alarms p w s env) (simple_value p w (record { base = base; clock = time }) s store tape))
          (sym (main_base p)) (simple_sound p w F within store time env u.cells h s tape t);
      tick_sound = λ env store time u h f. tick_holds p m env store time big u h f;
      le_sound = λ a b store time e h. le_holds p m a b store time e h;
      reduce_sound = λ a store time h. h;
      initial_sound = begin_holds p typed;
      simple_keeps = λ s a t u. simple_keeps p w F within typed m a u s t;
      tick_keeps = λ a u. tick_fair p m a u;
      merge_keeps = λ a b u v. merge_fair p m a b u v;
      widen_keeps = λ q a b u v. widen_fair p m q a b u v;
      reduce_keeps = λ a u. u;
      top_keeps = top_fair p m within.clock;
      initial_keeps = begin_fair p typed m within.clock;
      merge_left = λ a b store time u v h. merge_holds_left p m a b store time v h;
      merge_right = λ a b store time u v h. merge_holds_right p m a b store time u h;
      below_top = λ a u. all_below_top p m a u;
    }
