use Rattle.std.proofs.Common.{rules, ◌≡◌, ◌∙◌, ◌^◌, ◌≤◌, sym, subst, arith}
use Rattle.sa_dbm.specs.Tables.{IsWithin}
use Rattle.sa_dbm.proofs.Sizes.{within_more}
use Rattle.test_dbm.proofs.tests.goes_on_after_a_closure.Goals as goal

pub loop-k-init : goal.loop-k-init
loop-k-init g c = record { vars = c.in_ok-m.ensures.vars; within = c.in_ok-m.ensures.within 200 }

pub loop-k-preserved : goal.loop-k-preserved
loop-k-preserved g c = record {
  vars = c.tighten-in-loop-k.ensures.vars ∙ c.tighten.ensures.vars ∙ c.loop-k.invariant.vars;
  within = c.tighten-in-loop-k.ensures.within 200 (c.tighten.ensures.within 200 c.loop-k.invariant.within (search rules)) (search rules);
}

pub loop-k-2-preserved : goal.loop-k-2-preserved
loop-k-2-preserved g c = record {
  vars = c.tighten-in-loop-k-2.ensures.vars ∙ c.loop-k-2.invariant.vars;
  within = c.tighten-in-loop-k-2.ensures.within 200 c.loop-k-2.invariant.within (search rules);
}

pub tighten-requires-then-eq-clause-within : goal.tighten-requires-then-eq-clause-within
tighten-requires-then-eq-clause-within g c =
    subst (IsWithin (2 ^ 100)) (sym c.in_ok-again.ensures) (within_more 6400 (2 ^ 100) _ (search rules) (c.close-answer.ensures.limits.grows 200 c.loop-k-2.invariant.within))

pub close-requires : goal.close-requires
close-requires g c =
    c.tighten-then-eq.ensures.within (2 ^ 100)
    (subst (IsWithin (2 ^ 100)) (sym c.in_ok-again.ensures) (within_more 6400 (2 ^ 100) _ (search rules) (c.close-answer.ensures.limits.grows 200 c.loop-k-2.invariant.within))) (search rules)

pub close_after-requires-clause-within : goal.close_after-requires-clause-within
close_after-requires-clause-within g c = within_more 6400 (2 ^ 100) _ (search rules) (c.close-answer.ensures.limits.grows 200 c.loop-k-2.invariant.within)
