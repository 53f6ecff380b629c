use Rattle.std.proofs.Common.{rules, ◌^◌, ◌*◌, ◌≤◌}
use Rattle.sa_dbm.proofs.Sizes.{within_more, within-tightened}
use Rattle.test_dbm.proofs.tests.closes_after_one_more_bound.Goals as goal

pub tighten-requires-clause-within : goal.tighten-requires-clause-within
tighten-requires-clause-within g c = c.in_ok-m.ensures.within (2 ^ 100)

pub tighten-requires-2-clause-within : goal.tighten-requires-2-clause-within
tighten-requires-2-clause-within g c = c.tighten.ensures.within (2 ^ 100) (c.in_ok-m.ensures.within (2 ^ 100)) (search rules)

pub close-answer-requires : goal.close-answer-requires
close-answer-requires g c = c.tighten-2.ensures.within (2 ^ 100) (c.tighten.ensures.within (2 ^ 100) (c.in_ok-m.ensures.within (2 ^ 100)) (search rules)) (search rules)

pub close_after-next-requires-clause-within : goal.close_after-next-requires-clause-within
close_after-next-requires-clause-within g c =
    within_more (32 * 2) (2 ^ 100) _ (search rules) (c.close-answer.ensures.limits.grows 2 (c.tighten-2.ensures.within 2 (c.tighten.ensures.within 2 (c.in_ok-m.ensures.within 2) (search rules)) (search rules)))

pub close_after-requires-clause-within : goal.close_after-requires-clause-within
close_after-requires-clause-within g c =
    let two = c.tighten-2.ensures.within 2 (c.tighten.ensures.within 2 (c.in_ok-m.ensures.within 2) (search rules)) (search rules) in
    within_more (32 * (32 * 2)) (2 ^ 100) _ (search rules)
    (c.close_after-next.ensures.limits.grows (32 * 2) (within-tightened (32 * 2) _ 1 0 _ (c.close-answer.ensures.limits.grows 2 two) (search rules)))
