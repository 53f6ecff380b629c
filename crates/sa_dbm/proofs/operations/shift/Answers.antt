use Rattle.std.proofs.Common.{◌∙◌, neg_ℤ, ◌*◌, ◌+◌, Some, refl, ap, arith}
use Rattle.sa_dbm.specs.Bounds.{plus}
use Rattle.sa_numbers.proofs.Sizes.{size-negated}
use Rattle.sa_dbm.proofs.StoredLaws.{argument_shown, negated_shown}
use Rattle.sa_dbm.proofs.NodeLaws.{added_all, added_summable, small_summable, stored_small, number_small}
use Rattle.sa_dbm.proofs.OperationLaws.{shifted_stored}
use Rattle.sa_dbm.proofs.operations.shift.Goals as goal

pub add_at_node-requires-clause-row : goal.add_at_node-requires-clause-row
add_at_node-requires-clause-row c = small_summable _ (number_small _ (neg_ℤ c.args.c) (negated_shown c.args.c c.ranges.c c.requires.c) (rw size-negated c.requires.c))

pub add_at_node-requires-clause-column : goal.add_at_node-requires-clause-column
add_at_node-requires-clause-column c = small_summable _ (number_small _ c.args.c (argument_shown c.args.c c.ranges.c c.requires.c) c.requires.c)

pub add_at_node-requires-clause-summable : goal.add_at_node-requires-clause-summable
add_at_node-requires-clause-summable c = λ i j p q. small_summable _ (stored_small c.args.vars c.args.bounds.now c.requires.within i j p q)

pub add_at_node-requires-2-clause-row : goal.add_at_node-requires-2-clause-row
add_at_node-requires-2-clause-row c = small_summable _ (number_small _ c.args.c (argument_shown c.args.c c.ranges.c c.requires.c) c.requires.c)

pub add_at_node-requires-2-clause-column : goal.add_at_node-requires-2-clause-column
add_at_node-requires-2-clause-column c = small_summable _ (number_small _ (neg_ℤ c.args.c) (negated_shown c.args.c c.ranges.c c.requires.c) (rw size-negated c.requires.c))

pub add_at_node-requires-2-clause-summable : goal.add_at_node-requires-2-clause-summable
add_at_node-requires-2-clause-summable c =
    let step = c.add_at_node in
    let up = argument_shown c.args.c c.ranges.c c.requires.c in
    let down = negated_shown c.args.c c.ranges.c c.requires.c in
    added_summable (2 * c.args.vars) (2 * c.args.var) c.args.bounds.now step.new.bounds (Some (neg_ℤ c.args.c)) (Some c.args.c)
    (added_all (2 * c.args.vars) (2 * c.args.var) c.args.bounds.now step.new.bounds (Some (neg_ℤ c.args.c)) (Some c.args.c)
    (λ i p d. step.ensures.row i p d ∙ ap (plus _) down) (λ i p d. step.ensures.column i p d ∙ ap (plus _) up) step.ensures.others)
    (omega arith) (number_small _ (neg_ℤ c.args.c) refl (rw size-negated c.requires.c)) (number_small _ c.args.c refl c.requires.c) (stored_small c.args.vars c.args.bounds.now c.requires.within)

pub returns : goal.returns
returns c =
    let n = 2 * c.args.vars in
    let one = c.add_at_node in
    let two = c.add_at_node-2 in
    let up = argument_shown c.args.c c.ranges.c c.requires.c in
    let down = negated_shown c.args.c c.ranges.c c.requires.c in
    shifted_stored c.args.vars c.args.var c.args.bounds.now one.new.bounds two.new.bounds c.args.c c.requires.var (two.auto.bounds ∙ one.auto.bounds ∙ c.requires.square)
    (added_all n (2 * c.args.var) c.args.bounds.now one.new.bounds (Some (neg_ℤ c.args.c)) (Some c.args.c)
    (λ i p d. one.ensures.row i p d ∙ ap (plus _) down) (λ i p d. one.ensures.column i p d ∙ ap (plus _) up) one.ensures.others)
    (added_all n (2 * c.args.var + 1) one.new.bounds two.new.bounds (Some c.args.c) (Some (neg_ℤ c.args.c))
    (λ i p d. two.ensures.row i p d ∙ ap (plus _) up) (λ i p d. two.ensures.column i p d ∙ ap (plus _) down) two.ensures.others)
