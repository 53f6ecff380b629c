use Rattle.std.proofs.Common.{◌∙◌, ◌*◌, ◌+◌, None, ap, arith}
use Rattle.sa_dbm.specs.Bounds.{plus}
use Rattle.sa_dbm.specs.Stored.{shown, no_bound}
use Rattle.sa_dbm.proofs.StoredLaws.{shown-no_bound}
use Rattle.sa_dbm.proofs.NodeLaws.{added_all, added_summable, none_small, none_summable, small_summable, stored_small}
use Rattle.sa_dbm.proofs.OperationLaws.{forgotten_stored}
use Rattle.sa_dbm.proofs.operations.forget.Goals as goal

pub add_at_node-requires-clause-row : goal.add_at_node-requires-clause-row
add_at_node-requires-clause-row c = none_summable

pub add_at_node-requires-clause-column : goal.add_at_node-requires-clause-column
add_at_node-requires-clause-column c = none_summable

pub add_at_node-requires-clause-summable : goal.add_at_node-requires-clause-summable
add_at_node-requires-clause-summable c = λ i j p q. small_summable _ (stored_small c.args.vars c.args.bounds.now c.requires.within i j p q)

pub add_at_node-requires-2-clause-row : goal.add_at_node-requires-2-clause-row
add_at_node-requires-2-clause-row c = none_summable

pub add_at_node-requires-2-clause-column : goal.add_at_node-requires-2-clause-column
add_at_node-requires-2-clause-column c = none_summable

pub add_at_node-requires-2-clause-summable : goal.add_at_node-requires-2-clause-summable
add_at_node-requires-2-clause-summable c =
    let step = c.add_at_node in
    added_summable (2 * c.args.vars) (2 * c.args.var) c.args.bounds.now step.new.bounds (shown no_bound) (shown no_bound)
    (added_all (2 * c.args.vars) (2 * c.args.var) c.args.bounds.now step.new.bounds (shown no_bound) (shown no_bound) step.ensures.row step.ensures.column step.ensures.others)
    (omega arith) none_small none_small (stored_small c.args.vars c.args.bounds.now c.requires.within)

pub returns : goal.returns
returns c =
    let n = 2 * c.args.vars in
    let one = c.add_at_node in
    let two = c.add_at_node-2 in
    forgotten_stored c.args.vars c.args.var c.args.bounds.now one.new.bounds two.new.bounds c.requires.var (two.auto.bounds ∙ one.auto.bounds ∙ c.requires.square)
    (added_all n (2 * c.args.var) c.args.bounds.now one.new.bounds None None (λ i p d. one.ensures.row i p d ∙ ap (plus _) shown-no_bound) (λ i p d. one.ensures.column i p d ∙ ap (plus _) shown-no_bound) one.ensures.others)
    (added_all n (2 * c.args.var + 1) one.new.bounds two.new.bounds None None (λ i p d. two.ensures.row i p d ∙ ap (plus _) shown-no_bound) (λ i p d. two.ensures.column i p d ∙ ap (plus _) shown-no_bound) two.ensures.others)
