use Rattle.std.proofs.Common.{rules, ◌∙◌, ◌*◌, ◌<◌, arith, ap}
use Rattle.std.proofs.lemmas.Nat.{mul-add-lt, mul-le}
use Rattle.sa_dbm.specs.Bounds.{lesser}
use Rattle.sa_dbm.proofs.TableLaws.{bar_below}
use Rattle.sa_dbm.proofs.StoredLaws.{argument_shown}
use Rattle.sa_dbm.proofs.OperationLaws.{tightened_stored}
use Rattle.sa_dbm.proofs.operations.tighten.Goals as goal

pub overflow_mul-bar : goal.overflow_mul-bar
overflow_mul-bar c =
    let below : c.bar.result < 2 * c.args.vars = rw c.bar.ensures (bar_below c.args.j c.args.vars c.requires.column) in
    let product = mul-le c.bar.result (2 * c.args.vars) 16 16 (omega arith) (omega arith) in
    search rules

pub overflow_add-bar : goal.overflow_add-bar
overflow_add-bar c =
    let below : c.bar.result < 2 * c.args.vars = rw c.bar.ensures (bar_below c.args.j c.args.vars c.requires.column) in
    let product = mul-le c.bar.result (2 * c.args.vars) 16 16 (omega arith) (omega arith) in
    let other : c.bar-2.result < 2 * c.args.vars = rw c.bar-2.ensures (bar_below c.args.i c.args.vars c.requires.row) in
    search rules

pub lower_at-requires-2 : goal.lower_at-requires-2
lower_at-requires-2 c =
    let below : c.bar.result < 2 * c.args.vars = rw c.bar.ensures (bar_below c.args.j c.args.vars c.requires.column) in
    let other : c.bar-2.result < 2 * c.args.vars = rw c.bar-2.ensures (bar_below c.args.i c.args.vars c.requires.row) in
    omega (arith, mul-add-lt c.bar.result (2 * c.args.vars) c.bar-2.result (2 * c.args.vars) below other, c.requires.square)

pub returns : goal.returns
returns c =
    let n = 2 * c.args.vars in
    let bound = argument_shown c.args.c c.ranges.c c.requires.c in
    tightened_stored c.args.vars c.args.i c.args.j c.args.bounds.now c.lower_at.new.bounds c.lower_at-2.new.bounds c.args.c c.requires.row c.requires.column
    (c.lower_at-2.auto.bounds ∙ c.lower_at.auto.bounds ∙ c.requires.square)
    (c.lower_at.ensures.here ∙ ap (lesser _) bound) c.lower_at.ensures.others
    (rw (c.bar.ensures, c.bar-2.ensures) at c.lower_at-2.ensures.here ∙ ap (lesser _) bound) (rw (c.bar.ensures, c.bar-2.ensures) at c.lower_at-2.ensures.others)
