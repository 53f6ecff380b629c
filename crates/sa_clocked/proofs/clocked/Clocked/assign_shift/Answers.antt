use Rattle.std.proofs.Common.{◌∙◌, ap, ap₂}
use Rattle.std.specs.Int.{w128}
use Rattle.std.proofs.lemmas.Int.{to_z-of_z}
use Rattle.sa_interval.specs.Rows.{sum_of, single}
use Rattle.sa_clocked.specs.Triples.{triple}
use Rattle.sa_clocked.proofs.TripleLaws.{shift_holds, holds_as}
use Rattle.sa_clocked.proofs.clocked.Clocked.assign_shift.Goals as goal

pub returns-clause-rule : goal.returns-clause-rule
returns-clause-rule c =
    let by = c.new-by.ensures ∙ ap single (to_z-of_z w128 c.args.c c.ranges.c) in
    ap₂ (triple c.args.v) (c.add.ensures.row ∙ ap (sum_of c.args.y.minus) by) (c.add-2.ensures.row ∙ ap (sum_of c.args.y.plus) by)

pub returns-clause-holds : goal.returns-clause-holds
returns-clause-holds c = λ x t h k.
    let by = c.new-by.ensures ∙ ap single (to_z-of_z w128 c.args.c c.ranges.c) in
    holds_as c.args.v _ _ c.add.result c.add-2.result _ t (c.add.ensures.row ∙ ap (sum_of c.args.y.minus) by) (c.add-2.ensures.row ∙ ap (sum_of c.args.y.plus) by)
    (shift_holds c.args.y c.args.v c.args.c x t c.requires.y c.requires.c h k)
