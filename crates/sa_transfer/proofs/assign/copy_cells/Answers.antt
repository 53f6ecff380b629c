use Rattle.sa_typed.specs.Cells.{cells}
use Rattle.std.proofs.Common.{◌∙◌}
use Rattle.sa_transfer.proofs.StoreLaws.{copied_is}
use Rattle.sa_transfer.proofs.assign.copy_cells.Goals as goal

pub returns-clause-ok : goal.returns-clause-ok
returns-clause-ok c =
    c.copy_by.ensures ∙ rw (c.as_slice-2.ensures, c.requires.ground.starred, c.as_slice-3.ensures.value, c.in_ok-new.ensures, c.as_slice.ensures) (copied_is (cells c.args.program.now) c.args.ks.now c.args.ds.now c.args.spans.now c.args.spans.now)
