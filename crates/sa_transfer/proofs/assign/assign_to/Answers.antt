use Rattle.std.proofs.Common.{◌≡◌, ◌∙◌, refl}
use Rattle.sa_typed.specs.Cells.{cells}
use Rattle.sa_reference.specs.Assignments.{assigned}
use Rattle.sa_transfer.proofs.StoreLaws.{assigned_is}
use Rattle.sa_transfer.proofs.ChangeLaws.{assigned_stays}
use Rattle.sa_transfer.proofs.assign.assign_to.Goals as goal

pub returns-in-Some-Some-clause-env : goal.returns-in-Some-Some-clause-env
returns-in-Some-Some-clause-env c =
    let p = c.args.program.now in
    let ks = c.in-Some-Some.ks in
    let s = c.in-Some-Some.s in
    let old = c.args.env.now.cells in
    let now : c.assign_by.new.spans ≡ assigned (cells p) ks s old =
    c.assign_by.ensures ∙ rw (c.as_slice.ensures, c.requires.ground.starred, c.as_slice-in-Some-Some.ensures) (assigned_is (cells p) ks s old) in
    rw (c.in-Some-Some.is-0, c.in-Some-Some.is-1, now) refl

pub returns-in-Some-Some-clause-kept : goal.returns-in-Some-Some-clause-kept
returns-in-Some-Some-clause-kept c =
    let p = c.args.program.now in
    let ks = c.in-Some-Some.ks in
    let s = c.in-Some-Some.s in
    let old = c.args.env.now.cells in
    let now : c.assign_by.new.spans ≡ assigned (cells p) ks s old =
    c.assign_by.ensures ∙ rw (c.as_slice.ensures, c.requires.ground.starred, c.as_slice-in-Some-Some.ensures) (assigned_is (cells p) ks s old) in
    rw now (assigned_stays (cells p) ks s old (rw (c.in-Some-Some.is-0, c.in-Some-Some.is-1) at c.requires.alike) c.requires.spans)
