use Rattle.std.specs.Prelude.{Some}
use Rattle.sa_reference.specs.Values.{fixed_access_cells}
use Rattle.std.proofs.Common.{◌≡◌, rules}
use Rattle.sa_transfer.proofs.ChangeLaws.{copied_stays, copy_steps_to, copy_steps_from}
use Rattle.sa_transfer.proofs.assign.copy_to.Goals as goal

pub fixed_cells-requires-clause-typed : goal.fixed_cells-requires-clause-typed
fixed_cells-requires-clause-typed c = copy_steps_to c.args.program.now c.args.to.now c.args.from.now c.requires.typed

pub fixed_cells-requires-2-clause-typed : goal.fixed_cells-requires-2-clause-typed
fixed_cells-requires-2-clause-typed c = copy_steps_from c.args.program.now c.args.to.now c.args.from.now c.requires.typed

pub returns-in_ok-copy_cells-in-Some-Some-clause-kept : goal.returns-in_ok-copy_cells-in-Some-Some-clause-kept
returns-in_ok-copy_cells-in-Some-Some-clause-kept c =
    let p = c.args.program.now in
    let ks = c.as_slice.result.now in
    let ds = c.as_slice-in-Some-Some.result.now in
    let first : fixed_access_cells p c.args.to.now ≡ Some ks = search rules in
    let second : fixed_access_cells p c.args.from.now ≡ Some ds = search rules in
    rw c.in_ok-copy_cells-in-Some-Some.ensures.ok (copied_stays p c.args.to.now c.args.from.now c.args.env.now.cells ks ds c.requires.typed c.requires.spans first second)
