use Rattle.std.proofs.Common.{◌≡◌, ◌∙◌, ap, sym, refl, ℕ, List, ◌++◌, Option}
use Rattle.sa_interval.specs.Span.{Span}
use Rattle.sa_operators.specs.Operators.{operator_alarms}
use Rattle.sa_reference.specs.Sound.{widest}
use Rattle.sa_reference.specs.Values.{access_cells, access_alarms, span_of, alarms_of, linked, with_both}
use Rattle.sa_reference.specs.Assignments.{assign_to, assign_alarms, value_as, read_of, simple_of, simple_alarms}
use Rattle.sa_transfer.proofs.FormLaws.{access_steps}
use Rattle.sa_transfer.proofs.ChangeLaws.{access_alike, access_read}
use Rattle.sa_transfer.proofs.ListLaws.{two_parts}
use Rattle.sa_transfer.proofs.assign.compound.Goals as goal

pub named_cells-requires-clause-typed : goal.named_cells-requires-clause-typed
named_cells-requires-clause-typed c = access_steps c.args.program.now _ c.args.access.now c.requires.access

pub compound_value-requires-clause-left : goal.compound_value-requires-clause-left
compound_value-requires-clause-left c =
    rw (c.read_of-left.ensures, c.as_slice.ensures, c.in_ok-ks.ensures.value) (access_read c.args.program.now c.args.env.now c.requires.spans c.args.access.now c.args.num c.requires.access)

pub assign_to-requires-clause-alike : goal.assign_to-requires-clause-alike
assign_to-requires-clause-alike c = rw c.in_ok-ks.ensures.value (access_alike c.args.program.now c.args.env.now c.requires.spans c.args.access.now c.args.num c.in_ok-s.s c.requires.access c.in_ok-s.ensures.in_type)

pub returns-clause-env : goal.returns-clause-env
unfolding simple_of
returns-clause-env c =
    let p = c.args.program.now in
    let env = c.args.env.now in
    let ks = access_cells p (widest p) env c.args.access.now in
    let right = span_of p (widest p) env c.args.e.now in
    let left : c.read_of-left.result ≡ read_of env ks = rw (c.read_of-left.ensures, c.as_slice.ensures, c.in_ok-ks.ensures.value) refl in
    let s = c.in_ok-s.ensures.value ∙ ap (λ (o : Option Span). value_as c.args.num (linked c.args.op c.args.work o right)) left in
    sym (ap (λ (o : Option (List ℕ)). assign_to p env o c.in_ok-s.s) c.in_ok-ks.ensures.value ∙ ap (λ (o : Option Span). assign_to p env ks o) s) ∙ c.assign_to.ensures.env

pub returns-clause-alarms : goal.returns-clause-alarms
unfolding simple_alarms
returns-clause-alarms c =
    let p = c.args.program.now in
    let env = c.args.env.now in
    let ks = access_cells p (widest p) env c.args.access.now in
    let right = span_of p (widest p) env c.args.e.now in
    let left : c.read_of-left.result ≡ read_of env ks = rw (c.read_of-left.ensures, c.as_slice.ensures, c.in_ok-ks.ensures.value) refl in
    two_parts _ _ _ _ _ _ _ c.in_ok-ks.ensures.alarms c.in_ok-s.ensures.alarms
    (ap (λ (o : Option Span). access_alarms p (widest p) env c.args.access.now ++ (alarms_of p (widest p) env c.args.e.now
    ++ (with_both o right (operator_alarms c.args.op c.args.pos c.args.work) ++ assign_alarms c.args.num c.args.pos (linked c.args.op c.args.work o right)))) (sym left))
