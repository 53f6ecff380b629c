use Rattle.std.proofs.Common.{◌≡◌, ◌∙◌, ap, sym, subst, ℕ, List, [], ◌++◌, Option, Some}
use Rattle.std.specs.Prelude.{IfSome}
use Rattle.sa_base.specs.declared.num.Num.{Num}
use Rattle.sa_interval.specs.Span.{Span}
use Rattle.sa_typed.specs.Layouts.{layout_of, num_in}
use Rattle.sa_operators.specs.Alarms.{noted}
use Rattle.sa_operators.specs.Operators.{IsIn}
use Rattle.sa_reference.specs.Sound.{widest}
use Rattle.sa_reference.specs.Values.{named, span_of, alarms_of}
use Rattle.sa_reference.specs.Assignments.{assign_to, assign_alarms, value_as, declare_of, declare_alarms}
use Rattle.sa_transfer.proofs.ChangeLaws.{whole_alike}
use Rattle.sa_transfer.proofs.assign.declare_value.Goals as goal

pub assign_to-requires-clause-alike : goal.assign_to-requires-clause-alike
assign_to-requires-clause-alike c =
    let t = c.requires.typed in
    let num : IfSome c.in_ok-s.s (λ s. IsIn (num_in (layout_of c.args.program.now c.args.var)) s) = subst (λ (m : Num). IfSome c.in_ok-s.s (λ s. IsIn m s)) c.var_num.ensures c.in_ok-s.ensures.in_type in
    rw (c.from_vec.ensures, c.in_ok-ks.ensures) (whole_alike c.args.program.now c.args.env.now c.requires.spans c.args.var t.1.0 c.in_ok-s.s t.1.1 num)

pub returns-clause-env : goal.returns-clause-env
unfolding declare_of
returns-clause-env c =
    let p = c.args.program.now in
    let env = c.args.env.now in
    let right = span_of p (widest p) env c.args.e.now in
    let ks : c.from_vec.result ≡ named p c.args.var [] = c.from_vec.ensures ∙ c.in_ok-ks.ensures in
    let s = c.in_ok-s.ensures.value ∙ ap (λ (num : Num). value_as num right) c.var_num.ensures in
    sym (ap (λ (ks : List ℕ). assign_to p env (Some ks) c.in_ok-s.s) ks ∙ ap (λ (o : Option Span). assign_to p env (Some (named p c.args.var [])) o) s) ∙ c.assign_to.ensures.env

pub returns-clause-alarms : goal.returns-clause-alarms
unfolding declare_alarms
returns-clause-alarms c =
    let p = c.args.program.now in
    let env = c.args.env.now in
    c.in_ok-s.ensures.alarms ∙ ap (λ (num : Num). c.args.alarms.now.items ++ noted c.args.checking (alarms_of p (widest p) env c.args.e.now ++ assign_alarms num c.args.pos (span_of p (widest p) env c.args.e.now))) c.var_num.ensures
