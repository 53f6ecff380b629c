use Rattle.std.proofs.Common.{sym, subst, Option}
use Rattle.std.proofs.lemmas.Result.{IfOk-weaker}
use Rattle.std.specs.Prelude.{IfSome}
use Rattle.sa_interval.specs.Span.{Span}
use Rattle.sa_typed.specs.WellTyped.{type_of}
use Rattle.sa_operators.specs.Operators.{IsIn}
use Rattle.sa_transfer.proofs.TypeLaws.{expr_in}
use Rattle.sa_transfer.proofs.values.value.Goals as goal

pub returns-clause-in_type : goal.returns-clause-in_type
returns-clause-in_type c =
    IfOk-weaker c.span_of.result _ _ (λ o e. subst (λ (o : Option Span). IfSome o (λ s. IsIn (type_of c.args.e.now) s)) (sym e)
    (expr_in c.args.program.now c.args.env.now c.requires.spans c.args.e.now c.requires.typed)) c.span_of.ensures.value
