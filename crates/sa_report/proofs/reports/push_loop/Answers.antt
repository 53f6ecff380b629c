use Rattle.std.proofs.Common.{◌≡◌, ◌∙◌, ap, List}
use Rattle.std.proofs.lemmas.Result.{on_ok_weaker}
use Rattle.sa_iterate.specs.declared.passes.LoopFacts.{LoopFacts}
use Rattle.sa_report.specs.Loops.{facts_at}
use Rattle.sa_report.proofs.ReportLemmas.{loop-none, loop-some}
use Rattle.sa_report.proofs.reports.push_loop.Goals as goal

pub returns-in-None : goal.returns-in-None
returns-in-None c =
    let known : c.in_ok-facts_at.field-0 ≡ facts_at c.args.analysis.now.loops.items c.args.place = c.in_ok-facts_at.ensures ∙ ap (λ (fs : List LoopFacts). facts_at fs c.args.place) c.deref.ensures.value in
    on_ok_weaker c.push_unreached.result (λ h. loop-none c.args.program.now c.args.place c.args.analysis.now.loops.items c.in_ok-facts_at.field-0 _ c.push_unreached.new.text.items known c.in-None.is h) c.push_unreached.ensures

pub returns-in-Some : goal.returns-in-Some
returns-in-Some c =
    let known : c.in_ok-facts_at.field-0 ≡ facts_at c.args.analysis.now.loops.items c.args.place = c.in_ok-facts_at.ensures ∙ ap (λ (fs : List LoopFacts). facts_at fs c.args.place) c.deref.ensures.value in
    on_ok_weaker c.push_reached.result (λ h. loop-some c.args.program.now c.args.place c.args.analysis.now.loops.items c.in_ok-facts_at.field-0 c.in-Some.facts _ c.push_reached.new.text.items known c.in-Some.is h) c.push_reached.ensures
