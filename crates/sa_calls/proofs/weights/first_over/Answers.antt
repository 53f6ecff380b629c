use Rattle.std.proofs.Common.{List, ap, ◌∙◌}
use Rattle.sa_calls.specs.declared.weights.Weight.{Weight}
use Rattle.sa_calls.specs.Weights.{weight_at, over_limit}
use Rattle.sa_calls.proofs.DepthLemmas.{rounds-answer}
use Rattle.sa_calls.proofs.weights.first_over.Goals as goal

pub returns : goal.returns
returns c =
    let p = c.args.program.now in
    c.over_limit.ensures
    ∙ ap (λ (w : Weight). over_limit w.calls w.statements) (c.weight_at.ensures ∙ ap (λ (ws : List Weight). weight_at ws p.entry) c.deref.ensures.value)
    ∙ rounds-answer p c.rounds.result c.in_ok-rows.rows.items c.rounds.ensures c.in_ok-rows.ensures
