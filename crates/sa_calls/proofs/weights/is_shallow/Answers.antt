use Rattle.std.proofs.Common.{List, ap, sym, ◌∙◌}
use Rattle.sa_calls.specs.declared.weights.Weight.{Weight}
use Rattle.sa_calls.specs.Weights.{all_below}
use Rattle.sa_calls.proofs.RankLemmas.{shallow-none}
use Rattle.sa_calls.proofs.weights.is_shallow.Goals as goal

pub returns : goal.returns
returns c = λ yes.
    shallow-none c.args.program.now c.rounds-depth.result c.in_ok-rows.rows.items c.rounds-depth.ensures c.in_ok-rows.ensures
    (sym (c.all_below.ensures ∙ ap (λ (ws : List Weight). all_below c.rounds-depth.result ws) c.deref.ensures.value) ∙ yes)
