use Rattle.std.proofs.Common.{rules, ◌≡◌, ◌∙◌, ap₂, sym, List, Some}
use Rattle.sa_typed.specs.declared.stmt.Stmt.{Stmt}
use Rattle.sa_reference.specs.declared.flat.Flat.{Flat}
use Rattle.sa_reference.specs.Environments.{initial_env}
use Rattle.sa_iterate.specs.Analysis.{found_by}
use Rattle.sa_iterate.specs.Straight.{straight_found, kept}
use Rattle.sa_iterate.proofs.StraightLaws.{main-typed, main-found}
use Rattle.sa_iterate.proofs.passes.analyze.Goals as goal

pub walk-requires-clause-stmts : goal.walk-requires-clause-stmts
walk-requires-clause-stmts c = main-typed c.args.program.now c.main_body.result.now c.main_body.ensures c.requires.typed.body

pub returns : goal.returns
unfolding kept
returns c =
    let p = c.args.program.now in
    let start : c.in_ok-env.env ≡ initial_env p = search rules in
    let walked : found_by c.walk.new.found ≡ straight_found p c.main_body.result.now (Some c.in_ok-env.env) = search rules in
    walked ∙ ap₂ (λ (ss : List Stmt) (e : Flat). straight_found p ss (Some e)) c.main_body.ensures start ∙ sym (main-found p)
