use Rattle.std.proofs.Common.{rules, ◌∙◌, ap, ap₂, get_or, pos, FitsSigned}
use Rattle.std.specs.Int.{w128}
use Rattle.std.proofs.lemmas.Int.{to_z-of_z}
use Rattle.sa_dbm.specs.Bounds.{plus}
use Rattle.sa_dbm.specs.Stored.{shown}
use Rattle.sa_dbm.proofs.StoredLaws.{read_is, shown_at-set_same}
use Rattle.sa_dbm.proofs.entries.add_at.Goals as goal

pub sum-requires-clause-first : goal.sum-requires-clause-first
sum-requires-clause-first c =
    let f : FitsSigned w128 (get_or c.args.bounds.now c.args.at (pos 0)) = search rules in
    rw (read_is c.args.bounds.now c.args.at c.requires.inside f) c.requires.bound

pub returns-clause-here : goal.returns-clause-here
returns-clause-here c =
    let xs = c.args.bounds.now in
    let f : FitsSigned w128 (get_or xs c.args.at (pos 0)) = search rules in
    shown_at-set_same xs c.args.at _ c.requires.inside
    ∙ ap shown (to_z-of_z w128 c.sum.result (record { sfits = c.sum.type_inv })) ∙ c.sum.ensures
    ∙ ap₂ (λ x y. plus (shown x) (shown y)) (read_is xs c.args.at c.requires.inside f) (to_z-of_z w128 c.args.by c.ranges.by)
