use Rattle.std.proofs.Common.{rules, ◌∙◌, ap, ap₂, get_or, pos, FitsSigned}
use Rattle.std.specs.Int.{w128}
use Rattle.std.proofs.lemmas.Int.{to_z-of_z}
use Rattle.sa_dbm.specs.Bounds.{lesser}
use Rattle.sa_dbm.specs.Stored.{shown}
use Rattle.sa_dbm.proofs.StoredLaws.{read_is, shown_at-set_same, shown-min}
use Rattle.sa_dbm.proofs.entries.lower_at.Goals as goal

pub returns-clause-here : goal.returns-clause-here
returns-clause-here c =
    let xs = c.args.bounds.now in
    let f : FitsSigned w128 (get_or xs c.args.at (pos 0)) = search rules in
    shown_at-set_same xs c.args.at _ c.requires
    ∙ ap shown (to_z-of_z w128 c.min.result (record { sfits = c.min.type_inv }) ∙ c.min.ensures.value)
    ∙ shown-min _ _
    ∙ ap₂ lesser (ap shown (read_is xs c.args.at c.requires f)) (ap shown (to_z-of_z w128 c.args.c c.ranges.c))
