use Rattle.std.proofs.Common.{option_map, ap, sym, ◌∙◌}
use Rattle.serde_json.specs.View.{view}
use Rattle.serde_json.specs.Find.{get_member}
use Rattle.serde_json.proofs.Views.{view_of_ref, view-lookup}
use Rattle.sa_ranges.specs.Keys.{members_in}
use Rattle.sa_ranges.proofs.key.member.Goals as goal

pub returns : goal.returns
returns c =
    view_of_ref c.get.result ∙ ap (option_map view) c.get.ensures.value ∙ view-lookup c.args.name.now c.in_ok-object.field-0.now.entries
    ∙ ap (λ o. get_member c.args.name.now (members_in o)) (sym c.in_ok-object.was)
