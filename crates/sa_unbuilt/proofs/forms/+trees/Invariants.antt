use Rattle.std.proofs.Common.{◌≡◌, drop}
use Rattle.sa_unbuilt.specs.Unbuilt.{first_in, in_link, in_step, in_field, in_declr, in_bound}
use Rattle.sa_unbuilt.proofs.forms.+trees.Given as goal

abbrev pub invariant-check_bounds-loop-bound : goal.invariant-check_bounds-loop-bound
invariant-check_bounds-loop-bound l = first_in in_bound l.bounds ≡ first_in in_bound (drop l.bound-index l.bounds)

abbrev pub invariant-check_declrs-loop-declr : goal.invariant-check_declrs-loop-declr
invariant-check_declrs-loop-declr l = first_in in_declr l.declrs ≡ first_in in_declr (drop l.declr-index l.declrs)

abbrev pub invariant-check_fields-loop-field : goal.invariant-check_fields-loop-field
invariant-check_fields-loop-field l = first_in in_field l.fields ≡ first_in in_field (drop l.field-index l.fields)

abbrev pub invariant-check_links-loop-link : goal.invariant-check_links-loop-link
invariant-check_links-loop-link l = first_in in_link l.links ≡ first_in in_link (drop l.link-index l.links)

abbrev pub invariant-check_steps-loop-step : goal.invariant-check_steps-loop-step
invariant-check_steps-loop-step l = first_in in_step l.steps ≡ first_in in_step (drop l.step-index l.steps)
