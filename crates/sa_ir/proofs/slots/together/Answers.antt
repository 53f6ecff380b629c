use Rattle.std.proofs.Common.{◌∙◌, ◌||◌, ap, Bool, true, List, ℕ}
use Rattle.std.specs.List.{flat_map}
use Rattle.sa_ir.specs.Slots.{run, any_stops, together}
use Rattle.sa_ir.proofs.RunLemmas.{flat-step, flat-last, stops-more, stops-end}
use Rattle.sa_ir.proofs.slots.together.Goals as goal

pub loop-o-preserved : goal.loop-o-preserved
loop-o-preserved c =
    let len = c.args.len in
    let w = c.args.row.width in
    let n = c.args.row.n in
    let os = c.as_slice-o-items.result.now in
    record {
      at =
          flat-step (λ o. run len w n o) os c.loop-o.o-index 0 c.loop-o.at.items c.push_run.new.all.items (flat_map (λ o. run len w n o) os) c.loop-o-test.true c.in_ok-more.ensures.run
          c.loop-o.invariant.at;
      more =
          stops-more len w n os c.loop-o.o-index c.loop-o.more c.in_ok-more.field-0 (c.args.elements.now.more || any_stops len w n os) c.loop-o-test.true c.in_ok-more.ensures.stops
          c.loop-o.invariant.more;
    }

pub returns : goal.returns
unfolding together
returns c =
    let len = c.args.len in
    let w = c.args.row.width in
    let n = c.args.row.n in
    let os = c.as_slice-o-items.result.now in
    let e = c.args.elements.now in
    let at = c.from_vec.ensures ∙ flat-last (λ o. run len w n o) os c.loop-o.o-index c.loop-o.at.items (flat_map (λ o. run len w n o) os) c.loop-o-test.false c.loop-o.invariant.at
    ∙ ap (λ (l : List ℕ). flat_map (λ o. run len w n o) l) c.as_slice-o-items.ensures in
    let more = stops-end len w n os c.loop-o.o-index c.loop-o.more (e.more || any_stops len w n os) c.loop-o-test.false c.loop-o.invariant.more
    ∙ ap (λ (l : List ℕ). e.more || any_stops len w n l) c.as_slice-o-items.ensures in
    ap (λ (l : List ℕ). record { starred = true; at = l; more = c.loop-o.more }) at ∙ ap (λ (b : Bool). record { starred = true; at = flat_map (λ o. run len w n o) e.at; more = b }) more
