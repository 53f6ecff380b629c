use Rattle.std.proofs.Common.{◌∙◌, ◌++◌, ◌∷◌, [], ap}
use Rattle.sa_ir.specs.declared.ir.Ends.{Ends}
use Rattle.sa_ir.specs.Indices.{slot_ends}
use Rattle.sa_ir.proofs.LowerLaws.{map-more, map-end}
use Rattle.sa_ir.proofs.simple.all_ends.Goals as goal

pub loop-slot-preserved : goal.loop-slot-preserved
loop-slot-preserved c =
    map-more slot_ends c.args.slots.now c.loop-slot.slot-index _ c.loop-slot.ends _ _ c.loop-slot-test.true
    (c.in_ok-push.ensures.ok ∙ ap (λ (e : Ends). c.loop-slot.ends ++ e ∷ []) c.slot_ends.ensures) c.loop-slot.invariant

pub returns : goal.returns
returns c = map-end slot_ends c.args.slots.now c.loop-slot.slot-index c.loop-slot.ends _ c.loop-slot-test.false c.loop-slot.invariant
