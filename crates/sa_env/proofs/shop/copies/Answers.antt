use Rattle.std.proofs.Common.{◌≡◌, ◌∙◌, ◌++◌, [], ◌∷◌, List, sym, ap, refl, length, take, arith, ◌≤◌}
use Rattle.std.proofs.lemmas.List.{take_all}
use Rattle.sa_shared.specs.Forest.{list_of}
use Rattle.sa_env.specs.declared.slot.SlotValue.{SlotValue}
use Rattle.sa_shared.proofs.Unfolding.{size}
use Rattle.sa_env.proofs.Lists.{take_get}
use Rattle.sa_env.proofs.shop.copies.Goals as goal

pub loop-slot-preserved : goal.loop-slot-preserved
loop-slot-preserved c =
    let xs = list_of c.args.layer.now c.args.root in
    c.in_ok-push.ensures.items
    ∙ ap (λ (l : List SlotValue). l ++ c.in_ok-copy.field-0 ∷ []) c.loop-slot.invariant
    ∙ ap (λ (x : SlotValue). take c.loop-slot.slot xs ++ x ∷ []) c.in_ok-copy.ensures
    ∙ sym (take_get xs c.loop-slot.slot c.get.result.now c.get.ensures)

pub returns : goal.returns
returns c =
    let xs = list_of c.args.layer.now c.args.root in
    let n : length xs ≡ c.args.layer.now.slots = size _ _ c.requires.balanced in
    let m = c.slots-slot-end.ensures in
    c.loop-slot.invariant ∙ take_all c.loop-slot.slot xs (omega (arith, n, m))
