use Rattle.std.proofs.Common.{◌≡◌, ◌∙◌, ◌∷◌, [], ◌++◌, ap, sym, List, append_assoc, arith}
use Rattle.std.specs.Prelude.{Option}
use Rattle.sa_ir.specs.declared.ir.Ends.{Ends}
use Rattle.sa_typed.specs.Layouts.{Layout}
use Rattle.sa_ir.specs.declared.slots.Slot.{Slot}
use Rattle.sa_ir.specs.Slots.{slots_in, slot, or_zero}
use Rattle.sa_ir.specs.Spots.{base_layout, left, work}
use Rattle.sa_ir.proofs.SlotLaws.{slots-leaf}
use Rattle.sa_ir.proofs.SpotLemmas.{values-spread, number-is, number-work}
use Rattle.sa_ir.proofs.slots.read_spot.Goals as goal

pub returns-in_ok-push-in-Scalar-clause-slots : goal.returns-in_ok-push-in-Scalar-clause-slots
returns-in_ok-push-in-Scalar-clause-slots c =
    let p = c.args.program.now.structs in
    let zs = c.args.values.now in
    let e = c.args.spot.now.elements in
    let todo = left p zs c.args.todo.now.items in
    let out = c.args.out.now.items in
    let is : c.leaf.result ∷ [] ≡ slots_in zs (base_layout p c.args.spot.now.base) e
    = ap (λ (s : Slot). s ∷ []) c.leaf.ensures
    ∙ ap (λ (o : Option Ends). slot c.in-Scalar.num e.starred (or_zero o) ∷ []) (values-spread zs e.at e.more)
    ∙ sym (slots-leaf zs c.in-Scalar.num e)
    ∙ ap (λ (l : Layout). slots_in zs l e) (sym (number-is p c.args.spot.now.base c.in-Scalar.num c.in-Scalar.is)) in
    ap (λ (l : List Slot). l ++ todo) c.in_ok-push-in-Scalar.ensures.items ∙ append_assoc out (c.leaf.result ∷ []) todo
    ∙ ap (λ (l : List Slot). out ++ (l ++ todo)) is

pub returns-in_ok-push-in-Scalar-clause-work : goal.returns-in_ok-push-in-Scalar-clause-work
returns-in_ok-push-in-Scalar-clause-work c =
    let w = ap work (number-is c.args.program.now.structs c.args.spot.now.base c.in-Scalar.num c.in-Scalar.is) ∙ number-work c.in-Scalar.num in
    omega (arith, w)
