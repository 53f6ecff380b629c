use Rattle.std.proofs.Common.{◌≡◌, ℕ, length, arith}
use Rattle.std.proofs.lemmas.List.Elements.{length_all_zip}
use Rattle.sa_shared.specs.Forest.{list_of}
use Rattle.sa_shared.proofs.Lists.{each_any}
use Rattle.sa_shared.proofs.Unfolding.{size}
use Rattle.test_shared.proofs.tests.walks.put.Goals as goal

pub put-requires : goal.put-requires
put-requires c =
    let layer = c.args.layer.now in
    let root = c.requires.root in
    let long = length_all_zip (λ (x y : ℕ). Unit {0}) (list_of layer layer.first) (list_of layer c.args.beside) root.alike in
    let slots = size _ layer.slots root.balanced in
    record { alike = each_any {T = ℕ} (λ _ _. Unit {0}) (λ x y. tt) (list_of layer layer.first) c.args.list.items (omega (arith, long, slots, c.requires.long)) }
