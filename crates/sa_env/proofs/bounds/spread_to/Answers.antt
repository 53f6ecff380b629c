use Rattle.std.proofs.Common.{◌≡◌, ◌∙◌, refl, to_z, of_z}
use mir.Syntax.{w128}
use Rattle.std.proofs.lemmas.Int.{to_z-of_z}
use Rattle.sa_env.specs.Slots.{fallen, risen}
use Rattle.sa_env.proofs.bounds.spread_to.Goals as goal

lo_is : (c : goal.After-new) → to_z w128 (of_z w128 c.fallen-lo.result) ≡ fallen c.args.top.lo c.args.old.lo c.args.new.lo
lo_is c =
    let a = to_z-of_z w128 c.lo.result (record { sfits = c.lo.type_inv }) ∙ c.lo.ensures.value in
    let b = to_z-of_z w128 c.lo-2.result (record { sfits = c.lo-2.type_inv }) ∙ c.lo-2.ensures.value in
    let d = to_z-of_z w128 c.lo-3.result (record { sfits = c.lo-3.type_inv }) ∙ c.lo-3.ensures.value in
    to_z-of_z w128 c.fallen-lo.result (record { sfits = c.fallen-lo.type_inv }) ∙ rw (a, b, d) at c.fallen-lo.ensures.value

hi_is : (c : goal.After-new) → to_z w128 (of_z w128 c.risen-hi.result) ≡ risen c.args.top.hi c.args.old.hi c.args.new.hi
hi_is c =
    let a = to_z-of_z w128 c.hi.result (record { sfits = c.hi.type_inv }) ∙ c.hi.ensures.value in
    let b = to_z-of_z w128 c.hi-2.result (record { sfits = c.hi-2.type_inv }) ∙ c.hi-2.ensures.value in
    let d = to_z-of_z w128 c.hi-3.result (record { sfits = c.hi-3.type_inv }) ∙ c.hi-3.ensures.value in
    to_z-of_z w128 c.risen-hi.result (record { sfits = c.risen-hi.type_inv }) ∙ rw (a, b, d) at c.risen-hi.ensures.value

pub returns : goal.returns
returns c = record { value = c.new.ensures ∙ rw (lo_is c, hi_is c) refl }
