use Rattle.std.proofs.Common.{◌∙◌, ap, sym, ℤ, Some, drop, arith}
use mir.Syntax.{w128}
use Rattle.std.specs.Prelude.{Option, option_map}
use Rattle.std.proofs.lemmas.Int.{to_z-of_z}
use Rattle.sa_ir.specs.declared.ir.Ends.{Ends}
use Rattle.sa_ir.specs.Initial.{single, join_some}
use Rattle.sa_ir.specs.Slots.{values_of}
use Rattle.sa_ir.specs.Spots.{ends_span}
use Rattle.sa_ir.proofs.SpotLemmas.{values-more, values-last}
use Rattle.sa_ir.proofs.slots.ends_of.Goals as goal

pub loop-i-init : goal.loop-i-init
loop-i-init c = record {
  inside = omega arith;
  ends = c.zero_if-ends.ensures ∙ sym (values-last c.args.values.now c.as_slice-at.result.now c.args.elements.now.more);
}

pub loop-i-preserved : goal.loop-i-preserved
loop-i-preserved c =
    let in' = c.loop-i.invariant.inside in
    record {
      inside = omega (arith, in');
      ends =
          c.joined.ensures
          ∙ ap (λ (z : ℤ). join_some (Some (single z)) (option_map ends_span c.loop-i.ends)) (to_z-of_z w128 c.value.result (record { sfits = c.value.type_inv }))
          ∙ ap (λ (o : Option Ends). join_some (Some (single c.value.result)) o) c.loop-i.invariant.ends
          ∙ ap (λ (z : ℤ). join_some (Some (single z)) (values_of c.args.values.now (drop c.loop-i.i c.as_slice-at.result.now) c.args.elements.now.more)) c.value.ensures
          ∙ sym (values-more c.args.values.now c.as_slice-at.result.now c.loop-i.i c.args.elements.now.more c.loop-i-test.true in');
    }
