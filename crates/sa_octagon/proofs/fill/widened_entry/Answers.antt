use Rattle.std.proofs.Common.{◌∙◌, Some, cond, sym, ap, ap₂}
use Rattle.sa_dbm.specs.Bounds.{at_most}
use Rattle.sa_dbm.specs.Tables.{entry}
use Rattle.sa_octagon.specs.Packs.{reach_between}
use Rattle.sa_octagon.specs.Filled.{widened_entry}
use Rattle.sa_octagon.proofs.Ends.{stored_again}
use Rattle.sa_octagon.proofs.fill.widened_entry.Goals as goal

pub returns-then-is_at_most : goal.returns-then-is_at_most
unfolding widened_entry
returns-then-is_at_most c =
    let test = sym (ap₂ at_most c.bound.ensures.value c.bound-was.ensures.value) ∙ sym c.is_at_most.ensures ∙ c.if-is_at_most.true in
    record { value = c.bound-was.ensures.value ∙ sym (ap (λ b. cond b (entry c.args.old.now c.args.i c.args.j) (reach_between c.args.spans.now c.args.i c.args.j)) test) }

pub returns-else-is_at_most : goal.returns-else-is_at_most
unfolding widened_entry
returns-else-is_at_most c =
    let test = sym (ap₂ at_most c.bound.ensures.value c.bound-was.ensures.value) ∙ sym c.is_at_most.ensures ∙ c.if-is_at_most.false in
    record {
      value =
          ap Some (stored_again c.reach_between.result c.reach_between.ensures.size) ∙ c.reach_between.ensures.value
          ∙ sym (ap (λ b. cond b (entry c.args.old.now c.args.i c.args.j) (reach_between c.args.spans.now c.args.i c.args.j)) test);
    }
