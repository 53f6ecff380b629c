use Rattle.std.proofs.Common.{◌≡◌, ℕ, ◌+◌, arith, map, drop, get_or, refl, sym}
use Rattle.std.specs.Prelude.{List}
use Rattle.sa_scopes.specs.Structures.{kept, sum_by, size_by, field_shape}
use Rattle.sa_scopes.proofs.SizeLemmas.{sum_by-next, sum_by-end, one_more, all_summed}
use Rattle.sa_scopes.proofs.structs.fields_size.Goals as goal

pub loop-field-preserved : goal.loop-field-preserved
loop-field-preserved c = record {
  fits = c.saturating_add-total.type_inv;
  summed = λ exact e.
      one_more c.loop-field.total c.saturating_add-total.result c.size_by.result (size_by c.args.starred exact c.field-item.result.shape) _ _ _
      (c.size_by.ensures exact e) c.saturating_add-total.ensures
      (rw (← c.field-item.is) at (sum_by-next c.args.starred exact c.args.fields.now c.loop-field.field-index c.field-item.result c.loop-field-test.true))
      (c.loop-field.invariant.summed exact e);
}

pub returns : goal.returns
returns c = λ exact e.
    all_summed c.loop-field.total _ _ c.loop-field.invariant.fits (sum_by-end c.args.starred exact c.args.fields.now c.loop-field.field-index c.loop-field-test.false) (c.loop-field.invariant.summed exact e)
