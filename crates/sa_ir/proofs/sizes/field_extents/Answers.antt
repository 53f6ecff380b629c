use Rattle.std.proofs.Common.{◌∙◌, ap}
use Rattle.sa_typed.specs.declared.shape.FieldDef.{FieldDef}
use Rattle.sa_ir.specs.Sizes.{extent_of, extents_from, fields_of, among}
use Rattle.sa_ir.proofs.GroundLemmas.{extents-more, extents-end, small-extent}
use Rattle.sa_ir.proofs.sizes.field_extents.Goals as goal

pub loop-field-preserved : goal.loop-field-preserved
loop-field-preserved c =
    let p = c.args.program.now.structs in
    record {
      small = small-extent _ _ c.together-before.result c.together-before.ensures;
      whole =
          extents-more p c.args.structs c.args.fields.now c.loop-field.field-index c.field-item.result c.loop-field.before c.shape_extent.result c.together-before.result c.loop-field.extents.items
          c.push.new.self.items (extents_from 0 0 (fields_of p c.args.structs c.args.fields.now)) c.loop-field-test.true c.loop-field.invariant.small (c.shape_extent.ensures ∙ ap (λ (f : FieldDef). extent_of (among p c.args.structs f.shape)) c.field-item.is)
          c.together-before.ensures c.in_ok-push.ensures.items c.loop-field.invariant.whole;
    }

pub returns : goal.returns
returns c =
    let p = c.args.program.now.structs in
    c.from_vec.ensures
    ∙ extents-end p c.args.structs c.args.fields.now c.loop-field.field-index c.loop-field.before c.loop-field.extents.items c.push-2.new.self.items
    (extents_from 0 0 (fields_of p c.args.structs c.args.fields.now)) c.loop-field-test.false c.loop-field.invariant.small c.in_ok-push-2.ensures.items c.loop-field.invariant.whole
