use Rattle.std.proofs.Common.{◌≡◌, ap, sym, subst, ◌∙◌, Option}
use Rattle.std.specs.Prelude.{slice_get, option_map, IfOk}
use Rattle.sa_typed.specs.declared.shape.Shape.{Shape}
use Rattle.sa_typed.specs.declared.shape.StructDef.{StructDef}
use Rattle.sa_scopes.specs.Forms.{inside}
use Rattle.sa_scopes.specs.Structures.{Structs, shape_at, field_shape, fields_in}
use Rattle.sa_scopes.proofs.SlotLemmas.{slot-Scalar, slot-Struct, slot-Array}
use Rattle.sa_scopes.proofs.structs.Structs.slot.Goals as goal

pub returns-in-Scalar : goal.returns-in-Scalar
returns-in-Scalar c = sym (slot-Scalar c.args.self.now (inside c.args.depth c.args.shape.now) _ c.args.at (sym c.in-Scalar.ensures.form))

pub returns-in-Array : goal.returns-in-Array
returns-in-Array c =
    let e = slot-Array c.args.self.now c.args.shape.now c.args.depth c.in-Array.count c.args.at (sym c.in-Array.ensures.form) in
    subst (λ (o : Option Shape). IfOk c.element_slot.result (λ s. shape_at c.args.shape.now s ≡ o)) (sym e) (c.element_slot.ensures c.args.shape.now)

pub returns-in-Struct : goal.returns-in-Struct
returns-in-Struct c =
    let e = slot-Struct c.args.self.now (inside c.args.depth c.args.shape.now) c.in-Struct.number c.args.at (sym c.in-Struct.ensures.form) in
    let f = c.field_at.ensures ∙ ap (λ (d : Option StructDef). slice_get (fields_in d) c.args.at) (c.get.ensures.value ∙ ap (λ (s : Structs). slice_get s.defs c.in-Struct.number) c.self.view_is) in
    subst (λ (o : Option Shape). IfOk c.slot_of.result (λ s. shape_at c.args.shape.now s ≡ o)) (ap (option_map field_shape) f ∙ sym e) (c.slot_of.ensures c.args.shape.now)
