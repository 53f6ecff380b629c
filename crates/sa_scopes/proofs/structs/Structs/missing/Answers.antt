use Rattle.std.proofs.Common.{◌≡◌, ℕ, ◌*◌, ◌+◌, false, map, drop, ap, sym, ◌∙◌, Option, List}
use Rattle.std.specs.Prelude.{slice_get}
use Rattle.sa_typed.specs.declared.shape.FieldDef.{FieldDef}
use Rattle.sa_typed.specs.declared.shape.StructDef.{StructDef}
use Rattle.sa_scopes.specs.Forms.{inside}
use Rattle.sa_scopes.specs.Structures.{Structs, sizes_of, size_by, sum_by, field_shape, fields_in, kept}
use Rattle.sa_scopes.proofs.SizeLemmas.{kept-times}
use Rattle.sa_scopes.proofs.SlotLemmas.{missing-Scalar, missing-Struct, missing-Array}
use Rattle.sa_scopes.proofs.structs.Structs.missing.Goals as goal

pub returns-in-Scalar : goal.returns-in-Scalar
returns-in-Scalar c = sym (ap kept (missing-Scalar c.args.self.now (inside c.args.depth c.args.shape.now) _ c.args.given (sym c.in-Scalar.ensures.form)))

pub returns-in-Struct : goal.returns-in-Struct
returns-in-Struct c =
    let exact : List ℕ = sizes_of false c.args.self.now.defs in
    let sized = c.as_slice-sizes.ensures ∙ c.self.invariant.0 ∙ ap (λ (s : Structs). map kept (sizes_of false s.defs)) c.self.view_is in
    let fields = c.fields_from.ensures ∙ ap (λ (d : Option StructDef). drop c.args.given (fields_in d)) (c.get.ensures.value ∙ ap (λ (s : Structs). slice_get s.defs c.in-Struct.number) c.self.view_is) in
    c.fields_size.ensures exact sized ∙ ap (λ (fs : List FieldDef). kept (sum_by false exact (map field_shape fs))) fields
    ∙ sym (ap kept (missing-Struct c.args.self.now (inside c.args.depth c.args.shape.now) c.in-Struct.number c.args.given (sym c.in-Struct.ensures.form)))

pub returns-in-Array : goal.returns-in-Array
returns-in-Array c =
    let exact : List ℕ = sizes_of false c.args.self.now.defs in
    let sized = c.as_slice-sizes.ensures ∙ c.self.invariant.0 ∙ ap (λ (s : Structs). map kept (sizes_of false s.defs)) c.self.view_is in
    let size = c.element_size.ensures exact sized in
    c.saturating_mul.ensures ∙ ap (λ (m : ℕ). kept (c.left_of.result * m)) size ∙ kept-times c.left_of.result _
    ∙ ap (λ (m : ℕ). kept (m * size_by false exact (inside (c.args.depth + 1) c.args.shape.now))) c.left_of.ensures
    ∙ sym (ap kept (missing-Array c.args.self.now c.args.shape.now c.args.depth c.in-Array.count c.args.given (sym c.in-Array.ensures.form)))
