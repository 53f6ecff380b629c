use Rattle.std.proofs.Common.{◌≡◌, ◌∙◌, ap, sym, subst, ℕ, List, get_or, true, Bool}
use Rattle.std.specs.Prelude.{nat_lt, ◌||◌}
use Rattle.std.specs.List.{list_all, list_any}
use Rattle.sa_typed.specs.declared.shape.Plain.TheVariants.{Struct}
use Rattle.sa_ir.specs.declared.slots.Core.{Core}
use Rattle.sa_ir.specs.Spots.{base_layout, IsCore, is_single}
use Rattle.sa_ir.proofs.StepLemmas.{here}
use Rattle.sa_ir.proofs.CoreLemmas.{single-core, one-field}
use Rattle.sa_ir.proofs.slots.core_of.Goals as goal

pub returns-in-Some : goal.returns-in-Some
returns-in-Some c = λ x e.
    let p = c.args.program.now.structs in
    let k = c.args.k in
    let fs = c.args.fields.now in
    let field = get_or fs 0 c.index-fields-0.result in
    let d = here p k c.requires.fits in
    let inner = c.in-Some.core in
    let one = sym (c.requires.fields d.0 d.1) ∙ one-field fs c.index-fields-0.result c.if-fields-ne1.false in
    let single : list_all is_single field.shape.dims ≡ true
    = ap (λ (ds : List ℕ). list_all is_single ds) (sym c.as_slice.ensures) ∙ sym c.are_single.ensures ∙ c.if-not-are_single.false in
    let starred : list_any (λ n. nat_lt 128 n) field.shape.dims ≡ c.any_large-starred.result
    = ap (λ (ds : List ℕ). list_any (λ n. nat_lt 128 n) ds) (sym c.as_slice-2.ensures) ∙ sym c.any_large-starred.ensures in
    let is : record { plain = inner.plain; starred = c.any_large-starred.result || inner.starred } ≡ x = cc in
    subst (λ (y : Core). IsCore p (base_layout p (Struct k)) y) is
    (subst (λ (b : Bool). IsCore p (base_layout p (Struct k)) (record { plain = inner.plain; starred = b || inner.starred })) starred
    (single-core p k d.0 field inner d.1 one single c.in-Some.ensures.core))
