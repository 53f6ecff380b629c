use Rattle.std.proofs.Common.{rules, ◌≡◌, ◌∙◌, ℕ, List, true, false, length, get_or, refl, sym, ap, subst}
use Rattle.std.proofs.lemmas.Option.{slice_get_read}
use Rattle.sa_typed.specs.Frames.{size}
use Rattle.sa_typed.specs.Layouts.{Layout, layout_of}
use Rattle.sa_typed.specs.declared.program.Var.{Var}
use Rattle.sa_ir.specs.declared.sizes.Extent.{Extent}
use Rattle.sa_ir.specs.declared.table.Section.{Section}
use Rattle.sa_ir.specs.Sizes.{capped, among, Covers}
use Rattle.sa_ir.specs.Tables.{section}
use Rattle.sa_ir.proofs.GroundLemmas.{covers-all}
use Rattle.sa_ir.proofs.StepLemmas.{layout-known}
use Rattle.sa_ir.proofs.TableLemmas.{seat-is, sections-more, sections-same}
use Rattle.sa_ir.proofs.table.add_var.Goals as goal

pub shape_extent-extent-requires : goal.shape_extent-extent-requires
shape_extent-extent-requires c =
    let p = c.args.program.now in
    subst (λ (m : ℕ). Covers p.structs m c.as_slice-2.result.now) (sym c.len.ensures) (covers-all p.structs c.as_slice-2.result.now (c.as_slice-2.ensures ∙ c.requires.structs))

pub returns-in_ok-add-clause-seat : goal.returns-in_ok-add-clause-seat
unfolding section
returns-in_ok-add-clause-seat c =
    let p = c.args.program.now in
    let k = c.args.var in
    let x = c.index-as_slice-var.result in
    let is : x ≡ get_or p.vars k x = c.index-as_slice-var.is ∙ ap (λ (l : List Var). get_or l k x) c.as_slice.ensures in
    let there = slice_get_read p.vars _ k x refl c.requires.inside is in
    let known : layout_of p k ≡ among p.structs (length p.structs) x.shape = layout-known p k x there in
    let wide : c.shape_extent-extent.result.cells ≡ capped (size (layout_of p k))
    = ap (λ (e : Extent). e.cells) c.shape_extent-extent.ensures ∙ ap (λ (m : ℕ). capped (size (among p.structs m x.shape))) c.len.ensures ∙ ap (λ (l : Layout). capped (size l)) (sym known) in
    seat-is p k x there c.cells-offset.result c.shape_extent-extent.result.cells (c.cells-offset.ensures ∙ ap (λ (s : Section). s.cells) (c.requires.sections x.home)) wide

pub returns-in_ok-add-clause-sections : goal.returns-in_ok-add-clause-sections
returns-in_ok-add-clause-sections c =
    let p = c.args.program.now in
    let k = c.args.var in
    let x = c.index-as_slice-var.result in
    let is : x ≡ get_or p.vars k x = c.index-as_slice-var.is ∙ ap (λ (l : List Var). get_or l k x) c.as_slice.ensures in
    let there = slice_get_read p.vars _ k x refl c.requires.inside is in
    let known : layout_of p k ≡ among p.structs (length p.structs) x.shape = layout-known p k x there in
    let wide : c.shape_extent-extent.result.cells ≡ capped (size (layout_of p k))
    = ap (λ (e : Extent). e.cells) c.shape_extent-extent.ensures ∙ ap (λ (m : ℕ). capped (size (among p.structs m x.shape))) c.len.ensures ∙ ap (λ (l : Layout). capped (size l)) (sym known) in
    let none : c.args.reference ≡ false = search rules in
    sections-more p k x there c.args.reference c.requires.reference c.args.sections.now c.requires.sections none c.shape_extent-extent.result.cells wide c.add.new.sections c.in_ok-add.ensures

pub returns-else-not-reference-clause-seat : goal.returns-else-not-reference-clause-seat
unfolding section
returns-else-not-reference-clause-seat c =
    let p = c.args.program.now in
    let k = c.args.var in
    let x = c.index-as_slice-var.result in
    let is : x ≡ get_or p.vars k x = c.index-as_slice-var.is ∙ ap (λ (l : List Var). get_or l k x) c.as_slice.ensures in
    let there = slice_get_read p.vars _ k x refl c.requires.inside is in
    let known : layout_of p k ≡ among p.structs (length p.structs) x.shape = layout-known p k x there in
    let wide : c.shape_extent-extent.result.cells ≡ capped (size (layout_of p k))
    = ap (λ (e : Extent). e.cells) c.shape_extent-extent.ensures ∙ ap (λ (m : ℕ). capped (size (among p.structs m x.shape))) c.len.ensures ∙ ap (λ (l : Layout). capped (size l)) (sym known) in
    seat-is p k x there c.cells-offset.result c.shape_extent-extent.result.cells (c.cells-offset.ensures ∙ ap (λ (s : Section). s.cells) (c.requires.sections x.home)) wide

pub returns-else-not-reference-clause-sections : goal.returns-else-not-reference-clause-sections
returns-else-not-reference-clause-sections c =
    let p = c.args.program.now in
    let k = c.args.var in
    let x = c.index-as_slice-var.result in
    let is : x ≡ get_or p.vars k x = c.index-as_slice-var.is ∙ ap (λ (l : List Var). get_or l k x) c.as_slice.ensures in
    let there = slice_get_read p.vars _ k x refl c.requires.inside is in
    let some : c.args.reference ≡ true = search rules in
    sections-same p k x there c.args.reference c.requires.reference c.args.sections.now c.requires.sections some
