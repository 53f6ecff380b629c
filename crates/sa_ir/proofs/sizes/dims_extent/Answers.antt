use Rattle.std.proofs.Common.{◌≡◌, ◌∙◌, ◌*◌, ◌+◌, ap, sym, drop, length, get_or, refl}
use Rattle.sa_typed.specs.Layouts.{Layout, nums, rows}
use Rattle.sa_ir.specs.declared.sizes.Extent.{Extent}
use Rattle.sa_typed.specs.Frames.{size}
use Rattle.sa_ir.specs.Sizes.{capped, among, no_array, shape_of}
use Rattle.sa_ir.proofs.SizeLemmas.{among-rows, cells-step, elements-step, capped-right, no-dims, one-times}
use Rattle.sa_ir.proofs.sizes.dims_extent.Goals as goal

pub loop-n-init : goal.loop-n-init
loop-n-init c =
    let p = c.args.program.now.structs in
    let m = c.args.structs in
    let whole : rows c.args.dims.now (among p m (no_array c.args.plain)) ≡ among p m (shape_of c.args.dims.now c.args.plain)
    = sym (among-rows p m (shape_of c.args.dims.now c.args.plain)) in
    record {
      cells = ap capped (one-times _) ∙ ap (λ (l : Layout). capped (size l)) whole;
      elements = ap capped (one-times _) ∙ ap (λ (l : Layout). capped (length (nums l))) whole;
    }

pub loop-n-preserved : goal.loop-n-preserved
loop-n-preserved c =
    let b = among c.args.program.now.structs c.args.structs (no_array c.args.plain) in
    let dims = c.args.dims.now in
    let i = c.loop-n.n-index in
    let rest = rows (drop (i + 1) dims) b in
    record {
      cells =
          ap (λ (e : Extent). capped (e.cells * size rest)) c.several-each.ensures ∙ cells-step dims i (get_or dims i 0) b c.loop-n-test.true refl c.loop-n.each.cells ∙ c.loop-n.invariant.cells;
      elements =
          ap (λ (e : Extent). capped (e.elements * length (nums rest))) c.several-each.ensures ∙ elements-step dims i (get_or dims i 0) b c.loop-n-test.true refl c.loop-n.each.elements
          ∙ c.loop-n.invariant.elements;
    }

pub returns : goal.returns
returns c =
    let b = among c.args.program.now.structs c.args.structs (no_array c.args.plain) in
    let l = among c.args.program.now.structs c.args.structs (shape_of c.args.dims.now c.args.plain) in
    let last = no-dims c.args.dims.now c.loop-n.n-index b c.loop-n-test.false in
    let one = c.plain_extent-one.result in
    let a = c.loop-n.each in
    let cells : c.saturating_mul.result ≡ capped (size l)
    = c.saturating_mul.ensures ∙ ap (λ (e : Extent). capped (a.cells * e.cells)) c.plain_extent-one.ensures ∙ capped-right a.cells (size b)
    ∙ ap (λ (x : Layout). capped (a.cells * size x)) (sym last) ∙ c.loop-n.invariant.cells in
    let elements : c.saturating_mul-2.result ≡ capped (length (nums l))
    = c.saturating_mul-2.ensures ∙ ap (λ (e : Extent). capped (a.elements * e.elements)) c.plain_extent-one.ensures ∙ capped-right a.elements (length (nums b))
    ∙ ap (λ (x : Layout). capped (a.elements * length (nums x))) (sym last) ∙ c.loop-n.invariant.elements in
    let whole : record { cells = c.saturating_mul.result; elements = c.saturating_mul-2.result } ≡ record { cells = capped (size l); elements = capped (length (nums l)) } = cc in
    whole
