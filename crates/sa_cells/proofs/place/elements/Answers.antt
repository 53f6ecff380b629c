use Rattle.std.proofs.Common.{◌≡◌, ◌∙◌, refl, arith}
use Rattle.sa_cells.specs.Sizes.{among}
use Rattle.sa_cells.proofs.StepLemmas.{next-large, next-none, next-small, cells-of, array-place}
use Rattle.sa_cells.proofs.place.elements.Goals as goal

pub returns-then-n-gt128 : goal.returns-then-n-gt128
returns-then-n-gt128 c =
    let q = c.args.place in
    let array = array-place c.args.program.now q c.args.n c.args.rest.now c.requires.array in
    next-large c.args.program.now c.args.span q _ _ c.args.n c.requires.place array c.if-n-gt128.true refl refl refl refl

pub returns-then-n-eq0 : goal.returns-then-n-eq0
returns-then-n-eq0 c =
    let q = c.args.place in
    let array = array-place c.args.program.now q c.args.n c.args.rest.now c.requires.array in
    next-none c.args.program.now c.args.span q q _ c.args.n c.requires.place array c.if-n-eq0.true

pub picked-requires : goal.picked-requires
picked-requires c =
    let some = c.if-n-eq0.false in
    let q = c.args.place in
    let array = array-place c.args.program.now q c.args.n c.args.rest.now c.requires.array in
    let whole = cells-of c.args.program.now c.args.span q q _ c.args.n c.requires.place array c.if-n-gt128.false (omega (arith, some)) in
    rw (c.deref.ensures.value, whole) c.requires.place.inside

pub returns : goal.returns
returns c =
    let some = c.if-n-eq0.false in
    let q = c.args.place in
    let array = array-place c.args.program.now q c.args.n c.args.rest.now c.requires.array in
    next-small c.args.program.now c.args.span q _ _ c.args.n c.requires.place array c.if-n-gt128.false (omega (arith, some)) refl refl refl
    (c.in_ok-picked.ensures ∙ rw c.deref.ensures.value refl)
