use Rattle.std.proofs.Common.{refl, arith}
use Rattle.sa_ir.proofs.InsideLemmas.{array-inside, next-large, next-small, some-elements, some-cells, one-width}
use Rattle.sa_ir.proofs.names.push_element.Goals as goal

pub returns-then-n-gt128 : goal.returns-then-n-gt128
returns-then-n-gt128 c = next-large c.args.program.now c.args.at _ _ c.args.n c.requires.at (array-inside c.args.program.now c.args.at c.args.n c.args.rest.now c.requires.array) _ _ c.if-n-gt128.true refl refl refl refl c.in_ok-push_star.ensures

pub nonzero_div-cells : goal.nonzero_div-cells
nonzero_div-cells c = some-elements c.args.program.now c.args.at c.args.at _ c.args.n c.requires.at (array-inside c.args.program.now c.args.at c.args.n c.args.rest.now c.requires.array) c.if-n-gt128.false

pub nonzero_div-at : goal.nonzero_div-at
nonzero_div-at c = (let w = one-width c.args.program.now c.args.at c.args.at _ c.args.n c.requires.at (array-inside c.args.program.now c.args.at c.args.n c.args.rest.now c.requires.array) c.if-n-gt128.false in let s = some-cells c.args.program.now c.args.at c.args.at _ c.args.n c.requires.at (array-inside c.args.program.now c.args.at c.args.n c.args.rest.now c.requires.array) c.if-n-gt128.false in omega (arith, w, s))

pub nonzero_rem-result : goal.nonzero_rem-result
nonzero_rem-result c = (let w = one-width c.args.program.now c.args.at c.args.at _ c.args.n c.requires.at (array-inside c.args.program.now c.args.at c.args.n c.args.rest.now c.requires.array) c.if-n-gt128.false in let s = some-cells c.args.program.now c.args.at c.args.at _ c.args.n c.requires.at (array-inside c.args.program.now c.args.at c.args.n c.args.rest.now c.requires.array) c.if-n-gt128.false in omega (arith, w, s))

pub returns : goal.returns
returns c = next-small c.args.program.now c.args.at _ _ c.args.n c.requires.at (array-inside c.args.program.now c.args.at c.args.n c.args.rest.now c.requires.array) _ _ c.if-n-gt128.false refl refl refl refl c.in_ok-push_index.ensures
