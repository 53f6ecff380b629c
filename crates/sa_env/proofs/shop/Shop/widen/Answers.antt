use Rattle.std.proofs.Common.{◌≡◌, ◌∙◌, ◌<◌, arith}
use Rattle.sa_env.specs.Flat.{join, spread, top_of, widened}
use Rattle.sa_env.specs.Shop.{flat_of}
use Rattle.sa_env.proofs.Lists.{if_ok}
use Rattle.sa_env.proofs.Spreading.{early, between, late}
use Rattle.sa_env.proofs.shop.Shop.widen.Goals as goal

pub returns-then-pass-le3-clause-value : goal.returns-then-pass-le3-clause-value
returns-then-pass-le3-clause-value c =
    let a = flat_of c.args.self.now c.args.a.now in
    let b = flat_of c.args.self.now c.args.b.now in
    if_ok (λ made. flat_of c.join.new.self made ≡ join a b) (λ made. flat_of c.join.new.self made ≡ widened c.args.self.now.limits c.args.t.now c.args.pass a b) c.join.result
    (λ made e. e ∙ early c.args.self.now.limits c.args.t.now c.args.pass a b c.if-pass-le3.true) c.join.ensures.value

pub returns-then-pass-le30-clause-value : goal.returns-then-pass-le30-clause-value
returns-then-pass-le30-clause-value c =
    let a = flat_of c.args.self.now c.args.a.now in
    let b = flat_of c.args.self.now c.args.b.now in
    if_ok (λ made. flat_of c.spread.new.self made ≡ spread c.args.self.now.limits c.args.t.now c.args.pass a b) (λ made. flat_of c.spread.new.self made ≡ widened c.args.self.now.limits c.args.t.now c.args.pass a b) c.spread.result
    (λ made e. e ∙ between c.args.self.now.limits c.args.t.now c.args.pass a b c.if-pass-le3.false c.if-pass-le30.true) c.spread.ensures.value

pub returns-else-pass-le30-clause-value : goal.returns-else-pass-le30-clause-value
returns-else-pass-le30-clause-value c =
    let a = flat_of c.args.self.now c.args.a.now in
    let b = flat_of c.args.self.now c.args.b.now in
    if_ok (λ made. flat_of c.top.new.self made ≡ top_of c.args.self.now.limits) (λ made. flat_of c.top.new.self made ≡ widened c.args.self.now.limits c.args.t.now c.args.pass a b) c.top.result
    (λ made e. e ∙ late c.args.self.now.limits c.args.t.now c.args.pass a b c.if-pass-le30.false) c.top.ensures.value
