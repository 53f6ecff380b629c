use Rattle.std.proofs.Common.{◌≡◌, ◌∙◌, sym, None, Some, to_z, of_z, arith, ap}
use mir.Syntax.{w128}
use Rattle.std.proofs.lemmas.Int.{ints}
use Rattle.sa_env.specs.Flat.{dead}
use Rattle.sa_env.specs.Forms.{cut, narrowed, term_imposed}
use Rattle.sa_env.specs.Shop.{flat_of}
use Rattle.sa_env.proofs.Shops.{belongs_dead, flat_dead}
use Rattle.sa_env.proofs.Imposing.{imposed_none, imposed_cut, part_of_range}
use Rattle.sa_env.proofs.shop.Shop.impose_term.Goals as goal

pub returns-in_default-clause-belongs : goal.returns-in_default-clause-belongs
returns-in_default-clause-belongs c = belongs_dead c.args.self.now

pub returns-in_default-clause-value : goal.returns-in_default-clause-value
returns-in_default-clause-value c = flat_dead c.args.self.now ∙ imposed_none c.args.t c.args.k (flat_of c.args.self.now c.args.e.now) (sym c.in_default.is ∙ c.cell.ensures.value)

pub assign-requires-clause-range : goal.assign-requires-clause-range
assign-requires-clause-range c = part_of_range c.args.self.now.limits.tops c.args.t.cell c.in-Some.s c.in-Some-cut.s c.requires.cell c.in-Some-cut.ensures.part c.in-Some.ensures.range

pub returns-in-None-clause-belongs : goal.returns-in-None-clause-belongs
returns-in-None-clause-belongs c = belongs_dead c.args.self.now

pub returns-in-None-clause-value : goal.returns-in-None-clause-value
returns-in-None-clause-value c =
    let k : to_z w128 (of_z w128 c.args.k) ≡ c.args.k = omega (arith, ints) in
    flat_dead c.args.self.now
    ∙ imposed_cut c.args.t c.args.k (flat_of c.args.self.now c.args.e.now) c.in-Some.s None (sym c.in-Some.is ∙ c.cell.ensures.value) (sym c.in-None.is ∙ c.cut.ensures.value ∙ ap (λ k. cut c.args.t.plus k c.in-Some.s) k)
