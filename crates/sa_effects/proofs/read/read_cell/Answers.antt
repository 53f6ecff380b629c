use Rattle.sa_env.specs.Shop.{flat_of}
use Rattle.sa_effects.proofs.Operations.{read_at}
use Rattle.sa_effects.proofs.read.read_cell.Goals as goal

pub returns-clause-value : goal.returns-clause-value
returns-clause-value c =
    λ r x a same h. read_at r c.args.shop.now.limits x c.args.k c.args.starred (flat_of c.args.shop.now c.args.e.now) a c.cell.result c.cell_form.result
    c.requires.cell c.requires.belongs.fair same h c.cell.ensures.value c.cell_form.ensures
