use Rattle.std.proofs.Common.{Some, sym, ap, ◌∙◌, arith}
use Rattle.sa_shared.specs.declared.nodes.Node.TheVariants.{Leaf}
use Rattle.sa_shared.specs.Tree.{leaf}
use Rattle.sa_shared.proofs.Unfolding.{inside_at, read_at, leaf_at}
use Rattle.sa_shared.proofs.nodes.Nodes.value.Goals as goal

pub at-requires : goal.at-requires
at-requires g c = inside_at c.args.self.now c.args.number 1 (omega arith) c.requires

pub unreachable-requires : goal.unreachable-requires
unreachable-requires g c = leaf_at c.args.self.now c.args.number c.at.result.now c.at.ensures c.requires c.in-Empty.is

pub returns : goal.returns
returns g c = read_at c.args.self.now c.args.number 1 (Leaf c.in-Leaf.value) (c.at.ensures ∙ ap Some c.in-Leaf.is) c.requires ∙ ap (leaf c.args.number) (sym c.get.ensures)
