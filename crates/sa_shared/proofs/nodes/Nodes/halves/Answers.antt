use Rattle.std.proofs.Common.{Some, ap, ◌∙◌, arith}
use Rattle.sa_shared.proofs.Unfolding.{inside_at, fork_at, halves_at, less_at}
use Rattle.sa_shared.proofs.nodes.Nodes.halves.Goals as goal

pub at-requires : goal.at-requires
at-requires g c = inside_at c.args.self.now c.args.number c.args.slots (omega arith) c.requires.balanced

pub unreachable-requires : goal.unreachable-requires
unreachable-requires g c =
    fork_at c.args.self.now c.args.number c.args.slots c.at.result.now c.requires.some c.at.ensures c.requires.balanced c.in-Empty.is

pub returns : goal.returns
returns g c =
    let h = halves_at c.args.self.now c.args.number c.args.slots c.in-Fork.left c.in-Fork.right (c.at.ensures ∙ ap Some c.in-Fork.is) c.requires.balanced in
    record { tree = h.0; left = h.1; right = h.2; older = less_at c.args.self.now c.args.number c.args.slots c.in-Fork.left c.in-Fork.right (c.at.ensures ∙ ap Some c.in-Fork.is) c.requires.balanced }
