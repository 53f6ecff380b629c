use Rattle.sa_dbm.specs.Stored.{shown}
use Rattle.sa_dbm.proofs.NodeLaws.{Added}
use Rattle.sa_dbm.proofs.entries.add_at_node.Given as goal

abbrev pub invariant-loop-i : goal.invariant-loop-i
invariant-loop-i l = Added l.nodes l.node l.i l.fn.bounds l.bounds (shown l.row) (shown l.column)
