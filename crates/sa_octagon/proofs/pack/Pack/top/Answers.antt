use Rattle.sa_octagon.proofs.Tops.{filled_top, filled_within, filled_closed, filled_points}
use Rattle.std.proofs.Common.{arith}
use Rattle.sa_octagon.proofs.pack.Pack.top.Goals as goal

pub returns-clause-value : goal.returns-clause-value
returns-clause-value c = filled_top c.args.spans.now (omega (arith, c.requires.few, c.requires.spans)) c.requires.small c.fill_top.new.matrix c.fill_top.ensures

pub returns-clause-closed : goal.returns-clause-closed
returns-clause-closed c = filled_closed c.args.spans.now (omega (arith, c.requires.few, c.requires.spans)) c.requires.small c.fill_top.new.matrix c.fill_top.ensures c.read_all.ensures

pub returns-clause-within : goal.returns-clause-within
returns-clause-within c = filled_within c.args.spans.now (omega (arith, c.requires.few, c.requires.spans)) c.requires.small c.fill_top.new.matrix c.fill_top.ensures

pub returns-clause-points : goal.returns-clause-points
returns-clause-points c = filled_points c.args.spans.now (omega (arith, c.requires.few, c.requires.spans)) c.requires.small c.fill_top.new.matrix c.fill_top.ensures c.read_all.ensures
