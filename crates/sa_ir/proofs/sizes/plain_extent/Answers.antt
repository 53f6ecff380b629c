use Rattle.std.proofs.Common.{sym}
use Rattle.sa_ir.proofs.SizeLemmas.{number-extent}
use Rattle.sa_ir.proofs.sizes.plain_extent.Goals as goal

pub returns-in-Scalar : goal.returns-in-Scalar
returns-in-Scalar c = sym (number-extent c.args.program.now.structs c.args.structs c.args.plain _ c.in-Scalar.is)
