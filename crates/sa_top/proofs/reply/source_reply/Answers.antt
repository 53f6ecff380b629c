use Rattle.sa_top.proofs.ReplyLemmas.{report-fits}
use Rattle.sa_top.proofs.reply.source_reply.Goals as goal

pub returns-in-Ok-clause-fits : goal.returns-in-Ok-clause-fits
returns-in-Ok-clause-fits c = report-fits c.args.source.now c.in-Ok.program c.built_reply.result c.requires c.in-Ok.ensures.accepted c.built_reply.ensures
