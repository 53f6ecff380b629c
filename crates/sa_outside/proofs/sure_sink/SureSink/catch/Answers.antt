use Rattle.std.proofs.Common.{rules}
use Rattle.sa_outside.proofs.Catching.{kept_is, rest_is}
use Rattle.sa_outside.proofs.sure_sink.SureSink.catch.Goals as goal

pub returns : goal.returns
returns c =
    let s = c.self.inside in
    let kept = kept_is s.room s.kept.items c.args.bytes.now (search rules) in
    let rest = rest_is s.room s.kept.items c.args.bytes.now (search rules) in
    search rules
