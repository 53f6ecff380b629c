use Rattle.std.proofs.Common.{rules, ◌≡◌, ap, length, subst, sym, ◌∙◌, drop}
use Rattle.std.specs.Io.KnownBytes.{Consumes}
use Rattle.sa_program.proofs.Consuming.{written_part}
use Rattle.sa_program.proofs.real.read_some.Goals as goal

pub returns-in-Ok-clause-bytes : goal.returns-in-Ok-clause-bytes
returns-in-Ok-clause-bytes g c =
    let len = c.len-len.result in
    let long : length c.args.buf.now.items ≡ len = search rules in
    let cut = ap (λ k. drop k c.truncate.new.self.items) long ∙ ap (drop len) c.truncate.ensures.items in
    let part = written_part len c.in-Ok.n c.resize.new.self.len c.deref_mut.result.now c.read-read.new.buf _ _ (search rules) (search rules) (search rules) in
    subst (Consumes (g.F.Read.remaining c.args.file.now) (g.F.Read.remaining c.read-read.new.self)) (sym (cut ∙ part)) c.in-Ok.ensures.bytes.0
