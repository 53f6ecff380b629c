use Rattle.std.proofs.Common.{rules, ◌≡◌, Some, Ok, Err}
use Rattle.sa_outside.specs.Reading.{FitsTold, StopsAtLimit}
use Rattle.sa_outside.specs.declared.shelf.ShelfError.TheVariants.{TooLong}
use Rattle.sa_base.specs.declared.limit.Limit.TheVariants.{Source}
use Rattle.sa_base.specs.declared.status.Status.TheVariants as s
use Rattle.sa_top.specs.Answer.{SourceAnswer}
use Rattle.sa_top.specs.Report.{limit_text}
use Rattle.sa_top.proofs.ReplyLemmas.{read-told, long-told, long-answered}
use Rattle.sa_top.proofs.reply.named_reply.Goals as goal

pub returns-in-Ok-clause-answered : goal.returns-in-Ok-clause-answered
returns-in-Ok-clause-answered g c =
    let got = c.read.new.buf.items in
    let reply = c.in_ok-source_reply-in-Ok.field-0 in
    let fits : SourceAnswer got reply.status reply.text.items = search rules in
    let told : FitsTold (g.H.Shelf.files c.args.shelf.now) c.args.name.now 4194304 (Ok c.in-Ok.field-0) got = search rules in
    record { content = Some got; told = read-told c.in-Ok.field-0 (g.H.Shelf.files c.args.shelf.now) c.args.name.now got 4194304 told; fits = fits }

pub returns-in-Err-TooLong-clause-answered : goal.returns-in-Err-TooLong-clause-answered
returns-in-Err-TooLong-clause-answered g c =
    let got = c.read.new.buf.items in
    let reply = c.in_ok-limit_reply-in-Err-TooLong.field-0 in
    let told : FitsTold {T = Unit {0}} (g.H.Shelf.files c.args.shelf.now) c.args.name.now 4194304 (Err TooLong) got = search rules in
    let stops : StopsAtLimit {T = Unit {0}} 4194304 (Err TooLong) got = search rules in
    let wrote : (reply.status ≡ s.Limit) × (reply.text.items ≡ limit_text Source) = search rules in
    long-answered (g.H.Shelf.files c.args.shelf.now) c.args.name.now reply.status reply.text.items (long-told (Unit {0}) (g.H.Shelf.files c.args.shelf.now) c.args.name.now got told stops) wrote.0 wrote.1
