use Rattle.std.proofs.Common.{◌<◌, ◌≤◌, ◌∙◌, sym, arith, ◌+◌, length, drop, get_or, ap}
use Rattle.std.specs.Prelude.{min}
use Rattle.sa_interval.specs.Span.{Span}
use Rattle.sa_reference.specs.Environments.{put}
use Rattle.sa_transfer.specs.Lists.{stored, copied_by}
use Rattle.sa_transfer.proofs.StoreLaws.{copied_more, copied_end}
use Rattle.sa_transfer.proofs.cells.copy_by.Goals as goal

pub loop-i-preserved : goal.loop-i-preserved
loop-i-preserved c =
    let i = c.loop-i.i in
    let ks = c.args.ks.now in
    let new = c.args.new.now in
    let s = c.index-new-i.result in
    let first : i < length ks = omega arith in
    let second : i < length new = omega arith in
    rw c.store.ensures
    (ap (λ (t : Span). copied_by c.args.starred.now (drop (i + 1) ks) (drop (i + 1) new) (put (get_or ks i 0) (stored c.args.starred.now (get_or ks i 0) t c.loop-i.spans) c.loop-i.spans)) c.index-new-i.is
    ∙ sym (copied_more c.args.starred.now ks new i 0 s c.loop-i.spans first second) ∙ c.loop-i.invariant)

pub returns : goal.returns
returns c =
    let past : min (length c.args.ks.now) (length c.args.new.now) ≤ c.loop-i.i = omega arith in
    sym (copied_end c.args.starred.now c.args.ks.now c.args.new.now c.loop-i.i c.loop-i.spans past) ∙ c.loop-i.invariant
