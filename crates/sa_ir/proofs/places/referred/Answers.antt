use Rattle.std.proofs.Common.{◌∙◌, ◌+◌, sym, ap, drop}
use Rattle.std.specs.Prelude.{◌==◌, if◌then◌else◌, Option, Some}
use Rattle.std.specs.Option.{option_copied}
use Rattle.sa_ir.specs.declared.frame.Reference.{Reference}
use Rattle.sa_ir.specs.declared.frame.Target.{Target}
use Rattle.sa_ir.specs.Cursors.{referred}
use Rattle.sa_ir.proofs.PlaceLaws.{referred-more, referred-end}
use Rattle.sa_ir.proofs.places.referred.Goals as goal

pub loop-reference-preserved : goal.loop-reference-preserved
loop-reference-preserved c =
    let rs = c.args.references.now in
    let i = c.loop-reference.reference-index in
    let v = c.args.var in
    let o = option_copied c.loop-reference.found in
    ap (λ (t : Option Target). referred (drop (i + 1) rs) v t)
    (c.newer-found.ensures ∙ ap (λ (r : Reference). if v == r.var then Some r.target else o) c.reference-item.is)
    ∙ sym (referred-more rs i v c.reference-item.result o c.loop-reference-test.true) ∙ c.loop-reference.invariant

pub returns : goal.returns
returns c = sym (referred-end c.args.references.now c.loop-reference.reference-index c.args.var (option_copied c.loop-reference.found) c.loop-reference-test.false) ∙ c.loop-reference.invariant
