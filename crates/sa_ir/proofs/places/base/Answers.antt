use Rattle.std.proofs.Common.{◌∙◌, sym, ap, List}
use Rattle.std.specs.Prelude.{None}
use Rattle.sa_ir.specs.declared.frame.Kept.{Kept}
use Rattle.sa_ir.specs.declared.frame.Reference.{Reference}
use Rattle.sa_ir.specs.declared.frame.Target.{Target}
use Rattle.sa_ir.specs.Cursors.{referred}
use Rattle.sa_ir.specs.Frames.{own_target}
use Rattle.sa_ir.proofs.PlaceLaws.{base-some, base-none, own-whole}
use Rattle.sa_ir.proofs.places.base.Goals as goal

pub returns-in-Some : goal.returns-in-Some
returns-in-Some c =
    let f = c.args.frame.now in
    let t = c.in-Some.target.now in
    ap (λ (rs : List Kept). (let x : Target = record { first = t.first; rows = rs } in x)) c.as_slice.ensures
    ∙ sym (base-some f.references.items (own_target c.args.program.now f.first) c.args.var t (sym (c.in-Some.ensures ∙ ap (λ (l : List Reference). referred l c.args.var None) c.deref.ensures.value)))

pub returns-in_ok-own_first-in-None : goal.returns-in_ok-own_first-in-None
returns-in_ok-own_first-in-None c =
    let f = c.args.frame.now in
    own-whole c.args.program.now f.first c.args.var c.in_ok-own_first-in-None.field-0 c.in_ok-own_first-in-None.ensures
    ∙ sym (base-none f.references.items (own_target c.args.program.now f.first) c.args.var (sym (c.in-None.ensures ∙ ap (λ (l : List Reference). referred l c.args.var None) c.deref.ensures.value)))
