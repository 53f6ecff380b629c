use Rattle.std.proofs.Common.{rules, ◌≡◌, ◌∙◌, ◌++◌, ap, refl, List, slice_get}
use Rattle.std.proofs.lemmas.Result.{on_ok_weaker}
use Rattle.sa_cells.specs.declared.ground.Stretch.{Stretch}
use Rattle.sa_report.proofs.InsideLemmas.{begins-inside, begins-name, var-there}
use Rattle.sa_report.proofs.SpotLemmas.{stretch-is}
use Rattle.sa_report.proofs.names.push_name.Goals as goal

pub push_steps-requires-clause-start : goal.push_steps-requires-clause-start
push_steps-requires-clause-start c =
    let p = c.args.program.now in
    let s = c.args.spot in
    let x = c.index-as_slice-spot.result in
    let there = var-there p s.var c.as_slice.result.now x c.requires.spot.var c.as_slice.ensures c.index-as_slice-spot.is in
    let cells = stretch-is p c.as_slice-2.result.now s.var _ (λ v. ap (λ (ss : List Stretch). slice_get ss v) c.as_slice-2.ensures ∙ c.requires.cells.ground.vars v) c.requires.spot.var in
    begins-inside p s x _ c.requires.spot c.requires.cells.ground.few there c.as_slice-3.ensures refl c.len.ensures cells refl

pub returns : goal.returns
returns c =
    let p = c.args.program.now in
    let s = c.args.spot in
    let x = c.index-as_slice-spot.result in
    let there = var-there p s.var c.as_slice.result.now x c.requires.spot.var c.as_slice.ensures c.index-as_slice-spot.is in
    let name : c.extend_from_slice.new.self.items ≡ c.args.text.now.items ++ x.name = search rules in
    on_ok_weaker c.push_steps.result
    (λ h. begins-name p s x c.len.result c.as_slice-3.result.now there c.len.ensures c.as_slice-3.ensures c.args.text.now.items c.extend_from_slice.new.self.items c.push_place.new.text.items c.push_steps.new.text.items name c.in_ok-push_place.ensures h)
    c.push_steps.ensures
