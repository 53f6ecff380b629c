use Rattle.std.proofs.Common.{◌≡◌, ◌∙◌, ◌+◌, ◌≤◌, ap, sym, refl, subst, List, length, map, take, drop, arith}
use Rattle.std.proofs.lemmas.List.{length-map}
use Rattle.sa_interval.specs.Span.{Span}
use Rattle.sa_typed.specs.Layouts.{layout_of}
use Rattle.sa_typed.specs.Cells.{cells, cell_of, inner_cells}
use Rattle.sa_reference.specs.Environments.{cell_range, ranges}
use Rattle.sa_reference.specs.Assignments.{set_cells}
use Rattle.sa_reference.specs.Fair.{AreIn}
use Rattle.sa_cells.specs.Settings.{placed}
use Rattle.sa_cells.proofs.EnvLemmas.{length-in, length-ranges}
use Rattle.sa_cells.proofs.SetLemmas.{set-unknown, no-variable, the-variable, stretch-fits, length-inner, set-known, ranges-part, set-ranges-in}
use Rattle.sa_cells.proofs.env.set_ranges.Goals as goal

pub returns-in_default-clause-value : goal.returns-in_default-clause-value
returns-in_default-clause-value c =
    set-unknown cell_range c.args.var c.args.program.now c.args.spans.now (no-variable c.args.program.now c.args.var _ (c.requires.ground.vars c.args.var) (sym c.in_default.ensures.value))

pub part-tops-requires : goal.part-tops-requires
part-tops-requires c =
    let p = c.args.program.now in
    let st = c.in-Some.stretch.now in
    let at = c.in-Some.ensures.value ∙ c.requires.ground.vars c.args.var in
    let x = the-variable p c.args.var st at in
    let fits = stretch-fits p c.args.var x.0 st x.1 at c.requires.ground.few in
    let n = ap length (c.as_slice.ensures ∙ c.requires.ground.tops) ∙ length-ranges (cells p) in
    omega (arith, fits, n)

pub place-requires-clause-fits : goal.place-requires-clause-fits
place-requires-clause-fits c =
    let p = c.args.program.now in
    let st = c.in-Some.stretch.now in
    let at = c.in-Some.ensures.value ∙ c.requires.ground.vars c.args.var in
    let x = the-variable p c.args.var st at in
    let fits = stretch-fits p c.args.var x.0 st x.1 at c.requires.ground.few in
    let many = length-inner p c.args.var x.0 st x.1 at in
    let new = c.part-tops.ensures ∙ ranges-part p c.args.var x.0 st x.1 at c.as_slice.result.now (c.as_slice.ensures ∙ c.requires.ground.tops) in
    let n = ap length new ∙ length-map (inner_cells (layout_of p c.args.var)) (λ i. cell_range (cell_of c.args.var i)) in
    let m = length-in (cells p) c.args.spans.now c.requires.spans in
    omega (arith, fits, many, n, m)

pub place-requires-clause-few : goal.place-requires-clause-few
place-requires-clause-few c =
    let few = c.requires.ground.few in
    let m = length-in (cells c.args.program.now) c.args.spans.now c.requires.spans in
    omega (arith, few, m)

set-is : (c : goal.After-place) → c.place.new.spans ≡ set_cells cell_range c.args.var (cells c.args.program.now) c.args.spans.now
set-is c =
    let p = c.args.program.now in
    let st = c.in-Some.stretch.now in
    let at = c.in-Some.ensures.value ∙ c.requires.ground.vars c.args.var in
    let x = the-variable p c.args.var st at in
    let new = c.part-tops.ensures ∙ ranges-part p c.args.var x.0 st x.1 at c.as_slice.result.now (c.as_slice.ensures ∙ c.requires.ground.tops) in
    c.place.ensures ∙ set-known p c.args.var x.0 st x.1 at cell_range c.args.spans.now c.part-tops.result.now (length-in (cells p) c.args.spans.now c.requires.spans) new

pub returns-clause-value : goal.returns-clause-value
returns-clause-value c = set-is c

pub returns-clause-kept : goal.returns-clause-kept
returns-clause-kept c =
    subst (λ (l : List Span). AreIn (cells c.args.program.now) l) (sym (set-is c)) (set-ranges-in c.args.var (cells c.args.program.now) c.args.spans.now c.requires.spans)
