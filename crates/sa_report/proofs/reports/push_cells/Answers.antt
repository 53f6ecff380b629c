use Rattle.std.proofs.Common.{◌≡◌, ◌∙◌, ◌++◌, arith, length, get_or, ap, List, ℕ, Bool}
use Rattle.sa_report.specs.declared.names.Spot.{Spot}
use Rattle.sa_report.proofs.ReportLemmas.{cells-whole, cells-passed, cells-over, shown-is, spot-is, marks-long, inside-both, past-one}
use Rattle.sa_report.proofs.reports.push_cells.Goals as goal

pub loop-k-init : goal.loop-k-init
loop-k-init c = ap (λ (x : List ℕ). c.args.text.now.items ++ x) (cells-whole c.args.program.now c.args.place c.args.spans.now)

pub bounds-marks-k : goal.bounds-marks-k
bounds-marks-k c =
    let p = c.args.program.now in
    let n : c.len.result ≡ length c.args.cells.now.spots.items = (let a = c.args.cells.now.spots.ok.0 in let b = c.len.ensures in omega (arith, a, b)) in
    let at = inside-both p c.args.spans.now c.min-k-end.result c.len.result c.loop-k.k c.args.cells.now.spots.items c.requires.cells.spots n c.min-k-end.ensures c.loop-k-test.true in
    let long = ap (λ (bs : List Bool). length bs) c.requires.marks ∙ marks-long p c.args.place in
    let here = at.0 in
    omega (arith, here, long)

pub push_shown-requires-clause-spot : goal.push_shown-requires-clause-spot
push_shown-requires-clause-spot c =
    let p = c.args.program.now in
    let n : c.len.result ≡ length c.args.cells.now.spots.items = (let a = c.args.cells.now.spots.ok.0 in let b = c.len.ensures in omega (arith, a, b)) in
    let at = inside-both p c.args.spans.now c.min-k-end.result c.len.result c.loop-k.k c.args.cells.now.spots.items c.requires.cells.spots n c.min-k-end.ensures c.loop-k-test.true in
    spot-is p c.loop-k.k c.index-spot.result.now at.0 (c.index-spot.ensures ∙ ap (λ (xs : List Spot). get_or xs c.loop-k.k c.index-spot.result.now) c.requires.cells.spots)

pub loop-k-preserved : goal.loop-k-preserved
loop-k-preserved c =
    let p = c.args.program.now in
    let q = c.args.place in
    let k = c.loop-k.k in
    let s = c.index-spot.result.now in
    let n : c.len.result ≡ length c.args.cells.now.spots.items = (let a = c.args.cells.now.spots.ok.0 in let b = c.len.ensures in omega (arith, a, b)) in
    let at = inside-both p c.args.spans.now c.min-k-end.result c.len.result k c.args.cells.now.spots.items c.requires.cells.spots n c.min-k-end.ensures c.loop-k-test.true in
    let is = c.index-spot.ensures ∙ ap (λ (xs : List Spot). get_or xs k s) c.requires.cells.spots in
    let shown = shown-is p q k s c.args.marks.now c.is_shown-shown.result at.0 is c.requires.marks c.is_shown-shown.ensures in
    cells-passed p q c.args.spans.now k s c.index-spans-k.result c.is_shown-shown.result c.loop-k.text.items c.push_shown.new.text.items _ at.0 at.1 is c.index-spans-k.is shown c.in_ok-push_shown.ensures c.loop-k.invariant

pub returns : goal.returns
returns c =
    let p = c.args.program.now in
    let n : c.len.result ≡ length c.args.cells.now.spots.items = (let a = c.args.cells.now.spots.ok.0 in let b = c.len.ensures in omega (arith, a, b)) in
    cells-over p c.args.place c.args.spans.now c.loop-k.k c.loop-k.text.items _
    (past-one p c.args.spans.now c.min-k-end.result c.len.result c.loop-k.k c.args.cells.now.spots.items c.requires.cells.spots n c.min-k-end.ensures c.loop-k-test.false) c.loop-k.invariant
