use Rattle.std.proofs.Common.{rules, arith, ◌≡◌, ◌∙◌, length, ap, sym, List, false, Bool, replicate}
use Rattle.sa_report.specs.declared.names.Spot.{Spot}
use Rattle.sa_report.specs.Loops.{marks_of}
use Rattle.sa_report.specs.Spots.{spots}
use Rattle.sa_report.proofs.MarkLaws.{main-typed}
use Rattle.sa_report.proofs.ReportLemmas.{marks-whole, marks-long, kept-front}
use Rattle.sa_report.proofs.shown.marks.Goals as goal

pub mark_loops-requires-clause-typed : goal.mark_loops-requires-clause-typed
mark_loops-requires-clause-typed c = main-typed c.args.program.now c.main_body.result.now c.main_body.ensures c.requires.typed.body

pub returns : goal.returns
returns c =
    let p = c.args.program.now in
    let q = c.args.place in
    let n = c.len.result in
    let many : n ≡ length c.args.cells.now.spots.items = (let a = c.args.cells.now.spots.ok.0 in let b = c.len.ensures in omega (arith, a, b)) in
    let known : n ≡ length (spots p) = many ∙ ap (λ (xs : List Spot). length xs) c.requires.cells.spots in
    let old : c.deref_mut.result.now ≡ replicate n false = search rules in
    let whole : c.mark_loops.new.marks ≡ marks_of p q = marks-whole p q c.main_body.result.now n c.deref_mut.result.now c.mark_loops.new.marks c.main_body.ensures known old c.in_ok-mark_loops.ensures in
    let long : length c.mark_loops.new.marks ≡ n = ap (λ (xs : List Bool). length xs) whole ∙ marks-long p q ∙ sym known in
    let len : c.in_ok-marks.marks.len ≡ n = search rules in
    kept-front c.in_ok-marks.marks.len c.mark_loops.new.marks _ (long ∙ sym len) ∙ whole
