use Rattle.std.proofs.Common.{◌≡◌, ◌∙◌, ◌++◌, ◌+◌, ◌<◌, List, ap, refl, sym, subst, length, get_or, take, arith}
use Rattle.std.proofs.lemmas.List.{get_or_default, take_all}
use Rattle.sa_interval.specs.Span.{Span, IsPart}
use Rattle.sa_typed.specs.Cells.{Cell, cells}
use Rattle.sa_reference.specs.Environments.{ranges, widened_span, widened_spans}
use Rattle.sa_reference.specs.Fair.{AreIn}
use Rattle.sa_cells.proofs.EnvLemmas.{length-in, length-ranges, part-at, widened-more, widened-end, in-push}
use Rattle.sa_cells.proofs.env.widened_cells.Goals as goal

pub loop-k-init : goal.loop-k-init
unfolding AreIn
loop-k-init c = record {
  value = ap (λ (l : List Span). l ++ widened_spans c.args.thresholds.now c.args.pass c.args.tops.now c.args.a.now c.args.b.now) c.in_ok-spans.ensures.items;
  kept = subst (λ (l : List Span). AreIn (take 0 (cells c.args.program.now)) l) (sym c.in_ok-spans.ensures.items) tt;
}

pub bounds-a-k : goal.bounds-a-k
bounds-a-k c =
    let n = length-in (cells c.args.program.now) c.args.a.now c.requires.a_in in
    let m = length-ranges (cells c.args.program.now) in
    let t = ap length c.requires.tops in
    omega (arith, n, m, t)

pub bounds-b-k : goal.bounds-b-k
bounds-b-k c =
    let n = length-in (cells c.args.program.now) c.args.b.now c.requires.b_in in
    let m = length-ranges (cells c.args.program.now) in
    let t = ap length c.requires.tops in
    omega (arith, n, m, t)

pub widened_span-requires-clause-i_in : goal.widened_span-requires-clause-i_in
widened_span-requires-clause-i_in c =
    let m = length-ranges (cells c.args.program.now) in
    let t = ap length c.requires.tops in
    let at : c.index-tops-k.result ≡ get_or (ranges (cells c.args.program.now)) c.loop-k.k c.index-tops-k.result
    = c.index-tops-k.is ∙ ap (λ (l : List Span). get_or l c.loop-k.k c.index-tops-k.result) c.requires.tops in
    subst (λ (s : Span). IsPart s c.index-tops-k.result) (sym c.index-a-k.is)
    (subst (λ (s : Span). IsPart (get_or c.args.a.now c.loop-k.k c.index-a-k.result) s) (sym at)
    (part-at (cells c.args.program.now) c.args.a.now c.loop-k.k c.index-a-k.result c.index-tops-k.result c.requires.a_in (omega (arith, m, t))))

pub widened_span-requires-clause-j_in : goal.widened_span-requires-clause-j_in
widened_span-requires-clause-j_in c =
    let m = length-ranges (cells c.args.program.now) in
    let t = ap length c.requires.tops in
    let at : c.index-tops-k.result ≡ get_or (ranges (cells c.args.program.now)) c.loop-k.k c.index-tops-k.result
    = c.index-tops-k.is ∙ ap (λ (l : List Span). get_or l c.loop-k.k c.index-tops-k.result) c.requires.tops in
    subst (λ (s : Span). IsPart s c.index-tops-k.result) (sym c.index-b-k.is)
    (subst (λ (s : Span). IsPart (get_or c.args.b.now c.loop-k.k c.index-b-k.result) s) (sym at)
    (part-at (cells c.args.program.now) c.args.b.now c.loop-k.k c.index-b-k.result c.index-tops-k.result c.requires.b_in (omega (arith, m, t))))

pub loop-k-preserved : goal.loop-k-preserved
loop-k-preserved c =
    let n = length-in (cells c.args.program.now) c.args.a.now c.requires.a_in in
    let j = length-in (cells c.args.program.now) c.args.b.now c.requires.b_in in
    let m = length-ranges (cells c.args.program.now) in
    let t = ap length c.requires.tops in
    let top = c.index-tops-k.result in
    let is : c.widened_span.result ≡ widened_span c.args.thresholds.now c.args.pass (get_or c.args.tops.now c.loop-k.k c.index-tops-k.result) (get_or c.args.a.now c.loop-k.k c.index-a-k.result) (get_or c.args.b.now c.loop-k.k c.index-b-k.result)
    = c.widened_span.ensures.value
    ∙ ap (λ (s : Span). widened_span c.args.thresholds.now c.args.pass s c.index-a-k.result c.index-b-k.result) c.index-tops-k.is
    ∙ ap (λ (s : Span). widened_span c.args.thresholds.now c.args.pass (get_or c.args.tops.now c.loop-k.k c.index-tops-k.result) s c.index-b-k.result) c.index-a-k.is
    ∙ ap (λ (s : Span). widened_span c.args.thresholds.now c.args.pass (get_or c.args.tops.now c.loop-k.k c.index-tops-k.result) (get_or c.args.a.now c.loop-k.k c.index-a-k.result) s) c.index-b-k.is in
    let at : c.index-tops-k.result ≡ get_or (ranges (cells c.args.program.now)) c.loop-k.k c.index-tops-k.result
    = c.index-tops-k.is ∙ ap (λ (l : List Span). get_or l c.loop-k.k c.index-tops-k.result) c.requires.tops in
    record {
      value =
          widened-more c.args.thresholds.now c.args.pass c.args.tops.now c.args.a.now c.args.b.now c.loop-k.k c.index-tops-k.result c.index-a-k.result c.index-b-k.result c.widened_span.result
          c.loop-k.spans.items c.push.new.self.items c.loop-k-test.true (omega (arith, n, m, t)) (omega (arith, j, m, t)) is c.in_ok-push.ensures.items c.loop-k.invariant.value;
      kept =
          subst (λ (l : List Span). AreIn (take (c.loop-k.k + 1) (cells c.args.program.now)) l) (sym c.in_ok-push.ensures.items)
          (in-push (cells c.args.program.now) c.loop-k.k c.index-tops-k.result c.widened_span.result c.loop-k.spans.items c.loop-k.invariant.kept (omega (arith, m, t)) c.widened_span.ensures.ordered
          (subst (λ (s : Span). IsPart c.widened_span.result s) at c.widened_span.ensures.kept));
    }

pub returns-clause-value : goal.returns-clause-value
returns-clause-value c =
    c.from_vec.ensures
    ∙ widened-end c.args.thresholds.now c.args.pass c.args.tops.now c.args.a.now c.args.b.now c.loop-k.k c.loop-k.spans.items c.loop-k-test.false c.loop-k.invariant.value

pub returns-clause-kept : goal.returns-clause-kept
returns-clause-kept c =
    let m = length-ranges (cells c.args.program.now) in
    let t = ap length c.requires.tops in
    subst (λ (l : List Span). AreIn (cells c.args.program.now) l) (sym c.from_vec.ensures)
    (subst (λ (cs : List Cell). AreIn cs c.loop-k.spans.items) (take_all c.loop-k.k (cells c.args.program.now) (omega (arith, m, t))) c.loop-k.invariant.kept)
