use Rattle.std.proofs.Common.{◌≡◌, ◌∙◌, ◌+◌, ℕ, Bool, List, length, get_or, sym, ap, subst, arith}
use Rattle.sa_typed.specs.Frames.{is_reference}
use Rattle.sa_ir.specs.Tables.{seat_at, AreSections}
use Rattle.sa_ir.proofs.TableLemmas.{seated-none, sections-none, seated-more, seated-all, flags-long, flag-is}
use Rattle.sa_ir.proofs.table.seats.Goals as goal

pub loop-var-init : goal.loop-var-init
loop-var-init c = record { seats = seated-none c.args.program.now c.new-seats.result.items c.new-seats.ensures.items; sections = λ h. c.requires.sections h ∙ sections-none c.args.program.now h }

pub bounds-references-var : goal.bounds-references-var
bounds-references-var c =
    let p = c.args.program.now in
    let e = ap (λ (l : List Bool). length l) c.requires.references ∙ flags-long p in
    let n = c.len-var-end.ensures in
    let h = c.loop-var-test.true in
    omega (arith, e, n, h)

pub add_var-requires-clause-reference : goal.add_var-requires-clause-reference
add_var-requires-clause-reference c =
    let p = c.args.program.now in
    let n = c.len-var-end.ensures in
    let h = c.loop-var-test.true in
    let k : c.in_ok-number.number ≡ c.loop-var.var = c.in_ok-number.ensures.value in
    ap (λ (l : List Bool). get_or l c.loop-var.var _) c.requires.references ∙ flag-is p c.loop-var.var _ (omega (arith, n, h)) ∙ ap (is_reference p) (sym k)

pub loop-var-preserved : goal.loop-var-preserved
loop-var-preserved c =
    let p = c.args.program.now in
    let k : c.in_ok-number.number ≡ c.loop-var.var = c.in_ok-number.ensures.value in
    record {
      seats = seated-more p c.loop-var.var c.loop-var.seats.items c.push.new.self.items c.in_ok-seat.seat c.loop-var.invariant.seats c.in_ok-push.ensures.items (c.in_ok-seat.ensures.seat ∙ ap (seat_at p) k);
      sections = subst (λ (n : ℕ). AreSections p (n + 1) c.add_var.new.sections) k c.in_ok-seat.ensures.sections;
    }

pub returns-clause-seats : goal.returns-clause-seats
returns-clause-seats c =
    let p = c.args.program.now in
    let n = c.len-var-end.ensures in
    let h = c.loop-var-test.false in
    seated-all p c.loop-var.var c.loop-var.seats.items (omega (arith, n, h)) c.loop-var.invariant.seats

pub returns-clause-sections : goal.returns-clause-sections
returns-clause-sections c =
    let p = c.args.program.now in
    let n = c.len-var-end.ensures in
    let h = c.loop-var-test.false in
    subst (λ (n : ℕ). AreSections p n c.loop-var.sections) (omega (arith, n, h)) c.loop-var.invariant.sections
