use Rattle.std.proofs.Common.{◌≡◌, ◌∙◌, ◌*◌, ap, List, length, map, arith}
use Rattle.std.specs.List.{flat_map}
use Rattle.sa_typed.specs.Layouts.{row}
use Rattle.sa_ir.specs.declared.slots.Elements.{Elements}
use Rattle.sa_ir.specs.Slots.{slots_in, apart, together}
use Rattle.sa_ir.specs.Spots.{work}
use Rattle.sa_ir.proofs.SpotLemmas.{within-one, within-apart, within-together, work-one, work-apart, work-together, weaker-ok}
use Rattle.sa_ir.proofs.slots.within.Goals as goal

pub returns-then-row-eq1-clause-slots : goal.returns-then-row-eq1-clause-slots
returns-then-row-eq1-clause-slots c = λ zs l long width. within-one zs c.args.row.n l c.args.arrays.items c.if-row-eq1.true

pub returns-then-row-eq1-clause-work : goal.returns-then-row-eq1-clause-work
returns-then-row-eq1-clause-work c = λ l. work-one c.args.row.n l c.args.arrays.items c.if-row-eq1.true

pub returns-then-row-le128-clause-slots : goal.returns-then-row-le128-clause-slots
returns-then-row-le128-clause-slots c = λ zs l long width.
    let f = c.ranges.len in
    weaker-ok (λ r. r.items ≡ flat_map (λ e. apart c.args.len c.args.row.width c.args.row.n 0 e) c.deref.result.now)
    (λ r. flat_map (slots_in zs l) r.items ≡ flat_map (slots_in zs (row c.args.row.n l)) c.args.arrays.items) c.each_apart.result
    (λ r e. ap (λ (xs : List Elements). flat_map (slots_in zs l) xs) (e ∙ ap (λ (xs : List Elements). flat_map (λ e. apart c.args.len c.args.row.width c.args.row.n 0 e) xs) c.deref.ensures.value)
    ∙ within-apart zs c.args.row.n l c.args.arrays.items c.args.len c.args.row.width long (omega (arith, f)) width c.if-row-le128.true)
    c.each_apart.ensures

pub returns-then-row-le128-clause-work : goal.returns-then-row-le128-clause-work
returns-then-row-le128-clause-work c = λ l.
    weaker-ok (λ r. r.items ≡ flat_map (λ e. apart c.args.len c.args.row.width c.args.row.n 0 e) c.deref.result.now)
    (λ r. length r.items * work l ≡ length c.args.arrays.items * work (row c.args.row.n l)) c.each_apart.result
    (λ r e. ap (λ (xs : List Elements). length xs * work l) (e ∙ ap (λ (xs : List Elements). flat_map (λ e. apart c.args.len c.args.row.width c.args.row.n 0 e) xs) c.deref.ensures.value)
    ∙ work-apart c.args.row.n c.args.len c.args.row.width l c.args.arrays.items c.if-row-le128.true)
    c.each_apart.ensures

pub returns-clause-slots : goal.returns-clause-slots
returns-clause-slots c = λ zs l long width.
    let f = c.ranges.len in
    weaker-ok (λ r. r.items ≡ map (λ e. together c.args.len c.args.row.width c.args.row.n e) c.deref-else-row-le128.result.now)
    (λ r. flat_map (slots_in zs l) r.items ≡ flat_map (slots_in zs (row c.args.row.n l)) c.args.arrays.items) c.each_together.result
    (λ r e. ap (λ (xs : List Elements). flat_map (slots_in zs l) xs) (e ∙ ap (λ (xs : List Elements). map (λ e. together c.args.len c.args.row.width c.args.row.n e) xs) c.deref-else-row-le128.ensures.value)
    ∙ within-together zs c.args.row.n l c.args.arrays.items c.args.len c.args.row.width long (omega (arith, f)) width c.if-row-le128.false)
    c.each_together.ensures

pub returns-clause-work : goal.returns-clause-work
returns-clause-work c = λ l.
    weaker-ok (λ r. r.items ≡ map (λ e. together c.args.len c.args.row.width c.args.row.n e) c.deref-else-row-le128.result.now)
    (λ r. length r.items * work l ≡ length c.args.arrays.items * work (row c.args.row.n l)) c.each_together.result
    (λ r e. ap (λ (xs : List Elements). length xs * work l) (e ∙ ap (λ (xs : List Elements). map (λ e. together c.args.len c.args.row.width c.args.row.n e) xs) c.deref-else-row-le128.ensures.value)
    ∙ work-together c.args.row.n c.args.len c.args.row.width l c.args.arrays.items c.if-row-le128.false)
    c.each_together.ensures
