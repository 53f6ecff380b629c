use Rattle.std.proofs.Common.{◌≡◌, ◌∙◌, ◌^◌, not, arith, ap, sym, inl, inr}
use Rattle.std.specs.Int.{w128}
use Rattle.std.proofs.lemmas.Bool.{cases_Bool}
use Rattle.std.proofs.lemmas.Int.{to_z-of_z}
use Rattle.sa_dbm.specs.Tables.{tightened}
use Rattle.sa_dbm.specs.Stored.{stored}
use Rattle.sa_dbm.specs.Closed.{shortest, has_negative_walk}
use Rattle.sa_dbm.proofs.TableLaws.{bar_below}
use Rattle.sa_dbm.proofs.ClosedLaws.{false_of, true_of}
use Rattle.sa_dbm.proofs.Arcs.{arc_sizes, stored_size, first_walk, second_walk, none_back, totals_stored}
use Rattle.sa_dbm.proofs.closing.add_arcs.Goals as goal

pub add_arc-requires-clause-small : goal.add_arc-requires-clause-small
add_arc-requires-clause-small c = λ p q a b z e. let k = stored_size c.args.vars c.args.bounds.now (2 ^ 100) c.requires.within p q a b z e in omega arith

pub returns-then-not-add_arc-clause-answer : goal.returns-then-not-add_arc-clause-answer
returns-then-not-add_arc-clause-answer c =
    let k = c.args.c in
    let found = true_of _ c.add_arc.result (rw (to_z-of_z w128 k c.ranges.c) at c.add_arc.ensures.answer) c.if-not-add_arc.true in
    ap not (sym (first_walk c.args.vars c.args.bounds.now c.add_arc.new.bounds c.add_arc.new.bounds c.args.i c.args.j k c.requires.matrix c.requires.closed c.requires.row c.requires.column c.requires.apart found))

pub add_arc-requires-2-clause-from : goal.add_arc-requires-2-clause-from
add_arc-requires-2-clause-from c = rw c.bar-first.ensures (bar_below c.args.j c.args.vars c.requires.column)

pub add_arc-requires-2-clause-to : goal.add_arc-requires-2-clause-to
add_arc-requires-2-clause-to c = rw c.bar-second.ensures (bar_below c.args.i c.args.vars c.requires.row)

pub add_arc-requires-2-clause-small : goal.add_arc-requires-2-clause-small
add_arc-requires-2-clause-small c = λ p q a b z e.
    let k = c.args.c in
    let has = rw (to_z-of_z w128 k c.ranges.c) at c.add_arc.ensures.bounds c.if-not-add_arc.false in
    let size =
    arc_sizes c.args.vars c.args.bounds.now c.add_arc.new.bounds c.args.i c.args.j k (2 ^ 100) c.requires.row c.requires.column c.requires.c
    (stored_size c.args.vars c.args.bounds.now (2 ^ 100) c.requires.within) has p q a b z e in
    omega arith

-- what the second arc finds
second_test : (c : goal.After-bounds-2-1) → c.add_arc-2.result ≡ not (has_negative_walk (shortest (tightened (stored c.args.vars c.args.bounds.now) c.args.i c.args.j c.args.c)))
second_test c =
    let k = c.args.c in
    let vars = c.args.vars in
    let xs = c.args.bounds.now in
    let ys = c.add_arc.new.bounds in
    let number = to_z-of_z w128 k c.ranges.c in
    let has = rw number at c.add_arc.ensures.bounds c.if-not-add_arc.false in
    let clear = false_of _ c.add_arc.result (rw number at c.add_arc.ensures.answer) c.if-not-add_arc.false in
    let answer = rw (number, c.bar-first.ensures, c.bar-second.ensures) at c.add_arc-2.ensures.answer in
    elim (cases_Bool c.add_arc-2.result) [
      | inl yes' ↦ yes' ∙ ap not (sym (none_back vars xs ys ys c.args.i c.args.j k c.requires.matrix c.requires.closed c.requires.row c.requires.column c.requires.apart has clear (false_of _ c.add_arc-2.result answer yes')))
      | inr no' ↦ no' ∙ ap not (sym (second_walk vars xs ys ys c.args.i c.args.j k c.requires.matrix c.requires.closed c.requires.row c.requires.column c.requires.apart has (true_of _ c.add_arc-2.result answer no')))
    ]

pub returns-clause-answer : goal.returns-clause-answer
returns-clause-answer c = second_test c

pub returns-clause-walks : goal.returns-clause-walks
returns-clause-walks c = λ done.
    let k = c.args.c in
    let xs = c.args.bounds.now in
    let ys = c.add_arc.new.bounds in
    let number = to_z-of_z w128 k c.ranges.c in
    let has = rw number at c.add_arc.ensures.bounds c.if-not-add_arc.false in
    let clear = false_of _ c.add_arc.result (rw number at c.add_arc.ensures.answer) c.if-not-add_arc.false in
    let answer = rw (number, c.bar-first.ensures, c.bar-second.ensures) at c.add_arc-2.ensures.answer in
    let more = rw (number, c.bar-first.ensures, c.bar-second.ensures) at c.add_arc-2.ensures.bounds done in
    totals_stored c.args.vars xs ys c.add_arc-2.new.bounds c.args.i c.args.j k c.requires.matrix c.requires.closed c.requires.row c.requires.column c.requires.apart has clear (false_of _ c.add_arc-2.result answer done)
    more (c.add_arc-2.auto.bounds ∙ c.add_arc.auto.bounds ∙ c.requires.square)
