use Rattle.std.proofs.Common.{◌≡◌, ◌+◌, ◌*◌, ◌-◌, ◌≤◌, ◌<◌, ℕ, ◌∙◌, ap, sym, subst, List, ◌++◌, length, get_or, arith}
use mir.Syntax.{w128}
use Rattle.std.specs.Prelude.{ℤ}
use Rattle.std.proofs.lemmas.Int.{to_z-of_z}
use Rattle.std.specs.List.{flat_map}
use Rattle.sa_cells.specs.Reached.{picked, spaced, all_picked}
use Rattle.sa_cells.specs.Places.{IsCountBelow, IsCountUpTo, AreInside}
use Rattle.sa_cells.proofs.PlaceLemmas.{flat-more, flat-end, room-from, room-picked, picked-is}
use Rattle.sa_cells.proofs.place.picked.Goals as goal

pub overflow_mul-from : goal.overflow_mul-from
overflow_mul-from c =
    let fits = c.requires c.loop-first.first-index 0 c.loop-first-test.true in
    let room = room-from c.args.width c.args.n c.count_below-from.result (get_or c.args.firsts.now c.loop-first.first-index 0) c.count_below-from.ensures.most fits in
    omega (arith, room)

pub push_spaced-requires : goal.push_spaced-requires
push_spaced-requires c =
    let fits = c.requires c.loop-first.first-index 0 c.loop-first-test.true in
    let room = room-picked c.args.width c.args.n c.count_below-from.result c.count_up_to-end.result (get_or c.args.firsts.now c.loop-first.first-index 0) c.count_below-from.ensures.most c.count_up_to-end.ensures.most fits in
    rw c.saturating_sub.ensures room

pub loop-first-preserved : goal.loop-first-preserved
loop-first-preserved c =
    let low : IsCountBelow c.args.span.lo c.args.n c.count_below-from.result
    = subst (λ (z : ℤ). IsCountBelow z c.args.n c.count_below-from.result) (to_z-of_z w128 c.lo.result (record { sfits = c.lo.type_inv }) ∙ c.lo.ensures.value) c.count_below-from.ensures in
    let high : IsCountUpTo c.args.span.hi c.args.n c.count_up_to-end.result
    = subst (λ (z : ℤ). IsCountUpTo z c.args.n c.count_up_to-end.result) (to_z-of_z w128 c.hi.result (record { sfits = c.hi.type_inv }) ∙ c.hi.ensures.value) c.count_up_to-end.ensures in
    let o = get_or c.args.firsts.now c.loop-first.first-index 0 in
    let is = picked-is c.args.span c.args.width c.args.n c.count_below-from.result c.count_up_to-end.result o low high in
    let pushed : c.push_spaced.new.all.items ≡ c.loop-first.all.items ++ picked c.args.span c.args.width c.args.n 0 o
    = c.in_ok-push_spaced.ensures ∙ rw c.saturating_sub.ensures (ap (λ (l : List ℕ). c.loop-first.all.items ++ l) (sym is)) in
    flat-more (λ o. picked c.args.span c.args.width c.args.n 0 o) c.args.firsts.now c.loop-first.first-index 0 c.loop-first.all.items c.push_spaced.new.all.items
    (flat_map (λ o. picked c.args.span c.args.width c.args.n 0 o) c.args.firsts.now) c.loop-first-test.true pushed c.loop-first.invariant

pub returns : goal.returns
unfolding all_picked
returns c =
    flat-end (λ o. picked c.args.span c.args.width c.args.n 0 o) c.args.firsts.now c.loop-first.first-index c.loop-first.all.items
    (flat_map (λ o. picked c.args.span c.args.width c.args.n 0 o) c.args.firsts.now) (omega arith) c.loop-first.invariant
