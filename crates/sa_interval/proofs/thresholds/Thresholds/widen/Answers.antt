use Rattle.std.proofs.Common.{◌≡◌, ◌∙◌, to_z, of_z, refl}
use mir.Syntax.{w128}
use Rattle.std.proofs.lemmas.Int.{to_z-of_z}
use Rattle.sa_interval.specs.Span.{IsInterval}
use Rattle.sa_interval.specs.Widening.{lowered, raised, widening_of}
use Rattle.sa_interval.proofs.Stops.{widening_is_interval, widening_stops, widening_between}
use Rattle.sa_interval.proofs.thresholds.Thresholds.widen.Goals as goal

lo_is : (c : goal.After-raised-hi) → to_z w128 (of_z w128 c.lowered-lo.result) ≡ lowered c.args.self.now c.args.old.lo c.args.new.lo c.args.top.lo
lo_is c = to_z-of_z w128 c.lowered-lo.result (record { sfits = c.lowered-lo.type_inv }) ∙ rw (c.deref.ensures.value, c.self.view_is) at c.lowered-lo.ensures.row

hi_is : (c : goal.After-raised-hi) → to_z w128 (of_z w128 c.raised-hi.result) ≡ raised c.args.self.now c.args.old.hi c.args.new.hi c.args.top.hi
hi_is c = to_z-of_z w128 c.raised-hi.result (record { sfits = c.raised-hi.type_inv }) ∙ rw (c.deref-2.ensures.value, c.self.view_is) at c.raised-hi.ensures.row

is_interval : (c : goal.After-raised-hi) → IsInterval (widening_of c.args.self.now c.args.old c.args.new c.args.top)
is_interval c = widening_is_interval _ _ _ _ c.requires.old c.requires.new c.raised-hi.ensures.whole c.lowered-lo.ensures.whole

pub new-requires-clause-ordered : goal.new-requires-clause-ordered
new-requires-clause-ordered c = rw (lo_is c, hi_is c) (is_interval c).ordered

pub new-requires-clause-low : goal.new-requires-clause-low
new-requires-clause-low c = rw (lo_is c) (is_interval c).low

pub new-requires-clause-high : goal.new-requires-clause-high
new-requires-clause-high c = rw (hi_is c) (is_interval c).high

is_widening : (c : goal.After-new) → c.new.result ≡ widening_of c.args.self.now c.args.old c.args.new c.args.top
is_widening c =
    let lo = to_z-of_z w128 c.lowered-lo.result (record { sfits = c.lowered-lo.type_inv }) ∙ rw (c.deref.ensures.value, c.self.view_is) at c.lowered-lo.ensures.row in
    let hi = to_z-of_z w128 c.raised-hi.result (record { sfits = c.raised-hi.type_inv }) ∙ rw (c.deref-2.ensures.value, c.self.view_is) at c.raised-hi.ensures.row in
    c.new.ensures ∙ rw (lo, hi) refl

pub returns-clause-stops : goal.returns-clause-stops
returns-clause-stops c = rw (is_widening c) (widening_stops _ _ _ _ c.requires.old c.requires.new)

pub returns-clause-between : goal.returns-clause-between
returns-clause-between c = rw (is_widening c) (widening_between _ _ _ _ c.requires.old c.requires.new)
