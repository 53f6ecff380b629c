use Rattle.std.proofs.Common.{◌≡◌, ◌≤ℤ◌, pos, to_z, of_z, subst, sym, rules}
use mir.Syntax.{w128}
use Rattle.sa_interval.specs.Span.{Span, IsInterval}
use Rattle.sa_interval.specs.BitRows.{left_shift_of}
use Rattle.sa_interval.proofs.Shifts.{left_shift_is_interval, least_left_shift}
use Rattle.sa_interval.proofs.interval.Interval.shl.Goals as goal

abbrev made : goal.After-product-2 → Span
made c = record { lo = to_z w128 (of_z w128 c.product.result); hi = to_z w128 (of_z w128 c.product-2.result) }

is_row : (c : goal.After-product-2) → made c ≡ left_shift_of (record { lo = c.self.inside.lo; hi = c.self.inside.hi }) c.args.count
is_row c = search rules

not_negative : (c : goal.After-product-2) → pos 0 ≤ℤ c.self.inside.lo
not_negative c = rw (← c.self.view_is) at c.requires.values.above

pub invariant_of-result : goal.invariant_of-result
invariant_of-result c =
    let whole = left_shift_is_interval _ _ c.self.invariant (not_negative c) c.as_counts-least.ensures.whole.ordered c.requires.count in
    subst (λ (s : Span). IsInterval s) (sym (is_row c)) whole

pub returns-clause-least : goal.returns-clause-least
returns-clause-least c = rw (is_row c, ← c.self.view_is) (least_left_shift _ _ c.self.invariant (not_negative c) c.as_counts-least.ensures.whole.ordered c.requires.count)
