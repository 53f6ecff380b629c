use Rattle.std.proofs.Common.{rules, ◌≡◌, ◌+◌, ◌≤◌, ◌^◌, ℕ, ℤ, pos, negsuc, unsigned_abs, [], ◌∷◌, sym, subst, arith}
use Rattle.sa_interval.specs.Span.{Span}
use Rattle.sa_dbm.specs.Tables.{Table, IsWithin}
use Rattle.sa_dbm.proofs.Sizes.{within_more}
use Rattle.sa_octagon.specs.Packs.{IsSpanWithin, AreWithin}
use Rattle.sa_octagon.proofs.Tops.{none_within, more_within}
use Rattle.test_octagon.proofs.tests.follows_an_assignment.Goals as goal

-- intervals and their sizes
sized : (limit : ℕ) (s : Span) (lo hi : ℤ) → s ≡ record { lo = lo; hi = hi } → unsigned_abs lo ≤ limit → unsigned_abs hi ≤ limit → IsSpanWithin limit s
sized limit s lo hi e p q = subst (IsSpanWithin limit) (sym e) (record { lo = p; hi = q })

all_within : (s : Span) → IsSpanWithin 100 s → AreWithin 100 (s ∷ s ∷ [])
all_within s r = more_within 100 s (s ∷ []) r (more_within 100 s [] r (none_within 100))

pub assign_range-requires-clause-within : goal.assign_range-requires-clause-within
assign_range-requires-clause-within g c =
    let r = sized 100 c.new-range.result (negsuc 99) (pos 100) c.new-range.ensures (omega arith) (omega arith) in
    let at_first = c.in_ok-p.ensures.within 100 (all_within c.new-range.result r) in
    within_more 200 (2 ^ 70) _ (omega arith) at_first

pub close-first-requires : goal.close-first-requires
close-first-requires g c =
    let r = sized 100 c.new-range.result (negsuc 99) (pos 100) c.new-range.ensures (omega arith) (omega arith) in
    let at_first = c.in_ok-p.ensures.within 100 (all_within c.new-range.result r) in
    let v = sized 100 c.new.result (pos 0) (pos 10) c.new.ensures (omega arith) (omega arith) in
    let assigned = c.assign_range.ensures.within 100 at_first v in
    within_more 200 (2 ^ 70) _ (omega arith) assigned

pub assign_linear-requires-clause-within : goal.assign_linear-requires-clause-within
assign_linear-requires-clause-within g c =
    let r = sized 100 c.new-range.result (negsuc 99) (pos 100) c.new-range.ensures (omega arith) (omega arith) in
    let at_first = c.in_ok-p.ensures.within 100 (all_within c.new-range.result r) in
    let v = sized 100 c.new.result (pos 0) (pos 10) c.new.ensures (omega arith) (omega arith) in
    let assigned = c.assign_range.ensures.within 100 at_first v in
    let closed = c.close-first.ensures.limits.grows 200 assigned in
    within_more 6400 (2 ^ 70) _ (omega arith) closed

pub close-second-requires : goal.close-second-requires
close-second-requires g c =
    let r = sized 100 c.new-range.result (negsuc 99) (pos 100) c.new-range.ensures (omega arith) (omega arith) in
    let at_first = c.in_ok-p.ensures.within 100 (all_within c.new-range.result r) in
    let v = sized 100 c.new.result (pos 0) (pos 10) c.new.ensures (omega arith) (omega arith) in
    let assigned = c.assign_range.ensures.within 100 at_first v in
    let closed = c.close-first.ensures.limits.grows 200 assigned in
    let linear = c.assign_linear.ensures.within 6400 closed in
    within_more 6406 (2 ^ 70) _ (omega arith) linear

pub pair-requires-clause-within : goal.pair-requires-clause-within
pair-requires-clause-within g c =
    let r = sized 100 c.new-range.result (negsuc 99) (pos 100) c.new-range.ensures (omega arith) (omega arith) in
    let at_first = c.in_ok-p.ensures.within 100 (all_within c.new-range.result r) in
    let v = sized 100 c.new.result (pos 0) (pos 10) c.new.ensures (omega arith) (omega arith) in
    let assigned = c.assign_range.ensures.within 100 at_first v in
    let closed = c.close-first.ensures.limits.grows 200 assigned in
    let linear = c.assign_linear.ensures.within 6400 closed in
    let again = c.close-second.ensures.limits.grows 6406 linear in
    within_more 204992 (2 ^ 70) _ (omega arith) again
