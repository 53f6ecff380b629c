use Rattle.std.proofs.Common.{rules, ◌≡◌, ◌+◌, ◌≤◌, ◌^◌, ℕ, ℤ, pos, negsuc, unsigned_abs, [], ◌∷◌, sym, subst, arith}
use Rattle.sa_interval.specs.Span.{Span}
use Rattle.sa_dbm.specs.Tables.{Table, IsWithin}
use Rattle.sa_dbm.proofs.Sizes.{within_more}
use Rattle.sa_octagon.specs.Packs.{IsSpanWithin, AreWithin}
use Rattle.sa_octagon.proofs.Tops.{none_within, more_within}
use Rattle.test_octagon.proofs.tests.goes_on_at_eight_cells.Goals as goal

-- intervals and their sizes
sized : (limit : ℕ) (s : Span) (lo hi : ℤ) → s ≡ record { lo = lo; hi = hi } → unsigned_abs lo ≤ limit → unsigned_abs hi ≤ limit → IsSpanWithin limit s
sized limit s lo hi e p q = subst (IsSpanWithin limit) (sym e) (record { lo = p; hi = q })

all_within : (s : Span) → IsSpanWithin 100 s → AreWithin 100 (s ∷ s ∷ s ∷ s ∷ s ∷ s ∷ s ∷ s ∷ [])
all_within s r =
    more_within 100 s (s ∷ s ∷ s ∷ s ∷ s ∷ s ∷ s ∷ []) r (more_within 100 s (s ∷ s ∷ s ∷ s ∷ s ∷ s ∷ []) r (more_within 100 s (s ∷ s ∷ s ∷ s ∷ s ∷ []) r (more_within 100 s (s ∷ s ∷ s ∷ s ∷ []) r (more_within 100 s (s ∷ s ∷ s ∷ []) r (more_within 100 s (s ∷ s ∷ []) r (more_within 100 s (s ∷ []) r (more_within 100 s ([]) r (none_within 100))))))))

pub assign_linear-requires-clause-within : goal.assign_linear-requires-clause-within
assign_linear-requires-clause-within g c =
    let r = sized 100 c.new-range.result (pos 0) (pos 100) c.new-range.ensures (omega arith) (omega arith) in
    let at_first = c.in_ok-p.ensures.within 100 (all_within c.new-range.result r) in
    within_more 200 (2 ^ 70) _ (omega arith) at_first

pub close-first-requires : goal.close-first-requires
close-first-requires g c =
    let r = sized 100 c.new-range.result (pos 0) (pos 100) c.new-range.ensures (omega arith) (omega arith) in
    let at_first = c.in_ok-p.ensures.within 100 (all_within c.new-range.result r) in
    let linear = c.assign_linear.ensures.within 200 at_first in
    within_more 206 (2 ^ 70) _ (omega arith) linear

pub guard-requires-clause-within : goal.guard-requires-clause-within
guard-requires-clause-within g c =
    let r = sized 100 c.new-range.result (pos 0) (pos 100) c.new-range.ensures (omega arith) (omega arith) in
    let at_first = c.in_ok-p.ensures.within 100 (all_within c.new-range.result r) in
    let linear = c.assign_linear.ensures.within 200 at_first in
    let closed = c.close-first.ensures.limits.grows 206 linear in
    within_more 6592 (2 ^ 70) _ (omega arith) closed

pub close-second-requires : goal.close-second-requires
close-second-requires g c =
    let r = sized 100 c.new-range.result (pos 0) (pos 100) c.new-range.ensures (omega arith) (omega arith) in
    let at_first = c.in_ok-p.ensures.within 100 (all_within c.new-range.result r) in
    let linear = c.assign_linear.ensures.within 200 at_first in
    let closed = c.close-first.ensures.limits.grows 206 linear in
    let guarded = c.guard.ensures.within 6592 closed (omega arith) in
    within_more 6592 (2 ^ 70) _ (omega arith) guarded

pub assign_range-requires-clause-within : goal.assign_range-requires-clause-within
assign_range-requires-clause-within g c =
    let r = sized 100 c.new-range.result (pos 0) (pos 100) c.new-range.ensures (omega arith) (omega arith) in
    let at_first = c.in_ok-p.ensures.within 100 (all_within c.new-range.result r) in
    let linear = c.assign_linear.ensures.within 200 at_first in
    let closed = c.close-first.ensures.limits.grows 206 linear in
    let guarded = c.guard.ensures.within 6592 closed (omega arith) in
    let again = c.close-second.ensures.limits.grows 6592 guarded in
    within_more 210944 (2 ^ 70) _ (omega arith) again

pub close-third-requires : goal.close-third-requires
close-third-requires g c =
    let r = sized 100 c.new-range.result (pos 0) (pos 100) c.new-range.ensures (omega arith) (omega arith) in
    let at_first = c.in_ok-p.ensures.within 100 (all_within c.new-range.result r) in
    let linear = c.assign_linear.ensures.within 200 at_first in
    let closed = c.close-first.ensures.limits.grows 206 linear in
    let guarded = c.guard.ensures.within 6592 closed (omega arith) in
    let again = c.close-second.ensures.limits.grows 6592 guarded in
    let v = sized 105472 c.new.result (pos 5) (pos 7) c.new.ensures (omega arith) (omega arith) in
    let ranged = c.assign_range.ensures.within 105472 again v in
    within_more 210944 (2 ^ 70) _ (omega arith) ranged

pub unary-requires-clause-within : goal.unary-requires-clause-within
unary-requires-clause-within g c =
    let r = sized 100 c.new-range.result (pos 0) (pos 100) c.new-range.ensures (omega arith) (omega arith) in
    let at_first = c.in_ok-p.ensures.within 100 (all_within c.new-range.result r) in
    let linear = c.assign_linear.ensures.within 200 at_first in
    let closed = c.close-first.ensures.limits.grows 206 linear in
    let guarded = c.guard.ensures.within 6592 closed (omega arith) in
    let again = c.close-second.ensures.limits.grows 6592 guarded in
    let v = sized 105472 c.new.result (pos 5) (pos 7) c.new.ensures (omega arith) (omega arith) in
    let ranged = c.assign_range.ensures.within 105472 again v in
    let last = c.close-third.ensures.limits.grows 210944 ranged in
    within_more 6750208 (2 ^ 70) _ (omega arith) last

pub widen-requires-clause-within : goal.widen-requires-clause-within
widen-requires-clause-within g c =
    let r = sized 100 c.new-range.result (pos 0) (pos 100) c.new-range.ensures (omega arith) (omega arith) in
    let at_first = c.in_ok-p.ensures.within 100 (all_within c.new-range.result r) in
    let linear = c.assign_linear.ensures.within 200 at_first in
    let closed = c.close-first.ensures.limits.grows 206 linear in
    let guarded = c.guard.ensures.within 6592 closed (omega arith) in
    let again = c.close-second.ensures.limits.grows 6592 guarded in
    let v = sized 105472 c.new.result (pos 5) (pos 7) c.new.ensures (omega arith) (omega arith) in
    let ranged = c.assign_range.ensures.within 105472 again v in
    let last = c.close-third.ensures.limits.grows 210944 ranged in
    within_more 6750208 (2 ^ 70) _ (omega arith) last
