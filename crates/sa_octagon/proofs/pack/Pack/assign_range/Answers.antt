use Rattle.std.proofs.Common.{◌+◌, ◌^◌, sym, subst, ap}
use Rattle.sa_interval.specs.Span.{Within}
use Rattle.sa_dbm.specs.Tables.{IsWithin}
use Rattle.sa_dbm.specs.Points.{LiesIn, with_value}
use Rattle.sa_octagon.specs.Packs.{Packed}
use Rattle.sa_octagon.proofs.Points.{with_value-here}
use Rattle.sa_octagon.proofs.pack.Pack.assign_range.Goals as goal

pub meet-requires-clause-within : goal.meet-requires-clause-within
meet-requires-clause-within c = c.forget.ensures.within (2 ^ 70) (subst (IsWithin (2 ^ 70)) (sym (ap (λ (p : Packed). p.table) c.self.view_is)) c.requires.within)

pub returns-clause-within : goal.returns-clause-within
returns-clause-within c = λ limit h k.
    c.meet.ensures.within limit (c.forget.ensures.within (limit + limit) (subst (IsWithin (limit + limit)) (sym (ap (λ (p : Packed). p.table) c.self.view_is)) h)) k

pub returns-clause-points : goal.returns-clause-points
returns-clause-points c = λ p z l w.
    (c.meet.ensures.points (with_value p c.args.x z)).1
    (c.forget.ensures.points p z (subst (LiesIn p) (sym (ap (λ (p : Packed). p.table) c.self.view_is)) l), subst (Within c.args.v) (sym (with_value-here p c.args.x z)) w)
