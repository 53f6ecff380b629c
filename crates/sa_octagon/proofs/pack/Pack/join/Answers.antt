use Rattle.std.proofs.Common.{◌∙◌, ◌⊎◌, sym, subst, subst₂, ap}
use Rattle.sa_dbm.specs.Tables.{IsWithin}
use Rattle.sa_dbm.specs.Points.{LiesIn}
use Rattle.sa_octagon.specs.Packs.{Packed}
use Rattle.sa_octagon.proofs.pack.Pack.join.Goals as goal

pub returns-clause-within : goal.returns-clause-within
returns-clause-within c = λ limit h k.
    let first = ap (λ (p : Packed). p.table) (c.result.view_is ∙ c.in_ok-result.ensures) in
    let second = ap (λ (p : Packed). p.table) c.o.view_is in
    c.join_into.ensures.within limit (subst (IsWithin limit) (sym first) h) (subst (IsWithin limit) (sym second) k)

pub returns-clause-points : goal.returns-clause-points
returns-clause-points c = λ p l.
    let first = ap (λ (p : Packed). p.table) (c.result.view_is ∙ c.in_ok-result.ensures) in
    let second = ap (λ (p : Packed). p.table) c.o.view_is in
    c.join_into.ensures.points p (subst₂ (λ m o. LiesIn p m ⊎ LiesIn p o) (sym first) (sym second) l)
