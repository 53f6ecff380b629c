use Rattle.std.proofs.Common.{arith, subst, sym, ap, ◌∙◌, ◌≡◌, Option, Some, None}
use Rattle.std.specs.Mem.Slots.{slots_items}
use mathlib.Core.Option.{some, some-injective}
use Rattle.sa_book.specs.declared.view.Pages.{Pages}
use Rattle.sa_book.specs.Steps.{IsAtRest}
use Rattle.sa_book.specs.Closing.{HasAll, IsBookOf}
use Rattle.sa_book.proofs.Ends.{closed_slot}
use Rattle.sa_book.proofs.rule.Board.close.Goals as goal

pub take-slot-requires : goal.take-slot-requires
take-slot-requires g c =
    let one = c.close_with-closed.ensures.counts.1 in
    (omega (arith, one, c.args.self.slots), c.close_with-closed.ensures.values.1 0 (omega arith) (omega (arith, one, c.args.self.slots)))

pub unreachable-requires : goal.unreachable-requires
unreachable-requires g c =
    let s = c.args.self in
    let p = c.args.pass in
    let key = s.table.shared.key in
    let rest = subst (λ t. IsAtRest t p.number p.spares p.token.me) (sym s.key) c.requires.of_board.1 in
    let all = subst (λ t. HasAll t.seats p.token.me.0) (sym s.key) c.requires.all in
    let k = closed_slot (g.met.W.Work.laws key.job.work) key p.token.id p.number p.spares p.token.me.0 p.token.me.1 _ (slots_items c.close_with-closed.result.slots) c.close_with-closed.ensures.values.2 rest c.requires.free all in
    none_some k.0 (sym c.in-None.is ∙ some-injective _ _ (sym c.take-slot.ensures.value ∙ k.1))
  where
    none_some : {P : Type 0} (pages : Pages P) → ◌≡◌ {A = Option (Pages P)} None (Some pages) → ⊥
    none_some pages e = cc

pub returns-clause-book : goal.returns-clause-book
returns-clause-book g c =
    let s = c.args.self in
    let p = c.args.pass in
    let key = s.table.shared.key in
    let rest = subst (λ t. IsAtRest t p.number p.spares p.token.me) (sym s.key) c.requires.of_board.1 in
    let all = subst (λ t. HasAll t.seats p.token.me.0) (sym s.key) c.requires.all in
    let k = closed_slot (g.met.W.Work.laws key.job.work) key p.token.id p.number p.spares p.token.me.0 p.token.me.1 _ (slots_items c.close_with-closed.result.slots) c.close_with-closed.ensures.values.2 rest c.requires.free all in
    let same = same_pages k.0 c.in-Some.pages (some-injective _ _ (sym k.1 ∙ c.take-slot.ensures.value) ∙ c.in-Some.is) in
    subst (λ t. IsBookOf (g.W.Work.parts t.job.work) t p.token.me.0 c.in-Some.pages.history.items c.in-Some.pages.merged) s.key
    (subst (λ q. IsBookOf (g.W.Work.parts key.job.work) key p.token.me.0 q.history.items q.merged) same k.2)
  where
    same_pages : {P : Type 0} (x y : Pages P) → ◌≡◌ {A = Option (Pages P)} (Some x) (Some y) → x ≡ y
    same_pages x y e = ap (λ o. elim o [ None ↦ x | Some p ↦ p ]) e
