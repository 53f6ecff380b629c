-- What a filing leaves of a view, over all its steps.
use Rattle.std.proofs.Common.{◌≡◌, ℕ, List, [], ◌∷◌, ◌++◌, Option, Some, None, refl, sym, ap, ◌∙◌, subst}
use Rattle.atomic_table.specs.Table.{Me}
use Rattle.sa_core.specs.declared.event.Event.{Event}
use Rattle.sa_book.specs.declared.view.Terms.{Terms}
use Rattle.sa_book.specs.declared.view.Pages.{Pages}
use Rattle.sa_book.specs.declared.view.View.{View}
use Rattle.sa_book.specs.Steps.{drawing, seeing, serving, Sees, FitsBoard, IsAtRest, IsIdle, IsWorking, HasTurn, IsFiled, filed, number_in}

module _ {W P : Type 0} where
  -- after the draw and the look the seat has its turn
  pub has_turn : (Fits : W → P → Type 0) (terms : Terms W) (seat branch t number spares : ℕ) (me drawn seen : Me (Option (Pages P)) (View W P)) → IsAtRest terms number spares me → seat ≡ number → me.0.held ≡ Some branch → drawn ≡ (drawing t me.0, []) → Sees Fits drawn.0 seen → HasTurn Fits terms seat branch seen
  has_turn Fits terms seat branch t number spares me drawn seen rest seat_is held drew sees =
      let pages = sees.0 in
      let v_is : drawn.0 ≡ drawing t me.0 = ap (λ (m : Me (Option (Pages P)) (View W P)). m.0) drew in
      let w_is : seen.0 ≡ seeing pages (drawing t me.0) = ap (λ (m : Me (Option (Pages P)) (View W P)). m.0) sees.1 ∙ ap (seeing pages) v_is in
      let work : IsWorking terms seat branch t pages (seeing pages (drawing t me.0)) = record { of_board = rest.of_board; seat_is = rest.number_is ∙ sym seat_is; held = held; ticket_is = refl; seen = refl } in
      let known : drawn.0.terms ≡ Some terms = ap (λ (v : View W P). v.terms) v_is ∙ rest.of_board in (
        pages,
        t,
        subst (IsWorking terms seat branch t pages) (sym w_is) work,
        ap (λ (m : Me (Option (Pages P)) (View W P)). m.1) sees.1,
        subst (λ (o : Option (Terms W)). let p : Type 0 = elim o [ None ↦ Unit {0} | Some terms ↦ Fits terms.job.work pages.merged ] in p) known sees.2,
        sees.3,
      )
