use Rattle.std.proofs.Common.{◌∙◌, ◌||◌, ap, Bool, List, ℕ}
use Rattle.sa_ir.specs.Slots.{moved_on, kept, any_past}
use Rattle.sa_ir.proofs.slots.moved_on.Goals as goal

pub returns : goal.returns
unfolding moved_on
returns c =
    let e = c.args.elements.now in
    ap (λ (os : List ℕ). record { starred = e.starred; at = os; more = e.more || c.any_past-past.result }) (c.in_ok-kept.ensures ∙ ap (λ (l : List ℕ). kept c.args.len c.args.by l) c.as_slice-2.ensures)
    ∙ ap (λ (b : Bool). record { starred = e.starred; at = kept c.args.len c.args.by e.at; more = e.more || b }) (c.any_past-past.ensures ∙ ap (λ (l : List ℕ). any_past c.args.len c.args.by l) c.as_slice.ensures)
