use Rattle.std.proofs.Common.{◌≡◌, ◌∙◌, ◌++◌, ap, sym, List, append_assoc}
use Rattle.sa_typed.specs.Cells.{cells, cells_at, is_global, is_static, is_local}
use Rattle.sa_cells.specs.declared.slots.Slot.{Slot}
use Rattle.sa_cells.specs.Stretches.{bare_slots}
use Rattle.sa_cells.proofs.GroundLemmas.{bare-all}
use Rattle.sa_cells.proofs.ground.bare_slots.Goals as goal

pub returns : goal.returns
returns c =
    let p = c.args.program.now in
    let g = bare_slots (cells_at p is_global 0 p.vars) in
    let s = bare_slots (cells_at p is_static 0 p.vars) in
    let l = bare_slots (cells_at p is_local 0 p.vars) in
    c.in_ok-push_sort-3.ensures
    ∙ ap (λ (xs : List Slot). xs ++ l) (c.in_ok-push_sort-2.ensures ∙ ap (λ (xs : List Slot). xs ++ s) (c.in_ok-push_sort.ensures ∙ ap (λ (xs : List Slot). xs ++ g) c.new-all.ensures.items))
    ∙ append_assoc g s l ∙ sym (bare-all p)
