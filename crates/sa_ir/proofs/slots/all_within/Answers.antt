use Rattle.std.proofs.Common.{◌≡◌, ◌∙◌, ◌*◌, ◌∷◌, ◌++◌, [], ap, sym, subst, List, length, append-nil}
use Rattle.std.specs.List.{flat_map}
use Rattle.std.proofs.lemmas.List.{nil_from_length}
use Rattle.sa_typed.specs.Layouts.{Layout, nums, row}
use Rattle.sa_ir.specs.declared.slots.Elements.{Elements}
use Rattle.sa_ir.specs.declared.slots.Row.{Row}
use Rattle.sa_ir.specs.Sizes.{capped}
use Rattle.sa_ir.specs.Slots.{slots_in}
use Rattle.sa_ir.specs.Spots.{wound, HasWidths, work}
use Rattle.sa_ir.proofs.SpotLemmas.{wound-push, widths-pop}
use Rattle.sa_ir.proofs.SizeLemmas.{one-times}
use Rattle.sa_ir.proofs.slots.all_within.Goals as goal

pub loop-row-preserved : goal.loop-row-preserved
loop-row-preserved c =
    let rs = c.pop.new.self.items in
    let r = c.in-Some.row in
    let popped : c.loop-row.rows.items ≡ rs ++ r ∷ [] = c.in-Some.ensures.items in
    let fit : (b : Layout) → HasWidths c.args.rows.items b → HasWidths rs b × (r.width ≡ capped (length (nums (wound rs b))))
    = λ b h. widths-pop rs r b (subst (λ (l : List Row). HasWidths l b) popped (c.loop-row.invariant.widths b h)) in
    let is : (b : Layout) → wound c.loop-row.rows.items b ≡ row r.n (wound rs b) = λ b. ap (λ (l : List Row). wound l b) popped ∙ wound-push rs r b in
    record {
      widths = λ b h. (fit b h).0;
      slots = λ zs b long h. c.in_ok-all.ensures.slots zs (wound rs b) long (fit b h).1
          ∙ ap (λ (l : Layout). flat_map (slots_in zs l) c.loop-row.all.items) (sym (is b)) ∙ c.loop-row.invariant.slots zs b long h;
      work = λ b. c.in_ok-all.ensures.work (wound rs b) ∙ ap (λ (l : Layout). length c.loop-row.all.items * work l) (sym (is b)) ∙ c.loop-row.invariant.work b;
    }

pub returns-clause-slots : goal.returns-clause-slots
unfolding wound
returns-clause-slots c = λ zs b long h.
    let none : c.loop-row.rows.items ≡ [] = nil_from_length c.loop-row.rows.items (sym c.loop-row.rows.ok.0 ∙ c.in_default.ensures.cases.0) in
    let start : c.push.new.self.items ≡ c.args.elements ∷ [] = c.in_ok-push.ensures.items ∙ ap (λ (l : List Elements). l ++ c.args.elements ∷ []) c.new-all.ensures.items in
    ap (λ (l : List Row). flat_map (slots_in zs (wound l b)) c.loop-row.all.items) (sym none) ∙ c.loop-row.invariant.slots zs b long h
    ∙ ap (λ (l : List Elements). flat_map (slots_in zs (wound c.args.rows.items b)) l) start ∙ append-nil (slots_in zs (wound c.args.rows.items b) c.args.elements)

pub returns-clause-work : goal.returns-clause-work
unfolding wound
returns-clause-work c = λ b.
    let none : c.loop-row.rows.items ≡ [] = nil_from_length c.loop-row.rows.items (sym c.loop-row.rows.ok.0 ∙ c.in_default.ensures.cases.0) in
    let start : c.push.new.self.items ≡ c.args.elements ∷ [] = c.in_ok-push.ensures.items ∙ ap (λ (l : List Elements). l ++ c.args.elements ∷ []) c.new-all.ensures.items in
    ap (λ (l : List Row). length c.loop-row.all.items * work (wound l b)) (sym none) ∙ c.loop-row.invariant.work b
    ∙ ap (λ (l : List Elements). length l * work (wound c.args.rows.items b)) start ∙ one-times (work (wound c.args.rows.items b))
