use Rattle.std.proofs.Common.{◌≡◌, ◌∙◌, ◌-◌, ◌∷◌, ◌++◌, [], ap, sym, refl, subst, ℕ, List, length, take, get_or, arith}
use Rattle.std.proofs.lemmas.List.{take_all}
use Rattle.sa_typed.specs.Layouts.{Layout, nums, row, rows}
use Rattle.sa_ir.specs.declared.sizes.Extent.{Extent}
use Rattle.sa_ir.specs.declared.slots.Row.{Row}
use Rattle.sa_ir.specs.Sizes.{among, no_array, capped}
use Rattle.sa_ir.specs.Spots.{wound, HasWidths}
use Rattle.sa_ir.proofs.SizeLemmas.{among-rows}
use Rattle.sa_ir.proofs.SpotLemmas.{rows-last, wound-push, widths-push, width-next}
use Rattle.sa_ir.proofs.slots.around.Goals as goal

pub loop-k-init : goal.loop-k-init
unfolding wound
loop-k-init c =
    let p = c.args.program.now.structs in
    let b = among p c.args.structs (no_array c.args.shape.now.plain) in
    let dims = c.as_slice-dims.result.now in
    record {
      inside = omega arith;
      whole =
          among-rows p c.args.structs c.args.shape.now ∙ ap (λ (ns : List ℕ). rows ns b) (sym c.as_slice-dims.ensures ∙ sym (take_all (length dims) dims (omega arith)))
          ∙ ap (λ (rs : List Row). rows (take (length dims) dims) (wound rs b)) (sym c.in_ok-rows.ensures.items);
      widths = subst (λ (rs : List Row). HasWidths rs b) (sym c.in_ok-rows.ensures.items) tt;
      counted = ap (λ (e : Extent). e.elements) c.plain_extent-elements.ensures ∙ ap (λ (rs : List Row). capped (length (nums (wound rs b)))) (sym c.in_ok-rows.ensures.items);
    }

pub loop-k-preserved : goal.loop-k-preserved
loop-k-preserved c =
    let b = among c.args.program.now.structs c.args.structs (no_array c.args.shape.now.plain) in
    let rs = c.loop-k.rows.items in
    let dims = c.as_slice-dims.result.now in
    let n = get_or dims (c.loop-k.k - 1) 0 in
    let r : Row = record { n = n; width = c.loop-k.elements } in
    let pushed : c.push.new.self.items ≡ rs ++ r ∷ [] = c.in_ok-push.ensures.items in
    let is : wound c.push.new.self.items b ≡ row n (wound rs b) = ap (λ (l : List Row). wound l b) pushed ∙ wound-push rs r b in
    let in' = c.loop-k.invariant.inside in
    record {
      inside = omega (arith, in');
      whole =
          c.loop-k.invariant.whole ∙ rows-last dims c.loop-k.k n (wound rs b) c.loop-k-test.true in' refl
          ∙ ap (λ (l : Layout). rows (take (c.loop-k.k - 1) dims) l) (sym is);
      widths = subst (λ (l : List Row). HasWidths l b) (sym pushed) (widths-push rs r b c.loop-k.invariant.widths c.loop-k.invariant.counted);
      counted =
          c.saturating_mul-elements.ensures ∙ width-next c.loop-k.elements n (wound rs b) c.loop-k.invariant.counted
          ∙ ap (λ (l : Layout). capped (length (nums l))) (sym is);
    }

pub returns : goal.returns
unfolding rows
returns c =
    let b = among c.args.program.now.structs c.args.structs (no_array c.args.shape.now.plain) in
    let dims = c.as_slice-dims.result.now in
    let last = c.loop-k-test.false in
    let none : c.loop-k.k ≡ 0 = omega (arith, last) in
    let whole = c.loop-k.invariant.whole ∙ ap (λ (i : ℕ). rows (take i dims) (wound c.loop-k.rows.items b)) none in
    record {
      whole = whole;
      widths = c.loop-k.invariant.widths;
      counted = c.loop-k.invariant.counted ∙ ap (λ (l : Layout). capped (length (nums l))) (sym whole);
    }
