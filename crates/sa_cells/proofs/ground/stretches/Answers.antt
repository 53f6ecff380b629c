use Rattle.std.proofs.Common.{◌≡◌, ◌∙◌, ◌+◌, ◌++◌, ap, refl, sym, subst, ℕ, List, length, drop, get_or, arith}
use Rattle.std.proofs.lemmas.Option.{slice_get_read}
use Rattle.sa_typed.specs.Layouts.{layout_of}
use Rattle.sa_typed.specs.declared.program.Var.{Var}
use Rattle.sa_cells.specs.declared.ground.Next.{Next}
use Rattle.sa_cells.specs.declared.ground.Stretch.{Stretch}
use Rattle.sa_cells.specs.Sizes.{size, first_cell, stretch_of, extent_of, among}
use Rattle.sa_cells.specs.Stretches.{stretches, next_at, next_for, moved_next}
use Rattle.sa_cells.proofs.GroundLemmas.{cells-known, next-is, next-more, stretches-more, stretches-end}
use Rattle.sa_cells.proofs.ground.stretches.Goals as goal

pub loop-k-preserved : goal.loop-k-preserved
loop-k-preserved c =
    let p = c.args.program.now in
    let k = c.loop-k.k in
    let x = c.index-vars-k.result in
    let n = ap length c.as_slice-vars.ensures in
    let h = c.loop-k-test.true in
    let is : x ≡ get_or p.vars k x = c.index-vars-k.is ∙ ap (λ (l : List Var). get_or l k x) c.as_slice-vars.ensures in
    let at = slice_get_read p.vars _ k x refl (omega (arith, n, h)) is in
    let many : c.shape_extent-cells.result.cells ≡ size (layout_of p k)
    = cells-known p c.requires.few k x c.shape_extent-cells.result at (c.shape_extent-cells.ensures ∙ ap (λ (m : ℕ). extent_of (among p.structs m x.shape)) c.len.ensures) in
    let first : c.next_for-first.result ≡ first_cell p k x.home
    = c.next_for-first.ensures ∙ ap (λ (m : Next). next_for m x.home) c.loop-k.invariant.next ∙ next-is p c.requires.few k x.home in
    let s : Stretch = record { first = c.next_for-first.result; cells = c.shape_extent-cells.result.cells } in
    let same : s ≡ stretch_of p k (get_or p.vars k x)
    = ap (λ (m : ℕ). record { first = m; cells = c.shape_extent-cells.result.cells }) first
    ∙ ap (λ (m : ℕ). record { first = first_cell p k x.home; cells = m }) many
    ∙ ap (λ (y : Var). stretch_of p k y) is in
    record {
      whole =
          ap (λ (l : List Var). c.push.new.self.items ++ stretches p (k + 1) (drop (k + 1) l)) c.as_slice-vars.ensures
          ∙ stretches-more p k x s c.loop-k.all.items c.push.new.self.items (stretches p 0 p.vars) (omega (arith, n, h)) same c.in_ok-push.ensures.items
          (ap (λ (l : List Var). c.loop-k.all.items ++ stretches p k (drop k l)) (sym c.as_slice-vars.ensures) ∙ c.loop-k.invariant.whole ∙ ap (λ (l : List Var). stretches p 0 l) c.as_slice-vars.ensures)
          ∙ ap (λ (l : List Var). stretches p 0 l) (sym c.as_slice-vars.ensures);
      next =
          c.moved-next.ensures ∙ ap (λ (m : Next). moved_next m x.home c.shape_extent-cells.result.cells) c.loop-k.invariant.next
          ∙ next-more p c.requires.few k x c.shape_extent-cells.result.cells at many;
    }

pub returns : goal.returns
returns c =
    let p = c.args.program.now in
    let n = ap length c.as_slice-vars.ensures in
    let h = c.loop-k-test.false in
    c.from_vec.ensures
    ∙ stretches-end p c.loop-k.k c.loop-k.all.items (stretches p 0 p.vars) (omega (arith, n, h))
    (ap (λ (l : List Var). c.loop-k.all.items ++ stretches p c.loop-k.k (drop c.loop-k.k l)) (sym c.as_slice-vars.ensures) ∙ c.loop-k.invariant.whole ∙ ap (λ (l : List Var). stretches p 0 l) c.as_slice-vars.ensures)
