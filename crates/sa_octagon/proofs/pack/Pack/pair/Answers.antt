use Rattle.std.proofs.Common.{rules, not, ◌∙◌, ◌+ℤ◌, sym, subst, ap, ap₂}
use Rattle.sa_interval.specs.Span.{Within, cut}
use Rattle.sa_dbm.specs.Tables.{entry, IsMatrix}
use Rattle.sa_octagon.specs.Packs.{Packed, node, signed, above, below, pair_of}
use Rattle.sa_octagon.proofs.Points.{place_inside}
use Rattle.sa_octagon.proofs.Ends.{IsEnd, pair_low_end, pair_fits, pair_holds, new_ordered, new_low, new_high}
use Rattle.sa_octagon.proofs.pack.Pack.pair.Goals as goal

pub below-lo-requires : goal.below-lo-requires
below-lo-requires c =
    let t = c.args.self.now.table in
    let sx = c.args.sx in
    let x = c.args.x in
    let sy = c.args.sy in
    let y = c.args.y in
    let first = place_inside _ c.args.self.now x c.self.invariant c.self.view_is c.requires.x in
    let second = place_inside _ c.args.self.now y c.self.invariant c.self.view_is c.requires.y in
    let is = c.bound-2.ensures.value ∙ ap₂ (λ i j. entry c.self.inside.matrix i j) c.node-to.ensures c.node-from.ensures ∙ ap (λ (p : Packed). entry p.table (node sx x) (node (not sy) y)) c.self.view_is in
    subst IsEnd (sym is) (pair_low_end t sx x sy y first second c.requires.within)

pub new-requires-clause-ordered : goal.new-requires-clause-ordered
new-requires-clause-ordered c =
    let t = c.args.self.now.table in
    let sx = c.args.sx in
    let x = c.args.x in
    let sy = c.args.sy in
    let y = c.args.y in
    let first = place_inside _ c.args.self.now x c.self.invariant c.self.view_is c.requires.x in
    let second = place_inside _ c.args.self.now y c.self.invariant c.self.view_is c.requires.y in
    let matrix = subst IsMatrix (ap (λ (p : Packed). p.table) c.self.view_is) c.bound.ensures.matrix in
    let fits = pair_fits t sx x sy y first second c.requires.within matrix c.requires.closed in
    let lo = c.below-lo.ensures ∙ ap below (c.bound-2.ensures.value ∙ ap₂ (λ i j. entry c.self.inside.matrix i j) c.node-to.ensures c.node-from.ensures ∙ ap (λ (p : Packed). entry p.table (node sx x) (node (not sy) y)) c.self.view_is) in
    let hi = c.above-hi.ensures ∙ ap above (c.bound.ensures.value ∙ ap₂ (λ i j. entry c.self.inside.matrix i j) c.node-from.ensures c.node-to.ensures ∙ ap (λ (p : Packed). entry p.table (node (not sy) y) (node sx x)) c.self.view_is) in
    new_ordered _ _ (pair_of t sx x sy y) lo hi fits

pub new-requires-clause-low : goal.new-requires-clause-low
new-requires-clause-low c =
    let t = c.args.self.now.table in
    let sx = c.args.sx in
    let x = c.args.x in
    let sy = c.args.sy in
    let y = c.args.y in
    let first = place_inside _ c.args.self.now x c.self.invariant c.self.view_is c.requires.x in
    let second = place_inside _ c.args.self.now y c.self.invariant c.self.view_is c.requires.y in
    let matrix = subst IsMatrix (ap (λ (p : Packed). p.table) c.self.view_is) c.bound.ensures.matrix in
    let fits = pair_fits t sx x sy y first second c.requires.within matrix c.requires.closed in
    let lo = c.below-lo.ensures ∙ ap below (c.bound-2.ensures.value ∙ ap₂ (λ i j. entry c.self.inside.matrix i j) c.node-to.ensures c.node-from.ensures ∙ ap (λ (p : Packed). entry p.table (node sx x) (node (not sy) y)) c.self.view_is) in
    new_low _ (pair_of t sx x sy y) lo fits

pub new-requires-clause-high : goal.new-requires-clause-high
new-requires-clause-high c =
    let t = c.args.self.now.table in
    let sx = c.args.sx in
    let x = c.args.x in
    let sy = c.args.sy in
    let y = c.args.y in
    let first = place_inside _ c.args.self.now x c.self.invariant c.self.view_is c.requires.x in
    let second = place_inside _ c.args.self.now y c.self.invariant c.self.view_is c.requires.y in
    let matrix = subst IsMatrix (ap (λ (p : Packed). p.table) c.self.view_is) c.bound.ensures.matrix in
    let fits = pair_fits t sx x sy y first second c.requires.within matrix c.requires.closed in
    let hi = c.above-hi.ensures ∙ ap above (c.bound.ensures.value ∙ ap₂ (λ i j. entry c.self.inside.matrix i j) c.node-from.ensures c.node-to.ensures ∙ ap (λ (p : Packed). entry p.table (node (not sy) y) (node sx x)) c.self.view_is) in
    new_high _ (pair_of t sx x sy y) hi fits

pub returns-clause-value : goal.returns-clause-value
returns-clause-value c = search rules

pub returns-clause-points : goal.returns-clause-points
returns-clause-points c = λ p l.
    let t = c.args.self.now.table in
    let sx = c.args.sx in
    let x = c.args.x in
    let sy = c.args.sy in
    let y = c.args.y in
    let first = place_inside _ c.args.self.now x c.self.invariant c.self.view_is c.requires.x in
    let second = place_inside _ c.args.self.now y c.self.invariant c.self.view_is c.requires.y in
    subst (λ s. Within s (cut (signed sx (p x) +ℤ signed sy (p y)))) (sym (returns-clause-value c)) (pair_holds t sx x sy y first second c.requires.within p l)
