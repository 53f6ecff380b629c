use Rattle.std.proofs.Common.{rules, true, false, ◌∙◌, sym, subst, ap}
use Rattle.sa_interval.specs.Span.{Within, cut}
use Rattle.sa_dbm.specs.Bounds.{half}
use Rattle.sa_dbm.specs.Tables.{entry}
use Rattle.sa_octagon.specs.Packs.{Packed, node, above, below, unary_of}
use Rattle.sa_octagon.proofs.Points.{place_inside}
use Rattle.sa_octagon.proofs.Ends.{IsEnd, low_end, unary_fits, unary_holds, new_ordered, new_low, new_high}
use Rattle.sa_octagon.proofs.pack.Pack.unary.Goals as goal

pub below-lo-requires : goal.below-lo-requires
below-lo-requires c =
    let inside = place_inside _ c.args.self.now c.args.x c.self.invariant c.self.view_is c.requires.x in
    let is = c.half-2.ensures ∙ ap half (c.bound-2.ensures.value ∙ ap (λ (p : Packed). entry p.table (node true c.args.x) (node false c.args.x)) c.self.view_is) in
    subst IsEnd (sym is) (low_end c.args.self.now.table c.args.x inside c.requires.within)

pub new-requires-clause-ordered : goal.new-requires-clause-ordered
new-requires-clause-ordered c =
    let t = c.args.self.now.table in
    let x = c.args.x in
    let inside = place_inside _ c.args.self.now x c.self.invariant c.self.view_is c.requires.x in
    let lo = c.below-lo.ensures ∙ ap below (c.half-2.ensures ∙ ap half (c.bound-2.ensures.value ∙ ap (λ (p : Packed). entry p.table (node true x) (node false x)) c.self.view_is)) in
    let hi = c.above-hi.ensures ∙ ap above (c.half.ensures ∙ ap half (c.bound.ensures.value ∙ ap (λ (p : Packed). entry p.table (node false x) (node true x)) c.self.view_is)) in
    new_ordered _ _ (unary_of t x) lo hi (unary_fits t x inside c.requires.within c.requires.closed)

pub new-requires-clause-low : goal.new-requires-clause-low
new-requires-clause-low c =
    let t = c.args.self.now.table in
    let x = c.args.x in
    let inside = place_inside _ c.args.self.now x c.self.invariant c.self.view_is c.requires.x in
    let lo = c.below-lo.ensures ∙ ap below (c.half-2.ensures ∙ ap half (c.bound-2.ensures.value ∙ ap (λ (p : Packed). entry p.table (node true x) (node false x)) c.self.view_is)) in
    new_low _ (unary_of t x) lo (unary_fits t x inside c.requires.within c.requires.closed)

pub new-requires-clause-high : goal.new-requires-clause-high
new-requires-clause-high c =
    let t = c.args.self.now.table in
    let x = c.args.x in
    let inside = place_inside _ c.args.self.now x c.self.invariant c.self.view_is c.requires.x in
    let hi = c.above-hi.ensures ∙ ap above (c.half.ensures ∙ ap half (c.bound.ensures.value ∙ ap (λ (p : Packed). entry p.table (node false x) (node true x)) c.self.view_is)) in
    new_high _ (unary_of t x) hi (unary_fits t x inside c.requires.within c.requires.closed)

pub returns-clause-value : goal.returns-clause-value
returns-clause-value c = search rules

pub returns-clause-points : goal.returns-clause-points
returns-clause-points c = λ p l.
    let inside = place_inside _ c.args.self.now c.args.x c.self.invariant c.self.view_is c.requires.x in
    subst (λ s. Within s (cut (p c.args.x))) (sym (returns-clause-value c)) (unary_holds c.args.self.now.table c.args.x inside c.requires.within p l)
