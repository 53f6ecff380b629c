use Rattle.std.proofs.Common.{rules, ◌∙◌, sym, ap, Some, arith, FitsSigned}
use Rattle.std.specs.Int.{w128}
use Rattle.std.proofs.lemmas.Int.{to_z-of_z}
use Rattle.sa_dbm.proofs.StoredLaws.{shown-number, shown-none}
use Rattle.sa_dbm.proofs.MatrixLaws.{place_inside, entry_read}
use Rattle.sa_dbm.proofs.matrix.Matrix.bound.Goals as goal

pub index-bound-requires : goal.index-bound-requires
index-bound-requires c =
    omega (arith, c.self.inside.bounds.ok.0, place_inside c.self.inside.vars c.args.self.now c.self.inside.bounds.items c.args.i c.args.j c.self.invariant c.self.view_is c.requires.row c.requires.column)

pub returns-then-bound-lt-NO_BOUND-clause-value : goal.returns-then-bound-lt-NO_BOUND-clause-value
returns-then-bound-lt-NO_BOUND-clause-value c =
    let inside = place_inside c.self.inside.vars c.args.self.now c.self.inside.bounds.items c.args.i c.args.j c.self.invariant c.self.view_is c.requires.row c.requires.column in
    let z = c.index-bound.result.now in
    let f : FitsSigned w128 z = search rules in
    let is = to_z-of_z w128 z f in
    ap Some is ∙ sym (entry_read c.self.inside.vars c.args.self.now c.self.inside.bounds.items c.args.i c.args.j z c.self.view_is inside c.index-bound.ensures ∙ shown-number z (rw is at c.if-bound-lt-NO_BOUND.true))

pub returns-else-bound-lt-NO_BOUND-clause-value : goal.returns-else-bound-lt-NO_BOUND-clause-value
returns-else-bound-lt-NO_BOUND-clause-value c =
    let inside = place_inside c.self.inside.vars c.args.self.now c.self.inside.bounds.items c.args.i c.args.j c.self.invariant c.self.view_is c.requires.row c.requires.column in
    let z = c.index-bound.result.now in
    let f : FitsSigned w128 z = search rules in
    sym (entry_read c.self.inside.vars c.args.self.now c.self.inside.bounds.items c.args.i c.args.j z c.self.view_is inside c.index-bound.ensures ∙ shown-none z (rw (to_z-of_z w128 z f) at c.if-bound-lt-NO_BOUND.false))
