use Rattle.std.proofs.Common.{◌*◌, ◌∙◌, sym, subst, ap}
use Rattle.sa_dbm.specs.Tables.{IsWithin}
use Rattle.sa_dbm.specs.Points.{LiesIn}
use Rattle.sa_octagon.proofs.Widened.{pack_fits, pack_widened, pack_points, pack_within}
use Rattle.sa_octagon.proofs.pack.Pack.widen.Goals as goal

pub fill-requires-clause-entries : goal.fill-requires-clause-entries
fill-requires-clause-entries c =
    pack_fits _ _ c.args.self.now c.args.new.now c.deref.result.now c.widened_entries-entries.result (2 * c.len-2.result) c.self.invariant c.new.invariant c.self.view_is c.new.view_is c.requires.cells c.deref.ensures.value c.read_one.ensures c.read_one-2.ensures c.requires.within c.widened_entries-entries.ensures.entries (ap (λ n. 2 * n) (c.len-2.ensures ∙ c.self.inside.cells.ok.0))

pub returns-clause-value : goal.returns-clause-value
returns-clause-value c =
    pack_widened _ _ c.args.self.now c.args.new.now c.deref.result.now c.widened_entries-entries.result (2 * c.len-2.result) c.self.invariant c.new.invariant c.self.view_is c.new.view_is c.requires.cells c.deref.ensures.value c.read_one.ensures c.read_one-2.ensures c.requires.within c.widened_entries-entries.ensures.entries (ap (λ n. 2 * n) (c.len-2.ensures ∙ c.self.inside.cells.ok.0))
    c.fill.new.matrix c.fill.ensures

pub returns-clause-within : goal.returns-clause-within
returns-clause-within c = λ limit least h.
    subst (IsWithin limit) (sym (returns-clause-value c))
    (pack_within _ _ c.args.self.now c.args.new.now c.deref.result.now c.widened_entries-entries.result (2 * c.len-2.result) c.self.invariant c.new.invariant c.self.view_is c.new.view_is c.requires.cells c.deref.ensures.value c.read_one.ensures c.read_one-2.ensures c.requires.within c.widened_entries-entries.ensures.entries (ap (λ n. 2 * n) (c.len-2.ensures ∙ c.self.inside.cells.ok.0))
    limit least h)

pub returns-clause-points : goal.returns-clause-points
returns-clause-points c = λ p top l.
    subst (LiesIn p) (sym (returns-clause-value c))
    (pack_points _ _ c.args.self.now c.args.new.now c.deref.result.now c.widened_entries-entries.result (2 * c.len-2.result) c.self.invariant c.new.invariant c.self.view_is c.new.view_is c.requires.cells c.deref.ensures.value c.read_one.ensures c.read_one-2.ensures c.requires.within c.widened_entries-entries.ensures.entries (ap (λ n. 2 * n) (c.len-2.ensures ∙ c.self.inside.cells.ok.0))
    p top l)
