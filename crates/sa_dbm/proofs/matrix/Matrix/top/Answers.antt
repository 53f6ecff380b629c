use Rattle.std.proofs.Common.{◌≡◌, ◌∙◌, ◌*◌, length, sym, subst, ap}
use Rattle.sa_dbm.specs.Stored.{stored, IsStored}
use Rattle.sa_dbm.proofs.StoredLaws.{vars-stored}
use Rattle.sa_dbm.specs.Tables.{IsWithin}
use Rattle.sa_dbm.proofs.Sizes.{within-top}
use Rattle.sa_dbm.proofs.MatrixLaws.{items_written, top_is_stored}
use Rattle.sa_dbm.proofs.matrix.Matrix.top.Goals as goal

pub invariant_of-result : goal.invariant_of-result
invariant_of-result c =
    let len = c.make_top.auto.bounds ∙ c.deref_mut.ensures.len in
    let whole : length c.make_top.new.bounds ≡ 2 * c.args.vars * (2 * c.args.vars) = len ∙ c.in_ok-bounds.ensures.len in
    subst (IsStored c.args.vars) (sym (items_written c.in_ok-bounds.bounds c.make_top.new.bounds len))
    (top_is_stored c.args.vars c.make_top.new.bounds c.requires.some c.requires.few whole c.make_top.ensures)

pub returns-clause-vars : goal.returns-clause-vars
returns-clause-vars c = vars-stored c.args.vars _

pub returns-clause-value : goal.returns-clause-value
returns-clause-value c =
    let len = c.make_top.auto.bounds ∙ c.deref_mut.ensures.len in
    let whole : length c.make_top.new.bounds ≡ 2 * c.args.vars * (2 * c.args.vars) = len ∙ c.in_ok-bounds.ensures.len in
    ap (stored c.args.vars) (items_written c.in_ok-bounds.bounds c.make_top.new.bounds len) ∙ c.make_top.ensures

pub returns-clause-within : goal.returns-clause-within
returns-clause-within c = λ limit. subst (IsWithin limit) (sym (returns-clause-value c)) (within-top limit c.args.vars)
