use Rattle.std.proofs.Common.{◌∙◌, sym}
use Rattle.sa_cursor.proofs.NameLemmas.{at_ok, noted}
use Rattle.sa_cursor.proofs.names.TypeNames.declare.Goals as goal

pub invariant_of-self-else-is_err : goal.invariant_of-self-else-is_err
invariant_of-self-else-is_err c =
    noted c.self.inside.names c.push.new.self c.self.inside.known c.note-noted.new.known c.args.name.now c.in_ok-of_bytes.field-0 c.in_ok-of_bytes.ensures c.in_ok-push.ensures.ok c.self.invariant
    (at_ok c.note-noted.result (sym c.is_err.ensures.value ∙ c.if-is_err.false) c.note-noted.ensures.ok)
