use Rattle.sa_cursor.proofs.NameLemmas.{known-updated}
use Rattle.sa_cursor.proofs.names.note.Goals as goal

pub returns-clause-ok : goal.returns-clause-ok
returns-clause-ok c = λ w.
    rw c.in_ok-from_slice.ensures.items at (known-updated c.in_ok-from_slice.field-0.items c.args.known.now c.insert.new.self _ c.in_ok-insert.ensures.updates w)
