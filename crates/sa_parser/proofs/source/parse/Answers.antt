use Rattle.std.proofs.Common.{◌≡◌, ◌-◌, length, rules, arith}
use Rattle.std.proofs.lemmas.Grind.{common_steps}
use Rattle.sa_syntax.specs.Refusals.{most_open}
use Rattle.sa_parser.proofs.SourceLemmas.{source_got, refused}
use Rattle.sa_parser.proofs.source.parse.Goals as goal

pub returns-in-Ok-clause-ok : goal.returns-in-Ok-clause-ok
returns-in-Ok-clause-ok c =
    c.readings_are_sources.ensures most_open c.args.tokens.now c.items.new.tokens _ (source_got most_open c.args.tokens.now c.items.new.tokens c.in-Ok.items (first_of (search rules, grind (arith, common_steps))))

pub returns-in-Err-clause-fault : goal.returns-in-Err-clause-fault
returns-in-Err-clause-fault c =
    let at : c.saturating_sub-at.result ≡ length c.args.tokens.now - length c.items.new.tokens = omega (arith, c.saturating_sub-at.ensures) in
    rw c.fault_at.ensures (refused c.tells_place.ensures c.tells_depth.ensures c.args.tokens.now c.items.new.tokens c.args.end c.place_of.result c.saturating_sub-at.result c.in-Err.stop
    (first_of (search rules, grind (arith, common_steps))) at c.place_of.ensures)
