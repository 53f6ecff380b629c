use Rattle.std.proofs.Common.{◌≡◌, ◌∙◌, ◌+◌, ◌-◌, ◌^◌, filter, map, nat_lt, arith, rules}
use Rattle.std.specs.Prelude.{min}
use Rattle.sa_ir.proofs.RunLemmas.{filter-kept}
use Rattle.sa_ir.proofs.slots.kept.Goals as goal

pub returns : goal.returns
returns c =
    let e : c.in_ok-collect.field-0.items ≡ filter (λ o. nat_lt o c.args.len) (map (λ o. min (o + c.args.by) (2 ^ 64 - 1)) c.args.at.now) = search rules in
    let f = c.ranges.len in
    c.from_vec.ensures ∙ e ∙ filter-kept c.args.len c.args.by c.args.at.now (omega (arith, f))
