use Rattle.std.proofs.Common.{rules, ◌≡◌, ◌++◌, []}
use Rattle.sa_report.specs.declared.names.Sort.TheVariants as sort
use Rattle.sa_report.specs.Spots.{spots_at}
use Rattle.sa_report.proofs.SpotLemmas.{spots-whole}
use Rattle.sa_report.proofs.names.Cells.of.Goals as goal

pub returns : goal.returns
returns c =
    let p = c.args.program.now in
    let none : c.new-spots.result.items ≡ [] = search rules in
    let first : c.push_sort.new.spots.items ≡ c.new-spots.result.items ++ spots_at p sort.Global 0 p.vars = search rules in
    let second : c.push_sort-2.new.spots.items ≡ c.push_sort.new.spots.items ++ spots_at p sort.Static 0 p.vars = search rules in
    let third : c.push_sort-3.new.spots.items ≡ c.push_sort-2.new.spots.items ++ spots_at p sort.Local 0 p.vars = search rules in
    record { ground = c.in_ok-ground.ensures; spots = spots-whole p _ _ _ _ none first second third }
