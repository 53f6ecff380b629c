use Rattle.std.proofs.Common.{◌≡◌, ◌∙◌, ◌<◌, ap, sym, length, get_or, ◌≤◌, subst, List, slice_get}
use Rattle.sa_typed.specs.declared.program.Var.{Var}
use Rattle.sa_cells.specs.declared.ground.Stretch.{Stretch}
use Rattle.sa_report.specs.Spots.{has_home}
use Rattle.sa_report.proofs.SpotLemmas.{sort-more, sort-other, sort-end}
use Rattle.sa_report.proofs.names.push_sort.Goals as goal
use Rattle.sa_report.proofs.names.push_sort.Goals.{then-has_home+in_ok-push_var_spots, else-has_home}

pub loop-var-preserved : goal.loop-var-preserved
loop-var-preserved c =
    let p = c.args.program.now in
    let k = c.loop-var.var in
    let inside : k < length p.vars = subst (λ (xs : List Var). k < length xs) c.as_slice-vars.ensures c.loop-var-test.true in
    let is : c.index-vars-var.result ≡ get_or p.vars k c.index-vars-var.result = c.index-vars-var.is ∙ ap (λ (xs : List Var). get_or xs k c.index-vars-var.result) c.as_slice-vars.ensures in
    let home : c.has_home.result ≡ has_home c.args.sort c.index-vars-var.result.home = c.has_home.ensures ∙ ap (λ (v : Var). has_home c.args.sort v.home) (sym c.index-vars-var.is) in
    elim c.if-has_home.branch [
      | then-has_home+in_ok-push_var_spots w ↦
          rw w.spots-is (sort-more p c.args.sort k c.index-vars-var.result _ inside is c.as_slice-stretches.result.now _ _ _
          (λ v. ap (λ (ss : List Stretch). slice_get ss v) c.as_slice-stretches.ensures ∙ c.requires.vars v) (sym home ∙ w.if-has_home.true) w.in_ok-push_var_spots.ensures c.loop-var.invariant)
      | else-has_home w ↦ rw w.spots-is (sort-other p c.args.sort k c.index-vars-var.result _ inside is _ (sym home ∙ w.if-has_home.false) c.loop-var.invariant)
    ]

pub returns : goal.returns
returns c = sort-end c.args.program.now c.args.sort c.loop-var.var _ _ (subst (λ (xs : List Var). length xs ≤ c.loop-var.var) c.as_slice-vars.ensures c.loop-var-test.false) c.loop-var.invariant
