-- Accesses with constant indices, as code sees them.
use Rattle.std.proofs.Common.{◌≡◌, ℕ, pos, ◌+◌, ◌<◌, ◌≤◌, List, ◌∷◌, length, drop, get_or, refl, sym, ap, subst, ◌∙◌, Option, Some}
use Rattle.std.proofs.lemmas.List.{drop_more, drop_all}
use Rattle.std.specs.List.{All}
use Rattle.std.specs.Prelude.{option_map}
use Rattle.sa_base.specs.declared.num.Num.TheVariants.{I32}
use Rattle.sa_base.specs.declared.pos.Pos.{Pos}
use Rattle.sa_interval.specs.Rows.{single}
use Rattle.sa_typed.specs.Constants.{fixed_index}
use Rattle.sa_typed.specs.Links.{HasType}
use Rattle.sa_typed.specs.WellTyped.{IsTypedStep}
use Rattle.sa_typed.specs.declared.expr.Access.{Access, out-Access}
use Rattle.sa_typed.specs.declared.expr.Expr.{Expr, Read', Row_of-Step, end_of-Step, more_of-Step, items-the_row-Step, items_hidden-the_row-Step-0}
use Rattle.sa_typed.specs.declared.expr.Expr.TheVariants as v
use Rattle.sa_typed.specs.declared.expr.Step.{Step}
use Rattle.sa_typed.specs.declared.expr.Step.TheVariants as step
use Rattle.sa_typed.specs.declared.program.Program.{Program}
use Rattle.sa_reference.specs.declared.reach.Reach.{Reach}
use Rattle.sa_reference.specs.declared.reach.Reach.TheVariants.{At, Into}
use Rattle.sa_reference.specs.Passes.{alive_then}
use Rattle.sa_reference.specs.Values.{named, fixed_reach, fixed_reaches, fixed_cells, fixed_access_cells}
use Rattle.sa_typed.proofs.LinkLaws.{typed_still}
use Rattle.sa_transfer.specs.Lists.{HasTypedStep, fixed_reached, with_reach, then_reached}
use Rattle.sa_transfer.proofs.FormLaws.{index_typed}
use Rattle.sa_transfer.proofs.ListLaws.{then_with, reached_last}

abbrev steps_of : Expr → (n : _) × Row_of-Step n
steps_of (Read' x n ss num) = (_, ss)
steps_of _ = (_, end_of-Step)

pub fixed_at : (q : Pos) (n : ℕ) (a : Expr) → fixed_reach (step.At q n a) ≡ option_map (λ i. At (single (pos i))) (fixed_index n a)
unfolding fixed_reach Rattle.sa_typed.specs.declared.expr.Expr.TheBlock.hidden-the_row-Expr-1 denote.Hole.Carrier.hidden
fixed_at q n a = refl

pub fixed_field : (f : ℕ) → fixed_reach (step.Field f) ≡ Some (Into f)
unfolding fixed_reach
fixed_field f = refl

pub index_has : (s : Step) (q : Pos) (n : ℕ) (a : Expr) → s ≡ step.At q n a → HasTypedStep s → HasType a
index_has s q n a is h = record { program = h.program; typed = typed_still h.program a (index_typed h.program q n a (subst (IsTypedStep h.program) is h.typed)) }

pub steps_have : (p : Program) (ss : List Step) → All (IsTypedStep p) ss → All HasTypedStep ss
steps_have p ss h = λ k d l. record { program = p; typed = h k d l }

fixed_row : (n : _) (r : Row_of-Step n) → fixed_reaches r ≡ fixed_reached (items-the_row-Step n r)
unfolding fixed_reaches fixed_reached
fixed_row n end_of-Step = refl
fixed_row n (more_of-Step s rest) = ap (λ (o : Option (List Reach)). alive_then (fixed_reach s) (λ r. option_map (λ rs. r ∷ rs) o)) (fixed_row _ rest)

pub fixed_named : (p : Program) (x : Access) → fixed_access_cells p x ≡ option_map (named p (out-Access x).var) (fixed_reached (out-Access x).steps)
unfolding fixed_cells Rattle.sa_typed.specs.declared.expr.Expr.TheBlock.hidden-the_row-Step-0 denote.Hole.Carrier.hidden
fixed_named p x =
    let row = steps_of (v.Read x I32) in
    ap (option_map (named p (out-Access x).var)) (fixed_row row.0 row.1 ∙ ap fixed_reached (items_hidden-the_row-Step-0 (out-Access x).steps))

-- ---- steps, one on and at the end
pub fixed_more : (ss : List Step) (i : ℕ) (o : Option (List Reach)) (s : Step) → i < length ss → s ≡ get_or ss i s →
    then_reached o (fixed_reached (drop i ss)) ≡ then_reached (with_reach o (fixed_reach s)) (fixed_reached (drop (i + 1) ss))
unfolding fixed_reached
fixed_more ss i o s h is =
    ap (λ (xs : List Step). then_reached o (fixed_reached xs)) (drop_more ss i s h ∙ ap (λ (t : Step). t ∷ drop (i + 1) ss) (sym is))
    ∙ then_with o (fixed_reach s) (fixed_reached (drop (i + 1) ss))

pub fixed_end : (ss : List Step) (i : ℕ) (o : Option (List Reach)) → length ss ≤ i → then_reached o (fixed_reached (drop i ss)) ≡ o
unfolding fixed_reached
fixed_end ss i o h = ap (λ (xs : List Step). then_reached o (fixed_reached xs)) (drop_all i ss h) ∙ reached_last o

pub ruleset of_fixed = (fixed_at, fixed_field, index_has)

pub ruleset of_accesses = (fixed_named, steps_have)
