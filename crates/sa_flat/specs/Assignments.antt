-- No promise of the top calls rests on this page: it is for laws beside them, for proofs and for inner functions.
-- What statements that change cells and do nothing else make of an environment, and the alarms that checking mode finds in them.
use Rattle.std.specs.Prelude.{ℕ, zero, suc, ◌+◌, List, [], ◌∷◌, ◌++◌, if◌then◌else◌, Option, Some, None, option_map}
use Rattle.sa_base.specs.declared.alarm.Alarm.{Alarm}
use Rattle.sa_interval.specs.Span.{Span}
use Rattle.sa_interval.specs.Rows.{meet_of}
use Rattle.sa_operators.specs.Operators.{range_of}
use Rattle.sa_ir.specs.declared.ir.Ends.{Ends}
use Rattle.sa_ir.specs.declared.node.IrAssign.{IrAssign}
use Rattle.sa_ir.specs.declared.node.IrAssign.TheVariants.{Value, Compound, Copy, Any, Items, Keep}
use Rattle.sa_env.specs.declared.form.Form.{Form}
use Rattle.sa_flat.specs.Domain.{Domain}
use Rattle.sa_flat.specs.Meanings.{Operand, Meaning, Target, Cells, in_alive, indices, index_alarms, read, read_operand, operation, cast}
use Rattle.sa_flat.specs.Expressions.{meaning, target}
use Rattle.sa_flat.specs.Passes.{alive_then, joined}

-- the environment after a statement, None where it is dead, and its alarms
pub record Change (Env : Type 0) : Type 0 where
  pub after : Env → Option Env
  pub alarms : Env → List Alarm

-- the target so many cells further on
unfoldable pub further : ℕ → List ℕ → List ℕ
further n [] = []
further n (k ∷ ks) = (k + n) ∷ further n ks

abbrev pub shifted : {Env : Type 0} → ℕ → Target Env → Target Env
shifted n t = record { cells = λ env. option_map (further n) (t.cells env); alarms = t.alarms; fixed = option_map (λ k. k + n) t.fixed }

module _ (D : Domain) (x : Cells) where
  -- for each cell in order the merge of the environment with itself after the assignment
  unfoldable pub weakly : List ℕ → Span → D.Env → D.Env
  weakly [] s env = env
  weakly (k ∷ ks) s env = weakly ks s (joined D x.all env (D.assign k s None env))

  -- one cell for one element has the value, of others one may have it
  unfoldable pub stored : List ℕ → Span → Option Form → D.Env → Option D.Env
  stored [] s f env = Some env
  stored (k ∷ []) s f env = if x.starred k then Some (weakly (k ∷ []) s env) else D.assign k s f env
  stored (k ∷ l ∷ ks) s f env = Some (weakly (k ∷ l ∷ ks) s env)

  -- an index without a value, or a value that isn't there, gives the dead environment
  abbrev pub store_at : Target D.Env → Operand D.Env → D.Env → Option D.Env
  store_at t a env = alive_then (t.cells env) (λ ks. alive_then (a.span env) (λ s. stored ks s (a.form env) env))

  -- an assignment evaluates the indices of its left side first
  abbrev pub assignment : Target D.Env → Meaning D.Env → Change D.Env
  assignment t a = record { after = store_at t a.value; alarms = λ env. t.alarms env ++ a.alarms env }

  -- cell by cell, from the i-th on
  unfoldable pub copied : Target D.Env → Target D.Env → ℕ → ℕ → D.Env → Option D.Env
  copied t u i zero env = Some env
  copied t u i (suc n) env = alive_then (store_at (shifted i t) (read_operand D x (shifted i u)) env) (copied t u (i + 1) n)

  -- each of so many cells any number of its type; a cell for several elements is set as a whole
  unfoldable pub any_from : ℕ → ℕ → D.Env → Option D.Env
  any_from k zero env = Some env
  any_from k (suc n) env = alive_then (D.assign k (range_of (x.num k)) None env) (any_from (k + 1) n)

  abbrev pub between : Ends → Span
  between e = record { lo = e.lo; hi = e.hi }

  unfoldable pub items_from : ℕ → List Ends → D.Env → Option D.Env
  items_from k [] env = Some env
  items_from k (e ∷ es) env = alive_then (D.assign k (between e) None env) (items_from (k + 1) es)

  -- an index is met with those of its dimension
  abbrev pub keep : ℕ → ℕ → Meaning D.Env → D.Env → Option D.Env
  keep c size i env = alive_then (i.value.span env) (λ s. alive_then (meet_of s (indices size)) (λ s. D.assign c s None env))

  unfoldable pub change : IrAssign → Change D.Env
  change (Value a num q e) = assignment (target D x a) (cast D q num (meaning D x e))
  change (Compound a num op q work e) = assignment (target D x a) (cast D q num (operation D op q work (read D x (target D x a)) (meaning D x e)))
  change (Copy a b n) = record { after = copied (target D x a) (target D x b) 0 n; alarms = λ env. (target D x a).alarms env ++ (target D x b).alarms env }
  change (Any first n) = record { after = any_from first n; alarms = λ env. [] }
  change (Items first ends) = record { after = items_from first ends; alarms = λ env. [] }
  change (Keep c q size e) = record {
    after = keep c size (meaning D x e);
    alarms = λ env. (meaning D x e).alarms env ++ in_alive ((meaning D x e).value.span env) (index_alarms q size);
  }
