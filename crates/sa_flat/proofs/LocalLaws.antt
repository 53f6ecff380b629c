-- Locals that begin with any numbers or with their items, in a call.
use Rattle.std.proofs.Common.{◌≡◌, ℕ, ◌+◌, ◌≤◌, ◌<◌, ℤ, pos, List, [], ◌∷◌, length, map, refl, sym, subst, Option, Some, None}
use Rattle.std.specs.Prelude.{get_or, slice_get, if◌then◌else◌, true, false}
use Rattle.sa_base.specs.declared.num.Num.{Num}
use Rattle.sa_base.specs.declared.alarm.Alarm.{Alarm}
use Rattle.sa_typed.specs.Arithmetic.{is_of}
use Rattle.sa_typed.specs.Cells.{Inner, inner_cells}
use Rattle.sa_typed.specs.Frames.{size}
use Rattle.sa_typed.specs.Layouts.{Layout, nums, index_of, layout_of}
use Rattle.sa_typed.specs.Evaluation.{Setting, Here, Store, Value, Gives, Stops, Tape, Blocked, End, then_value, within, place_of}
use Rattle.sa_typed.specs.Executions.{same_var, filled, any_numbers, initial_of, simple_value, declare_value}
use Rattle.sa_typed.specs.declared.stmt.Simple.TheVariants.{Declare}
use Rattle.sa_typed.specs.declared.stmt.Start.TheVariants as begins
use Rattle.sa_typed.specs.declared.program.Place.{Place}
use Rattle.sa_typed.specs.declared.program.Program.{Program}
use Rattle.sa_ir.specs.Frames.{Frame as Call}
use Rattle.sa_ir.specs.declared.ir.Ends.{Ends}
use Rattle.sa_ir.specs.Initial.{initial_ends, object_ends}
use Rattle.sa_ir.specs.Nodes.{simple}
use Rattle.sa_flat.specs.Domain.{Domain}
use Rattle.sa_flat.specs.Meanings.{Cells}
use Rattle.sa_flat.specs.Assignments.{change, any_from, items_from}
use Rattle.sa_flat.proofs.Lawful.{Lawful, anywhere}
use Rattle.sa_flat.proofs.Goods.{alive_is, Good, Holds}
use Rattle.sa_flat.proofs.Operands.{IsCovered}
use Rattle.sa_flat.proofs.KeepLaws.{ChangeKeeps}
use Rattle.sa_flat.proofs.ChangeLaws.{AreEnds, InEnds, any_good, items_good}
use Rattle.sa_flat.proofs.SpanLaws.{range_in}
use Rattle.sa_flat.proofs.FitExpressions.{FrameFits, InputsFit}
use Rattle.sa_flat.proofs.StateLaws.{Naming, has, InFrame, InCall}
use Rattle.sa_flat.proofs.DeclareLaws.{OwnCells, any_of_type, any_holds, items_hold}
use Rattle.sa_flat.proofs.SimpleLaws.{InputsAlways, Leaves}

-- a tape that is short or holds no number of the type is no error
any_covered : (ns : List Num) (tape : List ℤ) (end : End) (alarms : List Alarm) → any_numbers ns tape ≡ Stops end → IsCovered alarms end
unfolding any_numbers
any_covered [] tape end alarms e = cc
any_covered (n ∷ ns) [] end alarms e = let is : Tape ≡ end = cc in subst (λ (end : End). IsCovered alarms end) is tt
any_covered (n ∷ ns) (z ∷ tape) end alarms e = first (λ u e. any_covered ns tape u alarms e) (is_of n z) e
  where
    rest : ((u : End) → any_numbers ns tape ≡ Stops u → IsCovered alarms u) → (v : Value (List ℤ)) → any_numbers ns tape ≡ v → then_value v (λ zs tape. Gives (z ∷ zs) tape) ≡ Stops end → IsCovered alarms end
    rest more (Gives zs u) q e = cc
    rest more (Stops u) q e = let is : u ≡ end = cc in subst (λ (end : End). IsCovered alarms end) is (more u q)

    first : ((u : End) → any_numbers ns tape ≡ Stops u → IsCovered alarms u) → (b : _) → (if b then then_value (any_numbers ns tape) (λ zs tape. Gives (z ∷ zs) tape) else Stops Blocked) ≡ Stops end → IsCovered alarms end
    first more true e = rest more (any_numbers ns tape) refl e
    first more false e = let is : Blocked ≡ end = cc in subst (λ (end : End). IsCovered alarms end) is tt

map_length : {A B : Type 0} (f : A → B) (xs : List A) → length (map f xs) ≡ length xs
map_length f [] = refl
map_length f (x ∷ xs) = rw (map_length f xs) refl

-- an object's cells have as many ends
pub ends_length : (zs : List ℤ) (l : Layout) → length (object_ends zs l) ≡ size l
unfolding object_ends size
ends_length zs l = map_length (λ (i : Inner). initial_ends zs l i.steps 0) (inner_cells l)

module _ (p : Program) (fr : Call) (x : Cells) (D : Domain) (L : Lawful x D) (ok : ℕ → Type 0) (N : Naming x) (w : Setting) (base : ℕ → Place) (outer : (ℕ → ℤ) → Type 0)
    (frame : FrameFits p fr x D L ok) (inputs : InputsFit p fr x D L ok) (always_in : InputsAlways p fr x D L ok N w base outer) (v : ℕ)
    (own : OwnCells x N D L (layout_of p v) (fr.base v).first (size (layout_of p v)) (within (base v) [])) where
  pub any_keeps : ChangeKeeps x D L (change D x (simple p fr (Declare v begins.Any)))
  unfolding simple change
  any_keeps f env g = any_good x D L f (fr.base v).first (size (layout_of p v)) env own.cell (λ num. range_in num) g

  abbrev ends : List Ends
  ends = object_ends (initial_of (slice_get p.vars v)) (layout_of p v)

  pub items_keep : AreEnds x D L (fr.base v).first (object_ends (initial_of (slice_get p.vars v)) (layout_of p v)) → ChangeKeeps x D L (change D x (simple p fr (Declare v begins.Items)))
  unfolding simple change
  items_keep a f env g = items_good x D L f (fr.base v).first (object_ends (initial_of (slice_get p.vars v)) (layout_of p v)) env a g

  module _ (store : Store) (clock : ℤ) (kept : ℕ → ℤ) (stands : InFrame x N D L p ok fr base kept) (outside : outer kept) where
    abbrev here : Here
    here = record { base = base; clock = clock }

    pub any_leaves : (result : ℤ) (env : D.Env) (tape : List ℤ) → Good x D L anywhere env → Holds x D L (has x N store kept) clock env →
        Leaves p fr x D L ok N w base outer frame inputs always_in store clock kept stands outside result ((change D x (simple p fr (Declare v begins.Any))).after env) ((change D x (simple p fr (Declare v begins.Any))).alarms env)
        (simple_value p w (record { base = base; clock = clock }) (Declare v begins.Any) store tape)
    unfolding simple change simple_value declare_value
    any_leaves result env tape g h = from (any_numbers (nums (layout_of p v)) tape) refl
      where
        from : (r : Value (List ℤ)) → any_numbers (nums (layout_of p v)) tape ≡ r →
            Leaves p fr x D L ok N w base outer frame inputs always_in store clock kept stands outside result (any_from D x (fr.base v).first (size (layout_of p v)) env) [] (then_value r (λ zs tape. Gives (filled p here v zs store) tape))
        from (Gives zs u) e =
            alive_is (Holds x D L (has x N (filled p here v zs store) kept) clock) (InCall x N D L p ok outer fr base (filled p here v zs store) result clock) (any_from D x (fr.base v).first (size (layout_of p v)) env)
            (λ e i. record { kept = kept; frame = stands; outside = outside; holds = i })
            (any_holds x N D L p here v (fr.base v).first store kept zs clock anywhere (size (layout_of p v)) env own (any_of_type (nums (layout_of p v)) tape u zs e) g h)
        from (Stops end) e = any_covered (nums (layout_of p v)) tape end [] e

    pub items_leave : (result : ℤ) (env : D.Env) (tape : List ℤ) → AreEnds x D L (fr.base v).first (object_ends (initial_of (slice_get p.vars v)) (layout_of p v)) →
        ((bt : ℕ → ℤ) → ((c : ℕ) → (fr.base v).first ≤ c → c < (fr.base v).first + length (object_ends (initial_of (slice_get p.vars v)) (layout_of p v)) →
        (a : Place) × N.names c a × (same_var a (within (base v) []) ≡ true) × (bt c ≡ get_or (initial_of (slice_get p.vars v)) (index_of (layout_of p v) a.parts) (pos 0))) →
        InEnds x D L clock (fr.base v).first (object_ends (initial_of (slice_get p.vars v)) (layout_of p v)) bt) → Good x D L anywhere env → Holds x D L (has x N store kept) clock env →
        Leaves p fr x D L ok N w base outer frame inputs always_in store clock kept stands outside result ((change D x (simple p fr (Declare v begins.Items))).after env) ((change D x (simple p fr (Declare v begins.Items))).alarms env)
        (simple_value p w (record { base = base; clock = clock }) (Declare v begins.Items) store tape)
    unfolding simple change simple_value declare_value
    items_leave result env tape a i g h =
        alive_is (Holds x D L (has x N (filled p here v (initial_of (slice_get p.vars v)) store) kept) clock) (InCall x N D L p ok outer fr base (filled p here v (initial_of (slice_get p.vars v)) store) result clock)
        (items_from D x (fr.base v).first (object_ends (initial_of (slice_get p.vars v)) (layout_of p v)) env) (λ e i. record { kept = kept; frame = stands; outside = outside; holds = i })
        (items_hold x N D L p here v (fr.base v).first store kept (initial_of (slice_get p.vars v)) clock anywhere (object_ends (initial_of (slice_get p.vars v)) (layout_of p v)) env
        (subst (λ (n : ℕ). OwnCells x N D L (layout_of p v) (fr.base v).first n (within (base v) [])) (sym (ends_length (initial_of (slice_get p.vars v)) (layout_of p v))) own) a i g h)
