-- The assignment of a structure is sound, and keeps environments fair.
use Rattle.std.proofs.Common.{◌≡◌, ℕ, ℤ, pos, true, false, ◌&&◌, List, [], ◌∷◌, refl, sym, ap, subst, ◌∙◌, Option, Some, None}
use Rattle.std.specs.Prelude.{if◌then◌else◌, option_map, Result, Ok, Err, unsigned_abs}
use Rattle.std.specs.Int.RustNames.{int_le, int_lt}
use Rattle.sa_base.specs.declared.num.Num.TheVariants.{I32}
use Rattle.sa_base.specs.declared.pos.Pos.{Pos}
use Rattle.sa_base.specs.declared.alarm.Alarm.{Alarm}
use Rattle.sa_base.specs.declared.alarm.Kind.{Kind}
use Rattle.sa_interval.specs.Rows.{single}
use Rattle.sa_typed.specs.Layouts.{Layout, row, step_into, layout_of}
use Rattle.sa_typed.specs.Evaluation.{Setting, Value, Gives, Stops, Here, Store, then_value, place_of, steps_value, read_place}
use Rattle.sa_typed.specs.Executions.{copied, simple_value}
use Rattle.sa_typed.specs.Constants.{element_of, fixed_index, constant_value}
use Rattle.sa_typed.specs.Cells.{cells, inner_cells}
use Rattle.sa_typed.specs.WellTyped.{IsRead, is_fixed_read, steps_layout, IsTypedSimple}
use Rattle.sa_typed.specs.declared.expr.Expr.{Expr, Number, Read', Input, Prefix', Cast', Chain', And', Or', Choice', end_of-Expr, more_of-Expr, Row_of-Step, end_of-Step, more_of-Step}
use Rattle.sa_typed.specs.declared.expr.Expr.TheVariants as e
use Rattle.sa_typed.specs.declared.expr.Step.{At', Field}
use Rattle.sa_typed.specs.declared.expr.Access.{Access}
use Rattle.sa_typed.specs.declared.shape.Part.{Part}
use Rattle.sa_typed.specs.declared.shape.Part.TheVariants as part
use Rattle.sa_typed.specs.declared.stmt.Simple.TheVariants.{Copy}
use Rattle.sa_typed.specs.declared.program.Place.{Place}
use Rattle.sa_typed.specs.declared.program.Program.{Program}
use Rattle.sa_reference.specs.declared.flat.Flat.{Flat}
use Rattle.sa_reference.specs.declared.reach.Reach.{Reach}
use Rattle.sa_reference.specs.declared.reach.Reach.TheVariants as reach
use Rattle.sa_reference.specs.Passes.{alive_then}
use Rattle.sa_reference.specs.Environments.{Holds}
use Rattle.sa_reference.specs.Values.{named, fixed_reach, fixed_reaches, fixed_cells, fixed_access_cells, alarms_of, steps_alarms}
use Rattle.sa_reference.specs.Assignments.{with_cells, simple_of, simple_alarms}
use Rattle.sa_reference.specs.Assignments as change
use Rattle.sa_reference.specs.Fair.{AreIn, IsFair}
use Rattle.sa_reference.specs.Sound.{AliveAnd, IsWithin}
use Rattle.sa_reference.proofs.Laws.{IfAlive, Covers, main_place, main_here}
use Rattle.sa_reference.proofs.CellLaws.{parts_layout}
use Rattle.sa_reference.proofs.ValueLaws.{OperatorFacts, StepsTaken, both_cover, then_covers, steps_known, step_leads, row_step, field_step, index_steps}
use Rattle.sa_reference.proofs.PointLaws.{to_held, from_held, to_in, from_in}
use Rattle.sa_reference.proofs.FixedLaws.{Exactly, On, Fixed, steps_exact, steps_to}
use Rattle.sa_reference.proofs.CopyLaws.{copy_holds, copies_in, cells_stand}
use Rattle.sa_reference.proofs.AssignLaws.{HoldsAfter}

-- what an access to one place names, and where it leads
pub record FixedAt (p : Program) (l : Layout) (r : Expr) (a : Place) : Type 0 where
  pub var : ℕ
  pub parts : List Part
  pub reaches : List Reach
  pub place : a ≡ main_place var parts
  pub names : fixed_cells p r ≡ Some (named p var reaches)
  pub exact : Exactly reaches parts
  pub leads : parts_layout (Some (layout_of p var)) parts ≡ Some l

and_on : {A : Type 0} (P Q R : A → Type 0) (alarms : List Alarm) (v : Value A) → Covers P alarms v → On Q v → ((a : A) → P a → Q a → R a) → Covers R alarms v
and_on P Q R alarms (Gives a tape) h k f = f a h k
and_on P Q R alarms (Stops e) h k f = h

module _ (p : Program) (w : Setting) (F : OperatorFacts) (within : IsWithin p w) (store : Store) (time : ℤ) (env : Flat) (fair : AreIn (cells p) env.cells) (holds : Holds p env store time) where
  abbrev here : Here
  here = main_here time

  fixed_led : (r : Expr) (l : Layout) → IsRead p l r → is_fixed_read r ≡ true → (tape : List ℤ) → Covers (FixedAt p l r) (alarms_of p w env r) (read_place w here store r tape)
  unfolding read_place alarms_of fixed_cells
  fixed_led (Read' v n steps k) l t f tape =
      then_covers (λ parts. (parts_layout (Some (layout_of p v)) parts ≡ Some l) × Fixed steps parts) (FixedAt p l (Read' v n steps k)) (steps_alarms p w env steps) [] (steps_alarms p w env steps)
      (steps_value w here store steps tape) (λ parts tape. Gives (place_of here v parts) tape)
      (and_on (StepsTaken p w F within time store env fair holds.cells steps (layout_of p v) l) (Fixed steps) _ (steps_alarms p w env steps) (steps_value w here store steps tape)
      (steps_known p w F within time store env fair holds.cells steps (layout_of p v) l t.0 t.1 tape) (steps_exact w here store steps f tape) (λ parts s g. (s.1, g)))
      (λ a m. m) (λ a m. absurd m) (λ parts tape s. at (fixed_reaches steps) parts refl s.0 s.1)
    where
      at : (o : Option (List Reach)) (parts : List Part) → fixed_reaches steps ≡ o → parts_layout (Some (layout_of p v)) parts ≡ Some l → AliveAnd (λ rs. Exactly rs parts) o → FixedAt p l (Read' v n steps k) (place_of here v parts)
      at None parts e h x = absurd x
      at (Some rs) parts e h x = record { var = v; parts = parts; reaches = rs; place = refl; names = ap (λ (o : Option (List Reach)). option_map (named p v) o) e; exact = x; leads = h }
  fixed_led (Number n k) l t f tape = absurd t
  fixed_led (Input k m) l t f tape = absurd t
  fixed_led (Prefix' op q k n a) l t f tape = absurd t
  fixed_led (Cast' q k n a) l t f tape = absurd t
  fixed_led (Chain' n a m ls) l t f tape = absurd t
  fixed_led (And' n a m rest) l t f tape = absurd t
  fixed_led (Or' n a m rest) l t f tape = absurd t
  fixed_led (Choice' n a m b j c k) l t f tape = absurd t

  abbrev copy_of : Option (List ℕ) → Option (List ℕ) → Option Flat
  copy_of o s = alive_then o (λ ks. alive_then s (λ ds. Some (with_cells env (change.copied (cells p) ks ds env.cells env.cells))))

  copies : (r s : Expr) (l : Layout) (a b : Place) → FixedAt p l r a → FixedAt p l s b → HoldsAfter p time (copy_of (fixed_cells p r) (fixed_cells p s)) (copied a b store)
  copies r s l a b x y =
      rw (x.names, y.names, x.place, y.place) (record {
        cells = from_held (cells p) _ _ (copy_holds p x.var y.var x.reaches y.reaches x.parts y.parts l x.exact y.exact x.leads y.leads store env.cells (to_held (cells p) env.cells store holds.cells));
        clock = holds.clock;
      })

  pub copy_sound : (k : ℕ) (x : Access) (q : Pos) (y : Access) (tape : List ℤ) → IsTypedSimple p (Copy k x q y) →
      Covers (λ st. HoldsAfter p time (simple_of p w (Copy k x q y) env) st) (simple_alarms p w (Copy k x q y) env) (simple_value p w here (Copy k x q y) store tape)
  unfolding simple_of simple_alarms simple_value
  copy_sound k x q y tape t =
      let r = e.Read x I32 in
      let s = e.Read y I32 in
      both_cover (FixedAt p t.0 r) (λ st. HoldsAfter p time (copy_of (fixed_cells p r) (fixed_cells p s)) st) (alarms_of p w env r) (alarms_of p w env s) (read_place w here store r tape)
      (λ a tape. then_value (read_place w here store s tape) (λ b tape. Gives (copied a b store) tape)) (fixed_led r t.0 t.1.typed t.1.fixed tape)
      (λ a tape f. then_covers (FixedAt p t.0 s) (λ st. HoldsAfter p time (copy_of (fixed_cells p r) (fixed_cells p s)) st) (alarms_of p w env s) [] (alarms_of p w env s) (read_place w here store s tape)
      (λ b tape. Gives (copied a b store) tape) (fixed_led s t.0 t.2.typed t.2.fixed tape) (λ a m. m) (λ a m. absurd m) (λ b tape g. copies r s t.0 a b f g))

-- ---- what it keeps
-- parts that an access takes, where it leads to one place
pub record Parts (m l : Layout) (rs : List Reach) : Type 0 where
  pub parts : List Part
  pub exact : Exactly rs parts
  pub leads : parts_layout (Some m) parts ≡ Some l

-- an element that an index names
element_there : (n : ℕ) (k : Layout) (r : Result ℤ Kind) (i : ℕ) → element_of n r ≡ Some i → step_into (row n k) (part.At i) ≡ Some k
element_there n k (Err kind) i h = cc
element_there n k (Ok z) i h =
    elim (int_le (pos 0) z && int_lt z (pos n)) as (λ b. (int_le (pos 0) z && int_lt z (pos n)) ≡ b → (if b then Some (unsigned_abs z) else None) ≡ Some i → step_into (row n k) (part.At i) ≡ Some k) [
      | true ↦ λ e h. let is : unsigned_abs z ≡ i = cc in subst (λ (i : ℕ). step_into (row n k) (part.At i) ≡ Some k) is (index_steps n k z e)
      | false ↦ λ e h. cc
    ] refl h

exact_at : (i : ℕ) (rs : List Reach) (ps : List Part) → Exactly rs ps → Exactly (reach.At (single (pos i)) ∷ rs) (part.At i ∷ ps)
unfolding Exactly
exact_at i rs ps h = (refl, h)

exact_in : (f : ℕ) (rs : List Reach) (ps : List Part) → Exactly rs ps → Exactly (reach.Into f ∷ rs) (part.Field f ∷ ps)
unfolding Exactly
exact_in f rs ps h = (refl, h)

led_on : (m k l : Layout) (x : Part) (ps : List Part) → step_into m x ≡ Some k → parts_layout (Some k) ps ≡ Some l → parts_layout (Some m) (x ∷ ps) ≡ Some l
unfolding parts_layout
led_on m k l x ps e h = ap (λ (o : Option Layout). parts_layout o ps) e ∙ h

no_part : (m l : Layout) → Some m ≡ Some l → Parts m l []
unfolding Exactly parts_layout
no_part m l h = record { parts = []; exact = tt; leads = h }

at_element : (n : ℕ) (k l : Layout) (o : Option ℕ) (rs : Option (List Reach)) → ((i : ℕ) → o ≡ Some i → step_into (row n k) (part.At i) ≡ Some k) → IfAlive (Parts k l) rs →
    IfAlive (Parts (row n k) l) (alive_then (option_map (λ i. reach.At (single (pos i))) o) (λ r. option_map (λ rs. r ∷ rs) rs))
at_element n k l None rs h x = tt
at_element n k l (Some i) None h x = tt
at_element n k l (Some i) (Some rs) h x = record { parts = part.At i ∷ x.parts; exact = exact_at i rs x.parts x.exact; leads = led_on (row n k) k l (part.At i) x.parts (h i refl) x.leads }

at_field : (m k l : Layout) (f : ℕ) (rs : Option (List Reach)) → step_into m (part.Field f) ≡ Some k → IfAlive (Parts k l) rs → IfAlive (Parts m l) (option_map (λ rs. reach.Into f ∷ rs) rs)
at_field m k l f None h x = tt
at_field m k l f (Some rs) h x = record { parts = part.Field f ∷ x.parts; exact = exact_in f rs x.parts x.exact; leads = led_on m k l (part.Field f) x.parts h x.leads }

fixed_parts : {n : _} (r : Row_of-Step n) (m l : Layout) → steps_layout (Some m) r ≡ Some l → IfAlive (Parts m l) (fixed_reaches r)
unfolding steps_layout fixed_reaches fixed_reach fixed_index
fixed_parts end_of-Step m l h = no_part m l h
fixed_parts (more_of-Step (At' q n j (more_of-Expr a end_of-Expr)) rest) m l h =
    step_leads m l (At' q n j (more_of-Expr a end_of-Expr)) rest h (λ k e g. row_step m k q n j a e (λ is.
    subst (λ (m : Layout). IfAlive (Parts m l) (alive_then (option_map (λ i. reach.At (single (pos i))) (fixed_index n a)) (λ r. option_map (λ rs. r ∷ rs) (fixed_reaches rest)))) (sym is)
    (at_element n k l (fixed_index n a) (fixed_reaches rest) (λ i e. element_there n k (constant_value a) i e) (fixed_parts rest k l g))))
fixed_parts (more_of-Step (Field f) rest) m l h =
    step_leads m l (Field f) rest h (λ k e g. field_step m k f e (λ into. at_field m k l f (fixed_reaches rest) into (fixed_parts rest k l g)))

-- what a fixed access names, and where it leads
pub record FixedTo (p : Program) (l : Layout) (ks : List ℕ) : Type 0 where
  pub var : ℕ
  pub parts : List Part
  pub reaches : List Reach
  pub names : ks ≡ named p var reaches
  pub exact : Exactly reaches parts
  pub leads : parts_layout (Some (layout_of p var)) parts ≡ Some l

fixed_to : (p : Program) (r : Expr) (l : Layout) → IsRead p l r → IfAlive (FixedTo p l) (fixed_cells p r)
unfolding fixed_cells
fixed_to p (Read' v n steps k) l t = at (fixed_reaches steps) (fixed_parts steps (layout_of p v) l t.1)
  where
    at : (o : Option (List Reach)) → IfAlive (Parts (layout_of p v) l) o → IfAlive (FixedTo p l) (option_map (named p v) o)
    at None h = tt
    at (Some rs) h = record { var = v; parts = h.parts; reaches = rs; names = refl; exact = h.exact; leads = h.leads }
fixed_to p (Number n k) l t = absurd t
fixed_to p (Input k m) l t = absurd t
fixed_to p (Prefix' op q k n a) l t = absurd t
fixed_to p (Cast' q k n a) l t = absurd t
fixed_to p (Chain' n a m ls) l t = absurd t
fixed_to p (And' n a m rest) l t = absurd t
fixed_to p (Or' n a m rest) l t = absurd t
fixed_to p (Choice' n a m b j c k) l t = absurd t

pub copy_keeps : (p : Program) (w : Setting) (m : ℤ) (env : Flat) → IsFair p m env → (k : ℕ) (x : Access) (q : Pos) (y : Access) → IsTypedSimple p (Copy k x q y) → IfAlive (IsFair p m) (simple_of p w (Copy k x q y) env)
unfolding simple_of
copy_keeps p w m env fair k x q y t = both (fixed_access_cells p x) (fixed_access_cells p y) (fixed_to p (e.Read x I32) t.0 t.1.typed) (fixed_to p (e.Read y I32) t.0 t.2.typed)
  where
    both : (o s : Option (List ℕ)) → IfAlive (FixedTo p t.0) o → IfAlive (FixedTo p t.0) s →
        IfAlive (IsFair p m) (alive_then o (λ ks. alive_then s (λ ds. Some (with_cells env (change.copied (cells p) ks ds env.cells env.cells)))))
    both None s h g = tt
    both (Some ks) None h g = tt
    both (Some ks) (Some ds) h g = record {
      ordered = fair.ordered;
      clock = fair.clock;
      cells = from_in (cells p) _ (rw (h.names, g.names) (copies_in (cells p) h.var g.var (steps_to (layout_of p h.var) h.parts) (steps_to (layout_of p g.var) g.parts) env.cells (to_in (cells p) env.cells fair.cells)
          (inner_cells t.0) (named p h.var h.reaches) (named p g.var g.reaches) env.cells (cells_stand p h.var h.reaches h.parts t.0 h.exact h.leads) (cells_stand p g.var g.reaches g.parts t.0 g.exact g.leads)
          (to_in (cells p) env.cells fair.cells)));
    }
