-- What an access leads to, and the cells that it names.
use Rattle.std.proofs.lemmas.Bool.Decides.{nat_tests}
use Rattle.std.proofs.Common.{◌≡◌, ℕ, zero, suc, ◌+◌, ℤ, true, false, ◌&&◌, List, [], ◌∷◌, refl, sym, ap, subst, ◌∙◌, arith, Option, Some, None, inl, inr}
use Rattle.std.specs.Prelude.{if◌then◌else◌, ◌==◌, slice_get, option_map}
use Rattle.sa_base.specs.declared.num.Num.{Num}
use Rattle.sa_typed.specs.Layouts.{leaf, layout_of}
use Rattle.sa_typed.specs.Evaluation.{Setting, Gives, Here, Store, place_of, steps_value, read_place}
use Rattle.sa_typed.specs.Cells.{Cell, cells, covers, names}
use Rattle.sa_typed.specs.WellTyped.{IsRead}
use Rattle.sa_typed.specs.declared.expr.Expr.{Expr, Number, Read', Input, Prefix', Cast', Chain', And', Or', Choice'}
use Rattle.sa_typed.specs.declared.shape.Part.{Part}
use Rattle.sa_typed.specs.declared.program.Place.{Place}
use Rattle.sa_typed.specs.declared.program.Program.{Program}
use Rattle.sa_reference.specs.declared.flat.Flat.{Flat}
use Rattle.sa_reference.specs.declared.reach.Reach.{Reach}
use Rattle.sa_operators.specs.Operators.{IsIn}
use Rattle.sa_reference.specs.Environments.{AllHold}
use Rattle.sa_reference.specs.Values.{named, named_from, reaches, reaches_of, read_cells, alarms_of, steps_alarms, joined, cell_span}
use Rattle.sa_reference.specs.Assignments.{read_of}
use Rattle.sa_reference.specs.Fair.{AreIn}
use Rattle.sa_reference.specs.Sound.{IsAmong, AliveAnd, IsWithin}
use Rattle.sa_reference.proofs.Laws.{IfAlive, Covers, main_place, main_here}
use Rattle.sa_reference.proofs.SpanLaws.{and_left, and_right, both_true}
use Rattle.sa_reference.proofs.CellLaws.{AnyOf, AllOf, IsAt, Matches, parts_layout, are_reached, place_cell, reaches_layout, names_it, Tail, read_within}
use Rattle.sa_reference.proofs.ValueLaws.{OperatorFacts, InSpan, StepsTaken, then_covers, steps_known, reach_follows, named_num, read_stays}
use Rattle.sa_reference.proofs.PointLaws.{NamesAll, AreOf}

-- ---- cells by their numbers
-- a cell that passes the test is named
pub named_has : (v : ℕ) (rs : List Reach) (cs : List Cell) (k j : ℕ) (c : Cell) → slice_get cs j ≡ Some c → (c.var == v && reaches rs c.steps) ≡ true → IsAmong (k + j) (named_from k cs v rs)
unfolding named_from
named_has v rs [] k j c e t = cc
named_has v rs (d ∷ cs) k zero c e t =
    let is : d ≡ c = cc in
    let u : (d.var == v && reaches rs d.steps) ≡ true = subst (λ (x : Cell). (x.var == v && reaches rs x.steps) ≡ true) (sym is) t in
    rw u (inl (omega arith))
named_has v rs (d ∷ cs) k (suc j) c e t =
    let rest = subst (λ (i : ℕ). IsAmong i (named_from (k + 1) cs v rs)) (omega arith) (named_has v rs cs (k + 1) j c e t) in
    elim (d.var == v && reaches rs d.steps) as (λ b. IsAmong (k + suc j) (if b then k ∷ named_from (k + 1) cs v rs else named_from (k + 1) cs v rs)) [
      | true ↦ inr rest
      | false ↦ rest
    ]

-- and what is named is a cell that passes the test
pub record Passes (v : ℕ) (rs : List Reach) (cs : List Cell) (j : ℕ) : Type 0 where
  pub cell : Cell
  pub there : slice_get cs j ≡ Some cell
  pub test : (cell.var == v && reaches rs cell.steps) ≡ true

pub named_passes : (v : ℕ) (rs : List Reach) (cs : List Cell) (k i : ℕ) → IsAmong i (named_from k cs v rs) → (j : ℕ) × (i ≡ k + j) × Passes v rs cs j
unfolding named_from
named_passes v rs [] k i m = absurd m
named_passes v rs (d ∷ cs) k i m =
    elim (d.var == v && reaches rs d.steps) as (λ b. (d.var == v && reaches rs d.steps) ≡ b →
    IsAmong i (if b then k ∷ named_from (k + 1) cs v rs else named_from (k + 1) cs v rs) → (j : ℕ) × (i ≡ k + j) × Passes v rs (d ∷ cs) j) [
      | true ↦ λ t m. first t (λ m. later (named_passes v rs cs (k + 1) i m)) m
      | false ↦ λ t m. later (named_passes v rs cs (k + 1) i m)
    ] refl m
  where
    later : (j : ℕ) × (i ≡ k + 1 + j) × Passes v rs cs j → (j : ℕ) × (i ≡ k + j) × Passes v rs (d ∷ cs) j
    later x = let e = x.1 in (suc x.0, omega arith, record { cell = x.2.cell; there = x.2.there; test = x.2.test })

    first : (d.var == v && reaches rs d.steps) ≡ true → (IsAmong i (named_from (k + 1) cs v rs) → (j : ℕ) × (i ≡ k + j) × Passes v rs (d ∷ cs) j) → IsAmong i (k ∷ named_from (k + 1) cs v rs) →
        (j : ℕ) × (i ≡ k + j) × Passes v rs (d ∷ cs) j
    first t go (inl e) = (0, omega arith, record { cell = d; there = refl; test = t })
    first t go (inr m) = go m

-- one that a cell of a list is
any_at : (P : Cell → Type 0) (cs : List Cell) → AnyOf P cs → (j : ℕ) × (c : Cell) × (slice_get cs j ≡ Some c) × P c
any_at P [] h = absurd h
any_at P (c ∷ cs) (inl e) = (0, c, refl, e)
any_at P (c ∷ cs) (inr m) = let x = any_at P cs m in (suc x.0, x.1, x.2, x.3)

all_at : (P : Cell → Type 0) (cs : List Cell) (j : ℕ) (c : Cell) → AllOf P cs → slice_get cs j ≡ Some c → P c
all_at P [] j c h e = cc
all_at P (d ∷ cs) zero c h e = let is : d ≡ c = cc in subst P is h.0
all_at P (d ∷ cs) (suc j) c h e = all_at P cs j c h.1 e

number_is : (k i : ℕ) → (k == i) ≡ true → k ≡ i
number_is k i h = grind (arith, nat_tests)

-- the cells that an access names, where it leads to an element
pub named_all : (p : Program) (v : ℕ) (parts : List Part) (rs : List Reach) (num : Num) → Matches rs parts → parts_layout (Some (layout_of p v)) parts ≡ Some (leaf num) →
    NamesAll (cells p) (main_place v parts) (named p v rs)
unfolding named
named_all p v parts rs num m l = record { each = each; some = some }
  where
    a : Place
    a = record { path = []; var = v; parts = parts }

    each : (j : ℕ) (c : Cell) → slice_get (cells p) j ≡ Some c → names c a ≡ true → IsAmong j (named_from 0 (cells p) v rs)
    each j c e n =
        let f : (c.var == v) ≡ true = and_left (c.var == v) (covers c.steps parts) n in
        let g = are_reached rs c.steps parts m (and_right (c.var == v) (covers c.steps parts) n) in
        subst (λ (i : ℕ). IsAmong i (named_from 0 (cells p) v rs)) (omega arith) (named_has v rs (cells p) 0 j c e (both_true (c.var == v) (reaches rs c.steps) f g))

    some : (j : ℕ) × (c : Cell) × (slice_get (cells p) j ≡ Some c) × (names c a ≡ true)
    some = let x = any_at (IsAt parts v) (cells p) (place_cell p v parts num l) in (x.0, x.1, x.2, names_it x.1 v parts x.3)

-- a variable alone
pub whole_named : (p : Program) (v : ℕ) (num : Num) → layout_of p v ≡ leaf num → NamesAll (cells p) (main_place v []) (named p v [])
unfolding Matches parts_layout
whole_named p v num l = named_all p v [] [] num tt (ap Some l)

module _ (p : Program) (w : Setting) (F : OperatorFacts) (within : IsWithin p w) (env : Flat) (fair : AreIn (cells p) env.cells) where
  -- what is known of the cells of an access to an element of this type
  pub record CellsKnown (num : Num) (o : Option (List ℕ)) : Type 0 where
    pub types : IfAlive (λ ks. AreOf num (cells p) ks) o
    pub reads : IfAlive (λ s. IsIn num s) (read_of env o)

  named_of : (v : ℕ) (rs : List Reach) (num : Num) → reaches_layout (Some (layout_of p v)) rs ≡ Some (leaf num) → AreOf num (cells p) (named p v rs)
  unfolding named
  named_of v rs num h k m c e =
      let x = named_passes v rs (cells p) 0 k m in
      let at : k ≡ x.0 = (let f = x.1 in omega arith) in
      let is : Some x.2.cell ≡ Some c = sym (x.2.there) ∙ subst (λ (i : ℕ). slice_get (cells p) i ≡ Some c) at e in
      let same : x.2.cell ≡ c = cc in
      let test = subst (λ (d : Cell). (d.var == v && reaches rs d.steps) ≡ true) same x.2.test in
      all_at _ (cells p) k c (named_num p w F within env fair v rs num h) e (number_is c.var v (and_left (c.var == v) (reaches rs c.steps) test)) (and_right (c.var == v) (reaches rs c.steps) test)

  pub cells_known : (r : Expr) (num : Num) → IsRead p (leaf num) r → CellsKnown num (read_cells p w env r)
  unfolding read_cells
  cells_known (Read' v n steps k) num t = from (reaches_of p w env steps) (reach_follows p w F within env fair steps (layout_of p v) (leaf num) t.1)
    where
      from : (o : Option (List Reach)) → IfAlive (λ rs. reaches_layout (Some (layout_of p v)) rs ≡ Some (leaf num)) o → CellsKnown num (option_map (named p v) o)
      from None h = record { types = tt; reads = tt }
      from (Some rs) h = record { types = named_of v rs num h; reads = read_stays p w F within env fair v rs num h }
  cells_known (Number n k) num t = absurd t
  cells_known (Input k m) num t = absurd t
  cells_known (Prefix' op q k n a) num t = absurd t
  cells_known (Cast' q k n a) num t = absurd t
  cells_known (Chain' n a m ls) num t = absurd t
  cells_known (And' n a m rest) num t = absurd t
  cells_known (Or' n a m rest) num t = absurd t
  cells_known (Choice' n a m b l c k) num t = absurd t

  pub whole_of : (v : ℕ) (num : Num) → layout_of p v ≡ leaf num → AreOf num (cells p) (named p v [])
  unfolding reaches_layout
  whole_of v num l = named_of v [] num (ap Some l)

module _ (p : Program) (w : Setting) (F : OperatorFacts) (within : IsWithin p w) (time : ℤ) (store : Store) (env : Flat) (fair : AreIn (cells p) env.cells) (holds : AllHold (cells p) env.cells store) where
  abbrev here : Here
  here = main_here time

  -- an element, all of whose cells an access names, and what is read of them
  pub record Led (r : Expr) (a : Place) : Type 0 where
    pub named : AliveAnd (λ ks. NamesAll (cells p) a ks) (read_cells p w env r)
    pub reads : InSpan (read_of env (read_cells p w env r)) (store a)

  whole : Tail 0 env.cells env.cells
  whole j = ap (λ (i : ℕ). cell_span env.cells i) (omega arith)

  read_here : (v : ℕ) (rs : List Reach) (parts : List Part) (num : Num) → Matches rs parts → parts_layout (Some (layout_of p v)) parts ≡ Some (leaf num) →
      InSpan (joined env.cells (named p v rs)) (store (place_of here v parts))
  unfolding named
  read_here v rs parts num m l = read_within v rs parts m store (cells p) 0 env.cells env.cells whole holds (place_cell p v parts num l)

  pub led : (r : Expr) (num : Num) → IsRead p (leaf num) r → (tape : List ℤ) → Covers (Led r) (alarms_of p w env r) (read_place w here store r tape)
  unfolding read_place read_cells alarms_of
  led (Read' v n steps k) num t tape =
      then_covers (StepsTaken p w F within time store env fair holds steps (layout_of p v) (leaf num)) (Led (Read' v n steps k)) (steps_alarms p w env steps) [] (steps_alarms p w env steps)
      (steps_value w here store steps tape) (λ parts tape. Gives (place_of here v parts) tape)
      (steps_known p w F within time store env fair holds steps (layout_of p v) (leaf num) t.0 t.1 tape) (λ a m. m) (λ a m. absurd m)
      (λ parts tape s. record { named = all_named (reaches_of p w env steps) parts s.0 s.1; reads = all_read (reaches_of p w env steps) parts s.0 s.1 })
    where
      all_named : (o : Option (List Reach)) (parts : List Part) → AliveAnd (λ rs. Matches rs parts) o → parts_layout (Some (layout_of p v)) parts ≡ Some (leaf num) →
          AliveAnd (λ ks. NamesAll (cells p) (place_of here v parts) ks) (option_map (named p v) o)
      all_named None parts m l = absurd m
      all_named (Some rs) parts m l = named_all p v parts rs num m l

      all_read : (o : Option (List Reach)) (parts : List Part) → AliveAnd (λ rs. Matches rs parts) o → parts_layout (Some (layout_of p v)) parts ≡ Some (leaf num) →
          InSpan (read_of env (option_map (named p v) o)) (store (place_of here v parts))
      all_read None parts m l = absurd m
      all_read (Some rs) parts m l = read_here v rs parts num m l
  led (Number n k) num t tape = absurd t
  led (Input k m) num t tape = absurd t
  led (Prefix' op q k n a) num t tape = absurd t
  led (Cast' q k n a) num t tape = absurd t
  led (Chain' n a m ls) num t tape = absurd t
  led (And' n a m rest) num t tape = absurd t
  led (Or' n a m rest) num t tape = absurd t
  led (Choice' n a m b l c k) num t tape = absurd t
