-- What a domain owes, for the analysis over it to be sound: each operation holds of what it stands for, and keeps the
-- environments that lie under the top. Of widening nothing is asked but that.
use Rattle.std.proofs.Common.{◌≡◌, ℕ, ℤ, pos, ◌+ℤ◌, true, false, List, [], refl, ap, Option, Some, None}
use Rattle.std.proofs.Math.Path.{fun_ext}
use Rattle.std.specs.Prelude.{slice_get}
use Rattle.std.specs.Int.RustNames.{int_le}
use Rattle.sa_base.specs.declared.alarm.Alarm.{Alarm}
use Rattle.sa_base.specs.declared.pos.Pos.{Pos}
use Rattle.sa_typed.specs.declared.shape.Part.{Part}
use Rattle.sa_typed.specs.declared.stmt.Simple.{Simple}
use Rattle.sa_typed.specs.declared.program.Home.TheVariants as home
use Rattle.sa_typed.specs.declared.program.Place.{Place}
use Rattle.sa_typed.specs.declared.program.Var.{Var}
use Rattle.sa_typed.specs.declared.program.Program.{Program}
use Rattle.sa_typed.specs.Evaluation.{Value, Gives, Stops, Store, Setting, Here}
use Rattle.sa_typed.specs.Executions.{simple_value, initial_store, path_of, own_place}
use Rattle.sa_typed.specs.WellTyped.{IsTypedSimple}
use Rattle.sa_reference.specs.Domain.{Domain}
use Rattle.sa_reference.specs.Sound.{IsCovered, AliveAnd}

-- dead, or P holds
abbrev pub IfAlive : {A : Type 0} → (A → Type 0) → Option A → Type 0
IfAlive P None = Unit {0}
IfAlive P (Some a) = P a

-- P holds of the value, and an error is among the alarms
abbrev pub Covers : {A : Type 0} → (A → Type 0) → List Alarm → Value A → Type 0
Covers P alarms (Gives a tape) = P a
Covers P alarms (Stops e) = IsCovered alarms e

-- ---- main: each variable names the one object that it has
abbrev pub main_place : ℕ → List Part → Place
main_place v parts = record { path = []; var = v; parts = parts }

abbrev pub main_here : ℤ → Here
main_here time = record { base = λ v. main_place v []; clock = time }

pub main_base : (p : Program) → own_place p [] ≡ (λ v. main_place v [])
main_base p = fun_ext (λ v. ap (λ (path : List Pos). record { path = path; var = v; parts = [] }) (rooted (slice_get p.vars v)))
  where
    rooted : (o : Option Var) → path_of o [] ≡ []
    rooted None = refl
    rooted (Some v) = elim v.home as (λ h. elim h as (λ _. List Pos) [ home.Global ↦ [] | home.Static ↦ [] | home.Local f ↦ [] ] ≡ []) [ home.Global ↦ refl | home.Static ↦ refl | home.Local f ↦ refl ]

-- over a program and what the executions of its main stay within
pub record Laws (p : Program) (w : Setting) (D : Domain) : Type 1 where
  pub Under : D.Env → Type 0
  pub simple_sound : (s : Simple) (env : D.Env) (store : Store) (time : ℤ) (tape : List ℤ) → IsTypedSimple p s → Under env → D.Holds env store time →
      Covers (λ store. AliveAnd (λ i. D.Holds i store time) (D.simple s env)) (D.simple_alarms s env) (simple_value p w (record { base = own_place p []; clock = time }) s store tape)
  pub tick_sound : (env : D.Env) (store : Store) (time : ℤ) → Under env → D.Holds env store time → int_le w.max_clock time ≡ false →
      AliveAnd (λ i. D.Holds i store (time +ℤ pos 1)) (D.tick env)
  pub le_sound : (a b : D.Env) (store : Store) (time : ℤ) → D.le a b ≡ true → D.Holds a store time → D.Holds b store time
  pub reduce_sound : (a : D.Env) (store : Store) (time : ℤ) → D.Holds a store time → AliveAnd (λ i. D.Holds i store time) (D.reduce a)
  pub initial_sound : D.Holds D.initial (initial_store p) (pos 0)
  pub simple_keeps : (s : Simple) (a : D.Env) → IsTypedSimple p s → Under a → IfAlive Under (D.simple s a)
  pub tick_keeps : (a : D.Env) → Under a → IfAlive Under (D.tick a)
  pub merge_keeps : (a b : D.Env) → Under a → Under b → Under (D.merge a b)
  pub widen_keeps : (q : ℕ) (a b : D.Env) → Under a → Under b → Under (D.widen q a b)
  pub reduce_keeps : (a : D.Env) → Under a → IfAlive Under (D.reduce a)
  pub top_keeps : Under D.top
  pub initial_keeps : Under D.initial
  -- the merge is above both, and the top above all
  pub merge_left : (a b : D.Env) (store : Store) (time : ℤ) → Under a → Under b → D.Holds a store time → D.Holds (D.merge a b) store time
  pub merge_right : (a b : D.Env) (store : Store) (time : ℤ) → Under a → Under b → D.Holds b store time → D.Holds (D.merge a b) store time
  pub below_top : (a : D.Env) → Under a → D.le a D.top ≡ true
