-- Simple statements of every form: assignments, and what is asked of declarations without a value and of copies.
use Rattle.std.proofs.Common.{◌≡◌, ℕ, ℤ, List, Option, Some, None}
use Rattle.sa_base.specs.declared.num.Num.{Num}
use Rattle.sa_typed.specs.Layouts.{leaf}
use Rattle.sa_typed.specs.Evaluation.{Setting, Store}
use Rattle.sa_typed.specs.Executions.{simple_value}
use Rattle.sa_typed.specs.WellTyped.{type_of, IsLink}
use Rattle.sa_typed.specs.declared.stmt.Simple.{Simple}
use Rattle.sa_typed.specs.declared.stmt.Simple.TheVariants.{Declare, Assign, Compound, Copy}
use Rattle.sa_typed.specs.declared.stmt.Start.TheVariants as begins
use Rattle.sa_typed.specs.declared.program.Place.{Place}
use Rattle.sa_typed.specs.declared.program.Program.{Program}
use Rattle.sa_ir.specs.Frames.{Frame as Call}
use Rattle.sa_ir.specs.Nodes.{simple}
use Rattle.sa_flat.specs.Domain.{Domain}
use Rattle.sa_flat.specs.Meanings.{Cells}
use Rattle.sa_flat.specs.Assignments.{change}
use Rattle.sa_flat.proofs.Lawful.{Lawful, anywhere}
use Rattle.sa_flat.proofs.Goods.{Good, Holds}
use Rattle.sa_flat.proofs.KeepLaws.{ChangeKeeps}
use Rattle.sa_flat.proofs.WalkPremises.{Walks}
use Rattle.sa_flat.proofs.FitExpressions.{FrameFits, InputsFit}
use Rattle.sa_flat.proofs.StateLaws.{Naming, has, InFrame}
use Rattle.sa_flat.proofs.SimpleLaws.{InputsAlways, AccessWalks, VarWalks, Leaves, declare_keeps, compound_keeps, assign_keeps, declare_leaves, assign_leaves, compound_leaves}

module _ (p : Program) (fr : Call) (x : Cells) (D : Domain) (L : Lawful x D) (ok : ℕ → Type 0) (others : Simple → Type 0) where
  -- of other forms something else is asked
  abbrev pub SimpleWalks : Simple → Type 0
  SimpleWalks (Declare v (begins.Value q a)) = (num : Num) × VarWalks p fr x D L ok num v × Walks p ok a
  SimpleWalks (Assign b num q a) = AccessWalks p ok (leaf num) b × Walks p ok a
  SimpleWalks (Compound b num op q work a) = AccessWalks p ok (leaf num) b × (Walks p ok a × IsLink op num work (type_of a))
  SimpleWalks (Declare v begins.Any) = others (Declare v begins.Any)
  SimpleWalks (Declare v begins.Items) = others (Declare v begins.Items)
  SimpleWalks (Copy k b q c) = others (Copy k b q c)

  module _ (frame : FrameFits p fr x D L ok) (inputs : InputsFit p fr x D L ok) (others_keep : (s : Simple) → others s → ChangeKeeps x D L (change D x (simple p fr s))) where
    pub simple_keeps : (s : Simple) → SimpleWalks s → ChangeKeeps x D L (change D x (simple p fr s))
    simple_keeps (Declare v (begins.Value q a)) h = declare_keeps p fr x D L ok frame inputs v h.0 q a h.1 h.2
    simple_keeps (Assign b num q a) h = assign_keeps p fr x D L ok frame inputs b num q a h.0 h.1
    simple_keeps (Compound b num op q work a) h = compound_keeps p fr x D L ok frame inputs b num op q work a h.0 h.1.0 h.1.1
    simple_keeps (Declare v begins.Any) h = others_keep (Declare v begins.Any) h
    simple_keeps (Declare v begins.Items) h = others_keep (Declare v begins.Items) h
    simple_keeps (Copy k b q c) h = others_keep (Copy k b q c) h

    module _ (N : Naming x) (w : Setting) (base : ℕ → Place) (outer : (ℕ → ℤ) → Type 0) (always_in : InputsAlways p fr x D L ok N w base outer) where
      -- what a simple statement leaves, in each state that stands in the environment
      abbrev pub LeavesAlways : Simple → Type 0
      LeavesAlways s = (store : Store) (result clock : ℤ) (kept : ℕ → ℤ) (stands : InFrame x N D L p ok fr base kept) (outside : outer kept) (env : D.Env) (tape : List ℤ) → Good x D L anywhere env → Holds x D L (has x N store kept) clock env →
          Leaves p fr x D L ok N w base outer frame inputs always_in store clock kept stands outside result ((change D x (simple p fr s)).after env) ((change D x (simple p fr s)).alarms env)
          (simple_value p w (record { base = base; clock = clock }) s store tape)

      module _ (others_leave : (s : Simple) → others s → LeavesAlways s) where
        pub simples_leave : (s : Simple) → SimpleWalks s → LeavesAlways s
        simples_leave (Declare v (begins.Value q a)) h store result clock kept stands outside env tape g n =
            declare_leaves p fr x D L ok N w base outer frame inputs always_in store clock kept stands outside result env v h.0 q a tape g n h.1 h.2
        simples_leave (Assign b num q a) h store result clock kept stands outside env tape g n =
            assign_leaves p fr x D L ok N w base outer frame inputs always_in store clock kept stands outside result env b num q a tape g n h.0 h.1
        simples_leave (Compound b num op q work a) h store result clock kept stands outside env tape g n =
            compound_leaves p fr x D L ok N w base outer frame inputs always_in store clock kept stands outside result env b num op q work a tape g n h.0 h.1.0 h.1.1
        simples_leave (Declare v begins.Any) h store result clock kept stands outside env tape g n = others_leave (Declare v begins.Any) h store result clock kept stands outside env tape g n
        simples_leave (Declare v begins.Items) h store result clock kept stands outside env tape g n = others_leave (Declare v begins.Items) h store result clock kept stands outside env tape g n
        simples_leave (Copy k b q c) h store result clock kept stands outside env tape g n = others_leave (Copy k b q c) h store result clock kept stands outside env tape g n
