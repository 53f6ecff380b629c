-- What the lowering owes to the calls of a program: cells for the objects of each call, hidden cells for the indices that it keeps
-- and for its result, and a number for each of its loops.
use Rattle.std.proofs.Common.{◌≡◌, ℕ, zero, suc, ◌+◌, ◌≤◌, ◌<◌, ℤ, pos, true, false, List, [], ◌∷◌, ◌++◌, length, Option, Some, None}
use Rattle.std.specs.Prelude.{get_or, slice_get}
use Rattle.sa_base.specs.declared.num.Num.{Num}
use Rattle.sa_base.specs.declared.num.Num.TheVariants.{I32}
use Rattle.sa_base.specs.declared.pos.Pos.{Pos}
use Rattle.sa_typed.specs.Layouts.{Layout, layout_of, index_of, nums}
use Rattle.sa_typed.specs.WellTyped.{type_of}
use Rattle.sa_typed.specs.Executions.{Loop, same_var, initial_of, initial_store, own_place, block_of}
use Rattle.sa_typed.specs.Frames.{size, access_indices, all_kept, frame_cells, result_of, cells_in, loops_in, body_cells, body_loops, is_reference}
use Rattle.sa_typed.specs.TypedPrograms.{IsOwn}
use Rattle.sa_typed.specs.declared.expr.Expr.{Expr, Read', Row_of-Step, end_of-Step, more_of-Step, more_of-Expr, end_of-Expr}
use Rattle.sa_typed.specs.declared.expr.Expr.TheVariants as e
use Rattle.sa_typed.specs.declared.expr.Step.{At', Field}
use Rattle.sa_typed.specs.declared.stmt.Arg.{Arg}
use Rattle.sa_typed.specs.declared.stmt.Arg.TheVariants.{Value as ByValue, Object as ByReference}
use Rattle.sa_typed.specs.declared.stmt.Stmt.{Stmt, Row_of-Stmt, end_of-Stmt, more_of-Stmt, Row_of-Group, end_of-Group, more_of-Group}
use Rattle.sa_typed.specs.declared.program.Place.{Place}
use Rattle.sa_typed.specs.declared.program.Program.{Program}
use Rattle.sa_ir.specs.Frames.{own_target, main_first, initial_ends_of}
use Rattle.sa_ir.specs.Initial.{object_ends}
use Rattle.sa_ir.specs.Lowered.{behind_main}
use Rattle.sa_ir.specs.Nodes.{kept_from}
use Rattle.sa_flat.specs.Domain.{Domain}
use Rattle.sa_flat.specs.Meanings.{Cells}
use Rattle.sa_flat.proofs.Lawful.{Lawful}
use Rattle.sa_flat.proofs.ChangeLaws.{AreEnds, InEnds}
use Rattle.sa_flat.proofs.TargetLaws.{IsOfType}
use Rattle.sa_flat.proofs.LaidLaws.{Laid}
use Rattle.sa_flat.proofs.StateLaws.{Naming}
use Rattle.sa_flat.proofs.DeclareLaws.{OwnCells}
use Rattle.sa_flat.proofs.TypedWalks.{named}

module _ (x : Cells) (D : Domain) (L : Lawful x D) (N : Naming x) where
  -- a cell of this type that no report shows
  abbrev pub IsHidden : Num → ℕ → Type 0
  IsHidden num c = IsOfType x D L num c × (N.shown c ≡ false)

  -- a cell of this type in which the number of the place stands
  abbrev pub IsCellOf : Num → ℕ → Place → Type 0
  IsCellOf num c a = N.names c a × IsOfType x D L num c

  -- ---- cells that keep indices
  unfoldable pub StepsHidden : {n : _} → ℕ → Row_of-Step n → Type 0
  StepsHidden h end_of-Step = Unit {0}
  StepsHidden h (more_of-Step (At' q n m (more_of-Expr a end_of-Expr)) rest) = IsHidden (type_of a) h × StepsHidden (h + 1) rest
  StepsHidden h (more_of-Step (Field f) rest) = StepsHidden h rest

  unfoldable pub ReadHidden : ℕ → Expr → Type 0
  ReadHidden h (Read' v n steps num) = StepsHidden h steps
  ReadHidden h _ = Unit {0}

  unfoldable pub ArgsHidden : ℕ → List Arg → Type 0
  ArgsHidden h [] = Unit {0}
  ArgsHidden h (ByValue at a ∷ args) = ArgsHidden h args
  ArgsHidden h (ByReference y ∷ args) = ReadHidden h (e.Read y I32) × ArgsHidden (h + access_indices y) args

module _ (p : Program) (x : Cells) (D : Domain) (L : Lawful x D) (N : Naming x) (Names : ℕ → Loop → Type 0) where
  -- ---- an object of a call
  -- the cells of a local are its own, and what they begin with holds its initial values
  pub record Owned (v k : ℕ) (path : List Pos) : Type 0 where
    pub own : OwnCells x N D L (layout_of p v) (own_target p k v).first (size (layout_of p v)) (own_place p path v)
    pub ends : AreEnds x D L (own_target p k v).first (object_ends (initial_of (slice_get p.vars v)) (layout_of p v))
    pub hold : (time : ℤ) (bt : ℕ → ℤ) → ((c : ℕ) → (own_target p k v).first ≤ c → c < (own_target p k v).first + length (object_ends (initial_of (slice_get p.vars v)) (layout_of p v)) →
        (a : Place) × N.names c a × (same_var a (own_place p path v) ≡ true) × (bt c ≡ get_or (initial_of (slice_get p.vars v)) (index_of (layout_of p v) a.parts) (pos 0))) →
        InEnds x D L time (own_target p k v).first (object_ends (initial_of (slice_get p.vars v)) (layout_of p v)) bt

  -- a call of the function g to which the path leads, whose cells begin at k
  pub record CallAt (g : ℕ) (path : List Pos) (k : ℕ) (args : List Arg) : Type 0 where
    pub objects : (v : ℕ) → named p g v → is_reference p v ≡ false → Laid (IsCellOf x D L N) (layout_of p v) (own_target p k v).first (own_place p path v)
    pub owned : (v : ℕ) → IsOwn g (slice_get p.vars v) → is_reference p v ≡ false → Owned v k path
    pub indices : ArgsHidden x D L N (kept_from p g k) args
    pub result : (num : Num) → result_of (slice_get p.funcs g) ≡ Some num → IsHidden x D L N num (kept_from p g k + all_kept args)

  -- ---- the calls and loops of a body, with the numbers of the next cell and loop
  module _ (depth : ℕ) (inner : ℕ → List Pos → ℕ → ℕ → Type 0) (path : List Pos) where
    unfoldable mutual
      pub StmtLays : ℕ → ℕ → Stmt → Type 0
      StmtLays k l (Stmt.Block' n all) = AllLay k l all
      StmtLays k l (Stmt.Call q g args dest) = CallAt g (path ++ q ∷ []) k args × inner g (path ++ q ∷ []) (k + frame_cells p g args) l
      StmtLays k l (Stmt.If' c n (more_of-Stmt a end_of-Stmt) m (more_of-Stmt b end_of-Stmt) marked) = StmtLays k l a × StmtLays (k + cells_in p (body_cells p depth) a) (l + loops_in (body_loops p depth) a) b
      StmtLays k l (Stmt.Switch' c num n groups marked) = GroupsLay k l groups
      StmtLays k l (Stmt.Loop' q kind cond n (more_of-Stmt body end_of-Stmt) step) = Names l (record { path = path; place = q }) × StmtLays k (l + 1) body
      StmtLays k l _ = Unit {0}

      pub AllLay : {n : _} → ℕ → ℕ → Row_of-Stmt n → Type 0
      AllLay k l end_of-Stmt = Unit {0}
      AllLay k l (more_of-Stmt s rest) = StmtLays k l s × AllLay (k + cells_in p (body_cells p depth) s) (l + loops_in (body_loops p depth) s) rest

      pub GroupsLay : {n : _} → ℕ → ℕ → Row_of-Group n → Type 0
      GroupsLay k l end_of-Group = Unit {0}
      GroupsLay k l (more_of-Group labels n (more_of-Stmt body end_of-Stmt) rest) = StmtLays k l body × GroupsLay (k + cells_in p (body_cells p depth) body) (l + loops_in (body_loops p depth) body) rest

  -- of a function's body, where calls inside calls go so deep
  unfoldable pub BodyLays : ℕ → ℕ → List Pos → ℕ → ℕ → Type 0
  BodyLays zero f path k l = Unit {0}
  BodyLays (suc depth) f path k l = StmtLays depth (BodyLays depth) path k l (block_of (slice_get p.funcs f))

  -- ---- of a whole program
  -- main's call and the calls inside; each cell that stands for a place is of its element's type; and the first cells are those of
  -- globals and static locals, which begin with their initial values
  pub record Lowers : Type 0 where
    pub main : CallAt p.entry [] (main_first p) []
    pub body : BodyLays (length p.funcs) p.entry [] (behind_main p) 0
    pub element : (c : ℕ) (a : Place) → L.IsCell c → N.names c a → slice_get (nums (layout_of p a.var)) (index_of (layout_of p a.var) a.parts) ≡ Some (x.num c)
    pub shown : (c : ℕ) → c < length (initial_ends_of p) → N.shown c ≡ true
    pub ends : AreEnds x D L 0 (initial_ends_of p)
    pub hold : (time : ℤ) (bt : ℕ → ℤ) → ((c : ℕ) → c < length (initial_ends_of p) → (a : Place) × N.names c a × (bt c ≡ initial_store p a)) → InEnds x D L time 0 (initial_ends_of p) bt
