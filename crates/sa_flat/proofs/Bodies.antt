-- The bodies of called functions, however deep calls go: statements that typing promises, over cells that the lowering owes.
use Rattle.std.proofs.Common.{◌≡◌, ◌⊎◌, ℕ, zero, suc, ◌+◌, ◌≤◌, ◌<◌, ℤ, pos, ◌≤ℤ◌, Bool, true, false, List, [], ◌∷◌, ◌++◌, length, refl, sym, ap, subst, ◌∙◌, arith, Option, Some, None, inl, inr}
use Rattle.std.specs.Prelude.{◌==◌, ◌||◌, if◌then◌else◌, IsTrue, get_or, slice_get}
use Rattle.std.specs.List.{AllByRecursion}
use Rattle.std.proofs.lemmas.Int.{ints}
use Rattle.std.proofs.lemmas.Bool.Decides.{nat_tests}
use Rattle.sa_base.specs.declared.num.Num.{Num}
use Rattle.sa_base.specs.declared.pos.Pos.{Pos}
use Rattle.sa_interval.specs.Span.{Span, Within, IsPart}
use Rattle.sa_interval.specs.Rows.{single}
use Rattle.sa_operators.specs.Operators.{IsIn}
use Rattle.sa_typed.specs.Arithmetic.{is_of}
use Rattle.sa_typed.proofs.ArithmeticLaws.{is_of_from}
use Rattle.sa_typed.specs.Layouts.{Layout, leaf, layout_of, index_of}
use Rattle.sa_typed.specs.Layouts as layouts
use Rattle.sa_typed.specs.Evaluation.{Setting, Store, is_in, range_of, within}
use Rattle.sa_typed.specs.WellTyped.{type_of, num_of_input, IsLink}
use Rattle.sa_typed.specs.Executions.{Loop, Visit, State, Result, Activation, same_var, initial_of, over, params_of, block_of, own_place, bodies_of, simple_value, run, run_all}
use Rattle.sa_typed.specs.Executions as concrete
use Rattle.sa_typed.specs.Frames.{size, access_indices, all_kept, frame_cells, result_of, cells_in, loops_in, body_cells, body_loops, refers, one_for}
use Rattle.sa_typed.specs.Frames as frames
use Rattle.sa_typed.specs.TypedPrograms.{IsTypedProgram, IsSimple, IsStep, IsHead, IsCall, IsDeclared, IsOwn, IsDestination, AreArguments, IsLabel, IsStatement, AreStatements, AreGroups, IsBlock, IsBody, IsMainOr, IsParameter, is_parameter, Site, calls_in, calls_in_all, calls_in_groups, calls_of, all_labels}
use Rattle.sa_typed.specs.TypedPrograms as typing
use Rattle.sa_typed.specs.declared.expr.Expr.{Expr}
use Rattle.sa_typed.specs.declared.expr.Access.{Access}
use Rattle.sa_typed.specs.declared.stmt.Arg.{Arg}
use Rattle.sa_typed.specs.declared.stmt.Arg.TheVariants.{Value as ByValue, Object as ByReference}
use Rattle.sa_typed.specs.declared.stmt.Destination.{Destination}
use Rattle.sa_typed.specs.declared.stmt.Label.{Label}
use Rattle.sa_typed.specs.declared.stmt.Label.TheVariants.{Case, Default}
use Rattle.sa_typed.specs.declared.stmt.LoopKind.{LoopKind}
use Rattle.sa_typed.specs.declared.stmt.LoopKind.TheVariants as kind
use Rattle.sa_typed.specs.declared.stmt.Simple.{Simple}
use Rattle.sa_typed.specs.declared.stmt.Simple.TheVariants.{Declare, Assign, Compound, Copy}
use Rattle.sa_typed.specs.declared.stmt.Start.TheVariants as begins
use Rattle.sa_typed.specs.declared.stmt.Stmt.{Stmt, Row_of-Stmt, end_of-Stmt, more_of-Stmt, Row_of-Group, end_of-Group, more_of-Group}
use Rattle.sa_typed.specs.declared.stmt.Stmt.TheVariants as stmt
use Rattle.sa_typed.specs.declared.program.Func.{Func}
use Rattle.sa_typed.specs.declared.program.Param.{Param}
use Rattle.sa_typed.specs.declared.program.Place.{Place}
use Rattle.sa_typed.specs.declared.program.Program.{Program}
use Rattle.sa_ir.specs.declared.frame.Target.{Target as Stand}
use Rattle.sa_ir.specs.declared.node.Node.{Node}
use Rattle.sa_ir.specs.declared.node.Node.TheVariants as node
use Rattle.sa_ir.specs.Frames.{Frame as Call, own_target}
use Rattle.sa_ir.specs.Initial.{object_ends}
use Rattle.sa_ir.specs.Nodes.{simple, kept_from, called_frame, body_nodes, in_block, nodes, all_nodes}
use Rattle.sa_ir.specs.Nodes as ir_nodes
use Rattle.sa_ir.specs.Places as ir_places
use Rattle.sa_flat.specs.Domain.{Domain}
use Rattle.sa_flat.specs.Meanings.{Cells}
use Rattle.sa_flat.specs.Assignments.{change}
use Rattle.sa_flat.specs.Pieces.{Found, Piece, block, done}
use Rattle.sa_flat.specs.Nodes.{piece}
use Rattle.sa_flat.proofs.Lawful.{Lawful, anywhere}
use Rattle.sa_flat.proofs.Goods.{Good, Holds}
use Rattle.sa_flat.proofs.KeepLaws.{AreFair, ChangeKeeps, Still, done_still, block_still}
use Rattle.sa_flat.proofs.TargetLaws.{IsOfType}
use Rattle.sa_flat.proofs.ChangeLaws.{AreEnds, InEnds}
use Rattle.sa_flat.proofs.FollowLaws.{Said, ResultOk, Follows}
use Rattle.sa_flat.proofs.SelectionLaws.{TypedLabels}
use Rattle.sa_flat.proofs.NodeRolls.{before, block_piece}
use Rattle.sa_flat.proofs.FitExpressions.{FrameFits, InputsFit}
use Rattle.sa_flat.proofs.LaidLaws.{Laid, AllLaid}
use Rattle.sa_flat.proofs.StateLaws.{Naming, has, with_cell, InFrame, InCall, AtVisit}
use Rattle.sa_flat.proofs.SimpleLaws.{InputsAlways, Leaves, declare_keeps, assign_keeps, compound_keeps, declare_leaves, assign_leaves, compound_leaves}
use Rattle.sa_flat.proofs.StatementLaws.{StmtWalks, AllWalk, GroupsWalk, HeadWalks, SimplesKeep, CallsKeep}
use Rattle.sa_flat.proofs.FollowStatements.{SimplesHold, CallsHold}
use Rattle.sa_flat.proofs.MainLaws.{IsEmpty}
use Rattle.sa_flat.proofs.DeclareLaws.{OwnCells}
use Rattle.sa_flat.proofs.HiddenLaws.{Returned, in_cell, untold}
use Rattle.sa_flat.proofs.BodyLaws.{Implies, result_said, ReturnWalks, return_block, left_block, return_block_still, left_block_still}
use Rattle.sa_flat.proofs.CallLaws.{nodes_still, nodes_moving, CallWalks, Unbound, is_bound, told_of, DestWalks, call_still, call_follows}
use Rattle.sa_flat.proofs.ReferenceLaws.{AllBefore, frame_stays, RefWalks, refs_keep, refs_hold}
use Rattle.sa_flat.proofs.TypedWalks.{all_left, all_right, named, expression_walks, place_walks}
use Rattle.sa_flat.proofs.ParamLaws.{no_both, all_at, same_number, or_left, or_right, own_named, reference_of, reference_is, value_is, declared_is, or_cases}
use Rattle.sa_flat.proofs.ArgLaws.{before_more, roam_any, ParamOk, Passed, Ended, args_walk, end_of}
use Rattle.sa_flat.proofs.Lays.{IsHidden, IsCellOf, Owned, CallAt, StmtLays, AllLay, GroupsLay, BodyLays}
use Rattle.sa_flat.proofs.LocalLaws.{any_keeps, any_leaves, items_keep, items_leave}

-- ---- lists and objects
pub all_from : {A : Type 0} (P : A → Type 0) (xs : List A) → ((i : ℕ) (a : A) → slice_get xs i ≡ Some a → P a) → AllByRecursion P xs
all_from P [] h = tt
all_from P (x ∷ xs) h = (h 0 x refl, all_from P xs (λ i a e. h (suc i) a e))

pub all_is : {A : Type 0} (P Q : A → Type 0) (xs : List A) → ((a : A) → P a → Q a) → AllByRecursion P xs → AllByRecursion Q xs
all_is P Q [] k h = tt
all_is P Q (x ∷ xs) k h = (k x h.0, all_is P Q xs k h.1)

mutual
  unfolding Laid

  pub laid_is : (P Q : Num → ℕ → Place → Type 0) (l : Layout) (c : ℕ) (a : Place) → ((num : Num) (c : ℕ) (a : Place) → P num c a → Q num c a) → Laid P l c a → Laid Q l c a
  laid_is P Q (leaf num) c a k h = k num c a h
  laid_is P Q (layouts.row n l) c a k h = λ i less. laid_is P Q l _ _ k (h i less)
  laid_is P Q (layouts.fields ls) c a k h = all_laid_is P Q ls c 0 a k h

  all_laid_is : (P Q : Num → ℕ → Place → Type 0) (ls : layouts.Layouts) (c j : ℕ) (a : Place) → ((num : Num) (c : ℕ) (a : Place) → P num c a → Q num c a) → AllLaid P ls c j a → AllLaid Q ls c j a
  all_laid_is P Q layouts.no_field c j a k h = tt
  all_laid_is P Q (layouts.field x l ls) c j a k h = (laid_is P Q l c _ k h.0, all_laid_is P Q ls _ (j + 1) a k h.1)

-- ---- labels
single_in : (num : Num) (z : ℤ) → IsTrue (is_of num z) → IsIn num (single z)
single_in num z h = let i = is_of_from num z h in record { ordered = omega (arith, ints); part = record { above = i.low; below = i.high } }

pub labels_typed : (num : Num) (ls : List Label) → AllByRecursion (IsLabel num) ls → TypedLabels num ls
labels_typed num [] h = tt
labels_typed num (Case k ∷ ls) h = (single_in num k h.0, labels_typed num ls h.1)
labels_typed num (Default ∷ ls) h = labels_typed num ls h.1

-- ---- what arguments bind
first_not : (a b : Bool) → (a || b) ≡ false → a ≡ false
first_not true b e = cc
first_not false b e = refl

second_not : (a b : Bool) → (a || b) ≡ false → b ≡ false
second_not true b e = cc
second_not false b e = e

both_not : (a b : Bool) → a ≡ false → b ≡ false → (a || b) ≡ false
both_not a b e f = rw (e, f) refl

turned_about : (a b : ℕ) → (a == b) ≡ false → (b == a) ≡ false
turned_about a b e = grind (arith, nat_tests)

unbound : (v : ℕ) (params : List Param) (args : List Arg) → is_parameter v params ≡ false → is_bound v params args ≡ false
unfolding is_parameter is_bound
unbound v [] args e = refl
unbound v (q ∷ params) [] e = refl
unbound v (q ∷ params) (ByValue at a ∷ args) e = unbound v params args (second_not (q.var == v) (is_parameter v params) e)
unbound v (q ∷ params) (ByReference y ∷ args) e =
    both_not (v == q.var) (is_bound v params args) (turned_about q.var v (first_not (q.var == v) (is_parameter v params) e)) (unbound v params args (second_not (q.var == v) (is_parameter v params) e))

stand_other : (b : Bool) (s t : Stand) → b ≡ false → (if b then s else t) ≡ t
stand_other b s t e = rw e refl

bound_other : (p : Program) (fr : Call) (v : ℕ) (params : List Param) (args : List Arg) (h : ℕ) (base : ℕ → Stand) → is_bound v params args ≡ false → ir_nodes.bound p fr h params args base v ≡ base v
unfolding ir_nodes.bound is_bound
bound_other p fr v [] args h base e = refl
bound_other p fr v (q ∷ params) [] h base e = refl
bound_other p fr v (q ∷ params) (ByValue at a ∷ args) h base e = bound_other p fr v params args h base e
bound_other p fr v (q ∷ params) (ByReference y ∷ args) h base e =
    bound_other p fr v params args (h + access_indices y) (λ v. if v == q.var then ir_places.target p fr h y else base v) (second_not (v == q.var) (is_bound v params args) e) ∙
    stand_other (v == q.var) (ir_places.target p fr h y) (base v) (first_not (v == q.var) (is_bound v params args) e)

module _ (p : Program) (typed : IsTypedProgram p) (x : Cells) (D : Domain) (L : Lawful x D) (N : Naming x) (w : Setting) (Names : ℕ → Loop → Type 0) where
  -- the range of each input lies in its type, and at each clock in what is said of clocks that hold it
  abbrev pub InputsIn : Type 0
  InputsIn = (k : ℕ) (num : Num) → num_of_input (slice_get p.inputs k) ≡ Some num → (s : Span) → s.lo ≤ℤ s.hi → IsPart s x.clocks → IsIn num (x.input k s)

  abbrev pub InputsNow : Type 0
  InputsNow = (clock : ℤ) (k : ℕ) (num : Num) → num_of_input (slice_get p.inputs k) ≡ Some num → (s : Span) → Within s clock → (z : ℤ) → is_in (range_of w k) z ≡ true → Within (x.input k s) z

  abbrev rank : ℕ → ℕ
  rank = typed.ranks.0

  -- main calls it, by however many others
  abbrev pub IsLow : ℕ → Type 0
  IsLow g = typed.ranks.0 g < typed.ranks.0 p.entry

  abbrev pub AreLow : List Site → Type 0
  AreLow ss = AllByRecursion (λ s. typed.ranks.0 s.func < typed.ranks.0 p.entry) ss

  -- a local that is declared in a block stands for its own object
  pub record StandsAlone (fr : Call) (act : Activation) (first v : ℕ) : Type 0 where
    pub stand : fr.base v ≡ own_target p first v
    pub object : act.base v ≡ own_place p act.path v
    pub owned : Owned p x D L N Names v first act.path

  -- what holds in a call of the function f whose cells begin at `first`, and in which the cells from `next` on are those of calls inside
  pub record Stands (f : ℕ) (fr : Call) (act : Activation) (outer : (ℕ → ℤ) → Type 0) (first next : ℕ) : Type 0 where
    pub fits : FrameFits p fr x D L (named p f)
    pub before : (v : ℕ) → named p f v → AllBefore next (fr.base v).rows
    pub outside : (d : ℕ) → first ≤ d → (kept : ℕ → ℤ) (z : ℤ) → outer kept → outer (with_cell x N d z kept)
    pub later : first ≤ next
    pub locals : (v : ℕ) → IsDeclared p f v → StandsAlone fr act first v
    pub result : (num : Num) → result_of (slice_get p.funcs f) ≡ Some num → IsHidden x D L N num fr.result × (first ≤ fr.result)

  -- what is told of a result where the call has returned
  abbrev pub told : ℕ → Option Num → (ℕ → ℤ) → ℤ → Type 0
  told c None = untold x N D L
  told c (Some num) = in_cell x N D L c

  module _ (G : Found D.Env) (fair : AreFair x D L G) (inputs : InputsIn) (always : InputsNow) where
    abbrev SeenAt : Visit → D.Env → Type 0
    SeenAt = AtVisit x N D L

    -- a body; an execution goes one call deeper than what is lowered, which no rank allows
    pub record BodyOk (depth f : ℕ) (fr : Call) (act : Activation) (outer : (ℕ → ℤ) → Type 0) (k l : ℕ) : Type 0 where
      pub still : Still x D L (piece D x (node.Block (body_nodes p depth f fr k l)))
      pub follows : Follows x D L G fair Names (AtVisit x N D L) (InCall x N D L p (named p f) outer fr act.base) (Returned x N D L outer (told fr.result (result_of (slice_get p.funcs f)))) (InCall x N D L p (named p f) outer fr act.base)
          (λ st. bodies_of p w (suc depth) f act st) (piece D x (node.Block (body_nodes p depth f fr k l)))

    abbrev pub BodiesHold : ℕ → Type 1
    BodiesHold depth = (g : ℕ) (func : Func) → slice_get p.funcs g ≡ Some func → IsLow g → typed.ranks.0 g < depth → (fr : Call) (act : Activation) (outer : (ℕ → ℤ) → Type 0) (first next l : ℕ) → Stands g fr act outer first next → BodyLays p x D L N Names depth g act.path next l →
        BodyOk depth g fr act outer next l

    -- what a simple statement keeps and leaves in a call
    abbrev pub OneLaw : (f : ℕ) (fr : Call) (act : Activation) (outer : (ℕ → ℤ) → Type 0) (frame : FrameFits p fr x D L (named p f)) → Simple → Type 0
    OneLaw f fr act outer frame s =
        ChangeKeeps x D L (change D x (simple p fr s)) ×
        ((store : Store) (result clock : ℤ) (kept : ℕ → ℤ) (stands : InFrame x N D L p (named p f) fr act.base kept) (outside : outer kept) (env : D.Env) (tape : List ℤ) → Good x D L anywhere env → Holds x D L (has x N store kept) clock env →
        Leaves p fr x D L (named p f) N w act.base outer frame inputs always store clock kept stands outside result ((change D x (simple p fr s)).after env) ((change D x (simple p fr s)).alarms env)
        (simple_value p w (record { base = act.base; clock = clock }) s store tape))

    abbrev pub CopiesHold : Type 1
    CopiesHold = (f : ℕ) (fr : Call) (act : Activation) (outer : (ℕ → ℤ) → Type 0) (first next : ℕ) (s : Stands f fr act outer first next) (c : ℕ) (b : _) (q : Pos) (d : _) → IsSimple p f (Copy c b q d) → OneLaw f fr act outer s.fits (Copy c b q d)

    -- ---- no function has so low a rank
    pub none_hold : BodiesHold zero
    none_hold g func e low deep fr act outer first next l s lays = absurd (omega (arith, deep))

    module _ (copies : CopiesHold) (f : ℕ) (fr : Call) (act : Activation) (outer : (ℕ → ℤ) → Type 0) (first next : ℕ) (s : Stands f fr act outer first next) (depth : ℕ) (ih : BodiesHold depth) where
      abbrev ok : ℕ → Type 0
      ok = named p f

      -- ---- simple statements
      declared_own : (v : ℕ) → IsDeclared p f v → OwnCells x N D L (layout_of p v) (fr.base v).first (size (layout_of p v)) (within (act.base v) [])
      declared_own v d =
          let a = s.locals v d in
          subst (λ (t : Stand). OwnCells x N D L (layout_of p v) t.first (size (layout_of p v)) (within (act.base v) [])) (sym a.stand)
          (subst (λ (b : Place). OwnCells x N D L (layout_of p v) (own_target p first v).first (size (layout_of p v)) (within b [])) (sym a.object) a.owned.own)

      declared_ends : (v : ℕ) → IsDeclared p f v → AreEnds x D L (fr.base v).first (object_ends (initial_of (slice_get p.vars v)) (layout_of p v))
      declared_ends v d = let a = s.locals v d in subst (λ (t : Stand). AreEnds x D L t.first (object_ends (initial_of (slice_get p.vars v)) (layout_of p v))) (sym a.stand) a.owned.ends

      abbrev HoldAt : ℕ → Stand → Place → Type 0
      HoldAt v t b = (time : ℤ) (bt : ℕ → ℤ) → ((c : ℕ) → t.first ≤ c → c < t.first + length (object_ends (initial_of (slice_get p.vars v)) (layout_of p v)) →
          (a : Place) × N.names c a × (same_var a (within b []) ≡ true) × (bt c ≡ get_or (initial_of (slice_get p.vars v)) (index_of (layout_of p v) a.parts) (pos 0))) →
          InEnds x D L time t.first (object_ends (initial_of (slice_get p.vars v)) (layout_of p v)) bt

      declared_hold : (v : ℕ) → IsDeclared p f v → HoldAt v (fr.base v) (act.base v)
      declared_hold v d =
          let a = s.locals v d in
          subst (λ (t : Stand). HoldAt v t (act.base v)) (sym a.stand) (subst (λ (b : Place). HoldAt v (own_target p first v) b) (sym a.object) a.owned.hold)

      abbrev pub Law : Simple → Type 0
      Law i = OneLaw f fr act outer s.fits i

      pub one_law : (i : Simple) → IsSimple p f i → OneLaw f fr act outer s.fits i
      one_law (Declare v begins.Any) h = (
        any_keeps p fr x D L ok N w act.base outer s.fits inputs always v (declared_own v h.0),
        λ store result clock kept stands outside env tape g n. any_leaves p fr x D L ok N w act.base outer s.fits inputs always v (declared_own v h.0) store clock kept stands outside result env tape g n,
      )
      one_law (Declare v begins.Items) h = (
        items_keep p fr x D L ok N w act.base outer s.fits inputs always v (declared_own v h.0) (declared_ends v h.0),
        λ store result clock kept stands outside env tape g n. items_leave p fr x D L ok N w act.base outer s.fits inputs always v (declared_own v h.0) store clock kept stands outside result env tape (declared_ends v h.0) (declared_hold v h.0 clock) g n,
      )
      one_law (Declare v (begins.Value q a)) h = (
        declare_keeps p fr x D L ok s.fits inputs v h.1.1.0 q a (own_named f (slice_get p.vars v) h.0.own, h.1.1.1) (expression_walks p f a h.1.0),
        λ store result clock kept stands outside env tape g n. declare_leaves p fr x D L ok N w act.base outer s.fits inputs always store clock kept stands outside result env v h.1.1.0 q a tape g n
            (own_named f (slice_get p.vars v) h.0.own, h.1.1.1) (expression_walks p f a h.1.0),
      )
      one_law (Assign b num q a) h = (
        assign_keeps p fr x D L ok s.fits inputs b num q a (place_walks p f (leaf num) b h.0.place) (expression_walks p f a h.1),
        λ store result clock kept stands outside env tape g n. assign_leaves p fr x D L ok N w act.base outer s.fits inputs always store clock kept stands outside result env b num q a tape g n
            (place_walks p f (leaf num) b h.0.place) (expression_walks p f a h.1),
      )
      one_law (Compound b num op q work a) h = (
        compound_keeps p fr x D L ok s.fits inputs b num op q work a (place_walks p f (leaf num) b h.0.place) (expression_walks p f a h.1.0) h.1.1,
        λ store result clock kept stands outside env tape g n. compound_leaves p fr x D L ok N w act.base outer s.fits inputs always store clock kept stands outside result env b num op q work a tape g n
            (place_walks p f (leaf num) b h.0.place) (expression_walks p f a h.1.0) h.1.1,
      )
      one_law (Copy c b q d) h = copies f fr act outer first next s c b q d h

      -- ---- calls
      abbrev pub Ref : (ℕ → Type 0) → (ℕ → Stand) → ℕ → Param → Access → Type 0
      Ref = RefWalks p fr x D L (named p f) N w act outer s.fits inputs always G fair Names

      -- what stands before arguments are passed: all that the function may name but its references
      abbrev pub stood_at : ℕ → ℕ → Type 0
      stood_at g v = named p g v × (frames.is_reference p v ≡ false)

      abbrev pub CallOk : ℕ → ℕ → Pos → ℕ → List Arg → Option Destination → Type 0
      CallOk k l q g args dest = CallWalks p fr x D L (named p f) N w act outer s.fits inputs always G fair Names (bodies_of p w (suc depth)) (body_nodes p depth) k l q g args dest (stood_at g) (named p g) Ref

      module _ (k l : ℕ) (q : Pos) (g : ℕ) (args : List Arg) (dest : Option Destination) (func : Func) (le : next ≤ k) (found : slice_get p.funcs g ≡ Some func) (arguments : AreArguments p f func.params args) (goes : IsDestination p f func.result dest)
          (at : CallAt p x D L N Names g (act.path ++ q ∷ []) k args) (lays : BodyLays p x D L N Names depth g (act.path ++ q ∷ []) (k + frame_cells p g args) l) (low : IsLow g) (deep : typed.ranks.0 g < depth) where
        abbrev params : List Param
        params = params_of (slice_get p.funcs g)

        params_is : params_of (slice_get p.funcs g) ≡ func.params
        params_is = ap (λ (o : Option Func). params_of o) found

        result_is : result_of (slice_get p.funcs g) ≡ func.result
        result_is = ap (λ (o : Option Func). result_of o) found

        caller : (v : ℕ) → named p f v → AllBefore k (fr.base v).rows
        caller v o = before_more next k (fr.base v).rows le (s.before v o)

        outside : (d : ℕ) → k ≤ d → (kept : ℕ → ℤ) (z : ℤ) → outer kept → outer (with_cell x N d z kept)
        outside d up kept z o = let later = s.later in s.outside d (omega (arith, le, up, later)) kept z o

        params_ok : AllByRecursion (ParamOk p g) func.params
        params_ok =
            all_from (ParamOk p g) func.params
            (λ i q e. (all_at (λ q. IsParameter p g q) func.params i q (typed.funcs g func found).params e, ((λ r. value_is p typed g func i q found e r), (λ r. reference_is p typed g func i q found e r))))

        own_laid : (v : ℕ) → named p g v → frames.is_reference p v ≡ false → Laid (λ num c a. IsOfType x D L num c) (layout_of p v) (own_target p k v).first (own_place p (act.path ++ q ∷ []) v)
        own_laid v o free = laid_is (IsCellOf x D L N) (λ num c a. IsOfType x D L num c) (layout_of p v) (own_target p k v).first (own_place p (act.path ++ q ∷ []) v) (λ num c a h. h.1) (at.objects v o free)

        begins_passed : Passed p fr x D L N w act outer f s.fits inputs always G fair Names k caller outside g (stood_at g) (own_target p k) (kept_from p g k)
        unfolding own_target
        begins_passed = record {
          fits = λ v o. (own_place p (act.path ++ q ∷ []) v, own_laid v o.0 o.1);
          intact = λ v free. refl;
          before = λ v o. tt;
          own = λ v o free. (o, free);
        }

        ended : Ended p fr x D L N w act outer f s.fits inputs always G fair Names k caller outside g (stood_at g) (own_target p k) (kept_from p g k) (params_of (slice_get p.funcs g)) args
        ended =
            args_walk p fr x D L N w act outer f s.fits inputs always G fair Names k caller outside g (params_of (slice_get p.funcs g)) args (stood_at g) (own_target p k) (kept_from p g k) (omega arith)
            (subst (λ (qs : List Param). AllByRecursion (ParamOk p g) qs) (sym params_is) params_ok) (subst (λ (qs : List Param). AreArguments p f qs args) (sym params_is) arguments) at.indices begins_passed

        -- all that the function may name stands where its body begins
        all_stand : (v : ℕ) → named p g v → end_of p fr x D L N w act outer f s.fits inputs always G fair Names k caller outside g (stood_at g) (params_of (slice_get p.funcs g)) args v
        all_stand v o =
            elim (frames.is_reference p v) as (λ b. frames.is_reference p v ≡ b → end_of p fr x D L N w act outer f s.fits inputs always G fair Names k caller outside g (stood_at g) (params_of (slice_get p.funcs g)) args v) [
              | true ↦ λ e. ended.refs v (subst (λ (qs : List Param). refers v qs ≡ true) (sym params_is) (reference_of p typed v g func found o e))
              | false ↦ λ e. ended.stays v (o, e)
            ] refl

        abbrev around : (ℕ → ℤ) → Type 0
        around kept = InFrame x N D L p (named p f) fr act.base kept × outer kept

        inner_fits : FrameFits p (called_frame p fr k q g args) x D L (named p g)
        unfolding called_frame
        inner_fits v o =
            roam_any p x D L (record { prefix = []; result = 0; base = ir_nodes.bound p fr (kept_from p g k) (params_of (slice_get p.funcs g)) args (own_target p k) }) (called_frame p fr k q g args)
            (end_of p fr x D L N w act outer f s.fits inputs always G fair Names k caller outside g (stood_at g) (params_of (slice_get p.funcs g)) args) (named p g) (layout_of p v)
            (ir_nodes.bound p fr (kept_from p g k) (params_of (slice_get p.funcs g)) args (own_target p k) v).rows (ir_nodes.bound p fr (kept_from p g k) (params_of (slice_get p.funcs g)) args (own_target p k) v).first (ended.fits v (all_stand v o))

        inner_before : (v : ℕ) → named p g v → AllBefore (k + frame_cells p g args) ((called_frame p fr k q g args).base v).rows
        unfolding called_frame frame_cells
        inner_before v o =
            before_more (kept_from p g k + all_kept args) (k + frame_cells p g args) (ir_nodes.bound p fr (kept_from p g k) (params_of (slice_get p.funcs g)) args (own_target p k) v).rows (omega arith) (ended.before v (all_stand v o))

        inner_result : (num : Num) → result_of (slice_get p.funcs g) ≡ Some num → IsHidden x D L N num (called_frame p fr k q g args).result × (k ≤ (called_frame p fr k q g args).result)
        unfolding called_frame
        inner_result num e = (at.result num e, omega arith)

        inner_alone : (base : ℕ → Place) → ((v : ℕ) → is_bound v (params_of (slice_get p.funcs g)) args ≡ false → base v ≡ own_place p (act.path ++ q ∷ []) v) → (v : ℕ) → IsDeclared p g v →
            StandsAlone (called_frame p fr k q g args) (record { path = act.path ++ q ∷ []; base = base }) k v
        unfolding called_frame
        inner_alone base u v d =
            let free = unbound v (params_of (slice_get p.funcs g)) args d.parameter in
            record {
              stand = bound_other p fr v (params_of (slice_get p.funcs g)) args (kept_from p g k) (own_target p k) free;
              object = u v free;
              owned = at.owned v d.own (declared_is p typed g v func found d.own (subst (λ (qs : List Param). is_parameter v qs ≡ false) params_is d.parameter));
            }

        inner_stands : (base : ℕ → Place) → ((v : ℕ) → is_bound v (params_of (slice_get p.funcs g)) args ≡ false → base v ≡ own_place p (act.path ++ q ∷ []) v) →
            Stands g (called_frame p fr k q g args) (record { path = act.path ++ q ∷ []; base = base }) (λ kept. InFrame x N D L p (named p f) fr act.base kept × outer kept) k (k + frame_cells p g args)
        inner_stands base u = record {
          fits = inner_fits;
          before = inner_before;
          outside = λ d up kept z h. (frame_stays p x D L N (named p f) fr act.base k caller d up kept z h.0, outside d up kept z h.1);
          later = omega arith;
          locals = inner_alone base u;
          result = inner_result;
        }

        inner_ok : (base : ℕ → Place) → ((v : ℕ) → is_bound v (params_of (slice_get p.funcs g)) args ≡ false → base v ≡ own_place p (act.path ++ q ∷ []) v) →
            BodyOk depth g (called_frame p fr k q g args) (record { path = act.path ++ q ∷ []; base = base }) (λ kept. InFrame x N D L p (named p f) fr act.base kept × outer kept) (k + frame_cells p g args) l
        inner_ok base u =
            ih g func found low deep (called_frame p fr k q g args) (record { path = act.path ++ q ∷ []; base = base }) (λ kept. InFrame x N D L p (named p f) fr act.base kept × outer kept) k (k + frame_cells p g args) l (inner_stands base u) lays

        -- what is told of the result is the same, whichever call tells it
        told_same : (c : ℕ) (o : Option Num) (kept : ℕ → ℤ) (z : ℤ) → told c o kept z → told_of p fr x D L (named p f) N w act outer s.fits inputs always G fair Names c o kept z
        told_same c None kept z h = h
        told_same c (Some num) kept z h = h

        dest_walks : (o : Option Num) (d : Option Destination) → ((num : Num) → o ≡ Some num → IsHidden x D L N num (kept_from p g k + all_kept args)) → IsDestination p f o d →
            DestWalks p fr x D L (named p f) N w act outer s.fits inputs always G fair Names (kept_from p g k + all_kept args) o d
        dest_walks o None hid h = tt
        dest_walks None (Some d) hid h = absurd h
        dest_walks (Some num) (Some d) hid h = (place_walks p f (leaf d.num) d.place h.place, hid num refl)

        enters : (kept : ℕ → ℤ) → InFrame x N D L p (named p f) fr act.base kept × outer kept → InFrame x N D L p (stood_at g) (record { prefix = []; result = 0; base = own_target p k }) (own_place p (act.path ++ q ∷ [])) kept
        unfolding own_target
        enters kept h v o = laid_is (IsCellOf x D L N) (λ num c a. N.names c a) (layout_of p v) (own_target p k v).first (own_place p (act.path ++ q ∷ []) v) (λ num c a h. h.0) (at.objects v o.0 o.1)

        body_said : (base : ℕ → Place) → ((v : ℕ) → is_bound v (params_of (slice_get p.funcs g)) args ≡ false → base v ≡ own_place p (act.path ++ q ∷ []) v) →
            Follows x D L G fair Names (AtVisit x N D L) (InCall x N D L p (named p g) (λ kept. InFrame x N D L p (named p f) fr act.base kept × outer kept) (called_frame p fr k q g args) base)
            (Returned x N D L (λ kept. InFrame x N D L p (named p f) fr act.base kept × outer kept)
            (told_of p fr x D L (named p f) N w act outer s.fits inputs always G fair Names (kept_from p g k + all_kept args) (result_of (slice_get p.funcs g))))
            (InCall x N D L p (named p g) (λ kept. InFrame x N D L p (named p f) fr act.base kept × outer kept) (called_frame p fr k q g args) base) (λ st. bodies_of p w (suc depth) g (record { path = act.path ++ q ∷ []; base = base }) st)
            (piece D x (node.Block (body_nodes p depth g (called_frame p fr k q g args) (k + frame_cells p g args) l)))
        unfolding called_frame
        body_said base u e st b =
            result_said x D L G fair Names (AtVisit x N D L)
            (Returned x N D L (λ kept. InFrame x N D L p (named p f) fr act.base kept × outer kept) (told (kept_from p g k + all_kept args) (result_of (slice_get p.funcs g))))
            (Returned x N D L (λ kept. InFrame x N D L p (named p f) fr act.base kept × outer kept)
            (told_of p fr x D L (named p f) N w act outer s.fits inputs always G fair Names (kept_from p g k + all_kept args) (result_of (slice_get p.funcs g))))
            (InCall x N D L p (named p g) (λ kept. InFrame x N D L p (named p f) fr act.base kept × outer kept) (called_frame p fr k q g args) base)
            (InCall x N D L p (named p g) (λ kept. InFrame x N D L p (named p f) fr act.base kept × outer kept) (called_frame p fr k q g args) base)
            ((piece D x (node.Block (body_nodes p depth g (called_frame p fr k q g args) (k + frame_cells p g args) l))).after e) (bodies_of p w (suc depth) g (record { path = act.path ++ q ∷ []; base = base }) st)
            (λ store result clock e h. record { kept = h.kept; outside = h.outside; is_result = told_same (kept_from p g k + all_kept args) (result_of (slice_get p.funcs g)) h.kept result h.is_result; holds = h.holds })
            (λ store result clock e h. h) ((inner_ok base u).follows e st b)

        pub call_ok : CallOk k l q g args dest
        call_ok = record {
          arguments = ended.walk;
          enters = enters;
          stands = all_stand;
          destination = dest_walks (result_of (slice_get p.funcs g)) dest at.result (subst (λ (o : Option Num). IsDestination p f o dest) (sym result_is) goes);
          still = (inner_ok (own_place p (act.path ++ q ∷ [])) (λ v e. refl)).still;
          body = body_said;
        }
