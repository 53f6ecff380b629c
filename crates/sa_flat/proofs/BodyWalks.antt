-- Statements of a call, and from them all bodies: what typing and the lowering promise is what the walk asks.
use Rattle.std.proofs.Common.{◌≡◌, ℕ, zero, suc, ◌+◌, ◌≤◌, ◌<◌, ℤ, Bool, true, false, List, [], ◌∷◌, ◌++◌, refl, sym, subst, arith, Option, Some, None, inl, inr}
use Rattle.std.specs.Prelude.{◌==◌, slice_get}
use Rattle.std.specs.List.{AllByRecursion}
use Rattle.sa_base.specs.declared.num.Num.{Num}
use Rattle.sa_base.specs.declared.pos.Pos.{Pos}
use Rattle.sa_typed.specs.Evaluation.{Setting}
use Rattle.sa_typed.specs.Executions.{Loop, State, Result, Activation, over, block_of, bodies_of, run, run_all}
use Rattle.sa_typed.specs.Executions as concrete
use Rattle.sa_typed.specs.Frames.{frame_cells, result_of, cells_in, loops_in, body_cells, body_loops}
use Rattle.sa_typed.specs.TypedPrograms.{IsTypedProgram, IsSimple, IsStep, IsHead, IsCall, IsLabel, IsStatement, AreStatements, AreGroups, IsBlock, IsBody, IsMainOr, Site, calls_in, calls_in_all, calls_in_groups, calls_of, all_labels}
use Rattle.sa_typed.specs.TypedPrograms as typing
use Rattle.sa_typed.specs.declared.expr.Expr.{Expr}
use Rattle.sa_typed.specs.declared.stmt.Arg.{Arg}
use Rattle.sa_typed.specs.declared.stmt.Destination.{Destination}
use Rattle.sa_typed.specs.declared.stmt.LoopKind.{LoopKind}
use Rattle.sa_typed.specs.declared.stmt.LoopKind.TheVariants as kind
use Rattle.sa_typed.specs.declared.stmt.Simple.{Simple}
use Rattle.sa_typed.specs.declared.stmt.Stmt.{Stmt, Row_of-Stmt, end_of-Stmt, more_of-Stmt, Row_of-Group, end_of-Group, more_of-Group}
use Rattle.sa_typed.specs.declared.stmt.Stmt.TheVariants as stmt
use Rattle.sa_typed.specs.declared.program.Func.{Func}
use Rattle.sa_typed.specs.declared.program.Program.{Program}
use Rattle.sa_ir.specs.declared.node.Node.TheVariants as node
use Rattle.sa_ir.specs.Frames.{Frame as Call}
use Rattle.sa_ir.specs.Nodes.{body_nodes, in_block, all_nodes}
use Rattle.sa_ir.specs.Nodes as ir_nodes
use Rattle.sa_flat.specs.Domain.{Domain}
use Rattle.sa_flat.specs.Meanings.{Cells}
use Rattle.sa_flat.specs.Pieces.{Found, Piece}
use Rattle.sa_flat.specs.Nodes.{piece}
use Rattle.sa_flat.proofs.Lawful.{Lawful}
use Rattle.sa_flat.proofs.KeepLaws.{AreFair, Still}
use Rattle.sa_flat.proofs.FollowLaws.{Follows}
use Rattle.sa_flat.proofs.StateLaws.{Naming, InCall, AtVisit}
use Rattle.sa_flat.proofs.StatementLaws.{StmtWalks, AllWalk, GroupsWalk, StepWalks, HeadWalks, SimplesKeep, CallsKeep}
use Rattle.sa_flat.proofs.FollowStatements.{SimplesHold, CallsHold}
use Rattle.sa_flat.proofs.MainLaws.{IsEmpty}
use Rattle.sa_flat.proofs.HiddenLaws.{Returned}
use Rattle.sa_flat.proofs.BodyLaws.{IsReturn, ReturnWalks, return_block, left_block, return_block_still, left_block_still}
use Rattle.sa_flat.proofs.CallLaws.{nodes_still, nodes_moving, call_still, call_follows}
use Rattle.sa_flat.proofs.ReferenceLaws.{RefWalks, refs_keep, refs_hold}
use Rattle.sa_flat.proofs.TypedWalks.{all_left, all_right, named, expression_walks}
use Rattle.sa_flat.proofs.ParamLaws.{same_number}
use Rattle.sa_flat.proofs.Lays.{IsHidden, CallAt, StmtLays, AllLay, GroupsLay, BodyLays}
use Rattle.sa_flat.proofs.Bodies.{all_is, labels_typed, InputsIn, InputsNow, Stands, told, BodiesHold, OneLaw, CopiesHold, none_hold, one_law, CallOk, stood_at, call_ok}

-- no `return` stands in a body without a result
pub no_return : (p : Program) (f : ℕ) (s : Stmt) → typing.IsReturn p f None s → ⊥
no_return p f (Stmt.Return q num a) h = none_some h.0
  where
    none_some : None ≡ Some num → ⊥
    none_some e = cc
no_return p f _ h = h

pub empty_row : {n : _} (r : Row_of-Stmt n) → typing.IsEmpty r → IsEmpty r
empty_row end_of-Stmt h = tt
empty_row (more_of-Stmt s rest) h = absurd h

module _ (p : Program) (typed : IsTypedProgram p) (x : Cells) (D : Domain) (L : Lawful x D) (N : Naming x) (w : Setting) (Names : ℕ → Loop → Type 0) (G : Found D.Env) (fair : AreFair x D L G) (inputs : InputsIn p typed x D L N w Names)
    (always : InputsNow p typed x D L N w Names) (copies : CopiesHold p typed x D L N w Names G fair inputs always) where
  abbrev Holding : ℕ → Type 1
  Holding depth = BodiesHold p typed x D L N w Names G fair inputs always depth

  abbrev Standing : ℕ → Call → Activation → ((ℕ → ℤ) → Type 0) → ℕ → ℕ → Type 0
  Standing f fr act outer first next = Stands p typed x D L N w Names f fr act outer first next

  module _ (f : ℕ) (fr : Call) (act : Activation) (outer : (ℕ → ℤ) → Type 0) (first next : ℕ) (s : Stands p typed x D L N w Names f fr act outer first next) (depth : ℕ) (ih : BodiesHold p typed x D L N w Names G fair inputs always depth) where
    abbrev pub SimpleOk : Simple → Type 0
    SimpleOk i = OneLaw p typed x D L N w Names G fair inputs always f fr act outer s.fits i

    abbrev pub CallsOk : ℕ → ℕ → Pos → ℕ → List Arg → Option Destination → Type 0
    CallsOk k l q g args dest = CallOk p typed x D L N w Names G fair inputs always copies f fr act outer first next s depth ih k l q g args dest

    abbrev pub InIt : ℕ → ℕ → Stmt → Type 0
    InIt k l t = StmtWalks p (named p f) depth (λ l q. Names l (record { path = act.path; place = q })) SimpleOk CallsOk k l t

    abbrev pub AllInIt : {n : _} → ℕ → ℕ → Row_of-Stmt n → Type 0
    AllInIt k l r = AllWalk p (named p f) depth (λ l q. Names l (record { path = act.path; place = q })) SimpleOk CallsOk k l r

    abbrev GroupsInIt : {n : _} → ℕ → ℕ → Num → Row_of-Group n → Type 0
    GroupsInIt k l num r = GroupsWalk p (named p f) depth (λ l q. Names l (record { path = act.path; place = q })) SimpleOk CallsOk k l num r

    abbrev Lay : ℕ → ℕ → Stmt → Type 0
    Lay k l t = StmtLays p x D L N Names depth (BodyLays p x D L N Names depth) act.path k l t

    abbrev LayAll : {n : _} → ℕ → ℕ → Row_of-Stmt n → Type 0
    LayAll k l r = AllLay p x D L N Names depth (BodyLays p x D L N Names depth) act.path k l r

    simple_law : (i : Simple) → IsSimple p f i → SimpleOk i
    simple_law i h = one_law p typed x D L N w Names G fair inputs always copies f fr act outer first next s depth ih i h

    step_law : (o : Option Simple) → IsStep p f o → StepWalks p (named p f) depth (λ l q. Names l (record { path = act.path; place = q })) SimpleOk CallsOk o
    step_law None h = tt
    step_law (Some i) h = simple_law i h

    head_law : (kind : LoopKind) (cond : Option Expr) (step : Option Simple) → IsHead p f kind cond step → HeadWalks p (named p f) depth (λ l q. Names l (record { path = act.path; place = q })) SimpleOk CallsOk kind cond step
    head_law kind.While None step h = (tt, step_law step h)
    head_law kind.While (Some a) step h = (expression_walks p f a h.0, step_law step h.1)
    head_law kind.Do (Some a) None h = expression_walks p f a h
    head_law _ _ _ h = absurd h

    -- ---- what the walk over statements asks from outside
    abbrev pub does : concrete.Bodies
    does = bodies_of p w (suc depth)

    abbrev pub lowers : ir_nodes.Bodies
    lowers = body_nodes p depth

    pub simples_keep : SimplesKeep p fr x D L (named p f) N w act depth (bodies_of p w (suc depth)) (body_nodes p depth) SimpleOk CallsOk Names s.fits inputs
    simples_keep i h = h.0

    pub calls_keep : CallsKeep p fr x D L (named p f) N w act depth (bodies_of p w (suc depth)) (body_nodes p depth) SimpleOk CallsOk Names s.fits inputs
    calls_keep k l q g args dest rest h =
        let ns = ir_nodes.called p (body_nodes p depth) fr k l q g args dest in
        let all = call_still p fr x D L (named p f) N w act outer s.fits inputs always G fair Names (bodies_of p w (suc depth)) (body_nodes p depth) k l q g args dest
        (stood_at p typed x D L N w Names G fair inputs always copies f fr act outer first next s depth ih g) (named p g) (RefWalks p fr x D L (named p f) N w act outer s.fits inputs always G fair Names)
        (refs_keep p fr x D L (named p f) N w act outer s.fits inputs always G fair Names k) (refs_hold p fr x D L (named p f) N w act outer s.fits inputs always G fair Names k) h in
        ((λ r. nodes_still x D L ns rest all r), (λ r. nodes_moving x D L ns rest all r))

    pub simples_hold : SimplesHold p fr x D L (named p f) N w act depth (bodies_of p w (suc depth)) (body_nodes p depth) SimpleOk CallsOk Names s.fits inputs simples_keep calls_keep outer always G fair
    simples_hold i h = h.1

    pub calls_hold : CallsHold p fr x D L (named p f) N w act depth (bodies_of p w (suc depth)) (body_nodes p depth) SimpleOk CallsOk Names s.fits inputs simples_keep calls_keep outer always G fair
    calls_hold k l q g args dest Q go rest h sq follows keeps =
        call_follows p fr x D L (named p f) N w act outer s.fits inputs always G fair Names (bodies_of p w (suc depth)) (body_nodes p depth) k l q g args dest
        (stood_at p typed x D L N w Names G fair inputs always copies f fr act outer first next s depth ih g) (named p g) (RefWalks p fr x D L (named p f) N w act outer s.fits inputs always G fair Names)
        (refs_keep p fr x D L (named p f) N w act outer s.fits inputs always G fair Names k) (refs_hold p fr x D L (named p f) N w act outer s.fits inputs always G fair Names k) Q go rest h sq follows keeps

    -- the functions that are called are of lower rank than r
    module _ (r : ℕ) (entry_above : r ≤ typed.ranks.0 p.entry) (depth_above : r ≤ depth) where
      abbrev Low : List Site → Type 0
      Low ss = AllByRecursion (λ s. typed.ranks.0 s.func < r) ss

      call_law : (k l : ℕ) (q : Pos) (g : ℕ) (args : List Arg) (dest : Option Destination) → next ≤ k → IsCall p f (slice_get p.funcs g) args dest → CallAt p x D L N Names g (act.path ++ q ∷ []) k args →
          BodyLays p x D L N Names depth g (act.path ++ q ∷ []) (k + frame_cells p g args) l → typed.ranks.0 g < r → CallsOk k l q g args dest
      call_law k l q g args dest le h at lays low = from (slice_get p.funcs g) refl h
        where
          from : (o : Option Func) → slice_get p.funcs g ≡ o → IsCall p f o args dest → CallsOk k l q g args dest
          from None e h = absurd h
          from (Some func) e h = call_ok p typed x D L N w Names G fair inputs always copies f fr act outer first next s depth ih k l q g args dest func le e h.0 h.1 at lays (omega (arith, low, entry_above)) (omega (arith, low, depth_above))

      more : (k n : ℕ) → next ≤ k → next ≤ k + n
      more k n le = omega (arith, le)

      low_left : (ss ts : List Site) → Low (ss ++ ts) → Low ss
      low_left ss ts h = all_left (λ s. typed.ranks.0 s.func < r) ss ts h

      low_right : (ss ts : List Site) → Low (ss ++ ts) → Low ts
      low_right ss ts h = all_right (λ s. typed.ranks.0 s.func < r) ss ts h

      mutual
        unfolding StmtWalks IsStatement StmtLays calls_in all_labels

        pub stmt_law : (t : Stmt) (inside : Bool) (k l : ℕ) → next ≤ k → IsStatement p f inside t → Lay k l t → Low (calls_in t) → InIt k l t
        stmt_law (Stmt.Simple i) inside k l le h y c = simple_law i h
        stmt_law (Stmt.Scope v) inside k l le h y c = tt
        stmt_law (Stmt.Block' n all) inside k l le h y c = all_law all inside k l le h y c
        stmt_law (Stmt.Call q g args dest) inside k l le h y c = call_law k l q g args dest le h y.0 y.1 c.0
        stmt_law (Stmt.If' a n (more_of-Stmt b end_of-Stmt) m (more_of-Stmt d end_of-Stmt) marked) inside k l le h y c = (
          expression_walks p f a h.0,
          (
            stmt_law b inside k l le h.1.0 y.0 (low_left (calls_in b) (calls_in d) c),
            stmt_law d inside (k + cells_in p (body_cells p depth) b) (l + loops_in (body_loops p depth) b) (more k (cells_in p (body_cells p depth) b) le) h.1.1 y.1 (low_right (calls_in b) (calls_in d) c),
          ),
        )
        stmt_law (Stmt.Switch' a num n groups marked) inside k l le h y c = ((expression_walks p f a h.0.0, h.0.1), groups_law groups num k l le h.1.1 y c h.1.0.typed)
        stmt_law (Stmt.Loop' q kind cond n (more_of-Stmt body end_of-Stmt) step) inside k l le h y c = ((head_law kind cond step h.0, y.0), stmt_law body true k (l + 1) le h.1 y.1 c)
        stmt_law (Stmt.Known a) inside k l le h y c = expression_walks p f a h
        stmt_law (Stmt.Assert q a) inside k l le h y c = expression_walks p f a h
        stmt_law Stmt.Break inside k l le h y c = tt
        stmt_law _ inside k l le h y c = absurd h

        pub all_law : {n : _} (r : Row_of-Stmt n) (inside : Bool) (k l : ℕ) → next ≤ k → AreStatements p f inside r → LayAll k l r → Low (calls_in_all r) → AllInIt k l r
        all_law end_of-Stmt inside k l le h y c = tt
        all_law (more_of-Stmt t rest) inside k l le h y c = (
          stmt_law t inside k l le h.0 y.0 (low_left (calls_in t) (calls_in_all rest) c),
          all_law rest inside (k + cells_in p (body_cells p depth) t) (l + loops_in (body_loops p depth) t) (more k (cells_in p (body_cells p depth) t) le) h.1 y.1 (low_right (calls_in t) (calls_in_all rest) c),
        )

        groups_law : {n : _} (r : Row_of-Group n) (num : Num) (k l : ℕ) → next ≤ k → AreGroups p f r → GroupsLay p x D L N Names depth (BodyLays p x D L N Names depth) act.path k l r → Low (calls_in_groups r) →
            AllByRecursion (λ l. IsLabel num l) (all_labels r) → GroupsInIt k l num r
        groups_law end_of-Group num k l le h y c t = tt
        groups_law (more_of-Group labels n (more_of-Stmt body end_of-Stmt) rest) num k l le h y c t = (
          (labels_typed num labels (all_left (λ l. IsLabel num l) labels (all_labels rest) t), stmt_law body false k l le h.0 y.0 (low_left (calls_in body) (calls_in_groups rest) c)),
          groups_law rest num (k + cells_in p (body_cells p depth) body) (l + loops_in (body_loops p depth) body) (more k (cells_in p (body_cells p depth) body) le) h.1 y.1 (low_right (calls_in body) (calls_in_groups rest) c)
              (all_right (λ l. IsLabel num l) labels (all_labels rest) t),
        )

      -- ---- a body
      left_law : {n : _} (r : Row_of-Stmt n) (k l : ℕ) → next ≤ k → IsBlock p f None r → LayAll k l r → Low (calls_in_all r) → AllInIt k l r
      unfolding IsBlock StmtWalks StmtLays calls_in
      left_law end_of-Stmt k l le h y c = tt
      left_law (more_of-Stmt t rest) k l le (inl h) y c = absurd (no_return p f t h.0)
      left_law (more_of-Stmt t rest) k l le (inr h) y c = (
        stmt_law t false k l le h.0 y.0 (low_left (calls_in t) (calls_in_all rest) c),
        left_law rest (k + cells_in p (body_cells p depth) t) (l + loops_in (body_loops p depth) t) (more k (cells_in p (body_cells p depth) t) le) h.1 y.1 (low_right (calls_in t) (calls_in_all rest) c),
      )

      abbrev Returns : {n : _} → Num → ℕ → ℕ → Row_of-Stmt n → Type 0
      Returns to k l r = ReturnWalks p fr x D L (named p f) N w act depth (bodies_of p w (suc depth)) (body_nodes p depth) SimpleOk CallsOk Names s.fits inputs simples_keep calls_keep to k l r

      pub is_return : (to : Num) (t : Stmt) → typing.IsReturn p f (Some to) t → IsReturn p fr x D L (named p f) N w act depth (bodies_of p w (suc depth)) (body_nodes p depth) SimpleOk CallsOk Names s.fits inputs simples_keep calls_keep to t
      is_return to (Stmt.Return q num a) h = (expression_walks p f a h.1, some_is h.0)
        where
          some_is : Some to ≡ Some num → num ≡ to
          some_is e = cc
      is_return to _ h = absurd h

      return_law : {n : _} (to : Num) (r : Row_of-Stmt n) (k l : ℕ) → next ≤ k → IsBlock p f (Some to) r → LayAll k l r → Low (calls_in_all r) → Returns to k l r
      unfolding IsBlock ReturnWalks StmtLays calls_in
      return_law to end_of-Stmt k l le h y c = absurd (some_none h)
        where
          some_none : Some to ≡ None → ⊥
          some_none e = cc
      return_law to (more_of-Stmt t rest) k l le (inl h) y c = inl (is_return to t h.0, empty_row rest h.1)
      return_law to (more_of-Stmt t rest) k l le (inr h) y c =
          inr (
            stmt_law t false k l le h.0 y.0 (low_left (calls_in t) (calls_in_all rest) c),
            return_law to rest (k + cells_in p (body_cells p depth) t) (l + loops_in (body_loops p depth) t) (more k (cells_in p (body_cells p depth) t) le) h.1 y.1 (low_right (calls_in t) (calls_in_all rest) c),
          )

      -- as a piece of program
      abbrev Follow : Option Num → (State → Result) → Piece D.Env → Type 0
      Follow o go t = Follows x D L G fair Names (AtVisit x N D L) (InCall x N D L p (named p f) outer fr act.base) (Returned x N D L outer (told p typed x D L N w Names fr.result o)) (InCall x N D L p (named p f) outer fr act.base) go t

      pub record BlockOk (o : Option Num) (go : State → Result) (t : Piece D.Env) : Type 0 where
        pub still : Still x D L t
        pub follows : Follows x D L G fair Names (AtVisit x N D L) (InCall x N D L p (named p f) outer fr act.base) (Returned x N D L outer (told p typed x D L N w Names fr.result o)) (InCall x N D L p (named p f) outer fr act.base) go t

      block_ok : {n : _} (all : Row_of-Stmt n) (o : Option Num) (l : ℕ) → ((num : Num) → o ≡ Some num → IsHidden x D L N num fr.result × (first ≤ fr.result)) → IsBlock p f o all → LayAll next l all → Low (calls_in_all all) →
          BlockOk o (λ st. run_all p w (bodies_of p w (suc depth)) act all st) (piece D x (node.Block (all_nodes p depth (body_nodes p depth) fr next l all)))
      block_ok all None l hid h y c =
          let walks = left_law all next l (omega arith) h y c in
          record {
            still = left_block_still p fr x D L (named p f) N w act depth (bodies_of p w (suc depth)) (body_nodes p depth) SimpleOk CallsOk Names s.fits inputs simples_keep calls_keep all next l walks;
            follows = left_block p fr x D L (named p f) N w act depth (bodies_of p w (suc depth)) (body_nodes p depth) SimpleOk CallsOk Names s.fits inputs simples_keep calls_keep outer always G fair simples_hold calls_hold all next l walks;
          }
      block_ok all (Some num) l hid h y c =
          let walks = return_law num all next l (omega arith) h y c in
          let r = hid num refl in
          record {
            still = return_block_still p fr x D L (named p f) N w act depth (bodies_of p w (suc depth)) (body_nodes p depth) SimpleOk CallsOk Names s.fits inputs simples_keep calls_keep num all next l r.0.0 walks;
            follows = return_block p fr x D L (named p f) N w act depth (bodies_of p w (suc depth)) (body_nodes p depth) SimpleOk CallsOk Names s.fits inputs simples_keep calls_keep outer always G fair simples_hold calls_hold
                (λ kept z o. s.outside fr.result r.1 kept z o) r.0.1 num all next l r.0.0 walks;
          }

      body_ok : (t : Stmt) (o : Option Num) (l : ℕ) → ((num : Num) → o ≡ Some num → IsHidden x D L N num fr.result × (first ≤ fr.result)) → IsBody p f o t → Lay next l t → Low (calls_in t) →
          BlockOk o (λ st. run p w (bodies_of p w (suc depth)) act t st) (piece D x (node.Block (in_block p depth (body_nodes p depth) fr next l t)))
      unfolding run in_block StmtLays calls_in
      body_ok (Stmt.Block' n all) o l hid h y c = block_ok all o l hid h y c
      body_ok _ o l hid h y c = absurd h

  -- ---- all bodies
  abbrev main_low : (g : ℕ) → typed.ranks.0 g < typed.ranks.0 p.entry → (g == p.entry) ≡ false
  main_low g low = from (g == p.entry) refl
    where
      from : (b : Bool) → (g == p.entry) ≡ b → b ≡ false
      from true e = let is = same_number g p.entry e in absurd (omega (arith, (subst (λ (i : ℕ). typed.ranks.0 i < typed.ranks.0 p.entry) is low)))
      from false e = refl

  body_typed : (g : ℕ) (func : Func) → slice_get p.funcs g ≡ Some func → typed.ranks.0 g < typed.ranks.0 p.entry → IsBody p g func.result (stmt.Block func.body)
  body_typed g func e low = subst (λ (b : Bool). IsMainOr p g func b) (main_low g low) (typed.funcs g func e).body

  next_hold : (depth : ℕ) → BodiesHold p typed x D L N w Names G fair inputs always depth → BodiesHold p typed x D L N w Names G fair inputs always (suc depth)
  unfolding body_nodes bodies_of BodyLays
  next_hold depth ih g func e low deep fr act outer first next l s lays =
      let b = body_ok g fr act outer first next s depth ih (typed.ranks.0 g) (omega (arith, low)) (omega (arith, deep)) (block_of (slice_get p.funcs g)) (result_of (slice_get p.funcs g)) l s.result
      (subst (λ (o : Option Func). IsBody p g (result_of o) (block_of o)) (sym e) (body_typed g func e low)) lays
      (subst (λ (o : Option Func). AllByRecursion (λ s. typed.ranks.0 s.func < typed.ranks.0 g) (calls_in (block_of o))) (sym e) (typed.ranks.1.falls g func e)) in
      record { still = b.still; follows = b.follows }

  pub bodies_hold : (depth : ℕ) → BodiesHold p typed x D L N w Names G fair inputs always depth
  bodies_hold zero = none_hold p typed x D L N w Names G fair inputs always
  bodies_hold (suc depth) = next_hold depth (bodies_hold depth)
