-- The reference analysis of a lowered program against executions of the typed one, under what the lowering owes.
use Rattle.std.proofs.Common.{◌≡◌, ℕ, zero, suc, ◌+◌, ◌≤◌, ◌<◌, ℤ, pos, Bool, true, false, List, [], ◌∷◌, length, refl, sym, subst, arith, Option, Some, None}
use Rattle.std.specs.Prelude.{◌==◌, get_or, slice_get}
use Rattle.std.specs.List.{AllByRecursion}
use Rattle.std.proofs.lemmas.Int.{ints}
use Rattle.sa_base.specs.declared.num.Num.{Num}
use Rattle.sa_base.specs.declared.num.Num.TheVariants.{I8, U8, I16, U16, I32, U32, I64, U64}
use Rattle.sa_typed.specs.declared.program.Var.{Var}
use Rattle.sa_flat.proofs.ParamLaws.{number_same}
use Rattle.sa_flat.proofs.Bodies.{laid_is}
use Rattle.sa_flat.proofs.BodyWalks.{bodies_hold}
use Rattle.sa_interval.specs.Span.{Within}
use Rattle.sa_interval.specs.Rows.{single}
use Rattle.sa_operators.specs.Operators.{range_of as type_range}
use Rattle.sa_typed.proofs.ArithmeticLaws.{is_of_from}
use Rattle.sa_typed.specs.Layouts.{layout_of, index_of}
use Rattle.sa_typed.specs.Evaluation.{Setting}
use Rattle.sa_typed.specs.Executions.{Loop, initial_of, block_of, own_place, bodies_of, run, run_all, main_activation, initial_store, start, execution}
use Rattle.sa_typed.specs.Frames.{all_kept, result_of, refers, home_cells}
use Rattle.sa_typed.specs.TypedPrograms.{IsTypedProgram, IsMainOr, calls_in, calls_in_all, IsMainBlock, IsMainBody, IsMain}
use Rattle.sa_typed.specs.declared.stmt.Stmt.{Stmt, Row_of-Stmt}
use Rattle.sa_typed.specs.declared.program.Func.{Func}
use Rattle.sa_typed.specs.declared.program.Param.{Param}
use Rattle.sa_typed.specs.declared.program.Place.{Place}
use Rattle.sa_typed.specs.declared.program.Program.{Program}
use Rattle.sa_ir.specs.Frames.{own_target, main_first, main_frame, initial_ends_of}
use Rattle.sa_ir.specs.Nodes.{body_nodes, in_block, all_nodes}
use Rattle.sa_flat.specs.Domain.{Domain}
use Rattle.sa_flat.specs.Meanings.{Cells}
use Rattle.sa_flat.specs.Assignments.{items_from}
use Rattle.sa_flat.specs.Pieces.{Found}
use Rattle.sa_flat.specs.Nodes.{piece}
use Rattle.sa_flat.proofs.Lawful.{Lawful, anywhere, AliveAnd}
use Rattle.sa_flat.proofs.Goods.{Good, Holds, alive_all, alive_both, pair_good}
use Rattle.sa_flat.proofs.KeepLaws.{AreFair}
use Rattle.sa_flat.proofs.TargetLaws.{IsOfType}
use Rattle.sa_flat.proofs.ChangeLaws.{items_new, items_good}
use Rattle.sa_flat.proofs.FollowLaws.{RunOk}
use Rattle.sa_flat.proofs.NodeRolls.{before}
use Rattle.sa_flat.proofs.FitExpressions.{FrameFits}
use Rattle.sa_flat.proofs.StateLaws.{Naming, has, InFrame, AtVisit, has_by, point, point_has}
use Rattle.sa_flat.proofs.ReferenceLaws.{AllBefore}
use Rattle.sa_flat.proofs.TypedWalks.{named}
use Rattle.sa_flat.proofs.ParamLaws.{own_named, reference_of}
use Rattle.sa_flat.proofs.Lays.{IsHidden, IsCellOf, StmtLays, AllLay, BodyLays, Lowers}
use Rattle.sa_flat.proofs.Bodies.{InputsIn, InputsNow, Stands, BodiesHold, CopiesHold}
use Rattle.sa_flat.proofs.BodyWalks.{SimpleOk, CallsOk, simples_keep, calls_keep, simples_hold, calls_hold}
use Rattle.sa_ir.specs.Lowered.{behind_main, lowered_program}
use Rattle.sa_flat.specs.Reference.{initial, reference}
use Rattle.sa_flat.proofs.MainBodies.{main_law, main_holds}
use Rattle.sa_flat.proofs.SoundLaws.{found_fair, run_ok}
use Rattle.sa_typed.specs.Executions as concrete
use Rattle.sa_typed.specs.Frames as frames
use Rattle.sa_ir.specs.declared.node.Node.TheVariants as node
use Rattle.sa_typed.specs.declared.program.Home.TheVariants as home
use Rattle.sa_flat.specs.Pieces as pieces

pub get_some : {A : Type 0} (xs : List A) (i : ℕ) → i < length xs → (a : A) × (slice_get xs i ≡ Some a)
get_some [] i h = absurd (omega (arith, h))
get_some (x ∷ xs) zero h = (x, refl)
get_some (x ∷ xs) (suc i) h = get_some xs i (omega (arith, h))

no_refers : (v : ℕ) → refers v [] ≡ true → ⊥
unfolding refers
no_refers v e = cc

zero_in : (num : Num) → Within (type_range num) (pos 0)
zero_in I8 = record { above = omega (arith, ints); below = omega (arith, ints) }
zero_in U8 = record { above = omega (arith, ints); below = omega (arith, ints) }
zero_in I16 = record { above = omega (arith, ints); below = omega (arith, ints) }
zero_in U16 = record { above = omega (arith, ints); below = omega (arith, ints) }
zero_in I32 = record { above = omega (arith, ints); below = omega (arith, ints) }
zero_in U32 = record { above = omega (arith, ints); below = omega (arith, ints) }
zero_in I64 = record { above = omega (arith, ints); below = omega (arith, ints) }
zero_in U64 = record { above = omega (arith, ints); below = omega (arith, ints) }

module _ (p : Program) (typed : IsTypedProgram p) (x : Cells) (D : Domain) (L : Lawful x D) (N : Naming x) (w : Setting) (Names : ℕ → Loop → Type 0) (inputs : InputsIn p typed x D L N w Names) (always : InputsNow p typed x D L N w Names)
    (copies : (G : Found D.Env) (fair : AreFair x D L G) → CopiesHold p typed x D L N w Names G fair inputs always) (clocks : x.clocks.hi ≡ w.max_clock) (lowers : Lowers p x D L N Names) where
  -- nothing is told of hidden cells where main begins
  abbrev outer : (ℕ → ℤ) → Type 0
  outer kept = Unit {0}

  main_func : (func : Func) × (slice_get p.funcs p.entry ≡ Some func)
  main_func = get_some p.funcs p.entry typed.entry

  main_is : IsMain p main_func.0
  main_is =
      let same : (p.entry == p.entry) ≡ true = number_same p.entry p.entry refl in
      subst (λ (b : Bool). IsMainOr p p.entry main_func.0 b) same (typed.funcs p.entry main_func.0 main_func.1).body

  -- main has no references
  free : (v : ℕ) → named p p.entry v → frames.is_reference p v ≡ false
  free v o =
      elim (frames.is_reference p v) as (λ b. frames.is_reference p v ≡ b → b ≡ false) [
        | true ↦ λ e. absurd (none (subst (λ (qs : List Param). refers v qs ≡ true) main_is.params (reference_of p typed v p.entry main_func.0 main_func.1 o e)))
        | false ↦ λ e. refl
      ] refl
    where
      none : refers v [] ≡ true → ⊥
      none e = no_refers v e

  main_fits : FrameFits p (main_frame p) x D L (named p p.entry)
  unfolding own_target
  main_fits v o = (own_place p [] v, laid_is (IsCellOf x D L N) (λ num c a. IsOfType x D L num c) (layout_of p v) (own_target p (main_first p) v).first (own_place p [] v) (λ num c a h. h.1) (lowers.main.objects v o (free v o)))

  main_in_frame : (kept : ℕ → ℤ) → Unit {0} → InFrame x N D L p (named p p.entry) (main_frame p) (own_place p []) kept
  unfolding own_target
  main_in_frame kept u v o = laid_is (IsCellOf x D L N) (λ num c a. N.names c a) (layout_of p v) (own_target p (main_first p) v).first (own_place p [] v) (λ num c a h. h.0) (lowers.main.objects v o (free v o))

  result_at : (num : Num) → result_of (slice_get p.funcs p.entry) ≡ Some num → IsHidden x D L N num (main_frame p).result × (main_first p ≤ (main_frame p).result)
  result_at num e =
      let same : (main_first p + home_cells p (home.Local p.entry)) + all_kept [] ≡ main_first p + (home_cells p (home.Local p.entry) + all_kept []) = omega arith in
      (subst (λ (c : ℕ). IsHidden x D L N num c) same (lowers.main.result num e), omega arith)

  main_before : (v : ℕ) → named p p.entry v → AllBefore (behind_main p) ((main_frame p).base v).rows
  unfolding own_target
  main_before v o = tt

  main_stands : Stands p typed x D L N w Names p.entry (main_frame p) (main_activation p) (λ kept. Unit {0}) (main_first p) (behind_main p)
  main_stands = record {
    fits = main_fits;
    before = main_before;
    outside = λ d up kept z h. tt;
    later = omega arith;
    locals = λ v d. record { stand = refl; object = refl; owned = lowers.main.owned v d.own (free v (own_named p.entry (slice_get p.vars v) d.own)) };
    result = result_at;
  }

  -- ---- the beginning
  nothing_kept : ℕ → ℤ
  nothing_kept c = pos 0

  abbrev Starts : D.Env → Type 0
  Starts e = Holds x D L (has x N (initial_store p) nothing_kept) (pos 0) e

  -- each initial value is of its element's type
  value_in : (c : ℕ) (a : Place) → L.IsCell c → N.names c a → Within (type_range (x.num c)) (initial_store p a)
  value_in c a is m = from (slice_get p.vars a.var) refl
    where
      from : (o : Option Var) → slice_get p.vars a.var ≡ o → Within (type_range (x.num c)) (get_or (initial_of o) (index_of (layout_of p a.var) a.parts) (pos 0))
      from None e = zero_in (x.num c)
      from (Some v) e =
          let t = is_of_from (x.num c) (get_or v.initial (index_of (layout_of p a.var) a.parts) (pos 0)) (typed.items a.var v e (index_of (layout_of p a.var) a.parts) (x.num c) (lowers.element c a is m)) in
          record { above = t.low; below = t.high }

  number_in : (c : ℕ) (z : ℤ) → L.IsCell c → has x N (initial_store p) nothing_kept c z → Within (type_range (x.num c)) z
  unfolding has nothing_kept
  number_in c z is h =
      elim (N.shown c) as (λ b. has_by x N b (initial_store p) nothing_kept c z → Within (type_range (x.num c)) z) [
        | true ↦ λ h. subst (λ (z : ℤ). Within (type_range (x.num c)) z) h.2 (value_in c h.0 is h.1)
        | false ↦ λ h. subst (λ (z : ℤ). Within (type_range (x.num c)) z) h (zero_in (x.num c))
      ] h

  shown_number : (c : ℕ) (z : ℤ) → N.shown c ≡ true → has x N (initial_store p) nothing_kept c z → (a : Place) × N.names c a × (z ≡ initial_store p a)
  unfolding has
  shown_number c z e h =
      let s = subst (λ (b : Bool). has_by x N b (initial_store p) nothing_kept c z) e h in
      (s.0, s.1, sym s.2)

  starts : AliveAnd (λ e. Starts e × Good x D L anywhere e) (items_from D x 0 (initial_ends_of p) (D.top (single (pos 0))))
  starts =
      alive_both Starts (Good x D L anywhere) (items_from D x 0 (initial_ends_of p) (D.top (single (pos 0))))
      (alive_all x D L (has x N (initial_store p) nothing_kept) (point x N (initial_store p) nothing_kept) (point_has x N (initial_store p) nothing_kept) (λ e at. D.Point e at (pos 0)) (items_from D x 0 (initial_ends_of p) (D.top (single (pos 0))))
      (λ bt q. items_new x D L (pos 0) anywhere 0 (initial_ends_of p) (D.top (single (pos 0))) bt bt lowers.ends (lowers.hold (pos 0) bt (λ c less. shown_number c (bt c) (lowers.shown c less) (q c))) top_good (λ d o. refl)
      (L.start_sound bt (λ c is. number_in c (bt c) is (q c)))))
      (items_good x D L anywhere 0 (initial_ends_of p) (D.top (single (pos 0))) lowers.ends top_good)
    where
      top_good : Good x D L anywhere (D.top (single (pos 0)))
      top_good = pair_good x D L anywhere (D.top (single (pos 0))) L.start_keeps

  -- ---- a run from an environment
  abbrev Bodies_hold : (G : Found D.Env) (fair : AreFair x D L G) (d : ℕ) → BodiesHold p typed x D L N w Names G fair inputs always d
  Bodies_hold G fair d = bodies_hold p typed x D L N w Names G fair inputs always (copies G fair) d

  pub record IsSoundFrom (G : Found D.Env) (run : List ℤ → ℕ → concrete.Run) : Type 0 where
    pub fair : AreFair x D L G
    pub runs : (tape : List ℤ) (n : ℕ) → RunOk x D L G fair Names (AtVisit x N D L) (run tape n)

  from_block : (d : ℕ) → typed.ranks.0 p.entry ≤ d → (t : Stmt) (o : Option Num) → ((num : Num) → o ≡ Some num → IsHidden x D L N num (main_frame p).result × (main_first p ≤ (main_frame p).result)) → IsMainBody p p.entry o t →
      StmtLays p x D L N Names d (BodyLays p x D L N Names d) [] (behind_main p) 0 t → AllByRecursion (λ s. typed.ranks.0 s.func < typed.ranks.0 p.entry) (calls_in t) → (e : D.Env) → Good x D L anywhere e → Starts e →
      IsSoundFrom ((piece D x (node.Block (in_block p d (body_nodes p d) (main_frame p) (behind_main p) 0 t))).found e) (λ tape n. concrete.ended (run p w (bodies_of p w (suc d)) (main_activation p) t (start p tape n)))
  unfolding in_block run StmtLays calls_in
  from_block d deep (Stmt.Block' n all) o hid h y c e good holds =
      let none : Found D.Env = record { alarms = []; records = [] } in
      let walks = main_law p typed x D L N w Names none tt inputs always (copies none tt) p.entry (main_frame p) (main_activation p) (λ kept. Unit {0}) (main_first p) (behind_main p) main_stands d (Bodies_hold none tt d) deep all o (behind_main p) 0 (omega arith) hid h y c in
      let fair = found_fair p (main_frame p) x D L (named p p.entry) N w (main_activation p) d (bodies_of p w (suc d)) (body_nodes p d) (SimpleOk p typed x D L N w Names none tt inputs always (copies none tt) p.entry (main_frame p) (main_activation p) (λ kept. Unit {0}) (main_first p) (behind_main p) main_stands d (Bodies_hold none tt d)) (CallsOk p typed x D L N w Names none tt inputs always (copies none tt) p.entry (main_frame p) (main_activation p) (λ kept. Unit {0}) (main_first p) (behind_main p) main_stands d (Bodies_hold none tt d)) Names main_stands.fits inputs (simples_keep p typed x D L N w Names none tt inputs always (copies none tt) p.entry (main_frame p) (main_activation p) (λ kept. Unit {0}) (main_first p) (behind_main p) main_stands d (Bodies_hold none tt d)) (calls_keep p typed x D L N w Names none tt inputs always (copies none tt) p.entry (main_frame p) (main_activation p) (λ kept. Unit {0}) (main_first p) (behind_main p) main_stands d (Bodies_hold none tt d)) (λ kept. Unit {0}) always all (behind_main p) 0 walks (Some e) good in
      run_of all o hid h y c e good holds fair
    where
      run_of : {n : _} (all : Row_of-Stmt n) (o : Option Num) → ((num : Num) → o ≡ Some num → IsHidden x D L N num (main_frame p).result × (main_first p ≤ (main_frame p).result)) → IsMainBlock p p.entry o all →
          AllLay p x D L N Names d (BodyLays p x D L N Names d) [] (behind_main p) 0 all → AllByRecursion (λ s. typed.ranks.0 s.func < typed.ranks.0 p.entry) (calls_in_all all) → (e : D.Env) → Good x D L anywhere e → Starts e →
          (fair : AreFair x D L ((piece D x (node.Block (all_nodes p d (body_nodes p d) (main_frame p) (behind_main p) 0 all))).found e)) →
          IsSoundFrom ((piece D x (node.Block (all_nodes p d (body_nodes p d) (main_frame p) (behind_main p) 0 all))).found e) (λ tape n. concrete.ended (run_all p w (bodies_of p w (suc d)) (main_activation p) all (start p tape n)))
      run_of all o hid h y c e good holds fair =
          let G = (piece D x (node.Block (all_nodes p d (body_nodes p d) (main_frame p) (behind_main p) 0 all))).found e in
          let walks = main_law p typed x D L N w Names G fair inputs always (copies G fair) p.entry (main_frame p) (main_activation p) (λ kept. Unit {0}) (main_first p) (behind_main p) main_stands d (Bodies_hold G fair d) deep all o (behind_main p) 0 (omega arith) hid h y c in
          record {
            fair = fair;
            runs = λ tape n. run_ok p (main_frame p) x D L (named p p.entry) N w (main_activation p) d (bodies_of p w (suc d)) (body_nodes p d) (SimpleOk p typed x D L N w Names G fair inputs always (copies G fair) p.entry (main_frame p) (main_activation p) (λ kept. Unit {0}) (main_first p) (behind_main p) main_stands d (Bodies_hold G fair d)) (CallsOk p typed x D L N w Names G fair inputs always (copies G fair) p.entry (main_frame p) (main_activation p) (λ kept. Unit {0}) (main_first p) (behind_main p) main_stands d (Bodies_hold G fair d)) Names main_stands.fits inputs (simples_keep p typed x D L N w Names G fair inputs always (copies G fair) p.entry (main_frame p) (main_activation p) (λ kept. Unit {0}) (main_first p) (behind_main p) main_stands d (Bodies_hold G fair d)) (calls_keep p typed x D L N w Names G fair inputs always (copies G fair) p.entry (main_frame p) (main_activation p) (λ kept. Unit {0}) (main_first p) (behind_main p) main_stands d (Bodies_hold G fair d)) (λ kept. Unit {0}) always all (behind_main p) 0 walks e good fair (simples_hold p typed x D L N w Names G fair inputs always (copies G fair) p.entry (main_frame p) (main_activation p) (λ kept. Unit {0}) (main_first p) (behind_main p) main_stands d (Bodies_hold G fair d)) (calls_hold p typed x D L N w Names G fair inputs always (copies G fair) p.entry (main_frame p) (main_activation p) (λ kept. Unit {0}) (main_first p) (behind_main p) main_stands d (Bodies_hold G fair d)) clocks (main_holds p typed x D L N w Names G fair inputs always (copies G fair) p.entry (main_frame p) (main_activation p) (λ kept. Unit {0}) (main_first p) (behind_main p) main_stands d (Bodies_hold G fair d) deep main_in_frame clocks all o (behind_main p) 0 hid h) (start p tape n) refl
                (record { kept = nothing_kept; frame = main_in_frame nothing_kept tt; outside = tt; holds = holds });
          }
  from_block d deep _ o hid h y c e good holds = absurd h

  -- ---- from the beginning
  calls_low : AllByRecursion (λ s. typed.ranks.0 s.func < typed.ranks.0 p.entry) (calls_in (block_of (slice_get p.funcs p.entry)))
  calls_low = subst (λ (o : Option Func). AllByRecursion (λ s. typed.ranks.0 s.func < typed.ranks.0 p.entry) (calls_in (block_of o))) (sym main_func.1) (typed.ranks.1.falls p.entry main_func.0 main_func.1)

  at_depth : (d : ℕ) → typed.ranks.0 p.entry ≤ d → BodyLays p x D L N Names (suc d) p.entry [] (behind_main p) 0 → (o : Option D.Env) → AliveAnd (λ e. Starts e × Good x D L anywhere e) o →
      IsSoundFrom (pieces.found_in o (piece D x (node.Block (body_nodes p (suc d) p.entry (main_frame p) (behind_main p) 0))).found)
      (λ tape n. concrete.ended (run p w (bodies_of p w (suc d)) (main_activation p) (block_of (slice_get p.funcs p.entry)) (start p tape n)))
  unfolding body_nodes BodyLays
  at_depth d deep lays None h = absurd h
  at_depth d deep lays (Some e) h =
      from_block d deep (block_of (slice_get p.funcs p.entry)) (result_of (slice_get p.funcs p.entry)) result_at
      (subst (λ (o : Option Func). IsMainBody p p.entry (result_of o) (block_of o)) (sym main_func.1) main_is.body) lays calls_low e h.1 h.0

  by_length : (n : ℕ) → typed.ranks.0 p.entry < n → BodyLays p x D L N Names n p.entry [] (behind_main p) 0 → (o : Option D.Env) → AliveAnd (λ e. Starts e × Good x D L anywhere e) o →
      IsSoundFrom (pieces.found_in o (piece D x (node.Block (body_nodes p n p.entry (main_frame p) (behind_main p) 0))).found)
      (λ tape m. concrete.ended (run p w (bodies_of p w n) (main_activation p) (block_of (slice_get p.funcs p.entry)) (start p tape m)))
  by_length zero less lays o h = absurd (omega (arith, less))
  by_length (suc d) less lays o h = at_depth d (omega (arith, less)) lays o h

  -- what the analysis finds is fair, and true of each execution
  pub program_sound : IsSoundFrom (reference D x (lowered_program p)) (λ tape n. execution p w tape n)
  unfolding reference lowered_program execution
  program_sound = by_length (length p.funcs) (typed.ranks.1.few p.entry typed.entry) lowers.body (items_from D x 0 (initial_ends_of p) (D.top (single (pos 0)))) starts
