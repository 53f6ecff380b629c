-- Lines, alarms and loops of a report, one on and at the end.
use Rattle.std.proofs.Common.{◌≡◌, ℕ, zero, suc, ◌+◌, ◌-◌, ◌<◌, ◌≤◌, Bool, true, false, ◌&&◌, List, [], ◌∷◌, ◌++◌, length, take, drop, map, get_or, replicate, refl, sym, ap, ap₂, subst, ◌∙◌, append_assoc, append-nil, arith, inl, inr, Option, Some, None}
use Rattle.std.proofs.lemmas.Bool.{cases_lt}
use Rattle.std.proofs.lemmas.List.{drop_more, drop_all, length-map, length-replicate, get_or-map}
use Rattle.std.proofs.lemmas.List.Elements.{All-get_or}
use Rattle.std.specs.Prelude.{if◌then◌else◌, ◌||◌, min, slice_get, option_map, codes}
use Rattle.sa_base.specs.declared.pos.Pos.{Pos}
use Rattle.sa_base.specs.declared.alarm.Alarm.{Alarm}
use Rattle.sa_interval.specs.Span.{Span}
use Rattle.sa_typed.specs.Cells.{Cell, cells}
use Rattle.sa_typed.specs.Evaluation.{Setting}
use Rattle.sa_typed.specs.Executions.{same_pos, main_of}
use Rattle.sa_typed.specs.Lines.{CellIn}
use Rattle.sa_typed.specs.declared.program.Program.{Program}
use Rattle.sa_typed.specs.declared.expr.Expr.{Expr}
use Rattle.sa_typed.specs.declared.stmt.LoopKind.{LoopKind}
use Rattle.sa_typed.specs.declared.stmt.Simple.{Simple}
use Rattle.sa_typed.specs.declared.stmt.Stmt as statement
use Rattle.sa_typed.specs.declared.stmt.Stmt.{Stmt, Row_of-Stmt, end_of-Stmt, more_of-Stmt, items-the_row-Stmt, items_hidden-the_row-Stmt-0, roll-out-Stmt}
use Rattle.sa_typed.specs.declared.stmt.Stmt.TheVariants as stmt
use Rattle.sa_typed.specs.declared.stmt.Stmt.TheVariants.{rolls-Block}
use Rattle.sa_reference.specs.declared.flat.Flat.{Flat}
use Rattle.sa_reference.specs.Environments.{zip}
use Rattle.sa_reference.specs.Intervals.{intervals}
use Rattle.sa_reference.specs.Reference.{record_at, with_record}
use Rattle.sa_reference.specs.Sound.{widest}
use Rattle.sa_reference.specs.Steps.{Record, Found}
use Rattle.sa_iterate.specs.declared.passes.LoopFacts.{LoopFacts}
use Rattle.sa_iterate.specs.Analysis.{record_of, main_body}
use Rattle.sa_report.specs.declared.names.Spot.{Spot}
use Rattle.sa_report.specs.Alarms.{rising}
use Rattle.sa_report.specs.Loops.{with_facts, next_facts, facts_at, marks_of, cells_text, all_text}
use Rattle.sa_report.specs.Marks.{marked, by_loop, by_loops}
use Rattle.sa_report.specs.Report.{cell_lines, lines_of, span_text, line_text, lines_text, reached_text, unreached_text, loop_text, stmt_text, stmts_text, alarm_text, alarms_text, count_text, report_text}
use Rattle.sa_report.specs.Shown.{in_loop, declared_before, is_shown}
use Rattle.sa_report.specs.Spots.{spots, cell_at, IsSpot, spot_name}
use Rattle.sa_report.proofs.MarkLaws.{stmts_of, loop_block, main-block}
use Rattle.sa_report.proofs.NameLemmas.{name-is}
use Rattle.sa_report.proofs.SpotLemmas.{cells-are, are-spots}

-- the text so far and what follows
passed : (old u v new rest whole : List ℕ) → new ≡ old ++ u → rest ≡ u ++ v → old ++ rest ≡ whole → new ++ v ≡ whole
passed old u v new rest whole n r left = ap (λ (x : List ℕ). x ++ v) n ∙ append_assoc old u v ∙ ap (λ (x : List ℕ). old ++ x) (sym r) ∙ left

over : (old rest whole : List ℕ) → rest ≡ [] → old ++ rest ≡ whole → old ≡ whole
over old rest whole e left = sym (ap (λ (x : List ℕ). old ++ x) e ∙ append-nil old) ∙ left

-- ---- alarms
alarms-at : (as' : List Alarm) (i : ℕ) (d : Alarm) → i < length as' → alarms_text (drop i as') ≡ alarm_text (get_or as' i d) ++ alarms_text (drop (i + 1) as')
unfolding alarms_text
alarms-at as' i d h = ap (λ (r : List Alarm). alarms_text r) (drop_more as' i d h)

pub alarms-passed : (as' : List Alarm) (i : ℕ) (d : Alarm) (old new whole : List ℕ) → i < length as' → new ≡ old ++ alarm_text (get_or as' i d) → old ++ alarms_text (drop i as') ≡ whole → new ++ alarms_text (drop (i + 1) as') ≡ whole
alarms-passed as' i d old new whole h n left = passed old (alarm_text (get_or as' i d)) (alarms_text (drop (i + 1) as')) new (alarms_text (drop i as')) whole n (alarms-at as' i d h) left

pub alarms-over : (as' : List Alarm) (i : ℕ) (old whole : List ℕ) → length as' ≤ i → old ++ alarms_text (drop i as') ≡ whole → old ≡ whole
unfolding alarms_text
alarms-over as' i old whole h left = over old (alarms_text (drop i as')) whole (ap (λ (r : List Alarm). alarms_text r) (drop_all i as' h)) left

-- ---- marks
marked-at : (test : Cell → Bool) (cs : List Cell) (bs : List Bool) (k : ℕ) (d : Cell) → k < length cs → k < length bs → get_or (marked test cs bs) k false ≡ (get_or bs k false || test (get_or cs k d))
unfolding marked
marked-at test [] bs k d h l = absurd (omega arith)
marked-at test (c ∷ cs) [] k d h l = absurd (omega arith)
marked-at test (c ∷ cs) (b ∷ bs) zero d h l = refl
marked-at test (c ∷ cs) (b ∷ bs) (suc k) d h l = marked-at test cs bs k d (omega arith) (omega arith)

marked-long : (test : Cell → Bool) (cs : List Cell) (bs : List Bool) → length (marked test cs bs) ≡ length bs
unfolding marked
marked-long test [] bs = refl
marked-long test (c ∷ cs) [] = refl
marked-long test (c ∷ cs) (b ∷ bs) = ap suc (marked-long test cs bs)

none-at : (n k : ℕ) → get_or (replicate n false) k false ≡ false
none-at zero k = refl
none-at (suc n) zero = refl
none-at (suc n) (suc k) = none-at n k

pub cells-long : (p : Program) → length (cells p) ≡ length (spots p)
cells-long p = ap (λ (cs : List Cell). length cs) (cells-are p) ∙ length-map (spots p) (cell_at p)

pub marks-long : (p : Program) (q : Pos) → length (marks_of p q) ≡ length (spots p)
unfolding marks_of by_loop
marks-long p q = marked-long (λ c. in_loop q c (main_of p)) (cells p) (replicate (length (cells p)) false) ∙ length-replicate (length (cells p)) false ∙ cells-long p

pub marks-at : (p : Program) (q : Pos) (k : ℕ) (d : Cell) → k < length (cells p) → get_or (marks_of p q) k false ≡ in_loop q (get_or (cells p) k d) (main_of p)
unfolding marks_of by_loop
marks-at p q k d h =
    let n = length (cells p) in
    marked-at (λ c. in_loop q c (main_of p)) (cells p) (replicate n false) k d h (let l = length-replicate n false in omega (arith, l, h))
    ∙ ap (λ (b : Bool). b || in_loop q (get_or (cells p) k d) (main_of p)) (none-at n k)

pub marks-whole : (p : Program) (q : Pos) (ss : List Stmt) (n : ℕ) (old new : List Bool) → ss ≡ main_body p → n ≡ length (spots p) → old ≡ replicate n false → new ≡ by_loops q (cells p) ss old → new ≡ marks_of p q
unfolding marks_of
marks-whole p q ss n old new e l b h =
    h ∙ ap₂ (λ (xs : List Stmt) (bs : List Bool). by_loops q (cells p) xs bs) e (b ∙ ap (λ (m : ℕ). replicate m false) (l ∙ sym (cells-long p)))
    ∙ sym (ap (λ (s : Stmt). by_loop q (cells p) s (replicate (length (cells p)) false)) (main-block p) ∙ loop_block (cells p) q (main_body p) (replicate (length (cells p)) false))

-- ---- cells
pub cell-whole : (p : Program) (s : Spot) (lo hi : _) (old a b d : List ℕ) → IsSpot p s → a ≡ old ++ codes "  " → b ≡ a ++ spot_name p s → d ≡ b ++ span_text lo hi → d ≡ old ++ line_text p (CellIn (cell_at p s) lo hi)
unfolding line_text
cell-whole p s lo hi old a b d is e f g =
    g ∙ ap (λ (x : List ℕ). x ++ span_text lo hi) (f ∙ ap (λ (x : List ℕ). x ++ spot_name p s) e ∙ append_assoc old (codes "  ") (spot_name p s)) ∙ append_assoc old (codes "  " ++ spot_name p s) (span_text lo hi)
    ∙ ap (λ (x : List ℕ). old ++ (codes "  " ++ (x ++ span_text lo hi))) (sym (name-is p s is))

-- those of the cells from the k-th on
abbrev pub cells_left : Program → Pos → List Span → ℕ → List ℕ
cells_left p q ss k = lines_text p (cell_lines p q (map (cell_at p) (drop k (spots p))) (drop k ss))

pub cells-whole : (p : Program) (q : Pos) (ss : List Span) → cells_left p q ss 0 ≡ cells_text p q ss
unfolding cells_text
cells-whole p q ss = ap (λ (cs : List Cell). lines_text p (cell_lines p q cs ss)) (sym (cells-are p))

shown-text : (p : Program) (q : Pos) (c : Cell) (cs : List Cell) (s : Span) (ss : List Span) (b : Bool) → b ≡ is_shown p q c →
    lines_text p (cell_lines p q (c ∷ cs) (s ∷ ss)) ≡ (if b then line_text p (CellIn c s.lo s.hi) else []) ++ lines_text p (cell_lines p q cs ss)
unfolding lines_text cell_lines
shown-text p q c cs s ss true e = ap (λ (b : Bool). lines_text p (if b then CellIn c s.lo s.hi ∷ cell_lines p q cs ss else cell_lines p q cs ss)) (sym e)
shown-text p q c cs s ss false e = ap (λ (b : Bool). lines_text p (if b then CellIn c s.lo s.hi ∷ cell_lines p q cs ss else cell_lines p q cs ss)) (sym e)

pub cells-passed : (p : Program) (q : Pos) (ss : List Span) (k : ℕ) (s : Spot) (e : Span) (b : Bool) (old new whole : List ℕ) → k < length (spots p) → k < length ss → s ≡ get_or (spots p) k s → e ≡ get_or ss k e →
    b ≡ is_shown p q (cell_at p s) → new ≡ old ++ (if b then line_text p (CellIn (cell_at p s) e.lo e.hi) else []) → old ++ cells_left p q ss k ≡ whole → new ++ cells_left p q ss (k + 1) ≡ whole
cells-passed p q ss k s e b old new whole h l is at o n left =
    let c = cell_at p s in
    let cs = map (cell_at p) (drop (k + 1) (spots p)) in
    let first : drop k (spots p) ≡ s ∷ drop (k + 1) (spots p) = drop_more (spots p) k s h ∙ ap (λ (x : Spot). x ∷ drop (k + 1) (spots p)) (sym is) in
    let second : drop k ss ≡ e ∷ drop (k + 1) ss = drop_more ss k e l ∙ ap (λ (x : Span). x ∷ drop (k + 1) ss) (sym at) in
    passed old (if b then line_text p (CellIn c e.lo e.hi) else []) (cells_left p q ss (k + 1)) new (cells_left p q ss k) whole n
    (ap₂ (λ (x : List Spot) (y : List Span). lines_text p (cell_lines p q (map (cell_at p) x) y)) first second ∙ shown-text p q c cs e (drop (k + 1) ss) b o) left

no-lines : (p : Program) (q : Pos) (cs : List Cell) → cell_lines p q cs [] ≡ []
unfolding cell_lines
no-lines p q [] = refl
no-lines p q (c ∷ cs) = refl

pub cells-over : (p : Program) (q : Pos) (ss : List Span) (k : ℕ) (old whole : List ℕ) → min (length (spots p)) (length ss) ≤ k → old ++ cells_left p q ss k ≡ whole → old ≡ whole
unfolding lines_text cell_lines
cells-over p q ss k old whole h left = over old (cells_left p q ss k) whole (ap (lines_text p) (elim (cases_lt k (length (spots p))) [
  | inl less ↦ ap (cell_lines p q (map (cell_at p) (drop k (spots p)))) (drop_all k ss (omega (arith, h, less))) ∙ no-lines p q (map (cell_at p) (drop k (spots p)))
  | inr more ↦ ap (λ (x : List Spot). cell_lines p q (map (cell_at p) x) (drop k ss)) (drop_all k (spots p) more)
])) left

pub shown-is : (p : Program) (q : Pos) (k : ℕ) (s : Spot) (bs : List Bool) (b : Bool) → k < length (spots p) → s ≡ get_or (spots p) k s → bs ≡ marks_of p q →
    b ≡ (declared_before q (slice_get p.vars s.var) && get_or bs k false) → b ≡ is_shown p q (cell_at p s)
unfolding is_shown cell_at
shown-is p q k s bs b h is e g =
    let at : get_or (cells p) k (cell_at p s) ≡ cell_at p s
    = ap (λ (cs : List Cell). get_or cs k (cell_at p s)) (cells-are p) ∙ get_or-map (cell_at p) (spots p) k s (cell_at p s) h ∙ ap (cell_at p) (sym is) in
    let inside : k < length (cells p) = (let l = cells-long p in omega (arith, l, h)) in
    g ∙ ap (λ (x : Bool). declared_before q (slice_get p.vars s.var) && x)
    (ap (λ (xs : List Bool). get_or xs k false) e ∙ marks-at p q k (cell_at p s) inside ∙ ap (λ (c : Cell). in_loop q c (main_of p)) at)

pub spot-is : (p : Program) (k : ℕ) (s : Spot) → k < length (spots p) → s ≡ get_or (spots p) k s → IsSpot p s
spot-is p k s h is = subst (IsSpot p) (sym is) (All-get_or (IsSpot p) (spots p) k s h (are-spots p))

-- an index of the shorter of two lists
pub inside-both : (p : Program) (ss : List Span) (m n k : ℕ) (xs : List Spot) → xs ≡ spots p → n ≡ length xs → m ≡ min n (length ss) → k < m → (k < length (spots p)) × (k < length ss)
inside-both p ss m n k xs e l h t = (let a = ap (λ (ys : List Spot). length ys) e in (omega (arith, a, l, h, t), omega (arith, l, h, t)))

pub past-one : (p : Program) (ss : List Span) (m n k : ℕ) (xs : List Spot) → xs ≡ spots p → n ≡ length xs → m ≡ min n (length ss) → m ≤ k → min (length (spots p)) (length ss) ≤ k
past-one p ss m n k xs e l h t = (let a = ap (λ (ys : List Spot). length ys) e in omega (arith, a, l, h, t))

-- ---- joins
zip-at : (f : Span → Span → Span) (a b : List Span) (k : ℕ) (d e : Span) → k < length a → k < length b → zip f (drop k a) (drop k b) ≡ f (get_or a k d) (get_or b k e) ∷ zip f (drop (k + 1) a) (drop (k + 1) b)
zip-at f a b k d e h l = ap₂ (λ (x y : List Span). zip f x y) (drop_more a k d h) (drop_more b k e l)

pub zip-passed : (f : Span → Span → Span) (a b : List Span) (k : ℕ) (d e : Span) (old new whole : List Span) → k < length a → k < length b → new ≡ old ++ f (get_or a k d) (get_or b k e) ∷ [] →
    old ++ zip f (drop k a) (drop k b) ≡ whole → new ++ zip f (drop (k + 1) a) (drop (k + 1) b) ≡ whole
zip-passed f a b k d e old new whole h l n left =
    let rest = zip f (drop (k + 1) a) (drop (k + 1) b) in
    ap (λ (x : List Span). x ++ rest) n ∙ append_assoc old (f (get_or a k d) (get_or b k e) ∷ []) rest ∙ ap (λ (x : List Span). old ++ x) (sym (zip-at f a b k d e h l)) ∙ left

zip-none : (f : Span → Span → Span) (a : List Span) → zip f a [] ≡ []
zip-none f [] = refl
zip-none f (x ∷ xs) = refl

pub zip-over : (f : Span → Span → Span) (a b : List Span) (k : ℕ) (old whole : List Span) → min (length a) (length b) ≤ k → old ++ zip f (drop k a) (drop k b) ≡ whole → old ≡ whole
zip-over f a b k old whole h left =
    let none : zip f (drop k a) (drop k b) ≡ [] = elim (cases_lt k (length a)) [
      | inl less ↦ ap (zip f (drop k a)) (drop_all k b (omega (arith, h, less))) ∙ zip-none f (drop k a)
      | inr more ↦ ap (λ (x : List Span). zip f x (drop k b)) (drop_all k a more)
    ] in
    sym (ap (λ (x : List Span). old ++ x) none ∙ append-nil old) ∙ left

-- ---- what is known of a loop
pub facts-passed : (fs : List LoopFacts) (q : Pos) (n : ℕ) (f : LoopFacts) (old new : Option LoopFacts) → n < length fs → f ≡ get_or fs (length fs - 1 - n) f → old ≡ facts_at (drop (length fs - n) fs) q → new ≡ next_facts q f old →
    new ≡ facts_at (drop (length fs - (n + 1)) fs) q
unfolding facts_at
facts-passed fs q n f old new h is e g =
    let k = length fs - (n + 1) in
    let here : length fs - 1 - n ≡ k = omega arith in
    let next : length fs - n ≡ k + 1 = omega arith in
    let at : drop k fs ≡ f ∷ drop (k + 1) fs = drop_more fs k f (omega arith) ∙ ap (λ (x : LoopFacts). x ∷ drop (k + 1) fs) (sym (is ∙ ap (λ (i : ℕ). get_or fs i f) here)) in
    g ∙ ap (next_facts q f) (e ∙ ap (λ (i : ℕ). facts_at (drop i fs) q) next) ∙ sym (ap (λ (xs : List LoopFacts). facts_at xs q) at)

pub facts-start : (fs : List LoopFacts) (q : Pos) → None ≡ facts_at (drop (length fs - 0) fs) q
unfolding facts_at
facts-start fs q = sym (ap (λ (xs : List LoopFacts). facts_at xs q) (drop_all (length fs - 0) fs (omega arith)))

pub facts-end : (fs : List LoopFacts) (q : Pos) (n : ℕ) (o : Option LoopFacts) → length fs ≤ n → o ≡ facts_at (drop (length fs - n) fs) q → o ≡ facts_at fs q
facts-end fs q n o h e = e ∙ ap (λ (i : ℕ). facts_at (drop i fs) q) (let z : length fs - n ≡ 0 = omega arith in z)

module _ (p : Program) (w : Setting) (q : Pos) where
  next-record : (f : LoopFacts) (o : Option LoopFacts) → option_map record_of (with_facts f o) ≡ with_record (intervals p w) (record_of f) (option_map record_of o)
  unfolding record_of
  next-record f None = refl
  next-record f (Some g) = refl

  pub record-is : (fs : List LoopFacts) → option_map record_of (facts_at fs q) ≡ record_at (intervals p w) (map record_of fs) (record { path = []; place = q })
  unfolding facts_at record_of
  record-is [] = refl
  record-is (f ∷ fs) =
      elim (same_pos f.place q) as (λ b. option_map record_of (if b then with_facts f (facts_at fs q) else facts_at fs q)
      ≡ (if b && true then with_record (intervals p w) (record_of f) (record_at (intervals p w) (map record_of fs) (record { path = []; place = q })) else record_at (intervals p w) (map record_of fs) (record { path = []; place = q }))) [
        | true ↦ next-record f (facts_at fs q) ∙ ap (with_record (intervals p w) (record_of f)) (record-is fs)
        | false ↦ record-is fs
      ]

-- ---- statements
module _ (p : Program) (f : Found Flat) where
  text-row : (n : _) (r : Row_of-Stmt n) → stmts_text p f r ≡ all_text p f (items-the_row-Stmt n r)
  unfolding stmt_text all_text
  text-row n end_of-Stmt = refl
  text-row n (more_of-Stmt s rest) = ap (λ (x : List ℕ). stmt_text p f s ++ x) (text-row _ rest)

  pub text-block : (ss : List Stmt) → stmt_text p f (stmt.Block ss) ≡ all_text p f ss
  unfolding stmt_text
  text-block ss =
      let row = stmts_of (stmt.Block ss) in
      text-row row.0 row.1 ∙ ap (all_text p f) (items_hidden-the_row-Stmt-0 ss)

  pub text-loop : (q : Pos) (k : LoopKind) (c : Option Expr) (body : Stmt) (x : Option Simple) →
      stmt_text p f (stmt.Loop q k c body x) ≡ loop_text p q (record_at (intervals p (widest p)) f.records (record { path = []; place = q })) ++ stmt_text p f body
  unfolding stmt_text Rattle.sa_typed.specs.declared.stmt.Stmt.TheBlock.hidden-the_row-Stmt-1 denote.Hole.Carrier.hidden
  text-loop q k c body x = refl

  -- of a form without loops in it
  pub text-none : (s : Stmt) → ((all : List Stmt) → s ≡ stmt.Block all → ⊥) →
      ((q : Pos) (k : LoopKind) (c : Option Expr) (body : Stmt) (x : Option Simple) → s ≡ stmt.Loop q k c body x → ⊥) → stmt_text p f s ≡ []
  unfolding stmt_text Rattle.sa_typed.specs.declared.stmt.Stmt.TheBlock.hidden-the_row-Stmt-1 denote.Hole.Carrier.hidden statement.out-Stmt statement.roll-Stmt denote.Hole.Carrier.out
  text-none (Stmt.Block' n all) block loop = absurd (block _ (sym (roll-out-Stmt (Stmt.Block' n all)) ∙ rolls-Block _))
  text-none (Stmt.Loop' q k c n (more_of-Stmt body end_of-Stmt) x) block loop = absurd (loop q k c body x refl)
  text-none _ block loop = refl

  pub text-passed : (ss : List Stmt) (i : ℕ) (s : Stmt) (old new whole : List ℕ) → i < length ss → s ≡ get_or ss i s → new ≡ old ++ stmt_text p f s → old ++ all_text p f (drop i ss) ≡ whole → new ++ all_text p f (drop (i + 1) ss) ≡ whole
  unfolding all_text
  text-passed ss i s old new whole h is n left =
      passed old (stmt_text p f s) (all_text p f (drop (i + 1) ss)) new (all_text p f (drop i ss)) whole n
      (ap (all_text p f) (drop_more ss i s h ∙ ap (λ (x : Stmt). x ∷ drop (i + 1) ss) (sym is))) left

  pub text-over : (ss : List Stmt) (i : ℕ) (old whole : List ℕ) → length ss ≤ i → old ++ all_text p f (drop i ss) ≡ whole → old ≡ whole
  unfolding all_text
  text-over ss i old whole h left = over old (all_text p f (drop i ss)) whole (ap (all_text p f) (drop_all i ss h)) left

  pub text-main : (ss : List Stmt) → ss ≡ main_body p → all_text p f ss ≡ stmt_text p f (main_of p)
  text-main ss e = ap (all_text p f) e ∙ sym (ap (stmt_text p f) (main-block p) ∙ text-block (main_body p))

-- ---- the whole
pub loop-whole : (old a b d l m n : List ℕ) → a ≡ old ++ l → b ≡ a ++ m → d ≡ b ++ n → d ≡ old ++ (l ++ (m ++ n))
loop-whole old a b d l m n e f g =
    g ∙ ap (λ (x : List ℕ). x ++ n) (f ∙ ap (λ (x : List ℕ). x ++ m) e) ∙ ap (λ (x : List ℕ). x ++ n) (append_assoc old l m) ∙ append_assoc old (l ++ m) n
    ∙ ap (λ (x : List ℕ). old ++ x) (append_assoc l m n)

pub report-whole : (p : Program) (f : Found Flat) (ss : List Stmt) (first second third : List ℕ) (sorted : List Alarm) → ss ≡ main_body p → sorted ≡ rising f.alarms →
    first ≡ [] ++ all_text p f ss → second ≡ first ++ alarms_text sorted → third ≡ second ++ count_text (length sorted) → third ≡ report_text p f
unfolding report_text
report-whole p f ss first second third sorted b o e g h =
    let head = stmt_text p f (main_of p) in
    h ∙ ap (λ (x : List ℕ). x ++ count_text (length sorted)) (g ∙ ap (λ (x : List ℕ). x ++ alarms_text sorted) (e ∙ text-main p f ss b)) ∙ append_assoc head (alarms_text sorted) (count_text (length sorted))
    ∙ ap (λ (x : List Alarm). head ++ (alarms_text x ++ count_text (length x))) o

pub kept-front : (n : ℕ) (xs ys : List Bool) → length xs ≡ n → take n (xs ++ ys) ≡ xs
kept-front n xs ys h = ap (λ (k : ℕ). take k (xs ++ ys)) (sym h) ∙ front xs
  where
    front : (zs : List Bool) → take (length zs) (zs ++ ys) ≡ zs
    front [] = refl
    front (z ∷ zs) = ap (λ (l : List Bool). z ∷ l) (front zs)

-- a loop by what is known of it
pub loop-none : (p : Program) (q : Pos) (fs : List LoopFacts) (o : Option LoopFacts) (old new : List ℕ) → o ≡ facts_at fs q → o ≡ None → new ≡ old ++ unreached_text q →
    new ≡ old ++ loop_text p q (record_at (intervals p (widest p)) (map record_of fs) (record { path = []; place = q }))
loop-none p q fs o old new e n t =
    t ∙ ap (λ (r : Option (Record Flat)). old ++ loop_text p q r) (sym (ap (option_map record_of) n) ∙ ap (option_map record_of) e ∙ record-is p (widest p) q fs)

pub loop-some : (p : Program) (q : Pos) (fs : List LoopFacts) (o : Option LoopFacts) (f : LoopFacts) (old new : List ℕ) → o ≡ facts_at fs q → o ≡ Some f →
    new ≡ old ++ (reached_text q f.passes ++ lines_text p (lines_of p q f.state)) → new ≡ old ++ loop_text p q (record_at (intervals p (widest p)) (map record_of fs) (record { path = []; place = q }))
unfolding record_of
loop-some p q fs o f old new e n t =
    t ∙ ap (λ (r : Option (Record Flat)). old ++ loop_text p q r) (sym (ap (option_map record_of) n) ∙ ap (option_map record_of) e ∙ record-is p (widest p) q fs)

-- the two parts of a loop
pub both-parts : (p : Program) (f : Found Flat) (s : Stmt) (q : Pos) (k : LoopKind) (c : Option Expr) (body : Stmt) (x : Option Simple) (old a d : List ℕ) → s ≡ stmt.Loop q k c body x →
    a ≡ old ++ loop_text p q (record_at (intervals p (widest p)) f.records (record { path = []; place = q })) → d ≡ a ++ stmt_text p f body → d ≡ old ++ stmt_text p f s
both-parts p f s q k c body x old a d is h e =
    let l = loop_text p q (record_at (intervals p (widest p)) f.records (record { path = []; place = q })) in
    e ∙ ap (λ (y : List ℕ). y ++ stmt_text p f body) h ∙ append_assoc old l (stmt_text p f body) ∙ ap (λ (y : List ℕ). old ++ y) (sym (ap (stmt_text p f) is ∙ text-loop p f q k c body x))
