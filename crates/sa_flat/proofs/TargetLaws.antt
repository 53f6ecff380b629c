-- Places: the cell that a place leads to is among those of its target, an index that names no element is among the alarms, and
-- what is read there is shown.
use Rattle.std.proofs.Common.{◌≡◌, ℕ, zero, suc, ◌+◌, ◌*◌, ◌<◌, ◌≤◌, ℤ, pos, negsuc, ◌-ℤ◌, ◌≤ℤ◌, true, false, ◌&&◌, List, [], ◌∷◌, refl, sym, ap, subst, ◌∙◌, arith, Option, Some, None, inl, inr}
use Rattle.std.specs.Prelude.{if◌then◌else◌, ◌==◌, unsigned_abs, option_map}
use Rattle.std.specs.Int.{int_max, int_min}
use Rattle.std.specs.Int.RustNames.{int_le, int_lt}
use Rattle.std.proofs.lemmas.Int.{ints, clamps}
use Rattle.std.proofs.lemmas.Bool.Decides.{nat_tests}
use Rattle.sa_base.specs.declared.num.Num.{Num}
use Rattle.sa_base.specs.declared.pos.Pos.{Pos}
use Rattle.sa_base.specs.declared.alarm.Kind.TheVariants.{Index}
use Rattle.sa_interval.specs.Span.{Span, Within}
use Rattle.sa_interval.specs.Rows.{meet_of, is_part}
use Rattle.sa_typed.specs.Evaluation.{Error, Value, Gives, Stops, then_value, checked_index}
use Rattle.sa_operators.specs.Alarms.{IsAmong}
use Rattle.sa_operators.specs.Operators.{IsIn}
use Rattle.sa_flat.specs.Domain.{Domain}
use Rattle.sa_flat.specs.Forms.{of_cell, form_number}
use Rattle.sa_flat.specs.Meanings.{Meaning, Target, Cells, in_alive, up_from, indices, scaled, steps_of, steps_in, index_alarms, moved, all_moved, index, kept, at_cell, moved_by, joined_cells, cell_form, read_operand, read}
use Rattle.sa_flat.specs.Passes.{alive_then}
use Rattle.sa_flat.proofs.Lawful.{Lawful, Frame, IfAlive, AliveAnd, IsForm}
use Rattle.sa_flat.proofs.Goods.{Good, Pick}
use Rattle.sa_flat.proofs.Operands.{InSpan, InType, IsCovered, covered_left, covered_right, among_left, among_right, meet_some, some_left, some_right, some_join_in}
use Rattle.sa_flat.proofs.MeaningLaws.{Fits, Fit, plain_fit}
use Rattle.sa_flat.proofs.CoverLaws.{Now, IsNumber, Covers, Means, Always, truth_now, always}

-- ---- indices
among_up : (k n i : ℕ) → k ≤ i → i < k + n → IsAmong i (up_from k n)
unfolding up_from
among_up k zero i h l = absurd (omega (arith, h, l))
among_up k (suc n) i h l =
    elim (i == k) as (λ b. (i == k) ≡ b → IsAmong i (k ∷ up_from (k + 1) n)) [
      | true ↦ λ e. inl (grind (arith, nat_tests))
      | false ↦ λ e. inr (among_up (k + 1) n i (grind (arith, nat_tests)) (omega (arith, l)))
    ] refl

among_scaled : (stride i : ℕ) (is : List ℕ) → IsAmong i is → IsAmong (i * stride) (scaled stride is)
unfolding scaled
among_scaled stride i [] h = absurd h
among_scaled stride i (j ∷ is) (inl e) = inl (ap (λ (k : ℕ). k * stride) e)
among_scaled stride i (j ∷ is) (inr h) = inr (among_scaled stride i is h)

-- an index in the span leads to one of its steps
steps_among : (stride i : ℕ) (s : Span) → Within s (pos i) → pos 0 ≤ℤ s.lo → IsAmong (i * stride) (steps_of stride s)
unfolding steps_of
steps_among stride i s h low =
    elim (stride == 0) as (λ b. (stride == 0) ≡ b → IsAmong (i * stride) (if b then 0 ∷ [] else scaled stride (up_from (unsigned_abs s.lo) (unsigned_abs (s.hi -ℤ s.lo) + 1)))) [
      | true ↦ λ e. let z : stride ≡ 0 = grind (arith, nat_tests) in inl (rw z (omega arith))
      | false ↦ λ e. among_scaled stride i _ (between s.lo s.hi low h.above h.below)
    ] refl
  where
    between : (lo hi : ℤ) → pos 0 ≤ℤ lo → lo ≤ℤ pos i → pos i ≤ℤ hi → IsAmong i (up_from (unsigned_abs lo) (unsigned_abs (hi -ℤ lo) + 1))
    between (negsuc lo) hi l a b = absurd (omega (arith, ints, l))
    between (pos lo) (negsuc hi) l a b = absurd (omega (arith, ints, b))
    between (pos lo) (pos hi) l a b =
        let size : pos (unsigned_abs (pos hi -ℤ pos lo)) ≡ pos hi -ℤ pos lo = omega (arith, ints, a, b) in
        among_up lo _ i (omega (arith, ints, a)) (omega (arith, ints, a, b, size))

low_met : (i : Span) (size : ℕ) (s : Span) → meet_of i (indices size) ≡ Some s → pos 0 ≤ℤ s.lo
low_met i size s e =
    elim (int_le (int_max i.lo (pos 0)) (int_min i.hi (pos size -ℤ pos 1))) as
    (λ b. (if b then Some (record { lo = int_max i.lo (pos 0); hi = int_min i.hi (pos size -ℤ pos 1) }) else None) ≡ Some s → pos 0 ≤ℤ s.lo) [
      | true ↦ λ e. let lo : int_max i.lo (pos 0) ≡ s.lo = cc in omega (arith, ints, clamps)
      | false ↦ λ e. cc
    ] e

-- an index that is in its dimension
pub in_indices : (size k : ℕ) → k < size → Within (indices size) (pos k)
in_indices size k h = record { above = omega (arith, ints); below = omega (arith, ints, h) }

pub steps_found : (size stride k : ℕ) (o : Option Span) → InSpan o (pos k) → k < size → AliveAnd (IsAmong (k * stride)) (steps_in size stride o)
steps_found size stride k None h l = absurd h
steps_found size stride k (Some i) h l = from (meet_of i (indices size)) refl (meet_some i (indices size) (pos k) h (in_indices size k l))
  where
    from : (o : Option Span) → meet_of i (indices size) ≡ o → InSpan o (pos k) → AliveAnd (IsAmong (k * stride)) (option_map (steps_of stride) o)
    from None e h = absurd h
    from (Some s) e h = steps_among stride k s h (low_met i size s e)

-- ---- cells that are reached
among_moved : (k d : ℕ) (ds : List ℕ) → IsAmong d ds → IsAmong (k + d) (moved k ds)
unfolding moved
among_moved k d [] h = absurd h
among_moved k d (b ∷ ds) (inl e) = inl (ap (λ (d : ℕ). k + d) e)
among_moved k d (b ∷ ds) (inr h) = inr (among_moved k d ds h)

among_all_moved : (k d : ℕ) (ks ds : List ℕ) → IsAmong k ks → IsAmong d ds → IsAmong (k + d) (all_moved ks ds)
unfolding all_moved
among_all_moved k d [] ds h i = absurd h
among_all_moved k d (b ∷ ks) ds (inl e) i = among_left (k + d) (moved b ds) (all_moved ks ds) (subst (λ (b : ℕ). IsAmong (k + d) (moved b ds)) e (among_moved k d ds i))
among_all_moved k d (b ∷ ks) ds (inr h) i = among_right (k + d) (moved b ds) (all_moved ks ds) (among_all_moved k d ks ds h i)

both_moved : (k d : ℕ) (ks ds : Option (List ℕ)) → AliveAnd (IsAmong k) ks → AliveAnd (IsAmong d) ds → AliveAnd (IsAmong (k + d)) (alive_then ks (λ ks. alive_then ds (λ ds. Some (all_moved ks ds))))
both_moved k d None ds h i = absurd h
both_moved k d (Some ks) None h i = absurd i
both_moved k d (Some ks) (Some ds) h i = among_all_moved k d ks ds h i

module _ (x : Cells) (D : Domain) (L : Lawful x D) where
  -- a cell of the type
  pub record IsOfType (num : Num) (k : ℕ) : Type 0 where
    pub cell : L.IsCell k
    pub same : x.num k ≡ num

  abbrev pub AllOfType : Num → List ℕ → Type 0
  AllOfType num [] = Unit {0}
  AllOfType num (k ∷ ks) = IsOfType num k × AllOfType num ks

  -- the cells of a place to a number of the type
  pub record Leads (num : Num) (t : Target D.Env) : Type 0 where
    pub cells : (f : Frame) (env : D.Env) → Good x D L f env → IfAlive (AllOfType num) (t.cells env)
    pub fixed : IfAlive L.IsCell t.fixed

  joined_in : (f : Frame) (num : Num) (ks : List ℕ) (env : D.Env) → Good x D L f env → AllOfType num ks → InType num (joined_cells D ks env)
  unfolding joined_cells
  joined_in f num [] env g h = tt
  joined_in f num (k ∷ ks) env g h =
      some_join_in num (Some (D.cell k env)) (joined_cells D ks env) (subst (λ (m : Num). IsIn m (D.cell k env)) h.0.same (L.cell_in f k env h.0.cell g.under)) (joined_in f num ks env g h.1)

  spans_in : (f : Frame) (num : Num) (o : Option (List ℕ)) (env : D.Env) → Good x D L f env → IfAlive (AllOfType num) o → InType num (alive_then o (λ ks. joined_cells D ks env))
  spans_in f num None env g h = tt
  spans_in f num (Some ks) env g h = joined_in f num ks env g h

  cell_form_cells : (o : Option ℕ) → IfAlive L.IsCell o → IfAlive (IsForm L.IsCell) (cell_form D x o)
  cell_form_cells None h = tt
  cell_form_cells (Some k) h = elim (x.starred k) as (λ b. IfAlive (IsForm L.IsCell) (if b then None else Some (of_cell k))) [ true ↦ tt | false ↦ (h, tt) ]

  pub read_fits : (num : Num) (t : Target D.Env) → Leads num t → Fits x D L num (read_operand D x t)
  read_fits num t h = record { span = λ f env g. spans_in f num (t.cells env) env g (h.cells f env g); form = λ env. cell_form_cells t.fixed h.fixed }

  pub read_fit : (num : Num) (t : Target D.Env) → Leads num t → Fit x D L num (read D x t)
  read_fit num t h = plain_fit x D L num (read_operand D x t) t.alarms (read_fits num t h)

module _ (x : Cells) (D : Domain) (L : Lawful x D) (has : ℕ → ℤ → Type 0) (one : ℕ → ℤ) (picked : Pick x D L has one) (time : ℤ) where
  -- a place leads to one of its cells, an error is among the alarms. `Is a c` says that the object a stands in the cell c
  pub record Among (t : Target D.Env) (env : D.Env) (c : ℕ) : Type 0 where
    pub among : AliveAnd (IsAmong c) (t.cells env)
    pub fixed : IfAlive (λ k. k ≡ c) t.fixed

  abbrev pub Finds : {A : Type 0} → (A → ℕ → Type 0) → Target D.Env → D.Env → Value A → Type 0
  Finds Is t env (Gives a tape) = (c : ℕ) × Is a c × Among t env c
  Finds Is t env (Stops e) = IsCovered (t.alarms env) e

  abbrev pub Places : {A : Type 0} → (A → ℕ → Type 0) → Target D.Env → (List ℤ → Value A) → Type 0
  Places Is t go = (f : Frame) (env : D.Env) (tape : List ℤ) → Good x D L f env → Now x D L has one picked time env → Finds Is t env (go tape)

  pub cell_places : {A : Type 0} (Is : A → ℕ → Type 0) (k : ℕ) (a : A) → Is a k → Places Is (at_cell D k) (λ tape. Gives a tape)
  cell_places Is k a h f env tape g n = (k, h, record { among = inl refl; fixed = refl })

  -- an index, which leads from the object a to the object `to a i`
  pub index_places : {A B : Type 0} (Is : A → ℕ → Type 0) (To : B → ℕ → Type 0) (q : Pos) (size stride : ℕ) (num : Num) (t : Target D.Env) (i : Meaning D.Env) (go : List ℤ → Value A) (next : List ℤ → Value ℤ)
      (to : A → ℕ → B) → Places Is t go → Fit x D L num i → Means x D L has one picked time i next → ((a : A) (c k : ℕ) → Is a c → k < size → To (to a k) (c + k * stride)) →
      Places To (moved_by D t (index D q size stride i)) (λ tape. then_value (go tape) (λ a tape. then_value (next tape) (λ z tape. then_value (checked_index q size z tape) (λ k tape. Gives (to a k) tape))))
  index_places {A = A} {B = B} Is To q size stride num t i go next to ht fi hi leads f env tape g n = first (go tape) (ht f env tape g n)
    where
      checked : (a : A) (c : ℕ) → Is a c → Among t env c → (z : ℤ) (u : List ℤ) → InSpan (i.value.span env) z →
          Finds To (moved_by D t (index D q size stride i)) env (then_value (checked_index q size z u) (λ k tape. Gives (to a k) tape))
      checked a c h m z u s =
          elim (int_le (pos 0) z && int_lt z (pos size)) as (λ b. (int_le (pos 0) z && int_lt z (pos size)) ≡ b →
          Finds To (moved_by D t (index D q size stride i)) env (then_value (if b then Gives (unsigned_abs z) u else Stops (Error q Index)) (λ k tape. Gives (to a k) tape))) [
            | true ↦ λ e.
                let k = unsigned_abs z in
                let is : pos k ≡ z = grind (arith, ints) in
                let less : k < size = grind (arith, ints) in (
                  c + k * stride,
                  leads a c k h less,
                  record {
                    among = both_moved c (k * stride) (t.cells env) (steps_in size stride (i.value.span env)) m.among
                        (steps_found size stride k (i.value.span env) (subst (λ (z : ℤ). InSpan (i.value.span env) z) (sym is) s) less);
                    fixed = tt;
                  },
                )
            | false ↦ λ e. covered_right (t.alarms env) _ (Error q Index) (covered_right (i.alarms env) (in_alive (i.value.span env) (index_alarms q size)) (Error q Index) (outside (i.value.span env) z s e))
          ] refl
        where
          outside : (o : Option Span) (z : ℤ) → InSpan o z → (int_le (pos 0) z && int_lt z (pos size)) ≡ false → IsCovered (in_alive o (index_alarms q size)) (Error q Index)
          outside None z s e = absurd s
          outside (Some r) z s e =
              let a = s.above in
              let b = s.below in
              let out : is_part r (indices size) ≡ false = grind (arith, ints) in
              rw out (inl refl)

      second : (a : A) (c : ℕ) → Is a c → Among t env c → (u : List ℤ) (v : Value ℤ) → next u ≡ v →
          Finds To (moved_by D t (index D q size stride i)) env (then_value v (λ z tape. then_value (checked_index q size z tape) (λ k tape. Gives (to a k) tape)))
      second a c h m u (Gives z w) e = checked a c h m z w (always x D L has one picked time i next u w z hi e f env g n).span
      second a c h m u (Stops end) e =
          covered_right (t.alarms env) _ end (covered_left (i.alarms env) (in_alive (i.value.span env) (index_alarms q size)) end
          (subst (λ (v : Value ℤ). Covers x D L has one picked time i env v) e (hi f env u g n)))

      first : (v : Value A) → Finds Is t env v →
          Finds To (moved_by D t (index D q size stride i)) env (then_value v (λ a tape. then_value (next tape) (λ z tape. then_value (checked_index q size z tape) (λ k tape. Gives (to a k) tape))))
      first (Gives a u) h = second a h.0 h.1 h.2 u (next u) refl
      first (Stops end) h = covered_left (t.alarms env) _ end h

  -- the index that a hidden cell keeps
  pub kept_places : {A B : Type 0} (Is : A → ℕ → Type 0) (To : B → ℕ → Type 0) (d size stride k : ℕ) (t : Target D.Env) (go : List ℤ → Value A) (to : A → B) → Places Is t go → L.IsCell d → k < size →
      ((at : ℕ → ℤ) → Pick x D L has at → at d ≡ pos k) → ((a : A) (c : ℕ) → Is a c → To (to a) (c + k * stride)) → Places To (moved_by D t (kept D d size stride)) (λ tape. then_value (go tape) (λ a tape. Gives (to a) tape))
  kept_places {A = A} {B = B} Is To d size stride k t go to ht cell less keeps leads f env tape g n = first (go tape) (ht f env tape g n)
    where
      shown : Within (D.cell d env) (pos k)
      shown = subst (λ (z : ℤ). Within (D.cell d env) z) (keeps one picked) (L.cell_sound f d env one time cell g.under (n one picked))

      first : (v : Value A) → Finds Is t env v → Finds To (moved_by D t (kept D d size stride)) env (then_value v (λ a tape. Gives (to a) tape))
      first (Gives a u) h = (
        h.0 + k * stride,
        leads a h.0 h.1,
        record {
          among = both_moved h.0 (k * stride) (t.cells env) (steps_in size stride (Some (D.cell d env))) h.2.among (steps_found size stride k (Some (D.cell d env)) shown less);
          fixed = tt;
        },
      )
      first (Stops end) h = covered_left (t.alarms env) [] end h

  -- ---- what is read
  -- the pick with another number of one cell
  with_number : ℕ → ℤ → ℕ → ℤ
  with_number c z d = if d == c then z else one d

  with_picked : (c : ℕ) (z : ℤ) → has c z → Pick x D L has (with_number c z)
  unfolding with_number
  with_picked c z h d =
      elim (d == c) as (λ b. (d == c) ≡ b → has d (if b then z else one d)) [
        | true ↦ λ e. let is : d ≡ c = grind (arith, nat_tests) in subst (λ (k : ℕ). has k z) (sym is) h
        | false ↦ λ e. picked d
      ] refl

  at_number : (c : ℕ) (z : ℤ) → with_number c z c ≡ z
  unfolding with_number
  at_number c z = let e : (c == c) ≡ true = grind (arith, nat_tests) in rw e refl

  cell_shows : (f : Frame) (c : ℕ) (z : ℤ) (env : D.Env) → L.IsCell c → Good x D L f env → Now x D L has one picked time env → has c z → Within (D.cell c env) z
  cell_shows f c z env cell g n h =
      subst (λ (w : ℤ). Within (D.cell c env) w) (at_number c z) (L.cell_sound f c env (with_number c z) time cell g.under (n (with_number c z) (with_picked c z h)))

  joined_shows : (f : Frame) (num : Num) (ks : List ℕ) (c : ℕ) (z : ℤ) (env : D.Env) → AllOfType x D L num ks → Good x D L f env → Now x D L has one picked time env → IsAmong c ks → has c z → InSpan (joined_cells D ks env) z
  unfolding joined_cells
  joined_shows f num [] c z env o g n m h = absurd m
  joined_shows f num (k ∷ ks) c z env o g n (inl e) h =
      some_left (Some (D.cell k env)) (joined_cells D ks env) z (cell_shows f k z env o.0.cell g n (subst (λ (k : ℕ). has k z) e h))
  joined_shows f num (k ∷ ks) c z env o g n (inr m) h = some_right (Some (D.cell k env)) (joined_cells D ks env) z (joined_shows f num ks c z env o.1 g n m h)

  spans_show : (f : Frame) (num : Num) (o : Option (List ℕ)) (c : ℕ) (z : ℤ) (env : D.Env) → IfAlive (AllOfType x D L num) o → Good x D L f env → Now x D L has one picked time env → AliveAnd (IsAmong c) o → has c z →
      InSpan (alive_then o (λ ks. joined_cells D ks env)) z
  spans_show f num None c z env l g n m h = absurd m
  spans_show f num (Some ks) c z env l g n m h = joined_shows f num ks c z env l g n m h

  -- a cell for one element has one number
  abbrev pub AreSingle : Type 0
  AreSingle = (c : ℕ) (z w : ℤ) → x.starred c ≡ false → has c z → has c w → z ≡ w

  pub number_of_cell : (k : ℕ) (at : ℕ → ℤ) → form_number (of_cell k) at ≡ at k
  number_of_cell k at = omega (arith, ints)

  form_shows : (o : Option ℕ) (c : ℕ) (z : ℤ) → AreSingle → IfAlive (λ k. k ≡ c) o → has c z → IsNumber x D L has one picked time z (cell_form D x o)
  form_shows None c z s i h = tt
  form_shows (Some k) c z s i h =
      elim (x.starred k) as (λ b. x.starred k ≡ b → IsNumber x D L has one picked time z (if b then None else Some (of_cell k))) [
        | true ↦ λ e. tt
        | false ↦ λ e at p. number_of_cell k at ∙ s k (at k) z e (p k) (subst (λ (k : ℕ). has k z) (sym i) h)
      ] refl

  pub read_always : {A : Type 0} (Is : A → ℕ → Type 0) (num : Num) (t : Target D.Env) (go : List ℤ → Value A) (value : A → ℤ) (tape rest : List ℤ) (a : A) → AreSingle → Leads x D L num t → Places Is t go →
      ((a : A) (c : ℕ) → Is a c → has c (value a)) → go tape ≡ Gives a rest → Always x D L has one picked time (read_operand D x t) (value a)
  read_always Is num t go value tape rest a s l h v e f env g n =
      let k : Finds Is t env (Gives a rest) = subst (λ (w : Value _). Finds Is t env w) e (h f env tape g n) in
      record { span = spans_show f num (t.cells env) k.0 (value a) env (l.cells f env g) g n k.2.among (v a k.0 k.1); form = form_shows t.fixed k.0 (value a) s k.2.fixed (v a k.0 k.1) }

  pub read_means : {A : Type 0} (Is : A → ℕ → Type 0) (num : Num) (t : Target D.Env) (go : List ℤ → Value A) (value : A → ℤ) → AreSingle → Leads x D L num t → Places Is t go →
      ((a : A) (c : ℕ) → Is a c → has c (value a)) → Means x D L has one picked time (read D x t) (λ tape. then_value (go tape) (λ a tape. Gives (value a) tape))
  read_means {A = A} Is num t go value s l h v f env tape g n = first (go tape) refl
    where
      first : (w : Value A) → go tape ≡ w → Covers x D L has one picked time (read D x t) env (then_value w (λ a tape. Gives (value a) tape))
      first (Gives a u) e =
          let k = read_always Is num t go value tape u a s l h v e in
          (k f env g n, truth_now x D L has one picked time f num (read_operand D x t) (value a) env g n (read_fits x D L num t l) k)
      first (Stops end) e = subst (λ (w : Value A). Finds Is t env w) e (h f env tape g n)
