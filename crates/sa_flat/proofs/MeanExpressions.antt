-- What a typed expression gives in an execution lies in the meaning of its lowered form: places lead to the cells of their
-- elements, values are shown, and errors are among the alarms.
use Rattle.std.proofs.Common.{◌≡◌, ℕ, ◌+◌, ◌*◌, ◌<◌, ℤ, pos, true, false, List, [], ◌∷◌, ◌++◌, refl, sym, ap, subst, ◌∙◌, arith, Option, Some, None, append_assoc, append-nil}
use Rattle.std.specs.Prelude.{if◌then◌else◌, map, slice_get}
use Rattle.sa_base.specs.declared.num.Num.{Num}
use Rattle.sa_base.specs.declared.num.Num.TheVariants.{I32}
use Rattle.sa_base.specs.declared.pos.Pos.{Pos}
use Rattle.sa_interval.specs.Span.{Span, Within}
use Rattle.sa_typed.specs.Arithmetic.{as_num, operate, result_type}
use Rattle.sa_typed.specs.Arithmetic as arithmetic
use Rattle.sa_typed.specs.Layouts.{Layout, Layouts, leaf, row, fields, nth_field, or_nothing, layout_of}
use Rattle.sa_typed.specs.Evaluation.{Setting, Here, Store, Value, Gives, Stops, Blocked, then_value, given, read as read_input, is_in, range_of, within, checked_index, is_zero, and_then, or_else, eval, and_value, or_value, links_value, steps_value, step_value}
use Rattle.sa_typed.specs.WellTyped.{type_of, links_type, steps_layout, num_of_input}
use Rattle.sa_typed.specs.declared.expr.Expr.{Expr, Number, Read', Input, Prefix', Cast', Chain', And', Or', Choice', end_of-Expr, more_of-Expr, Row_of-Expr, Row_of-Link, end_of-Link, more_of-Link, Row_of-Step, end_of-Step, more_of-Step}
use Rattle.sa_typed.specs.declared.expr.Step.{Step, At', Field}
use Rattle.sa_typed.specs.declared.shape.Part.{Part}
use Rattle.sa_typed.specs.declared.shape.Part.TheVariants as part
use Rattle.sa_typed.specs.declared.program.Place.{Place}
use Rattle.sa_typed.specs.declared.program.Program.{Program}
use Rattle.sa_ir.specs.declared.expr.Row.TheVariants as rows
use Rattle.sa_ir.specs.declared.frame.Kept.{Kept}
use Rattle.sa_ir.specs.Frames.{Frame as Call}
use Rattle.sa_ir.specs.Places.{stride_of, cells_to, kept_row, folded, moved_by as folded_cells, row_for, lowered, all_lowered, lowered_links, steps_cells, steps_rows}
use Rattle.sa_ir.specs.Sizes.{cells_before}
use Rattle.sa_flat.specs.Domain.{Domain}
use Rattle.sa_flat.specs.Meanings.{Meaning, Operand, Target, Cells, input, index, kept, at_cell, moved_by, read, operation, and_of, or_of}
use Rattle.sa_flat.specs.Expressions.{meaning, reach}
use Rattle.sa_flat.proofs.Lawful.{Lawful}
use Rattle.sa_flat.proofs.Goods.{Pick}
use Rattle.sa_flat.proofs.MeaningLaws.{Fits, Fit, operation_fit}
use Rattle.sa_flat.proofs.CoverLaws.{Covers, Means, Always, literal_means, operation_means, truth_now}
use Rattle.sa_flat.proofs.UnaryLaws.{cast_means, prefix_means}
use Rattle.sa_flat.proofs.LogicLaws.{and_fit, or_fit, and_means, or_means, choice_means}
use Rattle.sa_flat.proofs.TargetLaws.{Finds, Places, AreSingle, cell_places, index_places, kept_places, read_means}
use Rattle.sa_flat.proofs.ConstantLaws.{exact}
use Rattle.sa_flat.proofs.LaidLaws.{Laid, laid_field, step_leads, row_step, field_step}
use Rattle.sa_flat.proofs.Rolls.{after_links, after_ands, after_ors, after_rows, number_meaning, input_meaning, prefix_meaning, cast_meaning, choice_meaning, chain_meaning, and_meaning, or_meaning, read_meaning, at_reach, kept_reach}
use Rattle.sa_flat.proofs.WalkPremises.{Walks, SomeWalk, AllWalk, LinksWalk, StepsWalk}
use Rattle.sa_flat.proofs.FitExpressions.{IsFolded, folded_is, folded_less, after_append, FrameFits, InputsFit, place_roams, leads_place, number_in, fit}

-- ---- values
then_given : {A : Type 0} (v : Value A) → then_value v (λ a tape. Gives a tape) ≡ v
then_given (Gives a tape) = refl
then_given (Stops e) = refl

pub then_then : {A B C : Type 0} (v : Value A) (go : A → List ℤ → Value B) (next : B → List ℤ → Value C) →
    then_value (then_value v go) next ≡ then_value v (λ a tape. then_value (go a tape) next)
then_then (Gives a tape) go next = refl
then_then (Stops e) go next = refl

then_same : {A B : Type 0} (v : Value A) (go next : A → List ℤ → Value B) → ((a : A) (tape : List ℤ) → go a tape ≡ next a tape) → then_value v go ≡ then_value v next
then_same (Gives a tape) go next h = h a tape
then_same (Stops e) go next h = refl

-- what steps lead to from an object
abbrev pub led : Setting → Here → Store → Place → {n : _} → Row_of-Step n → List ℤ → Value Place
led w here st a r tape = then_value (steps_value w here st r tape) (λ parts tape. Gives (within a parts) tape)

within_none : (a : Place) → within a [] ≡ a
within_none a = let e = append-nil a.parts in rw e refl

pub within_more : (a : Place) (q : Part) (parts : List Part) → within a (q ∷ parts) ≡ within (within a (q ∷ [])) parts
within_more a q parts = let e = append_assoc a.parts (q ∷ []) parts in rw e refl

led_end : (w : Setting) (here : Here) (st : Store) (a : Place) (tape : List ℤ) → led w here st a end_of-Step tape ≡ Gives a tape
unfolding eval
led_end w here st a tape = ap (λ (b : Place). gives b tape) (within_none a)
  where
    gives : Place → List ℤ → Value Place
    gives b tape = Gives b tape

led_more : {n : _} (w : Setting) (here : Here) (st : Store) (a : Place) (s : Step) (rest : Row_of-Step n) (tape : List ℤ) →
    led w here st a (more_of-Step s rest) tape ≡ then_value (step_value w here st s tape) (λ q tape. led w here st (within a (q ∷ [])) rest tape)
unfolding eval
led_more w here st a s rest tape =
    then_then (step_value w here st s tape) (λ q tape. then_value (steps_value w here st rest tape) (λ parts tape. Gives (q ∷ parts) tape)) (λ parts tape. Gives (within a parts) tape) ∙
    then_same (step_value w here st s tape) _ _ (λ q tape.
    then_then (steps_value w here st rest tape) (λ parts tape. Gives (q ∷ parts) tape) (λ parts tape. Gives (within a parts) tape) ∙
    then_same (steps_value w here st rest tape) _ _ (λ parts tape. ap (λ (b : Place). gives b tape) (within_more a q parts)))
  where
    gives : Place → List ℤ → Value Place
    gives b tape = Gives b tape

module _ (p : Program) (fr : Call) (x : Cells) (D : Domain) (L : Lawful x D) (ok : ℕ → Type 0) (w : Setting) (here : Here) (st : Store) (has : ℕ → ℤ → Type 0) (one : ℕ → ℤ) (picked : Pick x D L has one)
    (stands : Num → ℕ → Place → Type 0) where
  abbrev To : {A : Type 0} → (A → ℕ → Type 0) → Target D.Env → (List ℤ → Value A) → Type 0
  To Is t go = Places x D L has one picked here.clock Is t go

  abbrev Mean : Meaning D.Env → (List ℤ → Value ℤ) → Type 0
  Mean m go = Means x D L has one picked here.clock m go

  places_same : {A : Type 0} (Is : A → ℕ → Type 0) (t : Target D.Env) (go next : List ℤ → Value A) → ((tape : List ℤ) → go tape ≡ next tape) → To Is t go → To Is t next
  places_same Is t go next e h f env tape g n = subst (λ (v : Value _). Finds x D L has one picked here.clock Is t env v) (e tape) (h f env tape g n)

  means_same : (m : Meaning D.Env) (go next : List ℤ → Value ℤ) → ((tape : List ℤ) → go tape ≡ next tape) → Mean m go → Mean m next
  means_same m go next e h f env tape g n = subst (λ (v : Value ℤ). Covers x D L has one picked here.clock m env v) (e tape) (h f env tape g n)

  -- from one object to another in the same cells
  places_map : {A B : Type 0} (Is : A → ℕ → Type 0) (Bs : B → ℕ → Type 0) (t : Target D.Env) (go : List ℤ → Value A) (to : A → B) → ((a : A) (c : ℕ) → Is a c → Bs (to a) c) → To Is t go → To Bs t (λ tape. then_value (go tape) (λ a tape. Gives (to a) tape))
  places_map {A = A} {B = B} Is Bs t go to k h f env tape g n = from (go tape) (h f env tape g n)
    where
      from : (v : Value A) → Finds x D L has one picked here.clock Is t env v → Finds x D L has one picked here.clock Bs t env (then_value v (λ a tape. Gives (to a) tape))
      from (Gives a u) s = (s.0, k a s.0 s.1, s.2)
      from (Stops e) s = s

  -- ---- objects
  -- an object of the layout whose first cell is so many before this one
  abbrev pub ObjectAt : Layout → ℕ → Place → ℕ → Type 0
  ObjectAt l m a c = (b : ℕ) × (c ≡ b + m) × Laid stands l b a

  -- the indices that were kept lead from this cell to the object
  abbrev pub KeptAt : Layout → List Kept → ℕ → Place → Type 0
  KeptAt l [] c a = Laid stands l c a
  KeptAt l (r ∷ rs) c a = L.IsCell r.cell × ((k : ℕ) × (k < r.size) × ((at : ℕ → ℤ) → Pick x D L has at → at r.cell ≡ pos k) × KeptAt l rs (c + k * r.stride) a)

  abbrev pub FrameStands : Type 0
  FrameStands = (v : ℕ) → ok v → KeptAt (layout_of p v) (fr.base v).rows (fr.base v).first (here.base v)

  -- at each tick an input's range lies in what is said of the clocks
  abbrev pub InputsHold : Type 0
  InputsHold = (k : ℕ) (num : Num) → num_of_input (slice_get p.inputs k) ≡ Some num → (s : Span) → Within s here.clock → (z : ℤ) → is_in (range_of w k) z ≡ true → Within (x.input k s) z

  moved_on : (c b m d : ℕ) → c ≡ b + m → c + d ≡ (b + d) + m
  moved_on c b m d e = omega (arith, e)

  -- a variable's object, by the indices that were kept
  base_places : (l : Layout) (rs : List Kept) (b m : ℕ) (a : Place) (t : Target D.Env) (go : List ℤ → Value Place) → KeptAt l rs b a → To (λ q c. (q ≡ a) × (c ≡ b + m)) t go → To (ObjectAt l m) (after_rows D x (map kept_row rs) t) go
  base_places l [] b m a t go h k =
      places_same (ObjectAt l m) t (λ tape. then_value (go tape) (λ q tape. Gives q tape)) go (λ tape. then_given (go tape))
      (places_map (λ q c. (q ≡ a) × (c ≡ b + m)) (ObjectAt l m) t go (λ q. q) (λ q c s. (b, s.1, subst (λ (a : Place). Laid stands l b a) (sym s.0) h)) k)
  base_places l (r ∷ rs) b m a t go h k =
      base_places l rs (b + h.1.0 * r.stride) m a (moved_by D t (reach D x (rows.Kept r.cell r.size r.stride))) go h.1.3
      (subst (λ (q : _). To (λ q c. (q ≡ a) × (c ≡ (b + h.1.0 * r.stride) + m)) (moved_by D t q) go) (sym (kept_reach D x r.cell r.size r.stride))
      (places_same (λ q c. (q ≡ a) × (c ≡ (b + h.1.0 * r.stride) + m)) (moved_by D t (kept D r.cell r.size r.stride)) (λ tape. then_value (go tape) (λ q tape. Gives q tape)) go (λ tape. then_given (go tape))
      (kept_places x D L has one picked here.clock (λ q c. (q ≡ a) × (c ≡ b + m)) (λ q c. (q ≡ a) × (c ≡ (b + h.1.0 * r.stride) + m)) r.cell r.size r.stride h.1.0 t go (λ q. q) k h.0 h.1.1 h.1.2
      (λ q c s. (s.0, moved_on c b m (h.1.0 * r.stride) s.1)))))

  -- ---- steps
  laid_row : (n : ℕ) (l : Layout) (b i : ℕ) (a : Place) → Laid stands (row n l) b a → i < n → Laid stands l (b + i * stride_of (row n l)) (within a (part.At i ∷ []))
  unfolding Laid
  laid_row n l b i a h less = h i less

  laid_of_field : (ls : Layouts) (l : Layout) (b f : ℕ) (a : Place) → Laid stands (fields ls) b a → nth_field ls f ≡ Some l → Laid stands l (b + cells_to (fields ls) f) (within a (part.Field f ∷ []))
  unfolding Laid cells_to
  laid_of_field ls l b f a h e =
      let k = laid_field stands ls b 0 f a l h e in
      let same : 0 + f ≡ f = omega arith in
      subst (λ (g : ℕ). Laid stands l (b + cells_before ls f) (within a (part.Field g ∷ []))) same k

  field_is : (ls : Layouts) (l : Layout) (f : ℕ) → nth_field ls f ≡ Some l → or_nothing (nth_field ls f) ≡ l
  field_is ls l f e = rw e refl

  step_sum : (c b m d : ℕ) → c ≡ b + (d + m) → c ≡ (b + d) + m
  step_sum c b m d e = omega (arith, e)

  none_sum : (c b m : ℕ) → c ≡ b + (0 + m) → c ≡ b + m
  none_sum c b m e = omega (arith, e)

  -- the places behind a step
  abbrev Rest : {n : _} → Row_of-Step n → Layout → Layout → Type 0
  Rest rest m k = (t : Target D.Env) (go : List ℤ → Value Place) → To (ObjectAt m (steps_cells m rest)) t go →
      To (ObjectAt k 0) (after_rows D x (steps_rows p fr m rest) t) (λ tape. then_value (go tape) (λ a tape. led w here st a rest tape))

  -- one step and then the rest
  after_step : {n : _} (s : Step) (rest : Row_of-Step n) (go next : List ℤ → Value Place) → ((tape : List ℤ) → next tape ≡ then_value (go tape) (λ a tape. then_value (step_value w here st s tape) (λ q tape. Gives (within a (q ∷ [])) tape))) →
      (tape : List ℤ) → then_value (next tape) (λ a tape. led w here st a rest tape) ≡ then_value (go tape) (λ a tape. led w here st a (more_of-Step s rest) tape)
  after_step s rest go next e tape =
      ap (λ (v : Value Place). then_value v (λ a tape. led w here st a rest tape)) (e tape) ∙
      then_then (go tape) (λ a tape. then_value (step_value w here st s tape) (λ q tape. Gives (within a (q ∷ [])) tape)) (λ a tape. led w here st a rest tape) ∙
      then_same (go tape) _ _ (λ a tape.
      then_then (step_value w here st s tape) (λ q tape. Gives (within a (q ∷ [])) tape) (λ a tape. led w here st a rest tape) ∙ sym (led_more w here st a s rest tape))

  checked_folded : (q : Pos) (n i : ℕ) (a : Expr) (tape : List ℤ) → IsFolded n i a → then_value (eval w here st a tape) (λ z tape. checked_index q n z tape) ≡ Gives i tape
  checked_folded q n i a tape h = rw (exact w here st a h.constant tape h.value h.ok) (rw h.inside (rw h.element refl))

  field_value : (f : ℕ) (a : Place) (tape : List ℤ) → then_value (step_value w here st (Field f) tape) (λ q tape. Gives (within a (q ∷ [])) tape) ≡ Gives (within a (part.Field f ∷ [])) tape
  unfolding eval
  field_value f a tape = refl

  index_value : {j : _} (q : Pos) (n : ℕ) (b : Expr) (a : Place) (tape : List ℤ) → then_value (step_value w here st (At' q n j (more_of-Expr b end_of-Expr)) tape) (λ s tape. Gives (within a (s ∷ [])) tape) ≡
      then_value (eval w here st b tape) (λ z tape. then_value (checked_index q n z tape) (λ i tape. Gives (within a (part.At i ∷ [])) tape))
  unfolding eval
  index_value q n b a tape =
      then_then (eval w here st b tape) (λ z tape. then_value (checked_index q n z tape) (λ i tape. Gives (part.At i) tape)) (λ s tape. Gives (within a (s ∷ [])) tape) ∙
      then_same (eval w here st b tape) _ _ (λ z tape. then_then (checked_index q n z tape) (λ i tape. Gives (part.At i) tape) (λ s tape. Gives (within a (s ∷ [])) tape))

  index_step : {j : _} (q : Pos) (n : ℕ) (b : Expr) (rest : Row_of-Step j) (m k : Layout) (i : _) (t : Target D.Env) (go : List ℤ → Value Place) (o : Option ℕ) → folded n b ≡ o → Rest rest m k →
      Fit x D L (type_of b) (meaning D x (lowered p fr b)) → Mean (meaning D x (lowered p fr b)) (λ tape. eval w here st b tape) →
      To (ObjectAt (row n m) (folded_cells o (stride_of (row n m)) + steps_cells m rest)) t go →
      To (ObjectAt k 0) (after_rows D x (row_for o (rows.At q n (stride_of (row n m)) (lowered p fr b)) ++ steps_rows p fr m rest) t)
      (λ tape. then_value (go tape) (λ a tape. led w here st a (more_of-Step (At' q n i (more_of-Expr b end_of-Expr)) rest) tape))
  index_step q n b rest m k i t go None e more fits means h =
      let stride = stride_of (row n m) in
      let s = At' q n i (more_of-Expr b end_of-Expr) in
      let next = λ (tape : List ℤ). then_value (go tape) (λ a tape. then_value (eval w here st b tape) (λ z tape. then_value (checked_index q n z tape) (λ i tape. Gives (within a (part.At i ∷ [])) tape))) in
      let moved : To (ObjectAt m (steps_cells m rest)) (moved_by D t (index D q n stride (meaning D x (lowered p fr b)))) next =
      index_places x D L has one picked here.clock (ObjectAt (row n m) (0 + steps_cells m rest)) (ObjectAt m (steps_cells m rest)) q n stride (type_of b) t (meaning D x (lowered p fr b)) go (λ tape. eval w here st b tape)
      (λ a i. within a (part.At i ∷ [])) h fits means
      (λ a c i s less. (s.0 + i * stride, moved_on c s.0 (steps_cells m rest) (i * stride) (none_sum c s.0 (steps_cells m rest) s.1), laid_row n m s.0 i a s.2 less)) in
      let there : To (ObjectAt m (steps_cells m rest)) (moved_by D t (reach D x (rows.At q n stride (lowered p fr b)))) next =
      subst (λ (r : _). To (ObjectAt m (steps_cells m rest)) (moved_by D t r) next) (sym (at_reach D x q n stride (lowered p fr b))) moved in
      places_same (ObjectAt k 0) (after_rows D x (steps_rows p fr m rest) (moved_by D t (reach D x (rows.At q n stride (lowered p fr b))))) (λ tape. then_value (next tape) (λ a tape. led w here st a rest tape))
      (λ tape. then_value (go tape) (λ a tape. led w here st a (more_of-Step s rest) tape))
      (after_step s rest go next (λ tape. then_same (go tape) _ _ (λ a tape. sym (index_value q n b a tape))))
      (more (moved_by D t (reach D x (rows.At q n stride (lowered p fr b)))) next there)
  index_step q n b rest m k i t go (Some e) eq more fits means h =
      let stride = stride_of (row n m) in
      let s = At' q n i (more_of-Expr b end_of-Expr) in
      let f = folded_is n e b eq in
      let next = λ (tape : List ℤ). then_value (go tape) (λ a tape. Gives (within a (part.At e ∷ [])) tape) in
      let there : To (ObjectAt m (steps_cells m rest)) t next =
      places_map (ObjectAt (row n m) (e * stride + steps_cells m rest)) (ObjectAt m (steps_cells m rest)) t go (λ a. within a (part.At e ∷ []))
      (λ a c s. (s.0 + e * stride, step_sum c s.0 (steps_cells m rest) (e * stride) s.1, laid_row n m s.0 e a s.2 (folded_less n e b f))) h in
      places_same (ObjectAt k 0) (after_rows D x (steps_rows p fr m rest) t) (λ tape. then_value (next tape) (λ a tape. led w here st a rest tape))
      (λ tape. then_value (go tape) (λ a tape. led w here st a (more_of-Step s rest) tape))
      (after_step s rest go next (λ tape. then_same (go tape) _ _ (λ a tape. sym (index_value q n b a tape ∙
      sym (then_then (eval w here st b tape) (λ z tape. checked_index q n z tape) (λ i tape. Gives (within a (part.At i ∷ [])) tape)) ∙
      ap (λ (v : Value ℕ). then_value v (λ i tape. Gives (within a (part.At i ∷ [])) tape)) (checked_folded q n e b tape f)))))
      (more t next there)

  field_steps : {j : _} (f : ℕ) (rest : Row_of-Step j) (ls : Layouts) (m k u : Layout) (t : Target D.Env) (go : List ℤ → Value Place) → nth_field ls f ≡ Some m → u ≡ m → Rest rest m k →
      To (ObjectAt (fields ls) (cells_to (fields ls) f + steps_cells u rest)) t go →
      To (ObjectAt k 0) (after_rows D x (steps_rows p fr u rest) t) (λ tape. then_value (go tape) (λ a tape. led w here st a (more_of-Step (Field f) rest) tape))
  field_steps f rest ls m k u t go e same more h =
      subst (λ (u : Layout). To (ObjectAt (fields ls) (cells_to (fields ls) f + steps_cells u rest)) t go →
      To (ObjectAt k 0) (after_rows D x (steps_rows p fr u rest) t) (λ tape. then_value (go tape) (λ a tape. led w here st a (more_of-Step (Field f) rest) tape))) (sym same)
      (λ h.
      let next = λ (tape : List ℤ). then_value (go tape) (λ a tape. Gives (within a (part.Field f ∷ [])) tape) in
      let there : To (ObjectAt m (steps_cells m rest)) t next =
      places_map (ObjectAt (fields ls) (cells_to (fields ls) f + steps_cells m rest)) (ObjectAt m (steps_cells m rest)) t go (λ a. within a (part.Field f ∷ []))
      (λ a c s. (s.0 + cells_to (fields ls) f, step_sum c s.0 (steps_cells m rest) (cells_to (fields ls) f) s.1, laid_of_field ls m s.0 f a s.2 e)) h in
      places_same (ObjectAt k 0) (after_rows D x (steps_rows p fr m rest) t) (λ tape. then_value (next tape) (λ a tape. led w here st a rest tape))
      (λ tape. then_value (go tape) (λ a tape. led w here st a (more_of-Step (Field f) rest) tape))
      (after_step (Field f) rest go next (λ tape. then_same (go tape) _ _ (λ a tape. sym (field_value f a tape)))) (more t next there)) h

  -- ---- logic
  and_shift : (v : Value ℤ) (f k : List ℤ → Value ℤ) → and_then (and_then v (λ tape. and_then (f tape) (λ tape. Gives (pos 1) tape))) k ≡ and_then v (λ tape. and_then (f tape) k)
  and_shift (Stops e) f k = refl
  and_shift (Gives y t) f k =
      elim (is_zero y) as (λ b. then_value (if b then Gives (pos 0) t else and_then (f t) (λ tape. Gives (pos 1) tape)) (λ z u. if is_zero z then Gives (pos 0) u else k u) ≡ (if b then Gives (pos 0) t else and_then (f t) k)) [
        | true ↦ refl
        | false ↦ inner (f t)
      ]
    where
      inner : (v : Value ℤ) → and_then (and_then v (λ tape. Gives (pos 1) tape)) k ≡ and_then v k
      inner (Stops e) = refl
      inner (Gives z u) =
          elim (is_zero z) as (λ b. then_value (if b then Gives (pos 0) u else Gives (pos 1) u) (λ z u. if is_zero z then Gives (pos 0) u else k u) ≡ (if b then Gives (pos 0) u else k u)) [ true ↦ refl | false ↦ refl ]

  or_shift : (v : Value ℤ) (f k : List ℤ → Value ℤ) → or_else (or_else v (λ tape. or_else (f tape) (λ tape. Gives (pos 0) tape))) k ≡ or_else v (λ tape. or_else (f tape) k)
  or_shift (Stops e) f k = refl
  or_shift (Gives y t) f k =
      elim (is_zero y) as (λ b. then_value (if b then or_else (f t) (λ tape. Gives (pos 0) tape) else Gives (pos 1) t) (λ z u. if is_zero z then k u else Gives (pos 1) u) ≡ (if b then or_else (f t) k else Gives (pos 1) t)) [
        | true ↦ inner (f t)
        | false ↦ refl
      ]
    where
      inner : (v : Value ℤ) → or_else (or_else v (λ tape. Gives (pos 0) tape)) k ≡ or_else v k
      inner (Stops e) = refl
      inner (Gives z u) =
          elim (is_zero z) as (λ b. then_value (if b then Gives (pos 0) u else Gives (pos 1) u) (λ z u. if is_zero z then k u else Gives (pos 1) u) ≡ (if b then k u else Gives (pos 1) u)) [ true ↦ refl | false ↦ refl ]

  -- ---- expressions
  module _ (frame : FrameFits p fr x D L ok) (inputs : InputsFit p fr x D L ok) (object : FrameStands) (holds : InputsHold) (has_of : (num : Num) (c : ℕ) (a : Place) → stands num c a → has c (st a))
      (single : AreSingle x D L has one picked here.clock) where
    pub number_has : (num : Num) (a : Place) (c : ℕ) → ObjectAt (leaf num) 0 a c → has c (st a)
    unfolding Laid
    number_has num a c s =
        let b = s.0 in
        let e = s.1 in
        let same : c ≡ b = omega (arith, e) in
        subst (λ (c : ℕ). has c (st a)) (sym same) (has_of num b a s.2)

    fits : (a : Expr) → Walks p ok a → Fit x D L (type_of a) (meaning D x (lowered p fr a))
    fits a h = fit p fr x D L ok frame inputs a h

    input_means : (k : ℕ) (num : Num) → num_of_input (slice_get p.inputs k) ≡ Some num → Mean (input D x k) (λ tape. read_input (range_of w k) tape)
    input_means k num e f env tape g n = from tape
      where
        value : Operand D.Env
        value = record { span = λ env. Some (x.input k (D.clock env)); form = λ env. None }

        value_fits : Fits x D L num (record { span = λ env. Some (x.input k (D.clock env)); form = λ env. None })
        value_fits = record { span = λ f env g. inputs k num e (D.clock env) (L.clock_ordered f env g.under) (L.clock_part f env g.under); form = λ env. tt }

        shown : (z : ℤ) → is_in (range_of w k) z ≡ true → Always x D L has one picked here.clock (record { span = λ env. Some (x.input k (D.clock env)); form = λ env. None }) z
        shown z t f env g n = record { span = holds k num e (D.clock env) (L.clock_sound env one here.clock (n one picked)) z t; form = tt }

        from : (tape : List ℤ) → Covers x D L has one picked here.clock (input D x k) env (read_input (range_of w k) tape)
        from [] = tt
        from (z ∷ tape) =
            elim (is_in (range_of w k) z) as (λ b. is_in (range_of w k) z ≡ b → Covers x D L has one picked here.clock (input D x k) env (if b then Gives z tape else Stops Blocked)) [
              | true ↦ λ t. (shown z t f env g n, truth_now x D L has one picked here.clock f num (record { span = λ env. Some (x.input k (D.clock env)); form = λ env. None }) z env g n value_fits (shown z t))
              | false ↦ λ t. tt
            ] refl

    -- an access by where its steps lead from the object of its variable
    access_by : {n : _} (v : ℕ) (r : Row_of-Step n) (k : Layout) → ok v →
        ((t : Target D.Env) (go : List ℤ → Value Place) → To (ObjectAt (layout_of p v) (steps_cells (layout_of p v) r)) t go →
        To (ObjectAt k 0) (after_rows D x (steps_rows p fr (layout_of p v) r) t) (λ tape. then_value (go tape) (λ a tape. led w here st a r tape))) →
        To (ObjectAt k 0) (after_rows D x (map kept_row (fr.base v).rows ++ steps_rows p fr (layout_of p v) r) (at_cell D ((fr.base v).first + steps_cells (layout_of p v) r))) (λ tape. led w here st (here.base v) r tape)
    access_by v r k o more =
        let m = steps_cells (layout_of p v) r in
        let start = at_cell D ((fr.base v).first + m) in
        let base : To (ObjectAt (layout_of p v) m) (after_rows D x (map kept_row (fr.base v).rows) start) (λ tape. Gives (here.base v) tape) =
        base_places (layout_of p v) (fr.base v).rows (fr.base v).first m (here.base v) start (λ tape. Gives (here.base v) tape) (object v o)
        (cell_places x D L has one picked here.clock (λ q c. (q ≡ here.base v) × (c ≡ (fr.base v).first + m)) ((fr.base v).first + m) (here.base v) (refl, refl)) in
        subst (λ (t : Target D.Env). To (ObjectAt k 0) t (λ tape. led w here st (here.base v) r tape)) (sym (after_append D x (map kept_row (fr.base v).rows) (steps_rows p fr (layout_of p v) r) start))
        (more (after_rows D x (map kept_row (fr.base v).rows) start) (λ tape. Gives (here.base v) tape) base)

    mutual
      unfolding lowered type_of links_type Walks eval steps_layout

      pub means : (a : Expr) → Walks p ok a → Mean (meaning D x (lowered p fr a)) (λ tape. eval w here st a tape)
      means (Number n num) h =
          subst (λ (m : Meaning D.Env). Mean m (λ tape. Gives (pos n) tape)) (sym (number_meaning D x n num)) (literal_means x D L has one picked here.clock num (pos n) (number_in p fr x D L ok n num h))
      means (Read' v n steps num) h =
          let qs = map kept_row (fr.base v).rows ++ steps_rows p fr (layout_of p v) steps in
          let first = (fr.base v).first + steps_cells (layout_of p v) steps in
          let t = after_rows D x qs (at_cell D first) in
          let place : To (ObjectAt (leaf num) 0) t (λ tape. led w here st (here.base v) steps tape) =
          access_by v steps (leaf num) h.0 (λ t go q. steps_place steps (layout_of p v) (leaf num) t go h.1.0 h.1.1 q) in
          subst (λ (m : Meaning D.Env). Mean m (λ tape. eval w here st (Read' v n steps num) tape)) (sym (read_meaning D x (record { first = first; rows = qs }) num))
          (means_same (read D x t) (λ tape. then_value (led w here st (here.base v) steps tape) (λ a tape. Gives (st a) tape)) (λ tape. eval w here st (Read' v n steps num) tape)
          (λ tape. then_then (steps_value w here st steps tape) (λ parts tape. Gives (within (here.base v) parts) tape) (λ a tape. Gives (st a) tape))
          (read_means x D L has one picked here.clock (ObjectAt (leaf num) 0) num t (λ tape. led w here st (here.base v) steps tape) st single
          (leads_place p fr x D L ok qs first num (place_roams p fr x D L ok v steps (leaf num) frame h.0 h.1.1)) place (number_has num)))
      means (Input k num) h = subst (λ (m : Meaning D.Env). Mean m (λ tape. read_input (range_of w k) tape)) (sym (input_meaning D x k num)) (input_means k num h)
      means (Prefix' op q num n (more_of-Expr a end_of-Expr)) h =
          subst (λ (m : Meaning D.Env). Mean m (λ tape. then_value (eval w here st a tape) (λ y tape. given q (arithmetic.prefixed op num y) tape))) (sym (prefix_meaning D x op q num (lowered p fr a)))
          (prefix_means x D L has one picked here.clock op q (type_of a) num (meaning D x (lowered p fr a)) (λ tape. eval w here st a tape) h.1.1 h.1.0 (fits a h.0) (means a h.0))
      means (Cast' q num n (more_of-Expr a end_of-Expr)) h =
          subst (λ (m : Meaning D.Env). Mean m (λ tape. then_value (eval w here st a tape) (λ y tape. given q (arithmetic.converted num y) tape))) (sym (cast_meaning D x q num (lowered p fr a)))
          (cast_means x D L has one picked here.clock q (type_of a) num (meaning D x (lowered p fr a)) (λ tape. eval w here st a tape) (fits a h) (means a h))
      means (Chain' n (more_of-Expr a end_of-Expr) m ls) h =
          subst (λ (m : Meaning D.Env). Mean m (λ tape. links_value w here st ls (eval w here st a tape))) (sym (chain_meaning D x (lowered p fr a) (lowered_links p fr ls)))
          (links_mean ls (type_of a) (meaning D x (lowered p fr a)) (λ tape. eval w here st a tape) (fits a h.0) (means a h.0) h.1)
      means (And' n (more_of-Expr a end_of-Expr) m rest) h =
          subst (λ (m : Meaning D.Env). Mean m (λ tape. and_value w here st rest (eval w here st a tape))) (sym (and_meaning D x (lowered p fr a) (all_lowered p fr rest)))
          (some_ands rest (type_of a) (meaning D x (lowered p fr a)) (λ tape. eval w here st a tape) (fits a h.0) (means a h.0) h.1)
      means (Or' n (more_of-Expr a end_of-Expr) m rest) h =
          subst (λ (m : Meaning D.Env). Mean m (λ tape. or_value w here st rest (eval w here st a tape))) (sym (or_meaning D x (lowered p fr a) (all_lowered p fr rest)))
          (some_ors rest (type_of a) (meaning D x (lowered p fr a)) (λ tape. eval w here st a tape) (fits a h.0) (means a h.0) h.1)
      means (Choice' n (more_of-Expr a end_of-Expr) m (more_of-Expr b end_of-Expr) l (more_of-Expr c end_of-Expr) num) h =
          subst (λ (m : Meaning D.Env). Mean m (λ tape. then_value (eval w here st a tape) (λ y tape. then_value (if is_zero y then eval w here st c tape else eval w here st b tape) (λ z tape. Gives (as_num num z) tape))))
          (sym (choice_meaning D x (lowered p fr a) (lowered p fr b) (lowered p fr c) num))
          (choice_means x D L has one picked here.clock (type_of a) (type_of b) (type_of c) num _ _ _ (λ tape. eval w here st a tape) (λ tape. eval w here st b tape) (λ tape. eval w here st c tape) h.1.0.1 h.1.1.1
          (fits a h.0) (fits b h.1.0.0) (fits c h.1.1.0) (means a h.0) (means b h.1.0.0) (means c h.1.1.0))

      links_mean : {n : _} (ls : Row_of-Link n) (left : Num) (m : Meaning D.Env) (go : List ℤ → Value ℤ) → Fit x D L left m → Mean m go → LinksWalk p ok left ls →
          Mean (after_links D x (lowered_links p fr ls) m) (λ tape. links_value w here st ls (go tape))
      links_mean end_of-Link left m go f g h = g
      links_mean (more_of-Link op q work b rest) left m go f g h =
          links_mean rest (result_type op work) (operation D op q work m (meaning D x (lowered p fr b))) (λ tape. then_value (go tape) (λ y tape. then_value (eval w here st b tape) (λ z tape. given q (operate op work y z) tape)))
          (operation_fit x D L op q left work (type_of b) m (meaning D x (lowered p fr b)) h.1.0 f (fits b h.0))
          (operation_means x D L has one picked here.clock op q left work (type_of b) m (meaning D x (lowered p fr b)) go (λ tape. eval w here st b tape) h.1.0 f (fits b h.0) g (means b h.0)) h.1.1

      some_ands : {n : _} (rest : Row_of-Expr n) (left : Num) (m : Meaning D.Env) (go : List ℤ → Value ℤ) → Fit x D L left m → Mean m go → SomeWalk p ok rest →
          Mean (after_ands D x (all_lowered p fr rest) m) (λ tape. and_value w here st rest (go tape))
      some_ands end_of-Expr left m go f g h = absurd h
      some_ands (more_of-Expr b rest) left m go f g h =
          more_ands b rest (and_of D m (meaning D x (lowered p fr b))) go (λ tape. eval w here st b tape) (and_fit x D L left (type_of b) m (meaning D x (lowered p fr b)) f (fits b h.0))
          (and_means x D L has one picked here.clock left (type_of b) m (meaning D x (lowered p fr b)) go (λ tape. eval w here st b tape) f (fits b h.0) g (means b h.0)) h.1

      -- the meaning of what stands before is that of two values
      more_ands : {n : _} (b : Expr) (rest : Row_of-Expr n) (m : Meaning D.Env) (go next : List ℤ → Value ℤ) → Fit x D L I32 m → Mean m (λ tape. and_then (go tape) (λ tape. and_then (next tape) (λ tape. Gives (pos 1) tape))) →
          AllWalk p ok rest → Mean (after_ands D x (all_lowered p fr rest) m) (λ tape. and_then (go tape) (λ tape. and_value w here st rest (next tape)))
      more_ands b end_of-Expr m go next f g h = g
      more_ands b (more_of-Expr c rest) m go next f g h =
          let before = λ (tape : List ℤ). and_then (go tape) (λ tape. and_then (next tape) (λ tape. Gives (pos 1) tape)) in
          means_same (after_ands D x (all_lowered p fr rest) (and_of D m (meaning D x (lowered p fr c)))) (λ tape. and_then (before tape) (λ tape. and_value w here st rest (eval w here st c tape)))
          (λ tape. and_then (go tape) (λ tape. and_then (next tape) (λ tape. and_value w here st rest (eval w here st c tape))))
          (λ tape. and_shift (go tape) next (λ tape. and_value w here st rest (eval w here st c tape)))
          (more_ands c rest (and_of D m (meaning D x (lowered p fr c))) before (λ tape. eval w here st c tape) (and_fit x D L I32 (type_of c) m (meaning D x (lowered p fr c)) f (fits c h.0))
          (and_means x D L has one picked here.clock I32 (type_of c) m (meaning D x (lowered p fr c)) before (λ tape. eval w here st c tape) f (fits c h.0) g (means c h.0)) h.1)

      some_ors : {n : _} (rest : Row_of-Expr n) (left : Num) (m : Meaning D.Env) (go : List ℤ → Value ℤ) → Fit x D L left m → Mean m go → SomeWalk p ok rest →
          Mean (after_ors D x (all_lowered p fr rest) m) (λ tape. or_value w here st rest (go tape))
      some_ors end_of-Expr left m go f g h = absurd h
      some_ors (more_of-Expr b rest) left m go f g h =
          more_ors b rest (or_of D m (meaning D x (lowered p fr b))) go (λ tape. eval w here st b tape) (or_fit x D L left (type_of b) m (meaning D x (lowered p fr b)) f (fits b h.0))
          (or_means x D L has one picked here.clock left (type_of b) m (meaning D x (lowered p fr b)) go (λ tape. eval w here st b tape) f (fits b h.0) g (means b h.0)) h.1

      more_ors : {n : _} (b : Expr) (rest : Row_of-Expr n) (m : Meaning D.Env) (go next : List ℤ → Value ℤ) → Fit x D L I32 m → Mean m (λ tape. or_else (go tape) (λ tape. or_else (next tape) (λ tape. Gives (pos 0) tape))) →
          AllWalk p ok rest → Mean (after_ors D x (all_lowered p fr rest) m) (λ tape. or_else (go tape) (λ tape. or_value w here st rest (next tape)))
      more_ors b end_of-Expr m go next f g h = g
      more_ors b (more_of-Expr c rest) m go next f g h =
          let before = λ (tape : List ℤ). or_else (go tape) (λ tape. or_else (next tape) (λ tape. Gives (pos 0) tape)) in
          means_same (after_ors D x (all_lowered p fr rest) (or_of D m (meaning D x (lowered p fr c)))) (λ tape. or_else (before tape) (λ tape. or_value w here st rest (eval w here st c tape)))
          (λ tape. or_else (go tape) (λ tape. or_else (next tape) (λ tape. or_value w here st rest (eval w here st c tape))))
          (λ tape. or_shift (go tape) next (λ tape. or_value w here st rest (eval w here st c tape)))
          (more_ors c rest (or_of D m (meaning D x (lowered p fr c))) before (λ tape. eval w here st c tape) (or_fit x D L I32 (type_of c) m (meaning D x (lowered p fr c)) f (fits c h.0))
          (or_means x D L has one picked here.clock I32 (type_of c) m (meaning D x (lowered p fr c)) before (λ tape. eval w here st c tape) f (fits c h.0) g (means c h.0)) h.1)

      steps_place : {n : _} (r : Row_of-Step n) (l k : Layout) (t : Target D.Env) (go : List ℤ → Value Place) → StepsWalk p ok r → steps_layout (Some l) r ≡ Some k → To (ObjectAt l (steps_cells l r)) t go →
          To (ObjectAt k 0) (after_rows D x (steps_rows p fr l r) t) (λ tape. then_value (go tape) (λ a tape. led w here st a r tape))
      steps_place end_of-Step l k t go s e h =
          let is : l ≡ k = cc in
          places_same (ObjectAt k 0) t go (λ tape. then_value (go tape) (λ a tape. led w here st a end_of-Step tape))
          (λ tape. sym (then_same (go tape) _ _ (λ a tape. led_end w here st a tape) ∙ then_given (go tape))) (subst (λ (k : Layout). To (ObjectAt k 0) t go) is h)
      steps_place (more_of-Step (At' q n j (more_of-Expr b end_of-Expr)) rest) l k t go s e h =
          step_leads l k (At' q n j (more_of-Expr b end_of-Expr)) rest e (λ m is g. row_step l m q n j b is (λ same.
          subst (λ (l : Layout). To (ObjectAt l (steps_cells l (more_of-Step (At' q n j (more_of-Expr b end_of-Expr)) rest))) t go →
          To (ObjectAt k 0) (after_rows D x (steps_rows p fr l (more_of-Step (At' q n j (more_of-Expr b end_of-Expr)) rest)) t)
          (λ tape. then_value (go tape) (λ a tape. led w here st a (more_of-Step (At' q n j (more_of-Expr b end_of-Expr)) rest) tape))) (sym same)
          (λ h. index_step q n b rest m k j t go (folded n b) refl (λ t go h. steps_place rest m k t go s.1 g h) (fits b s.0) (means b s.0) h) h))
      steps_place (more_of-Step (Field f) rest) l k t go s e h =
          step_leads l k (Field f) rest e (λ m is g. field_step l m f is (λ ls same fe.
          subst (λ (l : Layout). To (ObjectAt l (steps_cells l (more_of-Step (Field f) rest))) t go →
          To (ObjectAt k 0) (after_rows D x (steps_rows p fr l (more_of-Step (Field f) rest)) t) (λ tape. then_value (go tape) (λ a tape. led w here st a (more_of-Step (Field f) rest) tape))) (sym same)
          (λ h. field_steps f rest ls m k (or_nothing (nth_field ls f)) t go fe (field_is ls m f fe) (λ t go h. steps_place rest m k t go s.1 g h) h) h))

    -- where an access leads
    pub access : {n : _} (v : ℕ) (r : Row_of-Step n) (k : Layout) → ok v → StepsWalk p ok r → steps_layout (Some (layout_of p v)) r ≡ Some k →
        To (ObjectAt k 0) (after_rows D x (map kept_row (fr.base v).rows ++ steps_rows p fr (layout_of p v) r) (at_cell D ((fr.base v).first + steps_cells (layout_of p v) r))) (λ tape. led w here st (here.base v) r tape)
    access v r k o s e = access_by v r k o (λ t go q. steps_place r (layout_of p v) k t go s e q)
