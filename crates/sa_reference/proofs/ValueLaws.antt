-- What is evaluated lies in its span, or its error is an alarm; and spans stay in their types.
use Rattle.std.proofs.Common.{◌≡◌, ℕ, zero, suc, ◌+◌, ℤ, pos, negsuc, ◌≤ℤ◌, Bool, true, false, ◌&&◌, List, [], ◌∷◌, ◌++◌, refl, sym, ap, subst, ◌∙◌, arith, Option, Some, None, inl, append_assoc}
use Rattle.std.specs.Prelude.{if◌then◌else◌, get_or, IsTrue, slice_get, not, ◌||◌, ◌==◌, nat_lt, unsigned_abs, Result, Ok, Err, IsSomeAnd, IfSome, option_map}
use Rattle.std.specs.Int.RustNames.{int_le, int_lt}
use Rattle.std.proofs.lemmas.Int.{ints}
use Rattle.std.proofs.lemmas.Bool.Decides.{nat_tests}
use Rattle.sa_base.specs.Numbers.{num_lo, num_hi}
use Rattle.sa_base.specs.declared.num.Num.{Num}
use Rattle.sa_base.specs.declared.pos.Pos.{Pos}
use Rattle.sa_base.specs.declared.alarm.Alarm.{Alarm}
use Rattle.sa_base.specs.declared.alarm.Kind.{Kind}
use Rattle.sa_base.specs.declared.alarm.Kind.TheVariants.{Index}
use Rattle.sa_interval.specs.Span.{Span, Within}
use Rattle.sa_interval.specs.Rows.{single, join_of, meet_of, is_part}
use Rattle.sa_typed.specs.Arithmetic.{is_signed, is_of, operate, prefixed, converted, result_type, prefix_type}
use Rattle.sa_typed.specs.Layouts.{Layout, leaf, row, fields, step_into, layout_of}
use Rattle.sa_typed.specs.Evaluation.{Setting, Range, Value, Gives, Stops, Error, Blocked, Here, Store, then_value, given, read, is_in, range_of, checked_index, place_of, eval, links_value, steps_value, step_value}
use Rattle.sa_typed.specs.Cells.{Cell, cells}
use Rattle.sa_typed.specs.WellTyped.{type_of, links_type, converts, right_converts, typed_step, into, steps_layout, num_of_input, IsLink, IsTypedExpr, AreTypedLinks, AreTypedSteps, IsTypedStep}
use Rattle.sa_typed.specs.declared.expr.Expr.{Expr, Number, Read', Input, Prefix', Cast', Chain', And', Or', Choice', end_of-Expr, more_of-Expr, Row_of-Link, end_of-Link, more_of-Link, Row_of-Step, end_of-Step, more_of-Step}
use Rattle.sa_typed.specs.declared.expr.Step.{Step, At', Field}
use Rattle.sa_typed.specs.declared.expr.Operator.{Operator}
use Rattle.sa_typed.specs.declared.expr.Operator.TheVariants as o
use Rattle.sa_typed.specs.declared.shape.Part.{Part}
use Rattle.sa_typed.specs.declared.shape.Part.TheVariants as part
use Rattle.sa_typed.specs.declared.program.Input as program
use Rattle.sa_typed.specs.declared.program.Program.{Program}
use Rattle.sa_reference.specs.declared.flat.Flat.{Flat}
use Rattle.sa_reference.specs.declared.reach.Reach.{Reach}
use Rattle.sa_reference.specs.declared.reach.Reach.TheVariants as reach
use Rattle.sa_reference.specs.Passes.{alive_then}
use Rattle.sa_operators.specs.Operators.{IsIn, converted_span, conversion_alarms, operator_span, operator_alarms, prefix_span, prefix_alarms}
use Rattle.sa_operators.specs.OperatorLaws.{Suits, SuitsRight, IsSmallSpan, TypesAreSmall, OwnTypeSuits, UnsignedSuits, ConversionsCover, OperatorsCover, PrefixesCover, ConversionsStay, OperatorsStay, PrefixesStay}
use Rattle.sa_operators.specs.OperatorLaws as laws
use Rattle.sa_reference.specs.Environments.{AllHold}
use Rattle.sa_reference.specs.Fair.{AreIn}
use Rattle.sa_reference.specs.Values.{indices, named, named_from, cell_span, joined, input_span, with_one, with_both, linked, index_reach, span_of, links_span, reaches_of, reach_of, index_alarms, alarms_of, links_alarms, steps_alarms, step_alarms, reaches}
use Rattle.sa_reference.specs.Sound.{IsAmong, AliveAnd, IsWithin}
use Rattle.sa_reference.proofs.Laws.{IfAlive, Covers, main_here}
use Rattle.sa_reference.proofs.StepLaws.{among_left, among_right}
use Rattle.sa_reference.proofs.RunLaws.{covered_more}
use Rattle.sa_reference.proofs.SpanLaws.{meet_some, single_within, join_in, le_fact, and_left, and_right}
use Rattle.sa_reference.proofs.CellLaws.{parts_layout, Matches, MatchesStep, AllOf, place_cell, read_within, Tail, tail_next, tail_head, reaches_layout, HasNum, cells_num, of_program}

-- what is known of operators and conversions
pub record OperatorFacts : Type 0 where
  pub small : TypesAreSmall
  pub own : OwnTypeSuits
  pub unsigned : UnsignedSuits
  pub converts : ConversionsCover
  pub operates : OperatorsCover
  pub prefixes : PrefixesCover
  pub conversions_stay : ConversionsStay
  pub operators_stay : OperatorsStay
  pub prefixes_stay : PrefixesStay

-- ---- values
abbrev pub InSpan : Option Span → ℤ → Type 0
InSpan o z = AliveAnd (λ s. Within s z) o

pub more_covers : {A : Type 0} (P : A → Type 0) (some all : List Alarm) (v : Value A) → ((a : Alarm) → IsAmong a some → IsAmong a all) → Covers P some v → Covers P all v
more_covers P some all (Gives a tape) m h = h
more_covers P some all (Stops e) m h = covered_more some all e m h

-- one evaluation after another
pub then_covers : {A B : Type 0} (P : A → Type 0) (Q : B → Type 0) (some more all : List Alarm) (v : Value A) (go : A → List ℤ → Value B) → Covers P some v →
    ((a : Alarm) → IsAmong a some → IsAmong a all) → ((a : Alarm) → IsAmong a more → IsAmong a all) → ((a : A) (tape : List ℤ) → P a → Covers Q more (go a tape)) → Covers Q all (then_value v go)
then_covers P Q some more all (Gives a tape) go h s m k = more_covers Q more all (go a tape) m (k a tape h)
then_covers P Q some more all (Stops e) go h s m k = covered_more some all e s h

-- the same where both alarms are what stands one after the other
pub both_cover : {A B : Type 0} (P : A → Type 0) (Q : B → Type 0) (some more : List Alarm) (v : Value A) (go : A → List ℤ → Value B) → Covers P some v →
    ((a : A) (tape : List ℤ) → P a → Covers Q more (go a tape)) → Covers Q (some ++ more) (then_value v go)
both_cover P Q some more v go h k = then_covers P Q some more (some ++ more) v go h (λ a m. among_left a some more m) (λ a m. among_right a some more m) k

pub value_is : {A : Type 0} (P Q : A → Type 0) (alarms : List Alarm) (v : Value A) → Covers P alarms v → ((a : A) → P a → Q a) → Covers Q alarms v
value_is P Q alarms (Gives a tape) h k = k a h
value_is P Q alarms (Stops e) h k = h

some_is : (o : Option Span) (z : ℤ) → IsSomeAnd o (λ s. Within s z) → InSpan o z
some_is None z h = h
some_is (Some s) z h = h

some_in : (num : Num) (o : Option Span) → IfSome o (λ s. IsIn num s) → IfAlive (λ s. IsIn num s) o
some_in num None h = tt
some_in num (Some s) h = h

-- the number of an operation, or its error
pub given_covers : (p : Pos) (o : Option Span) (alarms : List Alarm) (r : Result ℤ Kind) (tape : List ℤ) → laws.Covers p o alarms r → Covers (InSpan o) alarms (given p r tape)
given_covers p o alarms (Ok z) tape h = some_is o z h
given_covers p o alarms (Err kind) tape h = h

-- ---- operands
or_cases : (a b : Bool) → (a || b) ≡ true → (a ≡ false → b ≡ true)
or_cases true b h e = cc
or_cases false b h e = h

signed_holds : (from to : Num) → IsTrue (converts from to) → is_signed to ≡ true → (num_lo to ≤ℤ num_lo from) × (num_hi from ≤ℤ num_hi to)
unfolding converts
signed_holds from to h s =
    let e : not (is_signed to) ≡ false = rw s refl in
    let k = or_cases (not (is_signed to)) _ h e in
    (le_fact _ _ (and_left (int_le (num_lo to) (num_lo from)) _ k), le_fact _ _ (and_right (int_le (num_lo to) (num_lo from)) _ k))

in_wider : (from to : Num) (s : Span) → num_lo to ≤ℤ num_lo from → num_hi from ≤ℤ num_hi to → IsIn from s → IsIn to s
in_wider from to s a b h =
    let x = h.part.above in
    let y = h.part.below in
    record { ordered = h.ordered; part = record { above = omega (arith, ints); below = omega (arith, ints) } }

module _ (F : OperatorFacts) where
  pub suits : (from to : Num) (s : Span) → IsTrue (converts from to) → IsIn from s → Suits to s
  suits from to s h k =
      elim (is_signed to) as (λ b. is_signed to ≡ b → Suits to s) [
        | true ↦ λ e. let w = signed_holds from to h e in F.own to s (in_wider from to s w.0 w.1 k)
        | false ↦ λ e. F.unsigned to s e (F.small from s k)
      ] refl

  pub suits_right : (op : Operator) (from to : Num) (s : Span) → IsTrue (right_converts op from to) → IsIn from s → SuitsRight op to s
  suits_right o.Plus from to s h k = suits from to s h k
  suits_right o.Minus from to s h k = suits from to s h k
  suits_right o.Times from to s h k = suits from to s h k
  suits_right o.Divide from to s h k = suits from to s h k
  suits_right o.Remainder from to s h k = suits from to s h k
  suits_right o.ShiftLeft from to s h k = F.small from s k
  suits_right o.ShiftRight from to s h k = F.small from s k
  suits_right o.BitAnd from to s h k = suits from to s h k
  suits_right o.BitXor from to s h k = suits from to s h k
  suits_right o.BitOr from to s h k = suits from to s h k
  suits_right o.Equal from to s h k = suits from to s h k
  suits_right o.NotEqual from to s h k = suits from to s h k
  suits_right o.Less from to s h k = suits from to s h k
  suits_right o.LessEqual from to s h k = suits from to s h k
  suits_right o.Greater from to s h k = suits from to s h k
  suits_right o.GreaterEqual from to s h k = suits from to s h k

  -- an operator whose operands may be missing
  pub link_in : (op : Operator) (left work right : Num) (a b : Option Span) → IsLink op left work right → IfAlive (λ s. IsIn left s) a → IfAlive (λ s. IsIn right s) b →
      IfAlive (λ s. IsIn (result_type op work) s) (linked op work a b)
  link_in op left work right None b l h k = tt
  link_in op left work right (Some a) None l h k = tt
  link_in op left work right (Some a) (Some b) l h k = some_in (result_type op work) (operator_span op work a b) (F.operators_stay op work a b (suits left work a l.first h) (suits_right op right work b l.second k))

  pub link_covers : (op : Operator) (q : Pos) (left work right : Num) (a b : Option Span) (x y : ℤ) (tape : List ℤ) → IsLink op left work right → IfAlive (λ s. IsIn left s) a → IfAlive (λ s. IsIn right s) b →
      InSpan a x → InSpan b y → Covers (InSpan (linked op work a b)) (with_both a b (operator_alarms op q work)) (given q (operate op work x y) tape)
  link_covers op q left work right None b x y tape l h k i j = absurd i
  link_covers op q left work right (Some a) None x y tape l h k i j = absurd j
  link_covers op q left work right (Some a) (Some b) x y tape l h k i j =
      given_covers q (operator_span op work a b) (operator_alarms op q work a b) (operate op work x y) tape (F.operates op q work a b x y (suits left work a l.first h) (suits_right op right work b l.second k) i j)

  prefix_covers : (op : _) (q : Pos) (from num : Num) (a : Option Span) (x : ℤ) (tape : List ℤ) → IsTrue (converts from num) → IfAlive (λ s. IsIn from s) a → InSpan a x →
      Covers (InSpan (alive_then a (prefix_span op num))) (with_one a (prefix_alarms op q num)) (given q (prefixed op num x) tape)
  prefix_covers op q from num None x tape c h i = absurd i
  prefix_covers op q from num (Some a) x tape c h i = given_covers q (prefix_span op num a) (prefix_alarms op q num a) (prefixed op num x) tape (F.prefixes op q num a x (suits from num a c h) i)

  prefix_in : (op : _) (from num : Num) (a : Option Span) → IsTrue (converts from num) → IfAlive (λ s. IsIn from s) a → IfAlive (λ s. IsIn (prefix_type op num) s) (alive_then a (prefix_span op num))
  prefix_in op from num None c h = tt
  prefix_in op from num (Some a) c h = some_in (prefix_type op num) (prefix_span op num a) (F.prefixes_stay op num a (suits from num a c h))

  pub convert_covers : (q : Pos) (from num : Num) (a : Option Span) (x : ℤ) (tape : List ℤ) → IfAlive (λ s. IsIn from s) a → InSpan a x →
      Covers (InSpan (alive_then a (converted_span num))) (with_one a (conversion_alarms num q)) (given q (converted num x) tape)
  convert_covers q from num None x tape h i = absurd i
  convert_covers q from num (Some a) x tape h i = given_covers q (converted_span num a) (conversion_alarms num q a) (converted num x) tape (F.converts num q a x (F.small from a h) i)

  pub convert_in : (from num : Num) (a : Option Span) → IfAlive (λ s. IsIn from s) a → IfAlive (λ s. IsIn num s) (alive_then a (converted_span num))
  convert_in from num None h = tt
  convert_in from num (Some a) h = some_in num (converted_span num a) (F.conversions_stay num a (F.small from a h))

-- ---- indices
index_part : (i : Span) (n : ℕ) (z : ℤ) → Within i z → (int_le (pos 0) z && int_lt z (pos n)) ≡ false → is_part i (indices n) ≡ false
index_part i n z h e = let a = h.above in let b = h.below in grind (arith, ints)

index_in : (n : ℕ) (z : ℤ) → (int_le (pos 0) z && int_lt z (pos n)) ≡ true → Within (indices n) z × (pos (unsigned_abs z) ≡ z)
index_in n z e = (record { above = grind (arith, ints); below = grind (arith, ints) }, grind (arith, ints))

-- an index of a row leads to its element
pub index_steps : (n : ℕ) (l : Layout) (z : ℤ) → (int_le (pos 0) z && int_lt z (pos n)) ≡ true → step_into (row n l) (part.At (unsigned_abs z)) ≡ Some l
unfolding step_into
index_steps n l (pos k) e = let t : nat_lt k n ≡ true = grind (arith, ints, nat_tests) in rw t refl
index_steps n l (negsuc k) e = cc

-- a step that is taken
abbrev pub Taken : Option Reach → Layout → Layout → Part → Type 0
Taken o l m s = AliveAnd (λ r. MatchesStep r s) o × (step_into l s ≡ Some m)

index_covers : (q : Pos) (n : ℕ) (l : Layout) (o : Option Span) (z : ℤ) (tape : List ℤ) → InSpan o z →
    Covers (Taken (index_reach n o) (row n l) l) (with_one o (index_alarms q n)) (then_value (checked_index q n z tape) (λ i tape. Gives (part.At i) tape))
index_covers q n l None z tape h = absurd h
index_covers q n l (Some i) z tape h =
    elim (int_le (pos 0) z && int_lt z (pos n)) as (λ b. (int_le (pos 0) z && int_lt z (pos n)) ≡ b →
    Covers (Taken (index_reach n (Some i)) (row n l) l) (index_alarms q n i) (then_value (if b then Gives (unsigned_abs z) tape else Stops (Error q Index)) (λ i tape. Gives (part.At i) tape))) [
      | true ↦ λ e. let k = index_in n z e in (reached (meet_of i (indices n)) (meet_some i (indices n) z h k.0) k.1, index_steps n l z e)
      | false ↦ λ e. rw (index_part i n z h e) (inl refl)
    ] refl
  where
    reached : (o : Option Span) → InSpan o z → pos (unsigned_abs z) ≡ z → AliveAnd (λ r. MatchesStep r (part.At (unsigned_abs z))) (option_map reach.At o)
    reached None k e = absurd k
    reached (Some s) k e = subst (λ (y : ℤ). Within s y) (sym e) k

-- ---- steps
steps_none : {n : _} (row : Row_of-Step n) → steps_layout None row ≡ None
unfolding steps_layout
steps_none end_of-Step = refl
steps_none (more_of-Step s rest) = steps_none rest

no_steps : {A : Type 0} {n : _} (row : Row_of-Step n) (l : Layout) → steps_layout None row ≡ Some l → A
no_steps r l h = let e = sym (steps_none r) ∙ h in cc

-- what a typed step leads to
pub step_leads : {A : Type 0} {n : _} (m l : Layout) (s : Step) (rest : Row_of-Step n) → steps_layout (into (Some m) s) rest ≡ Some l → ((k : Layout) → typed_step m s ≡ Some k → steps_layout (Some k) rest ≡ Some l → A) → A
step_leads {A = A} m l s rest h go =
    elim (typed_step m s) as (λ o. typed_step m s ≡ o → steps_layout o rest ≡ Some l → A) [
      | None ↦ λ e h. no_steps rest l h
      | Some k ↦ λ e h. go k e h
    ] refl h

pub row_step : {A : Type 0} (m k : Layout) (q : Pos) (n : ℕ) (j : _) (a : Expr) → typed_step m (At' q n j (more_of-Expr a end_of-Expr)) ≡ Some k → (m ≡ row n k → A) → A
row_step (leaf num) k q n j a h go = cc
row_step (fields ls) k q n j a h go = cc
row_step {A = A} (row m l) k q n j a h go =
    elim (m == n) as (λ b. (m == n) ≡ b → (if b then Some l else None) ≡ Some k → A) [
      | true ↦ λ e h. let same : m ≡ n = grind (arith, nat_tests) in let is : l ≡ k = cc in go (cc)
      | false ↦ λ e h. cc
    ] refl h

pub field_step : {A : Type 0} (m k : Layout) (f : ℕ) → typed_step m (Field f) ≡ Some k → (step_into m (part.Field f) ≡ Some k → A) → A
unfolding step_into
field_step (leaf num) k f h go = cc
field_step (row n l) k f h go = cc
field_step (fields ls) k f h go = go h

pub regroup : (a : Alarm) (some first second rest : List Alarm) → IsAmong a ((some ++ (first ++ second)) ++ rest) → IsAmong a (some ++ (first ++ (second ++ rest)))
regroup a some first second rest m =
    subst (λ (xs : List Alarm). IsAmong a xs) (append_assoc some (first ++ second) rest ∙ ap (λ (xs : List Alarm). some ++ xs) (append_assoc first second rest)) m

module _ (p : Program) (w : Setting) (F : OperatorFacts) (within : IsWithin p w) (env : Flat) (fair : AreIn (cells p) env.cells) where
  -- ---- what is read
  pub joined_in : (v : ℕ) (rs : List Reach) (num : Num) (cs : List Cell) (k : ℕ) (whole ss : List Span) → Tail k whole ss → AreIn cs ss →
      AllOf (λ c. c.var ≡ v → reaches rs c.steps ≡ true → c.num ≡ num) cs → IfAlive (λ s. IsIn num s) (joined whole (named_from k cs v rs))
  unfolding AreIn named_from joined
  joined_in v rs num [] k whole ss t h a = tt
  joined_in v rs num (c ∷ cs) k whole [] t h a = absurd h
  joined_in v rs num (c ∷ cs) k whole (s ∷ ss) t h a =
      let rest = joined_in v rs num cs (k + 1) whole ss (tail_next k whole s ss t) h.1 a.1 in
      elim (c.var == v && reaches rs c.steps) as (λ b. (c.var == v && reaches rs c.steps) ≡ b →
      IfAlive (λ s. IsIn num s) (joined whole (if b then k ∷ named_from (k + 1) cs v rs else named_from (k + 1) cs v rs))) [
        | true ↦ λ e.
            let first : (c.var == v) ≡ true = and_left (c.var == v) (reaches rs c.steps) e in
            let is : c.var ≡ v = grind (arith, nat_tests) in
            let same : c.num ≡ num = a.0 is (and_right (c.var == v) (reaches rs c.steps) e) in
            let here : IsIn num (cell_span whole k) = subst (λ (m : Num). IsIn m (cell_span whole k)) same (subst (λ (s : Span). IsIn c.num s) (sym (tail_head k whole s ss t)) h.0) in
            with_head (joined whole (named_from (k + 1) cs v rs)) (cell_span whole k) here rest
        | false ↦ λ e. rest
      ] refl
    where
      with_head : (o : Option Span) (s : Span) → IsIn num s → IfAlive (λ s. IsIn num s) o → IsIn num (elim o as (λ _. Span) [ None ↦ s | Some t ↦ join_of s t ])
      with_head None s h k = h
      with_head (Some t) s h k = join_in num s t h k

  all_of_is : {A : Type 0} (P Q : A → Type 0) (xs : List A) → ((a : A) → P a → Q a) → AllOf P xs → AllOf Q xs
  all_of_is P Q [] k h = tt
  all_of_is P Q (x ∷ xs) k h = (k x h.0, all_of_is P Q xs k h.1)

  -- each cell that an access to an element names is of its type
  pub named_num : (v : ℕ) (rs : List Reach) (num : Num) → reaches_layout (Some (layout_of p v)) rs ≡ Some (leaf num) →
      AllOf (λ c. c.var ≡ v → reaches rs c.steps ≡ true → c.num ≡ num) (cells p)
  named_num v rs num h =
      all_of_is _ _ (cells p) (λ c k e r. k rs num r (ap (λ (u : ℕ). reaches_layout (Some (layout_of p u)) rs) e ∙ h)) (of_program p (λ v. HasNum (layout_of p v)) (λ v. cells_num (layout_of p v)))

  -- what the steps of an access may take leads where they lead
  pub reach_follows : {n : _} (r : Row_of-Step n) (m l : Layout) → steps_layout (Some m) r ≡ Some l → IfAlive (λ rs. reaches_layout (Some m) rs ≡ Some l) (reaches_of p w env r)
  unfolding steps_layout eval span_of reaches_layout
  reach_follows end_of-Step m l h = h
  reach_follows (more_of-Step (At' q n j (more_of-Expr a end_of-Expr)) rest) m l h =
      step_leads m l (At' q n j (more_of-Expr a end_of-Expr)) rest h (λ k e g. row_step m k q n j a e (λ is.
      subst (λ (m : Layout). IfAlive (λ rs. reaches_layout (Some m) rs ≡ Some l) (alive_then (index_reach n (span_of p w env a)) (λ r. option_map (λ rs. r ∷ rs) (reaches_of p w env rest)))) (sym is)
      (index_first (span_of p w env a) (reaches_of p w env rest) k n (reach_follows rest k l g))))
    where
      index_first : (o : Option Span) (rs : Option (List Reach)) (k : Layout) (n : ℕ) → IfAlive (λ rs. reaches_layout (Some k) rs ≡ Some l) rs →
          IfAlive (λ rs. reaches_layout (Some (row n k)) rs ≡ Some l) (alive_then (index_reach n o) (λ r. option_map (λ rs. r ∷ rs) rs))
      index_first None rs k n h = tt
      index_first (Some i) rs k n h = met (meet_of i (indices n)) rs h
        where
          met : (o : Option Span) (rs : Option (List Reach)) → IfAlive (λ rs. reaches_layout (Some k) rs ≡ Some l) rs →
              IfAlive (λ rs. reaches_layout (Some (row n k)) rs ≡ Some l) (alive_then (option_map reach.At o) (λ r. option_map (λ rs. r ∷ rs) rs))
          met None rs h = tt
          met (Some s) None h = tt
          met (Some s) (Some rs) h = h
  reach_follows (more_of-Step (Field f) rest) m l h =
      step_leads m l (Field f) rest h (λ k e g. field_first (reaches_of p w env rest) m k e (reach_follows rest k l g))
    where
      field_first : (rs : Option (List Reach)) (m k : Layout) → typed_step m (Field f) ≡ Some k → IfAlive (λ rs. reaches_layout (Some k) rs ≡ Some l) rs →
          IfAlive (λ rs. reaches_layout (Some m) rs ≡ Some l) (option_map (λ rs. reach.Into f ∷ rs) rs)
      field_first None m k e h = tt
      field_first (Some rs) (leaf num) k e h = cc
      field_first (Some rs) (row n x) k e h = cc
      field_first (Some rs) (fields ls) k e h = ap (λ (o : Option Layout). reaches_layout o rs) e ∙ h

  whole : Tail 0 env.cells env.cells
  whole j = ap (λ (i : ℕ). cell_span env.cells i) (omega arith)

  -- what is read of the cells of an element's type
  pub read_stays : (v : ℕ) (rs : List Reach) (num : Num) → reaches_layout (Some (layout_of p v)) rs ≡ Some (leaf num) → IfAlive (λ s. IsIn num s) (joined env.cells (named p v rs))
  unfolding named
  read_stays v rs num h = joined_in v rs num (cells p) 0 env.cells env.cells whole fair (named_num v rs num h)

  some_get : {A : Type 0} (xs : List A) (k : ℕ) (a d : A) → slice_get xs k ≡ Some a → get_or xs k d ≡ a
  some_get [] k a d h = cc
  some_get (x ∷ xs) zero a d h = cc
  some_get (x ∷ xs) (suc k) a d h = some_get xs k a d h

  input_in : (k : ℕ) (num : Num) → num_of_input (slice_get p.inputs k) ≡ Some num → IsIn num (input_span w k)
  input_in k num h = from (slice_get p.inputs k) refl h
    where
      from : (o : Option program.Input) → slice_get p.inputs k ≡ o → num_of_input o ≡ Some num → IsIn num (input_span w k)
      from None e h = cc
      from (Some i) e h =
          let r = within.all k i e in
          let b = within.inputs k i r.0 e r.1 in
          let same : range_of w k ≡ r.0 = some_get w.inputs k r.0 _ r.1 in
          let is : i.num ≡ num = cc in
          subst (λ (x : Range). IsIn num (record { lo = x.lo; hi = x.hi })) (sym same)
          (subst (λ (m : Num). IsIn m (record { lo = r.0.lo; hi = r.0.hi })) is (record { ordered = b.1; part = record { above = b.0; below = b.2 } }))

  number_in : (n : ℕ) (num : Num) → IsTrue (is_of num (pos n)) → IsIn num (single (pos n))
  number_in n num h = record { ordered = omega (arith, ints); part = record { above = le_fact _ _ (and_left _ _ h); below = le_fact _ _ (and_right _ _ h) } }

  -- ---- spans stay in their types
  read_in : {n : _} (v : ℕ) (r : Row_of-Step n) (num : Num) → steps_layout (Some (layout_of p v)) r ≡ Some (leaf num) →
      IfAlive (λ s. IsIn num s) (alive_then (reaches_of p w env r) (λ rs. joined env.cells (named p v rs)))
  read_in v r num l = stay (reaches_of p w env r) (reach_follows r (layout_of p v) (leaf num) l)
    where
      stay : (o : Option (List Reach)) → IfAlive (λ rs. reaches_layout (Some (layout_of p v)) rs ≡ Some (leaf num)) o → IfAlive (λ s. IsIn num s) (alive_then o (λ rs. joined env.cells (named p v rs)))
      stay None h = tt
      stay (Some rs) h = read_stays v rs num h

  mutual
    unfolding span_of IsTypedExpr type_of links_type

    pub span_in : (e : Expr) → IsTypedExpr p e → IfAlive (λ s. IsIn (type_of e) s) (span_of p w env e)
    span_in (Number n num) t = number_in n num t
    span_in (Read' v n steps num) t = read_in v steps num t.1
    span_in (Input k num) t = input_in k num t
    span_in (Prefix' op q num n (more_of-Expr a end_of-Expr)) t = prefix_in F op (type_of a) num (span_of p w env a) t.1 (span_in a t.0)
    span_in (Cast' q num n (more_of-Expr a end_of-Expr)) t = convert_in F (type_of a) num (span_of p w env a) (span_in a t)
    span_in (Chain' n (more_of-Expr a end_of-Expr) m ls) t = links_in ls (type_of a) (span_of p w env a) t.1 (span_in a t.0)
    span_in (And' n a m rest) t = absurd t
    span_in (Or' n a m rest) t = absurd t
    span_in (Choice' n a m b l c num) t = absurd t

    pub links_in : {n : _} (ls : Row_of-Link n) (left : Num) (o : Option Span) → AreTypedLinks p left ls → IfAlive (λ s. IsIn left s) o → IfAlive (λ s. IsIn (links_type left ls) s) (links_span p w env ls o)
    links_in end_of-Link left o t h = h
    links_in (more_of-Link op q work b rest) left o t h =
        links_in rest (result_type op work) (linked op work o (span_of p w env b)) t.1.1 (link_in F op left work (type_of b) o (span_of p w env b) t.1.0 h (span_in b t.0))

module _ (p : Program) (w : Setting) (F : OperatorFacts) (within : IsWithin p w) (time : ℤ) (store : Store) (env : Flat) (fair : AreIn (cells p) env.cells) (holds : AllHold (cells p) env.cells store) where
  abbrev here : Here
  here = main_here time

  -- the parts that steps give are among those that an access may take
  abbrev pub StepsTaken : {n : _} → Row_of-Step n → Layout → Layout → List Part → Type 0
  StepsTaken r m l parts = AliveAnd (λ rs. Matches rs parts) (reaches_of p w env r) × (parts_layout (Some m) parts ≡ Some l)

  followed : (r : Option Reach) (rs : Option (List Reach)) (s : Part) (parts : List Part) → AliveAnd (λ r. MatchesStep r s) r → AliveAnd (λ rs. Matches rs parts) rs →
      AliveAnd (λ rs. Matches rs (s ∷ parts)) (alive_then r (λ r. option_map (λ rs. r ∷ rs) rs))
  unfolding Matches
  followed None rs s parts h k = absurd h
  followed (Some r) None s parts h k = absurd k
  followed (Some r) (Some rs) s parts h k = (h, k)

  -- a step, and then the rest
  step_then : {n : _} (m k l : Layout) (s : Step) (rest : Row_of-Step n) (tape : List ℤ) → Covers (Taken (reach_of p w env s) m k) (step_alarms p w env s) (step_value w here store s tape) →
      ((tape : List ℤ) → Covers (StepsTaken rest k l) (steps_alarms p w env rest) (steps_value w here store rest tape)) →
      Covers (StepsTaken (more_of-Step s rest) m l) (steps_alarms p w env (more_of-Step s rest)) (steps_value w here store (more_of-Step s rest) tape)
  unfolding eval span_of alarms_of parts_layout
  step_then m k l s rest tape h g =
      both_cover (Taken (reach_of p w env s) m k) (StepsTaken (more_of-Step s rest) m l) (step_alarms p w env s) (steps_alarms p w env rest) (step_value w here store s tape)
      (λ s tape. then_value (steps_value w here store rest tape) (λ parts tape. Gives (s ∷ parts) tape)) h
      (λ s tape t. value_then (steps_value w here store rest tape) s t (g tape))
    where
      value_then : (v : Value (List Part)) (q : Part) → Taken (reach_of p w env s) m k q → Covers (StepsTaken rest k l) (steps_alarms p w env rest) v →
          Covers (StepsTaken (more_of-Step s rest) m l) (steps_alarms p w env rest) (then_value v (λ parts tape. Gives (q ∷ parts) tape))
      value_then (Gives parts tape) q t h =
          (followed (reach_of p w env s) (reaches_of p w env rest) q parts t.0 h.0, ap (λ (o : Option Layout). parts_layout o parts) t.1 ∙ h.1)
      value_then (Stops e) q t h = h

  -- ---- expressions
  read_known : {n : _} (v : ℕ) (r : Row_of-Step n) (num : Num) (tape : List ℤ) →
      Covers (StepsTaken r (layout_of p v) (leaf num)) (steps_alarms p w env r) (steps_value w here store r tape) →
      Covers (InSpan (alive_then (reaches_of p w env r) (λ rs. joined env.cells (named p v rs)))) (steps_alarms p w env r)
      (then_value (steps_value w here store r tape) (λ parts tape. Gives (store (place_of here v parts)) tape))
  unfolding named
  read_known v r num tape c =
      then_covers (StepsTaken r (layout_of p v) (leaf num)) (InSpan (alive_then (reaches_of p w env r) (λ rs. joined env.cells (named p v rs)))) (steps_alarms p w env r) []
      (steps_alarms p w env r) (steps_value w here store r tape) (λ parts tape. Gives (store (place_of here v parts)) tape) c (λ a m. m) (λ a m. absurd m)
      (λ parts tape t. within_read (reaches_of p w env r) parts t.0 t.1)
    where
      all : Tail 0 env.cells env.cells
      all j = ap (λ (i : ℕ). cell_span env.cells i) (omega arith)

      within_read : (o : Option (List Reach)) (parts : List Part) → AliveAnd (λ rs. Matches rs parts) o → parts_layout (Some (layout_of p v)) parts ≡ Some (leaf num) →
          InSpan (alive_then o (λ rs. joined env.cells (named p v rs))) (store (place_of here v parts))
      within_read None parts m l = absurd m
      within_read (Some rs) parts m l = read_within v rs parts m store (cells p) 0 env.cells env.cells all holds (place_cell p v parts num l)

  read_input : (r : Range) (tape : List ℤ) → Covers (λ z. Within (record { lo = r.lo; hi = r.hi }) z) [] (read r tape)
  read_input r [] = tt
  read_input r (z ∷ tape) =
      elim (is_in r z) as (λ b. is_in r z ≡ b → Covers (λ z. Within (record { lo = r.lo; hi = r.hi }) z) [] (if b then Gives z tape else Stops Blocked)) [
        | true ↦ λ e. record { above = le_fact r.lo z (and_left _ _ e); below = le_fact z r.hi (and_right _ _ e) }
        | false ↦ λ e. tt
      ] refl

  mutual
    unfolding eval span_of alarms_of IsTypedExpr type_of links_type steps_layout parts_layout Matches

    pub known : (e : Expr) → IsTypedExpr p e → (tape : List ℤ) → Covers (InSpan (span_of p w env e)) (alarms_of p w env e) (eval w here store e tape)
    known (Number n num) t tape = single_within (pos n)
    known (Read' v n steps num) t tape = read_known v steps num tape (steps_known steps (layout_of p v) (leaf num) t.0 t.1 tape)
    known (Input k num) t tape = read_input (range_of w k) tape
    known (Prefix' op q num n (more_of-Expr a end_of-Expr)) t tape =
        both_cover (InSpan (span_of p w env a)) (InSpan (alive_then (span_of p w env a) (prefix_span op num))) (alarms_of p w env a) (with_one (span_of p w env a) (prefix_alarms op q num))
        (eval w here store a tape) (λ x tape. given q (prefixed op num x) tape) (known a t.0 tape)
        (λ x tape i. prefix_covers F op q (type_of a) num (span_of p w env a) x tape t.1 (span_in p w F within env fair a t.0) i)
    known (Cast' q num n (more_of-Expr a end_of-Expr)) t tape =
        both_cover (InSpan (span_of p w env a)) (InSpan (alive_then (span_of p w env a) (converted_span num))) (alarms_of p w env a) (with_one (span_of p w env a) (conversion_alarms num q))
        (eval w here store a tape) (λ x tape. given q (converted num x) tape) (known a t tape)
        (λ x tape i. convert_covers F q (type_of a) num (span_of p w env a) x tape (span_in p w F within env fair a t) i)
    known (Chain' n (more_of-Expr a end_of-Expr) m ls) t tape =
        links_known ls (type_of a) (span_of p w env a) (alarms_of p w env a) (eval w here store a tape) t.1 (span_in p w F within env fair a t.0) (known a t.0 tape)
    known (And' n a m rest) t tape = absurd t
    known (Or' n a m rest) t tape = absurd t
    known (Choice' n a m b l c num) t tape = absurd t

    links_known : {n : _} (ls : Row_of-Link n) (left : Num) (o : Option Span) (some : List Alarm) (v : Value ℤ) → AreTypedLinks p left ls → IfAlive (λ s. IsIn left s) o → Covers (InSpan o) some v →
        Covers (InSpan (links_span p w env ls o)) (some ++ links_alarms p w env ls o) (links_value w here store ls v)
    links_known end_of-Link left o some v t h c = more_covers (InSpan o) some (some ++ []) v (λ a m. among_left a some [] m) c
    links_known (more_of-Link op q work b rest) left o some v t h c =
        let kb = span_in p w F within env fair b t.0 in
        let first = alarms_of p w env b in
        let second = with_both o (span_of p w env b) (operator_alarms op q work) in
        let next = linked op work o (span_of p w env b) in
        let step = both_cover (InSpan o) (InSpan next) some (first ++ second) v (λ x tape. then_value (eval w here store b tape) (λ y tape. given q (operate op work x y) tape)) c
        (λ x tape i. both_cover (InSpan (span_of p w env b)) (InSpan next) first second (eval w here store b tape) (λ y tape. given q (operate op work x y) tape) (known b t.0 tape)
        (λ y tape j. link_covers F op q left work (type_of b) o (span_of p w env b) x y tape t.1.0 h kb i j)) in
        let k = links_known rest (result_type op work) next (some ++ (first ++ second)) (then_value v (λ x tape. then_value (eval w here store b tape) (λ y tape. given q (operate op work x y) tape)))
        t.1.1 (link_in F op left work (type_of b) o (span_of p w env b) t.1.0 h kb) step in
        more_covers (InSpan (links_span p w env rest next)) ((some ++ (first ++ second)) ++ links_alarms p w env rest next) (some ++ (first ++ (second ++ links_alarms p w env rest next)))
        (links_value w here store rest (then_value v (λ x tape. then_value (eval w here store b tape) (λ y tape. given q (operate op work x y) tape))))
        (λ a m. regroup a some first second (links_alarms p w env rest next) m) k

    pub steps_known : {n : _} (r : Row_of-Step n) (m l : Layout) → AreTypedSteps p r → steps_layout (Some m) r ≡ Some l → (tape : List ℤ) →
        Covers (StepsTaken r m l) (steps_alarms p w env r) (steps_value w here store r tape)
    steps_known end_of-Step m l t h tape = (tt, h)
    steps_known (more_of-Step s rest) m l t h tape =
        step_leads m l s rest h (λ k e g. step_then m k l s rest tape (step_known s m k t.0 e tape) (steps_known rest k l t.1 g))

    step_known : (s : Step) (m k : Layout) → IsTypedStep p s → typed_step m s ≡ Some k → (tape : List ℤ) → Covers (Taken (reach_of p w env s) m k) (step_alarms p w env s) (step_value w here store s tape)
    step_known (At' q n j (more_of-Expr a end_of-Expr)) m k t e tape =
        row_step m k q n j a e (λ is. subst (λ (m : Layout). Covers (Taken (index_reach n (span_of p w env a)) m k) (step_alarms p w env (At' q n j (more_of-Expr a end_of-Expr)))
        (step_value w here store (At' q n j (more_of-Expr a end_of-Expr)) tape)) (sym is)
        (both_cover (InSpan (span_of p w env a)) (Taken (index_reach n (span_of p w env a)) (row n k) k) (alarms_of p w env a) (with_one (span_of p w env a) (index_alarms q n))
        (eval w here store a tape) (λ i tape. then_value (checked_index q n i tape) (λ i tape. Gives (part.At i) tape)) (known a t tape)
        (λ z tape i. index_covers q n k (span_of p w env a) z tape i)))
    step_known (Field f) m k t e tape = field_step m k f e (λ h. (refl, h))
