-- Accesses whose indices are all constant lead to one place, and the cells that they name stand in the order of the cells of
-- what they lead to.
use Rattle.std.proofs.lemmas.Bool.Decides.{nat_tests}
use Rattle.std.proofs.Common.{◌≡◌, ℕ, zero, suc, ◌+◌, ◌<◌, ◌≤◌, ℤ, pos, Bool, true, false, ◌&&◌, List, [], ◌∷◌, ◌++◌, refl, sym, ap, subst, ◌∙◌, arith, Option, Some, None, append-nil}
use Rattle.std.specs.Prelude.{if◌then◌else◌, ◌==◌, nat_lt, nat_le, option_map, unsigned_abs, Result, Ok, Err}
use Rattle.std.specs.Int.RustNames.{int_le, int_lt}
use Rattle.std.proofs.lemmas.Int.{ints}
use Rattle.sa_base.specs.declared.pos.Pos.{Pos}
use Rattle.sa_base.specs.declared.alarm.Kind.{Kind}
use Rattle.sa_base.specs.declared.alarm.Kind.TheVariants.{Index}
use Rattle.sa_interval.specs.Span.{Span, Within}
use Rattle.sa_interval.specs.Rows.{single}
use Rattle.sa_base.specs.declared.num.Num.{Num}
use Rattle.sa_typed.specs.Arithmetic.{operate, prefixed, converted, as_num}
use Rattle.sa_typed.specs.Layouts.{Layout, Layouts, leaf, row, fields, no_field, field, step_into, nth_field}
use Rattle.sa_typed.specs.Evaluation.{Setting, Value, Gives, Stops, Error, Here, Store, then_value, given, checked_index, is_zero, and_then, or_else, eval, and_value, or_value, links_value, steps_value, step_value}
use Rattle.sa_typed.specs.Constants.{is_constant, all_are_constant, are_constant, constant_value, constant_ands, constant_ors, constant_links, then_ok, and_ok, or_ok, chosen_ok, element_of, fixed_index, is_fixed}
use Rattle.sa_typed.specs.WellTyped.{are_fixed}
use Rattle.sa_typed.specs.Cells.{Inner, one, all, of, behind, all_behind, each_behind, inner_cells, field_cells, most_elements}
use Rattle.sa_typed.specs.Cells as cell
use Rattle.sa_typed.specs.declared.expr.Expr.{Expr, Number, Read', Input, Prefix', Cast', Chain', And', Or', Choice', end_of-Expr, more_of-Expr, Row_of-Expr, Row_of-Link, end_of-Link, more_of-Link, Row_of-Step, end_of-Step, more_of-Step}
use Rattle.sa_typed.specs.declared.expr.Step.{Step, At', Field}
use Rattle.sa_typed.specs.declared.shape.Part.{Part}
use Rattle.sa_typed.specs.declared.shape.Part.TheVariants as part
use Rattle.sa_reference.specs.declared.reach.Reach.{Reach}
use Rattle.sa_reference.specs.declared.reach.Reach.TheVariants as reach
use Rattle.sa_reference.specs.Passes.{alive_then}
use Rattle.sa_reference.specs.Values.{reaches_step, reaches, fixed_reach, fixed_reaches}
use Rattle.sa_reference.specs.Sound.{AliveAnd}
use Rattle.sa_reference.proofs.SpanLaws.{and_left, and_right, single_within}
use Rattle.sa_reference.proofs.CellLaws.{parts_layout, none_is, Matches}

-- ---- constant expressions have one value
-- the value is this, where there is one
abbrev pub Agrees : Result ℤ Kind → Value ℤ → Type 0
Agrees r (Gives z tape) = r ≡ Ok z
Agrees r (Stops e) = Unit {0}

-- P holds of the value, where there is one
abbrev pub On : {A : Type 0} → (A → Type 0) → Value A → Type 0
On P (Gives a tape) = P a
On P (Stops e) = Unit {0}

given_agrees : (p : Pos) (r : Result ℤ Kind) (tape : List ℤ) → Agrees r (given p r tape)
given_agrees p (Ok z) tape = refl
given_agrees p (Err kind) tape = tt

then_agrees : (r : Result ℤ Kind) (v : Value ℤ) (f : ℤ → Result ℤ Kind) (p : Pos) → Agrees r v → Agrees (then_ok r f) (then_value v (λ x tape. given p (f x) tape))
then_agrees r (Gives z tape) f p h = rw h (given_agrees p (f z) tape)
then_agrees r (Stops e) f p h = tt

two_agree : (r s : Result ℤ Kind) (v : Value ℤ) (w : List ℤ → Value ℤ) (f : ℤ → ℤ → Result ℤ Kind) (p : Pos) → Agrees r v → ((tape : List ℤ) → Agrees s (w tape)) →
    Agrees (then_ok r (λ x. then_ok s (f x))) (then_value v (λ x tape. then_value (w tape) (λ y tape. given p (f x y) tape)))
two_agree r s (Gives z tape) w f p h k = rw h (then_agrees s (w tape) (f z) p (k tape))
two_agree r s (Stops e) w f p h k = tt

if_agrees : (b : Bool) (r s : Result ℤ Kind) (v w : Value ℤ) → Agrees r v → Agrees s w → Agrees (if b then r else s) (if b then v else w)
if_agrees true r s v w h k = h
if_agrees false r s v w h k = k

-- the right part of `&&` or `||` where it counts
and_agrees : (r s : Result ℤ Kind) (v : Value ℤ) (go : List ℤ → Value ℤ) → Agrees r v → ((tape : List ℤ) → Agrees s (go tape)) → Agrees (and_ok r s) (and_then v go)
and_agrees r s (Gives z tape) go h k = rw h (if_agrees (is_zero z) (Ok (pos 0)) s (Gives (pos 0) tape) (go tape) refl (k tape))
and_agrees r s (Stops e) go h k = tt

or_agrees : (r s : Result ℤ Kind) (v : Value ℤ) (go : List ℤ → Value ℤ) → Agrees r v → ((tape : List ℤ) → Agrees s (go tape)) → Agrees (or_ok r s) (or_else v go)
or_agrees r s (Gives z tape) go h k = rw h (if_agrees (is_zero z) s (Ok (pos 1)) (go tape) (Gives (pos 1) tape) (k tape) refl)
or_agrees r s (Stops e) go h k = tt

choice_agrees : (num : Num) (r first second : Result ℤ Kind) (v : Value ℤ) (f s : List ℤ → Value ℤ) → Agrees r v → ((tape : List ℤ) → Agrees first (f tape)) → ((tape : List ℤ) → Agrees second (s tape)) →
    Agrees (chosen_ok num r first second) (then_value v (λ x tape. then_value (if is_zero x then s tape else f tape) (λ y tape. Gives (as_num num y) tape)))
choice_agrees num r first second (Gives z tape) f s h k l =
    rw h (last _ _ (if_agrees (is_zero z) second first (s tape) (f tape) (l tape) (k tape)))
  where
    last : (r : Result ℤ Kind) (v : Value ℤ) → Agrees r v → Agrees (then_ok r (λ z. Ok (as_num num z))) (then_value v (λ y tape. Gives (as_num num y) tape))
    last r (Gives y tape) h = rw h refl
    last r (Stops e) h = tt
choice_agrees num r first second (Stops e) f s h k l = tt

-- the step that is taken is this one
abbrev pub IsExactly : Reach → Part → Type 0
IsExactly (reach.At s) (part.At i) = s ≡ single (pos i)
IsExactly (reach.At s) (part.Field f) = ⊥
IsExactly (reach.Into f) (part.At i) = ⊥
IsExactly (reach.Into f) (part.Field g) = f ≡ g

module _ (w : Setting) (here : Here) (store : Store) where
  mutual
    unfolding eval is_constant constant_value

    pub agrees : (e : Expr) → is_constant e ≡ true → (tape : List ℤ) → Agrees (constant_value e) (eval w here store e tape)
    agrees (Number n num) h tape = refl
    agrees (Read' v n steps num) h tape = cc
    agrees (Input k num) h tape = cc
    agrees (Prefix' op p num n (more_of-Expr a end_of-Expr)) h tape = then_agrees (constant_value a) (eval w here store a tape) (prefixed op num) p (agrees a h tape)
    agrees (Cast' p num n (more_of-Expr a end_of-Expr)) h tape = then_agrees (constant_value a) (eval w here store a tape) (converted num) p (agrees a h tape)
    agrees (Chain' n (more_of-Expr a end_of-Expr) m ls) h tape =
        links_agree ls (and_right (is_constant a) (are_constant ls) h) (constant_value a) (eval w here store a tape) (agrees a (and_left (is_constant a) (are_constant ls) h) tape)
    agrees (And' n (more_of-Expr a end_of-Expr) m rest) h tape =
        ands_agree rest (and_right (is_constant a) (all_are_constant rest) h) (constant_value a) (eval w here store a tape) (agrees a (and_left (is_constant a) (all_are_constant rest) h) tape)
    agrees (Or' n (more_of-Expr a end_of-Expr) m rest) h tape =
        ors_agree rest (and_right (is_constant a) (all_are_constant rest) h) (constant_value a) (eval w here store a tape) (agrees a (and_left (is_constant a) (all_are_constant rest) h) tape)
    agrees (Choice' n (more_of-Expr a end_of-Expr) m (more_of-Expr b end_of-Expr) l (more_of-Expr c end_of-Expr) num) h tape =
        let k = and_right (is_constant a) (is_constant b && is_constant c) h in
        choice_agrees num (constant_value a) (constant_value b) (constant_value c) (eval w here store a tape) (λ tape. eval w here store b tape) (λ tape. eval w here store c tape)
        (agrees a (and_left (is_constant a) (is_constant b && is_constant c) h) tape)
        (λ tape. agrees b (and_left (is_constant b) (is_constant c) k) tape) (λ tape. agrees c (and_right (is_constant b) (is_constant c) k) tape)

    ands_agree : {n : _} (rest : Row_of-Expr n) → all_are_constant rest ≡ true → (r : Result ℤ Kind) (v : Value ℤ) → Agrees r v → Agrees (constant_ands rest r) (and_value w here store rest v)
    ands_agree end_of-Expr h r v a = and_agrees r (Ok (pos 1)) v (λ tape. Gives (pos 1) tape) a (λ tape. refl)
    ands_agree (more_of-Expr b rest) h r v a =
        and_agrees r (constant_ands rest (constant_value b)) v (λ tape. and_value w here store rest (eval w here store b tape)) a
        (λ tape. ands_agree rest (and_right (is_constant b) (all_are_constant rest) h) (constant_value b) (eval w here store b tape) (agrees b (and_left (is_constant b) (all_are_constant rest) h) tape))

    ors_agree : {n : _} (rest : Row_of-Expr n) → all_are_constant rest ≡ true → (r : Result ℤ Kind) (v : Value ℤ) → Agrees r v → Agrees (constant_ors rest r) (or_value w here store rest v)
    ors_agree end_of-Expr h r v a = or_agrees r (Ok (pos 0)) v (λ tape. Gives (pos 0) tape) a (λ tape. refl)
    ors_agree (more_of-Expr b rest) h r v a =
        or_agrees r (constant_ors rest (constant_value b)) v (λ tape. or_value w here store rest (eval w here store b tape)) a
        (λ tape. ors_agree rest (and_right (is_constant b) (all_are_constant rest) h) (constant_value b) (eval w here store b tape) (agrees b (and_left (is_constant b) (all_are_constant rest) h) tape))

    links_agree : {n : _} (ls : Row_of-Link n) → are_constant ls ≡ true → (r : Result ℤ Kind) (v : Value ℤ) → Agrees r v → Agrees (constant_links ls r) (links_value w here store ls v)
    links_agree end_of-Link h r v a = a
    links_agree (more_of-Link op p num b rest) h r v a =
        links_agree rest (and_right (is_constant b) (are_constant rest) h) (then_ok r (λ x. then_ok (constant_value b) (operate op num x)))
        (then_value v (λ x tape. then_value (eval w here store b tape) (λ y tape. given p (operate op num x y) tape)))
        (two_agree r (constant_value b) v (λ tape. eval w here store b tape) (operate op num) p a (λ tape. agrees b (and_left (is_constant b) (are_constant rest) h) tape))

  -- ---- steps
  index_exact : (q : Pos) (n : ℕ) (r : Result ℤ Kind) (v : Value ℤ) → Agrees r v →
      On (λ s. AliveAnd (λ x. IsExactly x s) (option_map (λ i. reach.At (single (pos i))) (element_of n r))) (then_value v (λ i tape. then_value (checked_index q n i tape) (λ i tape. Gives (part.At i) tape)))
  index_exact q n r (Stops e) h = tt
  index_exact q n r (Gives z tape) h =
      rw h (elim (int_le (pos 0) z && int_lt z (pos n)) as (λ b. On (λ s. AliveAnd (λ x. IsExactly x s) (option_map (λ i. reach.At (single (pos i))) (if b then Some (unsigned_abs z) else None)))
      (then_value (if b then Gives (unsigned_abs z) tape else Stops (Error q Index)) (λ i tape. Gives (part.At i) tape))) [
        | true ↦ refl
        | false ↦ tt
      ])

  step_exact : (s : Step) → is_fixed s ≡ true → (tape : List ℤ) → On (λ x. AliveAnd (λ r. IsExactly r x) (fixed_reach s)) (step_value w here store s tape)
  unfolding is_fixed fixed_reach fixed_index eval
  step_exact (At' q n m (more_of-Expr a end_of-Expr)) h tape = index_exact q n (constant_value a) (eval w here store a tape) (agrees a h tape)
  step_exact (Field f) h tape = refl

-- an access takes just these parts
unfoldable pub Exactly : List Reach → List Part → Type 0
Exactly [] [] = Unit {0}
Exactly [] (x ∷ xs) = ⊥
Exactly (r ∷ rs) [] = ⊥
Exactly (r ∷ rs) (x ∷ xs) = IsExactly r x × Exactly rs xs

abbrev pub Fixed : {n : _} → Row_of-Step n → List Part → Type 0
Fixed r ps = AliveAnd (λ rs. Exactly rs ps) (fixed_reaches r)

more_exact : {n : _} (s : Step) (rest : Row_of-Step n) (x : Part) (xs : List Part) → AliveAnd (λ r. IsExactly r x) (fixed_reach s) → Fixed rest xs → Fixed (more_of-Step s rest) (x ∷ xs)
unfolding fixed_reaches Exactly
more_exact s rest x xs h k = both (fixed_reach s) (fixed_reaches rest) h k
  where
    both : (o : Option Reach) (rs : Option (List Reach)) → AliveAnd (λ r. IsExactly r x) o → AliveAnd (λ rs. Exactly rs xs) rs →
        AliveAnd (λ rs. Exactly rs (x ∷ xs)) (alive_then o (λ r. option_map (λ rs. r ∷ rs) rs))
    both None rs h k = absurd h
    both (Some r) None h k = absurd k
    both (Some r) (Some rs) h k = exact_more h k
      where
        exact_more : IsExactly r x → Exactly rs xs → Exactly (r ∷ rs) (x ∷ xs)
        exact_more h k = (h, k)

module _ (w : Setting) (here : Here) (store : Store) where
  pub steps_exact : {n : _} (r : Row_of-Step n) → are_fixed r ≡ true → (tape : List ℤ) → On (Fixed r) (steps_value w here store r tape)
  unfolding are_fixed eval fixed_reaches Exactly
  steps_exact end_of-Step h tape = tt
  steps_exact (more_of-Step s rest) h tape =
      first (step_value w here store s tape) (step_exact w here store s (and_left (is_fixed s) (are_fixed rest) h) tape)
      (λ tape. steps_exact rest (and_right (is_fixed s) (are_fixed rest) h) tape)
    where
      first : (v : Value Part) → On (λ x. AliveAnd (λ r. IsExactly r x) (fixed_reach s)) v → ((tape : List ℤ) → On (Fixed rest) (steps_value w here store rest tape)) →
          On (Fixed (more_of-Step s rest)) (then_value v (λ x tape. then_value (steps_value w here store rest tape) (λ xs tape. Gives (x ∷ xs) tape)))
      first (Stops e) h k = tt
      first (Gives x tape) h k = second (steps_value w here store rest tape) (k tape)
        where
          second : (v : Value (List Part)) → On (Fixed rest) v → On (Fixed (more_of-Step s rest)) (then_value v (λ xs tape. Gives (x ∷ xs) tape))
          second (Stops e) k = tt
          second (Gives xs tape) k = more_exact s rest x xs h k

-- what is exact matches
pub exact_matches : (rs : List Reach) (ps rest : List Part) → Exactly rs ps → Matches rs (ps ++ rest)
unfolding Exactly Matches
exact_matches [] [] rest h = tt
exact_matches [] (p ∷ ps) rest h = absurd h
exact_matches (r ∷ rs) [] rest h = absurd h
exact_matches (reach.At s ∷ rs) (part.At i ∷ ps) rest h = (subst (λ (t : Span). Within t (pos i)) (sym h.0) (single_within (pos i)), exact_matches rs ps rest h.1)
exact_matches (reach.At s ∷ rs) (part.Field f ∷ ps) rest h = absurd h.0
exact_matches (reach.Into f ∷ rs) (part.At i ∷ ps) rest h = absurd h.0
exact_matches (reach.Into f ∷ rs) (part.Field g ∷ ps) rest h = (h.0, exact_matches rs ps rest h.1)

-- ---- the cells below a place
-- the cells of a list that such an access names
unfoldable pub taken : List Reach → List Inner → List Inner
taken rs [] = []
taken rs (c ∷ cs) = if reaches rs c.steps then c ∷ taken rs cs else taken rs cs

-- cells with steps before theirs
unfoldable pub prefixed_by : List cell.Step → List Inner → List Inner
prefixed_by ss [] = []
prefixed_by ss (c ∷ cs) = record { steps = ss ++ c.steps; num = c.num } ∷ prefixed_by ss cs

-- the steps of cells to a place
abbrev pub step_to : Layout → Part → cell.Step
step_to (row n l) (part.At i) = if nat_le n most_elements then one i else all n
step_to (row n l) (part.Field f) = of f
step_to (leaf num) x = of 0
step_to (fields ls) (part.At i) = of i
step_to (fields ls) (part.Field f) = of f

abbrev pub within : Option Layout → Layout
within None = fields no_field
within (Some l) = l

unfoldable pub steps_to : Layout → List Part → List cell.Step
steps_to l [] = []
steps_to l (x ∷ xs) = step_to l x ∷ steps_to (within (step_into l x)) xs

taken_append : (rs : List Reach) (xs ys : List Inner) → taken rs (xs ++ ys) ≡ taken rs xs ++ taken rs ys
unfolding taken
taken_append rs [] ys = refl
taken_append rs (c ∷ cs) ys =
    elim (reaches rs c.steps) as (λ b. (if b then c ∷ taken rs (cs ++ ys) else taken rs (cs ++ ys)) ≡ (if b then c ∷ taken rs cs else taken rs cs) ++ taken rs ys) [
      | true ↦ ap (λ (zs : List Inner). c ∷ zs) (taken_append rs cs ys)
      | false ↦ taken_append rs cs ys
    ]

taken_all : (cs : List Inner) → taken [] cs ≡ cs
unfolding taken reaches
taken_all [] = refl
taken_all (c ∷ cs) = ap (λ (zs : List Inner). c ∷ zs) (taken_all cs)

prefixed_none : (cs : List Inner) → prefixed_by [] cs ≡ cs
unfolding prefixed_by
prefixed_none [] = refl
prefixed_none (c ∷ cs) = ap (λ (zs : List Inner). c ∷ zs) (prefixed_none cs)

prefixed_more : (s : cell.Step) (ss : List cell.Step) (cs : List Inner) → all_behind s (prefixed_by ss cs) ≡ prefixed_by (s ∷ ss) cs
unfolding prefixed_by all_behind
prefixed_more s ss [] = refl
prefixed_more s ss (c ∷ cs) = ap (λ (zs : List Inner). record { steps = s ∷ (ss ++ c.steps); num = c.num } ∷ zs) (prefixed_more s ss cs)

-- behind a step that the access takes, and behind another one
taken_behind : (r : Reach) (rs : List Reach) (s : cell.Step) (cs : List Inner) → reaches_step r s ≡ true → taken (r ∷ rs) (all_behind s cs) ≡ all_behind s (taken rs cs)
unfolding taken all_behind reaches
taken_behind r rs s [] h = refl
taken_behind r rs s (c ∷ cs) h =
    rw h (elim (reaches rs c.steps) as (λ b. (if b then behind s c ∷ taken (r ∷ rs) (all_behind s cs) else taken (r ∷ rs) (all_behind s cs)) ≡ all_behind s (if b then c ∷ taken rs cs else taken rs cs)) [
      | true ↦ ap (λ (zs : List Inner). behind s c ∷ zs) (taken_behind r rs s cs h)
      | false ↦ taken_behind r rs s cs h
    ])

none_behind : (r : Reach) (rs : List Reach) (s : cell.Step) (cs : List Inner) → reaches_step r s ≡ false → taken (r ∷ rs) (all_behind s cs) ≡ []
unfolding taken all_behind reaches
none_behind r rs s [] h = refl
none_behind r rs s (c ∷ cs) h = rw h (none_behind r rs s cs h)

-- of the elements from k on, those with the index i
taken_nothing : (rs : List Reach) → taken rs [] ≡ []
unfolding taken
taken_nothing rs = refl

not_there : (i k m : ℕ) (rs : List Reach) (cs : List Inner) → i < k → taken (reach.At (single (pos i)) ∷ rs) (each_behind m k cs) ≡ []
unfolding each_behind
not_there i k zero rs cs h = taken_nothing (reach.At (single (pos i)) ∷ rs)
not_there i k (suc m) rs cs h =
    taken_append (reach.At (single (pos i)) ∷ rs) (all_behind (one k) cs) (each_behind m (k + 1) cs)
    ∙ ap (λ (zs : List Inner). zs ++ taken (reach.At (single (pos i)) ∷ rs) (each_behind m (k + 1) cs)) (none_behind (reach.At (single (pos i))) rs (one k) cs (grind (arith, ints)))
    ∙ not_there i (k + 1) m rs cs (omega (arith, h))

each_taken : (m k i : ℕ) (rs : List Reach) (cs : List Inner) → k ≤ i → i < k + m → taken (reach.At (single (pos i)) ∷ rs) (each_behind m k cs) ≡ all_behind (one i) (taken rs cs)
unfolding each_behind
each_taken zero k i rs cs h g = absurd (omega (arith, h, g))
each_taken (suc m) k i rs cs h g =
    taken_append (reach.At (single (pos i)) ∷ rs) (all_behind (one k) cs) (each_behind m (k + 1) cs)
    ∙ elim (k == i) as (λ b. (k == i) ≡ b →
    taken (reach.At (single (pos i)) ∷ rs) (all_behind (one k) cs) ++ taken (reach.At (single (pos i)) ∷ rs) (each_behind m (k + 1) cs) ≡ all_behind (one i) (taken rs cs)) [
      | true ↦ λ e.
          let is : k ≡ i = grind (arith, nat_tests) in
          let here : reaches_step (reach.At (single (pos i))) (one k) ≡ true = grind (arith, ints) in
          ap (λ (zs : List Inner). zs ++ taken (reach.At (single (pos i)) ∷ rs) (each_behind m (k + 1) cs)) (taken_behind (reach.At (single (pos i))) rs (one k) cs here)
          ∙ ap (λ (zs : List Inner). all_behind (one k) (taken rs cs) ++ zs) (not_there i (k + 1) m rs cs (omega (arith, is))) ∙ append-nil (all_behind (one k) (taken rs cs))
          ∙ ap (λ (j : ℕ). all_behind (one j) (taken rs cs)) is
      | false ↦ λ e.
          let less : k < i = grind (arith, nat_tests) in
          let gone : reaches_step (reach.At (single (pos i))) (one k) ≡ false = grind (arith, ints) in
          ap (λ (zs : List Inner). zs ++ taken (reach.At (single (pos i)) ∷ rs) (each_behind m (k + 1) cs)) (none_behind (reach.At (single (pos i))) rs (one k) cs gone)
          ∙ each_taken m (k + 1) i rs cs (omega (arith, less)) (omega (arith, g))
    ] refl

row_taken : (b : Bool) (n i : ℕ) (rs : List Reach) (cs : List Inner) → i < n →
    taken (reach.At (single (pos i)) ∷ rs) (if b then each_behind n 0 cs else all_behind (all n) cs) ≡ all_behind (if b then one i else all n) (taken rs cs)
row_taken true n i rs cs h = each_taken n 0 i rs cs (omega arith) (omega (arith, h))
row_taken false n i rs cs h = taken_behind (reach.At (single (pos i))) rs (all n) cs refl

-- of fields, of which the first has the number k, the one that stands j after it
field_gone : (ls : Layouts) (k f : ℕ) (rs : List Reach) → f < k → taken (reach.Into f ∷ rs) (field_cells k ls) ≡ []
unfolding inner_cells
field_gone no_field k f rs h = taken_nothing (reach.Into f ∷ rs)
field_gone (field x l ls) k f rs h =
    taken_append (reach.Into f ∷ rs) (all_behind (of k) (inner_cells l)) (field_cells (k + 1) ls)
    ∙ ap (λ (zs : List Inner). zs ++ taken (reach.Into f ∷ rs) (field_cells (k + 1) ls)) (none_behind (reach.Into f) rs (of k) (inner_cells l) (grind (arith, nat_tests)))
    ∙ field_gone ls (k + 1) f rs (omega (arith, h))

field_taken : (ls : Layouts) (k j : ℕ) (l : Layout) (rs : List Reach) → nth_field ls j ≡ Some l → taken (reach.Into (k + j) ∷ rs) (field_cells k ls) ≡ all_behind (of (k + j)) (taken rs (inner_cells l))
unfolding inner_cells nth_field
field_taken no_field k j l rs h = cc
field_taken (field x m ls) k zero l rs h =
    let z : k + 0 ≡ k = omega arith in
    let here : (k + 0 == k) ≡ true = grind (arith, nat_tests) in
    let is : m ≡ l = cc in
    taken_append (reach.Into (k + 0) ∷ rs) (all_behind (of k) (inner_cells m)) (field_cells (k + 1) ls)
    ∙ ap (λ (zs : List Inner). zs ++ taken (reach.Into (k + 0) ∷ rs) (field_cells (k + 1) ls)) (taken_behind (reach.Into (k + 0)) rs (of k) (inner_cells m) here)
    ∙ ap (λ (zs : List Inner). all_behind (of k) (taken rs (inner_cells m)) ++ zs) (field_gone ls (k + 1) (k + 0) rs (omega arith)) ∙ append-nil (all_behind (of k) (taken rs (inner_cells m)))
    ∙ ap (λ (j : ℕ). all_behind (of j) (taken rs (inner_cells m))) (sym z) ∙ ap (λ (l : Layout). all_behind (of (k + 0)) (taken rs (inner_cells l))) is
field_taken (field x m ls) k (suc j) l rs h =
    let z : k + suc j ≡ k + 1 + j = omega arith in
    let gone : (k + suc j == k) ≡ false = grind (arith, nat_tests) in
    taken_append (reach.Into (k + suc j) ∷ rs) (all_behind (of k) (inner_cells m)) (field_cells (k + 1) ls)
    ∙ ap (λ (zs : List Inner). zs ++ taken (reach.Into (k + suc j) ∷ rs) (field_cells (k + 1) ls)) (none_behind (reach.Into (k + suc j)) rs (of k) (inner_cells m) gone)
    ∙ ap (λ (i : ℕ). taken (reach.Into i ∷ rs) (field_cells (k + 1) ls)) z ∙ field_taken ls (k + 1) j l rs h
    ∙ ap (λ (i : ℕ). all_behind (of i) (taken rs (inner_cells l))) (sym z)

step_taken : (r : Reach) (rs : List Reach) (m : Layout) (p : Part) (k : Layout) → step_into m p ≡ Some k → IsExactly r p → taken (r ∷ rs) (inner_cells m) ≡ all_behind (step_to m p) (taken rs (inner_cells k))
unfolding step_into inner_cells
step_taken (reach.At s) rs (leaf num) (part.At i) k h x = cc
step_taken (reach.At s) rs (leaf num) (part.Field f) k h x = cc
step_taken (reach.Into f) rs (leaf num) (part.At i) k h x = cc
step_taken (reach.Into f) rs (leaf num) (part.Field g) k h x = cc
step_taken (reach.At s) rs (row n l) (part.Field f) k h x = absurd x
step_taken (reach.Into f) rs (row n l) (part.At i) k h x = absurd x
step_taken (reach.Into f) rs (row n l) (part.Field g) k h x = cc
step_taken (reach.At s) rs (row n l) (part.At i) k h x =
    elim (nat_lt i n) as (λ b. nat_lt i n ≡ b → (if b then Some l else None) ≡ Some k →
    taken (reach.At s ∷ rs) (if nat_le n most_elements then each_behind n 0 (inner_cells l) else all_behind (all n) (inner_cells l)) ≡ all_behind (if nat_le n most_elements then one i else all n) (taken rs (inner_cells k))) [
      | true ↦ λ e h.
          let less : i < n = grind (arith, nat_tests) in
          let is : l ≡ k = cc in
          ap (λ (t : Span). taken (reach.At t ∷ rs) (if nat_le n most_elements then each_behind n 0 (inner_cells l) else all_behind (all n) (inner_cells l))) x
          ∙ row_taken (nat_le n most_elements) n i rs (inner_cells l) less ∙ ap (λ (l : Layout). all_behind (if nat_le n most_elements then one i else all n) (taken rs (inner_cells l))) is
      | false ↦ λ e h. cc
    ] refl h
step_taken (reach.At s) rs (fields ls) (part.At i) k h x = cc
step_taken (reach.At s) rs (fields ls) (part.Field f) k h x = absurd x
step_taken (reach.Into f) rs (fields ls) (part.At i) k h x = cc
step_taken (reach.Into f) rs (fields ls) (part.Field g) k h x =
    let z : 0 + g ≡ g = omega arith in
    ap (λ (i : ℕ). taken (reach.Into i ∷ rs) (field_cells 0 ls)) (x ∙ sym z) ∙ field_taken ls 0 g k rs h ∙ ap (λ (i : ℕ). all_behind (of i) (taken rs (inner_cells k))) z

-- the cells that an access to one place names are those of what stands there, behind the steps to it
pub cells_below : (rs : List Reach) (ps : List Part) (m l : Layout) → Exactly rs ps → parts_layout (Some m) ps ≡ Some l → taken rs (inner_cells m) ≡ prefixed_by (steps_to m ps) (inner_cells l)
unfolding Exactly parts_layout steps_to
cells_below [] [] m l e h = taken_all (inner_cells m) ∙ sym (prefixed_none (inner_cells m)) ∙ ap (λ (l : Layout). prefixed_by [] (inner_cells l)) (let is : m ≡ l = cc in is)
cells_below [] (p ∷ ps) m l e h = absurd e
cells_below (r ∷ rs) [] m l e h = absurd e
cells_below (r ∷ rs) (p ∷ ps) m l e h =
    elim (step_into m p) as (λ o. step_into m p ≡ o → parts_layout o ps ≡ Some l → taken (r ∷ rs) (inner_cells m) ≡ prefixed_by (step_to m p ∷ steps_to (within o) ps) (inner_cells l)) [
      | None ↦ λ s h. none_is ps l h
      | Some k ↦ λ s h. step_taken r rs m p k s e.0 ∙ ap (λ (zs : List Inner). all_behind (step_to m p) zs) (cells_below rs ps k l e.1 h) ∙ prefixed_more (step_to m p) (steps_to k ps) (inner_cells l)
    ] refl h
