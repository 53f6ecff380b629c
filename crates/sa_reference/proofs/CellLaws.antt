-- Which cells stand for a place, and which an access names.
use Rattle.std.proofs.lemmas.Bool.Decides.{nat_tests}
use Rattle.std.proofs.Common.{◌≡◌, ℕ, zero, suc, ◌+◌, ◌<◌, ◌≤◌, ℤ, pos, Bool, true, false, ◌&&◌, List, [], ◌∷◌, ◌++◌, refl, sym, ap, subst, ◌∙◌, arith, Option, Some, None, inl, inr, ◌⊎◌}
use Rattle.std.specs.Prelude.{if◌then◌else◌, get_or, IsTrue, ◌==◌, nat_lt, nat_le, slice_get, length, ◌≤ℤ◌}
use Rattle.std.specs.Int.RustNames.{int_le}
use Rattle.std.proofs.lemmas.Int.{ints, clamps}
use Rattle.sa_base.specs.declared.num.Num.{Num}
use Rattle.sa_base.specs.declared.pos.Pos.{Pos}
use Rattle.sa_interval.specs.Span.{Span, Within}
use Rattle.sa_interval.specs.Rows.{single, join_of}
use Rattle.sa_typed.specs.Layouts.{Layout, Layouts, leaf, row, fields, no_field, field, step_into, nth_field, layout_of, var_layout}
use Rattle.sa_typed.specs.Cells.{Cell, Inner, one, all, of, behind, all_behind, each_behind, inner_cells, field_cells, cell_of, cells_of, cells_at, cells, covers_step, covers, names, is_global, is_static, is_local, most_elements}
use Rattle.sa_typed.specs.Cells as cell
use Rattle.sa_typed.specs.Evaluation.{Store, Here, place_of}
use Rattle.sa_typed.specs.declared.shape.Part.{Part}
use Rattle.sa_typed.specs.declared.shape.Part.TheVariants.{At, Field}
use Rattle.sa_typed.specs.declared.program.Home.{Home}
use Rattle.sa_typed.specs.declared.program.Home.TheVariants as home
use Rattle.sa_typed.specs.declared.program.Place.{Place}
use Rattle.sa_typed.specs.declared.program.Var.{Var}
use Rattle.sa_typed.specs.declared.program.Program.{Program}
use Rattle.sa_reference.specs.declared.reach.Reach.{Reach}
use Rattle.sa_reference.specs.declared.reach.Reach.TheVariants as reach
use Rattle.sa_reference.specs.Environments.{AllHold}
use Rattle.sa_reference.specs.Values.{reaches_step, reaches, named_from, named, cell_span, joined}
use Rattle.sa_reference.specs.Sound.{AliveAnd}
use Rattle.sa_reference.proofs.SpanLaws.{both_true, and_left, and_right, le_test, join_left, join_right}

-- ---- steps into objects
-- what parts lead to
unfoldable pub parts_layout : Option Layout → List Part → Option Layout
parts_layout o [] = o
parts_layout None (s ∷ ps) = None
parts_layout (Some l) (s ∷ ps) = parts_layout (step_into l s) ps

pub parts_none : (ps : List Part) → parts_layout None ps ≡ None
unfolding parts_layout
parts_none [] = refl
parts_none (s ∷ ps) = refl

-- the steps that an access may take include these
abbrev pub MatchesStep : Reach → Part → Type 0
MatchesStep (reach.At s) (At i) = Within s (pos i)
MatchesStep (reach.At s) (Field f) = ⊥
MatchesStep (reach.Into f) (At i) = ⊥
MatchesStep (reach.Into f) (Field g) = f ≡ g

unfoldable pub Matches : List Reach → List Part → Type 0
Matches [] ps = Unit {0}
Matches (r ∷ rs) [] = ⊥
Matches (r ∷ rs) (p ∷ ps) = MatchesStep r p × Matches rs ps

same_number : (k : ℕ) → (k == k) ≡ true
same_number k = grind (arith, nat_tests)

number_is : (k i : ℕ) → (k == i) ≡ true → k ≡ i
number_is k i h = grind (arith, nat_tests)

-- a cell that stands for a place is among those that an access names which leads there
step_reached : (r : Reach) (s : cell.Step) (p : Part) → MatchesStep r p → covers_step s p ≡ true → reaches_step r s ≡ true
step_reached (reach.At s) (one k) (At i) m c =
    let e : k ≡ i = number_is k i c in
    let w : Within s (pos k) = subst (λ (j : ℕ). Within s (pos j)) (sym e) m in
    both_true (int_le s.lo (pos k)) (int_le (pos k) s.hi) (le_test s.lo (pos k) w.above) (le_test (pos k) s.hi w.below)
step_reached (reach.At s) (all n) (At i) m c = refl
step_reached (reach.At s) (of k) (At i) m c = cc
step_reached (reach.At s) k (Field f) m c = absurd m
step_reached (reach.Into f) k (At i) m c = absurd m
step_reached (reach.Into f) (one k) (Field g) m c = cc
step_reached (reach.Into f) (all n) (Field g) m c = cc
step_reached (reach.Into f) (of k) (Field g) m c =
    let e : k ≡ g = number_is k g c in
    subst (λ (j : ℕ). (f == j) ≡ true) (m ∙ sym e) (same_number f)

pub are_reached : (rs : List Reach) (ss : List cell.Step) (ps : List Part) → Matches rs ps → covers ss ps ≡ true → reaches rs ss ≡ true
unfolding Matches covers reaches
are_reached [] ss ps m c = refl
are_reached (r ∷ rs) ss [] m c = absurd m
are_reached (r ∷ rs) [] (p ∷ ps) m c = cc
are_reached (r ∷ rs) (s ∷ ss) (p ∷ ps) m c =
    both_true (reaches_step r s) (reaches rs ss) (step_reached r s p m.0 (and_left _ _ c)) (are_reached rs ss ps m.1 (and_right _ _ c))

-- ---- each element has a cell
-- P holds of one of a list
abbrev pub AnyOf : {A : Type 0} → (A → Type 0) → List A → Type 0
AnyOf P [] = ⊥
AnyOf P (a ∷ as') = P a ⊎ AnyOf P as'

pub any_left : {A : Type 0} (P : A → Type 0) (xs ys : List A) → AnyOf P xs → AnyOf P (xs ++ ys)
any_left P [] ys h = absurd h
any_left P (x ∷ xs) ys (inl e) = inl e
any_left P (x ∷ xs) ys (inr m) = inr (any_left P xs ys m)

pub any_right : {A : Type 0} (P : A → Type 0) (xs ys : List A) → AnyOf P ys → AnyOf P (xs ++ ys)
any_right P [] ys h = h
any_right P (x ∷ xs) ys h = inr (any_right P xs ys h)

abbrev pub Covering : List Part → Inner → Type 0
Covering ps c = covers c.steps ps ≡ true

any_behind : (s : cell.Step) (p : Part) (ps : List Part) (cs : List Inner) → covers_step s p ≡ true → AnyOf (Covering ps) cs → AnyOf (Covering (p ∷ ps)) (all_behind s cs)
unfolding all_behind covers
any_behind s p ps [] h m = absurd m
any_behind s p ps (c ∷ cs) h (inl e) = inl (both_true (covers_step s p) (covers c.steps ps) h e)
any_behind s p ps (c ∷ cs) h (inr m) = inr (any_behind s p ps cs h m)

-- the elements from k on
any_each : (n k j : ℕ) (ps : List Part) (cs : List Inner) → j < n → AnyOf (Covering ps) cs → AnyOf (Covering (At (k + j) ∷ ps)) (each_behind n k cs)
unfolding each_behind
any_each zero k j ps cs h m = absurd (omega (arith, h))
any_each (suc n) k zero ps cs h m =
    any_left (Covering (At (k + 0) ∷ ps)) (all_behind (one k) cs) (each_behind n (k + 1) cs)
    (any_behind (one k) (At (k + 0)) ps cs (subst (λ (i : ℕ). (k == i) ≡ true) (omega arith) (same_number k)) m)
any_each (suc n) k (suc j) ps cs h m =
    any_right (Covering (At (k + suc j) ∷ ps)) (all_behind (one k) cs) (each_behind n (k + 1) cs)
    (subst (λ (i : ℕ). AnyOf (Covering (At i ∷ ps)) (each_behind n (k + 1) cs)) (omega arith) (any_each n (k + 1) j ps cs (omega (arith, h)) m))

pub none_is : {A : Type 0} (ps : List Part) (l : Layout) → parts_layout None ps ≡ Some l → A
none_is ps l h = let e = sym (parts_none ps) ∙ h in cc

in_row : (n : ℕ) (l : Layout) (i : ℕ) (ps : List Part) (b : Bool) → nat_lt i n ≡ true → AnyOf (Covering ps) (inner_cells l) →
    AnyOf (Covering (At i ∷ ps)) (if b then each_behind n 0 (inner_cells l) else all_behind (all n) (inner_cells l))
in_row n l i ps true e m = subst (λ (j : ℕ). AnyOf (Covering (At j ∷ ps)) (each_behind n 0 (inner_cells l))) (omega arith) (any_each n 0 i ps (inner_cells l) (grind (arith, nat_tests)) m)
in_row n l i ps false e m = any_behind (all n) (At i) ps (inner_cells l) e m

mutual
  unfolding parts_layout inner_cells field_cells nth_field step_into covers

  pub element_cell : (l : Layout) (ps : List Part) (num : Num) → parts_layout (Some l) ps ≡ Some (leaf num) → AnyOf (Covering ps) (inner_cells l)
  element_cell (leaf m) [] num h = inl refl
  element_cell (leaf m) (s ∷ ps) num h = none_is ps (leaf num) h
  element_cell (row n l) [] num h = cc
  element_cell (row n l) (Field f ∷ ps) num h = none_is ps (leaf num) h
  element_cell (row n l) (At i ∷ ps) num h =
      elim (nat_lt i n) as (λ b. nat_lt i n ≡ b → parts_layout (if b then Some l else None) ps ≡ Some (leaf num) →
      AnyOf (Covering (At i ∷ ps)) (if nat_le n most_elements then each_behind n 0 (inner_cells l) else all_behind (all n) (inner_cells l))) [
        | true ↦ λ e h. in_row n l i ps (nat_le n most_elements) e (element_cell l ps num h)
        | false ↦ λ e h. none_is ps (leaf num) h
      ] refl h
  element_cell (fields ls) [] num h = cc
  element_cell (fields ls) (At i ∷ ps) num h = none_is ps (leaf num) h
  element_cell (fields ls) (Field f ∷ ps) num h = subst (λ (i : ℕ). AnyOf (Covering (Field i ∷ ps)) (field_cells 0 ls)) (omega arith) (element_field ls 0 f ps num h)

  element_field : (ls : Layouts) (k f : ℕ) (ps : List Part) (num : Num) → parts_layout (nth_field ls f) ps ≡ Some (leaf num) → AnyOf (Covering (Field (k + f) ∷ ps)) (field_cells k ls)
  element_field no_field k f ps num h = none_is ps (leaf num) h
  element_field (field x l ls) k zero ps num h =
      any_left (Covering (Field (k + 0) ∷ ps)) (all_behind (of k) (inner_cells l)) (field_cells (k + 1) ls)
      (any_behind (of k) (Field (k + 0)) ps (inner_cells l) (subst (λ (i : ℕ). (k == i) ≡ true) (omega arith) (same_number k)) (element_cell l ps num h))
  element_field (field x l ls) k (suc f) ps num h =
      any_right (Covering (Field (k + suc f) ∷ ps)) (all_behind (of k) (inner_cells l)) (field_cells (k + 1) ls)
      (subst (λ (i : ℕ). AnyOf (Covering (Field i ∷ ps)) (field_cells (k + 1) ls)) (omega arith) (element_field ls (k + 1) f ps num h))

-- ---- a cell that stands for a place has the type of the element there
abbrev pub Leads : Layout → Inner → Type 0
Leads l c = (ps : List Part) → covers c.steps ps ≡ true → parts_layout (Some l) ps ≡ Some (leaf c.num)

-- P holds of each of a list
abbrev pub AllOf : {A : Type 0} → (A → Type 0) → List A → Type 0
AllOf P [] = Unit {0}
AllOf P (a ∷ as') = P a × AllOf P as'

pub all_of_append : {A : Type 0} (P : A → Type 0) (xs ys : List A) → AllOf P xs → AllOf P ys → AllOf P (xs ++ ys)
all_of_append P [] ys h k = k
all_of_append P (x ∷ xs) ys h k = (h.0, all_of_append P xs ys h.1 k)

-- behind a step that stands for no other part than those that lead to l
leads_behind : (s : cell.Step) (m l : Layout) (c : Inner) → ((p : Part) → covers_step s p ≡ true → step_into m p ≡ Some l) → Leads l c → Leads m (behind s c)
unfolding covers parts_layout
leads_behind s m l c h k [] e = cc
leads_behind s m l c h k (p ∷ ps) e = ap (λ (o : Option Layout). parts_layout o ps) (h p (and_left _ _ e)) ∙ k ps (and_right _ _ e)

all_lead : (s : cell.Step) (m l : Layout) (cs : List Inner) → ((p : Part) → covers_step s p ≡ true → step_into m p ≡ Some l) → AllOf (Leads l) cs → AllOf (Leads m) (all_behind s cs)
unfolding all_behind
all_lead s m l [] h k = tt
all_lead s m l (c ∷ cs) h k = (leads_behind s m l c h k.0, all_lead s m l cs h k.1)

index_leads : (n k : ℕ) (l : Layout) (p : Part) → k < n → covers_step (one k) p ≡ true → step_into (row n l) p ≡ Some l
unfolding step_into
index_leads n k l (At i) h e = let f : nat_lt i n ≡ true = (let g = number_is k i e in grind (arith, nat_tests)) in rw f refl
index_leads n k l (Field f) h e = cc

row_leads : (n : ℕ) (l : Layout) (p : Part) → covers_step (all n) p ≡ true → step_into (row n l) p ≡ Some l
unfolding step_into
row_leads n l (At i) e = rw e refl
row_leads n l (Field f) e = cc

each_lead : (m n k : ℕ) (l : Layout) (cs : List Inner) → k + m ≤ n → AllOf (Leads l) cs → AllOf (Leads (row n l)) (each_behind m k cs)
unfolding each_behind
each_lead zero n k l cs h a = tt
each_lead (suc m) n k l cs h a =
    all_of_append (Leads (row n l)) (all_behind (one k) cs) (each_behind m (k + 1) cs) (all_lead (one k) (row n l) l cs (λ p e. index_leads n k l p (omega (arith, h)) e) a)
    (each_lead m n (k + 1) l cs (omega (arith, h)) a)

rows_lead : (n : ℕ) (l : Layout) (b : Bool) → AllOf (Leads l) (inner_cells l) → AllOf (Leads (row n l)) (if b then each_behind n 0 (inner_cells l) else all_behind (all n) (inner_cells l))
rows_lead n l true a = each_lead n n 0 l (inner_cells l) (omega arith) a
rows_lead n l false a = all_lead (all n) (row n l) l (inner_cells l) (row_leads n l) a

-- a field that stands j after the first of some fields
field_is : (ls : Layouts) (k : ℕ) (l : Layout) → nth_field ls k ≡ Some l → (p : Part) → covers_step (of k) p ≡ true → step_into (fields ls) p ≡ Some l
unfolding step_into
field_is ls k l h (At i) e = cc
field_is ls k l h (Field f) e = subst (λ (j : ℕ). nth_field ls j ≡ Some l) (number_is k f e) h

leaf_leads : (num : Num) (ps : List Part) → covers [] ps ≡ true → parts_layout (Some (leaf num)) ps ≡ Some (leaf num)
unfolding covers parts_layout
leaf_leads num [] e = refl
leaf_leads num (p ∷ ps) e = cc

mutual
  unfolding inner_cells field_cells nth_field

  pub cells_lead : (l : Layout) → AllOf (Leads l) (inner_cells l)
  cells_lead (leaf num) = (leaf_leads num, tt)
  cells_lead (row n l) = rows_lead n l (nat_le n most_elements) (cells_lead l)
  cells_lead (fields ls) = fields_lead ls ls 0 (λ j. ap (λ (i : ℕ). nth_field ls i) (omega arith))

  -- the fields ls stand behind k others in all
  fields_lead : (ls whole : Layouts) (k : ℕ) → ((j : ℕ) → nth_field ls j ≡ nth_field whole (k + j)) → AllOf (Leads (fields whole)) (field_cells k ls)
  fields_lead no_field whole k h = tt
  fields_lead (field x l ls) whole k h =
      all_of_append (Leads (fields whole)) (all_behind (of k) (inner_cells l)) (field_cells (k + 1) ls)
      (all_lead (of k) (fields whole) l (inner_cells l) (field_is whole k l (sym (h 0 ∙ ap (λ (i : ℕ). nth_field whole i) (omega arith)))) (cells_lead l))
      (fields_lead ls whole (k + 1) (λ j. h (suc j) ∙ ap (λ (i : ℕ). nth_field whole i) (omega arith)))

-- ---- the cells of a program
abbrev pub IsAt : List Part → ℕ → Cell → Type 0
IsAt ps v c = (c.var ≡ v) × (covers c.steps ps ≡ true)

of_var : (v : ℕ) (ps : List Part) (cs : List Inner) → AnyOf (Covering ps) cs → AnyOf (IsAt ps v) (cells_of v cs)
unfolding cells_of
of_var v ps [] h = absurd h
of_var v ps (c ∷ cs) (inl e) = inl (refl, e)
of_var v ps (c ∷ cs) (inr m) = inr (of_var v ps cs m)

-- the variable j after the first
at_home : (p : Program) (sort : Home → Bool) (k j : ℕ) (vs : List Var) (v : Var) (ps : List Part) → slice_get vs j ≡ Some v → sort v.home ≡ true →
    AnyOf (Covering ps) (inner_cells (layout_of p (k + j))) → AnyOf (IsAt ps (k + j)) (cells_at p sort k vs)
unfolding cells_at
at_home p sort k j [] v ps h s m = cc
at_home p sort k zero (x ∷ vs) v ps h s m =
    let e : x ≡ v = cc in
    let t : sort x.home ≡ true = subst (λ (y : Var). sort y.home ≡ true) (sym e) s in
    let z : k + 0 ≡ k = omega arith in
    subst (λ (i : ℕ). AnyOf (IsAt ps i) (cells_at p sort k (x ∷ vs))) (sym z)
    (rw t (any_left (IsAt ps k) (cells_of k (inner_cells (layout_of p k))) (cells_at p sort (k + 1) vs) (of_var k ps (inner_cells (layout_of p k)) (subst (λ (i : ℕ). AnyOf (Covering ps) (inner_cells (layout_of p i))) z m))))
at_home p sort k (suc j) (x ∷ vs) v ps h s m =
    let z : k + suc j ≡ k + 1 + j = omega arith in
    let rest = at_home p sort (k + 1) j vs v ps h s (subst (λ (i : ℕ). AnyOf (Covering ps) (inner_cells (layout_of p i))) z m) in
    subst (λ (i : ℕ). AnyOf (IsAt ps i) (cells_at p sort k (x ∷ vs))) (sym z)
    (elim (sort x.home) as (λ b. AnyOf (IsAt ps (k + 1 + j)) (if b then cells_of k (inner_cells (layout_of p k)) ++ cells_at p sort (k + 1) vs else cells_at p sort (k + 1) vs)) [
      | true ↦ any_right (IsAt ps (k + 1 + j)) (cells_of k (inner_cells (layout_of p k))) (cells_at p sort (k + 1) vs) rest
      | false ↦ rest
    ])

no_element : {A : Type 0} (ps : List Part) (num : Num) → parts_layout (Some (fields no_field)) ps ≡ Some (leaf num) → A
unfolding parts_layout step_into nth_field
no_element [] num h = cc
no_element (At i ∷ ps) num h = none_is ps (leaf num) h
no_element (Field f ∷ ps) num h = none_is ps (leaf num) h

-- each element of a variable has a cell
pub place_cell : (p : Program) (v : ℕ) (ps : List Part) (num : Num) → parts_layout (Some (layout_of p v)) ps ≡ Some (leaf num) → AnyOf (IsAt ps v) (cells p)
unfolding cells layout_of
place_cell p v ps num h =
    elim (slice_get p.vars v) as (λ o. slice_get p.vars v ≡ o → parts_layout (Some (var_layout p.structs o)) ps ≡ Some (leaf num) → AnyOf (IsAt ps v) (cells p)) [
      | None ↦ λ e h. no_element ps num h
      | Some x ↦ λ e h. at x e (element_cell (layout_of p v) ps num (subst (λ (o : Option Var). parts_layout (Some (var_layout p.structs o)) ps ≡ Some (leaf num)) (sym e) h))
    ] refl h
  where
    globals : List Cell
    globals = cells_at p is_global 0 p.vars

    statics : List Cell
    statics = cells_at p is_static 0 p.vars

    locals : List Cell
    locals = cells_at p is_local 0 p.vars

    at : (x : Var) → slice_get p.vars v ≡ Some x → AnyOf (Covering ps) (inner_cells (layout_of p v)) → AnyOf (IsAt ps v) (globals ++ (statics ++ locals))
    at x e m = by_home x.home refl
      where
        from : (sort : Home → Bool) → sort x.home ≡ true → AnyOf (IsAt ps v) (cells_at p sort 0 p.vars)
        from sort s =
            let z : 0 + v ≡ v = omega arith in
            subst (λ (i : ℕ). AnyOf (IsAt ps i) (cells_at p sort 0 p.vars)) z
            (at_home p sort 0 v p.vars x ps e s (subst (λ (i : ℕ). AnyOf (Covering ps) (inner_cells (layout_of p i))) (sym z) m))

        by_home : (h : Home) → x.home ≡ h → AnyOf (IsAt ps v) (globals ++ (statics ++ locals))
        by_home home.Global h = any_left (IsAt ps v) globals (statics ++ locals) (from is_global (ap is_global h))
        by_home home.Static h = any_right (IsAt ps v) globals (statics ++ locals) (any_left (IsAt ps v) statics locals (from is_static (ap is_static h)))
        by_home (home.Local f) h = any_right (IsAt ps v) globals (statics ++ locals) (any_right (IsAt ps v) statics locals (from is_local (ap is_local h)))

-- ---- what is read
-- from k on the list is this one
abbrev pub Tail : ℕ → List Span → List Span → Type 0
Tail k whole ss = (j : ℕ) → cell_span whole (k + j) ≡ cell_span ss j

pub tail_next : (k : ℕ) (whole : List Span) (s : Span) (ss : List Span) → Tail k whole (s ∷ ss) → Tail (k + 1) whole ss
tail_next k whole s ss h j = ap (λ (i : ℕ). cell_span whole i) (omega arith) ∙ h (suc j)

pub tail_head : (k : ℕ) (whole : List Span) (s : Span) (ss : List Span) → Tail k whole (s ∷ ss) → cell_span whole k ≡ s
tail_head k whole s ss h = ap (λ (i : ℕ). cell_span whole i) (omega arith) ∙ h 0

pub names_it : (c : Cell) (v : ℕ) (ps : List Part) → IsAt ps v c → names c (record { path = []; var = v; parts = ps }) ≡ true
names_it c v ps h = both_true (c.var == v) (covers c.steps ps) (subst (λ (i : ℕ). (c.var == i) ≡ true) h.0 (same_number c.var)) h.1

joined_head : (whole : List Span) (k : ℕ) (ks : List ℕ) (z : ℤ) → Within (cell_span whole k) z → AliveAnd (λ s. Within s z) (joined whole (k ∷ ks))
unfolding joined
joined_head whole k ks z h =
    elim (joined whole ks) as (λ o. Within (elim o as (λ _. Span) [ None ↦ cell_span whole k | Some s ↦ join_of (cell_span whole k) s ]) z) [
      | None ↦ h
      | Some s ↦ join_left (cell_span whole k) s z h
    ]

joined_tail : (whole : List Span) (k : ℕ) (ks : List ℕ) (z : ℤ) → AliveAnd (λ s. Within s z) (joined whole ks) → AliveAnd (λ s. Within s z) (joined whole (k ∷ ks))
unfolding joined
joined_tail whole k ks z h =
    elim (joined whole ks) as (λ o. AliveAnd (λ s. Within s z) o → Within (elim o as (λ _. Span) [ None ↦ cell_span whole k | Some s ↦ join_of (cell_span whole k) s ]) z) [
      | None ↦ λ h. absurd h
      | Some s ↦ λ h. join_right (cell_span whole k) s z h
    ] h

module _ (v : ℕ) (rs : List Reach) (ps : List Part) (m : Matches rs ps) (store : Store) where
  abbrev here : Place
  here = record { path = []; var = v; parts = ps }

  taken : (c : Cell) → IsAt ps v c → (c.var == v && reaches rs c.steps) ≡ true
  taken c h = both_true (c.var == v) (reaches rs c.steps) (subst (λ (i : ℕ). (c.var == i) ≡ true) h.0 (same_number c.var)) (are_reached rs c.steps ps m h.1)

  -- the number at a place lies in what is read of the cells that an access there names
  pub read_within : (cs : List Cell) (k : ℕ) (whole ss : List Span) → Tail k whole ss → AllHold cs ss store → AnyOf (IsAt ps v) cs →
      AliveAnd (λ s. Within s (store here)) (joined whole (named_from k cs v rs))
  unfolding AllHold named_from
  read_within [] k whole ss t h a = absurd a
  read_within (c ∷ cs) k whole [] t h a = absurd h
  read_within (c ∷ cs) k whole (s ∷ ss) t h (inl e) =
      let w : Within (cell_span whole k) (store here) = subst (λ (s : Span). Within s (store here)) (sym (tail_head k whole s ss t)) (h.0 here (names_it c v ps e)) in
      rw (taken c e) (joined_head whole k (named_from (k + 1) cs v rs) (store here) w)
  read_within (c ∷ cs) k whole (s ∷ ss) t h (inr a) =
      let rest = read_within cs (k + 1) whole ss (tail_next k whole s ss t) h.1 a in
      elim (c.var == v && reaches rs c.steps) as (λ b. AliveAnd (λ s. Within s (store here)) (joined whole (if b then k ∷ named_from (k + 1) cs v rs else named_from (k + 1) cs v rs))) [
        | true ↦ joined_tail whole k (named_from (k + 1) cs v rs) (store here) rest
        | false ↦ rest
      ]

-- ---- the cells that an access to an element names have the element's type
abbrev pub reach_into : Layout → Reach → Option Layout
reach_into (row n l) (reach.At s) = Some l
reach_into (fields ls) (reach.Into f) = nth_field ls f
reach_into _ _ = None

unfoldable pub reaches_layout : Option Layout → List Reach → Option Layout
reaches_layout o [] = o
reaches_layout None (r ∷ rs) = None
reaches_layout (Some l) (r ∷ rs) = reaches_layout (reach_into l r) rs

pub reaches_none : (rs : List Reach) → reaches_layout None rs ≡ None
unfolding reaches_layout
reaches_none [] = refl
reaches_none (r ∷ rs) = refl

abbrev pub HasNum : Layout → Inner → Type 0
HasNum l c = (rs : List Reach) (num : Num) → reaches rs c.steps ≡ true → reaches_layout (Some l) rs ≡ Some (leaf num) → c.num ≡ num

abbrev IsNoLeaf : Layout → Type 0
IsNoLeaf l = (num : Num) → Some l ≡ Some (leaf num) → ⊥

num_behind : (s : cell.Step) (m l : Layout) (c : Inner) → IsNoLeaf m → ((r : Reach) → reaches_step r s ≡ true → reach_into m r ≡ Some l) → HasNum l c → HasNum m (behind s c)
unfolding reaches reaches_layout
num_behind s m l c n h k [] num t e = absurd (n num e)
num_behind s m l c n h k (r ∷ rs) num t e = k rs num (and_right _ _ t) (ap (λ (o : Option Layout). reaches_layout o rs) (sym (h r (and_left _ _ t))) ∙ e)

nums_behind : (s : cell.Step) (m l : Layout) (cs : List Inner) → IsNoLeaf m → ((r : Reach) → reaches_step r s ≡ true → reach_into m r ≡ Some l) → AllOf (HasNum l) cs → AllOf (HasNum m) (all_behind s cs)
unfolding all_behind
nums_behind s m l [] n h k = tt
nums_behind s m l (c ∷ cs) n h k = (num_behind s m l c n h k.0, nums_behind s m l cs n h k.1)

row_no_leaf : (n : ℕ) (l : Layout) → IsNoLeaf (row n l)
row_no_leaf n l num h = cc

fields_no_leaf : (ls : Layouts) → IsNoLeaf (fields ls)
fields_no_leaf ls num h = cc

one_reach : (n k : ℕ) (l : Layout) (r : Reach) → reaches_step r (one k) ≡ true → reach_into (row n l) r ≡ Some l
one_reach n k l (reach.At s) h = refl
one_reach n k l (reach.Into f) h = cc

all_reach : (n : ℕ) (l : Layout) (r : Reach) → reaches_step r (all n) ≡ true → reach_into (row n l) r ≡ Some l
all_reach n l (reach.At s) h = refl
all_reach n l (reach.Into f) h = cc

field_reach : (ls : Layouts) (k : ℕ) (l : Layout) → nth_field ls k ≡ Some l → (r : Reach) → reaches_step r (of k) ≡ true → reach_into (fields ls) r ≡ Some l
field_reach ls k l h (reach.At s) e = cc
field_reach ls k l h (reach.Into f) e = subst (λ (j : ℕ). nth_field ls j ≡ Some l) (sym (number_is f k e)) h

each_num : (m n k : ℕ) (l : Layout) (cs : List Inner) → AllOf (HasNum l) cs → AllOf (HasNum (row n l)) (each_behind m k cs)
unfolding each_behind
each_num zero n k l cs a = tt
each_num (suc m) n k l cs a =
    all_of_append (HasNum (row n l)) (all_behind (one k) cs) (each_behind m (k + 1) cs) (nums_behind (one k) (row n l) l cs (row_no_leaf n l) (one_reach n k l) a) (each_num m n (k + 1) l cs a)

rows_num : (n : ℕ) (l : Layout) (b : Bool) → AllOf (HasNum l) (inner_cells l) → AllOf (HasNum (row n l)) (if b then each_behind n 0 (inner_cells l) else all_behind (all n) (inner_cells l))
rows_num n l true a = each_num n n 0 l (inner_cells l) a
rows_num n l false a = nums_behind (all n) (row n l) l (inner_cells l) (row_no_leaf n l) (all_reach n l) a

leaf_num : (m : Num) → HasNum (leaf m) (record { steps = []; num = m })
unfolding reaches reaches_layout
leaf_num m [] num t e = cc
leaf_num m (r ∷ rs) num t e = cc

mutual
  unfolding inner_cells field_cells nth_field

  pub cells_num : (l : Layout) → AllOf (HasNum l) (inner_cells l)
  cells_num (leaf num) = (leaf_num num, tt)
  cells_num (row n l) = rows_num n l (nat_le n most_elements) (cells_num l)
  cells_num (fields ls) = fields_num ls ls 0 (λ j. ap (λ (i : ℕ). nth_field ls i) (omega arith))

  fields_num : (ls whole : Layouts) (k : ℕ) → ((j : ℕ) → nth_field ls j ≡ nth_field whole (k + j)) → AllOf (HasNum (fields whole)) (field_cells k ls)
  fields_num no_field whole k h = tt
  fields_num (field x l ls) whole k h =
      all_of_append (HasNum (fields whole)) (all_behind (of k) (inner_cells l)) (field_cells (k + 1) ls)
      (nums_behind (of k) (fields whole) l (inner_cells l) (fields_no_leaf whole) (field_reach whole k l (sym (h 0 ∙ ap (λ (i : ℕ). nth_field whole i) (omega arith)))) (cells_num l))
      (fields_num ls whole (k + 1) (λ j. h (suc j) ∙ ap (λ (i : ℕ). nth_field whole i) (omega arith)))

-- what holds of the cells of each variable's layout holds of the cells of the program
module _ (p : Program) (P : ℕ → Inner → Type 0) (each : (v : ℕ) → AllOf (P v) (inner_cells (layout_of p v))) where
  abbrev pub OfProgram : Cell → Type 0
  OfProgram c = P c.var (record { steps = c.steps; num = c.num })

  of_inner : (v : ℕ) (cs : List Inner) → AllOf (P v) cs → AllOf OfProgram (cells_of v cs)
  unfolding cells_of
  of_inner v [] h = tt
  of_inner v (c ∷ cs) h = (h.0, of_inner v cs h.1)

  of_home : (sort : Home → Bool) (k : ℕ) (vs : List Var) → AllOf OfProgram (cells_at p sort k vs)
  unfolding cells_at
  of_home sort k [] = tt
  of_home sort k (x ∷ vs) =
      elim (sort x.home) as (λ b. AllOf OfProgram (if b then cells_of k (inner_cells (layout_of p k)) ++ cells_at p sort (k + 1) vs else cells_at p sort (k + 1) vs)) [
        | true ↦ all_of_append OfProgram (cells_of k (inner_cells (layout_of p k))) (cells_at p sort (k + 1) vs) (of_inner k (inner_cells (layout_of p k)) (each k)) (of_home sort (k + 1) vs)
        | false ↦ of_home sort (k + 1) vs
      ]

  pub of_program : AllOf OfProgram (cells p)
  unfolding cells
  of_program = all_of_append OfProgram (cells_at p is_global 0 p.vars) _ (of_home is_global 0 p.vars) (all_of_append OfProgram (cells_at p is_static 0 p.vars) _ (of_home is_static 0 p.vars) (of_home is_local 0 p.vars))
