-- A structure that is copied: each cell of the one side holds what the cell in the same place of the other side held.
use Rattle.std.proofs.lemmas.Bool.Decides.{nat_tests}
use Rattle.std.proofs.Common.{◌≡◌, ℕ, zero, suc, ◌+◌, ◌<◌, ◌≤◌, ℤ, Bool, true, false, ◌&&◌, List, [], ◌∷◌, ◌++◌, length, refl, sym, ap, subst, ◌∙◌, arith, Option, Some, None, inl, inr, append-nil}
use Rattle.std.specs.Prelude.{if◌then◌else◌, ◌==◌, ◌||◌, nat_lt, nat_le, slice_get}
use Rattle.sa_base.specs.declared.num.Num.{Num}
use Rattle.sa_base.specs.declared.pos.Pos.{Pos}
use Rattle.sa_interval.specs.Span.{Span, Within}
use Rattle.sa_interval.specs.Rows.{join_of}
use Rattle.sa_typed.specs.Layouts.{Layout, leaf, row, fields, no_field, step_into, layout_of, var_layout}
use Rattle.sa_typed.specs.Evaluation.{Store}
use Rattle.sa_typed.specs.Executions.{same_path, same_part, same_var, after_parts, copied_from}
use Rattle.sa_typed.specs.Executions as run
use Rattle.sa_typed.specs.Cells.{Cell, Inner, one, all, of, inner_cells, cell_of, cells_of, cells_at, cells, covers_step, covers, names, is_root, is_all, is_starred, is_global, is_static, is_local, most_elements}
use Rattle.sa_typed.specs.Cells as cell
use Rattle.sa_typed.specs.declared.shape.Part.{Part}
use Rattle.sa_typed.specs.declared.shape.Part.TheVariants.{At, Field}
use Rattle.sa_typed.specs.declared.program.Home.{Home}
use Rattle.sa_typed.specs.declared.program.Home.TheVariants as home
use Rattle.sa_typed.specs.declared.program.Place.{Place}
use Rattle.sa_typed.specs.declared.program.Var.{Var}
use Rattle.sa_typed.specs.declared.program.Program.{Program}
use Rattle.sa_reference.specs.declared.reach.Reach.{Reach}
use Rattle.sa_operators.specs.Operators.{IsIn}
use Rattle.sa_reference.specs.Environments.{put}
use Rattle.sa_reference.specs.Values.{reaches, named_from, named, cell_span}
use Rattle.sa_reference.specs.Assignments.{starred_at, starred_cell, copied}
use Rattle.sa_reference.specs.Sound.{IsAmong}
use Rattle.sa_reference.proofs.SpanLaws.{and_left, and_right, both_true, join_left, join_right, join_in}
use Rattle.sa_reference.proofs.CellLaws.{parts_layout, none_is, are_reached}
use Rattle.sa_reference.proofs.Laws.{main_place}
use Rattle.sa_reference.proofs.PointLaws.{Points, HoldsOf, InNum, put_in, put_long, put_there, put_else, part_is, one_part}
use Rattle.sa_reference.proofs.AccessLaws.{named_has}
use Rattle.sa_reference.proofs.FixedLaws.{Exactly, exact_matches, taken, prefixed_by, step_to, steps_to, within, cells_below}

-- ---- steps to a place
number_is : (k i : ℕ) → (k == i) ≡ true → k ≡ i
number_is k i h = grind (arith, nat_tests)

same_number : (k : ℕ) → (k == k) ≡ true
same_number k = grind (arith, nat_tests)

step_covers : (m : Layout) (p : Part) (k : Layout) → step_into m p ≡ Some k → covers_step (step_to m p) p ≡ true
unfolding step_into
step_covers (leaf num) (At i) k h = cc
step_covers (leaf num) (Field f) k h = cc
step_covers (row n l) (Field f) k h = cc
step_covers (row n l) (At i) k h =
    elim (nat_lt i n) as (λ b. nat_lt i n ≡ b → (if b then Some l else None) ≡ Some k → covers_step (if nat_le n most_elements then one i else all n) (At i) ≡ true) [
      | true ↦ λ e h. by_size (nat_le n most_elements) e
      | false ↦ λ e h. cc
    ] refl h
  where
    by_size : (b : Bool) → nat_lt i n ≡ true → covers_step (if b then one i else all n) (At i) ≡ true
    by_size true e = same_number i
    by_size false e = e
step_covers (fields ls) (At i) k h = cc
step_covers (fields ls) (Field f) k h = same_number f

covers_to : (ps : List Part) (m l : Layout) → parts_layout (Some m) ps ≡ Some l → covers (steps_to m ps) ps ≡ true
unfolding parts_layout steps_to covers
covers_to [] m l h = refl
covers_to (p ∷ ps) m l h =
    elim (step_into m p) as (λ o. step_into m p ≡ o → parts_layout o ps ≡ Some l → (covers_step (step_to m p) p && covers (steps_to (within o) ps) ps) ≡ true) [
      | None ↦ λ e h. none_is ps l h
      | Some k ↦ λ e h. both_true (covers_step (step_to m p) p) (covers (steps_to k ps) ps) (step_covers m p k e) (covers_to ps k l h)
    ] refl h

-- behind the steps to a place, what covers the rest
covers_rest : (ss ts : List cell.Step) (ps rest : List Part) → covers ss ps ≡ true → covers (ss ++ ts) (ps ++ rest) ≡ covers ts rest
unfolding covers
covers_rest [] ts [] rest h = refl
covers_rest [] ts (p ∷ ps) rest h = cc
covers_rest (s ∷ ss) ts [] rest h = cc
covers_rest (s ∷ ss) ts (p ∷ ps) rest h = rw (and_left (covers_step s p) (covers ss ps) h) (covers_rest ss ts ps rest (and_right (covers_step s p) (covers ss ps) h))

after_is : (ps qs rest : List Part) → after_parts ps qs ≡ Some rest → qs ≡ ps ++ rest
unfolding after_parts
after_is [] qs rest h = (let is : qs ≡ rest = cc in is)
after_is (p ∷ ps) [] rest h = cc
after_is (p ∷ ps) (q ∷ qs) rest h =
    elim (same_part p q) as (λ b. same_part p q ≡ b → (if b then after_parts ps qs else None) ≡ Some rest → q ∷ qs ≡ p ∷ (ps ++ rest)) [
      | true ↦ λ e h. let x = part_is p q e in let y = after_is ps qs rest h in cc
      | false ↦ λ e h. cc
    ] refl h

or_left : (a b : Bool) → (a || b) ≡ false → a ≡ false
or_left true b h = cc
or_left false b h = refl

or_right : (a b : Bool) → (a || b) ≡ false → b ≡ false
or_right true b h = cc
or_right false b h = h

-- a cell for one element, below a place, stands for no place but one below it
one_below : (ss ts : List cell.Step) (ps qs : List Part) → is_starred (ss ++ ts) ≡ false → covers ss ps ≡ true → covers (ss ++ ts) qs ≡ true → after_parts ps qs ≡ None → ⊥
unfolding is_starred covers after_parts
one_below [] ts [] qs n h g e = cc
one_below [] ts (p ∷ ps) qs n h g e = cc
one_below (s ∷ ss) ts [] qs n h g e = cc
one_below (s ∷ ss) ts (p ∷ ps) [] n h g e = cc
one_below (s ∷ ss) ts (p ∷ ps) (q ∷ qs) n h g e =
    let same = one_part s p q (or_left (is_all s) (is_starred (ss ++ ts)) n) (and_left (covers_step s p) (covers ss ps) h) (and_left (covers_step s q) (covers (ss ++ ts) qs) g) in
    one_below ss ts ps qs (or_right (is_all s) (is_starred (ss ++ ts)) n) (and_right (covers_step s p) (covers ss ps) h) (and_right (covers_step s q) (covers (ss ++ ts) qs) g)
    (rw same at e)

-- ---- the cells of an access, by their numbers
unfoldable pub kept : ℕ → List Reach → List Cell → List Cell
kept v rs [] = []
kept v rs (c ∷ cs) = if c.var == v && reaches rs c.steps then c ∷ kept v rs cs else kept v rs cs

-- the numbers are those of these cells
unfoldable pub Stand : List Cell → List ℕ → List Cell → Type 0
Stand cs [] [] = Unit {0}
Stand cs [] (d ∷ ds) = ⊥
Stand cs (k ∷ ks) [] = ⊥
Stand cs (k ∷ ks) (d ∷ ds) = (slice_get cs k ≡ Some d) × Stand cs ks ds

-- they rise, from k on
unfoldable pub Rise : ℕ → List ℕ → Type 0
Rise k [] = Unit {0}
Rise k (j ∷ js) = (k ≤ j) × Rise (j + 1) js

named_stand : (v : ℕ) (rs : List Reach) (whole cs : List Cell) (k : ℕ) → ((j : ℕ) → slice_get whole (k + j) ≡ slice_get cs j) → Stand whole (named_from k cs v rs) (kept v rs cs)
unfolding named_from kept Stand
named_stand v rs whole [] k h = tt
named_stand v rs whole (c ∷ cs) k h =
    let z : k + 0 ≡ k = omega arith in
    let rest = named_stand v rs whole cs (k + 1) (λ j. let e : k + 1 + j ≡ k + suc j = omega arith in ap (λ (i : ℕ). slice_get whole i) e ∙ h (suc j)) in
    elim (c.var == v && reaches rs c.steps) as (λ b. Stand whole (if b then k ∷ named_from (k + 1) cs v rs else named_from (k + 1) cs v rs) (if b then c ∷ kept v rs cs else kept v rs cs)) [
      | true ↦ (ap (λ (i : ℕ). slice_get whole i) (sym z) ∙ h 0, rest)
      | false ↦ rest
    ]

rise_less : (j k : ℕ) (ks : List ℕ) → j ≤ k → Rise k ks → Rise j ks
unfolding Rise
rise_less j k [] h r = tt
rise_less j k (i ∷ is) h r = let g = r.0 in (omega (arith, h, g), r.1)

named_rise : (v : ℕ) (rs : List Reach) (cs : List Cell) (k : ℕ) → Rise k (named_from k cs v rs)
unfolding named_from Rise
named_rise v rs [] k = tt
named_rise v rs (c ∷ cs) k =
    elim (c.var == v && reaches rs c.steps) as (λ b. Rise k (if b then k ∷ named_from (k + 1) cs v rs else named_from (k + 1) cs v rs)) [
      | true ↦ (omega arith, named_rise v rs cs (k + 1))
      | false ↦ rise_less k (k + 1) (named_from (k + 1) cs v rs) (omega arith) (named_rise v rs cs (k + 1))
    ]

rise_apart : (k j : ℕ) (js : List ℕ) → Rise (k + 1) js → IsAmong j js → k < j
unfolding Rise
rise_apart k j [] r m = absurd m
rise_apart k j (i ∷ is) r (inl e) = let g = r.0 in omega (arith, g, e)
rise_apart k j (i ∷ is) r (inr m) = let g = r.0 in let h = rise_apart i j is r.1 m in omega (arith, g, h)

kept_append : (v : ℕ) (rs : List Reach) (xs ys : List Cell) → kept v rs (xs ++ ys) ≡ kept v rs xs ++ kept v rs ys
unfolding kept
kept_append v rs [] ys = refl
kept_append v rs (c ∷ cs) ys =
    elim (c.var == v && reaches rs c.steps) as (λ b. (if b then c ∷ kept v rs (cs ++ ys) else kept v rs (cs ++ ys)) ≡ (if b then c ∷ kept v rs cs else kept v rs cs) ++ kept v rs ys) [
      | true ↦ ap (λ (zs : List Cell). c ∷ zs) (kept_append v rs cs ys)
      | false ↦ kept_append v rs cs ys
    ]

-- of the variable's own cells, and of another's
own_kept : (v : ℕ) (rs : List Reach) (cs : List Inner) → kept v rs (cells_of v cs) ≡ cells_of v (taken rs cs)
unfolding kept cells_of taken
own_kept v rs [] = refl
own_kept v rs (c ∷ cs) =
    rw (same_number v) (elim (reaches rs c.steps) as (λ b. (if b then cell_of v c ∷ kept v rs (cells_of v cs) else kept v rs (cells_of v cs)) ≡ cells_of v (if b then c ∷ taken rs cs else taken rs cs)) [
      | true ↦ ap (λ (zs : List Cell). cell_of v c ∷ zs) (own_kept v rs cs)
      | false ↦ own_kept v rs cs
    ])

none_kept : (u v : ℕ) (rs : List Reach) (cs : List Inner) → (u == v) ≡ false → kept v rs (cells_of u cs) ≡ []
unfolding kept cells_of
none_kept u v rs [] h = refl
none_kept u v rs (c ∷ cs) h = rw h (none_kept u v rs cs h)

nothing_kept : (v : ℕ) (rs : List Reach) → kept v rs [] ≡ []
unfolding kept
nothing_kept v rs = refl

-- what is kept of the variables of one sort
abbrev picked : (Home → Bool) → List Cell → Option Var → List Cell
picked sort cs None = []
picked sort cs (Some x) = if sort x.home then cs else []

module _ (p : Program) (v : ℕ) (rs : List Reach) where
  abbrev pub mine : List Cell
  mine = cells_of v (taken rs (inner_cells (layout_of p v)))

  before_kept : (sort : Home → Bool) (vs : List Var) (k : ℕ) → v < k → kept v rs (cells_at p sort k vs) ≡ []
  unfolding cells_at
  before_kept sort [] k h = nothing_kept v rs
  before_kept sort (x ∷ vs) k h =
      let apart : (k == v) ≡ false = grind (arith, nat_tests) in
      elim (sort x.home) as (λ b. kept v rs (if b then cells_of k (inner_cells (layout_of p k)) ++ cells_at p sort (k + 1) vs else cells_at p sort (k + 1) vs) ≡ []) [
        | true ↦ kept_append v rs (cells_of k (inner_cells (layout_of p k))) (cells_at p sort (k + 1) vs)
            ∙ ap (λ (zs : List Cell). zs ++ kept v rs (cells_at p sort (k + 1) vs)) (none_kept k v rs (inner_cells (layout_of p k)) apart) ∙ before_kept sort vs (k + 1) (omega (arith, h))
        | false ↦ before_kept sort vs (k + 1) (omega (arith, h))
      ]

  sort_kept : (sort : Home → Bool) (vs : List Var) (k j : ℕ) → k + j ≡ v → kept v rs (cells_at p sort k vs) ≡ picked sort mine (slice_get vs j)
  unfolding cells_at
  sort_kept sort [] k j e = nothing_kept v rs
  sort_kept sort (x ∷ vs) k zero e =
      let is : k ≡ v = omega (arith, e) in
      elim (sort x.home) as (λ b. kept v rs (if b then cells_of k (inner_cells (layout_of p k)) ++ cells_at p sort (k + 1) vs else cells_at p sort (k + 1) vs) ≡ (if b then mine else [])) [
        | true ↦ kept_append v rs (cells_of k (inner_cells (layout_of p k))) (cells_at p sort (k + 1) vs)
            ∙ ap (λ (zs : List Cell). zs ++ kept v rs (cells_at p sort (k + 1) vs)) (ap (λ (u : ℕ). kept v rs (cells_of u (inner_cells (layout_of p u)))) is ∙ own_kept v rs (inner_cells (layout_of p v)))
            ∙ ap (λ (zs : List Cell). mine ++ zs) (before_kept sort vs (k + 1) (omega (arith, is))) ∙ append-nil mine
        | false ↦ before_kept sort vs (k + 1) (omega (arith, is))
      ]
  sort_kept sort (x ∷ vs) k (suc j) e =
      let apart : (k == v) ≡ false = grind (arith, nat_tests) in
      let rest = sort_kept sort vs (k + 1) j (omega (arith, e)) in
      elim (sort x.home) as (λ b. kept v rs (if b then cells_of k (inner_cells (layout_of p k)) ++ cells_at p sort (k + 1) vs else cells_at p sort (k + 1) vs) ≡ picked sort mine (slice_get vs j)) [
        | true ↦ kept_append v rs (cells_of k (inner_cells (layout_of p k))) (cells_at p sort (k + 1) vs)
            ∙ ap (λ (zs : List Cell). zs ++ kept v rs (cells_at p sort (k + 1) vs)) (none_kept k v rs (inner_cells (layout_of p k)) apart) ∙ rest
        | false ↦ rest
      ]

  none_of : (v : ℕ) → cells_of v [] ≡ []
  unfolding cells_of
  none_of v = refl

  no_cells : taken rs (inner_cells (fields no_field)) ≡ []
  unfolding taken inner_cells
  no_cells = refl

  pub program_kept : kept v rs (cells p) ≡ mine
  unfolding cells layout_of
  program_kept =
      kept_append v rs globals (statics ++ locals) ∙ ap (λ (zs : List Cell). kept v rs globals ++ zs) (kept_append v rs statics locals)
      ∙ ap (λ (zs : List Cell). zs ++ (kept v rs statics ++ kept v rs locals)) (sort_kept is_global p.vars 0 v (omega arith))
      ∙ ap (λ (zs : List Cell). picked is_global mine (slice_get p.vars v) ++ (zs ++ kept v rs locals)) (sort_kept is_static p.vars 0 v (omega arith))
      ∙ ap (λ (zs : List Cell). picked is_global mine (slice_get p.vars v) ++ (picked is_static mine (slice_get p.vars v) ++ zs)) (sort_kept is_local p.vars 0 v (omega arith))
      ∙ once (slice_get p.vars v) refl
    where
      globals : List Cell
      globals = cells_at p is_global 0 p.vars

      statics : List Cell
      statics = cells_at p is_static 0 p.vars

      locals : List Cell
      locals = cells_at p is_local 0 p.vars

      by_home : (h : Home) → (if is_global h then mine else []) ++ ((if is_static h then mine else []) ++ (if is_local h then mine else [])) ≡ mine
      by_home home.Global = append-nil mine
      by_home home.Static = append-nil mine
      by_home (home.Local f) = refl

      once : (o : Option Var) → slice_get p.vars v ≡ o → picked is_global mine o ++ (picked is_static mine o ++ picked is_local mine o) ≡ mine
      once None e = sym (ap (λ (l : Layout). cells_of v (taken rs (inner_cells l))) (ap (λ (o : Option Var). var_layout p.structs o) e) ∙ ap (λ (cs : List Inner). cells_of v cs) no_cells ∙ none_of v)
      once (Some x) e = by_home x.home

-- the cells that an access to one place names, by their numbers
pub cells_stand : (p : Program) (v : ℕ) (rs : List Reach) (ps : List Part) (l : Layout) → Exactly rs ps → parts_layout (Some (layout_of p v)) ps ≡ Some l →
    Stand (cells p) (named p v rs) (cells_of v (prefixed_by (steps_to (layout_of p v) ps) (inner_cells l)))
unfolding named
cells_stand p v rs ps l e h =
    subst (λ (ds : List Cell). Stand (cells p) (named_from 0 (cells p) v rs) ds) (program_kept p v rs ∙ ap (λ (cs : List Inner). cells_of v cs) (cells_below rs ps (layout_of p v) l e h))
    (named_stand v rs (cells p) (cells p) 0 (λ j. let z : 0 + j ≡ j = omega arith in ap (λ (i : ℕ). slice_get (cells p) i) z))

pub named_rises : (p : Program) (v : ℕ) (rs : List Reach) → Rise 0 (named p v rs)
unfolding named
named_rises p v rs = named_rise v rs (cells p) 0

-- ---- the copy
get_inside : (cs : List Cell) (j : ℕ) (c : Cell) → slice_get cs j ≡ Some c → j < length cs
get_inside [] j c e = cc
get_inside (d ∷ cs) zero c e = omega arith
get_inside (d ∷ cs) (suc j) c e = let i = get_inside cs j c e in omega (arith, i)

get_cell : (cs : List Cell) (j : ℕ) → j < length cs → (c : Cell) × (slice_get cs j ≡ Some c)
get_cell [] j h = absurd (omega (arith, h))
get_cell (c ∷ cs) zero h = (c, refl)
get_cell (c ∷ cs) (suc j) h = get_cell cs j (omega (arith, h))

-- after a change at k: what holds at each cell
changed : (P Q : Cell → Span → Type 0) (cs : List Cell) (k : ℕ) (s : Span) (ss : List Span) → length ss ≡ length cs → ((c : Cell) → slice_get cs k ≡ Some c → Q c s) →
    (j : ℕ) (c : Cell) → slice_get cs j ≡ Some c → ((j == k) ≡ false → P c (cell_span ss j)) → ((c : Cell) (t : Span) → P c t → (j == k) ≡ false → Q c t) → Q c (cell_span (put k s ss) j)
changed P Q cs k s ss long new j c e old keep =
    elim (j == k) as (λ b. (j == k) ≡ b → Q c (cell_span (put k s ss) j)) [
      | true ↦ λ f.
          let is = number_is j k f in
          let inside = get_inside cs j c e in
          subst (λ (i : ℕ). Q c (cell_span (put k s ss) i)) (sym is)
          (subst (λ (t : Span). Q c t) (sym (put_there k s ss (omega (arith, inside, is, long)))) (new c (subst (λ (i : ℕ). slice_get cs i ≡ Some c) is e)))
      | false ↦ λ f. subst (λ (t : Span). Q c t) (sym (put_else j k s ss f)) (keep c (cell_span ss j) (old f) f)
    ] refl

module _ (p : Program) (v u : ℕ) (rs qs : List Reach) (ps ts : List Part) (l : Layout) (first : Exactly rs ps) (second : Exactly qs ts)
    (leads : parts_layout (Some (layout_of p v)) ps ≡ Some l) (from : parts_layout (Some (layout_of p u)) ts ≡ Some l) (store : Store) (old : List Span) (holds : Points (HoldsOf store) (cells p) old) where
  abbrev pub to : Place
  to = main_place v ps

  abbrev pub new : Store
  new = run.copied to (main_place u ts) store

  abbrev pre : List cell.Step
  pre = steps_to (layout_of p v) ps

  abbrev pre2 : List cell.Step
  pre2 = steps_to (layout_of p u) ts

  -- what a store of the copy has at a place
  below : (q : Place) → same_var q to ≡ true → (rest : List Part) → after_parts ps q.parts ≡ Some rest → new q ≡ store (record { path = []; var = u; parts = ts ++ rest })
  below q e rest h = rw (e, h) refl

  beside : (q : Place) → same_var q to ≡ true → after_parts ps q.parts ≡ None → new q ≡ store q
  beside q e h = rw (e, h) refl

  apart : (q : Place) → same_var q to ≡ false → new q ≡ store q
  apart q e = rw e refl

  -- a cell below the place on the left
  named_var : (steps : List cell.Step) (num : Num) (q : Place) → names (record { var = v; steps = steps; num = num }) q ≡ true → (same_var q to ≡ true) × (covers steps q.parts ≡ true)
  named_var steps num q n =
      let m = and_right (is_root q.path) (v == q.var && covers steps q.parts) n in
      let is = number_is v q.var (and_left (v == q.var) (covers steps q.parts) m) in
      let w : (q.var == v) ≡ true = grind (arith, nat_tests) in
      (both_true (same_path q.path []) (q.var == v) (rooted q.path (and_left (is_root q.path) (v == q.var && covers steps q.parts) n)) w, and_right (v == q.var) (covers steps q.parts) m)
    where
      rooted : (xs : List Pos) → is_root xs ≡ true → same_path xs [] ≡ true
      rooted [] h = refl
      rooted (x ∷ xs) h = cc

  named_there : (steps : List cell.Step) (num : Num) (rest : List Part) → covers steps (ts ++ rest) ≡ true → names (record { var = u; steps = steps; num = num }) (record { path = []; var = u; parts = ts ++ rest }) ≡ true
  named_there steps num rest h = both_true (u == u) (covers steps (ts ++ rest)) (same_number u) h

  -- what the cell there held the cell here holds, of a place below
  holds_below : (c : Inner) (d : ℕ) (q : Place) (rest : List Part) → slice_get (cells p) d ≡ Some (record { var = u; steps = pre2 ++ c.steps; num = c.num }) → same_var q to ≡ true → covers (pre ++ c.steps) q.parts ≡ true →
      after_parts ps q.parts ≡ Some rest → Within (cell_span old d) (new q)
  holds_below c d q rest e s h f =
      let is : q.parts ≡ ps ++ rest = after_is ps q.parts rest f in
      let cov : covers c.steps rest ≡ true = sym (covers_rest pre c.steps ps rest (covers_to ps (layout_of p v) l leads)) ∙ subst (λ (xs : List Part). covers (pre ++ c.steps) xs ≡ true) is h in
      let cov2 : covers (pre2 ++ c.steps) (ts ++ rest) ≡ true = covers_rest pre2 c.steps ts rest (covers_to ts (layout_of p u) l from) ∙ cov in
      subst (λ (z : ℤ). Within (cell_span old d) z) (sym (below q s rest f)) (holds.at d (record { var = u; steps = pre2 ++ c.steps; num = c.num }) e (record { path = []; var = u; parts = ts ++ rest }) (named_there (pre2 ++ c.steps) c.num rest cov2))

  -- the cell here, after the change
  new_at : (c : Inner) (k d : ℕ) (now : Span) → slice_get (cells p) k ≡ Some (record { var = v; steps = pre ++ c.steps; num = c.num }) → slice_get (cells p) d ≡ Some (record { var = u; steps = pre2 ++ c.steps; num = c.num }) →
      HoldsOf store (record { var = v; steps = pre ++ c.steps; num = c.num }) now →
      HoldsOf new (record { var = v; steps = pre ++ c.steps; num = c.num }) (if starred_at (cells p) k then join_of now (cell_span old d) else cell_span old d)
  new_at c k d now e f h q n =
      let m = named_var (pre ++ c.steps) c.num q n in
      elim (starred_at (cells p) k) as (λ s. starred_at (cells p) k ≡ s → Within (if s then join_of now (cell_span old d) else cell_span old d) (new q)) [
        | true ↦ λ s. elim (after_parts ps q.parts) as (λ o. after_parts ps q.parts ≡ o → Within (join_of now (cell_span old d)) (new q)) [
          | None ↦ λ g. join_left now (cell_span old d) (new q) (subst (λ (z : ℤ). Within now z) (sym (beside q m.0 g)) (h q n))
          | Some rest ↦ λ g. join_right now (cell_span old d) (new q) (holds_below c d q rest f m.0 m.1 g)
        ] refl
        | false ↦ λ s. elim (after_parts ps q.parts) as (λ o. after_parts ps q.parts ≡ o → Within (cell_span old d) (new q)) [
          | None ↦ λ g. absurd (one_below pre c.steps ps q.parts (alone s) (covers_to ps (layout_of p v) l leads) m.1 g)
          | Some rest ↦ λ g. holds_below c d q rest f m.0 m.1 g
        ] refl
      ] refl
    where
      alone : starred_at (cells p) k ≡ false → is_starred (pre ++ c.steps) ≡ false
      alone s = subst (λ (o : Option Cell). starred_cell o ≡ false) e s

  -- the cells that are still to be changed hold of the store before, the others of the store after
  record Between (js : List ℕ) (ss : List Span) : Type 0 where
    long : length ss ≡ length (cells p)
    still : (j : ℕ) (c : Cell) → slice_get (cells p) j ≡ Some c → IsAmong j js → HoldsOf store c (cell_span ss j)
    done : (j : ℕ) (c : Cell) → slice_get (cells p) j ≡ Some c → (IsAmong j js → ⊥) → HoldsOf new c (cell_span ss j)

  one_more : (c : Inner) (k d : ℕ) (ks : List ℕ) (ss : List Span) → slice_get (cells p) k ≡ Some (record { var = v; steps = pre ++ c.steps; num = c.num }) → slice_get (cells p) d ≡ Some (record { var = u; steps = pre2 ++ c.steps; num = c.num }) →
      Rise (k + 1) ks → Between (k ∷ ks) ss → Between ks (put k (if starred_at (cells p) k then join_of (cell_span ss k) (cell_span old d) else cell_span old d) ss)
  one_more c k d ks ss e f r h = record { long = put_long k s ss ∙ h.long; still = still; done = done }
    where
      s : Span
      s = if starred_at (cells p) k then join_of (cell_span ss k) (cell_span old d) else cell_span old d

      still : (j : ℕ) (x : Cell) → slice_get (cells p) j ≡ Some x → IsAmong j ks → HoldsOf store x (cell_span (put k s ss) j)
      still j x g m =
          let less = rise_apart k j ks r m in
          let other : (j == k) ≡ false = grind (arith, nat_tests) in
          subst (λ (t : Span). HoldsOf store x t) (sym (put_else j k s ss other)) (h.still j x g (inr m))

      done : (j : ℕ) (x : Cell) → slice_get (cells p) j ≡ Some x → (IsAmong j ks → ⊥) → HoldsOf new x (cell_span (put k s ss) j)
      done j x g n =
          changed (λ x t. HoldsOf new x t) (λ x t. HoldsOf new x t) (cells p) k s ss h.long
          (λ x g. let is : record { var = v; steps = pre ++ c.steps; num = c.num } ≡ x = some_is (sym e ∙ g) in subst (λ (x : Cell). HoldsOf new x s) is (new_at c k d (cell_span ss k) e f (h.still k _ e (inl refl))))
          j x g (λ other. h.done j x g (λ m. neither m other)) (λ x t y other. y)
        where
          some_is : {a b : Cell} → Some a ≡ Some b → a ≡ b
          some_is h = cc

          neither : IsAmong j (k ∷ ks) → (j == k) ≡ false → ⊥
          neither (inl is) other = let t : (j == k) ≡ true = grind (arith, nat_tests) in cc
          neither (inr m) other = n m

  copy_each : (sub : List Inner) (ks ds : List ℕ) (i : ℕ) (ss : List Span) → Stand (cells p) ks (cells_of v (prefixed_by pre sub)) → Stand (cells p) ds (cells_of u (prefixed_by pre2 sub)) → Rise i ks → Between ks ss →
      Points (HoldsOf new) (cells p) (copied (cells p) ks ds old ss)
  unfolding cells_of prefixed_by Stand copied Rise
  copy_each [] [] ds i ss x y r h = record { long = h.long; at = λ j c e. h.done j c e (λ m. m) }
  copy_each [] (k ∷ ks) ds i ss x y r h = absurd x
  copy_each (c ∷ sub) [] ds i ss x y r h = absurd x
  copy_each (c ∷ sub) (k ∷ ks) [] i ss x y r h = absurd y
  copy_each (c ∷ sub) (k ∷ ks) (d ∷ ds) i ss x y r h = copy_each sub ks ds (k + 1) _ x.1 y.1 r.1 (one_more c k d ks ss x.0 y.0 r.1 h)

  -- a cell that the access doesn't name stands for no place below
  not_named : (j : ℕ) (c : Cell) → slice_get (cells p) j ≡ Some c → (IsAmong j (named p v rs) → ⊥) → (q : Place) → names c q ≡ true → new q ≡ store q
  unfolding named
  not_named j c e n q m =
      elim (same_var q to) as (λ s. same_var q to ≡ s → new q ≡ store q) [
        | false ↦ λ s. apart q s
        | true ↦ λ s. elim (after_parts ps q.parts) as (λ o. after_parts ps q.parts ≡ o → new q ≡ store q) [
          | None ↦ λ g. beside q s g
          | Some rest ↦ λ g. absurd (n (among rest s g))
        ] refl
      ] refl
    where
      among : (rest : List Part) → same_var q to ≡ true → after_parts ps q.parts ≡ Some rest → IsAmong j (named_from 0 (cells p) v rs)
      among rest s g =
          let y = and_right (is_root q.path) (c.var == q.var && covers c.steps q.parts) m in
          let is : c.var ≡ v = number_is c.var q.var (and_left (c.var == q.var) (covers c.steps q.parts) y) ∙ number_is q.var v (and_right (same_path q.path []) (q.var == v) s) in
          let var : (c.var == v) ≡ true = grind (arith, nat_tests) in
          let cov = subst (λ (xs : List Part). covers c.steps xs ≡ true) (after_is ps q.parts rest g) (and_right (c.var == q.var) (covers c.steps q.parts) y) in
          let reach = are_reached rs c.steps (ps ++ rest) (exact_matches rs ps rest first) cov in
          let z : 0 + j ≡ j = omega arith in
          subst (λ (i : ℕ). IsAmong i (named_from 0 (cells p) v rs)) z (named_has v rs (cells p) 0 j c e (both_true (c.var == v) (reaches rs c.steps) var reach))

  pub copy_holds : Points (HoldsOf new) (cells p) (copied (cells p) (named p v rs) (named p u qs) old old)
  copy_holds =
      copy_each (inner_cells l) (named p v rs) (named p u qs) 0 old (cells_stand p v rs ps l first leads) (cells_stand p u qs ts l second from) (named_rises p v rs)
      (record { long = holds.long; still = λ j c e m. holds.at j c e; done = λ j c e n q m. subst (λ (z : ℤ). Within (cell_span old j) z) (sym (not_named j c e n q m)) (holds.at j c e q m) })

-- ---- what a copy keeps
module _ (cs : List Cell) (v u : ℕ) (pre pre2 : List cell.Step) (old : List Span) (fair : Points InNum cs old) where
  span_in : (c : Inner) (k d : ℕ) (now : Span) → slice_get cs k ≡ Some (record { var = v; steps = pre ++ c.steps; num = c.num }) → slice_get cs d ≡ Some (record { var = u; steps = pre2 ++ c.steps; num = c.num }) →
      IsIn c.num now → IsIn c.num (if starred_at cs k then join_of now (cell_span old d) else cell_span old d)
  span_in c k d now e f h =
      let g : IsIn c.num (cell_span old d) = fair.at d (record { var = u; steps = pre2 ++ c.steps; num = c.num }) f in
      elim (starred_at cs k) as (λ b. IsIn c.num (if b then join_of now (cell_span old d) else cell_span old d)) [ true ↦ join_in c.num now (cell_span old d) h g | false ↦ g ]

  pub copies_in : (sub : List Inner) (ks ds : List ℕ) (ss : List Span) → Stand cs ks (cells_of v (prefixed_by pre sub)) → Stand cs ds (cells_of u (prefixed_by pre2 sub)) → Points InNum cs ss →
      Points InNum cs (copied cs ks ds old ss)
  unfolding cells_of prefixed_by Stand copied
  copies_in [] [] ds ss x y h = h
  copies_in [] (k ∷ ks) ds ss x y h = absurd x
  copies_in (c ∷ sub) [] ds ss x y h = absurd x
  copies_in (c ∷ sub) (k ∷ ks) [] ss x y h = absurd y
  copies_in (c ∷ sub) (k ∷ ks) (d ∷ ds) ss x y h =
      copies_in sub ks ds _ x.1 y.1
      (put_in cs k _ ss (λ z e. let is : record { var = v; steps = pre ++ c.steps; num = c.num } ≡ z = some_is (sym x.0 ∙ e) in
      subst (λ (z : Cell). IsIn z.num (if starred_at cs k then join_of (cell_span ss k) (cell_span old d) else cell_span old d)) is (span_in c k d (cell_span ss k) x.0 y.0 (h.at k _ x.0))) h)
    where
      some_is : {a b : Cell} → Some a ≡ Some b → a ≡ b
      some_is h = cc
