-- Cells by their variables and numbers, one on and at the end; and that they are the cells of the program.
use Rattle.std.proofs.Common.{◌≡◌, ℕ, zero, suc, ◌+◌, ◌-◌, ◌<◌, ◌≤◌, Bool, true, false, List, [], ◌∷◌, ◌++◌, length, drop, map, get_or, refl, sym, ap, ap₂, ◌∙◌, append_assoc, append-nil, arith, Some}
use Rattle.std.proofs.lemmas.List.{drop_more, drop_all, map-append}
use Rattle.std.proofs.lemmas.List.Elements.{All-nil, All-cons, All-append}
use Rattle.std.specs.List.{All}
use Rattle.std.specs.Prelude.{if◌then◌else◌, slice_get, option_map}
use Rattle.sa_typed.specs.Cells.{Cell, inner_cells, cell_of, cells_of, cells_at, cells, is_global, is_static, is_local}
use Rattle.sa_typed.specs.Layouts.{layout_of}
use Rattle.sa_typed.specs.declared.program.Home.{Home}
use Rattle.sa_typed.specs.declared.program.Var.{Var}
use Rattle.sa_typed.specs.declared.program.Program.{Program}
use Rattle.sa_cells.specs.declared.ground.Stretch.{Stretch}
use Rattle.sa_cells.specs.Sizes.{size, stretch_of, stretch_at}
use Rattle.sa_report.specs.declared.names.Spot.{Spot}
use Rattle.sa_report.specs.declared.names.Sort.{Sort}
use Rattle.sa_report.specs.declared.names.Sort.TheVariants as sort
use Rattle.sa_report.specs.Spots.{has_home, spots_from, spots_at, spots, no_cell, cell_at, IsSpot}

-- ---- the cells of a variable
pub from-more : (v n k : ℕ) (old new whole : List Spot) → k < n → new ≡ old ++ record { var = v; number = k } ∷ [] → old ++ spots_from v (n - k) k ≡ whole → new ++ spots_from v (n - (k + 1)) (k + 1) ≡ whole
unfolding spots_from
from-more v n k old new whole h e left =
    let one : n - k ≡ suc (n - (k + 1)) = omega arith in
    ap (λ (xs : List Spot). xs ++ spots_from v (n - (k + 1)) (k + 1)) e ∙ append_assoc old (record { var = v; number = k } ∷ []) (spots_from v (n - (k + 1)) (k + 1))
    ∙ ap (λ (m : ℕ). old ++ spots_from v m k) (sym one) ∙ left

pub from-end : (v n k : ℕ) (old whole : List Spot) → n ≤ k → old ++ spots_from v (n - k) k ≡ whole → old ≡ whole
unfolding spots_from
from-end v n k old whole h left = let none : n - k ≡ 0 = omega arith in sym (append-nil old) ∙ ap (λ (m : ℕ). old ++ spots_from v m k) (sym none) ∙ left

-- what the table of variables says
pub stretch-is : (p : Program) (ss : List Stretch) (k : ℕ) (d : Stretch) → ((v : ℕ) → slice_get ss v ≡ stretch_at p v) → k < length p.vars → (get_or ss k d).cells ≡ size (layout_of p k)
stretch-is p ss k d h l =
    let known : (v : Var) → slice_get p.vars k ≡ Some v → (get_or ss k d).cells ≡ size (layout_of p k)
    = λ v e. (let at : slice_get ss k ≡ Some (stretch_of p k v) = h k ∙ ap (option_map (stretch_of p k)) e in ap (λ (t : Stretch). t.cells) (get-is ss k d (stretch_of p k v) at)) in
    any-var p.vars k l known
  where
    get-is : (ss : List Stretch) (k : ℕ) (d t : Stretch) → slice_get ss k ≡ Some t → get_or ss k d ≡ t
    get-is [] k d t e = absurd cc
    get-is (s ∷ ss) zero d t e = cc
    get-is (s ∷ ss) (suc k) d t e = get-is ss k d t e

    any-var : {P : Type 0} (vs : List Var) (k : ℕ) → k < length vs → ((v : Var) → slice_get vs k ≡ Some v → P) → P
    any-var [] k h go = absurd (omega arith)
    any-var (v ∷ vs) zero h go = go v refl
    any-var (v ∷ vs) (suc k) h go = any-var vs k (omega arith) go

-- ---- the variables of a sort
module _ (p : Program) (s : Sort) (k : ℕ) (v : Var) (old : List Spot) (h : k < length p.vars) (is : v ≡ get_or p.vars k v) where
  here : spots_at p s k (drop k p.vars) ≡ (if has_home s v.home then spots_from k (size (layout_of p k)) 0 ++ spots_at p s (k + 1) (drop (k + 1) p.vars) else spots_at p s (k + 1) (drop (k + 1) p.vars))
  unfolding spots_at
  here = ap (spots_at p s k) (drop_more p.vars k v h ∙ ap (λ (x : Var). x ∷ drop (k + 1) p.vars) (sym is))

  pub sort-more : (ss : List Stretch) (d : Stretch) (new whole : List Spot) → ((v : ℕ) → slice_get ss v ≡ stretch_at p v) → has_home s v.home ≡ true → new ≡ old ++ spots_from k (get_or ss k d).cells 0 →
      old ++ spots_at p s k (drop k p.vars) ≡ whole → new ++ spots_at p s (k + 1) (drop (k + 1) p.vars) ≡ whole
  sort-more ss d new whole table t e left =
      let rest = spots_at p s (k + 1) (drop (k + 1) p.vars) in
      let own = spots_from k (size (layout_of p k)) 0 in
      ap (λ (xs : List Spot). xs ++ rest) (e ∙ ap (λ (m : ℕ). old ++ spots_from k m 0) (stretch-is p ss k d table h)) ∙ append_assoc old own rest
      ∙ ap (λ (xs : List Spot). old ++ xs) (sym (here ∙ ap (λ (b : Bool). if b then own ++ rest else rest) t)) ∙ left

  pub sort-other : (whole : List Spot) → has_home s v.home ≡ false → old ++ spots_at p s k (drop k p.vars) ≡ whole → old ++ spots_at p s (k + 1) (drop (k + 1) p.vars) ≡ whole
  sort-other whole t left =
      let rest = spots_at p s (k + 1) (drop (k + 1) p.vars) in
      let own = spots_from k (size (layout_of p k)) 0 in
      ap (λ (xs : List Spot). old ++ xs) (sym (here ∙ ap (λ (b : Bool). if b then own ++ rest else rest) t)) ∙ left

pub sort-end : (p : Program) (s : Sort) (k : ℕ) (old whole : List Spot) → length p.vars ≤ k → old ++ spots_at p s k (drop k p.vars) ≡ whole → old ≡ whole
unfolding spots_at
sort-end p s k old whole h left = sym (ap (λ (vs : List Var). old ++ spots_at p s k vs) (drop_all k p.vars h) ∙ append-nil old) ∙ left

-- ---- they are the cells of the program
from-cells : (p : Program) (v n k : ℕ) → k + n ≡ size (layout_of p v) → map (cell_at p) (spots_from v n k) ≡ cells_of v (drop k (inner_cells (layout_of p v)))
unfolding spots_from cells_of size cell_at
from-cells p v zero k h = sym (ap (cells_of v) (drop_all k (inner_cells (layout_of p v)) (omega arith)))
from-cells p v (suc n) k h =
    let cs = inner_cells (layout_of p v) in
    ap (λ (xs : List Cell). cell_of v (get_or cs k no_cell) ∷ xs) (from-cells p v n (k + 1) (omega arith)) ∙ sym (ap (cells_of v) (drop_more cs k no_cell (omega arith)))

own-cells : (p : Program) (v : ℕ) → map (cell_at p) (spots_from v (size (layout_of p v)) 0) ≡ cells_of v (inner_cells (layout_of p v))
own-cells p v = from-cells p v (size (layout_of p v)) 0 (omega arith)

at-cells : (p : Program) (s : Sort) (f : Home → Bool) → ((h : Home) → has_home s h ≡ f h) → (k : ℕ) (vs : List Var) → map (cell_at p) (spots_at p s k vs) ≡ cells_at p f k vs
unfolding spots_at cells_at
at-cells p s f same k [] = refl
at-cells p s f same k (v ∷ vs) =
    let own = spots_from k (size (layout_of p k)) 0 in
    let rest = spots_at p s (k + 1) vs in
    ap (λ (b : Bool). map (cell_at p) (if b then own ++ rest else rest)) (same v.home)
    ∙ elim (f v.home) as (λ b. map (cell_at p) (if b then own ++ rest else rest) ≡ (if b then cells_of k (inner_cells (layout_of p k)) ++ cells_at p f (k + 1) vs else cells_at p f (k + 1) vs)) [
      | true ↦ map-append (cell_at p) own rest ∙ ap₂ (λ (xs ys : List Cell). xs ++ ys) (own-cells p k) (at-cells p s f same (k + 1) vs)
      | false ↦ at-cells p s f same (k + 1) vs
    ]

pub cells-are : (p : Program) → cells p ≡ map (cell_at p) (spots p)
unfolding cells spots
cells-are p =
    let g = spots_at p sort.Global 0 p.vars in
    let t = spots_at p sort.Static 0 p.vars in
    let l = spots_at p sort.Local 0 p.vars in
    sym (map-append (cell_at p) g (t ++ l)
    ∙ ap₂ (λ (xs ys : List Cell). xs ++ ys) (at-cells p sort.Global is_global (λ h. refl) 0 p.vars)
    (map-append (cell_at p) t l ∙ ap₂ (λ (xs ys : List Cell). xs ++ ys) (at-cells p sort.Static is_static (λ h. refl) 0 p.vars) (at-cells p sort.Local is_local (λ h. refl) 0 p.vars)))

-- each is of a variable, and below the number of its cells
from-spots : (p : Program) (v n k : ℕ) → v < length p.vars → k + n ≡ size (layout_of p v) → All (IsSpot p) (spots_from v n k)
unfolding spots_from
from-spots p v zero k l h = All-nil (IsSpot p)
from-spots p v (suc n) k l h = All-cons (IsSpot p) (record { var = v; number = k }) (spots_from v n (k + 1)) (record { var = l; number = omega arith }) (from-spots p v n (k + 1) l (omega arith))

at-spots : (p : Program) (s : Sort) (k : ℕ) (vs : List Var) → k + length vs ≡ length p.vars → All (IsSpot p) (spots_at p s k vs)
unfolding spots_at
at-spots p s k [] h = All-nil (IsSpot p)
at-spots p s k (v ∷ vs) h =
    let rest = at-spots p s (k + 1) vs (omega arith) in
    elim (has_home s v.home) as (λ b. All (IsSpot p) (if b then spots_from k (size (layout_of p k)) 0 ++ spots_at p s (k + 1) vs else spots_at p s (k + 1) vs)) [
      | true ↦ All-append (IsSpot p) (spots_from k (size (layout_of p k)) 0) (spots_at p s (k + 1) vs) (from-spots p k (size (layout_of p k)) 0 (omega arith) (omega arith)) rest
      | false ↦ rest
    ]

pub are-spots : (p : Program) → All (IsSpot p) (spots p)
unfolding spots
are-spots p =
    All-append (IsSpot p) (spots_at p sort.Global 0 p.vars) (spots_at p sort.Static 0 p.vars ++ spots_at p sort.Local 0 p.vars) (at-spots p sort.Global 0 p.vars (omega arith))
    (All-append (IsSpot p) (spots_at p sort.Static 0 p.vars) (spots_at p sort.Local 0 p.vars) (at-spots p sort.Static 0 p.vars (omega arith)) (at-spots p sort.Local 0 p.vars (omega arith)))

pub spots-whole : (p : Program) (n a b d : List Spot) → n ≡ [] → a ≡ n ++ spots_at p sort.Global 0 p.vars → b ≡ a ++ spots_at p sort.Static 0 p.vars → d ≡ b ++ spots_at p sort.Local 0 p.vars → d ≡ spots p
unfolding spots
spots-whole p n a b d e f g h =
    let l = spots_at p sort.Local 0 p.vars in
    let t = spots_at p sort.Static 0 p.vars in
    let first = spots_at p sort.Global 0 p.vars in
    h ∙ ap (λ (x : List Spot). x ++ l) (g ∙ ap (λ (x : List Spot). x ++ t) (f ∙ ap (λ (x : List Spot). x ++ first) e)) ∙ append_assoc first t l
