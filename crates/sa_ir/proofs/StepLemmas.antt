-- One step of an access: to elements, and to a field.
use Rattle.std.proofs.Common.{◌≡◌, ℕ, zero, suc, ◌+◌, ◌*◌, ◌/◌, ◌<◌, ◌≤◌, true, false, List, [], ◌∷◌, length, refl, sym, ◌∙◌, length-append, arith}
use Rattle.std.specs.Prelude.{nat_le, Option, Some, None, slice_get}
use Rattle.std.proofs.lemmas.Bool.Decides.{nat_tests}
use Rattle.std.proofs.lemmas.List.{take_all}
use Rattle.std.proofs.Math.Nat.{mul-div_cancel_left}
use Rattle.sa_typed.specs.Layouts.{Layout, Layouts, row, fields, layout_of, shape_layout}
use Rattle.sa_typed.specs.Cells.{Inner, inner_cells, each_behind, all_behind, one, all, most_elements}
use Rattle.sa_typed.specs.declared.shape.Shape.{Shape}
use Rattle.sa_typed.specs.declared.shape.StructDef.{StructDef}
use Rattle.sa_typed.specs.declared.program.Var.{Var}
use Rattle.sa_typed.specs.declared.program.Program.{Program}
use Rattle.sa_typed.specs.Frames.{size}
use Rattle.sa_ir.specs.Sizes.{sizes, among}
use Rattle.sa_ir.proofs.ReachLemmas.{length-behind}
use Rattle.sa_ir.proofs.StructLemmas.{size-fields}

-- ---- sizes
length-each : (n k : ℕ) (cs : List Inner) → length (each_behind n k cs) ≡ n * length cs
unfolding each_behind
length-each zero k cs = grind arith
length-each (suc n) k cs =
    length-append (all_behind (one k) cs) (each_behind n (k + 1) cs)
    ∙ rw (length-behind (one k) cs, length-each n (k + 1) cs) (grind arith)

pub size-small : (n : ℕ) (l : Layout) → n ≤ 128 → size (row n l) ≡ n * size l
unfolding size inner_cells
size-small n l h =
    let e : nat_le n most_elements ≡ true = grind (arith, nat_tests) in
    rw e (length-each n 0 (inner_cells l))

pub size-large : (n : ℕ) (l : Layout) → 128 < n → size (row n l) ≡ size l
unfolding size inner_cells
size-large n l h =
    let e : nat_le n most_elements ≡ false = grind (arith, nat_tests) in
    rw e (length-behind (all n) (inner_cells l))

pub size-of-fields : (ls : Layouts) → size (fields ls) ≡ sizes ls
unfolding size inner_cells
size-of-fields ls = size-fields 0 ls

pub width-is : (n w c : ℕ) → 0 < n → c ≡ n * w → c / n ≡ w
width-is n w c h e = rw e (mul-div_cancel_left w h)

pub among-all : (structs : List StructDef) (s : Shape) → among structs (length structs) s ≡ shape_layout structs s
unfolding among
among-all structs s = rw (take_all (length structs) structs (omega arith)) refl

-- ---- a variable
pub layout-known : (p : Program) (v : ℕ) (x : Var) → slice_get p.vars v ≡ Some x → layout_of p v ≡ among p.structs (length p.structs) x.shape
unfolding layout_of
layout-known p v x h = rw h (sym (among-all p.structs x.shape))

pub there-is : {X : Type 0} (xs : List X) (i : ℕ) → i < length xs → slice_get xs i ≡ None → ⊥
there-is [] i h e = omega arith
there-is (x ∷ xs) zero h e = cc
there-is (x ∷ xs) (suc i) h e = there-is xs i (omega arith) e

pub here : {X : Type 0} (xs : List X) (i : ℕ) → i < length xs → (x : X) × (slice_get xs i ≡ Some x)
here [] i h = absurd (omega arith)
here (x ∷ xs) zero h = (x, refl)
here (x ∷ xs) (suc i) h = here xs i (omega arith)

pub not-both : {X : Type 0} (o : Option X) (x : X) → o ≡ Some x → o ≡ None → ⊥
not-both o x e f = cc

pub past-end : {X : Type 0} (xs : List X) (i : ℕ) → slice_get xs i ≡ None → length xs ≤ i
past-end [] i h = omega arith
past-end (x ∷ xs) zero h = absurd cc
past-end (x ∷ xs) (suc i) h = let r = past-end xs i h in omega (arith, r)
