-- What is fixed of a program, variable by variable and structure by structure.
use Rattle.std.proofs.Common.{◌≡◌, ℕ, ◌+◌, ◌<◌, ◌≤◌, List, [], ◌∷◌, ◌++◌, length, get_or, drop, take, reverse, refl, sym, ap, ◌∙◌, append_assoc, arith}
use Rattle.std.specs.Prelude.{slice_get}
use Rattle.std.proofs.lemmas.List.{drop_more, drop_all, take_all}
use Rattle.sa_typed.specs.Layouts.{Layouts, no_field, field, nums, layouts_with}
use Rattle.sa_typed.specs.declared.shape.FieldDef.{FieldDef}
use Rattle.sa_typed.specs.declared.shape.StructDef.{StructDef}
use Rattle.sa_ir.specs.declared.sizes.Extent.{Extent}
use Rattle.sa_typed.specs.Frames.{size}
use Rattle.sa_ir.specs.Sizes.{capped, extent, extent_of, extents_from, all_extents, among, fields_of, Covers}
use Rattle.sa_ir.proofs.StructLemmas.{newest, extents-among}

-- ---- extents
pub extents-alike : (a b e f : ℕ) (ls : Layouts) → capped a ≡ capped b → capped e ≡ capped f → extents_from a e ls ≡ extents_from b f ls
unfolding extents_from
extents-alike a b e f no_field h k = rw (h, k) refl
extents-alike a b e f (field x l ls) h k =
    rw (h, k) (ap (λ (t : List Extent). extent b f ∷ t) (extents-alike (a + size l) (b + size l) (e + length (nums l)) (f + length (nums l)) ls (omega (arith, h)) (omega (arith, k))))

module _ (structs : List StructDef) (k : ℕ) (fs : List FieldDef) where
  pub extents-more : (i : ℕ) (d : FieldDef) (b x c : Extent) (out new whole : List Extent) → i < length fs → b ≡ extent b.cells b.elements → x ≡ extent_of (among structs k (get_or fs i d).shape) →
      c ≡ extent (b.cells + x.cells) (b.elements + x.elements) → new ≡ out ++ b ∷ [] → out ++ extents_from b.cells b.elements (fields_of structs k (drop i fs)) ≡ whole →
      new ++ extents_from c.cells c.elements (fields_of structs k (drop (i + 1) fs)) ≡ whole
  unfolding extents_from layouts_with among
  extents-more i d b x c out new whole h small is next pushed goes =
      let l = among structs k (get_or fs i d).shape in
      let rest = fields_of structs k (drop (i + 1) fs) in
      let a = ap (λ (y : Extent). y.cells) is in
      let e = ap (λ (y : Extent). y.elements) is in
      let ca = ap (λ (y : Extent). y.cells) next in
      let ce = ap (λ (y : Extent). y.elements) next in
      let alike : extents_from c.cells c.elements rest ≡ extents_from (b.cells + size l) (b.elements + length (nums l)) rest
      = extents-alike c.cells (b.cells + size l) c.elements (b.elements + length (nums l)) rest (omega (arith, a, ca)) (omega (arith, e, ce)) in
      let split : extents_from b.cells b.elements (fields_of structs k (drop i fs)) ≡ b ∷ extents_from (b.cells + size l) (b.elements + length (nums l)) rest
      = ap (λ (ds : List FieldDef). extents_from b.cells b.elements (fields_of structs k ds)) (drop_more fs i d h)
      ∙ ap (λ (y : Extent). y ∷ extents_from (b.cells + size l) (b.elements + length (nums l)) rest) (sym small) in
      ap (λ (t : List Extent). t ++ extents_from c.cells c.elements rest) pushed ∙ append_assoc out (b ∷ []) (extents_from c.cells c.elements rest)
      ∙ ap (λ (t : List Extent). out ++ b ∷ t) alike ∙ ap (λ (t : List Extent). out ++ t) (sym split) ∙ goes

  pub extents-end : (i : ℕ) (b : Extent) (out new whole : List Extent) → length fs ≤ i → b ≡ extent b.cells b.elements → new ≡ out ++ b ∷ [] →
      out ++ extents_from b.cells b.elements (fields_of structs k (drop i fs)) ≡ whole → new ≡ whole
  unfolding extents_from layouts_with
  extents-end i b out new whole h small pushed goes =
      pushed ∙ ap (λ (y : Extent). out ++ y ∷ []) small
      ∙ ap (λ (ds : List FieldDef). out ++ extents_from b.cells b.elements (fields_of structs k ds)) (sym (drop_all i fs h)) ∙ goes

pub small-extent : (a e : ℕ) (c : Extent) → c ≡ extent a e → c ≡ extent c.cells c.elements
small-extent a e c h =
    let x = ap (λ (y : Extent). y.cells) h in
    let z = ap (λ (y : Extent). y.elements) h in
    let f : c.cells ≡ capped c.cells = omega (arith, x) in
    let g : c.elements ≡ capped c.elements = omega (arith, z) in
    ap (λ (n : ℕ). record { cells = n; elements = c.elements }) f ∙ ap (λ (n : ℕ). record { cells = capped c.cells; elements = n }) g

-- ---- structures
pub covers-first : (structs : List StructDef) (k : ℕ) (table : List (List Extent)) → k ≤ length structs → table ≡ all_extents (reverse (take k structs)) → Covers structs k table
covers-first structs k table h e = record {
  known = h;
  each = λ j d less at. ap (λ (t : List (List Extent)). slice_get t j) e ∙ extents-among structs k j d h less at;
}

pub covers-all : (structs : List StructDef) (table : List (List Extent)) → table ≡ all_extents (reverse structs) → Covers structs (length structs) table
covers-all structs table e = covers-first structs (length structs) table (omega arith) (e ∙ ap (λ (l : List StructDef). all_extents (reverse l)) (sym (take_all (length structs) structs (omega arith))))

pub table-more : (structs : List StructDef) (k : ℕ) (d : StructDef) (table new : List (List Extent)) (es : List Extent) → k < length structs → table ≡ all_extents (reverse (take k structs)) →
    es ≡ extents_from 0 0 (fields_of structs k (get_or structs k d).fields) → new ≡ table ++ es ∷ [] → new ≡ all_extents (reverse (take (k + 1) structs))
unfolding all_extents
table-more structs k d table new es h e is pushed =
    pushed ∙ ap (λ (t : List (List Extent)). t ++ es ∷ []) e ∙ ap (λ (x : List Extent). all_extents (reverse (take k structs)) ++ x ∷ []) is
    ∙ ap all_extents (sym (newest structs k d h))
