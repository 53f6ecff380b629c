-- Fields that are still to be read, the last one first.
use Rattle.std.proofs.Common.{◌≡◌, ℕ, zero, suc, ◌+◌, ◌-◌, ◌^◌, ◌<◌, ◌≤◌, ℤ, List, [], ◌++◌, length, get_or, drop, take, reverse, refl, sym, ap, ◌∙◌, add-one, zero-add, arith}
use Rattle.std.specs.Prelude.{slice_get, option_map, Option, Some}
use Rattle.std.proofs.lemmas.List.{drop_more, drop_all}
use Rattle.std.proofs.lemmas.Option.{slice_get_within, slice_get-get_or, get_or_from_slice_get}
use Rattle.sa_typed.specs.Layouts.{Layout, Layouts, fields, no_field, field, nums, nth_field, before_field, layout_with, layouts_with, struct_layout}
use Rattle.sa_typed.specs.declared.shape.Plain.TheVariants.{Struct}
use Rattle.sa_typed.specs.declared.shape.FieldDef.{FieldDef}
use Rattle.sa_typed.specs.declared.shape.StructDef.{StructDef}
use Rattle.sa_ir.specs.declared.sizes.Extent.{Extent}
use Rattle.sa_ir.specs.declared.slots.Elements.{Elements}
use Rattle.sa_ir.specs.Sizes.{among, capped, cells_before, fields_of, made_of, extent, extents_from, Covers}
use Rattle.sa_ir.specs.Slots.{slots_in, moved_on, fields_in}
use Rattle.sa_ir.specs.Spots.{base_layout, work, works}
use Rattle.sa_ir.proofs.SlotLaws.{slots-fields, moved-alike, capped-alike}
use Rattle.sa_ir.proofs.StructLemmas.{among-struct, nth-field, extents-at, count-fields}
use Rattle.sa_ir.proofs.SizeLemmas.{length-extents-from}

field-next : (ls : Layouts) (f : ℕ) (l : Layout) → nth_field ls f ≡ Some l → before_field ls (suc f) ≡ before_field ls f + length (nums l)
unfolding before_field nth_field
field-next no_field f l h = absurd cc
field-next (field x m ls) zero l h =
    let e : m ≡ l = cc in
    rw (e, at-zero ls) (omega arith)
  where
    at-zero : (ls : Layouts) → before_field ls 0 ≡ 0
    at-zero no_field = refl
    at-zero (field x l ls) = refl
field-next (field x m ls) (suc f) l h = let e = field-next ls f l h in omega (arith, e)

first-before : (ls : Layouts) → before_field ls 0 ≡ 0
unfolding before_field
first-before no_field = refl
first-before (field x l ls) = refl

module _ (structs : List StructDef) (k : ℕ) (fs : List FieldDef) where
  at-field : (f : ℕ) (d : FieldDef) → f < length fs → nth_field (fields_of structs k fs) f ≡ Some (among structs k (get_or fs f d).shape)
  unfolding among
  at-field f d h =
      nth-field (λ j. struct_layout (reverse (take k structs)) j) fs f
      ∙ ap (λ (o : Option FieldDef). option_map (λ y. layout_with (λ j. struct_layout (reverse (take k structs)) j) y.shape) o) (slice_get-get_or fs f d h)

  split-fields : (f : ℕ) (d : FieldDef) → f < length fs →
      fields_of structs k (drop f fs) ≡ field (get_or fs f d).name (among structs k (get_or fs f d).shape) (fields_of structs k (drop (f + 1) fs))
  unfolding layouts_with among
  split-fields f d h = ap (λ (l : List FieldDef). fields_of structs k l) (drop_more fs f d h)

  pub fields-step : (zs : List ℤ) (e : Elements) (f : ℕ) (d : FieldDef) → 0 < f → f ≤ length fs →
      fields_in zs (fields_of structs k (drop (f - 1) fs)) (before_field (fields_of structs k fs) (f - 1)) e
      ≡ slots_in zs (among structs k (get_or fs (f - 1) d).shape) (moved_on (length zs) (before_field (fields_of structs k fs) (f - 1)) e)
      ++ fields_in zs (fields_of structs k (drop f fs)) (before_field (fields_of structs k fs) f) e
  unfolding fields_in
  fields-step zs e f d h l =
      let next : (f - 1) + 1 ≡ f = omega arith in
      let b = before_field (fields_of structs k fs) (f - 1) in
      let s = among structs k (get_or fs (f - 1) d).shape in
      let at : b + length (nums s) ≡ before_field (fields_of structs k fs) f
      = sym (field-next (fields_of structs k fs) (f - 1) s (at-field (f - 1) d (omega arith))) ∙ ap (λ (i : ℕ). before_field (fields_of structs k fs) i) (sym (add-one (f - 1)) ∙ next) in
      ap (λ (ls : Layouts). fields_in zs ls b e) (split-fields (f - 1) d (omega arith))
      ∙ ap (λ (i : ℕ). slots_in zs s (moved_on (length zs) b e) ++ fields_in zs (fields_of structs k (drop i fs)) (b + length (nums s)) e) next
      ∙ ap (λ (i : ℕ). slots_in zs s (moved_on (length zs) b e) ++ fields_in zs (fields_of structs k (drop f fs)) i e) at

  pub works-step : (f : ℕ) (d : FieldDef) → 0 < f → f ≤ length fs →
      works (fields_of structs k (drop (f - 1) fs)) ≡ work (among structs k (get_or fs (f - 1) d).shape) + works (fields_of structs k (drop f fs))
  unfolding works
  works-step f d h l =
      let next : (f - 1) + 1 ≡ f = omega arith in
      ap works (split-fields (f - 1) d (omega arith))
      ∙ ap (λ (i : ℕ). work (among structs k (get_or fs (f - 1) d).shape) + works (fields_of structs k (drop i fs))) next

  pub fields-last : (zs : List ℤ) (b : ℕ) (e : Elements) → fields_in zs (fields_of structs k (drop (length fs) fs)) b e ≡ []
  unfolding fields_in layouts_with
  fields-last zs b e = ap (λ (l : List FieldDef). fields_in zs (fields_of structs k l) b e) (drop_all (length fs) fs (omega arith))

module _ (structs : List StructDef) (k : ℕ) (d : StructDef) (made : slice_get structs k ≡ Some d) where
  struct-is : base_layout structs (Struct k) ≡ fields (made_of structs k d)
  unfolding base_layout
  struct-is = let w = slice_get_within structs k d made in among-struct structs (suc k) k d (omega (arith, w)) (omega arith) made

  pub fields-whole : (zs : List ℤ) (e : Elements) (f : ℕ) → f ≤ 0 →
      fields_in zs (fields_of structs k (drop f d.fields)) (before_field (fields_of structs k d.fields) f) e ≡ slots_in zs (base_layout structs (Struct k)) e
  fields-whole zs e f h =
      let none : f ≡ 0 = omega arith in
      ap (λ (i : ℕ). fields_in zs (fields_of structs k (drop i d.fields)) (before_field (fields_of structs k d.fields) i) e) none
      ∙ ap (λ (b : ℕ). fields_in zs (fields_of structs k d.fields) b e) (first-before (fields_of structs k d.fields))
      ∙ sym (slots-fields zs (made_of structs k d) e) ∙ ap (λ (l : Layout). slots_in zs l e) (sym struct-is)

  pub works-whole : (f : ℕ) → f ≤ 0 → work (base_layout structs (Struct k)) ≡ suc (works (fields_of structs k (drop f d.fields)))
  unfolding work
  works-whole f h =
      let none : f ≡ 0 = omega arith in
      ap work struct-is ∙ ap (λ (i : ℕ). suc (works (fields_of structs k (drop i d.fields)))) (sym none)

  module _ (m : ℕ) (table : List (List Extent)) (covers : Covers structs m table) (less : k < m) where
    pub in-table : k < length table
    in-table = slice_get_within table k (extents_from 0 0 (made_of structs k d)) (covers.each k d less made)

    extents-are : (es : List Extent) → es ≡ get_or table k es → es ≡ extents_from 0 0 (made_of structs k d)
    extents-are es h = h ∙ get_or_from_slice_get table k (extents_from 0 0 (made_of structs k d)) es (covers.each k d less made)

    pub extents-long : (es : List Extent) → es ≡ get_or table k es → length es ≡ suc (length d.fields)
    extents-long es h =
        let c = count-fields (λ j. struct_layout (reverse (take k structs)) j) d.fields in
        ap length (extents-are es h) ∙ length-extents-from 0 0 (made_of structs k d) ∙ ap suc c

    pub moved-by : (n : ℕ) (es now : List Extent) (f : ℕ) (x : Extent) (e : Elements) → n ≤ 2 ^ 64 - 1 → es ≡ get_or table k es → now ≡ es → f ≤ length d.fields →
        moved_on n (get_or now f x).elements e ≡ moved_on n (before_field (made_of structs k d) f) e
    moved-by n es now f x e fits h same l =
        let c = count-fields (λ j. struct_layout (reverse (take k structs)) j) d.fields in
        let b = before_field (made_of structs k d) f in
        let y = extent (0 + cells_before (made_of structs k d) f) (0 + b) in
        let at = extents-at 0 0 (made_of structs k d) f (omega (arith, c, l)) in
        let is : get_or now f x ≡ y = ap (λ (l : List Extent). get_or l f x) (same ∙ extents-are es h) ∙ get_or_from_slice_get (extents_from 0 0 (made_of structs k d)) f y x at in
        ap (λ (z : Extent). moved_on n z.elements e) is ∙ ap (λ (i : ℕ). moved_on n (capped i) e) (zero-add b) ∙ moved-alike n (capped b) b e (capped-alike n b fits)
