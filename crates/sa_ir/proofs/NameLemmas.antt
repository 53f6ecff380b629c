-- The name of a cell by its number, as its steps give it.
use Rattle.std.proofs.Common.{◌≡◌, ℕ, zero, suc, ◌+◌, ◌-◌, ◌*◌, ◌/◌, ◌%◌, ◌<◌, ◌≤◌, Bool, true, false, List, [], ◌∷◌, ◌++◌, length, get_or, refl, sym, ap, ap₂, subst, ◌∙◌, inl, inr, add-zero, zero-add, length-append, arith, Option, Some}
use Rattle.std.proofs.lemmas.Bool.{cases_lt}
use Rattle.std.proofs.lemmas.Bool.Decides.{nat_tests}
use Rattle.std.proofs.lemmas.List.{get_or_append_left, get_or-append_right}
use Rattle.std.proofs.lemmas.Nat.{div-add-mod', div-mul-add, mod-mul-add, mod_below}
use Rattle.std.proofs.Math.Nat.{div-eq_of_lt, mod-eq_of_lt}
use Rattle.std.specs.Fmt.{decimal}
use Rattle.std.specs.Prelude.{if◌then◌else◌, nat_le, nat_lt, codes}
use Rattle.sa_typed.specs.Cells.{Step, one, all, of, Inner, behind, inner_cells, field_cells, each_behind, all_behind, most_elements}
use Rattle.sa_typed.specs.Layouts.{Layout, Layouts, leaf, row, fields, no_field, field, nth_field, or_nothing}
use Rattle.sa_typed.specs.Frames.{size}
use Rattle.sa_ir.proofs.ReachLemmas.{length-behind}
use Rattle.sa_ir.proofs.StepLemmas.{size-small, size-large}
use Rattle.sa_ir.specs.Names.{field_name, steps_text}
use Rattle.sa_ir.specs.Naming.{inner_name, field_inner}

any-some : {A : Type 0} (xs : List A) → (length xs ≡ 0 → ⊥) → 0 < length xs
any-some [] h = absurd (h refl)
any-some (x ∷ xs) h = omega arith

pub positive : (n m j : ℕ) → j < n * m → 0 < m
positive n zero j h = absurd (grind arith)
positive n (suc m) j h = omega arith

-- ---- one of the cells behind steps
behind-at : (s : Step) (cs : List Inner) (j : ℕ) (d : Inner) → j < length cs → get_or (all_behind s cs) j d ≡ behind s (get_or cs j d)
unfolding all_behind
behind-at s [] j d h = absurd (omega arith)
behind-at s (c ∷ cs) zero d h = refl
behind-at s (c ∷ cs) (suc j) d h = behind-at s cs j d (omega arith)

-- a division of a number less by the divisor
module _ (j m : ℕ) (some : 0 < m) (more : m ≤ j) where
  whole : j ≡ ((j - m) / m + 1) * m + (j - m) % m
  whole =
      let e = div-add-mod' (j - m) m in
      let f : ((j - m) / m + 1) * m ≡ (j - m) / m * m + m = grind arith in
      omega (arith, e, f)

  less-quotient : (j - m) / m + 1 ≡ j / m
  less-quotient = sym (ap (λ (x : ℕ). x / m) whole ∙ div-mul-add ((j - m) / m + 1) m ((j - m) % m) (mod_below (j - m) m some))

  same-rest : (j - m) % m ≡ j % m
  same-rest = sym (ap (λ (x : ℕ). x % m) whole ∙ mod-mul-add ((j - m) / m + 1) m ((j - m) % m) (mod_below (j - m) m some))

each-at : (n k : ℕ) (cs : List Inner) (j : ℕ) (d : Inner) → j < n * length cs → get_or (each_behind n k cs) j d ≡ behind (one (k + j / length cs)) (get_or cs (j % length cs) d)
unfolding each_behind
each-at zero k cs j d h = absurd (grind arith)
each-at (suc n) k cs j d h = elim (cases_lt j (length cs)) [
  | inl less ↦
      let quotient : j / length cs ≡ 0 = div-eq_of_lt less in
      let rest : j % length cs ≡ j = mod-eq_of_lt less in
      get_or_append_left (all_behind (one k) cs) (each_behind n (k + 1) cs) d j (rw (length-behind (one k) cs) less) ∙ behind-at (one k) cs j d less ∙ rw (quotient, rest, add-zero k) refl
  | inr more ↦
      let m = length cs in
      let left : j - m < n * m = (let e : suc n * m ≡ n * m + m = grind arith in omega (arith, more, e, h)) in
      let some : 0 < m = any-some cs (λ e. (let z : n * length cs ≡ 0 = rw e (grind arith) in omega (arith, left, z))) in
      let next : (k + 1) + (j - m) / m ≡ k + j / m = (let e = less-quotient j m some more in omega (arith, e)) in
      get_or-append_right (all_behind (one k) cs) (each_behind n (k + 1) cs) m j d (length-behind (one k) cs) more ∙ each-at n (k + 1) cs (j - m) d left
      ∙ ap₂ (λ (a b : ℕ). behind (one a) (get_or cs b d)) next (same-rest j m some more)
]

-- ---- the steps of a cell, by its number
module _ (n : ℕ) (l : Layout) (d : Inner) (rec : (j : ℕ) → j < size l → steps_text l (get_or (inner_cells l) j d).steps ≡ inner_name l j) where
  row-of : (b : Bool) → nat_le n most_elements ≡ b → (j : ℕ) → j < size (row n l) →
      steps_text (row n l) (get_or (if b then each_behind n 0 (inner_cells l) else all_behind (all n) (inner_cells l)) j d).steps
      ≡ (if b then codes "[" ++ (decimal (j / size l) ++ (codes "]" ++ inner_name l (j % size l))) else codes "[*]" ++ inner_name l j)
  unfolding steps_text size
  row-of true e j h =
      let few : n ≤ 128 = grind (arith, nat_tests) in
      let at : j < n * size l = subst (λ (m : ℕ). j < m) (size-small n l few) h in
      let some : 0 < size l = positive n (size l) j at in
      let first : 0 + j / size l ≡ j / size l = zero-add (j / size l) in
      ap (λ (i : Inner). steps_text (row n l) i.steps) (each-at n 0 (inner_cells l) j d at)
      ∙ ap₂ (λ (a : ℕ) (t : List ℕ). codes "[" ++ (decimal a ++ (codes "]" ++ t))) first (rec (j % size l) (mod_below j (size l) some))
  row-of false e j h =
      let many : 128 < n = grind (arith, nat_tests) in
      let at : j < size l = subst (λ (m : ℕ). j < m) (size-large n l many) h in
      ap (λ (i : Inner). steps_text (row n l) i.steps) (behind-at (all n) (inner_cells l) j d at) ∙ ap (λ (t : List ℕ). codes "[*]" ++ t) (rec j at)

module _ (full : Layouts) (k : ℕ) (x : List ℕ) (l : Layout) (ls : Layouts) (d : Inner) (named : field_name full k ≡ x) (there : nth_field full k ≡ Some l)
    (here : (j : ℕ) → j < size l → steps_text l (get_or (inner_cells l) j d).steps ≡ inner_name l j)
    (later : (j : ℕ) → j < length (field_cells (k + 1) ls) → steps_text (fields full) (get_or (field_cells (k + 1) ls) j d).steps ≡ field_inner ls j) where
  field-of : (j : ℕ) → j < length (all_behind (of k) (inner_cells l) ++ field_cells (k + 1) ls) →
      steps_text (fields full) (get_or (all_behind (of k) (inner_cells l) ++ field_cells (k + 1) ls) j d).steps
      ≡ (if nat_lt j (size l) then codes "." ++ (x ++ inner_name l j) else field_inner ls (j - size l))
  unfolding steps_text size
  field-of j h = elim (cases_lt j (size l)) [
    | inl less ↦
        let t : nat_lt j (size l) ≡ true = grind (arith, nat_tests, less) in
        ap (λ (i : Inner). steps_text (fields full) i.steps)
        (get_or_append_left (all_behind (of k) (inner_cells l)) (field_cells (k + 1) ls) d j (rw (length-behind (of k) (inner_cells l)) less) ∙ behind-at (of k) (inner_cells l) j d less)
        ∙ ap₂ (λ (a : List ℕ) (m : Option Layout). codes "." ++ (a ++ steps_text (or_nothing m) (get_or (inner_cells l) j d).steps)) named there
        ∙ ap (λ (a : List ℕ). codes "." ++ (x ++ a)) (here j less) ∙ sym (ap (λ (b : Bool). if b then codes "." ++ (x ++ inner_name l j) else field_inner ls (j - size l)) t)
    | inr more ↦
        let t : nat_lt j (size l) ≡ false = grind (arith, nat_tests, more) in
        let left : j - size l < length (field_cells (k + 1) ls) = (let e = length-append (all_behind (of k) (inner_cells l)) (field_cells (k + 1) ls) in let f = length-behind (of k) (inner_cells l) in omega (arith, e, f, h, more)) in
        ap (λ (i : Inner). steps_text (fields full) i.steps)
        (get_or-append_right (all_behind (of k) (inner_cells l)) (field_cells (k + 1) ls) (size l) j d (length-behind (of k) (inner_cells l)) more)
        ∙ later (j - size l) left ∙ sym (ap (λ (b : Bool). if b then codes "." ++ (x ++ inner_name l j) else field_inner ls (j - size l)) t)
  ]

mutual
  unfolding inner_name inner_cells field_cells nth_field size steps_text field_name

  pub name-of : (l : Layout) (j : ℕ) (d : Inner) → j < size l → steps_text l (get_or (inner_cells l) j d).steps ≡ inner_name l j
  name-of (leaf num) zero d h = refl
  name-of (leaf num) (suc j) d h = absurd (omega arith)
  name-of (row n l) j d h = row-of n l d (λ i k. name-of l i d k) (nat_le n most_elements) refl j h
  name-of (fields ls) j d h = fields-of ls 0 ls d (λ i. ap (field_name ls) (zero-add i)) (λ i. ap (nth_field ls) (zero-add i)) j h

  fields-of : (full : Layouts) (k : ℕ) (ls : Layouts) (d : Inner) → ((i : ℕ) → field_name full (k + i) ≡ field_name ls i) → ((i : ℕ) → nth_field full (k + i) ≡ nth_field ls i) →
      (j : ℕ) → j < length (field_cells k ls) → steps_text (fields full) (get_or (field_cells k ls) j d).steps ≡ field_inner ls j
  fields-of full k no_field d names layouts j h = absurd (omega arith)
  fields-of full k (field x l ls) d names layouts j h =
      let shift : (i : ℕ) → (k + 1) + i ≡ k + suc i = λ i. omega arith in
      field-of full k x l ls d (ap (field_name full) (sym (add-zero k)) ∙ names 0) (ap (nth_field full) (sym (add-zero k)) ∙ layouts 0) (λ i m. name-of l i d m)
      (fields-of full (k + 1) ls d (λ i. ap (field_name full) (shift i) ∙ names (suc i)) (λ i. ap (nth_field full) (shift i) ∙ layouts (suc i))) j h
