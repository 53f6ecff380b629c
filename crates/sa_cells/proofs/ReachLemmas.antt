-- The cells that reaches lead to stand where the walk over their numbers says.
use Rattle.std.proofs.Common.{◌≡◌, ℕ, zero, suc, ◌+◌, ◌-◌, ◌<◌, ◌≤◌, Bool, true, false, ◌&&◌, cond, List, [], ◌∷◌, ◌++◌, length, map, refl, sym, ap, ◌∙◌, append_assoc, append-nil, add-one, add-zero, zero-add, length-append, arith}
use Rattle.std.specs.Prelude.{◌==◌, if◌then◌else◌, nat_le, Option, Some, None}
use Rattle.std.specs.List.{flat_map}
use Rattle.std.proofs.lemmas.Grind.{flat_map-append, common_steps}
use Rattle.std.proofs.lemmas.Bool.Decides.{nat_tests}
use Rattle.sa_interval.specs.Span.{Span}
use Rattle.sa_typed.specs.Layouts.{Layout, Layouts, leaf, row, fields, no_field, field, nth_field, or_nothing}
use Rattle.sa_typed.specs.Cells.{Step, one, all, of, Inner, behind, all_behind, each_behind, inner_cells, field_cells, cell_of, cells_of, most_elements}
use Rattle.sa_reference.specs.declared.reach.Reach.{Reach}
use Rattle.sa_reference.specs.declared.reach.Reach.TheVariants.{At, Into}
use Rattle.sa_reference.specs.Values.{reaches, reaches_step, named_from}
use Rattle.sa_cells.specs.Sizes.{size, sizes, cells_before}
use Rattle.sa_cells.specs.Reached.{spaced, all_runs, may_index, picked, all_picked, reached}

-- the numbers, from o on, of the cells within an object that reaches lead to
unfoldable pub chosen : ℕ → List Inner → List Reach → List ℕ
chosen o [] rs = []
chosen o (c ∷ cs) rs = if reaches rs c.steps then o ∷ chosen (o + 1) cs rs else chosen (o + 1) cs rs

pub same-eqb : (v : ℕ) → (v == v) ≡ true
same-eqb v = grind (arith, nat_tests)

pub named-own : (o v : ℕ) (cs : List Inner) (rs : List Reach) → named_from o (cells_of v cs) v rs ≡ chosen o cs rs
unfolding named_from cells_of chosen
named-own o v [] rs = refl
named-own o v (c ∷ cs) rs = rw (same-eqb v, named-own (o + 1) v cs rs) refl

chosen-append : (o : ℕ) (xs ys : List Inner) (rs : List Reach) → chosen o (xs ++ ys) rs ≡ chosen o xs rs ++ chosen (o + length xs) ys rs
unfolding chosen
chosen-append o [] ys rs = ap (λ (k : ℕ). chosen k ys rs) (sym (add-zero o))
chosen-append o (x ∷ xs) ys rs =
    let e : (o + 1) + length xs ≡ o + suc (length xs) = omega arith in
    let h = chosen-append (o + 1) xs ys rs in
    let g : chosen (o + 1) (xs ++ ys) rs ≡ chosen (o + 1) xs rs ++ chosen (o + suc (length xs)) ys rs = h ∙ ap (λ (k : ℕ). chosen (o + 1) xs rs ++ chosen k ys rs) e in
    elim (reaches rs x.steps) as (λ b. (if b then o ∷ chosen (o + 1) (xs ++ ys) rs else chosen (o + 1) (xs ++ ys) rs) ≡ (if b then o ∷ chosen (o + 1) xs rs else chosen (o + 1) xs rs) ++ chosen (o + suc (length xs)) ys rs)
    [ true ↦ ap (λ (l : List ℕ). o ∷ l) g | false ↦ g ]

chosen-none : (o : ℕ) (cs : List Inner) → chosen o cs [] ≡ spaced 1 (length cs) o
unfolding chosen spaced reaches
chosen-none o [] = refl
chosen-none o (c ∷ cs) = ap (λ (l : List ℕ). o ∷ l) (chosen-none (o + 1) cs)

abbrev only : Bool → List ℕ → List ℕ
only true l = l
only false l = []

-- behind one step
chosen-behind : (o : ℕ) (s : Step) (cs : List Inner) (r : Reach) (rs : List Reach) →
    chosen o (all_behind s cs) (r ∷ rs) ≡ only (reaches_step r s) (chosen o cs rs)
unfolding chosen all_behind reaches
chosen-behind o s [] r rs = sym (elim (reaches_step r s) as (λ b. only b [] ≡ []) [ true ↦ refl | false ↦ refl ])
chosen-behind o s (c ∷ cs) r rs =
    elim (reaches_step r s)
    as (λ b. chosen (o + 1) (all_behind s cs) (r ∷ rs) ≡ only b (chosen (o + 1) cs rs) →
    (if b && reaches rs c.steps then o ∷ chosen (o + 1) (all_behind s cs) (r ∷ rs) else chosen (o + 1) (all_behind s cs) (r ∷ rs))
    ≡ only b (if reaches rs c.steps then o ∷ chosen (o + 1) cs rs else chosen (o + 1) cs rs))
    [ true ↦ λ h. rw h refl | false ↦ λ h. h ] (chosen-behind (o + 1) s cs r rs)

pub length-behind : (s : Step) (cs : List Inner) → length (all_behind s cs) ≡ length cs
unfolding all_behind
length-behind s [] = refl
length-behind s (c ∷ cs) = ap suc (length-behind s cs)

-- the elements whose indices lie in the span
chosen-each : (n k o : ℕ) (cs : List Inner) (s : Span) (rs : List Reach) →
    chosen o (each_behind n k cs) (At s ∷ rs) ≡ flat_map (λ p. chosen p cs rs) (picked s (length cs) n k o)
unfolding each_behind picked chosen
chosen-each zero k o cs s rs = refl
chosen-each (suc n) k o cs s rs =
    let rest = chosen-each n (k + 1) (o + length cs) cs s rs in
    let split = chosen-append o (all_behind (one k) cs) (each_behind n (k + 1) cs) (At s ∷ rs) in
    split ∙ rw (length-behind (one k) cs, chosen-behind o (one k) cs (At s) rs, rest)
    (elim (may_index s k)
    as (λ b. only b (chosen o cs rs) ++ flat_map (λ p. chosen p cs rs) (picked s (length cs) n (k + 1) (o + length cs))
    ≡ flat_map (λ p. chosen p cs rs) (if b then o ∷ picked s (length cs) n (k + 1) (o + length cs) else picked s (length cs) n (k + 1) (o + length cs)))
    [ true ↦ refl | false ↦ refl ])

no-each : (n k o : ℕ) (cs : List Inner) (f : ℕ) (rs : List Reach) → chosen o (each_behind n k cs) (Into f ∷ rs) ≡ []
unfolding each_behind chosen
no-each zero k o cs f rs = refl
no-each (suc n) k o cs f rs =
    chosen-append o (all_behind (one k) cs) (each_behind n (k + 1) cs) (Into f ∷ rs)
    ∙ rw (chosen-behind o (one k) cs (Into f) rs, no-each n (k + 1) (o + length (all_behind (one k) cs)) cs f rs) refl

-- ---- fields
no-fields : (k o : ℕ) (ls : Layouts) (s : Span) (rs : List Reach) → chosen o (field_cells k ls) (At s ∷ rs) ≡ []
unfolding field_cells chosen
no-fields k o no_field s rs = refl
no-fields k o (field x l ls) s rs =
    chosen-append o (all_behind (of k) (inner_cells l)) (field_cells (k + 1) ls) (At s ∷ rs)
    ∙ rw (chosen-behind o (of k) (inner_cells l) (At s) rs, no-fields (k + 1) (o + length (all_behind (of k) (inner_cells l))) ls s rs) refl

-- fields with greater numbers
none-below : (k o : ℕ) (ls : Layouts) (f : ℕ) (rs : List Reach) → f < k → chosen o (field_cells k ls) (Into f ∷ rs) ≡ []
unfolding field_cells chosen
none-below k o no_field f rs h = refl
none-below k o (field x l ls) f rs h =
    let e : (f == k) ≡ false = grind (arith, nat_tests) in
    chosen-append o (all_behind (of k) (inner_cells l)) (field_cells (k + 1) ls) (Into f ∷ rs)
    ∙ rw (chosen-behind o (of k) (inner_cells l) (Into f) rs, e, none-below (k + 1) (o + length (all_behind (of k) (inner_cells l))) ls f rs (omega arith)) refl

chosen-field : (k o : ℕ) (ls : Layouts) (f : ℕ) (rs : List Reach) →
    chosen o (field_cells k ls) (Into (k + f) ∷ rs) ≡ chosen (o + cells_before ls f) (inner_cells (or_nothing (nth_field ls f))) rs
unfolding field_cells chosen cells_before nth_field size inner_cells
chosen-field k o no_field f rs = refl
chosen-field k o (field x l ls) zero rs =
    let e : ((k + 0) == k) ≡ true = grind (arith, nat_tests) in
    let none : chosen (o + length (all_behind (of k) (inner_cells l))) (field_cells (k + 1) ls) (Into (k + 0) ∷ rs) ≡ []
    = none-below (k + 1) (o + length (all_behind (of k) (inner_cells l))) ls (k + 0) rs (omega arith) in
    chosen-append o (all_behind (of k) (inner_cells l)) (field_cells (k + 1) ls) (Into (k + 0) ∷ rs)
    ∙ rw (chosen-behind o (of k) (inner_cells l) (Into (k + 0)) rs, e, none, append-nil, add-zero) refl
chosen-field k o (field x l ls) (suc f) rs =
    let e : ((k + suc f) == k) ≡ false = grind (arith, nat_tests) in
    let next : (k + 1) + f ≡ k + suc f = omega arith in
    let whole : (o + length (inner_cells l)) + cells_before ls f ≡ o + (length (inner_cells l) + cells_before ls f) = omega arith in
    let rest = chosen-field (k + 1) (o + length (inner_cells l)) ls f rs in
    chosen-append o (all_behind (of k) (inner_cells l)) (field_cells (k + 1) ls) (Into (k + suc f) ∷ rs)
    ∙ rw (chosen-behind o (of k) (inner_cells l) (Into (k + suc f)) rs, e, length-behind (of k) (inner_cells l), ← next, rest, whole) refl

-- ---- from several numbers at once
pub flat-same : (f g : ℕ → List ℕ) (os : List ℕ) → ((o : ℕ) → f o ≡ g o) → flat_map f os ≡ flat_map g os
flat-same f g [] h = refl
flat-same f g (o ∷ os) h = rw (h o, flat-same f g os h) refl

pub flat-none : (f : ℕ → List ℕ) (os : List ℕ) → ((o : ℕ) → f o ≡ []) → flat_map f os ≡ []
flat-none f [] h = refl
flat-none f (o ∷ os) h = rw (h o, flat-none f os h) refl

flat-flat : (f g : ℕ → List ℕ) (os : List ℕ) → flat_map (λ o. flat_map f (g o)) os ≡ flat_map f (flat_map g os)
flat-flat f g [] = refl
flat-flat f g (o ∷ os) = sym (flat_map-append f (g o) (flat_map g os) ∙ ap (λ (l : List ℕ). flat_map f (g o) ++ l) (sym (flat-flat f g os)))

flat-moved : (f : ℕ → List ℕ) (d : ℕ) (os : List ℕ) → flat_map (λ o. f (o + d)) os ≡ flat_map f (map (λ o. o + d) os)
flat-moved f d [] = refl
flat-moved f d (o ∷ os) = ap (λ (l : List ℕ). f (o + d) ++ l) (flat-moved f d os)

chosen-fields : (o : ℕ) (ls : Layouts) (f : ℕ) (rs : List Reach) →
    chosen o (field_cells 0 ls) (Into f ∷ rs) ≡ chosen (o + cells_before ls f) (inner_cells (or_nothing (nth_field ls f))) rs
chosen-fields o ls f rs =
    let e : 0 + f ≡ f = omega arith in
    ap (λ (k : ℕ). chosen o (field_cells 0 ls) (Into k ∷ rs)) (sym e) ∙ chosen-field 0 o ls f rs

pub chosen-reached : (rs : List Reach) (l : Layout) (os : List ℕ) → flat_map (λ o. chosen o (inner_cells l) rs) os ≡ reached rs l os
unfolding reached chosen inner_cells all_picked all_runs size reaches
chosen-reached [] l os = flat-same (λ o. chosen o (inner_cells l) []) (λ o. spaced 1 (size l) o) os (λ o. chosen-none o (inner_cells l))
chosen-reached (At s ∷ rs) (row n l) os =
    elim (nat_le n most_elements)
    as (λ b. flat_map (λ o. chosen o (if b then each_behind n 0 (inner_cells l) else all_behind (all n) (inner_cells l)) (At s ∷ rs)) os
    ≡ reached rs l (if b then flat_map (λ o. picked s (length (inner_cells l)) n 0 o) os else os)) [
      | true ↦
          flat-same (λ o. chosen o (each_behind n 0 (inner_cells l)) (At s ∷ rs)) (λ o. flat_map (λ p. chosen p (inner_cells l) rs) (picked s (length (inner_cells l)) n 0 o)) os
          (λ o. chosen-each n 0 o (inner_cells l) s rs)
          ∙ flat-flat (λ p. chosen p (inner_cells l) rs) (λ o. picked s (length (inner_cells l)) n 0 o) os
          ∙ chosen-reached rs l (flat_map (λ o. picked s (length (inner_cells l)) n 0 o) os)
      | false ↦
          flat-same (λ o. chosen o (all_behind (all n) (inner_cells l)) (At s ∷ rs)) (λ o. chosen o (inner_cells l) rs) os (λ o. chosen-behind o (all n) (inner_cells l) (At s) rs)
          ∙ chosen-reached rs l os
    ]
chosen-reached (Into f ∷ rs) (row n l) os =
    elim (nat_le n most_elements)
    as (λ b. flat_map (λ o. chosen o (if b then each_behind n 0 (inner_cells l) else all_behind (all n) (inner_cells l)) (Into f ∷ rs)) os ≡ []) [
      | true ↦ flat-none (λ o. chosen o (each_behind n 0 (inner_cells l)) (Into f ∷ rs)) os (λ o. no-each n 0 o (inner_cells l) f rs)
      | false ↦ flat-none (λ o. chosen o (all_behind (all n) (inner_cells l)) (Into f ∷ rs)) os (λ o. chosen-behind o (all n) (inner_cells l) (Into f) rs)
    ]
chosen-reached (At s ∷ rs) (fields ls) os = flat-none (λ o. chosen o (field_cells 0 ls) (At s ∷ rs)) os (λ o. no-fields 0 o ls s rs)
chosen-reached (Into f ∷ rs) (fields ls) os =
    flat-same (λ o. chosen o (field_cells 0 ls) (Into f ∷ rs)) (λ o. chosen (o + cells_before ls f) (inner_cells (or_nothing (nth_field ls f))) rs) os (λ o. chosen-fields o ls f rs)
    ∙ flat-moved (λ o. chosen o (inner_cells (or_nothing (nth_field ls f))) rs) (cells_before ls f) os
    ∙ chosen-reached rs (or_nothing (nth_field ls f)) (map (λ o. o + cells_before ls f) os)
chosen-reached (At s ∷ rs) (leaf num) os = flat-none (λ o. chosen o (inner_cells (leaf num)) (At s ∷ rs)) os (λ o. refl)
chosen-reached (Into f ∷ rs) (leaf num) os = flat-none (λ o. chosen o (inner_cells (leaf num)) (Into f ∷ rs)) os (λ o. refl)
