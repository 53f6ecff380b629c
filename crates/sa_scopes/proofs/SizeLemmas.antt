-- Counts that stop at the greatest one.
use Rattle.std.proofs.Common.{◌≡◌, ⊎_elim, ◌⊎◌, zero, suc, ℕ, ◌+◌, ◌*◌, ◌-◌, ◌^◌, ◌<◌, ◌≤◌, min, List, [], ◌∷◌, ◌++◌, Bool, true, false, length, drop, get_or, map, refl, ap, sym, ◌∙◌, arith}
use Rattle.std.proofs.lemmas.List.{drop_more, drop_all, map-append}
use Rattle.std.proofs.Math.Nat.{suc-mul, zero-mul}
use Rattle.std.proofs.lemmas.Bool.{cases_lt, true≢false}
use Rattle.std.specs.Prelude.{Result, Ok, Err, OnOk}
use Rattle.std.specs.Result.{is_err}
use Rattle.sa_typed.specs.declared.program.Var.{Var}
use Rattle.sa_typed.specs.declared.shape.FieldDef.{FieldDef}
use Rattle.sa_typed.specs.declared.shape.StructDef.{StructDef}
use Rattle.sa_scopes.specs.Structures.{times, extent, size_by, sum_by, field_shape, field_shapes, var_shape, sizes_from, sizes_of, kept, AreCounted}

-- ---- the greatest count
pub kept-plus : (a b : ℕ) → kept (kept a + b) ≡ kept (a + b)
kept-plus a b = omega arith

pub kept-plus_right : (a b : ℕ) → kept (a + kept b) ≡ kept (a + b)
kept-plus_right a b = omega arith

suc_times : (a b : ℕ) → suc a * b ≡ b + a * b
suc_times a b = let h = suc-mul a b in omega (arith, h)

-- a count times one that is too large
at_most : (a b g : ℕ) → g ≤ b → min (suc a * g) g ≡ min (suc a * b) g
at_most a b g h = let left : g ≤ suc a * g = omega (arith, suc_times a g) in let right : b ≤ suc a * b = omega (arith, suc_times a b) in omega arith

times_kept : (a b g : ℕ) → min (a * min b g) g ≡ min (a * b) g
times_kept zero b g = rw (zero-mul b, zero-mul (min b g)) refl
times_kept (suc a) b g =
    ⊎_elim
    (λ h. let m : min b g ≡ b = omega (arith, h) in rw m refl)
    (λ h. let m : min b g ≡ g = omega (arith, h) in rw m (at_most a b g h))
    (cases_lt b g)

pub kept-times : (a b : ℕ) → kept (a * kept b) ≡ kept (a * b)
kept-times a b = times_kept a b (2 ^ 64 - 1)

pub get-kept : (ns : List ℕ) (i : ℕ) → get_or (map kept ns) i 0 ≡ kept (get_or ns i 0)
get-kept [] i = refl
get-kept (n ∷ ns) zero = refl
get-kept (n ∷ ns) (suc i) = get-kept ns i

pub ruleset plain_rows = (get-kept)

-- ---- dimensions, from the innermost one outwards
pub extent-start : (b : Bool) (ns : List ℕ) (size : ℕ) → extent b (drop (length ns - 0) ns) size ≡ size
unfolding extent
extent-start b ns size = ap (λ (ms : List ℕ). extent b ms size) (drop_all (length ns - 0) ns (omega arith))

pub extent-next : (b : Bool) (ns : List ℕ) (k d size : ℕ) → k < length ns →
    extent b (drop (length ns - (k + 1)) ns) size ≡ times b (get_or ns (length ns - 1 - k) d) * extent b (drop (length ns - k) ns) size
unfolding extent
extent-next b ns k d size h =
    let at : length ns - (k + 1) ≡ length ns - 1 - k = omega arith in
    let after : length ns - 1 - k + 1 ≡ length ns - k = omega arith in
    rw (at, drop_more ns (length ns - 1 - k) d (omega arith), after) refl

pub extent-all : (b : Bool) (ns : List ℕ) (k size : ℕ) → length ns ≤ k → extent b (drop (length ns - k) ns) size ≡ extent b ns size
extent-all b ns k size h = let z : length ns - k ≡ 0 = omega arith in rw z refl

-- one dimension more
pub kept_next : (b : Bool) (ns : List ℕ) (k d size exact next one : ℕ) → k < length ns → one ≡ times b (get_or ns (length ns - 1 - k) d) → next ≡ kept (one * size) →
    size ≡ kept (extent b (drop (length ns - k) ns) exact) → next ≡ kept (extent b (drop (length ns - (k + 1)) ns) exact)
kept_next b ns k d size exact next one h o n s =
    n ∙ ap (λ (m : ℕ). kept (m * size)) o ∙ ap (λ (m : ℕ). kept (times b (get_or ns (length ns - 1 - k) d) * m)) s
    ∙ kept-times (times b (get_or ns (length ns - 1 - k) d)) (extent b (drop (length ns - k) ns) exact) ∙ ap kept (sym (extent-next b ns k d exact h))

pub ruleset sums = (kept-plus, kept-plus_right)

-- ---- lists of shapes
pub sum_by-next : (starred : Bool) (sizes : List ℕ) (fields : List FieldDef) (i : ℕ) (d : FieldDef) → i < length fields →
    sum_by starred sizes (map field_shape (drop i fields)) ≡ size_by starred sizes (get_or fields i d).shape + sum_by starred sizes (map field_shape (drop (i + 1) fields))
unfolding sum_by
sum_by-next starred sizes fields i d h = ap (λ fs. sum_by starred sizes (map field_shape fs)) (drop_more fields i d h)

pub sum_by-end : (starred : Bool) (sizes : List ℕ) (fields : List FieldDef) (i : ℕ) → length fields ≤ i → sum_by starred sizes (map field_shape (drop i fields)) ≡ 0
unfolding sum_by
sum_by-end starred sizes fields i h = ap (λ fs. sum_by starred sizes (map field_shape fs)) (drop_all i fields h)

-- a total that stops, with one more count
pub one_more : (total next size exact part rest whole : ℕ) → size ≡ kept exact → next ≡ min (total + size) (2 ^ 64 - 1) → part ≡ exact + rest → kept (total + part) ≡ whole → kept (next + rest) ≡ whole
one_more total next size exact part rest whole s n p t = omega arith

pub all_summed : (total part whole : ℕ) → total < 2 ^ 64 → part ≡ 0 → kept (total + part) ≡ whole → total ≡ whole
all_summed total part whole f p t = omega arith

-- ---- one structure more
sizes_from-push : (starred : Bool) (sizes : List ℕ) (ds : List StructDef) (d : StructDef) →
    sizes_from starred sizes (ds ++ d ∷ []) ≡ sizes_from starred sizes ds ++ sum_by starred (sizes_from starred sizes ds) (field_shapes d) ∷ []
unfolding sizes_from
sizes_from-push starred sizes [] d = refl
sizes_from-push starred sizes (e ∷ ds) d = sizes_from-push starred (sizes ++ sum_by starred sizes (field_shapes e) ∷ []) ds d

pub counted-push : (starred : Bool) (sizes more : List ℕ) (size : ℕ) (ds all : List StructDef) (d : StructDef) → AreCounted starred sizes ds → more ≡ sizes ++ size ∷ [] → all ≡ ds ++ d ∷ [] →
    size ≡ kept (sum_by starred (sizes_of starred ds) (field_shapes d)) → AreCounted starred more all
counted-push starred sizes more size ds all d counted m a s =
    rw (m, a, sizes_from-push starred [] ds d, map-append kept (sizes_of starred ds) (sum_by starred (sizes_of starred ds) (field_shapes d) ∷ []), counted, s) refl

pub counted-none : (starred : Bool) (sizes : List ℕ) (ds : List StructDef) → sizes ≡ [] → ds ≡ [] → AreCounted starred sizes ds
unfolding sizes_from
counted-none starred sizes ds s d = rw (s, d) refl

pub at_ok : {T E P : Type 0} (r : Result T E) → is_err r ≡ false → OnOk r P → P
at_ok (Ok x) h p = p
at_ok (Err e) h p = absurd (true≢false h)

pub vars-next : (sizes : List ℕ) (vars : List Var) (i : ℕ) (d : Var) → i < length vars →
    sum_by true sizes (map var_shape (drop i vars)) ≡ size_by true sizes (get_or vars i d).shape + sum_by true sizes (map var_shape (drop (i + 1) vars))
unfolding sum_by
vars-next sizes vars i d h = ap (λ vs. sum_by true sizes (map var_shape vs)) (drop_more vars i d h)

pub vars-end : (sizes : List ℕ) (vars : List Var) (i : ℕ) → length vars ≤ i → sum_by true sizes (map var_shape (drop i vars)) ≡ 0
unfolding sum_by
vars-end sizes vars i h = ap (λ vs. sum_by true sizes (map var_shape vs)) (drop_all i vars h)
