-- Cells slot by slot, one step on and at the end, and that their spans stay in their types.
use Rattle.std.proofs.Common.{◌≡◌, ℕ, zero, suc, ◌+◌, ◌-◌, ◌<◌, ◌≤◌, ℤ, pos, ◌≤ℤ◌, Bool, true, false, ◌&&◌, List, [], ◌∷◌, ◌++◌, length, drop, take, get_or, refl, sym, ap, subst, ◌∙◌, append_assoc, append-nil, add-one, arith}
use Rattle.std.specs.Prelude.{min}
use Rattle.std.proofs.lemmas.Int.{ints, clamps}
use Rattle.std.proofs.lemmas.List.{drop_more, drop_all}
use Rattle.sa_base.specs.Numbers.{num_lo, num_hi}
use Rattle.sa_base.specs.declared.num.Num.{Num}
use Rattle.sa_base.specs.declared.num.Num.TheVariants.{I8, U8, I16, U16, I32, U32, I64, U64}
use Rattle.sa_interval.specs.Span.{Span, IsPart}
use Rattle.sa_interval.specs.Rows.{is_part, join_of}
use Rattle.sa_typed.specs.Cells.{Cell, cells}
use Rattle.sa_typed.specs.declared.program.Program.{Program}
use Rattle.sa_reference.specs.declared.flat.Flat.{Flat}
use Rattle.sa_operators.specs.Operators.{range_of, IsIn}
use Rattle.sa_reference.specs.Environments.{zip, all_parts, cell_range, ranges, whole_clock, top_of, merge_of, widened_span, widened_spans}
use Rattle.sa_reference.specs.Fair.{AreIn, IsFair}

-- ---- zip
zip-at : (f : Span → Span → Span) (a b : List Span) (k : ℕ) (d e : Span) → k < length a → k < length b →
    zip f (drop k a) (drop k b) ≡ f (get_or a k d) (get_or b k e) ∷ zip f (drop (k + 1) a) (drop (k + 1) b)
zip-at f a b k d e h l =
    ap (λ (x : List Span). zip f x (drop k b)) (drop_more a k d h) ∙ ap (λ (y : List Span). zip f (get_or a k d ∷ drop (k + 1) a) y) (drop_more b k e l)

pub zip-more : (f : Span → Span → Span) (a b : List Span) (k : ℕ) (d e s : Span) (cells new : List Span) → k < length a → k < length b → s ≡ f (get_or a k d) (get_or b k e) →
    new ≡ cells ++ s ∷ [] → cells ++ zip f (drop k a) (drop k b) ≡ zip f a b → new ++ zip f (drop (k + 1) a) (drop (k + 1) b) ≡ zip f a b
zip-more f a b k d e s cells new h l is n whole =
    let rest = zip f (drop (k + 1) a) (drop (k + 1) b) in
    ap (λ (x : List Span). x ++ rest) n ∙ append_assoc cells (s ∷ []) rest ∙ ap (λ (x : Span). cells ++ x ∷ rest) is
    ∙ ap (λ (x : List Span). cells ++ x) (sym (zip-at f a b k d e h l)) ∙ whole

zip-none : (f : Span → Span → Span) (a : List Span) → zip f a [] ≡ []
zip-none f [] = refl
zip-none f (x ∷ xs) = refl

zip-over : (f : Span → Span → Span) (a b : List Span) (k : ℕ) → min (length a) (length b) ≤ k → zip f (drop k a) (drop k b) ≡ []
zip-over f [] b k h = ap (λ (x : List Span). zip f x (drop k b)) (drop_all k [] (omega arith))
zip-over f (x ∷ xs) [] k h = ap (λ (y : List Span). zip f (drop k (x ∷ xs)) y) (drop_all k [] (omega arith)) ∙ zip-none f (drop k (x ∷ xs))
zip-over f (x ∷ xs) (y ∷ ys) zero h = absurd (omega arith)
zip-over f (x ∷ xs) (y ∷ ys) (suc k) h = zip-over f xs ys k (omega arith)

pub zip-end : (f : Span → Span → Span) (a b : List Span) (k : ℕ) (cells : List Span) → min (length a) (length b) ≤ k → cells ++ zip f (drop k a) (drop k b) ≡ zip f a b → cells ≡ zip f a b
zip-end f a b k cells h whole = sym (ap (λ (x : List Span). cells ++ x) (zip-over f a b k h) ∙ append-nil cells) ∙ whole

-- ---- all parts
pub parts-at : (a b : List Span) (k : ℕ) (d e : Span) → k < length a → k < length b →
    all_parts (drop k a) (drop k b) ≡ (is_part (get_or a k d) (get_or b k e) && all_parts (drop (k + 1) a) (drop (k + 1) b))
parts-at a b k d e h l =
    ap (λ (x : List Span). all_parts x (drop k b)) (drop_more a k d h) ∙ ap (λ (y : List Span). all_parts (get_or a k d ∷ drop (k + 1) a) y) (drop_more b k e l)

pub parts-of_lengths : (a b : List Span) → (length a ≡ length b → ⊥) → all_parts a b ≡ false
parts-of_lengths [] [] h = absurd (h refl)
parts-of_lengths [] (y ∷ ys) h = refl
parts-of_lengths (x ∷ xs) [] h = refl
parts-of_lengths (x ∷ xs) (y ∷ ys) h = and-false (is_part x y) (all_parts xs ys) (parts-of_lengths xs ys (λ e. h (omega (arith, e))))
  where
    and-false : (p q : Bool) → q ≡ false → (p && q) ≡ false
    and-false true q e = e
    and-false false q e = refl

-- ---- spans in their types
ordered-range : (num : Num) → num_lo num ≤ℤ num_hi num
ordered-range I8 = omega (arith, ints)
ordered-range U8 = omega (arith, ints)
ordered-range I16 = omega (arith, ints)
ordered-range U16 = omega (arith, ints)
ordered-range I32 = omega (arith, ints)
ordered-range U32 = omega (arith, ints)
ordered-range I64 = omega (arith, ints)
ordered-range U64 = omega (arith, ints)

pub range-in : (num : Num) → IsIn num (range_of num)
range-in num = record { ordered = ordered-range num; part = record { above = omega (arith, ints); below = omega (arith, ints) } }

pub ranges-in : (cs : List Cell) → AreIn cs (ranges cs)
unfolding AreIn ranges cell_range
ranges-in [] = tt
ranges-in (c ∷ cs) = (range-in c.num, ranges-in cs)

pub join-in : (num : Num) (a b : Span) → IsIn num a → IsIn num b → IsIn num (join_of a b)
join-in num a b h k =
    let al = h.ordered in let bl = k.ordered in
    let aa = h.part.above in let ab = h.part.below in let ba = k.part.above in let bb = k.part.below in
    record { ordered = omega (arith, ints, clamps, al, bl); part = record { above = omega (arith, ints, clamps, aa, ba); below = omega (arith, ints, clamps, ab, bb) } }

pub zip-in : (cs : List Cell) (a b : List Span) → AreIn cs a → AreIn cs b → AreIn cs (zip join_of a b)
unfolding AreIn
zip-in [] [] [] h k = tt
zip-in [] (x ∷ a) b h k = absurd h
zip-in [] [] (y ∷ b) h k = absurd k
zip-in (c ∷ cs) [] b h k = absurd h
zip-in (c ∷ cs) (x ∷ a) [] h k = absurd k
zip-in (c ∷ cs) (x ∷ a) (y ∷ b) h k = (join-in c.num x y h.0 k.0, zip-in cs a b h.1 k.1)

pub length-in : (cs : List Cell) (a : List Span) → AreIn cs a → length a ≡ length cs
unfolding AreIn
length-in [] [] h = refl
length-in [] (x ∷ a) h = absurd h
length-in (c ∷ cs) [] h = absurd h
length-in (c ∷ cs) (x ∷ a) h = ap suc (length-in cs a h.1)

pub length-ranges : (cs : List Cell) → length (ranges cs) ≡ length cs
unfolding ranges
length-ranges [] = refl
length-ranges (c ∷ cs) = ap suc (length-ranges cs)

pub part-at : (cs : List Cell) (a : List Span) (k : ℕ) (d e : Span) → AreIn cs a → k < length cs → IsPart (get_or a k d) (get_or (ranges cs) k e)
unfolding AreIn ranges cell_range
part-at [] a k d e h l = absurd (omega arith)
part-at (c ∷ cs) [] k d e h l = absurd h
part-at (c ∷ cs) (x ∷ a) zero d e h l = h.0.part
part-at (c ∷ cs) (x ∷ a) (suc k) d e h l = part-at cs a k d e h.1 (omega arith)

-- ---- widening
pub widened-more : (ts : List ℤ) (q : ℕ) (tops a b : List Span) (k : ℕ) (d e f s : Span) (out new : List Span) → k < length tops → k < length a → k < length b →
    s ≡ widened_span ts q (get_or tops k d) (get_or a k e) (get_or b k f) → new ≡ out ++ s ∷ [] →
    out ++ widened_spans ts q (drop k tops) (drop k a) (drop k b) ≡ widened_spans ts q tops a b →
    new ++ widened_spans ts q (drop (k + 1) tops) (drop (k + 1) a) (drop (k + 1) b) ≡ widened_spans ts q tops a b
unfolding widened_spans
widened-more ts q tops a b k d e f s out new h i j is n whole =
    let rest = widened_spans ts q (drop (k + 1) tops) (drop (k + 1) a) (drop (k + 1) b) in
    let at : widened_spans ts q (drop k tops) (drop k a) (drop k b) ≡ widened_span ts q (get_or tops k d) (get_or a k e) (get_or b k f) ∷ rest
    = ap (λ (x : List Span). widened_spans ts q x (drop k a) (drop k b)) (drop_more tops k d h)
    ∙ ap (λ (x : List Span). widened_spans ts q (get_or tops k d ∷ drop (k + 1) tops) x (drop k b)) (drop_more a k e i)
    ∙ ap (λ (x : List Span). widened_spans ts q (get_or tops k d ∷ drop (k + 1) tops) (get_or a k e ∷ drop (k + 1) a) x) (drop_more b k f j) in
    ap (λ (x : List Span). x ++ rest) n ∙ append_assoc out (s ∷ []) rest ∙ ap (λ (x : Span). out ++ x ∷ rest) is
    ∙ ap (λ (x : List Span). out ++ x) (sym at) ∙ whole

pub widened-end : (ts : List ℤ) (q : ℕ) (tops a b : List Span) (k : ℕ) (out : List Span) → length tops ≤ k →
    out ++ widened_spans ts q (drop k tops) (drop k a) (drop k b) ≡ widened_spans ts q tops a b → out ≡ widened_spans ts q tops a b
unfolding widened_spans
widened-end ts q tops a b k out h whole =
    sym (append-nil out) ∙ ap (λ (x : List Span). out ++ widened_spans ts q x (drop k a) (drop k b)) (sym (drop_all k tops h)) ∙ whole

-- one more cell's span
pub in-push : (cs : List Cell) (k : ℕ) (d : Span) (s : Span) (out : List Span) → AreIn (take k cs) out → k < length cs → s.lo ≤ℤ s.hi → IsPart s (get_or (ranges cs) k d) → AreIn (take (k + 1) cs) (out ++ s ∷ [])
unfolding AreIn ranges cell_range
in-push cs k d s out h l o p = subst (λ (n : ℕ). AreIn (take n cs) (out ++ s ∷ [])) (sym (add-one k)) (go cs k out h l p)
  where
    go : (cs : List Cell) (k : ℕ) (out : List Span) → AreIn (take k cs) out → k < length cs → IsPart s (get_or (ranges cs) k d) → AreIn (take (suc k) cs) (out ++ s ∷ [])
    go [] k out h l p = absurd (omega arith)
    go (c ∷ cs) zero [] h l p = (record { ordered = o; part = p }, tt)
    go (c ∷ cs) zero (x ∷ out) h l p = absurd h
    go (c ∷ cs) (suc k) [] h l p = absurd h
    go (c ∷ cs) (suc k) (x ∷ out) h l p = (h.0, go cs k out h.1 (omega arith) p)

-- ---- environments
pub merge-fair : (p : Program) (m : ℤ) (a b : Flat) → IsFair p m a → IsFair p m b → IsFair p m (merge_of a b)
merge-fair p m a b h k =
    let al = h.ordered in
    let bl = k.ordered in
    let aa = h.clock.above in
    let ab = h.clock.below in
    let ba = k.clock.above in
    let bb = k.clock.below in
    record {
      ordered = omega (arith, ints, clamps, al, bl);
      clock = record { above = omega (arith, ints, clamps, aa, ba); below = omega (arith, ints, clamps, ab, bb) };
      cells = zip-in (cells p) a.cells b.cells h.cells k.cells;
    }

pub top-fair : (p : Program) (n : ℕ) → IsFair p (pos n) (top_of p (whole_clock (pos n)))
top-fair p n = record {
  ordered = omega (arith, ints);
  clock = record { above = omega (arith, ints); below = omega (arith, ints) };
  cells = ranges-in (cells p);
}

-- two environments with the same parts
pub same-flat : (e f : Flat) → e.clock ≡ f.clock → e.cells ≡ f.cells → e ≡ f
same-flat e f h k = ap (λ (c : Span). record { clock = c; cells = e.cells }) h ∙ ap (λ (l : List Span). record { clock = f.clock; cells = l }) k
