-- Lists of values without the zeros at their end.
use Rattle.std.proofs.Common.{◌≡◌, ◌≢◌, ◌^◌, ◌-◌, min, zero, suc, ℕ, ◌+◌, List, [], ◌∷◌, ◌++◌, Bool, true, false, length, replicate, refl, ap, sym, ◌∙◌, arith, append_assoc}
use Rattle.std.specs.Prelude.{ℤ, pos, if◌then◌else◌}
use Rattle.std.specs.Ordering.{int_eq}
use Rattle.std.proofs.lemmas.Bool.Decides.{Decides-int_eq}
use Rattle.std.proofs.lemmas.List.{append-nil}
use Rattle.sa_declarations.specs.declared.initial.Values.{Values}
use Rattle.sa_declarations.specs.Initialisers.{zeros, trimmed, before_zeros, is_zero, Stands}
use Rattle.sa_scopes.specs.Structures.{kept}

pub zeros-trimmed : (n : ℕ) → trimmed (zeros n) ≡ []
unfolding trimmed
zeros-trimmed zero = refl
zeros-trimmed (suc n) = ap (before_zeros (pos 0)) (zeros-trimmed n)

pub trimmed-zeros : (vs : List ℤ) (n : ℕ) → trimmed (vs ++ zeros n) ≡ trimmed vs
unfolding trimmed
trimmed-zeros [] n = zeros-trimmed n
trimmed-zeros (v ∷ vs) n = ap (before_zeros v) (trimmed-zeros vs n)

-- what ends with another number is trimmed
pub trimmed-last : (vs : List ℤ) (v : ℤ) → is_zero v ≡ false → trimmed (vs ++ v ∷ []) ≡ vs ++ v ∷ []
unfolding trimmed
trimmed-last [] v h = rw h refl
trimmed-last (w ∷ []) v h = rw h refl
trimmed-last (w ∷ u ∷ vs) v h = ap (before_zeros w) (trimmed-last (u ∷ vs) v h)

zeros-sum : (m n : ℕ) → zeros (m + n) ≡ zeros m ++ zeros n
zeros-sum zero n = let h : 0 + n ≡ n = omega arith in rw h refl
zeros-sum (suc m) n = let h : suc m + n ≡ suc (m + n) = omega arith in rw h (ap (λ (zs : List ℤ). pos 0 ∷ zs) (zeros-sum m n))

pub zeros-more : (vs : List ℤ) (m n : ℕ) → (vs ++ zeros m) ++ zeros n ≡ vs ++ zeros (m + n)
zeros-more vs m n = append_assoc vs (zeros m) (zeros n) ∙ ap (λ (zs : List ℤ). vs ++ zs) (sym (zeros-sum m n))

-- ---- values of which the zeros at the end are counted
trimmed-none : trimmed [] ≡ []
unfolding trimmed
trimmed-none = refl

pub stands_none : (v : Values) → v.written ≡ [] → v.pending ≡ 0 → Stands v []
stands_none v w p = record { count = 0; kept = p; is = ap (λ (zs : List ℤ). zs ++ []) w; ends = ap trimmed w ∙ trimmed-none ∙ sym w }

sum_kept : (a b m n : ℕ) → a ≡ kept m → b ≡ kept n → min (a + b) (2 ^ 64 - 1) ≡ kept (m + n)
sum_kept a b m n h k = omega arith

pub stands_skip : (v w : Values) (zs : List ℤ) (many n : ℕ) → w.written ≡ v.written → w.pending ≡ min (v.pending + many) (2 ^ 64 - 1) → Stands v zs → many ≡ kept n → Stands w (zs ++ zeros n)
stands_skip v w zs many n e p s k = record {
  count = s.count + n;
  kept = p ∙ sum_kept v.pending many s.count n s.kept k;
  is = ap (λ (ys : List ℤ). ys ++ zeros (s.count + n)) e ∙ sym (zeros-more v.written s.count n) ∙ ap (λ (ys : List ℤ). ys ++ zeros n) s.is;
  ends = ap trimmed e ∙ s.ends ∙ sym e;
}

exact : (a n : ℕ) → a ≡ kept n → a ≢ 2 ^ 64 - 1 → n ≡ a
exact a n h k = omega arith

pub stands_write : (v w : Values) (zs : List ℤ) (z : ℤ) → w.written ≡ (v.written ++ zeros v.pending) ++ z ∷ [] → w.pending ≡ 0 → v.pending ≢ 2 ^ 64 - 1 → is_zero z ≡ false → Stands v zs → Stands w (zs ++ z ∷ [])
stands_write v w zs z e p m h s =
    let n : s.count ≡ v.pending = exact v.pending s.count s.kept m in
    let all : v.written ++ zeros v.pending ≡ zs = ap (λ (k : ℕ). v.written ++ zeros k) (sym n) ∙ s.is in
    record {
      count = 0;
      kept = p;
      is = append-nil w.written ∙ e ∙ ap (λ (ys : List ℤ). ys ++ z ∷ []) all;
      ends = ap trimmed e ∙ trimmed-last (v.written ++ zeros v.pending) z h ∙ sym e;
    }

pub stands_trimmed : (v : Values) (zs : List ℤ) → Stands v zs → trimmed zs ≡ v.written
stands_trimmed v zs s = ap trimmed (sym s.is) ∙ trimmed-zeros v.written s.count ∙ s.ends

pub zero_is : (z : ℤ) → is_zero z ≡ true → z ≡ pos 0
zero_is z h = (Decides-int_eq z (pos 0)).0 h
