-- What is passed over ends at the first place where it may; a byte that is refused begins no token.
use Rattle.std.proofs.Common.{◌≡◌, ℕ, zero, suc, ◌+◌, ◌<◌, List, [], ◌∷◌, Bool, true, false, cond, drop, refl, ap, sym, subst, ◌∙◌, arith, Some, None, ⊎_elim}
use Rattle.std.specs.Prelude.{codes}
use Rattle.std.proofs.lemmas.Bool.{cond_both, cond-true, false≢true, or_parts, or_from, or_left, cases_order}
use Rattle.std.proofs.lemmas.List.{length-drop}
use Rattle.sa_tokens.specs.Bytes.{begins, until}
use Rattle.sa_tokens.specs.Comments.{ends_block, closed_after}
use Rattle.sa_tokens.specs.Laws.{IsFirst, EachUntilIsFirst, IsEnd, EachCommentHasItsEnd}
use Rattle.sa_tokens.proofs.PieceLemmas.{begins-le-length}

first_now : (test : List ℕ → Bool) (b : ℕ) (s : List ℕ) → test (b ∷ s) ≡ true → IsFirst test (b ∷ s) 0
first_now test b s h = record {
  within = omega arith;
  before = λ k l. absurd (omega arith);
  there = λ _. h;
}

fails_before : (test : List ℕ → Bool) (b : ℕ) (s : List ℕ) (n k : ℕ) → test (b ∷ s) ≡ false → IsFirst test s n → k < suc n → test (drop k (b ∷ s)) ≡ false
fails_before test b s n zero h f l = h
fails_before test b s n (suc k) h f l = f.before k (omega arith)

first_later : (test : List ℕ → Bool) (b : ℕ) (s : List ℕ) (n : ℕ) → test (b ∷ s) ≡ false → IsFirst test s n → IsFirst test (b ∷ s) (suc n)
first_later test b s n h f = record {
  within = omega (arith, f.within);
  before = λ k l. fails_before test b s n k h f l;
  there = λ l. f.there (omega arith);
}

until_first : (test : List ℕ → Bool) (s : List ℕ) → IsFirst test s (until test s)
unfolding until
until_first test [] = record { within = omega arith; before = λ k l. absurd (omega arith); there = λ l. absurd (omega arith) }
until_first test (b ∷ s) =
    let e : suc (until test s) ≡ 1 + until test s = omega arith in
    cond_both (test (b ∷ s)) 0 (1 + until test s) (IsFirst test (b ∷ s))
    (λ h. first_now test b s h)
    (λ h. subst (IsFirst test (b ∷ s)) e (first_later test b s (until test s) h (until_first test s)))

not_before : (test : List ℕ → Bool) (s : List ℕ) (m n : ℕ) → IsFirst test s m → IsFirst test s n → m < n → ⊥
not_before test s m n f g l = false≢true (sym (g.before m l) ∙ f.there (omega (arith, g.within)))

one_first : (test : List ℕ → Bool) (s : List ℕ) (m n : ℕ) → IsFirst test s m → IsFirst test s n → m ≡ n
one_first test s m n f g =
    ⊎_elim (λ e. e) (λ o. absurd (⊎_elim (λ l. not_before test s m n f g l) (λ l. not_before test s n m g f l) o)) (cases_order m n)

pub each_until_is_first : EachUntilIsFirst
each_until_is_first test s n =
    (λ e. subst (IsFirst test s) e (until_first test s), λ f. one_first test s (until test s) n (until_first test s) f)

-- ---- comments
closed_at : (s : List ℕ) (u n : ℕ) (t : Bool) → begins (codes "*/") (drop u s) ≡ t → cond t (Some (u + 2)) None ≡ Some (n + 2) → (begins (codes "*/") (drop u s) ≡ true) × (u ≡ n)
closed_at s u n true e h = let k : u + 2 ≡ n + 2 = cc in (e, omega arith)
closed_at s u n false e h = cc

end_of_first : (s : List ℕ) (n : ℕ) → begins (codes "*/") (drop n s) ≡ true → IsFirst ends_block s n → IsEnd s n
end_of_first s n h f = record {
  there = h;
  first = λ k l. (or_parts _ _ (f.before k l)).0;
  sure = λ k l. (or_parts _ _ (f.before k l)).1;
}

first_of_end : (s : List ℕ) (n : ℕ) → IsEnd s n → IsFirst ends_block s n
first_of_end s n e = record {
  within = omega (arith, begins-le-length (codes "*/") (drop n s) e.there, length-drop n s);
  before = λ k l. or_from _ _ (e.first k l) (e.sure k l);
  there = λ _. or_left _ _ e.there;
}

pub each_comment_has_its_end : EachCommentHasItsEnd
each_comment_has_its_end s n = (
  λ h. let c = closed_at s (until ends_block s) n (begins (codes "*/") (drop (until ends_block s) s)) refl h in
      subst (IsEnd s) c.1 (end_of_first s (until ends_block s) c.0 (until_first ends_block s)),
  λ e. let u : until ends_block s ≡ n = one_first ends_block s (until ends_block s) n (until_first ends_block s) (first_of_end s n e) in
      ap (λ m. closed_after m s) u ∙ cond-true (begins (codes "*/") (drop n s)) _ _ e.there,
)
