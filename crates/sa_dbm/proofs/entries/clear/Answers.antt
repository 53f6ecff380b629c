use Rattle.std.proofs.Common.{◌≡◌, ◌≢◌, ◌∙◌, ℕ, ◌+◌, ◌*◌, ◌<◌, ◌≤◌, length, set, List, ℤ, pos, None, inl, inr, refl, sym, arith}
use Rattle.std.proofs.lemmas.Bool.{cases_eq, eq-eqb, ne_eqb}
use Rattle.std.proofs.lemmas.Nat.{mul-add-lt}
use Rattle.sa_dbm.specs.Stored.{shown_at}
use Rattle.sa_dbm.specs.Walks.{at_once}
use Rattle.sa_dbm.proofs.StoredLaws.{shown-no_bound, shown-number, filled_more, shown_at-set_same, shown_at-set_other, places_differ}
use Rattle.sa_dbm.proofs.entries.clear.Goals as goal

pub loop-i-preserved : goal.loop-i-preserved
loop-i-preserved c = filled_more c.loop-i.bounds c.loop-i.i _ (λ _. None) (omega arith) c.loop-i.invariant shown-no_bound

-- row i of cleared bounds, with 0 at node i
diagonal : (n i q : ℕ) (xs : List ℤ) → i < n → q < n → length xs ≡ n * n → ((q : ℕ) → q < n → shown_at xs (i * n + q) ≡ None) → shown_at (set xs (i * n + i) (pos 0)) (i * n + q) ≡ at_once i q
diagonal n i q xs b d square none =
    elim (cases_eq i q) [
      | inl same ↦ rw (← same, eq-eqb i i refl) (shown_at-set_same xs (i * n + i) (pos 0) (omega (arith, mul-add-lt i n i n b b)) ∙ shown-number (pos 0) refl)
      | inr other ↦ rw (ne_eqb i q other) (shown_at-set_other xs (i * n + i) (i * n + q) (pos 0) (places_differ n i i i q b d (λ _ e. other (sym e))) ∙ none q d)
    ]

pub loop-i-2-preserved : goal.loop-i-2-preserved
loop-i-2-preserved c =
    let n = c.args.nodes in
    let i = c.loop-i-2.i in
    let xs = c.loop-i-2.bounds in
    let was = c.loop-i-2.invariant in
    let b = c.loop-i-2-test.true in
    record {
      done = λ p q h d.
          elim (cases_eq p i) [
            | inl same ↦ rw same (diagonal n i q xs b d (c.loop-i-2.auto.bounds ∙ c.loop-i.auto.bounds ∙ c.requires.square) (λ q d. was.none i q (omega arith) b d))
            | inr other ↦ shown_at-set_other xs (i * n + i) (p * n + q) _ (places_differ n i i p q b d (λ e _. other e)) ∙ was.done p q (omega arith) d
          ];
      none = λ p q h e d. shown_at-set_other xs (i * n + i) (p * n + q) _ (places_differ n i i p q b d (λ e _. above_differs p i h e)) ∙ was.none p q (omega arith) e d;
    }
  where
    above_differs : (k i : ℕ) → i + 1 ≤ k → k ≢ i
    above_differs k i h = omega arith
