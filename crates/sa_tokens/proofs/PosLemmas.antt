-- The place after some bytes.
use Rattle.std.proofs.Common.{◌≡◌, ℕ, zero, suc, ◌+◌, ◌-◌, ◌≤◌, ◌<◌, List, [], Bool, true, false, not, length, take, get_or, refl, ap, sym, subst, ◌∙◌, arith, ⊎_elim}
use Rattle.std.specs.Prelude.{◌==◌, if◌then◌else◌, count_by}
use Rattle.std.specs.List.{suffix_len}
use Rattle.std.proofs.lemmas.Bool.{cond-true, cond-false, not_from_true, not_from_false, cases_Bool}
use Rattle.std.proofs.lemmas.List.{take_all}
use Rattle.std.proofs.lemmas.List.Sums.{fold_more, count_by_more_yes, count_by_more_no, suffix_len-take_yes, suffix_len-take_no}
use Rattle.sa_base.specs.declared.pos.Pos.{Pos}
use Rattle.sa_tokens.specs.Lexed.{first_pos, pos_after, pos_past}
use Rattle.sa_tokens.specs.Laws.{IsPlaceAfter, EachPlaceIsCounted}

pub pos_past-none : (p : Pos) → pos_past p [] ≡ p
unfolding pos_past
pos_past-none p = refl

pub pos_past-more : (p : Pos) (s : List ℕ) (i : ℕ) → i < length s → pos_past p (take (i + 1) s) ≡ pos_after (pos_past p (take i s)) (get_or s i 0)
unfolding pos_past
pos_past-more p s i h = fold_more pos_after p s i 0 h

pub pos_after-small : (p : Pos) (b : ℕ) → 1 ≤ p.col → (1 ≤ (pos_after p b).col) × ((pos_after p b).line + (pos_after p b).col ≤ p.line + p.col + 1)
pos_after-small p b h =
    elim (b == 10) as (λ t. let q : Pos = if t then record { line = p.line + 1; col = 1 } else record { line = p.line; col = p.col + 1 } in (1 ≤ q.col) × (q.line + q.col ≤ p.line + p.col + 1)) [
      | true ↦ (omega arith, omega arith)
      | false ↦ (omega arith, omega arith)
    ]

-- ---- lines and columns are counts
abbrev is_feed : ℕ → Bool
is_feed b = b == 10

abbrev is_other : ℕ → Bool
is_other b = not (b == 10)

last_is : (s : List ℕ) (i : ℕ) → get_or s (i + 1 - 1) 0 ≡ get_or s i 0
last_is s i = let e : i + 1 - 1 ≡ i = omega arith in ap (λ k. get_or s k 0) e

front_is : (s : List ℕ) (i : ℕ) → take (i + 1 - 1) s ≡ take i s
front_is s i = let e : i + 1 - 1 ≡ i = omega arith in ap (λ k. take k s) e

after_feed : (s : List ℕ) (i : ℕ) (p : Pos) → i < length s → (get_or s i 0 == 10) ≡ true → IsPlaceAfter (take i s) p → IsPlaceAfter (take (i + 1) s) (pos_after p (get_or s i 0))
after_feed s i p h t k =
    let e : pos_after p (get_or s i 0) ≡ record { line = p.line + 1; col = 1 } = cond-true (get_or s i 0 == 10) _ _ t in
    let lines : count_by is_feed (take (i + 1) s) ≡ count_by is_feed (take i s) + 1 = count_by_more_yes is_feed s i 0 h t in
    let none : suffix_len is_other (take (i + 1) s) ≡ 0 = suffix_len-take_no is_other s (i + 1) 0 (omega arith) (omega arith) (ap is_other (last_is s i) ∙ not_from_true (get_or s i 0 == 10) t) in
    subst (λ (q : Pos). IsPlaceAfter (take (i + 1) s) q) (sym e) (record { line = omega (arith, k.line); col = omega arith })

after_other : (s : List ℕ) (i : ℕ) (p : Pos) → i < length s → (get_or s i 0 == 10) ≡ false → IsPlaceAfter (take i s) p → IsPlaceAfter (take (i + 1) s) (pos_after p (get_or s i 0))
after_other s i p h t k =
    let e : pos_after p (get_or s i 0) ≡ record { line = p.line; col = p.col + 1 } = cond-false (get_or s i 0 == 10) _ _ t in
    let lines : count_by is_feed (take (i + 1) s) ≡ count_by is_feed (take i s) = count_by_more_no is_feed s i 0 h t in
    let more : suffix_len is_other (take (i + 1) s) ≡ 1 + suffix_len is_other (take i s) =
    suffix_len-take_yes is_other s (i + 1) 0 (omega arith) (omega arith) (ap is_other (last_is s i) ∙ not_from_false (get_or s i 0 == 10) t) ∙ ap (λ (xs : List ℕ). 1 + suffix_len is_other xs) (front_is s i) in
    subst (λ (q : Pos). IsPlaceAfter (take (i + 1) s) q) (sym e) (record { line = omega (arith, k.line); col = omega (arith, k.col) })

place_more : (s : List ℕ) (i : ℕ) (p : Pos) → i < length s → IsPlaceAfter (take i s) p → IsPlaceAfter (take (i + 1) s) (pos_after p (get_or s i 0))
place_more s i p h k = ⊎_elim (λ t. after_feed s i p h t k) (λ t. after_other s i p h t k) (cases_Bool (get_or s i 0 == 10))

place_up_to : (s : List ℕ) (i : ℕ) → i ≤ length s → IsPlaceAfter (take i s) (pos_past first_pos (take i s))
place_up_to s zero h = subst (IsPlaceAfter []) (sym (pos_past-none first_pos)) (record { line = refl; col = refl })
place_up_to s (suc i) h =
    let l : i < length s = omega arith in
    let e : i + 1 ≡ suc i = omega arith in
    let q : IsPlaceAfter (take (i + 1) s) (pos_past first_pos (take (i + 1) s)) =
    subst (IsPlaceAfter (take (i + 1) s)) (sym (pos_past-more first_pos s i l)) (place_more s i (pos_past first_pos (take i s)) l (place_up_to s i (omega arith))) in
    subst (λ n. IsPlaceAfter (take n s) (pos_past first_pos (take n s))) e q

pub each_place_is_counted : EachPlaceIsCounted
each_place_is_counted s = subst (λ (xs : List ℕ). IsPlaceAfter xs (pos_past first_pos xs)) (take_all (length s) s (omega arith)) (place_up_to s (length s) (omega arith))
