-- The first place where a text passes a test: one byte on, at that place, and at the end.
use Rattle.std.proofs.Common.{◌≡◌, ℕ, ◌+◌, ◌-◌, ◌≤◌, ◌<◌, List, [], ◌∷◌, Bool, true, false, length, take, drop, get_or, refl, ap, sym, ◌∙◌, arith}
use Rattle.std.proofs.lemmas.List.{drop_more, drop_all, take_rest}
use Rattle.sa_tokens.specs.Bytes.{until}

at_no : (test : List ℕ → Bool) (b : ℕ) (s : List ℕ) → test (b ∷ s) ≡ false → until test (b ∷ s) ≡ 1 + until test s
unfolding until
at_no test b s h = rw h refl

at_yes : (test : List ℕ → Bool) (s : List ℕ) → test s ≡ true → until test s ≡ 0
unfolding until
at_yes test [] h = refl
at_yes test (b ∷ s) h = rw h refl

at_end : (test : List ℕ → Bool) → until test [] ≡ 0
unfolding until
at_end test = refl

-- `rest` is what is left from `i` on
pub until_more : (test : List ℕ → Bool) (s rest : List ℕ) (i n : ℕ) → i < length s → rest ≡ drop i s → test rest ≡ false → i + until test (drop i s) ≡ n → i + 1 + until test (drop (i + 1) s) ≡ n
until_more test s rest i n h r fails e =
    let d : drop i s ≡ get_or s i 0 ∷ drop (i + 1) s = drop_more s i 0 h in
    let fails' : test (get_or s i 0 ∷ drop (i + 1) s) ≡ false = ap test (sym d) ∙ ap test (sym r) ∙ fails in
    let one : until test (drop i s) ≡ 1 + until test (drop (i + 1) s) = ap (until test) d ∙ at_no test (get_or s i 0) (drop (i + 1) s) fails' in
    omega arith

pub until_stop : (test : List ℕ → Bool) (s rest : List ℕ) (i n : ℕ) → rest ≡ drop i s → test rest ≡ true → i + until test (drop i s) ≡ n → i ≡ n
until_stop test s rest i n r stops e =
    let z : until test (drop i s) ≡ 0 = at_yes test (drop i s) (ap test (sym r) ∙ stops) in
    omega arith

pub until_end : (test : List ℕ → Bool) (s : List ℕ) (i n : ℕ) → length s ≤ i → i + until test (drop i s) ≡ n → i ≡ n
until_end test s i n h e =
    let z : until test (drop i s) ≡ 0 = ap (until test) (drop_all i s h) ∙ at_end test in
    omega arith

pub rest_is : (s : List ℕ) (i : ℕ) → take (length s - i) (drop i s) ≡ drop i s
rest_is s i = take_rest s i
