-- Lines of rising numbers, one on and at the end.
use Rattle.std.proofs.Common.{◌≡◌, ℕ, suc, ◌+◌, ◌-◌, ◌<◌, ◌≤◌, List, ◌++◌, sym, ap, ◌∙◌, append_assoc, append-nil, arith}
use Rattle.sa_gen.specs.Source.{lines_from}

-- n lines are left of which the first has the number i
pub lines-more : (line : ℕ → List ℕ) (n i : ℕ) (old new all : List ℕ) → i < n → new ≡ old ++ line i → old ++ lines_from line (n - i) i ≡ all → new ++ lines_from line (n - (i + 1)) (i + 1) ≡ all
unfolding lines_from
lines-more line n i old new all h e whole =
    let left : n - i ≡ suc (n - (i + 1)) = omega arith in
    ap (λ (x : List ℕ). x ++ lines_from line (n - (i + 1)) (i + 1)) e ∙ append_assoc old (line i) (lines_from line (n - (i + 1)) (i + 1))
    ∙ ap (λ (k : ℕ). old ++ lines_from line k i) (sym left) ∙ whole

pub lines-over : (line : ℕ → List ℕ) (n i : ℕ) (old all : List ℕ) → n ≤ i → old ++ lines_from line (n - i) i ≡ all → old ≡ all
unfolding lines_from
lines-over line n i old all h whole =
    let none : n - i ≡ 0 = omega arith in
    sym (ap (λ (k : ℕ). old ++ lines_from line k i) none ∙ append-nil old) ∙ whole
