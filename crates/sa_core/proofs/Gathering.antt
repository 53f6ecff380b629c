-- What is gathered depends only on the choice, and grows by one merge where the choice grows by one branch.
use Rattle.std.proofs.Common.{◌≡◌, ◌≢◌, ℕ, zero, suc, ◌<◌, ◌||◌, Bool, true, false, cond, refl, sym, ap, subst, inl, inr, ◌∙◌, arith}
use Rattle.std.proofs.lemmas.Bool.{cases_eq}
use Rattle.sa_core.specs.Laws.{Parts, MergeLaws}
use Rattle.sa_core.specs.Gathered.{gathered, whole}

module _ {P : Type 0} {Fits : P → Type 0} {m : Parts P} (laws : MergeLaws Fits m) where
  pub gathered-fits : (n : ℕ) (chosen : ℕ → Bool) → Fits (gathered m n chosen)
  gathered-fits zero chosen = laws.none_fits
  gathered-fits (suc k) chosen =
      let g = gathered m k chosen in
      elim (chosen k) as (λ b. Fits (cond b (m.merge_of g (m.part_of k)) g)) [
        | true ↦ laws.merge_fits g (m.part_of k) (gathered-fits k chosen) (laws.part_fits k)
        | false ↦ gathered-fits k chosen
      ]

  exchange : (p q r : P) → Fits p → Fits q → Fits r → m.merge_of (m.merge_of p q) r ≡ m.merge_of (m.merge_of p r) q
  exchange p q r fp fq fr = laws.group p q r fp fq fr ∙ ap (m.merge_of p) (laws.swap q r fq fr) ∙ sym (laws.group p r q fp fr fq)

pub gathered-same : {P : Type 0} (m : Parts P) (n : ℕ) (p q : ℕ → Bool) → ((k : ℕ) → k < n → p k ≡ q k) → gathered m n p ≡ gathered m n q
gathered-same m zero p q same = refl
gathered-same m (suc k) p q same =
    let below : gathered m k p ≡ gathered m k q = gathered-same m k p q (λ j h. same j (omega arith)) in
    let here : p k ≡ q k = same k (omega arith) in
    cc

pub nothing-gathered : {P : Type 0} (m : Parts P) (n : ℕ) → gathered m n (λ k. false) ≡ m.none_of
nothing-gathered m zero = refl
nothing-gathered m (suc k) = nothing-gathered m k

pub whole-gathered : {P : Type 0} (m : Parts P) (n : ℕ) (chosen : ℕ → Bool) → ((k : ℕ) → k < n → chosen k ≡ true) → gathered m n chosen ≡ whole m n
whole-gathered m zero chosen all = refl
whole-gathered m (suc k) chosen all =
    let below = whole-gathered m k chosen (λ j h. all j (omega arith)) in
    rw (all k (omega arith)) (ap (λ g. m.merge_of g (m.part_of k)) below)

module _ {P : Type 0} {Fits : P → Type 0} {m : Parts P} (laws : MergeLaws Fits m) where
  pub gathered-more : (n k : ℕ) (p q : ℕ → Bool) → k < n → p k ≡ false → q k ≡ true → ((j : ℕ) → j < n → j ≢ k → q j ≡ p j) → gathered m n q ≡ m.merge_of (gathered m n p) (m.part_of k)
  gathered-more zero k p q h out in_now others = absurd (omega arith)
  gathered-more (suc n) k p q h out in_now others =
      elim (cases_eq k n) [
        | inl e ↦
            let below : gathered m n q ≡ gathered m n p = gathered-same m n q p (λ j l. others j (omega arith) (omega arith)) in
            subst (λ (i : ℕ). p i ≡ false → q i ≡ true → cond (q n) (m.merge_of (gathered m n q) (m.part_of n)) (gathered m n q) ≡ m.merge_of (cond (p n) (m.merge_of (gathered m n p) (m.part_of n)) (gathered m n p)) (m.part_of i))
            (sym e)
            (λ o t. rw (o, t) (ap (λ g. m.merge_of g (m.part_of n)) below))
            out in_now
        | inr ne ↦
            let before = gathered-more n k p q (omega arith) out in_now (λ j l d. others j (omega arith) d) in
            let same : q n ≡ p n = others n (omega arith) (omega arith) in
            let g = gathered m n p in
            rw (same, before)
            (elim (p n) as (λ b. cond b (m.merge_of (m.merge_of g (m.part_of k)) (m.part_of n)) (m.merge_of g (m.part_of k)) ≡ m.merge_of (cond b (m.merge_of g (m.part_of n)) g) (m.part_of k)) [
              | true ↦ exchange laws g (m.part_of k) (m.part_of n) (gathered-fits laws n p) (laws.part_fits k) (laws.part_fits n)
              | false ↦ refl
            ])
      ]

  -- a part that both sides have counts once
  shared : (a b x : P) → Fits a → Fits b → Fits x → m.merge_of (m.merge_of a x) (m.merge_of b x) ≡ m.merge_of (m.merge_of a b) x
  shared a b x fa fb fx =
      let bx = laws.merge_fits b x fb fx in
      let again : m.merge_of x (m.merge_of b x) ≡ m.merge_of b x =
      laws.swap x (m.merge_of b x) fx bx ∙ laws.group b x x fb fx fx ∙ ap (m.merge_of b) (laws.twice x fx) in
      laws.group a x (m.merge_of b x) fa fx bx ∙ ap (m.merge_of a) again ∙ sym (laws.group a b x fa fb fx)

  -- what is gathered in two groups merges to what is gathered in one
  pub gathered-or : (n : ℕ) (p q : ℕ → Bool) → m.merge_of (gathered m n p) (gathered m n q) ≡ gathered m n (λ k. p k || q k)
  gathered-or zero p q = laws.neutral m.none_of laws.none_fits
  gathered-or (suc k) p q =
      let a = gathered m k p in
      let b = gathered m k q in
      let x = m.part_of k in
      let fa = gathered-fits laws k p in
      let fb = gathered-fits laws k q in
      let fx = laws.part_fits k in
      rw (← gathered-or k p q)
      (elim (p k) as (λ u. m.merge_of (cond u (m.merge_of a x) a) (cond (q k) (m.merge_of b x) b) ≡ cond (u || q k) (m.merge_of (m.merge_of a b) x) (m.merge_of a b)) [
        | true ↦ elim (q k) as (λ v. m.merge_of (m.merge_of a x) (cond v (m.merge_of b x) b) ≡ m.merge_of (m.merge_of a b) x) [
          | true ↦ shared a b x fa fb fx
          | false ↦ exchange laws a x b fa fx fb
        ]
        | false ↦ elim (q k) as (λ v. m.merge_of a (cond v (m.merge_of b x) b) ≡ cond v (m.merge_of (m.merge_of a b) x) (m.merge_of a b)) [
          | true ↦ sym (laws.group a b x fa fb fx)
          | false ↦ refl
        ]
      ])
