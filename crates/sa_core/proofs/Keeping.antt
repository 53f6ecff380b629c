-- Every accepted event keeps what a core's state says of itself, and takes in exactly the branch that it files or sweeps.
use Rattle.std.proofs.Common.{◌≡◌, ◌≢◌, ℕ, zero, suc, ◌+◌, ◌<◌, ◌≤◌, ◌||◌, Bool, true, false, cond, List, [], ◌∷◌, length, replicate, get_or, drop, set, Option, Some, None, Result, Ok, Err, refl, sym, ap, subst, inl, inr, ◌∙◌, arith, eqb, ltb}
use Rattle.std.proofs.lemmas.Bool.{cases_eq, cases_Bool}
use Rattle.std.proofs.lemmas.Bool.Decides.{nat_tests}
use Rattle.std.proofs.lemmas.List.{drop_more, length-set, length-replicate, get_or-set_same, get_or-set_other, get_or_past}
use Rattle.sa_core.specs.declared.event.Branch.{Branch}
use Rattle.sa_core.specs.declared.event.Branch.TheVariants.{Free, Held, Filed, Given, Swept}
use Rattle.sa_core.specs.declared.event.Event.{Event}
use Rattle.sa_core.specs.declared.event.Event.TheVariants.{Claim, File, Gave, Sweep}
use Rattle.sa_core.specs.declared.event.CoreError.{CoreError}
use Rattle.sa_core.specs.Laws.{Parts, MergeLaws}
use Rattle.sa_core.specs.Machine.{State, branch_at, holder_meets, sweep_meets, meets, Answers, marked, merged_in, claimed, after, replayed, opened}
use Rattle.sa_core.specs.Gathered.{gathered, takes_in, is_taken_in, is_in, IsCoreOf}
use Rattle.sa_core.proofs.Gathering.{nothing-gathered, gathered-fits, gathered-same, gathered-more}

-- who files or gives back a branch holds it
pub held : (w k : ℕ) (b : Branch) → holder_meets w k b ≡ None → (b ≢ Free) × (is_in b ≡ false)
held w k Free e = cc
held w k (Held v) e = ((λ h. cc), refl)
held w k Filed e = cc
held w k Given e = cc
held w k Swept e = cc

-- what is swept was given back
pub given : (k : ℕ) (b : Branch) → sweep_meets k b ≡ None → (b ≢ Free) × (is_in b ≡ false)
given k Free e = cc
given k (Held v) e = cc
given k Filed e = cc
given k Given e = ((λ h. cc), refl)
given k Swept e = cc

-- a branch that isn't free is one of them
not_free-within : (bs : List Branch) (k : ℕ) → branch_at bs k ≢ Free → k < length bs
not_free-within bs k taken = elim (cases_Bool (ltb k (length bs))) [
  | inl t ↦ grind (arith, nat_tests)
  | inr f ↦ let out : length bs ≤ k = grind (arith, nat_tests) in absurd (taken (get_or_past bs k Free out))
]

-- which branches are in after one is set
is_in-set : (bs : List Branch) (k : ℕ) (b : Branch) (j : ℕ) → k < length bs → is_in (branch_at (set bs k b) j) ≡ cond (eqb k j) (is_in b) (is_in (branch_at bs j))
is_in-set bs k b j h = elim (cases_eq j k) [
  | inl e ↦ let t : eqb k j ≡ true = grind (arith, nat_tests) in rw (t, e) (ap is_in (get_or-set_same bs k b Free h))
  | inr ne ↦ let t : eqb k j ≡ false = grind (arith, nat_tests) in rw t (ap is_in (get_or-set_other bs k j b Free ne))
]

or_cond : (b x : Bool) → cond b true x ≡ b || x
or_cond true x = refl
or_cond false x = refl

still_out : (bs : List Branch) (k j : ℕ) → is_in (branch_at bs k) ≡ false → cond (eqb k j) false (is_in (branch_at bs j)) ≡ is_in (branch_at bs j)
still_out bs k j out = elim (cases_eq j k) [
  | inl e ↦ let t : eqb k j ≡ true = grind (arith, nat_tests) in rw (t, e) (sym out)
  | inr ne ↦ let t : eqb k j ≡ false = grind (arith, nat_tests) in rw t refl
]

-- an answer that is a state comes after no refusal
pub none_met : {P : Type 0} (met : Option CoreError) (r : Result (State P) CoreError) (t : State P) → (let either : Result (State P) CoreError = elim met [ None ↦ r | Some refused ↦ Err refused ] in either ≡ Ok t) → (met ≡ None) × (r ≡ Ok t)
none_met None r t e = (refl, e)
none_met (Some refused) r t e = cc

-- a call that answers Ok met no refusal, and leads to the next state
pub accepted : {P U : Type 0} (met : Option CoreError) (lack : Type 0) (before next now : State P) (u : U) → Answers met lack before next now (Ok u) → (met ≡ None) × (now ≡ next)
accepted None lack before next now u h = (refl, h)
accepted (Some refused) lack before next now u h = absurd (ok_is_no_err u refused h.0)
  where
    ok_is_no_err : {U : Type 0} (u : U) (refused : CoreError) → ◌≡◌ {A = Result U CoreError} (Ok u) (Err refused) → ⊥
    ok_is_no_err u refused h = cc

pub replayed-cons : {P : Type 0} (m : Parts P) (e : Event) (events : List Event) (s : State P) → meets e s.branches ≡ None → replayed m (e ∷ events) s ≡ replayed m events (after m e s)
replayed-cons {P} m e events s met =
    ap (λ (met : Option CoreError). let either : Result (State P) CoreError = elim met [ None ↦ replayed m events (after m e s) | Some refused ↦ Err refused ] in either) met

-- one accepted event more
pub replayed-more : {P : Type 0} (m : Parts P) (events : List Event) (i : ℕ) (d : Event) (s : State P) → i < length events → meets (get_or events i d) s.branches ≡ None → replayed m (drop (i + 1) events) (after m (get_or events i d) s) ≡ replayed m (drop i events) s
replayed-more m events i d s h met =
    sym (ap (λ es. replayed m es s) (drop_more events i d h) ∙ replayed-cons m (get_or events i d) (drop (i + 1) events) s met)

or_more : (a b c : Bool) → c || (a || b) ≡ (a || c) || b
or_more true true true = refl
or_more true true false = refl
or_more true false true = refl
or_more true false false = refl
or_more false true true = refl
or_more false true false = refl
or_more false false true = refl
or_more false false false = refl

free_everywhere : (n k : ℕ) → branch_at (replicate n Free) k ≡ Free
free_everywhere zero k = refl
free_everywhere (suc n) zero = refl
free_everywhere (suc n) (suc k) = free_everywhere n k

or_none : (a b : Bool) → b ≡ false → a || b ≡ a
or_none true b e = refl
or_none false b e = e

module _ {P : Type 0} {Fits : P → Type 0} {m : Parts P} (laws : MergeLaws Fits m) where
  -- what a core has merged fits
  pub core-fits : (s : State P) → IsCoreOf m s → Fits s.merged
  core-fits s core = subst Fits (sym core.gathers) (gathered-fits laws (length s.branches) (λ k. is_in (branch_at s.branches k)))

  free-after_set : (s : State P) (k : ℕ) (b : Branch) (from : ℕ) → branch_at s.branches k ≢ Free → ((j : ℕ) → from ≤ j → branch_at s.branches j ≡ Free) → (j : ℕ) → from ≤ j → branch_at (set s.branches k b) j ≡ Free
  free-after_set s k b from taken free j h = elim (cases_eq j k) [
    | inl e ↦ absurd (taken (subst (λ (i : ℕ). branch_at s.branches i ≡ Free) e (free j h)))
    | inr ne ↦ get_or-set_other s.branches k j b Free ne ∙ free j h
  ]

  -- a branch that was not in still isn't
  pub marked-keeps : (s : State P) (k : ℕ) (b : Branch) → branch_at s.branches k ≢ Free → is_in (branch_at s.branches k) ≡ false → is_in b ≡ false → IsCoreOf m s → IsCoreOf m (marked k b s)
  marked-keeps s k b taken out still core =
      let within = not_free-within s.branches k taken in
      record {
        next_within = rw (length-set s.branches k b) core.next_within;
        free_from_next = free-after_set s k b s.next taken core.free_from_next;
        gathers = rw (length-set s.branches k b) (core.gathers ∙ gathered-same m (length s.branches) _ _ (λ j h.
            rw (is_in-set s.branches k b j within) (elim (cases_eq k j) [
              | inl e ↦ let t : eqb k j ≡ true = grind (arith, nat_tests) in rw (t, still) (subst (λ (i : ℕ). is_in (branch_at s.branches i) ≡ false) e out)
              | inr ne ↦ let t : eqb k j ≡ false = grind (arith, nat_tests) in rw t refl
            ])));
      }

  -- a branch that was not in is in now, and so is its part
  pub merged_in-keeps : (s : State P) (k : ℕ) (b : Branch) → branch_at s.branches k ≢ Free → is_in (branch_at s.branches k) ≡ false → is_in b ≡ true → IsCoreOf m s → IsCoreOf m (merged_in m k b s)
  merged_in-keeps s k b taken out now core =
      let within = not_free-within s.branches k taken in
      let n = length s.branches in
      record {
        next_within = rw (length-set s.branches k b) core.next_within;
        free_from_next = free-after_set s k b s.next taken core.free_from_next;
        gathers = rw (length-set s.branches k b, core.gathers) (sym (gathered-more laws n k (λ j. is_in (branch_at s.branches j)) (λ j. is_in (branch_at (set s.branches k b) j)) within out
            (ap is_in (get_or-set_same s.branches k b Free within) ∙ now)
            (λ j h ne. ap is_in (get_or-set_other s.branches k j b Free ne))));
      }

  claimed-in : (w : ℕ) (s : State P) (j : ℕ) → s.next < length s.branches → IsCoreOf m s → is_in (branch_at (set s.branches s.next (Held w)) j) ≡ is_in (branch_at s.branches j)
  claimed-in w s j within core = elim (cases_eq j s.next) [
    | inl e ↦ rw e (ap is_in (get_or-set_same s.branches s.next (Held w) Free within) ∙ sym (ap is_in (core.free_from_next s.next (omega arith))))
    | inr ne ↦ ap is_in (get_or-set_other s.branches s.next j (Held w) Free ne)
  ]

  -- a claim takes the next branch, which was free
  pub claimed-keeps : (w : ℕ) (s : State P) → IsCoreOf m s → IsCoreOf m (claimed w s)
  claimed-keeps w s core = elim (cases_Bool (ltb s.next (length s.branches))) [
    | inl t ↦
        let within : s.next < length s.branches = grind (arith, nat_tests) in
        rw t (record {
          next_within = rw (length-set s.branches s.next (Held w)) (omega arith);
          free_from_next = λ j h. get_or-set_other s.branches s.next j (Held w) Free (omega arith) ∙ core.free_from_next j (omega arith);
          gathers = rw (length-set s.branches s.next (Held w)) (core.gathers ∙ gathered-same m (length s.branches) _ _ (λ j h.
              sym (claimed-in w s j within core)));
        })
    | inr f ↦ rw f core
  ]

  pub after-keeps : (e : Event) (s : State P) → meets e s.branches ≡ None → IsCoreOf m s → IsCoreOf m (after m e s)
  after-keeps (Claim w) s met core = claimed-keeps w s core
  after-keeps (File w k) s met core = let h = held w k (branch_at s.branches k) met in merged_in-keeps s k Filed h.0 h.1 refl core
  after-keeps (Gave w k) s met core = let h = held w k (branch_at s.branches k) met in marked-keeps s k Given h.0 h.1 refl core
  after-keeps (Sweep k) s met core = let h = given k (branch_at s.branches k) met in merged_in-keeps s k Swept h.0 h.1 refl core

  pub length-after : (e : Event) (s : State P) → length (after m e s).branches ≡ length s.branches
  length-after (Claim w) s = elim (cases_Bool (ltb s.next (length s.branches))) [
    | inl t ↦ rw t (length-set s.branches s.next (Held w))
    | inr f ↦ rw f refl
  ]
  length-after (File w k) s = length-set s.branches k Filed
  length-after (Gave w k) s = length-set s.branches k Given
  length-after (Sweep k) s = length-set s.branches k Swept

  -- after an accepted event those branches are in that were, and the one that it files or sweeps
  is_in-after : (e : Event) (s : State P) → meets e s.branches ≡ None → IsCoreOf m s → (j : ℕ) → is_in (branch_at (after m e s).branches j) ≡ takes_in j e || is_in (branch_at s.branches j)
  is_in-after (Claim w) s met core j = elim (cases_Bool (ltb s.next (length s.branches))) [
    | inl t ↦
        let within : s.next < length s.branches = grind (arith, nat_tests) in
        rw t (claimed-in w s j within core)
    | inr f ↦ rw f refl
  ]
  is_in-after (File w k) s met core j =
      let h = held w k (branch_at s.branches k) met in
      is_in-set s.branches k Filed j (not_free-within s.branches k h.0) ∙ or_cond (eqb k j) (is_in (branch_at s.branches j))
  is_in-after (Gave w k) s met core j =
      let h = held w k (branch_at s.branches k) met in
      is_in-set s.branches k Given j (not_free-within s.branches k h.0) ∙ still_out s.branches k j h.1
  is_in-after (Sweep k) s met core j =
      let h = given k (branch_at s.branches k) met in
      is_in-set s.branches k Swept j (not_free-within s.branches k h.0) ∙ or_cond (eqb k j) (is_in (branch_at s.branches j))

  -- what the events lead to
  pub record Reaches (events : List Event) (s t : State P) : Type 0 where
    pub core : IsCoreOf m t
    pub count : length t.branches ≡ length s.branches
    pub those : (j : ℕ) → is_in (branch_at t.branches j) ≡ is_taken_in events j || is_in (branch_at s.branches j)

  pub reaches : (events : List Event) (s t : State P) → IsCoreOf m s → replayed m events s ≡ Ok t → Reaches events s t
  reaches [] s t core e =
      let same : s ≡ t = cc in
      subst (λ u. Reaches [] s u) same (record { core = core; count = refl; those = λ j. refl })
  reaches (e ∷ events) s t core h =
      let first = none_met (meets e s.branches) (replayed m events (after m e s)) t h in
      let rest = reaches events (after m e s) t (after-keeps e s first.0 core) first.1 in
      record {
        core = rest.core;
        count = rest.count ∙ length-after e s;
        those = λ j. rest.those j ∙ ap (λ b. is_taken_in events j || b) (is_in-after e s first.0 core j) ∙ or_more (takes_in j e) (is_in (branch_at s.branches j)) (is_taken_in events j);
      }

  pub opened-core : (n : ℕ) → IsCoreOf m (opened m n)
  opened-core n = record {
    next_within = omega arith;
    free_from_next = λ k h. free_everywhere n k;
    gathers = rw (length-replicate n Free) (sym (gathered-none n));
  }
    where
      gathered-none : (n : ℕ) → gathered m n (λ k. is_in (branch_at (replicate n Free) k)) ≡ m.none_of
      gathered-none n = gathered-same m n _ (λ k. false) (λ k h. ap is_in (free_everywhere n k)) ∙ nothing-gathered m n

  -- the branches that an accepted list files or sweeps are those that stand as filed or swept afterwards
  pub replayed-stands : (n : ℕ) (events : List Event) (t : State P) → replayed m events (opened m n) ≡ Ok t → (k : ℕ) → is_in (branch_at t.branches k) ≡ is_taken_in events k
  replayed-stands n events t e k =
      let r = reaches events (opened m n) t (opened-core n) e in
      r.those k ∙ or_none (is_taken_in events k) _ (ap is_in (free_everywhere n k))

  -- the merged part of an accepted list is that of the branches that it files or sweeps
  pub replayed-gathers : (n : ℕ) (events : List Event) (t : State P) → replayed m events (opened m n) ≡ Ok t → t.merged ≡ gathered m n (is_taken_in events)
  replayed-gathers n events t e =
      let r = reaches events (opened m n) t (opened-core n) e in
      let count : length t.branches ≡ n = r.count ∙ length-replicate n Free in
      r.core.gathers ∙ ap (λ n. gathered m n (λ k. is_in (branch_at t.branches k))) count
      ∙ gathered-same m n _ _ (λ k h. replayed-stands n events t e k)
