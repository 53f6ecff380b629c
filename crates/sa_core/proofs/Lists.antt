-- The replay of one list after another, and a claim that moves before the events of others.
use Rattle.std.proofs.Common.{◌≡◌, ◌≢◌, ℕ, zero, suc, ◌+◌, ◌||◌, Bool, true, false, List, [], ◌∷◌, ◌++◌, length, set, None, Ok, refl, sym, ap, subst, inl, inr, ◌∙◌, arith, ltb}
use Rattle.std.proofs.lemmas.Bool.{cases_Bool}
use Rattle.std.proofs.lemmas.List.{length-set, get_or-set_other}
use Rattle.sa_core.specs.declared.event.Branch.{Branch}
use Rattle.sa_core.specs.declared.event.Branch.TheVariants.{Free, Held, Filed, Given, Swept}
use Rattle.sa_core.specs.declared.event.Event.{Event}
use Rattle.sa_core.specs.declared.event.Event.TheVariants.{Claim, File, Gave, Sweep}
use Rattle.sa_core.specs.Laws.{Parts, MergeLaws}
use Rattle.sa_core.specs.Machine.{State, branch_at, holder_meets, sweep_meets, meets, marked, merged_in, claimed, after, replayed, opened}
use Rattle.sa_core.specs.Gathered.{IsCoreOf, is_claim, has_claim}
use Rattle.sa_core.proofs.Keeping.{none_met, replayed-cons, held, given, after-keeps, opened-core, reaches}

-- the second list goes on where the first one ends
pub replayed-append : {P : Type 0} (m : Parts P) (first others : List Event) (s t : State P) → replayed m first s ≡ Ok t → replayed m (first ++ others) s ≡ replayed m others t
replayed-append m [] others s t h = let same : s ≡ t = cc in ap (replayed m others) same
replayed-append m (e ∷ first) others s t h =
    let one = none_met (meets e s.branches) (replayed m first (after m e s)) t h in
    replayed-cons m e (first ++ others) s one.0 ∙ replayed-append m first others (after m e s) t one.1

-- an accepted list is accepted up to any place in it
pub parted : {P : Type 0} (m : Parts P) (first others : List Event) (s t : State P) → replayed m (first ++ others) s ≡ Ok t → (u : State P) × (replayed m first s ≡ Ok u) × (replayed m others u ≡ Ok t)
parted m [] others s t h = (s, refl, h)
parted m (e ∷ first) others s t h =
    let one = none_met (meets e s.branches) (replayed m (first ++ others) (after m e s)) t h in
    let rest = parted m first others (after m e s) t one.1 in
    (rest.0, replayed-cons m e first s one.0 ∙ rest.1, rest.2)

-- writes to two places may change their order
set-swap : (bs : List Branch) (i j : ℕ) (a b : Branch) → j ≢ i → set (set bs i a) j b ≡ set (set bs j b) i a
set-swap [] i j a b ne = refl
set-swap (x ∷ bs) zero zero a b ne = absurd (ne refl)
set-swap (x ∷ bs) zero (suc j) a b ne = refl
set-swap (x ∷ bs) (suc i) zero a b ne = refl
set-swap (x ∷ bs) (suc i) (suc j) a b ne = ap (λ l. x ∷ l) (set-swap bs i j a b (λ e. ne (ap suc e)))

or_false : (a b : Bool) → a || b ≡ false → (a ≡ false) × (b ≡ false)
or_false true b e = cc
or_false false b e = (refl, e)

module _ {P : Type 0} {m : Parts P} where
  -- what a claim and a mark at another branch leave doesn't hang on their order
  marks : (w k : ℕ) (b : Branch) (s : State P) → branch_at s.branches k ≢ Free → IsCoreOf m s → marked k b (claimed w s) ≡ claimed w (marked k b s)
  marks w k b s taken core =
      let apart : k ≢ s.next = λ e. taken (subst (λ (i : ℕ). branch_at s.branches i ≡ Free) (sym e) (core.free_from_next s.next (omega arith))) in
      let count = length-set s.branches k b in
      elim (cases_Bool (ltb s.next (length s.branches))) [
        | inl t ↦ rw (count, t) (ap (λ bs. record { next = s.next + 1; branches = bs; merged = s.merged }) (set-swap s.branches s.next k (Held w) b apart))
        | inr f ↦ rw (count, f) refl
      ]

  merges : (w k : ℕ) (b : Branch) (s : State P) → branch_at s.branches k ≢ Free → IsCoreOf m s → merged_in m k b (claimed w s) ≡ claimed w (merged_in m k b s)
  merges w k b s taken core =
      let apart : k ≢ s.next = λ e. taken (subst (λ (i : ℕ). branch_at s.branches i ≡ Free) (sym e) (core.free_from_next s.next (omega arith))) in
      let count = length-set s.branches k b in
      elim (cases_Bool (ltb s.next (length s.branches))) [
        | inl t ↦ rw (count, t) (ap (λ bs. record { next = s.next + 1; branches = bs; merged = m.merge_of s.merged (m.part_of k) }) (set-swap s.branches s.next k (Held w) b apart))
        | inr f ↦ rw (count, f) refl
      ]

  -- a branch that isn't free stands as before the claim
  pub stands : (w k : ℕ) (s : State P) → branch_at s.branches k ≢ Free → IsCoreOf m s → branch_at (claimed w s).branches k ≡ branch_at s.branches k
  stands w k s taken core =
      let apart : k ≢ s.next = λ e. taken (subst (λ (i : ℕ). branch_at s.branches i ≡ Free) (sym e) (core.free_from_next s.next (omega arith))) in
      elim (cases_Bool (ltb s.next (length s.branches))) [
        | inl t ↦ rw t (get_or-set_other s.branches s.next k (Held w) Free apart)
        | inr f ↦ rw f refl
      ]

  -- an event that is no claim meets after a claim what it met before, and the claim may follow it
  moves : (w : ℕ) (e : Event) (s : State P) → is_claim e ≡ false → meets e s.branches ≡ None → IsCoreOf m s → (meets e (claimed w s).branches ≡ None) × (after m e (claimed w s) ≡ claimed w (after m e s))
  moves w (Claim v) s none met core = cc
  moves w (File v k) s none met core = let h = held v k (branch_at s.branches k) met in (ap (holder_meets v k) (stands w k s h.0 core) ∙ met, merges w k Filed s h.0 core)
  moves w (Gave v k) s none met core = let h = held v k (branch_at s.branches k) met in (ap (holder_meets v k) (stands w k s h.0 core) ∙ met, marks w k Given s h.0 core)
  moves w (Sweep k) s none met core = let h = given k (branch_at s.branches k) met in (ap (sweep_meets k) (stands w k s h.0 core) ∙ met, merges w k Swept s h.0 core)

module _ {P : Type 0} {Fits : P → Type 0} {m : Parts P} (laws : MergeLaws Fits m) where
  -- where the events are accepted, a claim before them leaves what it leaves behind them
  pub replayed-claimed : (w : ℕ) (events : List Event) (s t : State P) → has_claim events ≡ false → IsCoreOf m s → replayed m events s ≡ Ok t → replayed m events (claimed w s) ≡ Ok (claimed w t)
  replayed-claimed w [] s t none core h = let same : s ≡ t = cc in ap (λ u. Ok (claimed w u)) same
  replayed-claimed w (e ∷ events) s t none core h =
      let no = or_false (is_claim e) (has_claim events) none in
      let one = none_met (meets e s.branches) (replayed m events (after m e s)) t h in
      let moved = moves w e s no.0 one.0 core in
      replayed-cons m e events (claimed w s) moved.0 ∙ ap (replayed m events) moved.1
      ∙ replayed-claimed w events (after m e s) t no.1 (after-keeps laws e s one.0 core) one.1

  -- the same where the claim comes behind a first list
  pub claims-first : (n w : ℕ) (first others : List Event) (t : State P) → replayed m (first ++ others) (opened m n) ≡ Ok t → has_claim others ≡ false → replayed m ((first ++ Claim w ∷ []) ++ others) (opened m n) ≡ Ok (claimed w t)
  claims-first n w first others t h none =
      let cut = parted m first others (opened m n) t h in
      let core = (reaches laws first (opened m n) cut.0 (opened-core laws n) cut.1).core in
      replayed-append m (first ++ Claim w ∷ []) others (opened m n) (claimed w cut.0) (replayed-append m first (Claim w ∷ []) (opened m n) cut.0 cut.1)
      ∙ replayed-claimed w others cut.0 t none core cut.2

-- a filing that is accepted may stand as a giving back
pub given-up : {P : Type 0} (m : Parts P) (n w k : ℕ) (first : List Event) (t : State P) → replayed m first (opened m n) ≡ Ok t → meets (File w k) t.branches ≡ None → replayed m (first ++ Gave w k ∷ []) (opened m n) ≡ Ok (marked k Given t)
given-up m n w k first t h met =
    replayed-append m first (Gave w k ∷ []) (opened m n) t h ∙ replayed-cons m (Gave w k) [] t met
