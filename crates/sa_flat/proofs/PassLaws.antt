-- The passes over any domain that owes its laws: they keep what lies under the top, end within 32, and their state is
-- closed under one more turn.
use Rattle.std.proofs.Common.{◌≡◌, ℕ, zero, suc, ◌+◌, ◌≤◌, true, false, refl, sym, subst, arith, Option, Some, None}
use Rattle.std.specs.Prelude.{if◌then◌else◌, nat_le}
use Rattle.std.proofs.lemmas.Bool.Decides.{nat_tests}
use Rattle.sa_flat.specs.Domain.{Domain}
use Rattle.sa_flat.specs.Meanings.{Cells}
use Rattle.sa_flat.specs.Passes.{Facts, alive_then, rested, joined, next, turned, passes_from, facts_of}
use Rattle.sa_flat.proofs.Lawful.{Lawful, Frame, AliveAnd}
use Rattle.sa_flat.proofs.Goods.{if_keeps, alive_keeps, Good, GoodIf, good_if, merge_good, Stable}

module _ (x : Cells) (D : Domain) (L : Lawful x D) where
  -- what a turn owes
  abbrev pub Keeps : Frame → (D.Env → Option D.Env) → Type 0
  Keeps f turn = (e : D.Env) → Good x D L f e → GoodIf x D L f (turn e)

  -- the iterate before pass p: the first ones are closed
  pub record Iterate (f : Frame) (p : ℕ) (i : D.Env) : Type 0 where
    pub under : L.Under f i
    pub closed : nat_le p 4 ≡ true → L.Closed i

  rested_keeps : (f : Frame) (p : ℕ) (i : D.Env) → Iterate f p i → GoodIf x D L f (rested D x.all p i)
  rested_keeps f p i h =
      elim (nat_le p 4) as (λ b. nat_le p 4 ≡ b → GoodIf x D L f (if b then Some i else D.reduce x.all i)) [
        | true ↦ λ e. record { under = h.under; closed = h.closed e }
        | false ↦ λ e. good_if x D L f (D.reduce x.all i) (L.reduce_keeps f i h.under)
      ] refl

  joined_good : (f : Frame) (s : D.Env) (o : Option D.Env) → Good x D L f s → GoodIf x D L f o → Good x D L f (joined D x.all s o)
  joined_good f s None h k = h
  joined_good f s (Some e) h k = merge_good x D L f s e h k

  turned_good : (f : Frame) (turn : D.Env → Option D.Env) (s : D.Env) (p : ℕ) (i : D.Env) → Keeps f turn → Good x D L f s → Iterate f p i → Good x D L f (turned D x.all turn s p i)
  turned_good f turn s p i t h k =
      joined_good f s (alive_then (rested D x.all p i) turn) h (alive_keeps (Good x D L f) (Good x D L f) (rested D x.all p i) turn (rested_keeps f p i k) t)

  early : (p : ℕ) → nat_le p 3 ≡ true → nat_le p 4 ≡ true
  early p h = grind (arith, nat_tests)

  late : (p : ℕ) → nat_le p 3 ≡ false → nat_le (p + 1) 4 ≡ true → ⊥
  late p h k = grind (arith, nat_tests)

  next_keeps : (f : Frame) (peak : D.Env) (p : ℕ) (i j : D.Env) → Good x D L f peak → Iterate f p i → Good x D L f j → Iterate f (p + 1) (next D x.all peak p i j)
  next_keeps f peak p i j t h k =
      elim (nat_le p 3) as (λ b. nat_le p 3 ≡ b → Iterate f (p + 1) (if b then D.merge i j else (if nat_le p 30 then D.widen p i j else peak))) [
        | true ↦ λ e.
            let g : Good x D L f i = record { under = h.under; closed = h.closed (early p e) } in
            let m = merge_good x D L f i j g k in
            record { under = m.under; closed = λ _. m.closed }
        | false ↦ λ e. record {
          under = if_keeps (λ (e : D.Env). L.Under f e) (nat_le p 30) (D.widen p i j) peak (L.widen_keeps f p i j h.under k.under) t.under;
          closed = λ l. absurd (late p e l);
        }
      ] refl

  passes_keep : (f : Frame) (turn : D.Env → Option D.Env) (peak s : D.Env) → Keeps f turn → Good x D L f peak → Good x D L f s → (left p : ℕ) (i : D.Env) → Iterate f p i →
      GoodIf x D L f (passes_from D x.all turn peak s left p i).state
  unfolding passes_from
  passes_keep f turn peak s t k h zero p i u = rested_keeps f p i u
  passes_keep f turn peak s t k h (suc left) p i u =
      if_keeps (λ (r : Facts D.Env). GoodIf x D L f r.state) (D.le (turned D x.all turn s p i) i) _ _ (rested_keeps f p i u)
      (passes_keep f turn peak s t k h left (p + 1) (next D x.all peak p i (turned D x.all turn s p i)) (next_keeps f peak p i _ k u (turned_good f turn s p i t h u)))

  entry : (f : Frame) (s : D.Env) → Good x D L f s → Iterate f 1 s
  entry f s h = record { under = h.under; closed = λ _. h.closed }

  pub facts_keep : (f : Frame) (turn : D.Env → Option D.Env) (peak s : D.Env) → Keeps f turn → Good x D L f peak → Good x D L f s → GoodIf x D L f (facts_of D x.all turn peak s).state
  unfolding facts_of
  facts_keep f turn peak s t k h = passes_keep f turn peak s t k h 31 1 s (entry f s h)

  -- the entry is inside the state, and one more turn leads into it
  pub record Holding (turn : D.Env → Option D.Env) (s : D.Env) (state : Option D.Env) : Type 1 where
    pub enters : (P : D.Env → Type 0) → Stable x D L P → P s → AliveAnd P state
    pub returns : (P : D.Env → Type 0) → Stable x D L P → AliveAnd P (alive_then state turn) → AliveAnd P state

  rested_holds : (P : D.Env → Type 0) → Stable x D L P → (f : Frame) (p : ℕ) (i : D.Env) → L.Under f i → P i → AliveAnd P (rested D x.all p i)
  rested_holds P st f p i u h = if_keeps (AliveAnd P) (nat_le p 4) (Some i) (D.reduce x.all i) h (st.reduced f i u h)

  joined_left : (P : D.Env → Type 0) → Stable x D L P → (f : Frame) (s : D.Env) (o : Option D.Env) → Good x D L f s → GoodIf x D L f o → P s → P (joined D x.all s o)
  joined_left P st f s None u v h = h
  joined_left P st f s (Some e) u v h = st.left f s e u v h

  joined_right : (P : D.Env → Type 0) → Stable x D L P → (f : Frame) (s : D.Env) (o : Option D.Env) → Good x D L f s → GoodIf x D L f o → AliveAnd P o → P (joined D x.all s o)
  joined_right P st f s None u v h = absurd h
  joined_right P st f s (Some e) u v h = st.right f s e u v h

  stable_holds : (f : Frame) (turn : D.Env → Option D.Env) (s : D.Env) (p : ℕ) (i : D.Env) → Keeps f turn → Good x D L f s → Iterate f p i → D.le (turned D x.all turn s p i) i ≡ true →
      Holding turn s (rested D x.all p i)
  stable_holds f turn s p i t h u le =
      let v : GoodIf x D L f (alive_then (rested D x.all p i) turn) = alive_keeps (Good x D L f) (Good x D L f) (rested D x.all p i) turn (rested_keeps f p i u) t in
      let j = turned_good f turn s p i t h u in
      record {
        enters = λ P st k. rested_holds P st f p i u.under (st.below f _ i j.under u.under le (joined_left P st f s _ h v k));
        returns = λ P st k. rested_holds P st f p i u.under (st.below f _ i j.under u.under le (joined_right P st f s _ h v k));
      }

  pub record Ends (turn : D.Env → Option D.Env) (s : D.Env) (r : Facts D.Env) : Type 1 where
    pub short : r.passes ≤ 32
    pub holding : Holding turn s r.state

  passes_end : (f : Frame) (turn : D.Env → Option D.Env) (peak s : D.Env) → Keeps f turn → Good x D L f peak → Good x D L f s → ((e : D.Env) → L.Under f e → D.le e peak ≡ true) →
      (left p : ℕ) (i : D.Env) → left + p ≡ 32 → Iterate f p i → (left ≡ 0 → i ≡ peak) → Ends turn s (passes_from D x.all turn peak s left p i)
  unfolding passes_from
  passes_end f turn peak s t k h below zero p i e u last = record {
    short = omega arith;
    holding = stable_holds f turn s p i t h u (subst (λ (y : D.Env). D.le (turned D x.all turn s p i) y ≡ true) (sym (last refl)) (below _ (turned_good f turn s p i t h u).under));
  }
  passes_end f turn peak s t k h below (suc left) p i e u last =
      elim (D.le (turned D x.all turn s p i) i) as (λ b. D.le (turned D x.all turn s p i) i ≡ b →
      Ends turn s (if b then record { passes = p; state = rested D x.all p i } else passes_from D x.all turn peak s left (p + 1) (next D x.all peak p i (turned D x.all turn s p i)))) [
        | true ↦ λ le. record { short = omega arith; holding = stable_holds f turn s p i t h u le }
        | false ↦ λ _. passes_end f turn peak s t k h below left (p + 1) (next D x.all peak p i (turned D x.all turn s p i)) (omega arith)
            (next_keeps f peak p i _ k u (turned_good f turn s p i t h u))
            (λ z. let at : p ≡ 31 = omega arith in subst (λ (q : ℕ). next D x.all peak q i (turned D x.all turn s p i) ≡ peak) (sym at) refl)
      ] refl

  pub facts_end : (f : Frame) (turn : D.Env → Option D.Env) (peak s : D.Env) → Keeps f turn → Good x D L f peak → Good x D L f s → ((e : D.Env) → L.Under f e → D.le e peak ≡ true) →
      Ends turn s (facts_of D x.all turn peak s)
  unfolding facts_of
  facts_end f turn peak s t k h below = passes_end f turn peak s t k h below 31 1 s refl (entry f s h) (λ z. absurd (omega (arith, z)))
