-- Widening: that its entries are those of a matrix, and which points lie in what it gives.
use Rattle.std.proofs.Common.{◌≡◌, ◌≢◌, ℕ, ◌*◌, ◌^◌, ◌<◌, ◌≤◌, ◌==◌, Bool, true, false, cond, ℤ, pos, ◌-ℤ◌, unsigned_abs, List, length, Some, None, ◌⊎◌, inl, inr, ap, ap₂, sym, subst, subst₂, refl, ◌∙◌, arith}
use Rattle.std.proofs.lemmas.Int.{ints}
use Rattle.std.proofs.lemmas.Bool.{cases_eq, ne_eqb}
use Rattle.std.proofs.lemmas.Option.{same_Some}
use Rattle.sa_interval.specs.Span.{Span}
use Rattle.sa_dbm.specs.Bounds.{Bound, at_most, AtMost}
use Rattle.sa_dbm.specs.Tables.{Table, nodes, bar, entry, table, IsMatrix, IsWithin}
use Rattle.sa_dbm.specs.Points.{Point, value, LiesIn}
use Rattle.sa_dbm.proofs.BoundLaws.{at_most_trans}
use Rattle.sa_dbm.proofs.TableLaws.{bar_below, bar_bar, entry-table, vars-table, table_is}
use Rattle.sa_octagon.specs.Packs.{Packed, IsPack, AreSmall, reach_between, top_of, widened}
use Rattle.sa_octagon.specs.Filled.{at_place, AreEntries, IsFilled, HoldsEntries, widened_entry}
use Rattle.sa_octagon.proofs.Filling.{filled_entry}
use Rattle.sa_octagon.proofs.Tops.{span_entries, between_size}

-- a test that holds is a fact
at_most_fact : (a b : Bound) → at_most a b ≡ true → AtMost a b
at_most_fact a None e = tt
at_most_fact None (Some y) e = absurd (cc)
at_most_fact (Some x) (Some y) e = grind (arith, ints)

module _ (t new : Table) (spans : List Span) (h : IsMatrix t) (k : IsMatrix new) (same : new.vars ≡ t.vars) (size : t.vars ≡ length spans) (small : AreSmall spans) where
  in_table : (i : ℕ) → i < 2 * length spans → i < nodes t
  in_table i p = rw size p

  in_new : (i : ℕ) → i < 2 * length spans → i < nodes new
  in_new i p = rw (same ∙ size) p

  pub widened_fits : IsWithin (2 ^ 70) t → AreEntries (2 * length spans) (widened_entry t new spans)
  unfolding widened_entry
  widened_fits within = record {
    twins = λ i j p q n.
        let a = k.twins i j (in_new i p) (in_new j q) in
        let b = h.twins i j (in_table i p) (in_table j q) in
        let c = (span_entries spans small).twins i j p q n in
        ap₂ (λ x y. cond (at_most x y) y (reach_between spans i j)) a b ∙ ap (λ z. cond (at_most (entry new (bar j) (bar i)) (entry t (bar j) (bar i))) (entry t (bar j) (bar i)) z) c;
    sizes = λ i j z p q n e. either (at_most (entry new i j) (entry t i j)) i j z p q n e;
  }
    where
      either : (b : Bool) (i j : ℕ) (z : ℤ) → i < 2 * length spans → j < 2 * length spans → i ≢ j → cond b (entry t i j) (reach_between spans i j) ≡ Some z → unsigned_abs z ≤ 2 ^ 100
      either true i j z p q n e = let s = within i j z (in_table i p) (in_table j q) e in omega arith
      either false i j z p q n e = (span_entries spans small).sizes i j z p q n e

  top_entry : (i j : ℕ) → i < nodes t → j < nodes t → i ≢ j → entry (top_of spans) i j ≡ reach_between spans i j
  unfolding top_of
  top_entry i j p q n =
      entry-table (length spans) (λ i j. cond (i == j) (Some (pos 0)) (reach_between spans i j)) i j (rw size at p) (rw size at q)
      ∙ ap (λ b. cond b (Some (pos 0)) (reach_between spans i j)) (ne_eqb i j n)

  entry_after : ℕ → ℕ → Bound
  entry_after i j = cond (at_most (entry new i j) (entry t i j)) (entry t i j) (entry (top_of spans) i j)

  pub widened_is : (few : length spans ≤ 8) (m : Table) (entries : List Bound) → HoldsEntries (2 * length spans) (widened_entry t new spans) 256 entries
      → AreEntries (2 * length spans) (at_place entries) → IsFilled (2 * length spans) (at_place entries) 256 m → m ≡ widened t new spans
  unfolding widened entry_after widened_entry
  widened_is few m entries holds fit f =
      table_is m entry_after f.matrix.whole at ∙ ap (λ v. table v entry_after) vars
    where
      vars : m.vars ≡ t.vars
      vars = let s = f.size in omega arith

      at : (i j : ℕ) → i < nodes m → j < nodes m → entry m i j ≡ entry_after i j
      at i j p q =
          let p' = rw f.size at p in
          let q' = rw f.size at q in
          elim (cases_eq i j) [
            | inl e ↦
                subst (λ l. entry m i l ≡ entry_after i l) e
                (f.matrix.diagonal i p
                ∙ sym (ap₂ (λ x y. cond (at_most x y) y (entry (top_of spans) i i)) (k.diagonal i (in_new i p')) (h.diagonal i (in_table i p'))))
            | inr n ↦
                filled_entry (2 * length spans) (at_place entries) (omega arith) fit m f i j p' q' n
                ∙ holds i j p' q' n (omega arith)
                ∙ ap (λ z. cond (at_most (entry new i j) (entry t i j)) (entry t i j) z) (sym (top_entry i j (in_table i p') (in_table j q') n))
          ]

  pub widened_points : (p : Point) → LiesIn p (top_of spans) → LiesIn p t ⊎ LiesIn p new → LiesIn p (widened t new spans)
  unfolding widened entry_after top_of
  widened_points p top either = λ i j a b.
      let a' : i < nodes t = rw vars-table at a in
      let b' : j < nodes t = rw vars-table at b in
      subst (AtMost (Some (value p j -ℤ value p i))) (sym (entry-table t.vars entry_after i j a' b')) (at i j a' b' (at_most (entry new i j) (entry t i j)) refl either)
    where
      at : (i j : ℕ) → i < nodes t → j < nodes t → (b : Bool) → at_most (entry new i j) (entry t i j) ≡ b → LiesIn p t ⊎ LiesIn p new
          → AtMost (Some (value p j -ℤ value p i)) (cond b (entry t i j) (entry (top_of spans) i j))
      at i j a b true e (inl l) = l i j a b
      at i j a b true e (inr l) =
          at_most_trans (Some (value p j -ℤ value p i)) (entry new i j) (entry t i j) (l i j (rw same a) (rw same b)) (at_most_fact (entry new i j) (entry t i j) e)
      at i j a b false e l = top i j (rw (vars-table, ← size) a) (rw (vars-table, ← size) b)

  pub widened_within : (limit : ℕ) → 2 ^ 65 ≤ limit → IsWithin limit t → IsWithin limit (widened t new spans)
  unfolding widened entry_after reach_between
  widened_within limit least within = λ i j z a b e.
      let a' : i < nodes t = rw vars-table at a in
      let b' : j < nodes t = rw vars-table at b in
      at i j z a' b' (at_most (entry new i j) (entry t i j)) refl (sym (entry-table t.vars entry_after i j a' b') ∙ e)
    where
      at : (i j : ℕ) (z : ℤ) → i < nodes t → j < nodes t → (b : Bool) → at_most (entry new i j) (entry t i j) ≡ b → cond b (entry t i j) (entry (top_of spans) i j) ≡ Some z → unsigned_abs z ≤ limit
      at i j z a b true e f = within i j z a b f
      at i j z a b false e f = elim (cases_eq i j) [
        | inl s ↦ absurd (flat i j s a e)
        | inr n ↦
            (let size' = between_size spans i j small (rw size at a) (rw size at b) in
            subst (λ x. unsigned_abs x ≤ limit) (same_Some _ z (sym (top_entry i j a b n) ∙ f)) (omega arith))
      ]
        where
          flat : (i j : ℕ) → i ≡ j → i < nodes t → at_most (entry new i j) (entry t i j) ≡ false → ⊥
          flat i j s a e =
              let zero = ap₂ at_most (k.diagonal i (rw same a)) (h.diagonal i a) in
              let other = subst (λ l. at_most (entry new i l) (entry t i l) ≡ false) (sym s) e in
              never (sym zero ∙ other)
            where
              never : true ≡ false → ⊥
              never e = (cc)

-- a list that holds such entries has them
pub entries_fit : (n : ℕ) (f : ℕ → ℕ → Bound) (entries : List Bound) → n ≤ 16 → (v : ℕ) → n ≡ 2 * v → HoldsEntries n f 256 entries → AreEntries n f → AreEntries n (at_place entries)
entries_fit n f entries few v even holds fit = record {
  twins = λ i j p q d.
      let p' = below i p in
      let q' = below j q in
      holds i j p q d (omega arith) ∙ fit.twins i j p q d ∙ sym (holds (bar j) (bar i) q' p' (λ e. d (sym (bar_bar i) ∙ ap bar (sym e) ∙ bar_bar j)) (omega arith));
  sizes = λ i j z p q d e. fit.sizes i j z p q d (sym (holds i j p q d (omega arith)) ∙ e);
}
  where
    below : (i : ℕ) → i < n → bar i < n
    below i p = rw even (bar_below i v (rw even at p))

-- ---- widening of packs

module _ (q r p s : Packed) (spans : List Span) (entries : List Bound) (count : ℕ) (hq : IsPack q) (hr : IsPack r) (eq : q ≡ p) (er : r ≡ s) (cells : p.cells ≡ s.cells) (read : spans ≡ q.spans)
    (mq : IsMatrix q.table) (mr : IsMatrix r.table) (within : IsWithin (2 ^ 70) p.table) (holds : HoldsEntries (2 * length spans) (widened_entry q.table r.table spans) 256 entries)
    (counted : count ≡ 2 * length q.cells) where
  is_pack : IsPack p
  is_pack = subst IsPack eq hq

  same_vars : s.table.vars ≡ p.table.vars
  same_vars = (subst IsPack er hr).vars ∙ sym (ap length cells) ∙ sym is_pack.vars

  own_size : p.table.vars ≡ length p.spans
  own_size = is_pack.vars ∙ sym is_pack.spans

  first : IsMatrix p.table
  first = subst (λ (k : Packed). IsMatrix k.table) eq mq

  second : IsMatrix s.table
  second = subst (λ (k : Packed). IsMatrix k.table) er mr

  few : length p.spans ≤ 8
  few = let a = is_pack.spans in let b = is_pack.few in omega arith

  count_is : count ≡ 2 * length p.spans
  count_is = counted ∙ ap (λ (k : Packed). 2 * length k.cells) eq ∙ ap (λ n. 2 * n) (sym is_pack.spans)

  now_holds : HoldsEntries (2 * length p.spans) (widened_entry p.table s.table p.spans) 256 entries
  now_holds =
      subst₂ (λ n f. HoldsEntries n f 256 entries) (ap (λ l. 2 * length l) read ∙ ap (λ (k : Packed). 2 * length k.spans) eq)
      (ap (widened_entry q.table r.table) read ∙ ap₂ (λ (a b : Packed). widened_entry a.table b.table a.spans) eq er) holds

  now_fits : AreEntries (2 * length p.spans) (at_place entries)
  now_fits =
      entries_fit (2 * length p.spans) (widened_entry p.table s.table p.spans) entries (let f = few in omega arith) (length p.spans) refl now_holds
      (widened_fits p.table s.table p.spans first second same_vars own_size is_pack.small within)

  pub pack_fits : AreEntries count (at_place entries)
  pack_fits = subst (λ n. AreEntries n (at_place entries)) (sym count_is) now_fits

  pub pack_widened : (m : Table) → IsFilled count (at_place entries) 256 m → m ≡ widened p.table s.table p.spans
  pack_widened m f =
      widened_is p.table s.table p.spans first second same_vars own_size is_pack.small few m entries now_holds now_fits (subst (λ n. IsFilled n (at_place entries) 256 m) count_is f)

  pub pack_points : (x : Point) → LiesIn x (top_of p.spans) → LiesIn x p.table ⊎ LiesIn x s.table → LiesIn x (widened p.table s.table p.spans)
  pack_points = widened_points p.table s.table p.spans first second same_vars own_size is_pack.small

  pub pack_within : (limit : ℕ) → 2 ^ 65 ≤ limit → IsWithin limit p.table → IsWithin limit (widened p.table s.table p.spans)
  pack_within = widened_within p.table s.table p.spans first second same_vars own_size is_pack.small
