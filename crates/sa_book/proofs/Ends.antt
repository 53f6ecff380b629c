-- A board as it is opened meets the rule, and what a closed one leaves follows from the rule.
use Rattle.std.proofs.Common.{◌≡◌, ◌≢◌, ◌⊎◌, ℕ, zero, suc, ◌+◌, ◌-◌, ◌<◌, ◌≤◌, ◌||◌, List, [], ◌∷◌, ◌++◌, map, length, set, Bool, true, false, cond, Option, Some, None, Result, Ok, refl, sym, ap, ◌∙◌, subst, inl, inr, arith, slice_index, replicate}
use Rattle.std.specs.Prelude.{nat_lt, nat_le, if◌then◌else◌, ◌==◌, ◌&&◌}
use Rattle.std.specs.Vec.{vec_capacity}
use Rattle.std.proofs.lemmas.Bool.{cases_Bool, cases_lt}
use Rattle.std.proofs.lemmas.Bool.Decides.{nat_tests}
use mathlib.Core.Option.{Option as Home, some, none, some-injective, some-ne-none}
use lib.ListN.{get_elem?}
use Rattle.atomic_table.specs.Table.{State as Table, opening, Final, Seen}
use Rattle.sa_core.specs.declared.event.Event.{Event}
use Rattle.sa_core.specs.declared.event.Event.TheVariants.{Claim}
use Rattle.sa_core.specs.Laws.{Parts, MergeLaws}
use Rattle.sa_core.specs.Machine.{State, opened, replayed}
use Rattle.sa_core.specs.Gathered.{gathered, is_taken_in, has_claim}
use Rattle.sa_core.proofs.Gathering.{gathered-same}
use Rattle.sa_core.proofs.Keeping.{replayed-gathers}
use Rattle.sa_book.specs.declared.view.Terms.{Terms}
use Rattle.sa_book.specs.declared.view.Pages.{Pages}
use Rattle.sa_book.specs.declared.view.Slip.{Slip}
use Rattle.sa_book.specs.declared.view.View.{View}
use Rattle.sa_book.specs.Counts.{total, same, times, times_in, count_in, once_below, once_between, Each}
use Rattle.sa_book.specs.Rule.{Holds, Seats, Branches, Tickets, Written, IsLive, IsSpent, IsPlaced, IsOwner, IsAtWork, numbers, uses, claims, overs, by_seat, events_of, seat_of, branch_of}
use Rattle.sa_book.specs.Steps.{first_view, IsAtRest}
use Rattle.sa_book.specs.Closing.{HasAll, IsBookOf}
use Rattle.sa_book.proofs.Counting.{total_at, total_two, total_zero}
use Rattle.sa_book.proofs.Claiming.{live}
use Rattle.sa_book.proofs.Alone.{same_self, below_once, decide, zero_or_more, nothing_by, no_own, none_of_seat, one_has}
use Rattle.sa_book.proofs.Waiting.{total_plus, total_one}

each_one : {A : Type 0} (Q : A → Type 0) (x : A) → Q x → Each Q (x ∷ [])
each_one Q x q zero y at = subst Q (some-injective x y at) q
each_one Q x q (suc j) y at = absurd (some-ne-none y (sym at))

each_none : {A : Type 0} (Q : A → Type 0) → Each Q []
each_none Q j y at = absurd (some-ne-none y (sym at))

first_numbers : (x n : ℕ) → 1 ≤ n → ((same x 0 + 0) + once_between x (n - (n - 1)) n) + 0 ≡ once_below x n
first_numbers x n some_seat = grind (arith, nat_tests)

none_below : (x : ℕ) → 0 ≡ once_below x 0
none_below x = grind (arith, nat_tests)

none_between : (x : ℕ) → 0 ≡ once_between x 0 0
none_between x = grind (arith, nat_tests)

-- the claims take no branch in
claims_take_none : (owners : List ℕ) (history : List Event) (k : ℕ) → is_taken_in (map Claim owners ++ history) k ≡ is_taken_in history k
claims_take_none [] history k = refl
claims_take_none (w ∷ owners) history k = claims_take_none owners history k

module _ {W P : Type 0} where
  pub opening_holds : (m : Parts P) (terms : Terms W) (pages : Pages P) → 1 ≤ terms.seats → terms.seats ≤ 64 → terms.job.branches ≤ 1025 → pages.history.items ≡ [] → pages.merged ≡ m.none_of → terms.job.branches ≤ vec_capacity pages.history
      → Holds m terms (opening (0 ∷ 0 ∷ 0 ∷ []) (Some pages ∷ []) (first_view terms))
  opening_holds m terms pages some_seat few_seats few_branches empty merged room =
      let v : View W P = first_view terms in
      record {
        words = refl;
        seats = record {
          each = λ x. first_numbers x terms.seats some_seat;
          sum = omega (arith, some_seat);
          fits = each_one (λ u. IsLive terms u ⊎ IsSpent u) v (inl (record {
            of_board = refl;
            spares = omega arith;
            seat = omega (arith, same_self 0);
            over = each_none (λ w. 0 < times w v.gathered);
            over_few = omega arith;
            entries = each_none (λ (e : Slip). 0 < times (seat_of e.event) v.gathered);
          }));
          few = few_seats;
        };
        branches = record { word = refl; most = omega arith; done = λ some_over. absurd (omega (arith, some_over)); each = λ k. none_below k; few = few_branches };
        tickets = record { waits = refl; each = λ x. none_between x; held = each_one (λ (u : View W P). count_in u.ticket ≤ count_in u.held) v (omega arith) };
        book = (
          pages,
          [],
          opened m terms.job.branches,
          record {
            served = sym (ap length empty);
            weighed = λ f. ap (total f) empty;
            tickets = λ x. none_below x;
            placed = each_one (IsPlaced pages.history.items) v (record { place = each_none (λ (e : Slip). get_elem? pages.history.items e.ticket ≡ some e.event); rising = λ w. tt; own = λ w some_there. ap (by_seat w) empty });
            quiet = λ none_seen. refl;
            at_work = each_one (IsAtWork (some (Some pages) ∷ []) 0 pages) v (λ seen e. absurd (no_pages seen e));
            owned = refl;
            owner = each_one (IsOwner [] (opened m terms.job.branches)) v (record { holds = λ k e. absurd (no_number k e); filed = each_none (λ (e : Slip). get_elem? [] (branch_of e.event) ≡ some (seat_of e.event)); stands = λ k e. absurd (no_number k e) });
            filings = ap has_claim empty;
            accepted = ap (λ es. replayed m es (opened m terms.job.branches)) empty;
            merged = merged;
            next = refl;
            room = room;
          },
        );
      }
    where
      no_pages : (seen : Pages P) → ◌≡◌ {A = Option (Pages P)} None (Some seen) → ⊥
      no_pages seen e = cc

      no_number : (n : ℕ) → ◌≡◌ {A = Option ℕ} None (Some n) → ⊥
      no_number n e = cc

  -- every other pass is spent
  others_spent : (terms : Terms W) (vs : List (View W P)) (i : ℕ) (v : View W P) → Seats terms vs → get_elem? vs i ≡ some v → HasAll terms.seats v → (j : ℕ) (u : View W P) → get_elem? vs j ≡ some u → j ≢ i → IsSpent u
  others_spent terms vs i v h at all j u at_u ne = or_spent (h.fits j u at_u)
    where
      or_spent : IsLive terms u ⊎ IsSpent u → IsSpent u
      or_spent (inr s) = s
      or_spent (inl l) = absurd (omega (arith, total_two (λ (z : View W P). length z.gathered + z.spares) vs i j v u (λ e. ne (sym e)) at at_u, h.sum, all, some_there u.seat u.gathered l.seat))
        where
          some_there : (x : ℕ) (xs : List ℕ) → 0 < times x xs → 1 ≤ length xs
          some_there x [] had = absurd (omega (arith, had))
          some_there x (y ∷ ys) some_more = omega arith

  -- what holds of a pass that holds no branch and of a spent one holds of every pass
  each_other : (Q : View W P → Type 0) (terms : Terms W) (vs : List (View W P)) (i : ℕ) (v : View W P) → Seats terms vs → get_elem? vs i ≡ some v → HasAll terms.seats v → Q v → ((u : View W P) → IsSpent u → Q u) → Each Q vs
  each_other Q terms vs i v h at all mine spent j u at_u = decide j i
      (λ e. subst Q (sym (some-injective u v (sym at_u ∙ ap (get_elem? vs) e ∙ at))) mine)
      (λ ne. spent u (others_spent terms vs i v h at all j u at_u ne))

  -- without claims in hand, a claim is an entry
  claims_filed : (terms : Terms W) (vs : List (View W P)) → Each (λ v. v.held ≡ None) vs → claims vs ≡ total (λ v. length v.entries) vs
  claims_filed terms vs free = omega (arith, total_plus (λ (v : View W P). count_in v.held) (λ v. length v.entries) vs, total_zero (λ (v : View W P). count_in v.held) vs (λ j u at. ap count_in (free j u at)))

  uses_filed : (k : ℕ) (vs : List (View W P)) → Each (λ v. v.held ≡ None) vs → total (uses k) vs ≡ total (λ v. total (λ e. same k (branch_of e.event)) v.entries) vs
  uses_filed k vs free = omega (arith, total_plus (λ (v : View W P). times_in k v.held) (λ v. total (λ e. same k (branch_of e.event)) v.entries) vs, total_zero (λ (v : View W P). times_in k v.held) vs (λ j u at. ap (times_in k) (free j u at)))

  -- the entries of all passes are as many as the events
  entries_one : (vs : List (View W P)) → total (λ v. length v.entries) vs ≡ total (λ v. total (λ (e : Slip). 1) v.entries) vs
  entries_one [] = refl
  entries_one (v ∷ vs) = omega (arith, total_one v.entries, entries_one vs)

  module _ {Fits : P → Type 0} {m : Parts P} (laws : MergeLaws Fits m) where
    pub closes : (terms : Terms W) (s : Table (Option (Pages P)) (View W P)) (i : ℕ) (v : View W P) → Holds m terms s → get_elem? s.views i ≡ some v → v.terms ≡ Some terms → v.held ≡ None → v.seen ≡ None → HasAll terms.seats v
        → (pages : Pages P) × (s.homes ≡ some (Some pages) ∷ []) × IsBookOf m terms v pages.history.items pages.merged
    closes terms s i v h at of_board free unseen all =
        let vs = s.views in
        let k = h.book.3 in
        let pages = h.book.0 in
        let history = pages.history.items in
        let owners = h.book.1 in
        let b = terms.job.branches in
        let none_held : Each (λ (u : View W P). u.held ≡ None) vs = each_other (λ (u : View W P). u.held ≡ None) terms vs i v h.seats at all free (λ u z. z.held) in
        let none_seen : Each (λ (u : View W P). u.seen ≡ None) vs = each_other (λ (u : View W P). u.seen ≡ None) terms vs i v h.seats at all unseen (λ u z. z.seen) in
        let count : claims vs ≡ length history = claims_filed terms vs none_held ∙ entries_one vs ∙ sym (k.weighed (λ e. 1)) ∙ total_one history in
        let l = h.seats.fits i v at in (
          pages,
          k.quiet none_seen,
          record {
            own = λ w. elim (zero_or_more (times w v.gathered)) [
              | inl e ↦
                  let nobody : Each (λ (u : View W P). times w u.gathered ≡ 0) vs = each_other (λ (u : View W P). times w u.gathered ≡ 0) terms vs i v h.seats at all e (λ u z. ap (times w) z.gathered) in
                  nothing_by terms w history vs h.seats.fits nobody (k.weighed (λ e. same w (seat_of e))) ∙ sym (no_own w v.entries (none_of_seat terms w v l e))
              | inr some_there ↦ (k.placed i v at).own w some_there
            ];
            once = λ n. k.weighed (λ e. same n (branch_of e)) ∙ sym (uses_filed n vs none_held) ∙ h.branches.each n ∙ ap (once_below n) count;
            merged_is = k.merged ∙ replayed-gathers laws b (map Claim owners ++ history) h.book.2 k.accepted ∙ gathered-same m b (is_taken_in (map Claim owners ++ history)) (is_taken_in history) (λ n lt. claims_take_none owners history n);
            all_drawn = λ some_over. sym count ∙ h.branches.done (omega (arith, some_over, total_at (λ (u : View W P). length u.over) vs i v at));
          },
        )

    -- the same of the table after it was closed
    pub closed_slot : (terms : Terms W) (i number spares : ℕ) (v : View W P) (slot : List (ℕ × Option (Pages P))) (words : List ℕ) (slots : List (Option (Pages P))) → Final (Seen (Holds m terms) i v) words slots → IsAtRest terms number spares (v, slot) → v.held ≡ None → HasAll terms.seats v
        → (pages : Pages P) × (get_elem? slots 0 ≡ some (Some pages)) × IsBookOf m terms v pages.history.items pages.merged
    closed_slot terms i number spares v slot words slots final rest free all =
        let k = closes terms final.0 i v final.1.0 final.1.1 rest.of_board free rest.seen all in
        (k.0, final.4 0 (Some k.0) (ap (λ hs. get_elem? hs 0) k.1), k.2)
