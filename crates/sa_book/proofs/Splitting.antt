-- A split keeps the board rule.
use Rattle.std.proofs.Common.{◌≡◌, ◌≢◌, ◌⊎◌, ℕ, zero, suc, ◌+◌, ◌-◌, ◌<◌, ◌≤◌, List, [], ◌∷◌, ◌++◌, map, length, set, Bool, true, false, Option, Some, None, refl, sym, ap, ◌∙◌, subst, inl, inr, arith, slice_index}
use Rattle.std.specs.Prelude.{nat_lt, nat_le, if◌then◌else◌, ◌==◌, ◌&&◌}
use Rattle.std.proofs.lemmas.Bool.{cases_eq}
use Rattle.std.proofs.lemmas.Bool.Decides.{nat_tests}
use mathlib.Core.Option.{some, none, some-injective, some-ne-none}
use lib.ListN.{get_elem?}
use Rattle.atomic_table.specs.Table.{State as Table, Me, Splits}
use Rattle.atomic_table.proofs.Lists.{at_longer}
use Rattle.sa_core.specs.Laws.{Parts}
use Rattle.sa_book.specs.declared.view.Terms.{Terms}
use Rattle.sa_book.specs.declared.view.Pages.{Pages}
use Rattle.sa_book.specs.declared.view.View.{View}
use Rattle.sa_book.specs.Counts.{total, same, times, times_in, count_in, once_below, once_between, Each}
use Rattle.sa_book.specs.Rule.{Holds, Seats, Branches, Tickets, Written, IsLive, IsSpent, IsPlaced, IsOwner, IsAtWork, numbers, uses, claims, overs, IsRising, tickets_by, by_seat, events_of, seat_of, branch_of}
use Rattle.sa_book.specs.Steps.{parting, parted, seats_of, IsAtRest}
use Rattle.sa_book.proofs.Counting.{total_set, total_snoc, total_at, each_set, each_snoc, each_unset}
use Rattle.sa_book.proofs.Claiming.{live}
use Rattle.sa_book.proofs.Alone.{same_self, below_once, decide, nothing_by, one_has, zero_or_more}

module _ {W P : Type 0} where
  -- the sum after a split, of a number that the two parts share
  split_total : (f : View W P → ℕ) (vs : List (View W P)) (i : ℕ) (v l r : View W P) → get_elem? vs i ≡ some v → f l + f r ≡ f v → total f (set vs i l ++ r ∷ []) ≡ total f vs
  split_total f vs i v l r at h = omega (arith, total_set f vs i v l at, total_snoc f (set vs i l) r, h)

  each_split : (Q : View W P → Type 0) (vs : List (View W P)) (i : ℕ) (l r : View W P) → Q l → Q r → Each Q vs → Each Q (set vs i l ++ r ∷ [])
  each_split Q vs i l r ql qr h = each_snoc Q (set vs i l) r qr (each_set Q vs i l ql h)

-- the least spare number becomes a seat, and the others stay
least_goes : (x n k : ℕ) → 0 < k → k ≤ n → (once_between x (n - (k - 1)) n) + ((same x (n - k) + 0) + once_between x (n - 0) n) ≡ once_between x (n - k) n
least_goes x n k some_spare le = grind (arith, nat_tests)

least_is_spare : (n k : ℕ) → 0 < k → k ≤ n → once_between (n - k) (n - k) n ≡ 1
least_is_spare n k some_spare le = grind (arith, nat_tests)

module _ {W P : Type 0} where
  -- the number that is split off was gathered by nobody
  nobody_has : (terms : Terms W) (vs : List (View W P)) (i : ℕ) (v : View W P) → Seats terms vs → get_elem? vs i ≡ some v → 0 < v.spares → v.spares ≤ terms.seats → Each (λ u. times (terms.seats - v.spares) u.gathered ≡ 0) vs
  nobody_has terms vs i v h at some_spare le j u at_u =
      let x = terms.seats - v.spares in
      let spare = least_is_spare terms.seats v.spares some_spare le in
      decide i j
      (λ e. let is : u ≡ v = some-injective u v (sym at_u ∙ ap (get_elem? vs) (sym e) ∙ at) in
      let most = total_at (numbers terms.seats x) vs i v at in
      ap (λ (z : View W P). times x z.gathered) is ∙ omega (arith, most, h.each x, below_once x terms.seats, spare))
      (λ ne. let other = one_has terms vs i j v u x h ne at at_u (omega (arith, spare)) in omega (arith, other))

  split_keeps : (m : Parts P) (terms : Terms W) (words : List ℕ) (s : Table (Option (Pages P)) (View W P)) (i : ℕ) (v : View W P) → v.terms ≡ Some terms → v.seen ≡ None → v.ticket ≡ None → 0 < v.spares → Holds m terms s → get_elem? s.views i ≡ some v
      → (r : View W P) → r ≡ record { terms = v.terms; seat = terms.seats - v.spares; gathered = (terms.seats - v.spares) ∷ []; spares = 0; held = None; over = []; ticket = None; seen = None; entries = [] }
      → Holds m terms (record { words = s.words; homes = s.homes; views = set s.views i (parting v) ++ r ∷ [] })
  split_keeps m terms words s i v of_board unseen idle some_spare h at r is =
      let vs = s.views in
      let l = parting v in
      let new_seat = terms.seats - v.spares in
      let lv = live terms v of_board (h.seats.fits i v at) in
      let k = h.book.3 in
      let history = h.book.0.history.items in
      let p = k.placed i v at in
      let o = k.owner i v at in
      let unheard : by_seat new_seat history ≡ [] = nothing_by terms new_seat history vs h.seats.fits (nobody_has terms vs i v h.seats at some_spare lv.spares) (k.weighed (λ e. same new_seat (seat_of e))) in
      let live_l : IsLive terms l = record { of_board = of_board; spares = omega (arith, lv.spares); seat = lv.seat; over = lv.over; over_few = lv.over_few; entries = lv.entries } in
      let live_r : IsLive terms r = rw is (record { of_board = of_board; spares = omega arith; seat = omega (arith, same_self new_seat); over = λ j x a. absurd (some-ne-none x (sym a)); over_few = omega arith; entries = λ j x a. absurd (some-ne-none x (sym a)) }) in
      let fine_l : IsPlaced history l = record { place = p.place; rising = p.rising; own = p.own } in
      let fine_r : IsPlaced history r = rw is (record { place = λ j x a. absurd (some-ne-none x (sym a)); rising = λ w. tt; own = λ w some_there. elim (cases_eq w new_seat) [ inl e ↦ ap (λ z. by_seat z history) e ∙ unheard | inr ne ↦ absurd (not_there w new_seat ne some_there) ] }) in
      let own_l : IsOwner h.book.1 h.book.2 l = record { holds = o.holds; filed = o.filed; stands = o.stands } in
      let own_r : IsOwner h.book.1 h.book.2 r = rw is (record { holds = λ n e. absurd (none_some n e); filed = λ j x a. absurd (some-ne-none x (sym a)); stands = λ n e. absurd (none_some n e) }) in
      let same_claims : claims (set vs i l ++ r ∷ []) ≡ claims vs = split_total (λ (u : View W P). count_in u.held + length u.entries) vs i v l r at (rw is (omega arith)) in
      let same_overs : overs (set vs i l ++ r ∷ []) ≡ overs vs = split_total (λ (u : View W P). length u.over) vs i v l r at (rw is (omega arith)) in
      record {
        words = h.words;
        seats = record {
          each = λ x. split_total (numbers terms.seats x) vs i v l r at (rw is (omega (arith, least_goes x terms.seats v.spares some_spare lv.spares))) ∙ h.seats.each x;
          sum = split_total (λ (u : View W P). length u.gathered + u.spares) vs i v l r at (rw is (omega (arith, some_spare))) ∙ h.seats.sum;
          fits = each_split (λ u. IsLive terms u ⊎ IsSpent u) vs i l r (inl live_l) (inl live_r) h.seats.fits;
          few = h.seats.few;
        };
        branches = record {
          word = h.branches.word ∙ sym (ap (λ a. a + overs vs) same_claims ∙ refl) ∙ ap (λ a. claims (set vs i l ++ r ∷ []) + a) (sym same_overs);
          most = omega (arith, same_claims, h.branches.most);
          done = λ some_over. same_claims ∙ h.branches.done (omega (arith, some_over, same_overs));
          each = λ b. split_total (uses b) vs i v l r at (rw is (omega arith)) ∙ h.branches.each b ∙ ap (once_below b) (sym same_claims);
          few = h.branches.few;
        };
        tickets = record {
          waits = ap (λ c. slice_index s.words 2 + c) (split_total (λ (u : View W P). count_in u.ticket) vs i v l r at (rw is (omega arith))) ∙ h.tickets.waits;
          each = λ x. split_total (λ (u : View W P). times_in x u.ticket) vs i v l r at (rw is (omega arith)) ∙ h.tickets.each x;
          held = each_split (λ (u : View W P). count_in u.ticket ≤ count_in u.held) vs i l r (h.tickets.held i v at) (rw is (omega arith)) h.tickets.held;
        };
        book = (
          h.book.0,
          h.book.1,
          h.book.2,
          record {
            served = k.served;
            weighed = λ f. k.weighed f ∙ sym (split_total (λ (u : View W P). total (λ e. f e.event) u.entries) vs i v l r at (rw is (omega arith)));
            tickets = λ x. split_total (λ (u : View W P). total (λ e. same x e.ticket) u.entries) vs i v l r at (rw is (omega arith)) ∙ k.tickets x;
            placed = each_split (IsPlaced history) vs i l r fine_l fine_r k.placed;
            quiet = λ none_seen. k.quiet (each_unset (λ (u : View W P). u.seen ≡ None) vs i v l at (λ e. e) (λ j u a. none_seen j u (at_longer (set vs i l) (r ∷ []) j u a)));
            at_work = each_split (IsAtWork s.homes (slice_index s.words 2) h.book.0) vs i l r (k.at_work i v at) (rw is (λ seen e. absurd (no_pages seen e))) k.at_work;
            owned = k.owned ∙ sym same_claims;
            owner = each_split (IsOwner h.book.1 h.book.2) vs i l r own_l own_r k.owner;
            filings = k.filings;
            accepted = k.accepted;
            merged = k.merged;
            next = k.next ∙ sym same_claims;
            room = k.room;
          },
        );
      }
    where
      not_there : (w s : ℕ) → w ≢ s → 0 < times w (s ∷ []) → ⊥
      not_there w s ne some_there = grind (arith, nat_tests)

      none_some : (n : ℕ) → ◌≡◌ {A = Option ℕ} None (Some n) → ⊥
      none_some n e = cc

      no_pages : (seen : Pages P) → ◌≡◌ {A = Option (Pages P)} None (Some seen) → ⊥
      no_pages seen e = cc

  pub splits_allowed : (m : Parts P) (terms : Terms W) (number spares id : ℕ) (me : Me (Option (Pages P)) (View W P)) → IsAtRest terms number spares me → 0 < me.0.spares → Splits (Holds m terms) id me.0 (parting me.0) (parted me.0)
  splits_allowed m terms number spares id me rest some_spare s h at =
      let seats_is : seats_of me.0 ≡ terms.seats = ap (λ (t : Option (Terms W)). elim t [ None ↦ 0 | Some t ↦ t.seats ]) rest.of_board in
      split_keeps m terms s.words s id me.0 rest.of_board rest.seen rest.ticket some_spare h at (parted me.0) (rw seats_is refl)
