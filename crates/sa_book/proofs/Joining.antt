-- A meeting of two passes keeps the board rule.
use Rattle.std.proofs.Common.{◌≡◌, ◌≢◌, ◌⊎◌, ℕ, zero, suc, ◌+◌, ◌-◌, ◌<◌, ◌≤◌, List, [], ◌∷◌, ◌++◌, map, length, set, Bool, true, false, cond, Option, Some, None, refl, sym, ap, ◌∙◌, subst, inl, inr, arith, slice_index}
use Rattle.std.specs.Prelude.{nat_lt, nat_le, if◌then◌else◌, ◌==◌, ◌&&◌, max}
use Rattle.std.proofs.lemmas.Bool.{cases_eq, cases_Bool}
use Rattle.std.proofs.lemmas.Bool.Decides.{nat_tests}
use mathlib.Core.Option.{some, none, some-injective, some-ne-none}
use lib.ListN.{get_elem?}
use Rattle.atomic_table.specs.Table.{State as Table, Me, Joins}
use Rattle.atomic_table.proofs.Lists.{set_else}
use Rattle.sa_core.specs.declared.event.Event.{Event}
use Rattle.sa_core.specs.Laws.{Parts}
use Rattle.sa_book.specs.declared.view.Terms.{Terms}
use Rattle.sa_book.specs.declared.view.Pages.{Pages}
use Rattle.sa_book.specs.declared.view.Slip.{Slip}
use Rattle.sa_book.specs.declared.view.View.{View}
use Rattle.sa_book.specs.Counts.{total, same, times, times_in, count_in, once_below, once_between, Each}
use Rattle.sa_book.specs.Rule.{Holds, Seats, Branches, Tickets, Written, IsLive, IsSpent, IsPlaced, IsOwner, IsAtWork, numbers, uses, claims, overs, IsRising, tickets_by, by_seat, events_of, seat_of, branch_of}
use Rattle.sa_book.specs.Steps.{both, nothing, IsAtRest}
use Rattle.sa_book.proofs.Counting.{total_set, total_append, total_two, each_set, each_append, each_unset, here}
use Rattle.sa_book.proofs.Claiming.{live}
use Rattle.sa_book.proofs.Alone.{below_once, none_of_seat, no_own, no_tickets, one_has, zero_or_more}

pub length_append : {A : Type 0} (xs ys : List A) → length (xs ++ ys) ≡ length xs + length ys
length_append [] ys = omega arith
length_append (x ∷ xs) ys = omega (arith, length_append xs ys)

pub append_nil : {A : Type 0} (xs : List A) → xs ++ [] ≡ xs
append_nil [] = refl
append_nil (x ∷ xs) = ap (λ l. x ∷ l) (append_nil xs)

pub tickets_append : (w : ℕ) (xs ys : List Slip) → tickets_by w (xs ++ ys) ≡ tickets_by w xs ++ tickets_by w ys
tickets_append w [] ys = refl
tickets_append w (e ∷ xs) ys = elim (cases_Bool (seat_of e.event == w)) [
  | inl t ↦ rw t (ap (λ l. e.ticket ∷ l) (tickets_append w xs ys))
  | inr f ↦ rw f (tickets_append w xs ys)
]

pub own_append : (w : ℕ) (xs ys : List Slip) → by_seat w (events_of (xs ++ ys)) ≡ by_seat w (events_of xs) ++ by_seat w (events_of ys)
own_append w [] ys = refl
own_append w (e ∷ xs) ys = elim (cases_Bool (seat_of e.event == w)) [
  | inl t ↦ rw t (ap (λ l. e.event ∷ l) (own_append w xs ys))
  | inr f ↦ rw f (own_append w xs ys)
]

-- the last number is spare with whoever has a spare number
last_spare : (n k : ℕ) → 0 < k → k ≤ n → once_between (n - 1) (n - k) n ≡ 1
last_spare n k some_spare le = grind (arith, nat_tests)

none_spare : (x n : ℕ) → once_between x (n - 0) n ≡ 0
none_spare x n = grind (arith, nat_tests)

-- where one of two counts is 0, the greater is the other
spares_join : (x n j k : ℕ) → (j ≡ 0) ⊎ (k ≡ 0) → once_between x (n - max j k) n ≡ once_between x (n - j) n + once_between x (n - k) n
spares_join x n j k (inl e) = let m : max j k ≡ k = omega (arith, e) in let z : once_between x (n - j) n ≡ 0 = ap (λ i. once_between x (n - i) n) e ∙ none_spare x n in ap (λ i. once_between x (n - i) n) m ∙ omega (arith, z)
spares_join x n j k (inr e) = let m : max j k ≡ j = omega (arith, e) in let z : once_between x (n - k) n ≡ 0 = ap (λ i. once_between x (n - i) n) e ∙ none_spare x n in ap (λ i. once_between x (n - i) n) m ∙ omega (arith, z)

max_sum : (j k : ℕ) → (j ≡ 0) ⊎ (k ≡ 0) → max j k ≡ j + k
max_sum j k (inl e) = omega (arith, e)
max_sum j k (inr e) = omega (arith, e)

none_some : {A : Type 0} (x : A) → ◌≡◌ {A = Option A} None (Some x) → ⊥
none_some x e = cc

more_there : (x : ℕ) (xs ys : List ℕ) → times x (xs ++ ys) ≡ times x xs + times x ys
more_there x xs ys = total_append (same x) xs ys

-- what a meeting changes: the first view becomes both, and the second has nothing
module _ {W P : Type 0} where
  join_total : (f : View W P → ℕ) (vs : List (View W P)) (i j : ℕ) (v w b n : View W P) → get_elem? vs i ≡ some v → get_elem? (set vs i b) j ≡ some w → f b + f n ≡ f v + f w → total f (set (set vs i b) j n) ≡ total f vs
  join_total f vs i j v w b n at at_w h = omega (arith, total_set f vs i v b at, total_set f (set vs i b) j w n at_w, h)

  each_join : (Q : View W P → Type 0) (vs : List (View W P)) (i j : ℕ) (b n : View W P) → Q b → Q n → Each Q vs → Each Q (set (set vs i b) j n)
  each_join Q vs i j b n qb qn h = each_set Q (set vs i b) j n qn (each_set Q vs i b qb h)

  -- at most one of two passes has spare numbers
  one_spares : (terms : Terms W) (vs : List (View W P)) (i j : ℕ) (v w : View W P) → Seats terms vs → i ≢ j → get_elem? vs i ≡ some v → get_elem? vs j ≡ some w → v.spares ≤ terms.seats → w.spares ≤ terms.seats → (v.spares ≡ 0) ⊎ (w.spares ≡ 0)
  one_spares terms vs i j v w h apart at at_w le_v le_w = elim (zero_or_more v.spares) [
    | inl e ↦ inl e
    | inr some_v ↦ elim (zero_or_more w.spares) [
      | inl e ↦ inr e
      | inr some_w ↦ absurd (omega (arith, last_spare terms.seats v.spares some_v le_v, last_spare terms.seats w.spares some_w le_w, total_two (numbers terms.seats (terms.seats - 1)) vs i j v w apart at at_w, h.each (terms.seats - 1), below_once (terms.seats - 1) terms.seats))
    ]
  ]

  -- at most one of two passes gathered a seat
  one_gathered : (terms : Terms W) (vs : List (View W P)) (i j : ℕ) (v w : View W P) (x : ℕ) → Seats terms vs → i ≢ j → get_elem? vs i ≡ some v → get_elem? vs j ≡ some w → (times x v.gathered ≡ 0) ⊎ (times x w.gathered ≡ 0)
  one_gathered terms vs i j v w x h apart at at_w = elim (zero_or_more (times x v.gathered)) [
    | inl e ↦ inl e
    | inr some_v ↦ inr (omega (arith, one_has terms vs i j v w x h apart at at_w (omega (arith, some_v))))
  ]

  both_live : (terms : Terms W) (v w : View W P) → IsLive terms v → IsLive terms w → IsLive terms (both v w)
  both_live terms v w a b = record {
    of_board = a.of_board;
    spares = omega (arith, a.spares, b.spares);
    seat = omega (arith, more_there v.seat v.gathered w.gathered, a.seat);
    over = each_append (λ x. 0 < times x (v.gathered ++ w.gathered)) v.over w.over (λ i x at. omega (arith, more_there x v.gathered w.gathered, a.over i x at)) (λ i x at. omega (arith, more_there x v.gathered w.gathered, b.over i x at));
    over_few = omega (arith, length_append v.over w.over, length_append v.gathered w.gathered, a.over_few, b.over_few);
    entries = each_append (λ e. 0 < times (seat_of e.event) (v.gathered ++ w.gathered)) v.entries w.entries
        (λ i e at. omega (arith, more_there (seat_of e.event) v.gathered w.gathered, a.entries i e at))
        (λ i e at. omega (arith, more_there (seat_of e.event) v.gathered w.gathered, b.entries i e at));
  }

  both_placed : (terms : Terms W) (history : List Event) (v w : View W P) → IsLive terms v → IsLive terms w → ((x : ℕ) → (times x v.gathered ≡ 0) ⊎ (times x w.gathered ≡ 0)) → IsPlaced history v → IsPlaced history w → IsPlaced history (both v w)
  both_placed terms history v w lv lw apart a b = record {
    place = each_append (λ e. get_elem? history e.ticket ≡ some e.event) v.entries w.entries a.place b.place;
    rising = λ x. elim (apart x) [
      | inl e ↦ subst IsRising (sym (tickets_append x v.entries w.entries ∙ ap (λ l. l ++ tickets_by x w.entries) (no_tickets x v.entries (none_of_seat terms x v (inl lv) e)))) (b.rising x)
      | inr e ↦ subst IsRising (sym (tickets_append x v.entries w.entries ∙ ap (λ l. tickets_by x v.entries ++ l) (no_tickets x w.entries (none_of_seat terms x w (inl lw) e)) ∙ append_nil (tickets_by x v.entries))) (a.rising x)
    ];
    own = λ x some_there. elim (apart x) [
      | inl e ↦ b.own x (omega (arith, some_there, more_there x v.gathered w.gathered, e)) ∙ sym (own_append x v.entries w.entries ∙ ap (λ l. l ++ by_seat x (events_of w.entries)) (no_own x v.entries (none_of_seat terms x v (inl lv) e)))
      | inr e ↦ a.own x (omega (arith, some_there, more_there x v.gathered w.gathered, e)) ∙ sym (own_append x v.entries w.entries ∙ ap (λ l. by_seat x (events_of v.entries) ++ l) (no_own x w.entries (none_of_seat terms x w (inl lw) e)) ∙ append_nil (by_seat x (events_of v.entries)))
    ];
  }

  join_keeps : (m : Parts P) (terms : Terms W) (s : Table (Option (Pages P)) (View W P)) (i j : ℕ) (v w : View W P)
      → v.terms ≡ Some terms → v.seen ≡ None → v.ticket ≡ None → w.terms ≡ Some terms → w.seen ≡ None → w.ticket ≡ None → w.held ≡ None
      → Holds m terms s → get_elem? s.views i ≡ some v → j ≢ i → get_elem? s.views j ≡ some w → get_elem? (set s.views i (both v w)) j ≡ some w
      → Holds m terms (record { words = s.words; homes = s.homes; views = set (set s.views i (both v w)) j nothing })
  join_keeps m terms s i j v w of_board unseen idle of_board_w unseen_w idle_w free h at apart at_w at_set_w =
      let vs = s.views in
      let b : View W P = both v w in
      let n : View W P = nothing in
      let k = h.book.3 in
      let history = h.book.0.history.items in
      let lv = live terms v of_board (h.seats.fits i v at) in
      let lw = live terms w of_board_w (h.seats.fits j w at_w) in
      let ov = k.owner i v at in
      let ow = k.owner j w at_w in
      let ne : i ≢ j = λ e. apart (sym e) in
      let alone = one_spares terms vs i j v w h.seats ne at at_w lv.spares lw.spares in
      let no_hold : count_in w.held ≡ 0 = ap count_in free in
      let no_ticket : count_in w.ticket ≡ 0 = ap count_in idle_w in
      let entries = length_append v.entries w.entries in
      let spent : IsSpent n = record { terms = refl; gathered = refl; spares = refl; held = refl; over = refl; ticket = refl; seen = refl; entries = refl } in
      let same_claims : claims (set (set vs i b) j n) ≡ claims vs = join_total (λ (u : View W P). count_in u.held + length u.entries) vs i j v w b n at at_set_w (omega (arith, entries, no_hold)) in
      let same_overs : overs (set (set vs i b) j n) ≡ overs vs = join_total (λ (u : View W P). length u.over) vs i j v w b n at at_set_w (omega (arith, length_append v.over w.over)) in
      let own_b : IsOwner h.book.1 h.book.2 b = record { holds = ov.holds; filed = each_append (λ e. get_elem? h.book.1 (branch_of e.event) ≡ some (seat_of e.event)) v.entries w.entries ov.filed ow.filed; stands = ov.stands } in
      let own_n : IsOwner h.book.1 h.book.2 n = record { holds = λ x e. absurd (none_some x e); filed = λ x e a. absurd (some-ne-none e (sym a)); stands = λ x e. absurd (none_some x e) } in
      let fine_n : IsPlaced history n = record { place = λ x e a. absurd (some-ne-none e (sym a)); rising = λ x. tt; own = λ x some_there. absurd (omega (arith, some_there)) } in
      record {
        words = h.words;
        seats = record {
          each = λ x. join_total (numbers terms.seats x) vs i j v w b n at at_set_w (omega (arith, more_there x v.gathered w.gathered, spares_join x terms.seats v.spares w.spares alone, none_spare x terms.seats)) ∙ h.seats.each x;
          sum = join_total (λ (u : View W P). length u.gathered + u.spares) vs i j v w b n at at_set_w (omega (arith, length_append v.gathered w.gathered, max_sum v.spares w.spares alone)) ∙ h.seats.sum;
          fits = each_join (λ u. IsLive terms u ⊎ IsSpent u) vs i j b n (inl (both_live terms v w lv lw)) (inr spent) h.seats.fits;
          few = h.seats.few;
        };
        branches = record {
          word = h.branches.word ∙ ap (λ a. a + overs vs) (sym same_claims) ∙ ap (λ a. claims (set (set vs i b) j n) + a) (sym same_overs);
          most = omega (arith, same_claims, h.branches.most);
          done = λ some_over. same_claims ∙ h.branches.done (omega (arith, some_over, same_overs));
          each = λ x. join_total (uses x) vs i j v w b n at at_set_w (let z : times_in x w.held ≡ 0 = ap (times_in x) free in omega (arith, total_append (λ (e : Slip). same x (branch_of e.event)) v.entries w.entries, z)) ∙ h.branches.each x ∙ ap (once_below x) (sym same_claims);
          few = h.branches.few;
        };
        tickets = record {
          waits = ap (λ c. slice_index s.words 2 + c) (join_total (λ (u : View W P). count_in u.ticket) vs i j v w b n at at_set_w (omega (arith, no_ticket))) ∙ h.tickets.waits;
          each = λ x. join_total (λ (u : View W P). times_in x u.ticket) vs i j v w b n at at_set_w (let z : times_in x w.ticket ≡ 0 = ap (times_in x) idle_w in omega (arith, z)) ∙ h.tickets.each x;
          held = each_join (λ (u : View W P). count_in u.ticket ≤ count_in u.held) vs i j b n (h.tickets.held i v at) (omega arith) h.tickets.held;
        };
        book = (
          h.book.0,
          h.book.1,
          h.book.2,
          record {
            served = k.served;
            weighed = λ f. k.weighed f ∙ sym (join_total (λ (u : View W P). total (λ e. f e.event) u.entries) vs i j v w b n at at_set_w (omega (arith, total_append (λ (e : Slip). f e.event) v.entries w.entries)));
            tickets = λ x. join_total (λ (u : View W P). total (λ e. same x e.ticket) u.entries) vs i j v w b n at at_set_w (omega (arith, total_append (λ (e : Slip). same x e.ticket) v.entries w.entries)) ∙ k.tickets x;
            placed = each_join (IsPlaced history) vs i j b n (both_placed terms history v w lv lw (λ x. one_gathered terms vs i j v w x h.seats ne at at_w) (k.placed i v at) (k.placed j w at_w)) fine_n k.placed;
            quiet = λ none_seen. k.quiet (each_unset (λ (u : View W P). u.seen ≡ None) vs i v b at (λ e. e) (each_unset (λ (u : View W P). u.seen ≡ None) (set vs i b) j w n at_set_w (λ e. unseen_w) none_seen));
            at_work = each_join (IsAtWork s.homes (slice_index s.words 2) h.book.0) vs i j b n (k.at_work i v at) (λ seen e. absurd (none_some seen e)) k.at_work;
            owned = k.owned ∙ sym same_claims;
            owner = each_join (IsOwner h.book.1 h.book.2) vs i j b n own_b own_n k.owner;
            filings = k.filings;
            accepted = k.accepted;
            merged = k.merged;
            next = k.next ∙ sym same_claims;
            room = k.room;
          },
        );
      }

  pub joins_allowed : (m : Parts P) (terms : Terms W) (number spares number_b spares_b id other : ℕ) (me others : Me (Option (Pages P)) (View W P)) → IsAtRest terms number spares me → IsAtRest terms number_b spares_b others → others.0.held ≡ None
      → Joins (Holds m terms) id me.0 other others.0 (both me.0 others.0) nothing
  joins_allowed m terms number spares number_b spares_b id other me others a b free s h at apart at_w =
      join_keeps m terms s id other me.0 others.0 a.of_board a.seen a.ticket b.of_board b.seen b.ticket free h at apart (sym (set_else s.views id other (both me.0 others.0) apart) ∙ at_w) at_w
