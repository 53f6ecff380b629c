-- To serve keeps the board rule: the slot comes back with the book that is longer by the seat's entry.
use Rattle.std.proofs.Common.{◌≡◌, ◌≢◌, ◌⊎◌, ℕ, zero, suc, ◌+◌, ◌-◌, ◌%◌, ◌^◌, ◌<◌, ◌≤◌, ◌||◌, List, [], ◌∷◌, ◌++◌, map, length, set, Bool, true, false, cond, Option, Some, None, Result, Ok, refl, sym, ap, ◌∙◌, subst, inl, inr, arith, slice_index}
use Rattle.std.specs.Prelude.{nat_lt, nat_le, if◌then◌else◌, ◌==◌, ◌&&◌}
use Rattle.std.specs.Vec.{vec_len, vec_capacity}
use Rattle.std.proofs.lemmas.Bool.{cases_Bool, cases_eq}
use Rattle.std.proofs.lemmas.Bool.Decides.{nat_tests}
use Rattle.std.proofs.lemmas.List.{get_or-set_other}
use mathlib.Core.Option.{Option as Home, some, none, some-injective, some-ne-none}
use lib.ListN.{get_elem?}
use Rattle.atomic_table.specs.Table.{State as Table, Me, Act, gives, rest, Allows, Valid, stepped, carried_after}
use Rattle.atomic_table.proofs.Lists.{at_set, at_longer, at_last}
use Rattle.sa_core.specs.declared.event.Branch.{Branch}
use Rattle.sa_core.specs.declared.event.Branch.TheVariants.{Free, Held, Filed, Given}
use Rattle.sa_core.specs.declared.event.Event.{Event}
use Rattle.sa_core.specs.declared.event.Event.TheVariants.{Claim, File, Gave}
use Rattle.sa_core.specs.Laws.{Parts}
use Rattle.sa_core.specs.Machine.{State, branch_at, holder_meets, meets, after, replayed, opened}
use Rattle.sa_core.specs.Gathered.{is_claim, has_claim}
use Rattle.sa_core.proofs.Keeping.{replayed-cons}
use Rattle.sa_core.proofs.Lists.{replayed-append}
use Rattle.sa_book.specs.declared.view.Terms.{Terms}
use Rattle.sa_book.specs.declared.view.Pages.{Pages}
use Rattle.sa_book.specs.declared.view.Slip.{Slip}
use Rattle.sa_book.specs.declared.view.View.{View}
use Rattle.sa_book.specs.Counts.{total, same, times, times_in, count_in, once_below, once_between, Each}
use Rattle.sa_book.specs.Rule.{Holds, Seats, Branches, Tickets, Written, IsLive, IsSpent, IsPlaced, IsOwner, IsAtWork, numbers, uses, claims, overs, IsRising, tickets_by, by_seat, events_of, seat_of, branch_of}
use Rattle.sa_book.specs.Steps.{serving, slip, number_in, IsWorking, IsLonger}
use Rattle.sa_book.proofs.Counting.{total_set, total_kept, total_snoc, total_at, total_two, each_set, each_snoc, once_more, here}
use Rattle.sa_book.proofs.Claiming.{live, seats_kept}
use Rattle.sa_book.proofs.Alone.{same_self, below_once, decide, one_has}
use Rattle.sa_book.proofs.Joining.{tickets_append, own_append, length_append, append_nil}
use Rattle.sa_book.proofs.Waiting.{alone, tickets_few, between_once}

one_ticket_less : (x s t n : ℕ) → n + same x s ≡ once_between x s t → s < t → n ≡ once_between x (s + 1) t
one_ticket_less x s t n h lt = grind (arith, nat_tests)

by_seat_append : (w : ℕ) (xs ys : List Event) → by_seat w (xs ++ ys) ≡ by_seat w xs ++ by_seat w ys
by_seat_append w [] ys = refl
by_seat_append w (e ∷ xs) ys = elim (cases_Bool (seat_of e == w)) [
  | inl t ↦ rw t (ap (λ l. e ∷ l) (by_seat_append w xs ys))
  | inr f ↦ rw f (by_seat_append w xs ys)
]

has_claim-append : (xs ys : List Event) → has_claim xs ≡ false → has_claim ys ≡ false → has_claim (xs ++ ys) ≡ false
has_claim-append [] ys a b = b
has_claim-append (e ∷ xs) ys a b = elim (is_claim e) as (λ t. t || has_claim xs ≡ false → t || has_claim (xs ++ ys) ≡ false) [
  | true ↦ (λ h. absurd (true_false h))
  | false ↦ (λ h. has_claim-append xs ys h b)
] a
  where
    true_false : true ≡ false → ⊥
    true_false h = cc

append_group : {A : Type 0} (xs ys zs : List A) → xs ++ (ys ++ zs) ≡ (xs ++ ys) ++ zs
append_group [] ys zs = refl
append_group (x ∷ xs) ys zs = ap (λ l. x ∷ l) (append_group xs ys zs)

-- what stands in a list stands before its end
at_within : {A : Type 0} (xs : List A) (i : ℕ) (x : A) → get_elem? xs i ≡ some x → i < length xs
at_within [] i x e = absurd (some-ne-none x (sym e))
at_within (y ∷ xs) zero x e = omega arith
at_within (y ∷ xs) (suc i) x e = omega (arith, at_within xs i x e)

-- a number above all of a rising list may stand behind it
rising_snoc : (xs : List ℕ) (n : ℕ) → Each (λ x. x < n) xs → IsRising xs → IsRising (xs ++ n ∷ [])
rising_snoc [] n below r = ((λ i y at. absurd (some-ne-none y (sym at))), tt)
rising_snoc (x ∷ xs) n below r = (each_snoc (λ y. x < y) xs n (below 0 x refl) r.0, rising_snoc xs n (λ i y at. below (suc i) y at) r.1)

-- the tickets of a seat are tickets of entries
tickets_below : (w n : ℕ) (entries : List Slip) → Each (λ e. e.ticket < n) entries → Each (λ t. t < n) (tickets_by w entries)
tickets_below w n [] h = λ i t at. absurd (some-ne-none t (sym at))
tickets_below w n (e ∷ entries) h = elim (seat_of e.event == w) as (λ b. Each (λ t. t < n) (cond b (e.ticket ∷ tickets_by w entries) (tickets_by w entries))) [
  | true ↦ more e.ticket (tickets_by w entries) (h 0 e refl) (tickets_below w n entries (λ i x at. h (suc i) x at))
  | false ↦ tickets_below w n entries (λ i x at. h (suc i) x at)
]
  where
    more : (x : ℕ) (xs : List ℕ) → x < n → Each (λ t. t < n) xs → Each (λ t. t < n) (x ∷ xs)
    more x xs lt all zero t at = subst (λ y. y < n) (some-injective x t at) lt
    more x xs lt all (suc i) t at = all i t at

met_self : (w k : ℕ) → holder_meets w k (Held w) ≡ None
met_self w k = let t : (w == w) ≡ true = grind (arith, nat_tests) in rw t refl

module _ {P : Type 0} where
  -- what an event is for the core, where its seat holds its branch: accepted, with its branch the only one that stands otherwise
  record IsFilingOf (m : Parts P) (e : Event) (seat k : ℕ) (f : P → P) : Type 0 where
    pub seat_is : seat_of e ≡ seat
    pub branch_is : branch_of e ≡ k
    pub no_claim : is_claim e ≡ false
    pub accepted : (core : State P) → branch_at core.branches k ≡ Held seat → meets e core.branches ≡ None
    pub next_is : (core : State P) → (after m e core).next ≡ core.next
    pub others : (core : State P) (j : ℕ) → j ≢ k → branch_at (after m e core).branches j ≡ branch_at core.branches j
    pub merged_is : (core : State P) → (after m e core).merged ≡ f core.merged

  filing-file : (m : Parts P) (seat k : ℕ) → IsFilingOf m (File seat k) seat k (λ p. m.merge_of p (m.part_of k))
  filing-file m seat k = record {
    seat_is = refl;
    branch_is = refl;
    no_claim = refl;
    accepted = λ core h. ap (holder_meets seat k) h ∙ met_self seat k;
    next_is = λ core. refl;
    others = λ core j ne. get_or-set_other core.branches k j Filed Free ne;
    merged_is = λ core. refl;
  }

  filing-gave : (m : Parts P) (seat k : ℕ) → IsFilingOf m (Gave seat k) seat k (λ p. p)
  filing-gave m seat k = record {
    seat_is = refl;
    branch_is = refl;
    no_claim = refl;
    accepted = λ core h. ap (holder_meets seat k) h ∙ met_self seat k;
    next_is = λ core. refl;
    others = λ core j ne. get_or-set_other core.branches k j Given Free ne;
    merged_is = λ core. refl;
  }

module _ {W P : Type 0} where
  -- the view of whoever served
  abbrev wrote : ℕ → Event → View W P → View W P
  wrote t e v = record v { held = None; ticket = None; seen = None; entries = v.entries ++ slip t e ∷ [] }

  -- two passes don't hold one branch
  apart_held : (terms : Terms W) (words : List ℕ) (vs : List (View W P)) (i j : ℕ) (v u : View W P) (k n : ℕ) → Branches terms words vs → j ≢ i → get_elem? vs i ≡ some v → get_elem? vs j ≡ some u → v.held ≡ Some k → u.held ≡ Some n → n ≢ k
  apart_held terms words vs i j v u k n h ne at at_u held held_u is =
      let two = total_two (uses k) vs j i u v ne at_u at in
      let one_v : times_in k v.held ≡ 1 = ap (times_in k) held ∙ same_self k in
      let one_u : times_in k u.held ≡ 1 = ap (times_in k) held_u ∙ ap (same k) is ∙ same_self k in
      absurd (omega (arith, two, one_v, one_u, h.each k, below_once k (claims vs)))

  -- the other passes are placed as before
  placed_others : (terms : Terms W) (e : Event) (history history2 : List Event) (vs : List (View W P)) (i j : ℕ) (v u : View W P) → history2 ≡ history ++ e ∷ [] → Seats terms vs → IsLive terms v → seat_of e ≡ v.seat → j ≢ i → get_elem? vs i ≡ some v → get_elem? vs j ≡ some u
      → IsPlaced history u → IsPlaced history2 u
  placed_others terms e history history2 vs i j v u is seats l mine ne at at_u p = record {
    place = λ x s a. ap (λ h. get_elem? h s.ticket) is ∙ at_longer history (e ∷ []) s.ticket s.event (p.place x s a);
    rising = p.rising;
    own = λ x some_there. ap (by_seat x) is ∙ by_seat_append x history (e ∷ []) ∙ ap (λ l. by_seat x history ++ l) (not_theirs x some_there) ∙ append_nil (by_seat x history) ∙ p.own x some_there;
  }
    where
      not_theirs : (x : ℕ) → 0 < times x u.gathered → by_seat x (e ∷ []) ≡ []
      not_theirs x some_there = elim (cases_Bool (seat_of e == x)) [
        | inl t ↦
            let x_is : v.seat ≡ x = grind (arith, nat_tests, t, mine) in
            let have : 0 < times x v.gathered = subst (λ n. 0 < times n v.gathered) x_is l.seat in
            absurd (omega (arith, one_has terms vs j i u v x seats ne at_u at (omega (arith, some_there)), have))
        | inr f ↦ rw f refl
      ]

  placed_mine : (e : Event) (history history2 : List Event) (v : View W P) (t : ℕ) → history2 ≡ history ++ e ∷ [] → t ≡ length history → IsPlaced history v → IsPlaced history2 (wrote t e v)
  placed_mine e history history2 v t is t_is p = record {
    place = each_snoc (λ s. get_elem? history2 s.ticket ≡ some s.event) v.entries (slip t e)
        (ap (λ h. get_elem? h t) is ∙ at_last history e t (sym t_is))
        (λ x s a. ap (λ h. get_elem? h s.ticket) is ∙ at_longer history (e ∷ []) s.ticket s.event (p.place x s a));
    rising = λ x. elim (cases_Bool (seat_of e == x)) [
      | inl b ↦ subst IsRising (sym (tickets_append x v.entries (slip t e ∷ []) ∙ ap (λ l. tickets_by x v.entries ++ l) (one x b)))
          (rising_snoc (tickets_by x v.entries) t (tickets_below x t v.entries (λ j s a. omega (arith, t_is, at_within history s.ticket s.event (p.place j s a)))) (p.rising x))
      | inr b ↦ subst IsRising (sym (tickets_append x v.entries (slip t e ∷ []) ∙ ap (λ l. tickets_by x v.entries ++ l) (no x b) ∙ append_nil (tickets_by x v.entries))) (p.rising x)
    ];
    own = λ x some_there. ap (by_seat x) is ∙ by_seat_append x history (e ∷ []) ∙ ap (λ l. l ++ by_seat x (e ∷ [])) (p.own x some_there) ∙ sym (own_append x v.entries (slip t e ∷ []));
  }
    where
      one : (x : ℕ) → (seat_of e == x) ≡ true → tickets_by x (slip t e ∷ []) ≡ t ∷ []
      one x b = rw b refl

      no : (x : ℕ) → (seat_of e == x) ≡ false → tickets_by x (slip t e ∷ []) ≡ []
      no x b = rw b refl

  serve_keeps : (m : Parts P) (terms : Terms W) (e : Event) (f : P → P) (a b c c2 : ℕ) (homes : List (Home (Option (Pages P)))) (vs : List (View W P)) (i k : ℕ) (v : View W P) (longer : Pages P)
      → get_elem? vs i ≡ some v → v.terms ≡ Some terms → v.held ≡ Some k → v.ticket ≡ Some c → c2 ≡ (c + 1) % 2 ^ 64
      → IsFilingOf m e v.seat k f
      → (h : Holds m terms (record { words = a ∷ b ∷ c ∷ []; homes = homes; views = vs }))
      → longer.history.items ≡ h.book.0.history.items ++ e ∷ [] → longer.merged ≡ f h.book.0.merged → vec_capacity longer.history ≡ vec_capacity h.book.0.history
      → Holds m terms (record { words = a ∷ b ∷ c2 ∷ []; homes = some (Some longer) ∷ []; views = set vs i (wrote c e v) })
  serve_keeps m terms e f a b c c2 homes vs i k v longer at of_board held mine c2_is filing h grown merged kept =
      let w = wrote c e v in
      let book = h.book.3 in
      let pages = h.book.0 in
      let history = pages.history.items in
      let owners = h.book.1 in
      let core = h.book.2 in
      let core2 = after m e core in
      let l = live terms v of_board (h.seats.fits i v at) in
      let o = book.owner i v at in
      let few = tickets_few m terms (record { words = a ∷ b ∷ c ∷ []; homes = homes; views = vs }) h in
      let one_ticket : count_in v.ticket ≡ 1 = ap count_in mine in
      let one_held : count_in v.held ≡ 1 = ap count_in held in
      let low : c < b = omega (arith, total_at (λ (u : View W P). count_in u.ticket) vs i v at, one_ticket, h.tickets.waits) in
      let more : c2 ≡ c + 1 = c2_is ∙ omega (arith, low, few, h.branches.few) in
      let one_entry : length w.entries ≡ length v.entries + 1 = length_append v.entries (slip c e ∷ []) in
      let same_claims : claims (set vs i w) ≡ claims vs = total_kept (λ (u : View W P). count_in u.held + length u.entries) vs i v w at (omega (arith, one_entry, one_held)) in
      let same_overs : overs (set vs i w) ≡ overs vs = total_kept (λ (u : View W P). length u.over) vs i v w at refl in
      let tickets = total_set (λ (u : View W P). count_in u.ticket) vs i v w at in
      let met : meets e core.branches ≡ None = filing.accepted core (o.stands k held) in
      record {
        words = h.words;
        seats = seats_kept terms vs i v w at refl refl (record {
          of_board = l.of_board;
          spares = l.spares;
          seat = l.seat;
          over = l.over;
          over_few = l.over_few;
          entries = each_snoc (λ (s : Slip). 0 < times (seat_of s.event) v.gathered) v.entries (slip c e) (subst (λ n. 0 < times n v.gathered) (sym filing.seat_is) l.seat) l.entries;
        }) h.seats;
        branches = record {
          word = omega (arith, h.branches.word, same_claims, same_overs);
          most = omega (arith, same_claims, h.branches.most);
          done = λ some_over. same_claims ∙ h.branches.done (omega (arith, same_overs, some_over));
          each = λ n.
              let had : times_in n v.held ≡ same n k = ap (times_in n) held in
              let got : same n (branch_of e) ≡ same n k = ap (same n) filing.branch_is in
              total_kept (uses n) vs i v w at (omega (arith, total_snoc (λ (s : Slip). same n (branch_of s.event)) v.entries (slip c e), had, got)) ∙ h.branches.each n ∙ ap (once_below n) (sym same_claims);
          few = h.branches.few;
        };
        tickets = record {
          waits = omega (arith, tickets, one_ticket, more, h.tickets.waits);
          each = λ x.
              let s = total_set (λ (u : View W P). times_in x u.ticket) vs i v w at in
              let had : times_in x v.ticket ≡ same x c = ap (times_in x) mine in
              one_ticket_less x c b (total (λ (u : View W P). times_in x u.ticket) (set vs i w)) (omega (arith, s, had, h.tickets.each x)) low ∙ ap (λ n. once_between x n b) (sym more);
          held = each_set (λ (u : View W P). count_in u.ticket ≤ count_in u.held) vs i w (omega arith) h.tickets.held;
        };
        book = (
          longer,
          owners,
          core2,
          record {
            served = more ∙ ap (λ n. n + 1) book.served ∙ sym (ap length grown ∙ length_append history (e ∷ []));
            weighed = λ g.
                let s = total_set (λ (u : View W P). total (λ (x : Slip). g x.event) u.entries) vs i v w at in
                let t = total_snoc (λ (x : Slip). g x.event) v.entries (slip c e) in
                let n : total g longer.history.items ≡ total g history + g e = ap (total g) grown ∙ total_snoc g history e in
                omega (arith, s, t, n, book.weighed g);
            tickets = λ x.
                let s = total_set (λ (u : View W P). total (λ (y : Slip). same x y.ticket) u.entries) vs i v w at in
                let t = total_snoc (λ (y : Slip). same x y.ticket) v.entries (slip c e) in
                let n : total (λ (u : View W P). total (λ (y : Slip). same x y.ticket) u.entries) (set vs i w) ≡ once_below x (c + 1) = omega (arith, s, t, book.tickets x, once_more x c) in
                n ∙ ap (once_below x) (sym more);
            placed = λ j u at_u. elim (at_set vs i j w u at_u) [
              | inl is ↦ subst (IsPlaced longer.history.items) is.1 (placed_mine e history longer.history.items v c grown book.served (book.placed i v at))
              | inr is ↦ placed_others terms e history longer.history.items vs i j v u grown h.seats l filing.seat_is is.0 at is.1 (book.placed j u is.1)
            ];
            quiet = λ none_seen. refl;
            at_work = λ j u at_u. elim (at_set vs i j w u at_u) [
              | inl is ↦ subst (IsAtWork (some (Some longer) ∷ []) c2 longer) is.1 (λ seen s. absurd (no_pages seen s))
              | inr is ↦ (λ seen s. absurd (alone m terms a b c homes vs i j v u seen h at mine is.0 is.1 s))
            ];
            owned = book.owned ∙ sym same_claims;
            owner = λ j u at_u. elim (at_set vs i j w u at_u) [
              | inl is ↦ subst (IsOwner owners core2) is.1 (record {
                holds = λ n s. absurd (no_number n s);
                filed = each_snoc (λ (s : Slip). get_elem? owners (branch_of s.event) ≡ some (seat_of s.event)) v.entries (slip c e) (ap (get_elem? owners) filing.branch_is ∙ o.holds k held ∙ ap some (sym filing.seat_is)) o.filed;
                stands = λ n s. absurd (no_number n s);
              })
              | inr is ↦
                  let p = book.owner j u is.1 in
                  record { holds = p.holds; filed = p.filed; stands = λ n s. filing.others core n (apart_held terms (a ∷ b ∷ c ∷ []) vs i j v u k n h.branches is.0 at is.1 held s) ∙ p.stands n s }
            ];
            filings = subst (λ es. has_claim es ≡ false) (sym grown) (has_claim-append history (e ∷ []) book.filings (rw filing.no_claim refl));
            accepted = ap (λ es. replayed m (map Claim owners ++ es) (opened m terms.job.branches)) grown
                ∙ ap (λ es. replayed m es (opened m terms.job.branches)) (append_group (map Claim owners) history (e ∷ []))
                ∙ replayed-append m (map Claim owners ++ history) (e ∷ []) (opened m terms.job.branches) core book.accepted
                ∙ replayed-cons m e [] core met;
            merged = merged ∙ ap f book.merged ∙ sym (filing.merged_is core);
            next = filing.next_is core ∙ book.next ∙ sym same_claims;
            room = omega (arith, kept, book.room);
          },
        );
      }
    where
      no_pages : (seen : Pages P) → ◌≡◌ {A = Option (Pages P)} None (Some seen) → ⊥
      no_pages seen e = cc

      no_number : (n : ℕ) → ◌≡◌ {A = Option ℕ} None (Some n) → ⊥
      no_number n e = cc

  serve_at : (m : Parts P) (terms : Terms W) (what : ℕ → ℕ → Event) (f : P → P) (seat branch ticket : ℕ) (pages longer : Pages P) (v : View W P) (words : List ℕ) (homes : List (Home (Option (Pages P)))) (vs : List (View W P)) (i : ℕ)
      → IsWorking terms seat branch ticket pages v → IsFilingOf m (what v.seat branch) v.seat branch f
      → longer.history.items ≡ pages.history.items ++ what v.seat branch ∷ [] → longer.merged ≡ f pages.merged → vec_capacity longer.history ≡ vec_capacity pages.history
      → Holds m terms (record { words = words; homes = homes; views = vs }) → get_elem? vs i ≡ some v
      → (w : View W P) × (a : Act (Option (Pages P))) × Valid homes ((0, Some longer) ∷ []) a
      × Holds m terms (stepped (record { words = words; homes = homes; views = vs }) 2 ((slice_index words 2 + 1) % 2 ^ 64) i ((0, Some longer) ∷ []) w a)
      × ◌≡◌ {A = Me (Option (Pages P)) (View W P)} (w, carried_after ((0, Some longer) ∷ []) a) (serving what v, [])
  serve_at m terms what f seat branch ticket pages longer v [] homes vs i work filing grown merged kept h at = absurd (omega (arith, h.words))
  serve_at m terms what f seat branch ticket pages longer v (x ∷ []) homes vs i work filing grown merged kept h at = absurd (omega (arith, h.words))
  serve_at m terms what f seat branch ticket pages longer v (x ∷ y ∷ []) homes vs i work filing grown merged kept h at = absurd (omega (arith, h.words))
  serve_at m terms what f seat branch ticket pages longer v (x ∷ y ∷ z ∷ []) homes vs i work filing grown merged kept h at =
      let busy = h.book.3.at_work i v at pages work.seen in
      let e = what v.seat branch in
      let view_is : serving what v ≡ wrote z e v =
      ap (λ n. wrote n (what v.seat (number_in v.held)) v) (ap number_in busy.1) ∙ ap (λ n. wrote z (what v.seat n) v) (ap number_in work.held) in
      let kept_rule = serve_keeps m terms e f x y z ((z + 1) % 2 ^ 64) homes vs i branch v longer at work.of_board work.held busy.1 refl filing h
      (grown ∙ ap (λ (p : Pages P). p.history.items ++ e ∷ []) busy.0) (merged ∙ ap (λ (p : Pages P). f p.merged) busy.0) (kept ∙ ap (λ (p : Pages P). vec_capacity p.history) busy.0) in (
        serving what v,
        gives,
        tt,
        subst (λ hs. Holds m terms (record { words = x ∷ y ∷ (z + 1) % 2 ^ 64 ∷ []; homes = set hs 0 (some (Some longer)); views = set vs i (serving what v) })) (sym busy.2)
            (subst (λ u. Holds m terms (record { words = x ∷ y ∷ (z + 1) % 2 ^ 64 ∷ []; homes = some (Some longer) ∷ []; views = set vs i u })) (sym view_is) kept_rule),
        refl,
      )
  serve_at m terms what f seat branch ticket pages longer v (x ∷ y ∷ z ∷ u ∷ ws) homes vs i work filing grown merged kept h at = absurd (omega (arith, h.words))

  serves : (m : Parts P) (terms : Terms W) (what : ℕ → ℕ → Event) (f : P → P) (slots seat branch ticket id : ℕ) (pages longer : Pages P) (me : Me (Option (Pages P)) (View W P))
      → IsWorking terms seat branch ticket pages me.0 → IsFilingOf m (what me.0.seat branch) me.0.seat branch f → me.1 ≡ (0, Some longer) ∷ []
      → longer.history.items ≡ pages.history.items ++ what me.0.seat branch ∷ [] → longer.merged ≡ f pages.merged → vec_capacity longer.history ≡ vec_capacity pages.history
      → Allows (Holds m terms) slots id me 2 (λ n. (n + 1) % 2 ^ 64) (λ found after. after ≡ (serving what me.0, []))
  serves m terms what f slots seat branch ticket id pages longer me work filing slot grown merged kept =
      let out : Me (Option (Pages P)) (View W P) = (me.0, (0, Some longer) ∷ []) in
      let me_is : me ≡ out = ap (λ l. (me.0, l)) slot in
      subst (λ (z : Me (Option (Pages P)) (View W P)). Allows (Holds m terms) slots id z 2 (λ n. (n + 1) % 2 ^ 64) (λ found after. after ≡ (serving what z.0, []))) (sym me_is)
      (λ s h len at lt. serve_at m terms what f seat branch ticket pages longer me.0 s.words s.homes s.views id work filing grown merged kept h at)

  -- the seat that files has the turn, and the slot has the book with its part and its event more
  pub files_allowed : (m : Parts P) (terms : Terms W) (slots seat branch ticket id : ℕ) (pages longer : Pages P) (me : Me (Option (Pages P)) (View W P)) → IsWorking terms seat branch ticket pages me.0 → me.1 ≡ (0, Some longer) ∷ []
      → (got : Pages P) → IsLonger (File seat branch) (m.merge_of pages.merged (m.part_of branch)) got longer → got.history ≡ pages.history
      → Allows (Holds m terms) slots id me 2 (λ n. (n + 1) % 2 ^ 64) (λ found after. after ≡ (serving File me.0, []))
  files_allowed m terms slots seat branch ticket id pages longer me work slot got more same_history =
      serves m terms File (λ p. m.merge_of p (m.part_of branch)) slots seat branch ticket id pages longer me work (filing-file m me.0.seat branch) slot
      (more.history ∙ ap (λ h. h.items ++ File seat branch ∷ []) same_history ∙ ap (λ s. pages.history.items ++ File s branch ∷ []) (sym work.seat_is))
      more.merged_is (more.room ∙ ap vec_capacity same_history)

  -- the same for a branch that is given up
  pub gives_up_allowed : (m : Parts P) (terms : Terms W) (slots seat branch ticket id : ℕ) (pages longer : Pages P) (me : Me (Option (Pages P)) (View W P)) → IsWorking terms seat branch ticket pages me.0 → me.1 ≡ (0, Some longer) ∷ []
      → (got : Pages P) → IsLonger (Gave seat branch) pages.merged got longer → got.history ≡ pages.history
      → Allows (Holds m terms) slots id me 2 (λ n. (n + 1) % 2 ^ 64) (λ found after. after ≡ (serving Gave me.0, []))
  gives_up_allowed m terms slots seat branch ticket id pages longer me work slot got more same_history =
      serves m terms Gave (λ p. p) slots seat branch ticket id pages longer me work (filing-gave m me.0.seat branch) slot
      (more.history ∙ ap (λ h. h.items ++ Gave seat branch ∷ []) same_history ∙ ap (λ s. pages.history.items ++ Gave s branch ∷ []) (sym work.seat_is))
      more.merged_is (more.room ∙ ap vec_capacity same_history)

-- the book in the first slot of a list
abbrev first_of : {P : Type 0} → Pages P → List (ℕ × Option (Pages P)) → Pages P
first_of d [] = d
first_of d (x ∷ xs) = elim x.1 [ None ↦ d | Some pages ↦ pages ]

-- a list of one slot tells its book
pub same_slot : {P : Type 0} (x y : Pages P) → ◌≡◌ {A = List (ℕ × Option (Pages P))} ((0, Some x) ∷ []) ((0, Some y) ∷ []) → x ≡ y
same_slot x y e = ap (first_of x) e
