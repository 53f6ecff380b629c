-- A claim keeps the board rule.
use Rattle.std.proofs.Common.{◌≡◌, ◌≢◌, ◌⊎◌, ℕ, zero, suc, ◌+◌, ◌-◌, ◌%◌, ◌^◌, ◌<◌, ◌≤◌, List, [], ◌∷◌, ◌++◌, map, length, set, Bool, true, false, Option, Some, None, Result, Ok, refl, sym, ap, ◌∙◌, subst, inl, inr, arith, slice_index, replicate, get_or}
use Rattle.std.specs.Prelude.{nat_lt, if◌then◌else◌}
use Rattle.std.proofs.lemmas.Bool.{cases_Bool}
use Rattle.std.proofs.lemmas.Bool.Decides.{nat_tests}
use Rattle.std.proofs.lemmas.List.{length-replicate, get_or-set_same}
use mathlib.Core.Option.{Option as Home, some, none, some-injective, some-ne-none}
use lib.ListN.{get_elem?}
use Rattle.atomic_table.specs.Table.{State as Table, Me, Act, keeps, Allows, Valid, stepped, carried_after}
use Rattle.atomic_table.proofs.Lists.{at_set, at_longer, at_last}
use Rattle.sa_core.specs.declared.event.Branch.TheVariants.{Free, Held}
use Rattle.sa_core.specs.declared.event.Branch.{Branch}
use Rattle.sa_core.specs.declared.event.Event.{Event}
use Rattle.sa_core.specs.declared.event.Event.TheVariants.{Claim}
use Rattle.sa_core.specs.Laws.{Parts, MergeLaws}
use Rattle.sa_core.specs.Machine.{State, branch_at, claimed, replayed, opened}
use Rattle.sa_core.proofs.Keeping.{reaches, opened-core, Reaches}
use Rattle.sa_core.proofs.Lists.{claims-first, stands}
use Rattle.sa_book.specs.declared.view.Terms.{Terms}
use Rattle.sa_book.specs.declared.view.Pages.{Pages}
use Rattle.sa_book.specs.declared.view.View.{View}
use Rattle.sa_book.specs.Counts.{total, same, times, times_in, count_in, once_below, Each}
use Rattle.sa_book.specs.Rule.{Holds, Seats, Branches, Tickets, Written, IsLive, IsSpent, IsPlaced, IsOwner, IsAtWork, numbers, uses, claims, overs, IsRising, tickets_by, by_seat, events_of, seat_of, branch_of}
use Rattle.sa_book.specs.Steps.{holding, marked_over, branches_of, Claimed, IsAtRest}
use Rattle.sa_book.proofs.Counting.{total_set, total_kept, total_le, each_set, each_unset, once_more, map_snoc}

none_counts : (o : Option ℕ) → o ≡ None → count_in o ≡ 0
none_counts o e = ap count_in e

module _ {W P : Type 0} where
  -- a view that names its board isn't spent
  pub live : (terms : Terms W) (v : View W P) → v.terms ≡ Some terms → IsLive terms v ⊎ IsSpent v → IsLive terms v
  live terms v is (inl l) = l
  live terms v is (inr s) = absurd (none_some (sym s.terms ∙ is))
    where
      none_some : {t : Terms W} → ◌≡◌ {A = Option (Terms W)} None (Some t) → ⊥
      none_some e = cc

  -- there are at most as many marks as seats
  pub overs_few : (terms : Terms W) (vs : List (View W P)) → Seats terms vs → overs vs ≤ terms.seats
  overs_few terms vs h =
      let le = total_le (λ (v : View W P). length v.over) (λ v. length v.gathered + v.spares) vs (λ i v at. few v (h.fits i v at)) in
      omega (arith, le, h.sum)
    where
      few : (v : View W P) → IsLive terms v ⊎ IsSpent v → length v.over ≤ length v.gathered + v.spares
      few v (inl l) = omega (arith, l.over_few)
      few v (inr s) = let e : length v.over ≡ 0 = ap length s.over in omega (arith, e)

  -- a change that leaves what seats are about
  pub seats_kept : (terms : Terms W) (vs : List (View W P)) (i : ℕ) (v w : View W P) → get_elem? vs i ≡ some v → w.gathered ≡ v.gathered → w.spares ≡ v.spares → IsLive terms w → Seats terms vs → Seats terms (set vs i w)
  seats_kept terms vs i v w at g s l h = record {
    each = λ x. total_kept (numbers terms.seats x) vs i v w at (rw (g, s) refl) ∙ h.each x;
    sum = total_kept (λ u. length u.gathered + u.spares) vs i v w at (rw (g, s) refl) ∙ h.sum;
    fits = each_set (λ u. IsLive terms u ⊎ IsSpent u) vs i w (inl l) h.fits;
    few = h.few;
  }

  -- the seat draws the next branch
  branches_drawn : (terms : Terms W) (n : ℕ) (words : List ℕ) (vs : List (View W P)) (i : ℕ) (v : View W P) → get_elem? vs i ≡ some v → v.held ≡ None → n < terms.job.branches → Branches terms (n ∷ words) vs
      → (claims (set vs i (holding n v)) ≡ n + 1) × (claims vs ≡ n) × Branches terms ((n + 1) % 2 ^ 64 ∷ words) (set vs i (holding n v))
  branches_drawn terms n words vs i v at free lt h =
      let w = holding n v in
      let gone : count_in v.held ≡ 0 = none_counts v.held free in
      let c = total_set (λ (u : View W P). count_in u.held + length u.entries) vs i v w at in
      let o = total_kept (λ (u : View W P). length u.over) vs i v w at refl in
      let zero_over : overs vs ≡ 0 = elim (overs vs) as (λ k. overs vs ≡ k → overs vs ≡ 0) [ zero ↦ (λ e. e) | suc k ↦ (λ e. absurd (omega (arith, h.done (omega (arith, e)), h.word, e, lt))) ] refl in
      let n_is : claims vs ≡ n = omega (arith, h.word, zero_over) in
      let more : claims (set vs i w) ≡ n + 1 = omega (arith, c, n_is, gone) in (
        more,
        n_is,
        record {
          word = omega (arith, more, o, zero_over, lt, h.few);
          most = omega (arith, more, lt);
          done = λ some_over. absurd (omega (arith, o, zero_over, some_over));
          each = λ k.
              let none_held : times_in k v.held ≡ 0 = ap (times_in k) free in
              let t = total_set (uses k) vs i v w at in
              let old : total (uses k) vs ≡ once_below k n = h.each k ∙ ap (once_below k) n_is in
              let sum : total (uses k) (set vs i w) ≡ once_below k (n + 1) = omega (arith, t, none_held, old, once_more k n) in
              sum ∙ ap (once_below k) (sym more);
          few = h.few;
        },
      )

  -- the seat draws past the last branch
  branches_passed : (terms : Terms W) (n : ℕ) (words : List ℕ) (vs : List (View W P)) (i : ℕ) (v : View W P) → get_elem? vs i ≡ some v → terms.job.branches ≤ n → Seats terms vs → Branches terms (n ∷ words) vs
      → (claims (set vs i (marked_over v)) ≡ claims vs) × Branches terms ((n + 1) % 2 ^ 64 ∷ words) (set vs i (marked_over v))
  branches_passed terms n words vs i v at ge seats h =
      let w = marked_over v in
      let c = total_kept (λ (u : View W P). count_in u.held + length u.entries) vs i v w at refl in
      let o = total_set (λ (u : View W P). length u.over) vs i v w at in
      let one_more : length w.over ≡ length v.over + 1 = longer v.over v.seat in
      let few = overs_few terms vs seats in
      let all : claims vs ≡ terms.job.branches = elim (overs vs) as (λ k. overs vs ≡ k → claims vs ≡ terms.job.branches) [ zero ↦ (λ e. omega (arith, h.most, h.word, e, ge)) | suc k ↦ (λ e. h.done (omega (arith, e))) ] refl in (
        c,
        record {
          word = omega (arith, c, o, one_more, all, h.word, few, seats.few, h.few);
          most = omega (arith, c, h.most);
          done = λ some_over. c ∙ all;
          each = λ k. total_kept (uses k) vs i v w at refl ∙ h.each k ∙ ap (once_below k) (sym c);
          few = h.few;
        },
      )
    where
      longer : (xs : List ℕ) (x : ℕ) → length (xs ++ x ∷ []) ≡ length xs + 1
      longer [] x = refl
      longer (y ∷ xs) x = omega (arith, longer xs x)

  -- a change that leaves what tickets are about, and words of which only the branch word changed
  tickets_kept : (n n2 : ℕ) (words : List ℕ) (vs : List (View W P)) (i : ℕ) (v w : View W P) → get_elem? vs i ≡ some v → w.ticket ≡ v.ticket → v.ticket ≡ None → Tickets (n ∷ words) vs → Tickets (n2 ∷ words) (set vs i w)
  tickets_kept n n2 words vs i v w at t idle h = record {
    waits = ap (λ c. slice_index (n ∷ words) 2 + c) (total_kept (λ (u : View W P). count_in u.ticket) vs i v w at (ap count_in t)) ∙ h.waits;
    each = λ x. total_kept (λ (u : View W P). times_in x u.ticket) vs i v w at (ap (times_in x) t) ∙ h.each x;
    held = each_set (λ (u : View W P). count_in u.ticket ≤ count_in u.held) vs i w (let e : count_in w.ticket ≡ 0 = ap count_in (t ∙ idle) in omega (arith, e)) h.held;
  }

  -- what a change of one view has to leave, so that the book is as before; the branch, its owner and the core may change
  pub record IsQuiet (v w : View W P) : Type 0 where
    pub gathered : w.gathered ≡ v.gathered
    pub entries : w.entries ≡ v.entries
    pub seen : w.seen ≡ v.seen
    pub unseen : v.seen ≡ None

  pub book_kept : (m : Parts P) (terms : Terms W) (words words2 : List ℕ) (homes : List (Home (Option (Pages P)))) (vs : List (View W P)) (i : ℕ) (v w : View W P) (pages : Pages P) (owners owners2 : List ℕ) (core core2 : State P)
      → slice_index words2 2 ≡ slice_index words 2 → get_elem? vs i ≡ some v → IsQuiet v w
      → length owners2 ≡ claims (set vs i w)
      → Each (IsOwner owners2 core2) (set vs i w)
      → replayed m (map Claim owners2 ++ pages.history.items) (opened m terms.job.branches) ≡ Ok core2
      → core2.merged ≡ core.merged
      → core2.next ≡ claims (set vs i w)
      → Written m terms words homes vs pages owners core
      → Written m terms words2 homes (set vs i w) pages owners2 core2
  book_kept m terms words words2 homes vs i v w pages owners owners2 core core2 same_served at quiet owned owner accepted merged next h = record {
    served = same_served ∙ h.served;
    weighed = λ f. h.weighed f ∙ sym (total_kept (λ u. total (λ e. f e.event) u.entries) vs i v w at (ap (total (λ e. f e.event)) quiet.entries));
    tickets = λ x. total_kept (λ u. total (λ e. same x e.ticket) u.entries) vs i v w at (ap (total (λ e. same x e.ticket)) quiet.entries) ∙ h.tickets x ∙ ap (once_below x) (sym same_served);
    placed = each_set (IsPlaced pages.history.items) vs i w (placed_as pages.history.items v w quiet (h.placed i v at)) h.placed;
    quiet = λ none_seen. h.quiet (each_unset (λ u. u.seen ≡ None) vs i v w at (λ e. sym quiet.seen ∙ e) none_seen);
    at_work = subst (λ n. Each (IsAtWork homes n pages) (set vs i w)) (sym same_served) (each_set (IsAtWork homes (slice_index words 2) pages) vs i w (λ seen e. absurd (no_pages seen (sym (quiet.seen ∙ quiet.unseen) ∙ e))) h.at_work);
    owned = owned;
    owner = owner;
    filings = h.filings;
    accepted = accepted;
    merged = h.merged ∙ sym merged;
    next = next;
    room = h.room;
  }
    where
      no_pages : (seen : Pages P) → ◌≡◌ {A = Option (Pages P)} None (Some seen) → ⊥
      no_pages seen e = cc

      placed_as : (history : List Event) (v w : View W P) → IsQuiet v w → IsPlaced history v → IsPlaced history w
      placed_as history v w q p = record {
        place = subst (Each (λ e. get_elem? history e.ticket ≡ some e.event)) (sym q.entries) p.place;
        rising = λ s. subst (λ es. IsRising (tickets_by s es)) (sym q.entries) (p.rising s);
        own = λ s some. subst (λ es. by_seat s history ≡ by_seat s (events_of es)) (sym q.entries) (p.own s (subst (λ g. 0 < times s g) q.gathered some));
      }

  -- the others still own what they held and filed, where the owners grow and the core stands as before at what is held
  owner_longer : (owners more : List ℕ) (core core2 : State P) (v : View W P) → ((k s : ℕ) → branch_at core.branches k ≡ Held s → branch_at core2.branches k ≡ Held s) → IsOwner owners core v → IsOwner (owners ++ more) core2 v
  owner_longer owners more core core2 v stay h = record {
    holds = λ k e. at_longer owners more k v.seat (h.holds k e);
    filed = λ j e at. at_longer owners more (branch_of e.event) (seat_of e.event) (h.filed j e at);
    stands = λ k e. stay k v.seat (h.stands k e);
  }

  module _ {Fits : P → Type 0} {m : Parts P} (laws : MergeLaws Fits m) where
    -- the book after a draw of a branch
    book_drawn : (terms : Terms W) (n n2 : ℕ) (words : List ℕ) (homes : List (Home (Option (Pages P)))) (vs : List (View W P)) (i : ℕ) (v : View W P) (pages : Pages P) (owners : List ℕ) (core : State P)
        → get_elem? vs i ≡ some v → v.held ≡ None → v.seen ≡ None → n < terms.job.branches → claims vs ≡ n → claims (set vs i (holding n v)) ≡ n + 1
        → Written m terms (n ∷ words) homes vs pages owners core
        → Written m terms (n2 ∷ words) homes (set vs i (holding n v)) pages (owners ++ v.seat ∷ []) (claimed v.seat core)
    book_drawn terms n n2 words homes vs i v pages owners core at free unseen lt is more h =
        let w = holding n v in
        let history = pages.history.items in
        let b = terms.job.branches in
        let r : Reaches laws (map Claim owners ++ history) (opened m b) core = reaches laws (map Claim owners ++ history) (opened m b) core (opened-core laws b) h.accepted in
        let count : length core.branches ≡ b = r.count ∙ length-replicate b Free in
        let within : nat_lt core.next (length core.branches) ≡ true = grind (arith, nat_tests, count, h.next, is, lt) in
        let next_is : core.next ≡ n = h.next ∙ is in
        let set_is : (claimed v.seat core).branches ≡ set core.branches core.next (Held v.seat) = rw within refl in
        let here_held : branch_at (claimed v.seat core).branches n ≡ Held v.seat =
        ap (λ bs. branch_at bs n) set_is ∙ ap (λ k. branch_at (set core.branches k (Held v.seat)) n) next_is ∙ get_or-set_same core.branches n (Held v.seat) Free (omega (arith, count, lt)) in
        let stay : (k s : ℕ) → branch_at core.branches k ≡ Held s → branch_at (claimed v.seat core).branches k ≡ Held s = λ k s e. stands {m = m} v.seat k core (λ f. held_free s (sym e ∙ f)) r.core ∙ e in
        let at_end : get_elem? (owners ++ v.seat ∷ []) n ≡ some v.seat = at_last owners v.seat n (h.owned ∙ is) in
        let mine : IsOwner (owners ++ v.seat ∷ []) (claimed v.seat core) w = record {
          holds = λ k e. subst (λ j. get_elem? (owners ++ v.seat ∷ []) j ≡ some v.seat) (some_is n k e) at_end;
          filed = λ j e a. at_longer owners (v.seat ∷ []) (branch_of e.event) (seat_of e.event) ((h.owner i v at).filed j e a);
          stands = λ k e. subst (λ j. branch_at (claimed v.seat core).branches j ≡ Held v.seat) (some_is n k e) here_held;
        } in
        book_kept m terms (n ∷ words) (n2 ∷ words) homes vs i v w pages owners (owners ++ v.seat ∷ []) core (claimed v.seat core) refl at
        (record { gathered = refl; entries = refl; seen = refl; unseen = unseen })
        (length_snoc owners v.seat ∙ ap (λ k. k + 1) (h.owned ∙ is) ∙ sym more)
        (each_set (IsOwner (owners ++ v.seat ∷ []) (claimed v.seat core)) vs i w mine (λ j u a. owner_longer owners (v.seat ∷ []) core (claimed v.seat core) u stay (h.owner j u a)))
        (ap (λ l. replayed m (l ++ history) (opened m b)) (map_snoc Claim owners v.seat) ∙ claims-first laws b v.seat (map Claim owners) history core h.accepted h.filings)
        (rw within refl)
        ((let e : (claimed v.seat core).next ≡ core.next + 1 = rw within refl in e ∙ ap (λ k. k + 1) next_is) ∙ sym more)
        h
      where
        held_free : (s : ℕ) → ◌≡◌ {A = Branch} (Held s) Free → ⊥
        held_free s e = cc

        some_is : (n k : ℕ) → ◌≡◌ {A = Option ℕ} (Some n) (Some k) → n ≡ k
        some_is n k e = cc

        length_snoc : (xs : List ℕ) (x : ℕ) → length (xs ++ x ∷ []) ≡ length xs + 1
        length_snoc [] x = refl
        length_snoc (y ∷ xs) x = omega (arith, length_snoc xs x)

    -- the board after a draw of a branch
    drawn : (terms : Terms W) (n : ℕ) (words : List ℕ) (homes : List (Home (Option (Pages P)))) (vs : List (View W P)) (i : ℕ) (v : View W P)
        → get_elem? vs i ≡ some v → v.terms ≡ Some terms → v.held ≡ None → v.seen ≡ None → v.ticket ≡ None → n < terms.job.branches
        → Holds m terms (record { words = n ∷ words; homes = homes; views = vs })
        → Holds m terms (record { words = (n + 1) % 2 ^ 64 ∷ words; homes = homes; views = set vs i (holding n v) })
    drawn terms n words homes vs i v at of_board free unseen idle lt h =
        let l = live terms v of_board (h.seats.fits i v at) in
        let b = branches_drawn terms n words vs i v at free lt h.branches in
        record {
          words = h.words;
          seats = seats_kept terms vs i v (holding n v) at refl refl (record { of_board = l.of_board; spares = l.spares; seat = l.seat; over = l.over; over_few = l.over_few; entries = l.entries }) h.seats;
          branches = b.2;
          tickets = tickets_kept n ((n + 1) % 2 ^ 64) words vs i v (holding n v) at refl idle h.tickets;
          book = (h.book.0, h.book.1 ++ v.seat ∷ [], claimed v.seat h.book.2, book_drawn terms n ((n + 1) % 2 ^ 64) words homes vs i v h.book.0 h.book.1 h.book.2 at free unseen lt b.1 b.0 h.book.3);
        }

    -- the board after a draw past the last branch
    passed : (terms : Terms W) (n : ℕ) (words : List ℕ) (homes : List (Home (Option (Pages P)))) (vs : List (View W P)) (i : ℕ) (v : View W P)
        → get_elem? vs i ≡ some v → v.terms ≡ Some terms → v.over ≡ [] → v.seen ≡ None → v.ticket ≡ None → terms.job.branches ≤ n
        → Holds m terms (record { words = n ∷ words; homes = homes; views = vs })
        → Holds m terms (record { words = (n + 1) % 2 ^ 64 ∷ words; homes = homes; views = set vs i (marked_over v) })
    passed terms n words homes vs i v at of_board unmarked unseen idle ge h =
        let l = live terms v of_board (h.seats.fits i v at) in
        let w = marked_over v in
        let b = branches_passed terms n words vs i v at ge h.seats h.branches in
        let k = h.book.3 in
        let o = k.owner i v at in
        let one : w.over ≡ v.seat ∷ [] = ap (λ l. l ++ v.seat ∷ []) unmarked in
        record {
          words = h.words;
          seats = seats_kept terms vs i v w at refl refl (record {
            of_board = l.of_board;
            spares = l.spares;
            seat = l.seat;
            over = subst (Each (λ x. 0 < times x v.gathered)) (sym one) (alone (λ x. 0 < times x v.gathered) v.seat l.seat);
            over_few = rw one (some_there v.seat v.gathered l.seat);
            entries = l.entries;
          }) h.seats;
          branches = b.1;
          tickets = tickets_kept n ((n + 1) % 2 ^ 64) words vs i v w at refl idle h.tickets;
          book = (
            h.book.0,
            h.book.1,
            h.book.2,
            book_kept m terms (n ∷ words) ((n + 1) % 2 ^ 64 ∷ words) homes vs i v w h.book.0 h.book.1 h.book.1 h.book.2 h.book.2 refl at
                (record { gathered = refl; entries = refl; seen = refl; unseen = unseen })
                (k.owned ∙ sym b.0)
                (each_set (IsOwner h.book.1 h.book.2) vs i w (record { holds = o.holds; filed = o.filed; stands = o.stands }) k.owner)
                k.accepted refl (k.next ∙ sym b.0) k,
          );
        }
      where
        alone : (Q : ℕ → Type 0) (x : ℕ) → Q x → Each Q (x ∷ [])
        alone Q x q zero y at = subst Q (some-injective x y at) q
        alone Q x q (suc j) y at = absurd (some-ne-none y (sym at))

        some_there : (x : ℕ) (xs : List ℕ) → 0 < times x xs → 1 ≤ length xs
        some_there x [] h = absurd (omega (arith, h))
        some_there x (y ∷ ys) h = omega arith

    -- either way the step is one that the rule allows
    drawn_or_passed : (terms : Terms W) (v : View W P) (words : List ℕ) (homes : List (Home (Option (Pages P)))) (vs : List (View W P)) (i : ℕ) (c : List (ℕ × Option (Pages P)))
        → v.terms ≡ Some terms → v.ticket ≡ None → v.seen ≡ None → v.held ≡ None → v.over ≡ []
        → Holds m terms (record { words = words; homes = homes; views = vs }) → get_elem? vs i ≡ some v
        → (w : View W P) × (a : Act (Option (Pages P))) × Valid homes c a
        × Holds m terms (stepped (record { words = words; homes = homes; views = vs }) 0 ((slice_index words 0 + 1) % 2 ^ 64) i c w a)
        × (Claimed v (slice_index words 0) w × (carried_after c a ≡ c))
    drawn_or_passed terms v [] homes vs i c of_board idle unseen free unmarked h at = absurd (omega (arith, h.words))
    drawn_or_passed terms v (n ∷ words) homes vs i c of_board idle unseen free unmarked h at =
        let b_is : branches_of v ≡ terms.job.branches = ap (λ (t : Option (Terms W)). elim t [ None ↦ 0 | Some t ↦ t.job.branches ]) of_board in
        elim (cases_Bool (nat_lt n (branches_of v))) [
          | inl t ↦ let less : n < terms.job.branches = grind (arith, nat_tests, t, b_is) in
              (holding n v, keeps, tt, drawn terms n words homes vs i v at of_board free unseen idle less h, (rw t refl, refl))
          | inr f ↦ let least : terms.job.branches ≤ n = grind (arith, nat_tests, f, b_is) in
              (marked_over v, keeps, tt, passed terms n words homes vs i v at of_board unmarked unseen idle least h, (rw f refl, refl))
        ]

    -- a claim may be made
    pub claims_allowed : (terms : Terms W) (slots number spares id : ℕ) (me : Me (Option (Pages P)) (View W P)) → IsAtRest terms number spares me → me.0.held ≡ None → me.0.over ≡ []
        → Allows (Holds m terms) slots id me 0 (λ n. (n + 1) % 2 ^ 64) (λ found after. Claimed me.0 found after.0 × (after.1 ≡ me.1))
    claims_allowed terms slots number spares id me rest free unmarked s h len at lt = drawn_or_passed terms me.0 s.words s.homes s.views id me.1 rest.of_board rest.ticket rest.seen free unmarked h at
