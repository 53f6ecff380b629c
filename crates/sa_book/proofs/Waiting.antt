-- To draw a ticket and to look at the served word keep the board rule.
use Rattle.std.proofs.Common.{◌≡◌, ◌≢◌, ◌⊎◌, ℕ, zero, suc, ◌+◌, ◌-◌, ◌%◌, ◌^◌, ◌<◌, ◌≤◌, List, [], ◌∷◌, ◌++◌, map, length, set, Bool, true, false, Option, Some, None, refl, sym, ap, ◌∙◌, subst, inl, inr, arith, slice_index}
use Rattle.std.specs.Prelude.{nat_lt, nat_le, if◌then◌else◌, ◌==◌, ◌&&◌, MatchBool}
use Rattle.std.specs.Vec.{vec_len, vec_capacity}
use Rattle.std.proofs.lemmas.Bool.{cases_Bool, cases_eq}
use Rattle.std.proofs.lemmas.Bool.Decides.{nat_tests}
use mathlib.Core.Option.{Option as Home, some, none, some-injective, some-ne-none}
use lib.ListN.{get_elem?}
use Rattle.atomic_table.specs.Table.{State as Table, Me, Act, keeps, takes, Allows, Valid, stepped, carried_after}
use Rattle.atomic_table.proofs.Lists.{set_again, at_set}
use Rattle.sa_core.specs.declared.event.Event.{Event}
use Rattle.sa_core.specs.declared.event.Event.TheVariants.{Claim}
use Rattle.sa_core.specs.Laws.{Parts, MergeLaws}
use Rattle.sa_core.specs.Machine.{State, opened}
use Rattle.sa_core.proofs.Keeping.{reaches, opened-core, core-fits}
use Rattle.sa_book.specs.declared.view.Terms.{Terms}
use Rattle.sa_book.specs.declared.view.Pages.{Pages}
use Rattle.sa_book.specs.declared.view.Slip.{Slip}
use Rattle.sa_book.specs.declared.view.View.{View}
use Rattle.sa_book.specs.Counts.{total, same, times, times_in, count_in, once_below, once_between, Each}
use Rattle.sa_book.specs.Rule.{Holds, Seats, Branches, Tickets, Written, IsLive, IsSpent, IsPlaced, IsOwner, IsAtWork, uses, claims, overs}
use Rattle.sa_book.specs.Steps.{drawing, seeing, is_served, Looked, Sees, FitsBoard, IsIdle}
use Rattle.sa_book.proofs.Counting.{total_set, total_kept, total_le, total_at, total_two, each_set, here}
use Rattle.sa_book.proofs.Claiming.{live, seats_kept, book_kept}
use Rattle.sa_book.proofs.Alone.{same_self, decide}

pub total_plus : {A : Type 0} (f g : A → ℕ) (xs : List A) → total (λ x. f x + g x) xs ≡ total f xs + total g xs
total_plus f g [] = refl
total_plus f g (x ∷ xs) = omega (arith, total_plus f g xs)

pub total_one : {A : Type 0} (xs : List A) → total (λ x. 1) xs ≡ length xs
total_one [] = refl
total_one (x ∷ xs) = omega (arith, total_one xs)

one_ticket_more : (x s t : ℕ) → s ≤ t → once_between x s t + same x t ≡ once_between x s (t + 1)
one_ticket_more x s t le = grind (arith, nat_tests)

pub between_once : (x s t : ℕ) → once_between x s t ≤ 1
between_once x s t = grind (arith, nat_tests)

module _ {W P : Type 0} where
  -- there are no more tickets than claims
  pub tickets_few : (m : Parts P) (terms : Terms W) (s : Table (Option (Pages P)) (View W P)) → Holds m terms s → slice_index s.words 1 ≤ terms.job.branches
  tickets_few m terms s h =
      let k = h.book.3 in
      let waiting = total_le (λ (v : View W P). count_in v.ticket + total (λ e. 1) v.entries) (λ v. count_in v.held + length v.entries) s.views (λ i v at. omega (arith, h.tickets.held i v at, total_one v.entries)) in
      let parts = total_plus (λ (v : View W P). count_in v.ticket) (λ v. total (λ e. 1) v.entries) s.views in
      let all = k.weighed (λ e. 1) in
      omega (arith, waiting, parts, all, total_one h.book.0.history.items, k.served, h.tickets.waits, h.branches.most)

  -- branches, where what is held and filed stays
  pub branches_kept : (terms : Terms W) (words words2 : List ℕ) (vs : List (View W P)) (i : ℕ) (v w : View W P) → slice_index words2 0 ≡ slice_index words 0 → get_elem? vs i ≡ some v → w.held ≡ v.held → w.entries ≡ v.entries → w.over ≡ v.over → Branches terms words vs
      → (claims (set vs i w) ≡ claims vs) × Branches terms words2 (set vs i w)
  branches_kept terms words words2 vs i v w same_word at held entries over h =
      let c = total_kept (λ (u : View W P). count_in u.held + length u.entries) vs i v w at (rw (held, entries) refl) in
      let o = total_kept (λ (u : View W P). length u.over) vs i v w at (rw over refl) in (
        c,
        record {
          word = omega (arith, same_word, h.word, c, o);
          most = omega (arith, c, h.most);
          done = λ some_over. c ∙ h.done (omega (arith, o, some_over));
          each = λ b. total_kept (uses b) vs i v w at (rw (held, entries) refl) ∙ h.each b ∙ ap (once_below b) (sym c);
          few = h.few;
        },
      )

  -- whoever has the served ticket is alone at work
  pub alone : (m : Parts P) (terms : Terms W) (a b c : ℕ) (homes : List (Home (Option (Pages P)))) (vs : List (View W P)) (i j : ℕ) (v u : View W P) (seen : Pages P) → Holds m terms (record { words = a ∷ b ∷ c ∷ []; homes = homes; views = vs })
      → get_elem? vs i ≡ some v → v.ticket ≡ Some c → j ≢ i → get_elem? vs j ≡ some u → u.seen ≡ Some seen → ⊥
  alone m terms a b c homes vs i j v u seen h at mine apart at_u busy =
      let k = h.book.3 in
      let theirs = (k.at_work j u at_u seen busy).1 in
      let two = total_two (λ (w : View W P). times_in c w.ticket) vs j i u v apart at_u at in
      let one_v : times_in c v.ticket ≡ 1 = ap (times_in c) mine ∙ same_self c in
      let one_u : times_in c u.ticket ≡ 1 = ap (times_in c) theirs ∙ same_self c in
      absurd (omega (arith, two, one_v, one_u, h.tickets.each c, between_once c c b))

  ticket_drawn : (m : Parts P) (terms : Terms W) (a t c : ℕ) (homes : List (Home (Option (Pages P)))) (vs : List (View W P)) (i k : ℕ) (v : View W P)
      → get_elem? vs i ≡ some v → v.terms ≡ Some terms → v.held ≡ Some k → v.seen ≡ None → v.ticket ≡ None
      → Holds m terms (record { words = a ∷ t ∷ c ∷ []; homes = homes; views = vs })
      → Holds m terms (record { words = a ∷ (t + 1) % 2 ^ 64 ∷ c ∷ []; homes = homes; views = set vs i (drawing t v) })
  ticket_drawn m terms a t c homes vs i k v at of_board held unseen idle h =
      let w = drawing t v in
      let l = live terms v of_board (h.seats.fits i v at) in
      let few = tickets_few m terms (record { words = a ∷ t ∷ c ∷ []; homes = homes; views = vs }) h in
      let t2 = (t + 1) % 2 ^ 64 in
      let t_is : t2 ≡ t + 1 = omega (arith, few, h.branches.few) in
      let br = branches_kept terms (a ∷ t ∷ c ∷ []) (a ∷ t2 ∷ c ∷ []) vs i v w refl at refl refl refl h.branches in
      let n = total_set (λ (u : View W P). count_in u.ticket) vs i v w at in
      let had_none : count_in v.ticket ≡ 0 = ap count_in idle in
      let holds_one : count_in v.held ≡ 1 = ap count_in held in
      let low : c ≤ t = omega (arith, h.tickets.waits) in
      let b = h.book.3 in
      let o = b.owner i v at in
      record {
        words = h.words;
        seats = seats_kept terms vs i v w at refl refl (record { of_board = l.of_board; spares = l.spares; seat = l.seat; over = l.over; over_few = l.over_few; entries = l.entries }) h.seats;
        branches = br.1;
        tickets = record {
          waits = omega (arith, n, had_none, t_is, h.tickets.waits);
          each = λ x.
              let s = total_set (λ (u : View W P). times_in x u.ticket) vs i v w at in
              let z : times_in x v.ticket ≡ 0 = ap (times_in x) idle in
              let sum : total (λ (u : View W P). times_in x u.ticket) (set vs i w) ≡ once_between x c (t + 1) = omega (arith, s, z, h.tickets.each x, one_ticket_more x c t low) in
              sum ∙ ap (once_between x c) (sym t_is);
          held = each_set (λ (u : View W P). count_in u.ticket ≤ count_in u.held) vs i w (omega (arith, holds_one)) h.tickets.held;
        };
        book = (
          h.book.0,
          h.book.1,
          h.book.2,
          book_kept m terms (a ∷ t ∷ c ∷ []) (a ∷ t2 ∷ c ∷ []) homes vs i v w h.book.0 h.book.1 h.book.1 h.book.2 h.book.2 refl at
              (record { gathered = refl; entries = refl; seen = refl; unseen = unseen })
              (b.owned ∙ sym br.0)
              (each_set (IsOwner h.book.1 h.book.2) vs i w (record { holds = o.holds; filed = o.filed; stands = o.stands }) b.owner)
              b.accepted refl (b.next ∙ sym br.0) b,
        );
      }

  draw_at : (m : Parts P) (terms : Terms W) (v : View W P) (words : List ℕ) (homes : List (Home (Option (Pages P)))) (vs : List (View W P)) (i k : ℕ) (c : List (ℕ × Option (Pages P)))
      → v.terms ≡ Some terms → v.held ≡ Some k → v.seen ≡ None → v.ticket ≡ None → c ≡ []
      → Holds m terms (record { words = words; homes = homes; views = vs }) → get_elem? vs i ≡ some v
      → (w : View W P) × (a : Act (Option (Pages P))) × Valid homes c a
      × Holds m terms (stepped (record { words = words; homes = homes; views = vs }) 1 ((slice_index words 1 + 1) % 2 ^ 64) i c w a)
      × ◌≡◌ {A = Me (Option (Pages P)) (View W P)} (w, carried_after c a) (drawing (slice_index words 1) v, [])
  draw_at m terms v [] homes vs i k c of_board held unseen idle out h at = absurd (omega (arith, h.words))
  draw_at m terms v (x ∷ []) homes vs i k c of_board held unseen idle out h at = absurd (omega (arith, h.words))
  draw_at m terms v (x ∷ y ∷ []) homes vs i k c of_board held unseen idle out h at = absurd (omega (arith, h.words))
  draw_at m terms v (x ∷ y ∷ z ∷ []) homes vs i k c of_board held unseen idle out h at = (drawing y v, keeps, tt, ticket_drawn m terms x y z homes vs i k v at of_board held unseen idle h, ap (λ l. (drawing y v, l)) out)
  draw_at m terms v (x ∷ y ∷ z ∷ u ∷ ws) homes vs i k c of_board held unseen idle out h at = absurd (omega (arith, h.words))

  pub draws_allowed : (m : Parts P) (terms : Terms W) (slots branch id : ℕ) (me : Me (Option (Pages P)) (View W P)) → IsIdle terms branch me → me.0.ticket ≡ None
      → Allows (Holds m terms) slots id me 1 (λ n. (n + 1) % 2 ^ 64) (λ found after. after ≡ (drawing found me.0, me.1))
  draws_allowed m terms slots branch id me idle none_yet s h len at lt =
      let r = draw_at m terms me.0 s.words s.homes s.views id branch me.1 idle.of_board idle.held idle.seen none_yet idle.slot h at in
      (r.0, r.1, r.2, r.3, r.4 ∙ ap (λ l. (drawing (slice_index s.words 1) me.0, l)) (sym idle.slot))

  -- when its ticket is served, the slot has the book, and from here on it is this seat's
  served : (m : Parts P) (terms : Terms W) (a b c : ℕ) (homes : List (Home (Option (Pages P)))) (vs : List (View W P)) (i : ℕ) (v : View W P)
      → get_elem? vs i ≡ some v → v.terms ≡ Some terms → v.seen ≡ None → v.ticket ≡ Some c
      → (h : Holds m terms (record { words = a ∷ b ∷ c ∷ []; homes = homes; views = vs }))
      → (homes ≡ some (Some h.book.0) ∷ []) × Holds m terms (record { words = a ∷ b ∷ c ∷ []; homes = none ∷ []; views = set vs i (seeing h.book.0 v) })
  served m terms a b c homes vs i v at of_board unseen mine h =
      let pages = h.book.0 in
      let w = seeing pages v in
      let l = live terms v of_board (h.seats.fits i v at) in
      let k = h.book.3 in
      let o = k.owner i v at in
      let p = k.placed i v at in
      let words : List ℕ = a ∷ b ∷ c ∷ [] in
      let br = branches_kept terms words words vs i v w refl at refl refl refl h.branches in
      let out : List (Home (Option (Pages P))) = none ∷ [] in
      let is_home = k.quiet (λ j u at_u. decide j i
      (λ e. let is : u ≡ v = some-injective u v (sym at_u ∙ ap (get_elem? vs) e ∙ at) in ap (λ (z : View W P). z.seen) is ∙ unseen)
      (λ ne. not_seen u.seen (λ seen e. alone m terms a b c homes vs i j v u seen h at mine ne at_u e))) in (
        is_home,
        record {
          words = h.words;
          seats = seats_kept terms vs i v w at refl refl (record { of_board = l.of_board; spares = l.spares; seat = l.seat; over = l.over; over_few = l.over_few; entries = l.entries }) h.seats;
          branches = br.1;
          tickets = record {
            waits = ap (λ n. c + n) (total_kept (λ (u : View W P). count_in u.ticket) vs i v w at refl) ∙ h.tickets.waits;
            each = λ x. total_kept (λ (u : View W P). times_in x u.ticket) vs i v w at refl ∙ h.tickets.each x;
            held = each_set (λ (u : View W P). count_in u.ticket ≤ count_in u.held) vs i w (h.tickets.held i v at) h.tickets.held;
          };
          book = (
            pages,
            h.book.1,
            h.book.2,
            record {
              served = k.served;
              weighed = λ f. k.weighed f ∙ sym (total_kept (λ (u : View W P). total (λ e. f e.event) u.entries) vs i v w at refl);
              tickets = λ x. total_kept (λ (u : View W P). total (λ e. same x e.ticket) u.entries) vs i v w at refl ∙ k.tickets x;
              placed = each_set (IsPlaced pages.history.items) vs i w (record { place = p.place; rising = p.rising; own = p.own }) k.placed;
              quiet = λ none_seen. absurd (no_pages pages (sym (none_seen i w (here vs i v w at))));
              at_work = λ j u at_u. elim (at_set vs i j w u at_u) [
                | inl e ↦ subst (IsAtWork out c pages) e.1 (λ seen is. (sym (same_pages pages seen is), mine, refl))
                | inr e ↦ (λ seen is. absurd (alone m terms a b c homes vs i j v u seen h at mine e.0 e.1 is))
              ];
              owned = k.owned ∙ sym br.0;
              owner = each_set (IsOwner h.book.1 h.book.2) vs i w (record { holds = o.holds; filed = o.filed; stands = o.stands }) k.owner;
              filings = k.filings;
              accepted = k.accepted;
              merged = k.merged;
              next = k.next ∙ sym br.0;
              room = k.room;
            },
          );
        },
      )
    where
      no_pages : (seen : Pages P) → ◌≡◌ {A = Option (Pages P)} None (Some seen) → ⊥
      no_pages seen e = cc

      not_seen : (o : Option (Pages P)) → ((seen : Pages P) → o ≡ Some seen → ⊥) → o ≡ None
      not_seen None no_one = refl
      not_seen (Some seen) no_one = absurd (no_one seen refl)

      same_pages : (x y : Pages P) → ◌≡◌ {A = Option (Pages P)} (Some x) (Some y) → x ≡ y
      same_pages x y e = cc

  -- a book that is looked at fits, and has room for one event more
  room_for : (Fits : P → Type 0) (m : Parts P) (laws : MergeLaws Fits m) (terms : Terms W) (a b c : ℕ) (homes : List (Home (Option (Pages P)))) (vs : List (View W P)) (i : ℕ) (v : View W P)
      → get_elem? vs i ≡ some v → v.ticket ≡ Some c
      → (h : Holds m terms (record { words = a ∷ b ∷ c ∷ []; homes = homes; views = vs }))
      → Fits h.book.0.merged × (vec_len h.book.0.history < vec_capacity h.book.0.history)
  room_for Fits m laws terms a b c homes vs i v at mine h =
      let k = h.book.3 in
      let core = (reaches laws (map Claim h.book.1 ++ h.book.0.history.items) (opened m terms.job.branches) h.book.2 (opened-core laws terms.job.branches) k.accepted).core in
      let few = tickets_few m terms (record { words = a ∷ b ∷ c ∷ []; homes = homes; views = vs }) h in
      let one : count_in v.ticket ≡ 1 = ap count_in mine in (
        subst Fits (sym k.merged) (core-fits laws h.book.2 core),
        omega (arith, total_at (λ (u : View W P). count_in u.ticket) vs i v at, one, h.tickets.waits, few, k.served, k.room, h.book.0.history.ok.0),
      )

  look_at : (Fits : W → P → Type 0) (m : Parts P) (terms : Terms W) (laws : MergeLaws (Fits terms.job.work) m) (v : View W P) (words : List ℕ) (homes : List (Home (Option (Pages P)))) (vs : List (View W P)) (i t : ℕ) (c : List (ℕ × Option (Pages P)))
      → v.terms ≡ Some terms → v.seen ≡ None → v.ticket ≡ Some t → c ≡ []
      → Holds m terms (record { words = words; homes = homes; views = vs }) → get_elem? vs i ≡ some v
      → (w : View W P) × (a : Act (Option (Pages P))) × Valid homes c a
      × Holds m terms (stepped (record { words = words; homes = homes; views = vs }) 2 (slice_index words 2) i c w a)
      × Looked Fits (v, c) (slice_index words 2) (w, carried_after c a)
  look_at Fits m terms laws v [] homes vs i t c of_board unseen mine out h at = absurd (omega (arith, h.words))
  look_at Fits m terms laws v (x ∷ []) homes vs i t c of_board unseen mine out h at = absurd (omega (arith, h.words))
  look_at Fits m terms laws v (x ∷ y ∷ []) homes vs i t c of_board unseen mine out h at = absurd (omega (arith, h.words))
  look_at Fits m terms laws v (x ∷ y ∷ z ∷ []) homes vs i t c of_board unseen mine out h at =
      let asked : is_served z v.ticket ≡ (z == t) = ap (is_served z) mine in
      elim (cases_Bool (z == t)) [
        | inl e ↦
            let z_is : z ≡ t = grind (arith, nat_tests, e) in
            let now : v.ticket ≡ Some z = mine ∙ ap Some (sym z_is) in
            let r = served m terms x y z homes vs i v at of_board unseen now h in
            let pages = h.book.0 in
            let f = room_for (Fits terms.job.work) m laws terms x y z homes vs i v at now h in
            let fits : FitsBoard Fits v pages.merged = subst (λ (o : Option (Terms W)). let p : Type 0 = elim o [ None ↦ Unit {0} | Some terms ↦ Fits terms.job.work pages.merged ] in p) (sym of_board) f.0 in (
              seeing pages v,
              takes 0 (Some pages),
              ap (λ hs. get_elem? hs 0) r.0,
              subst (λ hs. Holds m terms (record { words = x ∷ y ∷ z ∷ []; homes = set hs 0 none; views = set vs i (seeing pages v) })) (sym r.0) r.1,
              rw (asked, e) (pages, ap (λ l. (seeing pages v, (0, Some pages) ∷ l)) out, fits, f.1),
            )
        | inr e ↦ (v, keeps, tt, subst (λ us. Holds m terms (record { words = x ∷ y ∷ z ∷ []; homes = homes; views = us })) (sym (set_again vs i v at)) h, rw (asked, e) refl)
      ]
  look_at Fits m terms laws v (x ∷ y ∷ z ∷ u ∷ ws) homes vs i t c of_board unseen mine out h at = absurd (omega (arith, h.words))

  pub looks_allowed : (Fits : W → P → Type 0) (m : Parts P) (terms : Terms W) (laws : MergeLaws (Fits terms.job.work) m) (slots branch id t : ℕ) (me : Me (Option (Pages P)) (View W P)) → IsIdle terms branch me → me.0.ticket ≡ Some t
      → Allows (Holds m terms) slots id me 2 (λ n. n) (Looked Fits me)
  looks_allowed Fits m terms laws slots branch id t me idle mine s h len at lt = look_at Fits m terms laws me.0 s.words s.homes s.views id t me.1 idle.of_board idle.seen mine idle.slot h at
