-- A seat number is with one pass alone, so a seat that nobody gathered has no entry, and of two passes one has no entry of it.
use Rattle.std.proofs.Common.{◌≡◌, ◌≢◌, ◌⊎◌, ℕ, zero, suc, ◌+◌, ◌-◌, ◌<◌, ◌≤◌, List, [], ◌∷◌, ◌++◌, map, length, set, Bool, true, false, cond, Option, Some, None, refl, sym, ap, ◌∙◌, subst, inl, inr, arith}
use Rattle.std.specs.Prelude.{nat_lt, nat_le, if◌then◌else◌, ◌==◌, ◌&&◌, max}
use Rattle.std.proofs.lemmas.Bool.{cases_Bool, cases_eq}
use Rattle.std.proofs.lemmas.Bool.Decides.{nat_tests}
use mathlib.Core.Option.{some, some-injective, some-ne-none}
use lib.ListN.{get_elem?}
use Rattle.sa_core.specs.declared.event.Event.{Event}
use Rattle.sa_book.specs.declared.view.Terms.{Terms}
use Rattle.sa_book.specs.declared.view.Slip.{Slip}
use Rattle.sa_book.specs.declared.view.View.{View}
use Rattle.sa_book.specs.Counts.{total, same, times, once_below, once_between, Each}
use Rattle.sa_book.specs.Rule.{Seats, IsLive, IsSpent, numbers, seat_of, by_seat, events_of, tickets_by}
use Rattle.sa_book.proofs.Counting.{total_at, total_two, total_zero}

pub same_self : (x : ℕ) → same x x ≡ 1
same_self x = grind (arith, nat_tests)

pub below_once : (x n : ℕ) → once_below x n ≤ 1
below_once x n = grind (arith, nat_tests)

pub zero_or_more : (n : ℕ) → (n ≡ 0) ⊎ (0 < n)
zero_or_more zero = inl refl
zero_or_more (suc n) = inr (omega arith)

pub decide : {P : Type 0} (i j : ℕ) → (i ≡ j → P) → (i ≢ j → P) → P
decide i j if_same if_not = elim (cases_eq i j) [ inl e ↦ if_same e | inr ne ↦ if_not ne ]

-- events that are counted 0 times aren't there
pub no_events : (w : ℕ) (history : List Event) → total (λ e. same w (seat_of e)) history ≡ 0 → by_seat w history ≡ []
no_events w [] h = refl
no_events w (e ∷ history) h = elim (cases_Bool (seat_of e == w)) [
  | inl t ↦ let one : same w (seat_of e) ≡ 1 = rw t refl in absurd (omega (arith, h, one))
  | inr f ↦ rw f (no_events w history (omega (arith, h)))
]

pub no_tickets : (w : ℕ) (entries : List Slip) → Each (λ e. same w (seat_of e.event) ≡ 0) entries → tickets_by w entries ≡ []
no_tickets w [] h = refl
no_tickets w (e ∷ entries) h = elim (cases_Bool (seat_of e.event == w)) [
  | inl t ↦ let one : same w (seat_of e.event) ≡ 1 = rw t refl in absurd (omega (arith, h 0 e refl, one))
  | inr f ↦ rw f (no_tickets w entries (λ i x at. h (suc i) x at))
]

pub no_own : (w : ℕ) (entries : List Slip) → Each (λ e. same w (seat_of e.event) ≡ 0) entries → by_seat w (events_of entries) ≡ []
no_own w [] h = refl
no_own w (e ∷ entries) h = elim (cases_Bool (seat_of e.event == w)) [
  | inl t ↦ let one : same w (seat_of e.event) ≡ 1 = rw t refl in absurd (omega (arith, h 0 e refl, one))
  | inr f ↦ rw f (no_own w entries (λ i x at. h (suc i) x at))
]

module _ {W P : Type 0} where
  -- a pass that hasn't gathered the seat has no entry of it
  pub none_of_seat : (terms : Terms W) (w : ℕ) (v : View W P) → IsLive terms v ⊎ IsSpent v → times w v.gathered ≡ 0 → Each (λ e. same w (seat_of e.event) ≡ 0) v.entries
  none_of_seat terms w v (inl l) none i e at = elim (cases_eq (seat_of e.event) w) [
    | inl is ↦ let some_there : 0 < times w v.gathered = subst (λ s. 0 < times s v.gathered) is (l.entries i e at) in absurd (omega (arith, none, some_there))
    | inr ne ↦ grind (arith, nat_tests)
  ]
  none_of_seat terms w v (inr s) none i e at = absurd (some-ne-none e (sym at ∙ ap (λ es. get_elem? es i) s.entries))

  -- of a seat that no pass gathered, nothing stands in a history that has the entries
  pub nothing_by : (terms : Terms W) (w : ℕ) (history : List Event) (vs : List (View W P)) → Each (λ v. IsLive terms v ⊎ IsSpent v) vs → Each (λ v. times w v.gathered ≡ 0) vs
      → total (λ e. same w (seat_of e)) history ≡ total (λ v. total (λ e. same w (seat_of e.event)) v.entries) vs
      → by_seat w history ≡ []
  nothing_by terms w history vs fits none weighed = no_events w history (weighed ∙ total_zero (λ (v : View W P). total (λ e. same w (seat_of e.event)) v.entries) vs (λ i v at.
      total_zero (λ (e : Slip). same w (seat_of e.event)) v.entries (none_of_seat terms w v (fits i v at) (none i v at))))

  -- whoever has a number has it alone
  pub one_has : (terms : Terms W) (vs : List (View W P)) (i j : ℕ) (v u : View W P) (x : ℕ) → Seats terms vs → i ≢ j → get_elem? vs i ≡ some v → get_elem? vs j ≡ some u → 0 < numbers terms.seats x v → numbers terms.seats x u ≡ 0
  one_has terms vs i j v u x h apart at at_u mine = omega (arith, total_two (numbers terms.seats x) vs i j v u apart at at_u, h.each x, below_once x terms.seats, mine)
