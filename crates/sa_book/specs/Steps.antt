-- The steps of a pass: what each does to its view.
use Rattle.std.specs.Prelude.{◌≡◌, ℕ, ◌+◌, ◌-◌, ◌<◌, ◌≤◌, ◌==◌, nat_lt, max, Bool, true, false, MatchBool, Option, Some, None, List, [], ◌∷◌, ◌++◌, slice_index}
use Rattle.std.specs.Vec.{vec_capacity, vec_len}
use Rattle.atomic_table.specs.Table.{Me}
use Rattle.sa_core.specs.declared.event.Event.{Event}
use Rattle.sa_core.specs.declared.event.Event.TheVariants.{File, Gave}
use Rattle.sa_book.specs.declared.view.Terms.{Terms}
use Rattle.sa_book.specs.declared.view.Pages.{Pages}
use Rattle.sa_book.specs.declared.view.Slip.{Slip}
use Rattle.sa_book.specs.declared.view.View.{View}
use Rattle.sa_book.specs.declared.entry.Entry.{Entry}
use Rattle.sa_book.specs.declared.entry.Filing.{Filing}
use Rattle.sa_book.specs.declared.entry.Filing.TheVariants.{Filed, Gave as GivenUp}
use Rattle.sa_core.specs.Laws.{Parts}

-- the number in an option, 0 for none
abbrev pub number_in : Option ℕ → ℕ
number_in None = 0
number_in (Some n) = n

abbrev pub slip : ℕ → Event → Slip
slip ticket event = record { ticket = ticket; event = event }

-- whether the ticket found is the one that a pass has
abbrev pub is_served : ℕ → Option ℕ → Bool
is_served found None = false
is_served found (Some t) = found == t

module _ {W P : Type 0} where
  -- the number of branches of its board
  abbrev pub branches_of : View W P → ℕ
  branches_of v = elim v.terms [ None ↦ 0 | Some terms ↦ terms.job.branches ]

  abbrev pub seats_of : View W P → ℕ
  seats_of v = elim v.terms [ None ↦ 0 | Some terms ↦ terms.seats ]

  -- a new pass of the seat
  abbrev pub newcomer : Option (Terms W) → ℕ → ℕ → View W P
  newcomer terms seat spares = record { terms = terms; seat = seat; gathered = seat ∷ []; spares = spares; held = None; over = []; ticket = None; seen = None; entries = [] }

  -- the first pass of a board
  abbrev pub first_view : Terms W → View W P
  first_view terms = newcomer (Some terms) 0 (terms.seats - 1)

  -- claim: the number drawn is held, or the seat is marked as past the end
  abbrev pub holding : ℕ → View W P → View W P
  holding k v = record v { held = Some k }

  abbrev pub marked_over : View W P → View W P
  marked_over v = record v { over = v.over ++ v.seat ∷ [] }

  abbrev pub Claimed : View W P → ℕ → View W P → Type 0
  Claimed v n w = MatchBool (nat_lt n (branches_of v)) (w ≡ holding n v) (w ≡ marked_over v)

  -- draw: the ticket
  abbrev pub drawing : ℕ → View W P → View W P
  drawing t v = record v { ticket = Some t }

  -- look: where its ticket is served the book is seen, and the slot is the seat's
  abbrev pub seeing : Pages P → View W P → View W P
  seeing pages v = record v { seen = Some pages }

  -- what a pass sees when its turn came: a book that fits the work and has room for one event more
  abbrev pub FitsBoard : (W → P → Type 0) → View W P → P → Type 0
  FitsBoard fits v p = elim v.terms [ None ↦ Unit {0} | Some terms ↦ fits terms.job.work p ]

  abbrev pub Sees : (W → P → Type 0) → View W P → Me (Option (Pages P)) (View W P) → Type 0
  Sees fits v after = (pages : Pages P) × (after ≡ (seeing pages v, (0, Some pages) ∷ [])) × FitsBoard fits v pages.merged × (vec_len pages.history < vec_capacity pages.history)

  abbrev pub Looked : (W → P → Type 0) → Me (Option (Pages P)) (View W P) → ℕ → Me (Option (Pages P)) (View W P) → Type 0
  Looked fits before found after = MatchBool (is_served found before.0.ticket) (Sees fits before.0 after) (after ≡ before)

  -- serve: the entry is filed, and all that it took to file it is given up
  abbrev pub serving : (ℕ → ℕ → Event) → View W P → View W P
  serving what v = record v { held = None; ticket = None; seen = None; entries = v.entries ++ slip (number_in v.ticket) (what v.seat (number_in v.held)) ∷ [] }

  -- split: the least spare number becomes a seat
  abbrev pub parting : View W P → View W P
  parting v = record v { spares = v.spares - 1 }

  abbrev pub parted : View W P → View W P
  parted v = newcomer v.terms (seats_of v - v.spares) 0

  -- join: one pass has what both had. One of the two has no spare number, and the other's are those of both
  abbrev pub both : View W P → View W P → View W P
  both v w = record v { gathered = v.gathered ++ w.gathered; spares = max v.spares w.spares; over = v.over ++ w.over; entries = v.entries ++ w.entries }

  abbrev pub nothing : View W P
  nothing = record { terms = None; seat = 0; gathered = []; spares = 0; held = None; over = []; ticket = None; seen = None; entries = [] }

  -- between two calls a pass of the board has its number and its count of spare numbers at hand, no ticket, and no slot
  pub record IsAtRest (terms : Terms W) (number spares : ℕ) (me : Me (Option (Pages P)) (View W P)) : Type 0 where
    pub of_board : me.0.terms ≡ Some terms
    pub number_is : me.0.seat ≡ number
    pub spares_are : me.0.spares ≡ spares
    pub spares_fit : spares ≤ terms.seats
    pub ticket : me.0.ticket ≡ None
    pub seen : me.0.seen ≡ None
    pub slot : me.1 ≡ []

  -- before it draws a ticket, and while it waits for its turn
  pub record IsIdle (terms : Terms W) (branch : ℕ) (me : Me (Option (Pages P)) (View W P)) : Type 0 where
    pub of_board : me.0.terms ≡ Some terms
    pub held : me.0.held ≡ Some branch
    pub seen : me.0.seen ≡ None
    pub slot : me.1 ≡ []

  -- while it is its turn: the slot holds the book that it saw
  pub record IsWorking (terms : Terms W) (seat branch ticket : ℕ) (pages : Pages P) (v : View W P) : Type 0 where
    pub of_board : v.terms ≡ Some terms
    pub seat_is : v.seat ≡ seat
    pub held : v.held ≡ Some branch
    pub ticket_is : v.ticket ≡ Some ticket
    pub seen : v.seen ≡ Some pages

  abbrev pub HasTurn : (W → P → Type 0) → Terms W → ℕ → ℕ → Me (Option (Pages P)) (View W P) → Type 0
  HasTurn fits terms seat branch me =
      (pages : Pages P) × (ticket : ℕ) × IsWorking terms seat branch ticket pages me.0 × (me.1 ≡ (0, Some pages) ∷ [])
      × fits terms.job.work pages.merged × (vec_len pages.history < vec_capacity pages.history)

  -- after a filing: the branch is given up, and the entry stands behind the others
  abbrev pub filed : ℕ → Event → View W P → View W P
  filed ticket event v = record v { held = None; ticket = None; seen = None; entries = v.entries ++ slip ticket event ∷ [] }

  abbrev pub IsFiled : Event → View W P → View W P → Type 0
  IsFiled event v w = (ticket : ℕ) × (w ≡ filed ticket event v)

module _ {P : Type 0} where
  -- put: the book with one event more
  pub record IsLonger (event : Event) (merged : P) (pages longer : Pages P) : Type 0 where
    pub history : longer.history.items ≡ pages.history.items ++ event ∷ []
    pub merged_is : longer.merged ≡ merged
    pub room : vec_capacity longer.history ≡ vec_capacity pages.history

  -- an entry that files has the part of its branch
  abbrev pub HasPart : Parts P → Entry P → Type 0
  HasPart m entry = elim entry.what [ Filed part ↦ part ≡ m.part_of entry.branch | GivenUp ↦ Unit {0} ]

  -- the event of an entry
  abbrev pub event_of : Entry P → Event
  event_of entry = elim entry.what [ Filed part ↦ File entry.seat entry.branch | GivenUp ↦ Gave entry.seat entry.branch ]

  -- whether an entry gives up
  abbrev pub gives_up : Entry P → Bool
  gives_up entry = elim entry.what [ Filed part ↦ false | GivenUp ↦ true ]
