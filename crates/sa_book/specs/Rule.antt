-- The board rule: what holds of the three words, of the slot and of the views of all passes, between any two steps of any threads. The words are the branch word, the ticket word and the served word.
use Rattle.std.specs.Prelude.{◌≡◌, ℕ, ◌+◌, ◌-◌, ◌<◌, ◌≤◌, ◌==◌, ◌⊎◌, Bool, true, false, if◌then◌else◌, Option, Some, None, IsNone, List, [], ◌∷◌, ◌++◌, map, length, slice_index, Result, Ok}
use Rattle.std.specs.Vec.{vec_capacity}
use mathlib.Core.Option.{Option as Home, some, none}
use lib.ListN.{get_elem?}
use Rattle.atomic_table.specs.Table.{State as Table}
use Rattle.sa_core.specs.declared.event.Event.{Event}
use Rattle.sa_core.specs.declared.event.Event.TheVariants.{Claim, File, Gave, Sweep}
use Rattle.sa_core.specs.declared.event.Branch.TheVariants.{Held}
use Rattle.sa_core.specs.declared.work.Job.{Job}
use Rattle.sa_core.specs.Laws.{Parts}
use Rattle.sa_core.specs.Machine.{State, branch_at, replayed, opened}
use Rattle.sa_core.specs.Gathered.{has_claim}
use Rattle.sa_book.specs.declared.view.Terms.{Terms}
use Rattle.sa_book.specs.declared.view.Pages.{Pages}
use Rattle.sa_book.specs.declared.view.Slip.{Slip}
use Rattle.sa_book.specs.declared.view.View.{View}
use Rattle.sa_book.specs.Counts.{total, same, times, times_in, count_in, once_below, once_between, Each}

-- who claimed, filed or gave up, and which branch; a sweep has no seat and a claim no branch
abbrev pub seat_of : Event → ℕ
seat_of (Claim w) = w
seat_of (File w k) = w
seat_of (Gave w k) = w
seat_of (Sweep k) = 0

abbrev pub branch_of : Event → ℕ
branch_of (Claim w) = 0
branch_of (File w k) = k
branch_of (Gave w k) = k
branch_of (Sweep k) = k

-- the events of one seat, in order
abbrev pub by_seat : ℕ → List Event → List Event
by_seat w [] = []
by_seat w (e ∷ events) = if seat_of e == w then e ∷ by_seat w events else by_seat w events

-- the events of a list of entries
abbrev pub events_of : List Slip → List Event
events_of entries = map (λ e. e.event) entries

-- the tickets of one seat's entries, in order
abbrev pub tickets_by : ℕ → List Slip → List ℕ
tickets_by w [] = []
tickets_by w (e ∷ entries) = if seat_of e.event == w then e.ticket ∷ tickets_by w entries else tickets_by w entries

-- each number is above all that stand before it
abbrev pub IsRising : List ℕ → Type 0
IsRising [] = Unit {0}
IsRising (x ∷ xs) = Each (λ y. x < y) xs × IsRising xs

module _ {W P : Type 0} where
  -- ---- the passes

  -- a pass that was met into another one has nothing left
  pub record IsSpent (v : View W P) : Type 0 where
    pub terms : v.terms ≡ None
    pub gathered : v.gathered ≡ []
    pub spares : v.spares ≡ 0
    pub held : v.held ≡ None
    pub over : v.over ≡ []
    pub ticket : v.ticket ≡ None
    pub seen : v.seen ≡ None
    pub entries : v.entries ≡ []

  -- every other pass is of this board, and whoever it says drew past the end, filed or gave up is a seat that it gathered
  pub record IsLive (terms : Terms W) (v : View W P) : Type 0 where
    pub of_board : v.terms ≡ Some terms
    pub spares : v.spares ≤ terms.seats
    pub seat : 0 < times v.seat v.gathered
    pub over : Each (λ w. 0 < times w v.gathered) v.over
    pub over_few : length v.over ≤ length v.gathered
    pub entries : Each (λ e. 0 < times (seat_of e.event) v.gathered) v.entries

  -- how often a view has a seat number, gathered or spare
  abbrev pub numbers : ℕ → ℕ → View W P → ℕ
  numbers seats x v = times x v.gathered + once_between x (seats - v.spares) seats

  -- each seat number is gathered by one pass, or spare with one
  pub record Seats (terms : Terms W) (views : List (View W P)) : Type 0 where
    pub each : (x : ℕ) → total (numbers terms.seats x) views ≡ once_below x terms.seats
    pub sum : total (λ v. length v.gathered + v.spares) views ≡ terms.seats
    pub fits : Each (λ v. IsLive terms v ⊎ IsSpent v) views
    pub few : terms.seats ≤ 64

  -- ---- the branches

  -- how often a view holds a branch or names it in an entry
  abbrev pub uses : ℕ → View W P → ℕ
  uses k v = times_in k v.held + total (λ e. same k (branch_of e.event)) v.entries

  -- how many branches are claimed, and how many seats drew past the last one
  abbrev pub claims : List (View W P) → ℕ
  claims views = total (λ v. count_in v.held + length v.entries) views

  abbrev pub overs : List (View W P) → ℕ
  overs views = total (λ v. length v.over) views

  -- the branch word counts the draws; claimed are the branches below the count of claims, and each is held or named once
  pub record Branches (terms : Terms W) (words : List ℕ) (views : List (View W P)) : Type 0 where
    pub word : slice_index words 0 ≡ claims views + overs views
    pub most : claims views ≤ terms.job.branches
    pub done : 0 < overs views → claims views ≡ terms.job.branches
    pub each : (k : ℕ) → total (uses k) views ≡ once_below k (claims views)
    pub few : terms.job.branches ≤ 1025

  -- ---- the tickets

  -- each ticket from the served word on is with one pass, which holds a branch
  pub record Tickets (words : List ℕ) (views : List (View W P)) : Type 0 where
    pub waits : slice_index words 2 + total (λ v. count_in v.ticket) views ≡ slice_index words 1
    pub each : (x : ℕ) → total (λ v. times_in x v.ticket) views ≡ once_between x (slice_index words 2) (slice_index words 1)
    pub held : Each (λ v. count_in v.ticket ≤ count_in v.held) views

  -- ---- the book

  -- an entry's ticket is the place of its event in the history, and a seat's tickets rise
  pub record IsPlaced (history : List Event) (v : View W P) : Type 0 where
    pub place : Each (λ e. get_elem? history e.ticket ≡ some e.event) v.entries
    pub rising : (w : ℕ) → IsRising (tickets_by w v.entries)
    pub own : (w : ℕ) → 0 < times w v.gathered → by_seat w history ≡ by_seat w (events_of v.entries)

  -- who claimed which branch: a pass the one that it holds, and a seat those of its entries; the held one stands so in the core
  pub record IsOwner (owners : List ℕ) (core : State P) (v : View W P) : Type 0 where
    pub holds : (k : ℕ) → v.held ≡ Some k → get_elem? owners k ≡ some v.seat
    pub filed : Each (λ e. get_elem? owners (branch_of e.event) ≡ some (seat_of e.event)) v.entries
    pub stands : (k : ℕ) → v.held ≡ Some k → branch_at core.branches k ≡ Held v.seat

  -- whoever looked has the ticket that is served, and the slot is out with it
  abbrev pub IsAtWork : List (Home (Option (Pages P))) → ℕ → Pages P → View W P → Type 0
  IsAtWork homes served pages v = (seen : Pages P) → v.seen ≡ Some seen → (seen ≡ pages) × (v.ticket ≡ Some served) × (homes ≡ none ∷ [])

  -- the book has the entries of all passes, each once at the place of its ticket, and is the replay of its history behind the claims
  pub record Written (m : Parts P) (terms : Terms W) (words : List ℕ) (homes : List (Home (Option (Pages P)))) (views : List (View W P)) (pages : Pages P) (owners : List ℕ) (core : State P) : Type 0 where
    pub served : slice_index words 2 ≡ length pages.history.items
    pub weighed : (h : Event → ℕ) → total h pages.history.items ≡ total (λ v. total (λ e. h e.event) v.entries) views
    pub tickets : (x : ℕ) → total (λ v. total (λ e. same x e.ticket) v.entries) views ≡ once_below x (slice_index words 2)
    pub placed : Each (IsPlaced pages.history.items) views
    pub quiet : Each (λ v. v.seen ≡ None) views → homes ≡ some (Some pages) ∷ []
    pub at_work : Each (IsAtWork homes (slice_index words 2) pages) views
    pub owned : length owners ≡ claims views
    pub owner : Each (IsOwner owners core) views
    pub filings : has_claim pages.history.items ≡ false
    pub accepted : replayed m (map Claim owners ++ pages.history.items) (opened m terms.job.branches) ≡ Ok core
    pub merged : pages.merged ≡ core.merged
    pub next : core.next ≡ claims views
    pub room : terms.job.branches ≤ vec_capacity pages.history

  -- the rule: a board of a job whose parts are m
  pub record Holds (m : Parts P) (terms : Terms W) (s : Table (Option (Pages P)) (View W P)) : Type 0 where
    pub words : length s.words ≡ 3
    pub seats : Seats terms s.views
    pub branches : Branches terms s.words s.views
    pub tickets : Tickets s.words s.views
    pub book : (pages : Pages P) × (owners : List ℕ) × (core : State P) × Written m terms s.words s.homes s.views pages owners core
