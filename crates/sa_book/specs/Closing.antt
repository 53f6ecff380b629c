-- What a board leaves when it is closed.
use Rattle.std.specs.Prelude.{◌≡◌, ℕ, ◌<◌, ◌+◌, List, [], length}
use Rattle.sa_core.specs.declared.event.Event.{Event}
use Rattle.sa_core.specs.Laws.{Parts}
use Rattle.sa_core.specs.Gathered.{gathered, is_taken_in}
use Rattle.sa_book.specs.declared.view.Terms.{Terms}
use Rattle.sa_book.specs.declared.view.View.{View}
use Rattle.sa_book.specs.Counts.{total, same, once_below}
use Rattle.sa_book.specs.Rule.{by_seat, events_of, branch_of}

module _ {W P : Type 0} where
  -- a pass that gathered, or has spare, as many seat numbers as there are: since each is with one pass, these are all, and every other pass was met into it
  abbrev pub HasAll : ℕ → View W P → Type 0
  HasAll seats v = length v.gathered + v.spares ≡ seats

  -- the history has each seat's entries in their order and nothing else, its branches are the numbers below its length, each once, and merged are the parts of those that were filed; where a seat drew past the last branch, all branches are there
  pub record IsBookOf (m : Parts P) (terms : Terms W) (v : View W P) (history : List Event) (merged : P) : Type 0 where
    pub own : (w : ℕ) → by_seat w history ≡ by_seat w (events_of v.entries)
    pub once : (k : ℕ) → total (λ e. same k (branch_of e)) history ≡ once_below k (length history)
    pub merged_is : merged ≡ gathered m terms.job.branches (is_taken_in history)
    pub all_drawn : 0 < length v.over → length history ≡ terms.job.branches
