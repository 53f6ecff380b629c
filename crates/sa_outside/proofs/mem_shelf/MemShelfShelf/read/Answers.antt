use Rattle.std.proofs.Common.{◌≡◌, List, ℕ, Bool, true, false, ◌||◌, Option, Some, None, is_none, IsTrue, rules}
use Rattle.sa_outside.specs.Files.{file_of}
use Rattle.sa_outside.specs.Memory.{is_due}
use Rattle.sa_outside.proofs.mem_shelf.MemShelfShelf.read.Goals as goal

-- a read whose number isn't due, of a file that is there, doesn't fail
has_no_cause : (due : Bool) (found : Option (List ℕ)) (file : List ℕ) → due ≡ false → found ≡ Some file → IsTrue (due || is_none found) → ⊥
has_no_cause true found file a b h = cc
has_no_cause false None file a b h = cc
has_no_cause false (Some x) file a b h = cc

pub returns-in-Some-clause-exact : goal.returns-in-Some-clause-exact
returns-in-Some-clause-exact c =
    let shelf = c.args.self.now in
    let due : is_due shelf.fails shelf.calls ≡ false = search rules in
    let held : file_of c.args.name.now shelf.files ≡ Some c.in-Some.file.now.items = search rules in
    (λ e. absurd (c.fill.ensures.no_fault e), λ t. absurd (has_no_cause (is_due shelf.fails shelf.calls) (file_of c.args.name.now shelf.files) c.in-Some.file.now.items due held t))
