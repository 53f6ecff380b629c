-- No promise of the top calls rests on this page: it is for laws beside them, for proofs and for inner functions.
-- The places in the statements of a tree: of called names, and of the words of loops, in the order of the text.
use Rattle.std.specs.Prelude.{ℕ, ◌<◌, ◌≡◌, ◌⊎◌, List, [], ◌∷◌, ◌++◌, slice_get, Some}
use Rattle.sa_base.specs.declared.pos.Pos.{Pos}
use Rattle.sa_tokens.specs.declared.token.Token.{Token}
use Rattle.sa_syntax.specs.declared.stmt.LocalStart.{LocalStart}
use Rattle.sa_syntax.specs.declared.stmt.LocalStart.TheVariants as begins
use Rattle.sa_syntax.specs.declared.stmt.Local.{Local}
use Rattle.sa_syntax.specs.declared.stmt.LocalDeclr.{LocalDeclr}
use Rattle.sa_syntax.specs.declared.stmt.Stmt as s
use Rattle.sa_syntax.specs.declared.stmt.Stmt.{Stmt, Row_of-BlockItem, end_of-BlockItem, more_of-BlockItem, Row_of-Group, end_of-Group, more_of-Group, Row_of-Stmt, end_of-Stmt, more_of-Stmt}
use Rattle.sa_syntax.specs.declared.stmt.BlockItem as block
use Rattle.sa_syntax.specs.declared.stmt.BlockItem.{BlockItem}
use Rattle.sa_syntax.specs.Words.{Names}
use Rattle.sa_syntax.specs.Statements.{Outermost}

abbrev pub in_start : LocalStart → List Pos
in_start begins.Nothing = []
in_start (begins.Init p i) = []
in_start (begins.Call p c) = c.name.pos ∷ []

unfoldable pub in_declrs : List LocalDeclr → List Pos
in_declrs [] = []
in_declrs (d ∷ ds) = in_start d.start ++ in_declrs ds

unfoldable mutual
  pub in_stmt : Stmt → List Pos
  in_stmt (s.Block' p n is q) = in_row is
  in_stmt (s.Gives x p c) = c.name.pos ∷ []
  in_stmt (s.Call c) = c.name.pos ∷ []
  in_stmt (s.If' p c n (more_of-Stmt a end_of-Stmt)) = in_stmt a
  in_stmt (s.IfElse' p c n (more_of-Stmt a end_of-Stmt) m (more_of-Stmt b end_of-Stmt)) = in_stmt a ++ in_stmt b
  in_stmt (s.While' p c n (more_of-Stmt a end_of-Stmt)) = p ∷ in_stmt a
  in_stmt (s.DoWhile' p n (more_of-Stmt a end_of-Stmt) c) = p ∷ in_stmt a
  in_stmt (s.For' p f c x n (more_of-Stmt a end_of-Stmt)) = p ∷ in_stmt a
  in_stmt (s.Switch' p c n gs) = in_groups gs
  in_stmt _ = []

  pub in_item : BlockItem → List Pos
  in_item (block.Local l) = in_declrs l.declrs
  in_item (block.Stmt a) = in_stmt a

  pub in_row : {n : _} → Row_of-BlockItem n → List Pos
  in_row end_of-BlockItem = []
  in_row (more_of-BlockItem i rest) = in_item i ++ in_row rest

  pub in_stmts : {n : _} → Row_of-Stmt n → List Pos
  in_stmts end_of-Stmt = []
  in_stmts (more_of-Stmt a rest) = in_stmt a ++ in_stmts rest

  pub in_groups : {n : _} → Row_of-Group n → List Pos
  in_groups end_of-Group = []
  in_groups (more_of-Group labels n body rest) = in_stmts body ++ in_groups rest

-- of the items of a block
unfoldable pub in_items : List BlockItem → List Pos
in_items [] = []
in_items (i ∷ is) = in_item i ++ in_items is

-- ---- places that rise
-- a place before another in a text
abbrev pub IsBefore : Pos → Pos → Type 0
IsBefore p q = (p.line < q.line) ⊎ ((p.line ≡ q.line) × (p.col < q.col))

-- each place in the list is before those after it
unfoldable pub Rise : List Pos → Type 0
Rise [] = Unit {0}
Rise (p ∷ ps) = ((i : ℕ) (q : Pos) → slice_get ps i ≡ Some q → IsBefore p q) × Rise ps

unfoldable pub places_of : List Token → List Pos
places_of [] = []
places_of (t ∷ ts) = t.pos ∷ places_of ts

-- in a text whose tokens stand one after the other, so do the called names and the words of loops in the block of a function
abbrev pub PlacesRise : Type 0
PlacesRise = (ns : Names) (n : ℕ) (ts us : List Token) (is : List BlockItem) → Outermost ns n ts is us → Rise (places_of ts) → Rise (in_items is)
