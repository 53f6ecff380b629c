-- No promise of the top calls rests on this page: it is for laws beside them, for proofs and for inner functions.
-- What the grammar of statements and sources has is what the reader reads.
use Rattle.std.specs.Prelude.{ℕ, ◌≡◌, List, []}
use Rattle.sa_tokens.specs.declared.token.Token.{Token}
use Rattle.sa_syntax.specs.declared.stmt.Stmt.{Stmt}
use Rattle.sa_syntax.specs.declared.unit.Unit.{Unit as Source}
use Rattle.sa_syntax.specs.Words.{Names}
use Rattle.sa_syntax.specs.Statements.{Stmt', Tree}
use Rattle.sa_syntax.specs.Reading.{Got}
use Rattle.sa_syntax.specs.ReadStmt.{stmt_at, source}

-- whatever follows
abbrev pub ReadsStatements : Type 0
ReadsStatements = (ns : Names) (n : ℕ) (ts us : List Token) (a : Stmt) → Stmt' ns n ts a us → stmt_at ns n ts ≡ Got a us

-- each tree of a source is read
abbrev pub ReadsSources : Type 0
ReadsSources = (n : ℕ) (ts : List Token) (u : Source) → Tree n ts u → source n ts ≡ Got u []

-- the grammar has at most one tree for each text, however much may be open
abbrev pub HasOneTree : Type 0
HasOneTree = (n more : ℕ) (ts : List Token) (u v : Source) → Tree n ts u → Tree more ts v → u ≡ v
