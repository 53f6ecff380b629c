-- No promise of the top calls rests on this page: it is for laws beside them, for proofs and for inner functions.
-- The reader and the grammar, and readers with more room.
use Rattle.std.specs.Prelude.{ℕ, ◌≡◌, ◌≤◌, ◌⊎◌, List}
use Rattle.sa_tokens.specs.declared.token.Token.{Token}
use Rattle.sa_syntax.specs.declared.expr.Expr.{Expr}
use Rattle.sa_syntax.specs.declared.unit.Unit.{Unit as Source}
use Rattle.sa_syntax.specs.Words.{Names}
use Rattle.sa_syntax.specs.Expressions.{Whole}
use Rattle.sa_syntax.specs.Statements.{Tree}
use Rattle.sa_syntax.specs.Reading.{Read, Got, Deep}
use Rattle.sa_syntax.specs.ReadExpr.{whole, inside}
use Rattle.sa_syntax.specs.ReadStmt.{source}

-- What is read as an expression is one by the grammar: its tokens, and then those that are left.
abbrev pub ReadingsAreExpressions : Type 0
ReadingsAreExpressions = (ns : Names) (n : ℕ) (ts us : List Token) (a : Expr) → whole ns n (inside ns n) ts ≡ Got a us → Whole ns n ts a us

-- With more room a reader answers the same, unless it ran out of room before.
abbrev pub AgreeUnlessDeep : {A : Type 0} → Read A → Read A → Type 0
AgreeUnlessDeep r s = ((vs : List Token) × (r ≡ Deep vs)) ⊎ (r ≡ s)

abbrev pub MoreRoomReadsTheSame : Type 0
MoreRoomReadsTheSame = (ns : Names) (n more : ℕ) → n ≤ more → (ts : List Token) → AgreeUnlessDeep (whole ns n (inside ns n) ts) (whole ns more (inside ns more) ts)

-- What is read as a source is one by the grammar: all its tokens.
abbrev pub ReadingsAreSources : Type 0
ReadingsAreSources = (n : ℕ) (ts us : List Token) (u : Source) → source n ts ≡ Got u us → Tree n ts u

abbrev pub MoreRoomReadsTheSameSource : Type 0
MoreRoomReadsTheSameSource = (n more : ℕ) → n ≤ more → (ts : List Token) → AgreeUnlessDeep (source n ts) (source more ts)
