-- No promise of the top calls rests on this page: it is for laws beside them, for proofs and for inner functions.
-- What the refusals of the reader say.
use Rattle.std.specs.Prelude.{ℕ, ◌≡◌, List, ◌∷◌}
use Rattle.sa_tokens.specs.declared.token.Token.{Token}
use Rattle.sa_syntax.specs.Reading.{Stuck, Deep}
use Rattle.sa_syntax.specs.ReadStmt.{source}
use Rattle.sa_syntax.specs.Refusals.{GoesTooDeep, FailsAt}

-- What is refused for depth is too deep at the token that is told, and at none before it.
abbrev pub TellsDepth : Type 0
TellsDepth = (n : ℕ) (ts us : List Token) → source n ts ≡ Deep us → (d : GoesTooDeep n ts) × (us ≡ d.token ∷ d.after)

-- What is refused otherwise is refused at the first token with which no text begins, or at the end of a text that isn't finished,
-- and is too deep at no token before.
abbrev pub TellsPlace : Type 0
TellsPlace = (n : ℕ) (ts us : List Token) → source n ts ≡ Stuck us → FailsAt n ts us
