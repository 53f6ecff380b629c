-- When a text of tokens is refused.
use Rattle.std.specs.Prelude.{ℕ, ◌+◌, ◌≡◌, List, [], ◌∷◌, ◌++◌, Bool, true, false, length}
use Rattle.sa_base.specs.declared.pos.Pos.{Pos}
use Rattle.sa_tokens.specs.declared.keyword.Keyword.{Keyword}
use Rattle.sa_tokens.specs.declared.keyword.Keyword.TheVariants as k
use Rattle.sa_tokens.specs.declared.punct.Punct.TheVariants as m
use Rattle.sa_tokens.specs.declared.token.Token.{Token}
use Rattle.sa_syntax.specs.declared.unit.Unit.{Unit as Source}
use Rattle.sa_syntax.specs.Words.{mark, key}
use Rattle.sa_syntax.specs.Statements.{Tree}

-- so many brackets, prefix operators, choices and statements may be open at a token
abbrev pub most_open : ℕ
most_open = 200

-- the tokens are a source of this tree, in which no more than that is open at any of them
abbrev pub IsSource : List Token → Source → Type 0
IsSource ts u = Tree most_open ts u

-- the tokens have no tree, however much may be open
abbrev pub HasNoTree : List Token → Type 0
HasNoTree ts = (n : ℕ) (u : Source) → Tree n ts u → ⊥

-- some text of the grammar begins with these tokens
abbrev pub Begins : List Token → Type 0
Begins ts = (n : ℕ) × (tail : List Token) × (u : Source) × Tree n (ts ++ tail) u

-- no text of the grammar begins with these tokens
abbrev pub BeginsNone : List Token → Type 0
BeginsNone ts = (n : ℕ) (tail : List Token) (u : Source) → Tree n (ts ++ tail) u → ⊥

-- what comes next is refused: no text begins with the tokens before it and the first of these; at the end, they are no text
abbrev pub IsRefused : List Token → List Token → Type 0
IsRefused before [] = HasNoTree before
IsRefused before (t ∷ rest) = BeginsNone (before ++ t ∷ [])

-- ---- how many are open at a token
-- Open at a token are, where the tokens up to it begin a text: the brackets that open at or before it and don't close before it;
-- the prefix operators and casts whose operand doesn't end before it; the `?` whose third expression doesn't; and the statements
-- inside another one that hold it. A tree in `n` has no more open at any token. What is open at a token can be closed with no more
-- open at any later one, unless a bracket or a statement has to follow: these are the cases of `Deepens`.

-- a word that has to be followed by a bracket
abbrev pub takes_bracket : Keyword → Bool
takes_bracket k.If = true
takes_bracket k.While = true
takes_bracket k.For = true
takes_bracket k.Switch = true
takes_bracket _ = false

-- the word of a directive, which has to be followed by two
abbrev pub takes_two : Keyword → Bool
takes_two k.WaitForClock = true
takes_two k.Partition = true
takes_two k.KnownFact = true
takes_two k.Assert = true
takes_two _ = false

-- These tokens can follow that one, and wherever they do, one more is open at each of them than at the token before it. The `;` is
-- a statement in a statement.
pub data Deepens : Token → List Token → Type 0 where
  nothing : {t : Token} → Deepens t []
  condition : {p q : Pos} {w : Keyword} → takes_bracket w ≡ true → Deepens (key w p) (mark m.OpenParen q ∷ [])
  directive : {p q r : Pos} {w : Keyword} → takes_two w ≡ true → Deepens (key w p) (mark m.OpenParen q ∷ mark m.OpenParen r ∷ [])
  bracket : {p q : Pos} → Deepens (mark m.OpenParen p) (mark m.OpenParen q ∷ [])
  body : {p q : Pos} → Deepens (key k.Do p) (mark m.Semicolon q ∷ [])
  labelled : {p q : Pos} → Deepens (mark m.Colon p) (mark m.Semicolon q ∷ [])

-- At most `n` are open at the token `t` behind these: some text in which no more are open begins so, or one in which as many more
-- are open as tokens follow that open one more each.
pub record IsWithin (n : ℕ) (before : List Token) (t : Token) : Type 0 where
  pub deeper : List Token
  pub deepens : Deepens t deeper
  pub tail : List Token
  pub unit : Source
  pub tree : Tree (n + length deeper) (before ++ t ∷ (deeper ++ tail)) unit

-- at most `n` are open at each of the tokens
abbrev pub StaysWithin : ℕ → List Token → Type 0
StaysWithin n ts = (before : List Token) (t : Token) (after : List Token) → ts ≡ before ++ t ∷ after → IsWithin n before t

-- The tokens are refused at the first of `rest`, or at their end: those before it begin a text, at most `n` are open at each of
-- them, and it is the first with which no text begins.
pub record FailsAt (n : ℕ) (ts rest : List Token) : Type 0 where
  pub before : List Token
  pub is : ts ≡ before ++ rest
  pub begins : Begins before
  pub within : StaysWithin n before
  pub refused : IsRefused before rest

-- the place of the first token, or the end
abbrev pub place_at : Pos → List Token → Pos
place_at end [] = end
place_at end (t ∷ ts) = t.pos

-- the place where the tokens are refused, with no more open before it than may be
pub record HasNoTextFrom (end : Pos) (ts : List Token) (p : Pos) : Type 0 where
  pub rest : List Token
  pub fails : FailsAt most_open ts rest
  pub place : p ≡ place_at end rest

-- More than `n` are open at a token, and at none before it: some text begins with the tokens up to it.
pub record GoesTooDeep (n : ℕ) (ts : List Token) : Type 0 where
  pub before : List Token
  pub token : Token
  pub after : List Token
  pub is : ts ≡ before ++ token ∷ after
  pub begins : Begins (before ++ token ∷ [])
  pub within : StaysWithin n before
  pub deep : IsWithin n before token → ⊥

abbrev pub IsTooDeep : List Token → Type 0
IsTooDeep ts = GoesTooDeep most_open ts
