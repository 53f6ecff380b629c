-- The tokens of a source (ISO C 6.4): the bytes are a row of pieces, and the tokens are those pieces that are spellings of one.
use Rattle.std.specs.Prelude.{ℕ, ◌+◌, ◌<◌, ◌≤◌, ◌≡◌, ◌==◌, List, [], ◌∷◌, Bool, true, false, if◌then◌else◌, take, drop, length, fold, Option, Some, None, ⊤}
use Rattle.sa_base.specs.declared.pos.Pos.{Pos}
use Rattle.sa_tokens.specs.declared.token.Token.{Token}
use Rattle.sa_tokens.specs.declared.token.Word.{Word}
use Rattle.sa_tokens.specs.declared.fault.TokenFault.{TokenFault}
use Rattle.sa_tokens.specs.declared.fault.TokenFault.TheVariants as f
use Rattle.sa_tokens.specs.declared.piece.Cause.{Cause}
use Rattle.sa_tokens.specs.declared.piece.Cause.TheVariants.{BadByte, BadNumber, OpenComment, Directive}
use Rattle.sa_tokens.specs.declared.piece.Piece.TheVariants.{End, Space, Spelling, Refused}
use Rattle.sa_tokens.specs.Pieces.{piece_at}

-- ---- places
-- the place of the first byte of a source
abbrev pub first_pos : Pos
first_pos = record { line = 1; col = 1 }

-- the place of the byte after: a line feed ends a line, a column is one byte
abbrev pub pos_after : Pos → ℕ → Pos
pos_after p b = if b == 10 then record { line = p.line + 1; col = 1 } else record { line = p.line; col = p.col + 1 }

-- the place after these bytes
unfoldable pub pos_past : Pos → List ℕ → Pos
pos_past p bytes = fold pos_after p bytes

-- the place after the last byte of a source
abbrev pub end_pos : List ℕ → Pos
end_pos source = pos_past first_pos source

-- ---- readings
abbrev pub fault_at : Cause → Pos → TokenFault
fault_at BadByte p = f.BadByte p
fault_at BadNumber p = f.BadNumber p
fault_at OpenComment p = f.OpenComment p
fault_at Directive p = f.Directive p

-- the tokens of a text whose first byte stands at that place, up to its end or to the first refusal
pub data Reads : Pos → Bool → List ℕ → List Token → Option TokenFault → Type 0 where
  ends : (p : Pos) (fresh : Bool) (s : List ℕ) → piece_at fresh s ≡ End → Reads p fresh s [] None
  passes : (p : Pos) (fresh : Bool) (s : List ℕ) (n : ℕ) (still : Bool) (ts : List Token) (r : Option TokenFault) → piece_at fresh s ≡ Space n still →
      Reads (pos_past p (take n s)) still (drop n s) ts r → Reads p fresh s ts r
  finds : (p : Pos) (fresh : Bool) (s : List ℕ) (n : ℕ) (w : Word) (ts : List Token) (r : Option TokenFault) → piece_at fresh s ≡ Spelling n w →
      Reads (pos_past p (take n s)) false (drop n s) ts r → Reads p fresh s (record { word = w; pos = p } ∷ ts) r
  refuses : (p : Pos) (fresh : Bool) (s : List ℕ) (c : Cause) → piece_at fresh s ≡ Refused c → Reads p fresh s [] (Some (fault_at c p))

-- the bytes are a row of pieces with these tokens
abbrev pub Lexed : List ℕ → List Token → Type 0
Lexed source ts = Reads first_pos true source ts None

-- these tokens stand before the first place that begins no piece
abbrev pub Stops : List ℕ → List Token → TokenFault → Type 0
Stops source ts fault = Reads first_pos true source ts (Some fault)

-- ---- what a source is answered with
abbrev pub most : ℕ
most = 1000000

abbrev pub IsLexed : List ℕ → List Token → Type 0
IsLexed source ts = Lexed source ts × (length ts ≤ most)

pub record IsRefused (source : List ℕ) (fault : TokenFault) : Type 0 where
  pub tokens : List Token
  pub stops : Stops source tokens fault
  pub within : length tokens ≤ most

-- more tokens than that stand before the end or the first refusal
pub record HasTooMany (source : List ℕ) : Type 0 where
  pub tokens : List Token
  pub rest : Option TokenFault
  pub reads : Reads first_pos true source tokens rest
  pub above : most < length tokens

abbrev pub IsAnswer : List ℕ → TokenFault → Type 0
IsAnswer source (f.BadByte p) = IsRefused source (f.BadByte p)
IsAnswer source (f.BadNumber p) = IsRefused source (f.BadNumber p)
IsAnswer source (f.OpenComment p) = IsRefused source (f.OpenComment p)
IsAnswer source (f.Directive p) = IsRefused source (f.Directive p)
IsAnswer source f.TooManyTokens = HasTooMany source
IsAnswer source f.OutOfMemory = ⊤
