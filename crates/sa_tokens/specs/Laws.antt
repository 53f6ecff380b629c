-- No promise of the top calls rests on this page: it is for laws beside them, for proofs and for inner functions.
-- What the definitions of this crate give together.
use Rattle.std.specs.Prelude.{ℕ, ◌+◌, ◌<◌, ◌≤◌, ◌≡◌, ◌↔◌, ◌⊎◌, ◌==◌, not, count_by, All, List, ◌∷◌, Bool, true, false, codes, take, drop, length, Option, Some}
use Rattle.std.specs.List.{list_all, suffix_len}
use Rattle.sa_base.specs.declared.pos.Pos.{Pos}
use Rattle.sa_tokens.specs.declared.punct.Punct.{Punct}
use Rattle.sa_tokens.specs.declared.token.Token.{Token}
use Rattle.sa_tokens.specs.declared.token.Word.{Word}
use Rattle.sa_tokens.specs.declared.token.Word.TheVariants as w
use Rattle.sa_tokens.specs.declared.fault.TokenFault.{TokenFault}
use Rattle.sa_tokens.specs.declared.piece.Cause.TheVariants.{BadByte}
use Rattle.sa_tokens.specs.declared.piece.Piece.TheVariants.{Spelling, Refused}
use Rattle.sa_tokens.specs.Bytes.{is_word_byte, begins, begins_splice, until, look_up}
use Rattle.sa_tokens.specs.Comments.{begins_digit, is_doubtful_star, block_comment}
use Rattle.sa_tokens.specs.Words.{number_of, name_of}
use Rattle.sa_tokens.specs.Marks.{marks}
use Rattle.sa_tokens.specs.Pieces.{piece_at}
use Rattle.sa_tokens.specs.Lexed.{first_pos, end_pos, Reads, IsLexed, IsRefused, HasTooMany}

-- ---- one reading
pub record Reading (p : Pos) (fresh : Bool) (s : List ℕ) : Type 0 where
  pub tokens : List Token
  pub rest : Option TokenFault
  pub reads : Reads p fresh s tokens rest

-- Each text is read, and in one way: it is a row of pieces or has a first place that begins none, never both.
pub record IsReadOnce (p : Pos) (fresh : Bool) (s : List ℕ) : Type 0 where
  pub reading : Reading p fresh s
  pub one : (ts us : List Token) (r q : Option TokenFault) → Reads p fresh s ts r → Reads p fresh s us q → (ts ≡ us) × (r ≡ q)

abbrev pub EachIsReadOnce : Type 0
EachIsReadOnce = (p : Pos) (fresh : Bool) (s : List ℕ) → IsReadOnce p fresh s

-- What a source may be answered with: tokens, a refusal with at most so many tokens before it, or too many tokens.
pub data SourceAnswer (source : List ℕ) : Type 0 where
  lexed : (ts : List Token) → IsLexed source ts → SourceAnswer source
  refused : (fault : TokenFault) → IsRefused source fault → SourceAnswer source
  too_many : HasTooMany source → SourceAnswer source

-- One of them holds, and no two.
pub record HasOneAnswer (source : List ℕ) : Type 0 where
  pub some : SourceAnswer source
  pub same_tokens : (ts us : List Token) → IsLexed source ts → IsLexed source us → ts ≡ us
  pub same_fault : (fault other : TokenFault) → IsRefused source fault → IsRefused source other → fault ≡ other
  pub not_lexed : (ts : List Token) (fault : TokenFault) → IsLexed source ts → IsRefused source fault → ⊥
  pub not_few : (ts : List Token) → IsLexed source ts → HasTooMany source → ⊥
  pub not_within : (fault : TokenFault) → IsRefused source fault → HasTooMany source → ⊥

abbrev pub EachHasOneAnswer : Type 0
EachHasOneAnswer = (source : List ℕ) → HasOneAnswer source

-- ---- places
-- the line is one more than the line feeds before the place, the column one more than the bytes after the last of them
pub record IsPlaceAfter (s : List ℕ) (p : Pos) : Type 0 where
  pub line : p.line ≡ 1 + count_by (λ b. b == 10) s
  pub col : p.col ≡ 1 + suffix_len (λ b. not (b == 10)) s

abbrev pub EachPlaceIsCounted : Type 0
EachPlaceIsCounted = (s : List ℕ) → IsPlaceAfter s (end_pos s)

-- the token is spelled there, and its position is that place
pub record StandsIn (source : List ℕ) (t : Token) : Type 0 where
  pub at : ℕ
  pub len : ℕ
  pub fresh : Bool
  pub within : at + len ≤ length source
  pub place : t.pos ≡ end_pos (take at source)
  pub piece : piece_at fresh (drop at source) ≡ Spelling len t.word

-- Each token stands in the source, whatever comes after it.
abbrev pub EachTokenStands : Type 0
EachTokenStands = (source : List ℕ) (ts : List Token) (r : Option TokenFault) → Reads first_pos true source ts r → All (StandsIn source) ts

-- ---- the longest token
-- a number is spelled by a digit and word bytes, a name or keyword by other word bytes, a mark by its row of the table
pub data IsSpelling : List ℕ → Word → Type 0 where
  number : (s : List ℕ) (v : Word) → list_all is_word_byte s ≡ true → begins_digit s ≡ true → number_of s ≡ Some v → IsSpelling s v
  name : (b : ℕ) (s : List ℕ) → list_all is_word_byte (b ∷ s) ≡ true → begins_digit (b ∷ s) ≡ false → IsSpelling (b ∷ s) (name_of (b ∷ s))
  mark : (s : List ℕ) (m : Punct) → look_up s marks ≡ Some m → IsSpelling s (w.Mark m)

pub record IsLongest (s : List ℕ) (n : ℕ) (v : Word) : Type 0 where
  pub some : 0 < n
  pub within : n ≤ length s
  pub spelling : IsSpelling (take n s) v
  pub longest : (m : ℕ) (u : Word) → n < m → m ≤ length s → IsSpelling (take m s) u → ⊥

-- A token that is found is the longest that the text begins with.
abbrev pub EachIsLongest : Type 0
EachIsLongest = (fresh : Bool) (s : List ℕ) (n : ℕ) (v : Word) → piece_at fresh s ≡ Spelling n v → IsLongest s n v

-- A byte is refused only where a splice begins, or where no front of the text is a spelling.
abbrev pub EachBadByteBeginsNone : Type 0
EachBadByteBeginsNone = (fresh : Bool) (s : List ℕ) → piece_at fresh s ≡ Refused BadByte → (begins_splice s ≡ true) ⊎ ((m : ℕ) (v : Word) → 0 < m → IsSpelling (take m s) v → ⊥)

-- ---- the ends of what is passed over
-- the first place from which on the text passes the test is there, or there is none and it is the end
pub record IsFirst (test : List ℕ → Bool) (s : List ℕ) (n : ℕ) : Type 0 where
  pub within : n ≤ length s
  pub before : (k : ℕ) → k < n → test (drop k s) ≡ false
  pub there : n < length s → test (drop n s) ≡ true

abbrev pub EachUntilIsFirst : Type 0
EachUntilIsFirst = (test : List ℕ → Bool) (s : List ℕ) (n : ℕ) → (until test s ≡ n) ↔ IsFirst test s n

-- a `/*` comment's end is there, so many bytes after its opening: the first `*/`, and no star ahead of it is doubtful
pub record IsEnd (s : List ℕ) (n : ℕ) : Type 0 where
  pub there : begins (codes "*/") (drop n s) ≡ true
  pub first : (k : ℕ) → k < n → begins (codes "*/") (drop k s) ≡ false
  pub sure : (k : ℕ) → k < n → is_doubtful_star (drop k s) ≡ false

abbrev pub EachCommentHasItsEnd : Type 0
EachCommentHasItsEnd = (s : List ℕ) (n : ℕ) → (block_comment s ≡ Some (n + 2)) ↔ IsEnd s n
