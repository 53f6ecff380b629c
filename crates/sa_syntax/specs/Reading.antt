-- No promise of the top calls rests on this page: it is for laws beside them, for proofs and for inner functions.
-- What reading from the front answers, and the steps that every rule of the reader is made of.
use Rattle.std.specs.Prelude.{ℕ, zero, suc, List, [], ◌∷◌, ◌++◌, Bool, false, if◌then◌else◌, length, Option, Some, None}
use denote.Enum.Bare.{sameb}
use Rattle.sa_tokens.specs.contracts.punct.Punct.{the_type}
use Rattle.sa_base.specs.declared.pos.Pos.{Pos}
use Rattle.sa_tokens.specs.declared.keyword.Keyword.{Keyword}
use Rattle.sa_tokens.specs.declared.punct.Punct.{Punct}
use Rattle.sa_tokens.specs.declared.token.Word.{Word}
use Rattle.sa_tokens.specs.declared.token.Word.TheVariants.{Name, Number, Key, Mark}
use Rattle.sa_tokens.specs.declared.token.Token.{Token}
use Rattle.sa_syntax.specs.declared.decl.Name.{Name as Named}
use Rattle.sa_syntax.specs.Words.{Names, named, is_type_name}

-- the answer of a reader, with the tokens that it leaves
pub data Read (A : Type 0) : Type 0 where
  Got : A → List Token → Read A
  -- no text goes on with the first of these tokens, or ends where there is none
  Stuck : List Token → Read A
  -- more would be open at the first of these tokens than may be
  Deep : List Token → Read A

abbrev pub Parser : Type 0 → Type 0
Parser A = List Token → Read A

abbrev pub and_then : {A B : Type 0} → Read A → (A → Parser B) → Read B
and_then (Got a ts) f = f a ts
and_then (Stuck ts) f = Stuck ts
and_then (Deep ts) f = Deep ts

infixl 10 ◌>>=◌
abbrev pub ◌>>=◌ : {A B : Type 0} → Parser A → (A → Parser B) → Parser B
p >>= f = λ ts. and_then (p ts) f

infixl 10 ◌>>◌
abbrev pub ◌>>◌ : {A B : Type 0} → Parser A → Parser B → Parser B
p >> q = p >>= (λ _. q)

abbrev pub pure : {A : Type 0} → A → Parser A
pure a = λ ts. Got a ts

abbrev pub refuse : {A : Type 0} → Parser A
refuse = λ ts. Stuck ts

-- ---- the first token
unfoldable pub same_mark : Punct → Punct → Bool
same_mark = sameb the_type

abbrev pub is_mark : Punct → Word → Bool
is_mark m (Mark k) = same_mark m k
is_mark m (Name w) = false
is_mark m (Number v u l d) = false
is_mark m (Key k) = false

unfoldable pub sees : Punct → List Token → Bool
sees m [] = false
sees m (t ∷ ts) = is_mark m t.word

abbrev pub after : List Token → List Token
after [] = []
after (t ∷ ts) = ts

-- this mark, whose place is the answer
unfoldable pub expect : Punct → Parser Pos
expect m [] = Stuck []
expect m (t ∷ ts) = if is_mark m t.word then Got t.pos ts else Stuck (t ∷ ts)

-- a token that opens what counts as nesting, where that many may be open besides
unfoldable pub opens_any : ℕ → Parser Pos
opens_any n [] = Stuck []
opens_any zero (t ∷ ts) = Deep (t ∷ ts)
opens_any (suc n) (t ∷ ts) = Got t.pos ts

unfoldable pub opens : ℕ → Punct → Parser Pos
opens n m ts = if sees m ts then opens_any n ts else Stuck ts

abbrev pub name_by : Word → Pos → Option Named
name_by (Name w) p = Some (named w p)
name_by (Number v u l d) p = None
name_by (Key k) p = None
name_by (Mark m) p = None

-- the name at the front
unfoldable pub name_at : List Token → Option Named
name_at [] = None
name_at (t ∷ ts) = name_by t.word t.pos

abbrev pub taken : {A : Type 0} → Option A → Parser A
taken None ts = Stuck ts
taken (Some a) ts = Got a (after ts)

-- a name, whatever it was declared as
unfoldable pub any_name : Parser Named
any_name ts = taken (name_at ts) ts

abbrev pub unless_type : Names → Option Named → Option Named
unless_type ns None = None
unless_type ns (Some x) = if is_type_name ns x.text then None else Some x

-- a name that is no type name
unfoldable pub variable : Names → Parser Named
variable ns ts = taken (unless_type ns (name_at ts)) ts

abbrev pub key_by : Word → Option Keyword
key_by (Key k) = Some k
key_by (Name w) = None
key_by (Number v u l d) = None
key_by (Mark m) = None

-- the keyword at the front
unfoldable pub key_at : List Token → Option Keyword
key_at [] = None
key_at (t ∷ ts) = key_by t.word

abbrev pub mark_by : Word → Option Punct
mark_by (Mark m) = Some m
mark_by (Name w) = None
mark_by (Number v u l d) = None
mark_by (Key k) = None

-- the mark at the front
unfoldable pub mark_at : List Token → Option Punct
mark_at [] = None
mark_at (t ∷ ts) = mark_by t.word

-- ---- lists. The number bounds the turns; each turn takes a token, so that the count of tokens is enough.
abbrev pub turns : List Token → ℕ
turns ts = suc (length ts)

-- items as long as the test says so
unfoldable pub while_from : {A : Type 0} → (List Token → Bool) → Parser A → ℕ → List A → Parser (List A)
while_from goes item zero found = refuse
while_from goes item (suc n) found = λ ts. if goes ts then (item >>= (λ x. while_from goes item n (found ++ x ∷ []))) ts else Got found ts

abbrev pub many : {A : Type 0} → (List Token → Bool) → Parser A → Parser (List A)
many goes item = λ ts. while_from goes item (turns ts) [] ts
