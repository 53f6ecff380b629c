-- Keywords, names and numbers: a spelling is a run of letters, digits and underscores.
use Rattle.std.specs.Prelude.{ℕ, ◌+◌, ◌-◌, ◌*◌, ◌^◌, List, [], ◌∷◌, Bool, true, false, ◌&&◌, ◌||◌, not, if◌then◌else◌, nat_le, nat_lt, codes, drop, length, fold, take_while, Option, Some, None}
use Rattle.sa_tokens.specs.declared.keyword.Keyword.{Keyword}
use Rattle.sa_tokens.specs.declared.keyword.Keyword.TheVariants as k
use Rattle.sa_tokens.specs.declared.number.Radix.{Radix}
use Rattle.sa_tokens.specs.declared.number.Radix.TheVariants.{Decimal, Octal, Hexadecimal}
use Rattle.sa_tokens.specs.declared.number.Suffix.{Suffix}
use Rattle.sa_tokens.specs.declared.token.Word.{Word}
use Rattle.sa_tokens.specs.declared.token.Word.TheVariants as w
use Rattle.sa_tokens.specs.Bytes.{is_digit, begins, look_up}

-- ---- keywords
-- the keywords of C (ISO C 6.4.1), and the words of the four directives
abbrev pub keywords : List (List ℕ × Keyword)
keywords =
    (codes "auto", k.Auto) ∷ (codes "break", k.Break) ∷ (codes "case", k.Case) ∷ (codes "char", k.Char) ∷
    (codes "const", k.Const) ∷ (codes "continue", k.Continue) ∷ (codes "default", k.Default) ∷ (codes "do", k.Do) ∷
    (codes "double", k.Double) ∷ (codes "else", k.Else) ∷ (codes "enum", k.Enum) ∷ (codes "extern", k.Extern) ∷
    (codes "float", k.Float) ∷ (codes "for", k.For) ∷ (codes "goto", k.Goto) ∷ (codes "if", k.If) ∷
    (codes "inline", k.Inline) ∷ (codes "int", k.Int) ∷ (codes "long", k.Long) ∷ (codes "register", k.Register) ∷
    (codes "restrict", k.Restrict) ∷ (codes "return", k.Return) ∷ (codes "short", k.Short) ∷ (codes "signed", k.Signed) ∷
    (codes "sizeof", k.Sizeof) ∷ (codes "static", k.Static) ∷ (codes "struct", k.Struct) ∷ (codes "switch", k.Switch) ∷
    (codes "typedef", k.Typedef) ∷ (codes "union", k.Union) ∷ (codes "unsigned", k.Unsigned) ∷ (codes "void", k.Void) ∷
    (codes "volatile", k.Volatile) ∷ (codes "while", k.While) ∷
    (codes "_Bool", k.Bool) ∷ (codes "_Complex", k.Complex) ∷ (codes "_Imaginary", k.Imaginary) ∷
    (codes "__ASTREE_wait_for_clock", k.WaitForClock) ∷ (codes "__ASTREE_known_fact", k.KnownFact) ∷
    (codes "__ASTREE_assert", k.Assert) ∷ (codes "__ASTREE_partition", k.Partition) ∷ []

unfoldable pub keyword_of : List ℕ → Option Keyword
keyword_of s = look_up s keywords

-- a keyword, or else a name (ISO C 6.4.2.1)
abbrev pub key_or_name : List ℕ → Option Keyword → Word
key_or_name s None = w.Name s
key_or_name s (Some k) = w.Key k

abbrev pub name_of : List ℕ → Word
name_of s = key_or_name s (keyword_of s)

-- ---- numbers (ISO C 6.4.4.1)
-- the value of a digit, 16 for a byte that is none
abbrev pub digit_value : ℕ → ℕ
digit_value b =
    if is_digit b then b - 48 else
    (if nat_le 65 b && nat_le b 70 then b - 55 else
    (if nat_le 97 b && nat_le b 102 then b - 87 else 16))

abbrev pub base : Radix → ℕ
base Decimal = 10
base Octal = 8
base Hexadecimal = 16

abbrev pub is_digit_in : Radix → ℕ → Bool
is_digit_in radix b = nat_lt (digit_value b) (base radix)

-- hexadecimal after `0x` or `0X`, else octal after a leading 0, else decimal
abbrev pub radix_of : List ℕ → Radix
radix_of s = if begins (codes "0x") s || begins (codes "0X") s then Hexadecimal else (if begins (codes "0") s then Octal else Decimal)

-- the spelling without the two bytes that only tell its base
abbrev pub after_prefix : Radix → List ℕ → List ℕ
after_prefix Decimal s = s
after_prefix Octal s = s
after_prefix Hexadecimal s = drop 2 s

abbrev pub value_of : Radix → List ℕ → ℕ
value_of radix digits = fold (λ v d. v * base radix + digit_value d) 0 digits

-- at most one `u`, and one or two `l` of one case, in either order
abbrev pub suffix : Bool → ℕ → Suffix
suffix u n = record { unsigned = u; longs = n }

abbrev pub suffixes : List (List ℕ × Suffix)
suffixes =
    (codes "", suffix false 0) ∷ (codes "u", suffix true 0) ∷ (codes "U", suffix true 0) ∷
    (codes "l", suffix false 1) ∷ (codes "L", suffix false 1) ∷ (codes "ll", suffix false 2) ∷ (codes "LL", suffix false 2) ∷
    (codes "ul", suffix true 1) ∷ (codes "uL", suffix true 1) ∷ (codes "Ul", suffix true 1) ∷ (codes "UL", suffix true 1) ∷
    (codes "lu", suffix true 1) ∷ (codes "lU", suffix true 1) ∷ (codes "Lu", suffix true 1) ∷ (codes "LU", suffix true 1) ∷
    (codes "ull", suffix true 2) ∷ (codes "uLL", suffix true 2) ∷ (codes "Ull", suffix true 2) ∷ (codes "ULL", suffix true 2) ∷
    (codes "llu", suffix true 2) ∷ (codes "llU", suffix true 2) ∷ (codes "LLu", suffix true 2) ∷ (codes "LLU", suffix true 2) ∷ []

unfoldable pub suffix_of : List ℕ → Option Suffix
suffix_of s = look_up s suffixes

abbrev pub is_decimal : Radix → Bool
is_decimal Decimal = true
is_decimal Octal = false
is_decimal Hexadecimal = false

-- a decimal number without `u` is a signed one
abbrev pub greatest : Radix → Suffix → ℕ
greatest radix s = if is_decimal radix && not s.unsigned then 2 ^ 63 - 1 else 2 ^ 64 - 1

abbrev pub number_in : Radix → ℕ → Suffix → Option Word
number_in radix v s = if nat_le v (greatest radix s) then Some (w.Number v s.unsigned s.longs (is_decimal radix)) else None

abbrev pub number_with : Radix → List ℕ → Option Suffix → Option Word
number_with radix [] s = None
number_with radix (d ∷ ds) None = None
number_with radix (d ∷ ds) (Some s) = number_in radix (value_of radix (d ∷ ds)) s

-- digits of the base, at least one, and a suffix
abbrev pub number_from : Radix → List ℕ → Option Word
number_from radix s = let digits = take_while (is_digit_in radix) s in number_with radix digits (suffix_of (drop (length digits) s))

-- the number that is spelled so, None where no number is
unfoldable pub number_of : List ℕ → Option Word
number_of s = number_from (radix_of s) (after_prefix (radix_of s) s)
