-- Types as they are written (ISO C 6.7.2, 6.7.3, 6.7.7): words, qualifiers, tags and type names.
use Rattle.std.specs.List.{fold}
use Rattle.std.specs.Prelude.{ℕ, List, [], ◌∷◌, ◌&&◌, ◌||◌, not, Bool, true, false, if◌then◌else◌, length, Option, Some, None}
use Rattle.sa_base.specs.declared.num.Num.{Num}
use Rattle.sa_base.specs.declared.num.Num.TheVariants.{I8, U8, I16, U16, I32, U32, I64, U64}
use Rattle.sa_base.specs.declared.pos.Pos.{Pos}
use Rattle.sa_syntax.specs.declared.decl.Name.{Name}
use Rattle.sa_syntax.specs.declared.decl.Qualified.{Qualified}
use Rattle.sa_syntax.specs.declared.decl.Qualifier.{Qualifier}
use Rattle.sa_syntax.specs.declared.decl.Qualifier.TheVariants.{Const, Volatile, Static}
use Rattle.sa_syntax.specs.declared.decl.ScalarWord.{ScalarWord}
use Rattle.sa_syntax.specs.declared.decl.ScalarWord.TheVariants.{Char, Int, Long, Short, Signed, Unsigned}
use Rattle.sa_typed.specs.declared.shape.Shape.{Shape}
use Rattle.sa_typed.specs.declared.shape.Plain.{Plain}
use Rattle.sa_typed.specs.declared.shape.Plain.TheVariants as p
use Rattle.sa_scopes.specs.declared.types.Element.{Element}
use Rattle.sa_scopes.specs.declared.types.Element.TheVariants as el
use Rattle.sa_scopes.specs.declared.types.Named.{Named}
use Rattle.sa_scopes.specs.declared.types.Named.TheVariants as n
use Rattle.sa_scopes.specs.declared.types.Tagged.{Tagged}
use Rattle.sa_scopes.specs.declared.types.Tagged.TheVariants as t
use Rattle.sa_scopes.specs.declared.types.Ty.{Ty}
use Rattle.sa_scopes.specs.declared.types.Width.{Width}
use Rattle.sa_scopes.specs.declared.types.Width.TheVariants as w
use Rattle.sa_scopes.specs.declared.types.Words.{Words}
use Rattle.sa_scopes.specs.Scopes.{meaning_of}
use Rattle.sa_scopes.specs.Typing.{Typing, Typed, Gives, ◌>>=◌, ◌>>◌, pure, refuse, refuse_if, refused, each}

-- ---- words
abbrev pub no_words : Words
no_words = record { width = w.Plain; int = false; signed = false; unsigned = false }

abbrev pub is_plain : Width → Bool
is_plain w.Plain = true
is_plain _ = false

abbrev pub is_char : Width → Bool
is_char w.Char = true
is_char _ = false

-- another `long`
abbrev pub longer_width : Width → Option Width
longer_width w.Plain = Some w.Long
longer_width w.Long = Some w.LongLong
longer_width _ = None

abbrev pub with_width : Words → Option Width → Option Words
with_width s None = None
with_width s (Some width) = Some (record s { width = width })

-- the words with one more, where they are still a part of the words of a type (6.7.2p2)
unfoldable pub with_word : Words → ScalarWord → Option Words
with_word s Char = if is_plain s.width && not s.int then Some (record s { width = w.Char }) else None
with_word s Short = if is_plain s.width then Some (record s { width = w.Short }) else None
with_word s Long = with_width s (longer_width s.width)
with_word s Int = if s.int || is_char s.width then None else Some (record s { int = true })
with_word s Signed = if s.signed || s.unsigned then None else Some (record s { signed = true })
with_word s Unsigned = if s.signed || s.unsigned then None else Some (record s { unsigned = true })

abbrev pub next_word : Option Words → ScalarWord → Option Words
next_word None x = None
next_word (Some s) x = with_word s x

-- a char is signed: this project's own choice (6.2.5p15)
abbrev pub num_by : Width → Bool → Num
num_by w.Char unsigned = if unsigned then U8 else I8
num_by w.Short unsigned = if unsigned then U16 else I16
num_by w.Plain unsigned = if unsigned then U32 else I32
num_by w.Long unsigned = if unsigned then U32 else I32
num_by w.LongLong unsigned = if unsigned then U64 else I64

abbrev pub num_in : Option Words → Option Num
num_in None = None
num_in (Some s) = Some (num_by s.width s.unsigned)

-- the type that words are, where they are one
abbrev pub num_of : List ScalarWord → Option Num
num_of ws = num_in (fold next_word (Some no_words) ws)

-- ---- qualifiers
abbrev pub is_const : Qualifier → Bool
is_const Const = true
is_const _ = false

abbrev pub or_const : Bool → Qualified → Bool
or_const found q = found || is_const q.word

abbrev pub has_const : List Qualified → Bool
has_const qs = fold or_const false qs

abbrev pub is_volatile : Qualifier → Bool
is_volatile Volatile = true
is_volatile _ = false

abbrev pub or_volatile : Bool → Qualified → Bool
or_volatile found q = found || is_volatile q.word

abbrev pub has_volatile : List Qualified → Bool
has_volatile qs = fold or_volatile false qs

-- whether a word is out of place where `volatile` may stand, and `static`
abbrev pub is_misplaced : Bool → Bool → Qualifier → Bool
is_misplaced volatile static Const = false
is_misplaced volatile static Volatile = not volatile
is_misplaced volatile static Static = not static

abbrev pub qualifier : Bool → Bool → Qualified → Unit {0} → Typing (Unit {0})
qualifier volatile static q found = refuse_if (is_misplaced volatile static q.word) 21 q.pos

-- each word that is out of place is refused
unfoldable pub qualifiers : Bool → Bool → List Qualified → Typing (Unit {0})
qualifiers volatile static qs = each (qualifier volatile static) qs tt

-- ---- types
abbrev pub plain : Element → Ty
plain e = record { element = e; constant = false }

-- the type of words, the place of whose type's first token is given
abbrev pub scalar : Pos → Option Num → Typing Ty
scalar p (Some num) = pure (plain (el.Scalar num))
scalar p None = refuse 3 p >> pure (plain el.Unknown)

abbrev pub defined : Pos → Option Tagged → Typing Ty
defined p (Some (t.Struct k)) = pure (plain (el.Struct k))
defined p (Some t.Open) = refuse 3 p >> pure (plain el.Unknown)
defined p None = refuse 3 p >> pure (plain el.Unknown)

-- `struct tag`
unfoldable pub tagged : Pos → Name → Typing Ty
tagged p x = λ s. defined p (meaning_of s.tags x.text) s

abbrev pub alias : Option Named → Ty
alias (Some (n.Alias ty)) = ty
alias _ = plain el.Unknown

-- a type name; where it stands for no type its declaration was refused
unfoldable pub type_name : Name → Typing Ty
type_name x = λ s. Gives (alias (meaning_of s.names x.text)) s

abbrev pub qualified : List Qualified → Ty → Ty
qualified qs ty = record { element = ty.element; constant = ty.constant || has_const qs }

-- an object's type isn't void
abbrev pub not_void : Pos → Ty → Typing Ty
not_void p ty = elim ty.element as (λ _. Typing Ty) [ el.Void ↦ refuse 3 p >> pure (record { element = el.Unknown; constant = ty.constant }) | _ ↦ pure ty ]

-- the type with its qualifiers, given what stands after them
abbrev pub whole : List Qualified → Typing Ty → Typing Ty
whole qs base = base >>= (λ ty. pure (qualified qs ty))

abbrev pub object : Pos → List Qualified → Typing Ty → Typing Ty
object p qs base = whole qs base >>= not_void p

-- ---- objects
abbrev pub plain_of : Element → Plain
plain_of (el.Scalar num) = p.Scalar num
plain_of (el.Struct k) = p.Struct k
plain_of _ = p.Scalar I32

-- what has such elements and dimensions, the outermost first (6.7.5.2); what was refused counts as an int
abbrev pub shape_of : Element → List ℕ → Shape
shape_of e dims = record { dims = dims; plain = plain_of e }
