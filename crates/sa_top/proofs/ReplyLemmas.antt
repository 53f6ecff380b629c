-- What a read tells of the content of the named file, and what was read of a source.
use Rattle.std.proofs.Common.{◌≡◌, ℕ, ◌<◌, List, [], ◌∷◌, ◌++◌, Option, Some, None, Ok, Err, length, length-append, refl, sym, ap, subst, arith}
use Rattle.std.specs.Prelude.{Result, IfOk}
use Rattle.sa_base.specs.declared.pos.Pos.{Pos}
use Rattle.sa_base.specs.declared.status.Status.{Status}
use Rattle.sa_base.specs.declared.status.Status.TheVariants as s
use Rattle.sa_base.specs.declared.limit.Limit.TheVariants.{Source}
use Rattle.sa_outside.specs.Files.{Files, file_of}
use Rattle.sa_outside.specs.Reading.{FitsFile, FitsTold, StopsAtLimit}
use Rattle.sa_outside.specs.declared.shelf.ShelfError.TheVariants.{TooLong}
use Rattle.sa_tokens.specs.declared.token.Token.{Token}
use Rattle.sa_tokens.specs.declared.fault.TokenFault.{TokenFault}
use Rattle.sa_tokens.specs.declared.fault.TokenFault.TheVariants.{BadByte, BadNumber, OpenComment, Directive, TooManyTokens}
use Rattle.sa_tokens.specs.declared.fault.TokenFault.TheVariants as t
use Rattle.sa_tokens.specs.Lexed.{IsLexed, IsAnswer, end_pos}
use Rattle.sa_parser.specs.declared.fault.ParseFault.{ParseFault}
use Rattle.sa_parser.specs.declared.fault.ParseFault.TheVariants.{Syntax, TooDeep}
use Rattle.sa_parser.specs.declared.fault.ParseFault.TheVariants as q
use Rattle.sa_parser.specs.Faults.{IsFault}
use Rattle.sa_base.specs.declared.refusal.Refusal.{Refusal}
use Rattle.sa_base.specs.declared.refusal.Code.TheVariants as code
use Rattle.sa_base.specs.declared.limit.Limit.{Limit}
use Rattle.sa_base.specs.declared.limit.Limit.TheVariants.{Cells}
use Rattle.sa_syntax.specs.declared.unit.Unit.{Unit as Tree}
use Rattle.sa_syntax.specs.Refusals.{IsSource}
use Rattle.sa_typed.specs.declared.program.Program.{Program}
use Rattle.sa_typer.specs.declared.fault.TypeFault.{TypeFault}
use Rattle.sa_typer.specs.declared.fault.TypeFault.TheVariants as u
use Rattle.sa_unbuilt.specs.Unbuilt.{first_unbuilt}
use Rattle.sa_typer.specs.Units.{answer, Accepts, Refuses, TooManyCells}
use Rattle.sa_typer.specs.Answers.{IsFault as IsTypeFault}
use Rattle.sa_top.specs.declared.reply.Reply.{Reply}
use Rattle.sa_top.specs.Accepted.{Unbuilt, Refused, TooLarge, Built, IsRead, IsAccepted, reading_of}
use Rattle.sa_top.specs.Answer.{SourceAnswer, report, report_status, report_of, IsWithin, bad_byte, bad_number, open_comment, directive, too_many, no_tree, too_deep, too_long, unlexed, unparsed, unbuilt, refused, too_large}
use Rattle.sa_top.specs.Rejections.{by_tokens, by_parser, by_typer, IsRejected}
use Rattle.sa_top.specs.Reply.{IsAnswered}
use Rattle.sa_top.specs.Report.{limit_text, refused_text}
use Rattle.sa_top.specs.Top.{IsTold}

-- a file that was read whole is what is told of it
pub read-told : {T : Type 0} (u : T) (files : Option Files) (name got : List ℕ) (limit : ℕ) → FitsTold files name limit (Ok u) got → IsTold files (Some name) (Some got)
read-told u None name got limit h = tt
read-told u (Some files) name got limit h = held (file_of name files) h
  where
    held : (o : Option (List ℕ)) → FitsFile o limit (Ok u) got → Some got ≡ o
    held None h = absurd h
    held (Some file) h = ap (λ (x : List ℕ). Some x) h.0

-- a content of the file that is too long
pub record IsLong (files : Option Files) (name : List ℕ) : Type 0 where
  pub source : List ℕ
  pub told : IsTold files (Some name) (Some source)
  pub long : 4194304 < length source

held-long : (T : Type 0) (files : Files) (name got : List ℕ) (o : Option (List ℕ)) → file_of name files ≡ o → FitsFile {T = T} o 4194304 (Err TooLong) got → IsLong (Some files) name
held-long T files name got None is h = absurd h
held-long T files name got (Some file) is h = record { source = file; told = sym is; long = h.1 }

pub long-told : (T : Type 0) (files : Option Files) (name got : List ℕ) → FitsTold {T = T} files name 4194304 (Err TooLong) got → StopsAtLimit {T = T} 4194304 (Err TooLong) got → IsLong files name
long-told T None name got h k = record { source = got ++ 0 ∷ []; told = tt; long = omega (arith, k, length-append got (0 ∷ [])) }
long-told T (Some files) name got h k = held-long T files name got (file_of name files) refl h

-- the reply about a file that is too long
pub long-answered : (files : Option Files) (name : List ℕ) (status : Status) (text : List ℕ) → IsLong files name → status ≡ s.Limit → text ≡ limit_text Source → IsAnswered files (Some name) status text
long-answered files name status text long is written = record {
  content = Some long.source;
  told = long.told;
  fits = rw (is, written) (too_long long.long);
}

-- ---- what was read of a source
pub tokens-rejected : (source : List ℕ) (fault : TokenFault) → IsWithin source → IsAnswer source fault → IsRejected source (by_tokens fault)
tokens-rejected source (BadByte p) w h = unlexed _ _ w (bad_byte p h)
tokens-rejected source (BadNumber p) w h = unlexed _ _ w (bad_number p h)
tokens-rejected source (OpenComment p) w h = unlexed _ _ w (open_comment p h)
tokens-rejected source (Directive p) w h = unlexed _ _ w (directive p h)
tokens-rejected source TooManyTokens w h = unlexed _ _ w (too_many h)
tokens-rejected source t.OutOfMemory w h = tt

parser-fault : (source : List ℕ) (ts : List Token) (fault : ParseFault) → IsWithin source → IsLexed source ts → IsFault ts (end_pos source) fault → IsRejected source (by_parser fault)
parser-fault source ts (Syntax p) w l h = unparsed _ _ w (no_tree ts p l h)
parser-fault source ts (TooDeep p) w l h = unparsed _ _ w (too_deep ts p l h)
parser-fault source ts q.OutOfMemory w l h = tt

-- of tokens and an end that are passed
pub parser-rejected : (source : List ℕ) (ts us : List Token) (end : Pos) (fault : ParseFault) → IsWithin source → IsLexed source ts → us ≡ ts → end ≡ end_pos source → IsFault us end fault → IsRejected source (by_parser fault)
parser-rejected source ts us end fault w l d e h = parser-fault source ts fault w l (subst (λ (x : Pos). IsFault ts x fault) e (subst (λ (x : List Token). IsFault x end fault) d h))

-- ---- what a tree is read as
reads-unbuilt : (source : List ℕ) (ts : List Token) (t : Tree) (p : Pos) → IsLexed source ts → IsSource ts t → first_unbuilt t ≡ Some p → IsRead source (Unbuilt p)
unfolding reading_of
reads-unbuilt source ts t p l h e = record { tokens = ts; tree = t; lexed = l; parsed = h; read = rw e refl }

reads-built : (source : List ℕ) (ts : List Token) (t : Tree) (p : Program) → IsLexed source ts → IsSource ts t → first_unbuilt t ≡ None → answer t (end_pos source) ≡ Accepts p → IsAccepted source p
unfolding reading_of
reads-built source ts t p l h e a = record { tokens = ts; tree = t; lexed = l; parsed = h; read = rw (e, a) refl }

reads-refused : (source : List ℕ) (ts : List Token) (t : Tree) (r : Refusal) → IsLexed source ts → IsSource ts t → first_unbuilt t ≡ None → answer t (end_pos source) ≡ Refuses r → IsRead source (Refused r)
unfolding reading_of
reads-refused source ts t r l h e a = record { tokens = ts; tree = t; lexed = l; parsed = h; read = rw (e, a) refl }

reads-large : (source : List ℕ) (ts : List Token) (t : Tree) → IsLexed source ts → IsSource ts t → first_unbuilt t ≡ None → answer t (end_pos source) ≡ TooManyCells → IsRead source TooLarge
unfolding reading_of
reads-large source ts t l h e a = record { tokens = ts; tree = t; lexed = l; parsed = h; read = rw (e, a) refl }

-- of tokens, a tree and an end that are passed
module _ (source : List ℕ) (ts us : List Token) (t : Tree) (end : Pos) (w : IsWithin source) (l : IsLexed source ts) (d : us ≡ ts) (e : end ≡ end_pos source) (h : IsSource us t) where
  tree : IsSource ts t
  tree = subst (λ (x : List Token). IsSource x t) d h

  pub unbuilt-rejected : (p : Pos) → first_unbuilt t ≡ Some p → SourceAnswer source s.SourceRefused (refused_text code.Unsupported p)
  unbuilt-rejected p f = unbuilt p w (reads-unbuilt source ts t p l tree f)

  pub typed-accepted : (p : Program) → first_unbuilt t ≡ None → answer t end ≡ Accepts p → IsAccepted source p
  typed-accepted p f a = reads-built source ts t p l tree f (subst (λ (x : Pos). answer t x ≡ Accepts p) e a)

  typed-fault : (fault : TypeFault) → first_unbuilt t ≡ None → IsTypeFault t (end_pos source) fault → IsRejected source (by_typer fault)
  typed-fault (u.Refused r) f a = refused r w (reads-refused source ts t r l tree f a)
  typed-fault (u.TooMany limit) f a = subst (λ (x : Limit). SourceAnswer source s.Limit (limit_text x)) (sym a.0) (too_large w (reads-large source ts t l tree f a.1))
  typed-fault u.OutOfMemory f a = tt

  pub typer-rejected : (fault : TypeFault) → first_unbuilt t ≡ None → IsTypeFault t end fault → IsRejected source (by_typer fault)
  typer-rejected fault f a = typed-fault fault f (subst (λ (x : Pos). IsTypeFault t x fault) e a)

pub report-fits : {E : Type 0} (source : List ℕ) (p : Program) (o : Result Reply E) → IsWithin source → IsAccepted source p → IfOk o (λ r. (r.status ≡ report_status p) × (r.text.items ≡ report_of p)) → IfOk o (λ r. SourceAnswer source r.status r.text.items)
report-fits source p (Ok r) w i h = rw (h.0, h.1) (report p w i)
report-fits source p (Err e) w i h = tt
