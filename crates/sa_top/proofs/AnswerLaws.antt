-- A source has one answer.
use Rattle.std.proofs.Common.{◌≡◌, ℕ, ◌<◌, length, List, [], ◌∷◌, ◌++◌, append_assoc, refl, ap, sym, subst, ◌∙◌, arith, inl, inr, ◌⊎◌}
use Rattle.sa_base.specs.declared.pos.Pos.{Pos}
use Rattle.sa_base.specs.declared.status.Status.{Status}
use Rattle.sa_base.specs.declared.status.Status.TheVariants as s
use Rattle.sa_base.specs.declared.refusal.Code.TheVariants as code
use Rattle.sa_base.specs.declared.limit.Limit.TheVariants.{Tokens, Cells}
use Rattle.sa_base.specs.declared.limit.Limit.TheVariants.{Source as Length}
use Rattle.sa_base.specs.Numbers.{limit_number}
use Rattle.sa_tokens.specs.declared.token.Token.{Token}
use Rattle.sa_tokens.specs.declared.fault.TokenFault.{TokenFault}
use Rattle.sa_tokens.specs.declared.fault.TokenFault.TheVariants.{BadByte, BadNumber, OpenComment, Directive, TooManyTokens, OutOfMemory}
use Rattle.sa_tokens.specs.Lexed.{IsLexed, IsRefused, HasTooMany, end_pos}
use Rattle.sa_tokens.proofs.ReadingLemmas.{each_has_one_answer}
use Rattle.sa_syntax.specs.declared.unit.Unit.{Unit as Source}
use Rattle.sa_syntax.specs.Statements.{Tree}
use Rattle.sa_syntax.specs.Refusals.{IsSource, HasNoTree, Begins, BeginsNone, IsRefused as IsStopped, Deepens, FailsAt, IsTooDeep, place_at, most_open}
use Rattle.sa_syntax.proofs.UnitComplete.{one-tree}
use Rattle.sa_parser.specs.declared.fault.ParseFault.TheVariants.{Syntax, TooDeep}
use Rattle.sa_parser.specs.Faults.{IsFault}
use Rattle.sa_base.specs.declared.refusal.Refusal.{Refusal}
use Rattle.sa_typed.specs.declared.program.Program.{Program}
use Rattle.sa_top.specs.Accepted.{Reading, Unbuilt, Refused, TooLarge, Built, reading_of, IsRead, IsAccepted, OneReading}
use Rattle.sa_top.specs.Answer.{HasNoTokens, bad_byte, bad_number, open_comment, directive, too_many, IsUnparsed, no_tree, too_deep, IsWithin, SourceAnswer, too_long, unlexed, unparsed, unbuilt, refused, too_large, report, report_status, report_of, OneAnswer}
use Rattle.sa_top.specs.Report.{refused_text, limit_text}

-- ---- what a fault of the parser excludes
append_none : (xs : List Token) → xs ++ [] ≡ xs
append_none [] = refl
append_none (x ∷ xs) = ap (λ z. x ∷ z) (append_none xs)

no-tree : (ts rest : List Token) → FailsAt most_open ts rest → HasNoTree ts
no-tree ts [] f n u k = f.refused n u (subst (λ z. Tree n z u) (f.is ∙ append_none f.before) k)
no-tree ts (t ∷ rest) f n u k = f.refused n rest u (subst (λ z. Tree n z u) (f.is ∙ sym (append_assoc f.before (t ∷ []) rest)) k)

syntax-no_source : (ts : List Token) (end p : Pos) (u : Source) → IsFault ts end (Syntax p) → IsSource ts u → ⊥
syntax-no_source ts end p u h k = no-tree ts h.rest h.fails most_open u k

-- ---- two places at which the same tokens are refused are one
-- the token that is refused begins no longer front that begins a text
longer : (b : List Token) (t : Token) (us d vs : List Token) → Begins (b ++ t ∷ d) → BeginsNone (b ++ t ∷ []) → ⊥
longer b t us d vs g none =
    let same : ((b ++ t ∷ d) ++ g.1) ≡ (b ++ t ∷ []) ++ (d ++ g.1) = append_assoc b (t ∷ d) (g.1) ∙ sym (append_assoc b (t ∷ []) (d ++ g.1)) in
    none (g.0) (d ++ g.1) (g.2) (subst (λ z. Tree (g.0) z (g.2)) same (g.3))

-- of two fronts of one text one is the other and more
data Fronts (b c us vs : List Token) : Type 0 where
  alike : b ≡ c → us ≡ vs → Fronts b c us vs
  first_more : (t : Token) (d : List Token) → b ≡ c ++ t ∷ d → vs ≡ t ∷ (d ++ us) → Fronts b c us vs
  second_more : (t : Token) (d : List Token) → c ≡ b ++ t ∷ d → us ≡ t ∷ (d ++ vs) → Fronts b c us vs

next_fronts : (x : Token) (b c us vs : List Token) → Fronts b c us vs → Fronts (x ∷ b) (x ∷ c) us vs
next_fronts x b c us vs (Fronts.alike e f) = Fronts.alike (ap (λ z. x ∷ z) e) f
next_fronts x b c us vs (Fronts.first_more t d e f) = Fronts.first_more t d (ap (λ z. x ∷ z) e) f
next_fronts x b c us vs (Fronts.second_more t d e f) = Fronts.second_more t d (ap (λ z. x ∷ z) e) f

fronts : (b c us vs : List Token) → b ++ us ≡ c ++ vs → Fronts b c us vs
fronts [] [] us vs e = Fronts.alike refl e
fronts [] (t ∷ c) us vs e = Fronts.second_more t c refl e
fronts (t ∷ b) [] us vs e = Fronts.first_more t b refl (sym e)
fronts (x ∷ b) (y ∷ c) us vs e =
    let same : x ≡ y = cc in
    let rest : b ++ us ≡ c ++ vs = cc in
    subst (λ z. Fronts (x ∷ b) (z ∷ c) us vs) same (next_fronts x b c us vs (fronts b c us vs rest))

refused-longer : (b : List Token) (t : Token) (d us rest : List Token) → rest ≡ t ∷ (d ++ us) → Begins (b ++ t ∷ d) → IsStopped b rest → ⊥
refused-longer b t d us [] e g h = cc
refused-longer b t d us (x ∷ rest) e g h = let same : x ≡ t = cc in longer b t us d rest g (subst (λ z. BeginsNone (b ++ z ∷ [])) same h)

place-same : (ts us vs : List Token) (f : FailsAt most_open ts us) (g : FailsAt most_open ts vs) → Fronts f.before g.before us vs → us ≡ vs
place-same ts us vs f g (Fronts.alike e h) = h
place-same ts us vs f g (Fronts.first_more t d e h) = absurd (refused-longer g.before t d us vs h (subst Begins e f.begins) g.refused)
place-same ts us vs f g (Fronts.second_more t d e h) = absurd (refused-longer f.before t d vs us h (subst Begins e g.begins) f.refused)

error-same : (ts : List Token) (end p q : Pos) → IsFault ts end (Syntax p) → IsFault ts end (Syntax q) → p ≡ q
error-same ts end p q h k =
    let e = place-same ts h.rest k.rest h.fails k.fails (fronts h.fails.before k.fails.before h.rest k.rest (sym h.fails.is ∙ k.fails.is)) in
    h.place ∙ ap (place_at end) e ∙ sym k.place

deep-no_source : (ts : List Token) (end p : Pos) (u : Source) → IsFault ts end (TooDeep p) → IsSource ts u → ⊥
deep-no_source ts end p u h k =
    let d = h.0 in
    d.deep (record { deeper = []; deepens = Deepens.nothing; tail = d.after; unit = u; tree = subst (λ (us : List Token). IsSource us u) d.is k })

-- ---- a syntax error and the limit of nesting exclude one another
meet : (ts rest : List Token) (f : FailsAt most_open ts rest) (d : IsTooDeep ts) → Fronts f.before d.before rest (d.token ∷ d.after) → ⊥
meet ts rest f d (Fronts.alike e g) = refused-longer f.before d.token [] d.after rest g (subst (λ z. Begins (z ++ d.token ∷ [])) (sym e) d.begins) f.refused
-- more is open at a token before the one that is refused
meet ts rest f d (Fronts.first_more t x e g) = let same : d.token ≡ t = cc in d.deep (f.within d.before d.token x (e ∙ ap (λ (z : Token). d.before ++ z ∷ x) (sym same)))
-- no text begins with the tokens up to one before that
meet ts rest f d (Fronts.second_more t x e g) =
    refused-longer f.before t (x ++ d.token ∷ []) d.after rest (g ∙ ap (λ z. t ∷ z) (sym (append_assoc x (d.token ∷ []) d.after)))
    (subst Begins (ap (λ z. z ++ d.token ∷ []) e ∙ append_assoc f.before (t ∷ x) (d.token ∷ [])) d.begins) f.refused

error-not_deep : (ts : List Token) (end p q : Pos) → IsFault ts end (Syntax p) → IsFault ts end (TooDeep q) → ⊥
error-not_deep ts end p q h k =
    let d = k.0 in
    meet ts h.rest h.fails d (fronts h.fails.before d.before h.rest (d.token ∷ d.after) (sym h.fails.is ∙ d.is))

-- ---- refusals by the tokens
abbrev fault_text : TokenFault → List ℕ
fault_text (BadByte p) = refused_text code.BadByte p
fault_text (BadNumber p) = refused_text code.BadNumber p
fault_text (OpenComment p) = refused_text code.OpenComment p
fault_text (Directive p) = refused_text code.Directive p
fault_text TooManyTokens = []
fault_text OutOfMemory = []

record HasFault (source : List ℕ) (status : Status) (text : List ℕ) : Type 0 where
  fault : TokenFault
  refused : IsRefused source fault
  refuses : status ≡ s.SourceRefused
  says : text ≡ fault_text fault

record IsTooMany (source : List ℕ) (status : Status) (text : List ℕ) : Type 0 where
  many : HasTooMany source
  limits : status ≡ s.Limit
  says : text ≡ limit_text Tokens

by-fault : (source : List ℕ) (status : Status) (text : List ℕ) → HasNoTokens source status text → HasFault source status text ⊎ IsTooMany source status text
by-fault source _ _ (bad_byte p h) = inl (record { fault = BadByte p; refused = h; refuses = refl; says = refl })
by-fault source _ _ (bad_number p h) = inl (record { fault = BadNumber p; refused = h; refuses = refl; says = refl })
by-fault source _ _ (open_comment p h) = inl (record { fault = OpenComment p; refused = h; refuses = refl; says = refl })
by-fault source _ _ (directive p h) = inl (record { fault = Directive p; refused = h; refuses = refl; says = refl })
by-fault source _ _ (too_many h) = inr (record { many = h; limits = refl; says = refl })

faults-same : (source : List ℕ) (status other : Status) (text otherwise : List ℕ) → HasFault source status text ⊎ IsTooMany source status text → HasFault source other otherwise ⊎ IsTooMany source other otherwise →
    (status ≡ other) × (text ≡ otherwise)
faults-same source status other text otherwise (inl a) (inl b) =
    (a.refuses ∙ sym b.refuses, a.says ∙ ap fault_text ((each_has_one_answer source).same_fault a.fault b.fault a.refused b.refused) ∙ sym b.says)
faults-same source status other text otherwise (inl a) (inr b) = absurd ((each_has_one_answer source).not_within a.fault a.refused b.many)
faults-same source status other text otherwise (inr a) (inl b) = absurd ((each_has_one_answer source).not_within b.fault b.refused a.many)
faults-same source status other text otherwise (inr a) (inr b) = (a.limits ∙ sym b.limits, a.says ∙ sym b.says)

not-lexed : (source : List ℕ) (status : Status) (text : List ℕ) (ts : List Token) → IsLexed source ts → HasFault source status text ⊎ IsTooMany source status text → ⊥
not-lexed source status text ts h (inl a) = (each_has_one_answer source).not_lexed ts a.fault h a.refused
not-lexed source status text ts h (inr a) = (each_has_one_answer source).not_few ts h a.many

unlexed-lexed : (source : List ℕ) (status : Status) (text : List ℕ) (ts : List Token) → HasNoTokens source status text → IsLexed source ts → ⊥
unlexed-lexed source status text ts h k = not-lexed source status text ts k (by-fault source status text h)

-- ---- refusals by the parser
record HasTokens (source : List ℕ) : Type 0 where
  tokens : List Token
  lexed : IsLexed source tokens

unparsed-lexed : (source : List ℕ) (status : Status) (text : List ℕ) → IsUnparsed source status text → HasTokens source
unparsed-lexed source _ _ (no_tree ts p l h) = record { tokens = ts; lexed = l }
unparsed-lexed source _ _ (too_deep ts p l h) = record { tokens = ts; lexed = l }

unlexed-unparsed : (source : List ℕ) (status other : Status) (text otherwise : List ℕ) → HasNoTokens source status text → IsUnparsed source other otherwise → ⊥
unlexed-unparsed source status other text otherwise h k =
    let t = unparsed-lexed source other otherwise k in
    unlexed-lexed source status text t.tokens h t.lexed

same-tree : (source : List ℕ) (r : Reading) (ts : List Token) (i : IsRead source r) → IsLexed source ts → IsSource ts i.tree
same-tree source r ts i h = subst (λ (us : List Token). IsSource us i.tree) ((each_has_one_answer source).same_tokens i.tokens ts i.lexed h) i.parsed

pub unparsed-read : (source : List ℕ) (status : Status) (text : List ℕ) (r : Reading) → IsUnparsed source status text → IsRead source r → ⊥
unparsed-read source _ _ r (no_tree ts p l h) i = syntax-no_source ts (end_pos source) p i.tree h (same-tree source r ts i l)
unparsed-read source _ _ r (too_deep ts p l h) i = deep-no_source ts (end_pos source) p i.tree h (same-tree source r ts i l)

-- ---- what is read
pub reads-same : OneReading
reads-same source r q a b =
    sym a.read ∙ ap (λ (u : Source). reading_of (end_pos source) u) (one-tree most_open most_open b.tokens a.tree b.tree (same-tree source r b.tokens a b.lexed) b.parsed) ∙ b.read

-- what a reading is answered with
abbrev status_of : Reading → Status
status_of (Unbuilt p) = s.SourceRefused
status_of (Refused r) = s.SourceRefused
status_of TooLarge = s.Limit
status_of (Built p) = report_status p

abbrev text_of : Reading → List ℕ
text_of (Unbuilt p) = refused_text code.Unsupported p
text_of (Refused r) = refused_text r.code r.pos
text_of TooLarge = limit_text Cells
text_of (Built p) = report_of p

-- the sources that are within the limit and have a tree are answered by what they are read as
record IsByReading (source : List ℕ) (status : Status) (text : List ℕ) : Type 0 where
  reading : Reading
  read : IsRead source reading
  gives : status ≡ status_of reading
  says : text ≡ text_of reading

record IsTooLong (source : List ℕ) (status : Status) (text : List ℕ) : Type 0 where
  long : limit_number Length < length source
  gives : status ≡ s.Limit
  says : text ≡ limit_text Length

-- the four ways to an answer
data Way (source : List ℕ) (status : Status) (text : List ℕ) : Type 0 where
  by_length : IsTooLong source status text → Way source status text
  by_tokens : IsWithin source → HasNoTokens source status text → Way source status text
  by_tree : IsWithin source → IsUnparsed source status text → Way source status text
  by_reading : IsWithin source → IsByReading source status text → Way source status text

way : (source : List ℕ) (status : Status) (text : List ℕ) → SourceAnswer source status text → Way source status text
way source _ _ (too_long h) = by_length (record { long = h; gives = refl; says = refl })
way source _ _ (unlexed status text w a) = by_tokens w a
way source _ _ (unparsed status text w a) = by_tree w a
way source _ _ (unbuilt p w a) = by_reading w (record { reading = Unbuilt p; read = a; gives = refl; says = refl })
way source _ _ (refused r w a) = by_reading w (record { reading = Refused r; read = a; gives = refl; says = refl })
way source _ _ (too_large w a) = by_reading w (record { reading = TooLarge; read = a; gives = refl; says = refl })
way source _ _ (report p w a) = by_reading w (record { reading = Built p; read = a; gives = refl; says = refl })

-- ---- one answer
error-or_deep : (source : List ℕ) (ts us : List Token) (p q : Pos) → IsLexed source ts → IsLexed source us → IsFault ts (end_pos source) (Syntax p) → IsFault us (end_pos source) (TooDeep q) → ⊥
error-or_deep source ts us p q l o h k =
    let same : ts ≡ us = (each_has_one_answer source).same_tokens ts us l o in
    error-not_deep us (end_pos source) p q (subst (λ z. IsFault z (end_pos source) (Syntax p)) same h) k

unparsed-meet : (source : List ℕ) (status other : Status) (text otherwise : List ℕ) → IsUnparsed source status text → IsUnparsed source other otherwise → (status ≡ other) × (text ≡ otherwise)
unparsed-meet source _ _ _ _ (no_tree ts p l h) (no_tree us q o k) =
    let same : ts ≡ us = (each_has_one_answer source).same_tokens ts us l o in
    (refl, ap (refused_text code.Syntax) (error-same us (end_pos source) p q (subst (λ z. IsFault z (end_pos source) (Syntax p)) same h) k))
unparsed-meet source _ _ _ _ (no_tree ts p l h) (too_deep us q o k) = absurd (error-or_deep source ts us p q l o h k)
unparsed-meet source _ _ _ _ (too_deep ts p l h) (no_tree us q o k) = absurd (error-or_deep source us ts q p o l k h)
unparsed-meet source _ _ _ _ (too_deep ts p l h) (too_deep us q o k) = (refl, refl)

ways_meet : (source : List ℕ) (status other : Status) (text otherwise : List ℕ) → Way source status text → Way source other otherwise → (status ≡ other) × (text ≡ otherwise)
ways_meet source status other text otherwise (by_length h) (by_length k) = (h.gives ∙ sym k.gives, h.says ∙ sym k.says)
ways_meet source status other text otherwise (by_length h) (by_tokens w a) = let l = h.long in absurd (omega (arith, l, w))
ways_meet source status other text otherwise (by_length h) (by_tree w a) = let l = h.long in absurd (omega (arith, l, w))
ways_meet source status other text otherwise (by_length h) (by_reading w a) = let l = h.long in absurd (omega (arith, l, w))
ways_meet source status other text otherwise (by_tokens w a) (by_length h) = let l = h.long in absurd (omega (arith, l, w))
ways_meet source status other text otherwise (by_tokens w a) (by_tokens v b) = faults-same source status other text otherwise (by-fault source status text a) (by-fault source other otherwise b)
ways_meet source status other text otherwise (by_tokens w a) (by_tree v b) = absurd (unlexed-unparsed source status other text otherwise a b)
ways_meet source status other text otherwise (by_tokens w a) (by_reading v b) = absurd (unlexed-lexed source status text b.read.tokens a b.read.lexed)
ways_meet source status other text otherwise (by_tree w a) (by_length h) = let l = h.long in absurd (omega (arith, l, w))
ways_meet source status other text otherwise (by_tree w a) (by_tokens v b) = absurd (unlexed-unparsed source other status otherwise text b a)
ways_meet source status other text otherwise (by_tree w a) (by_tree v b) = unparsed-meet source status other text otherwise a b
ways_meet source status other text otherwise (by_tree w a) (by_reading v b) = absurd (unparsed-read source status text b.reading a b.read)
ways_meet source status other text otherwise (by_reading w a) (by_length h) = let l = h.long in absurd (omega (arith, l, w))
ways_meet source status other text otherwise (by_reading w a) (by_tokens v b) = absurd (unlexed-lexed source other otherwise a.read.tokens b a.read.lexed)
ways_meet source status other text otherwise (by_reading w a) (by_tree v b) = absurd (unparsed-read source other otherwise a.reading b a.read)
ways_meet source status other text otherwise (by_reading w a) (by_reading v b) =
    let e = reads-same source a.reading b.reading a.read b.read in
    (a.gives ∙ ap status_of e ∙ sym b.gives, a.says ∙ ap text_of e ∙ sym b.says)

pub one_answer : OneAnswer
one_answer source status other text otherwise h k = ways_meet source status other text otherwise (way source status text h) (way source other otherwise k)

-- an accepted source has its report for an answer
pub accepted-answer : (source : List ℕ) (p : Program) (status : Status) (text : List ℕ) → IsWithin source → IsAccepted source p → SourceAnswer source status text → (status ≡ report_status p) × (text ≡ report_of p)
accepted-answer source p status text w i h = one_answer source status (report_status p) text (report_of p) h (report p w i)
