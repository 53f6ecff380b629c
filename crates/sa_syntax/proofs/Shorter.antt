-- Each alternative of the grammar takes tokens: what follows is shorter.
use Rattle.std.proofs.Common.{ℕ, ◌<◌, ◌≤◌, List, ◌∷◌, length, arith}
use Rattle.sa_tokens.specs.declared.token.Token.{Token}
use Rattle.sa_syntax.specs.declared.decl.Qualified.{Qualified}
use Rattle.sa_syntax.specs.declared.decl.ScalarWord.{ScalarWord}
use Rattle.sa_syntax.specs.declared.decl.Base.{Base}
use Rattle.sa_syntax.specs.declared.decl.Bound.{Bound}
use Rattle.sa_syntax.specs.declared.decl.Declr.{Declr}
use Rattle.sa_syntax.specs.declared.decl.Field.{Field}
use Rattle.sa_syntax.specs.declared.decl.Specifiers.{Specifiers}
use Rattle.sa_syntax.specs.declared.decl.Struct.{Struct}
use Rattle.sa_syntax.specs.declared.expr.Expr.{Expr}
use Rattle.sa_syntax.specs.declared.expr.Link.{Link}
use Rattle.sa_syntax.specs.declared.expr.Place.{Place}
use Rattle.sa_syntax.specs.declared.expr.Step.{Step}
use Rattle.sa_syntax.specs.Words.{Names}
use Rattle.sa_syntax.specs.Expressions.{Qualifiers, ScalarWords, Whole, Ranked, Links, Unary, Place', Steps, Specifiers', Base', Struct', Fields, Declrs, Declr', Bounds}

pub qualifiers-shorter : {ts : List Token} {qs : List Qualified} {us : List Token} → Qualifiers ts qs us → length us ≤ length ts
qualifiers-shorter Qualifiers.no_qualifier = omega arith
qualifiers-shorter (Qualifiers.qualifier e q) = let h = qualifiers-shorter q in omega arith

pub words-shorter : {ts : List Token} {ws : List ScalarWord} {us : List Token} → ScalarWords ts ws us → length us ≤ length ts
words-shorter ScalarWords.no_word = omega arith
words-shorter (ScalarWords.scalar_word e w) = let h = words-shorter w in omega arith

pub word-shorter : {ts : List Token} {w : ScalarWord} {ws : List ScalarWord} {us : List Token} → ScalarWords ts (w ∷ ws) us → length us < length ts
word-shorter (ScalarWords.scalar_word e w) = let h = words-shorter w in omega arith

mutual
  pub whole-shorter : {ns : Names} {n : ℕ} {ts : List Token} {a : Expr} {us : List Token} → Whole ns n ts a us → length us < length ts
  whole-shorter (Whole.binary r) = ranked-shorter r
  whole-shorter (Whole.choice c a b) = let x = ranked-shorter c in let y = whole-shorter a in let z = whole-shorter b in omega arith

  pub ranked-shorter : {ns : Names} {n l : ℕ} {ts : List Token} {a : Expr} {us : List Token} → Ranked ns n l ts a us → length us < length ts
  ranked-shorter (Ranked.unary u) = unary-shorter u
  ranked-shorter (Ranked.alone r) = ranked-shorter r
  ranked-shorter (Ranked.chain r xs) = let x = ranked-shorter r in let y = links-shorter xs in omega arith

  pub links-shorter : {ns : Names} {n l : ℕ} {ts : List Token} {xs : List Link} {us : List Token} → Links ns n l ts xs us → length us ≤ length ts
  links-shorter Links.no_link = omega arith
  links-shorter (Links.link o l r xs) = let x = ranked-shorter r in let y = links-shorter xs in omega arith

  pub unary-shorter : {ns : Names} {n : ℕ} {ts : List Token} {a : Expr} {us : List Token} → Unary ns n ts a us → length us < length ts
  unary-shorter (Unary.prefix o u) = let x = unary-shorter u in omega arith
  unary-shorter (Unary.cast t u) = let x = type-shorter t in let y = unary-shorter u in omega arith
  unary-shorter Unary.number = omega arith
  unary-shorter (Unary.place p) = place-shorter p
  unary-shorter (Unary.bracket w h) = let x = whole-shorter w in omega arith

  pub place-shorter : {ns : Names} {n : ℕ} {ts : List Token} {x : Place} {us : List Token} → Place' ns n ts x us → length us < length ts
  place-shorter (Place'.name h s) = let x = steps-shorter s in omega arith
  place-shorter (Place'.through h s) = let x = steps-shorter s in omega arith
  place-shorter (Place'.star h) = omega arith

  pub steps-shorter : {ns : Names} {n : ℕ} {ts : List Token} {ss : List Step} {us : List Token} → Steps ns n ts ss us → length us ≤ length ts
  steps-shorter Steps.no_step = omega arith
  steps-shorter (Steps.index w s) = let x = whole-shorter w in let y = steps-shorter s in omega arith
  steps-shorter (Steps.dot s) = let x = steps-shorter s in omega arith
  steps-shorter (Steps.arrow s) = let x = steps-shorter s in omega arith

  pub type-shorter : {ns : Names} {n : ℕ} {ts : List Token} {t : Specifiers} {us : List Token} → Specifiers' ns n ts t us → length us < length ts
  type-shorter (Specifiers'.specifiers q b) = let x = qualifiers-shorter q in let y = base-shorter b in omega arith

  pub base-shorter : {ns : Names} {n : ℕ} {ts : List Token} {b : Base} {us : List Token} → Base' ns n ts b us → length us < length ts
  base-shorter (Base'.scalar w) = word-shorter w
  base-shorter Base'.void = omega arith
  base-shorter Base'.tag = omega arith
  base-shorter (Base'.structure s) = struct-shorter s
  base-shorter (Base'.type_name h) = omega arith

  pub struct-shorter : {ns : Names} {n : ℕ} {ts : List Token} {s : Struct} {us : List Token} → Struct' ns n ts s us → length us < length ts
  struct-shorter (Struct'.tagged f) = let x = fields-shorter f in omega arith
  struct-shorter (Struct'.plain f) = let x = fields-shorter f in omega arith

  pub fields-shorter : {ns : Names} {n : ℕ} {ts : List Token} {fs : List Field} {us : List Token} → Fields ns n ts fs us → length us ≤ length ts
  fields-shorter Fields.no_field = omega arith
  fields-shorter (Fields.field t d f) = let x = type-shorter t in let y = declrs-shorter d in let z = fields-shorter f in omega arith

  pub declrs-shorter : {ns : Names} {n : ℕ} {ts : List Token} {ds : List Declr} {us : List Token} → Declrs ns n ts ds us → length us < length ts
  declrs-shorter (Declrs.last_declr d) = declr-shorter d
  declrs-shorter (Declrs.next_declr d ds) = let x = declr-shorter d in let y = declrs-shorter ds in omega arith

  pub declr-shorter : {ns : Names} {n : ℕ} {ts : List Token} {d : Declr} {us : List Token} → Declr' ns n ts d us → length us < length ts
  declr-shorter (Declr'.declr b) = let x = bounds-shorter b in omega arith

  pub bounds-shorter : {ns : Names} {n : ℕ} {ts : List Token} {bs : List Bound} {us : List Token} → Bounds ns n ts bs us → length us ≤ length ts
  bounds-shorter Bounds.no_bound = omega arith
  bounds-shorter (Bounds.bound w b) = let x = whole-shorter w in let y = bounds-shorter b in omega arith
