-- Each alternative of the grammar of expressions takes the tokens before what is left of them.
use Rattle.std.proofs.Common.{ℕ, List, [], ◌∷◌, ◌++◌}
use Rattle.sa_base.specs.declared.pos.Pos.{Pos}
use Rattle.sa_tokens.specs.declared.token.Token.{Token}
use Rattle.sa_syntax.specs.declared.decl.Qualified.{Qualified}
use Rattle.sa_syntax.specs.declared.decl.ScalarWord.{ScalarWord}
use Rattle.sa_syntax.specs.declared.decl.Base.{Base}
use Rattle.sa_syntax.specs.declared.decl.Bound.{Bound}
use Rattle.sa_syntax.specs.declared.decl.Declr.{Declr}
use Rattle.sa_syntax.specs.declared.decl.Field.{Field}
use Rattle.sa_syntax.specs.declared.decl.Specifiers.{Specifiers}
use Rattle.sa_syntax.specs.declared.decl.Struct.{Struct}
use Rattle.sa_syntax.specs.declared.expr.Expr.{Expr}
use Rattle.sa_syntax.specs.declared.expr.Link.{Link}
use Rattle.sa_syntax.specs.declared.expr.Place.{Place}
use Rattle.sa_syntax.specs.declared.expr.Step.{Step}
use Rattle.sa_syntax.specs.Words.{Names}
use Rattle.sa_syntax.specs.Expressions.{Qualifiers, ScalarWords, Whole, Ranked, Links, Unary, Place', Steps, Specifiers', Base', Struct', Fields, Declrs, Declr', Bounds}

-- from some tokens to what is left of them, by tokens at these places, in their order, and others between
pub data Passes : List Token → List Pos → List Token → Type 0 where
  stop : {us : List Token} → Passes us [] us
  past : {t : Token} {ts us : List Token} {ps : List Pos} → Passes ts ps us → Passes (t ∷ ts) ps us
  here : {t : Token} {ts us : List Token} {ps : List Pos} → Passes ts ps us → Passes (t ∷ ts) (t.pos ∷ ps) us

pub then : {ts us vs : List Token} {ps qs : List Pos} → Passes ts ps us → Passes us qs vs → Passes ts (ps ++ qs) vs
then Passes.stop k = k
then (Passes.past h) k = Passes.past (then h k)
then (Passes.here h) k = Passes.here (then h k)

pub qualifiers-pass : {ts : List Token} {qs : List Qualified} {us : List Token} → Qualifiers ts qs us → Passes ts [] us
qualifiers-pass Qualifiers.no_qualifier = Passes.stop
qualifiers-pass (Qualifiers.qualifier e q) = Passes.past (qualifiers-pass q)

pub words-pass : {ts : List Token} {ws : List ScalarWord} {us : List Token} → ScalarWords ts ws us → Passes ts [] us
words-pass ScalarWords.no_word = Passes.stop
words-pass (ScalarWords.scalar_word e w) = Passes.past (words-pass w)

mutual
  pub whole-pass : {ns : Names} {n : ℕ} {ts : List Token} {a : Expr} {us : List Token} → Whole ns n ts a us → Passes ts [] us
  whole-pass (Whole.binary r) = ranked-pass r
  whole-pass (Whole.choice c a b) = then (ranked-pass c) (Passes.past (then (whole-pass a) (Passes.past (whole-pass b))))

  pub ranked-pass : {ns : Names} {n l : ℕ} {ts : List Token} {a : Expr} {us : List Token} → Ranked ns n l ts a us → Passes ts [] us
  ranked-pass (Ranked.unary u) = unary-pass u
  ranked-pass (Ranked.alone r) = ranked-pass r
  ranked-pass (Ranked.chain r xs) = then (ranked-pass r) (links-pass xs)

  pub links-pass : {ns : Names} {n l : ℕ} {ts : List Token} {xs : List Link} {us : List Token} → Links ns n l ts xs us → Passes ts [] us
  links-pass Links.no_link = Passes.stop
  links-pass (Links.link o l r xs) = Passes.past (then (ranked-pass r) (links-pass xs))

  pub unary-pass : {ns : Names} {n : ℕ} {ts : List Token} {a : Expr} {us : List Token} → Unary ns n ts a us → Passes ts [] us
  unary-pass (Unary.prefix o u) = Passes.past (unary-pass u)
  unary-pass (Unary.cast t u) = Passes.past (then (type-pass t) (Passes.past (unary-pass u)))
  unary-pass Unary.number = Passes.past Passes.stop
  unary-pass (Unary.place p) = place-pass p
  unary-pass (Unary.bracket w h) = Passes.past (then (whole-pass w) (Passes.past Passes.stop))

  pub place-pass : {ns : Names} {n : ℕ} {ts : List Token} {x : Place} {us : List Token} → Place' ns n ts x us → Passes ts [] us
  place-pass (Place'.name h s) = Passes.past (steps-pass s)
  place-pass (Place'.through h s) = Passes.past (Passes.past (Passes.past (Passes.past (steps-pass s))))
  place-pass (Place'.star h) = Passes.past (Passes.past Passes.stop)

  pub steps-pass : {ns : Names} {n : ℕ} {ts : List Token} {ss : List Step} {us : List Token} → Steps ns n ts ss us → Passes ts [] us
  steps-pass Steps.no_step = Passes.stop
  steps-pass (Steps.index w s) = Passes.past (then (whole-pass w) (Passes.past (steps-pass s)))
  steps-pass (Steps.dot s) = Passes.past (Passes.past (steps-pass s))
  steps-pass (Steps.arrow s) = Passes.past (Passes.past (steps-pass s))

  pub type-pass : {ns : Names} {n : ℕ} {ts : List Token} {t : Specifiers} {us : List Token} → Specifiers' ns n ts t us → Passes ts [] us
  type-pass (Specifiers'.specifiers q b) = then (qualifiers-pass q) (base-pass b)

  pub base-pass : {ns : Names} {n : ℕ} {ts : List Token} {b : Base} {us : List Token} → Base' ns n ts b us → Passes ts [] us
  base-pass (Base'.scalar w) = words-pass w
  base-pass Base'.void = Passes.past Passes.stop
  base-pass Base'.tag = Passes.past (Passes.past Passes.stop)
  base-pass (Base'.structure s) = struct-pass s
  base-pass (Base'.type_name h) = Passes.past Passes.stop

  pub struct-pass : {ns : Names} {n : ℕ} {ts : List Token} {s : Struct} {us : List Token} → Struct' ns n ts s us → Passes ts [] us
  struct-pass (Struct'.tagged f) = Passes.past (Passes.past (Passes.past (then (fields-pass f) (Passes.past Passes.stop))))
  struct-pass (Struct'.plain f) = Passes.past (Passes.past (then (fields-pass f) (Passes.past Passes.stop)))

  pub fields-pass : {ns : Names} {n : ℕ} {ts : List Token} {fs : List Field} {us : List Token} → Fields ns n ts fs us → Passes ts [] us
  fields-pass Fields.no_field = Passes.stop
  fields-pass (Fields.field t d f) = then (type-pass t) (then (declrs-pass d) (Passes.past (fields-pass f)))

  pub declrs-pass : {ns : Names} {n : ℕ} {ts : List Token} {ds : List Declr} {us : List Token} → Declrs ns n ts ds us → Passes ts [] us
  declrs-pass (Declrs.last_declr d) = declr-pass d
  declrs-pass (Declrs.next_declr d ds) = then (declr-pass d) (Passes.past (declrs-pass ds))

  pub declr-pass : {ns : Names} {n : ℕ} {ts : List Token} {d : Declr} {us : List Token} → Declr' ns n ts d us → Passes ts [] us
  declr-pass (Declr'.declr b) = Passes.past (bounds-pass b)

  pub bounds-pass : {ns : Names} {n : ℕ} {ts : List Token} {bs : List Bound} {us : List Token} → Bounds ns n ts bs us → Passes ts [] us
  bounds-pass Bounds.no_bound = Passes.stop
  bounds-pass (Bounds.bound w b) = Passes.past (then (whole-pass w) (Passes.past (bounds-pass b)))
