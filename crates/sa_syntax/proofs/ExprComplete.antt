-- What the grammar of expressions and types has is what the reader reads, whatever follows, as long as it does not go on.
use Rattle.std.proofs.Common.{◌≡◌, ℕ, suc, List, [], ◌∷◌, true, false, not, refl, ap, ◌∙◌, arith}
use Rattle.sa_base.specs.declared.pos.Pos.{Pos}
use Rattle.sa_tokens.specs.declared.punct.Punct.TheVariants as m
use Rattle.sa_tokens.specs.declared.token.Token.{Token}
use Rattle.sa_syntax.specs.declared.decl.Base.{Base}
use Rattle.sa_syntax.specs.declared.decl.Base.TheVariants as b
use Rattle.sa_syntax.specs.declared.decl.Bound.{Bound}
use Rattle.sa_syntax.specs.declared.decl.Declr.{Declr}
use Rattle.sa_syntax.specs.declared.decl.Field.{Field}
use Rattle.sa_syntax.specs.declared.decl.Qualified.{Qualified}
use Rattle.sa_syntax.specs.declared.decl.ScalarWord.{ScalarWord}
use Rattle.sa_syntax.specs.declared.decl.Specifiers.{Specifiers}
use Rattle.sa_syntax.specs.declared.decl.Struct.{Struct}
use Rattle.sa_syntax.specs.declared.expr.Expr.{Expr}
use Rattle.sa_syntax.specs.declared.expr.Link.{Link}
use Rattle.sa_syntax.specs.declared.expr.Place.{Place}
use Rattle.sa_syntax.specs.declared.expr.Step.{Step}
use Rattle.sa_syntax.specs.Trees as tree
use Rattle.sa_syntax.specs.Words.{Names, mark, word}
use Rattle.sa_syntax.specs.Expressions.{Qualifiers, ScalarWords, Whole, Ranked, Links, Unary, Place', Steps, Specifiers', Base', Struct', Fields, Declrs, Declr', Bounds}
use Rattle.sa_syntax.specs.Reading.{Got, same_mark, sees}
use Rattle.sa_syntax.specs.ReadExpr as read
use Rattle.sa_syntax.specs.ReadExpr.{Inner, inside, sees_step, sees_qualifier, sees_scalar, sees_operator}
use Rattle.sa_syntax.specs.ExprLaws.{EndsExpr, EndsType, EndsDeclrs}
use Rattle.sa_syntax.proofs.Shorter.{whole-shorter, ranked-shorter, type-shorter, declrs-shorter, declr-shorter}
use Rattle.sa_syntax.proofs.Front.{mark-seen, base-begins, type-begins, type-no_mark, no_mark-sees, declrs-ends_type, whole-no_type, EndsLevel, level-of_expr, operator-sees, links-end, ends-close_paren, ends-close_bracket, ends-colon, ends-question, type_ends-close_paren, declrs_end-semicolon}
use Rattle.sa_syntax.proofs.ReadSteps.{Loops, loop-stops, loop-goes, qualifier-reads, qualifier-sees, word-reads, word-sees, index-reads, dot-reads, arrow-reads, name-reads, through-reads, star-reads, type-reads, scalar-reads, void-reads, tag-reads, type_name-reads, tagged-reads, plain-reads, bound-reads, declr-reads, next_declr-reads, declrs-reads, field-reads, fields-reads, number-reads, prefix-reads, cast-reads, bracket-reads, place-unary, unary-ranked, link-reads, chain-reads, binary-reads, choice-reads}

-- ---- marks that are seen
bracket-step : (p : Pos) (us : List Token) → sees_step (mark m.OpenBracket p ∷ us) ≡ true
unfolding sees same_mark
bracket-step p us = refl

dot-step : (p : Pos) (us : List Token) → sees_step (mark m.Dot p ∷ us) ≡ true
unfolding sees same_mark
dot-step p us = refl

arrow-step : (p : Pos) (us : List Token) → sees_step (mark m.Arrow p ∷ us) ≡ true
unfolding sees same_mark
arrow-step p us = refl

comma-no_bound : (p : Pos) (us : List Token) → sees m.OpenBracket (mark m.Comma p ∷ us) ≡ false
unfolding sees same_mark
comma-no_bound p us = refl

-- ---- words of types
pub qualifiers-complete : {ts : List Token} {qs : List Qualified} {us : List Token} → Qualifiers ts qs us → sees_qualifier us ≡ false → Loops sees_qualifier read.qualifier ts qs us
qualifiers-complete Qualifiers.no_qualifier e = loop-stops e
qualifiers-complete (Qualifiers.qualifier {us = us} {p = p} {kw = kw} {q = q} h more) e =
    loop-goes (qualifier-sees kw q p us h) (qualifier-reads kw q p us h) (omega arith) (qualifiers-complete more e)

pub words-complete : {ts : List Token} {ws : List ScalarWord} {us : List Token} → ScalarWords ts ws us → sees_scalar us ≡ false → Loops sees_scalar read.scalar_word ts ws us
words-complete ScalarWords.no_word e = loop-stops e
words-complete (ScalarWords.scalar_word {us = us} {p = p} {kw = kw} {w = w} h more) e =
    loop-goes (word-sees kw w p us h) (word-reads kw w p us h) (omega arith) (words-complete more e)

mutual
  unfolding inside

  pub whole-complete : {ns : Names} {n : ℕ} {ts : List Token} {a : Expr} {us : List Token} → Whole ns n ts a us → EndsExpr us → read.whole ns n (inside ns n) ts ≡ Got a us
  whole-complete {ns} (Whole.binary {n = n} {ts = ts} {us = us} {a = a} r) e =
      binary-reads ns n (inside ns n) ts us a (ranked-complete r (level-of_expr us e)) e.no_choice
  whole-complete {ns} (Whole.choice {n = n} {ts = ts} {us = us} {vs = vs} {ws = ws} {p = p} {q = q} {a = a} {b = b} {c = c} r x y) e =
      choice-reads ns n (inside ns (suc n)) ts us vs ws p q c a b (ranked-complete r (ends-question p us)) (whole-complete x (ends-colon q vs)) (whole-complete y e)

  pub ranked-complete : {ns : Names} {n l : ℕ} {ts : List Token} {a : Expr} {us : List Token} → Ranked ns n l ts a us → EndsLevel l us → read.ranked ns n (inside ns n) l ts ≡ Got a us
  ranked-complete {ns} (Ranked.unary {n = n} {ts = ts} u) e = unary-ranked ns n (inside ns n) ts ∙ unary-complete u e.no_step
  ranked-complete {ns} (Ranked.alone {n = n} {l = l} {ts = ts} {us = us} {a = a} r) e =
      chain-reads ns n (inside ns n) l ts us us a [] (ranked-complete r (record { no_step = e.no_step; no_operator = λ j h. e.no_operator j (omega arith) })) (loop-stops (e.no_operator (suc l) (omega arith)))
  ranked-complete {ns} (Ranked.chain {n = n} {l = l} {ts = ts} {us = us} {vs = vs} {a = a} {x = x} {xs = xs} r more) e =
      chain-reads ns n (inside ns n) l ts us vs a (x ∷ xs) (ranked-complete r (links-end more e)) (links-complete more e)

  pub links-complete : {ns : Names} {n l : ℕ} {ts : List Token} {xs : List Link} {us : List Token} → Links ns n l ts xs us → EndsLevel (suc l) us →
      Loops (sees_operator (suc l)) (read.a_link ns n (inside ns n) (read.ranked ns n (inside ns n) l)) ts xs us
  links-complete (Links.no_link {l = l}) e = loop-stops (e.no_operator (suc l) (omega arith))
  links-complete {ns} (Links.link {n = n} {l = l} {us = us} {vs = vs} {p = p} {mk = mk} {op = op} {a = a} o h r more) e =
      loop-goes (operator-sees mk op (suc l) p us o h) (link-reads ns n (inside ns n) us vs p mk op a (read.ranked ns n (inside ns n) l) o (ranked-complete r (links-end more e))) (omega (arith, ranked-shorter r)) (links-complete more e)

  pub unary-complete : {ns : Names} {n : ℕ} {ts : List Token} {a : Expr} {us : List Token} → Unary ns n ts a us → sees_step us ≡ false → read.unary ns n (inside ns n) ts ≡ Got a us
  unary-complete {ns} (Unary.prefix {n = n} {us = us} {vs = vs} {p = p} {mk = mk} {op = op} {a = a} h u) e = prefix-reads ns n (inside ns (suc n)) us vs p mk op a h (unary-complete u e)
  unary-complete {ns} (Unary.cast {n = n} {ts = ts} {us = us} {vs = vs} {p = p} {q = q} {t = t} {a = a} d u) e =
      cast-reads ns n (inside ns (suc n)) ts us vs p q t a (type-begins d) (type-complete d (type_ends-close_paren q us)) (unary-complete u e)
  unary-complete {ns} (Unary.number {n = n} {us = us} {p = p} {v = v} {l = l} {u = u} {d = d}) e = number-reads ns n (inside ns n) us p v l u d
  unary-complete {ns} (Unary.place {n = n} {ts = ts} {us = us} {x = x} p) e = place-unary ns n (inside ns n) ts us x p (place-complete p e)
  unary-complete {ns} (Unary.bracket {n = n} {ts = ts} {us = us} {p = p} {q = q} {a = a} w h) e =
      bracket-reads ns n (inside ns (suc n)) ts us p q a h (whole-no_type w) (whole-complete w (ends-close_paren q us))

  pub place-complete : {ns : Names} {n : ℕ} {ts : List Token} {x : Place} {us : List Token} → Place' ns n ts x us → sees_step us ≡ false → read.place ns n (inside ns n) ts ≡ Got x us
  place-complete {ns} (Place'.name {n = n} {us = us} {vs = vs} {p = p} {w = w} {ss = ss} h s) e = name-reads ns n (inside ns n) us vs p w ss h (steps-complete s e)
  place-complete {ns} (Place'.through {n = n} {us = us} {vs = vs} {p = p} {q = q} {r = r} {s = t} {w = w} {ss = ss} h s) e =
      through-reads ns n (inside ns (suc n)) us vs p q r t w ss h (steps-complete s e)
  place-complete {ns} (Place'.star {n = n} {us = us} {p = p} {q = q} {w = w} h) e = star-reads ns n (inside ns n) us p q w h

  pub steps-complete : {ns : Names} {n : ℕ} {ts : List Token} {ss : List Step} {us : List Token} → Steps ns n ts ss us → sees_step us ≡ false → Loops sees_step (read.a_step ns n (inside ns n)) ts ss us
  steps-complete Steps.no_step e = loop-stops e
  steps-complete {ns} (Steps.index {n = n} {ts = ts} {us = us} {p = p} {q = q} {a = a} w s) e =
      loop-goes (bracket-step p ts) (index-reads ns n (inside ns (suc n)) ts us p q a (whole-complete w (ends-close_bracket q us))) (let h = whole-shorter w in omega arith) (steps-complete s e)
  steps-complete {ns} (Steps.dot {n = n} {us = us} {p = p} {q = q} {w = w} s) e =
      loop-goes (dot-step p (word w q ∷ us)) (dot-reads ns n (inside ns n) us p q w) (omega arith) (steps-complete s e)
  steps-complete {ns} (Steps.arrow {n = n} {us = us} {p = p} {q = q} {w = w} s) e =
      loop-goes (arrow-step p (word w q ∷ us)) (arrow-reads ns n (inside ns n) us p q w) (omega arith) (steps-complete s e)

  pub type-complete : {ns : Names} {n : ℕ} {ts : List Token} {t : Specifiers} {us : List Token} → Specifiers' ns n ts t us → EndsType us → read.specifiers ns n (inside ns n) ts ≡ Got t us
  type-complete {ns} (Specifiers'.specifiers {n = n} {ts = ts} {us = us} {vs = vs} {qs = qs} {b = x} q d) e =
      type-reads ns n (inside ns n) ts us vs qs x (qualifiers-complete q (base-begins d).no_qualifier) (base-complete d e)

  pub base-complete : {ns : Names} {n : ℕ} {ts : List Token} {x : Base} {us : List Token} → Base' ns n ts x us → EndsType us → read.base ns n (inside ns n) ts ≡ Got x us
  base-complete {ns} (Base'.scalar {n = n} (ScalarWords.scalar_word {us = us} {vs = vs} {p = p} {kw = kw} {w = w} {ws = ws} h more)) e =
      scalar-reads ns n (inside ns n) kw w p us vs ws h (words-complete more e.no_word)
  base-complete {ns} (Base'.void {n = n} {us = us} {p = p}) e = void-reads ns n (inside ns n) us p
  base-complete {ns} (Base'.tag {n = n} {us = us} {p = p} {q = q} {w = w}) e = tag-reads ns n (inside ns n) us p q w e.no_brace
  base-complete (Base'.structure s) e = struct-complete s
  base-complete {ns} (Base'.type_name {n = n} {us = us} {p = p} {w = w} h) e = type_name-reads ns n (inside ns n) us p w h

  pub struct-complete : {ns : Names} {n : ℕ} {ts : List Token} {s : Struct} {us : List Token} → Struct' ns n ts s us → read.base ns n (inside ns n) ts ≡ Got (b.Struct s) us
  struct-complete {ns} (Struct'.tagged {n = n} {ts = ts} {us = us} {p = p} {q = q} {r = r} {s = t} {w = w} {f = f} {fs = fs} d) =
      tagged-reads ns n (inside ns (suc n)) ts us p q r t w (f ∷ fs) (fields-first d (mark-seen m.CloseBrace t us) f fs refl)
  struct-complete {ns} (Struct'.plain {n = n} {ts = ts} {us = us} {p = p} {r = r} {s = t} {f = f} {fs = fs} d) =
      plain-reads ns n (inside ns (suc n)) ts us p r t (f ∷ fs) (fields-first d (mark-seen m.CloseBrace t us) f fs refl)

  pub fields-first : {ns : Names} {n : ℕ} {ts : List Token} {fs : List Field} {us : List Token} → Fields ns n ts fs us → sees m.CloseBrace us ≡ true → (f : Field) (more : List Field) → fs ≡ f ∷ more →
      read.fields ns n (inside ns n) ts ≡ Got fs us
  fields-first Fields.no_field e f more h = cc
  fields-first {ns} (Fields.field {n = n} {ts = ts} {us = us} {vs = vs} {ws = ws} {p = p} {t = t} {d = d} {ds = ds} {fs = fs} x y z) e f more h =
      fields-reads ns n (inside ns n) ts vs ws (tree.field t (d ∷ ds)) fs
      (field-reads ns n (inside ns n) ts us vs p t (d ∷ ds) (type-complete x (declrs-ends_type y)) (declrs-complete y (declrs_end-semicolon p vs))) (fields-complete z e)

  pub fields-complete : {ns : Names} {n : ℕ} {ts : List Token} {fs : List Field} {us : List Token} → Fields ns n ts fs us → sees m.CloseBrace us ≡ true →
      Loops (read.no_brace ns n (inside ns n)) (read.field ns n (inside ns n)) ts fs us
  fields-complete Fields.no_field e = loop-stops (ap not e)
  fields-complete {ns} (Fields.field {n = n} {ts = ts} {us = us} {vs = vs} {p = p} {t = t} {d = d} {ds = ds} x y z) e =
      loop-goes (ap not (no_mark-sees m.CloseBrace ts (type-no_mark ns ts (type-begins x))))
      (field-reads ns n (inside ns n) ts us vs p t (d ∷ ds) (type-complete x (declrs-ends_type y)) (declrs-complete y (declrs_end-semicolon p vs)))
      (let h = type-shorter x in let i = declrs-shorter y in omega arith) (fields-complete z e)

  pub declrs-complete : {ns : Names} {n : ℕ} {ts : List Token} {ds : List Declr} {us : List Token} → Declrs ns n ts ds us → EndsDeclrs us → read.declrs ns n (inside ns n) ts ≡ Got ds us
  declrs-complete {ns} (Declrs.last_declr {n = n} {ts = ts} {us = us} {d = d} x) e = declrs-reads ns n (inside ns n) ts us us d [] (declr-complete x e.no_bound) (loop-stops e.no_comma)
  declrs-complete {ns} (Declrs.next_declr {n = n} {ts = ts} {us = us} {vs = vs} {p = p} {d = d} {ds = ds} x more) e =
      declrs-reads ns n (inside ns n) ts (mark m.Comma p ∷ us) vs d ds (declr-complete x (comma-no_bound p us)) (declrs-more more p e)

  -- after a comma
  pub declrs-more : {ns : Names} {n : ℕ} {ts : List Token} {ds : List Declr} {us : List Token} → Declrs ns n ts ds us → (p : Pos) → EndsDeclrs us →
      Loops (sees m.Comma) (read.next_declr ns n (inside ns n)) (mark m.Comma p ∷ ts) ds us
  declrs-more {ns} (Declrs.last_declr {n = n} {ts = ts} {us = us} {d = d} x) p e =
      loop-goes (mark-seen m.Comma p ts) (next_declr-reads ns n (inside ns n) ts us p d (declr-complete x e.no_bound)) (let h = declr-shorter x in omega arith) (loop-stops e.no_comma)
  declrs-more {ns} (Declrs.next_declr {n = n} {ts = ts} {us = us} {p = q} {d = d} x more) p e =
      loop-goes (mark-seen m.Comma p ts) (next_declr-reads ns n (inside ns n) ts (mark m.Comma q ∷ us) p d (declr-complete x (comma-no_bound q us))) (let h = declr-shorter x in omega arith) (declrs-more more q e)

  pub declr-complete : {ns : Names} {n : ℕ} {ts : List Token} {d : Declr} {us : List Token} → Declr' ns n ts d us → sees m.OpenBracket us ≡ false → read.declr ns n (inside ns n) ts ≡ Got d us
  declr-complete {ns} (Declr'.declr {n = n} {us = us} {vs = vs} {p = p} {w = w} {bs = bs} x) e = declr-reads ns n (inside ns n) us vs p w bs (bounds-complete x e)

  pub bounds-complete : {ns : Names} {n : ℕ} {ts : List Token} {bs : List Bound} {us : List Token} → Bounds ns n ts bs us → sees m.OpenBracket us ≡ false →
      Loops (sees m.OpenBracket) (read.a_bound ns n (inside ns n)) ts bs us
  bounds-complete Bounds.no_bound e = loop-stops e
  bounds-complete {ns} (Bounds.bound {n = n} {ts = ts} {us = us} {p = p} {q = q} {a = a} w x) e =
      loop-goes (mark-seen m.OpenBracket p ts) (bound-reads ns n (inside ns (suc n)) ts us p q a (whole-complete w (ends-close_bracket q us))) (let h = whole-shorter w in omega arith) (bounds-complete x e)
