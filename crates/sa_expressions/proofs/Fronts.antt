-- What is read by the first token: an operand, and what stands after `struct`.
use Rattle.std.proofs.Common.{◌≡◌, ℕ, List, [], ◌∷◌, refl, Bool, true}
use Rattle.std.specs.Prelude.{Option, Some, None, if◌then◌else◌}
use Rattle.sa_base.specs.declared.pos.Pos.{Pos}
use Rattle.sa_tokens.specs.declared.punct.Punct.{Punct}
use Rattle.sa_tokens.specs.declared.token.Word.{Word}
use Rattle.sa_tokens.specs.declared.token.Word.TheVariants.{Name, Number, Key, Mark}
use Rattle.sa_tokens.specs.declared.token.Token.{Token}
use Rattle.sa_syntax.specs.declared.expr.Expr.{Expr}
use Rattle.sa_syntax.specs.Words.{Names}
use Rattle.sa_tokens.specs.declared.punct.Punct.TheVariants as m
use Rattle.sa_syntax.specs.declared.decl.Name.{Name as Named}
use Rattle.sa_syntax.specs.declared.decl.Base.{Base}
use Rattle.sa_syntax.specs.declared.decl.Base.TheVariants as b
use Rattle.sa_syntax.specs.Reading.{Got, Parser, and_then, taken, sees, any_name, mark_at, name_at}
use Rattle.sa_syntax.specs.ReadExpr.{Inner, is_some, unary, unary_mark, a_place, body, tagged, struct_or_tag}
use Rattle.sa_cursor.specs.Cursor.{number_at, number}

abbrev pub seen_by : Names → ℕ → Inner → Option Punct → Bool → Parser Expr
seen_by ns n inner (Some m) b = unary_mark ns n inner m
seen_by ns n inner None b = λ ts. if b then a_place ns n inner ts else number ts

unary_word : (ns : Names) (n : ℕ) (inner : Inner) (w : Word) (p : Pos) (ts : List Token) →
    unary ns n inner (record { word = w; pos = p } ∷ ts) ≡ seen_by ns n inner (mark_at (record { word = w; pos = p } ∷ ts)) (is_some (name_at (record { word = w; pos = p } ∷ ts))) (record { word = w; pos = p } ∷ ts)
unfolding unary mark_at name_at number_at number
unary_word ns n inner (Name w) p ts = refl
unary_word ns n inner (Number v u l d) p ts = refl
unary_word ns n inner (Key k) p ts = refl
unary_word ns n inner (Mark m) p ts = refl

pub unary_seen : (ns : Names) (n : ℕ) (inner : Inner) (ts : List Token) → unary ns n inner ts ≡ seen_by ns n inner (mark_at ts) (is_some (name_at ts)) ts
unfolding unary mark_at name_at number_at number
unary_seen ns n inner [] = refl
unary_seen ns n inner (t ∷ ts) = unary_word ns n inner t.word t.pos ts

-- ---- after `struct`
abbrev pub tag_or_body : Names → ℕ → Inner → Named → Parser Base
tag_or_body ns n inner x us = if sees m.OpenBrace us then body ns n inner (Some x) us else Got (b.Tag x) us

tagged_by : (ns : Names) (n : ℕ) (inner : Inner) (ts : List Token) (o : Option Named) → is_some o ≡ true → tagged ns n inner o ts ≡ and_then (taken o ts) (tag_or_body ns n inner)
tagged_by ns n inner ts (Some x) h = refl
tagged_by ns n inner ts None h = cc

pub tagged_seen : (ns : Names) (n : ℕ) (inner : Inner) (ts : List Token) → is_some (name_at ts) ≡ true →
    struct_or_tag ns n inner ts ≡ and_then (any_name ts) (tag_or_body ns n inner)
unfolding struct_or_tag any_name
tagged_seen ns n inner ts h = tagged_by ns n inner ts (name_at ts) h
