-- The grammar of expressions, places and types, one case for each alternative. `Whole ns n ts e us` says that `ts` is the
-- tokens of the expression `e` and then `us`, where `ns` are the type names so far and at most `n` more brackets, prefix
-- operators, choices and statements may be open at a token.
use Rattle.std.specs.Prelude.{ℕ, zero, suc, ◌≡◌, List, [], ◌∷◌, Bool, true, false, Some, None}
use Rattle.sa_base.specs.declared.pos.Pos.{Pos}
use Rattle.sa_tokens.specs.declared.keyword.Keyword.{Keyword}
use Rattle.sa_tokens.specs.declared.keyword.Keyword.TheVariants as k
use Rattle.sa_tokens.specs.declared.punct.Punct.{Punct}
use Rattle.sa_tokens.specs.declared.punct.Punct.TheVariants as m
use Rattle.sa_tokens.specs.declared.token.Token.{Token}
use Rattle.sa_syntax.specs.declared.decl.Qualified.{Qualified}
use Rattle.sa_syntax.specs.declared.decl.Qualifier.{Qualifier}
use Rattle.sa_syntax.specs.declared.decl.ScalarWord.{ScalarWord}
use Rattle.sa_syntax.specs.declared.decl.Base.{Base}
use Rattle.sa_syntax.specs.declared.decl.Base.TheVariants as b
use Rattle.sa_syntax.specs.declared.expr.Expr.{Expr}
use Rattle.sa_syntax.specs.declared.expr.Expr.TheVariants as e
use Rattle.sa_syntax.specs.declared.expr.Operator.{Operator}
use Rattle.sa_syntax.specs.declared.expr.Prefix.{Prefix}
use Rattle.sa_syntax.specs.declared.expr.PlaceBase.TheVariants as at
use Rattle.sa_syntax.specs.declared.expr.Step.{Step}
use Rattle.sa_syntax.specs.declared.expr.Step.TheVariants as step
use Rattle.sa_syntax.specs.declared.decl.Specifiers.{Specifiers}
use Rattle.sa_syntax.specs.declared.decl.Struct.{Struct}
use Rattle.sa_syntax.specs.declared.decl.Field.{Field}
use Rattle.sa_syntax.specs.declared.decl.Declr.{Declr}
use Rattle.sa_syntax.specs.declared.decl.Bound.{Bound}
use Rattle.sa_syntax.specs.declared.expr.Link.{Link}
use Rattle.sa_syntax.specs.declared.expr.Place.{Place}
use Rattle.sa_syntax.specs.Trees as tree
use Rattle.sa_syntax.specs.Words.{Names, mark, key, word, literal, named, is_type_name, is_through, prefix_of, operator_of, level_of, loosest, qualifier_of, scalar_of}

-- { "const" | "volatile" | "static" }
pub data Qualifiers : List Token → List Qualified → List Token → Type 0 where
  no_qualifier : {us : List Token} → Qualifiers us [] us
  qualifier : {us vs : List Token} {p : Pos} {kw : Keyword} {q : Qualifier} {qs : List Qualified} → qualifier_of kw ≡ Some q →
      Qualifiers us qs vs → Qualifiers (key kw p ∷ us) (tree.qualified q p ∷ qs) vs

-- scalar = word { word }
pub data ScalarWords : List Token → List ScalarWord → List Token → Type 0 where
  no_word : {us : List Token} → ScalarWords us [] us
  scalar_word : {us vs : List Token} {p : Pos} {kw : Keyword} {w : ScalarWord} {ws : List ScalarWord} → scalar_of kw ≡ Some w →
      ScalarWords us ws vs → ScalarWords (key kw p ∷ us) (w ∷ ws) vs

mutual
  -- expr = binary [ "?" expr ":" expr ]
  pub data Whole (ns : Names) : ℕ → List Token → Expr → List Token → Type 0 where
    binary : {n : ℕ} {ts us : List Token} {a : Expr} → Ranked ns n loosest ts a us → Whole ns n ts a us
    choice : {n : ℕ} {ts us vs ws : List Token} {p q : Pos} {a b c : Expr} → Ranked ns (suc n) loosest ts c (mark m.Question p ∷ us) →
        Whole ns n us a (mark m.Colon q ∷ vs) → Whole ns n vs b ws → Whole ns (suc n) ts (e.Choice c p a b) ws

  -- operands of the level below, with operators of this level between
  pub data Ranked (ns : Names) : ℕ → ℕ → List Token → Expr → List Token → Type 0 where
    unary : {n : ℕ} {ts us : List Token} {a : Expr} → Unary ns n ts a us → Ranked ns n zero ts a us
    alone : {n l : ℕ} {ts us : List Token} {a : Expr} → Ranked ns n l ts a us → Ranked ns n (suc l) ts a us
    chain : {n l : ℕ} {ts us vs : List Token} {a : Expr} {x : Link} {xs : List Link} → Ranked ns n l ts a us → Links ns n l us (x ∷ xs) vs →
        Ranked ns n (suc l) ts (e.Chain a (x ∷ xs)) vs

  pub data Links (ns : Names) : ℕ → ℕ → List Token → List Link → List Token → Type 0 where
    no_link : {n l : ℕ} {us : List Token} → Links ns n l us [] us
    link : {n l : ℕ} {us vs ws : List Token} {p : Pos} {mk : Punct} {op : Operator} {a : Expr} {xs : List Link} → operator_of mk ≡ Some op → level_of op ≡ suc l →
        Ranked ns n l us a vs → Links ns n l vs xs ws → Links ns n l (mark mk p ∷ us) (tree.link op p a ∷ xs) ws

  -- unary = ( "-" | "+" | "~" | "!" ) unary | "(" type ")" unary | primary
  -- primary = number | place | "(" expr ")"        (`(*p)` is a place)
  pub data Unary (ns : Names) : ℕ → List Token → Expr → List Token → Type 0 where
    prefix : {n : ℕ} {us vs : List Token} {p : Pos} {mk : Punct} {op : Prefix} {a : Expr} → prefix_of mk ≡ Some op →
        Unary ns n us a vs → Unary ns (suc n) (mark mk p ∷ us) (e.Prefix op p a) vs
    cast : {n : ℕ} {ts us vs : List Token} {p q : Pos} {t : Specifiers} {a : Expr} → Specifiers' ns n ts t (mark m.CloseParen q ∷ us) →
        Unary ns n us a vs → Unary ns (suc n) (mark m.OpenParen p ∷ ts) (e.Cast p t a) vs
    number : {n : ℕ} {us : List Token} {p : Pos} {v l : ℕ} {u d : Bool} → Unary ns n (literal v u l d p ∷ us) (e.Number v u l d p) us
    place : {n : ℕ} {ts us : List Token} {x : Place} → Place' ns n ts x us → Unary ns n ts (e.Place x) us
    bracket : {n : ℕ} {ts us : List Token} {p q : Pos} {a : Expr} → Whole ns n ts a (mark m.CloseParen q ∷ us) → is_through ts ≡ false →
        Unary ns (suc n) (mark m.OpenParen p ∷ ts) (e.Bracket p a) us

  -- lv = base0 { "[" expr "]" | "." name | "->" name } | "*" name        base0 = name | "(" "*" name ")"
  pub data Place' (ns : Names) : ℕ → List Token → Place → List Token → Type 0 where
    name : {n : ℕ} {us vs : List Token} {p : Pos} {w : List ℕ} {ss : List Step} → is_type_name ns w ≡ false → Steps ns n us ss vs →
        Place' ns n (word w p ∷ us) (tree.place (at.Name (named w p)) ss) vs
    through : {n : ℕ} {us vs : List Token} {p q r s : Pos} {w : List ℕ} {ss : List Step} → is_type_name ns w ≡ false → Steps ns (suc n) us ss vs →
        Place' ns (suc n) (mark m.OpenParen p ∷ mark m.Star q ∷ word w r ∷ mark m.CloseParen s ∷ us) (tree.place (at.Through p q (named w r)) ss) vs
    star : {n : ℕ} {us : List Token} {p q : Pos} {w : List ℕ} → is_type_name ns w ≡ false →
        Place' ns n (mark m.Star p ∷ word w q ∷ us) (tree.place (at.Star p (named w q)) []) us

  pub data Steps (ns : Names) : ℕ → List Token → List Step → List Token → Type 0 where
    no_step : {n : ℕ} {us : List Token} → Steps ns n us [] us
    index : {n : ℕ} {ts us vs : List Token} {p q : Pos} {a : Expr} {ss : List Step} → Whole ns n ts a (mark m.CloseBracket q ∷ us) →
        Steps ns (suc n) us ss vs → Steps ns (suc n) (mark m.OpenBracket p ∷ ts) (step.Index p a ∷ ss) vs
    dot : {n : ℕ} {us vs : List Token} {p q : Pos} {w : List ℕ} {ss : List Step} → Steps ns n us ss vs →
        Steps ns n (mark m.Dot p ∷ word w q ∷ us) (step.Field p (named w q) ∷ ss) vs
    arrow : {n : ℕ} {us vs : List Token} {p q : Pos} {w : List ℕ} {ss : List Step} → Steps ns n us ss vs →
        Steps ns n (mark m.Arrow p ∷ word w q ∷ us) (step.Arrow p (named w q) ∷ ss) vs

  -- type = { "const" | "volatile" | "static" } base
  pub data Specifiers' (ns : Names) : ℕ → List Token → Specifiers → List Token → Type 0 where
    specifiers : {n : ℕ} {ts us vs : List Token} {qs : List Qualified} {b : Base} → Qualifiers ts qs us → Base' ns n us b vs → Specifiers' ns n ts (tree.specifiers (tree.pos_of ts) qs b) vs

  -- base = scalar | "void" | "struct" name | struct | typename
  pub data Base' (ns : Names) : ℕ → List Token → Base → List Token → Type 0 where
    scalar : {n : ℕ} {ts us : List Token} {w : ScalarWord} {ws : List ScalarWord} → ScalarWords ts (w ∷ ws) us → Base' ns n ts (b.Scalar (w ∷ ws)) us
    void : {n : ℕ} {us : List Token} {p : Pos} → Base' ns n (key k.Void p ∷ us) b.Void us
    tag : {n : ℕ} {us : List Token} {p q : Pos} {w : List ℕ} → Base' ns n (key k.Struct p ∷ word w q ∷ us) (b.Tag (named w q)) us
    structure : {n : ℕ} {ts us : List Token} {s : Struct} → Struct' ns n ts s us → Base' ns n ts (b.Struct s) us
    type_name : {n : ℕ} {us : List Token} {p : Pos} {w : List ℕ} → is_type_name ns w ≡ true → Base' ns n (word w p ∷ us) (b.Named (named w p)) us

  -- struct = "struct" [ name ] "{" field { field } "}"
  pub data Struct' (ns : Names) : ℕ → List Token → Struct → List Token → Type 0 where
    tagged : {n : ℕ} {ts us : List Token} {p q r s : Pos} {w : List ℕ} {f : Field} {fs : List Field} → Fields ns n ts (f ∷ fs) (mark m.CloseBrace s ∷ us) →
        Struct' ns (suc n) (key k.Struct p ∷ word w q ∷ mark m.OpenBrace r ∷ ts) (tree.structure (Some (named w q)) (f ∷ fs)) us
    plain : {n : ℕ} {ts us : List Token} {p r s : Pos} {f : Field} {fs : List Field} → Fields ns n ts (f ∷ fs) (mark m.CloseBrace s ∷ us) →
        Struct' ns (suc n) (key k.Struct p ∷ mark m.OpenBrace r ∷ ts) (tree.structure None (f ∷ fs)) us

  -- field = type declr { "," declr } ";"
  pub data Fields (ns : Names) : ℕ → List Token → List Field → List Token → Type 0 where
    no_field : {n : ℕ} {us : List Token} → Fields ns n us [] us
    field : {n : ℕ} {ts us vs ws : List Token} {p : Pos} {t : Specifiers} {d : Declr} {ds : List Declr} {fs : List Field} → Specifiers' ns n ts t us →
        Declrs ns n us (d ∷ ds) (mark m.Semicolon p ∷ vs) → Fields ns n vs fs ws → Fields ns n ts (tree.field t (d ∷ ds) ∷ fs) ws

  -- declr { "," declr }
  pub data Declrs (ns : Names) : ℕ → List Token → List Declr → List Token → Type 0 where
    last_declr : {n : ℕ} {ts us : List Token} {d : Declr} → Declr' ns n ts d us → Declrs ns n ts (d ∷ []) us
    next_declr : {n : ℕ} {ts us vs : List Token} {p : Pos} {d : Declr} {ds : List Declr} → Declr' ns n ts d (mark m.Comma p ∷ us) →
        Declrs ns n us ds vs → Declrs ns n ts (d ∷ ds) vs

  -- declr = name { "[" expr "]" }
  pub data Declr' (ns : Names) : ℕ → List Token → Declr → List Token → Type 0 where
    declr : {n : ℕ} {us vs : List Token} {p : Pos} {w : List ℕ} {bs : List Bound} → Bounds ns n us bs vs → Declr' ns n (word w p ∷ us) (tree.declr (named w p) bs) vs

  pub data Bounds (ns : Names) : ℕ → List Token → List Bound → List Token → Type 0 where
    no_bound : {n : ℕ} {us : List Token} → Bounds ns n us [] us
    bound : {n : ℕ} {ts us vs : List Token} {p q : Pos} {a : Expr} {bs : List Bound} → Whole ns n ts a (mark m.CloseBracket q ∷ us) →
        Bounds ns (suc n) us bs vs → Bounds ns (suc n) (mark m.OpenBracket p ∷ ts) (tree.bound p a ∷ bs) vs
