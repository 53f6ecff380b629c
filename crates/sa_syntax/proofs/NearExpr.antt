-- Expressions, places and types where more may be open.
use Rattle.std.proofs.Common.{◌≡◌, ℕ, zero, suc, ◌+◌, ◌≤◌, ◌⊎◌, List, [], ◌∷◌, Bool, true, false, cond, refl, sym, ap, ◌∙◌, subst, arith, Option, Some, None}
use Rattle.sa_base.specs.declared.pos.Pos.{Pos}
use Rattle.sa_tokens.specs.declared.keyword.Keyword.{Keyword}
use Rattle.sa_tokens.specs.declared.keyword.Keyword.TheVariants as k
use Rattle.sa_tokens.specs.declared.punct.Punct.{Punct}
use Rattle.sa_tokens.specs.declared.punct.Punct.TheVariants as m
use Rattle.sa_tokens.specs.declared.token.Word.{Word}
use Rattle.sa_tokens.specs.declared.token.Word.TheVariants.{Name, Number, Key, Mark}
use Rattle.sa_tokens.specs.declared.token.Token.{Token}
use Rattle.sa_syntax.specs.declared.decl.Name.{Name as Named}
use Rattle.sa_syntax.specs.declared.expr.Expr.{Expr}
use Rattle.sa_syntax.specs.declared.expr.Prefix.{Prefix}
use Rattle.sa_syntax.specs.Words.{Names, mark, is_through, prefix_of, loosest}
use Rattle.sa_syntax.specs.Reading.{Parser, Got, Stuck, Deep, same_mark, sees, after, expect, any_name, variable, name_at, key_at, mark_at, while_from, many}
use Rattle.sa_syntax.specs.ReadExpr as read
use Rattle.sa_syntax.specs.ReadExpr.{Inner, inside, layer}
use Rattle.sa_syntax.proofs.RoomLemmas.{agree}
use Rattle.sa_syntax.proofs.NearLemmas.{wider, Near, NotGot, not_then, not_stuck, not_deep, near_then, near_if, near_opens_any, near_other, near_paren, near_many, opens_shut}

-- The readers one deeper have more room. Where none is left with less, none is left for a bracket with one more.
pub record IsNear (j n : ℕ) (inner wide : Inner) : Type 0 where
  pub whole : (i : ℕ) → n ≡ suc i → (ts : List Token) → Near j (inner.whole ts) (wide.whole ts)
  pub unary : (i : ℕ) → n ≡ suc i → (ts : List Token) → Near j (inner.unary ts) (wide.unary ts)
  pub specifiers : (i : ℕ) → n ≡ suc i → (ts : List Token) → Near j (inner.specifiers ts) (wide.specifiers ts)
  pub fields : (i : ℕ) → n ≡ suc i → (ts : List Token) → Near j (inner.fields ts) (wide.fields ts)
  pub shut : n ≡ 0 → j ≡ 1 → (q : Pos) (vs : List Token) → NotGot (wide.whole (mark m.OpenParen q ∷ vs))
  pub shut_type : n ≡ 0 → j ≡ 1 → (q : Pos) (vs : List Token) → NotGot (wide.specifiers (mark m.OpenParen q ∷ vs))

-- ---- at an opening bracket where no more may be open
module _ (ns : Names) (inner : Inner) (q : Pos) (vs : List Token) where
  abbrev at_bracket : List Token
  at_bracket = mark m.OpenParen q ∷ vs

  through_shut : read.through ns zero inner at_bracket ≡ Deep at_bracket
  unfolding read.through
  through_shut = rw (opens_shut zero q vs refl) refl

  pub place_shut : read.place ns zero inner at_bracket ≡ Deep at_bracket
  unfolding read.place mark_at
  place_shut = through_shut

  cast_shut : read.cast ns zero inner at_bracket ≡ Deep at_bracket
  unfolding read.cast
  cast_shut = rw (opens_shut zero q vs refl) refl

  bracket_shut : read.bracket ns zero inner at_bracket ≡ Deep at_bracket
  unfolding read.bracket
  bracket_shut = rw (opens_shut zero q vs refl) refl

  a_place_shut : read.a_place ns zero inner at_bracket ≡ Deep at_bracket
  unfolding read.a_place
  a_place_shut = rw place_shut refl

  any_of : {A : Type 0} (b c : Bool) (x y z w : A) → x ≡ w → y ≡ w → z ≡ w → cond b x (cond c y z) ≡ w
  any_of true c x y z w e f g = e
  any_of false true x y z w e f g = f
  any_of false false x y z w e f g = g

  unary_shut : read.unary ns zero inner at_bracket ≡ Deep at_bracket
  unfolding read.unary read.bracketed
  unary_shut = any_of (is_through vs) (read.begins_type ns vs) _ _ _ _ a_place_shut cast_shut bracket_shut

  ranked_shut : (l : ℕ) → read.ranked ns zero inner l at_bracket ≡ Deep at_bracket
  unfolding read.ranked read.chain
  ranked_shut zero = unary_shut
  ranked_shut (suc l) = rw (ranked_shut l) refl

  pub whole_shut : read.whole ns zero inner at_bracket ≡ Deep at_bracket
  unfolding read.whole
  whole_shut = rw (ranked_shut loosest) refl

-- no type begins with a bracket
module _ (ns : Names) (n : ℕ) (inner : Inner) (q : Pos) (vs : List Token) where
  no_qualifiers : many read.sees_qualifier read.qualifier (mark m.OpenParen q ∷ vs) ≡ Got [] (mark m.OpenParen q ∷ vs)
  unfolding while_from read.sees_qualifier key_at
  no_qualifiers = refl

  no_base : read.base ns n inner (mark m.OpenParen q ∷ vs) ≡ Stuck (mark m.OpenParen q ∷ vs)
  unfolding read.base read.type_name key_at name_at
  no_base = refl

  pub type_shut : read.specifiers ns n inner (mark m.OpenParen q ∷ vs) ≡ Stuck (mark m.OpenParen q ∷ vs)
  unfolding read.specifiers
  type_shut = rw (no_qualifiers, no_base) refl

  pub star_shut : expect m.Star (mark m.OpenParen q ∷ vs) ≡ Stuck (mark m.OpenParen q ∷ vs)
  unfolding expect same_mark
  star_shut = refl

module _ (ns : Names) (j n more : ℕ) (inner wide : Inner) (room : n + j ≡ more) (deeper : IsNear j n inner wide) where
  -- ---- places
  index_near : (ts : List Token) → Near j (read.index ns n inner ts) (read.index ns more wide ts)
  unfolding read.index
  index_near ts = near_other j n more room m.OpenBracket (λ c. cc) (λ c. cc) ts (λ i h p us. near_then (deeper.whole i h us) (λ a vs. Near.same))

  step_by_near : (o : Option Punct) (ts : List Token) → Near j (read.step_by ns n inner o ts) (read.step_by ns more wide o ts)
  step_by_near (Some m.OpenBracket) ts = index_near ts
  step_by_near o ts = Near.same

  pub a_step_near : (ts : List Token) → Near j (read.a_step ns n inner ts) (read.a_step ns more wide ts)
  unfolding read.a_step
  a_step_near ts = step_by_near (mark_at ts) ts

  pub steps_near : (ts : List Token) → Near j (read.steps ns n inner ts) (read.steps ns more wide ts)
  unfolding read.steps
  steps_near = near_many read.sees_step (read.a_step ns n inner) (read.a_step ns more wide) a_step_near

  by_name_near : (ts : List Token) → Near j (read.by_name ns n inner ts) (read.by_name ns more wide ts)
  unfolding read.by_name
  by_name_near ts = near_then (Near.same {r = variable ns ts}) (λ x us. near_then (steps_near us) (λ ss vs. Near.same))

  through_near : (ts : List Token) → Near j (read.through ns n inner ts) (read.through ns more wide ts)
  unfolding read.through
  through_near ts =
      near_paren j n more room ts (λ h e p q vs. not_then _ _ (not_stuck (star_shut ns n inner q vs))) (λ i h p us.
      near_then (Near.same {r = expect m.Star us}) (λ q vs.
      near_then (Near.same {r = variable ns vs}) (λ x ws.
      near_then (Near.same {r = expect m.CloseParen ws}) (λ r xs.
      near_then (steps_near xs) (λ ss ys. Near.same)))))

  star_near : (ts : List Token) → Near j (read.star ns n inner ts) (read.star ns more wide ts)
  unfolding read.star
  star_near ts = Near.same

  place_by_near : (o : Option Punct) (ts : List Token) → Near j (read.place_by ns n inner o ts) (read.place_by ns more wide o ts)
  place_by_near (Some m.OpenParen) ts = through_near ts
  place_by_near (Some m.Star) ts = star_near ts
  place_by_near o ts = by_name_near ts

  pub place_near : (ts : List Token) → Near j (read.place ns n inner ts) (read.place ns more wide ts)
  unfolding read.place
  place_near ts = place_by_near (mark_at ts) ts

  -- ---- types
  pub a_bound_near : (ts : List Token) → Near j (read.a_bound ns n inner ts) (read.a_bound ns more wide ts)
  unfolding read.a_bound
  a_bound_near ts = near_other j n more room m.OpenBracket (λ c. cc) (λ c. cc) ts (λ i h p us. near_then (deeper.whole i h us) (λ a vs. Near.same))

  pub declr_near : (ts : List Token) → Near j (read.declr ns n inner ts) (read.declr ns more wide ts)
  unfolding read.declr
  declr_near ts = near_then (Near.same {r = any_name ts}) (λ x us. near_then (near_many (sees m.OpenBracket) (read.a_bound ns n inner) (read.a_bound ns more wide) a_bound_near us) (λ bs vs. Near.same))

  pub next_declr_near : (ts : List Token) → Near j (read.next_declr ns n inner ts) (read.next_declr ns more wide ts)
  unfolding read.next_declr
  next_declr_near ts = near_then (Near.same {r = expect m.Comma ts}) (λ p us. declr_near us)

  pub declrs_near : (ts : List Token) → Near j (read.declrs ns n inner ts) (read.declrs ns more wide ts)
  unfolding read.declrs
  declrs_near ts = near_then (declr_near ts) (λ d us. near_then (near_many (sees m.Comma) (read.next_declr ns n inner) (read.next_declr ns more wide) next_declr_near us) (λ ds vs. Near.same))

  pub body_near : (tag : Option Named) (ts : List Token) → Near j (read.body ns n inner tag ts) (read.body ns more wide tag ts)
  unfolding read.body
  body_near tag ts = near_other j n more room m.OpenBrace (λ c. cc) (λ c. cc) ts (λ i h p us. near_then (deeper.fields i h us) (λ fs vs. Near.same))

  tagged_near : (o : Option Named) (ts : List Token) → Near j (read.tagged ns n inner o ts) (read.tagged ns more wide o ts)
  tagged_near None ts = body_near None ts
  tagged_near (Some x) ts = near_if (sees m.OpenBrace (after ts)) (body_near (Some x) (after ts)) Near.same

  struct_or_tag_near : (ts : List Token) → Near j (read.struct_or_tag ns n inner ts) (read.struct_or_tag ns more wide ts)
  unfolding read.struct_or_tag
  struct_or_tag_near ts = tagged_near (name_at ts) ts

  type_name_near : (ts : List Token) → Near j (read.type_name ns n inner ts) (read.type_name ns more wide ts)
  unfolding read.type_name
  type_name_near ts = Near.same

  base_by_near : (o : Option Keyword) (ts : List Token) → Near j (read.base_by ns n inner o ts) (read.base_by ns more wide o ts)
  base_by_near (Some k.Struct) ts = struct_or_tag_near (after ts)
  base_by_near (Some w) ts = Near.same
  base_by_near None ts = type_name_near ts

  base_near : (ts : List Token) → Near j (read.base ns n inner ts) (read.base ns more wide ts)
  unfolding read.base
  base_near ts = base_by_near (key_at ts) ts

  pub specifiers_near : (ts : List Token) → Near j (read.specifiers ns n inner ts) (read.specifiers ns more wide ts)
  unfolding read.specifiers
  specifiers_near ts = near_then (Near.same {r = many read.sees_qualifier read.qualifier ts}) (λ qs us. near_then (base_near us) (λ t vs. Near.same))

  pub field_near : (ts : List Token) → Near j (read.field ns n inner ts) (read.field ns more wide ts)
  unfolding read.field
  field_near ts = near_then (specifiers_near ts) (λ t us. near_then (declrs_near us) (λ ds vs. Near.same))

  pub fields_near : (ts : List Token) → Near j (read.fields ns n inner ts) (read.fields ns more wide ts)
  unfolding read.fields
  fields_near ts = near_then (field_near ts) (λ f us. near_then (near_many (read.no_brace ns n inner) (read.field ns n inner) (read.field ns more wide) field_near us) (λ fs vs. Near.same))

  -- ---- expressions
  a_place_near : (ts : List Token) → Near j (read.a_place ns n inner ts) (read.a_place ns more wide ts)
  unfolding read.a_place
  a_place_near ts = near_then (place_near ts) (λ x us. Near.same)

  cast_near : (ts : List Token) → Near j (read.cast ns n inner ts) (read.cast ns more wide ts)
  unfolding read.cast
  cast_near ts =
      near_paren j n more room ts (λ h e p q vs. not_then _ _ (deeper.shut_type h e q vs)) (λ i h p us.
      near_then (deeper.specifiers i h us) (λ t vs.
      near_then (Near.same {r = expect m.CloseParen vs}) (λ q ws.
      near_then (deeper.unary i h ws) (λ a xs. Near.same))))

  bracket_near : (ts : List Token) → Near j (read.bracket ns n inner ts) (read.bracket ns more wide ts)
  unfolding read.bracket
  bracket_near ts = near_paren j n more room ts (λ h e p q vs. not_then _ _ (deeper.shut h e q vs)) (λ i h p us. near_then (deeper.whole i h us) (λ a vs. Near.same))

  bracketed_near : (ts : List Token) → Near j (read.bracketed ns n inner ts) (read.bracketed ns more wide ts)
  unfolding read.bracketed
  bracketed_near ts = near_if (is_through (after ts)) (a_place_near ts) (near_if (read.begins_type ns (after ts)) (cast_near ts) (bracket_near ts))

  prefixed_near : (op : Prefix) (mk : Punct) (p : Pos) (us : List Token) → (mk ≡ m.Colon → ⊥) → (mk ≡ m.OpenParen → ⊥) → Near j (read.prefixed ns n inner op (mark mk p ∷ us)) (read.prefixed ns more wide op (mark mk p ∷ us))
  unfolding read.prefixed
  prefixed_near op mk p us never not = near_opens_any _ _ j n more room mk p us never not (λ i h. near_then (deeper.unary i h us) (λ a vs. Near.same))

  prefix_by_near : (o : Option Prefix) (mk : Punct) (p : Pos) (us : List Token) → prefix_of mk ≡ o → Near j (read.prefix_by ns n inner o (mark mk p ∷ us)) (read.prefix_by ns more wide o (mark mk p ∷ us))
  prefix_by_near None mk p us e = Near.same
  prefix_by_near (Some op) mk p us e = prefixed_near op mk p us (λ h. let f : None ≡ Some op = ap prefix_of (sym h) ∙ e in cc) (λ h. let f : None ≡ Some op = ap prefix_of (sym h) ∙ e in cc)

  unary_mark_near : (mk : Punct) (p : Pos) (us : List Token) → Near j (read.unary_mark ns n inner mk (mark mk p ∷ us)) (read.unary_mark ns more wide mk (mark mk p ∷ us))
  unary_mark_near m.OpenParen p us = bracketed_near (mark m.OpenParen p ∷ us)
  unary_mark_near m.Star p us = a_place_near (mark m.Star p ∷ us)
  unary_mark_near mk p us = prefix_by_near (prefix_of mk) mk p us refl

  unary_by_near : (w : Word) (p : Pos) (ts : List Token) → Near j (read.unary_by ns n inner (record { word = w; pos = p }) ts) (read.unary_by ns more wide (record { word = w; pos = p }) ts)
  unary_by_near (Name w) p ts = a_place_near ((record { word = Name w; pos = p }) ∷ ts)
  unary_by_near (Number v u l d) p ts = Near.same
  unary_by_near (Key j) p ts = Near.same
  unary_by_near (Mark mk) p ts = unary_mark_near mk p ts

  pub unary_near : (ts : List Token) → Near j (read.unary ns n inner ts) (read.unary ns more wide ts)
  unfolding read.unary
  unary_near [] = Near.same
  unary_near (t ∷ ts) = unary_by_near t.word t.pos ts

  pub a_link_near : (operand other : Parser Expr) → ((ts : List Token) → Near j (operand ts) (other ts)) → (ts : List Token) → Near j (read.a_link ns n inner operand ts) (read.a_link ns more wide other ts)
  unfolding read.a_link
  a_link_near operand other one ts = near_then (Near.same {r = read.operator ts}) (λ op us. near_then (one us) (λ a vs. Near.same))

  chain_near : (l : ℕ) (operand other : Parser Expr) → ((ts : List Token) → Near j (operand ts) (other ts)) → (ts : List Token) → Near j (read.chain ns n inner l operand ts) (read.chain ns more wide l other ts)
  unfolding read.chain
  chain_near l operand other one ts = near_then (one ts) (λ a us.
      near_then (near_many (read.sees_operator (suc l)) (read.a_link ns n inner operand) (read.a_link ns more wide other) (a_link_near operand other one) us) (λ xs vs. Near.same))

  pub ranked_near : (l : ℕ) (ts : List Token) → Near j (read.ranked ns n inner l ts) (read.ranked ns more wide l ts)
  unfolding read.ranked
  ranked_near zero ts = unary_near ts
  ranked_near (suc l) ts = chain_near l (read.ranked ns n inner l) (read.ranked ns more wide l) (ranked_near l) ts

  choice_near : (c : Expr) (ts : List Token) → Near j (read.choice ns n inner c ts) (read.choice ns more wide c ts)
  unfolding read.choice
  choice_near c ts =
      near_other j n more room m.Question (λ c. cc) (λ c. cc) ts (λ i h p us.
      near_then (deeper.whole i h us) (λ a vs.
      near_then (Near.same {r = expect m.Colon vs}) (λ q ws.
      near_then (deeper.whole i h ws) (λ f xs. Near.same))))

  pub whole_near : (ts : List Token) → Near j (read.whole ns n inner ts) (read.whole ns more wide ts)
  unfolding read.whole
  whole_near ts = near_then (ranked_near loosest ts) (λ c us. near_if (sees m.Question us) (choice_near c us) Near.same)

one_more : (ns : Names) (more : ℕ) → more ≡ 1 → inside ns more ≡ layer ns zero (inside ns zero)
unfolding inside
one_more ns zero h = cc
one_more ns (suc zero) h = refl
one_more ns (suc (suc more)) h = cc

first_room : (j more : ℕ) → zero + j ≡ more → j ≡ 1 → more ≡ 1
first_room j more e h = omega (arith, e, h)

pub inside_near : (ns : Names) (j n more : ℕ) → n + j ≡ more → IsNear j n (inside ns n) (inside ns more)
unfolding inside
inside_near ns j zero more e = record {
  whole = λ i h. cc;
  unary = λ i h. cc;
  specifiers = λ i h. cc;
  fields = λ i h. cc;
  shut = λ h k q vs. subst (λ (r : Inner). NotGot (r.whole (mark m.OpenParen q ∷ vs))) (sym (one_more ns more (first_room j more e k))) (not_deep (whole_shut ns (inside ns zero) q vs));
  shut_type = λ h k q vs. subst (λ (r : Inner). NotGot (r.specifiers (mark m.OpenParen q ∷ vs))) (sym (one_more ns more (first_room j more e k))) (not_stuck (type_shut ns zero (inside ns zero) q vs));
}
inside_near ns j (suc n) zero e = absurd (omega (arith, e))
inside_near ns j (suc n) (suc more) e =
    let room : n + j ≡ more = omega (arith, e) in
    let deeper = inside_near ns j n more room in
    let inner = inside ns n in
    let wide = inside ns more in
    record {
      whole = λ i h. whole_near ns j n more inner wide room deeper;
      unary = λ i h. unary_near ns j n more inner wide room deeper;
      specifiers = λ i h. specifiers_near ns j n more inner wide room deeper;
      fields = λ i h. fields_near ns j n more inner wide room deeper;
      shut = λ h. cc;
      shut_type = λ h. cc;
    }

-- ---- the readers where that many more may be open
pub whole_at : (ns : Names) (j n more : ℕ) → n + j ≡ more → (ts : List Token) → Near j (read.whole ns n (inside ns n) ts) (read.whole ns more (inside ns more) ts)
whole_at ns j n more e = whole_near ns j n more (inside ns n) (inside ns more) e (inside_near ns j n more e)

pub place_at : (ns : Names) (j n more : ℕ) → n + j ≡ more → (ts : List Token) → Near j (read.place ns n (inside ns n) ts) (read.place ns more (inside ns more) ts)
place_at ns j n more e = place_near ns j n more (inside ns n) (inside ns more) e (inside_near ns j n more e)

pub specifiers_at : (ns : Names) (j n more : ℕ) → n + j ≡ more → (ts : List Token) → Near j (read.specifiers ns n (inside ns n) ts) (read.specifiers ns more (inside ns more) ts)
specifiers_at ns j n more e = specifiers_near ns j n more (inside ns n) (inside ns more) e (inside_near ns j n more e)

pub declr_at : (ns : Names) (j n more : ℕ) → n + j ≡ more → (ts : List Token) → Near j (read.declr ns n (inside ns n) ts) (read.declr ns more (inside ns more) ts)
declr_at ns j n more e = declr_near ns j n more (inside ns n) (inside ns more) e (inside_near ns j n more e)

pub expressions_agree : (ns : Names) (n more : ℕ) → n ≤ more → (ts : List Token) → ((vs : List Token) × (read.whole ns n (inside ns n) ts ≡ Deep vs)) ⊎ (read.whole ns n (inside ns n) ts ≡ read.whole ns more (inside ns more) ts)
expressions_agree ns n more h ts = agree (wider (λ n. read.whole ns n (inside ns n)) (whole_at ns) n more h ts)
