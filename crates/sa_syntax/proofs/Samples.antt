-- A source with most forms, read to its end by the definitions alone.
use Rattle.std.proofs.Common.{◌≡◌, ℕ, List, [], ◌∷◌, true, false, Option, Some, None, refl}
use Rattle.std.specs.Prelude.{codes}
use Rattle.sa_base.specs.declared.pos.Pos.{Pos}
use Rattle.sa_tokens.specs.declared.keyword.Keyword.TheVariants as k
use Rattle.sa_tokens.specs.declared.punct.Punct.TheVariants as m
use Rattle.sa_tokens.specs.declared.token.Token.{Token}
use Rattle.sa_syntax.specs.declared.unit.Unit.{Unit as Source}
use Rattle.sa_syntax.specs.Words.{mark, key, word, literal, is_type_name, is_through, is_void_alone}
use Rattle.sa_syntax.specs.Reading.{Read, Got, Stuck, Deep, same_mark, sees, expect, opens, opens_any, any_name, variable, name_at, key_at, mark_at, while_from}
use Rattle.sa_syntax.specs.ReadExpr.{inside, sees_qualifier, sees_scalar, qualifier, scalar_word, begins_type, sees_operator, operator}
use Rattle.sa_syntax.specs.ReadExpr as e
use Rattle.sa_syntax.specs.ReadStmt as s
use Rattle.sa_syntax.specs.declared.decl.Base.{out-Base}
use denote.Hole.Carrier

-- ---- tokens, all at one place
abbrev p : Pos
p = record { line = 1; col = 1 }

-- what is left of a text that is read
abbrev left : Read Source → Option (List Token)
left (Got u ts) = Some ts
left (Stuck ts) = None
left (Deep ts) = None

abbrev n : ℕ → Token
n v = literal v false 0 true p

abbrev x : Token
x = word (codes "x") p

abbrev f : Token
f = word (codes "f") p

-- typedef unsigned char t;
-- struct s { t a[2]; };
-- static const t x = -1 + 2 * (t)3 ? x : ~4;
-- void f(t *x, int f) { if (x.f[1] == 2) { x = 3; } else *x -= 1; }
-- void f(void) {
--   t x = f(1, &x), f;
--   while (1) {
--     __ASTREE_wait_for_clock(());
--     (*x).f[2]++;
--     for (int x = 0; x < 4; ++x) ;
--     switch (x) { case 1: default: break; }
--     do f(); while (1);
--     return;
--   }
-- }
pub sample : List Token
sample = key k.Typedef p ∷ key k.Unsigned p ∷ key k.Char p ∷ word (codes "t") p ∷ mark m.Semicolon p
    ∷ key k.Struct p ∷ word (codes "s") p ∷ mark m.OpenBrace p ∷ word (codes "t") p ∷ word (codes "a") p ∷ mark m.OpenBracket p ∷ n 2 ∷ mark m.CloseBracket p ∷ mark m.Semicolon p ∷ mark m.CloseBrace p ∷ mark m.Semicolon p
    ∷ key k.Static p ∷ key k.Const p ∷ word (codes "t") p ∷ x ∷ mark m.Equal p ∷ mark m.Minus p ∷ n 1 ∷ mark m.Plus p ∷ n 2 ∷ mark m.Star p ∷ mark m.OpenParen p ∷ word (codes "t") p ∷ mark m.CloseParen p ∷ n 3 ∷ mark m.Question p ∷ x ∷ mark m.Colon p ∷ mark m.Tilde p ∷ n 4 ∷ mark m.Semicolon p
    ∷ key k.Void p ∷ f ∷ mark m.OpenParen p ∷ word (codes "t") p ∷ mark m.Star p ∷ x ∷ mark m.Comma p ∷ key k.Int p ∷ f ∷ mark m.CloseParen p ∷ mark m.OpenBrace p
    ∷ key k.If p ∷ mark m.OpenParen p ∷ x ∷ mark m.Dot p ∷ f ∷ mark m.OpenBracket p ∷ n 1 ∷ mark m.CloseBracket p ∷ mark m.EqualEqual p ∷ n 2 ∷ mark m.CloseParen p ∷ mark m.OpenBrace p ∷ x ∷ mark m.Equal p ∷ n 3 ∷ mark m.Semicolon p ∷ mark m.CloseBrace p
    ∷ key k.Else p ∷ mark m.Star p ∷ x ∷ mark m.MinusEqual p ∷ n 1 ∷ mark m.Semicolon p ∷ mark m.CloseBrace p
    ∷ key k.Void p ∷ f ∷ mark m.OpenParen p ∷ key k.Void p ∷ mark m.CloseParen p ∷ mark m.OpenBrace p
    ∷ word (codes "t") p ∷ x ∷ mark m.Equal p ∷ f ∷ mark m.OpenParen p ∷ n 1 ∷ mark m.Comma p ∷ mark m.Ampersand p ∷ x ∷ mark m.CloseParen p ∷ mark m.Comma p ∷ f ∷ mark m.Semicolon p
    ∷ key k.While p ∷ mark m.OpenParen p ∷ n 1 ∷ mark m.CloseParen p ∷ mark m.OpenBrace p
    ∷ key k.WaitForClock p ∷ mark m.OpenParen p ∷ mark m.OpenParen p ∷ mark m.CloseParen p ∷ mark m.CloseParen p ∷ mark m.Semicolon p
    ∷ mark m.OpenParen p ∷ mark m.Star p ∷ x ∷ mark m.CloseParen p ∷ mark m.Dot p ∷ f ∷ mark m.OpenBracket p ∷ n 2 ∷ mark m.CloseBracket p ∷ mark m.PlusPlus p ∷ mark m.Semicolon p
    ∷ key k.For p ∷ mark m.OpenParen p ∷ key k.Int p ∷ x ∷ mark m.Equal p ∷ n 0 ∷ mark m.Semicolon p ∷ x ∷ mark m.Less p ∷ n 4 ∷ mark m.Semicolon p ∷ mark m.PlusPlus p ∷ x ∷ mark m.CloseParen p ∷ mark m.Semicolon p
    ∷ key k.Switch p ∷ mark m.OpenParen p ∷ x ∷ mark m.CloseParen p ∷ mark m.OpenBrace p ∷ key k.Case p ∷ n 1 ∷ mark m.Colon p ∷ key k.Default p ∷ mark m.Colon p ∷ key k.Break p ∷ mark m.Semicolon p ∷ mark m.CloseBrace p
    ∷ key k.Do p ∷ f ∷ mark m.OpenParen p ∷ mark m.CloseParen p ∷ mark m.Semicolon p ∷ key k.While p ∷ mark m.OpenParen p ∷ n 1 ∷ mark m.CloseParen p ∷ mark m.Semicolon p ∷ key k.Return p ∷ mark m.Semicolon p ∷ mark m.CloseBrace p ∷ mark m.CloseBrace p ∷ []

-- at the call `f()` six are open: the braces of the function and of the loop, its own bracket, and three statements inside statements
pub sample_read : left (s.source 6 sample) ≡ Some []
unfolding sample is_type_name is_through is_void_alone same_mark sees expect opens opens_any any_name variable name_at key_at mark_at while_from inside sees_qualifier sees_scalar qualifier scalar_word begins_type sees_operator operator e.index e.a_step e.steps e.by_name e.through e.star e.place e.body e.struct_or_tag e.type_name e.base e.specifiers e.a_bound e.declr e.next_declr e.declrs e.field e.fields e.cast e.bracket e.a_place e.bracketed e.prefixed e.unary e.a_link e.chain e.ranked e.choice e.whole s.sees_call s.list_from s.inits_from s.braces s.init_by s.init_at s.init_declr s.arg_value s.args_from s.args s.call s.before s.assigned s.simple s.local_start s.local_declr s.local s.double_bracket s.bare s.with_expr s.ended s.condition s.declares s.first_of s.expr_before s.simple_before s.case s.default s.a_label s.begins_stmt s.block s.empty s.call_stmt s.gives s.simple_ended s.assigned_stmt s.placed s.if_stmt s.while_stmt s.expect_while s.do_stmt s.for_stmt s.switch_stmt s.break s.return s.stmt s.block_item s.block_items s.a_group s.groups s.bodies s.param s.params s.outermost s.body s.ends s.function s.struct_of s.typedef s.global s.sees_function s.named_item s.declared s.an_item s.items_from s.source out-Base Carrier.out
sample_read = refl
