-- No promise of the top calls rests on this page: it is for laws beside them, for proofs and for inner functions.
-- Parts of statements that the parser has functions of its own for.
use Rattle.std.specs.Prelude.{ℕ, ◌&&◌, not, if◌then◌else◌, List, [], ◌∷◌, Bool, true, false, Option, Some, None}
use Rattle.sa_tokens.specs.declared.token.Token.{Token}
use Rattle.sa_tokens.specs.declared.punct.Punct.TheVariants as m
use Rattle.sa_syntax.specs.declared.expr.Expr.{Expr}
use Rattle.sa_base.specs.declared.pos.Pos.{Pos}
use Rattle.sa_tokens.specs.declared.keyword.Keyword.{Keyword}
use Rattle.sa_tokens.specs.declared.keyword.Keyword.TheVariants as k
use Rattle.sa_syntax.specs.declared.expr.Place.{Place}
use Rattle.sa_syntax.specs.declared.stmt.Simple.{Simple}
use Rattle.sa_syntax.specs.declared.stmt.Directive.TheVariants as d
use Rattle.sa_syntax.specs.declared.stmt.Stmt.{Stmt}
use Rattle.sa_syntax.specs.declared.stmt.Stmt.TheVariants as s
use Rattle.sa_syntax.specs.declared.stmt.BlockItem.{BlockItem}
use Rattle.sa_syntax.specs.declared.stmt.Block.{Block}
use Rattle.sa_syntax.specs.declared.decl.Struct.{Struct}
use Rattle.sa_syntax.specs.declared.unit.Item.{Item}
use Rattle.sa_syntax.specs.declared.unit.Item.TheVariants as top
use Rattle.sa_syntax.specs.Trees as tree
use Rattle.sa_syntax.specs.Trees.{pos_of}
use Rattle.sa_syntax.specs.ReadStmt as stmt
use Rattle.sa_syntax.specs.Words.{Names, begins_with_label, begins_with_star}
use Rattle.sa_syntax.specs.Reading.{Parser, ◌>>=◌, ◌>>◌, Got, pure, refuse, expect, opens, sees, after, key_at}
use Rattle.sa_syntax.specs.ReadStmt.{takes, within, double_bracket, outermost, bodies, specifiers, expr, place, simple, call, assigned, sees_call, expr_before}

-- a directive's word and two pairs of brackets
abbrev pub nothing : ℕ → Parser (Unit {0})
nothing n = takes >> double_bracket n (pure tt)

-- the same with an expression in the brackets
abbrev pub fact : Names → ℕ → Parser Expr
fact ns n = takes >> double_bracket n (within (within (λ n. expr ns n)) n)

-- ---- statements without statements in them
abbrev pub goes_on : List Token → Bool
goes_on ts = not (sees m.CloseBrace ts) && not (begins_with_label ts)

abbrev pub empty : Parser Stmt
empty = takes >>= (λ p. pure (s.Empty p))

abbrev pub break : Parser Stmt
break = do
  p ← takes
  expect m.Semicolon
  pure (s.Break p)

abbrev pub wait : ℕ → Parser Stmt
wait n ts = (do
  nothing n
  expect m.Semicolon
  pure (s.Directive (pos_of ts) d.Wait)) ts

abbrev pub partition : ℕ → Parser Stmt
partition n ts = (do
  nothing n
  expect m.Semicolon
  pure (s.Directive (pos_of ts) d.Partition)) ts

abbrev pub known_fact : Names → ℕ → Parser Stmt
known_fact ns n ts = (do
  a ← fact ns n
  expect m.Semicolon
  pure (s.Directive (pos_of ts) (d.KnownFact a))) ts

abbrev pub assert : Names → ℕ → Parser Stmt
assert ns n ts = (do
  a ← fact ns n
  expect m.Semicolon
  pure (s.Directive (pos_of ts) (d.Assert a))) ts

abbrev pub while_by : Option Keyword → Parser Pos
while_by (Some k.While) = takes
while_by _ = refuse

abbrev pub expect_while : Parser Pos
expect_while ts = while_by (key_at ts) ts

abbrev pub simple_ended : Parser Simple → Parser Stmt
simple_ended p = do
  a ← p
  expect m.Semicolon
  pure (s.Simple a)

abbrev pub simple_stmt : Names → ℕ → Parser Stmt
simple_stmt ns n = simple_ended (simple ns n)

abbrev pub call_stmt : Names → ℕ → Parser Stmt
call_stmt ns n = do
  c ← call ns n
  expect m.Semicolon
  pure (s.Call c)

abbrev pub gives : Names → ℕ → Place → Parser Stmt
gives ns n x = do
  p ← expect m.Equal
  c ← call ns n
  expect m.Semicolon
  pure (s.Gives x p c)

abbrev pub assigned_stmt : Names → ℕ → Bool → Place → Parser Stmt
assigned_stmt ns n star x ts = if sees m.Equal ts && sees_call ns (after ts) then gives ns n x ts else simple_ended (assigned ns n star x) ts

abbrev pub placed : Names → ℕ → Parser Stmt
placed ns n ts = if sees_call ns ts then call_stmt ns n ts else (place ns n >>= assigned_stmt ns n (begins_with_star ts)) ts

abbrev pub return : Names → ℕ → Parser Stmt
return ns n = do
  p ← takes
  a ← expr_before ns m.Semicolon n
  expect m.Semicolon
  pure (s.Return p a)

-- ---- the body of a function
abbrev pub block_item : Names → ℕ → Parser BlockItem
block_item ns n = stmt.block_item ns n (bodies ns n) (stmt.stmt ns n (bodies ns n))

abbrev pub block : Names → ℕ → Parser Block
block ns n = do
  p ← opens n m.OpenBrace
  is ← within (outermost ns) n
  q ← expect m.CloseBrace
  pure (tree.block p is q)
