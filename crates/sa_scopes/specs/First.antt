-- The places of first tokens.
use Rattle.std.specs.Prelude.{List, [], ◌∷◌}
use Rattle.sa_base.specs.declared.pos.Pos.{Pos}
use Rattle.sa_syntax.specs.declared.decl.Specifiers.{out-Specifiers}
use Rattle.sa_syntax.specs.declared.decl.Init.{Init, out-Init}
use Rattle.sa_syntax.specs.declared.decl.Init.TheOpen.{Init-F}
use Rattle.sa_syntax.specs.declared.expr.Expr.{Expr, Number, Place', Bracket', Prefix', Cast', Chain', Choice', end_of-Expr, more_of-Expr}
use Rattle.sa_syntax.specs.declared.expr.Place.{Place, out-Place}
use Rattle.sa_syntax.specs.declared.expr.PlaceBase.{PlaceBase}
use Rattle.sa_syntax.specs.declared.expr.PlaceBase.TheVariants as at
use Rattle.sa_syntax.specs.declared.stmt.Simple.{Simple}
use Rattle.sa_syntax.specs.declared.stmt.Simple.TheVariants as simply
use Rattle.sa_syntax.specs.declared.stmt.Stmt as tree
use Rattle.sa_syntax.specs.declared.stmt.Stmt.{out-Stmt}
use Rattle.sa_syntax.specs.declared.stmt.BlockItem.TheOpen.{Stmt-F, BlockItem-F}
use Rattle.sa_syntax.specs.declared.stmt.BlockItem.{BlockItem, out-BlockItem}
use Rattle.sa_syntax.specs.declared.stmt.Block.{out-Block}

abbrev pub base_pos : PlaceBase → Pos
base_pos (at.Name x) = x.pos
base_pos (at.Through p q x) = p
base_pos (at.Star p x) = p

abbrev pub place_pos : Place → Pos
place_pos x = base_pos (out-Place x).base

unfoldable pub expr_pos : Expr → Pos
expr_pos (Number value unsigned longs decimal p) = p
expr_pos (Place' b n steps) = base_pos b
expr_pos (Bracket' p n a) = p
expr_pos (Prefix' op p n a) = p
expr_pos (Cast' p m ty n a) = p
expr_pos (Chain' m (more_of-Expr a end_of-Expr) n ls) = expr_pos a
expr_pos (Choice' l (more_of-Expr a end_of-Expr) p m b n c) = expr_pos a

abbrev pub init_pos : Init → Pos
init_pos i = elim (out-Init i) as (λ _. Pos) [ Init-F.Value e ↦ expr_pos e | Init-F.Braces p is ↦ p ]

abbrev pub simple_pos : Simple → Pos
simple_pos (simply.Assign x p a) = place_pos x
simple_pos (simply.Compound x op p a) = place_pos x
simple_pos (simply.After x turn p) = place_pos x
simple_pos (simply.Before turn p x) = p

unfoldable pub stmt_pos : tree.Stmt → Pos
stmt_pos a = elim (out-Stmt a) as (λ _. Pos) [
  | Stmt-F.Block b ↦ (out-Block b).«open»
  | Stmt-F.Empty p ↦ p
  | Stmt-F.Simple x ↦ simple_pos x
  | Stmt-F.Gives x p c ↦ place_pos x
  | Stmt-F.Call c ↦ c.name.pos
  | Stmt-F.If p e b ↦ p
  | Stmt-F.IfElse p e b c ↦ p
  | Stmt-F.While p e b ↦ p
  | Stmt-F.DoWhile p b e ↦ p
  | Stmt-F.For p i e n b ↦ p
  | Stmt-F.Switch p e gs ↦ p
  | Stmt-F.Break p ↦ p
  | Stmt-F.Return p e ↦ p
  | Stmt-F.Directive p x ↦ p
]

unfoldable pub item_pos : BlockItem → Pos
item_pos i = elim (out-BlockItem i) as (λ _. Pos) [ BlockItem-F.Local l ↦ (out-Specifiers l.ty).pos | BlockItem-F.Stmt a ↦ stmt_pos a ]
