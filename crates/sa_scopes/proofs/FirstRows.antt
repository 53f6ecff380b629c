-- The first token of each form of an expression.
use Rattle.std.proofs.Common.{◌≡◌, ℕ, Bool, List, refl}
use Rattle.sa_base.specs.declared.pos.Pos.{Pos}
use Rattle.sa_syntax.specs.declared.decl.Specifiers.{Specifiers}
use Rattle.sa_syntax.specs.declared.expr.Expr.{Expr}
use Rattle.sa_syntax.specs.declared.expr.Expr.TheVariants as v
use Rattle.sa_syntax.specs.declared.expr.Link.{Link}
use Rattle.sa_syntax.specs.declared.expr.Place.{Place}
use Rattle.sa_syntax.specs.declared.expr.Prefix.{Prefix}
use Rattle.sa_scopes.specs.First.{expr_pos, place_pos}

pub expr_pos-Number : (n : ℕ) (unsigned : Bool) (longs : ℕ) (decimal : Bool) (p : Pos) → expr_pos (v.Number n unsigned longs decimal p) ≡ p
unfolding expr_pos
expr_pos-Number n unsigned longs decimal p = refl

pub expr_pos-Place : (x : Place) → expr_pos (v.Place x) ≡ place_pos x
unfolding expr_pos Rattle.sa_syntax.specs.declared.decl.Base.TheBlock.hidden-the_row-Expr-1 denote.Hole.Carrier.hidden
expr_pos-Place x = refl

pub expr_pos-Bracket : (p : Pos) (x : Expr) → expr_pos (v.Bracket p x) ≡ p
unfolding expr_pos
expr_pos-Bracket p x = refl

pub expr_pos-Prefix : (op : Prefix) (p : Pos) (x : Expr) → expr_pos (v.Prefix op p x) ≡ p
unfolding expr_pos
expr_pos-Prefix op p x = refl

pub expr_pos-Cast : (p : Pos) (ty : Specifiers) (x : Expr) → expr_pos (v.Cast p ty x) ≡ p
unfolding expr_pos
expr_pos-Cast p ty x = refl

pub expr_pos-Chain : (x : Expr) (ls : List Link) → expr_pos (v.Chain x ls) ≡ expr_pos x
unfolding expr_pos Rattle.sa_syntax.specs.declared.decl.Base.TheBlock.hidden-the_row-Expr-1 denote.Hole.Carrier.hidden
expr_pos-Chain x ls = refl

pub expr_pos-Choice : (x : Expr) (p : Pos) (y z : Expr) → expr_pos (v.Choice x p y z) ≡ expr_pos x
unfolding expr_pos Rattle.sa_syntax.specs.declared.decl.Base.TheBlock.hidden-the_row-Expr-1 denote.Hole.Carrier.hidden
expr_pos-Choice x p y z = refl

pub ruleset first_rows = (expr_pos-Number, expr_pos-Place, expr_pos-Bracket, expr_pos-Prefix, expr_pos-Cast, expr_pos-Chain, expr_pos-Choice)
