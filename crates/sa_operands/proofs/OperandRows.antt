-- The literal that each form of an expression is by itself.
use Rattle.std.proofs.Common.{◌≡◌, ℕ, Bool, true, false, List, refl, Option, Some, None}
use Rattle.std.specs.Prelude.{if◌then◌else◌}
use Rattle.sa_base.specs.declared.pos.Pos.{Pos}
use Rattle.sa_syntax.specs.declared.decl.Specifiers.{Specifiers}
use Rattle.sa_syntax.specs.declared.expr.Expr.{Expr}
use Rattle.sa_syntax.specs.declared.expr.Expr.TheVariants as v
use Rattle.sa_syntax.specs.declared.expr.Link.{Link}
use Rattle.sa_syntax.specs.declared.expr.Place.{Place}
use Rattle.sa_syntax.specs.declared.expr.Prefix.{Prefix}
use Rattle.sa_syntax.specs.declared.expr.Prefix.TheVariants as pre
use Rattle.sa_operands.specs.Operands.{by_itself}

pub by_itself-Number : (m : Bool) (n : ℕ) (unsigned : Bool) (longs : ℕ) (decimal : Bool) (p : Pos) → by_itself m (v.Number n unsigned longs decimal p) ≡ Some n
unfolding by_itself
by_itself-Number m n unsigned longs decimal p = refl

pub by_itself-Place : (m : Bool) (x : Place) → by_itself m (v.Place x) ≡ None
unfolding by_itself
by_itself-Place m x = refl

pub by_itself-Bracket : (m : Bool) (p : Pos) (x : Expr) → by_itself m (v.Bracket p x) ≡ by_itself m x
unfolding by_itself Rattle.sa_syntax.specs.declared.decl.Base.TheBlock.hidden-the_row-Expr-1 denote.Hole.Carrier.hidden
by_itself-Bracket m p x = refl

pub by_itself-Minus : (m : Bool) (p : Pos) (x : Expr) → by_itself m (v.Prefix pre.Minus p x) ≡ (if m then by_itself false x else None)
unfolding by_itself Rattle.sa_syntax.specs.declared.decl.Base.TheBlock.hidden-the_row-Expr-1 denote.Hole.Carrier.hidden
by_itself-Minus m p x = refl

pub by_itself-Plus : (m : Bool) (p : Pos) (x : Expr) → by_itself m (v.Prefix pre.Plus p x) ≡ None
unfolding by_itself
by_itself-Plus m p x = refl

pub by_itself-Complement : (m : Bool) (p : Pos) (x : Expr) → by_itself m (v.Prefix pre.Complement p x) ≡ None
unfolding by_itself
by_itself-Complement m p x = refl

pub by_itself-Not : (m : Bool) (p : Pos) (x : Expr) → by_itself m (v.Prefix pre.Not p x) ≡ None
unfolding by_itself
by_itself-Not m p x = refl

pub by_itself-Cast : (m : Bool) (p : Pos) (ty : Specifiers) (x : Expr) → by_itself m (v.Cast p ty x) ≡ None
unfolding by_itself
by_itself-Cast m p ty x = refl

pub by_itself-Chain : (m : Bool) (x : Expr) (ls : List Link) → by_itself m (v.Chain x ls) ≡ None
unfolding by_itself
by_itself-Chain m x ls = refl

pub by_itself-Choice : (m : Bool) (x : Expr) (p : Pos) (y z : Expr) → by_itself m (v.Choice x p y z) ≡ None
unfolding by_itself
by_itself-Choice m x p y z = refl

pub ruleset alone_rows = (by_itself-Number, by_itself-Place, by_itself-Bracket, by_itself-Minus, by_itself-Plus, by_itself-Complement, by_itself-Not, by_itself-Cast, by_itself-Chain, by_itself-Choice)
