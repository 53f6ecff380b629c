-- The types of expressions, as code sees them.
use Rattle.std.proofs.Common.{◌≡◌, ℕ, ◌+◌, ◌<◌, ◌≤◌, List, length, drop, get_or, refl, ap, ◌∙◌}
use Rattle.std.proofs.lemmas.List.{drop_more, drop_all}
use Rattle.sa_base.specs.declared.num.Num.{Num}
use Rattle.sa_base.specs.declared.num.Num.TheVariants.{I32}
use Rattle.sa_base.specs.declared.pos.Pos.{Pos}
use Rattle.sa_typed.specs.Arithmetic.{result_type, prefix_type}
use Rattle.sa_typed.specs.WellTyped.{type_of, links_type}
use Rattle.sa_typed.specs.declared.expr.Access.{Access}
use Rattle.sa_typed.specs.declared.expr.Expr.{Expr, Chain', Row_of-Link, end_of-Link, more_of-Link, items-the_row-Link, items_hidden-the_row-Link-2}
use Rattle.sa_typed.specs.declared.expr.Expr.TheVariants as v
use Rattle.sa_typed.specs.declared.expr.Link.{Link, out-Link}
use Rattle.sa_typed.specs.declared.expr.Prefix.{Prefix}
use Rattle.sa_ir.specs.Lists.{links_after}

pub links-more : (ls : List Link) (i : ℕ) (d : Link) (num : Num) → i < length ls →
    links_after num (drop i ls) ≡ links_after (result_type (out-Link (get_or ls i d)).op (out-Link (get_or ls i d)).num) (drop (i + 1) ls)
unfolding links_after
links-more ls i d num h = ap (links_after num) (drop_more ls i d h)

pub links-end : (ls : List Link) (i : ℕ) (num : Num) → length ls ≤ i → links_after num (drop i ls) ≡ num
unfolding links_after
links-end ls i num h = ap (links_after num) (drop_all i ls h)

links-row : (n : _) (r : Row_of-Link n) (num : Num) → links_type num r ≡ links_after num (items-the_row-Link n r)
unfolding links_type links_after
links-row n end_of-Link num = refl
links-row n (more_of-Link op q work b rest) num = links-row _ rest (result_type op work)

abbrev links_of : Expr → (n : _) × Row_of-Link n
links_of (Chain' n a m ls) = (_, ls)
links_of _ = (_, end_of-Link)

pub type_number : (n : ℕ) (num : Num) → type_of (v.Number n num) ≡ num
unfolding type_of
type_number n num = refl

pub type_read : (x : Access) (num : Num) → type_of (v.Read x num) ≡ num
unfolding type_of Rattle.sa_typed.specs.declared.expr.Expr.TheBlock.hidden-the_row-Step-0 denote.Hole.Carrier.hidden
type_read x num = refl

pub type_input : (k : ℕ) (num : Num) → type_of (v.Input k num) ≡ num
unfolding type_of
type_input k num = refl

pub type_prefix : (op : Prefix) (q : Pos) (num : Num) (a : Expr) → type_of (v.Prefix op q num a) ≡ prefix_type op num
unfolding type_of Rattle.sa_typed.specs.declared.expr.Expr.TheBlock.hidden-the_row-Expr-1 denote.Hole.Carrier.hidden
type_prefix op q num a = refl

pub type_cast : (q : Pos) (num : Num) (a : Expr) → type_of (v.Cast q num a) ≡ num
unfolding type_of Rattle.sa_typed.specs.declared.expr.Expr.TheBlock.hidden-the_row-Expr-1 denote.Hole.Carrier.hidden
type_cast q num a = refl

pub type_chain : (a : Expr) (ls : List Link) → type_of (v.Chain a ls) ≡ links_after (type_of a) ls
unfolding type_of Rattle.sa_typed.specs.declared.expr.Expr.TheBlock.hidden-the_row-Expr-1 denote.Hole.Carrier.hidden
type_chain a ls =
    let row = links_of (v.Chain a ls) in
    links-row row.0 row.1 (type_of a) ∙ ap (links_after (type_of a)) (items_hidden-the_row-Link-2 ls)

pub type_and : (a : Expr) (es : List Expr) → type_of (v.And a es) ≡ I32
unfolding type_of Rattle.sa_typed.specs.declared.expr.Expr.TheBlock.hidden-the_row-Expr-1 Rattle.sa_typed.specs.declared.expr.Expr.TheBlock.hidden-the_row-Expr-3 denote.Hole.Carrier.hidden
type_and a es = refl

pub type_or : (a : Expr) (es : List Expr) → type_of (v.Or a es) ≡ I32
unfolding type_of Rattle.sa_typed.specs.declared.expr.Expr.TheBlock.hidden-the_row-Expr-1 Rattle.sa_typed.specs.declared.expr.Expr.TheBlock.hidden-the_row-Expr-3 denote.Hole.Carrier.hidden
type_or a es = refl

pub type_choice : (a b c : Expr) (num : Num) → type_of (v.Choice a b c num) ≡ num
unfolding type_of Rattle.sa_typed.specs.declared.expr.Expr.TheBlock.hidden-the_row-Expr-1 denote.Hole.Carrier.hidden
type_choice a b c num = refl

pub ruleset of_types = (type_number, type_read, type_input, type_prefix, type_cast, type_chain, type_and, type_or, type_choice)
