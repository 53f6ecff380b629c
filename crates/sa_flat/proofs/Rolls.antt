-- The meanings of lowered expressions, places and nodes whose parts stand in lists.
use Rattle.std.proofs.Common.{◌≡◌, ℕ, List, [], ◌∷◌, refl, ap, ◌∙◌}
use Rattle.std.specs.Prelude.{pos}
use Rattle.sa_base.specs.declared.num.Num.{Num}
use Rattle.sa_base.specs.declared.num.Num.TheVariants.{I32}
use Rattle.sa_base.specs.declared.pos.Pos.{Pos}
use Rattle.sa_typed.specs.declared.expr.Prefix.{Prefix}
use Rattle.sa_ir.specs.declared.expr.IrExpr.{IrExpr, Number, Read', Input, Chain', And', Or', Row_of-IrExpr, end_of-IrExpr, more_of-IrExpr, items-the_row-IrExpr, items_hidden-the_row-IrExpr-3, Row_of-IrLink, end_of-IrLink, more_of-IrLink, items-the_row-IrLink, items_hidden-the_row-IrLink-2, Row_of-Row, end_of-Row, more_of-Row, items-the_row-Row, items_hidden-the_row-Row-0}
use Rattle.sa_ir.specs.declared.expr.IrExpr.TheVariants as e
use Rattle.sa_ir.specs.declared.expr.IrExpr.TheBlock.{hidden-the_row-IrExpr-1}
use Rattle.sa_ir.specs.declared.expr.IrLink.{IrLink}
use Rattle.sa_ir.specs.declared.expr.IrPlace.{IrPlace}
use Rattle.sa_ir.specs.declared.expr.Row.{Row}
use Rattle.sa_ir.specs.declared.expr.Row.TheVariants as r
use Rattle.sa_flat.specs.Domain.{Domain}
use Rattle.sa_flat.specs.Meanings.{Meaning, Target, Cells, literal, input, index, kept, at_cell, moved_by, read, operation, prefixed, cast, and_of, or_of, choice_of}
use Rattle.sa_flat.specs.Expressions.{meaning, operations, all_of, any_of, targets, reach, target, read_target}

abbrev links_in : IrExpr → (n : _) × Row_of-IrLink n
links_in (Chain' n a m ls) = (_, ls)
links_in _ = (_, end_of-IrLink)

abbrev operands_in : IrExpr → (n : _) × Row_of-IrExpr n
operands_in (And' n a m rest) = (_, rest)
operands_in (Or' n a m rest) = (_, rest)
operands_in _ = (_, end_of-IrExpr)

abbrev rows_in : IrExpr → (n : _) × Row_of-Row n
rows_in (Read' first n rows num) = (_, rows)
rows_in _ = (_, end_of-Row)

module _ (D : Domain) (x : Cells) where
  abbrev pub after_links : List IrLink → Meaning D.Env → Meaning D.Env
  after_links [] m = m
  after_links (l ∷ ls) m = after_links ls (operation D l.op l.pos l.num m (meaning D x l.operand))

  abbrev pub after_ands : List IrExpr → Meaning D.Env → Meaning D.Env
  after_ands [] m = m
  after_ands (b ∷ es) m = after_ands es (and_of D m (meaning D x b))

  abbrev pub after_ors : List IrExpr → Meaning D.Env → Meaning D.Env
  after_ors [] m = m
  after_ors (b ∷ es) m = after_ors es (or_of D m (meaning D x b))

  abbrev pub after_rows : List Row → Target D.Env → Target D.Env
  after_rows [] t = t
  after_rows (q ∷ qs) t = after_rows qs (moved_by D t (reach D x q))

  links_row : (n : _) (q : Row_of-IrLink n) (m : Meaning D.Env) → operations D x q m ≡ after_links (items-the_row-IrLink n q) m
  unfolding meaning
  links_row n end_of-IrLink m = refl
  links_row n (more_of-IrLink op q num b rest) m = links_row _ rest (operation D op q num m (meaning D x b))

  ands_row : (n : _) (q : Row_of-IrExpr n) (m : Meaning D.Env) → all_of D x q m ≡ after_ands (items-the_row-IrExpr n q) m
  unfolding meaning
  ands_row n end_of-IrExpr m = refl
  ands_row n (more_of-IrExpr b rest) m = ands_row _ rest (and_of D m (meaning D x b))

  ors_row : (n : _) (q : Row_of-IrExpr n) (m : Meaning D.Env) → any_of D x q m ≡ after_ors (items-the_row-IrExpr n q) m
  unfolding meaning
  ors_row n end_of-IrExpr m = refl
  ors_row n (more_of-IrExpr b rest) m = ors_row _ rest (or_of D m (meaning D x b))

  targets_row : (n : _) (q : Row_of-Row n) (t : Target D.Env) → targets D x q t ≡ after_rows (items-the_row-Row n q) t
  unfolding meaning
  targets_row n end_of-Row t = refl
  targets_row n (more_of-Row q rest) t = targets_row _ rest (moved_by D t (reach D x q))

  -- ---- by form
  pub number_meaning : (n : ℕ) (num : Num) → meaning D x (e.Number n num) ≡ literal D (pos n)
  unfolding meaning
  number_meaning n num = refl

  pub input_meaning : (k : ℕ) (num : Num) → meaning D x (e.Input k num) ≡ input D x k
  unfolding meaning
  input_meaning k num = refl

  pub prefix_meaning : (op : Prefix) (q : Pos) (num : Num) (a : IrExpr) → meaning D x (e.Prefix op q num a) ≡ prefixed D op q num (meaning D x a)
  unfolding meaning hidden-the_row-IrExpr-1 denote.Hole.Carrier.hidden
  prefix_meaning op q num a = refl

  pub cast_meaning : (q : Pos) (num : Num) (a : IrExpr) → meaning D x (e.Cast q num a) ≡ cast D q num (meaning D x a)
  unfolding meaning hidden-the_row-IrExpr-1 denote.Hole.Carrier.hidden
  cast_meaning q num a = refl

  pub choice_meaning : (a b c : IrExpr) (num : Num) → meaning D x (e.Choice a b c num) ≡ choice_of D num (meaning D x a) (meaning D x b) (meaning D x c)
  unfolding meaning hidden-the_row-IrExpr-1 denote.Hole.Carrier.hidden
  choice_meaning a b c num = refl

  pub chain_meaning : (a : IrExpr) (ls : List IrLink) → meaning D x (e.Chain a ls) ≡ after_links ls (meaning D x a)
  unfolding meaning hidden-the_row-IrExpr-1 denote.Hole.Carrier.hidden
  chain_meaning a ls =
      let row = links_in (e.Chain a ls) in
      links_row row.0 row.1 (meaning D x a) ∙ ap (λ (ls : List IrLink). after_links ls (meaning D x a)) (items_hidden-the_row-IrLink-2 ls)

  pub and_meaning : (a : IrExpr) (es : List IrExpr) → meaning D x (e.And a es) ≡ after_ands es (meaning D x a)
  unfolding meaning hidden-the_row-IrExpr-1 denote.Hole.Carrier.hidden
  and_meaning a es =
      let row = operands_in (e.And a es) in
      ands_row row.0 row.1 (meaning D x a) ∙ ap (λ (es : List IrExpr). after_ands es (meaning D x a)) (items_hidden-the_row-IrExpr-3 es)

  pub or_meaning : (a : IrExpr) (es : List IrExpr) → meaning D x (e.Or a es) ≡ after_ors es (meaning D x a)
  unfolding meaning hidden-the_row-IrExpr-1 denote.Hole.Carrier.hidden
  or_meaning a es =
      let row = operands_in (e.Or a es) in
      ors_row row.0 row.1 (meaning D x a) ∙ ap (λ (es : List IrExpr). after_ors es (meaning D x a)) (items_hidden-the_row-IrExpr-3 es)

  abbrev pub target_of : IrPlace → Target D.Env
  target_of a = after_rows a.rows (at_cell D a.first)

  pub read_meaning : (a : IrPlace) (num : Num) → meaning D x (e.Read a num) ≡ read D x (target_of a)
  unfolding meaning
  read_meaning a num =
      let row = rows_in (e.Read a num) in
      ap (λ (t : Target D.Env). read D x t) (targets_row row.0 row.1 (at_cell D a.first) ∙ ap (λ (qs : List Row). after_rows qs (at_cell D a.first)) (items_hidden-the_row-Row-0 a.rows))

  pub place_target : (a : IrPlace) → target D x a ≡ target_of a
  unfolding meaning read_target
  place_target a =
      let row = rows_in (e.Read a I32) in
      targets_row row.0 row.1 (at_cell D a.first) ∙ ap (λ (qs : List Row). after_rows qs (at_cell D a.first)) (items_hidden-the_row-Row-0 a.rows)

  pub at_reach : (q : Pos) (size stride : ℕ) (a : IrExpr) → reach D x (r.At q size stride a) ≡ index D q size stride (meaning D x a)
  unfolding meaning hidden-the_row-IrExpr-1 denote.Hole.Carrier.hidden
  at_reach q size stride a = refl

  pub kept_reach : (c size stride : ℕ) → reach D x (r.Kept c size stride) ≡ kept D c size stride
  unfolding meaning
  kept_reach c size stride = refl
