-- Constant expressions and the rows of places, as code sees them.
use Rattle.std.proofs.Common.{◌≡◌, ℕ, ◌+◌, ◌<◌, ◌≤◌, Bool, true, false, ◌&&◌, List, [], ◌∷◌, length, drop, get_or, refl, sym, ap, ◌∙◌, if◌then◌else◌}
use Rattle.std.proofs.lemmas.List.{drop_more, drop_all}
use Rattle.sa_base.specs.declared.num.Num.{Num}
use Rattle.sa_base.specs.declared.pos.Pos.{Pos}
use Rattle.sa_typed.specs.declared.expr.Prefix.{Prefix}
use Rattle.sa_ir.specs.declared.expr.IrExpr.{IrExpr, Read', Chain', And', Or', Row_of-IrExpr, end_of-IrExpr, more_of-IrExpr, items-the_row-IrExpr, items_hidden-the_row-IrExpr-3, Row_of-IrLink, end_of-IrLink, more_of-IrLink, items-the_row-IrLink, items_hidden-the_row-IrLink-2, Row_of-Row, end_of-Row, more_of-Row, items-the_row-Row}
use Rattle.sa_ir.specs.declared.expr.IrExpr.TheVariants as e
use Rattle.sa_ir.specs.declared.expr.IrExpr.TheBlock.{hidden-the_row-IrExpr-1}
use Rattle.sa_ir.specs.declared.expr.IrLink.{IrLink}
use Rattle.sa_ir.specs.declared.expr.IrPlace.{IrPlace}
use Rattle.sa_ir.specs.declared.expr.Row.{Row, At', Kept}
use Rattle.sa_ir.specs.declared.expr.Row.TheVariants as r
use Rattle.std.specs.List.{flat_map}
use Rattle.std.specs.Prelude.{◌==◌}
use Rattle.sa_ir.specs.Occurrences.{is_constant, all_constant, are_constant, every, led, rows_cells}
use Rattle.sa_lower.specs.Rows.{all_are_constant, links_are_constant, row_leads, rows_lead}

abbrev pub links_in : IrExpr → (n : _) × Row_of-IrLink n
links_in (Chain' n a m ls) = (_, ls)
links_in _ = (_, end_of-IrLink)

abbrev pub operands_in : IrExpr → (n : _) × Row_of-IrExpr n
operands_in (And' n a m rest) = (_, rest)
operands_in (Or' n a m rest) = (_, rest)
operands_in _ = (_, end_of-IrExpr)

abbrev pub rows_in : IrExpr → (n : _) × Row_of-Row n
rows_in (Read' first n rows num) = (_, rows)
rows_in _ = (_, end_of-Row)

exprs_row : (n : _) (q : Row_of-IrExpr n) → all_constant q ≡ all_are_constant (items-the_row-IrExpr n q)
unfolding is_constant all_are_constant
exprs_row n end_of-IrExpr = refl
exprs_row n (more_of-IrExpr b rest) = ap (λ (t : Bool). is_constant b && t) (exprs_row _ rest)

links_row : (n : _) (q : Row_of-IrLink n) → are_constant q ≡ links_are_constant (items-the_row-IrLink n q)
unfolding is_constant links_are_constant
links_row n end_of-IrLink = refl
links_row n (more_of-IrLink op q num b rest) = ap (λ (t : Bool). is_constant b && t) (links_row _ rest)

-- ---- by form
pub constant_number : (n : ℕ) (num : Num) → is_constant (e.Number n num) ≡ true
unfolding is_constant
constant_number n num = refl

pub constant_read : (x : IrPlace) (num : Num) → is_constant (e.Read x num) ≡ false
unfolding is_constant
constant_read x num = refl

pub constant_input : (k : ℕ) (num : Num) → is_constant (e.Input k num) ≡ false
unfolding is_constant
constant_input k num = refl

pub constant_prefix : (op : Prefix) (q : Pos) (num : Num) (a : IrExpr) → is_constant (e.Prefix op q num a) ≡ is_constant a
unfolding is_constant hidden-the_row-IrExpr-1 denote.Hole.Carrier.hidden
constant_prefix op q num a = refl

pub constant_cast : (q : Pos) (num : Num) (a : IrExpr) → is_constant (e.Cast q num a) ≡ is_constant a
unfolding is_constant hidden-the_row-IrExpr-1 denote.Hole.Carrier.hidden
constant_cast q num a = refl

pub constant_chain : (a : IrExpr) (ls : List IrLink) → is_constant (e.Chain a ls) ≡ (is_constant a && links_are_constant ls)
unfolding is_constant hidden-the_row-IrExpr-1 denote.Hole.Carrier.hidden
constant_chain a ls =
    let row = links_in (e.Chain a ls) in
    ap (λ (t : Bool). is_constant a && t) (links_row row.0 row.1 ∙ ap links_are_constant (items_hidden-the_row-IrLink-2 ls))

pub constant_and : (a : IrExpr) (es : List IrExpr) → is_constant (e.And a es) ≡ (is_constant a && all_are_constant es)
unfolding is_constant hidden-the_row-IrExpr-1 denote.Hole.Carrier.hidden
constant_and a es =
    let row = operands_in (e.And a es) in
    ap (λ (t : Bool). is_constant a && t) (exprs_row row.0 row.1 ∙ ap all_are_constant (items_hidden-the_row-IrExpr-3 es))

pub constant_or : (a : IrExpr) (es : List IrExpr) → is_constant (e.Or a es) ≡ (is_constant a && all_are_constant es)
unfolding is_constant hidden-the_row-IrExpr-1 denote.Hole.Carrier.hidden
constant_or a es =
    let row = operands_in (e.Or a es) in
    ap (λ (t : Bool). is_constant a && t) (exprs_row row.0 row.1 ∙ ap all_are_constant (items_hidden-the_row-IrExpr-3 es))

pub constant_choice : (a b c : IrExpr) (num : Num) → is_constant (e.Choice a b c num) ≡ (is_constant a && (is_constant b && is_constant c))
unfolding is_constant hidden-the_row-IrExpr-1 denote.Hole.Carrier.hidden
constant_choice a b c num = refl

pub ruleset of_constants = (constant_number, constant_read, constant_input, constant_prefix, constant_cast, constant_chain, constant_and, constant_or, constant_choice)

-- ---- lists, one item on
next : {A : Type 0} (xs : List A) (i : ℕ) (x : A) → i < length xs → x ≡ get_or xs i x → drop i xs ≡ x ∷ drop (i + 1) xs
next xs i x h e = drop_more xs i x h ∙ ap (λ (y : _). y ∷ drop (i + 1) xs) (sym e)

module _ (es : List IrExpr) (i : ℕ) (b : IrExpr) (here : i < length es) (is : b ≡ get_or es i b) where
  operands_from : all_are_constant es ≡ all_are_constant (drop i es) → all_are_constant es ≡ (is_constant b && all_are_constant (drop (i + 1) es))
  unfolding all_are_constant
  operands_from h = h ∙ ap all_are_constant (next es i b here is)

  pub operand_more : all_are_constant es ≡ all_are_constant (drop i es) → is_constant b ≡ true → all_are_constant es ≡ all_are_constant (drop (i + 1) es)
  operand_more h t = operands_from h ∙ ap (λ (x : Bool). x && all_are_constant (drop (i + 1) es)) t

  pub operand_stop : all_are_constant es ≡ all_are_constant (drop i es) → is_constant b ≡ false → all_are_constant es ≡ false
  operand_stop h t = operands_from h ∙ ap (λ (x : Bool). x && all_are_constant (drop (i + 1) es)) t

pub operand_end : (es : List IrExpr) (i : ℕ) → length es ≤ i → all_are_constant es ≡ all_are_constant (drop i es) → all_are_constant es ≡ true
unfolding all_are_constant
operand_end es i h e = e ∙ ap all_are_constant (drop_all i es h)

pub ruleset of_all = (operand_more, operand_stop, operand_end)

module _ (ls : List IrLink) (i : ℕ) (l : IrLink) (here : i < length ls) (is : l ≡ get_or ls i l) where
  links_from : links_are_constant ls ≡ links_are_constant (drop i ls) → links_are_constant ls ≡ (is_constant l.operand && links_are_constant (drop (i + 1) ls))
  unfolding links_are_constant
  links_from h = h ∙ ap links_are_constant (next ls i l here is)

  pub link_more : links_are_constant ls ≡ links_are_constant (drop i ls) → is_constant l.operand ≡ true → links_are_constant ls ≡ links_are_constant (drop (i + 1) ls)
  link_more h t = links_from h ∙ ap (λ (x : Bool). x && links_are_constant (drop (i + 1) ls)) t

  pub link_stop : links_are_constant ls ≡ links_are_constant (drop i ls) → is_constant l.operand ≡ false → links_are_constant ls ≡ false
  link_stop h t = links_from h ∙ ap (λ (x : Bool). x && links_are_constant (drop (i + 1) ls)) t

pub link_end : (ls : List IrLink) (i : ℕ) → length ls ≤ i → links_are_constant ls ≡ links_are_constant (drop i ls) → links_are_constant ls ≡ true
unfolding links_are_constant
link_end ls i h e = e ∙ ap links_are_constant (drop_all i ls h)

pub ruleset of_links = (link_more, link_stop, link_end)

-- ---- rows
pub at_leads : (q : Pos) (n stride : ℕ) (a : IrExpr) (cs : List ℕ) → row_leads (r.At q n stride a) cs ≡ (if is_constant a then [] else led n stride cs)
unfolding row_leads hidden-the_row-IrExpr-1 denote.Hole.Carrier.hidden
at_leads q n stride a cs = refl

pub kept_leads : (c n stride : ℕ) (cs : List ℕ) → row_leads (r.Kept c n stride) cs ≡ led n stride cs
unfolding row_leads
kept_leads c n stride cs = refl

pub ruleset of_row = (at_leads, kept_leads)

pub lead_row : (n : _) (q : Row_of-Row n) (cs : List ℕ) → rows_cells q cs ≡ rows_lead (items-the_row-Row n q) cs
unfolding rows_cells rows_lead row_leads
lead_row n end_of-Row cs = refl
lead_row n (more_of-Row (At' q m stride k (more_of-IrExpr a end_of-IrExpr)) rest) cs = lead_row _ rest (if is_constant a then [] else led m stride cs)
lead_row n (more_of-Row (Kept c m stride) rest) cs = lead_row _ rest (led m stride cs)

pub lead_more : (rs : List Row) (i : ℕ) (d : Row) (cs new whole : List ℕ) → i < length rs → new ≡ row_leads (get_or rs i d) cs →
    rows_lead (drop i rs) cs ≡ whole → rows_lead (drop (i + 1) rs) new ≡ whole
unfolding rows_lead
lead_more rs i d cs new whole h e left = ap (rows_lead (drop (i + 1) rs)) e ∙ sym (ap (λ (l : List Row). rows_lead l cs) (drop_more rs i d h)) ∙ left

pub lead_end : (rs : List Row) (i : ℕ) (cs whole : List ℕ) → length rs ≤ i → rows_lead (drop i rs) cs ≡ whole → cs ≡ whole
unfolding rows_lead
lead_end rs i cs whole h left = sym (ap (λ (l : List Row). rows_lead l cs) (drop_all i rs h)) ∙ left

pub led_same : (n stride : ℕ) (cs : List ℕ) → stride ≡ 0 → cs ≡ led n stride cs
unfolding led
led_same n stride cs h = sym (ap (λ (s : ℕ). led n s cs) h)

led_other : (n stride : ℕ) (cs : List ℕ) (t : Bool) → (stride == 0) ≡ t → t ≡ false → flat_map (every n stride) cs ≡ led n stride cs
unfolding led
led_other n stride cs t e h = sym (ap (λ (b : Bool). if b then cs else flat_map (every n stride) cs) (e ∙ h))

pub led_further : (n stride : ℕ) (cs : List ℕ) → (stride == 0) ≡ false → flat_map (every n stride) cs ≡ led n stride cs
led_further n stride cs h = led_other n stride cs _ refl h
