-- Each form of an expression lowered, and what its parts owe, as code sees them.
use Rattle.std.proofs.Common.{◌≡◌, ℕ, ◌+◌, ◌*◌, ◌<◌, ◌≤◌, true, List, [], ◌∷◌, ◌++◌, map, length, drop, get_or, refl, sym, ap, subst, ◌∙◌, arith, append-nil, append_assoc}
use Rattle.std.proofs.lemmas.List.{drop_more, drop_all}
use Rattle.std.proofs.lemmas.List.Elements.{All-nil, All-cons}
use Rattle.std.specs.List.{All}
use Rattle.std.specs.Prelude.{Option, Some, None}
use Rattle.sa_base.specs.declared.num.Num.{Num}
use Rattle.sa_base.specs.declared.num.Num.TheVariants.{I32}
use Rattle.sa_base.specs.declared.pos.Pos.{Pos}
use Rattle.sa_typed.specs.Constants.{is_constant}
use Rattle.sa_typed.specs.Layouts.{Layout, layout_of}
use Rattle.sa_typed.specs.Links.{HasType}
use Rattle.sa_typed.specs.declared.expr.Access.{Access, out-Access}
use Rattle.sa_typed.specs.declared.expr.Expr.{Expr, Read', Chain', And', Or', end_of-Expr, more_of-Expr, Row_of-Expr, items-the_row-Expr, items_hidden-the_row-Expr-3, Row_of-Link, end_of-Link, more_of-Link, items-the_row-Link, items_hidden-the_row-Link-2, Row_of-Step, end_of-Step, more_of-Step, items-the_row-Step, items_hidden-the_row-Step-0}
use Rattle.sa_typed.specs.declared.expr.Expr.TheVariants as v
use Rattle.sa_typed.specs.declared.expr.Link.{Link}
use Rattle.sa_typed.specs.declared.expr.Prefix.{Prefix}
use Rattle.sa_typed.specs.declared.expr.Step.{Step, At', Field}
use Rattle.sa_typed.specs.declared.expr.Step.TheVariants as step
use Rattle.sa_typed.specs.declared.program.Program.{Program}
use Rattle.sa_ir.specs.declared.expr.IrExpr.{IrExpr}
use Rattle.sa_ir.specs.declared.expr.IrExpr.TheVariants as ir
use Rattle.sa_ir.specs.declared.expr.IrLink.{IrLink}
use Rattle.sa_ir.specs.declared.expr.IrPlace.{IrPlace}
use Rattle.sa_ir.specs.declared.expr.Row.{Row}
use Rattle.sa_ir.specs.declared.expr.Row.TheVariants as rows
use Rattle.sa_ir.specs.declared.frame.Target.{Target}
use Rattle.sa_ir.specs.declared.places.Cursor.{Cursor}
use Rattle.sa_ir.specs.declared.places.Stepped.{Stepped}
use Rattle.sa_ir.specs.Cursors.{IsCursor, IsStep, IsStepped}
use Rattle.sa_ir.specs.Frames.{Frame}
use Rattle.sa_ir.specs.Sizes.{capped}
use Rattle.sa_ir.proofs.SizeLemmas.{capped-right}
use Rattle.sa_ir.specs.Indices.{AreIndicesTyped, AllTyped, LinksTyped, StepsTyped, IsStepTyped, IsLinkTyped, link_lowered, step_cells, step_layout, step_rows, list_cells, list_rows}
use Rattle.sa_ir.specs.Names.{inner, at_field}
use Rattle.sa_ir.specs.Places.{stride_of, cells_to, folded, moved_by, row_for, kept_row, lowered, all_lowered, lowered_links, steps_cells, steps_rows, read_lowered, place}

-- ---- rows as lists
abbrev links_of : Expr → (n : _) × Row_of-Link n
links_of (Chain' n a m ls) = (_, ls)
links_of _ = (_, end_of-Link)

abbrev steps_of : Expr → (n : _) × Row_of-Step n
steps_of (Read' x n ss num) = (_, ss)
steps_of _ = (_, end_of-Step)

abbrev rest_of : Expr → (n : _) × Row_of-Expr n
rest_of (And' n a m r) = (_, r)
rest_of (Or' n a m r) = (_, r)
rest_of _ = (_, end_of-Expr)

exprs-row : (p : Program) (fr : Frame) (n : _) (r : Row_of-Expr n) → all_lowered p fr r ≡ map (lowered p fr) (items-the_row-Expr n r)
unfolding lowered
exprs-row p fr n end_of-Expr = refl
exprs-row p fr n (more_of-Expr b rest) = ap (λ (l : List IrExpr). lowered p fr b ∷ l) (exprs-row p fr _ rest)

links-row : (p : Program) (fr : Frame) (n : _) (r : Row_of-Link n) → lowered_links p fr r ≡ map (link_lowered p fr) (items-the_row-Link n r)
unfolding lowered
links-row p fr n end_of-Link = refl
links-row p fr n (more_of-Link op q num b rest) = ap (λ (l : List IrLink). record { op = op; pos = q; num = num; operand = lowered p fr b } ∷ l) (links-row p fr _ rest)

cells-row : (l : Layout) (n : _) (r : Row_of-Step n) → steps_cells l r ≡ list_cells l (items-the_row-Step n r)
unfolding lowered list_cells step_cells step_layout
cells-row l n end_of-Step = refl
cells-row l n (more_of-Step (At' q m k (more_of-Expr a end_of-Expr)) rest) = ap (λ (c : ℕ). moved_by (folded m a) (stride_of l) + c) (cells-row (inner l) _ rest)
cells-row l n (more_of-Step (Field f) rest) = ap (λ (c : ℕ). cells_to l f + c) (cells-row (at_field l f) _ rest)

rows-row : (p : Program) (fr : Frame) (l : Layout) (n : _) (r : Row_of-Step n) → steps_rows p fr l r ≡ list_rows p fr l (items-the_row-Step n r)
unfolding lowered list_rows step_rows step_layout
rows-row p fr l n end_of-Step = refl
rows-row p fr l n (more_of-Step (At' q m k (more_of-Expr a end_of-Expr)) rest) = ap (λ (rs : List Row). row_for (folded m a) (rows.At q m (stride_of l) (lowered p fr a)) ++ rs) (rows-row p fr (inner l) _ rest)
rows-row p fr l n (more_of-Step (Field f) rest) = rows-row p fr (at_field l f) _ rest

-- ---- forms
pub low_number : (p : Program) (fr : Frame) (n : ℕ) (num : Num) → lowered p fr (v.Number n num) ≡ ir.Number n num
unfolding lowered
low_number p fr n num = refl

pub low_input : (p : Program) (fr : Frame) (k : ℕ) (num : Num) → lowered p fr (v.Input k num) ≡ ir.Input k num
unfolding lowered
low_input p fr k num = refl

pub low_read : (p : Program) (fr : Frame) (x : Access) (num : Num) → lowered p fr (v.Read x num) ≡ ir.Read (place p fr x) num
unfolding lowered read_lowered Rattle.sa_typed.specs.declared.expr.Expr.TheBlock.hidden-the_row-Step-0 denote.Hole.Carrier.hidden
low_read p fr x num = refl

pub low_prefix : (p : Program) (fr : Frame) (op : Prefix) (q : Pos) (num : Num) (a : Expr) → lowered p fr (v.Prefix op q num a) ≡ ir.Prefix op q num (lowered p fr a)
unfolding lowered Rattle.sa_typed.specs.declared.expr.Expr.TheBlock.hidden-the_row-Expr-1 denote.Hole.Carrier.hidden
low_prefix p fr op q num a = refl

pub low_cast : (p : Program) (fr : Frame) (q : Pos) (num : Num) (a : Expr) → lowered p fr (v.Cast q num a) ≡ ir.Cast q num (lowered p fr a)
unfolding lowered Rattle.sa_typed.specs.declared.expr.Expr.TheBlock.hidden-the_row-Expr-1 denote.Hole.Carrier.hidden
low_cast p fr q num a = refl

pub low_chain : (p : Program) (fr : Frame) (a : Expr) (ls : List Link) → lowered p fr (v.Chain a ls) ≡ ir.Chain (lowered p fr a) (map (link_lowered p fr) ls)
unfolding lowered Rattle.sa_typed.specs.declared.expr.Expr.TheBlock.hidden-the_row-Expr-1 denote.Hole.Carrier.hidden
low_chain p fr a ls =
    let row = links_of (v.Chain a ls) in
    ap (ir.Chain (lowered p fr a)) (links-row p fr row.0 row.1 ∙ ap (map (link_lowered p fr)) (items_hidden-the_row-Link-2 ls))

pub low_and : (p : Program) (fr : Frame) (a : Expr) (es : List Expr) → lowered p fr (v.And a es) ≡ ir.And (lowered p fr a) (map (lowered p fr) es)
unfolding lowered Rattle.sa_typed.specs.declared.expr.Expr.TheBlock.hidden-the_row-Expr-1 denote.Hole.Carrier.hidden
low_and p fr a es =
    let row = rest_of (v.And a es) in
    ap (ir.And (lowered p fr a)) (exprs-row p fr row.0 row.1 ∙ ap (map (lowered p fr)) (items_hidden-the_row-Expr-3 es))

pub low_or : (p : Program) (fr : Frame) (a : Expr) (es : List Expr) → lowered p fr (v.Or a es) ≡ ir.Or (lowered p fr a) (map (lowered p fr) es)
unfolding lowered Rattle.sa_typed.specs.declared.expr.Expr.TheBlock.hidden-the_row-Expr-1 denote.Hole.Carrier.hidden
low_or p fr a es =
    let row = rest_of (v.Or a es) in
    ap (ir.Or (lowered p fr a)) (exprs-row p fr row.0 row.1 ∙ ap (map (lowered p fr)) (items_hidden-the_row-Expr-3 es))

pub low_choice : (p : Program) (fr : Frame) (a b c : Expr) (num : Num) → lowered p fr (v.Choice a b c num) ≡ ir.Choice (lowered p fr a) (lowered p fr b) (lowered p fr c) num
unfolding lowered Rattle.sa_typed.specs.declared.expr.Expr.TheBlock.hidden-the_row-Expr-1 denote.Hole.Carrier.hidden
low_choice p fr a b c num = refl

pub place-list : (p : Program) (fr : Frame) (x : Access) → place p fr x ≡ record {
  first = (fr.base (out-Access x).var).first + list_cells (layout_of p (out-Access x).var) (out-Access x).steps;
  rows = map kept_row (fr.base (out-Access x).var).rows ++ list_rows p fr (layout_of p (out-Access x).var) (out-Access x).steps;
}
unfolding read_lowered Rattle.sa_typed.specs.declared.expr.Expr.TheBlock.hidden-the_row-Step-0 denote.Hole.Carrier.hidden
place-list p fr x =
    let row = steps_of (v.Read x I32) in
    let u = (out-Access x).var in
    let l = layout_of p u in
    ap (λ (c : ℕ). record { first = (fr.base u).first + c; rows = map kept_row (fr.base u).rows ++ steps_rows p fr l row.1 }) (cells-row l row.0 row.1 ∙ ap (list_cells l) (items_hidden-the_row-Step-0 (out-Access x).steps))
    ∙ ap (λ (rs : List Row). record { first = (fr.base u).first + list_cells l (out-Access x).steps; rows = map kept_row (fr.base u).rows ++ rs }) (rows-row p fr l row.0 row.1 ∙ ap (list_rows p fr l) (items_hidden-the_row-Step-0 (out-Access x).steps))

-- ---- what parts owe
all-exprs : (n : _) (r : Row_of-Expr n) → AllTyped r → All AreIndicesTyped (items-the_row-Expr n r)
unfolding AreIndicesTyped
all-exprs n end_of-Expr h = All-nil AreIndicesTyped
all-exprs n (more_of-Expr b rest) h = All-cons AreIndicesTyped b (items-the_row-Expr _ rest) h.0 (all-exprs _ rest h.1)

all-links : (n : _) (r : Row_of-Link n) → LinksTyped r → All IsLinkTyped (items-the_row-Link n r)
unfolding AreIndicesTyped
all-links n end_of-Link h = All-nil IsLinkTyped
all-links n (more_of-Link op q num b rest) h = All-cons IsLinkTyped _ (items-the_row-Link _ rest) h.0 (all-links _ rest h.1)

all-steps : (n : _) (r : Row_of-Step n) → StepsTyped r → All IsStepTyped (items-the_row-Step n r)
unfolding AreIndicesTyped
all-steps n end_of-Step h = All-nil IsStepTyped
all-steps n (more_of-Step s rest) h = All-cons IsStepTyped s (items-the_row-Step _ rest) h.0 (all-steps _ rest h.1)

of_read : (x : Access) (num : Num) → AreIndicesTyped (v.Read x num) → All IsStepTyped (out-Access x).steps
unfolding AreIndicesTyped Rattle.sa_typed.specs.declared.expr.Expr.TheBlock.hidden-the_row-Step-0 denote.Hole.Carrier.hidden
of_read x num h = let row = steps_of (v.Read x num) in subst (All IsStepTyped) (items_hidden-the_row-Step-0 (out-Access x).steps) (all-steps row.0 row.1 h)

of_prefix : (op : Prefix) (q : Pos) (num : Num) (a : Expr) → AreIndicesTyped (v.Prefix op q num a) → AreIndicesTyped a
unfolding AreIndicesTyped Rattle.sa_typed.specs.declared.expr.Expr.TheBlock.hidden-the_row-Expr-1 denote.Hole.Carrier.hidden
of_prefix op q num a h = h

of_cast : (q : Pos) (num : Num) (a : Expr) → AreIndicesTyped (v.Cast q num a) → AreIndicesTyped a
unfolding AreIndicesTyped Rattle.sa_typed.specs.declared.expr.Expr.TheBlock.hidden-the_row-Expr-1 denote.Hole.Carrier.hidden
of_cast q num a h = h

of_chain : (a : Expr) (ls : List Link) → AreIndicesTyped (v.Chain a ls) → AreIndicesTyped a × All IsLinkTyped ls
unfolding AreIndicesTyped Rattle.sa_typed.specs.declared.expr.Expr.TheBlock.hidden-the_row-Expr-1 denote.Hole.Carrier.hidden
of_chain a ls h = let row = links_of (v.Chain a ls) in (h.0, subst (All IsLinkTyped) (items_hidden-the_row-Link-2 ls) (all-links row.0 row.1 h.1))

of_and : (a : Expr) (es : List Expr) → AreIndicesTyped (v.And a es) → AreIndicesTyped a × All AreIndicesTyped es
unfolding AreIndicesTyped Rattle.sa_typed.specs.declared.expr.Expr.TheBlock.hidden-the_row-Expr-1 denote.Hole.Carrier.hidden
of_and a es h = let row = rest_of (v.And a es) in (h.0, subst (All AreIndicesTyped) (items_hidden-the_row-Expr-3 es) (all-exprs row.0 row.1 h.1))

of_or : (a : Expr) (es : List Expr) → AreIndicesTyped (v.Or a es) → AreIndicesTyped a × All AreIndicesTyped es
unfolding AreIndicesTyped Rattle.sa_typed.specs.declared.expr.Expr.TheBlock.hidden-the_row-Expr-1 denote.Hole.Carrier.hidden
of_or a es h = let row = rest_of (v.Or a es) in (h.0, subst (All AreIndicesTyped) (items_hidden-the_row-Expr-3 es) (all-exprs row.0 row.1 h.1))

of_choice : (a b c : Expr) (num : Num) → AreIndicesTyped (v.Choice a b c num) → AreIndicesTyped a × AreIndicesTyped b × AreIndicesTyped c
unfolding AreIndicesTyped Rattle.sa_typed.specs.declared.expr.Expr.TheBlock.hidden-the_row-Expr-1 denote.Hole.Carrier.hidden
of_choice a b c num h = h

pub has_read : (e : Expr) (x : Access) (num : Num) → e ≡ v.Read x num → AreIndicesTyped e → All IsStepTyped (out-Access x).steps
has_read e x num is h = of_read x num (subst AreIndicesTyped is h)

pub has_prefix : (e : Expr) (op : Prefix) (q : Pos) (num : Num) (a : Expr) → e ≡ v.Prefix op q num a → AreIndicesTyped e → AreIndicesTyped a
has_prefix e op q num a is h = of_prefix op q num a (subst AreIndicesTyped is h)

pub has_cast : (e : Expr) (q : Pos) (num : Num) (a : Expr) → e ≡ v.Cast q num a → AreIndicesTyped e → AreIndicesTyped a
has_cast e q num a is h = of_cast q num a (subst AreIndicesTyped is h)

pub has_first : (e a : Expr) (ls : List Link) → e ≡ v.Chain a ls → AreIndicesTyped e → AreIndicesTyped a
has_first e a ls is h = (of_chain a ls (subst AreIndicesTyped is h)).0

pub has_links : (e a : Expr) (ls : List Link) → e ≡ v.Chain a ls → AreIndicesTyped e → All IsLinkTyped ls
has_links e a ls is h = (of_chain a ls (subst AreIndicesTyped is h)).1

pub has_and : (e a : Expr) (es : List Expr) → e ≡ v.And a es → AreIndicesTyped e → AreIndicesTyped a
has_and e a es is h = (of_and a es (subst AreIndicesTyped is h)).0

pub has_ands : (e a : Expr) (es : List Expr) → e ≡ v.And a es → AreIndicesTyped e → All AreIndicesTyped es
has_ands e a es is h = (of_and a es (subst AreIndicesTyped is h)).1

pub has_or : (e a : Expr) (es : List Expr) → e ≡ v.Or a es → AreIndicesTyped e → AreIndicesTyped a
has_or e a es is h = (of_or a es (subst AreIndicesTyped is h)).0

pub has_ors : (e a : Expr) (es : List Expr) → e ≡ v.Or a es → AreIndicesTyped e → All AreIndicesTyped es
has_ors e a es is h = (of_or a es (subst AreIndicesTyped is h)).1

pub has_test : (e a b c : Expr) (num : Num) → e ≡ v.Choice a b c num → AreIndicesTyped e → AreIndicesTyped a
has_test e a b c num is h = (of_choice a b c num (subst AreIndicesTyped is h)).0

pub has_second : (e a b c : Expr) (num : Num) → e ≡ v.Choice a b c num → AreIndicesTyped e → AreIndicesTyped b
has_second e a b c num is h = (of_choice a b c num (subst AreIndicesTyped is h)).1

pub has_third : (e a b c : Expr) (num : Num) → e ≡ v.Choice a b c num → AreIndicesTyped e → AreIndicesTyped c
has_third e a b c num is h = (of_choice a b c num (subst AreIndicesTyped is h)).2

-- ---- steps
of_at : (q : Pos) (n : ℕ) (a : Expr) → IsStepTyped (step.At q n a) → (is_constant a ≡ true → HasType a) × AreIndicesTyped a
unfolding AreIndicesTyped Rattle.sa_typed.specs.declared.expr.Expr.TheBlock.hidden-the_row-Expr-1 denote.Hole.Carrier.hidden
of_at q n a h = h

pub has_constant : (s : Step) (q : Pos) (n : ℕ) (a : Expr) → s ≡ step.At q n a → IsStepTyped s → is_constant a ≡ true → HasType a
has_constant s q n a is h = (of_at q n a (subst IsStepTyped is h)).0

pub has_index : (s : Step) (q : Pos) (n : ℕ) (a : Expr) → s ≡ step.At q n a → IsStepTyped s → AreIndicesTyped a
has_index s q n a is h = (of_at q n a (subst IsStepTyped is h)).1

pub at_cells : (l : Layout) (q : Pos) (n : ℕ) (a : Expr) → step_cells l (step.At q n a) ≡ moved_by (folded n a) (stride_of l)
unfolding step_cells Rattle.sa_typed.specs.declared.expr.Expr.TheBlock.hidden-the_row-Expr-1 denote.Hole.Carrier.hidden
at_cells l q n a = refl

pub at_layout : (l : Layout) (q : Pos) (n : ℕ) (a : Expr) → step_layout l (step.At q n a) ≡ inner l
unfolding step_layout Rattle.sa_typed.specs.declared.expr.Expr.TheBlock.hidden-the_row-Expr-1 denote.Hole.Carrier.hidden
at_layout l q n a = refl

pub at_rows : (p : Program) (fr : Frame) (l : Layout) (q : Pos) (n : ℕ) (a : Expr) → step_rows p fr l (step.At q n a) ≡ row_for (folded n a) (rows.At q n (stride_of l) (lowered p fr a))
unfolding step_rows Rattle.sa_typed.specs.declared.expr.Expr.TheBlock.hidden-the_row-Expr-1 denote.Hole.Carrier.hidden
at_rows p fr l q n a = refl

pub ruleset of_lowered = (low_number, low_input, low_read, low_prefix, low_cast, low_chain, low_and, low_or, low_choice)

-- ---- loops
pub map-more : {X Y : Type 0} (f : X → Y) (xs : List X) (i : ℕ) (d : X) (out new whole : List Y) → i < length xs → new ≡ out ++ f (get_or xs i d) ∷ [] →
    out ++ map f (drop i xs) ≡ whole → new ++ map f (drop (i + 1) xs) ≡ whole
map-more f xs i d out new whole h e left =
    ap (λ (l : List _). l ++ map f (drop (i + 1) xs)) e ∙ append_assoc out (f (get_or xs i d) ∷ []) (map f (drop (i + 1) xs))
    ∙ ap (λ (l : List _). out ++ map f l) (sym (drop_more xs i d h)) ∙ left

pub map-end : {X Y : Type 0} (f : X → Y) (xs : List X) (i : ℕ) (out whole : List Y) → length xs ≤ i → out ++ map f (drop i xs) ≡ whole → out ≡ whole
map-end f xs i out whole h left = sym (append-nil out) ∙ ap (λ (l : List _). out ++ map f l) (sym (drop_all i xs h)) ∙ left

-- ---- one step
pub moved-capped : (o : Option ℕ) (s w : ℕ) → w ≡ capped s → capped (moved_by o w) ≡ capped (moved_by o s)
moved-capped None s w e = refl
moved-capped (Some i) s w e = ap (λ (n : ℕ). capped (i * n)) e ∙ capped-right i s

pub row-capped : (o : Option ℕ) (q : Pos) (n s w : ℕ) (e : IrExpr) → w ≡ capped s → (o ≡ None → w ≤ 4294967295) → row_for o (rows.At q n w e) ≡ row_for o (rows.At q n s e)
row-capped None q n s w e is few = let f = few refl in let same : w ≡ s = omega (arith, is, f) in ap (λ (m : ℕ). rows.At q n m e ∷ []) same
row-capped (Some i) q n s w e is few = refl

pub step-at : (p : Program) (l : Layout) (t : Step) (q : Pos) (n : ℕ) (a : Expr) (w c : ℕ) (d : Cursor) → t ≡ step.At q n a → w ≡ capped (stride_of l) → c ≡ capped (moved_by (folded n a) w) → IsCursor p (inner l) d →
    IsStep p l t (record { cells = c; cursor = d })
step-at p l t q n a w c d is e f h = record {
  cells = f ∙ moved-capped (folded n a) (stride_of l) w e ∙ ap capped (sym (at_cells l q n a) ∙ ap (step_cells l) (sym is));
  cursor = subst (λ (m : Layout). IsCursor p m d) (sym (at_layout l q n a) ∙ ap (step_layout l) (sym is)) h;
}

pub rows-at : (p : Program) (fr : Frame) (l : Layout) (t : Step) (q : Pos) (n : ℕ) (a : Expr) (w : ℕ) (old new : List Row) → t ≡ step.At q n a → w ≡ capped (stride_of l) →
    new ≡ old ++ row_for (folded n a) (rows.At q n w (lowered p fr a)) → (folded n a ≡ None → w ≤ 4294967295) → new ≡ old ++ step_rows p fr l t
rows-at p fr l t q n a w old new is e f few =
    f ∙ ap (λ (rs : List Row). old ++ rs) (row-capped (folded n a) q n (stride_of l) w (lowered p fr a) e few ∙ sym (at_rows p fr l q n a) ∙ ap (step_rows p fr l) (sym is))

pub step-field : (p : Program) (l : Layout) (t : Step) (f : ℕ) (s : Stepped) → t ≡ step.Field f → IsStepped p l f s → IsStep p l t s
unfolding step_cells step_layout
step-field p l t f s is h = subst (λ (u : Step). IsStep p l u s) (sym is) (record { cells = h.cells; cursor = h.cursor })

pub rows-field : (p : Program) (fr : Frame) (l : Layout) (t : Step) (f : ℕ) (old : List Row) → t ≡ step.Field f → old ≡ old ++ step_rows p fr l t
unfolding step_rows
rows-field p fr l t f old is = sym (ap (λ (u : Step). old ++ step_rows p fr l u) is ∙ append-nil old)

-- ---- the steps of a place
pub cells-more : (l m : Layout) (ss : List Step) (i : ℕ) (s : Step) → s ≡ get_or ss i s → i < length ss → m ≡ step_layout l s → (a n b w : ℕ) → n ≡ capped (step_cells l s) → b ≡ capped (a + n) →
    capped (a + list_cells l (drop i ss)) ≡ w → capped (b + list_cells m (drop (i + 1) ss)) ≡ w
unfolding list_cells
cells-more l m ss i s at h to a n b w e f left =
    let here : list_cells l (drop i ss) ≡ step_cells l s + list_cells (step_layout l s) (drop (i + 1) ss)
    = ap (list_cells l) (drop_more ss i s h) ∙ ap (λ (t : Step). step_cells l t + list_cells (step_layout l t) (drop (i + 1) ss)) (sym at) in
    let there : list_cells m (drop (i + 1) ss) ≡ list_cells (step_layout l s) (drop (i + 1) ss) = ap (λ (k : Layout). list_cells k (drop (i + 1) ss)) to in
    omega (arith, here, there, e, f, left)

pub rows-more : (p : Program) (fr : Frame) (l m : Layout) (ss : List Step) (i : ℕ) (s : Step) → s ≡ get_or ss i s → i < length ss → m ≡ step_layout l s → (out new whole : List Row) →
    new ≡ out ++ step_rows p fr l s → out ++ list_rows p fr l (drop i ss) ≡ whole → new ++ list_rows p fr m (drop (i + 1) ss) ≡ whole
unfolding list_rows
rows-more p fr l m ss i s at h to out new whole e left =
    let rest = list_rows p fr (step_layout l s) (drop (i + 1) ss) in
    let here : list_rows p fr l (drop i ss) ≡ step_rows p fr l s ++ rest
    = ap (list_rows p fr l) (drop_more ss i s h) ∙ ap (λ (t : Step). step_rows p fr l t ++ list_rows p fr (step_layout l t) (drop (i + 1) ss)) (sym at) in
    ap (λ (k : Layout). new ++ list_rows p fr k (drop (i + 1) ss)) to ∙ ap (λ (rs : List Row). rs ++ rest) e ∙ append_assoc out (step_rows p fr l s) rest
    ∙ ap (λ (rs : List Row). out ++ rs) (sym here) ∙ left

pub place-end : (p : Program) (fr : Frame) (x : Access) (i : ℕ) (m k : Layout) (b : Target) (cells r : ℕ) (out : List Row) → length (out-Access x).steps ≤ i → k ≡ layout_of p (out-Access x).var →
    b ≡ fr.base (out-Access x).var → capped (cells + list_cells m (drop i (out-Access x).steps)) ≡ capped (b.first + list_cells k (out-Access x).steps) →
    out ++ list_rows p fr m (drop i (out-Access x).steps) ≡ map kept_row b.rows ++ list_rows p fr k (out-Access x).steps → r ≡ cells → cells ≤ 4294967295 →
    (let y : IrPlace = record { first = r; rows = out } in y) ≡ place p fr x
unfolding list_cells list_rows
place-end p fr x i m k b cells r out h whole base cs rs is few =
    let none : list_cells m (drop i (out-Access x).steps) ≡ 0 = ap (list_cells m) (drop_all i (out-Access x).steps h) in
    let empty : list_rows p fr m (drop i (out-Access x).steps) ≡ [] = ap (list_rows p fr m) (drop_all i (out-Access x).steps h) in
    let first : r ≡ b.first + list_cells k (out-Access x).steps = omega (arith, none, cs, is, few) in
    let all : out ≡ map kept_row b.rows ++ list_rows p fr k (out-Access x).steps = sym (append-nil out) ∙ ap (λ (l : List Row). out ++ l) (sym empty) ∙ rs in
    ap (λ (n : ℕ). record { first = n; rows = out }) first ∙ ap (λ (l : List Row). record { first = b.first + list_cells k (out-Access x).steps; rows = l }) all
    ∙ ap (λ (t : Target). record { first = t.first + list_cells k (out-Access x).steps; rows = map kept_row t.rows ++ list_rows p fr k (out-Access x).steps }) base
    ∙ ap (λ (t : Layout). record { first = (fr.base (out-Access x).var).first + list_cells t (out-Access x).steps; rows = map kept_row (fr.base (out-Access x).var).rows ++ list_rows p fr t (out-Access x).steps }) whole
    ∙ sym (place-list p fr x)

pub place-ends : (p : Program) (fr : Frame) (x : Access) (ss : List Step) → ss ≡ (out-Access x).steps → (i : ℕ) (m k : Layout) (b : Target) (cells r : ℕ) (out : List Row) → length ss ≤ i →
    k ≡ layout_of p (out-Access x).var → b ≡ fr.base (out-Access x).var → capped (cells + list_cells m (drop i ss)) ≡ capped (b.first + list_cells k ss) →
    out ++ list_rows p fr m (drop i ss) ≡ map kept_row b.rows ++ list_rows p fr k ss → r ≡ cells → cells ≤ 4294967295 → (let y : IrPlace = record { first = r; rows = out } in y) ≡ place p fr x
place-ends p fr x ss e i m k b cells r out h whole base cs rs is few =
    place-end p fr x i m k b cells r out (subst (λ (l : List Step). length l ≤ i) e h) whole base
    (subst (λ (l : List Step). capped (cells + list_cells m (drop i l)) ≡ capped (b.first + list_cells k l)) e cs)
    (subst (λ (l : List Step). out ++ list_rows p fr m (drop i l) ≡ map kept_row b.rows ++ list_rows p fr k l) e rs) is few
