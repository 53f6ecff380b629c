-- What each form of an expression and of a type is typed as, by the lists of the tree.
use Rattle.std.proofs.Common.{◌≡◌, ℕ, Bool, true, false, List, [], refl, ap, ap₂, sym, ◌∙◌, Option}
use Rattle.sa_base.specs.declared.pos.Pos.{Pos}
use Rattle.sa_syntax.specs.declared.decl.Base.{Base}
use Rattle.sa_syntax.specs.declared.decl.Base.TheVariants as b
use Rattle.sa_syntax.specs.declared.decl.Bound.{Bound}
use Rattle.sa_syntax.specs.declared.decl.Declr.{Declr, Declr', out-Declr, roll-Declr, roll-out-Declr, items_hidden-the_row-Bound-4, Row_of-Bound, more_of-Bound, end_of-Bound, items-the_row-Bound}
use Rattle.sa_syntax.specs.declared.decl.Field.{Field, Field', out-Field, roll-Field, roll-out-Field, items_hidden-the_row-Declr-5, Row_of-Declr, more_of-Declr, end_of-Declr, items-the_row-Declr}
use Rattle.sa_syntax.specs.declared.decl.Name.{Name}
use Rattle.sa_syntax.specs.declared.decl.ScalarWord.{ScalarWord}
use Rattle.sa_syntax.specs.declared.decl.Specifiers.{Specifiers, out-Specifiers}
use Rattle.sa_syntax.specs.declared.decl.Struct.{Struct, Struct', out-Struct, roll-Struct, roll-out-Struct, items_hidden-the_row-Field-6, Row_of-Field, more_of-Field, end_of-Field, items-the_row-Field}
use Rattle.sa_syntax.specs.declared.expr.Expr.{Expr, Row_of-Link, end_of-Link, more_of-Link, items-the_row-Link, items_hidden-the_row-Link-3, Row_of-Step, end_of-Step, more_of-Step, items-the_row-Step, items_hidden-the_row-Step-0, Chain', Place'}
use Rattle.sa_syntax.specs.declared.expr.Expr.TheVariants as v
use Rattle.sa_syntax.specs.declared.expr.Link.{Link, out-Link}
use Rattle.sa_syntax.specs.declared.expr.Operator.{Operator}
use Rattle.sa_syntax.specs.declared.expr.Place.{Place, out-Place}
use Rattle.sa_syntax.specs.declared.expr.Prefix.{Prefix}
use Rattle.sa_syntax.specs.declared.expr.Step.{Step}
use Rattle.sa_syntax.specs.declared.expr.Step.TheVariants as st
use Rattle.sa_operands.specs.declared.operand.Left.{Left}
use Rattle.sa_operands.specs.declared.operand.Operand.TheVariants as a
use Rattle.sa_operands.specs.declared.operand.Spot.{Spot}
use Rattle.sa_scopes.specs.declared.structs.Fields.{Fields}
use Rattle.sa_scopes.specs.declared.typer.Typer.{Typer}
use Rattle.sa_scopes.specs.declared.types.Element.TheVariants as el
use Rattle.sa_scopes.specs.declared.types.Ty.{Ty}
use Rattle.sa_scopes.specs.Types as types
use Rattle.sa_scopes.specs.Types.{qualifiers, object, plain}
use Rattle.sa_operands.specs.Operands.{literal, beside, prefix_of, prefixed, cast, left_of, linked, chained, choice}
use Rattle.sa_operands.specs.Places as place
use Rattle.sa_operands.specs.Definitions as def
use Rattle.sa_operands.specs.Definitions.{no_fields}
use Rattle.sa_operands.specs.Expressions.{expr, links, steps, step, base_type, structure, fields, field, declrs, declr, bounds, linking, bounding, beside_first}
use Rattle.sa_operands.specs.Lists as list
use Rattle.sa_scopes.specs.Typing.{Typed, Gives, Typing, and_then, ◌>>=◌, ◌>>◌, pure, each}

-- ---- lists
links-row : (n : _) (r : Row_of-Link n) → links r ≡ list.links (items-the_row-Link n r)
unfolding expr each
links-row n end_of-Link = refl
links-row n (more_of-Link op p x rest) = ap (λ (k : Left → Typing Left). λ l. linking op p x (expr x) l >>= k) (links-row _ rest)

steps-row : (n : _) (r : Row_of-Step n) → steps r ≡ list.steps (items-the_row-Step n r)
unfolding expr each
steps-row n end_of-Step = refl
steps-row n (more_of-Step x rest) = ap (λ (k : Spot → Typing Spot). λ l. step x l >>= k) (steps-row _ rest)

fields-row : (n : _) (r : Row_of-Field n) → fields r ≡ list.fields (items-the_row-Field n r)
unfolding expr each
fields-row n end_of-Field = refl
fields-row n (more_of-Field x rest) = ap (λ (k : Fields → Typing Fields). λ f. field x f >>= k) (fields-row _ rest)

declrs-row : (n : _) (ty : Ty) (r : Row_of-Declr n) → declrs ty r ≡ list.declrs ty (items-the_row-Declr n r)
unfolding expr each
declrs-row n ty end_of-Declr = refl
declrs-row n ty (more_of-Declr x rest) = ap (λ (k : Fields → Typing Fields). λ f. declr ty x f >>= k) (declrs-row _ ty rest)

bounds-row : (n : _) (r : Row_of-Bound n) → bounds r ≡ list.bounds (items-the_row-Bound n r)
unfolding expr each
bounds-row n end_of-Bound = refl
bounds-row n (more_of-Bound p x rest) = ap (λ (k : List ℕ → Typing (List ℕ)). λ f. bounding x (expr x) f >>= k) (bounds-row _ rest)

beside_first-row : (n : _) (r : Row_of-Link n) (x : Expr) → beside_first r x ≡ list.beside_head (items-the_row-Link n r) x
unfolding list.beside_head
beside_first-row n end_of-Link x = refl
beside_first-row n (more_of-Link op p y rest) x = refl

-- the rows that lists within an expression are kept as
abbrev links_in : Expr → (n : _) × Row_of-Link n
links_in (Chain' m x n row) = (_, row)
links_in _ = (_, end_of-Link)

abbrev steps_in : Expr → (n : _) × Row_of-Step n
steps_in (Place' b n row) = (_, row)
steps_in _ = (_, end_of-Step)

-- ---- expressions
pub expr-Number : (n : ℕ) (unsigned : Bool) (longs : ℕ) (decimal : Bool) (p : Pos) (s : Typer) → expr (v.Number n unsigned longs decimal p) s ≡ Gives (literal n unsigned longs decimal) s
unfolding expr
expr-Number n unsigned longs decimal p s = refl

pub expr-Bracket : (p : Pos) (x : Expr) (s : Typer) → expr (v.Bracket p x) s ≡ expr x s
unfolding expr Rattle.sa_syntax.specs.declared.decl.Base.TheBlock.hidden-the_row-Expr-1 denote.Hole.Carrier.hidden
expr-Bracket p x s = refl

pub expr-Prefix : (op : Prefix) (p : Pos) (x : Expr) (s : Typer) → expr (v.Prefix op p x) s ≡ (expr x >>= (λ x. prefixed (prefix_of op) p x)) s
unfolding expr Rattle.sa_syntax.specs.declared.decl.Base.TheBlock.hidden-the_row-Expr-1 denote.Hole.Carrier.hidden
expr-Prefix op p x s = refl

pub expr-Choice : (x : Expr) (p : Pos) (y z : Expr) (s : Typer) → expr (v.Choice x p y z) s ≡ (expr x >>= (λ c. expr y >>= (λ y. expr z >>= (λ z. choice p c y z)))) s
unfolding expr Rattle.sa_syntax.specs.declared.decl.Base.TheBlock.hidden-the_row-Expr-1 denote.Hole.Carrier.hidden
expr-Choice x p y z s = refl

pub expr-Cast : (p : Pos) (ty : Specifiers) (x : Expr) (s : Typer) →
    expr (v.Cast p ty x) s ≡ (qualifiers false true (out-Specifiers ty).qualifiers >> (list.object_type ty >>= (λ t. expr x >>= (λ x. cast p t.element x)))) s
unfolding expr list.object_type Rattle.sa_syntax.specs.declared.decl.Base.TheBlock.hidden-the_row-Expr-1 Rattle.sa_syntax.specs.declared.decl.Base.TheBlock.hidden-the_row-Specifiers-2 denote.Hole.Carrier.hidden
expr-Cast p ty x s = refl

pub expr-Chain : (x : Expr) (ls : List Link) (s : Typer) → expr (v.Chain x ls) s ≡ (expr x >>= (λ first. list.beside_head ls x >> (list.links ls (left_of first) >>= (λ l. pure (chained l))))) s
unfolding expr Rattle.sa_syntax.specs.declared.decl.Base.TheBlock.hidden-the_row-Expr-1 denote.Hole.Carrier.hidden
expr-Chain x ls s =
    let row = links_in (v.Chain x ls) in
    ap₂ (λ (b : Typing (Unit {0})) (k : Left → Typing Left). (expr x >>= (λ first. b >> (k (left_of first) >>= (λ l. pure (chained l))))) s)
    (beside_first-row row.0 row.1 x ∙ ap (λ ls. list.beside_head ls x) (items_hidden-the_row-Link-3 ls))
    (links-row row.0 row.1 ∙ ap list.links (items_hidden-the_row-Link-3 ls))

pub expr-Place : (x : Place) (s : Typer) → expr (v.Place x) s ≡ (list.spot x >>= (λ l. pure (place.operand l))) s
unfolding expr list.spot
expr-Place x s =
    let row = steps_in (v.Place x) in
    ap (λ (k : Spot → Typing Spot). (place.begins (out-Place x).base >>= k >>= (λ l. pure (place.operand l))) s) (steps-row row.0 row.1 ∙ ap list.steps (items_hidden-the_row-Step-0 (out-Place x).steps))

pub ruleset expr_rows = (expr-Number, expr-Place, expr-Bracket, expr-Prefix, expr-Cast, expr-Chain, expr-Choice)

-- ---- steps
pub step-Index : (p : Pos) (x : Expr) (l : Spot) (s : Typer) → step (st.Index p x) l s ≡ (expr x >>= (λ i. place.index p i l)) s
unfolding expr Rattle.sa_syntax.specs.declared.decl.Base.TheBlock.hidden-the_row-Expr-1 denote.Hole.Carrier.hidden
step-Index p x l s = refl

pub step-Field : (p : Pos) (x : Name) (l : Spot) (s : Typer) → step (st.Field p x) l s ≡ place.field p x l s
unfolding expr
step-Field p x l s = refl

pub step-Arrow : (p : Pos) (x : Name) (l : Spot) (s : Typer) → step (st.Arrow p x) l s ≡ place.arrow p l s
unfolding expr
step-Arrow p x l s = refl

pub ruleset step_rows = (step-Index, step-Field, step-Arrow)

-- ---- types
pub base-Scalar : (p : Pos) (ws : List ScalarWord) (s : Typer) → base_type p (b.Scalar ws) s ≡ types.scalar p (types.num_of ws) s
unfolding expr
base-Scalar p ws s = refl

pub base-Void : (p : Pos) (s : Typer) → base_type p b.Void s ≡ Gives (plain el.Void) s
unfolding expr
base-Void p s = refl

pub base-Tag : (p : Pos) (x : Name) (s : Typer) → base_type p (b.Tag x) s ≡ types.tagged p x s
unfolding expr
base-Tag p x s = refl

pub base-Struct : (p : Pos) (x : Struct) (s : Typer) → base_type p (b.Struct x) s ≡ structure x s
unfolding expr
base-Struct p x s = refl

pub base-Named : (p : Pos) (x : Name) (s : Typer) → base_type p (b.Named x) s ≡ types.type_name x s
unfolding expr
base-Named p x s = refl

pub ruleset base_rows = (base-Scalar, base-Void, base-Tag, base-Struct, base-Named)

-- ---- structures
abbrev fields_in : Struct → (n : _) × Row_of-Field n
fields_in (Struct' tag n row) = (_, row)

abbrev declrs_in : Field → (n : _) × Row_of-Declr n
declrs_in (Field' p qs b n row) = (_, row)

abbrev bounds_in : Declr → (n : _) × Row_of-Bound n
bounds_in (Declr' x n row) = (_, row)

structure-rolled : (tag : Option Name) (fs : List Field) (s : Typer) →
    structure (roll-Struct (record { tag = tag; fields = fs })) s ≡ (def.opened tag >>= (λ i. list.fields fs no_fields >>= (λ f. def.closed tag i f))) s
unfolding expr roll-Struct denote.Hole.Carrier.roll
structure-rolled tag fs s =
    let row = fields_in (roll-Struct (record { tag = tag; fields = fs })) in
    ap (λ (k : Fields → Typing Fields). (def.opened tag >>= (λ i. k no_fields >>= (λ f. def.closed tag i f))) s) (fields-row row.0 row.1 ∙ ap list.fields (items_hidden-the_row-Field-6 fs))

pub structure-is : (x : Struct) (s : Typer) → structure x s ≡ (def.opened (out-Struct x).tag >>= (λ i. list.fields (out-Struct x).fields no_fields >>= (λ f. def.closed (out-Struct x).tag i f))) s
structure-is x s = ap (λ y. structure y s) (sym (roll-out-Struct x)) ∙ structure-rolled (out-Struct x).tag (out-Struct x).fields s

field-rolled : (ty : Specifiers) (ds : List Declr) (f : Fields) (s : Typer) →
    field (roll-Field (record { ty = ty; declrs = ds })) f s ≡ (qualifiers false false (out-Specifiers ty).qualifiers >> (list.object_type ty >>= (λ t. list.declrs t ds f))) s
unfolding expr list.object_type roll-Field denote.Hole.Carrier.roll
field-rolled ty ds f s =
    let row = declrs_in (roll-Field (record { ty = ty; declrs = ds })) in
    ap (λ (k : Ty → Fields → Typing Fields). (qualifiers false false (out-Specifiers ty).qualifiers >> (list.object_type ty >>= (λ t. k t f))) s) (λ i. λ t. (declrs-row row.0 t row.1 ∙ ap (list.declrs t) (items_hidden-the_row-Declr-5 ds)) i)

pub field-is : (x : Field) (f : Fields) (s : Typer) →
    field x f s ≡ (qualifiers false false (out-Specifiers (out-Field x).ty).qualifiers >> (list.object_type (out-Field x).ty >>= (λ t. list.declrs t (out-Field x).declrs f))) s
field-is x f s = ap (λ y. field y f s) (sym (roll-out-Field x)) ∙ field-rolled (out-Field x).ty (out-Field x).declrs f s

declr-rolled : (ty : Ty) (x : Name) (bs : List Bound) (f : Fields) (s : Typer) →
    declr ty (roll-Declr (record { name = x; bounds = bs })) f s ≡ (list.bounds bs [] >>= (λ dims. def.field x ty dims f)) s
unfolding expr roll-Declr denote.Hole.Carrier.roll
declr-rolled ty x bs f s =
    let row = bounds_in (roll-Declr (record { name = x; bounds = bs })) in
    ap (λ (k : List ℕ → Typing (List ℕ)). (k [] >>= (λ dims. def.field x ty dims f)) s) (bounds-row row.0 row.1 ∙ ap list.bounds (items_hidden-the_row-Bound-4 bs))

pub declr-is : (ty : Ty) (x : Declr) (f : Fields) (s : Typer) → declr ty x f s ≡ (list.bounds (out-Declr x).bounds [] >>= (λ dims. def.field (out-Declr x).name ty dims f)) s
declr-is ty x f s = ap (λ y. declr ty y f s) (sym (roll-out-Declr x)) ∙ declr-rolled ty (out-Declr x).name (out-Declr x).bounds f s

pub ruleset struct_rows = (structure-is, field-is, declr-is)
