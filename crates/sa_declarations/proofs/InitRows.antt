-- What each form of an initialiser is typed as, and items one step on and at the end.
use Rattle.std.proofs.Common.{◌≡◌, ℕ, ◌+◌, ◌<◌, ◌≤◌, List, [], ◌∷◌, ◌++◌, length, drop, get_or, refl, ap, sym, subst, ◌∙◌, arith, Option, Some, None}
use Rattle.std.specs.Prelude.{ℤ, Result, Ok, Err, IfOk}
use Rattle.std.specs.declared.alloc.AllocError.{AllocError as OutOfMemory}
use Rattle.std.proofs.lemmas.List.{drop_more, drop_all}
use Rattle.sa_base.specs.declared.pos.Pos.{Pos}
use Rattle.sa_syntax.specs.declared.decl.Init.{Init, Value, Braces', Row_of-Init, end_of-Init, more_of-Init, items-the_row-Init, items_hidden-the_row-Init-0}
use Rattle.sa_syntax.specs.declared.decl.Init.TheVariants as vs
use Rattle.sa_syntax.specs.declared.expr.Expr.{Expr}
use Rattle.sa_typed.specs.declared.shape.Shape.{Shape}
use Rattle.sa_base.specs.declared.num.Num.{Num}
use Rattle.sa_base.specs.declared.num.Num.TheVariants.{I32}
use Rattle.sa_scopes.specs.declared.form.Form.{Form}
use Rattle.sa_scopes.specs.declared.form.Form.TheVariants as form
use Rattle.sa_declarations.specs.declared.initial.Values.{Values}
use Rattle.sa_operands.specs.declared.operand.Operand.{Operand}
use Rattle.sa_scopes.specs.declared.typer.Typer.{Typer}
use Rattle.sa_scopes.specs.First.{expr_pos}
use Rattle.sa_scopes.specs.Structures.{slot, missing}
use Rattle.sa_operands.specs.Expressions.{expr}
use Rattle.sa_scopes.specs.Forms.{form_of, scalar}
use Rattle.sa_declarations.specs.Initialisers.{init, braced, items, nth_item, item, valued, slotted, values, trimmed, zeros, Stands, IsGiven, GivesValues}
use Rattle.sa_declarations.proofs.TrimLemmas.{stands_trimmed}
use Rattle.sa_scopes.specs.Typing.{Typed, Gives, Typing, and_then, ◌>>=◌, refuse, refused}

braced-row : (n : _) (r : Row_of-Init n) (p : Pos) (shape : Shape) (k : ℕ) (found : List ℤ) (s : Typer) → braced r p shape k found s ≡ items (items-the_row-Init n r) p shape k found s
unfolding init items
braced-row n end_of-Init p shape k found s = refl
braced-row n (more_of-Init i rest) p shape k found s = ap (λ (f : List ℤ → Typing (List ℤ)). (nth_item i p shape k found >>= f) s) (λ j. λ found. λ s. braced-row _ rest p shape (k + 1) found s j)

inits_in : Init → (n : _) × Row_of-Init n
inits_in (Braces' p n row) = (_, row)
inits_in _ = (_, end_of-Init)

-- what an expression gives
pub given_value : (e : Expr) (shape : Shape) (found : List ℤ) (s t new : Typer) (x : Operand) (v : Values) → expr e s ≡ Gives x t → IsGiven (valued (expr_pos e) (form_of shape) x found t) v new → IsGiven (init (vs.Value e) shape found s) v new
unfolding init
given_value e shape found s t new x v h g = record {
  values = g.values;
  is = ap (λ (u : Typed Operand). and_then u (λ x. valued (expr_pos e) (form_of shape) x found)) h ∙ g.is;
  stands = g.stands;
}

init-Braces : (p : Pos) (is : List Init) (shape : Shape) (found : List ℤ) (s : Typer) → init (vs.Braces p is) shape found s ≡ items is p shape 0 found s
unfolding init inits_in
init-Braces p is shape found s =
    let row = inits_in (vs.Braces p is) in
    braced-row row.0 row.1 p shape 0 found s ∙ ap (λ is. items is p shape 0 found s) (items_hidden-the_row-Init-0 is)

-- what braces give
pub given_braces : (p : Pos) (is : List Init) (shape : Shape) (found : List ℤ) (s new : Typer) (v : Values) → IsGiven (items is p shape 0 found s) v new → IsGiven (init (vs.Braces p is) shape found s) v new
given_braces p is shape found s new v g = record { values = g.values; is = init-Braces p is shape found s ∙ g.is; stands = g.stands }

-- ---- items
-- what the items from one on give is what all of them give
pub record Goes (is : List Init) (p : Pos) (shape : Shape) (zs : List ℤ) (s : Typer) (k : ℕ) (v : Values) (t : Typer) : Type 0 where
  pub values : List ℤ
  pub stands : Stands v values
  pub same : items is p shape 0 zs s ≡ items (drop k is) p shape k values t

pub goes_first : (is : List Init) (p : Pos) (shape : Shape) (zs : List ℤ) (s : Typer) (v : Values) → Stands v zs → Goes is p shape zs s 0 v s
goes_first is p shape zs s v h = record { values = zs; stands = h; same = refl }

pub goes_next : (is : List Init) (p : Pos) (shape : Shape) (zs : List ℤ) (s : Typer) (k : ℕ) (v w : Values) (t u : Typer) (x : Init) → k < length is → x ≡ get_or is k x → Goes is p shape zs s k v t →
    ((ys : List ℤ) → Stands v ys → IsGiven (nth_item x p shape k ys t) w u) → Goes is p shape zs s (k + 1) w u
unfolding items
goes_next is p shape zs s k v w t u x h e g one =
    let next = one g.values g.stands in
    record {
      values = next.values;
      stands = next.stands;
      same = g.same ∙ ap (λ (js : List Init). items js p shape k g.values t) (drop_more is k x h ∙ ap (λ y. y ∷ drop (k + 1) is) (sym e))
          ∙ ap (λ (y : Typed (List ℤ)). and_then y (items (drop (k + 1) is) p shape (k + 1))) next.is;
    }

pub goes_end : (is : List Init) (p : Pos) (shape : Shape) (zs : List ℤ) (s : Typer) (k : ℕ) (v w : Values) (t : Typer) → length is ≤ k → Goes is p shape zs s k v t →
    ((ys : List ℤ) → Stands v ys → Stands w (ys ++ zeros (missing t.structs shape k))) → IsGiven (items is p shape 0 zs s) w t
unfolding items
goes_end is p shape zs s k v w t h g last = record {
  values = g.values ++ zeros (missing t.structs shape k);
  is = g.same ∙ ap (λ (js : List Init). items js p shape k g.values t) (drop_all k is h);
  stands = last g.values g.stands;
}

-- ---- one item
pub given_none : (i : Init) (p : Pos) (shape : Shape) (k : ℕ) (zs : List ℤ) (s t : Typer) (v : Values) → slot s.structs shape k ≡ None → IsGiven (init i (scalar I32) zs (refused 20 p s)) v t → IsGiven (nth_item i p shape k zs s) v t
given_none i p shape k zs s t v h g = record { values = g.values; is = ap (λ (o : Option Shape). slotted p o (λ inner. init i inner zs) s) h ∙ g.is; stands = g.stands }

pub given_slot : (i : Init) (p : Pos) (shape inner : Shape) (k : ℕ) (zs : List ℤ) (s t : Typer) (v : Values) → slot s.structs shape k ≡ Some inner → IsGiven (init i inner zs s) v t → IsGiven (nth_item i p shape k zs s) v t
given_slot i p shape inner k zs s t v h g = record { values = g.values; is = ap (λ (o : Option Shape). slotted p o (λ inner. init i inner zs) s) h ∙ g.is; stands = g.stands }

-- ---- the whole
pub given_all : (i : Init) (shape : Shape) (s t : Typer) (v : Values) → IsGiven (init i shape [] s) v t → values i shape s ≡ Gives v.written t
unfolding values
given_all i shape s t v g =
    ap (λ (y : Typed (List ℤ)). and_then y (λ zs. (λ (u : Typer). Gives (trimmed zs) u))) g.is ∙ ap (λ (zs : List ℤ). Gives zs t) (stands_trimmed v g.values g.stands)

-- ---- one value
pub given_item : (p : Pos) (num : Num) (x : Operand) (zs : List ℤ) (s t : Typer) (z : ℤ) (v : Values) → item p num x s ≡ Gives z t → Stands v (zs ++ z ∷ []) → IsGiven (valued p (form.Scalar num) x zs s) v t
given_item p num x zs s t z v h g = record { values = zs ++ z ∷ []; is = ap (λ (y : Typed ℤ). and_then y (λ z. (λ (u : Typer). Gives (zs ++ z ∷ []) u))) h; stands = g }

-- ---- the same of what a call answers
pub value_answer : (i : Init) (e : Expr) (q : Pos) (shape : Shape) (f : Form) (zs : List ℤ) (s t new : Typer) (x : Operand) (r : Result Values OutOfMemory) → i ≡ vs.Value e → q ≡ expr_pos e → f ≡ form_of shape → expr e s ≡ Gives x t →
    GivesValues (valued q f x zs t) r new → GivesValues (init i shape zs s) r new
value_answer i e q shape f zs s t new x (Ok v) h k g y w =
    subst (λ (j : Init). IsGiven (init j shape zs s) v new) (sym h)
    (given_value e shape zs s t new x v y (subst (λ (g : Form). IsGiven (valued (expr_pos e) g x zs t) v new) g (subst (λ (q : Pos). IsGiven (valued q f x zs t) v new) k w)))
value_answer i e q shape f zs s t new x (Err o) h k g y w = tt

pub braces_answer : (i : Init) (p : Pos) (is : List Init) (shape : Shape) (zs : List ℤ) (s new : Typer) (r : Result Values OutOfMemory) → i ≡ vs.Braces p is → GivesValues (items is p shape 0 zs s) r new → GivesValues (init i shape zs s) r new
braces_answer i p is shape zs s new (Ok v) h w = subst (λ (j : Init). IsGiven (init j shape zs s) v new) (sym h) (given_braces p is shape zs s new v w)
braces_answer i p is shape zs s new (Err o) h w = tt

none_by : (i : Init) (p : Pos) (shape : Shape) (k : ℕ) (zs : List ℤ) (s u t : Typer) (r : Result Values OutOfMemory) → None ≡ slot s.structs shape k → refused 20 p s ≡ u → GivesValues (init i (scalar I32) zs u) r t →
    GivesValues (nth_item i p shape k zs s) r t
none_by i p shape k zs s u t (Ok v) h g w = given_none i p shape k zs s t v (sym h) (subst (λ (x : Typer). IsGiven (init i (scalar I32) zs x) v t) (sym g) w)
none_by i p shape k zs s u t (Err o) h g w = tt

pub none_answer : (i : Init) (p : Pos) (shape : Shape) (k : ℕ) (zs : List ℤ) (s u t : Typer) (r : Result Values OutOfMemory) → None ≡ slot s.structs shape k → refuse 20 p s ≡ Gives tt u → GivesValues (init i (scalar I32) zs u) r t →
    GivesValues (nth_item i p shape k zs s) r t
none_answer i p shape k zs s u t r h g w = let ends : refused 20 p s ≡ u = cc in none_by i p shape k zs s u t r h ends w

pub slot_answer : (i : Init) (p : Pos) (shape inner : Shape) (k : ℕ) (zs : List ℤ) (s t : Typer) (r : Result Values OutOfMemory) → Some inner ≡ slot s.structs shape k → GivesValues (init i inner zs s) r t → GivesValues (nth_item i p shape k zs s) r t
slot_answer i p shape inner k zs s t (Ok v) h w = given_slot i p shape inner k zs s t v (sym h) w
slot_answer i p shape inner k zs s t (Err o) h w = tt

scalar_answer : (p : Pos) (num : Num) (x : Operand) (zs : List ℤ) (s t : Typer) (z : ℤ) (r : Result Values OutOfMemory) → item p num x s ≡ Gives z t → IfOk r (λ v. Stands v (zs ++ z ∷ [])) → GivesValues (valued p (form.Scalar num) x zs s) r t
scalar_answer p num x zs s t z (Ok v) h g = given_item p num x zs s t z v h g
scalar_answer p num x zs s t z (Err o) h g = tt

pub item_answer : (p : Pos) (f : Form) (num : Num) (x : Operand) (zs : List ℤ) (s t : Typer) (z : ℤ) (r : Result Values OutOfMemory) → f ≡ form.Scalar num → item p num x s ≡ Gives z t → IfOk r (λ v. Stands v (zs ++ z ∷ [])) →
    GivesValues (valued p f x zs s) r t
item_answer p f num x zs s t z r e h g = subst (λ (f : Form). GivesValues (valued p f x zs s) r t) (sym e) (scalar_answer p num x zs s t z r h g)

pub refused_answer : (p : Pos) (zs : List ℤ) (s t : Typer) (v : Values) → refuse 20 p s ≡ Gives tt t → Stands v zs → IsGiven (Gives zs (refused 20 p s)) v t
refused_answer p zs s t v h g = record { values = zs; is = let ends : refused 20 p s ≡ t = cc in ap (λ (u : Typer). Gives zs u) ends; stands = g }
