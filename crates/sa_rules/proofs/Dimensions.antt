-- Dimensions, and initial values that have to be known.
use Rattle.std.proofs.Common.{◌≡◌, ℕ, Bool, true, false, List, [], ◌∷◌, ◌++◌, refl, sym, ap, ◌∙◌}
use Rattle.std.specs.Prelude.{ℤ, pos, unsigned_abs, if◌then◌else◌}
use Rattle.sa_base.specs.declared.num.Num.{Num}
use Rattle.sa_syntax.specs.declared.expr.Expr.{Expr}
use Rattle.sa_typed.specs.Arithmetic.{is_of}
use Rattle.sa_typed.specs.declared.shape.Shape.{Shape}
use Rattle.sa_scopes.specs.declared.constant.Value.{Value}
use Rattle.sa_scopes.specs.declared.constant.Value.TheVariants as v
use Rattle.sa_scopes.specs.declared.form.Form.{Form}
use Rattle.sa_scopes.specs.declared.form.Form.TheVariants as form
use Rattle.sa_operands.specs.declared.operand.Operand.{Operand}
use Rattle.sa_scopes.specs.declared.typer.Fault.{Fault}
use Rattle.sa_scopes.specs.declared.typer.Typer.{Typer}
use Rattle.sa_scopes.specs.declared.types.Ty.{Ty}
use Rattle.sa_scopes.specs.Constants.{Constant}
use Rattle.sa_operands.specs.Definitions.{is_dimension, dimension_by, dimension}
use Rattle.sa_operands.specs.Expressions.{expr}
use Rattle.sa_scopes.specs.First.{expr_pos}
use Rattle.sa_scopes.specs.Forms.{form_of}
use Rattle.sa_declarations.specs.Initialisers.{within, item}
use Rattle.sa_operands.specs.Operands.{known_value, no_object}
use Rattle.sa_scopes.specs.Scopes.{Scope}
use Rattle.sa_scopes.specs.Typing.{and_then, pure, refuse, fault, ◌>>◌}
use Rattle.sa_scopes.specs.Values.{constant}
use Rattle.sa_rules.specs.Events.{Dimension, Initial}
use Rattle.sa_rules.specs.Rules.{at_unless, unless_known, unless_known_for, unfit, out_of_range}
use Rattle.sa_rules.specs.Scenes.{Meaning}
use Rattle.sa_rules.specs.Sight.{Open, Group, For, Sight, see, size_of}
use Rattle.sa_rules.specs.Values.{value_of}
use Rattle.sa_rules.proofs.ConstantValues.{value_gets}
use Rattle.sa_rules.proofs.QuietParts.{no_object_quiet}
use Rattle.sa_rules.proofs.Steps.{At, seeing, one_at, one_as, refused_one, nothing_added}
use Rattle.sa_rules.proofs.Walks.{broken, faults_at, meant, seen_as, state, value, Reads, quiet, then_here, refused_noted}

-- what is known of an expression once it is typed
pub known_there : (x : Expr) (s : Typer) → known_value (value (expr x s)) ≡ value_of (seen_as meant (state (expr x s)).names) x
known_there x s = let g = (value_gets (seen_as meant s.names) x s).gets refl in g.0 ∙ ap (λ (names : Scope Meaning). value_of names x) (sym g.1)

module _ (os : List Open) (found : Bool) (x : Expr) where
  -- ---- dimensions
  abbrev Sized : Ty → List ℕ → Sight → Type 0
  Sized ty dims = At (Group ty dims ∷ os) found

  abbrev Breaking : Value → List Fault
  Breaking w = faults_at 18 (unless_known (expr_pos x) w) ++ (faults_at 19 (out_of_range (expr_pos x) w) ++ [])

  module _ (ty : Ty) (dims : List ℕ) where
    sees : (s : Typer) (w : Value) (y : Ty) → value_of (seen_as meant s.names) x ≡ w → see (seeing s (Group ty dims ∷ os) found y) (Dimension x) ≡ seeing s (Group ty (dims ++ size_of w ∷ []) ∷ os) found y
    unfolding see
    sees s w y h = ap (λ (k : Value). seeing s (Group ty (dims ++ size_of k ∷ []) ∷ os) found y) h

    breaks : (s : Typer) (w : Value) (y : Ty) → value_of (seen_as meant s.names) x ≡ w → broken (seeing s (Group ty dims ∷ os) found y) (Dimension x) ≡ Breaking w
    breaks s w y h = ap (λ (k : Value). Breaking k) h

    size_sees : (s : Typer) (c : Constant) (b : Bool) (y : Ty) → value_of (seen_as meant s.names) x ≡ v.Is c → is_dimension c.value ≡ b →
        see (seeing s (Group ty dims ∷ os) found y) (Dimension x) ≡ seeing s (Group ty (dims ++ (if b then unsigned_abs c.value else 1) ∷ []) ∷ os) found y
    size_sees s c b y h e = sees s (v.Is c) y h ∙ ap (λ (b : Bool). seeing s (Group ty (dims ++ (if b then unsigned_abs c.value else 1) ∷ []) ∷ os) found y) e

    size_by : (c : Constant) (b : Bool) (s : Typer) → is_dimension c.value ≡ b → value_of (seen_as meant s.names) x ≡ v.Is c →
        Reads (Sized ty dims) s (Dimension x ∷ []) (λ (n : ℕ). Sized ty (dims ++ n ∷ [])) ((if b then pure (unsigned_abs c.value) else (refuse 19 (expr_pos x) >> pure 1)) s)
    size_by c true s e h =
        one_at (λ y. one_as (seeing s (Group ty (dims ++ unsigned_abs c.value ∷ []) ∷ os) found y) []
        (size_sees s c true y h e)
        (breaks s (v.Is c) y h ∙ ap (λ (b : Bool). faults_at 19 (at_unless b (expr_pos x)) ++ []) e) refl (nothing_added s) (record { opened = refl; entry = refl }))
    size_by c false s e h =
        one_at (λ y. refused_one 19 (expr_pos x) (seeing s (Group ty (dims ++ 1 ∷ []) ∷ os) found y) (fault 19 (expr_pos x) ∷ [])
        (size_sees s c false y h e)
        (breaks s (v.Is c) y h ∙ ap (λ (b : Bool). faults_at 19 (at_unless b (expr_pos x)) ++ []) e) refl (refused_noted 19 (expr_pos x) s) (record { opened = refl; entry = refl }))

    value_reads : (w : Value) (s : Typer) → value_of (seen_as meant s.names) x ≡ w →
        Reads (Sized ty dims) s (Dimension x ∷ []) (λ n. Sized ty (dims ++ n ∷ [])) (and_then (constant (expr_pos x) w s) (dimension_by (expr_pos x)))
    value_reads v.Varies s h =
        one_at (λ y. refused_one 18 (expr_pos x) (seeing s (Group ty (dims ++ 1 ∷ []) ∷ os) found y) (fault 18 (expr_pos x) ∷ []) (sees s v.Varies y h) (breaks s v.Varies y h) refl (refused_noted 18 (expr_pos x) s)
        (record { opened = refl; entry = refl }))
    value_reads (v.Errs num) s h =
        one_at (λ y. refused_one 18 (expr_pos x) (seeing s (Group ty (dims ++ 1 ∷ []) ∷ os) found y) (fault 18 (expr_pos x) ∷ []) (sees s (v.Errs num) y h) (breaks s (v.Errs num) y h) refl (refused_noted 18 (expr_pos x) s)
        (record { opened = refl; entry = refl }))
    value_reads v.Unknown s h =
        one_at (λ y. one_as (seeing s (Group ty (dims ++ 1 ∷ []) ∷ os) found y) [] (sees s v.Unknown y h) (breaks s v.Unknown y h) refl (nothing_added s) (record { opened = refl; entry = refl }))
    value_reads (v.Is c) s h = size_by c (is_dimension c.value) s refl h

    pub dimension_reads : (i : Operand) (s : Typer) → known_value i ≡ value_of (seen_as meant s.names) x →
        Reads (Sized ty dims) s (Dimension x ∷ []) (λ n. Sized ty (dims ++ n ∷ [])) (dimension (expr_pos x) i s)
    unfolding dimension
    dimension_reads i s h =
        then_here (λ u t. and_then (constant (expr_pos x) (known_value i) t) (dimension_by (expr_pos x))) (quiet (no_object_quiet i s))
        (value_reads (known_value i) (state (no_object i s)) (ap (λ (names : _). value_of (seen_as meant names) x) (no_object_quiet i s).names ∙ sym h))

  -- ---- items
  module _ (shape : Shape) (k : ℕ) where
    abbrev Wanted : Sight → Type 0
    Wanted = At (For shape k ∷ os) found

    abbrev Unfit : Form → Value → List Fault
    Unfit f w = faults_at 18 (unless_known_for f (expr_pos x) w) ++ (faults_at 20 (unfit f (expr_pos x) w) ++ [])

    pub item_breaks : (s : Typer) (f : Form) (w : Value) (y : Ty) → form_of shape ≡ f → value_of (seen_as meant s.names) x ≡ w → broken (seeing s (For shape k ∷ os) found y) (Initial x) ≡ Unfit f w
    item_breaks s f w y e h = ap (λ (g : Form). Unfit g (value_of (seen_as meant s.names) x)) e ∙ ap (λ (j : Value). Unfit f j) h

    within_by : (num : Num) (c : Constant) (b : Bool) (s : Typer) → form_of shape ≡ form.Scalar num → is_of num c.value ≡ b → value_of (seen_as meant s.names) x ≡ v.Is c →
        Reads Wanted s (Initial x ∷ []) (λ (z : ℤ). At os found) ((if b then pure c.value else (refuse 20 (expr_pos x) >> pure (pos 0))) s)
    unfolding see
    within_by num c true s f e h =
        one_at (λ y. one_as (seeing s os found y) [] refl (item_breaks s (form.Scalar num) (v.Is c) y f h ∙ ap (λ (b : Bool). faults_at 20 (at_unless b (expr_pos x)) ++ []) e) refl (nothing_added s) (record { opened = refl; entry = refl }))
    within_by num c false s f e h =
        one_at (λ y. refused_one 20 (expr_pos x) (seeing s os found y) (fault 20 (expr_pos x) ∷ []) refl
        (item_breaks s (form.Scalar num) (v.Is c) y f h ∙ ap (λ (b : Bool). faults_at 20 (at_unless b (expr_pos x)) ++ []) e) refl (refused_noted 20 (expr_pos x) s) (record { opened = refl; entry = refl }))

    number_reads : (num : Num) (w : Value) (s : Typer) → form_of shape ≡ form.Scalar num → value_of (seen_as meant s.names) x ≡ w →
        Reads Wanted s (Initial x ∷ []) (λ z. At os found) (and_then (constant (expr_pos x) w s) (within (expr_pos x) num))
    unfolding see
    number_reads num v.Varies s f h =
        one_at (λ y. refused_one 18 (expr_pos x) (seeing s os found y) (fault 18 (expr_pos x) ∷ []) refl (item_breaks s (form.Scalar num) v.Varies y f h) refl (refused_noted 18 (expr_pos x) s) (record { opened = refl; entry = refl }))
    number_reads num (v.Errs from) s f h =
        one_at (λ y. refused_one 18 (expr_pos x) (seeing s os found y) (fault 18 (expr_pos x) ∷ []) refl (item_breaks s (form.Scalar num) (v.Errs from) y f h) refl (refused_noted 18 (expr_pos x) s) (record { opened = refl; entry = refl }))
    number_reads num v.Unknown s f h = one_at (λ y. one_as (seeing s os found y) [] refl (item_breaks s (form.Scalar num) v.Unknown y f h) refl (nothing_added s) (record { opened = refl; entry = refl }))
    number_reads num (v.Is c) s f h = within_by num c (is_of num c.value) s f refl h

    pub item_reads : (num : Num) (i : Operand) (s : Typer) → form_of shape ≡ form.Scalar num → known_value i ≡ value_of (seen_as meant s.names) x → Reads Wanted s (Initial x ∷ []) (λ z. At os found) (item (expr_pos x) num i s)
    unfolding item
    item_reads num i s f h =
        then_here (λ u t. and_then (constant (expr_pos x) (known_value i) t) (within (expr_pos x) num)) (quiet (no_object_quiet i s))
        (number_reads num (known_value i) (state (no_object i s)) f (ap (λ (names : _). value_of (seen_as meant names) x) (no_object_quiet i s).names ∙ sym h))
