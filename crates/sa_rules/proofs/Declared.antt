-- Initialisers and declarations see and refuse what their events do.
use Rattle.std.proofs.Common.{◌≡◌, ℕ, ◌+◌, Bool, true, false, not, ◌&&◌, List, [], ◌∷◌, ◌++◌, refl, sym, ap, subst, ◌∙◌, Option, Some, None}
use Rattle.std.specs.Prelude.{ℤ}
use Rattle.sa_base.specs.declared.num.Num.{Num}
use Rattle.sa_base.specs.declared.num.Num.TheVariants.{I32}
use Rattle.sa_base.specs.declared.pos.Pos.{Pos}
use Rattle.sa_syntax.specs.declared.decl.Declr.{out-Declr}
use Rattle.sa_syntax.specs.declared.decl.Init as inits
use Rattle.sa_syntax.specs.declared.decl.Init.{Init, Value, Braces', Row_of-Init, end_of-Init, more_of-Init}
use Rattle.sa_syntax.specs.declared.decl.InitDeclr.{InitDeclr}
use Rattle.sa_syntax.specs.declared.decl.Name.{Name}
use Rattle.sa_syntax.specs.declared.decl.Qualified.{Qualified}
use Rattle.sa_syntax.specs.declared.decl.Qualifier.{Qualifier}
use Rattle.sa_syntax.specs.declared.decl.Qualifier.TheVariants.{Const, Volatile, Static}
use Rattle.sa_syntax.specs.declared.decl.Specifiers.{Specifiers, out-Specifiers}
use Rattle.sa_syntax.specs.declared.decl.Start.{Start as Begins}
use Rattle.sa_syntax.specs.declared.decl.Start.TheVariants as begins
use Rattle.sa_syntax.specs.declared.expr.Expr.{Expr}
use Rattle.sa_syntax.specs.declared.stmt.Local.{Local}
use Rattle.sa_syntax.specs.declared.stmt.LocalDeclr.{LocalDeclr}
use Rattle.sa_syntax.specs.declared.stmt.LocalStart.{LocalStart}
use Rattle.sa_syntax.specs.declared.stmt.LocalStart.TheVariants as inner
use Rattle.sa_typed.specs.declared.program.Home.TheVariants as home
use Rattle.sa_typed.specs.declared.shape.Shape.{Shape}
use Rattle.sa_typed.specs.declared.stmt.Stmt.{Stmt}
use Rattle.sa_scopes.specs.declared.form.Form.{Form}
use Rattle.sa_scopes.specs.declared.form.Form.TheVariants as form
use Rattle.sa_operands.specs.declared.operand.Operand.{Operand}
use Rattle.sa_scopes.specs.declared.typer.Typer.{Typer}
use Rattle.sa_scopes.specs.declared.types.Element.{Element}
use Rattle.sa_scopes.specs.declared.types.Element.TheVariants as el
use Rattle.sa_scopes.specs.declared.types.Ty.{Ty}
use Rattle.sa_declarations.specs.Declarations.{initial, global_by, global, next_global, declared, input_type, input_by, are_bare, is_struct, begun_with, begun_by, begun, local_of, next_local, local}
use Rattle.sa_operands.specs.Expressions.{expr}
use Rattle.sa_scopes.specs.First.{expr_pos, init_pos}
use Rattle.sa_scopes.specs.Forms.{form_of, scalar}
use Rattle.sa_scopes.specs.Scopes.{is_some}
use Rattle.sa_declarations.specs.Initialisers.{valued, slotted, init, braced, values}
use Rattle.sa_operands.specs.Operands.{sort_of, is_object, known_value}
use Rattle.sa_scopes.specs.Structures.{slot}
use Rattle.sa_scopes.specs.Types.{qualifier, qualifiers, is_misplaced, has_volatile, shape_of}
use Rattle.sa_scopes.specs.Typing.{Typed, Typing, Gives, each, refused, refuse_if, fault}
use Rattle.sa_rules.specs.Events.{Event, Misplaced, Volatile_before_bare, Starts, Next_item, Begins_with, Initial, Filled, Declares}
use Rattle.sa_rules.specs.Rules.{at_unless, unless_known_for, unfit, is_number}
use Rattle.sa_rules.specs.Scenes.{number_if}
use Rattle.sa_rules.specs.Sight.{Open, Group, For, Sight, see, or_int}
use Rattle.sa_rules.specs.Values.{value_of}
use Rattle.sa_rules.specs.Texts.{in_init, in_inits, in_local_init, starts_input_if, in_start, may_be_input, in_global, at_file_scope, qualifiers_at_file_scope, in_globals, in_local_start, in_local_declr, in_local}
use Rattle.sa_rules.proofs.Walks.{broken, faults_at, meant, seen_as, state, value, then_here, Reads, quiet_gives, quiet_then, quiet_unless, quiet, bind, ends, event, all_parts, refused_noted}
use Rattle.sa_rules.proofs.Steps.{At, Last, seeing, one, one_at, one_last, free_at, one_as, refused_one, nothing_added}
use Rattle.sa_rules.proofs.Names.{group_begins, group_ends, variable_reads, input_reads}
use Rattle.sa_rules.proofs.Qualifiers.{plain_qualifiers}
use Rattle.sa_rules.proofs.Dimensions.{known_there, item_breaks, item_reads}
use Rattle.sa_rules.proofs.Trees.{expr_reads, objects_reads, dimensions_reads}

-- ---- initialisers
module _ (found : Bool) where
  no_number : (os : List Open) (e : Expr) (shape : Shape) (k : ℕ) (f : Form) (zs : List ℤ) (s : Typer) → form_of shape ≡ f → unless_known_for f (expr_pos e) (value_of (seen_as meant s.names) e) ≡ None →
      unfit f (expr_pos e) (value_of (seen_as meant s.names) e) ≡ Some (expr_pos e) → Reads (At (For shape k ∷ os) found) s (Initial e ∷ []) (λ zs. At os found) (Gives zs (refused 20 (expr_pos e) s))
  unfolding see
  no_number os e shape k f zs s h a b =
      one_at (λ y. refused_one 20 (expr_pos e) (seeing s os found y) (fault 20 (expr_pos e) ∷ []) refl
      (item_breaks os found e shape k s f (value_of (seen_as meant s.names) e) y h refl
      ∙ ap (λ (o : Option Pos). faults_at 18 o ++ (faults_at 20 (unfit f (expr_pos e) (value_of (seen_as meant s.names) e)) ++ [])) a ∙ ap (λ (o : Option Pos). faults_at 20 o ++ []) b) refl
      (refused_noted 20 (expr_pos e) s) (record { opened = refl; entry = refl }))

  valued_reads : (os : List Open) (e : Expr) (shape : Shape) (k : ℕ) (f : Form) (i : Operand) (zs : List ℤ) (s : Typer) → form_of shape ≡ f → known_value i ≡ value_of (seen_as meant s.names) e →
      Reads (At (For shape k ∷ os) found) s (Initial e ∷ []) (λ zs. At os found) (valued (expr_pos e) f i zs s)
  valued_reads os e shape k (form.Scalar num) i zs s h g = ends (item_reads os found e shape k num i s h g) (λ z t. quiet_gives)
  valued_reads os e shape k (form.Struct j) i zs s h g = no_number os e shape k (form.Struct j) zs s h refl refl
  valued_reads os e shape k (form.Array n) i zs s h g = no_number os e shape k (form.Array n) zs s h refl refl

  next_see : (os : List Open) (s : Typer) (p : Pos) (shape : Shape) (k : ℕ) (o : Option Shape) (y : Ty) → slot s.structs shape k ≡ o →
      see (seeing s (For shape k ∷ os) found y) (Next_item p) ≡ seeing s (For (or_int o) 0 ∷ For shape (k + 1) ∷ os) found y
  unfolding see
  next_see os s p shape k o y h = ap (λ (z : Option Shape). seeing s (For (or_int z) 0 ∷ For shape (k + 1) ∷ os) found y) h

  -- an item
  slotted_reads : (os : List Open) (p : Pos) (shape : Shape) (k : ℕ) (o : Option Shape) (m : Shape → Typing (List ℤ)) (es : List Event) (s : Typer) → slot s.structs shape k ≡ o →
      ((inner : Shape) (t : Typer) → Reads (At (For inner 0 ∷ For shape (k + 1) ∷ os) found) t es (λ zs. At (For shape (k + 1) ∷ os) found) (m inner t)) →
      Reads (At (For shape k ∷ os) found) s (Next_item p ∷ es) (λ zs. At (For shape (k + 1) ∷ os) found) (slotted p o m s)
  unfolding see
  slotted_reads os p shape k None m es s h one =
      bind {xs = Next_item p ∷ []} {Y = λ (u : Unit {0}). At (For (scalar I32) 0 ∷ For shape (k + 1) ∷ os) found}
      (one_at (λ y. refused_one 20 p (seeing s (For (scalar I32) 0 ∷ For shape (k + 1) ∷ os) found y) (fault 20 p ∷ []) (next_see os s p shape k None y h)
      (ap (λ (z : Option Shape). faults_at 20 (at_unless (is_some z) p) ++ []) h) refl (refused_noted 20 p s) (record { opened = refl; entry = refl }))) (λ u t. one (scalar I32) t)
  slotted_reads os p shape k (Some inner) m es s h one =
      bind {xs = Next_item p ∷ []} {Y = λ (u : Unit {0}). At (For inner 0 ∷ For shape (k + 1) ∷ os) found} {t = Gives (tt {0}) s} {f = λ u. m inner}
      (one_at (λ y. one_as (seeing s (For inner 0 ∷ For shape (k + 1) ∷ os) found y) [] (next_see os s p shape k (Some inner) y h)
      (ap (λ (z : Option Shape). faults_at 20 (at_unless (is_some z) p) ++ []) h) refl (nothing_added s) (record { opened = refl; entry = refl }))) (λ u t. one inner t)

  filled_reads : (os : List Open) (shape : Shape) (k : ℕ) (zs : List ℤ) (s : Typer) → Reads (At (For shape k ∷ os) found) s (Filled ∷ []) (λ zs. At os found) (Gives zs s)
  unfolding see
  filled_reads os shape k zs s = event {Z = At os found} (λ m a. free_at m (λ v y. record { scene = refl; broken = refl; post = record { opened = refl; entry = refl } }) a) (quiet quiet_gives)

  mutual
    unfolding init in_init

    init_reads : (os : List Open) (i : Init) (shape : Shape) (zs : List ℤ) (s : Typer) → Reads (At (For shape 0 ∷ os) found) s (in_init i) (λ zs. At os found) (init i shape zs s)
    init_reads os (Value e) shape zs s =
        then_here (λ x. valued (expr_pos e) (form_of shape) x zs) (expr_reads found (For shape 0 ∷ os) e s)
        (valued_reads os e shape 0 (form_of shape) (value (expr e s)) zs (state (expr e s)) refl (known_there e s))
    init_reads os (Braces' p n row) shape zs s = braced_reads os row p shape 0 zs s

    braced_reads : {n : _} (os : List Open) (row : Row_of-Init n) (p : Pos) (shape : Shape) (k : ℕ) (zs : List ℤ) (s : Typer) → Reads (At (For shape k ∷ os) found) s (in_inits p row) (λ zs. At os found) (braced row p shape k zs s)
    braced_reads os end_of-Init p shape k zs s = filled_reads os shape k _ s
    braced_reads os (more_of-Init i rest) p shape k zs s =
        bind (slotted_reads os p shape k (slot s.structs shape k) (λ inner. init i inner zs) (in_init i) s refl (λ inner t. init_reads (For shape (k + 1) ∷ os) i inner zs t)) (λ zs t. braced_reads os rest p shape (k + 1) zs t)

  values_reads : (os : List Open) (i : Init) (shape : Shape) (s : Typer) → Reads (At (For shape 0 ∷ os) found) s (in_init i) (λ zs. At os found) (values i shape s)
  unfolding values
  values_reads os i shape s = ends (init_reads os i shape [] s) (λ zs t. quiet_gives)

  starts : {A : Type 0} {s : Typer} {xs : List Event} {Y : A → Sight → Type 0} {t : Typed A} (os : List Open) (ty : Ty) (dims : List ℕ) → Reads (At (For (shape_of ty.element dims) 0 ∷ Group ty dims ∷ os) found) s xs Y t →
      Reads (At (Group ty dims ∷ os) found) s (Starts ∷ xs) Y t
  unfolding see
  starts os ty dims h = event (λ m a. free_at m (λ v y. record { scene = refl; broken = refl; post = record { opened = refl; entry = refl } }) a) h

-- ---- the file scope
module _ (os : List Open) (found : Bool) where
  abbrev Of_group : Ty → List ℕ → Sight → Type 0
  Of_group ty dims = At (Group ty dims ∷ os) found

  starts_input : (X : Sight → Type 0) (b : Bool) (p : Pos) (s : Typer) → Reads X s (starts_input_if b p) (λ (u : Unit {0}). X) (refuse_if b 20 p s)
  unfolding see
  starts_input X true p s = one (λ m h x. refused_one 20 p m (fault 20 p ∷ []) refl refl h (refused_noted 20 p s) x)
  starts_input X false p s = quiet quiet_gives

  initial_reads : (volatile : Bool) (ty : Ty) (dims : List ℕ) (b : Begins) (s : Typer) → Reads (Of_group ty dims) s (in_start volatile b) (λ zs. Of_group ty dims) (initial volatile (shape_of ty.element dims) b s)
  initial_reads volatile ty dims begins.Nothing s = quiet quiet_gives
  initial_reads volatile ty dims (begins.Init p i) s =
      bind (starts_input (Of_group ty dims) volatile (init_pos i) s) (λ a t. starts found os ty dims (values_reads found (Group ty dims ∷ os) i (shape_of ty.element dims) t))

  variable_by : (volatile input : Bool) (ty : Ty) (x : Name) (dims : List ℕ) (b : Begins) (s : Typer) → number_if input ty.element dims ≡ None →
      Reads (Of_group ty dims) s (in_start volatile b ++ Declares input x ∷ []) (λ a. Of_group ty []) (global_by None volatile ty x (shape_of ty.element dims) b s)
  variable_by volatile input ty x dims b s h =
      bind (initial_reads volatile ty dims b s) (λ zs t. ends (variable_reads os found x input ty dims home.Global zs t h) (λ k u. quiet_gives))

  no_input_by : (e : Element) (dims : List ℕ) (p : Pos) (i : Init) → input_by e dims (begins.Init p i) ≡ None
  no_input_by el.Void dims p i = refl
  no_input_by (el.Scalar num) [] p i = refl
  no_input_by (el.Scalar num) (d ∷ ds) p i = refl
  no_input_by (el.Struct k) dims p i = refl
  no_input_by el.Unknown dims p i = refl

  no_input : (volatile : Bool) (e : Element) (dims : List ℕ) (p : Pos) (i : Init) → input_type volatile e dims (begins.Init p i) ≡ None
  no_input true e dims p i = no_input_by e dims p i
  no_input false e dims p i = refl

  same_input : (e : Element) (dims : List ℕ) → number_if true e dims ≡ input_by e dims begins.Nothing
  same_input el.Void dims = refl
  same_input (el.Scalar num) [] = refl
  same_input (el.Scalar num) (d ∷ ds) = refl
  same_input (el.Struct k) dims = refl
  same_input el.Unknown dims = refl

  bare_reads : (o : Option Num) (ty : Ty) (x : Name) (dims : List ℕ) (s : Typer) → input_by ty.element dims begins.Nothing ≡ o →
      Reads (Of_group ty dims) s (Declares true x ∷ []) (λ a. Of_group ty []) (global_by o true ty x (shape_of ty.element dims) begins.Nothing s)
  bare_reads (Some num) ty x dims s h = input_reads os found x num ty dims s (same_input ty.element dims ∙ h)
  bare_reads None ty x dims s h = variable_by true true ty x dims begins.Nothing s (same_input ty.element dims ∙ h)

  start_reads : (volatile : Bool) (ty : Ty) (x : Name) (dims : List ℕ) (b : Begins) (s : Typer) →
      Reads (Of_group ty dims) s (in_start volatile b ++ Declares (may_be_input volatile b) x ∷ []) (λ a. Of_group ty []) (global_by (input_type volatile ty.element dims b) volatile ty x (shape_of ty.element dims) b s)
  start_reads true ty x dims begins.Nothing s = bare_reads (input_by ty.element dims begins.Nothing) ty x dims s refl
  start_reads false ty x dims begins.Nothing s = variable_by false false ty x dims begins.Nothing s refl
  start_reads volatile ty x dims (begins.Init p i) s =
      subst (λ (o : Option Num). Reads (Of_group ty dims) s (in_start volatile (begins.Init p i) ++ Declares false x ∷ []) (λ a. Of_group ty []) (global_by o volatile ty x (shape_of ty.element dims) (begins.Init p i) s))
      (sym (no_input volatile ty.element dims p i)) (variable_by volatile false ty x dims (begins.Init p i) s refl)

  global_reads : (volatile : Bool) (ty : Ty) (d : InitDeclr) (s : Typer) → Reads (Of_group ty []) s (in_global volatile d) (λ a. Of_group ty []) (global volatile ty d s)
  unfolding global in_global
  global_reads volatile ty d s =
      bind (dimensions_reads found os ty (out-Declr d.declr).bounds s) (λ dims t. start_reads volatile ty (out-Declr d.declr).name dims d.start t)

  -- qualifiers at file scope
  bare_volatile : (e : Element) (p : Pos) (s : Typer) (c : Bool) → let ty : Ty = record { element = e; constant = c } in
      Reads (Last os found ty) s (Volatile_before_bare p ∷ []) (λ (u : Unit {0}). Last os found ty) (refuse_if (is_struct e) 21 p s)
  unfolding see
  bare_volatile el.Void p s c = one_last (one_as _ [] refl refl refl (nothing_added s) (record { opened = refl; entry = refl; last = refl }))
  bare_volatile (el.Scalar num) p s c = one_last (one_as _ [] refl refl refl (nothing_added s) (record { opened = refl; entry = refl; last = refl }))
  bare_volatile el.Unknown p s c = one_last (one_as _ [] refl refl refl (nothing_added s) (record { opened = refl; entry = refl; last = refl }))
  bare_volatile (el.Struct k) p s c = one_last (refused_one 21 p _ (fault 21 p ∷ []) refl refl refl (refused_noted 21 p s) (record { opened = refl; entry = refl; last = refl }))

  misplaced_volatile : (ty : Ty) (p : Pos) (s : Typer) → Reads (Last os found ty) s (Misplaced p ∷ []) (λ (u : Unit {0}). Last os found ty) (refuse_if true 21 p s)
  unfolding see
  misplaced_volatile ty p s = one (λ m h a. refused_one 21 p m (fault 21 p ∷ []) refl refl h (refused_noted 21 p s) a)

  if_struct : (e : Element) → not (not (is_struct e) && true) ≡ is_struct e
  if_struct el.Void = refl
  if_struct (el.Scalar num) = refl
  if_struct (el.Struct k) = refl
  if_struct el.Unknown = refl

  if_wide : (e : Element) → not (not (is_struct e) && false) ≡ true
  if_wide el.Void = refl
  if_wide (el.Scalar num) = refl
  if_wide (el.Struct k) = refl
  if_wide el.Unknown = refl

  file_qualifier : (ty : Ty) (bare : Bool) (w : Qualifier) (p : Pos) (s : Typer) →
      Reads (Last os found ty) s (at_file_scope bare p w) (λ (u : Unit {0}). Last os found ty) (refuse_if (is_misplaced (not (is_struct ty.element) && bare) true w) 21 p s)
  file_qualifier ty true Const p s = quiet quiet_gives
  file_qualifier ty true Static p s = quiet quiet_gives
  file_qualifier ty false Const p s = quiet quiet_gives
  file_qualifier ty false Static p s = quiet quiet_gives
  file_qualifier ty true Volatile p s =
      subst (λ (b : Bool). Reads (Last os found ty) s (Volatile_before_bare p ∷ []) (λ (u : Unit {0}). Last os found ty) (refuse_if b 21 p s)) (sym (if_struct ty.element)) (bare_volatile ty.element p s ty.constant)
  file_qualifier ty false Volatile p s =
      subst (λ (b : Bool). Reads (Last os found ty) s (Misplaced p ∷ []) (λ (u : Unit {0}). Last os found ty) (refuse_if b 21 p s)) (sym (if_wide ty.element)) (misplaced_volatile ty p s)

  file_qualifiers_by : (ty : Ty) (bare : Bool) (qs : List Qualified) (u : Unit {0}) (s : Typer) →
      Reads (Last os found ty) s (qualifiers_at_file_scope bare qs) (λ (u : Unit {0}). Last os found ty) (each (qualifier (not (is_struct ty.element) && bare) true) qs u s)
  unfolding each qualifiers_at_file_scope
  file_qualifiers_by ty bare [] u s = quiet quiet_gives
  file_qualifiers_by ty bare (q ∷ qs) u s = bind (file_qualifier ty bare q.word q.pos s) (λ v t. file_qualifiers_by ty bare qs v t)

  file_qualifiers : (ty : Ty) (bare : Bool) (qs : List Qualified) (s : Typer) →
      Reads (Last os found ty) s (qualifiers_at_file_scope bare qs) (λ (u : Unit {0}). Last os found ty) (qualifiers (not (is_struct ty.element) && bare) true qs s)
  unfolding qualifiers
  file_qualifiers ty bare qs s = file_qualifiers_by ty bare qs tt s

  pub declared_reads : (ty : Specifiers) (ds : List InitDeclr) (s : Typer) → Reads (At os found) s (in_globals ty ds) (λ a. At os found) (declared ty ds s)
  unfolding declared in_globals
  declared_reads ty ds s =
      bind (objects_reads found os ty s)
      (λ y t. bind (file_qualifiers y (are_bare ds) (out-Specifiers ty).qualifiers t)
      (λ a u. group_begins os found y (group_ends (λ (a : Unit {0}). os) found y
      (all_parts (λ (a : Unit {0}). Of_group y []) (next_global (has_volatile (out-Specifiers ty).qualifiers) y) (in_global (has_volatile (out-Specifiers ty).qualifiers))
      (λ d a s. global_reads (has_volatile (out-Specifiers ty).qualifiers) y d s) ds tt u))))

  -- ---- locals
  begun_with_broken : (e : Expr) (shape : Shape) (f : Form) (m : Sight) → form_of shape ≡ f → broken (record m { opened = For shape 0 ∷ os }) (Begins_with e) ≡ faults_at 20 (at_unless (is_number f) (expr_pos e)) ++ []
  begun_with_broken e shape f m h = ap (λ (g : Form). faults_at 20 (at_unless (is_number g) (expr_pos e)) ++ []) h

  begun_refused : {A : Type 0} {b : A} (e : Expr) (shape : Shape) (f : Form) (s : Typer) → form_of shape ≡ f → is_number f ≡ false →
      Reads (At (For shape 0 ∷ os) found) s (Begins_with e ∷ []) (λ (b : A). At os found) (Gives b (refused 20 (expr_pos e) s))
  unfolding see
  begun_refused e shape f s h g =
      one_at (λ y. refused_one 20 (expr_pos e) (seeing s os found y) (fault 20 (expr_pos e) ∷ []) refl
      (begun_with_broken e shape f (seeing s os found y) h ∙ ap (λ (b : Bool). faults_at 20 (at_unless b (expr_pos e)) ++ []) g) refl (refused_noted 20 (expr_pos e) s) (record { opened = refl; entry = refl }))

  begun_with_reads : (e : Expr) (p : Pos) (shape : Shape) (f : Form) (x : Operand) (s : Typer) → form_of shape ≡ f →
      Reads (At (For shape 0 ∷ os) found) s (Begins_with e ∷ []) (λ b. At os found) (begun_with p (expr_pos e) f x s)
  unfolding see
  begun_with_reads e p shape (form.Scalar num) x s h =
      event {Z = At os found}
      (λ m a. free_at m (λ v y. record { scene = refl; broken = begun_with_broken e shape (form.Scalar num) (record { scene = v; opened = os; last = y; entry = found }) h; post = record { opened = refl; entry = refl } }) a)
      (quiet (quiet_then (quiet_unless (is_object (sort_of x)) 5 p refl) (λ a t. quiet_gives)))
  begun_with_reads e p shape (form.Struct k) x s h = begun_refused e shape (form.Struct k) s h refl
  begun_with_reads e p shape (form.Array n) x s h = begun_refused e shape (form.Array n) s h refl

  begun_by_reads : (p : Pos) (shape : Shape) (i : Init) (s : Typer) → Reads (At (For shape 0 ∷ os) found) s (in_local_init i) (λ b. At os found) (begun_by p shape i s)
  unfolding inits.out-Init denote.Hole.Carrier.out in_local_init in_init
  begun_by_reads p shape (Value e) s = bind (expr_reads found (For shape 0 ∷ os) e s) (λ x t. begun_with_reads e p shape (form_of shape) x t refl)
  begun_by_reads p shape (Braces' q n row) s = ends (values_reads found os (Braces' q n row) shape s) (λ zs t. quiet_gives)

module _ (os : List Open) (found : Bool) where
  begun_reads : (ty : Ty) (dims : List ℕ) (b : LocalStart) (s : Typer) → Reads (Of_group os found ty dims) s (in_local_start b) (λ b. Of_group os found ty dims) (begun (shape_of ty.element dims) b s)
  unfolding begun
  begun_reads ty dims inner.Nothing s = quiet quiet_gives
  begun_reads ty dims (inner.Init p i) s = starts found os ty dims (begun_by_reads (Group ty dims ∷ os) found p (shape_of ty.element dims) i s)
  begun_reads ty dims (inner.Call p c) s = quiet quiet_gives

  local_of_reads : (ty : Ty) (d : LocalDeclr) (s : Typer) → Reads (Of_group os found ty []) s (in_local_declr d) (λ a. Of_group os found ty []) (local_of ty d s)
  unfolding local_of in_local_declr
  local_of_reads ty d s =
      bind (dimensions_reads found os ty (out-Declr d.declr).bounds s)
      (λ dims t. bind (begun_reads ty dims d.start t)
      (λ b u. ends (variable_reads os found (out-Declr d.declr).name false ty dims (home.Local 0) b.initial u refl) (λ k v. quiet_gives)))

  pub local_reads : (l : Local) (stmts : List Stmt) (s : Typer) → Reads (At os found) s (in_local l) (λ a. At os found) (local l stmts s)
  unfolding local in_local
  local_reads l stmts s =
      bind (plain_qualifiers (At os found) (out-Specifiers l.ty).qualifiers s)
      (λ a t. bind (objects_reads found os l.ty t)
      (λ ty u. group_begins os found ty (group_ends (λ (a : List Stmt). os) found ty
      (all_parts (λ (a : List Stmt). Of_group os found ty []) (next_local ty) in_local_declr (λ d all s. ends (local_of_reads ty d s) (λ b v. quiet_gives)) l.declrs stmts u))))
