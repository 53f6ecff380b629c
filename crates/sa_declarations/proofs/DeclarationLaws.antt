-- What declarations promise of the program that the walk ends in.
use Rattle.std.proofs.Common.{◌≡◌, ℕ, zero, suc, ◌+◌, ◌<◌, ◌≤◌, ℤ, pos, Bool, true, false, not, ◌&&◌, List, [], ◌∷◌, ◌++◌, length, refl, sym, ap, subst, ◌∙◌, arith, Option, Some, None, ◌⊎◌, inl, inr}
use Rattle.std.proofs.lemmas.List.{length-append}
use Rattle.std.specs.Prelude.{if◌then◌else◌, slice_get, reverse}
use Rattle.sa_base.specs.declared.num.Num.{Num}
use Rattle.sa_base.specs.declared.pos.Pos.{Pos}
use Rattle.sa_syntax.specs.declared.decl.Declr.{Declr, out-Declr}
use Rattle.sa_syntax.specs.declared.decl.Init as inits
use Rattle.sa_syntax.specs.declared.decl.Init.{Init, Value, Braces'}
use Rattle.sa_syntax.specs.declared.decl.InitDeclr.{InitDeclr}
use Rattle.sa_syntax.specs.declared.decl.Name.{Name}
use Rattle.sa_syntax.specs.declared.decl.Specifiers.{Specifiers, out-Specifiers}
use Rattle.sa_syntax.specs.declared.decl.Start.{Start as Begins}
use Rattle.sa_syntax.specs.declared.decl.Start.TheVariants as begins
use Rattle.sa_syntax.specs.declared.stmt.Local.{Local}
use Rattle.sa_syntax.specs.declared.stmt.LocalDeclr.{LocalDeclr}
use Rattle.sa_syntax.specs.declared.stmt.LocalStart.{LocalStart}
use Rattle.sa_syntax.specs.declared.stmt.LocalStart.TheVariants as inner
use Rattle.sa_typed.specs.Layouts.{Layout, leaf, rows, layout_with, shape_layout, layout_of, var_layout, nums}
use Rattle.sa_typed.specs.TypedExpressions.{is_named_by}
use Rattle.sa_typed.specs.TypedPrograms.{IsOwn, IsTypedBeginning}
use Rattle.sa_typed.specs.WellTyped.{HasTypedItems, num_of_input}
use Rattle.sa_typed.specs.declared.program.Home.{Home}
use Rattle.sa_typed.specs.declared.program.Home.TheVariants as home
use Rattle.sa_typed.specs.declared.program.Input.{Input}
use Rattle.sa_typed.specs.declared.program.Program.{Program}
use Rattle.sa_typed.specs.declared.program.Var.{Var}
use Rattle.sa_typed.specs.declared.shape.Plain.{Plain}
use Rattle.sa_typed.specs.declared.shape.Plain.TheVariants.{Scalar, Struct}
use Rattle.sa_typed.specs.declared.shape.Shape.{Shape}
use Rattle.sa_typed.specs.declared.stmt.Simple.TheVariants as simply
use Rattle.sa_typed.specs.declared.stmt.Start.TheVariants as start
use Rattle.sa_typed.specs.declared.stmt.Stmt.{Stmt}
use Rattle.sa_typed.specs.declared.stmt.Stmt.TheVariants as t
use Rattle.sa_declarations.specs.declared.beginning.Beginning.{Beginning}
use Rattle.sa_operands.specs.declared.operand.Operand.{Operand}
use Rattle.sa_scopes.specs.declared.types.Element.{Element}
use Rattle.sa_scopes.specs.declared.types.Element.TheVariants as el
use Rattle.sa_scopes.specs.declared.types.Named.{Named}
use Rattle.sa_scopes.specs.declared.types.Named.TheVariants as n
use Rattle.sa_scopes.specs.declared.types.Ty.{Ty}
use Rattle.sa_scopes.specs.declared.typer.Typer.{Typer}
use Rattle.sa_scopes.specs.First.{expr_pos, init_pos}
use Rattle.sa_scopes.specs.Scopes.{Scope, is_visible, with_name}
use Rattle.sa_scopes.specs.Types.{has_volatile, shape_of}
use Rattle.sa_scopes.specs.Forms.{form_by}
use Rattle.sa_operands.specs.Operands.{sort_of, is_object, expr_or}
use Rattle.sa_declarations.specs.Initialisers.{trimmed, values}
use Rattle.sa_operands.specs.Lists.{bounds}
use Rattle.sa_declarations.specs.Declarations.{named, var, added, variable, added_input, input, input_type, initial, global_by, global, next_global, globals, are_bare, is_struct, declared, beginning, begun_with, begun_by, begun, local_as, local_of, next_local, locals, local}
use Rattle.sa_scopes.specs.Typing.{Typed, Typing, Gives, and_then, pure, fault, refused}
use Rattle.sa_scopes.proofs.StructLaws.{IsFront, slice_front, slice_last, slice_cases, RefersBelow, refers_more}
use Rattle.sa_operands.proofs.RowLaws.{GoodStmt, AllStmts, stmts_append, simple_typed}
use Rattle.sa_scopes.proofs.WalkLaws.{Ends, Later, no_fault, ElementBelow, element_more, IsThere, there_more, IsSound, Well, Leads, Any, gives, refuses, refusal, bind, next, from, here, free, also, so, either, one_of, unless, all_parts}
use Rattle.sa_operands.proofs.OperandLaws.{GoodOperand, part_good}
use Rattle.sa_operands.proofs.PlaceLaws.{shaped}
use Rattle.sa_operands.proofs.TypeLaws.{GoodTy, shape_below, qualifiers_leads}
use Rattle.sa_operands.proofs.ExprLaws.{expr_leads, object_type_leads, all_bounds_leads}
use Rattle.sa_declarations.proofs.InitialLaws.{Fits, initial_leads, whole_layout, has_items, has_none}

-- ---- names
module _ (p : Program) where
  -- with another name that stands for what is there
  names_with : (s : Scope Named) (w : List ℕ) (m : Named) (a b c d : ℕ) → a ≤ c → b ≤ d → ((i : ℕ) (x : Named) → slice_get s.meanings i ≡ Some x → IsThere p a b x) → IsThere p c d m →
      (i : ℕ) (x : Named) → slice_get (with_name s w m).meanings i ≡ Some x → IsThere p c d x
  names_with s w m a b c d l r h k i x g = elim (slice_cases s.meanings m i x g) [ inl f ↦ there_more p a b c d x l r (h i x f) | inr f ↦ subst (IsThere p c d) f.1 k ]

  pub named_leads : (x : Name) (m : Named) (s : Typer) → Leads p (IsThere p (length s.structs.defs) (length s.vars) m) s Any (named x m s)
  unfolding named
  named_leads x m s =
      either (is_visible s.names x.text) (λ b. refuses 2 x.pos) (λ b. record {
        later = record { back = λ e. record { clear = e.clear; structs = e.structs; vars = e.vars; inputs = e.inputs }; more = omega arith };
        good = λ w h e. (
          record {
            names = names_with s.names x.text m (length s.structs.defs) (length s.vars) (length s.structs.defs) (length s.vars) (omega arith) (omega arith) w.names h;
            tags = w.tags;
            defs = w.defs;
            vars = w.vars;
          },
          tt,
        );
      })

  -- ---- variables
  -- what a variable of that shape has for initial values, once the program has it
  abbrev pub HoldsItems : Shape → List ℤ → Type 0
  HoldsItems shape zs = (k : ℕ) (v : Var) → slice_get p.vars k ≡ Some v → v.shape ≡ shape → v.initial ≡ zs → HasTypedItems p k v

  pub record IsNew (s : Typer) (shape : Shape) (home : Home) (zs : List ℤ) : Type 0 where
    pub below : RefersBelow (length s.structs.defs) shape
    pub stays : is_named_by 0 home ≡ true
    pub items : HoldsItems shape zs

  -- after a refusal nothing is promised, whatever else is seen
  refused_vars : (rule : ℕ) (q : Pos) (s : Typer) (v : Var) → Ends p (record (refused rule q s) { vars = (refused rule q s).vars ++ v ∷ [] }) → ⊥
  unfolding refused
  refused_vars rule q s v e = no_fault s.faults (fault rule q) e.clear

  refused_inputs : (rule : ℕ) (q : Pos) (s : Typer) (i : Input) → Ends p (record (refused rule q s) { inputs = (refused rule q s).inputs ++ i ∷ [] }) → ⊥
  unfolding refused
  refused_inputs rule q s i e = no_fault s.faults (fault rule q) e.clear

  same_defs : (rule : ℕ) (q : Pos) (s : Typer) → length s.structs.defs ≤ length (refused rule q s).structs.defs
  unfolding refused
  same_defs rule q s = omega arith

  more_vars : (vs : List Var) (v : Var) → length vs < length (vs ++ v ∷ [])
  more_vars vs v = omega (arith, length-append vs (v ∷ []))

  vars_with : (s : Typer) (v : Var) (home : Home) → IsFront (s.vars ++ v ∷ []) p.vars → Well p s → IsNew s v.shape v.home v.initial →
      (k : ℕ) (x : Var) → slice_get (s.vars ++ v ∷ []) k ≡ Some x → IsSound p (length s.structs.defs) k x
  vars_with s v home front w h k x g =
      elim (slice_cases s.vars v k x g) [
        | inl f ↦ w.vars k x f
        | inr f ↦ record {
          shape = subst (λ (y : Var). RefersBelow (length s.structs.defs) y.shape) f.1 h.below;
          items = h.items k x (front k x g) (ap (λ (y : Var). y.shape) (sym f.1)) (ap (λ (y : Var). y.initial) (sym f.1));
          home = ap (λ (y : Var). is_named_by 0 y.home) (sym f.1) ∙ h.stays;
        }
      ]

  -- the state with another variable
  abbrev with_variable : Typer → Name → Var → Typer
  with_variable s x v = record s { names = with_name s.names x.text (n.Variable (length s.vars)); vars = s.vars ++ v ∷ [] }

  added_leads : (x : Name) (v : Var) (s : Typer) → Leads p (IsNew s v.shape v.home v.initial) s (λ k t. slice_get p.vars k ≡ Some v) (Gives (length s.vars) (with_variable s x v))
  added_leads x v s = record {
    later = record { back = λ e. record { clear = e.clear; structs = e.structs; vars = λ k y g. e.vars k y (slice_front s.vars (v ∷ []) k y g); inputs = e.inputs }; more = omega arith };
    good = λ w h e. (
      record {
        names = names_with s.names x.text (n.Variable (length s.vars)) (length s.structs.defs) (length s.vars) (length s.structs.defs) (length (s.vars ++ v ∷ [])) (omega arith)
            (let m = more_vars s.vars v in omega arith) w.names (more_vars s.vars v);
        tags = w.tags;
        defs = w.defs;
        vars = vars_with s v v.home e.vars w h;
      },
      e.vars (length s.vars) v (slice_last s.vars v),
    );
  }

  refused_variable : {X : Type 0} {Y : ℕ → Typer → Type 0} (rule : ℕ) (q : Pos) (s : Typer) (v : Var) (k : ℕ) → Leads p X s Y (Gives k (record (refused rule q s) { vars = (refused rule q s).vars ++ v ∷ [] }))
  refused_variable rule q s v k = record {
    later = record { back = λ e. absurd (refused_vars rule q s v e); more = same_defs rule q s };
    good = λ w h e. absurd (refused_vars rule q s v e);
  }

  pub variable_leads : (x : Name) (shape : Shape) (home : Home) (constant : Bool) (zs : List ℤ) (s : Typer) →
      Leads p (IsNew s shape home zs) s (λ k t. slice_get p.vars k ≡ Some (var x shape home constant zs)) (variable x shape home constant zs s)
  unfolding variable named
  variable_leads x shape home constant zs s =
      elim (is_visible s.names x.text) as (λ b. Leads p (IsNew s shape home zs) s (λ k t. slice_get p.vars k ≡ Some (var x shape home constant zs))
      (and_then (and_then (if b then Gives tt (refused 2 x.pos s) else Gives tt (record s { names = with_name s.names x.text (n.Variable (length s.vars)) })) (λ u. added (var x shape home constant zs)))
      (λ u. pure (length s.vars)))) [
        | true ↦ refused_variable 2 x.pos s (var x shape home constant zs) (length s.vars)
        | false ↦ added_leads x (var x shape home constant zs) s
      ]

  -- ---- inputs
  added_input_leads : {X : Type 0} (x : Name) (num : Num) (s : Typer) → Leads p X s (Any {A = Unit {0}})
      (Gives tt (record s { names = with_name s.names x.text (n.Input (length s.inputs) num); inputs = s.inputs ++ record { name = x.text; num = num } ∷ [] }))
  added_input_leads x num s =
      let i : Input = record { name = x.text; num = num } in
      record {
        later = record { back = λ e. record { clear = e.clear; structs = e.structs; vars = e.vars; inputs = λ k y g. e.inputs k y (slice_front s.inputs (i ∷ []) k y g) }; more = omega arith };
        good = λ w h e. (
          record {
            names = names_with s.names x.text (n.Input (length s.inputs) num) (length s.structs.defs) (length s.vars) (length s.structs.defs) (length s.vars) (omega arith) (omega arith) w.names
                (ap num_of_input (e.inputs (length s.inputs) i (slice_last s.inputs i)));
            tags = w.tags;
            defs = w.defs;
            vars = w.vars;
          },
          tt,
        );
      }

  refused_input : {X : Type 0} (rule : ℕ) (q : Pos) (s : Typer) (i : Input) → Leads p X s (Any {A = Unit {0}}) (Gives tt (record (refused rule q s) { inputs = (refused rule q s).inputs ++ i ∷ [] }))
  refused_input rule q s i = record {
    later = record { back = λ e. absurd (refused_inputs rule q s i e); more = same_defs rule q s };
    good = λ w h e. absurd (refused_inputs rule q s i e);
  }

  input_leads : {X : Type 0} (x : Name) (num : Num) (s : Typer) → Leads p X s Any (input x num s)
  unfolding input named
  input_leads {X = X} x num s =
      elim (is_visible s.names x.text) as (λ b. Leads p X s Any
      (and_then (if b then Gives tt (refused 2 x.pos s) else Gives tt (record s { names = with_name s.names x.text (n.Input (length s.inputs) num) })) (λ u. added_input x num))) [
        | true ↦ refused_input 2 x.pos s (record { name = x.text; num = num })
        | false ↦ added_input_leads x num s
      ]

  -- ---- the file scope
  same_fit : (shape : Shape) (v : Var) (zs : List ℤ) → v.shape ≡ shape → Fits (nums (shape_layout p.structs shape)) zs → Fits (nums (shape_layout p.structs v.shape)) zs
  same_fit shape v zs e h = subst (λ (x : Shape). Fits (nums (shape_layout p.structs x)) zs) (sym e) h

  holds_fit : (shape : Shape) (zs : List ℤ) → Fits (nums (shape_layout p.structs shape)) zs → HoldsItems shape (trimmed zs)
  holds_fit shape zs f k v g e i = has_items p k v zs g i (same_fit shape v zs e f)

  holds_none : (shape : Shape) → HoldsItems shape []
  holds_none shape k v g e i = has_none p k v i

  values_leads : (i : Init) (shape : Shape) (s : Typer) → Leads p (RefersBelow (length s.structs.defs) shape) s (λ zs t. HoldsItems shape zs) (values i shape s)
  unfolding values
  values_leads i shape s = next (initial_leads p i shape s) (λ zs t. gives (λ w h e. holds_fit shape zs h.1))

  begins_leads : (volatile : Bool) (shape : Shape) (b : Begins) (s : Typer) → Leads p (RefersBelow (length s.structs.defs) shape) s (λ zs t. HoldsItems shape zs) (initial volatile shape b s)
  begins_leads volatile shape begins.Nothing s = gives (λ w h e. holds_none shape)
  begins_leads volatile shape (begins.Init q i) s =
      bind {Z = λ a t. RefersBelow (length t.structs.defs) shape} (unless volatile 20 (init_pos i)) (λ a t l h w b. refers_more (length s.structs.defs) (length t.structs.defs) shape l.more h)
      (λ a t. values_leads i shape t)

  global_by_leads : (o : Option Num) (volatile : Bool) (ty : Ty) (x : Name) (shape : Shape) (b : Begins) (s : Typer) → Leads p (RefersBelow (length s.structs.defs) shape) s Any (global_by o volatile ty x shape b s)
  global_by_leads (Some num) volatile ty x shape b s = input_leads x num s
  global_by_leads None volatile ty x shape b s =
      bind {Z = λ zs t. IsNew t shape home.Global zs} (begins_leads volatile shape b s)
      (λ zs t l h w y. record { below = refers_more (length s.structs.defs) (length t.structs.defs) shape l.more h; stays = refl; items = y })
      (λ zs t. next (variable_leads x shape home.Global ty.constant zs t) (λ k u. gives (λ w h e. tt)))

  global_leads : (volatile : Bool) (ty : Ty) (d : InitDeclr) (s : Typer) → Leads p (GoodTy ty s) s Any (global volatile ty d s)
  unfolding global
  global_leads volatile ty d s =
      bind {Z = λ dims t. RefersBelow (length t.structs.defs) (shape_of ty.element dims)} (all_bounds_leads p (out-Declr d.declr).bounds s)
      (λ dims t l h w y. shape_below (length t.structs.defs) ty.element dims (element_more (length s.structs.defs) (length t.structs.defs) ty.element l.more h))
      (λ dims t. global_by_leads (input_type volatile ty.element dims d.start) volatile ty (out-Declr d.declr).name (shape_of ty.element dims) d.start t)

  more_ty : (ty : Ty) (s t : Typer) → Later p s t → GoodTy ty s → GoodTy ty t
  more_ty ty s t l h = element_more (length s.structs.defs) (length t.structs.defs) ty.element l.more h

  globals_leads : (volatile : Bool) (ty : Ty) (ds : List InitDeclr) (s : Typer) → Leads p (GoodTy ty s) s Any (globals volatile ty ds s)
  globals_leads volatile ty ds s =
      so (from (λ h. (tt, h)) (all_parts p (Unit {0}) (λ a t. GoodTy ty t) (next_global volatile ty) (λ a s t l h. more_ty ty s t l h)
      (λ d a s. so (from (λ h. (h.1, h.1)) (also (GoodTy ty) (λ t l h. more_ty ty s t l h) (global_leads volatile ty d s))) (λ a t h. h.1)) ds tt s)) (λ a t h. tt)

  pub declared_leads : {X : Type 0} (ty : Specifiers) (ds : List InitDeclr) (s : Typer) → Leads p X s Any (declared ty ds s)
  unfolding declared
  declared_leads ty ds s =
      bind {Z = λ y t. GoodTy y t} (object_type_leads p ty s) (λ y t l h w g. g)
      (λ y t. bind {Z = λ a u. GoodTy y u} (qualifiers_leads p (not (is_struct y.element) && are_bare ds) true (out-Specifiers ty).qualifiers t) (λ a u l h w g. more_ty y t u l h)
      (λ a u. globals_leads (has_volatile (out-Specifiers ty).qualifiers) y ds u))

  -- ---- locals
  pub record IsBeginning (shape : Shape) (b : Beginning) : Type 0 where
    pub items : HoldsItems shape b.initial
    pub start : (k : ℕ) (v : Var) → slice_get p.vars k ≡ Some v → v.shape ≡ shape → IsTypedBeginning p 0 k b.start

  scalar_layout : (k : ℕ) (v : Var) (num : Num) → slice_get p.vars k ≡ Some v → v.shape ≡ shaped [] (Scalar num) → layout_of p k ≡ leaf num
  unfolding layout_with rows
  scalar_layout k v num h e = whole_layout p k v h ∙ ap (shape_layout p.structs) e

  any_beginning : (shape : Shape) → IsBeginning shape (beginning start.Any [])
  any_beginning shape = record { items = holds_none shape; start = λ k v h e. tt }

  begun_with_leads : (q r : Pos) (ns : List ℕ) (t : Plain) (x : Operand) (s : Typer) → Leads p (GoodOperand p x) s (λ b u. IsBeginning (shaped ns t) b) (begun_with q r (form_by ns t) x s)
  begun_with_leads q r [] (Scalar num) x s =
      next (unless (is_object (sort_of x)) 5 q)
      (λ a t. gives (λ w h e. let i = part_good p x h.0 h.1 in record { items = holds_none (shaped [] (Scalar num)); start = λ k v g f. (i.typed, (num, scalar_layout k v num g f)) }))
  begun_with_leads q r [] (Struct k) x s = refuses 20 r
  begun_with_leads q r (n ∷ ns) t x s = refuses 20 r

  begun_by_leads : (q : Pos) (shape : Shape) (i : Init) (s : Typer) → Leads p (RefersBelow (length s.structs.defs) shape) s (λ b t. IsBeginning shape b) (begun_by q shape i s)
  unfolding inits.out-Init denote.Hole.Carrier.out
  begun_by_leads q shape (Value e) s = next (free (expr_leads p e s)) (λ x t. from (λ h. h.1) (begun_with_leads q (expr_pos e) shape.dims shape.plain x t))
  begun_by_leads q shape (Braces' r n is) s =
      next (values_leads (Braces' r n is) shape s) (λ zs t. gives (λ w h e. record { items = h.1; start = λ k v g f. tt }))

  begun_leads : (shape : Shape) (b : LocalStart) (s : Typer) → Leads p (RefersBelow (length s.structs.defs) shape) s (λ b t. IsBeginning shape b) (begun shape b s)
  unfolding begun
  begun_leads shape inner.Nothing s = gives (λ w h e. any_beginning shape)
  begun_leads shape (inner.Init q i) s = begun_by_leads q shape i s
  begun_leads shape (inner.Call q c) s = gives (λ w h e. any_beginning shape)

  -- a local, once its beginning is typed
  record IsBegun (s : Typer) (shape : Shape) (b : Beginning) : Type 0 where
    below : RefersBelow (length s.structs.defs) shape
    begins : IsBeginning shape b

  local_as_leads : (ty : Ty) (x : Name) (shape : Shape) (b : Beginning) (s : Typer) → Leads p (IsBegun s shape b) s (λ a t. GoodStmt p a) (local_as ty x shape b s)
  local_as_leads ty x shape b s =
      next (from (λ h. record { below = h.below; stays = refl; items = h.begins.items }) (variable_leads x shape (home.Local 0) ty.constant b.initial s))
      (λ k t. gives (λ w h e. simple_typed p (simply.Declare k b.start) (subst (IsOwn 0) (sym h.1) refl, h.0.begins.start k (var x shape (home.Local 0) ty.constant b.initial) h.1 refl)))

  local_of_leads : (ty : Ty) (d : LocalDeclr) (s : Typer) → Leads p (GoodTy ty s) s (λ a t. GoodStmt p a) (local_of ty d s)
  unfolding local_of
  local_of_leads ty d s =
      bind {Z = λ dims t. RefersBelow (length t.structs.defs) (shape_of ty.element dims)} (all_bounds_leads p (out-Declr d.declr).bounds s)
      (λ dims t l h w y. shape_below (length t.structs.defs) ty.element dims (more_ty ty s t l h))
      (λ dims t. bind {Z = λ b u. IsBegun u (shape_of ty.element dims) b} (begun_leads (shape_of ty.element dims) d.start t)
      (λ b u l h w y. record { below = refers_more (length t.structs.defs) (length u.structs.defs) (shape_of ty.element dims) l.more h; begins = y })
      (λ b u. local_as_leads ty (out-Declr d.declr).name (shape_of ty.element dims) b u))

  next_local_leads : (ty : Ty) (d : LocalDeclr) (found : List Stmt) (s : Typer) → Leads p (GoodTy ty s × AllStmts p found) s (λ all t. AllStmts p all) (next_local ty d found s)
  next_local_leads ty d found s = next (from (λ h. h.0) (local_of_leads ty d s)) (λ a t. gives (λ w h e. stmts_append p found a h.0.1 h.1))

  locals_leads : (ty : Ty) (ds : List LocalDeclr) (found : List Stmt) (s : Typer) → Leads p (GoodTy ty s × AllStmts p found) s (λ all t. AllStmts p all) (locals ty ds found s)
  locals_leads ty ds found s =
      so (from (λ h. (tt, (h.1, h.0))) (all_parts p (Unit {0}) (λ all t. AllStmts p all × GoodTy ty t) (next_local ty) (λ all s t l h. (h.0, more_ty ty s t l h.1))
      (λ d all s. from (λ h. ((h.1.1, h.1.0), h.1.1)) (also (GoodTy ty) (λ t l h. more_ty ty s t l h) (next_local_leads ty d all s))) ds found s)) (λ all t h. h.0)

  pub local_leads : (l : Local) (found : List Stmt) (s : Typer) → Leads p (AllStmts p found) s (λ all t. AllStmts p all) (local l found s)
  unfolding local
  local_leads l found s =
      next (qualifiers_leads p false true (out-Specifiers l.ty).qualifiers s)
      (λ a t. bind {Z = λ ty u. GoodTy ty u × AllStmts p found} (object_type_leads p l.ty t) (λ ty u m h w g. (g, h.0)) (λ ty u. locals_leads ty l.declrs found u))
