-- What types and definitions of structures promise of the program that the walk ends in.
use Rattle.std.proofs.Common.{◌≡◌, ℕ, zero, suc, ◌+◌, ◌<◌, ◌≤◌, ℤ, pos, Bool, true, false, List, [], ◌∷◌, ◌++◌, length, refl, sym, ap, subst, ◌∙◌, arith, Option, Some, None, ◌⊎◌, inl, inr}
use Rattle.std.proofs.lemmas.List.{length-append}
use Rattle.std.specs.Prelude.{if◌then◌else◌, slice_get, set, ◌||◌}
use Rattle.sa_base.specs.declared.num.Num.{Num}
use Rattle.sa_base.specs.declared.pos.Pos.{Pos}
use Rattle.sa_syntax.specs.declared.decl.Name.{Name}
use Rattle.sa_syntax.specs.declared.decl.Qualified.{Qualified}
use Rattle.sa_typed.specs.declared.program.Program.{Program}
use Rattle.sa_typed.specs.declared.program.Var.{Var}
use Rattle.sa_typed.specs.declared.shape.Shape.{Shape}
use Rattle.sa_typed.specs.declared.shape.StructDef.{StructDef}
use Rattle.sa_operands.specs.declared.operand.Operand.{Operand}
use Rattle.sa_scopes.specs.declared.structs.Fields.{Fields}
use Rattle.sa_scopes.specs.declared.types.Element.{Element}
use Rattle.sa_scopes.specs.declared.types.Element.TheVariants as el
use Rattle.sa_scopes.specs.declared.types.Named.{Named}
use Rattle.sa_scopes.specs.declared.types.Named.TheVariants as n
use Rattle.sa_scopes.specs.declared.types.Tagged.{Tagged}
use Rattle.sa_scopes.specs.declared.types.Tagged.TheVariants as t
use Rattle.sa_scopes.specs.declared.types.Ty.{Ty}
use Rattle.sa_scopes.specs.declared.typer.Typer.{Typer}
use Rattle.sa_scopes.specs.Scopes.{Scope, meaning_of, is_visible}
use Rattle.sa_scopes.specs.Types.{qualifier, qualifiers, is_misplaced, plain, scalar, defined, tagged, alias, type_name, qualified, not_void, whole, object, shape_of}
use Rattle.sa_operands.specs.Operands.{known_value}
use Rattle.sa_operands.specs.Definitions.{is_dimension, dimension_by, dimension, is_taken, with_field, field, opened, with_tag, name_or_empty, closed}
use Rattle.sa_scopes.specs.Typing.{Typed, Typing, Gives, and_then, pure, refuse, refused}
use Rattle.sa_scopes.proofs.StructLaws.{IsFront, slice_front, slice_cases, RefersBelow, FieldsBelow, DefsBelow, refers_more, fields_more, fields_append}
use Rattle.sa_scopes.proofs.WalkLaws.{Ends, Later, same_state, ElementBelow, element_more, IsThere, there_more, IsTagThere, tag_more, IsSound, Well, Leads, Any, gives, refuses, refusal, bind, next, from, so, either, one_of, unless, all_parts}
use Rattle.sa_operands.proofs.OperandLaws.{constant_leads, no_object_leads}
use Rattle.sa_operands.proofs.PlaceLaws.{meaning_there}

-- ---- promises
-- a type's structure is defined
abbrev pub GoodTy : Ty → Typer → Type 0
GoodTy ty t = ElementBelow (length t.structs.defs) ty.element

-- fields refer to structures that are defined
abbrev pub GoodFields : Fields → Typer → Type 0
GoodFields f t = FieldsBelow (length t.structs.defs) f.defs

pub shape_below : (n : ℕ) (e : Element) (dims : List ℕ) → ElementBelow n e → RefersBelow n (shape_of e dims)
shape_below n el.Void dims h = tt
shape_below n (el.Scalar num) dims h = tt
shape_below n (el.Struct k) dims h = h
shape_below n el.Unknown dims h = tt

set_cases : {A : Type 0} (xs : List A) (i : ℕ) (x : A) (k : ℕ) (y : A) → slice_get (set xs i x) k ≡ Some y → (slice_get xs k ≡ Some y) ⊎ (x ≡ y)
set_cases [] i x k y h = cc
set_cases (z ∷ xs) zero x zero y h = inr cc
set_cases (z ∷ xs) zero x (suc k) y h = inl h
set_cases (z ∷ xs) (suc i) x zero y h = inl h
set_cases (z ∷ xs) (suc i) x (suc k) y h = set_cases xs i x k y h

module _ (p : Program) where
  -- ---- types
  qualifier_leads : {X : Type 0} (volatile static : Bool) (q : Qualified) (s : Typer) → Leads p X s Any (qualifier volatile static q tt s)
  qualifier_leads volatile static q s = so (unless (is_misplaced volatile static q.word) 21 q.pos) (λ a u h. tt)

  pub qualifiers_leads : {X : Type 0} (volatile static : Bool) (qs : List Qualified) (s : Typer) → Leads p X s Any (qualifiers volatile static qs s)
  unfolding qualifiers
  qualifiers_leads volatile static qs s = from (λ x. (tt, tt)) (all_parts p (Unit {0}) Any (qualifier volatile static) (λ a s t l y. tt) (λ q a s. qualifier_leads volatile static q s) qs tt s)

  pub scalar_leads : {X : Type 0} (q : Pos) (o : Option Num) (s : Typer) → Leads p X s GoodTy (scalar q o s)
  scalar_leads q (Some num) s = gives (λ w x e. tt)
  scalar_leads q None s = refuses 3 q

  defined_leads : {X : Type 0} (q : Pos) (o : Option Tagged) (s : Typer) → ((m : Tagged) → o ≡ Some m → Well p s → IsTagThere (length s.structs.defs) m) → Leads p X s GoodTy (defined q o s)
  defined_leads q (Some (t.Struct k)) s h = gives (λ w x e. h (t.Struct k) refl w)
  defined_leads q (Some t.Open) s h = refuses 3 q
  defined_leads q None s h = refuses 3 q

  pub tagged_leads : {X : Type 0} (q : Pos) (x : Name) (s : Typer) → Leads p X s GoodTy (tagged q x s)
  unfolding tagged
  tagged_leads q x s = defined_leads q (meaning_of s.tags x.text) s (λ m h w. let i = meaning_there s.tags x.text m h in w.tags i.0 m i.1)

  alias_good : (s : Typer) (o : Option Named) → ((m : Named) → o ≡ Some m → IsThere p (length s.structs.defs) (length s.vars) m) → GoodTy (alias o) s
  alias_good s None h = tt
  alias_good s (Some (n.Variable k)) h = tt
  alias_good s (Some (n.Input k num)) h = tt
  alias_good s (Some (n.Alias ty)) h = h (n.Alias ty) refl
  alias_good s (Some n.Function) h = tt

  pub name_leads : {X : Type 0} (x : Name) (s : Typer) → Leads p X s GoodTy (type_name x s)
  unfolding type_name
  name_leads x s = gives (λ w h e. alias_good s (meaning_of s.names x.text) (λ m g. let i = meaning_there s.names x.text m g in w.names i.0 m i.1))

  pub whole_leads : {X : Type 0} (qs : List Qualified) (m : Typing Ty) (s : Typer) → Leads p X s GoodTy (m s) → Leads p X s GoodTy (whole qs m s)
  whole_leads qs m s h = bind {Z = GoodTy} h (λ ty t l x w y. y) (λ ty t. gives (λ w x e. x))

  void_leads : (q : Pos) (ty : Ty) (e : Element) (s : Typer) → Leads p (GoodTy ty s) s GoodTy
      ((elim e as (λ _. Typing Ty) [ el.Void ↦ (λ s. Gives (record { element = el.Unknown; constant = ty.constant }) (refused 3 q s)) | _ ↦ pure ty ]) s)
  void_leads q ty el.Void s = refuses 3 q
  void_leads q ty (el.Scalar num) s = gives (λ w x e. x)
  void_leads q ty (el.Struct k) s = gives (λ w x e. x)
  void_leads q ty el.Unknown s = gives (λ w x e. x)

  pub object_leads : {X : Type 0} (q : Pos) (qs : List Qualified) (m : Typing Ty) (s : Typer) → Leads p X s GoodTy (m s) → Leads p X s GoodTy (object q qs m s)
  object_leads q qs m s h = bind {Z = GoodTy} (whole_leads qs m s h) (λ ty t l x w y. y) (λ ty t. void_leads q ty ty.element t)

  -- ---- dimensions and fields
  by_dimension : {X : Type 0} (q : Pos) (o : Option ℤ) (s : Typer) → Leads p X s Any (dimension_by q o s)
  by_dimension q None s = gives (λ w x e. tt)
  by_dimension q (Some z) s = one_of (is_dimension z) _ _ (λ b. gives (λ w x e. tt)) (λ b. refuses 19 q)

  pub dimension_leads : {X : Type 0} (q : Pos) (x : Operand) (s : Typer) → Leads p X s Any (dimension q x s)
  unfolding dimension
  dimension_leads q x s = next (no_object_leads p x s) (λ a t. next (constant_leads p q (known_value x) t) (λ o u. by_dimension q o u))

  pub field_leads : (x : Name) (ty : Ty) (dims : List ℕ) (f : Fields) (s : Typer) → Leads p (GoodTy ty s × GoodFields f s) s GoodFields (field x ty dims f s)
  unfolding field
  field_leads x ty dims f s =
      either (is_taken s f x.text) (λ b. refuses 2 x.pos)
      (λ b. gives (λ w h e. fields_append (length s.structs.defs) f.defs (record { name = x.text; shape = shape_of ty.element dims }) h.1 (shape_below (length s.structs.defs) ty.element dims h.0)))

  -- ---- tags
  open_leads : {X : Type 0} (x : Name) (s : Typer) → Leads p X s Any (opened (Some x) s)
  unfolding opened
  open_leads x s =
      either (is_visible s.tags x.text) (λ b. refuses 2 x.pos) (λ b. record {
        later = record { back = λ e. record { clear = e.clear; structs = e.structs; vars = e.vars; inputs = e.inputs }; more = omega arith };
        good = λ w h e. (record { names = w.names; tags = all_tags w; defs = w.defs; vars = w.vars }, tt);
      })
    where
      all_tags : Well p s → (i : ℕ) (m : Tagged) → slice_get (s.tags.meanings ++ t.Open ∷ []) i ≡ Some m → IsTagThere (length s.structs.defs) m
      all_tags w i m h = elim (slice_cases s.tags.meanings t.Open i m h) [ inl g ↦ w.tags i m g | inr g ↦ subst (IsTagThere (length s.structs.defs)) g.1 tt ]

  pub opened_leads : {X : Type 0} (tag : Option Name) (s : Typer) → Leads p X s Any (opened tag s)
  unfolding opened
  opened_leads None s = gives (λ w x e. tt)
  opened_leads (Some x) s = open_leads x s

  more_defs : (ds : List StructDef) (d : StructDef) → length ds ≤ length (ds ++ d ∷ [])
  more_defs ds d = omega (arith, length-append ds (d ∷ []))

  new_below : (ds : List StructDef) (d : StructDef) → length ds < length (ds ++ d ∷ [])
  new_below ds d = omega (arith, length-append ds (d ∷ []))

  tags_with : (tags : Scope Tagged) (i : Option ℕ) (n m : ℕ) → n < m → ((k : ℕ) (x : Tagged) → slice_get tags.meanings k ≡ Some x → IsTagThere n x) →
      (k : ℕ) (x : Tagged) → slice_get (with_tag tags i n).meanings k ≡ Some x → IsTagThere m x
  tags_with tags None n m less h k x g = tag_more n m x (omega arith) (h k x g)
  tags_with tags (Some i) n m less h k x g = elim (set_cases tags.meanings i (t.Struct n) k x g) [ inl f ↦ tag_more n m x (omega arith) (h k x f) | inr f ↦ subst (IsTagThere m) f less ]

  defs_with : (ds : List StructDef) (d : StructDef) → DefsBelow ds → FieldsBelow (length ds) d.fields → DefsBelow (ds ++ d ∷ [])
  defs_with ds d h f k x g = elim (slice_cases ds d k x g) [ inl e ↦ h k x e | inr e ↦ subst (λ (y : StructDef). FieldsBelow k y.fields) e.1 (subst (λ (m : ℕ). FieldsBelow m d.fields) (sym e.0) f) ]

  pub sound_more : (n m k : ℕ) (v : Var) → n ≤ m → IsSound p n k v → IsSound p m k v
  sound_more n m k v le h = record { shape = refers_more n m v.shape le h.shape; items = h.items; home = h.home }

  pub closed_leads : (tag : Option Name) (i : Option ℕ) (f : Fields) (s : Typer) → Leads p (GoodFields f s) s GoodTy (closed tag i f s)
  unfolding closed
  closed_leads tag i f s =
      let d : StructDef = record { name = name_or_empty tag; fields = f.defs } in
      record {
        later = record {
          back = λ e. record { clear = e.clear; structs = λ k x h. e.structs k x (slice_front s.structs.defs (d ∷ []) k x h); vars = e.vars; inputs = e.inputs };
          more = more_defs s.structs.defs d;
        };
        good = λ w h e. (
          record {
            names = λ k m g. there_more p (length s.structs.defs) (length s.vars) (length (s.structs.defs ++ d ∷ [])) (length s.vars) m (more_defs s.structs.defs d) (omega arith) (w.names k m g);
            tags = tags_with s.tags i (length s.structs.defs) (length (s.structs.defs ++ d ∷ [])) (new_below s.structs.defs d) w.tags;
            defs = defs_with s.structs.defs d w.defs h;
            vars = λ k v g. sound_more (length s.structs.defs) (length (s.structs.defs ++ d ∷ [])) k v (more_defs s.structs.defs d) (w.vars k v g);
          },
          new_below s.structs.defs d,
        );
      }
