-- Steps of typing that declare: tags, fields and names.
use Rattle.std.proofs.Common.{◌≡◌, ℕ, Bool, true, false, List, [], ◌∷◌, ◌++◌, length, take, refl, sym, ap, ◌∙◌, Option, Some, None}
use Rattle.std.proofs.lemmas.List.{map-append, take-map, length-map}
use Rattle.std.specs.Prelude.{ℤ, if◌then◌else◌, ◌||◌, option_map, map}
use Rattle.sa_base.specs.declared.num.Num.{Num}
use Rattle.sa_syntax.specs.declared.decl.Name.{Name}
use Rattle.sa_typed.specs.declared.program.Home.{Home}
use Rattle.sa_scopes.specs.declared.structs.Fields.{Fields}
use Rattle.sa_scopes.specs.declared.typer.Typer.{Typer}
use Rattle.sa_scopes.specs.declared.types.Element.TheVariants as el
use Rattle.sa_scopes.specs.declared.types.Named as named
use Rattle.sa_scopes.specs.declared.types.Named.TheVariants as n
use Rattle.sa_scopes.specs.declared.types.Tagged.TheVariants as t
use Rattle.sa_scopes.specs.declared.types.Ty.{Ty}
use Rattle.sa_declarations.specs.Declarations as decl
use Rattle.sa_declarations.specs.Declarations.{var, added, variable, added_input, input}
use Rattle.sa_operands.specs.Definitions as def
use Rattle.sa_operands.specs.Definitions.{opened, is_alias, with_field, name_or_empty, no_fields}
use Rattle.sa_scopes.specs.Scopes.{Scope, meaning_of, is_visible, with_name, oldest, count}
use Rattle.sa_scopes.specs.Types.{plain, shape_of}
use Rattle.sa_scopes.specs.Typing.{Typed, Gives, and_then, refused, fault}
use Rattle.sa_rules.specs.Events.{Event, Opens, Closes, Declares, Defines, Aliases, Member, Group_begins, Group_ends}
use Rattle.sa_rules.specs.Rules.{at_if}
use Rattle.sa_rules.specs.Scenes as scene
use Rattle.sa_rules.specs.Scenes.{Meaning, Of_shape, Scene, is_type_name, is_taken, with_name_unless, with_fields, number_by}
use Rattle.sa_rules.specs.Sight.{Open, Braces, Group, Sight, see, opened_unless, field_unless}
use Rattle.sa_rules.proofs.Walks.{noted, faults_at, meant, shape_in, seen_as, scene_of, state, Reads, refused_noted, event, then_event}
use Rattle.sa_rules.proofs.Steps.{At, Last, seeing, one_at, one_last, free_at, free_last, one_as, refused_one, nothing_added, known, along}

-- a scope with another name
pub with_name_seen : {M N : Type 0} (f : M → N) (s : Scope M) (w : List ℕ) (x : M) → with_name (seen_as f s) w (f x) ≡ seen_as f (with_name s w x)
with_name_seen f s w x = ap (λ (l : List _). record { words = s.words ++ w ∷ []; meanings = l }) (sym (map-append f s.meanings (x ∷ [])))

pub oldest_seen : {M N : Type 0} (f : M → N) (k : ℕ) (s : Scope M) → oldest k (seen_as f s) ≡ seen_as f (oldest k s)
oldest_seen f k s = ap (λ (l : List _). record { words = take k s.words; meanings = l }) (take-map f k s.meanings)

-- ---- groups of names
pub group_begins : {A : Type 0} {s : Typer} {xs : List Event} {Y : A → Sight → Type 0} {t : Typed A} (os : List Open) (found : Bool) (ty : Ty) → Reads (At (Group ty [] ∷ os) found) s xs Y t → Reads (Last os found ty) s (Group_begins ∷ xs) Y t
unfolding see
group_begins os found ty h = event (λ m a. free_last m (λ v. record { scene = refl; broken = refl; post = record { opened = refl; entry = refl } }) a) h

pub group_ends : {A : Type 0} {X : Sight → Type 0} {s : Typer} {xs : List Event} {t : Typed A} (os : A → List Open) (found : Bool) (ty : Ty) → Reads X s xs (λ a. At (Group ty [] ∷ os a) found) t →
    Reads X s (xs ++ Group_ends ∷ []) (λ a. At (os a) found) t
unfolding see
group_ends os found ty h = then_event h (λ a m k. free_at m (λ v y. record { scene = refl; broken = refl; post = record { opened = refl; entry = refl } }) k)

module _ (os : List Open) (found : Bool) where
  -- ---- tags
  abbrev Opening : Option ℕ → Sight → Type 0
  Opening i = At (Braces i no_fields ∷ os) found

  opens_see : (s : Typer) (x : Name) (b : Bool) (ty : Ty) → is_visible s.tags x.text ≡ b → see (seeing s os found ty) (Opens (Some x)) ≡ opened_unless b x.text (seeing s os found ty)
  unfolding see
  opens_see s x b ty h = ap (λ (c : Bool). opened_unless c x.text (seeing s os found ty)) h

  opened_by : (x : Name) (b : Bool) (s : Typer) → is_visible s.tags x.text ≡ b →
      Reads (At os found) s (Opens (Some x) ∷ []) Opening (if b then Gives None (refused 2 x.pos s) else Gives (Some (count s.tags)) (record s { tags = with_name s.tags x.text t.Open }))
  unfolding see
  opened_by x true s h =
      one_at (λ ty. refused_one 2 x.pos (seeing s (Braces None no_fields ∷ os) found ty) (fault 2 x.pos ∷ []) (opens_see s x true ty h) (ap (λ (b : Bool). faults_at 2 (at_if b x.pos) ++ []) h)
      refl (refused_noted 2 x.pos s) (record { opened = refl; entry = refl }))
  opened_by x false s h =
      one_at (λ ty. one_as (seeing (record s { tags = with_name s.tags x.text t.Open }) (Braces (Some (count s.tags)) no_fields ∷ os) found ty) [] (opens_see s x false ty h)
      (ap (λ (b : Bool). faults_at 2 (at_if b x.pos) ++ []) h) refl (nothing_added s) (record { opened = refl; entry = refl }))

  pub opened_reads : (tag : Option Name) (s : Typer) → Reads (At os found) s (Opens tag ∷ []) Opening (opened tag s)
  unfolding opened see
  opened_reads None s = one_at (λ ty. one_as (seeing s (Braces None no_fields ∷ os) found ty) [] refl refl refl (nothing_added s) (record { opened = refl; entry = refl }))
  opened_reads (Some x) s = opened_by x (is_visible s.tags x.text) s refl

  pub closed_reads : (tag : Option Name) (i : Option ℕ) (f : Fields) (s : Typer) → Reads (At (Braces i f ∷ os) found) s (Closes tag ∷ []) (Last os found) (def.closed tag i f s)
  unfolding def.closed see
  closed_reads tag i f s =
      one_at (λ ty. one_as
      (record { scene = with_fields (name_or_empty tag) i f (scene_of s); opened = os; last = plain (el.Struct (length s.structs.defs)); entry = found }) [] refl refl refl (nothing_added s) (record { opened = refl; entry = refl; last = refl }))

  -- ---- fields
  alias_seen : (o : Option named.Named) → is_type_name (option_map meant o) ≡ is_alias o
  alias_seen None = refl
  alias_seen (Some (n.Variable k)) = refl
  alias_seen (Some (n.Input k num)) = refl
  alias_seen (Some (n.Alias ty)) = refl
  alias_seen (Some n.Function) = refl

  taken_seen : (f : Fields) (s : Typer) (w : List ℕ) → is_taken (scene_of s) f w ≡ def.is_taken s f w
  taken_seen f s w = ap (λ (b : Bool). is_visible f.names w || b) (ap (λ (o : Option Meaning). is_type_name o) (known s w _ refl) ∙ alias_seen (meaning_of s.names w))

  -- the next name of a group of fields
  abbrev pub Next : Ty → List ℕ → Option ℕ → Fields → Sight → Type 0
  Next ty dims i f = At (Group ty dims ∷ Braces i f ∷ os) found

  member_see : (s : Typer) (x : Name) (i : Option ℕ) (ty : Ty) (dims : List ℕ) (f : Fields) (b : Bool) (y : Ty) → is_taken (scene_of s) f x.text ≡ b →
      see (seeing s (Group ty dims ∷ Braces i f ∷ os) found y) (Member x) ≡ seeing s (Group ty [] ∷ Braces i (field_unless b x.text ty dims f) ∷ os) found y
  unfolding see
  member_see s x i ty dims f b y h = ap (λ (c : Bool). seeing s (Group ty [] ∷ Braces i (field_unless c x.text ty dims f) ∷ os) found y) h

  field_by : (i : Option ℕ) (x : Name) (ty : Ty) (dims : List ℕ) (f : Fields) (b : Bool) (s : Typer) → def.is_taken s f x.text ≡ b →
      Reads (Next ty dims i f) s (Member x ∷ []) (Next ty [] i) (if b then Gives f (refused 2 x.pos s) else Gives (with_field f x.text (shape_of ty.element dims) ty.constant) s)
  unfolding see
  field_by i x ty dims f true s h =
      let v = taken_seen f s x.text ∙ h in
      one_at (λ y. refused_one 2 x.pos (seeing s (Group ty [] ∷ Braces i f ∷ os) found y) (fault 2 x.pos ∷ []) (member_see s x i ty dims f true y v)
      (ap (λ (b : Bool). faults_at 2 (at_if b x.pos) ++ []) v) refl (refused_noted 2 x.pos s) (record { opened = refl; entry = refl }))
  field_by i x ty dims f false s h =
      let v = taken_seen f s x.text ∙ h in
      one_at (λ y. one_as (seeing s (Group ty [] ∷ Braces i (with_field f x.text (shape_of ty.element dims) ty.constant) ∷ os) found y) []
      (member_see s x i ty dims f false y v) (ap (λ (b : Bool). faults_at 2 (at_if b x.pos) ++ []) v) refl (nothing_added s) (record { opened = refl; entry = refl }))

  pub field_reads : (i : Option ℕ) (x : Name) (ty : Ty) (dims : List ℕ) (f : Fields) (s : Typer) → Reads (Next ty dims i f) s (Member x ∷ []) (Next ty [] i) (def.field x ty dims f s)
  unfolding def.field
  field_reads i x ty dims f s = field_by i x ty dims f (def.is_taken s f x.text) s refl

  -- ---- names
  -- what is visible with another name
  name_added : (s : Typer) (w : List ℕ) (k : named.Named) → record (scene_of s) { names = with_name (seen_as meant s.names) w (meant k) } ≡ scene_of (record s { names = with_name s.names w k })
  name_added s w k = ap (λ (x : Scope Meaning). record (scene_of s) { names = x }) (with_name_seen meant s.names w k)

  abbrev pub naming : Typer → Name → Meaning → Bool → Ty → Sight
  naming s x k b ty = record (seeing s os found ty) { scene = with_name_unless b x.text k (scene_of s) }

  pub defines_see : (s : Typer) (x : Name) (b : Bool) (ty : Ty) → is_visible s.names x.text ≡ b → see (seeing s os found ty) (Defines x) ≡ naming s x scene.Function b ty
  unfolding see
  defines_see s x b ty h = ap (λ (c : Bool). naming s x scene.Function c ty) h

  aliases_see : (s : Typer) (x : Name) (b : Bool) (ty : Ty) → is_visible s.names x.text ≡ b → see (seeing s os found ty) (Aliases x) ≡ naming s x (scene.Alias ty) b ty
  unfolding see
  aliases_see s x b ty h = ap (λ (c : Bool). naming s x (scene.Alias ty) c ty) h

  defines_by : (x : Name) (b : Bool) (s : Typer) → is_visible s.names x.text ≡ b →
      Reads (At os found) s (Defines x ∷ []) (λ (u : Unit {0}). At os found) (if b then Gives tt (refused 2 x.pos s) else Gives tt (record s { names = with_name s.names x.text n.Function }))
  unfolding see
  defines_by x true s h =
      one_at (λ ty. refused_one 2 x.pos (seeing s os found ty) (fault 2 x.pos ∷ []) (defines_see s x true ty h)
      (ap (λ (b : Bool). faults_at 2 (at_if b x.pos) ++ []) h) refl (refused_noted 2 x.pos s) (record { opened = refl; entry = refl }))
  defines_by x false s h =
      one_at (λ ty. one_as (record (seeing s os found ty) { scene = with_name_unless false x.text scene.Function (scene_of s) }) []
      (defines_see s x false ty h) (ap (λ (b : Bool). faults_at 2 (at_if b x.pos) ++ []) h) (name_added s x.text n.Function) (nothing_added s)
      (record { opened = refl; entry = refl }))

  pub defines_reads : (x : Name) (s : Typer) → Reads (At os found) s (Defines x ∷ []) (λ u. At os found) (decl.named x n.Function s)
  unfolding decl.named
  defines_reads x s = defines_by x (is_visible s.names x.text) s refl

  aliases_by : (x : Name) (ty : Ty) (b : Bool) (s : Typer) → is_visible s.names x.text ≡ b →
      Reads (Last os found ty) s (Aliases x ∷ []) (λ (u : Unit {0}). At os found) (if b then Gives tt (refused 2 x.pos s) else Gives tt (record s { names = with_name s.names x.text (n.Alias ty) }))
  unfolding see
  aliases_by x ty true s h =
      one_last (refused_one 2 x.pos (seeing s os found ty) (fault 2 x.pos ∷ []) (aliases_see s x true ty h)
      (ap (λ (b : Bool). faults_at 2 (at_if b x.pos) ++ []) h) refl (refused_noted 2 x.pos s) (record { opened = refl; entry = refl }))
  aliases_by x ty false s h =
      one_last (one_as (record (seeing s os found ty) { scene = with_name_unless false x.text (scene.Alias ty) (scene_of s) }) []
      (aliases_see s x false ty h) (ap (λ (b : Bool). faults_at 2 (at_if b x.pos) ++ []) h) (name_added s x.text (n.Alias ty)) (nothing_added s)
      (record { opened = refl; entry = refl }))

  pub aliases_reads : (x : Name) (ty : Ty) (s : Typer) → Reads (Last os found ty) s (Aliases x ∷ []) (λ u. At os found) (decl.named x (n.Alias ty) s)
  unfolding decl.named
  aliases_reads x ty s = aliases_by x ty (is_visible s.names x.text) s refl

  -- ---- objects
  abbrev Naming : Ty → List ℕ → Sight → Type 0
  Naming ty dims = At (Group ty dims ∷ os) found

  -- a variable, given whether its name is visible
  abbrev made : Name → Ty → List ℕ → Home → List ℤ → Bool → Typer → Typed ℕ
  made x ty dims home zs b s =
      and_then (and_then (if b then Gives (tt {0}) (refused 2 x.pos s) else Gives tt (record s { names = with_name s.names x.text (n.Variable (length s.vars)) })) (λ u. added (var x (shape_of ty.element dims) home ty.constant zs)))
      (λ u t. Gives (length s.vars) t)

  abbrev seen_with : Typer → Name → Ty → List ℕ → Bool → Scene
  seen_with s x ty dims b = scene.with_variable (record { shape = shape_of ty.element dims; constant = ty.constant }) (with_name_unless b x.text (scene.Variable (length (map shape_in s.vars))) (scene_of s))

  named_scene : (s : Typer) (x : Name) (ty : Ty) (dims : List ℕ) (home : Home) (zs : List ℤ) (b : Bool) → seen_with s x ty dims b ≡ scene_of (state (made x ty dims home zs b s))
  unfolding refused
  named_scene s x ty dims home zs true = ap (λ (xs : List Of_shape). record (scene_of s) { variables = xs }) (sym (map-append shape_in s.vars (var x (shape_of ty.element dims) home ty.constant zs ∷ [])))
  named_scene s x ty dims home zs false =
      ap (λ (xs : List Of_shape). record (scene_of s) { names = with_name (seen_as meant s.names) x.text (scene.Variable (length (map shape_in s.vars))); variables = xs })
      (sym (map-append shape_in s.vars (var x (shape_of ty.element dims) home ty.constant zs ∷ [])))
      ∙ ap (λ (y : Scope Meaning). record (scene_of s) { names = y; variables = map shape_in (s.vars ++ var x (shape_of ty.element dims) home ty.constant zs ∷ []) })
      (ap (λ (k : ℕ). with_name (seen_as meant s.names) x.text (scene.Variable k)) (length-map s.vars shape_in) ∙ with_name_seen meant s.names x.text (n.Variable (length s.vars)))

  named_faults : (s : Typer) (x : Name) (ty : Ty) (dims : List ℕ) (home : Home) (zs : List ℤ) (b : Bool) → noted (state (made x ty dims home zs b s)).faults ≡ noted s.faults ++ (faults_at 2 (at_if b x.pos) ++ [])
  named_faults s x ty dims home zs true = refused_noted 2 x.pos s
  named_faults s x ty dims home zs false = nothing_added s

  -- an object, given whether its name is visible
  abbrev seen_object : Option Num → Typer → Name → Ty → List ℕ → Bool → Scene
  seen_object None s x ty dims b = seen_with s x ty dims b
  seen_object (Some num) s x ty dims b = with_name_unless b x.text (scene.Input num) (scene_of s)

  object_see : (o : Option Num) (s : Typer) (x : Name) (ty : Ty) (dims : List ℕ) (b : Bool) → is_visible s.names x.text ≡ b →
      scene.with_object o x.text (record { shape = shape_of ty.element dims; constant = ty.constant }) (scene_of s) ≡ seen_object o s x ty dims b
  object_see None s x ty dims b h = ap (λ (c : Bool). seen_with s x ty dims c) h
  object_see (Some num) s x ty dims b h = ap (λ (c : Bool). with_name_unless c x.text (scene.Input num) (scene_of s)) h

  abbrev grouped : Scene → Ty → Ty → Sight
  grouped v ty y = record { scene = v; opened = Group ty [] ∷ os; last = y; entry = found }

  declares_see : (s : Typer) (x : Name) (input : Bool) (ty : Ty) (dims : List ℕ) (b : Bool) (y : Ty) (o : Option Num) → scene.number_if input ty.element dims ≡ o → is_visible s.names x.text ≡ b →
      see (seeing s (Group ty dims ∷ os) found y) (Declares input x) ≡ grouped (seen_object o s x ty dims b) ty y
  unfolding see
  declares_see s x input ty dims b y o e h =
      along (λ (z : Option Num). grouped (scene.with_object z x.text (record { shape = shape_of ty.element dims; constant = ty.constant }) (scene_of s)) ty y) (scene.number_if input ty.element dims) o e
      ∙ ap (λ (v : Scene). grouped v ty y) (object_see o s x ty dims b h)

  variable_by : (x : Name) (input : Bool) (ty : Ty) (dims : List ℕ) (home : Home) (zs : List ℤ) (b : Bool) (s : Typer) → is_visible s.names x.text ≡ b → scene.number_if input ty.element dims ≡ None →
      Reads (Naming ty dims) s (Declares input x ∷ []) (λ k. Naming ty []) (made x ty dims home zs b s)
  unfolding see
  variable_by x input ty dims home zs b s h e =
      one_at (λ y. one_as (record { scene = seen_with s x ty dims b; opened = Group ty [] ∷ os; last = y; entry = found }) (faults_at 2 (at_if b x.pos) ++ [])
      (declares_see s x input ty dims b y None e h)
      (ap (λ (c : Bool). faults_at 2 (at_if c x.pos) ++ []) h) (named_scene s x ty dims home zs b) (named_faults s x ty dims home zs b) (record { opened = refl; entry = refl }))

  pub variable_reads : (x : Name) (input : Bool) (ty : Ty) (dims : List ℕ) (home : Home) (zs : List ℤ) (s : Typer) → scene.number_if input ty.element dims ≡ None →
      Reads (Naming ty dims) s (Declares input x ∷ []) (λ k. Naming ty []) (variable x (shape_of ty.element dims) home ty.constant zs s)
  unfolding variable decl.named
  variable_reads x input ty dims home zs s e = variable_by x input ty dims home zs (is_visible s.names x.text) s refl e

  -- an input, given whether its name is visible
  abbrev taken_in : Name → Num → Bool → Typer → Typed (Unit {0})
  taken_in x num b s = and_then (if b then Gives (tt {0}) (refused 2 x.pos s) else Gives tt (record s { names = with_name s.names x.text (n.Input (length s.inputs) num) })) (λ u. added_input x num)

  input_scene : (s : Typer) (x : Name) (num : Num) (b : Bool) → with_name_unless b x.text (scene.Input num) (scene_of s) ≡ scene_of (state (taken_in x num b s))
  unfolding refused
  input_scene s x num true = refl
  input_scene s x num false = name_added s x.text (n.Input (length s.inputs) num)

  input_faults : (s : Typer) (x : Name) (num : Num) (b : Bool) → noted (state (taken_in x num b s)).faults ≡ noted s.faults ++ (faults_at 2 (at_if b x.pos) ++ [])
  input_faults s x num true = refused_noted 2 x.pos s
  input_faults s x num false = nothing_added s

  input_by : (x : Name) (num : Num) (ty : Ty) (dims : List ℕ) (b : Bool) (s : Typer) → is_visible s.names x.text ≡ b → scene.number_if true ty.element dims ≡ Some num →
      Reads (Naming ty dims) s (Declares true x ∷ []) (λ u. Naming ty []) (taken_in x num b s)
  unfolding see
  input_by x num ty dims b s h e =
      one_at (λ y. one_as (record { scene = with_name_unless b x.text (scene.Input num) (scene_of s); opened = Group ty [] ∷ os; last = y; entry = found }) (faults_at 2 (at_if b x.pos) ++ [])
      (declares_see s x true ty dims b y (Some num) e h)
      (ap (λ (c : Bool). faults_at 2 (at_if c x.pos) ++ []) h) (input_scene s x num b) (input_faults s x num b) (record { opened = refl; entry = refl }))

  pub input_reads : (x : Name) (num : Num) (ty : Ty) (dims : List ℕ) (s : Typer) → scene.number_if true ty.element dims ≡ Some num → Reads (Naming ty dims) s (Declares true x ∷ []) (λ u. Naming ty []) (input x num s)
  unfolding input decl.named
  input_reads x num ty dims s e = input_by x num ty dims (is_visible s.names x.text) s refl e
