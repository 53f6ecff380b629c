-- Each step of typing that an event stands for: it sees and refuses what the event does.
use Rattle.std.proofs.Common.{◌≡◌, ℕ, Bool, false, List, [], ◌∷◌, ◌++◌, refl, sym, ap, subst, ◌∙◌, Option, Some, None}
use Rattle.std.proofs.lemmas.List.{append-nil}
use Rattle.std.proofs.lemmas.Option.{slice_get-map}
use Rattle.std.specs.Prelude.{map, option_map, slice_get}
use Rattle.sa_base.specs.declared.num.Num.{Num}
use Rattle.sa_base.specs.declared.pos.Pos.{Pos}
use Rattle.sa_syntax.specs.declared.decl.Name.{Name}
use Rattle.sa_syntax.specs.declared.decl.Qualified.{Qualified}
use Rattle.sa_syntax.specs.declared.decl.ScalarWord.{ScalarWord}
use Rattle.sa_syntax.specs.declared.expr.PlaceBase.{PlaceBase}
use Rattle.sa_syntax.specs.declared.expr.PlaceBase.TheVariants as base
use Rattle.sa_typed.specs.declared.program.Var.{Var}
use Rattle.sa_operands.specs.declared.operand.Spot as typed
use Rattle.sa_scopes.specs.declared.typer.Fault.{Fault}
use Rattle.sa_scopes.specs.declared.typer.Typer.{Typer}
use Rattle.sa_scopes.specs.declared.types.Element.{Element}
use Rattle.sa_scopes.specs.declared.types.Element.TheVariants as el
use Rattle.sa_scopes.specs.declared.types.Named as named
use Rattle.sa_scopes.specs.declared.types.Named.TheVariants as n
use Rattle.sa_scopes.specs.declared.types.Tagged.{Tagged}
use Rattle.sa_scopes.specs.declared.types.Tagged.TheVariants as t
use Rattle.sa_scopes.specs.declared.types.Ty.{Ty}
use Rattle.sa_operands.specs.Places.{root_by, pointed_by, begun, begins, variable_at}
use Rattle.sa_operands.specs.Places as place
use Rattle.sa_scopes.specs.Scopes.{Scope, index_from, meaning_of, at, is_some}
use Rattle.sa_scopes.specs.Types.{num_of, scalar, defined, tagged, type_name, alias, plain, qualified, whole, not_void}
use Rattle.sa_scopes.specs.Typing.{Typed, Typing, Gives, and_then, pure, refused, fault}
use Rattle.sa_rules.specs.Events.{Event, Words, Void, Tag, Named, Qualifies, Object, Uses, Follows, begin}
use Rattle.sa_rules.specs.Rules.{at_unless}
use Rattle.sa_rules.specs.Scenes.{Scene, Meaning, words_type, tag_type, named_type, is_complete}
use Rattle.sa_rules.specs.Sight.{Open, Place, Sight, see}
use Rattle.sa_rules.specs.Spots.{Spot, nowhere, spot_of, meant_spot}
use Rattle.sa_rules.proofs.Walks.{is_noted, noted, broken, faults_at, note, meant, shape_in, seen_as, scene_of, state, value, Reads, Quiet, Free, refused_scene, refused_noted, other_noted, then_event}

-- what is open, and whether there was a main with the clock loop
pub record At (os : List Open) (found : Bool) (m : Sight) : Type 0 where
  pub opened : m.opened ≡ os
  pub entry : m.entry ≡ found

-- .. and the type that was written last
pub record Last (os : List Open) (found : Bool) (ty : Ty) (m : Sight) : Type 0 where
  pub opened : m.opened ≡ os
  pub entry : m.entry ≡ found
  pub last : m.last ≡ ty

pub forget : (os : List Open) (found : Bool) (ty : Ty) (m : Sight) → Last os found ty m → At os found m
forget os found ty m h = record { opened = h.opened; entry = h.entry }

-- what is seen in that state of typing
abbrev pub seeing : Typer → List Open → Bool → Ty → Sight
seeing s os found ty = record { scene = scene_of s; opened = os; last = ty; entry = found }

abbrev sight : Scene → List Open → Bool → Ty → Sight
sight v os found ty = record { scene = v; opened = os; last = ty; entry = found }

same_sight : (v w : Scene) (os ps : List Open) (found given : Bool) (x y : Ty) → v ≡ w → os ≡ ps → found ≡ given → x ≡ y → sight v os found x ≡ sight w ps given y
same_sight v w os ps found given x y a b c d =
    ap (λ (k : Scene). sight k os found x) a ∙ ap (λ (k : List Open). sight w k found x) b ∙ ap (λ (k : Bool). sight w ps k x) c ∙ ap (λ (k : Ty). sight w ps given k) d

is_sight : (m : Sight) → m ≡ sight m.scene m.opened m.entry m.last
is_sight m = refl

-- an equation between what is made of two things, where both are given
pub along : {A B : Type 0} (f : A → B) (x y : A) → x ≡ y → f x ≡ f y
along f x y h = ap f h

-- ---- one event
pub record One (s : Typer) (e : Event) {A : Type 0} (Y : A → Sight → Type 0) (t : Typed A) (m : Sight) : Type 0 where
  pub scene : (see m e).scene ≡ scene_of (state t)
  pub faults : noted (state t).faults ≡ noted s.faults ++ broken m e
  pub post : Y (value t) (see m e)

pub one : {A : Type 0} {X : Sight → Type 0} {s : Typer} {e : Event} {Y : A → Sight → Type 0} {t : Typed A} → ((m : Sight) → m.scene ≡ scene_of s → X m → One s e Y t m) → Reads X s (e ∷ []) Y t
unfolding note
one {s = s} {e = e} {t = t} f = record {
  reads = λ m h x. let g = f m.sight h.scene x in (record { scene = g.scene; faults = ap (λ (fs : List Fault). fs ++ broken m.sight e) h.faults ∙ sym g.faults }, g.post);
}

moved : {A : Type 0} {s : Typer} {e : Event} {Y : A → Sight → Type 0} {t : Typed A} (m k : Sight) → m ≡ k → One s e Y t k → One s e Y t m
moved {s = s} {e = e} {Y = Y} {t = t} m k p g = subst (λ (x : Sight). One s e Y t x) (sym p) g

pub one_at : {A : Type 0} {os : List Open} {found : Bool} {s : Typer} {e : Event} {Y : A → Sight → Type 0} {t : Typed A} → ((ty : Ty) → One s e Y t (seeing s os found ty)) → Reads (At os found) s (e ∷ []) Y t
one_at {os = os} {found = found} {s = s} f =
    one (λ m h a. moved m (seeing s os found m.last) (is_sight m ∙ same_sight m.scene (scene_of s) m.opened os m.entry found m.last m.last h a.opened a.entry refl) (f m.last))

pub one_last : {A : Type 0} {os : List Open} {found : Bool} {ty : Ty} {s : Typer} {e : Event} {Y : A → Sight → Type 0} {t : Typed A} → One s e Y t (seeing s os found ty) → Reads (Last os found ty) s (e ∷ []) Y t
one_last {os = os} {found = found} {ty = ty} {s = s} f =
    one (λ m h a. moved m (seeing s os found ty) (is_sight m ∙ same_sight m.scene (scene_of s) m.opened os m.entry found m.last ty h a.opened a.entry a.last) f)

-- an event that typing has no step for, at what is seen
free_moved : {Z : Sight → Type 0} {e : Event} (m k : Sight) → m ≡ k → Free Z k e → Free Z m e
free_moved {Z = Z} {e = e} m k p g = subst (λ (x : Sight). Free Z x e) (sym p) g

pub free_at : {Z : Sight → Type 0} {os : List Open} {found : Bool} {e : Event} (m : Sight) → ((v : Scene) (ty : Ty) → Free Z (sight v os found ty) e) → At os found m → Free Z m e
free_at {os = os} {found = found} m f a =
    free_moved m (sight m.scene os found m.last) (is_sight m ∙ same_sight m.scene m.scene m.opened os m.entry found m.last m.last refl a.opened a.entry refl) (f m.scene m.last)

pub free_last : {Z : Sight → Type 0} {os : List Open} {found : Bool} {ty : Ty} {e : Event} (m : Sight) → ((v : Scene) → Free Z (sight v os found ty) e) → Last os found ty m → Free Z m e
free_last {os = os} {found = found} {ty = ty} m f a =
    free_moved m (sight m.scene os found ty) (is_sight m ∙ same_sight m.scene m.scene m.opened os m.entry found m.last ty refl a.opened a.entry a.last) (f m.scene)

-- ---- what an event adds
pub one_as : {A : Type 0} {s : Typer} {e : Event} {Y : A → Sight → Type 0} {t : Typed A} {m : Sight} (k : Sight) (fs : List Fault) → see m e ≡ k → broken m e ≡ fs → k.scene ≡ scene_of (state t) →
    noted (state t).faults ≡ noted s.faults ++ fs → Y (value t) k → One s e Y t m
one_as {s = s} {Y = Y} {t = t} k fs q r scene faults y = record {
  scene = ap (λ (x : Sight). x.scene) q ∙ scene;
  faults = faults ∙ ap (λ (gs : List Fault). noted s.faults ++ gs) (sym r);
  post = subst (λ (x : Sight). Y (value t) x) (sym q) y;
}

pub nothing_added : (s : Typer) → noted s.faults ≡ noted s.faults ++ []
nothing_added s = sym (append-nil (noted s.faults))

pub other_added : (rule : ℕ) (q : Pos) (s : Typer) → is_noted rule ≡ false → noted (refused rule q s).faults ≡ noted s.faults ++ []
other_added rule q s h = other_noted rule q s h ∙ nothing_added s

-- the same after a refusal
pub refused_one : {A : Type 0} {s : Typer} {e : Event} {Y : A → Sight → Type 0} {a : A} {m : Sight} (rule : ℕ) (q : Pos) (k : Sight) (fs : List Fault) → see m e ≡ k → broken m e ≡ fs → k.scene ≡ scene_of s →
    noted (refused rule q s).faults ≡ noted s.faults ++ fs → Y a k → One s e Y (Gives a (refused rule q s)) m
refused_one {s = s} rule q k fs see_is r scene faults y = one_as k fs see_is r (scene ∙ sym (refused_scene rule q s)) faults y

-- the same after a walk that does nothing of that kind
pub quiet_one : {A : Type 0} {s : Typer} {e : Event} {Y : A → Sight → Type 0} {t : Typed A} {m : Sight} (k : Sight) → Quiet s t → see m e ≡ k → broken m e ≡ [] → k.scene ≡ scene_of s → Y (value t) k → One s e Y t m
quiet_one {s = s} k q see_is r scene y = one_as k [] see_is r (scene ∙ sym q.scene) (q.faults ∙ nothing_added s) y

-- ---- lookups
pub meaning_seen : {M N : Type 0} (f : M → N) (s : Scope M) (w : List ℕ) → meaning_of (seen_as f s) w ≡ option_map f (meaning_of s w)
unfolding meaning_of
meaning_seen f s w = at_seen f s.meanings (index_from 0 w s.words) where
  at_seen : {M N : Type 0} (f : M → N) (xs : List M) (o : Option ℕ) → at (map f xs) o ≡ option_map f (at xs o)
  at_seen f xs None = refl
  at_seen f xs (Some i) = slice_get-map f xs i

pub known : (s : Typer) (w : List ℕ) (o : Option named.Named) → meaning_of s.names w ≡ o → meaning_of (seen_as meant s.names) w ≡ option_map meant o
known s w o h = meaning_seen meant s.names w ∙ ap (option_map meant) h

-- ---- where places begin
abbrev pub seen_spot : typed.Spot → Spot
seen_spot l = record { shape = l.shape; depth = l.depth; locked = l.locked; fixed = l.fixed }

variable_seen : (p : Pos) (k : ℕ) (o : Option Var) → seen_spot (variable_at p k o) ≡ spot_of (option_map shape_in o)
variable_seen p k None = refl
variable_seen p k (Some v) = refl

variable_spot : (s : Typer) (p : Pos) (k : ℕ) → spot_of (slice_get (map shape_in s.vars) k) ≡ seen_spot (variable_at p k (slice_get s.vars k))
variable_spot s p k = ap (λ (o : _). spot_of o) (slice_get-map shape_in s.vars k) ∙ sym (variable_seen p k (slice_get s.vars k))

module _ (os : List Open) (found : Bool) where
  abbrev pub AtSpot : typed.Spot → Sight → Type 0
  AtSpot l = At (Place (seen_spot l) ∷ os) found

  uses_see : (s : Typer) (x : Name) (o : Option named.Named) (ty : Ty) → meaning_of s.names x.text ≡ o → see (seeing s os found ty) (Uses x) ≡ seeing s (Place (meant_spot (scene_of s) (option_map meant o)) ∷ os) found ty
  unfolding see
  uses_see s x o ty h = ap (λ (y : Option Meaning). seeing s (Place (meant_spot (scene_of s) y) ∷ os) found ty) (known s x.text o h)

  uses_broken : (s : Typer) (x : Name) (o : Option named.Named) (ty : Ty) → meaning_of s.names x.text ≡ o → broken (seeing s os found ty) (Uses x) ≡ faults_at 1 (at_unless (is_some (option_map meant o)) x.pos) ++ []
  uses_broken s x o ty h = ap (λ (y : Option Meaning). faults_at 1 (at_unless (is_some y) x.pos) ++ []) (known s x.text o h)

  follows_broken : (s : Typer) (x : Name) (o : Option named.Named) (ty : Ty) → meaning_of s.names x.text ≡ o → broken (seeing s os found ty) (Follows x) ≡ faults_at 1 (at_unless (is_some (option_map meant o)) x.pos) ++ []
  follows_broken s x o ty h = ap (λ (y : Option Meaning). faults_at 1 (at_unless (is_some y) x.pos) ++ []) (known s x.text o h)

  root_reads : (x : Name) (o : Option named.Named) (s : Typer) → meaning_of s.names x.text ≡ o → Reads (At os found) s (Uses x ∷ []) AtSpot (begun x.pos (root_by x.pos o) s)
  unfolding place.spot_of
  root_reads x None s h =
      one_at (λ ty. refused_one 1 x.pos (seeing s (Place nowhere ∷ os) found ty) (fault 1 x.pos ∷ []) (uses_see s x None ty h) (uses_broken s x None ty h) refl (refused_noted 1 x.pos s) (record { opened = refl; entry = refl }))
  root_reads x (Some (n.Variable k)) s h =
      one_at (λ ty. one_as (seeing s (Place (spot_of (slice_get (map shape_in s.vars) k)) ∷ os) found ty) [] (uses_see s x (Some (n.Variable k)) ty h) (uses_broken s x (Some (n.Variable k)) ty h) refl (nothing_added s)
      (record { opened = ap (λ (l : Spot). Place l ∷ os) (variable_spot s x.pos k); entry = refl }))
  root_reads x (Some (n.Input k num)) s h =
      one_at (λ ty. one_as _ [] (uses_see s x (Some (n.Input k num)) ty h) (uses_broken s x (Some (n.Input k num)) ty h) refl (nothing_added s) (record { opened = refl; entry = refl }))
  root_reads x (Some (n.Alias y)) s h =
      one_at (λ ty. refused_one 5 x.pos (seeing s (Place nowhere ∷ os) found ty) [] (uses_see s x (Some (n.Alias y)) ty h) (uses_broken s x (Some (n.Alias y)) ty h) refl (other_added 5 x.pos s refl) (record { opened = refl; entry = refl }))
  root_reads x (Some n.Function) s h =
      one_at (λ ty. refused_one 5 x.pos (seeing s (Place nowhere ∷ os) found ty) [] (uses_see s x (Some n.Function) ty h) (uses_broken s x (Some n.Function) ty h) refl (other_added 5 x.pos s refl) (record { opened = refl; entry = refl }))

  pointed_reads : (star : Pos) (x : Name) (o : Option named.Named) (s : Typer) → meaning_of s.names x.text ≡ o → Reads (At os found) s (Follows x ∷ []) AtSpot (begun x.pos (pointed_by star x.pos o) s)
  unfolding place.spot_of see
  pointed_reads star x None s h =
      one_at (λ ty. refused_one 1 x.pos (seeing s (Place nowhere ∷ os) found ty) (fault 1 x.pos ∷ []) refl (follows_broken s x None ty h) refl (refused_noted 1 x.pos s) (record { opened = refl; entry = refl }))
  pointed_reads star x (Some k) s h =
      one_at (λ ty. refused_one 5 star (seeing s (Place nowhere ∷ os) found ty) [] refl (follows_broken s x (Some k) ty h) refl (other_added 5 star s refl) (record { opened = refl; entry = refl }))

  pub begins_reads : (b : PlaceBase) (s : Typer) → Reads (At os found) s (begin b ∷ []) AtSpot (begins b s)
  unfolding begins
  begins_reads (base.Name x) s = root_reads x (meaning_of s.names x.text) s refl
  begins_reads (base.Through p star x) s = pointed_reads star x (meaning_of s.names x.text) s refl
  begins_reads (base.Star star x) s = pointed_reads star x (meaning_of s.names x.text) s refl

  -- ---- types
  words_see : (s : Typer) (p : Pos) (ws : List ScalarWord) (o : Option Num) (ty : Ty) → num_of ws ≡ o → see (seeing s os found ty) (Words p ws) ≡ seeing s os found (words_type o)
  unfolding see
  words_see s p ws o ty h = ap (λ (z : Option Num). seeing s os found (words_type z)) h

  tag_see : (s : Typer) (p : Pos) (x : Name) (o : Option Tagged) (ty : Ty) → meaning_of s.tags x.text ≡ o → see (seeing s os found ty) (Tag p x) ≡ seeing s os found (tag_type o)
  unfolding see
  tag_see s p x o ty h = ap (λ (z : Option Tagged). seeing s os found (tag_type z)) h

  pub scalar_reads : (p : Pos) (ws : List ScalarWord) (o : Option Num) (s : Typer) → num_of ws ≡ o → Reads (At os found) s (Words p ws ∷ []) (Last os found) (scalar p o s)
  unfolding see
  scalar_reads p ws None s h =
      one_at (λ ty. refused_one 3 p (seeing s os found (plain el.Unknown)) (fault 3 p ∷ []) (words_see s p ws None ty h)
      (ap (λ (o : Option Num). faults_at 3 (at_unless (is_some o) p) ++ []) h) refl (refused_noted 3 p s) (record { opened = refl; entry = refl; last = refl }))
  scalar_reads p ws (Some num) s h =
      one_at (λ ty. one_as (seeing s os found (plain (el.Scalar num))) [] (words_see s p ws (Some num) ty h)
      (ap (λ (o : Option Num). faults_at 3 (at_unless (is_some o) p) ++ []) h) refl (nothing_added s) (record { opened = refl; entry = refl; last = refl }))

  pub void_reads : (s : Typer) → Reads (At os found) s (Void ∷ []) (Last os found) (Gives (plain el.Void) s)
  unfolding see
  void_reads s = one_at (λ ty. one_as (seeing s os found (plain el.Void)) [] refl refl refl (nothing_added s) (record { opened = refl; entry = refl; last = refl }))

  tag_reads : (p : Pos) (x : Name) (o : Option Tagged) (s : Typer) → meaning_of s.tags x.text ≡ o → Reads (At os found) s (Tag p x ∷ []) (Last os found) (defined p o s)
  unfolding see
  tag_reads p x None s h =
      one_at (λ ty. refused_one 3 p (seeing s os found (plain el.Unknown)) (fault 3 p ∷ []) (tag_see s p x None ty h)
      (ap (λ (o : Option Tagged). faults_at 3 (at_unless (is_complete o) p) ++ []) h) refl (refused_noted 3 p s) (record { opened = refl; entry = refl; last = refl }))
  tag_reads p x (Some t.Open) s h =
      one_at (λ ty. refused_one 3 p (seeing s os found (plain el.Unknown)) (fault 3 p ∷ []) (tag_see s p x (Some t.Open) ty h)
      (ap (λ (o : Option Tagged). faults_at 3 (at_unless (is_complete o) p) ++ []) h) refl (refused_noted 3 p s) (record { opened = refl; entry = refl; last = refl }))
  tag_reads p x (Some (t.Struct k)) s h =
      one_at (λ ty. one_as (seeing s os found (plain (el.Struct k))) [] (tag_see s p x (Some (t.Struct k)) ty h)
      (ap (λ (o : Option Tagged). faults_at 3 (at_unless (is_complete o) p) ++ []) h) refl (nothing_added s) (record { opened = refl; entry = refl; last = refl }))

  pub tagged_reads : (p : Pos) (x : Name) (s : Typer) → Reads (At os found) s (Tag p x ∷ []) (Last os found) (tagged p x s)
  unfolding tagged
  tagged_reads p x s = tag_reads p x (meaning_of s.tags x.text) s refl

  alias_is : (o : Option named.Named) → named_type (option_map meant o) ≡ alias o
  alias_is None = refl
  alias_is (Some (n.Variable k)) = refl
  alias_is (Some (n.Input k num)) = refl
  alias_is (Some (n.Alias ty)) = refl
  alias_is (Some n.Function) = refl

  name_see : (s : Typer) (x : Name) (ty : Ty) → see (seeing s os found ty) (Named x) ≡ seeing s os found (alias (meaning_of s.names x.text))
  unfolding see
  name_see s x ty = along (λ (y : Ty). seeing s os found y) (named_type (meaning_of (seen_as meant s.names) x.text)) (alias (meaning_of s.names x.text)) (ap (λ (o : Option Meaning). named_type o) (known s x.text (meaning_of s.names x.text) refl) ∙ alias_is (meaning_of s.names x.text))

  pub type_name_reads : (x : Name) (s : Typer) → Reads (At os found) s (Named x ∷ []) (Last os found) (type_name x s)
  unfolding type_name see
  type_name_reads x s =
      one_at (λ ty. one_as (seeing s os found (alias (meaning_of s.names x.text))) []
      (name_see s x ty) refl refl (nothing_added s)
      (record { opened = refl; entry = refl; last = refl }))

  qualifies : (qs : List Qualified) (ty : Ty) (m : Sight) → Last os found ty m → Free (Last os found (qualified qs ty)) m (Qualifies qs)
  unfolding see
  qualifies qs ty m a = free_last m (λ v. record { scene = refl; broken = refl; post = record { opened = refl; entry = refl; last = refl } }) a

  given_whole : (qs : List Qualified) (es : List Event) (s u : Typer) (ty : Ty) → Reads (At os found) s es (λ (y : Ty). Last os found (qualified qs y)) (Gives ty u) → Reads (At os found) s es (Last os found) (Gives (qualified qs ty) u)
  given_whole qs es s u ty h = record { reads = λ m k x. h.reads m k x }

  whole_by : (qs : List Qualified) (es : List Event) (s : Typer) (t : Typed Ty) → Reads (At os found) s es (Last os found) t → Reads (At os found) s (es ++ Qualifies qs ∷ []) (Last os found) (and_then t (λ ty. pure (qualified qs ty)))
  whole_by qs es s (Gives ty u) h = given_whole qs (es ++ Qualifies qs ∷ []) s u ty (then_event h (λ y m a. qualifies qs y m a))

  -- a whole type, given what stands after its qualifiers
  pub whole_reads : (qs : List Qualified) (b : Typing Ty) (es : List Event) (s : Typer) → Reads (At os found) s es (Last os found) (b s) → Reads (At os found) s (es ++ Qualifies qs ∷ []) (Last os found) (whole qs b s)
  whole_reads qs b es s h = whole_by qs es s (b s) h

  -- an object's type
  object_by : (p : Pos) (x : Element) (c : Bool) (s : Typer) → let ty : Ty = record { element = x; constant = c } in One s (Object p) (Last os found) (not_void p ty s) (seeing s os found ty)
  unfolding see
  object_by p el.Void c s =
      refused_one 3 p (seeing s os found (record { element = el.Unknown; constant = c })) (fault 3 p ∷ []) refl refl refl (refused_noted 3 p s) (record { opened = refl; entry = refl; last = refl })
  object_by p (el.Scalar num) c s = one_as _ [] refl refl refl (nothing_added s) (record { opened = refl; entry = refl; last = refl })
  object_by p (el.Struct j) c s = one_as _ [] refl refl refl (nothing_added s) (record { opened = refl; entry = refl; last = refl })
  object_by p el.Unknown c s = one_as _ [] refl refl refl (nothing_added s) (record { opened = refl; entry = refl; last = refl })

  pub object_reads : (p : Pos) (ty : Ty) (s : Typer) → Reads (Last os found ty) s (Object p ∷ []) (Last os found) (not_void p ty s)
  object_reads p ty s = one_last (object_by p ty.element ty.constant s)
