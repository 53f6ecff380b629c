-- What a walk of typing sees and refuses with the codes that have a rule: the same as the events of its part of the tree.
use Rattle.std.proofs.Common.{◌≡◌, ℕ, Bool, true, false, List, [], ◌∷◌, ◌++◌, refl, sym, ap, subst, ◌∙◌, Option, Some, None}
use Rattle.std.proofs.lemmas.List.{append-nil}
use Rattle.std.proofs.lemmas.List.Elements.{filter-append}
use Rattle.std.proofs.lemmas.List.Sums.{fold-append}
use Rattle.std.specs.List.{filter, fold, flat_map}
use Rattle.std.specs.Prelude.{if◌then◌else◌, ◌==◌, ◌||◌, map}
use Rattle.sa_base.specs.declared.pos.Pos.{Pos}
use Rattle.sa_typed.specs.declared.program.Var.{Var}
use Rattle.sa_scopes.specs.declared.typer.Fault.{Fault}
use Rattle.sa_scopes.specs.declared.typer.Typer.{Typer}
use Rattle.sa_scopes.specs.declared.types.Named as named
use Rattle.sa_scopes.specs.declared.types.Named.TheVariants as n
use Rattle.sa_scopes.specs.Scopes.{Scope}
use Rattle.sa_scopes.specs.Typing.{Typed, Typing, Gives, and_then, each, refused, refuse_if, fault}
use Rattle.sa_rules.specs.Events.{Event}
use Rattle.sa_rules.specs.Scenes as scene
use Rattle.sa_rules.specs.Scenes.{Meaning, Of_shape, Scene}
use Rattle.sa_rules.specs.Sight.{Sight, see}
use Rattle.sa_rules.specs.Rules.{no_constant, oversized, undeclared, declared_twice, no_type, no_field, unassignable, ill_copied, ill_begun, misqualified, astray}

-- ---- what is noted: refusals with these codes
abbrev pub is_noted : ℕ → Bool
is_noted k = k == 18 || k == 19 || k == 1 || k == 2 || k == 3 || k == 21 || k == 22 || k == 23 || k == 20 || k == 6 || k == 4 || k == 7

abbrev pub is_noted_fault : Fault → Bool
is_noted_fault f = is_noted f.rule

abbrev pub noted : List Fault → List Fault
noted fs = filter is_noted_fault fs

abbrev pub faults_at : ℕ → Option Pos → List Fault
faults_at code None = []
faults_at code (Some p) = fault code p ∷ []

-- what an event is refused for
abbrev pub broken : Sight → Event → List Fault
broken m e =
    faults_at 7 (ill_copied m e)
    ++ (faults_at 18 (no_constant m e) ++ (faults_at 19 (oversized m e) ++ (faults_at 1 (undeclared m e) ++ (faults_at 2 (declared_twice m e) ++ (faults_at 3 (no_type m e) ++ (faults_at 21 (misqualified m e)
    ++ (faults_at 23 (astray m e) ++ (faults_at 20 (ill_begun m e) ++ (faults_at 6 (unassignable m e) ++ faults_at 4 (no_field m e))))))))))

pub record Noted : Type 0 where
  pub sight : Sight
  pub faults : List Fault

unfoldable pub note : Noted → Event → Noted
note m e = record { sight = see m.sight e; faults = m.faults ++ broken m.sight e }

abbrev pub noting : Noted → List Event → Noted
noting m es = fold note m es

pub noting_append : (m : Noted) (xs ys : List Event) → noting m (xs ++ ys) ≡ noting (noting m xs) ys
noting_append m xs ys = fold-append note m xs ys

-- ---- the same by typing
abbrev pub meant : named.Named → Meaning
meant (n.Variable k) = scene.Variable k
meant (n.Input k num) = scene.Input num
meant (n.Alias ty) = scene.Alias ty
meant n.Function = scene.Function

abbrev pub shape_in : Var → Of_shape
shape_in v = record { shape = v.shape; constant = v.constant }

abbrev pub seen_as : {M N : Type 0} → (M → N) → Scope M → Scope N
seen_as f s = record { words = s.words; meanings = map f s.meanings }

-- what is visible in a state of typing
abbrev pub scene_of : Typer → Scene
scene_of s = record { names = seen_as meant s.names; tags = s.tags; structs = s.structs; variables = map shape_in s.vars }

-- the state of typing has what is visible, and the refusals that were noted
pub record Same (s : Typer) (m : Noted) : Type 0 where
  pub scene : m.sight.scene ≡ scene_of s
  pub faults : m.faults ≡ noted s.faults

abbrev pub state : {A : Type 0} → Typed A → Typer
state (Gives a s) = s

abbrev pub value : {A : Type 0} → Typed A → A
value (Gives a s) = a

-- a walk from that state sees and refuses what those events do
pub record Reads (X : Sight → Type 0) (s : Typer) (es : List Event) {A : Type 0} (Y : A → Sight → Type 0) (t : Typed A) : Type 0 where
  pub reads : (m : Noted) → Same s m → X m.sight → Same (state t) (noting m es) × Y (value t) (noting m es).sight

-- a walk that does nothing of that kind
pub record Quiet (s : Typer) {A : Type 0} (t : Typed A) : Type 0 where
  pub scene : scene_of (state t) ≡ scene_of s
  pub names : (state t).names ≡ s.names
  pub faults : noted (state t).faults ≡ noted s.faults

-- ---- quiet walks
pub refused_noted : (rule : ℕ) (q : Pos) (s : Typer) → noted (refused rule q s).faults ≡ noted s.faults ++ noted (fault rule q ∷ [])
unfolding refused
refused_noted rule q s = filter-append is_noted_fault s.faults (fault rule q ∷ [])

pub refused_scene : (rule : ℕ) (q : Pos) (s : Typer) → scene_of (refused rule q s) ≡ scene_of s
unfolding refused
refused_scene rule q s = refl

refused_names : (rule : ℕ) (q : Pos) (s : Typer) → (refused rule q s).names ≡ s.names
unfolding refused
refused_names rule q s = refl

none_noted : (b : Bool) (f : Fault) → b ≡ false → (if b then f ∷ [] else []) ≡ []
none_noted true f h = cc
none_noted false f h = refl

pub other_noted : (rule : ℕ) (q : Pos) (s : Typer) → is_noted rule ≡ false → noted (refused rule q s).faults ≡ noted s.faults
other_noted rule q s h = refused_noted rule q s ∙ ap (λ (fs : List Fault). noted s.faults ++ fs) (none_noted (is_noted rule) (fault rule q) h) ∙ append-nil (noted s.faults)

pub quiet_gives : {A : Type 0} {s : Typer} {a : A} → Quiet s (Gives a s)
quiet_gives = record { scene = refl; names = refl; faults = refl }

pub quiet_refuses : {A : Type 0} {s : Typer} {a : A} (rule : ℕ) (q : Pos) → is_noted rule ≡ false → Quiet s (Gives a (refused rule q s))
quiet_refuses {s = s} rule q h = record { scene = refused_scene rule q s; names = refused_names rule q s; faults = other_noted rule q s h }

pub quiet_then : {A B : Type 0} {s : Typer} {t : Typed A} {f : A → Typing B} → Quiet s t → ((a : A) (u : Typer) → Quiet u (f a u)) → Quiet s (and_then t f)
quiet_then {t = Gives a u} {f = f} m go = let g = go a u in record { scene = g.scene ∙ m.scene; names = g.names ∙ m.names; faults = g.faults ∙ m.faults }

pub quiet_unless : {s : Typer} (b : Bool) (rule : ℕ) (q : Pos) → is_noted rule ≡ false → Quiet s (refuse_if b rule q s)
quiet_unless true rule q h = quiet_refuses rule q h
quiet_unless false rule q h = quiet_gives

-- ---- walks with events
same_still : {A : Type 0} {s : Typer} {t : Typed A} {m : Noted} → Quiet s t → Same s m → Same (state t) m
same_still q h = record { scene = h.scene ∙ sym q.scene; faults = h.faults ∙ sym q.faults }

-- nothing is done, and what is given matters
pub quiet_to : {A : Type 0} {X : Sight → Type 0} {Y : A → Sight → Type 0} {s : Typer} {t : Typed A} → Quiet s t → ((m : Sight) → X m → Y (value t) m) → Reads X s [] Y t
quiet_to q f = record { reads = λ m h x. (same_still q h, f m.sight x) }

pub quiet : {A : Type 0} {X : Sight → Type 0} {s : Typer} {t : Typed A} → Quiet s t → Reads X s [] (λ a. X) t
quiet q = record { reads = λ m h x. (same_still q h, x) }

pub stays : {A : Type 0} {s : Typer} {Y : A → Sight → Type 0} {a : A} → Reads (Y a) s [] Y (Gives a s)
stays = record { reads = λ m h x. (h, x) }

pub bind : {A B : Type 0} {X : Sight → Type 0} {s : Typer} {xs ys : List Event} {Y : A → Sight → Type 0} {Z : B → Sight → Type 0} {t : Typed A} {f : A → Typing B} →
    Reads X s xs Y t → ((a : A) (u : Typer) → Reads (Y a) u ys Z (f a u)) → Reads X s (xs ++ ys) Z (and_then t f)
bind {xs = xs} {ys = ys} {Z = Z} {t = Gives a u} {f = f} m go = record {
  reads = λ n h x.
      let k = m.reads n h x in
      subst (λ (l : Noted). Same (state (f a u)) l × Z (value (f a u)) l.sight) (sym (noting_append n xs ys)) ((go a u).reads (noting n xs) k.0 k.1);
}

-- the same for the state that the first part ends in
pub then_here : {A B : Type 0} {X : Sight → Type 0} {s : Typer} {xs ys : List Event} {Y : A → Sight → Type 0} {Z : B → Sight → Type 0} {t : Typed A} (f : A → Typing B) →
    Reads X s xs Y t → Reads (Y (value t)) (state t) ys Z (f (value t) (state t)) → Reads X s (xs ++ ys) Z (and_then t f)
then_here {xs = xs} {ys = ys} {Z = Z} {t = Gives a u} f m g = record {
  reads = λ n h x.
      let k = m.reads n h x in
      subst (λ (l : Noted). Same (state (f a u)) l × Z (value (f a u)) l.sight) (sym (noting_append n xs ys)) (g.reads (noting n xs) k.0 k.1);
}

-- a quiet walk follows, and what is given matters
pub ends_to : {A B : Type 0} {X : Sight → Type 0} {Y : A → Sight → Type 0} {Z : B → Sight → Type 0} {s : Typer} {xs : List Event} {t : Typed A} {f : A → Typing B} →
    Reads X s xs Y t → ((a : A) (u : Typer) → Quiet u (f a u)) → ((a : A) (u : Typer) (m : Sight) → Y a m → Z (value (f a u)) m) → Reads X s xs Z (and_then t f)
ends_to {t = Gives a u} {f = f} m go to = record { reads = λ n h x. let k = m.reads n h x in (same_still (go a u) k.0, to a u _ k.1) }

pub ends : {A B : Type 0} {X Y : Sight → Type 0} {s : Typer} {xs : List Event} {t : Typed A} {f : A → Typing B} →
    Reads X s xs (λ a. Y) t → ((a : A) (u : Typer) → Quiet u (f a u)) → Reads X s xs (λ b. Y) (and_then t f)
ends {t = Gives a u} {f = f} m go = record { reads = λ n h x. let k = m.reads n h x in (same_still (go a u) k.0, k.1) }

-- the same for the state that the first part ends in
pub then_quiet : {A B : Type 0} {X Y : Sight → Type 0} {s : Typer} {xs : List Event} {a : A} {u : Typer} {t : Typed B} → Reads X s xs (λ (b : A). Y) (Gives a u) → Quiet u t → Reads X s xs (λ (b : B). Y) t
then_quiet m q = record { reads = λ n h x. let k = m.reads n h x in (same_still q k.0, k.1) }

pub so : {A : Type 0} {X : Sight → Type 0} {s : Typer} {xs : List Event} {Y Z : A → Sight → Type 0} {t : Typed A} → Reads X s xs Y t → ((a : A) (m : Sight) → Y a m → Z a m) → Reads X s xs Z t
so {t = t} m f = record { reads = λ n h x. let k = m.reads n h x in (k.0, f (value t) _ k.1) }

pub from : {A : Type 0} {X Z : Sight → Type 0} {s : Typer} {xs : List Event} {Y : A → Sight → Type 0} {t : Typed A} → ((m : Sight) → X m → Z m) → Reads Z s xs Y t → Reads X s xs Y t
from f m = record { reads = λ n h x. m.reads n h (f n.sight x) }

-- ---- an event that typing has no step for
pub record Free (Z : Sight → Type 0) (m : Sight) (e : Event) : Type 0 where
  pub scene : (see m e).scene ≡ m.scene
  pub broken : broken m e ≡ []
  pub post : Z (see m e)

pub event : {A : Type 0} {X Z : Sight → Type 0} {s : Typer} {e : Event} {xs : List Event} {Y : A → Sight → Type 0} {t : Typed A} → ((m : Sight) → X m → Free Z m e) → Reads Z s xs Y t → Reads X s (e ∷ xs) Y t
unfolding note
event {e = e} f m = record {
  reads = λ n h x.
      let k = f n.sight x in
      m.reads (note n e) (record { scene = k.scene ∙ h.scene; faults = ap (λ (fs : List Fault). n.faults ++ fs) k.broken ∙ append-nil n.faults ∙ h.faults }) k.post;
}

-- .. behind a walk
pub then_event : {A : Type 0} {X : Sight → Type 0} {s : Typer} {e : Event} {xs : List Event} {Y Z : A → Sight → Type 0} {t : Typed A} → Reads X s xs Y t → ((a : A) (m : Sight) → Y a m → Free (Z a) m e) →
    Reads X s (xs ++ e ∷ []) Z t
unfolding note
then_event {s = s} {e = e} {xs = xs} {Z = Z} {t = t} m f = record {
  reads = λ n h x.
      let k = m.reads n h x in
      let g = f (value t) (noting n xs).sight k.1 in
      subst (λ (l : Noted). Same (state t) l × Z (value t) l.sight) (sym (noting_append n xs (e ∷ [])))
      (record { scene = g.scene ∙ k.0.scene; faults = ap (λ (fs : List Fault). (noting n xs).faults ++ fs) g.broken ∙ append-nil (noting n xs).faults ∙ k.0.faults }, g.post);
}

-- one part after the other
pub all_parts : {U A : Type 0} (X : A → Sight → Type 0) (f : U → A → Typing A) (in_one : U → List Event) →
    ((x : U) (a : A) (s : Typer) → Reads (X a) s (in_one x) X (f x a s)) → (xs : List U) (a : A) (s : Typer) → Reads (X a) s (flat_map in_one xs) X (each f xs a s)
unfolding each
all_parts X f in_one one [] a s = stays
all_parts X f in_one one (x ∷ xs) a s = bind (one x a s) (λ b u. all_parts X f in_one one xs b u)
