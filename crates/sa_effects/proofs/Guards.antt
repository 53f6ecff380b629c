-- Guards by forms, in environments of a shop.
use Rattle.std.proofs.Common.{◌≡◌, ◌∙◌, ℕ, ◌<◌, ℤ, pos, ◌+ℤ◌, ◌-ℤ◌, true, false, List, [], ◌∷◌, ◌++◌, length, refl, sym, ap, subst, arith, Option, Some, None}
use Rattle.std.specs.Prelude.{IfSome, option_map, if◌then◌else◌, ◌==◌, int_lt, Bool}
use Rattle.std.proofs.lemmas.Int.{ints}
use Rattle.sa_interval.specs.Span.{Span}
use Rattle.sa_env.specs.declared.env.Env.{Env}
use Rattle.sa_env.specs.declared.env.Env.TheVariants.{Dead}
use Rattle.sa_env.specs.declared.form.Form.{Form}
use Rattle.sa_env.specs.declared.form.Term.{Term}
use Rattle.sa_env.specs.Flat.{Limits}
use Rattle.sa_env.specs.Forms.{IsForm, IsModest, imposed}
use Rattle.sa_env.specs.Shop.{Stock, flat_of, IsNamed, Belongs, Keeps}
use Rattle.sa_flat.specs.Forms.{terms, form_of, turned, negative, sum_form, difference_form}
use Rattle.sa_flat.specs.Intervals as reference
use Rattle.sa_flat.specs.Meanings.{at_most, both_forms, imposed as imposed_by, bound}
use Rattle.sa_flat.specs.Passes.{alive_then}
use Rattle.sa_flat.proofs.Lawful.{IfAlive, IsForm as IsCells}
use Rattle.sa_flat.proofs.Numbers.{difference_cells}
use Rattle.sa_effects.specs.Stands.{opened, state_of}
use Rattle.sa_effects.specs.declared.value.Value.{Value}
use Rattle.sa_effects.specs.Values.{IsLight, everywhere}
use Rattle.sa_effects.proofs.Bridges.{imposed_is}

pub keeps_self : (s : Stock) → Keeps s s
keeps_self s = record { limits = refl; belongs = λ e h. h; flats = λ e h. refl }

pub keeps_on : (a b c : Stock) → Keeps a b → Keeps b c → Keeps a c
keeps_on a b c h k = record {
  limits = k.limits ∙ h.limits;
  belongs = λ e g. k.belongs e (h.belongs e g);
  flats = λ e g. k.flats e (h.belongs e g) ∙ h.flats e g;
}

pub alive_same : (o : Option reference.Flat) → o ≡ alive_then o (λ e. Some e)
alive_same None = refl
alive_same (Some e) = refl

pub at_most_none : (r : reference.Limits) (f : Option Form) (k : ℤ) (o : Option reference.Flat) → f ≡ None → o ≡ alive_then o (at_most (reference.intervals r) f k)
at_most_none r f k o h = subst (λ (f : Option Form). o ≡ alive_then o (at_most (reference.intervals r) f k)) (sym h) (alive_same o)

-- what imposing leaves stands for what the reference analysis makes of it
pub imposed_here : (r : reference.Limits) (s t : Stock) (e made : Env) (o : Option Form) (f : Form) (k : ℤ) → o ≡ Some f → IsForm s.limits.tops f → Belongs s e → flat_of t made ≡ imposed f k (flat_of s e) →
    state_of t made ≡ alive_then (state_of s e) (at_most (reference.intervals r) o k)
imposed_here r s t e made o f k h form b eq =
    subst (λ (o : Option Form). state_of t made ≡ alive_then (state_of s e) (at_most (reference.intervals r) o k)) (sym h)
    (ap opened eq ∙ imposed_is s.limits f k (flat_of s e) form b.fair)

pub holds_of : {A : Type 0} (P : A → Type 0) (o : Option A) (a : A) → o ≡ Some a → IfSome o P → P a
holds_of P o a h k = subst (λ (o : Option _). IfSome o P) h k

-- the forms that stay, under the limits of a later shop
pub form_later : (s t : Stock) (o : Option Form) → Keeps s t → IfSome o (IsForm s.limits.tops) → IfSome o (IsForm t.limits.tops)
form_later s t o h k = subst (λ (l : Limits). IfSome o (IsForm l.tops)) (sym h.limits) k

pub then_then : (o m : Option reference.Flat) (f g : reference.Flat → Option reference.Flat) → m ≡ alive_then o f → alive_then m g ≡ alive_then o (λ a. alive_then (f a) g)
then_then None m f g h = ap (λ (m : Option reference.Flat). alive_then m g) h
then_then (Some a) m f g h = ap (λ (m : Option reference.Flat). alive_then m g) h

pub then_none : (o : Option reference.Flat) → None ≡ alive_then {B = reference.Flat} o (λ _. None)
then_none None = refl
then_none (Some a) = refl

-- the dead environment is one of every shop
pub dead_belongs : (s : Stock) → Belongs s Dead
unfolding IsNamed flat_of
dead_belongs s = record { named = tt; fair = tt }

pub dead_state : (s : Stock) → state_of s Dead ≡ None
unfolding flat_of
dead_state s = refl

-- ---- forms that are imposed
abbrev pub AreApart : Form → Type 0
AreApart f = IfSome f.first (λ t. IfSome f.second (λ u. t.cell ≡ u.cell → ⊥))

pub form_apart : (ts : List Term) (c : ℤ) → IfSome (form_of ts c) AreApart
unfolding form_of
form_apart [] c = tt
form_apart (a ∷ []) c = tt
form_apart (a ∷ b ∷ []) c =
    elim (a.cell == b.cell) as (λ t. (a.cell == b.cell) ≡ t → IfSome {T = Form} (if t then None else Some (record { first = Some a; second = Some b; c = c })) AreApart) [
      | true ↦ λ e. tt
      | false ↦ λ e h. absurd (apart a.cell b.cell e h)
    ] refl
  where
    apart : (m n : ℕ) → (m == n) ≡ false → m ≡ n → ⊥
    apart m n e h = grind arith
form_apart (a ∷ b ∷ t ∷ ts) c = tt

form_constant : (ts : List Term) (c : ℤ) → IfSome (form_of ts c) (λ f. f.c ≡ c)
unfolding form_of
form_constant [] c = refl
form_constant (a ∷ []) c = refl
form_constant (a ∷ b ∷ []) c = elim (a.cell == b.cell) as (λ t. IfSome {T = Form} (if t then None else Some (record { first = Some a; second = Some b; c = c })) (λ f. f.c ≡ c)) [ true ↦ tt | false ↦ refl ]
form_constant (a ∷ b ∷ t ∷ ts) c = tt

cells_of_form : (tops : List Span) (f : Form) → IsForm tops f → IsCells (λ c. c < length tops) f
cells_of_form tops f h = (alive_some f.first h.first, alive_some f.second h.second)
  where
    alive_some : (o : Option Term) → IfSome o (λ t. t.cell < length tops) → IfAlive (λ t. t.cell < length tops) o
    alive_some None h = tt
    alive_some (Some t) h = h

formed : (tops : List Span) (d : Option Form) → IfAlive (IsCells (λ c. c < length tops)) d → IfSome d AreApart → IfSome d (λ f. IsModest f.c) → IfSome d (IsForm tops)
formed tops None h k m = tt
formed tops (Some f) h k m = record { first = some_alive f.first h.0; second = some_alive f.second h.1; distinct = k; constant = m }
  where
    some_alive : (o : Option Term) → IfAlive (λ t. t.cell < length tops) o → IfSome o (λ t. t.cell < length tops)
    some_alive None h = tt
    some_alive (Some t) h = h

modest_at : (d : Option Form) (c : ℤ) → IsModest c → IfSome d (λ f. f.c ≡ c) → IfSome d (λ f. IsModest f.c)
modest_at None c m h = tt
modest_at (Some f) c m h = subst IsModest (sym h) m

pub difference_is_form : (tops : List Span) (f g : Option Form) → IfSome f (IsLight tops) → IfSome g (IsLight tops) → IfSome (both_forms f g difference_form) (IsForm tops)
unfolding sum_form
difference_is_form tops None g h k = tt
difference_is_form tops (Some f) None h k = tt
difference_is_form tops (Some f) (Some g) h k =
    let c = f.c +ℤ (pos 0 -ℤ g.c) in
    let a = h.low in let b = h.high in let x = k.low in let y = k.high in
    formed tops (difference_form f g) (difference_cells (λ c. c < length tops) f g (cells_of_form tops f h.form) (cells_of_form tops g k.form))
    (form_apart (terms f ++ terms (negative g)) c)
    (modest_at (difference_form f g) c (record { low = omega (arith, ints); high = omega (arith, ints) }) (form_constant (terms f ++ terms (negative g)) c))

turned_less : (tops : List Span) (o : Option Term) → IfSome o (λ t. t.cell < length tops) → IfSome (turned o) (λ t. t.cell < length tops)
turned_less tops None h = tt
turned_less tops (Some t) h = h

pub turned_apart : (a b : Option Term) → IfSome a (λ t. IfSome b (λ u. t.cell ≡ u.cell → ⊥)) → IfSome (turned a) (λ t. IfSome (turned b) (λ u. t.cell ≡ u.cell → ⊥))
turned_apart None b h = tt
turned_apart (Some a) None h = tt
turned_apart (Some a) (Some b) h = h

pub negative_is_form : (tops : List Span) (f : Option Form) → IfSome f (IsLight tops) → IfSome (option_map negative f) (IsForm tops)
negative_is_form tops None h = tt
negative_is_form tops (Some f) h =
    let a = h.low in let b = h.high in
    record { first = turned_less tops f.first h.form.first; second = turned_less tops f.second h.form.second; distinct = turned_apart f.first f.second h.form.distinct; constant = record { low = omega (arith, ints); high = omega (arith, ints) } }

pub light_is_form : (tops : List Span) (o : Option Form) → IfSome o (IsLight tops) → IfSome o (IsForm tops)
light_is_form tops None h = tt
light_is_form tops (Some f) h = h.form

pub light_is_modest : (tops : List Span) (o : Option Form) → IfSome o (IsLight tops) → IfSome o (λ f. IsModest f.c)
light_is_modest tops None h = tt
light_is_modest tops (Some f) h = h.form.constant

-- ---- the cases of a guard
module _ (r : reference.Limits) where
  pub imposed_none : (d f g : Option Form) (s t : Span) (k : ℤ) (o : Option reference.Flat) → d ≡ None →
      alive_then o (λ a. alive_then (at_most (reference.intervals r) f (k +ℤ t.hi) a) (at_most (reference.intervals r) (option_map negative g) (k -ℤ s.lo))) ≡ alive_then o (imposed_by (reference.intervals r) d f g s t k)
  imposed_none d f g s t k o h = subst (λ (d : Option Form). alive_then o (imposed_by (reference.intervals r) None f g s t k) ≡ alive_then o (imposed_by (reference.intervals r) d f g s t k)) (sym h) refl

  abbrev bound_at : Option Span → Option Span → Option Form → Option Form → ℤ → reference.Flat → Option reference.Flat
  bound_at s t f g k e = alive_then s (λ s. alive_then t (λ t. if int_lt k (s.lo -ℤ t.hi) then None else imposed_by (reference.intervals r) (both_forms f g difference_form) f g s t k e))

  abbrev bound_here : Value → Value → ℤ → reference.Flat → Option reference.Flat
  bound_here a b k e = bound (reference.intervals r) (everywhere a) (everywhere b) k e

  bound_is : (a b : Value) (k : ℤ) (e : reference.Flat) → bound_here a b k e ≡ bound_at a.span b.span a.form b.form k e
  unfolding bound
  bound_is a b k e = refl

  alive_ap : (f g : reference.Flat → Option reference.Flat) (o : Option reference.Flat) → ((e : reference.Flat) → f e ≡ g e) → alive_then o f ≡ alive_then o g
  alive_ap f g None h = refl
  alive_ap f g (Some e) h = h e

  pub first_none : (a b : Value) (k : ℤ) (o : Option reference.Flat) → a.span ≡ None → None ≡ alive_then o (bound (reference.intervals r) (everywhere a) (everywhere b) k)
  first_none a b k o h =
      then_none o ∙ alive_ap (λ _. None) (bound_here a b k) o (λ e. sym (bound_is a b k e ∙ ap (λ (s : Option Span). bound_at s b.span a.form b.form k e) h))

  pub second_none : (a b : Value) (k : ℤ) (o : Option reference.Flat) (s : Span) → a.span ≡ Some s → b.span ≡ None → None ≡ alive_then o (bound (reference.intervals r) (everywhere a) (everywhere b) k)
  second_none a b k o s h g =
      then_none o ∙ alive_ap (λ _. None) (bound_here a b k) o
      (λ e. sym (bound_is a b k e ∙ (ap (λ (s : Option Span). bound_at s b.span a.form b.form k e) h ∙ ap (λ (t : Option Span). bound_at (Some s) t a.form b.form k e) g)))

  both_here : (a b : Value) (k : ℤ) (s t : Span) (e : reference.Flat) → a.span ≡ Some s → b.span ≡ Some t → bound_here a b k e ≡ bound_at (Some s) (Some t) a.form b.form k e
  both_here a b k s t e h g = bound_is a b k e ∙ (ap (λ (s : Option Span). bound_at s b.span a.form b.form k e) h ∙ ap (λ (t : Option Span). bound_at (Some s) t a.form b.form k e) g)

  pub all_above : (a b : Value) (k : ℤ) (o : Option reference.Flat) (s t : Span) → a.span ≡ Some s → b.span ≡ Some t → int_lt k (s.lo -ℤ t.hi) ≡ true → None ≡ alive_then o (bound (reference.intervals r) (everywhere a) (everywhere b) k)
  all_above a b k o s t h g e =
      then_none o ∙ alive_ap (λ _. None) (bound_here a b k) o
      (λ x. sym (both_here a b k s t x h g ∙ ap (λ (q : Bool). if q then None else imposed_by (reference.intervals r) (both_forms a.form b.form difference_form) a.form b.form s t k x) e))

  pub some_not_above : (a b : Value) (k : ℤ) (o : Option reference.Flat) (s t : Span) → a.span ≡ Some s → b.span ≡ Some t → int_lt k (s.lo -ℤ t.hi) ≡ false →
      alive_then o (imposed_by (reference.intervals r) (both_forms a.form b.form difference_form) a.form b.form s t k) ≡ alive_then o (bound (reference.intervals r) (everywhere a) (everywhere b) k)
  some_not_above a b k o s t h g e =
      alive_ap (imposed_by (reference.intervals r) (both_forms a.form b.form difference_form) a.form b.form s t k) (bound_here a b k) o
      (λ x. sym (both_here a b k s t x h g ∙ ap (λ (q : Bool). if q then None else imposed_by (reference.intervals r) (both_forms a.form b.form difference_form) a.form b.form s t k x) e))
