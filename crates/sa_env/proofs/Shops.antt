-- Shops: what they stand over, and that what is added keeps what stood before.
use Rattle.std.proofs.Common.{◌≡◌, ℕ, ◌<◌, List, [], ◌∷◌, length, map, refl, sym, ap, ◌∙◌, subst, arith}
use Rattle.std.proofs.lemmas.List.{length-map}
use Rattle.std.proofs.lemmas.List.Elements.{length_all_zip}
use Rattle.std.specs.Prelude.{Option, None, Some}
use Rattle.sa_interval.specs.Span.{Span}
use Rattle.sa_shared.specs.declared.nodes.Root.{Root}
use Rattle.sa_shared.specs.Forest.{Forest, list_of, Grows}
use Rattle.sa_shared.specs.Forest as shared
use Rattle.sa_shared.specs.Slots.{EachSlot}
use Rattle.sa_shared.specs.Tree.{Tree, values}
use Rattle.sa_env.specs.declared.slot.SlotValue.{SlotValue}
use Rattle.sa_env.specs.declared.slot.SlotValue.TheVariants.{Cell}
use Rattle.sa_env.specs.declared.env.Env.{Env}
use Rattle.sa_env.specs.declared.env.Env.TheVariants.{Dead, Live}
use Rattle.sa_env.specs.Slots.{span_of, spans_of, Alike}
use Rattle.sa_env.specs.Flat.{Flat, dead, live, Limits, IsIn, IsFair, at_clock}
use Rattle.sa_env.specs.Shop.{Stock, IsBase, shop_over, flat_of, env_at, IsNamed, Belongs, Keeps}
use Rattle.sa_env.proofs.Lists.{each_alike, length_spans}

-- ---- what a shop stands over
pub is_base : (l : Limits) (f : Forest SlotValue) → f.slots ≡ length l.tops → shared.Belongs Alike f f.first → length (list_of f f.first) ≡ length l.tops → IsBase l f
is_base l f s b n = record {
  slots = s;
  first = b;
  alike = each_alike (map Cell l.tops) (list_of f f.first) (length-map l.tops Cell ∙ sym n);
}

-- of a list that is the first one
pub is_base_of : (l : Limits) (f : Forest SlotValue) (items : List SlotValue) → f.slots ≡ length items → shared.Belongs Alike f f.first → list_of f f.first ≡ items → spans_of items ≡ l.tops → IsBase l f
is_base_of l f items s b e t =
    let n : length items ≡ length l.tops = sym (length_spans items) ∙ ap length t in
    is_base l f (s ∙ n) b (ap length e ∙ n)

pub named_length : (l : Limits) (f : Forest SlotValue) (r : Root) → IsBase l f → shared.Belongs Alike f r → length (list_of f r) ≡ length l.tops
named_length l f r h b =
    sym (length_all_zip Alike (list_of f f.first) (list_of f r) b.alike)
    ∙ sym (length_all_zip Alike (map Cell l.tops) (list_of f f.first) h.alike) ∙ length-map l.tops Cell

-- lists of as many slots may be put there
pub may_be_put : (l : Limits) (f : Forest SlotValue) (items : List SlotValue) → IsBase l f → length (spans_of items) ≡ length l.tops → EachSlot Alike (list_of f f.first) items
may_be_put l f items h n =
    each_alike (list_of f f.first) items (named_length l f f.first h h.first ∙ sym n ∙ length_spans items)

pub same_list : (f g : Forest SlotValue) (r : Root) → Grows Alike f g → shared.Belongs Alike f r → list_of g r ≡ list_of f r
same_list f g r h b = ap (λ (t : Tree SlotValue). values t) (h.trees r b)

pub base_grows : (l : Limits) (f g : Forest SlotValue) → IsBase l f → Grows Alike f g → IsBase l g
base_grows l f g b h = is_base l g (h.slots ∙ b.slots) first (ap (λ (r : Root). length (list_of g r)) h.first ∙ ap length (same_list f g f.first h b.first) ∙ named_length l f f.first b b.first)
  where
    first : shared.Belongs Alike g g.first
    first = subst (λ (r : Root). shared.Belongs Alike g r) (sym h.first) (h.roots f.first b.first)

-- ---- environments
pub flat_same : (l : Limits) (f g : Forest SlotValue) (e : Env) → Grows Alike f g → Belongs (shop_over l f) e → flat_of (shop_over l g) e ≡ flat_of (shop_over l f) e
unfolding flat_of IsNamed
flat_same l f g Dead h b = refl
flat_same l f g (Live t r) h b = ap (λ (xs : List SlotValue). live t (spans_of xs)) (same_list f g r h b.named)

pub named_grows : (l : Limits) (f g : Forest SlotValue) (e : Env) → Grows Alike f g → IsNamed (shop_over l f) e → IsNamed (shop_over l g) e
unfolding IsNamed
named_grows l f g Dead h b = tt
named_grows l f g (Live t r) h b = h.roots r b

pub keeps : (l : Limits) (f g : Forest SlotValue) → Grows Alike f g → Keeps (shop_over l f) (shop_over l g)
keeps l f g h = record {
  limits = refl;
  belongs = λ e b. record {
    named = named_grows l f g e h b.named;
    fair = subst (λ (x : Flat). IsFair l x) (sym (flat_same l f g e h b)) b.fair;
  };
  flats = λ e b. flat_same l f g e h b;
}

pub keeps_self : (s : Stock) → Keeps s s
keeps_self s = record { limits = refl; belongs = λ e b. b; flats = λ e b. refl }

pub keeps_on : (s t u : Stock) → Keeps s t → Keeps t u → Keeps s u
keeps_on s t u h k = record {
  limits = k.limits ∙ h.limits;
  belongs = λ e b. k.belongs e (h.belongs e b);
  flats = λ e b. k.flats e (h.belongs e b) ∙ h.flats e b;
}

-- ---- an environment that was made
pub flat_live : (l : Limits) (f : Forest SlotValue) (t : Span) (r : Root) (xs : List SlotValue) (ys : List Span) → list_of f r ≡ xs → spans_of xs ≡ ys → flat_of (shop_over l f) (Live t r) ≡ live t ys
unfolding flat_of
flat_live l f t r xs ys e h = ap (λ (zs : List SlotValue). live t (spans_of zs)) e ∙ ap (λ (zs : List Span). live t zs) h

pub belongs_live : (l : Limits) (f : Forest SlotValue) (t : Span) (r : Root) (x : Flat) → shared.Belongs Alike f r → flat_of (shop_over l f) (Live t r) ≡ x → IsFair l x → Belongs (shop_over l f) (Live t r)
unfolding IsNamed
belongs_live l f t r x b e h = record { named = b; fair = subst (λ (y : Flat). IsFair l y) (sym e) h }

pub belongs_dead : (s : Stock) → Belongs s Dead
unfolding IsNamed flat_of
belongs_dead s = record { named = tt; fair = tt }

pub root_of_live : (s : Stock) (t : Span) (r : Root) → Belongs s (Live t r) → shared.Belongs Alike s.lists r
unfolding IsNamed
root_of_live s t r b = b.named

-- ---- a changed shop, and what is made in it
pub kept : (l : Limits) (f g : Forest SlotValue) (s : Stock) → shop_over l f ≡ s → Grows Alike f g → Keeps s (shop_over l g)
kept l f g s e h = subst (λ (t : Stock). Keeps t (shop_over l g)) e (keeps l f g h)

pub made_belongs : (l : Limits) (f g : Forest SlotValue) (s : Stock) (t : Span) (r : Root) (x : Flat) → shop_over l f ≡ s → shared.Belongs Alike g r → flat_of (shop_over l g) (Live t r) ≡ x → IsFair s.limits x → Belongs (shop_over l g) (Live t r)
made_belongs l f g s t r x e b v h = belongs_live l g t r x b v (subst (λ (u : Stock). IsFair u.limits x) (sym e) h)

-- ---- an environment that was given
pub root_given : (l : Limits) (f : Forest SlotValue) (s : Stock) (e : Env) (t : Span) (r : Root) → shop_over l f ≡ s → e ≡ Live t r → Belongs s e → shared.Belongs Alike f r
root_given l f s e t r q i b = root_of_live (shop_over l f) t r (subst (λ (u : Stock). Belongs u (Live t r)) (sym q) (subst (λ (x : Env). Belongs s x) i b))

pub flat_given : (l : Limits) (f : Forest SlotValue) (s : Stock) (e : Env) (t : Span) (r : Root) → shop_over l f ≡ s → e ≡ Live t r → flat_of s e ≡ live t (spans_of (list_of f r))
unfolding flat_of
flat_given l f s e t r q i = ap (λ (x : Env). flat_of s x) i ∙ ap (λ (u : Stock). flat_of u (Live t r)) (sym q)

pub flat_dead : (s : Stock) → flat_of s Dead ≡ dead
unfolding flat_of
flat_dead s = refl

pub given_dead : (s : Stock) (e : Env) → e ≡ Dead → flat_of s e ≡ dead
unfolding flat_of
given_dead s e i = ap (λ (x : Env). flat_of s x) i

-- the cells of an environment in the frame's ranges
pub given_in : (l : Limits) (f : Forest SlotValue) (s : Stock) (e : Env) (t : Span) (r : Root) → shop_over l f ≡ s → e ≡ Live t r → Belongs s e → IsFair l (live t (spans_of (list_of f r)))
given_in l f s e t r q i b = subst (λ (u : Stock). IsFair u.limits (live t (spans_of (list_of f r)))) (sym q) (subst (λ (x : Flat). IsFair s.limits x) (flat_given l f s e t r q i) b.fair)

pub live_given : (s : Stock) (e : Env) (t : Span) (r : Root) → e ≡ Live t r → flat_of s e ≡ live t (spans_of (list_of s.lists r))
unfolding flat_of
live_given s e t r i = ap (λ (x : Env). flat_of s x) i

pub fair_given : (s : Stock) (e : Env) (t : Span) (r : Root) → e ≡ Live t r → Belongs s e → IsFair s.limits (live t (spans_of (list_of s.lists r)))
fair_given s e t r i b = subst (λ (x : Flat). IsFair s.limits x) (live_given s e t r i) b.fair

pub not_dead : (s : Stock) (e : Env) (t : Span) (r : Root) → e ≡ Live t r → flat_of s e ≡ dead → ⊥
not_dead s e t r i h = absurd (apart t (spans_of (list_of s.lists r)) (sym (live_given s e t r i) ∙ h))
  where
    apart : (t : Span) (xs : List Span) → live t xs ≡ dead → ⊥
    apart t xs h = cc

pub cells_given : (l : Limits) (f : Forest SlotValue) (s : Stock) (e : Env) (t : Span) (r : Root) → shop_over l f ≡ s → e ≡ Live t r → Belongs s e → EachSlot IsIn s.limits.tops (spans_of (list_of f r))
cells_given l f s e t r q i b = (subst (λ (x : Flat). IsFair s.limits x) (flat_given l f s e t r q i) b.fair).1

-- ---- at another clock
pub flat_at : (s : Stock) (o : Option Span) (r : Root) → flat_of s (env_at o r) ≡ at_clock o (spans_of (list_of s.lists r))
unfolding flat_of
flat_at s None r = refl
flat_at s (Some t) r = refl

pub belongs_at : (l : Limits) (f : Forest SlotValue) (s : Stock) (o : Option Span) (r : Root) → shop_over l f ≡ s → shared.Belongs Alike f r → IsFair s.limits (flat_of s (env_at o r)) → Belongs s (env_at o r)
unfolding IsNamed
belongs_at l f s None r q b h = record { named = tt; fair = h }
belongs_at l f s (Some t) r q b h = record { named = subst (λ (u : Stock). shared.Belongs Alike u.lists r) q b; fair = h }

-- two at once
pub of_two : {X : Type 0} (f : Flat → Flat → X) (x y z w : Flat) → x ≡ y → z ≡ w → f x z ≡ f y w
of_two f x y z w e g = ap (λ (v : Flat). f v z) e ∙ ap (λ (v : Flat). f y v) g

pub stock_is : (s : Stock) → shop_over s.limits s.lists ≡ s
stock_is s = refl
