-- Frozen environments: their roots in the order of the environments, and what they stand for.
use Rattle.std.proofs.Common.{◌≡◌, ◌∙◌, ℕ, zero, suc, ◌+◌, ◌<◌, ◌≤◌, Bool, true, false, ◌||◌, List, [], ◌∷◌, ◌++◌, length, map, take, drop, get_or, arith, add-one, sym, refl, ap, subst, append_assoc, append-nil, IsTrue}
use Rattle.std.specs.Prelude.{Option, None, Some, slice_get}
use Rattle.std.specs.List.{All, list_any}
use Rattle.std.proofs.lemmas.List.{length-map, drop_more, drop_all}
use Rattle.sa_interval.specs.Span.{Span}
use Rattle.sa_shared.specs.declared.nodes.Root.{Root}
use Rattle.sa_shared.specs.Forest.{Forest, list_of}
use Rattle.sa_shared.specs.Forest as shared
use Rattle.sa_env.specs.declared.slot.SlotValue.{SlotValue}
use Rattle.sa_env.specs.declared.env.Env.{Env}
use Rattle.sa_env.specs.declared.env.Env.TheVariants.{Dead, Live}
use Rattle.sa_env.specs.Slots.{spans_of, Alike}
use Rattle.sa_env.specs.Flat.{Flat, dead, live, Limits, IsFair}
use Rattle.sa_env.specs.Shop.{Stock, IsBase, shop_over, flat_of, is_live, roots_of, with_roots, IsNamed, Belongs}
use Rattle.sa_env.proofs.Shops.{is_base, named_length, root_of_live, belongs_live, belongs_dead}

-- ---- lists of facts
all_head : {A : Type 0} (P : A → Type 0) (x : A) (xs : List A) → All P (x ∷ xs) → P x
all_head P x xs h = h 0 x (omega arith)

all_tail : {A : Type 0} (P : A → Type 0) (x : A) (xs : List A) → All P (x ∷ xs) → All P xs
all_tail P x xs h k d l = h (suc k) d (omega arith)

all_cons : {A : Type 0} (P : A → Type 0) (x : A) (xs : List A) → P x → All P xs → All P (x ∷ xs)
all_cons P x xs p h zero d l = p
all_cons P x xs p h (suc k) d l = h k d (omega arith)

all_none : {A : Type 0} (P : A → Type 0) → All P []
all_none P k d l = absurd (omega arith)

heads : {A : Type 0} (x y : A) (xs ys : List A) → x ∷ xs ≡ y ∷ ys → (x ≡ y) × (xs ≡ ys)
heads x y xs ys e = (cc, cc)

-- ---- the roots that are compacted
pub roots_belong : (s : Stock) (es : List Env) → All (Belongs s) es → All (shared.Belongs Alike s.lists) (roots_of es)
unfolding roots_of
roots_belong s [] h = all_none (shared.Belongs Alike s.lists)
roots_belong s (Dead ∷ es) h = roots_belong s es (all_tail (Belongs s) Dead es h)
roots_belong s (Live t r ∷ es) h = all_cons (shared.Belongs Alike s.lists) r (roots_of es) (root_of_live s t r (all_head (Belongs s) (Live t r) es h)) (roots_belong s es (all_tail (Belongs s) (Live t r) es h))

pub some_root : (s : Stock) (es : List Env) → IsTrue (list_any (is_live s) es) → 0 < length (roots_of es)
unfolding roots_of flat_of
some_root s [] h = absurd cc
some_root s (Dead ∷ es) h = some_root s es h
some_root s (Live t r ∷ es) h = omega arith

-- ---- the base
pub frozen_base : (l : Limits) (f g : Forest SlotValue) (rs ms : List Root) → IsBase l f → All (shared.Belongs Alike f) rs → g.slots ≡ f.slots → map (list_of g) ms ≡ map (list_of f) rs
    → All (shared.Belongs Alike g) ms → slice_get ms 0 ≡ Some g.first → IsBase l g
frozen_base l f g rs [] b h n e k i = absurd cc
frozen_base l f g [] (m ∷ ms) b h n e k i = absurd cc
frozen_base l f g (r ∷ rs) (m ∷ ms) b h n e k i =
    let first : m ≡ g.first = some_is m g.first i in
    is_base l g (n ∙ b.slots) (subst (λ (x : Root). shared.Belongs Alike g x) first (all_head (shared.Belongs Alike g) m ms k))
    (ap (λ (x : Root). length (list_of g x)) (sym first) ∙ ap length (heads (list_of g m) (list_of f r) (map (list_of g) ms) (map (list_of f) rs) e).0
    ∙ named_length l f r b (all_head (shared.Belongs Alike f) r rs h))
  where
    some_is : (x y : Root) → Some x ≡ Some y → x ≡ y
    some_is x y e = cc

-- ---- the environments
pub same_flats : (l : Limits) (f g : Forest SlotValue) (es : List Env) (ms : List Root) → map (list_of g) ms ≡ map (list_of f) (roots_of es)
    → map (flat_of (shop_over l g)) (with_roots es ms) ≡ map (flat_of (shop_over l f)) es
unfolding roots_of with_roots flat_of
same_flats l f g [] ms e = refl
same_flats l f g (Dead ∷ es) ms e = ap (λ (xs : List Flat). dead ∷ xs) (same_flats l f g es ms e)
same_flats l f g (Live t r ∷ es) [] e = absurd cc
same_flats l f g (Live t r ∷ es) (m ∷ ms) e =
    let p = heads (list_of g m) (list_of f r) (map (list_of g) ms) (map (list_of f) (roots_of es)) e in
    ap (λ (xs : List SlotValue). live t (spans_of xs) ∷ map (flat_of (shop_over l g)) (with_roots es ms)) p.0
    ∙ ap (λ (xs : List Flat). live t (spans_of (list_of f r)) ∷ xs) (same_flats l f g es ms p.1)

pub frozen_belong : (l : Limits) (f g : Forest SlotValue) (es : List Env) (ms : List Root) → map (list_of g) ms ≡ map (list_of f) (roots_of es)
    → All (shared.Belongs Alike g) ms → All (Belongs (shop_over l f)) es → All (Belongs (shop_over l g)) (with_roots es ms)
unfolding roots_of with_roots flat_of
frozen_belong l f g [] ms e k h = all_none (Belongs (shop_over l g))
frozen_belong l f g (Dead ∷ es) ms e k h =
    all_cons (Belongs (shop_over l g)) Dead (with_roots es ms) (belongs_dead (shop_over l g)) (frozen_belong l f g es ms e k (all_tail (Belongs (shop_over l f)) Dead es h))
frozen_belong l f g (Live t r ∷ es) [] e k h = all_none (Belongs (shop_over l g))
frozen_belong l f g (Live t r ∷ es) (m ∷ ms) e k h =
    let p = heads (list_of g m) (list_of f r) (map (list_of g) ms) (map (list_of f) (roots_of es)) e in
    let b = all_head (Belongs (shop_over l f)) (Live t r) es h in
    all_cons (Belongs (shop_over l g)) (Live t m) (with_roots es ms)
    (belongs_live l g t m (live t (spans_of (list_of f r))) (all_head (shared.Belongs Alike g) m ms k) (ap (λ (xs : List SlotValue). live t (spans_of xs)) p.0) b.fair)
    (frozen_belong l f g es ms p.1 (all_tail (shared.Belongs Alike g) m ms k) (all_tail (Belongs (shop_over l f)) (Live t r) es h))

-- ---- the loops over the environments
item_at : (es : List Env) (i : ℕ) (e x : Env) → i < length es → e ≡ get_or es i e → e ≡ x → drop i es ≡ x ∷ drop (i + 1) es
item_at es i e x h is k = drop_more es i e h ∙ ap (λ (y : Env). y ∷ drop (i + 1) es) (sym is ∙ k)

pub roots_dead : (es : List Env) (i : ℕ) (e : Env) (done : List Root) → i < length es → e ≡ get_or es i e → e ≡ Dead → done ++ roots_of (drop i es) ≡ roots_of es → done ++ roots_of (drop (i + 1) es) ≡ roots_of es
unfolding roots_of
roots_dead es i e done h is k v = ap (λ (xs : List Env). done ++ roots_of xs) (sym (item_at es i e Dead h is k)) ∙ v

pub roots_live : (es : List Env) (i : ℕ) (e : Env) (t : Span) (r : Root) (done new : List Root) → i < length es → e ≡ get_or es i e → e ≡ Live t r → new ≡ done ++ r ∷ []
    → done ++ roots_of (drop i es) ≡ roots_of es → new ++ roots_of (drop (i + 1) es) ≡ roots_of es
unfolding roots_of
roots_live es i e t r done new h is k n v =
    let rest = roots_of (drop (i + 1) es) in
    ap (λ (l : List Root). l ++ rest) n ∙ append_assoc done (r ∷ []) rest ∙ ap (λ (xs : List Env). done ++ roots_of xs) (sym (item_at es i e (Live t r) h is k)) ∙ v

pub roots_end : (es : List Env) (i : ℕ) (done : List Root) → length es ≤ i → done ++ roots_of (drop i es) ≡ roots_of es → done ≡ roots_of es
unfolding roots_of
roots_end es i done h v = sym (append-nil done) ∙ ap (λ (xs : List Env). done ++ roots_of xs) (sym (drop_all i es h)) ∙ v

pub made_dead : (es : List Env) (rs : List Root) (i n : ℕ) (e : Env) (done new : List Env) → i < length es → e ≡ get_or es i e → e ≡ Dead → new ≡ done ++ Dead ∷ []
    → done ++ with_roots (drop i es) (drop n rs) ≡ with_roots es rs → new ++ with_roots (drop (i + 1) es) (drop n rs) ≡ with_roots es rs
unfolding with_roots
made_dead es rs i n e done new h is k m v =
    let rest = with_roots (drop (i + 1) es) (drop n rs) in
    ap (λ (l : List Env). l ++ rest) m ∙ append_assoc done (Dead ∷ []) rest ∙ ap (λ (xs : List Env). done ++ with_roots xs (drop n rs)) (sym (item_at es i e Dead h is k)) ∙ v

pub made_live : (es : List Env) (rs : List Root) (i n : ℕ) (e : Env) (t : Span) (r q : Root) (done new : List Env) → i < length es → e ≡ get_or es i e → e ≡ Live t r
    → n < length rs → q ≡ get_or rs n q → new ≡ done ++ Live t q ∷ []
    → done ++ with_roots (drop i es) (drop n rs) ≡ with_roots es rs → new ++ with_roots (drop (i + 1) es) (drop (n + 1) rs) ≡ with_roots es rs
unfolding with_roots
made_live es rs i n e t r q done new h is k l at m v =
    let rest = with_roots (drop (i + 1) es) (drop (n + 1) rs) in
    let roots : drop n rs ≡ q ∷ drop (n + 1) rs = drop_more rs n q l ∙ ap (λ (x : Root). x ∷ drop (n + 1) rs) (sym at) in
    ap (λ (l : List Env). l ++ rest) m ∙ append_assoc done (Live t q ∷ []) rest
    ∙ ap (λ (xs : List Root). done ++ with_roots (Live t r ∷ drop (i + 1) es) xs) (sym roots)
    ∙ ap (λ (xs : List Env). done ++ with_roots xs (drop n rs)) (sym (item_at es i e (Live t r) h is k)) ∙ v

pub made_end : (es : List Env) (rs : List Root) (i n : ℕ) (done : List Env) → length es ≤ i → done ++ with_roots (drop i es) (drop n rs) ≡ with_roots es rs → done ≡ with_roots es rs
unfolding with_roots
made_end es rs i n done h v = sym (append-nil done) ∙ ap (λ (xs : List Env). done ++ with_roots xs (drop n rs)) (sym (drop_all i es h)) ∙ v

pub left_dead : (es : List Env) (i n m : ℕ) (e : Env) → i < length es → e ≡ get_or es i e → e ≡ Dead → n + length (roots_of (drop i es)) ≡ m → n + length (roots_of (drop (i + 1) es)) ≡ m
unfolding roots_of
left_dead es i n m e h is k v = ap (λ (xs : List Env). n + length (roots_of xs)) (sym (item_at es i e Dead h is k)) ∙ v

pub left_live : (es : List Env) (i n m : ℕ) (e : Env) (t : Span) (r : Root) → i < length es → e ≡ get_or es i e → e ≡ Live t r → n + length (roots_of (drop i es)) ≡ m → n + 1 + length (roots_of (drop (i + 1) es)) ≡ m
unfolding roots_of
left_live es i n m e t r h is k v =
    let d : length (roots_of (drop i es)) ≡ suc (length (roots_of (drop (i + 1) es))) = ap (λ (xs : List Env). length (roots_of xs)) (item_at es i e (Live t r) h is k) in
    omega (arith, d, v)
