-- Types with the same cells: a structure of one field with one element has those of its field.
use Rattle.std.proofs.Common.{◌≡◌, ℕ, zero, suc, ◌*◌, ◌<◌, ◌≤◌, ℤ, Bool, true, false, List, [], ◌∷◌, ◌++◌, length, get_or, refl, sym, ap, subst, ◌∙◌, inl, inr, append-nil, arith}
use Rattle.std.specs.Prelude.{◌&&◌, ◌||◌, nat_lt, slice_get, Option, Some}
use Rattle.std.specs.List.{list_all, list_any}
use Rattle.std.proofs.lemmas.Bool.{cases_lt}
use Rattle.std.proofs.lemmas.Bool.Decides.{nat_tests}
use Rattle.std.proofs.lemmas.Option.{slice_get_within}
use Rattle.sa_typed.specs.Layouts.{Layout, row, fields, no_field, field, nums, rows, layout_with, layouts_with}
use Rattle.sa_typed.specs.declared.shape.Plain.{Plain}
use Rattle.sa_typed.specs.declared.shape.Plain.TheVariants.{Scalar, Struct}
use Rattle.sa_typed.specs.declared.shape.FieldDef.{FieldDef}
use Rattle.sa_typed.specs.declared.shape.StructDef.{StructDef}
use Rattle.sa_base.specs.declared.num.Num.{Num}
use Rattle.sa_ir.specs.declared.slots.Core.{Core}
use Rattle.sa_ir.specs.declared.slots.Elements.{Elements}
use Rattle.sa_ir.specs.Sizes.{among, no_array, made_of}
use Rattle.sa_ir.specs.Slots.{slots_in, moved_on, apart, together, any_stops, fields_in}
use Rattle.sa_ir.specs.Spots.{base_layout, work, works, IsKnown, starred_by, IsAlike, IsCore, StandFor, IsBase, is_single}
use Rattle.sa_ir.proofs.SlotLaws.{slots-apart, slots-one, slots-together, slots-fields, moved-alike}
use Rattle.sa_ir.proofs.SizeLemmas.{among-rows, one-times}
use Rattle.sa_ir.proofs.SpotLemmas.{among-own, work-small, work-large}
use Rattle.sa_ir.proofs.StructLemmas.{among-struct}

or-false : (b : Bool) → (b || false) ≡ b
or-false true = refl
or-false false = refl

or-true : (b : Bool) → (b || true) ≡ true
or-true true = refl
or-true false = refl

or-or : (a b c : Bool) → ((a || b) || c) ≡ (a || (b || c))
or-or true b c = refl
or-or false b c = refl

either : (a b : Bool) → a ≡ true → (a || b) ≡ true
either true b h = refl
either false b h = absurd cc

other : (a b : Bool) → b ≡ true → (a || b) ≡ true
other a true h = or-true a
other a false h = absurd cc

-- ---- layouts
still-starred : (e : Elements) → starred_by false e ≡ e
still-starred e = ap (λ (b : Bool). let x : Elements = record { starred = b; at = e.at; more = e.more } in x) (or-false e.starred)

-- where nothing is starred
alike-plain : (l m : Layout) → ((zs : List ℤ) (e : Elements) → slots_in zs l e ≡ slots_in zs m e) → work m ≤ work l → IsAlike false l m
alike-plain l m h w = record { slots = λ zs e _. h zs e ∙ ap (λ (x : Elements). slots_in zs m x) (sym (still-starred e)); work = w }

pub alike-same : (l m : Layout) → l ≡ m → IsAlike false l m
alike-same l m h = alike-plain l m (λ zs e. ap (λ (x : Layout). slots_in zs x e) h) (let w = ap work h in omega (arith, w))

pub alike-next : (s t : Bool) (l m n : Layout) → IsAlike s l m → IsAlike t m n → IsAlike (s || t) l n
alike-next s t l m n a b = record {
  slots = λ zs e h. a.slots zs e (λ k. h (either s t k)) ∙ b.slots zs (starred_by s e) (λ k. h (other s t k))
      ∙ ap (λ (c : Bool). slots_in zs n (record { starred = c; at = e.at; more = e.more })) (or-or e.starred s t);
  work = let x = a.work in let y = b.work in omega (arith, x, y);
}

alike-one : (l : Layout) → IsAlike false (row 1 l) l
alike-one l = alike-plain (row 1 l) l (λ zs e. slots-one zs l e) (let w = work-small 1 l (omega arith) in let o = one-times (work l) in omega (arith, w, o))

-- all elements of a large array, none of which has an initial value
alike-large : (n : ℕ) (l : Layout) → 128 < n → IsAlike true (row n l) l
unfolding together any_stops
alike-large n l h = record {
  slots = λ zs e none. slots-together zs n l e h ∙ bare zs e (none refl);
  work = let w = work-large n l h in omega (arith, w);
}
  where
    all-of : (zs : List ℤ) (starred more : Bool) → together (length zs) (length (nums l)) n (record { starred = starred; at = []; more = more }) ≡ record { starred = true; at = []; more = more || false }
    all-of zs starred more = refl

    bare : (zs : List ℤ) (e : Elements) → e.at ≡ [] → slots_in zs l (together (length zs) (length (nums l)) n e) ≡ slots_in zs l (starred_by true e)
    bare zs e none =
        ap (λ (os : List ℕ). slots_in zs l (together (length zs) (length (nums l)) n (record { starred = e.starred; at = os; more = e.more }))) none
        ∙ ap (λ (x : Elements). slots_in zs l x) (all-of zs e.starred e.more)
        ∙ ap (λ (b : Bool). slots_in zs l (record { starred = true; at = []; more = b })) (or-false e.more)
        ∙ ap (λ (b : Bool). slots_in zs l (record { starred = b; at = []; more = e.more })) (sym (or-true e.starred))
        ∙ ap (λ (os : List ℕ). slots_in zs l (record { starred = e.starred || true; at = os; more = e.more })) (sym none)

-- elements that stay where they are
slots-still : (zs : List ℤ) (l : Layout) (e : Elements) → slots_in zs l (moved_on (length zs) 0 e) ≡ slots_in zs l e
unfolding apart
slots-still zs l e =
    let w = length (nums l) in
    let none : 0 * w ≡ 0 = grind arith in
    ap (λ (x : Elements). slots_in zs l x) (sym (moved-alike (length zs) (0 * w) 0 e (inl none)))
    ∙ sym (append-nil (slots_in zs l (moved_on (length zs) (0 * w) e))) ∙ sym (slots-apart zs 1 l e (omega arith)) ∙ slots-one zs l e

alike-field : (x : List ℕ) (l : Layout) → IsAlike false (fields (field x l no_field)) l
unfolding work works fields_in
alike-field x l =
    alike-plain (fields (field x l no_field)) l
    (λ zs e. slots-fields zs (field x l no_field) e ∙ append-nil (slots_in zs l (moved_on (length zs) 0 e)) ∙ slots-still zs l e) (omega arith)

alike-row : (n : ℕ) (l : Layout) → is_single n ≡ true → IsAlike (nat_lt 128 n) (row n l) l
alike-row n l h = elim (cases_lt 128 n) [
  | inl large ↦
      let t : nat_lt 128 n ≡ true = grind (arith, nat_tests, large) in
      subst (λ (b : Bool). IsAlike b (row n l) l) (sym t) (alike-large n l large)
  | inr small ↦
      let t : nat_lt 128 n ≡ false = grind (arith, nat_tests, small) in
      let one : n ≡ 1 = grind (arith, nat_tests, h, t) in
      subst (λ (b : Bool). IsAlike b (row n l) l) (sym t) (subst (λ (k : ℕ). IsAlike false (row k l) l) (sym one) (alike-one l))
]

alike-rows : (ns : List ℕ) (l : Layout) → list_all is_single ns ≡ true → IsAlike (list_any (λ n. nat_lt 128 n) ns) (rows ns l) l
unfolding rows
alike-rows [] l h = alike-same l l refl
alike-rows (n ∷ ns) l h =
    alike-next (nat_lt 128 n) (list_any (λ n. nat_lt 128 n) ns) (row n (rows ns l)) (rows ns l) l (alike-row n (rows ns l) (first (is_single n) (list_all is_single ns) h))
    (alike-rows ns l (second (is_single n) (list_all is_single ns) h))
  where
    first : (a b : Bool) → (a && b) ≡ true → a ≡ true
    first true b h = refl
    first false b h = absurd cc

    second : (a b : Bool) → (a && b) ≡ true → b ≡ true
    second true b h = h
    second false b h = absurd cc

-- ---- types
pub core-along : (structs : List StructDef) (s : Bool) (l m : Layout) (x : Plain) (t : Bool) → IsAlike s l m → IsCore structs m (record { plain = x; starred = t }) → IsCore structs l (record { plain = x; starred = s || t })
core-along structs s l m x t a h = record { known = h.known; alike = alike-next s t l m (base_layout structs x) a h.alike }

-- a type that stands for itself
pub own-base : (structs : List StructDef) (m : ℕ) (x : Plain) → IsKnown structs x → among structs m (no_array x) ≡ base_layout structs x → IsBase structs m x (record { plain = x; starred = false })
own-base structs m x h e = record { known = h; own = e; core = record { known = h; alike = alike-same (among structs m (no_array x)) (base_layout structs x) e } }

pub scalar-base : (structs : List StructDef) (m : ℕ) (num : Num) → IsBase structs m (Scalar num) (record { plain = Scalar num; starred = false })
unfolding base_layout among layout_with rows
scalar-base structs m num = own-base structs m (Scalar num) tt refl

pub struct-base : (structs : List StructDef) (m k : ℕ) → m ≤ length structs → k < m → IsBase structs m (Struct k) (record { plain = Struct k; starred = false })
struct-base structs m k h less = own-base structs m (Struct k) (omega (arith, h, less)) (among-own structs m k h less)

pub listed-base : (structs : List StructDef) (m k : ℕ) (c : Core) → m ≤ length structs → k < m → IsCore structs (base_layout structs (Struct k)) c → IsBase structs m (Struct k) c
listed-base structs m k c h less core = record {
  known = omega (arith, h, less);
  own = among-own structs m k h less;
  core = core-along structs false (among structs m (no_array (Struct k))) (base_layout structs (Struct k)) c.plain c.starred
      (alike-same (among structs m (no_array (Struct k))) (base_layout structs (Struct k)) (among-own structs m k h less)) core;
}

-- a structure of one field with one element, or of one large array
pub single-core : (structs : List StructDef) (k : ℕ) (d : StructDef) (x : FieldDef) (c : Core) → slice_get structs k ≡ Some d → d.fields ≡ x ∷ [] → list_all is_single x.shape.dims ≡ true →
    IsCore structs (among structs k (no_array x.shape.plain)) c → IsCore structs (base_layout structs (Struct k)) (record { plain = c.plain; starred = list_any (λ n. nat_lt 128 n) x.shape.dims || c.starred })
unfolding layouts_with among base_layout
single-core structs k d x c made one single core =
    let w = slice_get_within structs k d made in
    let l = among structs k x.shape in
    let inner = among structs k (no_array x.shape.plain) in
    let s = list_any (λ n. nat_lt 128 n) x.shape.dims in
    let is : base_layout structs (Struct k) ≡ fields (field x.name l no_field)
    = among-struct structs (suc k) k d (omega (arith, w)) (omega arith) made ∙ ap (λ (fs : List FieldDef). fields (made_of structs k (record { name = d.name; fields = fs }))) one in
    core-along structs false (base_layout structs (Struct k)) (fields (field x.name l no_field)) c.plain (s || c.starred) (alike-same (base_layout structs (Struct k)) (fields (field x.name l no_field)) is)
    (core-along structs false (fields (field x.name l no_field)) l c.plain (s || c.starred) (alike-field x.name l)
    (core-along structs false l (rows x.shape.dims inner) c.plain (s || c.starred) (alike-same l (rows x.shape.dims inner) (among-rows structs k x.shape))
    (core-along structs s (rows x.shape.dims inner) inner c.plain c.starred (alike-rows x.shape.dims inner single) core)))

pub one-field : (fs : List FieldDef) (x : FieldDef) → length fs ≡ 1 → fs ≡ get_or fs 0 x ∷ []
one-field [] x h = absurd cc
one-field (y ∷ []) x h = refl
one-field (y ∷ z ∷ fs) x h = absurd (omega (arith, h))

-- ---- the list of what stands for structures
at-last : {X : Type 0} (xs : List X) (y z : X) (k : ℕ) → slice_get (xs ++ y ∷ []) k ≡ Some z → length xs ≤ k → (k ≡ length xs) × (y ≡ z)
at-last [] y z zero h l = (refl, cc)
at-last [] y z (suc k) h l = absurd cc
at-last (x ∷ xs) y z zero h l = absurd (omega arith)
at-last (x ∷ xs) y z (suc k) h l = let r = at-last xs y z k h (omega arith) in (ap suc r.0, r.1)

at-first : {X : Type 0} (xs : List X) (y : X) (k : ℕ) → k < length xs → slice_get (xs ++ y ∷ []) k ≡ slice_get xs k
at-first [] y k h = absurd (omega arith)
at-first (x ∷ xs) y zero h = refl
at-first (x ∷ xs) y (suc k) h = at-first xs y k (omega arith)

pub cores-more : (structs : List StructDef) (cores new : List (Option Core)) (o : Option Core) → StandFor structs cores → ((c : Core) → o ≡ Some c → IsCore structs (base_layout structs (Struct (length cores))) c) →
    new ≡ cores ++ o ∷ [] → StandFor structs new
cores-more structs cores new o h next is k c e = elim (cases_lt k (length cores)) [
  | inl less ↦ h k c (sym (at-first cores o k less) ∙ ap (λ (l : List (Option Core)). slice_get l k) (sym is) ∙ e)
  | inr past ↦
      let r = at-last cores o (Some c) k (ap (λ (l : List (Option Core)). slice_get l k) (sym is) ∙ e) past in
      subst (λ (i : ℕ). IsCore structs (base_layout structs (Struct i)) c) (sym r.0) (next c r.1)
]
