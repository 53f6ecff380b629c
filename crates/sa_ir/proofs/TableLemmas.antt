-- References and sections, variable by variable.
use Rattle.std.proofs.Common.{◌≡◌, ℕ, zero, suc, ◌+◌, ◌<◌, ◌≤◌, Bool, true, false, ◌&&◌, not, List, [], ◌∷◌, ◌++◌, length, drop, take, get_or, refl, sym, ap, ◌∙◌, arith, subst, ◌≢◌, add-zero, zero-add, append-nil, length-append}
use Rattle.std.proofs.lemmas.List.{drop_more, drop_all, take_more, length-set, get_or-set_same, get_or-set_other}
use Rattle.std.proofs.lemmas.Bool.Decides.{nat_tests}
use Rattle.std.proofs.lemmas.Option.{slice_get_within, get_or_from_slice_get, slice_get_past}
use Rattle.std.specs.Prelude.{if◌then◌else◌, slice_get, Option, Some, None, option_map, ◌||◌, ◌==◌, nat_lt, set, replicate}
use Rattle.sa_typed.specs.Frames.{size, has_cells, same_home, is_reference, refers, some_refers, cells_from, offset_of}
use Rattle.sa_typed.specs.Layouts.{layout_of}
use Rattle.sa_typed.specs.declared.program.Func.{Func}
use Rattle.sa_typed.specs.declared.program.Home.{Home}
use Rattle.sa_typed.specs.declared.program.Home.TheVariants as home
use Rattle.sa_typed.specs.declared.program.Param.{Param}
use Rattle.sa_typed.specs.declared.program.Program.{Program}
use Rattle.sa_typed.specs.declared.program.Var.{Var}
use Rattle.sa_ir.specs.declared.table.Section.{Section}
use Rattle.sa_ir.specs.declared.table.Seat.{Seat}
use Rattle.sa_ir.specs.declared.table.Sections.{Sections}
use Rattle.sa_ir.specs.Sizes.{capped}
use Rattle.sa_ir.specs.Tables.{with_param, with_params, with_funcs, members, empty, pushed, section, section_of, seat, seat_at, AreSections}
use Rattle.sa_ir.proofs.CellLemmas.{length-taken}

pub get-grown : {X : Type 0} (xs : List X) (d : X) (g : ℕ) → get_or (xs ++ d ∷ []) g d ≡ get_or xs g d
get-grown [] d zero = refl
get-grown [] d (suc g) = refl
get-grown (x ∷ xs) d zero = refl
get-grown (x ∷ xs) d (suc g) = get-grown xs d g

pub params-more : (ps : List Param) (i : ℕ) (d : Param) (bs : List Bool) → i < length ps → with_params (drop i ps) bs ≡ with_params (drop (i + 1) ps) (with_param (get_or ps i d) bs)
unfolding with_params
params-more ps i d bs h = ap (λ (xs : List Param). with_params xs bs) (drop_more ps i d h)

pub params-end : (ps : List Param) (i : ℕ) (bs : List Bool) → length ps ≤ i → with_params (drop i ps) bs ≡ bs
unfolding with_params
params-end ps i bs h = ap (λ (xs : List Param). with_params xs bs) (drop_all i ps h)

pub funcs-more : (fs : List Func) (i : ℕ) (d : Func) (bs : List Bool) → i < length fs → with_funcs (drop i fs) bs ≡ with_funcs (drop (i + 1) fs) (with_params (get_or fs i d).params bs)
unfolding with_funcs
funcs-more fs i d bs h = ap (λ (xs : List Func). with_funcs xs bs) (drop_more fs i d h)

pub funcs-end : (fs : List Func) (i : ℕ) (bs : List Bool) → length fs ≤ i → with_funcs (drop i fs) bs ≡ bs
unfolding with_funcs
funcs-end fs i bs h = ap (λ (xs : List Func). with_funcs xs bs) (drop_all i fs h)

-- ---- sections
get-none : {X : Type 0} (xs : List X) (i : ℕ) (d : X) → slice_get xs i ≡ None → get_or xs i d ≡ d
get-none [] zero d h = refl
get-none [] (suc i) d h = refl
get-none (x ∷ xs) zero d h = absurd cc
get-none (x ∷ xs) (suc i) d h = get-none xs i d h

pub section-none : (s : Sections) (h : Home) (f : ℕ) → h ≡ home.Local f → slice_get s.locals.items f ≡ None → section_of s h ≡ empty
section-none s h f e n = ap (section_of s) e ∙ get-none s.locals.items f empty n

pub section-some : (s : Sections) (h : Home) (f : ℕ) (x : Section) → h ≡ home.Local f → slice_get s.locals.items f ≡ Some x → section_of s h ≡ x
section-some s h f x e n = ap (section_of s) e ∙ get_or_from_slice_get s.locals.items f x empty n

module _ (p : Program) (k : ℕ) (x : Var) (there : slice_get p.vars k ≡ Some x) where
  taken : take (k + 1) p.vars ≡ take k p.vars ++ x ∷ []
  taken =
      let less = slice_get_within p.vars k x there in
      take_more p.vars k x less ∙ ap (λ (y : Var). take k p.vars ++ y ∷ []) (get_or_from_slice_get p.vars k x x there)

  long : 0 + length (take k p.vars) ≡ k
  long = zero-add (length (take k p.vars)) ∙ length-taken p.vars k (slice_get_within p.vars k x there)

  cells-append : (h : Home) (j : ℕ) (xs ys : List Var) → cells_from p h j (xs ++ ys) ≡ cells_from p h j xs + cells_from p h (j + length xs) ys
  unfolding cells_from
  cells-append h j [] ys = ap (λ (n : ℕ). cells_from p h n ys) (sym (add-zero j)) ∙ omega arith
  cells-append h j (y ∷ xs) ys =
      let e : (j + 1) + length xs ≡ j + suc (length xs) = omega arith in
      let r = cells-append h (j + 1) xs ys ∙ ap (λ (n : ℕ). cells_from p h (j + 1) xs + cells_from p h n ys) e in
      omega (arith, r)

  members-append : (h : Home) (j : ℕ) (xs ys : List Var) → members p h j (xs ++ ys) ≡ members p h j xs ++ members p h (j + length xs) ys
  unfolding members
  members-append h j [] ys = ap (λ (n : ℕ). members p h n ys) (sym (add-zero j))
  members-append h j (y ∷ xs) ys =
      let e : (j + 1) + length xs ≡ j + suc (length xs) = omega arith in
      let r = members-append h (j + 1) xs ys ∙ ap (λ (n : ℕ). members p h (j + 1) xs ++ members p h n ys) e in
      elim (has_cells p h j y) as (λ b. (if b then j ∷ members p h (j + 1) (xs ++ ys) else members p h (j + 1) (xs ++ ys)) ≡ (if b then j ∷ members p h (j + 1) xs else members p h (j + 1) xs) ++ members p h (j + suc (length xs)) ys)
      [ true ↦ ap (λ (l : List ℕ). j ∷ l) r | false ↦ r ]

  one-cells : (h : Home) → cells_from p h k (x ∷ []) ≡ (if has_cells p h k x then size (layout_of p k) else 0)
  unfolding cells_from
  one-cells h = add-zero _

  one-member : (h : Home) → members p h k (x ∷ []) ≡ (if has_cells p h k x then k ∷ [] else [])
  unfolding members
  one-member h = refl

  more-cells : (h : Home) → cells_from p h 0 (take (k + 1) p.vars) ≡ cells_from p h 0 (take k p.vars) + (if has_cells p h k x then size (layout_of p k) else 0)
  more-cells h =
      ap (cells_from p h 0) taken ∙ cells-append h 0 (take k p.vars) (x ∷ [])
      ∙ ap (λ (n : ℕ). cells_from p h 0 (take k p.vars) + n) (ap (λ (n : ℕ). cells_from p h n (x ∷ [])) long ∙ one-cells h)

  more-members : (h : Home) → members p h 0 (take (k + 1) p.vars) ≡ members p h 0 (take k p.vars) ++ (if has_cells p h k x then k ∷ [] else [])
  more-members h =
      ap (members p h 0) taken ∙ members-append h 0 (take k p.vars) (x ∷ [])
      ∙ ap (λ (l : List ℕ). members p h 0 (take k p.vars) ++ l) (ap (λ (n : ℕ). members p h n (x ∷ [])) long ∙ one-member h)

  -- one variable more
  pub section-more : (h : Home) (c : ℕ) → c ≡ capped (size (layout_of p k)) → section p (k + 1) h ≡ (if has_cells p h k x then pushed (section p k h) k c else section p k h)
  unfolding section
  section-more h c e = rw (more-cells h, more-members h) (cases (has_cells p h k x))
    where
      n : ℕ
      n = cells_from p h 0 (take k p.vars)

      vs : List ℕ
      vs = members p h 0 (take k p.vars)

      cases : (b : Bool) → (let s : Section = record { cells = capped (n + (if b then size (layout_of p k) else 0)); vars = vs ++ (if b then k ∷ [] else []) } in s) ≡ (if b then pushed (record { cells = capped n; vars = vs }) k c else record { cells = capped n; vars = vs })
      cases true = let m : capped (n + size (layout_of p k)) ≡ capped (capped n + c) = rw e (omega arith) in ap (λ (q : ℕ). record { cells = q; vars = vs ++ k ∷ [] }) m
      cases false = rw (append-nil vs, add-zero n) refl

-- ---- what is added
pub seat-is : (p : Program) (k : ℕ) (x : Var) → slice_get p.vars k ≡ Some x → (o c : ℕ) → o ≡ capped (offset_of p x.home k) → c ≡ capped (size (layout_of p k)) →
    Some (let s : Seat = record { offset = o; cells = c } in s) ≡ seat_at p k
seat-is p k x there o c e f =
    ap (λ (n : ℕ). Some (record { offset = n; cells = c })) e ∙ ap (λ (n : ℕ). Some (record { offset = capped (offset_of p x.home k); cells = n })) f
    ∙ sym (ap (λ (y : Option Var). option_map (seat p k) y) there)

and-true : (b : Bool) → (b && true) ≡ b
and-true true = refl
and-true false = refl

and-false : (b : Bool) → (b && false) ≡ false
and-false true = refl
and-false false = refl

module _ (p : Program) (k : ℕ) (x : Var) (there : slice_get p.vars k ≡ Some x) (r : Bool) (refers' : r ≡ is_reference p k) (olds : Sections) (old : AreSections p k olds) where
  -- a variable that has cells
  pub sections-more : r ≡ false → (c : ℕ) → c ≡ capped (size (layout_of p k)) → (news : Sections) →
      ((h : Home) → section_of news h ≡ (if same_home h x.home then pushed (section_of olds h) k c else section_of olds h)) → AreSections p (k + 1) news
  sections-more e c f news is h =
      let own : has_cells p h k x ≡ same_home h x.home = ap (λ (b : Bool). same_home h x.home && not b) (sym refers' ∙ e) ∙ and-true (same_home h x.home) in
      is h ∙ ap (λ (s : Section). if same_home h x.home then pushed s k c else s) (old h)
      ∙ ap (λ (b : Bool). if b then pushed (section p k h) k c else section p k h) (sym own) ∙ sym (section-more p k x there h c f)

  -- a reference
  pub sections-same : r ≡ true → AreSections p (k + 1) olds
  sections-same e h =
      let own : has_cells p h k x ≡ false = ap (λ (b : Bool). same_home h x.home && not b) (sym refers' ∙ e) ∙ and-false (same_home h x.home) in
      old h ∙ ap (λ (b : Bool). if b then pushed (section p k h) k (capped (size (layout_of p k))) else section p k h) (sym own) ∙ sym (section-more p k x there h (capped (size (layout_of p k))) refl)

-- ---- flags
or-swap : (a b c : Bool) → (a || (b || c)) ≡ ((b || a) || c)
or-swap true true c = refl
or-swap true false c = refl
or-swap false true c = refl
or-swap false false c = refl

or-joined : (a b c : Bool) → ((a || b) || c) ≡ (a || (b || c))
or-joined true b c = refl
or-joined false b c = refl

or-false : (a : Bool) → (a || false) ≡ a
or-false true = refl
or-false false = refl

param-length : (q : Param) (bs : List Bool) → length (with_param q bs) ≡ length bs
unfolding with_param
param-length q bs = elim (q.reference && nat_lt q.var (length bs)) as (λ b. length (if b then set bs q.var true else bs) ≡ length bs) [ true ↦ length-set bs q.var true | false ↦ refl ]

param-at : (q : Param) (bs : List Bool) (v : ℕ) (d : Bool) → v < length bs → get_or (with_param q bs) v d ≡ ((q.reference && q.var == v) || get_or bs v d)
unfolding with_param
param-at q bs v d h = cases q.reference (q.var == v) refl
  where
    cases : (r b : Bool) → (q.var == v) ≡ b → get_or (if r && nat_lt q.var (length bs) then set bs q.var true else bs) v d ≡ ((r && b) || get_or bs v d)
    cases false b e = refl
    cases true true e =
        let same : q.var ≡ v = grind (arith, nat_tests) in
        let t : nat_lt q.var (length bs) ≡ true = grind (arith, nat_tests) in
        rw (t, same) (get_or-set_same bs v true d h)
    cases true false e =
        let other : v ≢ q.var = λ k. (let t : (q.var == v) ≡ true = grind (arith, nat_tests) in absurd cc) in
        elim (nat_lt q.var (length bs)) as (λ t. get_or (if t then set bs q.var true else bs) v d ≡ get_or bs v d) [ true ↦ get_or-set_other bs q.var v true d other | false ↦ refl ]

params-length : (qs : List Param) (bs : List Bool) → length (with_params qs bs) ≡ length bs
unfolding with_params
params-length [] bs = refl
params-length (q ∷ qs) bs = params-length qs (with_param q bs) ∙ param-length q bs

params-at : (qs : List Param) (bs : List Bool) (v : ℕ) (d : Bool) → v < length bs → get_or (with_params qs bs) v d ≡ (refers v qs || get_or bs v d)
unfolding with_params refers
params-at [] bs v d h = refl
params-at (q ∷ qs) bs v d h =
    params-at qs (with_param q bs) v d (subst (λ (n : ℕ). v < n) (sym (param-length q bs)) h) ∙ ap (λ (b : Bool). refers v qs || b) (param-at q bs v d h)
    ∙ or-swap (refers v qs) (q.reference && q.var == v) (get_or bs v d)

pub flags-length : (fs : List Func) (bs : List Bool) → length (with_funcs fs bs) ≡ length bs
unfolding with_funcs
flags-length [] bs = refl
flags-length (f ∷ fs) bs = flags-length fs (with_params f.params bs) ∙ params-length f.params bs

flags-at : (fs : List Func) (bs : List Bool) (v : ℕ) (d : Bool) → v < length bs → get_or (with_funcs fs bs) v d ≡ (some_refers v fs || get_or bs v d)
unfolding with_funcs some_refers
flags-at [] bs v d h = refl
flags-at (f ∷ fs) bs v d h =
    flags-at fs (with_params f.params bs) v d (subst (λ (n : ℕ). v < n) (sym (params-length f.params bs)) h) ∙ ap (λ (b : Bool). some_refers v fs || b) (params-at f.params bs v d h)
    ∙ or-swap (some_refers v fs) (refers v f.params) (get_or bs v d)

length-none : (n : ℕ) → length (replicate n false) ≡ n
length-none zero = refl
length-none (suc n) = ap suc (length-none n)

none-at : (n v : ℕ) (d : Bool) → v < n → get_or (replicate n false) v d ≡ false
none-at zero v d h = absurd (omega arith)
none-at (suc n) zero d h = refl
none-at (suc n) (suc v) d h = none-at n v d (omega arith)

pub flags-long : (p : Program) → length (with_funcs p.funcs (replicate (length p.vars) false)) ≡ length p.vars
flags-long p = flags-length p.funcs (replicate (length p.vars) false) ∙ length-none (length p.vars)

pub flag-is : (p : Program) (v : ℕ) (d : Bool) → v < length p.vars → get_or (with_funcs p.funcs (replicate (length p.vars) false)) v d ≡ is_reference p v
flag-is p v d h =
    flags-at p.funcs (replicate (length p.vars) false) v d (subst (λ (n : ℕ). v < n) (sym (length-none (length p.vars))) h)
    ∙ ap (λ (b : Bool). some_refers v p.funcs || b) (none-at (length p.vars) v d h) ∙ or-false (some_refers v p.funcs)

-- ---- the table
pub record Seated (p : Program) (n : ℕ) (seats : List Seat) : Type 0 where
  pub long : length seats ≡ n
  pub each : (v : ℕ) → v < n → slice_get seats v ≡ seat_at p v

at-front : {X : Type 0} (xs : List X) (y : X) (i : ℕ) → i < length xs → slice_get (xs ++ y ∷ []) i ≡ slice_get xs i
at-front [] y i h = absurd (omega arith)
at-front (x ∷ xs) y zero h = refl
at-front (x ∷ xs) y (suc i) h = at-front xs y i (omega arith)

at-back : {X : Type 0} (xs : List X) (y : X) (i : ℕ) → length xs ≡ i → slice_get (xs ++ y ∷ []) i ≡ Some y
at-back [] y zero h = refl
at-back [] y (suc i) h = absurd (omega arith)
at-back (x ∷ xs) y zero h = absurd (omega arith)
at-back (x ∷ xs) y (suc i) h = at-back xs y i (omega arith)

pub seated-more : (p : Program) (n : ℕ) (seats new : List Seat) (s : Seat) → Seated p n seats → new ≡ seats ++ s ∷ [] → Some s ≡ seat_at p n → Seated p (n + 1) new
seated-more p n seats new s h e is = record {
  long = ap length e ∙ length-append seats (s ∷ []) ∙ (let l = h.long in omega (arith, l));
  each = λ v less. ap (λ (xs : List Seat). slice_get xs v) e ∙ cases v less (v == n) refl;
}
  where
    cases : (v : ℕ) → v < n + 1 → (b : Bool) → (v == n) ≡ b → slice_get (seats ++ s ∷ []) v ≡ seat_at p v
    cases v less true t =
        let same : v ≡ n = grind (arith, nat_tests) in
        at-back seats s v (h.long ∙ sym same) ∙ is ∙ ap (seat_at p) (sym same)
    cases v less false t =
        let low : v < n = grind (arith, nat_tests) in
        at-front seats s v (let l = h.long in omega (arith, l, low)) ∙ h.each v low

pub seated-all : (p : Program) (n : ℕ) (seats : List Seat) → n ≡ length p.vars → Seated p n seats → (v : ℕ) → slice_get seats v ≡ seat_at p v
seated-all p n seats e h v = cases (nat_lt v n) refl
  where
    cases : (b : Bool) → nat_lt v n ≡ b → slice_get seats v ≡ seat_at p v
    cases true t = h.each v (let m : v < n = grind (arith, nat_tests) in m)
    cases false t =
        let past : n ≤ v = grind (arith, nat_tests) in
        slice_get_past seats v (let l = h.long in omega (arith, l, past)) ∙ sym (ap (λ (o : Option Var). option_map (seat p v) o) (slice_get_past p.vars v (omega (arith, e, past))))

pub seated-none : (p : Program) (seats : List Seat) → seats ≡ [] → Seated p 0 seats
seated-none p seats e = record { long = ap length e; each = λ v h. absurd (omega (arith, h)) }

pub sections-none : (p : Program) (h : Home) → empty ≡ section p 0 h
unfolding section cells_from members
sections-none p h = refl
