-- Objects over cells: which cells an object has, by what it is made of, and where steps into it lead.
use Rattle.std.proofs.Common.{◌≡◌, ℕ, zero, suc, ◌+◌, ◌*◌, ◌<◌, ◌≤◌, ℤ, pos, negsuc, ◌-ℤ◌, ◌≤ℤ◌, true, false, List, [], ◌∷◌, refl, sym, subst, ◌∙◌, arith, Option, Some, None}
use Rattle.std.specs.Prelude.{if◌then◌else◌, ◌==◌, unsigned_abs, option_map}
use Rattle.std.specs.List.{AllByRecursion}
use Rattle.std.proofs.lemmas.Int.{ints}
use Rattle.std.proofs.lemmas.Bool.Decides.{nat_tests}
use Rattle.sa_base.specs.declared.num.Num.{Num}
use Rattle.sa_base.specs.declared.pos.Pos.{Pos}
use Rattle.sa_interval.specs.Span.{Span, IsPart}
use Rattle.sa_interval.specs.Rows.{meet_of}
use Rattle.sa_typed.specs.Layouts.{Layout, Layouts, leaf, row, fields, no_field, field, nth_field}
use Rattle.sa_typed.specs.Frames.{size}
use Rattle.sa_typed.specs.Evaluation.{within}
use Rattle.sa_typed.specs.WellTyped.{typed_step, into, steps_layout}
use Rattle.sa_typed.specs.declared.expr.Expr.{Expr, Row_of-Step, end_of-Step, more_of-Step, more_of-Expr, end_of-Expr}
use Rattle.sa_typed.specs.declared.expr.Step.{Step, At', Field}
use Rattle.sa_typed.specs.declared.shape.Part.TheVariants as part
use Rattle.sa_typed.specs.declared.program.Place.{Place}
use Rattle.sa_ir.specs.Places.{stride_of}
use Rattle.sa_ir.specs.Sizes.{cells_before}
use Rattle.sa_flat.specs.Domain.{Domain}
use Rattle.sa_flat.specs.Meanings.{Meaning, Target, Reach, Cells, up_from, indices, scaled, steps_of, steps_in, moved, all_moved, index, kept, moved_by}
use Rattle.sa_flat.specs.Passes.{alive_then}
use Rattle.sa_flat.proofs.Lawful.{Lawful, Frame, IfAlive}
use Rattle.sa_flat.proofs.Goods.{Good}
use Rattle.sa_flat.proofs.KeepLaws.{all_append}
use Rattle.sa_flat.proofs.SpanLaws.{Meets, meet_meets}

-- ---- objects over cells
-- Q holds of each number of an object of this layout, with its cell and its place, where the object's first cell is this one
unfoldable mutual
  pub Laid : (Num → ℕ → Place → Type 0) → Layout → ℕ → Place → Type 0
  Laid Q (leaf num) c a = Q num c a
  Laid Q (row n l) c a = (i : ℕ) → i < n → Laid Q l (c + i * stride_of (row n l)) (within a (part.At i ∷ []))
  Laid Q (fields ls) c a = AllLaid Q ls c 0 a

  -- fields of which the first has this number
  pub AllLaid : (Num → ℕ → Place → Type 0) → Layouts → ℕ → ℕ → Place → Type 0
  AllLaid Q no_field c k a = Unit {0}
  AllLaid Q (field x l ls) c k a = Laid Q l c (within a (part.Field k ∷ [])) × AllLaid Q ls (c + size l) (k + 1) a

laid_at : (Q : Num → ℕ → Place → Type 0) (l : Layout) (c d : ℕ) (a : Place) (j k : ℕ) → c ≡ d → j ≡ k → Laid Q l c (within a (part.Field j ∷ [])) → Laid Q l d (within a (part.Field k ∷ []))
laid_at Q l c d a j k e f h = subst (λ (d : ℕ). Laid Q l d (within a (part.Field k ∷ []))) e (subst (λ (k : ℕ). Laid Q l c (within a (part.Field k ∷ []))) f h)

pub laid_field : (Q : Num → ℕ → Place → Type 0) (ls : Layouts) (c k f : ℕ) (a : Place) (l : Layout) → AllLaid Q ls c k a → nth_field ls f ≡ Some l → Laid Q l (c + cells_before ls f) (within a (part.Field (k + f) ∷ []))
unfolding Laid nth_field cells_before
laid_field Q no_field c k f a l h e = cc
laid_field Q (field x m ls) c k zero a l h e =
    let is : m ≡ l = cc in
    laid_at Q l c (c + 0) a k (k + 0) (omega arith) (omega arith) (subst (λ (m : Layout). Laid Q m c (within a (part.Field k ∷ []))) is h.0)
laid_field Q (field x m ls) c k (suc f) a l h e =
    laid_at Q l ((c + size m) + cells_before ls f) (c + (size m + cells_before ls f)) a ((k + 1) + f) (k + suc f) (omega arith) (omega arith) (laid_field Q ls (c + size m) (k + 1) f a l h.1 e)

-- ---- steps that are typed
none_steps : {n : _} (r : Row_of-Step n) → steps_layout None r ≡ None
unfolding steps_layout
none_steps end_of-Step = refl
none_steps (more_of-Step s rest) = none_steps rest

no_steps : {A : Type 0} {n : _} (r : Row_of-Step n) (l : Layout) → steps_layout None r ≡ Some l → A
no_steps r l h = let e = sym (none_steps r) ∙ h in cc

-- what a typed step leads to
pub step_leads : {A : Type 0} {n : _} (m l : Layout) (s : Step) (rest : Row_of-Step n) → steps_layout (into (Some m) s) rest ≡ Some l → ((k : Layout) → typed_step m s ≡ Some k → steps_layout (Some k) rest ≡ Some l → A) → A
step_leads {A = A} m l s rest h go =
    elim (typed_step m s) as (λ o. typed_step m s ≡ o → steps_layout o rest ≡ Some l → A) [
      | None ↦ λ e h. no_steps rest l h
      | Some k ↦ λ e h. go k e h
    ] refl h

pub row_step : {A : Type 0} (m k : Layout) (q : Pos) (n : ℕ) (j : _) (a : Expr) → typed_step m (At' q n j (more_of-Expr a end_of-Expr)) ≡ Some k → (m ≡ row n k → A) → A
row_step (leaf num) k q n j a h go = cc
row_step (fields ls) k q n j a h go = cc
row_step {A = A} (row m l) k q n j a h go =
    elim (m == n) as (λ b. (m == n) ≡ b → (if b then Some l else None) ≡ Some k → A) [
      | true ↦ λ e h. let same : m ≡ n = grind (arith, nat_tests) in let is : l ≡ k = cc in go (cc)
      | false ↦ λ e h. cc
    ] refl h

pub field_step : {A : Type 0} (m k : Layout) (f : ℕ) → typed_step m (Field f) ≡ Some k → ((ls : Layouts) → m ≡ fields ls → nth_field ls f ≡ Some k → A) → A
field_step (leaf num) k f h go = cc
field_step (row n l) k f h go = cc
field_step (fields ls) k f h go = go ls refl h

-- ---- cells that indices may reach
abbrev IsStep : ℕ → ℕ → ℕ → Type 0
IsStep size stride d = (k : ℕ) × (k < size) × (d ≡ k * stride)

scaled_steps : (size stride a n : ℕ) → a + n ≤ size → AllByRecursion (IsStep size stride) (scaled stride (up_from a n))
unfolding scaled up_from
scaled_steps size stride a zero h = tt
scaled_steps size stride a (suc n) h = ((a, omega (arith, h), refl), scaled_steps size stride (a + 1) n (omega (arith, h)))

steps_step : (size stride : ℕ) (s : Span) → s.lo ≤ℤ s.hi → IsPart s (indices size) → AllByRecursion (IsStep size stride) (steps_of stride s)
unfolding steps_of
steps_step size stride s o p =
    elim (stride == 0) as (λ b. (stride == 0) ≡ b → AllByRecursion (IsStep size stride) (if b then 0 ∷ [] else scaled stride (up_from (unsigned_abs s.lo) (unsigned_abs (s.hi -ℤ s.lo) + 1)))) [
      | true ↦ λ e. let z : stride ≡ 0 = grind (arith, nat_tests) in ((unsigned_abs s.lo, least s.lo s.hi o p.above p.below, rw z (omega arith)), tt)
      | false ↦ λ e. scaled_steps size stride (unsigned_abs s.lo) (unsigned_abs (s.hi -ℤ s.lo) + 1) (most s.lo s.hi o p.above p.below)
    ] refl
  where
    least : (lo hi : ℤ) → lo ≤ℤ hi → pos 0 ≤ℤ lo → hi ≤ℤ (pos size -ℤ pos 1) → unsigned_abs lo < size
    least (negsuc lo) hi o a b = absurd (omega (arith, ints, a))
    least (pos lo) hi o a b = omega (arith, ints, o, b)

    most : (lo hi : ℤ) → lo ≤ℤ hi → pos 0 ≤ℤ lo → hi ≤ℤ (pos size -ℤ pos 1) → unsigned_abs lo + (unsigned_abs (hi -ℤ lo) + 1) ≤ size
    most (negsuc lo) hi o a b = absurd (omega (arith, ints, a))
    most (pos lo) (negsuc hi) o a b = absurd (omega (arith, ints, o))
    most (pos lo) (pos hi) o a b =
        let width : pos (unsigned_abs (pos hi -ℤ pos lo)) ≡ pos hi -ℤ pos lo = omega (arith, ints, o) in
        omega (arith, ints, o, b, width)

steps_reach : (size stride : ℕ) (o : Option Span) → IfAlive (AllByRecursion (IsStep size stride)) (steps_in size stride o)
steps_reach size stride None = tt
steps_reach size stride (Some i) = from (meet_of i (indices size)) (meet_meets i (indices size))
  where
    from : (o : Option Span) → IfAlive (Meets i (indices size)) o → IfAlive (AllByRecursion (IsStep size stride)) (option_map (steps_of stride) o)
    from None m = tt
    from (Some s) m = steps_step size stride s m.ordered m.second

moved_all : (S U : ℕ → Type 0) (T : ℕ → Type 0) (k : ℕ) (ds : List ℕ) → S k → AllByRecursion T ds → ((k d : ℕ) → S k → T d → U (k + d)) → AllByRecursion U (moved k ds)
unfolding moved
moved_all S U T k [] h t go = tt
moved_all S U T k (d ∷ ds) h t go = (go k d h t.0, moved_all S U T k ds h t.1 go)

all_moved_all : (S U T : ℕ → Type 0) (ks ds : List ℕ) → AllByRecursion S ks → AllByRecursion T ds → ((k d : ℕ) → S k → T d → U (k + d)) → AllByRecursion U (all_moved ks ds)
unfolding all_moved
all_moved_all S U T [] ds h t go = tt
all_moved_all S U T (k ∷ ks) ds h t go = all_append U (moved k ds) (all_moved ks ds) (moved_all S U T k ds h.0 t go) (all_moved_all S U T ks ds h.1 t go)

module _ (x : Cells) (D : Domain) (L : Lawful x D) where
  -- S holds of each cell of a target
  abbrev pub Roams : (ℕ → Type 0) → Target D.Env → Type 0
  Roams S t = (f : Frame) (env : D.Env) → Good x D L f env → IfAlive (AllByRecursion S) (t.cells env)

  moved_roams : (S U : ℕ → Type 0) (size stride : ℕ) (t : Target D.Env) (r : Reach D.Env) → Roams S t → ((env : D.Env) → IfAlive (AllByRecursion (IsStep size stride)) (r.steps env)) →
      ((c k : ℕ) → S c → k < size → U (c + k * stride)) → Roams U (moved_by D t r)
  moved_roams S U size stride t r h s go f env g = from (t.cells env) (r.steps env) (h f env g) (s env)
    where
      from : (ks ds : Option (List ℕ)) → IfAlive (AllByRecursion S) ks → IfAlive (AllByRecursion (IsStep size stride)) ds → IfAlive (AllByRecursion U) (alive_then ks (λ ks. alive_then ds (λ ds. Some (all_moved ks ds))))
      from None ds a b = tt
      from (Some ks) None a b = tt
      from (Some ks) (Some ds) a b =
          all_moved_all S U (IsStep size stride) ks ds a b (λ c d h s. subst (λ (d : ℕ). U (c + d)) (sym s.2) (go c s.0 h s.1))

  pub index_roams : (S U : ℕ → Type 0) (q : Pos) (size stride : ℕ) (t : Target D.Env) (i : Meaning D.Env) → Roams S t → ((c k : ℕ) → S c → k < size → U (c + k * stride)) → Roams U (moved_by D t (index D q size stride i))
  index_roams S U q size stride t i h go = moved_roams S U size stride t (index D q size stride i) h (λ env. steps_reach size stride (i.value.span env)) go

  pub kept_roams : (S U : ℕ → Type 0) (d size stride : ℕ) (t : Target D.Env) → Roams S t → ((c k : ℕ) → S c → k < size → U (c + k * stride)) → Roams U (moved_by D t (kept D d size stride))
  kept_roams S U d size stride t h go = moved_roams S U size stride t (kept D d size stride) h (λ env. steps_reach size stride (Some (D.cell d env))) go
