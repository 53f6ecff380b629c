-- Where no call leads back, a function's rank is how many others it leads to.
use Rattle.std.proofs.Common.{◌≡◌, ℕ, zero, suc, ◌+◌, ◌-◌, ◌<◌, ◌≤◌, Bool, true, false, List, [], ◌∷◌, length, get_or, refl, sym, ap, subst, arith, Option, Some, None}
use Rattle.std.specs.List.{AllByRecursion}
use Rattle.std.specs.Prelude.{slice_get, replicate}
use Rattle.sa_typed.specs.TypedPrograms.{Site, calls_in}
use Rattle.sa_typed.specs.declared.program.Func.{Func}
use Rattle.sa_typed.specs.declared.stmt.Stmt.TheVariants as stmt
use Rattle.sa_calls.specs.declared.graph.Call.{Call}
use Rattle.sa_calls.specs.Recursion.{as_calls, graph_of, calls_at, Leads, IsFirstBack, marks_after, order_after, marks_all, order_all, AreKnown, RanksAreThere}
use Rattle.sa_calls.proofs.ReachLemmas.{IsFront, marked, marked-few, begins, turn, still, order-few, all-led, all-marked, calls-below}

-- ---- what a function leads to, by as many turns as there are functions
after : (ℕ → List Bool) → List Bool → Option ℕ → List Bool
after go marks None = marks
after go marks (Some f) = go f

spread : List (List Call) → ℕ → List Bool → List ℕ → ℕ → List Bool
spread graph zero marks order done = marks
spread graph (suc turns) marks order done = after (λ f. spread graph turns (marks_all (calls_at graph f) marks) (order_all (calls_at graph f) marks order) (suc done)) marks (slice_get order done)

record Told (graph : List (List Call)) (start : ℕ) (marks : List Bool) : Type 0 where
  pub long : length marks ≡ length graph
  pub sound : (h : ℕ) → get_or marks h false ≡ true → Leads graph h start
  pub whole : (h : ℕ) → h < length graph → Leads graph h start → get_or marks h false ≡ true

above : (xs : List ℕ) (i : ℕ) → slice_get xs i ≡ None → length xs ≤ i
above [] i h = omega arith
above (x ∷ xs) zero h = cc
above (x ∷ xs) (suc i) h = let l = above xs i h in omega (arith, l)

module _ (graph : List (List Call)) (start : ℕ) where
  told : (marks : List Bool) (order : List ℕ) (done : ℕ) → IsFront graph start marks order done → (start < length graph → get_or marks start false ≡ true) → length order ≤ done → Told graph start marks
  told marks order done front begun over = record {
    long = front.long;
    sound = all-led graph start marks order done front over;
    whole = λ h few leads. all-marked graph start marks order done front over h start few begun leads;
  }

  spread-told : (turns : ℕ) (marks : List Bool) (order : List ℕ) (done : ℕ) → IsFront graph start marks order done → (start < length graph → get_or marks start false ≡ true) → length graph ≤ done + turns →
      Told graph start (spread graph turns marks order done)
  unfolding spread after
  spread-told zero marks order done front begun l = let few = order-few graph start marks order done front in told marks order done front begun (omega (arith, few, l))
  spread-told (suc turns) marks order done front begun l =
      elim (slice_get order done) as (λ o. slice_get order done ≡ o → Told graph start (after (λ f. spread graph turns (marks_all (calls_at graph f) marks) (order_all (calls_at graph f) marks order) (suc done)) marks o)) [
        | None ↦ λ e. told marks order done front begun (above order done e)
        | Some f ↦ λ e. spread-told turns (marks_all (calls_at graph f) marks) (order_all (calls_at graph f) marks order) (suc done) (turn graph start marks order done f front e (suc done) refl) (λ few. still graph start marks order done f front e start (begun few)) (omega (arith, l))
      ] refl

  led : List Bool
  led = spread graph (length graph) (marks_after start (replicate (length graph) false)) (order_after start (replicate (length graph) false) []) 0

  led-told : Told graph start led
  unfolding led
  led-told =
      let n = begins graph start in
      spread-told (length graph) (marks_after start (replicate (length graph) false)) (order_after start (replicate (length graph) false) []) 0 n.front n.here (omega arith)

-- ---- counting
at-most : (us bs : List Bool) → length us ≡ length bs → ((k : ℕ) → get_or us k false ≡ true → get_or bs k false ≡ true) → marked us ≤ marked bs
unfolding marked
at-most [] bs l h = omega arith
at-most (a ∷ us) [] l h = absurd (omega (arith, l))
at-most (true ∷ us) (true ∷ bs) l h = let m = at-most us bs (omega (arith, l)) (λ k e. h (suc k) e) in omega (arith, m)
at-most (true ∷ us) (false ∷ bs) l h = let e = h zero refl in cc
at-most (false ∷ us) (true ∷ bs) l h = let m = at-most us bs (omega (arith, l)) (λ k e. h (suc k) e) in omega (arith, m)
at-most (false ∷ us) (false ∷ bs) l h = at-most us bs (omega (arith, l)) (λ k e. h (suc k) e)

fewer : (us bs : List Bool) → length us ≡ length bs → ((k : ℕ) → get_or us k false ≡ true → get_or bs k false ≡ true) → (k : ℕ) → get_or us k false ≡ false → get_or bs k false ≡ true → marked us < marked bs
unfolding marked
fewer [] [] l h k e f = cc
fewer [] (b ∷ bs) l h k e f = absurd (omega (arith, l))
fewer (a ∷ us) [] l h k e f = absurd (omega (arith, l))
fewer (true ∷ us) (b ∷ bs) l h zero e f = cc
fewer (false ∷ us) (false ∷ bs) l h zero e f = cc
fewer (false ∷ us) (true ∷ bs) l h zero e f = let m = at-most us bs (omega (arith, l)) (λ k e. h (suc k) e) in omega (arith, m)
fewer (true ∷ us) (true ∷ bs) l h (suc k) e f = let m = fewer us bs (omega (arith, l)) (λ k e. h (suc k) e) k e f in omega (arith, m)
fewer (true ∷ us) (false ∷ bs) l h (suc k) e f = let x = h zero refl in cc
fewer (false ∷ us) (true ∷ bs) l h (suc k) e f = let m = fewer us bs (omega (arith, l)) (λ k e. h (suc k) e) k e f in omega (arith, m)
fewer (false ∷ us) (false ∷ bs) l h (suc k) e f = fewer us bs (omega (arith, l)) (λ k e. h (suc k) e) k e f

some-marked : (bs : List Bool) (k : ℕ) → get_or bs k false ≡ true → 0 < marked bs
unfolding marked
some-marked [] k h = cc
some-marked (true ∷ bs) k h = omega arith
some-marked (false ∷ bs) zero h = cc
some-marked (false ∷ bs) (suc k) h = some-marked bs k h

small : (bs : List Bool) (k : ℕ) → get_or bs k false ≡ true → k < length bs
small [] k h = cc
small (b ∷ bs) zero h = omega arith
small (b ∷ bs) (suc k) h = let l = small bs k h in omega (arith, l)

-- ---- ranks
module _ (graph : List (List Call)) (known : AreKnown graph) (none : IsFirstBack graph None) where
  rank : ℕ → ℕ
  rank f = marked (led graph f) - 1

  itself : (f : ℕ) → f < length graph → get_or (led graph f) f false ≡ true
  itself f l = let t = led-told graph f in t.whole f l Leads.arrived

  rank-few : (f : ℕ) → f < length graph → rank f < length graph
  unfolding rank
  rank-few f l =
      let t = led-told graph f in
      let long = t.long in
      let some = some-marked (led graph f) f (itself f l) in
      let few = marked-few (led graph f) in
      omega (arith, long, some, few)

  not-back : (f i : ℕ) (c : Call) → slice_get (calls_at graph f) i ≡ Some c → (b : Bool) → get_or (led graph c.func) f false ≡ b → b ≡ false
  not-back f i c is false e = refl
  not-back f i c is true e = let t = led-told graph c.func in absurd (none f c (record { number = i; stands = is; back = t.sound f e }))

  rank-falls : (f i : ℕ) (c : Call) → slice_get (calls_at graph f) i ≡ Some c → rank c.func < rank f
  unfolding rank
  rank-falls f i c is =
      let t = led-told graph c.func in
      let u = led-told graph f in
      let lt = t.long in
      let lu = u.long in
      let inside = calls-below graph f i c is in
      let within = λ (k : ℕ) (e : get_or (led graph c.func) k false ≡ true). u.whole k (let s = small (led graph c.func) k e in omega (arith, s, lt)) (Leads.goes_on i c is (t.sound k e)) in
      let less = fewer (led graph c.func) (led graph f) (omega (arith, lt, lu)) within f (not-back f i c is (get_or (led graph c.func) f false) refl) (itself f inside) in
      let some = some-marked (led graph c.func) c.func (itself c.func (known f i c is)) in
      omega (arith, less, some)

length-graph : (fs : List Func) → length (graph_of fs) ≡ length fs
unfolding graph_of
length-graph [] = refl
length-graph (f ∷ fs) = ap suc (length-graph fs)

at-func : (fs : List Func) (f : ℕ) (g : Func) → slice_get fs f ≡ Some g → calls_at (graph_of fs) f ≡ as_calls (calls_in (stmt.Block g.body))
unfolding calls_at graph_of
at-func [] f g h = cc
at-func (x ∷ fs) zero g h = let e : x ≡ g = cc in ap (λ (x : Func). as_calls (calls_in (stmt.Block x.body))) e
at-func (x ∷ fs) (suc f) g h = at-func fs f g h

all-from : (Q : ℕ → Type 0) (sites : List Site) → ((i : ℕ) (c : Call) → slice_get (as_calls sites) i ≡ Some c → Q c.func) → AllByRecursion (λ s. Q s.func) sites
unfolding as_calls
all-from Q [] h = tt
all-from Q (s ∷ sites) h = (h zero (record { pos = s.pos; func = s.func }) refl, all-from Q sites (λ i c e. h (suc i) c e))

pub ranks-there : RanksAreThere
ranks-there p known none =
    let graph = graph_of p.funcs in
    let long = length-graph p.funcs in (
      rank graph known none,
      record {
        few = λ k l. let few = rank-few graph known none k (omega (arith, l, long)) in omega (arith, few, long);
        falls = λ k f is. all-from (λ g. rank graph known none g < rank graph known none k) (calls_in (stmt.Block f.body))
            (λ i c e. rank-falls graph known none k i c (subst (λ (cs : List Call). slice_get cs i ≡ Some c) (sym (at-func p.funcs k f is)) e));
      },
    )
