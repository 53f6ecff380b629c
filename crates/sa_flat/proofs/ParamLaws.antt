-- Parameters of typed programs: which variables stand for other objects.
use Rattle.std.proofs.Common.{◌≡◌, ◌⊎◌, ℕ, zero, suc, ◌+◌, Bool, true, false, List, [], ◌∷◌, refl, sym, ap, subst, ◌∙◌, arith, Option, Some, None, inl, inr}
use Rattle.std.specs.Prelude.{◌==◌, ◌||◌, ◌&&◌, IsTrue, map, slice_get}
use Rattle.std.specs.List.{AllByRecursion}
use Rattle.std.proofs.lemmas.Bool.Decides.{nat_tests}
use Rattle.sa_typed.specs.Executions.{params_of}
use Rattle.sa_typed.specs.Frames as frames
use Rattle.sa_typed.specs.Frames.{refers, some_refers}
use Rattle.sa_typed.specs.TypedExpressions.{IsNamed, is_named_by}
use Rattle.sa_typed.specs.TypedPrograms.{IsOwn, IsParameter, IsFunction, IsTypedProgram, AreDistinct, is_parameter}
use Rattle.sa_typed.specs.declared.program.Func.{Func}
use Rattle.sa_typed.specs.declared.program.Home.{Home}
use Rattle.sa_typed.specs.declared.program.Home.TheVariants as home
use Rattle.sa_typed.specs.declared.program.Param.{Param}
use Rattle.sa_typed.specs.declared.program.Program.{Program}
use Rattle.sa_typed.specs.declared.program.Var.{Var}

pub or_cases : (a b : Bool) → (a || b) ≡ true → (a ≡ true) ⊎ (b ≡ true)
or_cases true b e = inl refl
or_cases false b e = inr e

pub and_cases : (a b : Bool) → (a && b) ≡ true → (a ≡ true) × (b ≡ true)
and_cases true b e = (refl, e)
and_cases false b e = cc

pub same_number : (a b : ℕ) → (a == b) ≡ true → a ≡ b
same_number a b e = grind (arith, nat_tests)

pub number_same : (a b : ℕ) → a ≡ b → (a == b) ≡ true
number_same a b e = grind (arith, nat_tests)

pub or_left : (a b : Bool) → a ≡ true → (a || b) ≡ true
or_left true b e = refl
or_left false b e = cc

pub or_right : (a b : Bool) → b ≡ true → (a || b) ≡ true
or_right true b e = refl
or_right false b e = e

pub no_both : {A : Type 0} (b : Bool) → b ≡ true → b ≡ false → A
no_both b e f = absurd (no b e f)
  where
    no : (b : Bool) → b ≡ true → b ≡ false → ⊥
    no b e f = cc

-- ---- homes
local_is : (f g : ℕ) → home.Local f ≡ home.Local g → f ≡ g
local_is f g e = cc

pub own_one : (f g : ℕ) (o : Option Var) → IsOwn f o → IsOwn g o → f ≡ g
own_one f g None h k = absurd h
own_one f g (Some v) h k = local_is f g (sym h ∙ k)

named_at : (f : ℕ) (h : Home) → h ≡ home.Local f → IsTrue (is_named_by f h)
named_at f h e = subst (λ (h : Home). IsTrue (is_named_by f h)) (sym e) (number_same f f refl)

pub own_named : (f : ℕ) (o : Option Var) → IsOwn f o → IsNamed f o
own_named f None h = absurd h
own_named f (Some v) h = named_at f v.home h

named_home : (f g : ℕ) (h : Home) → IsTrue (is_named_by f h) → h ≡ home.Local g → f ≡ g
named_home f g home.Global t e = cc
named_home f g home.Static t e = cc
named_home f g (home.Local i) t e =
    let is : i ≡ g = local_is i g e in
    same (f == i) refl t is
  where
    same : (b : Bool) → (f == i) ≡ b → IsTrue b → i ≡ g → f ≡ g
    same true q t is = same_number f i q ∙ is
    same false q t is = cc

pub named_own : (f g : ℕ) (o : Option Var) → IsNamed f o → IsOwn g o → f ≡ g
named_own f g None t h = absurd t
named_own f g (Some v) t h = named_home f g v.home t h

-- ---- references
-- a reference among parameters
pub record RefersAt (v : ℕ) (qs : List Param) : Type 0 where
  pub index : ℕ
  pub param : Param
  pub at : slice_get qs index ≡ Some param
  pub reference : param.reference ≡ true
  pub var : param.var ≡ v

pub refers_at : (v : ℕ) (qs : List Param) → refers v qs ≡ true → RefersAt v qs
unfolding refers
refers_at v [] e = cc
refers_at v (q ∷ qs) e = from (λ h. refers_at v qs h) (or_cases (q.reference && q.var == v) (refers v qs) e)
  where
    from : (refers v qs ≡ true → RefersAt v qs) → ((q.reference && q.var == v) ≡ true) ⊎ (refers v qs ≡ true) → RefersAt v (q ∷ qs)
    from more (inl h) = let b = and_cases q.reference (q.var == v) h in record { index = 0; param = q; at = refl; reference = b.0; var = same_number q.var v b.1 }
    from more (inr h) = let r = more h in record { index = suc r.index; param = r.param; at = r.at; reference = r.reference; var = r.var }

refers_made : (v i : ℕ) (qs : List Param) (q : Param) → slice_get qs i ≡ Some q → q.reference ≡ true → q.var ≡ v → refers v qs ≡ true
unfolding refers
refers_made v i [] q e r s = cc
refers_made v zero (a ∷ qs) q e r s =
    let is : a ≡ q = cc in
    or_left (a.reference && a.var == v) (refers v qs) (subst (λ (a : Param). (a.reference && a.var == v) ≡ true) (sym is) (both q.reference (q.var == v) r (number_same q.var v s)))
  where
    both : (a b : Bool) → a ≡ true → b ≡ true → (a && b) ≡ true
    both a b e f = rw (e, f) refl
refers_made v (suc i) (a ∷ qs) q e r s = or_right (a.reference && a.var == v) (refers v qs) (refers_made v i qs q e r s)

-- a function with such a parameter
pub record SomeRefers (v : ℕ) (fs : List Func) : Type 0 where
  pub index : ℕ
  pub func : Func
  pub at : slice_get fs index ≡ Some func
  pub refers : refers v func.params ≡ true

some_at : (v : ℕ) (fs : List Func) → some_refers v fs ≡ true → SomeRefers v fs
unfolding some_refers
some_at v [] e = cc
some_at v (f ∷ fs) e = from (λ h. some_at v fs h) (or_cases (refers v f.params) (some_refers v fs) e)
  where
    from : (some_refers v fs ≡ true → SomeRefers v fs) → (refers v f.params ≡ true) ⊎ (some_refers v fs ≡ true) → SomeRefers v (f ∷ fs)
    from more (inl h) = record { index = 0; func = f; at = refl; refers = h }
    from more (inr h) = let r = more h in record { index = suc r.index; func = r.func; at = r.at; refers = r.refers }

some_made : (v k : ℕ) (fs : List Func) (f : Func) → slice_get fs k ≡ Some f → refers v f.params ≡ true → some_refers v fs ≡ true
unfolding some_refers
some_made v k [] f e r = cc
some_made v zero (g ∷ fs) f e r = let is : g ≡ f = cc in or_left (refers v g.params) (some_refers v fs) (subst (λ (g : Func). refers v g.params ≡ true) (sym is) r)
some_made v (suc k) (g ∷ fs) f e r = or_right (refers v g.params) (some_refers v fs) (some_made v k fs f e r)

pub all_at : {A : Type 0} (P : A → Type 0) (xs : List A) (i : ℕ) (a : A) → AllByRecursion P xs → slice_get xs i ≡ Some a → P a
all_at P [] i a h e = cc
all_at P (x ∷ xs) zero a h e = let is : x ≡ a = cc in subst (λ (a : _). P a) is h.0
all_at P (x ∷ xs) (suc i) a h e = all_at P xs i a h.1 e

pub map_at : {A B : Type 0} (f : A → B) (xs : List A) (i : ℕ) (a : A) → slice_get xs i ≡ Some a → slice_get (map f xs) i ≡ Some (f a)
map_at f [] i a e = cc
map_at {A = A} f (x ∷ xs) zero a e = let is : x ≡ a = cc in ap (λ (a : A). some_of (f a)) is
  where
    some_of : {C : Type 0} → C → Option C
    some_of c = Some c
map_at f (x ∷ xs) (suc i) a e = map_at f xs i a e

is_param : (v i : ℕ) (qs : List Param) (q : Param) → slice_get qs i ≡ Some q → q.var ≡ v → is_parameter v qs ≡ true
unfolding is_parameter
is_param v i [] q e s = cc
is_param v zero (a ∷ qs) q e s = let is : a ≡ q = cc in or_left (a.var == v) (is_parameter v qs) (subst (λ (a : Param). (a.var == v) ≡ true) (sym is) (number_same q.var v s))
is_param v (suc i) (a ∷ qs) q e s = or_right (a.var == v) (is_parameter v qs) (is_param v i qs q e s)

module _ (p : Program) (typed : IsTypedProgram p) where
  -- a variable that is a reference of the functions and that f may name is one of the references of f
  pub reference_of : (v f : ℕ) (func : Func) → slice_get p.funcs f ≡ Some func → IsNamed f (slice_get p.vars v) → frames.is_reference p v ≡ true → refers v func.params ≡ true
  reference_of v f func e n r = from (some_at v p.funcs r)
    where
      at_one : (g : ℕ) (o : Func) → slice_get p.funcs g ≡ Some o → refers v o.params ≡ true → f ≡ g → refers v func.params ≡ true
      at_one g o k r is =
          let same : Some func ≡ Some o = sym e ∙ (ap (λ (i : ℕ). slice_get p.funcs i) is ∙ k) in
          let one : o ≡ func = cc in
          subst (λ (o : Func). refers v o.params ≡ true) one r

      from : SomeRefers v p.funcs → refers v func.params ≡ true
      from s =
          let r = refers_at v s.func.params s.refers in
          let own : IsOwn s.index (slice_get p.vars r.param.var) = (all_at (λ q. IsParameter p s.index q) s.func.params r.index r.param (typed.funcs s.index s.func s.at).params r.at).own in
          at_one s.index s.func s.at s.refers (named_own f s.index (slice_get p.vars v) n (subst (λ (v : ℕ). IsOwn s.index (slice_get p.vars v)) r.var own))

  -- a parameter is a reference exactly where it says so
  pub reference_is : (f : ℕ) (func : Func) (i : ℕ) (q : Param) → slice_get p.funcs f ≡ Some func → slice_get func.params i ≡ Some q → q.reference ≡ true → frames.is_reference p q.var ≡ true
  reference_is f func i q e k r = some_made q.var f p.funcs func e (refers_made q.var i func.params q k r refl)

  pub value_is : (f : ℕ) (func : Func) (i : ℕ) (q : Param) → slice_get p.funcs f ≡ Some func → slice_get func.params i ≡ Some q → q.reference ≡ false → frames.is_reference p q.var ≡ false
  value_is f func i q e k r = from (frames.is_reference p q.var) refl
    where
      own : IsOwn f (slice_get p.vars q.var)
      own = (all_at (λ q. IsParameter p f q) func.params i q (typed.funcs f func e).params k).own

      clash : RefersAt q.var func.params → ⊥
      clash a =
          let one : a.index ≡ i = (typed.funcs f func e).distinct a.index i q.var (subst (λ (v : ℕ). slice_get (map (λ q. q.var) func.params) a.index ≡ Some v) a.var (map_at (λ (q : Param). q.var) func.params a.index a.param a.at))
          (map_at (λ (q : Param). q.var) func.params i q k) in
          let same : Some a.param ≡ Some q = sym a.at ∙ (ap (λ (i : ℕ). slice_get func.params i) one ∙ k) in
          let is : a.param ≡ q = cc in
          no_both q.reference (subst (λ (q : Param). q.reference ≡ true) is a.reference) r

      from : (b : Bool) → frames.is_reference p q.var ≡ b → b ≡ false
      from false s = refl
      from true s = absurd (clash (refers_at q.var func.params (reference_of q.var f func e (own_named f (slice_get p.vars q.var) own) s)))

  -- a local that is declared in a block stands for itself
  pub declared_is : (f v : ℕ) (func : Func) → slice_get p.funcs f ≡ Some func → IsOwn f (slice_get p.vars v) → is_parameter v func.params ≡ false → frames.is_reference p v ≡ false
  declared_is f v func e own none = from (frames.is_reference p v) refl
    where
      param_of : (qs : List Param) → refers v qs ≡ true → is_parameter v qs ≡ true
      param_of qs r = let a = refers_at v qs r in is_param v a.index qs a.param a.at a.var

      from : (b : Bool) → frames.is_reference p v ≡ b → b ≡ false
      from false s = refl
      from true s = no_both (is_parameter v func.params) (param_of func.params (reference_of v f func e (own_named f (slice_get p.vars v) own) s)) none
