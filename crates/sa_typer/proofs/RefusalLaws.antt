-- The least refusal is one of them, and none is before it.
use Rattle.std.proofs.Common.{◌≡◌, ℕ, ◌<◌, ◌≤◌, Bool, true, false, zero, suc, List, [], ◌∷◌, ◌++◌, refl, sym, ap, subst, ◌∙◌, arith, Option, Some, None, ◌⊎◌, inl, inr}
use Rattle.std.proofs.lemmas.Bool.Decides.{nat_tests}
use Rattle.std.proofs.lemmas.List.Sums.{fold-append}
use Rattle.std.specs.List.{Contains, fold}
use Rattle.std.specs.Prelude.{if◌then◌else◌, ◌==◌, ◌&&◌, ◌||◌, nat_lt, nat_le}
use Rattle.sa_base.specs.declared.pos.Pos.{Pos}
use Rattle.sa_typed.specs.declared.program.Program.{Program}
use Rattle.sa_scopes.specs.declared.typer.Fault.{Fault}
use Rattle.sa_scopes.specs.Refusals.{is_before, lesser, with_fault, least_of, IsLeast}
use Rattle.sa_typer.specs.declared.bodies.Entry.{Entry}
use Rattle.sa_scopes.specs.declared.typer.Typer.{Typer}
use Rattle.sa_base.specs.Numbers.{limit_number}
use Rattle.sa_base.specs.declared.limit.Limit.TheVariants.{Cells}
use Rattle.sa_base.specs.declared.refusal.Refusal.{Refusal}
use Rattle.sa_typer.specs.Units.{Answer, Accepts, Refuses, TooManyCells, refusal, unless_refused, accepted_by, accepted_in, all_items, refusals, answer, cells, program}
use Rattle.sa_typer.specs.RefusalLaws.{IsUnrefused, RefusesTheLeast, AcceptsTheRest}
use Rattle.sa_scopes.specs.Typing.{Typed, Gives}

pub one_more : (fs : List Fault) (f : Fault) → least_of (fs ++ f ∷ []) ≡ Some (lesser (least_of fs) f)
one_more fs f = fold-append with_fault None fs (f ∷ [])

-- once there is one there is one
stays : (a : Fault) (fs : List Fault) → (b : Fault) × (fold with_fault (Some a) fs ≡ Some b)
stays a [] = (a, refl)
stays a (f ∷ fs) = stays (lesser (Some a) f) fs

pub least_none : (fs : List Fault) → least_of fs ≡ None → fs ≡ []
least_none [] h = refl
least_none (f ∷ fs) h = let s = stays f fs in let e = s.1 in cc

pub unrefused : (o : Option Fault) (a : Answer) (p : Program) → unless_refused o a ≡ Accepts p → (o ≡ None) × (a ≡ Accepts p)
unrefused None a p h = (refl, h)
unrefused (Some f) a p h = cc

-- ---- the order
-- at or before, in numbers
abbrev AtMost : Fault → Fault → Type 0
AtMost a b = (a.pos.line < b.pos.line) ⊎ ((a.pos.line ≡ b.pos.line) × ((a.pos.col < b.pos.col) ⊎ ((a.pos.col ≡ b.pos.col) × (a.rule ≤ b.rule))))

not_after : (a b : Fault) → is_before b a ≡ false → AtMost a b
unfolding is_before
not_after a b h = grind (arith, nat_tests)

at_most : (a b : Fault) → AtMost a b → is_before b a ≡ false
unfolding is_before
at_most a b h = grind (arith, nat_tests)

to_itself : (a : Fault) → AtMost a a
to_itself a = inr (refl, inr (refl, omega arith))

onwards : (a b c : Fault) → AtMost a b → AtMost b c → AtMost a c
onwards a b c h k = grind arith

earlier : (a b : Fault) → is_before a b ≡ true → AtMost a b
unfolding is_before
earlier a b h = grind (arith, nat_tests)

same_line : (a b : Fault) → AtMost a b → AtMost b a → a.pos.line ≡ b.pos.line
same_line a b h k = grind arith

same_col : (a b : Fault) → AtMost a b → AtMost b a → a.pos.col ≡ b.pos.col
same_col a b h k = grind arith

same_rule : (a b : Fault) → AtMost a b → AtMost b a → a.rule ≡ b.rule
same_rule a b h k = grind arith

same_fault : (a b : Fault) → AtMost a b → AtMost b a → a ≡ b
same_fault a b h k =
    let l = same_line a b h k in
    let c = same_col a b h k in
    let r = same_rule a b h k in
    ap (λ (n : ℕ). record { pos = record { line = n; col = a.pos.col }; rule = a.rule }) l ∙ ap (λ (n : ℕ). record { pos = record { line = b.pos.line; col = n }; rule = a.rule }) c
    ∙ ap (λ (n : ℕ). record { pos = b.pos; rule = n }) r

-- ---- the least one
record IsLesser (a f b : Fault) : Type 0 where
  one : (b ≡ a) ⊎ (b ≡ f)
  first : AtMost b a
  second : AtMost b f

lesser_by : (a f : Fault) (t : Bool) → is_before a f ≡ t → IsLesser a f (if t then a else f)
lesser_by a f true h = record { one = inl refl; first = to_itself a; second = earlier a f h }
lesser_by a f false h = record { one = inr refl; first = not_after f a h; second = to_itself f }

is_lesser : (a f : Fault) → IsLesser a f (lesser (Some a) f)
is_lesser a f = lesser_by a f (is_before a f) refl

-- ---- elements
none_in : (f : Fault) → Contains [] f → ⊥
none_in f (k, h, e) = omega arith

in_cons : (g f : Fault) (fs : List Fault) → Contains (g ∷ fs) f → (g ≡ f) ⊎ Contains fs f
in_cons g f fs (zero, h, e) = inl e
in_cons g f fs (suc k, h, e) = inr (k, omega arith, e)

head_in : (g f : Fault) (fs : List Fault) → g ≡ f → Contains (g ∷ fs) f
head_in g f fs e = (0, omega arith, e)

tail_in : (g f : Fault) (fs : List Fault) → Contains fs f → Contains (g ∷ fs) f
tail_in g f fs (k, h, e) = (suc k, omega arith, e)

-- of one and a list
record IsFirst (a : Fault) (fs : List Fault) (b : Fault) : Type 0 where
  one : (b ≡ a) ⊎ Contains fs b
  first : AtMost b a
  rest : (g : Fault) → Contains fs g → AtMost b g

first_of : (a : Fault) (fs : List Fault) (b : Fault) → fold with_fault (Some a) fs ≡ Some b → IsFirst a fs b
first_of a [] b h = let same : a ≡ b = cc in record { one = inl (sym same); first = subst (λ (x : Fault). AtMost x a) same (to_itself a); rest = λ g c. absurd (none_in g c) }
first_of a (f ∷ fs) b h =
    let next = is_lesser a f in
    let found = first_of (lesser (Some a) f) fs b h in
    record {
      one = elim found.one [ inl e ↦ elim next.one [ inl d ↦ inl (e ∙ d) | inr d ↦ inr (head_in f b fs (sym (e ∙ d))) ] | inr c ↦ inr (tail_in f b fs c) ];
      first = onwards b (lesser (Some a) f) a found.first next.first;
      rest = λ g c. elim (in_cons f g fs c) [ inl e ↦ subst (AtMost b) e (onwards b (lesser (Some a) f) f found.first next.second) | inr d ↦ found.rest g d ];
    }

-- what is told is the least one
told_least : (fs : List Fault) (b : Fault) → least_of fs ≡ Some b → IsLeast b fs
told_least [] b h = cc
told_least (f ∷ fs) b h =
    let found = first_of f fs b h in
    record {
      there = elim found.one [ inl e ↦ head_in f b fs (sym e) | inr c ↦ tail_in f b fs c ];
      first = λ g c. elim (in_cons f g fs c) [ inl e ↦ at_most b g (subst (AtMost b) e found.first) | inr d ↦ at_most b g (found.rest g d) ];
    }

least_some : (fs : List Fault) (b : Fault) → Contains fs b → (c : Fault) × (least_of fs ≡ Some c)
least_some [] b h = absurd (none_in b h)
least_some (f ∷ fs) b h = stays f fs

-- and the least one is told
least_told : (fs : List Fault) (b : Fault) → IsLeast b fs → least_of fs ≡ Some b
least_told fs b h =
    let c = least_some fs b h.there in
    let m = told_least fs c.0 c.1 in
    c.1 ∙ ap (λ (x : Fault). Some x) (same_fault c.0 b (not_after c.0 b (m.first b h.there)) (not_after b c.0 (h.first c.0 m.there)))

-- ---- the answer
refuses_some : (o : Option Fault) (a : Answer) (r : Refusal) → ((q : Refusal) → a ≡ Refuses q → ⊥) → unless_refused o a ≡ Refuses r → (f : Fault) × ((refusal f ≡ r) × (o ≡ Some f))
refuses_some None a r never h = absurd (never r h)
refuses_some (Some f) a r never h = (f, (cc, refl))

never_refuses : (o : Option Entry) (s : Typer) (q : Refusal) → accepted_by o s ≡ Refuses q → ⊥
never_refuses None s q h = cc
never_refuses (Some e) s q h = by (nat_le (cells s e) (limit_number Cells)) h
  where
    by : (b : Bool) → (if b then Accepts (program s e) else TooManyCells) ≡ Refuses q → ⊥
    by true h = cc
    by false h = cc

never_in : (t : Typed (Option Entry)) (q : Refusal) → accepted_in t ≡ Refuses q → ⊥
never_in (Gives o s) q h = never_refuses o s q h

pub refuses_the_least : RefusesTheLeast
unfolding answer
refuses_the_least u end r = (
  λ h.
      let f = refuses_some (least_of (refusals u end)) (accepted_in (all_items u)) r (never_in (all_items u)) h in
      (f.0, (f.1.0, told_least (refusals u end) f.0 f.1.1)),
  λ h. ap (λ (o : Option Fault). unless_refused o (accepted_in (all_items u))) (least_told (refusals u end) h.0 h.1.1) ∙ ap Refuses h.1.0,
)

is_unrefused : (o : Option Entry) (s : Typer) → IsUnrefused (accepted_by o s)
is_unrefused None s = inr refl
is_unrefused (Some e) s = by (nat_le (cells s e) (limit_number Cells))
  where
    by : (b : Bool) → IsUnrefused (if b then Accepts (program s e) else TooManyCells)
    by true = inl (program s e, refl)
    by false = inr refl

all_unrefused : (t : Typed (Option Entry)) → IsUnrefused (accepted_in t)
all_unrefused (Gives o s) = is_unrefused o s

no_least : (o : Option Fault) (a : Answer) → IsUnrefused (unless_refused o a) → o ≡ None
no_least None a h = refl
no_least (Some f) a (inl (p, e)) = cc
no_least (Some f) a (inr e) = cc

pub accepts_the_rest : AcceptsTheRest
unfolding answer
accepts_the_rest u end = (
  λ h. least_none (refusals u end) (no_least (least_of (refusals u end)) (accepted_in (all_items u)) h),
  λ h. subst (λ (fs : List Fault). IsUnrefused (unless_refused (least_of fs) (accepted_in (all_items u)))) (sym h) (all_unrefused (all_items u)),
)
