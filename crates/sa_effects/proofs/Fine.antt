-- Values of plain expressions are of their types, and their forms are those that code can add and guard by.
use Rattle.std.proofs.Common.{◌≡◌, ℕ, zero, suc, ◌<◌, ℤ, pos, List, [], ◌∷◌, length, refl, sym, subst, arith, true, false, Option, Some, None, get_or}
use Rattle.std.specs.Prelude.{IfSome, IsTrue, slice_get, if◌then◌else◌}
use Rattle.std.proofs.lemmas.Int.{ints}
use Rattle.sa_base.specs.declared.num.Num.{Num}
use Rattle.sa_interval.specs.Span.{Span}
use Rattle.sa_interval.specs.Rows.{single}
use Rattle.sa_typed.specs.Arithmetic.{IsOf, result_type, prefix_type}
use Rattle.sa_typed.proofs.ArithmeticLaws.{num_facts}
use Rattle.sa_shared.specs.Slots.{EachSlot}
use Rattle.sa_env.specs.Flat.{Flat, dead, live, Limits, IsFair, IsIn as InRange}
use Rattle.sa_typed.specs.WellTyped.{converts, right_converts, IsLink}
use Rattle.sa_typed.specs.declared.expr.Operator.{Operator}
use Rattle.sa_typed.specs.declared.expr.Operator.TheVariants as o
use Rattle.sa_typed.specs.declared.expr.Prefix.{Prefix}
use Rattle.sa_operators.specs.Operators.{IsIn}
use Rattle.sa_operators.specs.OperatorLaws.{IsSmallSpan, Suits, SuitsRight}
use Rattle.sa_operators.proofs.FitLaws.{types_are_small}
use Rattle.sa_ir.specs.declared.expr.IrExpr.{IrExpr, Number, Read', Input, Prefix', Cast', Chain', And', Or', Choice', end_of-IrExpr, more_of-IrExpr, Row_of-IrLink, end_of-IrLink, more_of-IrLink, Row_of-Row, end_of-Row, more_of-Row}
use Rattle.sa_flat.specs.Domain.{Domain}
use Rattle.sa_flat.specs.Forms.{constant, of_cell}
use Rattle.sa_flat.specs.Intervals as reference
use Rattle.sa_flat.specs.Expressions.{meaning, operations, targets}
use Rattle.sa_flat.specs.Meanings.{Meaning, Target, Cells, operation, at_cell, read_operand}
use Rattle.sa_flat.proofs.Operands.{InType, suits, link_in, prefix_in, convert_in}
use Rattle.sa_effects.specs.declared.value.Value.{Value}
use Rattle.sa_effects.specs.Values.{value_at, operated, prefixed, converted, IsFormed, IsGuard}
use Rattle.sa_effects.specs.Stands.{opened}
use Rattle.sa_effects.specs.Plain.{num_of, last_num, IsPlain, ArePlain, HasNone}
use Rattle.sa_effects.proofs.Formed.{operated_formed, prefixed_formed, converted_formed}
use Rattle.sa_effects.proofs.Light.{IsOfCells, AreNumbers, guard_by, operation_of_cells, prefix_of_cells, converted_of_cells}
use Rattle.sa_effects.proofs.Operations.{made, operation_at, prefix_at, cell_at}

suits_right : (op : Operator) (from to : Num) (s : Span) → IsTrue (right_converts op from to) → IsIn from s → SuitsRight op to s
suits_right o.Plus from to s h k = suits from to s h k
suits_right o.Minus from to s h k = suits from to s h k
suits_right o.Times from to s h k = suits from to s h k
suits_right o.Divide from to s h k = suits from to s h k
suits_right o.Remainder from to s h k = suits from to s h k
suits_right o.ShiftLeft from to s h k = types_are_small from s k
suits_right o.ShiftRight from to s h k = types_are_small from s k
suits_right o.BitAnd from to s h k = suits from to s h k
suits_right o.BitXor from to s h k = suits from to s h k
suits_right o.BitOr from to s h k = suits from to s h k
suits_right o.Equal from to s h k = suits from to s h k
suits_right o.NotEqual from to s h k = suits from to s h k
suits_right o.Less from to s h k = suits from to s h k
suits_right o.LessEqual from to s h k = suits from to s h k
suits_right o.Greater from to s h k = suits from to s h k
suits_right o.GreaterEqual from to s h k = suits from to s h k

pub left_suits : (from to : Num) (s : Option Span) → IsTrue (converts from to) → InType from s → IfSome s (Suits to)
left_suits from to None c h = tt
left_suits from to (Some s) c h = suits from to s c h

pub right_suits : (op : Operator) (from to : Num) (s : Option Span) → IsTrue (right_converts op from to) → InType from s → IfSome s (SuitsRight op to)
right_suits op from to None c h = tt
right_suits op from to (Some s) c h = suits_right op from to s c h

pub small_in : (num : Num) (s : Option Span) → InType num s → IfSome s IsSmallSpan
small_in num None h = tt
small_in num (Some s) h = types_are_small num s h

module _ (tops : List Span) (at : ℕ → ℤ) where
  -- of its type, with a form of cells that has one of its numbers
  pub record IsOperand (num : Num) (v : Value) : Type 0 where
    pub of_type : InType num v.span
    pub formed : IsFormed at v
    pub cells : IfSome v.form (IsOfCells tops)

  pub operated_fine : (op : Operator) (left work right : Num) (a b : Value) → IsLink op left work right → IsOperand left a → IsOperand right b → IsOperand (result_type op work) (operated op work a b)
  operated_fine op left work right a b l h k = record {
    of_type = link_in op left work right a.span b.span l h.of_type k.of_type;
    formed = operated_formed at op work a b (left_suits left work a.span l.first h.of_type) (right_suits op right work b.span l.second k.of_type) h.formed k.formed;
    cells = operation_of_cells tops op work a b h.cells k.cells;
  }

  pub prefixed_fine : (op : Prefix) (from num : Num) (a : Value) → IsTrue (converts from num) → IsOperand from a → IsOperand (prefix_type op num) (prefixed op num a)
  prefixed_fine op from num a c h = record {
    of_type = prefix_in op from num a.span c h.of_type;
    formed = prefixed_formed at op num a (left_suits from num a.span c h.of_type) h.formed;
    cells = prefix_of_cells tops op num a h.cells;
  }

  pub converted_fine : (from num : Num) (a : Value) → IsOperand from a → IsOperand num (converted num a)
  converted_fine from num a h = record {
    of_type = convert_in from num a.span h.of_type;
    formed = converted_formed at num a (small_in from a.span h.of_type) h.formed;
    cells = converted_of_cells tops num a h.cells;
  }

-- ---- all plain expressions
there_less : (nums : List Num) (c : ℕ) (num : Num) → slice_get nums c ≡ Some num → c < length (reference.ranges nums)
there_less [] c num h = cc
there_less (n ∷ nums) zero num h = omega arith
there_less (n ∷ nums) (suc c) num h = let k = there_less nums c num h in omega (arith, k)

-- over a state whose cells have numbers of these types
module _ (r : reference.Limits) (y : Cells) (nums : List Num) (a : reference.Flat) (fits : (c : ℕ) (num : Num) → slice_get nums c ≡ Some num → IsIn num (reference.cell_of c a)) where
  abbrev D : Domain
  D = reference.intervals r

  -- the least number of each cell
  abbrev pub least : ℕ → ℤ
  least c = (reference.cell_of c a).lo

  abbrev pub IsFine : Num → Value → Type 0
  IsFine = IsOperand (reference.ranges nums) least

  no_rows : {n : _} (rows : Row_of-Row n) (t : Target reference.Flat) → HasNone rows → targets D y rows t ≡ t
  unfolding meaning
  no_rows end_of-Row t h = refl
  no_rows (more_of-Row q rest) t h = absurd h

  number_fine : (n : ℕ) (num : Num) → IsOf num (pos n) → IsFine num (made (Some (single (pos n))) (Some (constant (pos n))))
  number_fine n num h = record {
    of_type = record { ordered = omega (arith, ints); part = record { above = h.low; below = h.high } };
    formed = record { above = omega (arith, ints); below = omega (arith, ints) };
    cells = record { cells = (tt, tt); apart = tt };
  }

  cell_fine : (k : ℕ) (num : Num) → slice_get nums k ≡ Some num → IsFine num (made (Some (reference.cell_of k a)) (if y.starred k then None else Some (of_cell k)))
  cell_fine k num h =
      elim (y.starred k) as (λ b. IsFine num (made (Some (reference.cell_of k a)) (if b then None else Some (of_cell k)))) [
        | true ↦ record { of_type = fits k num h; formed = tt; cells = tt }
        | false ↦ (let order = (fits k num h).ordered in record {
          of_type = fits k num h;
          formed = record { above = omega (arith, ints); below = omega (arith, ints) };
          cells = record { cells = (there_less nums k num h, tt); apart = tt };
        })
      ]

  mutual
    unfolding meaning IsPlain num_of

    pub fine : (x : IrExpr) → IsPlain nums x → IsFine (num_of x) (value_at (meaning D y x).value a)
    fine (Number n num) h = number_fine n num h
    fine (Read' first n rows num) h =
        subst (λ (t : Target reference.Flat). IsFine num (value_at (read_operand D y t) a)) (sym (no_rows rows (at_cell D first) h.0))
        (subst (λ (v : Value). IsFine num v) (sym (cell_at r a y first)) (cell_fine first num h.1))
    fine (Input k num) h = absurd h
    fine (Prefix' op q num n (more_of-IrExpr b end_of-IrExpr)) h =
        subst (λ (v : Value). IsFine (prefix_type op num) v) (sym (prefix_at r a op num (meaning D y b).value))
        (prefixed_fine (reference.ranges nums) least op (num_of b) num (value_at (meaning D y b).value a) h.1 (fine b h.0))
    fine (Cast' q num n (more_of-IrExpr b end_of-IrExpr)) h = converted_fine (reference.ranges nums) least (num_of b) num (value_at (meaning D y b).value a) (fine b h)
    fine (Chain' n (more_of-IrExpr b end_of-IrExpr) m ls) h = links_fine ls (meaning D y b) (num_of b) (fine b h.0) h.1
    fine (And' n b m rest) h = absurd h
    fine (Or' n b m rest) h = absurd h
    fine (Choice' n b m c l d num) h = absurd h

    links_fine : {n : _} (ls : Row_of-IrLink n) (m : Meaning reference.Flat) (left : Num) → IsFine left (value_at m.value a) → ArePlain nums left ls → IsFine (last_num left ls) (value_at (operations D y ls m).value a)
    links_fine end_of-IrLink m left h k = h
    links_fine (more_of-IrLink op q work b rest) m left h k =
        links_fine rest (operation D op q work m (meaning D y b)) (result_type op work)
        (subst (λ (v : Value). IsFine (result_type op work) v) (sym (operation_at r a op work m.value (meaning D y b).value))
        (operated_fine (reference.ranges nums) least op left work (num_of b) (value_at m.value a) (value_at (meaning D y b).value a) k.1.0 h (fine b k.0)))
        k.1.1

-- ---- fair environments
slot_in : (nums : List Num) (xs : List Span) → EachSlot InRange (reference.ranges nums) xs → (c : ℕ) (num : Num) → slice_get nums c ≡ Some num → IsIn num (get_or xs c (single (pos 0)))
slot_in [] xs h c num e = cc
slot_in (n ∷ nums) [] h c num e = absurd h
slot_in (n ∷ nums) (x ∷ xs) h zero num e = subst (λ (m : Num). IsIn m x) (same n num e) (record { ordered = h.0.ordered; part = h.0.part })
  where
    same : (n m : Num) → Some n ≡ Some m → n ≡ m
    same n m e = cc
slot_in (n ∷ nums) (x ∷ xs) h (suc c) num e = slot_in nums xs h.1 c num e

-- the numbers of each cell are of its type
pub fair_fits : (nums : List Num) (l : Limits) (f : Flat) (a : reference.Flat) → l.tops ≡ reference.ranges nums → IsFair l f → opened f ≡ Some a → (c : ℕ) (num : Num) → slice_get nums c ≡ Some num → IsIn num (reference.cell_of c a)
fair_fits nums l dead a t h e c num k = cc
fair_fits nums l (live clock xs) a t h e c num k =
    subst (λ (a : reference.Flat). IsIn num (reference.cell_of c a)) (same _ a e) (slot_in nums xs (subst (λ (ts : List Span). EachSlot InRange ts xs) t h.1) c num k)
  where
    same : (a b : reference.Flat) → Some a ≡ Some b → a ≡ b
    same a b e = cc

type_at : (nums : List Num) (c : ℕ) → c < length (reference.ranges nums) → (num : Num) × (slice_get nums c ≡ Some num)
type_at [] c h = absurd (omega (arith, h))
type_at (n ∷ nums) zero h = (n, refl)
type_at (n ∷ nums) (suc c) h = type_at nums c (omega (arith, h))

-- a value of a plain expression is one to guard by, and its form has a constant that code can add
pub guard_fine : (nums : List Num) (a : reference.Flat) → ((c : ℕ) (num : Num) → slice_get nums c ≡ Some num → IsIn num (reference.cell_of c a)) → (num : Num) (v : Value) →
    IsOperand (reference.ranges nums) (λ c. (reference.cell_of c a).lo) num v → IsGuard (reference.ranges nums) v
guard_fine nums a fits num v h = guard_by (reference.ranges nums) (λ c. (reference.cell_of c a).lo) v numbers (small_in num v.span h.of_type) h.formed h.cells
  where
    numbers : AreNumbers (reference.ranges nums) (λ c. (reference.cell_of c a).lo)
    numbers c less =
        let t = type_at nums c less in
        let i = fits c t.0 t.1 in
        let k = num_facts t.0 in
        let low = k.least in let high = k.greatest in let order = i.ordered in let above = i.part.above in let below = i.part.below in
        record { above = omega (arith, ints); below = omega (arith, ints) }
