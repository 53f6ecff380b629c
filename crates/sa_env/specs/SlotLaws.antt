-- The laws of a slot hold of cells: their intervals by inclusion are a join semilattice.
use Rattle.std.specs.Prelude.{◌≡◌, ℤ, refl}
use Rattle.std.specs.Int.{int_max, int_min}
use Rattle.std.proofs.Common.{arith, ap, ◌∙◌}
use Rattle.std.proofs.lemmas.Int.{ints, clamps}
use Rattle.sa_interval.specs.Span.{Span, IsPart}
use Rattle.sa_interval.specs.Rows.{join_of}
use Rattle.sa_shared.specs.Slots.{SlotLaws}
use Rattle.sa_env.specs.declared.slot.SlotValue.{SlotValue}
use Rattle.sa_env.specs.declared.slot.SlotValue.TheVariants.{Cell}
use Rattle.sa_env.specs.Slots.{Alike, slot_join, SlotBelow}

pub same_ends : (a b : Span) → a.lo ≡ b.lo → a.hi ≡ b.hi → a ≡ b
same_ends a b l h = ap (λ (z : ℤ). record { lo = z; hi = a.hi }) l ∙ ap (λ (z : ℤ). record { lo = b.lo; hi = z }) h

pub both_parts : (a b : Span) → IsPart a b → IsPart b a → a ≡ b
both_parts a b p q = same_ends a b (omega (arith, ints)) (omega (arith, ints))

pub part_self : (a : Span) → IsPart a a
part_self a = record { above = omega (arith, ints); below = omega (arith, ints) }

pub part_on : (a b c : Span) → IsPart a b → IsPart b c → IsPart a c
part_on a b c p q = record { above = omega (arith, ints); below = omega (arith, ints) }

pub join_first : (a b : Span) → IsPart a (join_of a b)
join_first a b = record { above = omega (arith, ints, clamps); below = omega (arith, ints, clamps) }

pub join_second : (a b : Span) → IsPart b (join_of a b)
join_second a b = record { above = omega (arith, ints, clamps); below = omega (arith, ints, clamps) }

pub join_least : (a b c : Span) → IsPart a c → IsPart b c → IsPart (join_of a b) c
join_least a b c p q = record { above = omega (arith, ints, clamps); below = omega (arith, ints, clamps) }

-- a join with what is inside is the same
pub join_part : (a b : Span) → IsPart b a → join_of a b ≡ a
join_part a b p = same_ends (join_of a b) a (omega (arith, ints, clamps)) (omega (arith, ints, clamps))

pub slot_laws : SlotLaws Alike slot_join SlotBelow
slot_laws = record {
  like_back = like_back;
  like_on = like_on;
  below_self = below_self;
  below_on = below_on;
  below_both = below_both;
  join_like = join_like;
  join_first = first;
  join_second = second;
  join_least = least;
  join_self = same;
}
  where
    like_back : (x y : SlotValue) → Alike x y → Alike y x
    like_back (Cell a) (Cell b) h = tt

    like_on : (x y z : SlotValue) → Alike x y → Alike y z → Alike x z
    like_on (Cell a) (Cell b) (Cell c) h k = tt

    below_self : (x : SlotValue) → Alike x x → SlotBelow x x
    below_self (Cell a) h = part_self a

    below_on : (x y z : SlotValue) → Alike x y → Alike y z → SlotBelow x y → SlotBelow y z → SlotBelow x z
    below_on (Cell a) (Cell b) (Cell c) h k p q = part_on a b c p q

    below_both : (x y : SlotValue) → Alike x y → SlotBelow x y → SlotBelow y x → x ≡ y
    below_both (Cell a) (Cell b) h p q = ap Cell (both_parts a b p q)

    join_like : (x y : SlotValue) → Alike x y → Alike x (slot_join x y)
    join_like (Cell a) (Cell b) h = tt

    first : (x y : SlotValue) → Alike x y → SlotBelow x (slot_join x y)
    first (Cell a) (Cell b) h = join_first a b

    second : (x y : SlotValue) → Alike x y → SlotBelow y (slot_join x y)
    second (Cell a) (Cell b) h = join_second a b

    least : (x y z : SlotValue) → Alike x y → Alike x z → SlotBelow x z → SlotBelow y z → SlotBelow (slot_join x y) z
    least (Cell a) (Cell b) (Cell c) h k p q = join_least a b c p q

    same : (x : SlotValue) → Alike x x → slot_join x x ≡ x
    same (Cell a) h = ap Cell (join_part a a (part_self a))
