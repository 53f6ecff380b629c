use Rattle.std.proofs.Common.{◌≡◌, ◌+◌, ◌∙◌, sym, refl, Some, slice_get, arith}
use Rattle.sa_cells.specs.Sizes.{all_extents}
use Rattle.sa_cells.proofs.StepLemmas.{next-unknown, next-no-field, extents-known, no-before, no-behind, field-order, field-inside, next-field, there-is, not-both}
use Rattle.sa_cells.proofs.place.field.Goals as goal

pub returns-then-structs-k : goal.returns-then-structs-k
returns-then-structs-k c = next-unknown c.args.program.now c.args.f c.args.k c.args.place c.requires.place c.requires.shape c.if-structs-k.true

pub returns-in_default : goal.returns-in_default
returns-in_default c =
    let known = c.requires.place.known in
    let less = c.if-structs-k.false in
    absurd (there-is c.args.program.now.structs c.args.k (omega (arith, known, less)) (sym c.in_default.ensures.value))

pub returns-in_default-get : goal.returns-in_default-get
returns-in_default-get c =
    next-no-field c.args.program.now c.args.f c.args.k c.args.place c.in-Some.made.now c.requires.place c.requires.shape c.if-structs-k.false (sym c.in-Some.ensures.value)
    (sym c.in_default-get.ensures.value)

pub returns-in_default-get-2 : goal.returns-in_default-get-2
returns-in_default-get-2 c =
    absurd (not-both _ _ (extents-known c.args.program.now c.args.f c.args.k c.args.place c.in-Some.made.now c.requires.place c.requires.shape c.if-structs-k.false (sym c.in-Some.ensures.value)
    c.args.ground.now.structs c.requires.ground.structs) (sym c.in_default-get-2.ensures.value))

pub returns-in_default-get-3 : goal.returns-in_default-get-3
returns-in_default-get-3 c =
    absurd (no-before c.args.program.now c.args.f c.args.k c.args.place c.in-Some.made.now c.requires.place c.requires.shape c.if-structs-k.false (sym c.in-Some.ensures.value)
    c.args.ground.now.structs c.requires.ground.structs c.in-Some-get.field.now (sym c.in-Some-get.ensures.value) c.in-Some-get-2.extents.now (sym c.in-Some-get-2.ensures.value) (sym c.in_default-get-3.ensures.value))

pub returns-in_default-get-4 : goal.returns-in_default-get-4
returns-in_default-get-4 c =
    absurd (no-behind c.args.program.now c.args.f c.args.k c.args.place c.in-Some.made.now c.requires.place c.requires.shape c.if-structs-k.false (sym c.in-Some.ensures.value)
    c.args.ground.now.structs c.requires.ground.structs c.in-Some-get.field.now (sym c.in-Some-get.ensures.value) c.in-Some-get-2.extents.now (sym c.in-Some-get-2.ensures.value) (sym c.in_default-get-4.ensures.value))

pub overflow_sub-result : goal.overflow_sub-result
overflow_sub-result c =
    field-order c.args.program.now c.args.f c.args.k c.args.place c.in-Some.made.now c.requires.place c.requires.shape c.if-structs-k.false (sym c.in-Some.ensures.value)
    c.args.ground.now.structs c.requires.ground.structs c.in-Some-get.field.now (sym c.in-Some-get.ensures.value) c.in-Some-get-2.extents.now c.in-Some-get-3.before.now c.in-Some-get-4.behind.now
    (sym c.in-Some-get-2.ensures.value) (sym c.in-Some-get-3.ensures.value) (sym c.in-Some-get-4.ensures.value)

pub moved-requires : goal.moved-requires
moved-requires c =
    rw c.deref.ensures.value (field-inside c.args.program.now c.args.f c.args.k c.args.place c.in-Some.made.now c.requires.place c.requires.shape c.if-structs-k.false (sym c.in-Some.ensures.value)
    c.args.ground.now.structs c.requires.ground.structs c.in-Some-get.field.now (sym c.in-Some-get.ensures.value) c.in-Some-get-2.extents.now c.in-Some-get-3.before.now c.in-Some-get-4.behind.now
    (sym c.in-Some-get-2.ensures.value) (sym c.in-Some-get-3.ensures.value) (sym c.in-Some-get-4.ensures.value))

pub returns : goal.returns
returns c =
    next-field c.args.program.now c.args.f c.args.k c.args.place c.in-Some.made.now c.requires.place c.requires.shape c.if-structs-k.false (sym c.in-Some.ensures.value)
    c.args.ground.now.structs c.requires.ground.structs c.in-Some-get.field.now (sym c.in-Some-get.ensures.value) c.in-Some-get-2.extents.now c.in-Some-get-3.before.now c.in-Some-get-4.behind.now
    (sym c.in-Some-get-2.ensures.value) (sym c.in-Some-get-3.ensures.value) (sym c.in-Some-get-4.ensures.value) _ c.as_slice.ensures refl refl refl (c.in_ok-moved.ensures ∙ rw c.deref.ensures.value refl)
