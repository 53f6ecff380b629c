use Rattle.std.proofs.Common.{◌≡◌, ◌∙◌, ◌*◌, ◌++◌, [], ap, refl, sym, subst, List, ℕ, length, arith}
use Rattle.std.specs.List.{flat_map}
use Rattle.std.proofs.lemmas.List.{nil_from_length}
use Rattle.sa_typed.specs.Layouts.{Layout, nums}
use Rattle.sa_ir.specs.declared.slots.Elements.{Elements}
use Rattle.sa_ir.specs.declared.slots.Slot.{Slot}
use Rattle.sa_ir.specs.Sizes.{among, no_array, capped}
use Rattle.sa_ir.specs.Slots.{slots_in}
use Rattle.sa_ir.specs.Spots.{AreKnown, left, work}
use Rattle.sa_ir.proofs.SpotLemmas.{none-within, known-push, spot-step, weight-step, nothing-read}
use Rattle.sa_ir.proofs.slots.push_spots.Goals as goal

pub returns-then-arrays-eq0-clause-slots : goal.returns-then-arrays-eq0-clause-slots
returns-then-arrays-eq0-clause-slots c =
    nothing-read c.args.values.now (among c.args.program.now.structs c.args.structs c.args.shape.now) c.args.elements (left c.args.program.now.structs c.args.values.now c.args.todo.now.items)
    (sym c.in_ok-arrays.ensures.counted ∙ c.if-arrays-eq0.true)

pub returns-in_default-clause-slots : goal.returns-in_default-clause-slots
returns-in_default-clause-slots c =
    let none = none-within c.args.program.now.structs c.args.structs c.args.shape.now.plain c.in_ok-arrays.arrays.rows.items c.in_default.ensures in
    let count : length (nums (among c.args.program.now.structs c.args.structs c.args.shape.now)) ≡ 0 = ap (λ (l : Layout). length (nums l)) c.in_ok-arrays.ensures.whole ∙ none in
    nothing-read c.args.values.now (among c.args.program.now.structs c.args.structs c.args.shape.now) c.args.elements (left c.args.program.now.structs c.args.values.now c.args.todo.now.items)
    (ap (λ (n : ℕ). capped n) count)

pub loop-elements-preserved : goal.loop-elements-preserved
loop-elements-preserved c =
    let p = c.args.program.now.structs in
    let inner = among p c.args.structs (no_array c.args.shape.now.plain) in
    let s = c.spot_of.result in
    let is = c.spot_of.ensures in
    let less = c.loop-elements.invariant.work in
    let step = weight-step p inner c.pop.new.self.items c.loop-elements.all.items c.in-Some-pop.elements c.loop-elements.todo.items c.push.new.self.items s is c.in-Some-pop.ensures.items c.in_ok-push.ensures.items in
    record {
      known = subst (λ ss. AreKnown p ss) (sym c.in_ok-push.ensures.items) (known-push p c.loop-elements.todo.items s c.loop-elements.invariant.known is.known);
      slots =
          spot-step p inner c.pop.new.self.items c.loop-elements.all.items c.in-Some-pop.elements c.loop-elements.todo.items c.push.new.self.items s is c.in-Some-pop.ensures.items c.in_ok-push.ensures.items
          c.args.values.now
          ∙ c.loop-elements.invariant.slots;
      work = omega (arith, step, less);
    }

pub returns-clause-slots : goal.returns-clause-slots
returns-clause-slots c =
    let p = c.args.program.now.structs in
    let zs = c.args.values.now in
    let inner = among p c.args.structs (no_array c.args.shape.now.plain) in
    let none : c.loop-elements.all.items ≡ [] = nil_from_length c.loop-elements.all.items (sym c.loop-elements.all.ok.0 ∙ c.in_default-pop.ensures.cases.0) in
    ap (λ (es : List Elements). flat_map (slots_in zs inner) es ++ left p zs c.loop-elements.todo.items) (sym none)
    ∙ c.loop-elements.invariant.slots
    ∙ ap (λ (l : List Slot). l ++ left p zs c.args.todo.now.items) (c.in_ok-all.ensures.slots zs inner refl c.in_ok-arrays.ensures.widths)
    ∙ ap (λ (l : Layout). slots_in zs l c.args.elements ++ left p zs c.args.todo.now.items) (sym c.in_ok-arrays.ensures.whole)

pub returns-clause-work : goal.returns-clause-work
returns-clause-work c =
    let p = c.args.program.now.structs in
    let inner = among p c.args.structs (no_array c.args.shape.now.plain) in
    let same : length c.in_ok-all.all.items * work inner ≡ work (among p c.args.structs c.args.shape.now) = c.in_ok-all.ensures.work inner ∙ ap work (sym c.in_ok-arrays.ensures.whole) in
    let w = c.loop-elements.invariant.work in
    omega (arith, same, w)
