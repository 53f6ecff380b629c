use Rattle.std.proofs.Common.{◌≡◌, ◌∙◌, ◌+◌, [], ◌++◌, ap, sym, subst, List, ℕ, append-nil, arith}
use Rattle.std.proofs.lemmas.List.{nil_from_length}
use Rattle.sa_typed.specs.Layouts.{Layout, shape_layout}
use Rattle.sa_ir.specs.declared.slots.Elements.{Elements}
use Rattle.sa_ir.specs.declared.slots.Slot.{Slot}
use Rattle.sa_ir.specs.declared.slots.Spot.{Spot}
use Rattle.sa_ir.specs.Sizes.{among}
use Rattle.sa_ir.specs.Slots.{slots_in}
use Rattle.sa_ir.specs.Spots.{AreKnown, base_layout, left, work, weight}
use Rattle.sa_ir.proofs.StepLemmas.{among-all}
use Rattle.sa_ir.proofs.SpotLemmas.{known-pop, left-push, weight-push, left-none, first-slots}
use Rattle.sa_ir.proofs.slots.slots.Goals as goal

pub loop-spot-init : goal.loop-spot-init
unfolding left
loop-spot-init c =
    let p = c.args.program.now.structs in
    let zs = c.args.values.now in
    let s = c.args.shape.now in
    record {
      known = c.push_spots.ensures.known;
      slots =
          ap (λ (l : List Slot). l ++ left p zs c.push_spots.new.todo.items) c.new-out.ensures.items
          ∙ c.in_ok-push_spots.ensures.slots
          ∙ ap (λ (l : List Spot). slots_in zs (among p c.len-structs.result s) c.in_ok-start.start ++ left p zs l) c.new-todo.ensures.items
          ∙ append-nil (slots_in zs (among p c.len-structs.result s) c.in_ok-start.start)
          ∙ ap (λ (n : ℕ). slots_in zs (among p n s) c.in_ok-start.start) c.len-structs.ensures
          ∙ ap (λ (l : Layout). slots_in zs l c.in_ok-start.start) (among-all p s)
          ∙ ap (λ (e : Elements). slots_in zs (shape_layout p s) e) c.in_ok-start.ensures
          ∙ first-slots zs (shape_layout p s);
    }

pub read_spot-requires-clause-inside : goal.read_spot-requires-clause-inside
read_spot-requires-clause-inside c =
    let k = known-pop c.args.program.now.structs c.pop.new.self.items c.in-Some.spot (subst (λ (l : List Spot). AreKnown c.args.program.now.structs l) c.in-Some.ensures.items c.loop-spot.invariant.known) in
    k.1

pub read_spot-requires-clause-known : goal.read_spot-requires-clause-known
read_spot-requires-clause-known c =
    let k = known-pop c.args.program.now.structs c.pop.new.self.items c.in-Some.spot (subst (λ (l : List Spot). AreKnown c.args.program.now.structs l) c.in-Some.ensures.items c.loop-spot.invariant.known) in
    k.0

pub loop-spot-smaller : goal.loop-spot-smaller
loop-spot-smaller c =
    let p = c.args.program.now.structs in
    let w = c.in_ok-read_spot.ensures.work in
    let v : weight p c.loop-spot.todo.items ≡ work (base_layout p c.in-Some.spot.base) + weight p c.pop.new.self.items
    = ap (λ (l : List Spot). weight p l) c.in-Some.ensures.items ∙ weight-push p c.pop.new.self.items c.in-Some.spot in
    omega (arith, w, v)

pub loop-spot-preserved : goal.loop-spot-preserved
loop-spot-preserved c =
    let p = c.args.program.now.structs in
    let zs = c.args.values.now in
    record {
      known = c.read_spot.ensures.known;
      slots =
          c.in_ok-read_spot.ensures.slots
          ∙ ap (λ (l : List Slot). c.loop-spot.out.items ++ l) (sym (left-push p zs c.pop.new.self.items c.in-Some.spot) ∙ ap (λ (l : List Spot). left p zs l) (sym c.in-Some.ensures.items))
          ∙ c.loop-spot.invariant.slots;
    }

pub returns : goal.returns
returns c =
    let p = c.args.program.now.structs in
    let zs = c.args.values.now in
    let none : c.loop-spot.todo.items ≡ [] = nil_from_length c.loop-spot.todo.items (sym c.loop-spot.todo.ok.0 ∙ c.in_default.ensures.cases.0) in
    sym (append-nil c.loop-spot.out.items) ∙ ap (λ (l : List Slot). c.loop-spot.out.items ++ l) (sym (left-none p zs))
    ∙ ap (λ (l : List Spot). c.loop-spot.out.items ++ left p zs l) (sym none) ∙ c.loop-spot.invariant.slots
