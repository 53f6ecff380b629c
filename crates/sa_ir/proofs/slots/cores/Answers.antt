use Rattle.std.proofs.Common.{◌≡◌, ◌∙◌, ◌∷◌, ◌++◌, [], ap, sym, subst, ℕ, List, length, get_or, length-append, arith, Option}
use Rattle.std.proofs.lemmas.Option.{get_or_from_slice_get}
use Rattle.sa_ir.specs.declared.slots.Core.{Core}
use Rattle.sa_typed.specs.declared.shape.Plain.TheVariants.{Struct}
use Rattle.sa_typed.specs.declared.shape.StructDef.{StructDef}
use Rattle.sa_ir.specs.Spots.{base_layout, IsCore, StandFor}
use Rattle.sa_ir.proofs.CoreLemmas.{cores-more}
use Rattle.sa_ir.proofs.slots.cores.Goals as goal

pub core_of-core-requires-clause-cores : goal.core_of-core-requires-clause-cores
core_of-core-requires-clause-cores c = subst (λ (l : List (Option Core)). StandFor c.args.program.now.structs l) (sym c.deref.ensures.value) c.loop-k.invariant.each

pub core_of-core-requires-clause-fields : goal.core_of-core-requires-clause-fields
core_of-core-requires-clause-fields c = λ d made.
    let p = c.args.program.now.structs in
    let k = c.loop-k.k in
    let x = c.index-structs-k.result in
    c.as_slice.ensures ∙ ap (λ (l : List StructDef). (get_or l k x).fields) c.as_slice-structs.ensures ∙ ap (λ (y : StructDef). y.fields) (get_or_from_slice_get p k d x made)

pub loop-k-preserved : goal.loop-k-preserved
loop-k-preserved c =
    let p = c.args.program.now.structs in
    let cores = c.loop-k.cores.items in
    let o = c.core_of-core.result in
    let pushed : c.push.new.self.items ≡ cores ++ o ∷ [] = c.in_ok-push.ensures.items in
    let long = c.loop-k.invariant.long in
    let n = ap length pushed ∙ length-append cores (o ∷ []) in
    record {
      long = omega (arith, n, long);
      each = cores-more p cores c.push.new.self.items o c.loop-k.invariant.each
          (λ x e. subst (λ (k : ℕ). IsCore p (base_layout p (Struct k)) x) (sym long) (c.core_of-core.ensures x e)) pushed;
    }

pub returns : goal.returns
returns c =
    let p = c.args.program.now.structs in
    let end = c.loop-k.auto.k-end in
    let last = c.loop-k-test.false in
    let long = c.loop-k.invariant.long in
    let n = ap length c.as_slice-structs.ensures in
    let m = ap length c.from_vec.ensures in
    record {
      long = omega (arith, end, last, long, n, m);
      each = subst (λ (l : List (Option Core)). StandFor p l) (sym c.from_vec.ensures) c.loop-k.invariant.each;
    }
