-- What the references of a call stand for.
use Rattle.std.proofs.Common.{◌≡◌, ℕ, ◌+◌, ◌≤◌, List, [], ◌∷◌, ◌++◌, refl, sym, ap, ◌∙◌, arith, append-nil, append_assoc}
use Rattle.sa_typed.specs.Executions.{params_of}
use Rattle.sa_typed.specs.Frames.{access_indices, kept_indices, all_kept, home_cells}
use Rattle.sa_base.specs.declared.pos.Pos.{Pos}
use Rattle.std.specs.Prelude.{slice_get, ◌==◌, if◌then◌else◌}
use Rattle.sa_typed.specs.declared.program.Home.TheVariants as home
use Rattle.sa_typed.specs.declared.program.Param.{Param}
use Rattle.sa_typed.specs.declared.program.Program.{Program}
use Rattle.sa_typed.specs.declared.stmt.Arg.{Arg}
use Rattle.sa_typed.specs.declared.stmt.Arg.TheVariants.{Value as ByValue, Object as ByReference}
use Rattle.sa_ir.specs.declared.frame.Reference.{Reference}
use Rattle.sa_ir.specs.declared.frame.Target.{Target}
use Rattle.sa_ir.specs.declared.frame.Frame as call
use Rattle.sa_ir.specs.Cursors.{bases, frame_of}
use Rattle.sa_ir.specs.Frames.{Frame, own_target}
use Rattle.sa_ir.specs.Nodes.{bound, kept_from, called_frame}
use Rattle.sa_ir.specs.Names.{call_text}
use Rattle.sa_ir.specs.Places.{target}
use Rattle.sa_ir.specs.Sizes.{capped}
use Rattle.sa_lower.specs.References.{reference_for, references_for}

pub exact : (first count n r s : ℕ) → r ≡ s → s ≤ 4294967295 → s ≡ capped (first + count) → count ≡ capped n → r ≡ first + n
exact first count n r s e few is c = omega (arith, e, few, is, c)

plus-zero : (n : ℕ) → n + 0 ≡ n
plus-zero n = omega arith

-- what parameters stand for is what the list says
pub bound-list : (p : Program) (fr : Frame) (h : ℕ) (params : List Param) (args : List Arg) (base : ℕ → Target) → bound p fr h params args base ≡ bases (references_for p fr h params args) base
unfolding bound references_for bases
bound-list p fr h [] args base = refl
bound-list p fr h (q ∷ params) [] base = refl
bound-list p fr h (q ∷ params) (ByValue at a ∷ args) base =
    bound-list p fr h params args base ∙ sym (ap (λ (k : ℕ). bases (references_for p fr k params args) base) (plus-zero h))
bound-list p fr h (q ∷ params) (ByReference x ∷ args) base =
    bound-list p fr (h + access_indices x) params args (λ v. if v == q.var then target p fr h x else base v)

-- ---- one pair on
pub pair-more : (p : Program) (fr : Frame) (h g : ℕ) (q : Param) (a : Arg) (params : List Param) (args : List Arg) (out new whole : List Reference) → g ≡ h + kept_indices a → new ≡ out ++ reference_for p fr h q a →
    out ++ references_for p fr h (q ∷ params) (a ∷ args) ≡ whole → new ++ references_for p fr g params args ≡ whole
unfolding references_for
pair-more p fr h g q a params args out new whole c e left =
    ap (λ (k : ℕ). new ++ references_for p fr k params args) c ∙ ap (λ (l : List Reference). l ++ references_for p fr (h + kept_indices a) params args) e
    ∙ append_assoc out (reference_for p fr h q a) (references_for p fr (h + kept_indices a) params args) ∙ left

pub no-pair : (p : Program) (fr : Frame) (h : ℕ) (params : List Param) (out whole : List Reference) → out ++ references_for p fr h params [] ≡ whole → out ≡ whole
unfolding references_for
no-pair p fr h [] out whole left = sym (append-nil out) ∙ left
no-pair p fr h (q ∷ params) out whole left = sym (append-nil out) ∙ left

-- ---- the frame of a call
pub frame-is : (p : Program) (fr : Frame) (k : ℕ) (q : Pos) (f : ℕ) (args : List Arg) (r : call.Frame) (kept : ℕ) (params : List Param) → params ≡ params_of (slice_get p.funcs f) → kept ≡ kept_from p f k → r.first ≡ k →
    r.prefix.items ≡ call_text p fr.prefix q f → r.result ≡ kept + all_kept args → r.references.items ≡ references_for p fr kept params args → frame_of p r ≡ called_frame p fr k q f args
unfolding called_frame
frame-is p fr k q f args r kept params whose from first prefix result references =
    let own = own_target p k in
    let base : bases r.references.items (own_target p r.first) ≡ bound p fr (kept_from p f k) (params_of (slice_get p.funcs f)) args own
    = ap (λ (n : ℕ). bases r.references.items (own_target p n)) first ∙ ap (λ (rs : List Reference). bases rs own) references
    ∙ sym (bound-list p fr kept params args own) ∙ ap (λ (n : ℕ). bound p fr n params args own) from
    ∙ ap (λ (qs : List Param). bound p fr (kept_from p f k) qs args own) whose in
    ap (λ (b : ℕ → Target). let y : Frame = record { prefix = r.prefix.items; result = r.result; base = b } in y) base
    ∙ ap (λ (t : List ℕ). let y : Frame = record { prefix = t; result = r.result; base = bound p fr (kept_from p f k) (params_of (slice_get p.funcs f)) args own } in y) prefix
    ∙ ap (λ (n : ℕ). let y : Frame = record { prefix = call_text p fr.prefix q f; result = n; base = bound p fr (kept_from p f k) (params_of (slice_get p.funcs f)) args own } in y)
    (result ∙ ap (λ (n : ℕ). n + all_kept args) from)
