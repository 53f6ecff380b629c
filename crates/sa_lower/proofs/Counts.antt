-- The numbers that the definitions give the cells and loops of a statement are the lengths of the lists that it brings.
use Rattle.std.proofs.Common.{◌≡◌, ℕ, zero, suc, ◌+◌, List, [], ◌∷◌, ◌++◌, length, true, false, if◌then◌else◌, refl, ap, ap₂, ◌∙◌, arith, Option}
use Rattle.std.proofs.lemmas.List.{length-append, length-map}
use Rattle.std.specs.List.{flat_map}
use Rattle.std.specs.Prelude.{slice_get, Some, None}
use Rattle.sa_base.specs.declared.num.Num.{Num}
use Rattle.sa_base.specs.declared.num.Num.TheVariants.{I32}
use Rattle.sa_typed.specs.Cells.{inner_cells}
use Rattle.sa_typed.specs.Executions.{block_of, params_of}
use Rattle.sa_typed.specs.Frames as counts
use Rattle.sa_typed.specs.Frames.{size, has_cells, cells_from, indices_of, read_indices, kept_indices, all_kept, one_for, result_of, frame_cells, cells_in, all_cells_in, group_cells_in, loops_in, all_loops_in, group_loops_in, body_loops, program_loops}
use Rattle.sa_typed.specs.Layouts.{layout_of}
use Rattle.sa_typed.specs.declared.expr.Expr.{Expr, Read', Row_of-Step, end_of-Step, more_of-Step, more_of-Expr, end_of-Expr}
use Rattle.sa_typed.specs.declared.expr.Expr.TheVariants as e
use Rattle.sa_typed.specs.declared.expr.Step.{At', Field}
use Rattle.sa_typed.specs.declared.program.Home.{Home}
use Rattle.sa_typed.specs.declared.program.Home.TheVariants as home
use Rattle.sa_typed.specs.declared.program.Var.{Var}
use Rattle.sa_typed.specs.declared.program.Program.{Program}
use Rattle.sa_typed.specs.declared.stmt.Arg.{Arg}
use Rattle.sa_typed.specs.declared.stmt.Arg.TheVariants.{Value as ByValue, Object as ByReference}
use Rattle.sa_typed.specs.declared.stmt.Stmt.{Stmt, Row_of-Stmt, end_of-Stmt, more_of-Stmt, Row_of-Group, end_of-Group, more_of-Group}
use Rattle.sa_ir.specs.declared.frame.Span.{Span}
use Rattle.sa_ir.specs.declared.ir.Cell.{Cell}
use Rattle.sa_ir.specs.Frames.{Frame, cell_in, object_cells, cells_at, index_cells, read_cells, arg_cells, result_cells, call_cells, stmt_cells, all_cells, group_cells, body_cells, program_cells, main_frame}
use Rattle.sa_ir.specs.Names.{var_text, call_text}
use Rattle.sa_ir.specs.Nodes.{Bodies, body_nodes, called_frame}
use Rattle.sa_ir.specs.Shown.{Loops, loops, all_loops, group_loops, body_infos, spans_of, param_spans}
use Rattle.sa_ir.specs.Lowered.{lowered_program, behind_main}
use Rattle.sa_lower.specs.Counting.{LengthsAreCounts}

both : {X : Type 0} (xs ys : List X) (m n : ℕ) → length xs ≡ m → length ys ≡ n → length (xs ++ ys) ≡ m + n
both xs ys m n a b = length-append xs ys ∙ ap₂ (λ (i j : ℕ). i + j) a b

one-plus : (n : ℕ) → suc n ≡ 1 + n
one-plus n = omega arith

-- ---- calls
pub length-object : (p : Program) (prefix : List ℕ) (v : ℕ) → length (object_cells p prefix v) ≡ size (layout_of p v)
unfolding object_cells size
length-object p prefix v = length-map (inner_cells (layout_of p v)) (cell_in (var_text prefix (slice_get p.vars v)) (layout_of p v))

pub length-home : (p : Program) (prefix : List ℕ) (h : Home) (k : ℕ) (xs : List Var) → length (cells_at p prefix h k xs) ≡ cells_from p h k xs
unfolding cells_at cells_from
length-home p prefix h k [] = refl
length-home p prefix h k (x ∷ xs) =
    both (if has_cells p h k x then object_cells p prefix k else []) (cells_at p prefix h (k + 1) xs) (if has_cells p h k x then size (layout_of p k) else 0) (cells_from p h (k + 1) xs)
    (elim (has_cells p h k x) as (λ b. length (if b then object_cells p prefix k else []) ≡ (if b then size (layout_of p k) else 0)) [
      | true ↦ length-object p prefix k
      | false ↦ refl
    ]) (length-home p prefix h (k + 1) xs)

length-indices : (n : _) (r : Row_of-Step n) → length (index_cells r) ≡ indices_of r
unfolding index_cells indices_of
length-indices n end_of-Step = refl
length-indices n (more_of-Step (At' q m k (more_of-Expr a end_of-Expr)) rest) = one-plus (length (index_cells rest)) ∙ ap (λ (i : ℕ). 1 + i) (length-indices _ rest)
length-indices n (more_of-Step (Field f) rest) = length-indices _ rest

length-read : (a : Expr) → length (read_cells a) ≡ read_indices a
unfolding read_cells read_indices
length-read (Read' v n steps num) = length-indices _ steps
length-read _ = refl

length-arg : (a : Arg) → length (arg_cells a) ≡ kept_indices a
length-arg (ByValue q a) = refl
length-arg (ByReference x) = length-read (e.Read x I32)

pub length-args : (args : List Arg) → length (flat_map arg_cells args) ≡ all_kept args
unfolding all_kept
length-args [] = refl
length-args (a ∷ args) = both (arg_cells a) (flat_map arg_cells args) (kept_indices a) (all_kept args) (length-arg a) (length-args args)

length-result : (r : Option Num) → length (result_cells r) ≡ one_for r
length-result None = refl
length-result (Some num) = refl

pub length-call : (p : Program) (prefix : List ℕ) (f : ℕ) (args : List Arg) → length (call_cells p prefix f args) ≡ frame_cells p f args
unfolding call_cells frame_cells
length-call p prefix f args =
    both (cells_at p prefix (home.Local f) 0 p.vars) (flat_map arg_cells args ++ result_cells (result_of (slice_get p.funcs f))) (cells_from p (home.Local f) 0 p.vars) (all_kept args + one_for (result_of (slice_get p.funcs f)))
    (length-home p prefix (home.Local f) 0 p.vars)
    (both (flat_map arg_cells args) (result_cells (result_of (slice_get p.funcs f))) (all_kept args) (one_for (result_of (slice_get p.funcs f))) (length-args args) (length-result (result_of (slice_get p.funcs f))))

-- ---- the cells that statements bring
module _ (p : Program) (bodies : ℕ → List ℕ → List Cell) (sizes : ℕ → ℕ) (long : (f : ℕ) (prefix : List ℕ) → length (bodies f prefix) ≡ sizes f) where
  mutual
    unfolding stmt_cells cells_in

    pub length-cells : (prefix : List ℕ) (s : Stmt) → length (stmt_cells p bodies prefix s) ≡ cells_in p sizes s
    length-cells prefix (Stmt.Block' n all) = length-all prefix _ all
    length-cells prefix (Stmt.Call q f args dest) =
        both (call_cells p (call_text p prefix q f) f args) (bodies f (call_text p prefix q f)) (frame_cells p f args) (sizes f) (length-call p (call_text p prefix q f) f args) (long f (call_text p prefix q f))
    length-cells prefix (Stmt.If' c n (more_of-Stmt a end_of-Stmt) m (more_of-Stmt b end_of-Stmt) marked) =
        both (stmt_cells p bodies prefix a) (stmt_cells p bodies prefix b) (cells_in p sizes a) (cells_in p sizes b) (length-cells prefix a) (length-cells prefix b)
    length-cells prefix (Stmt.Switch' c num n groups marked) = length-groups prefix _ groups
    length-cells prefix (Stmt.Loop' q kind cond n (more_of-Stmt body end_of-Stmt) step) = length-cells prefix body
    length-cells prefix _ = refl

    length-all : (prefix : List ℕ) (n : _) (r : Row_of-Stmt n) → length (all_cells p bodies prefix r) ≡ all_cells_in p sizes r
    length-all prefix n end_of-Stmt = refl
    length-all prefix n (more_of-Stmt s rest) =
        both (stmt_cells p bodies prefix s) (all_cells p bodies prefix rest) (cells_in p sizes s) (all_cells_in p sizes rest) (length-cells prefix s) (length-all prefix _ rest)

    length-groups : (prefix : List ℕ) (n : _) (r : Row_of-Group n) → length (group_cells p bodies prefix r) ≡ group_cells_in p sizes r
    length-groups prefix n end_of-Group = refl
    length-groups prefix n (more_of-Group labels m (more_of-Stmt body end_of-Stmt) rest) =
        both (stmt_cells p bodies prefix body) (group_cells p bodies prefix rest) (cells_in p sizes body) (group_cells_in p sizes rest) (length-cells prefix body) (length-groups prefix _ rest)

pub length-body : (p : Program) (depth f : ℕ) (prefix : List ℕ) → length (body_cells p depth f prefix) ≡ counts.body_cells p depth f
unfolding body_cells counts.body_cells
length-body p zero f prefix = refl
length-body p (suc depth) f prefix = length-cells p (body_cells p depth) (counts.body_cells p depth) (length-body p depth) prefix (block_of (slice_get p.funcs f))

pub length-program : (p : Program) → length (program_cells p) ≡ counts.program_cells p
unfolding program_cells counts.program_cells
length-program p =
    let globals = cells_at p [] home.Global 0 p.vars in
    let statics = cells_at p [] home.Static 0 p.vars in
    let main = call_cells p [] p.entry [] in
    let inner = body_cells p (length p.funcs) p.entry [] in
    both globals (statics ++ (main ++ inner)) _ _ (length-home p [] home.Global 0 p.vars)
    (both statics (main ++ inner) _ _ (length-home p [] home.Static 0 p.vars)
    (both main inner _ _ (length-call p [] p.entry []) (length-body p (length p.funcs) p.entry [])))

-- ---- the loops
module _ (p : Program) (depth : ℕ) (bodies : Bodies) (inner : Loops) (sizes : ℕ → ℕ) (long : (f : ℕ) (fr : Frame) (k l : ℕ) → length (inner f fr k l) ≡ sizes f) where
  mutual
    unfolding loops loops_in

    pub length-loops : (fr : Frame) (scope : List Span) (k l : ℕ) (s : Stmt) → length (loops p depth bodies inner fr scope k l s) ≡ loops_in sizes s
    length-loops fr scope k l (Stmt.Block' n all) = length-all_loops fr scope k l _ all
    length-loops fr scope k l (Stmt.Call q f args dest) = long f (called_frame p fr k q f args) (k + frame_cells p f args) l
    length-loops fr scope k l (Stmt.If' c n (more_of-Stmt a end_of-Stmt) m (more_of-Stmt b end_of-Stmt) marked) =
        both _ _ (loops_in sizes a) (loops_in sizes b) (length-loops fr scope k l a)
        (length-loops fr scope (k + cells_in p (counts.body_cells p depth) a) (l + loops_in (body_loops p depth) a) b)
    length-loops fr scope k l (Stmt.Switch' c num n groups marked) = length-group_loops fr scope k l _ groups
    length-loops fr scope k l (Stmt.Loop' q kind cond n (more_of-Stmt body end_of-Stmt) step) =
        one-plus (length (loops p depth bodies inner fr scope k (l + 1) body)) ∙ ap (λ (i : ℕ). 1 + i) (length-loops fr scope k (l + 1) body)
    length-loops fr scope k l _ = refl

    length-all_loops : (fr : Frame) (scope : List Span) (k l : ℕ) (n : _) (r : Row_of-Stmt n) → length (all_loops p depth bodies inner fr scope k l r) ≡ all_loops_in sizes r
    length-all_loops fr scope k l n end_of-Stmt = refl
    length-all_loops fr scope k l n (more_of-Stmt s rest) =
        both _ _ (loops_in sizes s) (all_loops_in sizes rest) (length-loops fr scope k l s)
        (length-all_loops fr (scope ++ spans_of p fr s) (k + cells_in p (counts.body_cells p depth) s) (l + loops_in (body_loops p depth) s) _ rest)

    length-group_loops : (fr : Frame) (scope : List Span) (k l : ℕ) (n : _) (r : Row_of-Group n) → length (group_loops p depth bodies inner fr scope k l r) ≡ group_loops_in sizes r
    length-group_loops fr scope k l n end_of-Group = refl
    length-group_loops fr scope k l n (more_of-Group labels m (more_of-Stmt body end_of-Stmt) rest) =
        both _ _ (loops_in sizes body) (group_loops_in sizes rest) (length-loops fr scope k l body)
        (length-group_loops fr scope (k + cells_in p (counts.body_cells p depth) body) (l + loops_in (body_loops p depth) body) _ rest)

pub length-infos : (p : Program) (depth f : ℕ) (fr : Frame) (k l : ℕ) → length (body_infos p depth f fr k l) ≡ body_loops p depth f
unfolding body_infos body_loops
length-infos p zero f fr k l = refl
length-infos p (suc depth) f fr k l =
    length-loops p depth (body_nodes p depth) (body_infos p depth) (body_loops p depth) (length-infos p depth) fr (param_spans p fr (params_of (slice_get p.funcs f))) k l (block_of (slice_get p.funcs f))

-- ---- the lowered program
pub lengths-are-counts : LengthsAreCounts
unfolding lowered_program program_loops
lengths-are-counts p = (length-program p, length-infos p (length p.funcs) p.entry (main_frame p) (behind_main p) 0)
