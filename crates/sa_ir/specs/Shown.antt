-- No promise of the top calls rests on this page: it is for laws beside them, for proofs and for inner functions.
-- What a report shows of loops: the cells of variables that are in scope at the loop and that occur in its condition, step or body,
-- calls included, each once and rising. In scope are the globals that are declared before the loop's word, and the parameters,
-- locals and static locals of the loop's own call that are declared before it in a block around it (ISO C 6.2.1p4). This project's
-- own choice.
use Rattle.std.specs.Prelude.{ℕ, zero, suc, ◌+◌, ◌==◌, List, [], ◌∷◌, ◌++◌, filter, replicate, Bool, false, ◌&&◌, ◌||◌, nat_le, nat_lt, if◌then◌else◌, slice_get, Option, Some, None, option_map}
use Rattle.std.specs.Ordering.{nat_cmp}
use Rattle.std.specs.BTreeSet.{insert_key}
use Rattle.sa_base.specs.declared.pos.Pos.{Pos}
use Rattle.sa_typed.specs.Executions.{params_of, block_of}
use Rattle.sa_typed.specs.Frames.{size, has_cells, frame_cells, cells_in, loops_in, body_cells, body_loops}
use Rattle.sa_typed.specs.Layouts.{layout_of}
use Rattle.sa_typed.specs.declared.program.Home.TheVariants as home
use Rattle.sa_typed.specs.declared.program.Param.{Param}
use Rattle.sa_typed.specs.declared.program.Var.{Var}
use Rattle.sa_typed.specs.declared.program.Program.{Program}
use Rattle.sa_typed.specs.declared.stmt.Simple.{Simple}
use Rattle.sa_typed.specs.declared.stmt.Simple.TheVariants.{Declare}
use Rattle.sa_typed.specs.declared.stmt.Stmt.{Stmt, Row_of-Stmt, end_of-Stmt, more_of-Stmt, Row_of-Group, end_of-Group, more_of-Group}
use Rattle.sa_ir.specs.declared.frame.Span.{Span}
use Rattle.sa_ir.specs.declared.ir.LoopInfo.{LoopInfo}
use Rattle.sa_ir.specs.Names.{loop_text}
use Rattle.sa_ir.specs.Frames.{Frame}
use Rattle.sa_ir.specs.Places.{lowered}
use Rattle.sa_ir.specs.Nodes.{simple, as_block, Bodies, nodes, body_nodes, called_frame}
use Rattle.sa_ir.specs.Occurrences.{some_expr_cells, some_assign_cells, node_cells}

-- ---- globals
abbrev pub is_before : Pos → Pos → Bool
is_before a b = nat_lt a.line b.line || (a.line == b.line && nat_lt a.col b.col)

-- of each cell of a global where its variable is declared
unfoldable pub places_at : Program → ℕ → List Var → List Pos
places_at p k [] = []
places_at p k (x ∷ xs) = (if has_cells p home.Global k x then replicate (size (layout_of p k)) x.pos else []) ++ places_at p (k + 1) xs

abbrev pub global_places : Program → List Pos
global_places p = places_at p 0 p.vars

abbrev pub place_before : Pos → Option Pos → Bool
place_before q None = false
place_before q (Some at) = is_before at q

-- ---- scopes
unfoldable pub is_within : List Span → ℕ → Bool
is_within [] c = false
is_within (s ∷ scope) c = (nat_le s.first c && nat_lt c (s.first + s.cells)) || is_within scope c

unfoldable pub in_scope : Program → List Span → Pos → ℕ → Bool
in_scope p scope q c = place_before q (slice_get (global_places p) c) || is_within scope c

abbrev pub span_of : Program → Frame → ℕ → Span
span_of p fr v = record { first = (fr.base v).first; cells = size (layout_of p v) }

-- the parameters of a function that have cells of their own
unfoldable pub param_spans : Program → Frame → List Param → List Span
param_spans p fr [] = []
param_spans p fr (q ∷ qs) = if q.reference then param_spans p fr qs else span_of p fr q.var ∷ param_spans p fr qs

abbrev pub simple_spans : Program → Frame → Simple → List Span
simple_spans p fr (Declare v s) = span_of p fr v ∷ []
simple_spans p fr _ = []

-- what a statement brings into scope for those after it in its block
abbrev pub spans_of : Program → Frame → Stmt → List Span
spans_of p fr (Stmt.Simple s) = simple_spans p fr s
spans_of p fr (Stmt.Scope v) = span_of p fr v ∷ []
spans_of p fr _ = []

-- ---- the cells of a loop
unfoldable pub with_all : List ℕ → List ℕ → List ℕ
with_all sorted [] = sorted
with_all sorted (c ∷ cs) = with_all (insert_key nat_cmp sorted c) cs

-- each once, in their order
abbrev pub rising : List ℕ → List ℕ
rising cs = with_all [] cs

unfoldable pub shown : Program → List Span → Pos → List ℕ → List ℕ
shown p scope q cs = filter (in_scope p scope q) (rising cs)

-- the loops of a function's body, by its number, the call, and the numbers of the next cell and loop
abbrev pub Loops : Type 0
Loops = ℕ → Frame → ℕ → ℕ → List LoopInfo

unfoldable mutual
  pub loops : Program → ℕ → Bodies → Loops → Frame → List Span → ℕ → ℕ → Stmt → List LoopInfo
  loops p depth bodies inner fr scope k l (Stmt.Block' n all) = all_loops p depth bodies inner fr scope k l all
  loops p depth bodies inner fr scope k l (Stmt.Call q f args dest) = inner f (called_frame p fr k q f args) (k + frame_cells p f args) l
  loops p depth bodies inner fr scope k l (Stmt.If' c n (more_of-Stmt a end_of-Stmt) m (more_of-Stmt b end_of-Stmt) marked) =
      loops p depth bodies inner fr scope k l a
      ++ loops p depth bodies inner fr scope (k + cells_in p (body_cells p depth) a) (l + loops_in (body_loops p depth) a) b
  loops p depth bodies inner fr scope k l (Stmt.Switch' c num n groups marked) = group_loops p depth bodies inner fr scope k l groups
  loops p depth bodies inner fr scope k l (Stmt.Loop' q kind cond n (more_of-Stmt body end_of-Stmt) step) =
      record {
        name = loop_text fr.prefix q;
        shown = shown p scope q
            (some_expr_cells (option_map (lowered p fr) cond)
            ++ (node_cells (as_block body (nodes p depth bodies fr k (l + 1) body)) ++ some_assign_cells (option_map (simple p fr) step)));
      }
      ∷ loops p depth bodies inner fr scope k (l + 1) body
  loops p depth bodies inner fr scope k l _ = []

  pub all_loops : {n : _} → Program → ℕ → Bodies → Loops → Frame → List Span → ℕ → ℕ → Row_of-Stmt n → List LoopInfo
  all_loops p depth bodies inner fr scope k l end_of-Stmt = []
  all_loops p depth bodies inner fr scope k l (more_of-Stmt s rest) =
      loops p depth bodies inner fr scope k l s
      ++ all_loops p depth bodies inner fr (scope ++ spans_of p fr s) (k + cells_in p (body_cells p depth) s) (l + loops_in (body_loops p depth) s) rest

  pub group_loops : {n : _} → Program → ℕ → Bodies → Loops → Frame → List Span → ℕ → ℕ → Row_of-Group n → List LoopInfo
  group_loops p depth bodies inner fr scope k l end_of-Group = []
  group_loops p depth bodies inner fr scope k l (more_of-Group labels n (more_of-Stmt body end_of-Stmt) rest) =
      loops p depth bodies inner fr scope k l body
      ++ group_loops p depth bodies inner fr scope (k + cells_in p (body_cells p depth) body) (l + loops_in (body_loops p depth) body) rest

-- of the bodies of all functions, where calls inside calls go so deep
unfoldable pub body_infos : Program → ℕ → Loops
body_infos p zero f fr k l = []
body_infos p (suc depth) f fr k l =
    loops p depth (body_nodes p depth) (body_infos p depth) fr (param_spans p fr (params_of (slice_get p.funcs f))) k l (block_of (slice_get p.funcs f))
