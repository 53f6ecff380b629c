-- Which calls lead back to the function that they stand in, by however many others (this project's own choice; C lets functions
-- call themselves, ISO C 6.5.2.2p11).
use Rattle.std.specs.Prelude.{ℕ, ◌≡◌, ◌<◌, ◌⊎◌, ◌==◌, ◌&&◌, ◌||◌, not, nat_lt, Bool, true, false, List, [], ◌∷◌, ◌++◌, length, set, get_or, slice_get, if◌then◌else◌, Option, Some, None}
use Rattle.sa_base.specs.declared.pos.Pos.{Pos}
use Rattle.sa_typed.specs.TypedPrograms.{Site, calls_in, AreRanked}
use Rattle.sa_typed.specs.declared.program.Func.{Func}
use Rattle.sa_typed.specs.declared.program.Program.{Program}
use Rattle.sa_typed.specs.declared.stmt.Group.{Group}
use Rattle.sa_typed.specs.declared.stmt.Stmt.{Stmt}
use Rattle.sa_typed.specs.declared.stmt.Stmt.TheVariants as stmt
use Rattle.sa_calls.specs.declared.graph.Call.{Call}

unfoldable pub as_calls : List Site → List Call
as_calls [] = []
as_calls (s ∷ sites) = record { pos = s.pos; func = s.func } ∷ as_calls sites

-- the calls of these statements, in the order of the text
unfoldable pub calls_of_stmts : List Stmt → List Call
calls_of_stmts [] = []
calls_of_stmts (s ∷ ss) = as_calls (calls_in s) ++ calls_of_stmts ss

unfoldable pub calls_of_groups : List Group → List Call
calls_of_groups [] = []
calls_of_groups (g ∷ gs) = as_calls (calls_in g.body) ++ calls_of_groups gs

-- the calls of each function, by its number
unfoldable pub graph_of : List Func → List (List Call)
graph_of [] = []
graph_of (f ∷ fs) = as_calls (calls_in (stmt.Block f.body)) ∷ graph_of fs

unfoldable pub calls_at : List (List Call) → ℕ → List Call
calls_at graph f = get_or graph f []

-- a function leads to h: it is h, or a call of it does
pub data Leads (graph : List (List Call)) (h : ℕ) : ℕ → Type 0 where
  arrived : Leads graph h h
  goes_on : {g : ℕ} (i : ℕ) (c : Call) → slice_get (calls_at graph g) i ≡ Some c → Leads graph h c.func → Leads graph h g

-- a call of the function f that leads back to it
pub record IsBack (graph : List (List Call)) (f : ℕ) (c : Call) : Type 0 where
  pub number : ℕ
  pub stands : slice_get (calls_at graph f) number ≡ Some c
  pub back : Leads graph f c.func

-- the order of the text
abbrev pub is_before : Pos → Pos → Bool
is_before a b = nat_lt a.line b.line || (a.line == b.line && nat_lt a.col b.col)

-- that there is none, or the place of the first one
abbrev pub IsFirstBack : List (List Call) → Option Pos → Type 0
IsFirstBack graph None = (f : ℕ) (c : Call) → IsBack graph f c → ⊥
IsFirstBack graph (Some q) = ((f : ℕ) × (c : Call) × IsBack graph f c × (c.pos ≡ q)) × ((f : ℕ) (c : Call) → IsBack graph f c → is_before c.pos q ≡ false)

abbrev pub is_earlier : Pos → Option Pos → Bool
is_earlier p None = true
is_earlier p (Some q) = is_before p q

-- it is the place of a call that leads back, and no call does that was looked at (told by its function and its number in it) and
-- stands before
pub record IsFirstAmong (graph : List (List Call)) (P : ℕ → ℕ → Type 0) (best : Option Pos) : Type 0 where
  pub stands : (q : Pos) → best ≡ Some q → (f : ℕ) × (c : Call) × IsBack graph f c × (c.pos ≡ q)
  pub least : (f i : ℕ) (c : Call) → P f i → slice_get (calls_at graph f) i ≡ Some c → Leads graph f c.func → is_earlier c.pos best ≡ false

-- the calls of the first functions, and of the next one the first calls
abbrev pub IsSeen : ℕ → ℕ → ℕ → ℕ → Type 0
IsSeen n m f i = (f < n) ⊎ ((f ≡ n) × (i < m))

-- ---- functions that were met, marked and in their order
abbrev pub is_new : List Bool → ℕ → Bool
is_new marks f = nat_lt f (length marks) && not (get_or marks f false)

unfoldable pub marks_after : ℕ → List Bool → List Bool
marks_after f marks = if is_new marks f then set marks f true else marks

unfoldable pub order_after : ℕ → List Bool → List ℕ → List ℕ
order_after f marks order = if is_new marks f then order ++ f ∷ [] else order

unfoldable pub marks_all : List Call → List Bool → List Bool
marks_all [] marks = marks
marks_all (c ∷ cs) marks = marks_all cs (marks_after c.func marks)

unfoldable pub order_all : List Call → List Bool → List ℕ → List ℕ
order_all [] marks order = order
order_all (c ∷ cs) marks order = order_all cs (marks_after c.func marks) (order_after c.func marks order)

-- ---- ranks
-- each call is of a function that there is
abbrev pub AreKnown : List (List Call) → Type 0
AreKnown graph = (f i : ℕ) (c : Call) → slice_get (calls_at graph f) i ≡ Some c → c.func < length graph

-- where no call leads back, each function has a rank above those of the functions that it calls
abbrev pub RanksAreThere : Type 0
RanksAreThere = (p : Program) → AreKnown (graph_of p.funcs) → IsFirstBack (graph_of p.funcs) None → (rank : ℕ → ℕ) × AreRanked p rank

-- and where functions are so ranked, none does
abbrev pub RankedLeadsNowhereBack : Type 0
RankedLeadsNowhereBack = (p : Program) (rank : ℕ → ℕ) → AreRanked p rank → IsFirstBack (graph_of p.funcs) None
