-- The cells of a program: what an analysis keeps one value for, and what a report names. An array of at most 128 elements has
-- cells for each, a larger one has cells for all of them together, which are starred: this project's own choice.
use Rattle.std.specs.Prelude.{ℕ, zero, suc, ◌+◌, ◌==◌, List, [], ◌∷◌, ◌++◌, length, Bool, true, false, ◌&&◌, ◌||◌, if◌then◌else◌, nat_le, nat_lt, slice_get, Option, Some, None}
use Rattle.sa_base.specs.declared.num.Num.{Num}
use Rattle.sa_base.specs.declared.pos.Pos.{Pos}
use Rattle.sa_typed.specs.Layouts.{Layout, Layouts, leaf, row, fields, no_field, field, layout_of}
use Rattle.sa_typed.specs.declared.shape.Part.{Part}
use Rattle.sa_typed.specs.declared.shape.Part.TheVariants.{At, Field}
use Rattle.sa_typed.specs.declared.program.Home.{Home}
use Rattle.sa_typed.specs.declared.program.Home.TheVariants as home
use Rattle.sa_typed.specs.declared.program.Place.{Place}
use Rattle.sa_typed.specs.declared.program.Func.{Func}
use Rattle.sa_typed.specs.declared.program.Var.{Var}
use Rattle.sa_typed.specs.declared.program.Program.{Program}

-- a step into a cell: one element, all elements of an array of so many, or a field
pub data Step : Type 0 where
  one : ℕ → Step
  all : ℕ → Step
  of : ℕ → Step

-- a cell of a variable, with the type of its numbers
pub record Cell : Type 0 where
  pub var : ℕ
  pub steps : List Step
  pub num : Num

-- within an object: the steps and the type of each cell, in order
pub record Inner : Type 0 where
  pub steps : List Step
  pub num : Num

abbrev pub behind : Step → Inner → Inner
behind s c = record { steps = s ∷ c.steps; num = c.num }

unfoldable pub all_behind : Step → List Inner → List Inner
all_behind s [] = []
all_behind s (c ∷ cs) = behind s c ∷ all_behind s cs

-- the cells of the elements with numbers from k on, n of them
unfoldable pub each_behind : ℕ → ℕ → List Inner → List Inner
each_behind zero k cs = []
each_behind (suc n) k cs = all_behind (one k) cs ++ each_behind n (k + 1) cs

-- the greatest dimension with a cell for each element
abbrev pub most_elements : ℕ
most_elements = 128

unfoldable mutual
  pub inner_cells : Layout → List Inner
  inner_cells (leaf num) = record { steps = []; num = num } ∷ []
  inner_cells (row n l) = if nat_le n most_elements then each_behind n 0 (inner_cells l) else all_behind (all n) (inner_cells l)
  inner_cells (fields ls) = field_cells 0 ls

  -- the cells of fields, of which the first has this number
  pub field_cells : ℕ → Layouts → List Inner
  field_cells k no_field = []
  field_cells k (field x l ls) = all_behind (of k) (inner_cells l) ++ field_cells (k + 1) ls

abbrev pub cell_of : ℕ → Inner → Cell
cell_of v c = record { var = v; steps = c.steps; num = c.num }

unfoldable pub cells_of : ℕ → List Inner → List Cell
cells_of v [] = []
cells_of v (c ∷ cs) = cell_of v c ∷ cells_of v cs

-- ---- of a program: globals, then static locals, then locals, each in the order of their declarations
abbrev pub is_global : Home → Bool
is_global home.Global = true
is_global home.Static = false
is_global (home.Local f) = false

abbrev pub is_static : Home → Bool
is_static home.Global = false
is_static home.Static = true
is_static (home.Local f) = false

abbrev pub is_local : Home → Bool
is_local home.Global = false
is_local home.Static = false
is_local (home.Local f) = true

-- of the variables with numbers from k on whose home is of this sort
unfoldable pub cells_at : Program → (Home → Bool) → ℕ → List Var → List Cell
cells_at p sort k [] = []
cells_at p sort k (v ∷ vs) = if sort v.home then cells_of k (inner_cells (layout_of p k)) ++ cells_at p sort (k + 1) vs else cells_at p sort (k + 1) vs

unfoldable pub cells : Program → List Cell
cells p = cells_at p is_global 0 p.vars ++ (cells_at p is_static 0 p.vars ++ cells_at p is_local 0 p.vars)

-- the result of main has a cell that is never shown
abbrev pub hidden_of : Option Func → ℕ
hidden_of None = 0
hidden_of (Some f) = elim f.result as (λ _. ℕ) [ None ↦ 0 | Some num ↦ 1 ]

-- how many cells count for the limit
abbrev pub cell_count : Program → ℕ
cell_count p = length (cells p) + hidden_of (slice_get p.funcs p.entry)

-- ---- which elements a cell stands for
abbrev pub covers_step : Step → Part → Bool
covers_step (one k) (At i) = k == i
covers_step (all n) (At i) = nat_lt i n
covers_step (of k) (Field f) = k == f
covers_step _ _ = false

unfoldable pub covers : List Step → List Part → Bool
covers [] [] = true
covers [] (q ∷ qs) = false
covers (s ∷ ss) [] = false
covers (s ∷ ss) (q ∷ qs) = covers_step s q && covers ss qs

abbrev pub is_root : List Pos → Bool
is_root [] = true
is_root (c ∷ cs) = false

abbrev pub names : Cell → Place → Bool
names c a = is_root a.path && (c.var == a.var && covers c.steps a.parts)

-- several elements together
abbrev pub is_all : Step → Bool
is_all (one k) = false
is_all (all n) = true
is_all (of k) = false

unfoldable pub is_starred : List Step → Bool
is_starred [] = false
is_starred (s ∷ ss) = is_all s || is_starred ss
