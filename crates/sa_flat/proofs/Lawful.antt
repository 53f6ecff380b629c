-- What a domain owes, for the analysis over it to be sound: each operation holds of the points that it stands for, and keeps
-- the environments that lie under the top. Of widening nothing is asked but that.
use Rattle.std.proofs.Common.{◌≡◌, ℕ, ℤ, pos, ◌+ℤ◌, ◌≤ℤ◌, true, false, Option, Some, None}
use Rattle.std.specs.Prelude.{◌≢◌}
use Rattle.std.specs.Int.RustNames.{int_le}
use Rattle.sa_base.specs.declared.num.Num.{Num}
use Rattle.sa_interval.specs.Span.{Span, Within, IsPart}
use Rattle.sa_interval.specs.Rows.{single}
use Rattle.sa_operators.specs.Operators.{IsIn, range_of}
use Rattle.sa_env.specs.declared.form.Form.{Form}
use Rattle.sa_flat.specs.Domain.{Domain}
use Rattle.sa_flat.specs.Forms.{form_number}
use Rattle.sa_flat.specs.Meanings.{Cells}

-- dead, or P holds
abbrev pub IfAlive : {A : Type 0} → (A → Type 0) → Option A → Type 0
IfAlive P None = Unit {0}
IfAlive P (Some a) = P a

-- not dead, and P holds
abbrev pub AliveAnd : {A : Type 0} → (A → Type 0) → Option A → Type 0
AliveAnd P None = ⊥
AliveAnd P (Some a) = P a

-- the cells of a form are cells
abbrev pub IsForm : (ℕ → Type 0) → Form → Type 0
IsForm is_cell h = IfAlive (λ t. is_cell t.cell) h.first × IfAlive (λ t. is_cell t.cell) h.second

-- the clock may be anything, or is exactly so
pub data Frame : Type 0 where
  anywhere : Frame
  exactly : Span → Frame

pub record Lawful (x : Cells) (D : Domain) : Type 1 where
  pub IsCell : ℕ → Type 0
  -- what every operation keeps
  pub Under : Frame → D.Env → Type 0
  -- what all environments but the iterates 4 to 30 are besides
  pub Closed : D.Env → Type 0
  -- ---- under the top
  pub own : (f : Frame) (a : D.Env) → Under f a → Under (exactly (D.clock a)) a
  pub cell_in : (f : Frame) (c : ℕ) (a : D.Env) → IsCell c → Under f a → IsIn (x.num c) (D.cell c a)
  pub clock_ordered : (f : Frame) (a : D.Env) → Under f a → (D.clock a).lo ≤ℤ (D.clock a).hi
  pub clock_part : (f : Frame) (a : D.Env) → Under f a → IsPart (D.clock a) x.clocks
  pub within_in : (f : Frame) (h : Form) (num : Num) (s : Span) (a : D.Env) → Under f a → Closed a → IsIn num s → IfAlive (λ s. IsIn num s) (D.within h s a)
  pub assign_keeps : (f : Frame) (c : ℕ) (s : Span) (h : Option Form) (a : D.Env) → IsCell c → IsIn (x.num c) s → Under f a → Closed a → IfAlive (λ e. Under f e × Closed e) (D.assign c s h a)
  pub impose_keeps : (f : Frame) (h : Form) (k : ℤ) (a : D.Env) → Under f a → Closed a → IfAlive (λ e. Under f e × Closed e) (D.impose h k a)
  pub tick_keeps : (a : D.Env) → Under anywhere a → Closed a → IfAlive (λ e. Under anywhere e × Closed e) (D.tick a)
  pub reduce_keeps : (f : Frame) (a : D.Env) → Under f a → IfAlive (λ e. Under f e × Closed e) (D.reduce x.all a)
  pub merge_keeps : (f : Frame) (a b : D.Env) → Under f a → Closed a → Under f b → Closed b → Under f (D.merge a b) × Closed (D.merge a b)
  pub widen_keeps : (f : Frame) (p : ℕ) (a b : D.Env) → Under f a → Under f b → Under f (D.widen p a b)
  pub peak_keeps : (f : Frame) (a : D.Env) → Under f a → Under f (D.top (D.clock a)) × Closed (D.top (D.clock a))
  pub top_keeps : Under anywhere (D.top x.clocks) × Closed (D.top x.clocks)
  pub start_keeps : Under anywhere (D.top (single (pos 0))) × Closed (D.top (single (pos 0)))
  pub below_top : (a : D.Env) → Under anywhere a → D.le a (D.top x.clocks) ≡ true
  pub below_peak : (s a : D.Env) → Under (exactly (D.clock s)) a → D.le a (D.top (D.clock s)) ≡ true
  -- ---- points
  pub cell_sound : (f : Frame) (c : ℕ) (a : D.Env) (at : ℕ → ℤ) (time : ℤ) → IsCell c → Under f a → D.Point a at time → Within (D.cell c a) (at c)
  pub clock_sound : (a : D.Env) (at : ℕ → ℤ) (time : ℤ) → D.Point a at time → Within (D.clock a) time
  pub within_sound : (f : Frame) (h : Form) (s : Span) (a : D.Env) (at : ℕ → ℤ) (time : ℤ) → IsForm IsCell h → Under f a → Closed a → D.Point a at time → Within s (form_number h at) →
      AliveAnd (λ s. Within s (form_number h at)) (D.within h s a)
  -- the numbers `bt` are those before but at the cell
  pub assign_sound : (f : Frame) (c : ℕ) (s : Span) (h : Option Form) (a : D.Env) (at bt : ℕ → ℤ) (time : ℤ) → IsCell c → Under f a → Closed a → D.Point a at time →
      ((d : ℕ) → d ≢ c → bt d ≡ at d) → Within s (bt c) → IfAlive (λ h. IsForm IsCell h × (form_number h at ≡ bt c)) h → AliveAnd (λ e. D.Point e bt time) (D.assign c s h a)
  pub impose_sound : (f : Frame) (h : Form) (k : ℤ) (a : D.Env) (at : ℕ → ℤ) (time : ℤ) → IsForm IsCell h → Under f a → Closed a → D.Point a at time → form_number h at ≤ℤ k →
      AliveAnd (λ e. D.Point e at time) (D.impose h k a)
  pub tick_sound : (a : D.Env) (at : ℕ → ℤ) (time : ℤ) → Under anywhere a → Closed a → D.Point a at time → int_le x.clocks.hi time ≡ false →
      AliveAnd (λ e. D.Point e at (time +ℤ pos 1)) (D.tick a)
  pub reduce_sound : (f : Frame) (a : D.Env) (at : ℕ → ℤ) (time : ℤ) → Under f a → D.Point a at time → AliveAnd (λ e. D.Point e at time) (D.reduce x.all a)
  pub le_sound : (f : Frame) (a b : D.Env) (at : ℕ → ℤ) (time : ℤ) → Under f a → Under f b → D.le a b ≡ true → D.Point a at time → D.Point b at time
  pub merge_left : (f : Frame) (a b : D.Env) (at : ℕ → ℤ) (time : ℤ) → Under f a → Under f b → D.Point a at time → D.Point (D.merge a b) at time
  pub merge_right : (f : Frame) (a b : D.Env) (at : ℕ → ℤ) (time : ℤ) → Under f a → Under f b → D.Point b at time → D.Point (D.merge a b) at time
  pub start_sound : (at : ℕ → ℤ) → ((c : ℕ) → IsCell c → Within (range_of (x.num c)) (at c)) → D.Point (D.top (single (pos 0))) at (pos 0)
