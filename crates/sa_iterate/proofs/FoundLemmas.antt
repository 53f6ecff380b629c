-- What is found, part after part, and what is kept of it.
use Rattle.std.proofs.Common.{◌≡◌, Bool, true, false, List, [], ◌∷◌, ◌++◌, refl, sym, ap, ap₂, ◌∙◌, Some, append_assoc, append-nil, map}
use Rattle.std.proofs.lemmas.List.{map-append}
use Rattle.sa_base.specs.declared.alarm.Alarm.{Alarm}
use Rattle.sa_base.specs.declared.pos.Pos.{Pos}
use Rattle.sa_typed.specs.declared.program.Program.{Program}
use Rattle.sa_typed.specs.declared.stmt.Stmt.{Stmt}
use Rattle.sa_reference.specs.declared.flat.Flat.{Flat}
use Rattle.sa_reference.specs.Passes.{Facts}
use Rattle.sa_operators.specs.Alarms.{noted}
use Rattle.sa_reference.specs.Steps.{Record, Found, nothing, only, both, recorded, loop_found}
use Rattle.sa_iterate.specs.declared.passes.LoopFacts.{LoopFacts}
use Rattle.sa_iterate.specs.Analysis.{record_of}
use Rattle.sa_iterate.specs.Straight.{domain, stmt_found, kept, facts_from, main_loop, clock_found}

pub both-nothing : (f : Found Flat) → both f nothing ≡ f
both-nothing f = ap₂ (λ (a : List Alarm) (r : List (Record Flat)). record { alarms = a; records = r }) (append-nil f.alarms) (append-nil f.records)

pub both-assoc : (f g h : Found Flat) → both (both f g) h ≡ both f (both g h)
both-assoc f g h =
    ap₂ (λ (a : List Alarm) (r : List (Record Flat)). record { alarms = a; records = r }) (append_assoc f.alarms g.alarms h.alarms) (append_assoc f.records g.records h.records)

pub kept-both : (b : Bool) (f g : Found Flat) → kept b (both f g) ≡ both (kept b f) (kept b g)
unfolding kept
kept-both true f g = refl
kept-both false f g = refl

pub kept-nothing : (b : Bool) → kept b nothing ≡ nothing
unfolding kept
kept-nothing true = refl
kept-nothing false = refl

pub kept-all : (b : Bool) (f : Found Flat) → b ≡ true → kept b f ≡ f
unfolding kept
kept-all b f e = ap (λ (b : Bool). kept b f) e

pub both-none : (b : Bool) (f g : Found Flat) → b ≡ false → f ≡ both f (kept b g)
unfolding kept
both-none b f g e = sym (ap (λ (b : Bool). both f (kept b g)) e ∙ both-nothing f)

-- alarms alone
pub alarms-kept : (b : Bool) (f : Found Flat) (more all : List Alarm) → all ≡ f.alarms ++ noted b more → record { alarms = all; records = f.records } ≡ both f (kept b (only more))
unfolding kept noted
alarms-kept true f more all e = ap₂ (λ (a : List Alarm) (r : List (Record Flat)). record { alarms = a; records = r }) e (sym (append-nil f.records))
alarms-kept false f more all e = ap₂ (λ (a : List Alarm) (r : List (Record Flat)). record { alarms = a; records = r }) e (sym (append-nil f.records))

-- one record more
pub record-added : (alarms : List Alarm) (old new : List LoopFacts) (f : LoopFacts) → new ≡ old ++ f ∷ [] →
    record { alarms = alarms; records = map record_of new } ≡ both (record { alarms = alarms; records = map record_of old }) (record { alarms = []; records = record_of f ∷ [] })
record-added alarms old new f e =
    ap₂ (λ (a : List Alarm) (r : List (Record Flat)). record { alarms = a; records = r }) (sym (append-nil alarms)) (ap (map record_of) e ∙ map-append record_of old (f ∷ []))

-- a clock loop: its record, and what is found in one more turn from the stable state
pub loop-checked : (p : Program) (q : Pos) (body : Stmt) (e env : Flat) (f : LoopFacts) (old with_record new : Found Flat) →
    facts_from p body e ≡ record { passes = f.passes; state = Some f.state } → f.place ≡ q → env ≡ f.state →
    with_record ≡ both old (record { alarms = []; records = record_of f ∷ [] }) → new ≡ both with_record (kept true (stmt_found p body env)) →
    new ≡ both old (clock_found p q body e)
unfolding record_of main_loop clock_found kept
loop-checked p q body e env f old with_record new facts at same added is =
    let here : Found Flat = record { alarms = []; records = record_of f ∷ [] } in
    let sees = stmt_found p body f.state in
    is ∙ ap (λ (s : Flat). both with_record (stmt_found p body s)) same ∙ ap (λ (w : Found Flat). both w sees) added ∙ both-assoc old here sees
    ∙ ap (λ (q : Pos). both old (both (recorded (main_loop q) f.passes f.state) sees)) at
    ∙ ap (λ (x : Facts Flat). both old (loop_found (domain p) (main_loop q) (λ r. stmt_found p body r) x)) (sym facts)
