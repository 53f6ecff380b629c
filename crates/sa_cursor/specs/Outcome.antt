-- No promise of the top calls rests on this page: it is for laws beside them, for proofs and for inner functions.
-- What a function of the parser ensures: the reader's answer, unless memory lacks.
use Rattle.std.specs.Prelude.{◌≡◌, ◌≢◌, Result, Ok, Err, List}
use Rattle.sa_tokens.specs.declared.token.Token.{Token}
use Rattle.sa_syntax.specs.Reading.{Read, Got, Stuck, Deep}
use Rattle.sa_cursor.specs.declared.fault.Stop.{Stop}
use Rattle.sa_cursor.specs.declared.fault.Stop.TheVariants.{Syntax, TooDeep, OutOfMemory}

-- the reader's answer for such a stop
abbrev pub stopped : {A : Type 0} → Stop → List Token → Read A
stopped Syntax ts = Stuck ts
stopped TooDeep ts = Deep ts
stopped OutOfMemory ts = Stuck ts

abbrev pub Reads : {A : Type 0} → Read A → Result A Stop → List Token → Type 0
Reads outcome (Ok a) new = outcome ≡ Got a new
Reads outcome (Err e) new = e ≢ OutOfMemory → outcome ≡ stopped e new
