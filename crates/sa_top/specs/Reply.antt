-- No promise of the top calls rests on this page: it is for laws beside them, for proofs and for inner functions.
-- A reply to the words: its status and its text are those of the answer, for some content of the named file.
use Rattle.std.specs.Prelude.{ℕ, ◌≡◌, ◌≢◌, List, Option, Some, None, Result, Ok, Err, IfOk}
use Rattle.sa_base.specs.declared.status.Status.TheVariants as s
use Rattle.sa_base.specs.declared.status.Status.{Status}
use Rattle.sa_outside.specs.Files.{Files}
use Rattle.sa_top.specs.declared.reply.Reply.{Reply}
use Rattle.sa_top.specs.declared.reply.Silent.{Silent}
use Rattle.sa_top.specs.declared.reply.Silent.TheVariants.{NoMemory}
use Rattle.sa_top.specs.Answer.{Fits, named_answer}
use Rattle.sa_top.specs.Top.{IsTold}

pub record IsAnswered (files : Option Files) (name : Option (List ℕ)) (status : Status) (text : List ℕ) : Type 0 where
  pub content : Option (List ℕ)
  pub told : IsTold files name content
  pub fits : Fits (named_answer name content) status text

-- no reply says nothing of the answer
abbrev pub Replies : Option Files → Option (List ℕ) → Result Reply Silent → Type 0
Replies files name (Ok r) = IsAnswered files name r.status r.text.items
Replies files name (Err e) = Unit {0}

-- where the words are refused, the reply is the usage line whatever the shelf holds
abbrev pub RepliesUsage : Option (List ℕ) → Result Reply Silent → Type 0
RepliesUsage (Some name) r = IfOk r (λ reply. reply.status ≢ s.Usage)
RepliesUsage None (Ok r) = r.status ≡ s.Usage
RepliesUsage None (Err e) = e ≡ NoMemory
