use Rattle.std.proofs.Common.{rules}
use Rattle.sa_top.proofs.AnswerLaws.{reads-same, one_answer}
use Rattle.sa_top.proofs.CompleteLaws.{completes}
use Rattle.sa_top.proofs.SoundLaws as laws
use Rattle.sa_top.proofs.OutputLemmas.{unread-answers, starved-answers}
use Rattle.sa_top.proofs.top.run_alone.Goals as goal

pub returns-in-Err-Unread-clause-answer : goal.returns-in-Err-Unread-clause-answer
returns-in-Err-Unread-clause-answer g c = unread-answers _ _ _

pub returns-in-Err-NoMemory-clause-answer : goal.returns-in-Err-NoMemory-clause-answer
returns-in-Err-NoMemory-clause-answer g c = starved-answers _ _ _

pub returns-in-Ok-clause-sound : goal.returns-in-Ok-clause-sound
returns-in-Ok-clause-sound g c = laws.sound

pub returns-in-Ok-clause-short : goal.returns-in-Ok-clause-short
returns-in-Ok-clause-short g c = laws.short

pub returns-in-Err-Unread-clause-sound : goal.returns-in-Err-Unread-clause-sound
returns-in-Err-Unread-clause-sound g c = laws.sound

pub returns-in-Err-Unread-clause-short : goal.returns-in-Err-Unread-clause-short
returns-in-Err-Unread-clause-short g c = laws.short

pub returns-in-Err-NoMemory-clause-sound : goal.returns-in-Err-NoMemory-clause-sound
returns-in-Err-NoMemory-clause-sound g c = laws.sound

pub returns-in-Err-NoMemory-clause-short : goal.returns-in-Err-NoMemory-clause-short
returns-in-Err-NoMemory-clause-short g c = laws.short

pub returns-in-Ok-clause-read_once : goal.returns-in-Ok-clause-read_once
returns-in-Ok-clause-read_once g c = reads-same

pub returns-in-Ok-clause-answered_once : goal.returns-in-Ok-clause-answered_once
returns-in-Ok-clause-answered_once g c = one_answer

pub returns-in-Err-Unread-clause-read_once : goal.returns-in-Err-Unread-clause-read_once
returns-in-Err-Unread-clause-read_once g c = reads-same

pub returns-in-Err-Unread-clause-answered_once : goal.returns-in-Err-Unread-clause-answered_once
returns-in-Err-Unread-clause-answered_once g c = one_answer

pub returns-in-Err-NoMemory-clause-read_once : goal.returns-in-Err-NoMemory-clause-read_once
returns-in-Err-NoMemory-clause-read_once g c = reads-same

pub returns-in-Err-NoMemory-clause-answered_once : goal.returns-in-Err-NoMemory-clause-answered_once
returns-in-Err-NoMemory-clause-answered_once g c = one_answer

pub returns-in-Ok-clause-complete : goal.returns-in-Ok-clause-complete
returns-in-Ok-clause-complete g c = completes _ _ _ _ _ _ _ _ (search rules) (search rules) (search rules)
