use Rattle.sa_tokens.proofs.ReadingLemmas.{each_is_read_once, each_has_one_answer}
use Rattle.sa_tokens.proofs.laws.reads_once.Goals as goal

pub returns : goal.returns
returns c = record { once = each_is_read_once; answer = each_has_one_answer }
