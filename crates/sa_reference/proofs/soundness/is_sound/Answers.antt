use Rattle.sa_reference.proofs.SoundLaws.{sound, short}
use Rattle.sa_reference.proofs.soundness.is_sound.Goals as goal

pub returns-clause-sound : goal.returns-clause-sound
returns-clause-sound c = sound

pub returns-clause-short : goal.returns-clause-short
returns-clause-short c = short
