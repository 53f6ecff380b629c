-- Alarms in lists: which are noted, and when one is among them.
use Rattle.std.specs.Prelude.{Bool, true, false, List, [], ◌≡◌, ◌∷◌, ◌⊎◌}
use Rattle.sa_base.specs.declared.alarm.Alarm.{Alarm}

-- what is noted of alarms: all of them in checking mode, none in iteration mode
unfoldable pub noted : Bool → List Alarm → List Alarm
noted true alarms = alarms
noted false alarms = []

abbrev pub IsAmong : {A : Type 0} → A → List A → Type 0
IsAmong a [] = ⊥
IsAmong a (b ∷ bs) = (a ≡ b) ⊎ IsAmong a bs
