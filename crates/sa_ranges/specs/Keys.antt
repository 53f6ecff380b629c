-- The members of an object that may be there.
use Rattle.std.specs.Prelude.{Option, Some, None, String}
use Rattle.std.specs.BTreeMap.{BTreeMap}
use Rattle.std.specs.declared.alloc.Global.{Global}
use denote.Ref.{Bor}
use Rattle.serde_json.specs.Data.{Members, no_members}
use Rattle.serde_json.specs.View.{members_view}
use Rattle.serde_json.specs.declared.value.Value.{Value}

abbrev pub members_in : Option (Bor (BTreeMap (String Global) Value)) → Members
members_in None = no_members
members_in (Some m) = members_view m.now.entries
