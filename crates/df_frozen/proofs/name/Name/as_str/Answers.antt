use Rattle.std.proofs.Common.{sym, subst}
use Rattle.std.specs.Str.{IsUtf8}
use Rattle.df_frozen.specs.code.NameBytes.{IsUtf8-name}
use Rattle.df_frozen.proofs.name.Name.as_str.Goals as goal

pub from_utf8_unchecked-requires : goal.from_utf8_unchecked-requires
from_utf8_unchecked-requires c = subst IsUtf8 (sym c.as_bytes.ensures.value) (IsUtf8-name _ c.as_bytes.ensures.name)
