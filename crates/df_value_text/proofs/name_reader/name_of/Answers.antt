use Rattle.df_frozen.specs.code.NameBytes.{IsUtf8-name}
use Rattle.df_value_text.proofs.name_reader.name_of.Goals as goal

pub from_utf8_unchecked-requires : goal.from_utf8_unchecked-requires
from_utf8_unchecked-requires c = IsUtf8-name c.args.text.now c.requires
