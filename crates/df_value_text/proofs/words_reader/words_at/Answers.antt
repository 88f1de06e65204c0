use Rattle.std.proofs.Common.{drop}
use Rattle.df_value_text.proofs.WordsLaws.{chars_utf8}
use Rattle.df_value_text.proofs.words_reader.words_at.Goals as goal

pub from_utf8_unchecked-text-requires : goal.from_utf8_unchecked-text-requires
from_utf8_unchecked-text-requires c =
    chars_utf8 (drop c.in_ok-start.start c.args.bytes.now) c.in_ok-text.text.items (drop c.in_ok-text.quote c.args.bytes.now) c.in_ok-text.ensures.exact.1
