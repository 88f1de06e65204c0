use Rattle.df_value_text.proofs.Names.{sym, ◌∙◌, one_at, escape_at, is_plain, kept}
use Rattle.df_value_text.proofs.Loops.{either_behind}
use Rattle.df_value_text.proofs.char_reader.ascii_at.Goals as goal

pub returns-then-byte_stands-clause-exact : goal.returns-then-byte_stands-clause-exact
returns-then-byte_stands-clause-exact c = rw (either_behind 92 escape_at (one_at (kept is_plain)) c.args.bytes.now c.args.at
    (sym c.byte_stands.ensures ∙ c.if-byte_stands.true)) c.escape_at.ensures.exact
