use Rattle.df_records.proofs.Fields.{symbol_is_text}
use Rattle.df_records.proofs.spelled.symbol.Goals as goal

pub unreachable-requires : goal.unreachable-requires
unreachable-requires c = c.in-Err.ensures.cases.0 (symbol_is_text c.args.bytes.now c.requires)
