use Rattle.df_records.proofs.Fields.{field_is_there}
use Rattle.csv.specs.Records.{fields_of}
use Rattle.df_records.proofs.spelled.field.Goals as goal

pub unreachable-requires : goal.unreachable-requires
unreachable-requires c = field_is_there (fields_of c.args.row.now) c.args.i c.requires c.in-None.ensures.value
