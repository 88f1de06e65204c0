use Rattle.std.proofs.Common.{◌≡◌, length, rules}
use Rattle.csv.specs.Records.{fields_of}
use Rattle.df_ticks.proofs.Fields.{two_is}
use Rattle.df_ticks.proofs.record.two_fields.Goals as goal

pub returns : goal.returns
returns c =
    let two : length (fields_of c.args.row.now) ≡ 2 = search rules in
    two_is (fields_of c.args.row.now) _ _ two c.field.ensures c.field-2.ensures
