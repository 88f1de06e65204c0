use Rattle.std.proofs.Common.{◌≡◌, length, rules}
use Rattle.csv.specs.Records.{fields_of}
use Rattle.df_auction.proofs.Fields.{six_is}
use Rattle.df_auction.proofs.record.six_fields.Goals as goal

pub returns : goal.returns
returns c =
    let six : length (fields_of c.args.row.now) ≡ 6 = search rules in
    six_is (fields_of c.args.row.now) _ _ _ _ _ _ six c.field.ensures c.field-2.ensures c.field-3.ensures c.field-4.ensures c.field-5.ensures c.field-6.ensures
