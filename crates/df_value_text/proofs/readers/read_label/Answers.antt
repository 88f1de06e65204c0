use Rattle.df_value_text.proofs.Names.{[], drop, label_at}
use Rattle.df_value_text.proofs.LabelLaws.{label_format}
use Rattle.df_value_text.proofs.Answering.{found_by, only_by, names_either, names_low}
use Rattle.df_value_text.proofs.OrderLaws.{label_low}
use Rattle.df_value_text.proofs.readers.read_label.Goals as goal

pub returns : goal.returns
returns c =
    let bytes = c.args.bytes.now in
    let r = c.label_at in
    record {
      found = rw c.told.ensures (found_by label_format bytes c.args.at r.result r.ensures);
      only = rw c.told.ensures (only_by label_format bytes c.args.at r.result r.ensures);
      syntax = rw c.told.ensures (names_either label_format bytes c.args.at (record { s = []; i = [] }) ((tt, tt), (tt, tt)) r.result r.ensures);
      order = λ rest low. rw c.told.ensures
          (names_low bytes r.result (label_at (drop c.args.at bytes)) rest r.ensures (label_low (drop c.args.at bytes) rest low));
    }
