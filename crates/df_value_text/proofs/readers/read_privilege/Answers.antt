use Rattle.df_value_text.proofs.Names.{[], ◌∷◌, arith, Plus}
use Rattle.df_value_text.proofs.LabelLaws.{privilege_format}
use Rattle.df_value_text.proofs.Answering.{found_by, only_by, names_bad}
use Rattle.df_value_text.proofs.readers.read_privilege.Goals as goal

pub returns : goal.returns
returns c =
    let r = c.privilege_at in
    record {
      found = rw c.told.ensures (found_by privilege_format c.args.bytes.now c.args.at r.result r.ensures);
      only = rw c.told.ensures (only_by privilege_format c.args.bytes.now c.args.at r.result r.ensures);
      syntax = rw c.told.ensures
          (names_bad privilege_format c.args.bytes.now c.args.at (λ front rest low. low) (record { tag = 0 ∷ []; right = Plus }) (omega arith, tt)
          r.result r.ensures);
    }
