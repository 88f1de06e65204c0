use Rattle.std.proofs.Common.{[], ◌∷◌, arith}
use Rattle.df_value_text.proofs.TagLaws.{nowhere, nowhere_is_local, tag_format}
use Rattle.df_value_text.proofs.Answering.{found_by, only_by, names_bad}
use Rattle.df_value_text.proofs.readers.read_tag.Goals as goal

pub returns : goal.returns
returns c =
    let f = tag_format nowhere nowhere_is_local in
    let r = c.tag_at in
    record {
      found = rw c.told.ensures (found_by f c.args.bytes.now c.args.at r.result r.ensures.exact);
      only = rw c.told.ensures (only_by f c.args.bytes.now c.args.at r.result r.ensures.exact);
      syntax = rw c.told.ensures (names_bad f c.args.bytes.now c.args.at (λ front rest low. low) (0 ∷ []) (omega arith, tt) r.result r.ensures.exact);
    }
