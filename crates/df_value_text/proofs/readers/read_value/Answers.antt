use Rattle.df_value_text.proofs.readers.read_value.Goals as goal

pub returns : goal.returns
returns c =
    let tells = c.frozen_at.ensures in
    record {
      found = tells.found;
      only = tells.only;
      syntax = tells.syntax;
      order = tells.order;
      too_large = tells.too_large;
      over = tells.over;
    }
