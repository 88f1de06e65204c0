use Rattle.df_journal_file.proofs.Names.{First, IsPlainText}
use Rattle.df_journal_file.proofs.Refusals as refusals
use Rattle.df_journal_file.proofs.Texts.{one_plain, text_of}
use Rattle.df_journal_file.proofs.file.read_journal.Goals as goal

pub answered-requires : goal.answered-requires
answered-requires c = refusals.inside IsPlainText _ _ c.plain_whole.ensures.stops

pub returns : goal.returns
returns c =
    let bytes = c.args.bytes.now in
    let e = c.plain_whole.ensures in
    let t = refusals.told IsPlainText bytes _ e.read e.stops (λ s k. text_of bytes (First s.0 s.1.items) k) in
    rw c.answered.ensures (record {
      read = refusals.read IsPlainText bytes c.plain_whole.result e.read _ (λ s k. k);
      only = λ roots es end f ends is.
          refusals.only IsPlainText bytes _ e.read e.stops (roots, es, end, f, ends, is) _
          (λ s k. one_plain bytes s.0 roots s.1.items es k (f, (end, ends, is)));
      refused = t.refused;
      syntax = t.syntax;
      too_large = t.too_large;
    })
