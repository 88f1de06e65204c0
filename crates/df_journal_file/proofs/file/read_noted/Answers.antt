use Rattle.df_journal_file.proofs.Names.{Second, IsNotedText}
use Rattle.df_journal_file.proofs.Refusals as refusals
use Rattle.df_journal_file.proofs.Texts.{one_noted, text_of}
use Rattle.df_journal_file.proofs.file.read_noted.Goals as goal

pub answered-requires : goal.answered-requires
answered-requires c = refusals.inside IsNotedText _ _ c.noted_whole.ensures.stops

pub returns : goal.returns
returns c =
    let bytes = c.args.bytes.now in
    let e = c.noted_whole.ensures in
    let t = refusals.told IsNotedText bytes _ e.read e.stops (λ s k. text_of bytes (Second s.0 s.1.items) k) in
    rw c.answered.ensures (record {
      read = refusals.read IsNotedText bytes c.noted_whole.result e.read _ (λ s k. k);
      only = λ roots ns end f ends is.
          refusals.only IsNotedText bytes _ e.read e.stops (roots, ns, end, f, ends, is) _
          (λ s k. one_noted bytes s.0 roots s.1.items ns k (f, (end, ends, is)));
      refused = t.refused;
      syntax = t.syntax;
      too_large = t.too_large;
    })
