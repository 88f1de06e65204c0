use Rattle.df_journal_file.proofs.Names.{inl, inr, IsEitherText, journal_in}
use Rattle.df_journal_file.proofs.Eithers.{either_first, either_second, either_text}
use Rattle.df_journal_file.proofs.Refusals as refusals
use Rattle.df_journal_file.proofs.file.read_either.Goals as goal

pub answered-requires : goal.answered-requires
answered-requires c = refusals.inside IsEitherText _ _ c.either_whole.ensures.stops

pub returns : goal.returns
returns c =
    let bytes = c.args.bytes.now in
    let e = c.either_whole.ensures in
    let t = refusals.told IsEitherText bytes _ e.read e.stops (λ j k. either_text bytes (journal_in j) k) in
    rw c.answered.ensures (record {
      read = refusals.read IsEitherText bytes c.either_whole.result e.read _ (λ j k. k);
      first = λ roots es end f ends is.
          refusals.only IsEitherText bytes _ e.read e.stops (inl (roots, es, end, f, ends, is)) _
          (λ j k. either_first bytes (journal_in j) roots es k (f, (end, ends, is)));
      second = λ roots ns end f ends is.
          refusals.only IsEitherText bytes _ e.read e.stops (inr (roots, ns, end, f, ends, is)) _
          (λ j k. either_second bytes (journal_in j) roots ns k (f, (end, ends, is)));
      refused = t.refused;
      syntax = t.syntax;
      too_large = t.too_large;
    })
