use Rattle.df_run.proofs.Names.{err_from_is_err_and}
use Rattle.df_steps.proofs.Journals.{written_more}
use Rattle.df_steps.specs.Steps.{journal_of}
use Rattle.df_run.proofs.steps.append_any.Goals as goal

pub append-requires-clause-state : goal.append-requires-clause-state
append-requires-clause-state c = ((c.requires.0, journal_of c.requires.0 c.requires.1), c.requires.2.1.made)

pub returns-in_err-read : goal.returns-in_err-read
returns-in_err-read c =
    let p = err_from_is_err_and c.from_residual.result c.from_residual.ensures.1 in
    rw (p.1, p.2) (record {
      written_on = tt;
      further = tt;
      within = c.next_line.ensures.within;
      bytes = c.next_line.ensures.bytes;
      refused = λ roots lines read. c.in_err-read.ensures.refused roots lines read;
    })

pub returns-in_default : goal.returns-in_default
returns-in_default c = record {
  written_on = λ roots lines made.
      let all = rw c.in_default.is at (c.in_ok-read.ensures.next roots lines made.0) in
      (all.0, all.1, made.1);
  further = λ e. absurd (let z : ⊥ = cc in z);
  within = c.next_line.ensures.within;
  bytes = c.next_line.ensures.bytes;
  refused = tt;
}

pub returns : goal.returns
returns c = record {
  written_on = λ roots lines made.
      let line = c.in-Some.read.line in (
        line,
        (rw c.in-Some.is at (c.in_ok-read.ensures.next roots lines made.0)),
        written_more roots lines line c.args.tables.now c.append.new.tables c.args.text.now.items c.append.new.text.items made.1
            (c.in_ok-append.ensures (roots, journal_of roots lines) made.1.made),
      );
  further = λ _. rw c.in-Some.is at c.in_ok-read.ensures.further;
  within = c.next_line.ensures.within;
  bytes = c.next_line.ensures.bytes;
  refused = tt;
}
