use Rattle.df_run.proofs.Names.{◌≡◌, subst, sym, ◌∙◌, HasRead, ReaderState}
use Rattle.df_run.specs.Steps.{AppendsNext}
use Rattle.df_script_text.specs.Common.{common_line, root_call}
use Rattle.df_steps.proofs.Journals.{written_more}
use Rattle.df_steps.specs.Steps.{journal_of}
use Rattle.df_run.proofs.steps.append_next.Goals as goal

pub append_common-requires-clause-state : goal.append_common-requires-clause-state
append_common-requires-clause-state c = ((c.requires.0, journal_of c.requires.0 c.requires.1), c.requires.2.1.made)

pub append_root-requires-clause-state : goal.append_root-requires-clause-state
append_root-requires-clause-state c = ((c.requires.0, journal_of c.requires.0 c.requires.1), c.requires.2.1.made)

pub returns-in-Some : goal.returns-in-Some
returns-in-Some c = record {
  written_on = λ roots lines made.
      let line = common_line c.in-Some.line.root c.in-Some.line.ask in (
        line,
        c.in-Some.ensures.next roots lines made.0,
        written_more roots lines line c.args.tables.now c.append_common.new.tables c.args.text.now.items c.append_common.new.text.items made.1
            (c.in_ok-append_common.ensures (roots, journal_of roots lines) made.1.made),
      );
  further = λ _. c.in-Some.ensures.further;
  within = c.next_common.ensures.within;
  bytes = c.next_common.ensures.bytes;
  refused = tt;
}

pub returns-in-Some-next_root : goal.returns-in-Some-next_root
returns-in-Some-next_root c =
    let same : c.next_common.new.self ≡ c.args.reader.now = c.in_default.ensures.same in record {
      written_on = λ roots lines made.
          let line = root_call c.in-Some-next_root.line.root c.in-Some-next_root.line.call in (
            line,
            c.in-Some-next_root.ensures.next roots lines (subst (HasRead roots lines) (sym same) made.0),
            written_more roots lines line c.args.tables.now c.append_root.new.tables c.args.text.now.items c.append_root.new.text.items made.1
                (c.in_ok-append_root.ensures (roots, journal_of roots lines) made.1.made),
          );
      further = λ _. rw (sym same) c.in-Some-next_root.ensures.further;
      within = c.next_root.ensures.within;
      bytes = c.next_root.ensures.bytes ∙ c.next_common.ensures.bytes;
      refused = tt;
    }

pub append_any-requires : goal.append_any-requires
append_any-requires c =
    let same : c.next_root.new.self ≡ c.args.reader.now = c.in_default-next_root.ensures.same ∙ c.in_default.ensures.same in
    (c.requires.0, c.requires.1, (subst (HasRead c.requires.0 c.requires.1) (sym same) c.requires.2.0, c.requires.2.1))

pub returns : goal.returns
returns c =
    let same : c.next_root.new.self ≡ c.args.reader.now = c.in_default-next_root.ensures.same ∙ c.in_default.ensures.same in
    let any = c.append_any in
    subst
    (λ (r : ReaderState). AppendsNext r any.new.reader c.args.tables.now any.new.tables c.args.text.now.items any.new.text.items any.result)
    same any.ensures
