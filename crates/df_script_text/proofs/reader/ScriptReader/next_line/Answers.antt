use Rattle.df_script_text.proofs.Names.{subst, sym, NamesBadLine, HasRead, ReaderState, IsScriptText, IsTooLargeIn, call_line, FileFault, StopsCall}
use Rattle.df_journal_text.proofs.Frames.{unended}
use Rattle.df_script_text.proofs.Stops.{call_read, calls_refused, line_unread}
use Rattle.df_script_text.proofs.reader.ScriptReader.next_line.Goals as goal

pub returns-in-Ok-clause-next : goal.returns-in-Ok-clause-next
returns-in-Ok-clause-next c = λ roots lines h.
    let found = rw c.in-Ok-Some.field-0-is at c.in-Ok-Some.ensures.read in
    call_read _ _ _ _ _ _ _ (subst (HasRead roots lines) (sym c.self.view_is) h) found c.in-Ok.ensures

pub returns-in-Ok-clause-words : goal.returns-in-Ok-clause-words
returns-in-Ok-clause-words c = unended c.in-Ok-Some.line.0.now (call_line c.in-Ok.line) c.in-Ok.ensures.1

pub returns-in-Err-clause-refused : goal.returns-in-Err-clause-refused
returns-in-Err-clause-refused c = λ roots lines h.
    subst (λ (v : ReaderState). NamesBadLine IsScriptText IsTooLargeIn v.bytes c.file_refused.result) c.self.view_is
    (calls_refused _ _ _ _ _ _ c.file_refused.ensures (subst (HasRead roots lines) (sym c.self.view_is) h) c.in-Err.ensures.stops)

pub returns-in-Err-read_line-clause-refused : goal.returns-in-Err-read_line-clause-refused
returns-in-Err-read_line-clause-refused c = λ roots lines h.
    let found = rw c.in-Ok-Some.field-0-is at c.in-Ok-Some.ensures.read in
    let stops = subst (λ (f : FileFault). StopsCall c.self.inside.bytes.now c.self.inside.place f) (sym c.fault_of.ensures)
    (line_unread _ _ _ _ found _ c.in-Err-read_line.ensures) in
    let refused = c.file_refused-in-Err-read_line in
    subst (λ (v : ReaderState). NamesBadLine IsScriptText IsTooLargeIn v.bytes refused.result) c.self.view_is
    (calls_refused _ _ _ _ c.fault_of.result _ refused.ensures (subst (HasRead roots lines) (sym c.self.view_is) h) stops)
