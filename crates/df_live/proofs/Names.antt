-- The names that most proofs here cite, passed on from one place. Declares nothing.
pub use Rattle.df_io.specs.Faults.{Rose}
pub use Rattle.df_io.specs.Limits.{longest_file}
pub use Rattle.df_journal_text.specs.Fits.{AreRoots, IsRoot}
pub use Rattle.df_journal_text.specs.Line.{line}
pub use Rattle.df_journal_text.specs.Start.{head_text, root_text, start_text}
pub use Rattle.df_lines.specs.Lines.{IsLine, ended, lines_text}
pub use Rattle.df_lines.specs.code.Stops.{StopsAt}
pub use Rattle.df_lines.specs.declared.refused.BadKind.{BadKind}
pub use Rattle.df_live.specs.Live.{AnswersAll, AnswersScript, HasLongLine, IsDue, IsPartOfLine, IsTooLong, Leaves}
pub use Rattle.df_live.specs.code.Stops.{AnswersCall, HasAnswered, IsBadCall, IsBadHead, IsKind, IsLineDue, IsNoCall, IsReading, IsTakenAs, ReadsCall, ReadsRoot, RefusesCall, RefusesHead, Stops, StopsAnswer, StopsHead, StopsLine, StopsTaking, TakesCall, TakesRoot, TakesStart, not_taken}
pub use Rattle.df_live.specs.declared.lines.NotTaken.{NotTaken}
pub use Rattle.df_live.specs.declared.lines.Taken.{Taken}
pub use Rattle.df_live.specs.declared.status.LiveStatus.{LiveStatus}
pub use Rattle.df_script_text.specs.Script.{IsScript, IsScriptLine, IsScriptText, script_line, script_text}
pub use Rattle.df_script_text.specs.code.Lines.{call_line, head_lines, numbered, script_lines}
pub use Rattle.df_script_text.specs.code.Stops.{ArePassed, IsCallLine, IsFirstAt, IsHeadLine}
pub use Rattle.df_script_text.specs.declared.line.ScriptLine.{ScriptLine}
pub use Rattle.df_start.specs.declared.start.RootStart.{RootStart}
pub use Rattle.df_steps.specs.Steps.{AppendsStep, Records, RecordsScript, journal_of}
pub use Rattle.std.proofs.Common.{Bool, Err, IfErr, IfOk, IfSome, List, None, Ok, OnErr, OnOk, Option, Result, Some, [], ap, append-nil, append_assoc, arith, codes, drop, eqb, false, if◌then◌else◌, inl, inr, is_err, is_ok, length, length-append, length-drop, length-take, map, option_map, refl, rules, slice_range, subst, sym, take, true, zero-add, ℕ, ◌++◌, ◌+◌, ◌-◌, ◌<◌, ◌^◌, ◌∙◌, ◌∷◌, ◌≡◌, ◌≤◌}
pub use Rattle.std.proofs.lemmas.Bool.{true≢false}
pub use Rattle.std.proofs.lemmas.List.Concat.{flat_map-append}
pub use Rattle.std.proofs.lemmas.List.Elements.{All-from_recursion, All-nil, All-push}
pub use Rattle.std.proofs.lemmas.Result.{IfErr-weaker, IfOk-weaker, err_from_is_err_and, on_ok_weaker}
pub use Rattle.std.specs.Io.KnownBytes.{Consumes}
