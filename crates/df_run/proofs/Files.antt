-- Bytes that aren't a script, or aren't a journal, are blamed so.
use Rattle.df_run.proofs.Names.{ℕ, List, IsEitherText, Label, NamesBadLine, RefusesInput, told_of, IsScriptText, IsTooLargeIn, Check, Lint, Purge, Steps, Upgrade, Why}
use Rattle.df_journal_file.specs.TooLarge.{IsLargeIn}
use Rattle.df_lines.specs.declared.refused.FileRefused.{FileRefused}
use Rattle.df_lines.specs.declared.refused.FileRefused.TheVariants as file

abbrev pub NoScript : List ℕ → FileRefused → Type 0
NoScript bytes refused = NamesBadLine IsScriptText IsTooLargeIn bytes refused

abbrev pub NoJournal : List ℕ → FileRefused → Type 0
NoJournal bytes refused = NamesBadLine IsEitherText (IsLargeIn IsEitherText) bytes refused

pub run_blames : (script : ℕ) (bytes : List ℕ) (refused : FileRefused) → NoScript bytes refused → RefusesInput (Steps script) bytes (told_of refused)
run_blames script bytes (file.Syntax line) names = record { bad = names.2.first.none; place = names }
run_blames script bytes (file.TooLarge line) names = record { bad = names.2.first.none; place = names }
run_blames script bytes file.NoMemory names = tt

pub lint_blames : (script : ℕ) (bytes : List ℕ) (refused : FileRefused) → NoScript bytes refused → RefusesInput (Lint script) bytes (told_of refused)
lint_blames script bytes (file.Syntax line) names = record { bad = names.2.first.none; place = names }
lint_blames script bytes (file.TooLarge line) names = record { bad = names.2.first.none; place = names }
lint_blames script bytes file.NoMemory names = tt

pub check_blames : (journal : ℕ) (bytes : List ℕ) (refused : FileRefused) → NoJournal bytes refused → RefusesInput (Check journal) bytes (told_of refused)
check_blames journal bytes (file.Syntax line) names = record { bad = names.2.first.none; place = names }
check_blames journal bytes (file.TooLarge line) names = record { bad = names.2.first.none; place = names }
check_blames journal bytes file.NoMemory names = tt

pub purge_blames : (label : Label) (journal : ℕ) (bytes : List ℕ) (refused : FileRefused) → NoJournal bytes refused
    → RefusesInput (Purge label journal) bytes (told_of refused)
purge_blames label journal bytes (file.Syntax line) names = record { bad = names.2.first.none; place = names }
purge_blames label journal bytes (file.TooLarge line) names = record { bad = names.2.first.none; place = names }
purge_blames label journal bytes file.NoMemory names = tt

pub upgrade_blames : (journal : ℕ) (bytes : List ℕ) (refused : FileRefused) → NoJournal bytes refused → RefusesInput (Upgrade journal) bytes (told_of refused)
upgrade_blames journal bytes (file.Syntax line) names = record { bad = names.2.first.none; place = names }
upgrade_blames journal bytes (file.TooLarge line) names = record { bad = names.2.first.none; place = names }
upgrade_blames journal bytes file.NoMemory names = tt

pub why_blames : (journal place : ℕ) (bytes : List ℕ) (refused : FileRefused) → NoJournal bytes refused
    → RefusesInput (Why journal place) bytes (told_of refused)
why_blames journal place bytes (file.Syntax line) names = record { bad = names.2.first.none; place = names }
why_blames journal place bytes (file.TooLarge line) names = record { bad = names.2.first.none; place = names }
why_blames journal place bytes file.NoMemory names = tt
