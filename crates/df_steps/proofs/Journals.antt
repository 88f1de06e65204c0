-- A journal of one more line.
use Rattle.std.proofs.Common.{◌≡◌, List, ℕ, [], ◌∷◌, ◌++◌, ap, sym, ◌∙◌, subst, append_assoc, map, reverse}
use Rattle.std.specs.List.{flat_map}
use Rattle.std.proofs.lemmas.Grind.{flat_map-append}
use Rattle.std.proofs.lemmas.List.{append-nil, map-append, reverse-append}
use Rattle.df_machine.specs.Journal.{firsts}
use Rattle.df_machine.specs.Tables.{AgreesWith}
use Rattle.df_machine.specs.declared.tables.Tables.{Tables}
use Rattle.df_replay.specs.Noted.{noted, noted_in}
use Rattle.df_rules.specs.Legal.{answered, run}
use Rattle.df_rules.specs.Start.{rows}
use Rattle.df_start.specs.declared.start.RootStart.{RootStart}
use Rattle.df_unit.specs.declared.call.Call.{Call}
use Rattle.df_unit.specs.declared.entry.Entry.{Entry}
use Rattle.df_unit.specs.declared.name.UnitName.{UnitName}
use Rattle.df_journal_text.specs.Entry.{noted_text}
use Rattle.df_journal_text.specs.Start.{head_text}
use Rattle.df_script_text.specs.declared.line.ScriptLine.{ScriptLine}
use Rattle.df_steps.specs.Steps.{AppendsStep, called, journal_of}
use Rattle.df_steps.specs.code.Written.{IsWritten}

-- the journal of one more line
pub journal_more : (roots : List RootStart) (ls : List ScriptLine) (l : ScriptLine)
    → journal_of roots (ls ++ l ∷ []) ≡ answered rows (firsts roots) (journal_of roots ls) l.actor l.call ∷ journal_of roots ls
journal_more roots ls l = ap (λ (cs : List (UnitName × Call)). run rows (firsts roots) (reverse cs)) (map-append called ls (l ∷ []))
    ∙ ap (run rows (firsts roots)) (reverse-append (map called ls) (called l ∷ []))

-- the text of a journal of no line
pub written_none : (roots : List RootStart) (tables : Tables) (text : List ℕ) → AgreesWith (roots, []) tables → text ≡ [] ++ head_text roots
    → IsWritten roots [] tables text
written_none roots tables text made e = record { made = made; text = e ∙ sym (append-nil (head_text roots)) }

-- the text of a journal of one more line
pub written_more : (roots : List RootStart) (ls : List ScriptLine) (l : ScriptLine) (old new : Tables) (before now : List ℕ) → IsWritten roots ls old before
    → AppendsStep l (roots, journal_of roots ls) new before now → IsWritten roots (ls ++ l ∷ []) new now
written_more roots ls l old new before now w a =
    let past = journal_of roots ls in
    let e = answered rows (firsts roots) past l.actor l.call in
    record {
      made = subst (λ (j : List Entry). AgreesWith (roots, j) new) (sym (journal_more roots ls l)) a.made;
      text =
          a.text
          ∙ ap (λ (t : List ℕ). t ++ noted_text (noted_in (roots, past) e)) w.text
          ∙ append_assoc (head_text roots) (flat_map noted_text (noted roots past)) (noted_text (noted_in (roots, past) e))
          ∙ ap (λ (t : List ℕ). head_text roots ++ t)
          (sym (flat_map-append noted_text (noted roots past) (noted_in (roots, past) e ∷ [])
          ∙ ap (λ (t : List ℕ). flat_map noted_text (noted roots past) ++ t) (append-nil (noted_text (noted_in (roots, past) e)))))
          ∙ ap (λ (j : List Entry). head_text roots ++ flat_map noted_text (noted roots j)) (sym (journal_more roots ls l));
    }
