-- The lines of calls have no line feed.
use Rattle.df_script_text.proofs.Names.{refl, AllByRecursion, recursion_from_All, Call, IsPrivilege, call_words, IsCall, unit_text, IsScriptLine, call_line, ScriptLine}
use Rattle.df_unit.specs.declared.call.Call.TheVariants.{Instantiate}
use Rattle.df_script_text.proofs.Splits.{Avoids, Avoids-line, Avoids-words}
use Rattle.df_script_text.proofs.Values.{IsLine-filter, IsLine-value, IsLine-word}
use Rattle.df_script_text.proofs.Words.{AreWords-privileges, is_word-act, is_word-actor, is_word-braced, is_word-half, is_word-label, is_word-name, is_word-privilege, is_word-tag, number_word}

-- the words of a call have no line feed
lines-call : (call : Call) → IsCall call → AllByRecursion (Avoids 10) (call_words call)
lines-call (Instantiate s privileges) f =
    Avoids-words (call_words (Instantiate s privileges))
    (refl, (is_word-braced s f.0, AreWords-privileges privileges (recursion_from_All IsPrivilege privileges f.1.0)))
lines-call _ f =
    search (IsLine-word, IsLine-value, IsLine-filter, number_word, is_word-act, is_word-half, is_word-label, is_word-name, is_word-tag, is_word-privilege)

-- a call's line has no line feed
pub Avoids-call : (l : ScriptLine) → IsScriptLine l → Avoids 10 (call_line l)
Avoids-call l f = Avoids-line (unit_text l.actor) (call_words l.call) (IsLine-word (unit_text l.actor) (is_word-actor l.actor f.0)) (lines-call l.call f.1)
