-- What readers of words and lines answer.
use Rattle.std.specs.Prelude.{◌≡◌, ◌≢◌, ℕ, ◌≤◌, false, List, [], ◌∷◌, ◌++◌, length, drop, Result, Ok, Err, ⊤, codes}
use Rattle.df_format.specs.Reading.{Read, Stop, behind_at}
use Rattle.df_unit.specs.declared.call.Call.{Call}
use Rattle.df_unit.specs.declared.reply.Reply.{Reply}
use Rattle.df_value_text.specs.code.WordEnd.{EndsWord}
use Rattle.df_value_text.specs.declared.refused.Fault.{Fault}
use Rattle.df_value_text.specs.declared.refused.Fault.TheVariants as literal
use Rattle.df_value_text.specs.declared.refused.TextRefused.{TextRefused}
use Rattle.df_value_text.specs.declared.refused.TextRefused.TheVariants as refused
use Rattle.df_journal_text.specs.Call.{call_words}
use Rattle.df_journal_text.specs.Line.{spaced, word}
use Rattle.df_journal_text.specs.ReadReply.{reply_at}
use Rattle.df_journal_text.specs.ReadWords.{begins_pair}
use Rattle.df_journal_text.specs.Reply.{reply_words}
use Rattle.df_journal_text.specs.declared.line_fault.LineFault.{LineFault}
use Rattle.df_journal_text.specs.declared.line_fault.LineFault.TheVariants as fault

-- reading stopped
abbrev pub IsStopped : {T X : Type 0} → Read T X → Type 0
IsStopped {T} read = (stop : Stop T) × (read ≡ Err stop)

-- the text stands in front
abbrev pub BeginsWith : List ℕ → List ℕ → Type 0
BeginsWith bytes text = (rest : List ℕ) × (bytes ≡ text ++ rest)

-- the fault of a literal, as one of its line
abbrev pub line_fault : Fault → LineFault
line_fault literal.NoMemory = fault.NoMemory
line_fault (literal.Bad place) = fault.Syntax
line_fault (literal.Low place) = fault.Syntax

-- the refusal of a value, as a fault of its line
abbrev pub value_fault : TextRefused → LineFault
value_fault refused.NoMemory = fault.NoMemory
value_fault (refused.Syntax place) = fault.Syntax
value_fault (refused.TooLarge place) = fault.TooLarge

-- nothing that fits is spelled in front of what may stand behind it
abbrev pub IsUnspelled : {X : Type 0} → (X → List ℕ) → (X → Type 0) → (List ℕ → Type 0) → List ℕ →
    Type 0
IsUnspelled {X} spell Fits MayFollow bytes = (x : X) (rest : List ℕ) → Fits x → MayFollow rest →
    bytes ≡ spell x ++ rest → ⊥

-- What is answered is spelled at the place, and read there. A fault comes only where nothing is,
-- and tells whether what stands there is too large.
abbrev pub Tells : {X : Type 0} → (X → List ℕ) → (X → Type 0) → (List ℕ → Type 0) →
    (List ℕ → Type 0) → (List ℕ → Read ℕ X) → List ℕ → ℕ → Result (X × ℕ) LineFault → Type 0
Tells spell Fits MayFollow IsLarge read bytes at (Ok x) = (x.1 ≤ length bytes) × Fits x.0
    × (drop at bytes ≡ spell x.0 ++ drop x.1 bytes)
    × (read (drop at bytes) ≡ Ok (x.0, drop x.1 bytes))
Tells spell Fits MayFollow IsLarge read bytes at (Err fault.Syntax) =
    IsUnspelled spell Fits MayFollow (drop at bytes) × ¬ IsLarge (drop at bytes)
Tells spell Fits MayFollow IsLarge read bytes at (Err fault.TooLarge) =
    IsUnspelled spell Fits MayFollow (drop at bytes) × IsLarge (drop at bytes)
Tells spell Fits MayFollow IsLarge read bytes at (Err fault.NoMemory) = ⊤

-- a call's words, a space before each
abbrev pub call_text : Call → List ℕ
call_text call = spaced (call_words call)

-- a reply's words, a space before each
abbrev pub reply_text : Reply → List ℕ
reply_text r = spaced (reply_words r)

-- a word ends here, and no privilege follows
abbrev pub EndsCall : List ℕ → Type 0
EndsCall rest = EndsWord rest × (begins_pair 32 35 rest ≡ false)

-- what stands behind `add`
abbrev pub behind_add : List ℕ → List ℕ
behind_add bytes = word (codes "add") ++ bytes

-- ---- whole lines

-- a line with its line feed
abbrev pub ended : List ℕ → List ℕ
ended line = line ++ 10 ∷ []

-- nothing that fits is spelled as this line
abbrev pub IsNoLine : {X : Type 0} → (X → List ℕ) → (X → Type 0) → List ℕ → Type 0
IsNoLine {X} spell Fits line = (x : X) → Fits x → ended line ≡ spell x → ⊥

-- What is answered is spelled as this line. A fault comes only where nothing is, and tells whether
-- what stands there is too large.
abbrev pub TellsLine : {X : Type 0} → (X → List ℕ) → (X → Type 0) → (List ℕ → Type 0) → List ℕ →
    Result X LineFault → Type 0
TellsLine spell Fits IsLarge line (Ok x) = Fits x × (ended line ≡ spell x)
TellsLine spell Fits IsLarge line (Err fault.Syntax) = IsNoLine spell Fits line × ¬ IsLarge line
TellsLine spell Fits IsLarge line (Err fault.TooLarge) = IsNoLine spell Fits line × IsLarge line
TellsLine spell Fits IsLarge line (Err fault.NoMemory) = ⊤

-- what was read, where it ends at this place
abbrev pub IsWhole : {X : Type 0} → ℕ → Result (X × ℕ) Fault → Result X LineFault → Type 0
IsWhole end (Ok read) (Ok x) = (read.0 ≡ x) × (read.1 ≡ end)
IsWhole end (Ok read) (Err e) = (e ≡ fault.Syntax) × (read.1 ≢ end)
IsWhole end (Err f) (Ok x) = ⊥
IsWhole end (Err f) (Err e) = e ≡ line_fault f

-- a reply behind the arrow
abbrev pub answer_at : List ℕ → Read ℕ Reply
answer_at bytes = behind_at (codes " ->") reply_at bytes
