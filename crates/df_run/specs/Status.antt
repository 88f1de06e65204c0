-- What is told of a run when it has ended: the code with which the program ends, and a line.
use Rattle.std.specs.Prelude.{ℕ, List, ◌++◌, codes, decimal}
use Rattle.df_run.specs.declared.status.BadKind.{BadKind}
use Rattle.df_run.specs.declared.status.BadKind.TheVariants.{Syntax, TooLarge, BadOrder, BadConfig, BadTick}
use Rattle.df_run.specs.declared.status.Status.{Status}
use Rattle.df_run.specs.declared.status.Status.TheVariants.{Done, Usage, BadInput, Wrong, ReadFault, WriteFault, NoMemory, TooLong, Unsettled, NoPlace}

-- the code of a status
abbrev pub code_of : Status → ℕ
code_of Done = 0
code_of Usage = 2
code_of (BadInput input line kind) = 3
code_of (Wrong place) = 4
code_of ReadFault = 5
code_of WriteFault = 6
code_of NoMemory = 7
code_of (TooLong input) = 8
code_of (Unsettled steps) = 9
code_of (NoPlace entries) = 10

-- the word for what is wrong with an input
abbrev pub kind_text : BadKind → List ℕ
kind_text Syntax = codes "syntax"
kind_text TooLarge = codes "too large"
kind_text BadOrder = codes "order"
kind_text BadConfig = codes "config"
kind_text BadTick = codes "tick"

-- the line of a status, without its line feed; that of Done is not printed
abbrev pub status_text : Status → List ℕ
status_text Done = codes "defcon: done"
status_text Usage = codes "defcon: usage"
status_text (BadInput input line kind) =
    codes "defcon: bad input " ++ decimal input ++ codes " line " ++ decimal line ++ codes ": "
    ++ kind_text kind
status_text (Wrong place) = codes "defcon: wrong at " ++ decimal place
status_text ReadFault = codes "defcon: read fault"
status_text WriteFault = codes "defcon: write fault"
status_text NoMemory = codes "defcon: no memory"
status_text (TooLong input) = codes "defcon: input " ++ decimal input ++ codes " too long"
status_text (Unsettled steps) = codes "defcon: unsettled after " ++ decimal steps
status_text (NoPlace entries) = codes "defcon: no place in " ++ decimal entries
