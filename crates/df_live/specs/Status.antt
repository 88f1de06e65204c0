-- What is told of a run when it has ended: the code with which the program ends, and a line.
use Rattle.std.specs.Prelude.{ℕ, List, ◌++◌, codes, decimal}
use Rattle.df_lines.specs.Kinds.{kind_text}
use Rattle.df_live.specs.declared.status.LiveStatus.{LiveStatus}
use Rattle.df_live.specs.declared.status.LiveStatus.TheVariants.{Done, Usage, BadInput, ReadFault, WriteFault, NoMemory, TooLong}

-- the code of a status
abbrev pub code_of : LiveStatus → ℕ
code_of Done = 0
code_of Usage = 2
code_of (BadInput line kind) = 3
code_of ReadFault = 5
code_of WriteFault = 6
code_of NoMemory = 7
code_of TooLong = 8

-- the line of a status, without its line feed; that of Done is not printed
abbrev pub status_text : LiveStatus → List ℕ
status_text Done = codes "defcon: done"
status_text Usage = codes "defcon: usage"
status_text (BadInput line kind) =
    codes "defcon: bad input 1 line " ++ decimal line ++ codes ": " ++ kind_text kind
status_text ReadFault = codes "defcon: read fault"
status_text WriteFault = codes "defcon: write fault"
status_text NoMemory = codes "defcon: no memory"
status_text TooLong = codes "defcon: input 1 too long"
