-- What is told of a run when it has ended: the code with which the program ends, and a line.
use Rattle.std.specs.Prelude.{ℕ, List, ◌++◌, codes, decimal}
use Rattle.df_keep.specs.declared.status.KeepStatus.{KeepStatus}
use Rattle.df_keep.specs.declared.status.KeepStatus.TheVariants.{Done, Usage, BadInput, ReadFault, WriteFault, NoMemory, TooLong, DiskFault, Damaged, StartDiffers}
use Rattle.df_lines.specs.Kinds.{kind_text}

-- the code of a status
abbrev pub code_of : KeepStatus → ℕ
code_of Done = 0
code_of Usage = 2
code_of (BadInput input line kind) = 3
code_of ReadFault = 5
code_of WriteFault = 6
code_of NoMemory = 7
code_of (TooLong input) = 8
code_of DiskFault = 20
code_of (Damaged place) = 21
code_of StartDiffers = 22

-- the line of a status, without its line feed; that of Done is not printed
abbrev pub status_text : KeepStatus → List ℕ
status_text Done = codes "defcon: done"
status_text Usage = codes "defcon: usage"
status_text (BadInput input line kind) =
    codes "defcon: bad input " ++ decimal input ++ codes " line " ++ decimal line ++ codes ": "
    ++ kind_text kind
status_text ReadFault = codes "defcon: read fault"
status_text WriteFault = codes "defcon: write fault"
status_text NoMemory = codes "defcon: no memory"
status_text (TooLong input) = codes "defcon: input " ++ decimal input ++ codes " too long"
status_text DiskFault = codes "defcon: disk fault"
status_text (Damaged place) = codes "defcon: damaged at " ++ decimal place
status_text StartDiffers = codes "defcon: start differs"
