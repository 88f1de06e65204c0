-- Why a file of records isn't read.
use Rattle.std.specs.Prelude.{ℕ, List, ⊤, Option}
use Rattle.df_records.specs.declared.records.RecordsRefused.{RecordsRefused}
use Rattle.df_records.specs.declared.records.RecordsRefused.TheVariants as refused
use Rattle.df_records.specs.RecordFile.{Fields, IsBadAt}

-- BadRecord tells the first record that isn't in form
abbrev pub IsRightRefusal : {T : Type 0} → Fields → (Fields → Option T) → List ℕ → RecordsRefused
    → Type 0
IsRightRefusal header told_of bytes (refused.BadRecord line) = IsBadAt header told_of bytes line
IsRightRefusal header told_of bytes refused.NoMemory = ⊤
