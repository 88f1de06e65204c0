-- A shelf in memory.
use Rattle.std.specs.Prelude.{◌≡◌, ℕ, List, None, ◌⊎◌, Contains}
use Rattle.df_io.specs.Faults.{count_more}
use Rattle.df_io.specs.Files.{bytes_of}

-- the files by name, the numbers of the reads that fail, and the counts of reads and of faults
pub record ShelfState : Type 0 where
  pub files : List (List ℕ × List ℕ)
  pub failing : List ℕ
  pub calls : ℕ
  pub faults : ℕ

-- the next read fails: it is one of those that do, or there is no such file
abbrev pub FailsRead : ShelfState → List ℕ → Type 0
FailsRead s name = Contains s.failing (count_more s.calls) ⊎ (bytes_of name s.files ≡ None)
