-- The limit of files.
use Rattle.std.specs.Prelude.{ℕ}

-- how many bytes a file has at most
abbrev pub longest_file : ℕ
longest_file = 67108864
