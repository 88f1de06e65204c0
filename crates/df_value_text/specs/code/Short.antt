-- What is told of bytes without reading them one by one.
use Rattle.std.specs.Prelude.{ℕ, suc, ◌||◌, List, [], ◌∷◌, ◌==◌, if◌then◌else◌}
use Rattle.df_value_text.specs.ReadEscape.{is_plain}

-- how many bytes in front stand for themselves
abbrev pub plain_run : List ℕ → ℕ
plain_run [] = 0
plain_run (c ∷ cs) = if is_plain c then suc (plain_run cs) else 0

-- how many of the bytes are `[` or `(`
abbrev pub open_count : List ℕ → ℕ
open_count [] = 0
open_count (c ∷ cs) = if (c == 91) || (c == 40) then suc (open_count cs) else open_count cs
