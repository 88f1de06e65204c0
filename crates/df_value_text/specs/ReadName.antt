-- Reading a name.
use Rattle.std.specs.Prelude.{ℕ, zero, suc, ◌-◌, List, [], ◌∷◌, take, drop, Ok, Err, if◌then◌else◌}
use Rattle.df_frozen.specs.Limits.{longest_name}
use Rattle.df_frozen.specs.Name.{is_letter, is_name_byte}
use Rattle.df_format.specs.Reading.{Bad, Read}

-- how many bytes of a name stand in front, at most so many
abbrev pub name_bytes : ℕ → List ℕ → ℕ
name_bytes most [] = 0
name_bytes zero (c ∷ cs) = 0
name_bytes (suc most) (c ∷ cs) = if is_name_byte c then suc (name_bytes most cs) else 0

-- the longest name
abbrev pub name_at : List ℕ → Read ℕ (List ℕ)
name_at [] = Err (Bad [])
name_at (c ∷ cs) =
    if is_letter c
    then Ok (
      c ∷ take (name_bytes (longest_name - 1) cs) cs,
      drop
          (name_bytes (longest_name - 1) cs) cs,
    ) else Err (Bad (c ∷ cs))
