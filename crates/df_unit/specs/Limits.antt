-- How much a unit may have at most.
use Rattle.std.specs.Prelude.{ℕ}

-- open handles
abbrev pub most_handles : ℕ
most_handles = 64

-- drafted parts of one handle
abbrev pub most_parts : ℕ
most_parts = 64

-- subscriptions that a unit makes, of both kinds together
abbrev pub most_subs : ℕ
most_subs = 64

-- units that a unit makes
abbrev pub most_units : ℕ
most_units = 64

-- numbers of a unit's path
abbrev pub most_path : ℕ
most_path = 8

-- events, and tags, that a unit numbers
abbrev pub most_numbers : ℕ
most_numbers = 4294967295
