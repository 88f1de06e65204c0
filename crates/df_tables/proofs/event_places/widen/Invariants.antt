use Rattle.df_tables.proofs.Names.{◌≡◌, ◌+◌, ◌-◌, ℕ, vec_len, slot_in}
use Rattle.df_tables.proofs.event_places.widen.Given as goal

abbrev pub invariant-tables : goal.invariant-tables
invariant-tables l = (r n : ℕ) → slot_in l.near.items r n ≡ slot_in l.initial.near.items r n

abbrev pub decreases-tables : goal.decreases-tables
decreases-tables l = (l.root + 1) - vec_len l.near
