use Rattle.df_tables.proofs.Names.{◌≡◌, drop, option_or, UnitName, seat_of}
use Rattle.df_tables.proofs.FirstRoll.{place_from}
use Rattle.df_tables.proofs.units.first_roll.Given as goal

abbrev pub invariant-loop-place : goal.invariant-loop-place
invariant-loop-place l = (n : UnitName) → option_or (seat_of n l.roll.seats) (place_from l.place n (drop l.place l.units)) ≡ place_from 0 n l.units
