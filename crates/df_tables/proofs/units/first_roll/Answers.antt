use Rattle.df_tables.proofs.Names.{arith, seat_of}
use Rattle.df_tables.proofs.FirstRoll.{all_told}
use Rattle.df_tables.proofs.units.first_roll.Goals as goal

pub returns : goal.returns
returns c = λ n. all_told n (seat_of n c.loop-place.roll.seats) c.loop-place.place c.args.units.now (omega arith) (c.loop-place.invariant n)
