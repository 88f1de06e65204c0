use Rattle.std.proofs.Common.{◌≡◌, drop}
use Rattle.df_floor_units.specs.Hearing.{first_of, quote_in}
use Rattle.df_floor_units.proofs.hearing.first_quote.Given as goal

abbrev pub invariant-loop-part : goal.invariant-loop-part
invariant-loop-part l = first_of (quote_in l.first l.second) (drop l.part-index l.parts) ≡ first_of (quote_in l.first l.second) l.parts
