use Rattle.std.proofs.Common.{◌≡◌, drop}
use Rattle.df_messages.specs.Messages.{match_in}
use Rattle.df_floor_units.specs.Hearing.{first_of}
use Rattle.df_floor_units.proofs.hearing.first_match.Given as goal

abbrev pub invariant-loop-part : goal.invariant-loop-part
invariant-loop-part l = first_of match_in (drop l.part-index l.parts) ≡ first_of match_in l.parts
