use Rattle.std.proofs.Common.{◌≡◌, drop}
use Rattle.df_messages.specs.Messages.{offer_in}
use Rattle.df_floor_units.specs.Hearing.{first_of}
use Rattle.df_floor_units.proofs.hearing.first_offer.Given as goal

abbrev pub invariant-loop-part : goal.invariant-loop-part
invariant-loop-part l = first_of offer_in (drop l.part-index l.parts) ≡ first_of offer_in l.parts
