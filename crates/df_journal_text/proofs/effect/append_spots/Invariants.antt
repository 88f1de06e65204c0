use Rattle.df_journal_text.proofs.Names.{◌≡◌, ◌++◌, take, flat_map, spot_line}
use Rattle.df_journal_text.proofs.effect.append_spots.Given as goal

abbrev pub invariant-loop-spot : goal.invariant-loop-spot
invariant-loop-spot l = l.to.items ≡ l.fn.to.items ++ flat_map spot_line (take l.spot-index l.spots)
