use Rattle.df_purge.proofs.Names.{◌≡◌, take, cut_spots}
use Rattle.df_purge.proofs.echo.shown_spots.Given as goal

abbrev pub invariant-loop-spot : goal.invariant-loop-spot
invariant-loop-spot l = l.shown.items ≡ cut_spots l.label (take l.spot-index l.spots)
