use Rattle.df_purge.proofs.Names.{◌≡◌, take}
use Rattle.df_part.specs.Part.{cut}
use Rattle.df_purge.proofs.echo.shown_parts.Given as goal

abbrev pub invariant-loop-part : goal.invariant-loop-part
invariant-loop-part l = l.shown.items ≡ cut l.label (take l.part-index l.parts)
