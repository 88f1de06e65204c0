use Rattle.std.proofs.Common.{◌≡◌, ◌++◌, drop, string_bytes}
use Rattle.std.specs.List.{flat_map}
use Rattle.df_ticks.specs.TickText.{tick_line, ticks_text}
use Rattle.df_ticks.proofs.text.write_ticks.Given as goal

abbrev pub invariant-loop-tick : goal.invariant-loop-tick
invariant-loop-tick l = string_bytes l.text ++ flat_map tick_line (drop l.tick-index l.ticks) ≡ ticks_text l.ticks
