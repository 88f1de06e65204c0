use Rattle.df_audit.proofs.Names.{◌≡◌, map, take}
use Rattle.df_audit.proofs.why.bare.Given as goal

-- copied so far
abbrev pub invariant-loop-noted : goal.invariant-loop-noted
invariant-loop-noted l = l.entries.items ≡ map (λ n. n.entry) (take l.noted-index l.notes)
