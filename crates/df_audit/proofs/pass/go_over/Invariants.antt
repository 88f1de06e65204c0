use Rattle.df_audit.proofs.Names.{List, length, ◌-◌, RootStart, Noted, IsSoFar}
use Rattle.df_audit.proofs.pass.go_over.Given as goal

-- the entries that were read are right, and what is wanted of them is made
abbrev pub invariant-entries : goal.invariant-entries
invariant-entries l =
    (roots : List RootStart) × (read : List Noted) × IsSoFar l.fn.wanted roots l.fn.cursor.bytes read l.cursor l.behind.tables l.made.count l.made.text.items

abbrev pub decreases-entries : goal.decreases-entries
decreases-entries l = length l.cursor.bytes - l.cursor.place
