use Rattle.tests_of_units.proofs.index.counts_at.Given as goal

abbrev pub ghosts-counts : goal.ghosts-counts
ghosts-counts a = record { name = a.blank.name; parts = a.blank.parts }
