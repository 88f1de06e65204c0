use Rattle.df_tables.proofs.Names.{All, sym, subst, IsNewborn}
use Rattle.df_tables.specs.declared.calling.Called.{Called}
use Rattle.df_tables.proofs.board.Board.call_one.Goals as goal
use Rattle.df_tables.proofs.board.Board.call_one.Goals.{in-None+in_ok-add_born-in-None, in-Some+then-not-was_handed+in_ok-push-in-Some, in-Some+else-not-was_handed}

pub returns-clause-newborn : goal.returns-clause-newborn
returns-clause-newborn c = elim c.match-place.branch [
  | in-None+in_ok-add_born-in-None w ↦ subst (λ (x : Called). All IsNewborn x.born.items) (sym w.called-is) w.in_ok-add_born-in-None.ensures.newborn
  | in-Some+then-not-was_handed+in_ok-push-in-Some w ↦ subst (λ (x : Called). All IsNewborn x.born.items) (sym w.called-is) c.requires.newborn
  | in-Some+else-not-was_handed w ↦ subst (λ (x : Called). All IsNewborn x.born.items) (sym w.called-is) c.requires.newborn
]
