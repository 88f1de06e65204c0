use Rattle.df_frozen.specs.code.LetGo.{listed, cost}
use Rattle.df_frozen.proofs.let_go.let_go.Given as goal

abbrev pub decreases-loop-waiting : goal.decreases-loop-waiting
decreases-loop-waiting l = cost (listed l.waiting)
