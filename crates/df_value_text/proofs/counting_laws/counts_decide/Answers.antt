use Rattle.df_value_text.proofs.CountingEnds.{never_value, value_within, value_over, over_inside}
use Rattle.df_value_text.proofs.counting_laws.counts_decide.Goals as goal

pub returns : goal.returns
returns c = record { never = never_value; within = value_within; over = value_over; inside = over_inside }
