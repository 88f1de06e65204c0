use Rattle.df_value_text.proofs.char_reader.+append_trail.Given as goal

abbrev pub decreases-append_trail : goal.decreases-append_trail
decreases-append_trail l = l.count
