use Rattle.df_journal_text.proofs.Names.{List, [], ◌∷◌, ℕ, ◌++◌, codes, sym, ap, arith, decimal_digit}
use Rattle.df_journal_text.proofs.note.first_view.Goals as goal

pub returns : goal.returns
returns c =
    ap (λ (u : List ℕ). codes " -> event " ++ ((u ++ (32 ∷ (u ++ []))) ++ codes "\n")) (sym (decimal_digit 0 (omega arith)))
