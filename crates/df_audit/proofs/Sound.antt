-- A legal journal is sound.
use Rattle.df_audit.proofs.Names.{List, map, Label, Legal, rows, roots, RootStart, Entry, Done, Reply}
use Rattle.df_machine.specs.Journal as machine
use Rattle.df_rules.proofs.Exercised.{exercised}
use Rattle.df_rules.proofs.Places.{legal_before}
use Rattle.df_rules.proofs.PurgeKeeps.{purge_keeps, purge_legal}
use Rattle.df_rules.proofs.ReleaseLaws.{row_release_laws}
use Rattle.df_rules.proofs.RowLaws.{row_laws}
use Rattle.df_rules.proofs.Taking.{gets_give_deliveries}
use Rattle.df_rules.proofs.TakingRows.{row_taking_laws, nothing_after_all}
use Rattle.df_rules.specs.Separates.{Separates}
use Rattle.std.specs.Prelude.{◌∷◌}
use Rattle.df_start.specs.Begun.{begun}
use Rattle.df_unit.specs.declared.call.Call.TheVariants.{Get}
use Rattle.df_audit.specs.Sound.{IsSound}

pub legal_separates : (begin : List RootStart) (past : List Entry) → Legal rows (machine.firsts begin) past → (l : Label)
    → Separates rows (machine.firsts begin) past l
legal_separates begin past legal l =
    let start = map begun begin in
    record {
      legal = purge_legal rows (roots start) (row_laws start) l past legal;
      keeps = purge_keeps rows (roots start) (row_laws start) l past;
      exercised = λ newer older u call r f k same h. exercised rows (roots start) (row_laws start) (row_release_laws start) l older u call r f k
          (legal_before rows (roots start) past legal newer (Done u call r f ∷ older) same) h;
    }

pub legal_is_sound : (begin : List RootStart) (past : List Entry) → Legal rows (machine.firsts begin) past → IsSound (machine.firsts begin) past
legal_is_sound begin past legal =
    let start = map begun begin in
    record {
      legal = legal;
      delivers = λ u st h. gets_give_deliveries rows (roots start) (row_taking_laws start) past legal u st h;
      none_left = λ newer older u f same. nothing_after_all start older u f
          (legal_before rows (roots start) past legal newer (Done u Get Reply.Nothing f ∷ older) same);
      separates = legal_separates begin past legal;
    }
