-- The contaminations that a journal's actors have before its entries.
use Rattle.std.specs.Prelude.{◌≡◌, List, [], ◌∷◌, ◌++◌, Option, None, map, reverse}
use Rattle.df_label.specs.declared.label.Label.{Label}
use Rattle.df_machine.specs.Journal.{State, contamination_in, firsts}
use Rattle.df_rules.specs.Legal.{Legal}
use Rattle.df_rules.specs.Start.{rows}
use Rattle.df_start.specs.declared.start.RootStart.{RootStart}
use Rattle.df_unit.specs.declared.entry.Entry.{Entry}
use Rattle.df_unit.specs.declared.entry.Entry.TheVariants.{Done, Emitted}
use Rattle.df_unit.specs.declared.entry.Noted.{Noted}

-- the contamination that an entry's actor has before it
abbrev pub contamination_of : State → Entry → Option Label
contamination_of core (Done actor call reply effect) = contamination_in core actor
contamination_of core (Emitted commit) = None

-- the entry with the contamination that its actor has before it
abbrev pub noted_in : State → Entry → Noted
noted_in core e = record { entry = e; contamination = contamination_of core e }

-- the entries of a journal with their actors' contaminations, the oldest first
abbrev pub noted : List RootStart → List Entry → List Noted
noted roots [] = []
noted roots (e ∷ past) = noted roots past ++ noted_in (roots, past) e ∷ []

-- the entries without their notes, the newest first
abbrev pub past_of : List Noted → List Entry
past_of journal = reverse (map (λ n. n.entry) journal)

-- the journal is legal, and with each entry is noted the contamination that its actor has before it
pub record AreRight (roots : List RootStart) (journal : List Noted) : Type 0 where
  pub legal : Legal rows (firsts roots) (past_of journal)
  pub noted : journal ≡ noted roots (past_of journal)
