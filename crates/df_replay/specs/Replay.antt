-- What the rules give where the entries of a kept journal stand.
use Rattle.std.specs.Prelude.{◌≡◌, ◌∷◌, Option}
use Rattle.df_label.specs.declared.label.Label.{Label}
use Rattle.df_machine.specs.Journal.{State, firsts}
use Rattle.df_rules.specs.Legal.{answered}
use Rattle.df_rules.specs.Start.{rows}
use Rattle.df_unit.specs.declared.entry.Entry.{Entry}
use Rattle.df_unit.specs.declared.entry.Entry.TheVariants.{Done, Emitted}
use Rattle.df_replay.specs.Noted.{contamination_of}
use Rattle.df_replay.specs.declared.repeats.Compared.{Compared}
use Rattle.df_replay.specs.declared.repeats.Compared.TheVariants.{Other, Same}

-- the entry that the rules give where a kept one stands: the answer to its call; an emitted one may
-- stand anywhere
abbrev pub entry_for : State → Entry → Entry
entry_for core (Done actor call reply effect) = answered rows (firsts core.0) core.1 actor call
entry_for core (Emitted commit) = Emitted commit

-- one entry was appended: the one that the rules give where a kept one stands
abbrev pub replayed : State → Entry → State
replayed core kept = (core.0, entry_for core kept ∷ core.1)

-- the kept entry is the given one, before which its actor has this contamination; or it isn't
abbrev pub ComparesTo : Entry → Option Label → Entry → Compared → Type 0
ComparesTo given contamination kept (Same told) = (given ≡ kept) × (told ≡ contamination)
ComparesTo given contamination kept (Other expected) =
    (expected ≡ record { entry = given; contamination = contamination }) × ¬ (given ≡ kept)

-- the kept entry is compared to the one that the rules give there
abbrev pub Compares : State → Entry → Compared → Type 0
Compares core kept compared =
    ComparesTo (entry_for core kept) (contamination_of core kept) kept compared
