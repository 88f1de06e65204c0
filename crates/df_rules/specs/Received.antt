-- What a unit's gets gave it.
use Rattle.std.specs.Prelude.{◌≡◌, if◌then◌else◌, List, [], ◌∷◌, ◌++◌, length}
use Rattle.df_rules.specs.Commits.{given_in}
use Rattle.df_rules.specs.Deliveries.{deliveries}
use Rattle.df_rules.specs.Legal.{left}
use Rattle.df_rules.specs.Rules.{Rules}
use Rattle.df_unit.specs.Name.{same}
use Rattle.df_unit.specs.OwnState.{OwnState}
use Rattle.df_unit.specs.declared.commit.Given.{Given}
use Rattle.df_unit.specs.declared.entry.Entry.{Entry}
use Rattle.df_unit.specs.declared.entry.Entry.TheVariants.{Done, Emitted}
use Rattle.df_unit.specs.declared.name.UnitName.{UnitName}

-- what the unit's accepted gets gave it, the oldest first
abbrev pub received : UnitName → List Entry → List Given
received u [] = []
received u (Done a c r f ∷ past) =
    if same a u then received u past ++ given_in f else received u past
received u (Emitted c ∷ past) = received u past

-- what the unit received, and then what is left to it, are its deliveries
pub record Receives (R : Rules) (s : List OwnState) (past : List Entry) (u : UnitName)
    (st : OwnState) : Type 0 where
  pub count : length (received u past) ≡ st.given
  pub all : received u past ++ left st (deliveries R s past u) ≡ deliveries R s past u
