-- That what a machine's journal has can be written: what the types of an entry give, and what the
-- rules give.
use Rattle.std.specs.Prelude.{◌≡◌, ℕ, List, true, ⊤}
use Rattle.std.specs.List.{All}
use Rattle.df_frozen.specs.Name.{is_name}
use Rattle.df_frozen.specs.Value.{plain}
use Rattle.df_frozen.specs.declared.value.Value.{Value}
use Rattle.df_journal_file.specs.Journal.{ChangesSome, EditsSome, ShowsSome}
use Rattle.df_journal_text.specs.Fits.{IsCall, IsCommit, IsEvent, IsPart, IsReply, IsUnit}
use Rattle.df_unit.specs.declared.commit.Given.{Given}
use Rattle.df_unit.specs.declared.entry.Effect.{Effect}
use Rattle.df_unit.specs.declared.entry.Effect.TheVariants as effect
use Rattle.df_unit.specs.declared.entry.Entry.{Entry}
use Rattle.df_unit.specs.declared.entry.Entry.TheVariants.{Done, Emitted}
use Rattle.df_unit.specs.declared.reply.Reply.{Reply}
use Rattle.df_unit.specs.declared.reply.Reply.TheVariants as reply
use Rattle.df_value_text.specs.Fits.{IsSpelled}

-- ---- what the types give

-- an entry of a map has a name, and a value with a spelling
abbrev pub IsNamed : List ℕ × Value → Type 0
IsNamed entry = (is_name entry.0 ≡ true) × IsSpelled (plain entry.1)

-- each word of an effect is a literal
abbrev pub IsOutput : Effect → Type 0
IsOutput effect.Nothing = ⊤
IsOutput (effect.Commit commit) = IsCommit commit
IsOutput (effect.Given given) = IsEvent given.event × All IsPart given.parts

-- each word of an entry is a literal
abbrev pub IsWorded : Entry → Type 0
IsWorded (Done actor call r f) = IsUnit actor × IsCall call × IsReply r × IsOutput f
IsWorded (Emitted commit) = IsCommit commit

-- ---- what the rules give

-- the reply is `event`, and tells the subscription of what is given
abbrev pub IsToldBy : Given → Reply → Type 0
IsToldBy given (reply.Event h sub) = given.sub ≡ sub
IsToldBy given _ = ⊥

-- what an effect gives is told by the reply
abbrev pub TellsGiven : Effect → Reply → Type 0
TellsGiven effect.Nothing r = ⊤
TellsGiven (effect.Commit commit) r = ⊤
TellsGiven (effect.Given given) r = IsToldBy given r

-- an effect belongs to its reply, and each of their lines that must have others below it has them
abbrev pub IsJoined : Entry → Type 0
IsJoined (Done actor call r f) = TellsGiven f r × ShowsSome r × ChangesSome f
IsJoined (Emitted commit) = EditsSome commit.edit
