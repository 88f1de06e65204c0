-- What the reader of get, create, publish, release and drop answers.
use Rattle.std.specs.Prelude.{◌≡◌, ℕ, ◌≤◌, List, ◌∷◌, length, drop, Option, None, Some, Result, Ok, Err}
use Rattle.df_value_text.specs.code.Answer.{Fails}
use Rattle.df_value_text.specs.declared.refused.Fault.{Fault}
use Rattle.df_journal_text.specs.Ask.{asked}
use Rattle.df_journal_text.specs.ReadCall.{named_kinds, plain_kinds}
use Rattle.df_journal_text.specs.ReadWords.{kinds_at}
use Rattle.df_journal_text.specs.declared.ask.Ask.{Ask}

-- the call was read at the place; or its words are those of another, if of any; or it can't be read,
-- as the reader of calls says too
abbrev pub GivesAsk : List ℕ → ℕ → Result (Option (Ask × ℕ)) Fault → Type 0
GivesAsk bytes at (Ok (Some x)) = (x.1 ≤ length bytes)
    × (kinds_at plain_kinds (drop at bytes) ≡ Ok (asked x.0, drop x.1 bytes))
GivesAsk bytes at (Ok None) =
    kinds_at plain_kinds (drop at bytes) ≡ kinds_at named_kinds (drop at bytes)
GivesAsk bytes at (Err e) = Fails bytes e (kinds_at plain_kinds (drop at bytes))

-- the byte behind the first, by which keywords are told apart
abbrev pub letter_in : List ℕ → ℕ
letter_in (a ∷ b ∷ bytes) = b
letter_in _ = 0
