-- Where an entry or what was handed over is to stand, and which mark begins a commit.
use Rattle.std.specs.Prelude.{◌≡◌, ℕ, true, false, List, codes, Option, Some, None, ◌⊎◌}
use Rattle.df_unit.specs.declared.reply.Reply.{Reply}
use Rattle.df_unit.specs.declared.reply.Reply.TheVariants as reply
use Rattle.df_value_text.specs.Number.{begins_with}
use Rattle.df_journal_text.specs.ReadWords.{begins_pair}
use Rattle.df_journal_file.specs.Journal.{EndsFile}
use Rattle.df_journal_file.specs.code.Languages.{IsHanding}

-- the mark of a commit
abbrev pub IsCommitMark : List ℕ → Type 0
IsCommitMark mark = (mark ≡ codes "=") ⊎ (mark ≡ codes "emitted")

-- neither an end stands here nor what the world emitted
abbrev pub IsUnitHere : List ℕ → Type 0
IsUnitHere s = (¬ EndsFile s) × (begins_with 101 s ≡ false)

-- the reply hands an event over for this subscription and its mark stands here, or not both
abbrev pub IsHandedAt : List ℕ → Reply → Option ℕ → Type 0
IsHandedAt s r (Some sub) = ((h : ℕ) × (r ≡ reply.Event h sub)) × (begins_pair 60 32 s ≡ true)
IsHandedAt s r None = IsHanding r → begins_pair 60 32 s ≡ false
