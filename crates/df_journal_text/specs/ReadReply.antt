-- Reading replies: the words behind the arrow.
use Rattle.std.specs.Prelude.{ℕ, List, [], ◌∷◌, codes}
use Rattle.df_format.specs.Reading.{Read, as_at, then_at}
use Rattle.df_unit.specs.declared.reply.Reply.{Reply}
use Rattle.df_unit.specs.declared.reply.Reply.TheVariants as reply
use Rattle.df_value_text.specs.Number.{number_at}
use Rattle.df_value_text.specs.ReadLabel.{label_at, privilege_at}
use Rattle.df_value_text.specs.ReadTag.{short_at, tag_at}
use Rattle.df_journal_text.specs.ReadWords.{word_at, bare_at, kinds_at}

-- a number of 64 bits
abbrev pub long_at : List ℕ → Read ℕ ℕ
long_at bytes = number_at 18446744073709551615 bytes

-- the last of the replies by their keywords
abbrev pub last_replies : List (List ℕ × (List ℕ → Read ℕ Reply))
last_replies =
    (codes "too many handles", bare_at reply.TooManyHandles)
    ∷ (
      codes "too many parts",
      λ bytes. as_at (λ wanted. reply.TooManyParts wanted)
          (word_at long_at) bytes,
    )
    ∷ (codes "too many subs", bare_at reply.TooManySubs)
    ∷ (codes "too many units", bare_at reply.TooManyUnits)
    ∷ (codes "too deep", bare_at reply.TooDeep)
    ∷ (codes "exhausted", bare_at reply.Exhausted)
    ∷ (codes "lacks", λ bytes. as_at (λ p. reply.Lacks p) (word_at privilege_at) bytes)
    ∷ (
      codes "cannot write",
      λ bytes. as_at (λ x. reply.CannotWrite x.0 x.1)
          (then_at (word_at label_at) (word_at label_at)) bytes,
    )
    ∷ []

-- the replies that refuse without more, and then the last
abbrev pub refusing_replies : List (List ℕ × (List ℕ → Read ℕ Reply))
refusing_replies =
    (codes "no unit", bare_at reply.NoSuchUnit)
    ∷ (codes "no handle", bare_at reply.NoSuchHandle)
    ∷ (codes "no part", bare_at reply.NoSuchPart)
    ∷ (codes "not draft", bare_at reply.NotDraft)
    ∷ (codes "not received", bare_at reply.NotReceived)
    ∷ (codes "empty event", bare_at reply.EmptyEvent)
    ∷ (codes "not in managed", bare_at reply.NotInManaged)
    ∷ last_replies

-- the replies by their keywords; the parts of `parts` stand in the lines below
abbrev pub reply_kinds : List (List ℕ × (List ℕ → Read ℕ Reply))
reply_kinds =
    (codes "ok", bare_at reply.Ok)
    ∷ (
      codes "event",
      λ bytes. as_at (λ x. reply.Event x.0 x.1)
          (then_at (word_at short_at) (word_at short_at)) bytes,
    )
    ∷ (codes "parts", bare_at (reply.Parts []))
    ∷ (codes "nothing", bare_at reply.Nothing)
    ∷ (codes "handle", λ bytes. as_at (λ h. reply.Handle h) (word_at short_at) bytes)
    ∷ (codes "tag", λ bytes. as_at (λ tag. reply.Tag tag) (word_at tag_at) bytes)
    ∷ (codes "sub", λ bytes. as_at (λ n. reply.Sub n) (word_at short_at) bytes)
    ∷ (codes "unit", λ bytes. as_at (λ n. reply.Unit n) (word_at short_at) bytes)
    ∷ refusing_replies

-- the words of a reply
abbrev pub reply_at : List ℕ → Read ℕ Reply
reply_at bytes = kinds_at reply_kinds bytes
