-- How replies are spelled: the words behind the arrow.
use Rattle.std.specs.Prelude.{ℕ, List, [], ◌∷◌, codes, decimal}
use Rattle.df_value_text.specs.Label.{label_text, tag_text, privilege_text}
use Rattle.df_unit.specs.declared.reply.Reply.{Reply}
use Rattle.df_unit.specs.declared.reply.Reply.TheVariants as reply

-- the words of a reply
abbrev pub reply_words : Reply → List (List ℕ)
reply_words reply.Ok = codes "ok" ∷ []
reply_words (reply.Handle h) = codes "handle" ∷ decimal h ∷ []
reply_words (reply.Tag tag) = codes "tag" ∷ tag_text tag ∷ []
reply_words (reply.Sub n) = codes "sub" ∷ decimal n ∷ []
reply_words (reply.Unit n) = codes "unit" ∷ decimal n ∷ []
reply_words (reply.Event h sub) = codes "event" ∷ decimal h ∷ decimal sub ∷ []
reply_words (reply.Parts parts) = codes "parts" ∷ []
reply_words reply.Nothing = codes "nothing" ∷ []
reply_words reply.NoSuchUnit = codes "no unit" ∷ []
reply_words reply.NoSuchHandle = codes "no handle" ∷ []
reply_words reply.NoSuchPart = codes "no part" ∷ []
reply_words reply.NotDraft = codes "not draft" ∷ []
reply_words reply.NotReceived = codes "not received" ∷ []
reply_words reply.EmptyEvent = codes "empty event" ∷ []
reply_words reply.NotInManaged = codes "not in managed" ∷ []
reply_words reply.TooManyHandles = codes "too many handles" ∷ []
reply_words (reply.TooManyParts wanted) = codes "too many parts" ∷ decimal wanted ∷ []
reply_words reply.TooManySubs = codes "too many subs" ∷ []
reply_words reply.TooManyUnits = codes "too many units" ∷ []
reply_words reply.TooDeep = codes "too deep" ∷ []
reply_words reply.Exhausted = codes "exhausted" ∷ []
reply_words (reply.Lacks p) = codes "lacks" ∷ privilege_text p ∷ []
reply_words (reply.CannotWrite out part) = codes "cannot write" ∷ label_text out ∷ label_text part
    ∷ []
