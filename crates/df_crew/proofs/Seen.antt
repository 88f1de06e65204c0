-- A crew by its origin and its journal, and how both grow.
use Rattle.df_crew.proofs.Names.{◌≡◌, List, ◌++◌, refl, sym, ap, ◌∙◌, length, reverse, length-reverse, reverse-append, reverse-reverse, IsPrefix, CrewState, IsMore, crew_at, origin_of, seen_of, Origin, RootStart, Entry}

module _ {B : Type 0} where
  abbrev origin_by : List RootStart → List B → Origin B
  origin_by start brains = record { start = start; brains = brains }

  abbrev crew_by : List RootStart → List B → List Entry → CrewState B
  crew_by start brains past = record { core = (start, past); brains = brains }

  -- a crew is the one of its origin with its journal
  pub crew_is : (o : Origin B) (seen : List Entry) (crew : CrewState B) → origin_of crew ≡ o → seen_of crew ≡ seen → crew_at o seen ≡ crew
  crew_is o seen crew origin is =
      ap (λ (p : Origin B). crew_at p seen) (sym origin)
      ∙ ap (λ (es : List Entry). crew_at (origin_of crew) es) (sym is)
      ∙ ap (λ (es : List Entry). crew_by crew.core.0 crew.brains es) (reverse-reverse crew.core.1)

  -- what grows keeps its origin
  pub more_origin : (a b : CrewState B) → IsMore a b → origin_of b ≡ origin_of a
  more_origin a b m =
      ap (λ (start : List RootStart). origin_by start b.brains) m.start
      ∙ ap (λ (brains : List B). origin_by a.core.0 brains) m.brains

  -- and its journal begins with the earlier one
  pub more_seen : (a b : CrewState B) → IsMore a b → IsPrefix (seen_of a) (seen_of b)
  more_seen a b m = (reverse m.more, sym (ap (λ (es : List Entry). reverse es) m.journal ∙ reverse-append m.more a.core.1))

  pub seen_length : (crew : CrewState B) → length (seen_of crew) ≡ length crew.core.1
  seen_length crew = length-reverse crew.core.1

-- how long a journal is, of which the newest entry stands first
pub counted : (es past : List Entry) → reverse es ≡ past → length es ≡ length (reverse past)
counted es past e = sym (length-reverse (reverse es) ∙ length-reverse es) ∙ ap (λ (l : List Entry). length (reverse l)) e
