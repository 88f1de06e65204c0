-- The entries of a journal at some places.
use Rattle.std.specs.Prelude.{◌≡◌, ℕ, ◌<◌, ◌≤◌, List, [], length, map, reverse, slice_get}
use Rattle.df_machine.specs.Journal.{firsts}
use Rattle.df_replay.specs.Noted.{noted}
use Rattle.df_rules.specs.Legal.{Legal}
use Rattle.df_rules.specs.Start.{rows}
use Rattle.df_start.specs.declared.start.RootStart.{RootStart}
use Rattle.df_unit.specs.declared.entry.Entry.{Entry}
use Rattle.df_unit.specs.declared.entry.Noted.{Noted}
use Rattle.df_why.specs.Grounds.{IsGrounds, at_places}
use Rattle.df_journal_text.specs.Start.{journal_text}
use Rattle.df_audit.specs.declared.audit.Finding.{Finding}
use Rattle.df_audit.specs.declared.audit.Finding.TheVariants.{Right, Wrong, NoPlace}

-- the places on which the entry at a place rests, and what is promised of these: they are a legal
-- journal that ends with the entry, and the notes are theirs there too
pub record AreGrounds (roots : List RootStart) (entries : List Entry) (place : ℕ)
    (places : List ℕ) : Type 0 where
  pub exact : IsGrounds rows (firsts roots) (reverse entries) place places
  pub legal : Legal rows (firsts roots) (reverse (at_places places entries))
  pub last : slice_get (reverse (at_places places entries)) 0 ≡ slice_get entries place
  pub noted : noted roots (reverse (at_places places entries))
      ≡ at_places places (noted roots (reverse entries))

-- what is told of a place, by the right notes of a journal: the entries on which the one there
-- rests, or how many entries there are
abbrev pub ExplainsNoted : ℕ → List RootStart → List Noted → Finding → List ℕ → Type 0
ExplainsNoted place roots notes Right text =
    (places : List ℕ) × AreGrounds roots (map (λ n. n.entry) notes) place places
    × (place < length notes) × (text ≡ journal_text roots (at_places places notes))
ExplainsNoted place roots notes (Wrong first) text = ⊥
ExplainsNoted place roots notes (NoPlace count) text =
    (count ≡ length notes) × (count ≤ place) × (text ≡ [])
