-- Journals that are gone over entry by entry.
use Rattle.std.specs.Prelude.{◌≡◌, ℕ, ◌≤◌, Bool, List, [], ◌∷◌, ◌++◌, length, drop, codes, Option, Some, None, refl}
use Rattle.std.specs.Coded.{Coded, code_by, coded×, coded_bool, coded_list, coded_ℕ}
use Rattle.std.specs.List.{All, flat_map}
use Rattle.df_lines.specs.Lines.{ended}
use Rattle.df_start.specs.declared.start.RootStart.{RootStart}
use Rattle.df_unit.specs.declared.entry.Noted.{Noted}
use Rattle.df_journal_text.specs.Entry.{noted_text}
use Rattle.df_journal_text.specs.Fits.{AreRoots}
use Rattle.df_journal_text.specs.Line.{line}
use Rattle.df_journal_text.specs.Start.{start_text}
use Rattle.df_journal_file.specs.Either.{IsJournalOf, journal_by}
use Rattle.df_journal_file.specs.code.Entries.{IsWholeBy}
use Rattle.df_journal_file.specs.code.Files.{first_of}

-- the bytes of a journal, whether its entries have notes, and the place behind those that were read
pub record CursorState : Type 0 where
  pub bytes : List ℕ
  pub has_notes : Bool
  pub place : ℕ

-- a cursor is stored as its three parts
abbrev pub cursor_code : Coded CursorState
cursor_code =
    code_by (List ℕ × (Bool × ℕ)) (coded× (coded_list coded_ℕ) (coded× coded_bool coded_ℕ))
    (λ c. (c.bytes, (c.has_notes, c.place)))
    (λ p. record { bytes = p.0; has_notes = p.1.0; place = p.1.1 })
    (λ _. refl)

-- what stands before a journal's entries: its first line, in the second version or the first, the
-- lines of its roots, and the line `run`
abbrev pub front_text : Bool → List RootStart → List ℕ
front_text has roots = ended (first_of has) ++ start_text roots ++ line (codes "run") []

-- up to the place stand the first line of this version, the lines of these roots, the line `run` and
-- these entries
pub record HasPassed (roots : List RootStart) (notes : List Noted) (c : CursorState) : Type 0 where
  pub inside : c.place ≤ length c.bytes
  pub begun : AreRoots roots
  pub fit : All (IsWholeBy c.has_notes) notes
  pub text : c.bytes ≡ front_text c.has_notes roots ++ flat_map noted_text notes
      ++ drop c.place c.bytes

-- behind these entries the next was read; or there is none, and they are all of the journal
abbrev pub GoesOn : List RootStart → List Noted → Option Noted → CursorState → Type 0
GoesOn roots notes (Some noted) c = HasPassed roots (notes ++ noted ∷ []) c
GoesOn roots notes None c = IsJournalOf (journal_by c.has_notes roots notes) c.bytes
