-- The lines that have no value.
use Rattle.df_journal_file.proofs.Names.{◌≡◌, ℕ, List, [], ◌∷◌, ◌++◌, Ok, codes, decimal, refl, sym, ap, ◌∙◌, append_assoc, append-nil, inl, Spot, IsLabel, label_text, spot_line, IsEvent, IsSpot, word, event_text, unit_text, word_at, event_line, note_line, line, WholeLine}
use Rattle.df_format.specs.Reading.{Read, behind_at}
use Rattle.df_value_text.specs.ReadLabel.{label_at}
use Rattle.df_value_text.specs.ReadName.{name_at}
use Rattle.df_journal_text.proofs.CallFounds.{named_finds}
use Rattle.df_journal_text.proofs.Founds.{Finds, finds_as, finds_behind, finds_then, finds_word, label_finds, short_finds, unit_finds}
use Rattle.df_journal_text.proofs.NameBacks.{event_word}
use Rattle.df_journal_text.proofs.StartBacks.{behind_back}
use Rattle.df_journal_text.proofs.WordBacks.{Word, label_word, name_word}
use Rattle.df_journal_text.specs.ReadEntry.{deleted_at, spot_of}
use Rattle.df_journal_text.specs.ReadName.{event_at, event_of}

-- a word behind a mark
module _ {X : Type 0} {text : X → List ℕ} {Fits : X → Type 0} {read : List ℕ → Read ℕ X} (finds : Finds text Fits read) (words : Word text Fits read)
    (mark : List ℕ) where
  word_whole : WholeLine (λ x. line mark (text x ∷ [])) (λ x. mark ++ word (text x)) Fits (behind_at mark (word_at read))
  word_whole = record {
    found = (finds_behind mark (finds_word finds)).found;
    back = λ x fits. behind_back mark (word_at read) (word (text x)) ∙ ap read (sym (append-nil (text x))) ∙ words.back x [] fits tt;
    same = λ x. ap (λ (u : List ℕ). (mark ++ u) ++ 10 ∷ []) (append-nil (word (text x)));
  }

pub note_whole : WholeLine note_line (λ label. (64 ∷ []) ++ word (label_text label)) IsLabel (behind_at (64 ∷ []) (word_at label_at))
note_whole = word_whole label_finds label_word (64 ∷ [])

event_finds : Finds event_text IsEvent event_at
event_finds =
    finds_as event_of (finds_then unit_finds (finds_behind (33 ∷ []) short_finds)) (λ x f. (append_assoc (unit_text x.0) (codes "!") (decimal x.1), f))

pub event_whole : (mark : List ℕ) → WholeLine (event_line mark) (λ event. mark ++ word (event_text event)) IsEvent (behind_at mark (word_at event_at))
event_whole mark = word_whole event_finds event_word mark

abbrev pub spot_words : Spot → List ℕ
spot_words spot = (45 ∷ []) ++ (word (label_text spot.label) ++ word spot.name)

spot_finds : Finds (λ (s : Spot). word (label_text s.label) ++ word s.name) IsSpot deleted_at
spot_finds = finds_as spot_of named_finds (λ x f. (refl, (f.1, f.0)))

spot_back : (spot : Spot) → IsSpot spot → deleted_at (word (label_text spot.label) ++ word spot.name) ≡ Ok (spot, [])
spot_back spot f =
    let e1 : label_at (label_text spot.label ++ word spot.name) ≡ Ok (spot.label, word spot.name) = label_word.back spot.label (word spot.name) f.1
    (inl refl) in
    let e2 : name_at spot.name ≡ Ok (spot.name, []) = ap name_at (sym (append-nil spot.name)) ∙ name_word.back spot.name [] f.0 tt in
    rw (e1, e2) refl

pub spot_whole : WholeLine spot_line spot_words IsSpot (behind_at (45 ∷ []) deleted_at)
spot_whole = record {
  found = (finds_behind (45 ∷ []) spot_finds).found;
  back = spot_back;
  same = λ spot. ap (λ (u : List ℕ). ((45 ∷ []) ++ (word (label_text spot.label) ++ u)) ++ 10 ∷ []) (append-nil (word spot.name));
}
