-- What an append leaves of an image, at each of its writes.
use Rattle.std.proofs.Common.{◌≡◌, inl, inr, ℕ, ◌+◌, ◌<◌, ◌≤◌, List, [], ◌∷◌, ◌++◌, length, get_or, take, drop, refl, sym, ◌∙◌, ap, arith, append_assoc, length-append, take-append-drop}
use Rattle.std.proofs.lemmas.Bool.{cases_eq}
use Rattle.std.proofs.lemmas.List.{append-nil, take_at, drop_at, drop_more}
use Rattle.df_disk.specs.Disk.{Torn, overwritten}
use Rattle.df_disk.specs.Records.{IsEmpty, Keeps, KeepsOrOneMore, frame_text, opened, record_text}

abbrev Lists : Type 0
Lists = List (List ℕ)

-- one record more
pub opened-push : (records : Lists) (bytes rest : List ℕ) → opened (records ++ bytes ∷ []) ++ rest ≡ opened records ++ (1 ∷ record_text bytes ++ rest)
opened-push [] bytes rest = ap (λ (l : List ℕ). l ++ rest) (append-nil (1 ∷ record_text bytes))
opened-push (first ∷ records) bytes rest =
    append_assoc (1 ∷ record_text first) (opened (records ++ bytes ∷ [])) rest
    ∙ ap (λ (l : List ℕ). 1 ∷ record_text first ++ l) (opened-push records bytes rest)
    ∙ sym (append_assoc (1 ∷ record_text first) (opened records) (1 ∷ record_text bytes ++ rest))

pub length-opened-push : (records : Lists) (bytes : List ℕ) → length (opened (records ++ bytes ∷ [])) ≡ length (opened records) + length (frame_text bytes)
length-opened-push records bytes =
    let whole : length (opened (records ++ bytes ∷ []) ++ []) ≡ length (opened records ++ (1 ∷ record_text bytes ++ [])) = ap (λ (l : List ℕ). length l)
    (opened-push records bytes []) in
    omega (
      arith,
      whole,
      length-append (opened (records ++ bytes ∷ [])) [],
      length-append (opened records) (1 ∷ record_text bytes ++ []),
      length-append (record_text bytes) [],
      length-append (record_text bytes) (0 ∷ []),
    )

-- the record is behind a gate, with the next gate closed
pub record Staged (records : Lists) (bytes image : List ℕ) : Type 0 where
  pub gate : ℕ
  pub tail : List ℕ
  pub split : image ≡ opened records ++ gate ∷ (frame_text bytes ++ tail)

framed : (records : Lists) (bytes tail : List ℕ) → opened records ++ 1 ∷ (frame_text bytes ++ tail) ≡ opened (records ++ bytes ∷ []) ++ 0 ∷ tail
framed records bytes tail = ap (λ (l : List ℕ). opened records ++ 1 ∷ l) (append_assoc (record_text bytes) (0 ∷ []) tail)
    ∙ sym (opened-push records bytes (0 ∷ tail))

module _ (records : Lists) (place : ℕ) (ends : length (opened records) ≡ place) where
  -- the front with its gate
  front_gate : (gate : ℕ) (rest : List ℕ) → take (place + 1) (opened records ++ gate ∷ rest) ≡ opened records ++ gate ∷ []
  front_gate gate rest =
      ap (take (place + 1)) (sym (append_assoc (opened records) (gate ∷ []) rest))
      ∙ take_at (opened records ++ gate ∷ []) rest (place + 1) (omega (arith, ends, length-append (opened records) (gate ∷ [])))

  front : (gate : ℕ) (rest : List ℕ) → take place (opened records ++ gate ∷ rest) ≡ opened records
  front gate rest = take_at (opened records) (gate ∷ rest) place ends

  back : (gate : ℕ) (rest : List ℕ) → drop (place + 1) (opened records ++ gate ∷ rest) ≡ rest
  back gate rest =
      ap (drop (place + 1)) (sym (append_assoc (opened records) (gate ∷ []) rest))
      ∙ drop_at (opened records ++ gate ∷ []) rest (place + 1) (omega (arith, ends, length-append (opened records) (gate ∷ [])))

  -- whatever stands behind a closed gate
  pub keeps_front : (image c : List ℕ) → Keeps records image → take (place + 1) c ≡ take (place + 1) image → Keeps records c
  keeps_front image c keeps same = record {
    gate = keeps.gate;
    rest = drop (place + 1) c;
    closed = keeps.closed;
    split = sym (take-append-drop (place + 1) c)
        ∙ ap (λ (l : List ℕ). l ++ drop (place + 1) c) (same ∙ ap (take (place + 1)) keeps.split ∙ front_gate keeps.gate keeps.rest)
        ∙ append_assoc (opened records) (keeps.gate ∷ []) (drop (place + 1) c);
  }

  pub keeps_longer : (image : List ℕ) → Keeps records image → place < length image
  keeps_longer image keeps = omega (arith, ends, ap length keeps.split, length-append (opened records) (keeps.gate ∷ keeps.rest))

  -- the first write, done
  pub staged : (bytes image : List ℕ) → Keeps records image → Staged records bytes (overwritten (place + 1) (frame_text bytes) image)
  staged bytes image keeps =
      let tail = drop (place + 1 + length (frame_text bytes)) image in
      record {
        gate = keeps.gate;
        tail = tail;
        split = ap (λ (l : List ℕ). l ++ frame_text bytes ++ tail) (ap (take (place + 1)) keeps.split ∙ front_gate keeps.gate keeps.rest)
            ∙ append_assoc (opened records ++ keeps.gate ∷ []) (frame_text bytes) tail
            ∙ append_assoc (opened records) (keeps.gate ∷ []) (frame_text bytes ++ tail);
      }

  pub staged_longer : (bytes image : List ℕ) → Staged records bytes image → place < length image
  staged_longer bytes image stage = omega (arith, ends, ap length stage.split, length-append (opened records) (stage.gate ∷ (frame_text bytes ++ stage.tail)))

  -- the second write, torn
  pub torn_gate : (bytes image c : List ℕ) → Staged records bytes image → Torn place 1 image c → KeepsOrOneMore records bytes c
  torn_gate bytes image c stage torn =
      let gate = get_or c place 0 in
      let rest = frame_text bytes ++ stage.tail in
      let first : take place c ≡ opened records = torn.before ∙ ap (take place) stage.split ∙ front stage.gate rest in
      let last : drop (place + 1) c ≡ rest = torn.after ∙ ap (drop (place + 1)) stage.split ∙ back stage.gate rest in
      let inside : place < length c = omega (arith, torn.no_shorter, staged_longer bytes image stage) in
      let whole : c ≡ opened records ++ gate ∷ rest = sym (take-append-drop place c) ∙ ap (λ (l : List ℕ). l ++ drop place c) first
      ∙ ap (λ (l : List ℕ). opened records ++ l) (drop_more c place 0 inside ∙ ap (λ (l : List ℕ). gate ∷ l) last) in
      elim (cases_eq gate 1) [
        | inl is_open ↦ inr (record {
          gate = 0;
          rest = stage.tail;
          closed = λ e. omega arith;
          split = whole
              ∙ ap (λ (g : ℕ). opened records ++ g ∷ rest) is_open ∙ framed records bytes stage.tail;
        })
        | inr shut ↦ inl (record { gate = gate; rest = rest; closed = shut; split = whole })
      ]

  -- and done
  pub opens : (bytes image : List ℕ) → Staged records bytes image → Keeps (records ++ bytes ∷ []) (overwritten place (1 ∷ []) image)
  opens bytes image stage =
      let rest = frame_text bytes ++ stage.tail in
      record {
        gate = 0;
        rest = stage.tail;
        closed = λ e. omega arith;
        split = ap (λ (l : List ℕ). l ++ (1 ∷ []) ++ drop (place + 1) image) (ap (take place) stage.split ∙ front stage.gate rest)
            ∙ ap (λ (l : List ℕ). opened records ++ (1 ∷ []) ++ l) (ap (drop (place + 1)) stage.split ∙ back stage.gate rest)
            ∙ append_assoc (opened records) (1 ∷ []) rest
            ∙ framed records bytes stage.tail;
      }

-- ---- an empty image

pub short_empty : (c : List ℕ) → length c ≤ 1 → IsEmpty c
short_empty c short = inl short

-- a first byte that isn't an open gate, behind which anything stands
pub first_closed : (image : List ℕ) → 1 < length image → IsEmpty image → Keeps [] image
first_closed [] long empty = absurd (omega arith)
first_closed (gate ∷ rest) long (inl short) = absurd (omega arith)
first_closed (gate ∷ rest) long (inr shut) = record { gate = gate; rest = rest; closed = shut; split = refl }
