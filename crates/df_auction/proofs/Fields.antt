-- The six fields of a record.
use Rattle.std.proofs.Common.{◌≡◌, ℕ, List, [], ◌∷◌, length, arith, Some}
use Rattle.csv.specs.Records.{field_at}
use Rattle.df_records.specs.RecordFile.{Fields}

pub six_is : (fs : Fields) (a b c d e f : List ℕ) → length fs ≡ 6
    → Some a ≡ field_at fs 0 → Some b ≡ field_at fs 1 → Some c ≡ field_at fs 2 → Some d ≡ field_at fs 3 → Some e ≡ field_at fs 4 → Some f ≡ field_at fs 5
    → fs ≡ a ∷ b ∷ c ∷ d ∷ e ∷ f ∷ []
unfolding field_at
six_is (p ∷ q ∷ r ∷ s ∷ t ∷ u ∷ []) a b c d e f n ea eb ec ed ee ef = cc
six_is _ a b c d e f n ea eb ec ed ee ef = absurd (omega arith)
