-- The two fields of a record.
use Rattle.std.proofs.Common.{◌≡◌, ℕ, List, [], ◌∷◌, length, arith, Some}
use Rattle.csv.specs.Records.{field_at}
use Rattle.df_records.specs.RecordFile.{Fields}

pub two_is : (fs : Fields) (a b : List ℕ) → length fs ≡ 2 → Some a ≡ field_at fs 0 → Some b ≡ field_at fs 1 → fs ≡ a ∷ b ∷ []
unfolding field_at
two_is (p ∷ q ∷ []) a b n ea eb = cc
two_is _ a b n ea eb = absurd (omega arith)
