-- Texts put together in another order.
use Rattle.df_journal_text.proofs.Names.{◌≡◌, ℕ, List, [], ◌++◌, append_assoc, append-nil}

pub four_end : (k a b c d : List ℕ) → k ++ (a ++ (b ++ (c ++ (d ++ [])))) ≡ k ++ ((a ++ (b ++ c)) ++ d)
four_end k a b c d = simp (append_assoc, append-nil)

pub three_apart : (a b c d : List ℕ) → (a ++ (b ++ c)) ++ d ≡ a ++ (b ++ (c ++ d))
three_apart a b c d = simp append_assoc

pub four_apart : (k a b c v d : List ℕ) → (k ++ (a ++ (b ++ (c ++ (v ++ []))))) ++ d ≡ k ++ ((a ++ (b ++ c)) ++ (v ++ d))
four_apart k a b c v d = simp (append_assoc, append-nil)

pub part_apart : (m a b v ps e : List ℕ) → (m ++ (a ++ (b ++ (v ++ ps)))) ++ e ≡ ((m ++ (a ++ b)) ++ (v ++ ps)) ++ e
part_apart m a b v ps e = simp append_assoc

pub shown_apart : (m a v ps e : List ℕ) → (m ++ (a ++ (v ++ ps))) ++ e ≡ ((m ++ a) ++ (v ++ ps)) ++ e
shown_apart m a v ps e = simp append_assoc
