-- A label that was read is known by its word.
use Rattle.df_journal_text.proofs.Names.{◌≡◌, ℕ, ◌-◌, ◌≤◌, List, ◌++◌, Some, Ok, length, take, drop, sym, ap, subst, ◌∙◌, Label, IsLabel, label_text, label_at, label_back, IsKnown}
use Rattle.df_journal_text.proofs.Between.{between, onward}
use Rattle.df_journal_text.proofs.Founds.{label_finds}

-- where its word stands, it is read
pub known_stands : (label : Label) (word bytes rest : List ℕ) → IsKnown (Some label) word → bytes ≡ word ++ rest → label_at bytes ≡ Ok (label, rest)
known_stands label word bytes rest known stands = ap label_at stands ∙ known rest

module _ (bytes : List ℕ) (at end : ℕ) (inside : at ≤ length bytes) (within : end ≤ length bytes) (label : Label)
    (read : label_at (drop at bytes) ≡ Ok (label, drop end bytes)) where
  found : (drop at bytes ≡ label_text label ++ drop end bytes) × IsLabel label
  found = label_finds.found (drop at bytes) label (drop end bytes) read

  pub label_onward : at ≤ end
  label_onward = onward bytes at end inside within (label_text label) found.0

  -- its word is what stands up to the place behind it
  pub label_known : IsKnown (Some label) (take (end - at) (drop at bytes))
  label_known = λ rest.
      subst (λ (word : List ℕ). label_at (word ++ rest) ≡ Ok (label, rest)) (sym (between bytes at end inside within (label_text label) found.0))
      (label_back label rest found.1)
