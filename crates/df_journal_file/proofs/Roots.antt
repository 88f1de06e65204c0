-- The lines of roots of a journal, and the line `run` behind them.
use Rattle.df_journal_file.proofs.Names.{IsLargeIn, EntriesFrom, HeadFrom, Onto, StopsIn, IsValueFront, root_text, lines_text, Begins, FileFault, run, AreRootsAt, RootsStop, RootStart, begins_with, Bool, List, None, Option, Some, [], ap, drop, inl, inr, refl, ℕ, ◌++◌, ◌+◌, ◌<◌, ◌^◌, ◌↔◌, ◌∙◌, ◌∷◌, ◌≡◌}
use Rattle.df_lines.proofs.Rows.{leads_as, leads_on, row_some}
use Rattle.df_script_text.proofs.Heads.{IsHead, head_line, head_row, heads_lead, heads_stop}
use Rattle.df_script_text.specs.code.Lines.{numbered}
use Rattle.df_journal_file.proofs.Fronts.{is_front}
use Rattle.df_journal_file.proofs.Ontos.{large_behind}
use Rattle.df_journal_file.proofs.Opens.{none_left}

-- no value stands in such a line
head_small : (n : ℕ) (x : Option RootStart) (u front more : List ℕ) → IsValueFront front → front ++ more ≡ head_line n x ++ u → ⊥
head_small n (Some r) u front more w e = is_front 117 front more w (ap (begins_with 117) e)
head_small n None u front more w e = is_front 114 front more w (ap (begins_with 114) e)

module _ (has : Bool) where
  end : Begins (EntriesFrom has) []
  end = ([], none_left has [] (inl refl))

  abbrev Large : ℕ → List (List ℕ) → List ℕ → Type 0
  Large n before bad = IsLargeIn (HeadFrom has n) before bad

  more : (n : ℕ) (few : n < 2 ^ 32) (r : RootStart) → IsHead n (Some r) → (before : List (List ℕ)) (bad : List ℕ)
      → Large (n + 1) before bad ↔ Large n (root_text n r ∷ before) bad
  more n few r f before bad = large_behind (head_row (EntriesFrom has) end n few) (Some r) f before bad

  last : (n : ℕ) → n < 2 ^ 32 → (before : List (List ℕ)) (bad : List ℕ) → IsLargeIn (EntriesFrom has) before bad ↔ Large n (run ∷ before) bad
  last n few before bad = large_behind (head_row (EntriesFrom has) end n few) None tt before bad

  small : (n : ℕ) → n < 2 ^ 32 → (bad : List ℕ) → ¬ Large n [] bad
  small n few bad l =
      elim ((head_row (EntriesFrom has) end n few).from _ l.viable.1) [
        | inl none ↦ none
        | inr s ↦ head_small n s.0 s.1 l.front l.viable.0 l.wanting s.4
      ]

  -- there is a text
  pub head_some : (n : ℕ) → n < 2 ^ 32 → Begins (HeadFrom has n) []
  head_some n few = row_some (head_row (EntriesFrom has) end n few)

  -- behind roots and the line `run` stand entries
  pub roots_onto : (bytes : List ℕ) (at : ℕ) (rs : List RootStart) (place : ℕ) → AreRootsAt bytes at rs place
      → Onto (HeadFrom has 0) bytes at (EntriesFrom has) place
  roots_onto bytes at rs place r =
      let text = r.passed.text ∙ ap (λ (u : List ℕ). lines_text (numbered root_text 0 rs) ++ u) r.run in
      leads_on bytes at place (leads_as text
      (heads_lead (EntriesFrom has) end Large (IsLargeIn (EntriesFrom has)) more last small rs (drop place bytes) r.passed.few r.passed.fit))

  -- a line that is none of these is bad
  pub roots_stop : (bytes : List ℕ) (at : ℕ) (f : FileFault) → RootsStop bytes at f → StopsIn (HeadFrom has 0) bytes at f
  roots_stop = heads_stop (EntriesFrom has) end Large (IsLargeIn (EntriesFrom has)) more last small
