-- The notes of a legal journal are right.
use Rattle.std.proofs.Common.{◌≡◌, List, [], ◌∷◌, ◌++◌, map, reverse, refl, ap, sym, subst, ◌∙◌}
use Rattle.std.proofs.lemmas.List.{map-append, reverse-append, reverse-reverse}
use Rattle.df_machine.specs.Journal.{firsts}
use Rattle.df_rules.specs.Legal.{Legal}
use Rattle.df_rules.specs.Start.{rows}
use Rattle.df_start.specs.declared.start.RootStart.{RootStart}
use Rattle.df_unit.specs.declared.entry.Entry.{Entry}
use Rattle.df_unit.specs.declared.entry.Noted.{Noted}
use Rattle.df_replay.specs.Noted.{AreRight, noted, noted_in, past_of}

abbrev bare : Noted → Entry
bare n = n.entry

module _ (roots : List RootStart) where
  bare_noted : (past : List Entry) → map bare (noted roots past) ≡ reverse past
  bare_noted [] = refl
  bare_noted (e ∷ past) =
      map-append bare (noted roots past) (noted_in (roots, past) e ∷ []) ∙ ap (λ (es : List Entry). es ++ e ∷ []) (bare_noted past) ∙ sym (reverse-append (e ∷ []) past)

  pub noted_past : (past : List Entry) → past_of (noted roots past) ≡ past
  noted_past past = ap reverse (bare_noted past) ∙ reverse-reverse past

  pub right_notes : (past : List Entry) → Legal rows (firsts roots) past → AreRight roots (noted roots past)
  right_notes past legal = record { legal = subst (Legal rows (firsts roots)) (sym (noted_past past)) legal; noted = ap (noted roots) (sym (noted_past past)) }
