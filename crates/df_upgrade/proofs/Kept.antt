-- A journal that is judged and noted, as far as it has come.
use Rattle.std.proofs.Common.{◌≡◌, List, [], ◌∷◌, ◌++◌, Some, length, reverse, ap, sym, subst, ◌∙◌}
use Rattle.std.proofs.lemmas.List.{length-reverse, reverse-append}
use Rattle.df_machine.specs.Journal.{firsts}
use Rattle.df_machine.specs.Tables.{AgreesWith}
use Rattle.df_machine.specs.declared.tables.Tables.{Tables}
use Rattle.df_rules.specs.Legal.{Legal}
use Rattle.df_rules.specs.Start.{rows}
use Rattle.df_start.specs.declared.start.RootStart.{RootStart}
use Rattle.df_unit.specs.declared.entry.Entry.{Entry}
use Rattle.df_unit.specs.declared.entry.Noted.{Noted}
use Rattle.df_replay.proofs.Right.{is_right, right_is}
use Rattle.df_replay.specs.Noted.{noted, noted_in}
use Rattle.df_replay.specs.Replay.{entry_for, replayed}
use Rattle.df_check.proofs.JudgedNoted.{noted_length}
use Rattle.df_check.specs.Check.{IsFirstWrong, TellsOther}

-- the tables are those of what was kept so far, which is legal, and what is noted with it stands
-- there
pub record IsSoFar (roots : List RootStart) (done : List Entry) (tables : Tables) (notes : List Noted) : Type 0 where
  pub made : AgreesWith (roots, reverse done) tables
  pub legal : Legal rows (firsts roots) (reverse done)
  pub noted : notes ≡ noted roots (reverse done)

module _ (roots : List RootStart) (done : List Entry) (kept : Entry) (old : Tables) (before : List Noted) (so : IsSoFar roots done old before) where
  pub so_far_more : (new : Tables) (now : List Noted) → AgreesWith (replayed (roots, reverse done) kept) new → entry_for (roots, reverse done) kept ≡ kept
      → now ≡ before ++ noted_in (roots, reverse done) kept ∷ [] → IsSoFar roots (done ++ kept ∷ []) new now
  so_far_more new now made right pushed =
      let past = reverse done in
      let more = sym (reverse-append done (kept ∷ [])) in
      record {
        made = subst (λ (p : List Entry). AgreesWith (roots, p) new) (ap (λ (e : Entry). e ∷ past) right ∙ more) made;
        legal = subst (Legal rows (firsts roots)) more (so.legal, is_right roots past kept right);
        noted = pushed ∙ ap (λ (ns : List Noted). ns ++ noted_in (roots, past) kept ∷ []) so.noted ∙ ap (noted roots) more;
      }

  pub first_wrong : (journal rest : List Entry) (other : Entry) → done ++ kept ∷ rest ≡ journal
      → TellsOther (entry_for (roots, reverse done) kept) kept (Some other) → IsFirstWrong roots journal (length before) other
  first_wrong journal rest other whole tells =
      record {
        older = done;
        kept = kept;
        newer = rest;
        whole = sym whole;
        at = ap (λ (ns : List Noted). length ns) so.noted ∙ noted_length roots (reverse done) ∙ length-reverse done;
        legal = so.legal;
        wrong = λ right. tells.1 (right_is roots (reverse done) kept right);
        answer = tells.0;
      }
