-- A machine that goes over a kept journal.
use Rattle.std.proofs.Common.{◌≡◌, ℕ, List, ◌∷◌, [], ◌+◌, ◌<◌, length, take, get_or, reverse, ap, ◌∙◌}
use Rattle.std.proofs.lemmas.List.{reverse-append, take_more}
use Rattle.df_machine.specs.Journal.{State}
use Rattle.df_start.specs.declared.start.RootStart.{RootStart}
use Rattle.df_unit.specs.declared.entry.Entry.{Entry}
use Rattle.df_replay.specs.Replay.{entry_for, replayed}

-- the beginning of a list, one longer, seen from its end
pub reversed_more : {A : Type 0} (xs : List A) (i : ℕ) (d : A) → i < length xs → reverse (take (i + 1) xs) ≡ get_or xs i d ∷ reverse (take i xs)
reversed_more xs i d inside = ap reverse (take_more xs i d inside) ∙ reverse-append (take i xs) (get_or xs i d ∷ [])

-- the machine after an entry that is the one that the rules give
pub core_more : (roots : List RootStart) (past : List Entry) (kept : Entry) (old new : State) → old ≡ (roots, past) → new ≡ replayed old kept → entry_for (roots, past) kept ≡ kept → new ≡ (roots, kept ∷ past)
core_more roots past kept old new was made right =
    made ∙ ap (λ (s : State). replayed s kept) was ∙ ap (λ (e : Entry). let s : State = (roots, e ∷ past) in s) right
