use Rattle.std.proofs.Common.{rules, ◌≡◌, ◌∙◌, ◌++◌, ◌==◌, ap, sym, List, ℕ}
use Rattle.std.proofs.lemmas.List.Folds.{list_any-append}
use Rattle.std.proofs.lemmas.List.Sorted.{list_any-IsPermutation}
use Rattle.df_index.proofs.Pairs.{or_comm}
use Rattle.df_instances.specs.Marks.{has_place}
use Rattle.df_instances.proofs.marks.merged.Goals as goal

pub returns-clause-places : goal.returns-clause-places
returns-clause-places c k =
    let joined : c.extend_from_slice-room.new.self.items ≡ c.args.next.items ++ c.args.handed.now = search rules in
    sym (list_any-IsPermutation (λ (j : ℕ). j == k) _ _ c.sort_unstable.ensures.permutation)
    ∙ ap (λ (l : List ℕ). has_place l k) joined
    ∙ list_any-append (λ (j : ℕ). j == k) c.args.next.items c.args.handed.now
    ∙ or_comm (has_place c.args.next.items k) (has_place c.args.handed.now k)
