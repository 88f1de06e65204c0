use Rattle.std.proofs.Common.{rules, ◌≡◌, ◌∙◌, ◌++◌, ◌&&◌, ◌==◌, ap, sym, List}
use Rattle.std.proofs.lemmas.List.Folds.{list_any-append}
use Rattle.std.proofs.lemmas.List.Sorted.{list_any-IsPermutation}
use Rattle.df_index.specs.Due.{Pair, has_pair}
use Rattle.df_index.proofs.Pairs.{or_comm}
use Rattle.df_index.proofs.marks.merged.Goals as goal

pub returns-clause-pairs : goal.returns-clause-pairs
returns-clause-pairs c p =
    let joined : c.extend_from_slice-room.new.self.items ≡ c.args.next.items ++ c.args.handed.now = search rules in
    sym (list_any-IsPermutation (λ (q : Pair). (q.0 == p.0) && (q.1 == p.1)) _ _ c.sort_unstable.ensures.permutation)
    ∙ ap (λ (l : List Pair). has_pair l p) joined
    ∙ list_any-append (λ (q : Pair). (q.0 == p.0) && (q.1 == p.1)) c.args.next.items c.args.handed.now
    ∙ or_comm (has_pair c.args.next.items p) (has_pair c.args.handed.now p)
