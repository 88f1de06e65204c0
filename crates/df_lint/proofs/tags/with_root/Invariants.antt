use Rattle.df_lint.proofs.Names.{◌≡◌, ◌||◌, ℕ, List, take, list_any, tag_eq, contains}
use Rattle.df_lint.proofs.tags.with_root.Given as goal

abbrev pub invariant-loop-p : goal.invariant-loop-p
invariant-loop-p l = (t : List ℕ) → contains l.all t ≡ (contains l.initial.all t || list_any (λ p. tag_eq p.tag t) (take l.p-index l.p-items))
