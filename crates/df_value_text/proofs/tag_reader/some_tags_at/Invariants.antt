use Rattle.df_value_text.proofs.Names.{◌≡◌, ℕ, List, ◌-◌, ◌≤◌, [], ◌∷◌, ◌++◌, length, drop, next_at, leads_tag, some_tags_at}
use Rattle.std.specs.Vec.{vec_len}
use Rattle.df_value_text.proofs.Loops.{Left}
use Rattle.df_value_text.proofs.tag_reader.some_tags_at.Given as goal

abbrev pub invariant-tags : goal.invariant-tags
invariant-tags l = (before : List (List ℕ))
    × (last : List ℕ)
    × (l.tags.items ≡ before ++ last ∷ [])
    × Left leads_tag next_at (some_tags_at (drop l.at l.bytes)) l.tags.items last l.bytes l.place
    × (l.place ≤ length l.bytes)
    × (vec_len l.tags ≡ length l.tags.items)

abbrev pub decreases-tags : goal.decreases-tags
decreases-tags l = length l.bytes - l.place
