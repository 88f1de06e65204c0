use Rattle.df_value_text.proofs.Names.{ℕ, ◌-◌, ◌≤◌, ◌<◌, length, drop, short_at, leads_number, numbers_at}
use Rattle.df_value_text.proofs.Loops.{Left}
use Rattle.df_value_text.proofs.tag_reader.numbers_at.Given as goal

abbrev pub invariant-loop-numbers : goal.invariant-loop-numbers
invariant-loop-numbers l = (last : ℕ)
    × Left leads_number (λ prev. short_at) (numbers_at (drop l.at l.bytes)) l.numbers.items last l.bytes l.place
    × (l.place ≤ length l.bytes)
    × (0 < length l.numbers.items)
    × (l.at ≤ l.place)

abbrev pub decreases-loop-numbers : goal.decreases-loop-numbers
decreases-loop-numbers l = length l.bytes - l.place
