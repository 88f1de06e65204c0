-- Ticks by the words of a generator.
use Rattle.std.specs.Prelude.{ℕ, ◌+◌, ◌-◌, ◌*◌, ◌%◌, min, max, List, [], ◌∷◌, ◌==◌, if◌then◌else◌, slice_index, slice_set, replicate, pos, codes}
use Rattle.rand_core.specs.Pcg32Seed.{pcg32_seed}
use Rattle.rand_core.specs.Steps.{first_words}
use Rattle.rand_pcg.specs.Pcg.{pcg32, pcg32_of_seed}
use Rattle.df_ticks.specs.declared.tick.Tick.{Tick}

-- the four symbols
abbrev pub symbol_at : ℕ → List ℕ
symbol_at place =
    if place == 0 then codes "AAA"
    else if place == 1 then codes "BBB"
    else if place == 2 then codes "CCC"
    else codes "DDD"

-- a price after a word: up by less than 101, or down by at most 100, from 1 to 1,000,000
abbrev pub moved : ℕ → ℕ → ℕ
moved price word = min (max (price + word % 201 - 100) 1) 1_000_000

-- the price of the symbol of one word, after another word
abbrev pub price_after : List ℕ → ℕ → ℕ → ℕ
price_after prices v w = moved (slice_index prices (v % 4)) w

-- the four prices after two words
abbrev pub prices_after : List ℕ → ℕ → ℕ → List ℕ
prices_after prices v w = slice_set prices (v % 4) (price_after prices v w)

-- the tick of two words
abbrev pub tick_at : List ℕ → ℕ → ℕ → Tick
tick_at prices v w =
    record { symbol = symbol_at (v % 4); price = pos (price_after prices v w) }

-- the ticks of words, two for each
abbrev pub ticks_of : List ℕ → List ℕ → List Tick
ticks_of prices [] = []
ticks_of prices (v ∷ []) = []
ticks_of prices (v ∷ w ∷ words) =
    tick_at prices v w ∷ ticks_of (prices_after prices v w) words

-- the first n ticks of a key, by the first words of the generator that it seeds
abbrev pub generated : ℕ → ℕ → List Tick
generated key n =
    ticks_of (replicate 4 10_000) (first_words pcg32 (2 * n) (pcg32_of_seed (pcg32_seed 16 key)))
