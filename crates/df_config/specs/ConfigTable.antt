-- The configuration that a table tells.
use Rattle.std.specs.Prelude.{ℕ, ℤ, pos, ◌^◌, suc, Bool, List, [], ◌∷◌, ◌==◌, if◌then◌else◌, nat_lt, Option, Some, None, option_and_then, codes}
use Rattle.toml.specs.Data.{Data, Items, no_items, item, Members, no_members, member, get_member, as_array, as_bool, as_integer, as_str, as_table}
use Rattle.df_config.specs.declared.config.Config.{Config}
use Rattle.df_config.specs.declared.pair.PairRow.{PairRow}
use Rattle.df_config.specs.declared.trader.TraderRow.{TraderRow}

-- how many keys a table has; no key stands twice
abbrev pub size : Members → ℕ
size no_members = 0
size (member key d ms) = suc (size ms)

-- a whole number of 32 bits, without sign
abbrev pub natural : Option ℤ → Option ℕ
natural (Some (pos n)) = if nat_lt n (2 ^ 32) then Some n else None
natural _ = None

-- the text, the integer, the flag and the array under a key
abbrev pub text_at : List ℕ → Members → Option (List ℕ)
text_at key t = option_and_then as_str (get_member key t)

abbrev pub integer_at : List ℕ → Members → Option ℤ
integer_at key t = option_and_then as_integer (get_member key t)

abbrev pub flag_at : List ℕ → Members → Option Bool
flag_at key t = option_and_then as_bool (get_member key t)

abbrev pub array_at : List ℕ → Members → Option Items
array_at key t = option_and_then as_array (get_member key t)

-- one more in front of others, if all are there
abbrev pub in_front : {X : Type 0} → Option X → Option (List X) → Option (List X)
in_front (Some x) (Some xs) = Some (x ∷ xs)
in_front _ _ = None

-- what the items tell, if each tells something
abbrev pub each : {X : Type 0} → (Data → Option X) → Items → Option (List X)
each tells no_items = Some []
each tells (item d ds) = in_front (tells d) (each tells ds)

-- what is told by a table of exactly so many keys
abbrev pub of_size : {X : Type 0} → ℕ → Members → Option X → Option X
of_size n t told = if size t == n then told else None

-- the pair of these fields, if all are there
abbrev pub pair_with : Option (List ℕ) → Option (List ℕ) → Option ℤ → Option PairRow
pair_with (Some first) (Some second) (Some threshold) =
    Some (record { first = first; second = second; threshold = threshold })
pair_with _ _ _ = None

-- the pair of a table of exactly three keys
abbrev pub pair_of_table : Members → Option PairRow
pair_of_table t = of_size 3 t
    (pair_with (text_at (codes "first") t) (text_at (codes "second") t)
    (integer_at (codes "threshold") t))

-- the pair of a value, which has to be a table
abbrev pub pair_of : Data → Option PairRow
pair_of d = option_and_then pair_of_table (as_table d)

-- the number of a pair
abbrev pub number_of : Data → Option ℕ
number_of d = natural (as_integer d)

-- the trader of these fields, if all are there
abbrev pub trader_with : Option (List ℕ) → Option ℤ → Option ℤ → Option Bool → Option TraderRow
trader_with (Some pairs) (Some quantity) (Some slack) (Some contrary) =
    Some (record { pairs = pairs; quantity = quantity; slack = slack; contrary = contrary })
trader_with _ _ _ _ = None

-- the numbers of pairs under a key
abbrev pub numbers_at : List ℕ → Members → Option (List ℕ)
numbers_at key t = option_and_then (each number_of) (array_at key t)

-- the trader of a table of exactly four keys
abbrev pub trader_of_table : Members → Option TraderRow
trader_of_table t = of_size 4 t
    (trader_with (numbers_at (codes "pairs") t) (integer_at (codes "quantity") t)
    (integer_at (codes "slack") t) (flag_at (codes "contrary") t))

-- the trader of a value, which has to be a table
abbrev pub trader_of : Data → Option TraderRow
trader_of d = option_and_then trader_of_table (as_table d)

-- the configuration of these fields, if all are there
abbrev pub config_with :
    Option ℕ → Option ℕ → Option (List PairRow) → Option (List TraderRow) → Option Config
config_with (Some max_steps) (Some window) (Some pairs) (Some traders) =
    Some (record { max_steps = max_steps; window = window; pairs = pairs; traders = traders })
config_with _ _ _ _ = None

-- the pairs and the traders under a key
abbrev pub pairs_at : List ℕ → Members → Option (List PairRow)
pairs_at key t = option_and_then (each pair_of) (array_at key t)

abbrev pub traders_at : List ℕ → Members → Option (List TraderRow)
traders_at key t = option_and_then (each trader_of) (array_at key t)

-- the configuration of a table of exactly four keys
abbrev pub config_of : Members → Option Config
config_of t = of_size 4 t
    (config_with (natural (integer_at (codes "max_steps") t))
    (natural (integer_at (codes "window") t)) (pairs_at (codes "pair") t)
    (traders_at (codes "trader") t))
