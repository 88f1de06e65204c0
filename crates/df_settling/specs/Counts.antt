-- How many entries each unit of a trading floor has, by what it is handed.
use Rattle.std.specs.Prelude.{ℕ, suc, ◌+◌, ◌*◌, ◌≡◌, ◌⊎◌, ◌≤◌, ◌<◌, ◌==◌, if◌then◌else◌, List, [], ◌∷◌, length}
use Rattle.df_book.specs.Submitting.{resting_after}
use Rattle.df_book.specs.declared.order.Order.{Order}
use Rattle.df_config.specs.declared.config.Config.{Config}
use Rattle.df_messages.specs.Drafts.{floor_tag, regulator_tag}
use Rattle.df_rules.specs.Deliveries.{deliveries}
use Rattle.df_rules.specs.Follows.{is_of}
use Rattle.df_rules.specs.Received.{received}
use Rattle.df_rules.specs.Start.{rows}
use Rattle.df_ticks.specs.declared.tick.Tick.{Tick}
use Rattle.df_unit.specs.declared.commit.Given.{Given}
use Rattle.df_unit.specs.declared.entry.Entry.{Entry}
use Rattle.df_unit.specs.declared.name.UnitName.{UnitName}
use Rattle.df_unit.specs.declared.name.UnitName.TheVariants.{Managed, Root}
use Rattle.df_settling.specs.Settling.{first_states, monitor_count}
use Rattle.df_settling.specs.Trades.{first_broker, orders_taken, trade_count}

-- how many entries a unit has
abbrev pub entries_of : UnitName → List Entry → ℕ
entries_of u [] = 0
entries_of u (e ∷ past) = if is_of u e then suc (entries_of u past) else entries_of u past

-- a root by its number
abbrev pub root_name : ℕ → UnitName
root_name k = Root (k ∷ [])

-- the regulator's instance
abbrev pub instance_name : UnitName
instance_name = Managed (2 ∷ []) 0 (floor_tag regulator_tag ∷ [])

-- a root of the floor, or the regulator's instance
abbrev pub IsOfFloor : Config → UnitName → Type 0
IsOfFloor c u = ((k : ℕ) × (k < 3 + length c.traders + monitor_count c.traders) × (u ≡ root_name k))
    ⊎ (u ≡ instance_name)

-- what a unit is to be handed by then
abbrev pub handed_to : Config → List Entry → UnitName → List Given
handed_to c past u = deliveries rows (first_states c) past u

-- how many of these are for subscription 0, as a trader's matches are
abbrev pub match_count : List Given → ℕ
match_count [] = 0
match_count (d ∷ ds) = if d.sub == 0 then suc (match_count ds) else match_count ds

-- how many are for another one, as a trader's fills are
abbrev pub fill_count : List Given → ℕ
fill_count [] = 0
fill_count (d ∷ ds) = if d.sub == 0 then fill_count ds else suc (fill_count ds)

-- what a trader may do: 9 entries for each match, answered by two orders, and 3 for each fill
abbrev pub trader_entries : List Given → ℕ
trader_entries ds = 3 + 9 * match_count ds + 3 * fill_count ds

-- the orders that the broker got by then and takes
abbrev pub orders_so_far : Config → List Entry → List Order
orders_so_far c past = orders_taken (first_broker c) (received (root_name 1) past)

-- the trades that its book makes of them
abbrev pub trades_made : Config → List Entry → ℕ
trades_made c past = trade_count [] (orders_so_far c past)

-- what then rests in its book
abbrev pub orders_resting : Config → List Entry → List Order
orders_resting c past = resting_after (orders_so_far c past)

-- each unit keeps to the count of its kind, and there are no other units
pub record KeepCounts (c : Config) (ticks : List Tick) (past : List Entry) : Type 0 where
  -- 3 for each tick
  pub exchange : entries_of (root_name 0) past ≤ 3 * length ticks
  -- 3 for each order, and 6 for each trade
  pub broker : entries_of (root_name 1) past
      ≤ 2 + 3 * length (handed_to c past (root_name 1)) + 6 * trades_made c past
  -- each trade uses an order up
  pub trades : trades_made c past + length (orders_resting c past)
      ≤ length (handed_to c past (root_name 1))
  pub regulator : entries_of (root_name 2) past ≤ 1
  pub traders : (j : ℕ) → j < length c.traders →
      entries_of (root_name (3 + j)) past ≤ trader_entries (handed_to c past (root_name (3 + j)))
  -- 3 for each tick, and 3 for the match that it may be worth
  pub monitors : (k : ℕ) → k < monitor_count c.traders →
      entries_of (root_name (3 + length c.traders + k)) past
      ≤ 2 + 6 * length (handed_to c past (root_name (3 + length c.traders + k)))
  -- 4 for each trade, and 3 for the warning that it may be worth
  pub instance : entries_of instance_name past ≤ 1 + 7 * length (handed_to c past instance_name)
  pub others : (u : UnitName) → 0 < entries_of u past → IsOfFloor c u
