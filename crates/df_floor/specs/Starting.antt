-- What the roots of a floor begin with.
use Rattle.std.specs.Prelude.{ℕ, ◌+◌, List, [], ◌∷◌, ◌++◌}
use Rattle.df_config.specs.declared.config.Config.{Config}
use Rattle.df_config.specs.declared.trader.TraderRow.{TraderRow}
use Rattle.df_label.specs.declared.label.Label.{Label}
use Rattle.df_label.specs.declared.privilege.Privilege.{Privilege}
use Rattle.df_label.specs.declared.privilege.Right.TheVariants.{Minus}
use Rattle.df_messages.specs.Drafts.{broker_tag, endorsed, exchange_tag, floor_tag, public, regulator_tag, secret, trader_tag}
use Rattle.df_start.specs.declared.start.RootStart.{RootStart}

-- the privilege to take a tag of the floor out of a label
abbrev pub may_take_out : ℕ → Privilege
may_take_out number = record { tag = floor_tag number; right = Minus }

-- a root at a label, which may take a tag out
abbrev pub releasing_root : Label → ℕ → RootStart
releasing_root label number = record { label = label; privileges = may_take_out number ∷ [] }

-- a root at a label, without a privilege
abbrev pub plain_root : Label → RootStart
plain_root label = record { label = label; privileges = [] }

-- for one trader, and vouched for by the exchange
abbrev pub watching : ℕ → Label
watching number = record {
  s = floor_tag (trader_tag number) ∷ [];
  i = floor_tag exchange_tag ∷ [];
}

-- a trader of a number
abbrev pub trader_root : ℕ → RootStart
trader_root number = releasing_root (secret (trader_tag number)) (trader_tag number)

-- traders in order, the first of this number
abbrev pub trader_roots : ℕ → List TraderRow → List RootStart
trader_roots number [] = []
trader_roots number (t ∷ ts) = trader_root number ∷ trader_roots (number + 1) ts

-- a monitor for a trader
abbrev pub monitor_root : ℕ → RootStart
monitor_root number = plain_root (watching number)

-- the monitors of a trader, one for each of its pairs
abbrev pub monitors_of : ℕ → List ℕ → List RootStart
monitors_of number [] = []
monitors_of number (n ∷ ns) = monitor_root number ∷ monitors_of number ns

-- the monitors of traders in order
abbrev pub monitor_roots : ℕ → List TraderRow → List RootStart
monitor_roots number [] = []
monitor_roots number (t ∷ ts) = monitors_of number t.pairs ++ monitor_roots (number + 1) ts

-- the exchange, the broker, the regulator, the traders, and the monitors
abbrev pub floor_start : Config → List RootStart
floor_start c = plain_root endorsed ∷ releasing_root (secret broker_tag) broker_tag
    ∷ releasing_root public regulator_tag ∷ trader_roots 0 c.traders ++ monitor_roots 0 c.traders
