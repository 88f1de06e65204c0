-- The configuration that a file tells, and when reading one is refused.
use Rattle.std.specs.Prelude.{◌≡◌, ℕ, List, ⊤, Some, IsUtf8}
use Rattle.toml.specs.Data.{Members}
use Rattle.toml.specs.Parse.{parse_document}
use Rattle.df_config.specs.ConfigForm.{IsConfig}
use Rattle.df_config.specs.ConfigTable.{config_of}
use Rattle.df_config.specs.declared.config.Config.{Config}
use Rattle.df_config.specs.declared.read.ConfigRefused.{ConfigRefused}
use Rattle.df_config.specs.declared.read.ConfigRefused.TheVariants as refused

-- this is the table of a text
abbrev pub IsTableOf : List ℕ → Members → Type 0
IsTableOf bytes t = IsUtf8 bytes × (parse_document bytes ≡ Some t)

-- the file is this configuration, and it is in form
abbrev pub IsConfigFile : List ℕ → Config → Type 0
IsConfigFile bytes c =
    (t : Members) × IsTableOf bytes t × (config_of t ≡ Some c) × IsConfig c

-- BadConfig comes only where the file is no configuration in form
abbrev pub IsRightRefusal : List ℕ → ConfigRefused → Type 0
IsRightRefusal bytes refused.BadConfig = (c : Config) → ¬ IsConfigFile bytes c
IsRightRefusal bytes refused.NoMemory = ⊤
