-- The limits of names and of frozen values.
use Rattle.std.specs.Prelude.{◌≡◌, ℕ, ◌<◌, ◌≤◌, ◌-◌, ◌^◌, ◌⊎◌, min, ⊤}
use Rattle.df_frozen.specs.Plain.{Plain, node_count, byte_count, depth}
use Rattle.df_frozen.specs.declared.freeze.FreezeCause.{FreezeCause}
use Rattle.df_frozen.specs.declared.freeze.FreezeCause.TheVariants.{TooLarge, NoMemory}

-- how many bytes a name has at most
abbrev pub longest_name : ℕ
longest_name = 32

-- how many nodes a frozen value has at most
abbrev pub most_nodes : ℕ
most_nodes = 4096

-- how many bytes a frozen value has at most in words, blobs and the names of maps
abbrev pub most_bytes : ℕ
most_bytes = 65536

-- how many levels a frozen value has at most
abbrev pub most_depth : ℕ
most_depth = 32

-- the content is within the limits of a frozen value
pub record IsWithinLimits (p : Plain) : Type 0 where
  pub nodes : node_count p ≤ most_nodes
  pub bytes : byte_count p ≤ most_bytes
  pub flat : depth p ≤ most_depth

-- the content passes one of the limits
abbrev pub IsTooLarge : Plain → Type 0
IsTooLarge p =
    (most_nodes < node_count p) ⊎ ((most_bytes < byte_count p) ⊎ (most_depth < depth p))

-- a count as far as a u64 goes
abbrev pub counted : ℕ → ℕ
counted n = min n (2 ^ 64 - 1)

-- too large: with its three counts, and only where a limit is passed
abbrev pub IsFreezeCause : Plain → FreezeCause → Type 0
IsFreezeCause p (TooLarge nodes bytes deep) =
    IsTooLarge p × (nodes ≡ counted (node_count p)) × (bytes ≡ counted (byte_count p)) ×
    (deep ≡ counted (depth p))
IsFreezeCause p NoMemory = ⊤
