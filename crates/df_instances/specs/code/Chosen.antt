-- How an instance is put down.
use Rattle.std.specs.Prelude.{ℕ, List}
use Rattle.df_instances.specs.declared.instances.Instance.{Instance}

-- the instance of contamination s of the subscription at the place
abbrev pub instance_at : ℕ → List (List ℕ) → Instance
instance_at place s = record { place = place; s = s }
