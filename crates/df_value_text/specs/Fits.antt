-- Which tags, sets of tags, labels, privileges and values have a spelling.
use Rattle.std.specs.Prelude.{◌≡◌, true, ℕ, ◌<◌, ◌^◌, List, [], ◌∷◌, IsUtf8, ⊤}
use Rattle.std.specs.List.{AllByRecursion}
use Rattle.std.specs.declared.cmp.Ordering.TheVariants.{Less}
use Rattle.df_frozen.specs.Limits.{IsWithinLimits}
use Rattle.df_frozen.specs.Name.{is_name, name_cmp}
use Rattle.df_frozen.specs.Plain.{Plain, Plains, Pairs, int, words, bytes, items, entries, no_items, item, no_entries, entry}
use Rattle.df_label.specs.Ascending.{IsAscending}
use Rattle.df_label.specs.Tag.{tag_cmp}
use Rattle.df_label.specs.declared.label.Label.{Label}
use Rattle.df_label.specs.declared.privilege.Privilege.{Privilege}
use Rattle.df_value_text.specs.ReadBytes.{AreBytes}
use Rattle.df_value_text.specs.ReadWhole.{IsWhole}

-- numbers of 32 bits
abbrev pub AreNumbers : List ℕ → Type 0
AreNumbers ns = AllByRecursion (λ n. n < 2 ^ 32) ns

-- a tag: at least one such number
abbrev pub IsTag : List ℕ → Type 0
IsTag [] = ⊥
IsTag (n ∷ ns) = (n < 2 ^ 32) × AreNumbers ns

abbrev pub AreTags : List (List ℕ) → Type 0
AreTags tags = AllByRecursion IsTag tags

-- a set of tags: they ascend
abbrev pub IsTagSet : List (List ℕ) → Type 0
IsTagSet tags = AreTags tags × IsAscending tag_cmp tags

-- a label: two sets of tags
abbrev pub IsLabel : Label → Type 0
IsLabel label = IsTagSet label.s × IsTagSet label.i

-- a privilege: a tag and a right
abbrev pub IsPrivilege : Privilege → Type 0
IsPrivilege privilege = IsTag privilege.tag

-- which values have a spelling: numbers of 64 bits, texts, bytes, and lists and maps of such
abbrev mutual
  pub IsSpelled : Plain → Type 0
  IsSpelled (int n) = IsWhole n
  IsSpelled (words s) = IsUtf8 s
  IsSpelled (bytes s) = AreBytes s
  IsSpelled (items ps) = AreSpelled ps
  IsSpelled (entries es) = AreEntries es

  pub AreSpelled : Plains → Type 0
  AreSpelled no_items = ⊤
  AreSpelled (item p ps) = IsSpelled p × AreSpelled ps

  -- the names of a map ascend
  pub AreEntries : Pairs → Type 0
  AreEntries no_entries = ⊤
  AreEntries (entry name p es) = (is_name name ≡ true) × IsSpelled p × AreBehind name es

  pub AreBehind : List ℕ → Pairs → Type 0
  AreBehind prev no_entries = ⊤
  AreBehind prev (entry name p es) = (is_name name ≡ true) × (name_cmp prev name ≡ Less)
      × IsSpelled p × AreBehind name es

-- a value that is read: one that has a spelling and may be frozen
abbrev pub IsValue : Plain → Type 0
IsValue p = IsSpelled p × IsWithinLimits p
