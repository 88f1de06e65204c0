-- What a journal comes to, its entries in their order.
use Rattle.std.specs.Prelude.{ℕ, ◌+◌, ◌-◌, ◌^◌, min, ℤ, pos, ◌+ℤ◌, Bool, not, List, [], ◌∷◌, if◌then◌else◌, Option, Some, None, codes, fold, flat_map, bytes_eq}
use Rattle.std.specs.Int.{saturate_signed, w128}
use Rattle.std.specs.List.{list_any}
use Rattle.std.specs.Option.{option_and_then}
use Rattle.df_frozen.specs.Plain.{Plain}
use Rattle.df_filter.specs.Asked.{field_of, int_of, some_passes}
use Rattle.df_part.specs.declared.part.Part.{Part}
use Rattle.df_unit.specs.Name.{same}
use Rattle.df_unit.specs.declared.entry.Effect.{Effect}
use Rattle.df_unit.specs.declared.entry.Effect.TheVariants.{Nothing, Commit, Given}
use Rattle.df_unit.specs.declared.entry.Entry.{Entry}
use Rattle.df_unit.specs.declared.entry.Entry.TheVariants.{Done, Emitted}
use Rattle.df_unit.specs.declared.name.UnitName.{UnitName}
use Rattle.df_unit.specs.declared.name.UnitName.TheVariants.{Root, Managed}
use Rattle.df_unit.specs.declared.reply.Reply.{Reply}
use Rattle.df_unit.specs.declared.reply.Reply.TheVariants.{NoSuchUnit}
use Rattle.df_report.specs.declared.report.Summary.{Summary}

-- the parts that a commit adds
abbrev pub added_with : Effect → List Part
added_with Nothing = []
added_with (Commit commit) = commit.edit.1
added_with (Given given) = []

-- the parts that an entry's commit adds, also an emitted one
abbrev pub added_by : Entry → List Part
added_by (Done actor call reply effect) = added_with effect
added_by (Emitted commit) = commit.edit.1

-- the parts that the commits of a journal add
abbrev pub added : List Entry → List Part
added entries = flat_map added_by entries

-- a count, which stops at the greatest number of 64 bits, with one more
abbrev pub one_more : ℕ → Bool → ℕ
one_more count more = if more then min (count + 1) (2 ^ 64 - 1) else count

-- the count of a name with a part, if it has the name
abbrev pub counted : List ℕ → ℕ → Part → ℕ
counted name count p = one_more count (bytes_eq p.name name)

-- how many parts of a name the commits of a journal add
abbrev pub count_of : List ℕ → List Entry → ℕ
count_of name entries = fold (counted name) 0 (added entries)

-- the whole number in the field `qty` of a map
abbrev pub quantity_of : Plain → Option ℤ
quantity_of value = option_and_then int_of (field_of (codes "qty") value)

-- a sum of 128 bits, which stops at its ends, with one more number if there is one
abbrev pub with_quantity : ℤ → Option ℤ → ℤ
with_quantity sum None = sum
with_quantity sum (Some quantity) = saturate_signed w128 (sum +ℤ quantity)

-- the same with the quantity of a part, if the part is a trade that tells one
abbrev pub with_trade : ℤ → Part → ℤ
with_trade sum p =
    if bytes_eq p.name (codes "trade") then with_quantity sum (quantity_of p.value) else sum

-- the managed name of an actor that exists
abbrev pub managed_name : UnitName → Reply → Option UnitName
managed_name name NoSuchUnit = None
managed_name (Managed owner sub s) reply = Some (Managed owner sub s)
managed_name (Root path) reply = None

-- the instance that acts in an entry
abbrev pub instance_of : Entry → Option UnitName
instance_of (Done actor call reply effect) = managed_name actor reply
instance_of (Emitted commit) = None

-- u is the instance that acts in an entry
abbrev pub acts : UnitName → Entry → Bool
acts u e = some_passes (same u) (instance_of e)

-- an entry is the last one of its instance, if those behind it are these
abbrev pub is_last : Entry → List Entry → Bool
is_last e es = some_passes (λ u. not (list_any (acts u) es)) (instance_of e)

-- how many instances act, each counted at its last entry, beside those counted before
abbrev pub with_instances : ℕ → List Entry → ℕ
with_instances count [] = count
with_instances count (e ∷ es) = with_instances (one_more count (is_last e es)) es

-- the summary of a journal
abbrev pub summary_of : List Entry → Summary
summary_of entries = record {
  ticks = count_of (codes "tick") entries;
  matches = count_of (codes "match") entries;
  orders = count_of (codes "order") entries;
  trades = count_of (codes "trade") entries;
  quantity = fold with_trade (pos 0) (added entries);
  warnings = count_of (codes "warning") entries;
  instances = with_instances 0 entries;
}
