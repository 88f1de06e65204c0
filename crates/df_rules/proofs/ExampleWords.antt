-- Short words for the worked examples: a journal is written with the oldest entry first, a line an entry.
use Rattle.df_rules.proofs.Names.{Clause, Plain, int, Label, Privilege, Spot, Part, Call, Get, Commit, Effect, Entry, Done, EventName, UnitName, Root, Managed, Reply}
use Rattle.std.specs.Prelude.{ℕ, pos, List, [], ◌∷◌}
use Rattle.df_filter.specs.declared.clause.Test.TheVariants.{Present}
use Rattle.df_label.specs.declared.privilege.Right.TheVariants.{Plus, Minus, PlusAuth, MinusAuth}
use Rattle.df_unit.specs.declared.parts.PartRead.{PartRead}

-- names

abbrev pub a : List ℕ
a = 97 ∷ []

abbrev pub b : List ℕ
b = 98 ∷ []

abbrev pub s : List ℕ
s = 115 ∷ []

abbrev pub t : List ℕ
t = 116 ∷ []

abbrev pub price : List ℕ
price = 112 ∷ 114 ∷ 105 ∷ 99 ∷ 101 ∷ []

abbrev pub grant : List ℕ
grant = 103 ∷ 114 ∷ 97 ∷ 110 ∷ 116 ∷ []

-- units and events

abbrev pub unit : ℕ → UnitName
unit k = Root (k ∷ [])

abbrev pub instance : List ℕ → ℕ → List (List ℕ) → UnitName
instance o n set = Managed o n set

abbrev pub event : UnitName → ℕ → EventName
event u n = record { unit = u; number = n }

-- labels and privileges

abbrev pub tag : ℕ → List ℕ
tag k = k ∷ []

abbrev pub public : Label
public = record { s = []; i = [] }

abbrev pub secret : List (List ℕ) → Label
secret tags = record { s = tags; i = [] }

abbrev pub vouched : List (List ℕ) → Label
vouched tags = record { s = []; i = tags }

abbrev pub plus : List ℕ → Privilege
plus tag = record { tag = tag; right = Plus }

abbrev pub minus : List ℕ → Privilege
minus tag = record { tag = tag; right = Minus }

abbrev pub plus_auth : List ℕ → Privilege
plus_auth tag = record { tag = tag; right = PlusAuth }

abbrev pub minus_auth : List ℕ → Privilege
minus_auth tag = record { tag = tag; right = MinusAuth }

-- parts

abbrev pub whole : ℕ → Plain
whole n = int (pos n)

abbrev pub part : Label → List ℕ → Plain → Part
part label name value = record { name = name; label = label; value = value; privileges = [] }

abbrev pub bearing : List Privilege → Part → Part
bearing privileges p = record { name = p.name; label = p.label; value = p.value; privileges = privileges }

abbrev pub read : Label → Plain → List Privilege → PartRead
read label value privileges = record { label = label; value = value; privileges = privileges }

abbrev pub spot : List ℕ → Label → Spot
spot name label = record { name = name; label = label }

-- a clause that asks for a part of this name
abbrev pub present : List ℕ → Clause
present name = record { name = name; test = Present }

-- entries

abbrev pub commit : EventName → List Spot → List Part → Commit
commit e deleted added = record { event = e; edit = (deleted, added) }

abbrev pub says : UnitName → Call → Reply → Entry
says u call r = Done u call r Effect.Nothing

abbrev pub commits : UnitName → Call → Commit → Entry
commits u call c = Done u call Reply.Ok (Effect.Commit c)

abbrev pub gets : UnitName → ℕ → ℕ → EventName → List Part → Entry
gets u h n e parts = Done u Get (Reply.Event h n) (Effect.Given (record { event = e; sub = n; parts = parts }))
