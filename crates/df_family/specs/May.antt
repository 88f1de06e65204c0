-- Which privileges a root's family may hold: the least relation that three rules ask for.
use Rattle.std.specs.Prelude.{◌≡◌, ℕ, Bool, true, not, ◌||◌, List, Some, slice_get}
use Rattle.std.specs.List.{filter, list_all}
use Rattle.df_label.specs.Privileges.{contains as contains_privilege}
use Rattle.df_label.specs.Tag.{maker_of}
use Rattle.df_label.specs.TagSet.{contains}
use Rattle.df_label.specs.declared.label.Label.{Label}
use Rattle.df_label.specs.declared.privilege.Privilege.{Privilege}
use Rattle.df_family.specs.Family.{begins_with, names}
use Rattle.df_priv.specs.Needed.{needed, needed_to_attach}
use Rattle.df_priv.specs.declared.need.Act.TheVariants.{Add, Del}
use Rattle.df_rules.specs.Always.{Roots}

-- what a root's number and a privilege may have to do with each other
abbrev pub Relation : Type 0
Relation = ℕ → Privilege → Bool

-- the integrity that the root's family asks for where it reads: that of its label, but for the tags
-- that it may take out
abbrev pub asked : Relation → ℕ → Label → List (List ℕ)
asked h k root = filter (λ t. not (h k (needed Del t))) root.i

-- whether the root's family may write with the integrity tag: it is in its label or may be added
abbrev pub can_write : Relation → ℕ → Label → List ℕ → Bool
can_write h k root t = contains root.i t || h k (needed Add t)

-- whether the second root's family may read what the first one's writes, as far as integrity goes
abbrev pub can_reach : Relation → ℕ → Label → ℕ → Label → Bool
can_reach h j from k to = list_all (can_write h j from) (asked h k to)

-- the relation keeps the three rules
pub record IsClosed (start : Roots) (h : Relation) : Type 0 where
  -- a root's family may hold what the start gives to the root
  pub given : (k : ℕ) (root : Label × List Privilege) (p : Privilege) →
      slice_get start k ≡ Some root → contains_privilege root.1 p ≡ true → h k p ≡ true
  -- and all privileges over each tag of the start that one of the family may make
  pub made : (k : ℕ) (root : Label × List Privilege) (p : Privilege) →
      slice_get start k ≡ Some root → names start p.tag ≡ true →
      begins_with k (maker_of p.tag) ≡ true → h k p ≡ true
  -- and what a family that may attach it can write for this one to read
  pub passed : (j k : ℕ) (from to : Label × List Privilege) (p : Privilege) →
      slice_get start j ≡ Some from → slice_get start k ≡ Some to → names start p.tag ≡ true →
      h j (needed_to_attach p) ≡ true → can_reach h j from.0 k to.0 ≡ true → h k p ≡ true

-- the least relation that keeps the rules
pub record IsLeast (start : Roots) (h : Relation) : Type 0 where
  pub closed : IsClosed start h
  pub least : (g : Relation) → IsClosed start g → (k : ℕ) (p : Privilege) → h k p ≡ true →
      g k p ≡ true

-- the root's family may hold the privilege: each relation that keeps the rules has it
abbrev pub MayHold : Roots → ℕ → Privilege → Type 0
MayHold start k p = (h : Relation) → IsClosed start h → h k p ≡ true
