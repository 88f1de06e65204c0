-- The privileges behind what a unit beyond a label emits there.
use Rattle.std.specs.Prelude.{◌≡◌, ◌⊎◌, ℕ, true, false, is_some, if◌then◌else◌, List, [], ◌∷◌, Option, Some, None}
use Rattle.df_label.specs.Tag.{maker_of}
use Rattle.df_label.specs.TagSet.{contains}
use Rattle.df_label.specs.declared.label.Label.{Label}
use Rattle.df_priv.specs.declared.need.Act.{Act}
use Rattle.df_priv.specs.declared.need.Act.TheVariants.{Add, Del}
use Rattle.df_priv.specs.declared.need.Half.{Half}
use Rattle.df_rules.specs.Commits.{commit_in}
use Rattle.df_rules.specs.Laws.{IsChange}
use Rattle.df_rules.specs.Legal.{Legal}
use Rattle.df_rules.specs.Own.{own, own_plain, made_by, fixed}
use Rattle.df_rules.specs.Purge.{echo}
use Rattle.df_rules.specs.Rules.{Rules}
use Rattle.df_unit.specs.OwnState.{OwnState}
use Rattle.df_unit.specs.declared.call.Call.{Call}
use Rattle.df_unit.specs.declared.commit.Commit.{Commit}
use Rattle.df_unit.specs.declared.entry.Effect.{Effect}
use Rattle.df_unit.specs.declared.entry.Entry.{Entry}
use Rattle.df_unit.specs.declared.entry.Entry.TheVariants.{Done, Emitted}
use Rattle.df_unit.specs.declared.name.UnitName.{UnitName}
use Rattle.df_unit.specs.declared.name.UnitName.TheVariants.{Root, Managed}
use Rattle.df_unit.specs.declared.reply.Reply.{Reply}

-- the entry is the unit's accepted change by the tag, by its state before the entry
abbrev pub ChangesBy : Rules → UnitName → Half → Act → List ℕ → Option OwnState → Entry → Type 0
ChangesBy R u half act t None e = ⊥
ChangesBy R u half act t (Some st) (Done a c r f) = (a ≡ u) × IsChange R st half act t c r
ChangesBy R u half act t (Some st) (Emitted c) = ⊥

-- one of the unit's own entries is such a change
abbrev pub HasChange : Rules → List OwnState → UnitName → Half → Act → List ℕ → List Entry → Type 0
HasChange R s u half act t [] = ⊥
HasChange R s u half act t (e ∷ past) =
    ChangesBy R u half act t (own R s past u) e ⊎ HasChange R s u half act t past

-- the entry makes the child
pub record IsMaking (R : Rules) (s : List OwnState) (past : List Entry) (e : Entry)
    (path : List ℕ) : Type 0 where
  pub absent : own_plain R s past path ≡ None
  pub made : is_some (made_by R e path (own_plain R s past (maker_of path))) ≡ true

-- such a change is an entry of the plain unit, or one of its maker before the entry that made it,
-- and so on
abbrev pub HasPlainChange : Rules → List OwnState → Half → Act → List ℕ → List Entry → List ℕ →
    Type 0
HasPlainChange R s half act t [] path = ⊥
HasPlainChange R s half act t (e ∷ past) path =
    ChangesBy R (Root path) half act t (own_plain R s past path) e
    ⊎ (HasPlainChange R s half act t past path
    ⊎ (IsMaking R s past e path × HasPlainChange R s half act t past (maker_of path)))

-- the entries before the one that made the subscription n of the plain unit o
abbrev pub before_fixed : Rules → List OwnState → List Entry → List ℕ → ℕ → List Entry
before_fixed R s [] o n = []
before_fixed R s (e ∷ past) o n =
    if is_some (fixed R s past o n) then before_fixed R s past o n else past

-- such a change by the unit, by an instance's owner before the subscription, or by a child's maker
-- before it made the child, and so on
abbrev pub HasOwnChange : Rules → List OwnState → UnitName → Half → Act → List ℕ → List Entry →
    Type 0
HasOwnChange R s (Root path) half act t past = HasPlainChange R s half act t past path
HasOwnChange R s (Managed o n set) half act t past =
    HasChange R s (Managed o n set) half act t past
    ⊎ HasPlainChange R s half act t (before_fixed R s past o n) o

-- what keeps the unit's contamination from the label was set aside by privileges while they were
-- held
pub record IsExercised (R : Rules) (s : List OwnState) (past : List Entry) (u : UnitName)
    (l : Label) (st : OwnState) : Type 0 where
  pub own : own R s past u ≡ Some st
  pub dropped : (t : List ℕ) → contains st.contamination.s t ≡ true → contains l.s t ≡ false →
      (contains st.dropped t ≡ true) × HasOwnChange R s u Half.S Del t past
  pub endorsed : (t : List ℕ) → contains l.i t ≡ true → contains st.contamination.i t ≡ false →
      (contains st.endorsed t ≡ true) × HasOwnChange R s u Half.I Add t past

-- where the commit of an entry that comes next becomes an emitted one at the label, what its actor
-- lacks to be within the label was set aside by privileges
abbrev pub Exercises : Rules → List OwnState → Label → List Entry → Type 0
Exercises R s l past = (u : UnitName) (call : Call) (r : Reply) (f : Effect) (c : Commit) →
    Legal R s (Done u call r f ∷ past) → echo l (commit_in f) ≡ Some c →
    (st : OwnState) × IsExercised R s past u l st
