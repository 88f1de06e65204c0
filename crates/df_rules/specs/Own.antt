-- Which units exist, and their own states. s has the roots as they begin; the newest entry of a
-- journal stands first.
use Rattle.std.specs.Prelude.{ℕ, Bool, false, if◌then◌else◌, List, [], ◌∷◌, Option, Some, None, slice_get, is_some}
use Rattle.std.specs.Option.{option_map, option_and_then, option_or}
use Rattle.df_label.specs.Tag.{maker_of, number_of}
use Rattle.df_part.specs.Contents.{spared}
use Rattle.df_rules.specs.Choices.{gives}
use Rattle.df_rules.specs.Commits.{commit_of, contents}
use Rattle.df_rules.specs.Rules.{Rules}
use Rattle.df_unit.specs.Name.{same}
use Rattle.df_unit.specs.OwnState.{OwnState, Fixed}
use Rattle.df_unit.specs.declared.commit.Commit.{Commit}
use Rattle.df_unit.specs.declared.entry.Entry.{Entry}
use Rattle.df_unit.specs.declared.entry.Entry.TheVariants.{Done, Emitted}
use Rattle.df_unit.specs.declared.name.UnitName.{UnitName}
use Rattle.df_unit.specs.declared.name.UnitName.TheVariants.{Root, Managed}

-- the unit's state after one more entry
abbrev pub stepped : Rules → UnitName → Entry → Option OwnState → Option OwnState
stepped R u (Done a c r f) o = if same a u then option_map (λ st. R.after u st c r f) o else o
stepped R u (Emitted c) o = o

-- a root as it begins; its path has one number
abbrev pub root_at : List OwnState → List ℕ → Option OwnState
root_at s [] = None
root_at s (k ∷ []) = slice_get s k
root_at s (k ∷ m ∷ path) = None

-- the child that an entry makes, by its maker's state before the entry
abbrev pub made_by : Rules → Entry → List ℕ → Option OwnState → Option OwnState
made_by R (Done a c r f) path maker = if same a (Root (maker_of path))
    then option_and_then (λ st. R.makes st (number_of path) c r) maker else None
made_by R (Emitted c) path maker = None

-- a plain unit's own state, if it exists: a root is there from the start, a child from the entry by
-- which its maker made it
abbrev pub own_plain : Rules → List OwnState → List Entry → List ℕ → Option OwnState
own_plain R s [] path = root_at s path
own_plain R s (e ∷ past) path = option_or (stepped R (Root path) e (own_plain R s past path))
    (made_by R e path (own_plain R s past (maker_of path)))

-- what a subscription keeps that an entry makes, by its owner's state before the entry
abbrev pub fixed_by : Rules → Entry → List ℕ → ℕ → Option OwnState → Option Fixed
fixed_by R (Done a c r f) o n owner =
    if same a (Root o) then option_and_then (λ st. R.fixes st n c r) owner else None
fixed_by R (Emitted c) o n owner = None

-- the fixed record of the managed subscription n of the plain unit o
abbrev pub fixed : Rules → List OwnState → List Entry → List ℕ → ℕ → Option Fixed
fixed R s [] o n = None
fixed R s (e ∷ past) o n = option_or (fixed R s past o n) (fixed_by R e o n (own_plain R s past o))

-- whether a commit after these entries has a choice that gives t
abbrev pub is_given : Option Fixed → List (List ℕ) → List Entry → Option Commit → Bool
is_given None t past oc = false
is_given (Some f) t past None = false
is_given (Some f) t past (Some c) = gives f.filter f.input_integrity t f.base false
    (spared c.edit.0 (contents past c.event)) c.edit.1

-- the instance of contamination t, where the commit has a choice that gives t
abbrev pub born : Rules → Option Fixed → List (List ℕ) → List Entry → Option Commit →
    Option OwnState
born R None t past oc = None
born R (Some f) t past oc = if is_given (Some f) t past oc then Some (R.begin f t) else None

-- an instance's own state, if it exists: it is there from the first commit with a choice that gives
-- t
abbrev pub own_instance : Rules → List OwnState → List Entry → List ℕ → ℕ → List (List ℕ) →
    Option OwnState
own_instance R s [] o n t = None
own_instance R s (e ∷ past) o n t =
    option_or (stepped R (Managed o n t) e (own_instance R s past o n t))
    (born R (fixed R s past o n) t past (commit_of e))

-- a unit's own state, if it exists
abbrev pub own : Rules → List OwnState → List Entry → UnitName → Option OwnState
own R s past (Root path) = own_plain R s past path
own R s past (Managed o n t) = own_instance R s past o n t

-- whether a unit exists
abbrev pub exists : Rules → List OwnState → List Entry → UnitName → Bool
exists R s past u = is_some (own R s past u)
