-- What an entry of a local call leaves as it was.
use Rattle.std.proofs.Common.{◌≡◌, ℕ, Bool, true, false, if◌then◌else◌, List, [], ◌∷◌, ◌++◌, Option, Some, None, option_map, refl, ap, sym, subst, ◌∙◌}
use Rattle.std.specs.Prelude.{option_to_list}
use Rattle.std.specs.Option.{option_and_then, option_or}
use Rattle.std.proofs.lemmas.List.{append-nil}
use Rattle.df_filter.specs.declared.clause.Clause.{Clause}
use Rattle.df_label.specs.Tag.{maker_of, number_of}
use Rattle.df_label.specs.declared.label.Label.{Label}
use Rattle.df_label.specs.declared.privilege.Privilege.{Privilege}
use Rattle.df_local_run.specs.Runs.{is_local}
use Rattle.df_rules.specs.Deliveries.{deliveries, deliveries_instance, deliveries_plain, instance_news, plain_news}
use Rattle.df_rules.specs.Own.{fixed, own, own_instance, own_plain}
use Rattle.df_rules.specs.Start.{rows, roots}
use Rattle.df_rules.specs.Subscriptions.{subscriptions}
use Rattle.df_rules.proofs.Agreement.{born_none, or_none}
use Rattle.df_unit.specs.Name.{same}
use Rattle.df_unit.specs.OwnState.{Fixed, OwnState}
use Rattle.df_unit.specs.Rows.{after, effect, reply, subscribes}
use Rattle.df_unit.specs.declared.call.Call.{Call}
use Rattle.df_unit.specs.declared.call.Call.TheVariants.{AddPart, AttachPrivilege, ChangeOutLabel, CloneEvent, CreateEvent, CreateTag, DelPart, DropEvent, ReadPart}
use Rattle.df_unit.specs.declared.commit.Given.{Given}
use Rattle.df_unit.specs.declared.entry.Effect.{Effect}
use Rattle.df_unit.specs.declared.entry.Entry.{Entry}
use Rattle.df_unit.specs.declared.entry.Entry.TheVariants.{Done}
use Rattle.df_unit.specs.declared.name.UnitName.{UnitName}
use Rattle.df_unit.specs.declared.name.UnitName.TheVariants.{Managed, Root}
use Rattle.df_unit.specs.declared.reply.Reply.{Reply}
use Rattle.df_unit.proofs.SameFacts.{same_name_decides}
use Rattle.df_tables.specs.Agree.{MakesNoManaged, MakesNoUnit}
use Rattle.df_tables.specs.Moves.{is_in_out}
use Rattle.df_tables.proofs.Alike.{AreAlike}
use Rattle.df_tables.proofs.Steps.{fixes_none, makes_none}

-- the call looks at no delivery, does nothing beyond its unit, and makes nothing
pub record IsApart (c : Call) : Type 0 where
  pub replies : (u : UnitName) (st : OwnState) (ds : List Given) → reply u st ds c ≡ reply u st [] c
  pub does : (u : UnitName) (st : OwnState) (ds : List Given) → effect u st ds c ≡ Effect.Nothing
  pub subscribes_none : (st : OwnState) (r : Reply) → subscribes st c r ≡ None
  pub fixes : (r : Reply) → MakesNoManaged rows c r
  pub makes : (r : Reply) → MakesNoUnit rows c r
  pub reads : is_in_out c ≡ false

pub local_apart : (c : Call) → is_local c ≡ true → IsApart c
local_apart CreateEvent e =
    record { replies = λ u st ds. refl; does = λ u st ds. refl; subscribes_none = λ st r. refl; fixes = λ r st n. refl; makes = λ r st k. refl; reads = refl }
local_apart (AddPart h label name value) e =
    record { replies = λ u st ds. refl; does = λ u st ds. refl; subscribes_none = λ st r. refl; fixes = λ r st n. refl; makes = λ r st k. refl; reads = refl }
local_apart (DelPart h label name) e =
    record { replies = λ u st ds. refl; does = λ u st ds. refl; subscribes_none = λ st r. refl; fixes = λ r st n. refl; makes = λ r st k. refl; reads = refl }
local_apart (ReadPart h name) e =
    record { replies = λ u st ds. refl; does = λ u st ds. refl; subscribes_none = λ st r. refl; fixes = λ r st n. refl; makes = λ r st k. refl; reads = refl }
local_apart (CloneEvent h label) e =
    record { replies = λ u st ds. refl; does = λ u st ds. refl; subscribes_none = λ st r. refl; fixes = λ r st n. refl; makes = λ r st k. refl; reads = refl }
local_apart (AttachPrivilege h label name p) e =
    record { replies = λ u st ds. refl; does = λ u st ds. refl; subscribes_none = λ st r. refl; fixes = λ r st n. refl; makes = λ r st k. refl; reads = refl }
local_apart (ChangeOutLabel half act tag) e =
    record { replies = λ u st ds. refl; does = λ u st ds. refl; subscribes_none = λ st r. refl; fixes = λ r st n. refl; makes = λ r st k. refl; reads = refl }
local_apart CreateTag e =
    record { replies = λ u st ds. refl; does = λ u st ds. refl; subscribes_none = λ st r. refl; fixes = λ r st n. refl; makes = λ r st k. refl; reads = refl }
local_apart (DropEvent h) e =
    record { replies = λ u st ds. refl; does = λ u st ds. refl; subscribes_none = λ st r. refl; fixes = λ r st n. refl; makes = λ r st k. refl; reads = refl }
local_apart _ e = absurd (let z : ⊥ = cc in z)

-- where there is no commit, nothing is brought
plain_quiet : (o : Option OwnState) (subs : List (ℕ × List Clause)) (ds : List Given) (past : List Entry) → plain_news o subs ds past None ≡ []
plain_quiet None subs ds past = refl
plain_quiet (Some st) subs ds past = refl

instance_quiet : (fx : Option Fixed) (n : ℕ) (t : List (List ℕ)) (ds : List Given) (past : List Entry) → instance_news fx n t ds past None ≡ []
instance_quiet None n t ds past = refl
instance_quiet (Some fx) n t ds past = refl

module _ (starts : List (Label × List Privilege)) (past : List Entry) (a : UnitName) (c : Call) (r : Reply) (is : IsApart c) where
  abbrev s : List OwnState
  s = roots starts

  abbrev entry : Entry
  entry = Done a c r Effect.Nothing

  own_other : (n : UnitName) → same a n ≡ false → own rows s (entry ∷ past) n ≡ own rows s past n
  own_other (Root path) other =
      ap (λ (x : Option OwnState). option_or (if same a (Root path) then option_map (λ (st : OwnState). after (Root path) st c r Effect.Nothing) (own_plain rows s past path) else own_plain rows s past path) x)
      (makes_none rows s c r (is.makes r) (same a (Root (maker_of path))) (number_of path) (own_plain rows s past (maker_of path)))
      ∙ or_none (if same a (Root path) then option_map (λ (st : OwnState). after (Root path) st c r Effect.Nothing) (own_plain rows s past path) else own_plain rows s past path)
      ∙ ap (λ (b : Bool). if b then option_map (λ (st : OwnState). after (Root path) st c r Effect.Nothing) (own_plain rows s past path) else own_plain rows s past path) other
  own_other (Managed o n t) other =
      ap (λ (x : Option OwnState). option_or (if same a (Managed o n t) then option_map (λ (st : OwnState). after (Managed o n t) st c r Effect.Nothing) (own_instance rows s past o n t) else own_instance rows s past o n t) x)
      (born_none rows (fixed rows s past o n) t past)
      ∙ or_none (if same a (Managed o n t) then option_map (λ (st : OwnState). after (Managed o n t) st c r Effect.Nothing) (own_instance rows s past o n t) else own_instance rows s past o n t)
      ∙ ap (λ (b : Bool). if b then option_map (λ (st : OwnState). after (Managed o n t) st c r Effect.Nothing) (own_instance rows s past o n t) else own_instance rows s past o n t) other

  handed_still : (n : UnitName) → deliveries rows s (entry ∷ past) n ≡ deliveries rows s past n
  handed_still (Root path) =
      ap (λ (ds : List Given). deliveries_plain rows s past path ++ ds) (plain_quiet (own_plain rows s past path) (subscriptions rows s past (Root path)) (deliveries_plain rows s past path) past)
      ∙ append-nil (deliveries_plain rows s past path)
  handed_still (Managed o n t) =
      ap (λ (ds : List Given). deliveries_instance rows s past o n t ++ ds) (instance_quiet (fixed rows s past o n) n t (deliveries_instance rows s past o n t) past)
      ∙ append-nil (deliveries_instance rows s past o n t)

  subscribed_none : (b : Bool) (o : Option OwnState) → (if b then option_and_then (λ (st : OwnState). subscribes st c r) o else None) ≡ None
  subscribed_none true None = refl
  subscribed_none true (Some st) = is.subscribes_none st r
  subscribed_none false o = refl

  -- after the entry all but its unit's own state is the same
  pub entry_alike : AreAlike rows s a past (entry ∷ past)
  entry_alike = record {
    others = own_other;
    handed = handed_still;
    subscribed = λ n.
        ap (λ (o : Option (ℕ × List Clause)). subscriptions rows s past n ++ option_to_list o) (subscribed_none (same a n) (own rows s past n))
        ∙ append-nil (subscriptions rows s past n);
    parts = λ e. refl;
    kept = λ o n. ap (option_or (fixed rows s past o n)) (fixes_none rows s c r (is.fixes r) (same a (Root o)) n (own_plain rows s past o)) ∙ or_none (fixed rows s past o n);
  }

  -- the unit's own state after the entry
  pub own_moved : (st : OwnState) → own rows s past a ≡ Some st → own rows s (entry ∷ past) a ≡ Some (after a st c r Effect.Nothing)
  own_moved st owned = by a refl
    where
      itself : (u : UnitName) → u ≡ a → same a u ≡ true
      itself u e = (same_name_decides a u).1 (sym e)

      by : (u : UnitName) → u ≡ a → own rows s (entry ∷ past) a ≡ Some (after a st c r Effect.Nothing)
      by (Root path) e =
          let mine : own_plain rows s past path ≡ Some st = subst (λ (u : UnitName). own rows s past u ≡ Some st) (sym e) owned in
          subst (λ (u : UnitName). own rows s (entry ∷ past) u ≡ Some (after u st c r Effect.Nothing)) e
          (rw (itself (Root path) e, mine) refl)
      by (Managed o n t) e =
          let mine : own_instance rows s past o n t ≡ Some st = subst (λ (u : UnitName). own rows s past u ≡ Some st) (sym e) owned in
          subst (λ (u : UnitName). own rows s (entry ∷ past) u ≡ Some (after u st c r Effect.Nothing)) e
          (rw (itself (Managed o n t) e, mine) refl)
