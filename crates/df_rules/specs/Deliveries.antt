-- What a unit is to be handed, in order.
use Rattle.std.specs.Prelude.{ℕ, Bool, not, ◌&&◌, ◌==◌, if◌then◌else◌, List, [], ◌∷◌, ◌++◌, Option, Some, None}
use Rattle.std.specs.List.{list_any, flat_map}
use Rattle.df_filter.specs.declared.clause.Clause.{Clause}
use Rattle.df_part.specs.Contents.{apply}
use Rattle.df_part.specs.Part.{cut}
use Rattle.df_part.specs.declared.part.Part.{Part}
use Rattle.df_rules.specs.Choices.{matches}
use Rattle.df_rules.specs.Commits.{commit_of, contents}
use Rattle.df_rules.specs.Own.{own_plain, fixed, is_given}
use Rattle.df_rules.specs.Rules.{Rules}
use Rattle.df_rules.specs.Subscriptions.{subscriptions}
use Rattle.df_unit.specs.Beginnings.{readable_at}
use Rattle.df_unit.specs.Name.{same_event}
use Rattle.df_unit.specs.OwnState.{OwnState, Fixed}
use Rattle.df_unit.specs.Rows.{is_nil}
use Rattle.df_unit.specs.declared.commit.Commit.{Commit}
use Rattle.df_unit.specs.declared.commit.Given.{Given}
use Rattle.df_unit.specs.declared.entry.Entry.{Entry}
use Rattle.df_unit.specs.declared.name.EventName.{EventName}
use Rattle.df_unit.specs.declared.name.UnitName.{UnitName}
use Rattle.df_unit.specs.declared.name.UnitName.TheVariants.{Root, Managed}

-- whether the event was handed to the subscription
abbrev pub was_handed : List Given → EventName → ℕ → Bool
was_handed ds event n = list_any (λ d. same_event d.event event && (d.sub == n)) ds

-- the delivery of these parts to an ordinary subscription, where its filter matches them and none
-- came before
abbrev pub offer : List Given → EventName → List Part → (ℕ × List Clause) → List Given
offer ds event parts sub = if matches sub.1 parts && not (was_handed ds event sub.0)
    then record { event = event; sub = sub.0; parts = parts } ∷ [] else []

-- what a commit brings to a plain unit with these subscriptions, which had these deliveries:
-- nothing, unless it adds a part that the unit may read
abbrev pub plain_news : Option OwnState → List (ℕ × List Clause) → List Given → List Entry →
    Option Commit → List Given
plain_news None subs ds past oc = []
plain_news (Some st) subs ds past None = []
plain_news (Some st) subs ds past (Some c) =
    if is_nil (cut st.input c.edit.1) then []
    else
    let seen = cut st.input (apply c.edit (contents past c.event)) in
    flat_map (λ sub. offer ds c.event seen sub) subs

-- what a commit brings to the instance of contamination t, which had these deliveries
abbrev pub instance_news : Option Fixed → ℕ → List (List ℕ) → List Given → List Entry →
    Option Commit → List Given
instance_news None n t ds past oc = []
instance_news (Some f) n t ds past None = []
instance_news (Some f) n t ds past (Some c) =
    if is_given (Some f) t past (Some c) && not (was_handed ds c.event n)
    then record {
      event = c.event;
      sub = n;
      parts = cut (readable_at f t) (apply c.edit (contents past c.event));
    } ∷ []
    else []

abbrev pub deliveries_plain : Rules → List OwnState → List Entry → List ℕ → List Given
deliveries_plain R s [] path = []
deliveries_plain R s (e ∷ past) path =
    let ds = deliveries_plain R s past path in
    let subs = subscriptions R s past (Root path) in
    ds ++ plain_news (own_plain R s past path) subs ds past (commit_of e)

abbrev pub deliveries_instance : Rules → List OwnState → List Entry → List ℕ → ℕ → List (List ℕ) →
    List Given
deliveries_instance R s [] o n t = []
deliveries_instance R s (e ∷ past) o n t =
    let ds = deliveries_instance R s past o n t in
    ds ++ instance_news (fixed R s past o n) n t ds past (commit_of e)

-- all that a unit is to be handed by the commits of the entries
abbrev pub deliveries : Rules → List OwnState → List Entry → UnitName → List Given
deliveries R s past (Root path) = deliveries_plain R s past path
deliveries R s past (Managed o n t) = deliveries_instance R s past o n t
