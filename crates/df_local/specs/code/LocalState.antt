-- A unit as its local calls see it, and how it is stored.
use Rattle.std.specs.Prelude.{ℕ, List, Option, refl}
use Rattle.std.specs.Coded.{Coded, code_by, coded×, coded_list, coded_option, coded_ℕ}
use Rattle.df_label.specs.contracts.label.Label as label
use Rattle.df_label.specs.contracts.privilege.Privilege as privilege
use Rattle.df_label.specs.declared.label.Label.{Label}
use Rattle.df_label.specs.declared.privilege.Privilege.{Privilege}
use Rattle.df_unit.specs.contracts.handle.Handle as handle
use Rattle.df_unit.specs.contracts.name.UnitName as name
use Rattle.df_unit.specs.declared.handle.Handle.{Handle}
use Rattle.df_unit.specs.declared.name.UnitName.{UnitName}
use Rattle.df_unit.specs.OwnState.{OwnState}

-- a unit: its name and its own state
pub record LocalState : Type 0 where
  pub unit : UnitName
  pub own : OwnState

-- the labels and what is set aside or held
abbrev Rights : Type 0
Rights = Label × (Label × (Label × (List (List ℕ) × (List (List ℕ) × List Privilege))))

-- the five counters and the handles
abbrev Counts : Type 0
Counts = ℕ × (ℕ × (ℕ × (ℕ × (ℕ × List (Option Handle)))))

abbrev rights_code : Coded Rights
rights_code =
    coded× label.the_row.coded (coded× label.the_row.coded (coded× label.the_row.coded
    (coded× (coded_list (coded_list coded_ℕ))
    (coded× (coded_list (coded_list coded_ℕ)) (coded_list privilege.the_row.coded)))))

abbrev counts_code : Coded Counts
counts_code = coded× coded_ℕ (coded× coded_ℕ (coded× coded_ℕ
    (coded× coded_ℕ (coded× coded_ℕ (coded_list (coded_option handle.the_row.coded))))))

abbrev rights_of : OwnState → Rights
rights_of st = (st.input, (st.output, (st.contamination, (st.dropped, (st.endorsed, st.held)))))

abbrev counts_of : OwnState → Counts
counts_of st = (st.events, (st.tags, (st.subs, (st.units, (st.given, st.handles)))))

abbrev own_from : Rights → Counts → OwnState
own_from r c = record {
  input = r.0;
  output = r.1.0;
  contamination = r.1.1.0;
  dropped = r.1.1.1.0;
  endorsed = r.1.1.1.1.0;
  held = r.1.1.1.1.1;
  events = c.0;
  tags = c.1.0;
  subs = c.1.1.0;
  units = c.1.1.1.0;
  given = c.1.1.1.1.0;
  handles = c.1.1.1.1.1;
}

-- a unit is stored as its name and the fields of its state
abbrev pub local_code : Coded LocalState
local_code =
    code_by (UnitName × (Rights × Counts))
    (coded× name.the_row.coded (coded× rights_code counts_code))
    (λ l. (l.unit, (rights_of l.own, counts_of l.own)))
    (λ p. record { unit = p.0; own = own_from p.1.0 p.1.1 })
    (λ _. refl)
