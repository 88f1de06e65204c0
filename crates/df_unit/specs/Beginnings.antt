-- How units begin: roots, the instances of managed subscriptions, and the units that units make.
use Rattle.std.specs.Prelude.{ℕ, ◌==◌, if◌then◌else◌, List, [], Option, Some, None}
use Rattle.df_label.specs.Label.{join}
use Rattle.df_label.specs.TagSet.{union, meet}
use Rattle.df_label.specs.declared.label.Label.{Label}
use Rattle.df_label.specs.declared.privilege.Privilege.{Privilege}
use Rattle.df_filter.specs.declared.clause.Clause.{Clause}
use Rattle.df_unit.specs.declared.call.Call.{Call}
use Rattle.df_unit.specs.declared.call.Call.TheVariants.{SubscribeManaged, Instantiate}
use Rattle.df_unit.specs.declared.reply.Reply.{Reply}
use Rattle.df_unit.specs.OwnState.{OwnState, Fixed}

-- a unit that has done nothing yet
abbrev pub beginning : Label → Label → Label → List (List ℕ) → List (List ℕ) → List Privilege →
    OwnState
beginning input output contamination dropped endorsed held = record {
  input = input;
  output = output;
  contamination = contamination;
  dropped = dropped;
  endorsed = endorsed;
  held = held;
  events = 0;
  tags = 0;
  subs = 0;
  units = 0;
  given = 0;
  handles = [];
}

-- a root begins with one label
abbrev pub root : Label → List Privilege → OwnState
root label privileges = beginning label label label [] [] privileges

-- what a managed subscription with this filter keeps of its owner
abbrev pub fixed_of : OwnState → List Clause → Fixed
fixed_of st filter = record {
  filter = filter;
  base = union st.input.s st.output.s;
  input_integrity = st.input.i;
  output_integrity = meet st.input.i st.output.i;
  held = st.held;
  contamination = st.contamination;
  dropped = st.dropped;
  endorsed = st.endorsed;
}

abbrev pub fixes_at : OwnState → ℕ → List Clause → Reply → Option Fixed
fixes_at st n filter (Reply.Sub m) = if m == n then Some (fixed_of st filter) else None
fixes_at st n filter _ = None

-- what a unit's managed subscription of this number keeps, where this call and reply make it
abbrev pub fixes : OwnState → ℕ → Call → Reply → Option Fixed
fixes st n (SubscribeManaged filter) r = fixes_at st n filter r
fixes st n _ r = None

-- the label at which an instance of contamination t reads
abbrev pub readable_at : Fixed → List (List ℕ) → Label
readable_at f t = record { s = t; i = f.input_integrity }

-- the instance of contamination t
abbrev pub begin : Fixed → List (List ℕ) → OwnState
begin f t = beginning (readable_at f t) (record { s = t; i = f.output_integrity })
    (join f.contamination (readable_at f t)) f.dropped f.endorsed f.held

-- the confidentiality of a unit that is made with s
abbrev pub child_secrets : OwnState → List (List ℕ) → List (List ℕ)
child_secrets st s = union (union s st.input.s) st.output.s

abbrev pub child_input : OwnState → List (List ℕ) → Label
child_input st s = record { s = child_secrets st s; i = st.input.i }

abbrev pub child_output : OwnState → List (List ℕ) → Label
child_output st s = record { s = child_secrets st s; i = meet st.input.i st.output.i }

-- the unit that a unit makes with s and these privileges
abbrev pub child : OwnState → List (List ℕ) → List Privilege → OwnState
child st s privileges =
    beginning (child_input st s) (child_output st s) (join st.contamination (child_input st s))
    st.dropped st.endorsed privileges

abbrev pub makes_at : OwnState → ℕ → List (List ℕ) → List Privilege → Reply → Option OwnState
makes_at st k s privileges (Reply.Unit m) = if m == k then Some (child st s privileges) else None
makes_at st k s privileges _ = None

-- a unit's child of this number, where this call and reply make it
abbrev pub makes : OwnState → ℕ → Call → Reply → Option OwnState
makes st k (Instantiate s privileges) r = makes_at st k s privileges r
makes st k _ r = None
