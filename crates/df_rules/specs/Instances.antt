-- What an instance never does.
use Rattle.std.specs.Prelude.{◌≡◌, ℕ, true, List}
use Rattle.df_label.specs.TagSet.{is_subset}
use Rattle.df_unit.specs.Beginnings.{readable_at}
use Rattle.df_unit.specs.OwnState.{OwnState, Fixed}

-- the instance of contamination t reads where it began to read, with the secrets of both labels of
-- its owner, and made no tags, subscriptions and units
pub record KeepsToItsName (f : Fixed) (t : List (List ℕ)) (st : OwnState) : Type 0 where
  pub input : st.input ≡ readable_at f t
  pub base : is_subset f.base t ≡ true
  pub tags : st.tags ≡ 0
  pub subs : st.subs ≡ 0
  pub units : st.units ≡ 0
