-- How a unit comes to be by another: what a managed subscription keeps, instances, and children.
use Rattle.std.specs.Prelude.{◌≡◌, ◌||◌, ◌++◌, ◌∷◌, [], ℕ, List, true}
use Rattle.df_label.specs.Label.{join}
use Rattle.df_label.specs.TagSet.{contains, is_subset}
use Rattle.df_label.specs.declared.label.Label.{Label}
use Rattle.df_label.specs.declared.privilege.Privilege.{Privilege}
use Rattle.df_unit.specs.Beginnings.{begin, beginning}
use Rattle.df_unit.specs.OwnState.{Fixed}
use Rattle.df_unit.specs.Rows.{path_of}
use Rattle.df_unit.specs.declared.name.UnitName.TheVariants.{Managed, Root}
use Rattle.df_local.specs.code.LocalState.{LocalState}
use Rattle.df_local.specs.declared.fixed.Fixed.{Fixed as Kept}

-- what a managed subscription keeps, as the definitions of journals see it
abbrev pub record_of : Kept → Fixed
record_of f = record {
  filter = f.filter;
  base = f.base;
  input_integrity = f.input_integrity;
  output_integrity = f.output_integrity;
  held = f.held;
  contamination = f.contamination;
  dropped = f.dropped;
  endorsed = f.endorsed;
}

-- each contamination tag is in the base or dropped; the output integrity is within the input's, and
-- each of its tags is in the contamination or endorsed
pub record IsAccounted (f : Fixed) : Type 0 where
  pub secret : (t : List ℕ) → contains f.contamination.s t ≡ true →
      (contains f.base t || contains f.dropped t) ≡ true
  pub within : is_subset f.output_integrity f.input_integrity ≡ true
  pub sound : (t : List ℕ) → contains f.output_integrity t ≡ true →
      (contains f.contamination.i t || contains f.endorsed t) ≡ true

-- the instance of contamination s as it begins
abbrev pub instance_at : List ℕ → ℕ → Fixed → List (List ℕ) → LocalState
instance_at owner sub f s = record { unit = Managed owner sub s; own = begin f s }

-- a child with these labels and privileges as its maker makes it
abbrev pub child_at : LocalState → ℕ → Label → Label → List Privilege → LocalState
child_at maker number input output held = record {
  unit = Root (path_of maker.unit ++ number ∷ []);
  own = beginning input output (join maker.own.contamination input) maker.own.dropped
      maker.own.endorsed held;
}
