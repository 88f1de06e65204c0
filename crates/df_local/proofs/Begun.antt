-- What begins by another unit keeps the fact on its tags.
use Rattle.df_local.proofs.Names.{◌≡◌, inl, inr, ℕ, List, true, sym, ◌∙◌, join, Label, begin, beginning, fixed_of, readable_at, IsKept, Fixed, OwnState, IsAccounted}
use Rattle.std.proofs.lemmas.Bool.{and_parts, or_cases, or_left, or_right}
use Rattle.df_filter.specs.declared.clause.Clause.{Clause}
use Rattle.df_label.specs.TagSet.{contains, is_subset, meet, union}
use Rattle.df_label.specs.declared.privilege.Privilege.{Privilege}
use Rattle.df_label.proofs.LabelFacts.{flows_to-join_right}
use Rattle.df_label.proofs.TagSetFacts.{contains-included, contains-meet, is_subset-union_right, meet-is_subset_left}
use Rattle.df_unit.proofs.Members.{in_both, in_either}

-- what a subscription keeps of a unit is accounted for
pub fixed_accounted : (st : OwnState) (filter : List Clause) → IsKept st → IsAccounted (fixed_of st filter)
fixed_accounted st filter k = record {
  secret = λ t h.
      elim (or_cases (contains st.output.s t) (contains st.dropped t) (k.secret t h)) [
        | inl z ↦ or_left (contains (union st.input.s st.output.s) t) (contains st.dropped t)
            (contains-included st.output.s (union st.input.s st.output.s) t (is_subset-union_right st.input.s st.output.s) z)
        | inr z ↦ or_right (contains (union st.input.s st.output.s) t) (contains st.dropped t) z
      ];
  within = meet-is_subset_left st.input.i st.output.i;
  sound = λ t h. let both = and_parts (contains st.input.i t) (contains st.output.i t) (sym (contains-meet st.input.i st.output.i t) ∙ h) in k.sound t both.1;
}

-- an instance begins with the fact
pub begun_instance : (f : Fixed) (s : List (List ℕ)) → is_subset f.base s ≡ true → IsAccounted f → IsKept (begin f s)
begun_instance f s base a = record {
  reads = flows_to-join_right f.contamination (readable_at f s);
  secret = λ t h.
      elim (in_either f.contamination.s s t h) [
        | inl m ↦ elim (or_cases (contains f.base t) (contains f.dropped t) (a.secret t m)) [
          | inl z ↦ or_left (contains s t) (contains f.dropped t) (contains-included f.base s t base z)
          | inr z ↦ or_right (contains s t) (contains f.dropped t) z
        ]
        | inr m ↦ or_left (contains s t) (contains f.dropped t) m
      ];
  sound = λ t h.
      elim (or_cases (contains f.contamination.i t) (contains f.endorsed t) (a.sound t h)) [
        | inl m ↦ or_left (contains (meet f.contamination.i f.input_integrity) t) (contains f.endorsed t)
            (in_both f.contamination.i f.input_integrity t m (contains-included f.output_integrity f.input_integrity t a.within h))
        | inr m ↦ or_right (contains (meet f.contamination.i f.input_integrity) t) (contains f.endorsed t) m
      ];
}

-- a child begins with the fact
pub begun_child : (maker : OwnState) (input output : Label) (held : List Privilege) → IsKept maker
    → is_subset input.s output.s ≡ true → is_subset maker.output.s output.s ≡ true → is_subset output.i input.i ≡ true
    → is_subset output.i maker.output.i ≡ true
    → IsKept (beginning input output (join maker.contamination input) maker.dropped maker.endorsed held)
begun_child maker input output held k reads writes read_integrity written_integrity = record {
  reads = flows_to-join_right maker.contamination input;
  secret = λ t h.
      elim (in_either maker.contamination.s input.s t h) [
        | inl m ↦ elim (or_cases (contains maker.output.s t) (contains maker.dropped t) (k.secret t m)) [
          | inl z ↦ or_left (contains output.s t) (contains maker.dropped t) (contains-included maker.output.s output.s t writes z)
          | inr z ↦ or_right (contains output.s t) (contains maker.dropped t) z
        ]
        | inr m ↦ or_left (contains output.s t) (contains maker.dropped t) (contains-included input.s output.s t reads m)
      ];
  sound = λ t h.
      elim (or_cases (contains maker.contamination.i t) (contains maker.endorsed t)
      (k.sound t (contains-included output.i maker.output.i t written_integrity h))) [
        | inl m ↦ or_left (contains (meet maker.contamination.i input.i) t) (contains maker.endorsed t)
            (in_both maker.contamination.i input.i t m (contains-included output.i input.i t read_integrity h))
        | inr m ↦ or_right (contains (meet maker.contamination.i input.i) t) (contains maker.endorsed t) m
      ];
}
