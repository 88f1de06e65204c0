-- Instances and children begin above their owner or maker.
use Rattle.df_rules.proofs.Names.{◌≡◌, ◌⊎◌, inl, inr, ℕ, List, Bool, true, false, refl, subst, ap, ◌∙◌, cond, Option, Some, None, option_and_then, option_or, Clause, maker_of, number_of, is_subset, union, meet, Label, Privilege, flows_to-from_parts, flows_to-join_left, is_subset-refl, is_subset-trans, is_subset-union_left, is_subset-union_right, meet-is_subset_right, commit_of, before_fixed, stepped, made_by, own_plain, own_instance, fixed, is_given, born, rows, same_name-exact, fixed_of, begin, readable_at, child, child_input, child_secrets, same, OwnState, Fixed, Call, Instantiate, Effect, Entry, Done, Emitted, UnitName, Root, Managed, Reply}
use Rattle.df_rules.specs.Begins.{Begins, IsAbove, IsInstanceOf, IsChildOf, owner_of}
use Rattle.df_rules.proofs.Invariant.{FixedFrom, fixed_from, base_within}
use Rattle.df_rules.proofs.RowLaws.{by_fixed, makes_is}
use Rattle.df_rules.proofs.Steps.{or_is, step_none}

begin_above : (st : OwnState) (filter : List Clause) (t : List (List ℕ)) → is_subset (fixed_of st filter).base t ≡ true → IsInstanceOf st (begin (fixed_of st filter) t)
begin_above st filter t base =
    let reads = is_subset-trans st.input.s (union st.input.s st.output.s) t (is_subset-union_left st.input.s st.output.s) base in
    let writes = is_subset-trans st.output.s (union st.input.s st.output.s) t (is_subset-union_right st.input.s st.output.s) base in
    let input : Label = readable_at (fixed_of st filter) t in
    let output : Label = record { s = t; i = meet st.input.i st.output.i } in
    record {
      above = record {
        reads_input = reads;
        reads_output = writes;
        writes_input = reads;
        writes_output = writes;
        input_integrity = refl;
        output_integrity = refl;
        input = flows_to-from_parts st.input input reads (is_subset-refl st.input.i);
        output = flows_to-from_parts st.output output writes (meet-is_subset_right st.input.i st.output.i);
        contamination = flows_to-join_left st.contamination input;
        least = refl;
        dropped = refl;
        endorsed = refl;
      };
      held = refl;
    }

child_above : (st : OwnState) (s : List (List ℕ)) (privileges : List Privilege) → IsAbove st (child st s privileges)
child_above st s privileges =
    let reads = is_subset-trans st.input.s (union s st.input.s) (child_secrets st s) (is_subset-union_right s st.input.s) (is_subset-union_left (union s st.input.s) st.output.s) in
    let writes = is_subset-union_right (union s st.input.s) st.output.s in
    let output : Label = record { s = child_secrets st s; i = meet st.input.i st.output.i } in
    record {
      reads_input = reads;
      reads_output = writes;
      writes_input = reads;
      writes_output = writes;
      input_integrity = refl;
      output_integrity = refl;
      input = flows_to-from_parts st.input (child_input st s) reads (is_subset-refl st.input.i);
      output = flows_to-from_parts st.output output writes (meet-is_subset_right st.input.i st.output.i);
      contamination = flows_to-join_left st.contamination (child_input st s);
      least = refl;
      dropped = refl;
      endorsed = refl;
    }

-- where there was none, the newer one's is the state
newly : (u : UnitName) (e : Entry) (o y : Option OwnState) (s : List OwnState) (st : OwnState) → o ≡ None → option_or (stepped rows u e o) y ≡ Some st → y ≡ Some st
newly u e o y s st none h = go (or_is (stepped rows u e o) y st h)
  where
    go : (stepped rows u e o ≡ Some st) ⊎ ((stepped rows u e o ≡ None) × (y ≡ Some st)) → y ≡ Some st
    go (inl step) = let gone = step_none rows s u e o none in absurd (let z : ⊥ = cc in z)
    go (inr birth) = birth.1

module _ (s : List OwnState) where
  -- an owner of whom the instance is one
  HasOwner : List Entry → List ℕ → ℕ → OwnState → Type 0
  HasOwner past o n st = (owner : OwnState) × (owner_of s past o n ≡ Some owner) × IsInstanceOf owner st

  pub instance_above : (e : Entry) (past : List Entry) (o : List ℕ) (n : ℕ) (t : List (List ℕ)) (st : OwnState) → Begins s past e (Managed o n t) st → (owner : OwnState) × (owner_of s past o n ≡ Some owner) × IsInstanceOf owner st
  unfolding HasOwner
  instance_above e past o n t st begins =
      go (fixed rows s past o n) (fixed_from rows s past o n) (newly (Managed o n t) e (own_instance rows s past o n t) (born rows (fixed rows s past o n) t past (commit_of e)) s st begins.absent begins.begun)
    where
      given : (f : Fixed) → FixedFrom rows s (before_fixed rows s past o n) o n (Some f) → (b : Bool) → is_given (Some f) t past (commit_of e) ≡ b → cond b (Some (begin f t)) None ≡ Some st → HasOwner past o n st
      given f from true chosen h =
          let is : begin f t ≡ st = (let k = h in cc) in
          let above : is_subset f.base t ≡ true → IsInstanceOf from.0 (begin f t) =
          by_fixed (λ f. is_subset f.base t ≡ true → IsInstanceOf from.0 (begin f t)) from.0 n from.1 from.2 f from.4 (λ filter. begin_above from.0 filter t) in
          (from.0, from.3, subst (IsInstanceOf from.0) is (above (base_within f t past (commit_of e) chosen)))
      given f from false chosen h = absurd (let z : ⊥ = cc in z)

      go : (fx : Option Fixed) → FixedFrom rows s (before_fixed rows s past o n) o n fx → born rows fx t past (commit_of e) ≡ Some st → HasOwner past o n st
      go None from h = absurd (let z : ⊥ = cc in z)
      go (Some f) from h = given f from (is_given (Some f) t past (commit_of e)) refl h

  pub child_is_above : (e : Entry) (past : List Entry) (path : List ℕ) (st : OwnState) → Begins s past e (Root path) st →
      (maker : OwnState) × (own_plain rows s past (maker_of path) ≡ Some maker) × IsChildOf maker e path st
  child_is_above e past path st begins = go e (own_plain rows s past (maker_of path)) refl (newly (Root path) e (own_plain rows s past path) (made_by rows e path (own_plain rows s past (maker_of path))) s st begins.absent begins.begun)
    where
      made : (m : OwnState) (a : UnitName) (c : Call) (r : Reply) (f : Effect) → same a (Root (maker_of path)) ≡ true → rows.makes m (number_of path) c r ≡ Some st → IsChildOf m (Done a c r f) path st
      made m a c r f who h =
          let is = makes_is m (number_of path) c r st h in
          let ch = child m is.0 is.1 in
          let actor : Done a c r f ≡ Done (Root (maker_of path)) c r f = ap (λ (u : UnitName). Done u c r f) (same_name-exact a (Root (maker_of path)) who) in
          let call : Done (Root (maker_of path)) c r f ≡ Done (Root (maker_of path)) (Instantiate is.0 is.1) r f = ap (λ (x : Call). Done (Root (maker_of path)) x r f) is.2 in
          let answer : Done (Root (maker_of path)) (Instantiate is.0 is.1) r f ≡ Done (Root (maker_of path)) (Instantiate is.0 is.1) (Reply.Unit (number_of path)) f = ap (λ (x : Reply). Done (Root (maker_of path)) (Instantiate is.0 is.1) x f) is.3 in
          let whole : IsChildOf m (Done a c r f) path ch = record { above = child_above m is.0 is.1; made = (is.0, f, actor ∙ call ∙ answer) } in
          subst (IsChildOf m (Done a c r f) path) is.4 whole

      go : (e : Entry) (maker : Option OwnState) → own_plain rows s past (maker_of path) ≡ maker → made_by rows e path maker ≡ Some st → (maker : OwnState) × (own_plain rows s past (maker_of path) ≡ Some maker) × IsChildOf maker e path st
      go (Emitted c) maker mine h = absurd (let z : ⊥ = cc in z)
      go (Done a c r f) maker mine h = by (same a (Root (maker_of path))) refl maker mine h
        where
          by : (b : Bool) → same a (Root (maker_of path)) ≡ b → (maker : Option OwnState) → own_plain rows s past (maker_of path) ≡ maker → cond b (option_and_then (λ st. rows.makes st (number_of path) c r) maker) None ≡ Some st →
              (maker : OwnState) × (own_plain rows s past (maker_of path) ≡ Some maker) × IsChildOf maker (Done a c r f) path st
          by true who None mine h = absurd (let z : ⊥ = cc in z)
          by true who (Some m) mine h = (m, mine, made m a c r f who h)
          by false who maker mine h = absurd (let z : ⊥ = cc in z)
