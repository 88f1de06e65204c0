-- Each row of the call table keeps the kept fact, and roots, instances and children begin with it.
use Rattle.std.proofs.Common.{inl, inr, ◌≡◌, ◌⊎◌, ℕ, List, Bool, true, false, ◌||◌, refl, sym, ◌∙◌, subst, cond}
use Rattle.std.proofs.lemmas.Bool.{and_parts, or_cases, or_left, or_right}
use Rattle.df_filter.specs.declared.clause.Clause.{Clause}
use Rattle.df_label.specs.Label.{flows_to}
use Rattle.df_label.specs.TagSet.{contains, is_subset, with, without, union, meet}
use Rattle.df_label.specs.declared.label.Label.{Label}
use Rattle.df_label.specs.declared.privilege.Privilege.{Privilege}
use Rattle.df_label.proofs.LabelFacts.{flows_to-parts, flows_to-refl, flows_to-join_right}
use Rattle.df_label.proofs.TagSetFacts.{contains-meet, contains-included, is_subset-trans, is_subset-union_right}
use Rattle.df_priv.specs.declared.need.Act.{Act}
use Rattle.df_priv.specs.declared.need.Act.TheVariants.{Add, Del}
use Rattle.df_priv.specs.declared.need.Half.{Half}
use Rattle.df_unit.specs.Beginnings.{root, fixed_of, begin, child, child_input, child_secrets}
use Rattle.df_unit.specs.KeptFact.{AreAccounted, IsKept}
use Rattle.df_unit.specs.OwnState.{OwnState}
use Rattle.df_unit.specs.Rows.{after, changed, half_changed, now_dropped, now_endorsed, out_changed, is_accepted}
use Rattle.df_unit.specs.declared.call.Call.{Call}
use Rattle.df_unit.specs.declared.call.Call.TheVariants.{Get, ChangeOutLabel, ChangeInOut}
use Rattle.df_unit.specs.declared.entry.Effect.{Effect}
use Rattle.df_unit.specs.declared.name.UnitName.{UnitName}
use Rattle.df_unit.specs.declared.reply.Reply.{Reply}
use Rattle.df_unit.proofs.Members.{has_added, has_still, added_or_had, in_either, in_both, others_stay, stayed, same_or_not}

-- the kept fact over changes of the output label

or_mono_right : (a b c : Bool) → (b ≡ true → c ≡ true) → (a || b) ≡ true → (a || c) ≡ true
or_mono_right true b c f h = refl
or_mono_right false b c f h = f h

out_secret : (st : OwnState) (half : Half) (act : Act) (t : List ℕ) → IsKept st → (y : List ℕ) → contains st.contamination.s y ≡ true → (contains (half_changed half act t st.output).s y || contains (now_dropped half act t st) y) ≡ true
out_secret st Half.S Add t k y h =
    elim (or_cases (contains st.output.s y) (contains st.dropped y) (k.secret y h)) [
      | inl m ↦ or_left (contains (with st.output.s t) y) (contains st.dropped y) (has_still st.output.s t y m)
      | inr m ↦ or_right (contains (with st.output.s t) y) (contains st.dropped y) m
    ]
out_secret st Half.S Del t k y h = go (contains st.output.s t) refl
  where
    kept : (b : Bool) → contains st.dropped y ≡ true → contains (cond b (with st.dropped t) st.dropped) y ≡ true
    kept true m = has_still st.dropped t y m
    kept false m = m

    here : (b : Bool) → contains st.output.s t ≡ b → y ≡ t → contains st.output.s y ≡ true → contains (cond b (with st.dropped t) st.dropped) y ≡ true
    here true e same m = subst (λ (z : List ℕ). contains (with st.dropped t) z ≡ true) (sym same) (has_added st.dropped t)
    here false e same m = let z : contains st.output.s y ≡ false = subst (λ (z : List ℕ). contains st.output.s z ≡ false) (sym same) e in cc

    go : (b : Bool) → contains st.output.s t ≡ b → (contains (without st.output.s t) y || contains (cond b (with st.dropped t) st.dropped) y) ≡ true
    go b e =
        elim (or_cases (contains st.output.s y) (contains st.dropped y) (k.secret y h)) [
          | inl m ↦ elim (same_or_not y t) [
            | inl same ↦ or_right (contains (without st.output.s t) y) (contains (cond b (with st.dropped t) st.dropped) y) (here b e same m)
            | inr other ↦ or_left (contains (without st.output.s t) y) (contains (cond b (with st.dropped t) st.dropped) y) (others_stay st.output.s t y m other)
          ]
          | inr m ↦ or_right (contains (without st.output.s t) y) (contains (cond b (with st.dropped t) st.dropped) y) (kept b m)
        ]
out_secret st Half.I Add t k y h = k.secret y h
out_secret st Half.I Del t k y h = k.secret y h

out_sound : (st : OwnState) (half : Half) (act : Act) (t : List ℕ) → IsKept st → (y : List ℕ) → contains (half_changed half act t st.output).i y ≡ true → (contains st.contamination.i y || contains (now_endorsed half act t st) y) ≡ true
out_sound st Half.I Add t k y h = go (contains st.output.i t) refl
  where
    kept : (b : Bool) → contains st.endorsed y ≡ true → contains (cond b st.endorsed (with st.endorsed t)) y ≡ true
    kept true m = m
    kept false m = has_still st.endorsed t y m

    old : (b : Bool) → contains st.output.i y ≡ true → (contains st.contamination.i y || contains (cond b st.endorsed (with st.endorsed t)) y) ≡ true
    old b m = or_mono_right (contains st.contamination.i y) (contains st.endorsed y) (contains (cond b st.endorsed (with st.endorsed t)) y) (kept b) (k.sound y m)

    here : (b : Bool) → contains st.output.i t ≡ b → t ≡ y → (contains st.contamination.i y || contains (cond b st.endorsed (with st.endorsed t)) y) ≡ true
    here true e same = old true (subst (λ (z : List ℕ). contains st.output.i z ≡ true) same e)
    here false e same = or_right (contains st.contamination.i y) (contains (with st.endorsed t) y) (subst (λ (z : List ℕ). contains (with st.endorsed t) z ≡ true) same (has_added st.endorsed t))

    go : (b : Bool) → contains st.output.i t ≡ b → (contains st.contamination.i y || contains (cond b st.endorsed (with st.endorsed t)) y) ≡ true
    go b e = elim (added_or_had st.output.i t y h) [ inl same ↦ here b e same | inr m ↦ old b m ]
out_sound st Half.I Del t k y h = k.sound y (stayed st.output.i t y h).0
out_sound st Half.S Add t k y h = k.sound y h
out_sound st Half.S Del t k y h = k.sound y h

-- over changes of both labels, the input label's tags are in the contamination or in the output label
in_secret : (st : OwnState) (half : Half) (act : Act) (t : List ℕ) → IsKept st → (y : List ℕ) → contains (half_changed half act t st.input).s y ≡ true → (contains st.contamination.s y ≡ true) ⊎ (contains (half_changed half act t st.output).s y ≡ true)
in_secret st half act t k y = go half act
  where
    read : contains st.input.s y ≡ true → contains st.contamination.s y ≡ true
    read m = contains-included st.input.s st.contamination.s y (flows_to-parts st.input st.contamination k.reads).0 m

    go : (half : Half) (act : Act) → contains (half_changed half act t st.input).s y ≡ true → (contains st.contamination.s y ≡ true) ⊎ (contains (half_changed half act t st.output).s y ≡ true)
    go Half.S Add h = elim (added_or_had st.input.s t y h) [
      | inl same ↦ inr (subst (λ (z : List ℕ). contains (with st.output.s t) z ≡ true) same (has_added st.output.s t))
      | inr m ↦ inl (read m)
    ]
    go Half.S Del h = inl (read (stayed st.input.s t y h).0)
    go Half.I Add h = inl (read h)
    go Half.I Del h = inl (read h)

in_sound : (st : OwnState) (half : Half) (act : Act) (t : List ℕ) → IsKept st → (y : List ℕ) → contains (half_changed half act t st.output).i y ≡ true → contains st.contamination.i y ≡ true → contains (meet st.contamination.i (half_changed half act t st.input).i) y ≡ true
in_sound st half act t k y h m = in_both st.contamination.i (half_changed half act t st.input).i y m (go half act h)
  where
    read : contains st.input.i y ≡ true
    read = contains-included st.contamination.i st.input.i y (flows_to-parts st.input st.contamination k.reads).1 m

    go : (half : Half) (act : Act) → contains (half_changed half act t st.output).i y ≡ true → contains (half_changed half act t st.input).i y ≡ true
    go Half.S Add h = read
    go Half.S Del h = read
    go Half.I Add h = has_still st.input.i t y read
    go Half.I Del h = others_stay st.input.i t y read (stayed st.output.i t y h).1

-- what is equal to the parts of a state that keeps the fact is accounted for
pub accounted_as : (st : OwnState) (input output contamination : Label) (dropped endorsed : List (List ℕ)) → IsKept st → input ≡ st.input → output ≡ st.output → contamination ≡ st.contamination → dropped ≡ st.dropped → endorsed ≡ st.endorsed → AreAccounted input output contamination dropped endorsed
accounted_as st input output contamination dropped endorsed k i o c d e = rw (i, o, c, d, e) k

-- the input label goes on to flow to the contamination
pub reads_changed : (u : UnitName) (st : OwnState) (c : Call) (f : Effect) → flows_to st.input st.contamination ≡ true → flows_to (changed u st c f).input (changed u st c f).contamination ≡ true
reads_changed u st (ChangeInOut half act t) f h = flows_to-join_right st.contamination (half_changed half act t st.input)
reads_changed u st Get Effect.Nothing h = h
reads_changed u st Get (Effect.Commit k) h = h
reads_changed u st Get (Effect.Given d) h = h
reads_changed u st _ f h = h

-- a change of the output label keeps the fact
pub kept_out : (st : OwnState) (half : Half) (act : Act) (t : List ℕ) → IsKept st → IsKept (out_changed half act t st)
kept_out st half act t k = record { reads = k.reads; secret = out_secret st half act t k; sound = out_sound st half act t k }

-- so does a change of both labels
pub kept_in_out : (u : UnitName) (st : OwnState) (half : Half) (act : Act) (t : List ℕ) (f : Effect) → IsKept st → IsKept (changed u st (ChangeInOut half act t) f)
kept_in_out u st half act t f k = record {
  reads = reads_changed u st (ChangeInOut half act t) f k.reads;
  secret = λ y h. elim (in_either st.contamination.s (half_changed half act t st.input).s y h) [
    | inl m ↦ out_secret st half act t k y m
    | inr m ↦ elim (in_secret st half act t k y m) [
      | inl n ↦ out_secret st half act t k y n
      | inr n ↦ or_left (contains (half_changed half act t st.output).s y) (contains (now_dropped half act t st) y) n
    ]
  ];
  sound = λ y h. elim (or_cases (contains st.contamination.i y) (contains (now_endorsed half act t st) y) (out_sound st half act t k y h)) [
    | inl m ↦ or_left (contains (meet st.contamination.i (half_changed half act t st.input).i) y) (contains (now_endorsed half act t st) y) (in_sound st half act t k y h m)
    | inr m ↦ or_right (contains (meet st.contamination.i (half_changed half act t st.input).i) y) (contains (now_endorsed half act t st) y) m
  ];
}

kept_changed : (u : UnitName) (st : OwnState) (c : Call) (f : Effect) → IsKept st → IsKept (changed u st c f)
kept_changed u st (ChangeOutLabel half act t) f k = kept_out st half act t k
kept_changed u st (ChangeInOut half act t) f k = kept_in_out u st half act t f k
kept_changed u st Get Effect.Nothing k = k
kept_changed u st Get (Effect.Commit c) k = k
kept_changed u st Get (Effect.Given d) k = k
kept_changed u st _ f k = k

pub kept_after : (u : UnitName) (st : OwnState) (c : Call) (r : Reply) (f : Effect) → IsKept st → IsKept (after u st c r f)
kept_after u st c r f k = go (is_accepted r)
  where
    go : (b : Bool) → IsKept (cond b (changed u st c f) st)
    go true = kept_changed u st c f k
    go false = k

pub kept_root : (label : Label) (privileges : List Privilege) → IsKept (root label privileges)
kept_root label privileges = record {
  reads = flows_to-refl label;
  secret = λ y h. or_left (contains label.s y) false h;
  sound = λ y h. or_left (contains label.i y) false h;
}

-- what begins with the owner's or maker's secrets, and integrity that both its labels have, keeps the fact
kept_passed : (st : OwnState) (t : List (List ℕ)) → IsKept st → is_subset st.output.s t ≡ true → (y : List ℕ) → contains (union st.contamination.s t) y ≡ true → (contains t y || contains st.dropped y) ≡ true
kept_passed st t k base y h =
    elim (in_either st.contamination.s t y h) [
      | inl m ↦ elim (or_cases (contains st.output.s y) (contains st.dropped y) (k.secret y m)) [
        | inl z ↦ or_left (contains t y) (contains st.dropped y) (contains-included st.output.s t y base z)
        | inr z ↦ or_right (contains t y) (contains st.dropped y) z
      ]
      | inr m ↦ or_left (contains t y) (contains st.dropped y) m
    ]

sound_passed : (st : OwnState) → IsKept st → (y : List ℕ) → contains (meet st.input.i st.output.i) y ≡ true → (contains (meet st.contamination.i st.input.i) y || contains st.endorsed y) ≡ true
sound_passed st k y h =
    let both = and_parts (contains st.input.i y) (contains st.output.i y) (sym (contains-meet st.input.i st.output.i y) ∙ h) in
    elim (or_cases (contains st.contamination.i y) (contains st.endorsed y) (k.sound y both.1)) [
      | inl m ↦ or_left (contains (meet st.contamination.i st.input.i) y) (contains st.endorsed y) (in_both st.contamination.i st.input.i y m both.0)
      | inr m ↦ or_right (contains (meet st.contamination.i st.input.i) y) (contains st.endorsed y) m
    ]

pub kept_begin : (st : OwnState) (filter : List Clause) (t : List (List ℕ)) → IsKept st → is_subset (fixed_of st filter).base t ≡ true → IsKept (begin (fixed_of st filter) t)
kept_begin st filter t k base = record {
  reads = flows_to-join_right st.contamination (record { s = t; i = st.input.i });
  secret = kept_passed st t k (is_subset-trans st.output.s (union st.input.s st.output.s) t (is_subset-union_right st.input.s st.output.s) base);
  sound = sound_passed st k;
}

pub kept_child : (st : OwnState) (s : List (List ℕ)) (privileges : List Privilege) → IsKept st → IsKept (child st s privileges)
kept_child st s privileges k = record {
  reads = flows_to-join_right st.contamination (child_input st s);
  secret = kept_passed st (child_secrets st s) k (is_subset-union_right (union s st.input.s) st.output.s);
  sound = sound_passed st k;
}
