-- A run of local calls behind a journal.
use Rattle.std.proofs.Common.{◌≡◌, List, [], ◌∷◌, ◌++◌, Option, Some, reverse, refl, ap, sym, subst, ◌∙◌, append_assoc}
use Rattle.std.proofs.lemmas.List.{reverse-append}
use Rattle.df_label.specs.declared.label.Label.{Label}
use Rattle.df_label.specs.declared.privilege.Privilege.{Privilege}
use Rattle.df_local.specs.Locally.{with_own}
use Rattle.df_local.specs.code.LocalState.{LocalState}
use Rattle.df_local_run.specs.Runs.{IsLocalEntry, LeadTo, moved_by}
use Rattle.df_rules.specs.Deliveries.{deliveries}
use Rattle.df_rules.specs.Legal.{Legal, answer, answer_of, left}
use Rattle.df_rules.specs.Own.{own}
use Rattle.df_rules.specs.Start.{rows, roots}
use Rattle.df_rules.proofs.TakingRows.{row_taking_laws}
use Rattle.df_unit.specs.OwnState.{OwnState}
use Rattle.df_unit.specs.Rows.{after, reply}
use Rattle.df_unit.specs.declared.call.Call.{Call}
use Rattle.df_unit.specs.declared.entry.Effect.{Effect}
use Rattle.df_unit.specs.declared.entry.Entry.{Entry}
use Rattle.df_unit.specs.declared.entry.Entry.TheVariants.{Done, Emitted}
use Rattle.df_unit.specs.declared.name.UnitName.{UnitName}
use Rattle.df_unit.specs.declared.reply.Reply.{Reply}
use Rattle.df_tables.proofs.Alike.{AreAlike, AreOwned, alike_itself, alike_then}
use Rattle.df_tables.proofs.Inputs.{after_keeps}
use Rattle.df_machine.proofs.Locals.{IsApart, entry_alike, local_apart, own_moved}

-- the later journal goes on from the first by local calls of a unit alone, which bring the unit from
-- one state to the other
pub record GoesOn (starts : List (Label × List Privilege)) (base present : LocalState) (past later : List Entry) : Type 0 where
  pub legal : Legal rows (roots starts) later
  pub owned : AreOwned rows (roots starts) base.unit past later base.own present.own
  pub unit : present.unit ≡ base.unit
  pub input : present.own.input ≡ base.own.input

module _ (starts : List (Label × List Privilege)) where
  abbrev s : List OwnState
  s = roots starts

  -- by one entry
  entry_on : (l : LocalState) (past : List Entry) (a : UnitName) (c : Call) (r : Reply) → IsApart c → a ≡ l.unit → reply l.unit l.own [] c ≡ r → Legal rows s past → own rows s past l.unit ≡ Some l.own →
      GoesOn starts l (with_own l (after l.unit l.own c r Effect.Nothing)) past (Done a c r Effect.Nothing ∷ past)
  entry_on l past a c r is actor replied legal owned =
      let ds = deliveries rows s past l.unit in
      let here : answer_of rows l.unit (Some l.own) ds c ≡ (r, Effect.Nothing) = λ i. ((is.replies l.unit l.own (left l.own ds) ∙ replied) i, is.does l.unit l.own (left l.own ds) i) in
      let right : answer rows s past l.unit c ≡ (r, Effect.Nothing) = subst (λ (o : Option OwnState). answer_of rows l.unit o ds c ≡ (r, Effect.Nothing)) (sym owned) here in
      subst (λ (u : UnitName). GoesOn starts l (with_own l (after l.unit l.own c r Effect.Nothing)) past (Done u c r Effect.Nothing ∷ past)) (sym actor) (record {
        legal = (legal, right);
        owned = record {
          alike = entry_alike starts past l.unit c r is;
          before = owned;
          after = own_moved starts past l.unit c r is l.own owned;
          taken = (row_taking_laws starts).leaves l.unit l.own (left l.own ds) c r Effect.Nothing here refl;
        };
        unit = refl;
        input = after_keeps l.unit l.own c r Effect.Nothing is.reads;
      })

  -- by one entry of a run
  step_on : (l : LocalState) (past : List Entry) (e : Entry) → IsLocalEntry l e → Legal rows s past → own rows s past l.unit ≡ Some l.own → GoesOn starts l (moved_by l e) past (e ∷ past)
  step_on l past (Done a c r f) mine legal owned =
      let is = local_apart c mine.1 in
      let replied : reply l.unit l.own [] c ≡ r = ap (λ (p : Reply × Effect). p.0) mine.2 in
      let still : Effect.Nothing ≡ f = sym (is.does l.unit l.own []) ∙ ap (λ (p : Reply × Effect). p.1) mine.2 in
      subst (λ (x : Effect). GoesOn starts l (with_own l (after l.unit l.own c r x)) past (Done a c r x ∷ past)) still (entry_on l past a c r is mine.0 replied legal owned)
  step_on l past (Emitted c) mine legal owned = absurd mine

  on_then : (l m n : LocalState) (past later last : List Entry) → GoesOn starts l m past later → GoesOn starts m n later last → GoesOn starts l n past last
  on_then l m n past later last one two =
      let alike : AreAlike rows s l.unit later last = subst (λ (u : UnitName). AreAlike rows s u later last) one.unit two.owned.alike in record {
        legal = two.legal;
        owned = record {
          alike = alike_then rows s l.unit past later last one.owned.alike alike;
          before = one.owned.before;
          after = subst (λ (u : UnitName). own rows s last u ≡ Some n.own) one.unit two.owned.after;
          taken = two.owned.taken ∙ one.owned.taken;
        };
        unit = two.unit ∙ one.unit;
        input = two.input ∙ one.input;
      }

  -- by all entries of a run
  pub run_on : (es : List Entry) (base present : LocalState) (past : List Entry) → LeadTo es base present → Legal rows s past → own rows s past base.unit ≡ Some base.own → GoesOn starts base present past (reverse es ++ past)
  run_on [] base present past same legal owned = subst (λ (l : LocalState). GoesOn starts base l past past) same (record {
    legal = legal;
    owned = record { alike = alike_itself rows s base.unit past; before = owned; after = owned; taken = refl };
    unit = refl;
    input = refl;
  })
  run_on (e ∷ es) base present past run legal owned =
      let m : LocalState = moved_by base e in
      let one : GoesOn starts base m past (e ∷ past) = step_on base past e run.0 legal owned in
      let there : own rows s (e ∷ past) m.unit ≡ Some m.own = subst (λ (u : UnitName). own rows s (e ∷ past) u ≡ Some m.own) (sym one.unit) one.owned.after in
      let rest : GoesOn starts m present (e ∷ past) (reverse es ++ (e ∷ past)) = run_on es m present (e ∷ past) run.1 one.legal there in
      let is : reverse es ++ (e ∷ past) ≡ reverse (e ∷ es) ++ past = sym (append_assoc (reverse es) (e ∷ []) past) ∙ ap (λ (j : List Entry). j ++ past) (sym (reverse-append (e ∷ []) es)) in
      subst (GoesOn starts base present past) is (on_then base m present past (e ∷ past) (reverse es ++ (e ∷ past)) one rest)
