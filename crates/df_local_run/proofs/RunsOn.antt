-- A run goes on by one call more.
use Rattle.std.proofs.Common.{◌≡◌, List, [], ◌∷◌, ◌++◌, true, Result, Ok, Err, refl, subst, ap, sym}
use Rattle.std.specs.Prelude.{OnErr, OnOk}
use Rattle.df_unit.specs.declared.call.Call.{Call}
use Rattle.df_unit.specs.declared.entry.Entry.{Entry}
use Rattle.df_local_run.specs.Runs.{IsLocalEntry, LeadTo, is_local, local_entry, moved_by}
use Rattle.df_local_run.specs.code.Parts.{IsCalled}
use Rattle.df_local.specs.code.LocalState.{LocalState}

lead_on : (es : List Entry) (base present : LocalState) (e : Entry) → LeadTo es base present → IsLocalEntry present e
    → LeadTo (es ++ e ∷ []) base (moved_by present e)
lead_on [] base present e same is_entry =
    (subst (λ (l : LocalState). IsLocalEntry l e) (sym same) is_entry, ap (λ (l : LocalState). moved_by l e) same)
lead_on (x ∷ es) base present e run is_entry = (run.0, lead_on es (moved_by base x) present e run.1 is_entry)

-- a call that was made goes on from the present
pub runs_on : (es longer : List Entry) (base present moved : LocalState) (c : Call)
    → LeadTo es base present → is_local c ≡ true → IsCalled c present moved es longer → LeadTo longer base moved
runs_on es longer base present moved c run local made =
    let e : Entry = local_entry present c in
    subst (λ (l : List Entry). LeadTo l base moved) (sym made.1)
    (subst (λ (m : LocalState). LeadTo (es ++ e ∷ []) base m) (sym made.0) (lead_on es base present e run (refl, local, refl)))

-- and so it is where the call was not made
pub stays_run : {X E : Type 0} (base present moved : LocalState) (es longer : List Entry) (c : Call) (r : Result X E)
    → LeadTo es base present → is_local c ≡ true → OnOk r (IsCalled c present moved es longer) → OnErr r (moved ≡ present)
    → OnErr r (longer ≡ es) → LeadTo longer base moved
stays_run base present moved es longer c (Ok x) run local made same kept = runs_on es longer base present moved c run local made
stays_run base present moved es longer c (Err e) run local made same kept =
    subst (λ (l : List Entry). LeadTo l base moved) (sym kept) (subst (λ (m : LocalState). LeadTo es base m) (sym same) run)
