-- A turn that began in an earlier journal is current where its unit made no entry since.
use Rattle.df_crew.proofs.Names.{◌≡◌, inl, ℕ, ◌-◌, ◌≤◌, List, ◌++◌, false, refl, sym, ◌∙◌, ap, subst, Result, Ok, Err, drop, take, length, arith, length-append, IfErr, OnOk, reverse, list_any, drop_at, length-drop, reverse-reverse, take_all, IsCurrent, CrewState, origin_of, seen_of, Brain, has_entry, is_of, TurnState, Entry, UnitName}
use Rattle.df_crew.proofs.HasEntry.{entry_any}
use Rattle.df_crew.proofs.Others.{current_kept}
use Rattle.df_crew.proofs.Seen.{crew_is}
use Rattle.df_crew.specs.Booking.{IsRefused}
use Rattle.df_crew.specs.Since.{WasCurrent}
use Rattle.df_crew.specs.declared.crew.BookCause.{BookCause}
use Rattle.df_crew.specs.declared.crew.BookCause.TheVariants as why
use Rattle.df_crew.specs.declared.crew.NotTurned.{NotTurned}

module _ {B : Type 0} (brain : Brain B) (t : TurnState B) (count : ℕ) (crew : CrewState B) (was : WasCurrent brain t count crew) (es : List Entry)
    (is : reverse es ≡ crew.core.1) where
  all : was.before ++ was.begins.0 ≡ es
  all = was.begins.1 ∙ ap (λ (past : List Entry). reverse past) (sym is) ∙ reverse-reverse es

  -- the journal has the entries of then
  pub within : count ≤ length es
  within = let n = was.counted in let k = length-append was.before was.begins.0 in let e = ap (λ (l : List Entry). length l) all in omega (arith, n, k, e)

  -- what stands behind these
  behind : take (length es - count) (drop count es) ≡ was.begins.0
  behind =
      let n = within in
      let k = length-drop count es in
      take_all (length es - count) (drop count es) (omega (arith, n, k))
      ∙ ap (λ (l : List Entry). drop count l) (sym all) ∙ drop_at was.before was.begins.0 count was.counted

  -- where the unit, which has this name, made none of these entries
  pub kept_since : (u : UnitName) → u ≡ t.unit.unit → list_any (λ e. is_of u e) (take (length es - count) (drop count es)) ≡ false → IsCurrent brain t crew
  kept_since u named none =
      let apart : has_entry t.unit.unit was.begins.0 ≡ false =
      ap (λ (v : UnitName). has_entry v was.begins.0) (sym named) ∙ sym (entry_any u was.begins.0)
      ∙ ap (λ (l : List Entry). list_any (λ e. is_of u e) l) (sym behind) ∙ none in
      subst (λ (c : CrewState B). IsCurrent brain t c) (crew_is (origin_of crew) (seen_of crew) crew refl refl)
      (current_kept brain (origin_of crew) t was.before (seen_of crew) was.begins was.current apart)

module _ {B : Type 0} (brain : Brain B) (t : TurnState B) (crew : CrewState B) (now : IsCurrent brain t crew) where
  pub current_ok : {T E : Type 0} (r : Result T E) → OnOk r (IsCurrent brain t crew)
  current_ok (Ok n) = now
  current_ok (Err e) = tt

  pub refused_short : {T : Type 0} (r : Result T (NotTurned B)) → IfErr r (λ e. e.cause ≡ why.NoMemory) → IfErr r (λ e. IsRefused e.cause brain t crew)
  refused_short (Ok n) h = tt
  refused_short (Err e) h = subst (λ (c : BookCause). IsRefused c brain t crew) (sym h) (inl now)
