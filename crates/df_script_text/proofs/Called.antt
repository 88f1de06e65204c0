-- Calls where they stand, as their readers find them.
use Rattle.df_script_text.proofs.Names.{◌≡◌, ℕ, ◌-◌, ◌≤◌, List, [], ◌∷◌, ◌++◌, length, take, drop, Ok, sym, refl, ap, subst, ◌∙◌, append_assoc, Call, UnitName, Root, IsCall, IsUnit, unit_text, unit_at, call_text, kinds_find, short_finds, unit_finds, IsCallAt, call_line, ScriptLine}
use Rattle.df_journal_text.proofs.Between.{between, onward}
use Rattle.df_journal_text.proofs.CallFounds.{plain_find}
use Rattle.df_value_text.specs.ReadTag.{short_at}
use Rattle.df_journal_text.specs.ReadCall.{plain_kinds}
use Rattle.df_journal_text.specs.ReadWords.{kinds_at}

-- this unit's name stands at the one place, up to the other
abbrev UnitStands : List ℕ → ℕ → ℕ → UnitName → Type 0
UnitStands bytes at behind actor = (drop at bytes ≡ unit_text actor ++ drop behind bytes) × IsUnit actor

-- the same of a call
abbrev CallStands : List ℕ → ℕ → ℕ → Call → Type 0
CallStands bytes at end call = (drop at bytes ≡ call_text call ++ drop end bytes) × IsCall call

pub unit_stands : (bytes : List ℕ) (at behind : ℕ) (actor : UnitName) → unit_at (drop at bytes) ≡ Ok (actor, drop behind bytes)
    → UnitStands bytes at behind actor
unit_stands bytes at behind actor e = unit_finds.found (drop at bytes) actor (drop behind bytes) e

pub root_stands : (bytes : List ℕ) (at behind root : ℕ) → short_at (drop at bytes) ≡ Ok (root, drop behind bytes)
    → UnitStands bytes at behind (Root (root ∷ []))
root_stands bytes at behind root e = let found = short_finds.found (drop at bytes) root (drop behind bytes) e in (found.0, (found.1, tt))

-- a call without a value
pub plain_stands : (bytes : List ℕ) (at end : ℕ) (call : Call) → kinds_at plain_kinds (drop at bytes) ≡ Ok (call, drop end bytes) → CallStands bytes at end call
plain_stands bytes at end call e = (kinds_find call_text IsCall plain_kinds plain_find).found (drop at bytes) call (drop end bytes) e

-- a unit's name and its call, one behind the other
module _ (bytes : List ℕ) (at behind end : ℕ) (line : ScriptLine) (inside : at ≤ length bytes) (within : end ≤ length bytes)
    (first : UnitStands bytes at behind line.actor) (second : CallStands bytes behind end line.call) where
  stands : drop at bytes ≡ call_line line ++ drop end bytes
  stands = first.0 ∙ ap (λ (u : List ℕ). unit_text line.actor ++ u) second.0 ∙ sym (append_assoc (unit_text line.actor) (call_text line.call) (drop end bytes))

  pub call_onward : at ≤ end
  call_onward = onward bytes at end inside within (call_line line) stands

  pub call_found : IsCallAt bytes at line (take (end - at) (drop at bytes)) end
  call_found =
      subst (λ (ws : List ℕ). IsCallAt bytes at line ws end) (sym (between bytes at end inside within (call_line line) stands))
      (record { fits = (first.1, second.1); spelled = refl; inside = within; stands = stands })
