-- What the reader of a call's line answers: who makes it, the call, and nothing behind it.
use Rattle.df_script_text.proofs.Names.{◌≡◌, ℕ, List, [], ◌∷◌, ◌++◌, Ok, refl, sym, ap, subst, append-nil, inl, Read, ok_is, call_words, IsCall, IsUnit, IsLargeCall, IsLargeCalled, unit_text, unit_at, EndsCall, call_text, call_back, unit_finds, unit_word, ends_spaced, IsScriptLine, script_line, ScriptLine}
use Rattle.df_value_text.specs.code.WordEnd.{EndsWord}
use Rattle.df_journal_text.specs.code.Judging.{ended}
use Rattle.df_journal_text.proofs.CallTells.{call_apart}
use Rattle.df_journal_text.proofs.Frames.{Frame, Parted, spelled_small}
use Rattle.df_journal_text.specs.ReadCall.{call_at}

-- what stands behind a call
abbrev pub nothing : Unit {0} → List ℕ
nothing _ = []

abbrev pub IsNothing : Unit {0} → Type 0
IsNothing _ = Unit {0}

abbrev pub nothing_at : List ℕ → Read ℕ (Unit {0})
nothing_at bytes = Ok (tt, bytes)

pub made : Frame unit_text IsUnit EndsWord unit_at call_text IsCall EndsCall IsLargeCall call_at nothing IsNothing nothing_at
made = record {
  front_found = unit_finds.found;
  front_back = unit_word.back;
  front_next = λ y z fy fz. ends_spaced (call_words y) [] tt;
  front_large = λ rest l. subst EndsWord (sym l.parts) (inl refl);
  middle_back = λ y rest fits next. call_back y rest fits next.0 next.1;
  middle_next = λ z fz. (tt, refl);
  apart = call_apart;
  tail_found = λ bytes z rest e. (ap (λ (q : Unit {0} × List ℕ). q.1) (ok_is (tt, bytes) (z, rest) e), tt);
  tail_back = λ z fz. refl;
}

pub made_line : (l : ScriptLine) → script_line l ≡ ended (unit_text l.actor ++ (call_text l.call ++ []))
made_line l = ap (λ (u : List ℕ). (unit_text l.actor ++ u) ++ 10 ∷ []) (sym (append-nil (call_text l.call)))

pub made_parts : (l : ScriptLine) → IsScriptLine l → Parted unit_text IsUnit call_text IsCall nothing IsNothing script_line IsScriptLine l
made_parts l f = record { front = l.actor; middle = l.call; tail = tt; front_fits = f.0; middle_fits = f.1; tail_fits = tt; parts = made_line l }

-- what is spelled has no value that is too large
pub made_small : (line : List ℕ) (l : ScriptLine) → IsScriptLine l → ended line ≡ script_line l → ¬ IsLargeCalled line
made_small line = spelled_small made line made_parts
