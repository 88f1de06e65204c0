-- Scripts that are read line by line.
use Rattle.std.specs.Prelude.{◌≡◌, ℕ, ◌≤◌, List, [], ◌∷◌, ◌++◌, length, drop, Option, Some, None, refl}
use Rattle.std.specs.Coded.{Coded, code_by, coded×, coded_list, coded_ℕ}
use Rattle.df_start.specs.declared.start.RootStart.{RootStart}
use Rattle.df_script_text.specs.Script.{IsScript, script_text}
use Rattle.df_script_text.specs.declared.line.ScriptLine.{ScriptLine}

-- the bytes of a script, and the place behind the lines that were read
pub record ReaderState : Type 0 where
  pub bytes : List ℕ
  pub place : ℕ

-- a reader is stored as its two parts
abbrev pub reader_code : Coded ReaderState
reader_code =
    code_by (List ℕ × ℕ) (coded× (coded_list coded_ℕ) coded_ℕ)
    (λ r. (r.bytes, r.place))
    (λ p. record { bytes = p.0; place = p.1 })
    (λ _. refl)

-- up to the place stands the text of a script of these roots and calls
pub record HasReadUpTo (bytes : List ℕ) (roots : List RootStart) (lines : List ScriptLine)
    (place : ℕ) : Type 0 where
  pub inside : place ≤ length bytes
  pub script : IsScript roots lines
  pub text : bytes ≡ script_text roots lines ++ drop place bytes

-- these roots and calls were read
abbrev pub HasRead : List RootStart → List ScriptLine → ReaderState → Type 0
HasRead roots lines r = HasReadUpTo r.bytes roots lines r.place

-- behind these calls the next was read; or there is none, and they are all of the script
abbrev pub GoesOn : List RootStart → List ScriptLine → Option ScriptLine → ReaderState → Type 0
GoesOn roots lines (Some line) r = HasRead roots (lines ++ line ∷ []) r
GoesOn roots lines None r = IsScript roots lines × (r.bytes ≡ script_text roots lines)
