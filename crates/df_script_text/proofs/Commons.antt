-- Lines of roots' calls, as their readers find them.
use Rattle.df_script_text.proofs.Names.{◌≡◌, ℕ, ◌<◌, ◌≤◌, List, [], ◌∷◌, ◌++◌, length, drop, Ok, sym, ap, subst, ◌∙◌, arith, length-append, text_at, ended, RootStart, Call, IsCallAt, HasReadUpTo, ScriptLine, root_call}
use Rattle.std.proofs.lemmas.List.{length-drop}
use Rattle.df_format.proofs.Texts.{text_found}
use Rattle.df_script_text.specs.code.Common.{IsRootCallAt}
use Rattle.df_script_text.proofs.Calls.{Avoids-call}
use Rattle.df_script_text.proofs.Splits.{Avoids}
use Rattle.df_script_text.proofs.Stops.{call_read}

-- a root's call that a line feed ends is a line
pub line_found : (bytes : List ℕ) (at root end next : ℕ) (call : Call) (words feed : List ℕ) → at ≤ length bytes → next ≤ length bytes
    → IsCallAt bytes at (root_call root call) words end → text_at (10 ∷ []) (drop end bytes) ≡ Ok (feed, drop next bytes) → IsRootCallAt bytes at root call
    words next
line_found bytes at root end next call words feed inside last found e =
    let fed : drop end bytes ≡ 10 ∷ drop next bytes = (text_found (10 ∷ []) (drop end bytes) feed (drop next bytes) e).1 in
    let text = found.stands ∙ ap (λ (u : List ℕ). words ++ u) fed in
    let size = ap length text ∙ length-append words (10 ∷ drop next bytes) in
    let none = subst (Avoids 10) (sym found.spelled) (Avoids-call (root_call root call) found.fits) in
    let further : at < next = omega (arith, size, length-drop at bytes, length-drop next bytes, inside, last) in
    record { fits = found.fits; spelled = found.spelled; line = (none, further, last, text) }

-- one more call of a root
pub root_read : (bytes : List ℕ) (rs : List RootStart) (ls : List ScriptLine) (place root next : ℕ) (call : Call) (words : List ℕ)
    → HasReadUpTo bytes rs ls place
    → IsRootCallAt bytes place root call words next → HasReadUpTo bytes rs (ls ++ root_call root call ∷ []) next
root_read bytes rs ls place root next call words h at =
    call_read bytes rs ls (root_call root call) place words next h at.line (at.fits, ap ended at.spelled)
