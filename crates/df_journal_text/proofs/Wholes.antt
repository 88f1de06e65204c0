-- Whole lines of words.
use Rattle.df_journal_text.proofs.Names.{◌≡◌, ◌≢◌, ℕ, ◌≤◌, List, [], ◌∷◌, ◌++◌, length, drop, length-drop, Result, Ok, Err, sym, ap, subst, ◌∙◌, arith, append-nil, append_cancel_right, drop_all, Stop, Read, not_both, ok_is, Gives, Fault, IsWhole, TellsLine, ended, LineFault}
use Rattle.df_journal_text.specs.declared.line_fault.LineFault.TheVariants as fault
use Rattle.df_journal_text.proofs.Stopped.{on_fault}

-- what is read of a line is spelled so, and what is spelled is read back
pub record WholeLine {X : Type 0} (text : X → List ℕ) (spell : X → List ℕ) (Fits : X → Type 0) (read : List ℕ → Read ℕ X) : Type 0 where
  pub found : (bytes : List ℕ) (x : X) (rest : List ℕ) → read bytes ≡ Ok (x, rest) → (bytes ≡ spell x ++ rest) × Fits x
  pub back : (x : X) → Fits x → read (spell x) ≡ Ok (x, [])
  pub same : (x : X) → text x ≡ ended (spell x)

module _ {X : Type 0} {text : X → List ℕ} {spell : X → List ℕ} {Fits : X → Type 0} {read : List ℕ → Read ℕ X} (w : WholeLine text spell Fits read)
    (line : List ℕ) where
  -- what is spelled as this line is read of it
  is_read : (x : X) → Fits x → ended line ≡ text x → read line ≡ Ok (x, [])
  is_read x fits is = ap read (append_cancel_right line (spell x) (10 ∷ []) (is ∙ w.same x)) ∙ w.back x fits

  stopped : (stop : Stop ℕ) → read line ≡ Err stop → TellsLine text Fits (λ _. ⊥) line (Err fault.Syntax)
  stopped stop e = (λ x fits is. not_both (x, []) stop (sym (is_read x fits is) ∙ e), λ none. none)

  longer : (x : X) (end : ℕ) → end ≤ length line → end ≢ length line → read line ≡ Ok (x, drop end line) → TellsLine text Fits (λ _. ⊥) line (Err fault.Syntax)
  longer x end within short e = (
    λ y fits is.
        let same = ok_is (y, []) (x, drop end line) (sym (is_read y fits is) ∙ e) in
        let none : [] ≡ drop end line = ap (λ (q : X × List ℕ). q.1) same in
        absurd (omega (arith, short, within, ap length none, length-drop end line)),
    λ none. none,
  )

  -- what is told of the line
  pub told : (r : Result (X × ℕ) Fault) → Gives (λ x. x) line r (read line) → (o : Result X LineFault) → IsWhole (length line) r o
      → TellsLine text Fits (λ _. ⊥) line o
  told (Ok z) g (Ok x) h =
      let f = w.found line z.0 (drop z.1 line) g.1 in
      let all : line ≡ spell z.0 = f.0 ∙ ap (λ (u : List ℕ). spell z.0 ++ u) (drop_all z.1 line (omega (arith, h.1))) ∙ append-nil (spell z.0) in
      subst (λ (y : X). Fits y × (ended line ≡ text y)) h.0 (f.1, ap ended all ∙ sym (w.same z.0))
  told (Ok z) g (Err e) h = subst (λ (f : LineFault). TellsLine text Fits (λ _. ⊥) line (Err f)) (sym h.0) (longer z.0 z.1 g.0 h.1 g.1)
  told (Err f) g (Ok x) h = absurd h
  told (Err f) g (Err e) h =
      subst (λ (f : LineFault). TellsLine text Fits (λ _. ⊥) line (Err f)) (sym h)
      (on_fault (λ (f : LineFault). TellsLine text Fits (λ _. ⊥) line (Err f)) line (read line) f g tt stopped)
