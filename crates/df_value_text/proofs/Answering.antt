-- What a format says of the answers of a reader that gives what reading gives.
use Rattle.df_value_text.proofs.Names.{◌≡◌, ℕ, Bool, List, drop, Ok, Err, refl, sym, ap, ◌∙◌, inl, inr, Bad, Low, Read, Stands, Format, ok_is, err_is, not_both, stands, can_go_on, Fails, refusal, IsFound, IsRead, IsSyntaxAt, Fault, Result, IfErr, IfOk, is_read, first_bad, TellsSyntaxAt, TextRefused}
use Rattle.df_value_text.specs.code.Answer.{Gives, NamesBad, NamesBadOrLow, told}
use Rattle.df_value_text.specs.declared.refused.Fault.TheVariants as fault
use Rattle.df_value_text.specs.declared.refused.TextRefused.TheVariants as refused

-- a fault is only one of memory where something is read
pub no_refusal : {X : Type 0} (bytes : List ℕ) (e : Fault) (r : Read ℕ X) (x : X × List ℕ) → Fails bytes e r → r ≡ Ok x → refusal e ≡ refused.NoMemory
no_refusal bytes fault.NoMemory r x h e = refl
no_refusal bytes (fault.Bad place) r x h e = not_both x (Bad (drop place bytes)) (sym e ∙ h.1)
no_refusal bytes (fault.Low place) r x h e = not_both x (Low (drop place bytes)) (sym e ∙ h.1)

-- where reading stops low, a Syntax is told there
pub told_low : {X : Type 0} (bytes : List ℕ) (e : Fault) (r : Read ℕ X) (rest : List ℕ) → Fails bytes e r → r ≡ Err (Low rest)
    → TellsSyntaxAt bytes rest (refusal e)
told_low bytes fault.NoMemory r rest h low = tt
told_low bytes (fault.Bad place) r rest h low = absurd (let e = err_is (Bad (drop place bytes)) (Low rest) (sym h.1 ∙ low) in cc)
told_low bytes (fault.Low place) r rest h low = let e = err_is (Low (drop place bytes)) (Low rest) (sym h.1 ∙ low) in cc

pub syntax_told : (X : Type 0) (text rest : List ℕ) (e : TextRefused) → TellsSyntaxAt text rest e → IsSyntaxAt {X = X} text rest (Err e)
syntax_told X text rest refused.NoMemory h = tt
syntax_told X text rest (refused.Syntax place) h = h
syntax_told X text rest (refused.TooLarge place) h = h

module _ {X : Type 0} {IsLow : List ℕ → List ℕ → Type 0} {spell : X → List ℕ} {Fits : X → Type 0} {goes : X → ℕ → Bool} {read : List ℕ → Read ℕ X}
    (f : Format IsLow spell Fits goes read) (bytes : List ℕ) (at : ℕ) where
  pub found_by : (r : Result (X × ℕ) Fault) → Gives (λ x. x) bytes r (read (drop at bytes)) → IfOk (told r) (IsFound spell Fits bytes at)
  found_by (Ok x) h = (h.0, stands IsLow spell Fits goes read f (drop at bytes) x.0 (drop x.1 bytes) h.1)
  found_by (Err e) h = tt

  pub only_by : (r : Result (X × ℕ) Fault) → Gives (λ x. x) bytes r (read (drop at bytes)) → (y : X) (rest : List ℕ)
      → Stands spell Fits (drop at bytes) y rest → IsRead bytes y rest (told r)
  only_by r h y rest s = by r h (is_read IsLow spell Fits goes read f (drop at bytes) y rest s)
    where
      by : (r : Result (X × ℕ) Fault) → Gives (λ x. x) bytes r (read (drop at bytes)) → read (drop at bytes) ≡ Ok (y, rest) → IsRead bytes y rest (told r)
      by (Ok x) h e =
          let here : X × List ℕ = (x.0, drop x.1 bytes) in
          let both = ok_is here (y, rest) (sym h.1 ∙ e) in
          (ap (λ (q : X × List ℕ). q.0) both, ap (λ (q : X × List ℕ). q.1) both)
      by (Err e) h read-is = no_refusal bytes e (read (drop at bytes)) (y, rest) h read-is

  pub names_either : (x : X) → Fits x → (r : Result (X × ℕ) Fault) → Gives (λ x. x) bytes r (read (drop at bytes))
      → IfErr (told r) (NamesBadOrLow IsLow spell Fits bytes at)
  names_either x fits (Ok y) h = tt
  names_either x fits (Err fault.NoMemory) h = tt
  names_either x fits (Err (fault.Bad place)) h =
      (h.0, inl (first_bad IsLow spell Fits goes read f x fits (drop at bytes) (drop place bytes) h.1))
  names_either x fits (Err (fault.Low place)) h =
      let s = f.stuck (drop at bytes) (Low (drop place bytes)) h.1 in
      (h.0, inr (record { front = s.front; parts = s.parts; viable = can_go_on spell Fits x fits s.front s.viable; low = s.cause }))

  pub names_bad : ((front rest : List ℕ) → IsLow front rest → ⊥) → (x : X) → Fits x → (r : Result (X × ℕ) Fault)
      → Gives (λ x. x) bytes r (read (drop at bytes)) → IfErr (told r) (NamesBad spell Fits bytes at)
  names_bad none x fits (Ok y) h = tt
  names_bad none x fits (Err fault.NoMemory) h = tt
  names_bad none x fits (Err (fault.Bad place)) h =
      (h.0, first_bad IsLow spell Fits goes read f x fits (drop at bytes) (drop place bytes) h.1)
  names_bad none x fits (Err (fault.Low place)) h =
      let s = f.stuck (drop at bytes) (Low (drop place bytes)) h.1 in absurd (none s.front (drop place bytes) s.cause)

pub names_low : {X : Type 0} (bytes : List ℕ) (r : Result (X × ℕ) Fault) (read : Read ℕ X) (rest : List ℕ) → Gives (λ x. x) bytes r read
    → read ≡ Err (Low rest) → IsSyntaxAt bytes rest (told r)
names_low {X} bytes (Ok x) read rest h low = let here : X × List ℕ = (x.0, drop x.1 bytes) in not_both here (Low rest) (sym h.1 ∙ low)
names_low {X} bytes (Err e) read rest h low = syntax_told X bytes rest (refusal e) (told_low bytes e read rest h low)
