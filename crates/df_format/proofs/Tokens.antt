-- Laws by kind of token. A reader that stops at no low place keeps its laws whatever is low.
use Rattle.df_format.proofs.Names.{◌≡◌, ℕ, Bool, true, false, cond, List, [], ◌∷◌, ◌++◌, Option, Some, None, Ok, Err, refl, sym, ap, ◌∙◌, inl, inr, Stop, Bad, Read, ◌>>=◌, as_at, text_at, behind_at, closed_at, decoded, one_at, CanGoOn, Ends, Found, IsLocal, Format}
use Rattle.df_format.proofs.Laws.{err_is, not_both, chosen, never, ends_never, can_behind, can_go_on, no_first, stuck_first, stuck_behind, Reads, cond_told, bind_told, format_of}
pub use Rattle.df_format.proofs.Laws.{low_as}
pub use Rattle.df_format.proofs.Texts.{nowhere}
use Rattle.df_format.proofs.Joins.{viewed, alike_format, same_read, behind_format, closed_format}

-- ---- no low place

pub nowhere_is_local : IsLocal nowhere
nowhere_is_local before front rest low = low

pub any_low : {X : Type 0} {spell : X → List ℕ} {Fits : X → Type 0} {goes : X → ℕ → Bool} {read : List ℕ → Read ℕ X} (IsLow : List ℕ → List ℕ → Type 0)
    → Format nowhere spell Fits goes read → Format IsLow spell Fits goes read
any_low IsLow f = low_as (λ front rest low. absurd low) f

-- ---- other views of a reader

-- what make makes of the things that fit
abbrev pub Of : {X Y : Type 0} → (X → Y) → (X → Type 0) → Y → Type 0
Of {X} make Fits y = (x : X) × Fits x × (make x ≡ y)

-- of all that make makes
pub made : {T X Y : Type 0} {IsLow : List T → List T → Type 0} {sx : X → List T} {FX : X → Type 0} {gx : X → T → Bool} {rx : List T → Read T X}
    {sy : Y → List T} {gy : Y → T → Bool} (make : X → Y)
    → Format IsLow sx FX gx rx → ((x : X) → FX x → sy (make x) ≡ sx x) → ((x : X) (t : T) → FX x → gy (make x) t ≡ gx x t)
    → Format IsLow sy (Of make FX) gy (as_at make rx)
made make f spelled alike = viewed make f (record { to = λ x h. (x, h, refl); from = λ y h. h; spelled = spelled; alike = alike })

-- spelled, and going on, otherwise
pub told_as : {T X : Type 0} {IsLow : List T → List T → Type 0} {spell text : X → List T} {Fits : X → Type 0} {goes on : X → T → Bool} {read : List T
    → Read T X}
    → ((x : X) → Fits x → text x ≡ spell x) → ((x : X) (t : T) → Fits x → on x t ≡ goes x t)
    → Format IsLow spell Fits goes read → Format IsLow text Fits on read
told_as spelled alike f = alike_format (record { to = λ x h. h; from = λ x h. (x, h, refl); spelled = spelled; alike = alike }) f

pub fitting : {T X : Type 0} {IsLow : List T → List T → Type 0} {spell : X → List T} {F G : X → Type 0} {goes : X → T → Bool} {read : List T → Read T X}
    → ((x : X) → F x → G x) → ((x : X) → G x → F x) → Format IsLow spell F goes read → Format IsLow spell G goes read
fitting to from f = alike_format (record { to = to; from = λ x h. (x, from x h, refl); spelled = λ x h. refl; alike = λ x t h. refl }) f

-- ---- behind and between fixed bytes

abbrev remade : {Y Z : Type 0} → (Y → Z) → Y × List ℕ → Read ℕ Z
remade make y = Ok (make y.0, y.1)

bind_made : {X Y Z : Type 0} (make : Y → Z) (r : Read ℕ X) (read : List ℕ → Read ℕ Y)
    → ((r >>= λ h. read h.1) >>= remade make) ≡ (r >>= λ h. read h.1 >>= remade make)
bind_made make (Ok h) read = refl
bind_made make (Err s) read = refl

-- what make makes of what stands behind these bytes
pub led : {X Y : Type 0} {IsLow Out : List ℕ → List ℕ → Type 0} {sx : X → List ℕ} {FX : X → Type 0} {gx : X → ℕ → Bool} {rx : List ℕ → Read ℕ X}
    {sy : Y → List ℕ} {gy : Y → ℕ → Bool} (ws : List ℕ) (make : X → Y) → ((front rest : List ℕ) → IsLow front rest → Out (ws ++ front) rest)
    → (x : X) → FX x → Format IsLow sx FX gx rx
    → ((x : X) → FX x → sy (make x) ≡ ws ++ sx x) → ((x : X) (c : ℕ) → FX x → gy (make x) c ≡ gx x c)
    → Format Out sy (Of make FX) gy (behind_at ws (as_at make rx))
led {rx = rx} ws make low x fits f spelled alike =
    same_read (λ bytes. bind_made make (text_at ws bytes) rx) (made make (behind_format ws low x fits f) spelled alike)

pub enclosed : {X : Type 0} {IsLow : List ℕ → List ℕ → Type 0} {spell text : X → List ℕ} {Fits : X → Type 0} {goes : X → ℕ → Bool} {read : List ℕ → Read ℕ X}
    → IsLocal IsLow → (ws : List ℕ) (w : ℕ) (x : X) → Fits x → ((x : X) → Fits x → goes x w ≡ false) → ((x : X) → Fits x → text x ≡ ws ++ (spell x ++ w ∷ []))
    → Format IsLow spell Fits goes read → Format IsLow text Fits never (behind_at ws (closed_at (w ∷ []) read))
enclosed moved ws w x fits apart spelled f = told_as spelled (λ x c h. refl) (behind_format ws (moved ws) x fits (closed_format w [] apart f))

-- ---- what its first byte decides

-- all of it is read, or that byte is bad
abbrev pub first_at : {X : Type 0} → (ℕ → Bool) → (ℕ → List ℕ → X × List ℕ) → List ℕ → Read ℕ X
first_at test rest [] = Err (Bad [])
first_at test rest (c ∷ cs) = cond (test c) (Ok (rest c cs)) (Err (Bad (c ∷ cs)))

pub first_stops : {X : Type 0} (test : ℕ → Bool) (rest : ℕ → List ℕ → X × List ℕ) (bytes : List ℕ) (stop : Stop ℕ) → first_at test rest bytes ≡ Err stop
    → stop ≡ Bad bytes
first_stops test rest [] stop e = sym (err_is (Bad []) stop e)
first_stops test rest (c ∷ cs) stop e =
    elim (chosen (test c) (Ok (rest c cs)) (Err (Bad (c ∷ cs))) (Err stop) e) [
      | inl h ↦ not_both (rest c cs) stop h.1
      | inr h ↦ sym (err_is (Bad (c ∷ cs)) stop h.1)
    ]

-- whatever stands behind that byte
pub first_stays : {X : Type 0} (test : ℕ → Bool) (rest : ℕ → List ℕ → X × List ℕ) (c : ℕ) (cs other : List ℕ) (stop : Stop ℕ)
    → first_at test rest (c ∷ cs) ≡ Err stop → first_at test rest (c ∷ other) ≡ Err (Bad (c ∷ other))
first_stays test rest c cs other stop e =
    elim (chosen (test c) (Ok (rest c cs)) (Err (Bad (c ∷ cs))) (Err stop) e) [ inl h ↦ not_both (rest c cs) stop h.1 | inr h ↦ rw (h.0) refl ]

pub first_format : {X : Type 0} (spell : X → List ℕ) (Fits : X → Type 0) (goes : X → ℕ → Bool) (read : List ℕ → Read ℕ X) (test : ℕ → Bool)
    (rest : ℕ → List ℕ → X × List ℕ) → ((bytes : List ℕ) → first_at test rest bytes ≡ read bytes)
    → ((c : ℕ) (cs : List ℕ) → test c ≡ true → Found spell Fits goes (c ∷ cs) (rest c cs).0 (rest c cs).1)
    → ((x : X) (left : List ℕ) → Fits x → Ends goes x left → first_at test rest (spell x ++ left) ≡ Ok (x, left))
    → ((x : X) (c : ℕ) → Fits x → goes x c ≡ true → CanGoOn spell Fits (spell x ++ c ∷ [])) → Format nowhere spell Fits goes read
first_format spell Fits goes read test rest same found again on = same_read same (format_of reads again on)
  where
    reads : (bytes : List ℕ) → Reads nowhere spell Fits goes (first_at test rest) bytes (first_at test rest bytes)
    reads [] = stuck_first refl (λ c tail other is. no_first c tail is)
    reads (c ∷ cs) =
        cond_told _ _ (test c) (Ok (rest c cs)) (Err (Bad (c ∷ cs))) (λ h. found c cs h)
        (λ h. stuck_first refl (λ d tail other is. let first : c ≡ d = cc in rw (← first, h) refl))

-- ---- a byte, and behind it what it asks for

abbrev pub chain_at : {X Y : Type 0} → (ℕ → Bool) → (ℕ → List ℕ → Read ℕ Y) → (ℕ → Y → X) → List ℕ → Read ℕ X
chain_at test next make [] = Err (Bad [])
chain_at test next make (c ∷ cs) = cond (test c) (next c cs >>= λ y. Ok (make c y.0, y.1)) (Err (Bad (c ∷ cs)))

-- what stands behind the byte is read, and what both make are just the things that fit
pub record Links {X Y : Type 0} (test : ℕ → Bool) (next : ℕ → List ℕ → Read ℕ Y) (make : ℕ → Y → X) (sy : Y → List ℕ) (FY : ℕ → Y → Type 0)
    (spell : X → List ℕ) (Fits : X → Type 0) : Type 0 where
  pub item : (c : ℕ) → test c ≡ true → Format nowhere sy (FY c) never (next c)
  pub some : (c : ℕ) → test c ≡ true → (y : Y) × FY c y
  pub to : (c : ℕ) (y : Y) → test c ≡ true → FY c y → Fits (make c y)
  pub from : (x : X) → Fits x → (c : ℕ) × (y : Y) × (test c ≡ true) × FY c y × (make c y ≡ x)
  pub spelled : (c : ℕ) (y : Y) → test c ≡ true → FY c y → spell (make c y) ≡ c ∷ sy y

module _ {X Y : Type 0} {test : ℕ → Bool} {next : ℕ → List ℕ → Read ℕ Y} {make : ℕ → Y → X} {sy : Y → List ℕ} {FY : ℕ → Y → Type 0} {spell : X
    → List ℕ} {Fits : X → Type 0}
    (k : Links test next make sy FY spell Fits) where
  chain_can : (c : ℕ) (front : List ℕ) → test c ≡ true → CanGoOn sy (FY c) front → CanGoOn spell Fits (c ∷ front)
  chain_can c front h v = can_behind v (make c v.some) (k.to c v.some h v.fits) (c ∷ []) (k.spelled c v.some h v.fits)

  chain_reads : (bytes : List ℕ) → Reads nowhere spell Fits never (chain_at test next make) bytes (chain_at test next make bytes)
  chain_reads [] = stuck_first refl (λ c tail other is. no_first c tail is)
  chain_reads (c ∷ cs) =
      cond_told _ _ (test c) (next c cs >>= λ y. Ok (make c y.0, y.1)) (Err (Bad (c ∷ cs))) (λ h.
      bind_told _ _ (k.item c h) cs (λ y. Ok (make c y.0, y.1)) (λ y rest f. record {
        parts = ap (λ (u : List ℕ). c ∷ u) f.parts ∙ ap (λ (u : List ℕ). u ++ rest) (sym (k.spelled c y h f.fits));
        fits = k.to c y h f.fits;
        ends = ends_never (make c y) rest;
      }) (λ stop s. let y = k.some c h in stuck_behind s (c ∷ []) (c ∷ cs) refl
      (λ front v. chain_can c front h (can_go_on sy (FY c) y.0 y.1 front v)) (λ t tail other is e. rw (h, e) refl) (λ rest low. low)))
      (λ h. stuck_first refl (λ d tail other is. let first : c ≡ d = cc in rw (← first, h) refl))

  pub chain_format : Format nowhere spell Fits never (chain_at test next make)
  chain_format =
      format_of chain_reads (λ x rest fits ends.
      let b = k.from x fits in
      let one : chain_at test next make (b.0 ∷ (sy b.1 ++ rest)) ≡ Ok (make b.0 b.1, rest) =
      rw (b.2, (k.item b.0 b.2).again b.1 rest b.3 (ends_never b.1 rest)) refl in
      ap (λ (u : List ℕ). chain_at test next make (u ++ rest)) (ap spell (sym b.4) ∙ k.spelled b.0 b.1 b.2 b.3) ∙ one ∙ ap (λ (y : X). Ok (y, rest)) b.4)
      (λ x c fits g. absurd (let no : false ≡ true = g in cc))

-- ---- one byte that passes a test

abbrev pub itself : ℕ → List ℕ
itself c = c ∷ []

abbrev pub passing : (ℕ → Bool) → ℕ → Option ℕ
passing test c = cond (test c) (Some c) None

passing_first : (test : ℕ → Bool) (bytes : List ℕ) → first_at test (λ c cs. (c, cs)) bytes ≡ one_at (passing test) bytes
passing_first test [] = refl
passing_first test (c ∷ cs) =
    elim (test c) as (λ b. cond b (Ok (c, cs)) (Err (Bad (c ∷ cs))) ≡ decoded (cond b (Some c) None) c cs) [ true ↦ refl | false ↦ refl ]

pub passing_format : (test : ℕ → Bool) → Format nowhere itself (λ c. test c ≡ true) never (one_at (passing test))
passing_format test =
    first_format itself (λ c. test c ≡ true) never (one_at (passing test)) test (λ c cs. (c, cs)) (passing_first test)
    (λ c cs h. record { parts = refl; fits = h; ends = ends_never c cs }) (λ c rest fits ends. rw fits refl)
    (λ c t fits g. absurd (let no : false ≡ true = g in cc))
