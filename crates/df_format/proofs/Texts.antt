-- Fixed bytes.
use Rattle.df_format.proofs.Names.{◌≡◌, ℕ, true, false, eqb, List, [], ◌∷◌, ◌++◌, Ok, Err, refl, ap, ◌∙◌, eq-eqb, Bad, ◌>>=◌, text_at, Format}
use Rattle.std.proofs.lemmas.Bool.{eqb-true}
use Rattle.df_format.proofs.Laws.{never, ends_never, can_behind, can_go_on, no_first, stuck_first, stuck_behind, Reads, cond_told, told_bind, format_of, low_as}

pub text_again : (ws rest : List ℕ) → text_at ws (ws ++ rest) ≡ Ok (ws, rest)
text_again [] rest = refl
text_again (w ∷ ws) rest = rw (eq-eqb w w refl, text_again ws rest) refl

-- the one thing that fits is the bytes themselves
abbrev pub IsText : List ℕ → List ℕ → Type 0
IsText ws x = x ≡ ws

abbrev pub own : List ℕ → List ℕ
own x = x

-- nowhere is anything low
abbrev pub nowhere : List ℕ → List ℕ → Type 0
nowhere front rest = ⊥

text_plain : (ws : List ℕ) → Format nowhere own (IsText ws) never (text_at ws)
text_plain ws = format_of (reads ws) (λ x rest fits ends. rw (fits, text_again ws rest) refl) (λ x t fits g. absurd (let no : false ≡ true = g in cc))
  where
    reads : (ws bytes : List ℕ) → Reads nowhere own (IsText ws) never (text_at ws) bytes (text_at ws bytes)
    reads [] bytes = record { parts = refl; fits = refl; ends = ends_never {X = List ℕ} [] bytes }
    reads (w ∷ ws) [] = stuck_first refl (λ c tail other is. no_first c tail is)
    reads (w ∷ ws) (c ∷ cs) =
        cond_told _ _ (eqb c w) (text_at ws cs >>= λ x. Ok (w ∷ x.0, x.1)) (Err (Bad (c ∷ cs))) (λ h.
        let first = ap (λ (v : ℕ). v ∷ cs) (eqb-true c w h) in
        told_bind _ _ _ _ (text_at ws cs) (λ x. Ok (w ∷ x.0, x.1)) (reads ws cs) (λ x f. record {
          parts = first ∙ ap (λ (u : List ℕ). w ∷ u) f.parts;
          fits = ap (λ (u : List ℕ). w ∷ u) f.fits;
          ends = ends_never (w ∷ x.0) x.1;
        }) (λ stop s. stuck_behind s (w ∷ []) (c ∷ cs) first (λ front v.
        let on = can_go_on own (IsText ws) ws refl front v in
        can_behind on (w ∷ on.some) (ap (λ (u : List ℕ). w ∷ u) on.fits) (w ∷ []) refl)
        (λ t tail other is e. rw (eq-eqb w w refl, e) refl) (λ rest low. low)))
        (λ h. stuck_first refl (λ d tail other is. let same : c ≡ d = cc in rw (← same, h) refl))

pub text_format : (IsLow : List ℕ → List ℕ → Type 0) (ws : List ℕ) → Format IsLow own (IsText ws) never (text_at ws)
text_format IsLow ws = low_as (λ front rest low. absurd low) (text_plain ws)

pub text_found : (ws bytes x rest : List ℕ) → text_at ws bytes ≡ Ok (x, rest) → (x ≡ ws) × (bytes ≡ ws ++ rest)
text_found ws bytes x rest e = let f = (text_plain ws).found bytes x rest e in (f.fits, f.parts ∙ ap (λ (u : List ℕ). u ++ rest) f.fits)
