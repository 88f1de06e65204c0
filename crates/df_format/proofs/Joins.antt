-- Another view of what is read, the same reader in another form, and fixed bytes before and behind.
use Rattle.df_format.proofs.Names.{◌≡◌, ℕ, Bool, false, List, [], ◌∷◌, ◌++◌, Ok, Err, refl, sym, ap, subst, ◌∙◌, Read, ◌>>=◌, as_at, text_at, behind_at, closed_at, CanGoOn, Ends, Format}
use Rattle.df_format.proofs.Laws.{ends_as, never, ends_never, stuck_as, Reads, told_on, told_of, bind_told, format_of}
use Rattle.df_format.proofs.Thens.{then_format}
use Rattle.df_format.proofs.Texts.{text_format}

-- ---- another view

-- what make makes of the things that fit are just those that fit the other view, spelled alike
pub record Views {T X Y : Type 0} (make : X → Y) (sx : X → List T) (FX : X → Type 0) (gx : X → T → Bool) (sy : Y → List T) (FY : Y → Type 0)
    (gy : Y → T → Bool) : Type 0 where
  pub to : (x : X) → FX x → FY (make x)
  pub from : (y : Y) → FY y → (x : X) × FX x × (make x ≡ y)
  pub spelled : (x : X) → FX x → sy (make x) ≡ sx x
  pub alike : (x : X) (t : T) → FX x → gy (make x) t ≡ gx x t

module _ {T X Y : Type 0} {IsLow : List T → List T → Type 0} (make : X → Y) {sx : X → List T} {FX : X → Type 0} {gx : X → T → Bool} {rx : List T → Read T X}
    {sy : Y → List T} {FY : Y → Type 0} {gy : Y → T → Bool} (fx : Format IsLow sx FX gx rx) (v : Views make sx FX gx sy FY gy) where
  as_can : (front : List T) → CanGoOn sx FX front → CanGoOn sy FY front
  as_can front c = record { some = make c.some; fits = v.to c.some c.fits; more = c.more; is = v.spelled c.some c.fits ∙ c.is }

  pub viewed : Format IsLow sy FY gy (as_at make rx)
  viewed =
      format_of (λ tokens. bind_told _ _ fx tokens (λ x. Ok (make x.0, x.1)) (λ x rest f. record {
        parts = f.parts ∙ ap (λ (u : List T). u ++ rest) (sym (v.spelled x f.fits));
        fits = v.to x f.fits;
        ends = ends_as gx gy x (make x) rest (λ t. v.alike x t f.fits) f.ends;
      }) (λ stop s. stuck_as s as_can (λ t tail other is e. rw e refl) (λ front rest low. low))) (λ y rest fits ends.
      let b = v.from y fits in
      let end = ends_as gy gx y b.0 rest (λ t. sym (v.alike b.0 t b.1) ∙ ap (λ (z : Y). gy z t) b.2) ends in
      let here : as_at make rx (sx b.0 ++ rest) ≡ Ok (make b.0, rest) = rw (fx.again b.0 rest b.1 end) refl in
      ap (λ (u : List T). as_at make rx (u ++ rest)) (ap sy (sym b.2) ∙ v.spelled b.0 b.1) ∙ here ∙ ap (λ (z : Y). Ok (z, rest)) b.2) (λ y t fits g.
      let b = v.from y fits in
      let c = fx.on b.0 t b.1 (sym (v.alike b.0 t b.1) ∙ ap (λ (z : Y). gy z t) b.2 ∙ g) in
      subst (λ (u : List T). CanGoOn sy FY (u ++ t ∷ [])) (sym (v.spelled b.0 b.1) ∙ ap sy b.2) (as_can (sx b.0 ++ t ∷ []) c))

-- ---- the same reader in another form

pub same_read : {T X : Type 0} {IsLow : List T → List T → Type 0} {spell : X → List T} {Fits : X → Type 0} {goes : X → T → Bool} {r s : List T → Read T X}
    → ((tokens : List T) → r tokens ≡ s tokens) → Format IsLow spell Fits goes r → Format IsLow spell Fits goes s
same_read {IsLow = IsLow} {spell} {Fits} {goes} {r} {s} same f =
    format_of (λ tokens. subst (Reads IsLow spell Fits goes s tokens) (same tokens)
    (told_on _ _ _ _ (r tokens) (told_of f tokens) (λ x g. g) (λ stop k. stuck_as k (λ front v. v)
    (λ t tail other is e. sym (same (k.front ++ t ∷ other)) ∙ e) (λ front rest low. low))))
    (λ x rest fits ends. sym (same (spell x ++ rest)) ∙ f.again x rest fits ends) f.on

same_as : {T X : Type 0} (r : Read T X) → (r >>= λ (x : X × List T). Ok (x.0, x.1)) ≡ r
same_as (Ok x) = refl
same_as (Err s) = refl

-- the same things, spelled, fitting and going on alike
pub alike_format : {T X : Type 0} {IsLow : List T → List T → Type 0} {s1 : X → List T} {F1 : X → Type 0} {g1 : X → T → Bool} {s2 : X → List T}
    {F2 : X → Type 0} {g2 : X → T → Bool} {read : List T → Read T X} → Views (λ (x : X). x) s1 F1 g1 s2 F2 g2 → Format IsLow s1 F1 g1 read
    → Format IsLow s2 F2 g2 read
alike_format {X = X} {read = read} v f = same_read (λ tokens. same_as (read tokens)) (viewed (λ (x : X). x) f v)

-- ---- fixed bytes before and behind

only_second : {X : Type 0} (w : List ℕ) (r : Read ℕ X) → ((r >>= λ y. Ok ((w, y.0), y.1)) >>= λ (p : (List ℕ × X) × List ℕ). Ok (p.0.1, p.1)) ≡ r
only_second w (Ok y) = refl
only_second w (Err s) = refl

second_of : {X : Type 0} (r : Read ℕ (List ℕ)) (read : List ℕ → Read ℕ X)
    → ((r >>= λ h. read h.1 >>= λ y. Ok ((h.0, y.0), y.1)) >>= λ (p : (List ℕ × X) × List ℕ). Ok (p.0.1, p.1)) ≡ (r >>= λ h. read h.1)
second_of (Err s) read = refl
second_of {X} (Ok h) read = only_second h.0 (read h.1)

-- what is low behind these bytes is another thing
pub behind_format : {X : Type 0} {IsLow Out : List ℕ → List ℕ → Type 0} (ws : List ℕ) → ((front rest : List ℕ) → IsLow front rest → Out (ws ++ front) rest)
    → {spell : X → List ℕ} {Fits : X → Type 0} {goes : X → ℕ → Bool} {read : List ℕ → Read ℕ X} → (x0 : X) → Fits x0 → Format IsLow spell Fits goes read
    → Format Out (λ x. ws ++ spell x) Fits goes (behind_at ws read)
behind_format {X} {Out = Out} ws low {spell = spell} {read = read} x0 fits0 f =
    same_read (λ bytes. second_of (text_at ws bytes) read) (viewed (λ (p : List ℕ × X). p.1)
    (then_format (λ front rest here. here) (λ w front rest is here. subst (λ (u : List ℕ). Out (u ++ front) rest) (sym is) (low front rest here))
    (text_format Out ws) f x0 fits0 (λ x y rest fx fy ends. ends_never x (spell y ++ rest)))
    (record {
      to = λ p fits. fits.1;
      from = λ x fits. ((ws, x), (refl, fits), refl);
      spelled = λ p fits. ap (λ (w : List ℕ). w ++ spell p.1) (sym fits.0);
      alike = λ p t fits. refl;
    }))

abbrev paired : {X Y : Type 0} → X → Y × List ℕ → Read ℕ (X × Y)
paired x y = Ok ((x, y.0), y.1)

abbrev kept : {X : Type 0} → X → List ℕ × List ℕ → Read ℕ X
kept x h = Ok (x, h.1)

only_first : {X : Type 0} (x : X) (r : Read ℕ (List ℕ)) → ((r >>= paired x) >>= λ (p : (X × List ℕ) × List ℕ). Ok (p.0.0, p.1)) ≡ (r >>= kept x)
only_first x (Ok y) = refl
only_first x (Err s) = refl

first_of : {X : Type 0} (r : Read ℕ X) (ws : List ℕ)
    → ((r >>= λ x. text_at ws x.1 >>= paired x.0) >>= λ (p : (X × List ℕ) × List ℕ). Ok (p.0.0, p.1)) ≡ (r >>= λ x. text_at ws x.1 >>= kept x.0)
first_of (Err s) ws = refl
first_of (Ok x) ws = only_first x.0 (text_at ws x.1)

pub closed_format : {X : Type 0} {IsLow : List ℕ → List ℕ → Type 0} (w : ℕ) (ws : List ℕ) {spell : X → List ℕ} {Fits : X → Type 0} {goes : X → ℕ → Bool}
    {read : List ℕ → Read ℕ X} → ((x : X) → Fits x → goes x w ≡ false) → Format IsLow spell Fits goes read
    → Format IsLow (λ x. spell x ++ w ∷ ws) Fits never (closed_at (w ∷ ws) read)
closed_format {X} w ws {spell = spell} {goes = goes} {read = read} ends_at f =
    let text = text_format (λ front rest. ⊥) (w ∷ ws) in
    same_read (λ bytes. first_of (read bytes) (w ∷ ws)) (viewed (λ (p : X × List ℕ). p.0)
    (then_format (λ front rest low. low) (λ x front rest fits low. absurd low) f text (w ∷ ws) refl
    (λ x y rest fx fy ends. subst (λ (t : List ℕ). Ends goes x (t ++ rest)) (sym fy) (ends_at x fx)))
    (record {
      to = λ p fits. fits.0;
      from = λ x fits. ((x, w ∷ ws), (fits, refl), refl);
      spelled = λ p fits. ap (λ (u : List ℕ). spell p.0 ++ u) (sym fits.1);
      alike = λ p t fits. refl;
    }))
