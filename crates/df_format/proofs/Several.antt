-- As many things as stand there.
use Rattle.df_format.proofs.Names.{◌≡◌, ℕ, zero, suc, ◌<◌, ◌≤◌, Bool, true, false, cond, List, [], ◌∷◌, ◌++◌, length, Ok, Err, refl, sym, ap, subst, ◌∙◌, append_assoc, length-append, arith, inl, inr, AllByRecursion, flat_map, Stop, Bad, Read, ◌>>=◌, starts, while_at, all_at, CanGoOn, Ends, Found, Format}
use Rattle.df_format.proofs.Laws.{bind_same, told, never, ends_never, can_within, can_behind, can_go_on, first_same, stuck_as, stuck_behind, Reads, told_bind, bind_told, format_of}
use Rattle.df_format.proofs.Choices.{Begins}
use Rattle.df_format.proofs.ItemSteps.{onto}
use Rattle.df_format.proofs.Backs.{Back, all_back}
use Rattle.df_format.proofs.Tokens.{nowhere}

-- Nothing stands where there are no tokens, and what stands in front has some.
pub record Several {T X : Type 0} (stands : List T → Bool) (read : List T → Read T X) : Type 0 where
  pub none : stands [] ≡ false
  pub some : (tokens : List T) (x : X) (rest : List T) → read tokens ≡ Ok (x, rest) → length rest < length tokens

module _ {T X : Type 0} {stands : List T → Bool} {read : List T → Read T X} (s : Several stands read) where
  while_fuel : (n m : ℕ) (tokens : List T) → length tokens ≤ n → length tokens ≤ m → while_at stands read n tokens ≡ while_at stands read m tokens
  while_fuel zero zero tokens l k = refl
  while_fuel zero (suc m) [] l k = rw s.none refl
  while_fuel zero (suc m) (t ∷ ts) l k = absurd (omega arith)
  while_fuel (suc n) zero [] l k = rw s.none refl
  while_fuel (suc n) zero (t ∷ ts) l k = absurd (omega arith)
  while_fuel (suc n) (suc m) tokens l k =
      ap (λ (r : Read T (List X)). cond (stands tokens) r (Ok ([], tokens)))
      (bind_same (read tokens) (λ x. while_at stands read n x.1 >>= onto x.0) (λ x. while_at stands read m x.1 >>= onto x.0) (λ x e.
      let shorter = s.some tokens x.0 x.1 e in
      ap (λ (r : Read T (List X)). r >>= onto x.0) (while_fuel n m x.1 (omega arith) (omega arith))))

  -- one, and those behind it
  pub all_more : (tokens : List T) → stands tokens ≡ true → all_at stands read tokens ≡ (read tokens >>= λ x. all_at stands read x.1 >>= onto x.0)
  all_more [] h = let no : false ≡ true = sym s.none ∙ h in absurd cc
  all_more (t ∷ ts) h =
      ap (λ b. cond b (read (t ∷ ts) >>= λ x. while_at stands read (length ts) x.1 >>= onto x.0) (Ok ([], t ∷ ts))) h
      ∙ bind_same (read (t ∷ ts)) (λ x. while_at stands read (length ts) x.1 >>= onto x.0) (λ x. all_at stands read x.1 >>= onto x.0) (λ x e.
      let shorter = s.some (t ∷ ts) x.0 x.1 e in
      ap (λ (r : Read T (List X)). r >>= onto x.0) (while_fuel (length ts) (length x.1) x.1 (omega arith) (omega arith)))

  pub all_step : (tokens : List T) (x : X) (rest : List T) → stands tokens ≡ true → read tokens ≡ Ok (x, rest)
      → all_at stands read tokens ≡ (all_at stands read rest >>= onto x)
  all_step tokens x rest h e = all_more tokens h ∙ rw e refl

  pub all_stop : (tokens : List T) (stop : Stop T) → stands tokens ≡ true → read tokens ≡ Err stop → all_at stands read tokens ≡ Err stop
  all_stop tokens stop h e = all_more tokens h ∙ rw e refl

  pub all_none : (tokens : List T) → stands tokens ≡ false → all_at stands read tokens ≡ Ok ([], tokens)
  all_none [] h = refl
  all_none (t ∷ ts) h = rw h refl

-- ---- of which the first byte tells

-- each ends by itself and begins so, and each such byte begins one
pub record Each {X : Type 0} (begins : ℕ → Bool) (spell : X → List ℕ) (Fits : X → Type 0) (read : List ℕ → Read ℕ X) : Type 0 where
  pub item : Format nowhere spell Fits never read
  pub first : (x : X) → Fits x → Begins begins true (spell x)
  pub some : (c : ℕ) → begins c ≡ true → CanGoOn spell Fits (c ∷ [])

module _ {X : Type 0} {begins : ℕ → Bool} {spell : X → List ℕ} {Fits : X → Type 0} {read : List ℕ → Read ℕ X} (p : Each begins spell Fits read) where
  is_shorter : (tokens : List ℕ) (x : X) (rest : List ℕ) → Found spell Fits never tokens x rest → length rest < length tokens
  is_shorter tokens x rest f =
      let b = p.first x f.fits in omega (arith, ap length f.parts, length-append (spell x) rest, ap length b.is)

  pub each_several : Several (starts begins) read
  each_several = record { none = refl; some = λ tokens x rest e. is_shorter tokens x rest (p.item.found tokens x rest e) }

  stands_some : (x : X) (rest : List ℕ) → Fits x → starts begins (spell x ++ rest) ≡ true
  stands_some x rest fits = let b = p.first x fits in ap (λ (u : List ℕ). starts begins (u ++ rest)) b.is ∙ b.test

  each_back : Back (starts begins) spell Fits (λ rest. Unit {0}) read
  each_back = record {
    back = λ x rest fits next. p.item.again x rest fits (ends_never x rest);
    stand = stands_some;
    some = λ x fits. let b = p.first x fits in omega (arith, ap length b.is);
    next = λ x rest fits. tt;
  }

  abbrev goes : List X → ℕ → Bool
  goes xs c = begins c

  ends_here : (xs : List X) (rest : List ℕ) → Ends goes xs rest → starts begins rest ≡ false
  ends_here xs [] h = refl
  ends_here xs (c ∷ cs) h = h

  here_ends : (xs : List X) (rest : List ℕ) → starts begins rest ≡ false → Ends goes xs rest
  here_ends xs [] h = tt
  here_ends xs (c ∷ cs) h = h

  abbrev AllFit : List X → Type 0
  AllFit xs = AllByRecursion Fits xs

  abbrev ReadsEach : List ℕ → Read ℕ (List X) → Type 0
  ReadsEach tokens r = Reads nowhere (flat_map spell) AllFit goes (all_at (starts begins) read) tokens r

  first_can : (front : List ℕ) → CanGoOn spell Fits front → CanGoOn (flat_map spell) AllFit front
  first_can front v = can_within v (v.some ∷ []) (v.fits, tt) [] [] refl

  behind_can : (x : X) (front : List ℕ) → Fits x → CanGoOn (flat_map spell) AllFit front → CanGoOn (flat_map spell) AllFit (spell x ++ front)
  behind_can x front fits v = can_behind v (x ∷ v.some) (fits, v.fits) (spell x) refl

  each_reads : (n : ℕ) (tokens : List ℕ) → length tokens ≤ n → ReadsEach tokens (all_at (starts begins) read tokens)
  each_reads n [] le = record { parts = refl; fits = tt; ends = tt }
  each_reads zero (c ∷ cs) le = absurd (omega arith)
  each_reads (suc n) (c ∷ cs) le =
      elim (told (begins c)) [
        | inr h ↦ subst (ReadsEach (c ∷ cs)) (sym (all_none each_several (c ∷ cs) h)) (record { parts = refl; fits = tt; ends = h })
        | inl h ↦
            subst (ReadsEach (c ∷ cs)) (sym (all_more each_several (c ∷ cs) h))
            (bind_told _ _ p.item (c ∷ cs) (λ x. all_at (starts begins) read x.1 >>= onto x.0) (λ x left f.
            told_bind _ _ _ _ (all_at (starts begins) read left) (onto x) (each_reads n left (omega (arith, is_shorter (c ∷ cs) x left f))) (λ xs r. record {
              parts = f.parts ∙ ap (λ (u : List ℕ). spell x ++ u) r.parts ∙ sym (append_assoc (spell x) (flat_map spell xs.0) xs.1);
              fits = (f.fits, r.fits);
              ends = here_ends (x ∷ xs.0) xs.1 (ends_here xs.0 xs.1 r.ends);
            }) (λ stop s. stuck_behind s (spell x) (c ∷ cs) f.parts
            (λ front v. behind_can x front f.fits (can_go_on (flat_map spell) AllFit [] tt front v)) (λ t tail other is e.
            let more : List ℕ = s.front ++ t ∷ other in
            let one : read (spell x ++ more) ≡ Ok (x, more) = p.item.again x more f.fits (ends_never x more) in
            all_step each_several (spell x ++ more) x more (stands_some x more f.fits) one ∙ rw e refl) (λ rest low. low)))
            (λ stop s. stuck_as s first_can (λ t tail other is e.
            let o = first_same s.front c t cs tail other (s.parts ∙ ap (λ (u : List ℕ). s.front ++ u) is) in
            all_stop each_several (s.front ++ t ∷ other) (Bad (t ∷ other)) (ap (starts begins) o.1 ∙ h) e) (λ front rest low. low)))
      ]

  each_on : (xs : List X) (c : ℕ) → AllFit xs → begins c ≡ true → CanGoOn (flat_map spell) AllFit (flat_map spell xs ++ c ∷ [])
  each_on [] c fits g = first_can (c ∷ []) (p.some c g)
  each_on (x ∷ xs) c fits g =
      subst (CanGoOn (flat_map spell) AllFit) (sym (append_assoc (spell x) (flat_map spell xs) (c ∷ [])))
      (behind_can x (flat_map spell xs ++ c ∷ []) fits.0 (each_on xs c fits.1 g))

  pub each_format : Format nowhere (flat_map spell) AllFit goes (all_at (starts begins) read)
  each_format =
      format_of (λ tokens. each_reads (length tokens) tokens (omega arith))
      (λ xs rest fits ends. all_back each_back xs rest fits tt (ends_here xs rest ends)) each_on
