-- What may be missing, and one of two kinds: the first token tells.
use Rattle.df_format.proofs.Names.{◌≡◌, ℕ, Bool, true, false, eqb, List, [], ◌∷◌, ◌++◌, Option, Some, None, Ok, Err, refl, sym, ap, subst, ◌∙◌, ◌⊎◌, inl, inr, Bad, Read, ◌>>=◌, maybe_at, either_at, CanGoOn, Ends, Format}
use Rattle.std.specs.Prelude.{not}
use Rattle.std.proofs.lemmas.Bool.{eqb-true}
use Rattle.df_format.specs.Spelling.{maybe_spell}
use Rattle.df_format.proofs.Laws.{not_both, no_first, stuck_first, stuck_as, first_same, ends_as, Reads, cond_told, told_on, told_of, bind_told, format_of}

-- a spelling begins with such a token
pub record Begins {T : Type 0} (begins : T → Bool) (to : Bool) (text : List T) : Type 0 where
  pub first : T
  pub others : List T
  pub is : text ≡ first ∷ others
  pub test : begins first ≡ to

-- ---- what a reader refuses

-- it reads no text without tokens, and none of which the first passes the test so
pub record Refuses {T X : Type 0} (test : T → Bool) (to : Bool) (read : List T → Read T X) : Type 0 where
  pub none : read [] ≡ Err (Bad [])
  pub first : (t : T) (ts : List T) → test t ≡ to → read (t ∷ ts) ≡ Err (Bad (t ∷ ts))

either_way : (b to : Bool) → (b ≡ to) ⊎ (b ≡ not to)
either_way true true = inl refl
either_way true false = inr refl
either_way false true = inr refl
either_way false false = inl refl

-- so what is spelled begins with what it doesn't refuse
pub reads_begin : {T X : Type 0} {IsLow : List T → List T → Type 0} {spell : X → List T} {Fits : X → Type 0} {goes : X → T → Bool}
    {read : List T → Read T X} {test : T → Bool} {to : Bool} → Format IsLow spell Fits goes read
    → Refuses test to read → (x : X) → Fits x → Begins test (not to) (spell x)
reads_begin {T} {spell = spell} {read = read} {test = test} {to = to} f r x fits = by (spell x) refl
  where
    by : (text : List T) → spell x ≡ text → Begins test (not to) (spell x)
    by [] e = not_both (x, []) (Bad []) (sym (f.again x [] fits tt) ∙ ap (λ (u : List T). read (u ++ [])) e ∙ r.none)
    by (t ∷ ts) e = record {
      first = t;
      others = ts;
      is = e;
      test = elim (either_way (test t) to) [
        | inl h ↦
            not_both (x, []) (Bad (t ∷ (ts ++ [])))
            (sym (f.again x [] fits tt) ∙ ap (λ (u : List T). read (u ++ [])) e ∙ r.first t (ts ++ []) h)
        | inr h ↦ h
      ];
    }

-- the byte isn't read
pub byte_refuses : {X : Type 0} {read : List ℕ → Read ℕ X} (w : ℕ) → read [] ≡ Err (Bad [])
    → ((cs : List ℕ) → read (w ∷ cs) ≡ Err (Bad (w ∷ cs))) → Refuses (λ c. eqb c w) true read
byte_refuses {read = read} w none first = record {
  none = none;
  first = λ c cs h. subst (λ (v : ℕ). read (v ∷ cs) ≡ Err (Bad (v ∷ cs))) (sym (eqb-true c w h)) (first cs);
}

-- ---- something or nothing

abbrev pub MaybeFits : {X : Type 0} → (X → Type 0) → Option X → Type 0
MaybeFits Fits None = Unit {0}
MaybeFits Fits (Some x) = Fits x

abbrev pub maybe_goes : {T X : Type 0} → (T → Bool) → (X → T → Bool) → Option X → T → Bool
maybe_goes begins goes None t = begins t
maybe_goes begins goes (Some x) t = goes x t

module _ {T X : Type 0} {IsLow : List T → List T → Type 0} (begins : T → Bool) {spell : X → List T} {Fits : X → Type 0} {goes : X → T → Bool}
    {read : List T → Read T X} (fx : Format IsLow spell Fits goes read) where
  abbrev SomeCan : List T → Type 0
  SomeCan front = CanGoOn (maybe_spell spell) (MaybeFits Fits) front

  maybe_none : (rest : List T) → Ends (maybe_goes begins goes) None rest → maybe_at begins read rest ≡ Ok (None, rest)
  maybe_none [] h = refl
  maybe_none (t ∷ rest) h = rw h refl

  maybe_some : (tokens : List T) (t : T) (o : List T) → tokens ≡ t ∷ o → begins t ≡ true
      → maybe_at begins read tokens ≡ (read tokens >>= λ x. Ok (Some x.0, x.1))
  maybe_some tokens t o e h = rw (e, h) refl

  some_can : (front : List T) → CanGoOn spell Fits front → SomeCan front
  some_can front v = record { some = Some v.some; fits = v.fits; more = v.more; is = v.is }

  maybe_again : ((x : X) → Fits x → Begins begins true (spell x)) → (x : Option X) (rest : List T) → MaybeFits Fits x
      → Ends (maybe_goes begins goes) x rest → maybe_at begins read (maybe_spell spell x ++ rest) ≡ Ok (x, rest)
  maybe_again starts None rest fits ends = maybe_none rest ends
  maybe_again starts (Some x) rest fits ends =
      let s = starts x fits in
      maybe_some (spell x ++ rest) s.first (s.others ++ rest) (ap (λ (u : List T). u ++ rest) s.is) s.test
      ∙ rw (fx.again x rest fits (ends_as (maybe_goes begins goes) goes (Some x) x rest (λ t. refl) ends)) refl

  maybe_reads : (tokens : List T)
      → Reads IsLow (maybe_spell spell) (MaybeFits Fits) (maybe_goes begins goes) (maybe_at begins read) tokens (maybe_at begins read tokens)
  maybe_reads [] = record { parts = refl; fits = tt; ends = tt }
  maybe_reads (t ∷ ts) =
      cond_told _ _ (begins t) (read (t ∷ ts) >>= λ x. Ok (Some x.0, x.1)) (Ok (None, t ∷ ts)) (λ h.
      bind_told _ _ fx (t ∷ ts) (λ x. Ok (Some x.0, x.1)) (λ x rest f.
      record { parts = f.parts; fits = f.fits; ends = ends_as goes (maybe_goes begins goes) x (Some x) rest (λ t. refl) f.ends })
      (λ stop s. stuck_as s some_can (λ u tail other is e.
      let o = first_same s.front t u ts tail other (s.parts ∙ ap (λ (v : List T). s.front ++ v) is) in
      maybe_some (s.front ++ u ∷ other) t o.0 o.1 h ∙ rw e refl) (λ front rest low. low))) (λ h. record { parts = refl; fits = tt; ends = h })

  maybe_on : ((t : T) → begins t ≡ true → CanGoOn spell Fits (t ∷ [])) → (x : Option X) (t : T) → MaybeFits Fits x
      → maybe_goes begins goes x t ≡ true → SomeCan (maybe_spell spell x ++ t ∷ [])
  maybe_on some None t fits g = some_can (t ∷ []) (some t g)
  maybe_on some (Some x) t fits g = some_can (spell x ++ t ∷ []) (fx.on x t fits g)

  pub maybe_format : ((x : X) → Fits x → Begins begins true (spell x)) → ((t : T) → begins t ≡ true → CanGoOn spell Fits (t ∷ []))
      → Format IsLow (maybe_spell spell) (MaybeFits Fits) (maybe_goes begins goes) (maybe_at begins read)
  maybe_format starts some = format_of maybe_reads (maybe_again starts) (maybe_on some)

-- ---- one of two kinds

module _ {T X : Type 0} {IsLow : List T → List T → Type 0} (begins : T → Bool) {spell : X → List T} {F G : X → Type 0} {goes : X → T → Bool}
    {read other : List T → Read T X} (f : Format IsLow spell F goes read) (g : Format IsLow spell G goes other) where
  abbrev Either : X → Type 0
  Either x = F x ⊎ G x

  either_yes : (tokens : List T) (t : T) (o : List T) → tokens ≡ t ∷ o → begins t ≡ true → either_at begins read other tokens ≡ read tokens
  either_yes tokens t o e h = rw (e, h) refl

  either_no : (tokens : List T) (t : T) (o : List T) → tokens ≡ t ∷ o → begins t ≡ false → either_at begins read other tokens ≡ other tokens
  either_no tokens t o e h = rw (e, h) refl

  left_can : (front : List T) → CanGoOn spell F front → CanGoOn spell Either front
  left_can front v = record { some = v.some; fits = inl v.fits; more = v.more; is = v.is }

  right_can : (front : List T) → CanGoOn spell G front → CanGoOn spell Either front
  right_can front v = record { some = v.some; fits = inr v.fits; more = v.more; is = v.is }

  either_reads : (tokens : List T) → Reads IsLow spell Either goes (either_at begins read other) tokens (either_at begins read other tokens)
  either_reads [] = stuck_first refl (λ t tail other is. no_first t tail is)
  either_reads (t ∷ ts) =
      cond_told _ _ (begins t) (read (t ∷ ts)) (other (t ∷ ts)) (λ h.
      told_on _ _ _ _ (read (t ∷ ts)) (told_of f (t ∷ ts)) (λ x k. record { parts = k.parts; fits = inl k.fits; ends = k.ends })
      (λ stop s. stuck_as s left_can (λ u tail more is e.
      let o = first_same s.front t u ts tail more (s.parts ∙ ap (λ (v : List T). s.front ++ v) is) in
      either_yes (s.front ++ u ∷ more) t o.0 o.1 h ∙ e) (λ front rest low. low))) (λ h.
      told_on _ _ _ _ (other (t ∷ ts)) (told_of g (t ∷ ts)) (λ x k. record { parts = k.parts; fits = inr k.fits; ends = k.ends })
      (λ stop s. stuck_as s right_can (λ u tail more is e.
      let o = first_same s.front t u ts tail more (s.parts ∙ ap (λ (v : List T). s.front ++ v) is) in
      either_no (s.front ++ u ∷ more) t o.0 o.1 h ∙ e) (λ front rest low. low)))

  either_on : (x : X) (t : T) → Either x → goes x t ≡ true → CanGoOn spell Either (spell x ++ t ∷ [])
  either_on x t (inl a) h = left_can (spell x ++ t ∷ []) (f.on x t a h)
  either_on x t (inr a) h = right_can (spell x ++ t ∷ []) (g.on x t a h)

  module _ (firsts : (x : X) → F x → Begins begins true (spell x)) (seconds : (x : X) → G x → Begins begins false (spell x)) where
    either_again : (x : X) (rest : List T) → Either x → Ends goes x rest → either_at begins read other (spell x ++ rest) ≡ Ok (x, rest)
    either_again x rest (inl a) ends =
        let b = firsts x a in
        either_yes (spell x ++ rest) b.first (b.others ++ rest) (ap (λ (u : List T). u ++ rest) b.is) b.test ∙ f.again x rest a ends
    either_again x rest (inr a) ends =
        let b = seconds x a in
        either_no (spell x ++ rest) b.first (b.others ++ rest) (ap (λ (u : List T). u ++ rest) b.is) b.test ∙ g.again x rest a ends

    pub either_of : Format IsLow spell Either goes (either_at begins read other)
    either_of = format_of either_reads either_again either_on

-- where the one refuses what the other is told by
pub either_by : {T X : Type 0} {IsLow : List T → List T → Type 0} (begins : T → Bool) {spell : X → List T} {F G : X → Type 0}
    {goes : X → T → Bool} {read other : List T → Read T X} → Format IsLow spell F goes read → Format IsLow spell G goes other
    → Refuses begins false read → Refuses begins true other → Format IsLow spell (λ x. F x ⊎ G x) goes (either_at begins read other)
either_by begins f g r s = either_of begins f g (reads_begin f r) (reads_begin g s)
