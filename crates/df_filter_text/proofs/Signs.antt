-- Kinds of things that the first byte of their spelling tells apart.
use Rattle.df_filter_text.proofs.Names.{◌≡◌, ℕ, Bool, false, eqb, eq-eqb, List, [], ◌∷◌, ◌++◌, refl, sym, ap, subst, ◌∙◌, ◌⊎◌, inl, inr, Read, as_at, then_at, behind_at, either_at, Ends, Format, own, then_second_format, then_goes, behind_format, nowhere, nowhere_is_local, Of, made, fitting, either_of, then_spell, ThenFits, IsName, name_goes, name_format}
use Rattle.std.specs.List.{AllByRecursion}
use Rattle.df_value_text.proofs.NameLaws.{name_apart}
use Rattle.df_frozen.specs.Name.{is_name_byte}
use Rattle.df_value_text.specs.ReadName.{name_at}

-- one of these bytes
abbrev pub Among : List ℕ → ℕ → Type 0
Among [] c = ⊥
Among (w ∷ ws) c = (c ≡ w) ⊎ Among ws c

of_each : (P : ℕ → Type 0) (ws : List ℕ) (c : ℕ) → AllByRecursion P ws → Among ws c → P c
of_each P [] c all m = absurd m
of_each P (w ∷ ws) c all (inl is) = subst P (sym is) all.0
of_each P (w ∷ ws) c all (inr m) = of_each P ws c all.1 m

-- what fits is read as it is spelled, and its spelling begins with one of these bytes
pub record Kind {Y : Type 0} (text : Y → List ℕ) (goes : Y → ℕ → Bool) (signs : List ℕ) (Fits : Y → Type 0) (read : List ℕ → Read ℕ Y) : Type 0 where
  pub law : Format nowhere text Fits goes read
  pub first : (y : Y) → Fits y → (c : ℕ) × (more : List ℕ) × Among signs c × (text y ≡ c ∷ more)

module _ {X Y : Type 0} {sx : X → List ℕ} {FX : X → Type 0} {gx : X → ℕ → Bool} {rx : List ℕ → Read ℕ X} {text : Y → List ℕ} {goes : Y → ℕ → Bool} where
  -- what make makes of one kind
  pub made_kind : {signs : List ℕ} (make : X → Y) → Kind sx gx signs FX rx → ((x : X) → FX x → text (make x) ≡ sx x)
      → ((x : X) (c : ℕ) → FX x → goes (make x) c ≡ gx x c) → Kind text goes signs (Of make FX) (as_at make rx)
  made_kind make k spelled alike = record {
    law = made make k.law spelled alike;
    first = λ y h. let s = k.first h.0 h.1 in (s.0, s.1, s.2, ap text (sym h.2) ∙ spelled h.0 h.1 ∙ s.3);
  }

  -- and of what stands behind a byte
  pub signed : (w : ℕ) (make : X → Y) (x : X) → FX x → Format nowhere sx FX gx rx → ((x : X) → FX x → text (make x) ≡ w ∷ sx x)
      → ((x : X) (c : ℕ) → FX x → goes (make x) c ≡ gx x c) → Kind text goes (w ∷ []) (Of make FX) (as_at make (behind_at (w ∷ []) rx))
  signed w make x fits f spelled alike = record {
    law = made make (behind_format (w ∷ []) (nowhere_is_local (w ∷ [])) x fits f) spelled alike;
    first = λ y h. (w, sx h.0, inl refl, ap text (sym h.2) ∙ spelled h.0 h.1);
  }

pub kind_as : {Y : Type 0} {text : Y → List ℕ} {goes : Y → ℕ → Bool} {F G : Y → Type 0} {read : List ℕ → Read ℕ Y} {signs : List ℕ}
    → ((y : Y) → F y → G y) → ((y : Y) → G y → F y) → Kind text goes signs F read → Kind text goes signs G read
kind_as to from k = record { law = fitting to from k.law; first = λ y h. k.first y (from y h) }

-- this kind, or one that doesn't begin so
pub choose : {Y : Type 0} {text : Y → List ℕ} {goes : Y → ℕ → Bool} {F G : Y → Type 0} {read other : List ℕ → Read ℕ Y} {signs : List ℕ} (w : ℕ)
    → Kind text goes (w ∷ []) F read → Kind text goes signs G other → AllByRecursion (λ c. eqb c w ≡ false) signs
    → Kind text goes (w ∷ signs) (λ y. F y ⊎ G y) (either_at (λ c. eqb c w) read other)
choose {Y} {F = F} {signs = signs} w f g apart = record {
  law = either_of (λ c. eqb c w) f.law g.law
      (λ y h. let s = f.first y h in record { first = s.0; others = s.1; is = s.3; test = eq-eqb s.0 w (only y h) })
      (λ y h. let s = g.first y h in record { first = s.0; others = s.1; is = s.3; test = of_each (λ c. eqb c w ≡ false) signs s.0 apart s.2 });
  first = λ y h. elim h [
    | inl a ↦ let s = f.first y a in (s.0, s.1, inl (only y a), s.3)
    | inr b ↦ let s = g.first y b in (s.0, s.1, inr s.2, s.3)
  ];
}
  where
    only : (y : Y) (h : F y) → (f.first y h).0 ≡ w
    only y h = of_each (λ c. c ≡ w) (w ∷ []) (f.first y h).0 (refl, tt) (f.first y h).2

-- a name, and this kind behind it
pub named : {Y : Type 0} {text : Y → List ℕ} {goes : Y → ℕ → Bool} {Fits : Y → Type 0} {read : List ℕ → Read ℕ Y} {signs : List ℕ}
    → Kind text goes signs Fits read → AllByRecursion (λ c. is_name_byte c ≡ false) signs → (y : Y) → Fits y
    → Format nowhere (then_spell own text) (ThenFits IsName Fits) (then_goes goes) (then_at name_at read)
named {text = text} {goes = goes} {Fits = Fits} {read = read} {signs = signs} k stops y fits =
    then_second_format nowhere_is_local (name_format nowhere) k.law y fits
    (λ name z rest fx fz ends.
    let s = k.first z fz in
    subst (λ (u : List ℕ). Ends name_goes name (u ++ rest)) (sym s.3) (name_apart name s.0 (of_each (λ c. is_name_byte c ≡ false) signs s.0 stops s.2)))
