-- One thing and then another.
use Rattle.df_format.proofs.Names.{Bool, List, [], ◌∷◌, ◌++◌, Ok, refl, sym, ap, subst, ◌∙◌, append_assoc, Read, ◌>>=◌, then_at, CanGoOn, Ends, IsLocal, Format}
use Rattle.df_format.specs.Spelling.{then_spell}
use Rattle.df_format.proofs.Laws.{ends_as, stop_ends, can_within, can_behind, can_go_on, stuck_as, stuck_behind, bind_told, format_of}

abbrev pub ThenFits : {X Y : Type 0} → (X → Type 0) → (Y → Type 0) → X × Y → Type 0
ThenFits FX FY p = FX p.0 × FY p.1

module _ {T X Y : Type 0} (sx : X → List T) (FX : X → Type 0) (sy : Y → List T) (FY : Y → Type 0) where
  abbrev BothCan : List T → Type 0
  BothCan front = CanGoOn (then_spell sx sy) (ThenFits FX FY) front

  -- the first alone can go on so
  then_extend : (y0 : Y) → FY y0 → (front : List T) → CanGoOn sx FX front → BothCan front
  then_extend y0 fits0 front v = can_within v (v.some, y0) (v.fits, fits0) [] (sy y0) refl

  -- behind the first, the second can go on so
  then_behind : (x : X) → FX x → (front : List T) → CanGoOn sy FY front → BothCan (sx x ++ front)
  then_behind x fits front v = can_behind v (x, v.some) (fits, v.fits) (sx x) refl

-- the second tells the end of both
abbrev pub then_goes : {T X Y : Type 0} → (Y → T → Bool) → X × Y → T → Bool
then_goes gy p t = gy p.1 t

module _ {T X Y : Type 0} {Near IsLow Out : List T → List T → Type 0} {sx : X → List T} {FX : X → Type 0} {gx : X → T → Bool} {rx : List T → Read T X}
    {sy : Y → List T} {FY : Y → Type 0} {gy : Y → T → Bool} {ry : List T → Read T Y} where
  -- the first ends before the second wherever that ends
  pub then_format : ((front rest : List T) → Near front rest → Out front rest)
      → ((x : X) (front rest : List T) → FX x → IsLow front rest → Out (sx x ++ front) rest)
      → Format Near sx FX gx rx → Format IsLow sy FY gy ry → (y0 : Y) → FY y0
      → ((x : X) (y : Y) (rest : List T) → FX x → FY y → Ends gy y rest → Ends gx x (sy y ++ rest))
      → Format Out (then_spell sx sy) (ThenFits FX FY) (then_goes gy) (then_at rx ry)
  then_format low_first low_second fx fy y0 fits0 after =
      format_of (λ tokens. bind_told _ _ fx tokens (λ x. ry x.1 >>= λ y. Ok ((x.0, y.0), y.1)) (λ x left f.
      bind_told _ _ fy left (λ y. Ok ((x, y.0), y.1)) (λ y rest g. record {
        parts = f.parts ∙ ap (λ (t : List T). sx x ++ t) g.parts ∙ sym (append_assoc (sx x) (sy y) rest);
        fits = (f.fits, g.fits);
        ends = ends_as gy (then_goes gy) y (x, y) rest (λ t. refl) g.ends;
      }) (λ stop s. stuck_behind s (sx x) tokens f.parts
      (λ front v. then_behind sx FX sy FY x f.fits front (can_go_on sy FY y0 fits0 front v)) (λ t tail other is e.
      let ends = stop_ends gx x left s.front t tail other is f.ends in rw (fx.again x (s.front ++ t ∷ other) f.fits ends, e) refl)
      (λ rest low. low_second x s.front rest f.fits low)))
      (λ stop s. stuck_as s (then_extend sx FX sy FY y0 fits0) (λ t tail other is e. rw e refl) low_first)) (λ p rest fits ends.
      let end = ends_as (then_goes gy) gy p p.1 rest (λ t. refl) ends in
      let first = fx.again p.0 (sy p.1 ++ rest) fits.0 (after p.0 p.1 rest fits.0 fits.1 end) in
      ap (then_at rx ry) (append_assoc (sx p.0) (sy p.1) rest) ∙ rw (first, fy.again p.1 rest fits.1 end) refl)
      (λ p t fits g. subst (BothCan sx FX sy FY) (sym (append_assoc (sx p.0) (sy p.1) (t ∷ [])))
      (then_behind sx FX sy FY p.0 fits.0 (sy p.1 ++ t ∷ []) (fy.on p.1 t fits.1 g)))

-- both have the same low places
pub then_second_format : {T X Y : Type 0} {IsLow : List T → List T → Type 0} (moved : IsLocal IsLow) {sx : X → List T} {FX : X → Type 0} {gx : X → T → Bool}
    {rx : List T → Read T X} {sy : Y → List T} {FY : Y → Type 0} {gy : Y → T → Bool} {ry : List T → Read T Y}
    → Format IsLow sx FX gx rx → Format IsLow sy FY gy ry → (y0 : Y) → FY y0
    → ((x : X) (y : Y) (rest : List T) → FX x → FY y → Ends gy y rest → Ends gx x (sy y ++ rest))
    → Format IsLow (then_spell sx sy) (ThenFits FX FY) (then_goes gy) (then_at rx ry)
then_second_format moved {sx = sx} = then_format (λ front rest low. low) (λ x front rest fits low. moved (sx x) front rest low)
