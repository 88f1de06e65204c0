-- Steps of readers, and one thing behind another.
use Rattle.std.specs.Prelude.{IsErrAnd}
use Rattle.df_format.proofs.Names.{◌≡◌, Bool, true, false, cond, List, [], ◌∷◌, ◌++◌, Result, Ok, Err, refl, sym, ap, subst, ◌∙◌, append_assoc, append-nil, ◌⊎◌, inl, inr, Stop, Bad, Low, Read, ◌>>=◌, CanGoOn, Stands, FirstBad, Ends, Found, IsViable, place, Cause, Stuck, Format}

-- ---- steps

abbrev pub done : {T A : Type 0} → A → Result A (Stop T)
done x = Ok x

abbrev pub failed : {T A : Type 0} → Stop T → Result A (Stop T)
failed s = Err s

pub ok_is : {T A : Type 0} (x y : A) → done {T = T} x ≡ done y → x ≡ y
ok_is x y e = cc

pub err_is : {T A : Type 0} (s t : Stop T) → failed {A = A} s ≡ failed t → s ≡ t
err_is s t e = cc

pub not_both : {T A B : Type 0} (x : A) (s : Stop T) → done x ≡ failed s → B
not_both x s e = absurd cc

-- an answer that is only an error is this one
pub failed_is : {X E : Type 0} {e : E} (r : Result X E) → IsErrAnd r (λ x. x ≡ e) → r ≡ Err e
failed_is (Ok x) h = absurd h
failed_is (Err x) h = ap (λ x. Err x) h

-- the value of a step that did not stop
pub bind_ok : {T A B : Type 0} (r : Result A (Stop T)) (f : A → Result B (Stop T)) (y : B) → (r >>= f) ≡ Ok y → (x : A) × (r ≡ Ok x) × (f x ≡ Ok y)
bind_ok (Ok x) f y e = (x, refl, e)
bind_ok (Err s) f y e = absurd cc

-- what follows a step matters only for what the step gave
pub bind_same : {T A B : Type 0} (r : Result A (Stop T)) (f g : A → Result B (Stop T)) → ((x : A) → r ≡ Ok x → f x ≡ g x) → (r >>= f) ≡ (r >>= g)
bind_same (Ok x) f g h = h x refl
bind_same (Err s) f g h = refl

-- which way a test went
pub chosen : {A : Type 0} (b : Bool) (x y z : A) → cond b x y ≡ z → ((b ≡ true) × (x ≡ z)) ⊎ ((b ≡ false) × (y ≡ z))
chosen true x y z e = inl (refl, e)
chosen false x y z e = inr (refl, e)

pub told : (b : Bool) → (b ≡ true) ⊎ (b ≡ false)
told true = inl refl
told false = inr refl

-- of two tests neither is met
pub both_false : (b g : Bool) → cond b true g ≡ false → (b ≡ false) × (g ≡ false)
both_false true g e = absurd cc
both_false false g e = (refl, e)

-- ---- ends and fronts

-- an end is seen from one token
ends_first : {T X : Type 0} (goes : X → T → Bool) (x : X) (front : List T) (t : T) (tail other : List T) → Ends goes x (front ++ t ∷ tail)
    → Ends goes x (front ++ t ∷ other)
ends_first goes x [] t tail other h = h
ends_first goes x (u ∷ front) t tail other h = h

-- something ends in front of a token, whatever stands behind that
pub stop_ends : {T X : Type 0} (goes : X → T → Bool) (x : X) (left front : List T) (t : T) (tail other : List T) → left ≡ front ++ t ∷ tail → Ends goes x left
    → Ends goes x (front ++ t ∷ other)
stop_ends {T} goes x left front t tail other parts ends = ends_first goes x front t tail other (subst (λ (v : List T). Ends goes x v) parts ends)

-- what goes on alike ends alike
pub ends_as : {T X Y : Type 0} (gx : X → T → Bool) (gy : Y → T → Bool) (x : X) (y : Y) (rest : List T) → ((t : T) → gy y t ≡ gx x t) → Ends gx x rest
    → Ends gy y rest
ends_as gx gy x y [] alike h = tt
ends_as gx gy x y (t ∷ rest) alike h = alike t ∙ h

-- what never goes on ends everywhere
abbrev pub never : {T X : Type 0} → X → T → Bool
never x t = false

pub ends_never : {T X : Type 0} (x : X) (rest : List T) → Ends never x rest
ends_never x [] = tt
ends_never x (t ∷ ts) = refl

pub viable_of : {T X : Type 0} (spell : X → List T) (Fits : X → Type 0) (front : List T) → CanGoOn spell Fits front → IsViable spell Fits front
viable_of spell Fits [] v = tt
viable_of spell Fits (t ∷ ts) v = v

-- where something fits, no tokens can go on too
pub can_go_on : {T X : Type 0} (spell : X → List T) (Fits : X → Type 0) (x : X) → Fits x → (front : List T) → IsViable spell Fits front
    → CanGoOn spell Fits front
can_go_on spell Fits x fits [] v = record { some = x; fits = fits; more = spell x; is = refl }
can_go_on spell Fits x fits (t ∷ ts) v = v

-- other things that begin alike
pub viable_map : {T X Y : Type 0} (sx : X → List T) (FX : X → Type 0) (sy : Y → List T) (FY : Y → Type 0) (front : List T)
    → (CanGoOn sx FX front → CanGoOn sy FY front) → IsViable sx FX front → IsViable sy FY front
viable_map sx FX sy FY [] f v = tt
viable_map sx FX sy FY (t ∷ ts) f v = f v

module _ {T X Y : Type 0} {sx : X → List T} {FX : X → Type 0} {sy : Y → List T} {FY : Y → Type 0} {front : List T} (v : CanGoOn sx FX front) (y : Y)
    (fits : FY y) (before : List T) where
  -- something else, in whose text that of the first stands
  pub can_within : (more : List T) → sy y ≡ before ++ (sx v.some ++ more) → CanGoOn sy FY (before ++ front)
  can_within more e = record {
    some = y;
    fits = fits;
    more = v.more ++ more;
    is = e ∙ ap (λ (u : List T). before ++ (u ++ more)) v.is ∙ ap (λ (u : List T). before ++ u) (append_assoc front v.more more)
        ∙ sym (append_assoc before front (v.more ++ more));
  }

  -- with which it ends
  pub can_behind : sy y ≡ before ++ sx v.some → CanGoOn sy FY (before ++ front)
  can_behind e = can_within [] (e ∙ ap (λ (u : List T). before ++ u) (sym (append-nil (sx v.some))))

-- the first token of what stands before a place is that of all
pub first_same : {T : Type 0} (front : List T) (t u : T) (ts tail other : List T) → t ∷ ts ≡ front ++ u ∷ tail → (o : List T) × (front ++ u ∷ other ≡ t ∷ o)
first_same [] t u ts tail other e = let same : t ≡ u = cc in (other, ap (λ v. v ∷ other) (sym same))
first_same (f ∷ front) t u ts tail other e = let same : t ≡ f = cc in (front ++ u ∷ other, ap (λ v. v ∷ (front ++ u ∷ other)) (sym same))

-- ---- a cause stays the cause

-- of another reader that stops there too, behind other tokens, where a low place is one for it
pub cause_on : {T X Y : Type 0} (IsLow Out : List T → List T → Type 0) (rx : List T → Read T X) (ry : List T → Read T Y) (front behind : List T) (stop : Stop T)
    → ((t : T) (tail other : List T) → place stop ≡ t ∷ tail → rx (front ++ t ∷ other) ≡ Err (Bad (t ∷ other))
    → ry (behind ++ t ∷ other) ≡ Err (Bad (t ∷ other))) → ((rest : List T) → IsLow front rest → Out behind rest)
    → Cause IsLow rx front stop → Cause Out ry behind stop
cause_on IsLow Out rx ry front behind (Bad rest) f low c = λ t tail is other. f t tail other is (c t tail is other)
cause_on IsLow Out rx ry front behind (Low rest) f low c = low rest c

-- ---- where one reader stops, another does

module _ {T X Y : Type 0} {IsLow Out : List T → List T → Type 0} {sx : X → List T} {FX : X → Type 0} {rx : List T → Read T X} {sy : Y → List T}
    {FY : Y → Type 0} {ry : List T → Read T Y} {stop : Stop T} {tokens : List T} (s : Stuck IsLow sx FX rx tokens stop) where
  -- the other, of the same tokens
  pub stuck_as : ((front : List T) → CanGoOn sx FX front → CanGoOn sy FY front)
      → ((t : T) (tail other : List T) → place stop ≡ t ∷ tail → rx (s.front ++ t ∷ other) ≡ Err (Bad (t ∷ other))
      → ry (s.front ++ t ∷ other) ≡ Err (Bad (t ∷ other))) → ((front rest : List T) → IsLow front rest → Out front rest) → Stuck Out sy FY ry tokens stop
  stuck_as can stops low = record {
    front = s.front;
    parts = s.parts;
    viable = viable_map sx FX sy FY s.front (can s.front) s.viable;
    cause = cause_on IsLow Out rx ry s.front s.front stop stops (low s.front) s.cause;
  }

  -- the other, of these tokens behind others
  pub stuck_behind : (before whole : List T) → whole ≡ before ++ tokens → ((front : List T) → IsViable sx FX front → CanGoOn sy FY (before ++ front))
      → ((t : T) (tail other : List T) → tokens ≡ s.front ++ t ∷ tail → rx (s.front ++ t ∷ other) ≡ Err (Bad (t ∷ other))
      → ry (before ++ (s.front ++ t ∷ other)) ≡ Err (Bad (t ∷ other))) → ((rest : List T) → IsLow s.front rest → Out (before ++ s.front) rest)
      → Stuck Out sy FY ry whole stop
  stuck_behind before whole is can stops low = record {
    front = before ++ s.front;
    parts = is ∙ ap (λ (u : List T). before ++ u) s.parts ∙ sym (append_assoc before s.front (place stop));
    viable = viable_of sy FY (before ++ s.front) (can s.front s.viable);
    cause = cause_on IsLow Out rx ry s.front (before ++ s.front) stop (λ t tail other at e.
        ap ry (append_assoc before s.front (t ∷ other)) ∙ stops t tail other (s.parts ∙ ap (λ (u : List T). s.front ++ u) at) e) low s.cause;
  }

-- it stops at a place, whatever stands behind the first token from there on
pub stuck_at : {T X : Type 0} {Out : List T → List T → Type 0} (spell : X → List T) (Fits : X → Type 0) (read : List T → Read T X) (tokens front rest : List T)
    (stop : Stop T) → stop ≡ Bad rest → tokens ≡ front ++ rest → IsViable spell Fits front
    → ((t : T) (tail other : List T) → rest ≡ t ∷ tail → read (front ++ t ∷ other) ≡ Err (Bad (t ∷ other))) → Stuck Out spell Fits read tokens stop
stuck_at {T} {X} {Out} spell Fits read tokens front rest stop is parts viable stays =
    subst (λ (s : Stop T). Stuck Out spell Fits read tokens s) (sym is)
    (record { front = front; parts = parts; viable = viable; cause = λ t tail same other. stays t tail other same })

-- or where it begins
pub stuck_first : {T X : Type 0} {Out : List T → List T → Type 0} {spell : X → List T} {Fits : X → Type 0} {read : List T → Read T X} {tokens : List T}
    {stop : Stop T} → failed {A = X × List T} (Bad tokens) ≡ failed stop
    → ((t : T) (tail other : List T) → tokens ≡ t ∷ tail → read (t ∷ other) ≡ Err (Bad (t ∷ other))) → Stuck Out spell Fits read tokens stop
stuck_first {T} {X} {Out} {spell} {Fits} {read} {tokens} {stop} e stays =
    stuck_at spell Fits read tokens [] tokens stop (sym (err_is (Bad tokens) stop e)) refl tt stays

-- there is no first token where there is none
pub no_first : {T A : Type 0} (t : T) (tail : List T) → [] ≡ t ∷ tail → A
no_first t tail is = absurd cc

-- ---- what reading tells

-- of what is read, or of why reading stopped
abbrev pub Told : {T A : Type 0} → (A → Type 0) → (Stop T → Type 0) → Result A (Stop T) → Type 0
Told P Q (Ok x) = P x
Told P Q (Err s) = Q s

-- as a test tells
pub cond_told : {T A : Type 0} (P : A → Type 0) (Q : Stop T → Type 0) (b : Bool) (r s : Result A (Stop T)) → (b ≡ true → Told P Q r)
    → (b ≡ false → Told P Q s) → Told P Q (cond b r s)
cond_told P Q true r s all _ = all refl
cond_told P Q false r s _ none = none refl

-- a reader told all that it had to of these tokens
abbrev pub Reads : {T X : Type 0} → (List T → List T → Type 0) → (X → List T) → (X → Type 0) → (X → T → Bool) → (List T → Read T X) → List T
    → Read T X → Type 0
Reads IsLow spell Fits goes read tokens r = Told (λ x. Found spell Fits goes tokens x.0 x.1) (Stuck IsLow spell Fits read tokens) r

-- of a step itself
pub self_told : {T A : Type 0} (r : Result A (Stop T)) → Told (λ x. r ≡ Ok x) (λ s. r ≡ Err s) r
self_told (Ok x) = refl
self_told (Err s) = refl

module _ {T A : Type 0} (P : A → Type 0) (Q : Stop T → Type 0) where
  -- told otherwise
  pub told_on : (R : A → Type 0) (S : Stop T → Type 0) (r : Result A (Stop T)) → Told P Q r → ((x : A) → P x → R x) → ((s : Stop T) → Q s → S s) → Told R S r
  told_on R S (Ok x) h on stops = on x h
  told_on R S (Err s) h on stops = stops s h

  -- of what follows a step
  pub told_bind : {B : Type 0} (R : B → Type 0) (S : Stop T → Type 0) (r : Result A (Stop T)) (next : A → Result B (Stop T)) → Told P Q r
      → ((x : A) → P x → Told R S (next x)) → ((s : Stop T) → Q s → S s) → Told R S (r >>= next)
  told_bind R S (Ok x) next h on stops = on x h
  told_bind R S (Err s) next h on stops = stops s h

module _ {T X : Type 0} {IsLow : List T → List T → Type 0} {spell : X → List T} {Fits : X → Type 0} {goes : X → T → Bool} {read : List T → Read T X} where
  pub told_of : Format IsLow spell Fits goes read → (tokens : List T) → Reads IsLow spell Fits goes read tokens (read tokens)
  told_of f tokens = told_on _ _ _ _ (read tokens) (self_told (read tokens)) (λ x e. f.found tokens x.0 x.1 e) (λ s e. f.stuck tokens s e)

  -- what follows a reading, by what is read and by why it stopped
  pub bind_told : {A : Type 0} (P : A → Type 0) (Q : Stop T → Type 0) → Format IsLow spell Fits goes read → (tokens : List T)
      (next : X × List T → Result A (Stop T)) → ((x : X) (rest : List T) → Found spell Fits goes tokens x rest → Told P Q (next (x, rest)))
      → ((stop : Stop T) → Stuck IsLow spell Fits read tokens stop → Q stop) → Told P Q (read tokens >>= next)
  bind_told P Q f tokens next on stops = told_bind _ _ P Q (read tokens) next (told_of f tokens) (λ x g. on x.0 x.1 g) stops

  pub format_of : ((tokens : List T) → Reads IsLow spell Fits goes read tokens (read tokens))
      → ((x : X) (rest : List T) → Fits x → Ends goes x rest → read (spell x ++ rest) ≡ Ok (x, rest))
      → ((x : X) (t : T) → Fits x → goes x t ≡ true → CanGoOn spell Fits (spell x ++ t ∷ [])) → Format IsLow spell Fits goes read
  format_of reads again on = record {
    found = λ tokens x rest e. subst (Reads IsLow spell Fits goes read tokens) e (reads tokens);
    again = again;
    stuck = λ tokens stop e. subst (Reads IsLow spell Fits goes read tokens) e (reads tokens);
    on = on;
  }

  -- where one place is low, another is told
  pub low_as : {Out : List T → List T → Type 0} → ((front rest : List T) → IsLow front rest → Out front rest) → Format IsLow spell Fits goes read
      → Format Out spell Fits goes read
  low_as low f = record {
    found = f.found;
    again = f.again;
    stuck = λ tokens stop e. stuck_as (f.stuck tokens stop e) (λ front v. v) (λ t tail other is e. e) low;
    on = f.on;
  }

-- ---- what the laws say of a reader

ends_by : {T X : Type 0} (goes : X → T → Bool) (x : X) (rest : List T) → ((t : T) (tail : List T) → rest ≡ t ∷ tail → goes x t ≡ true → ⊥)
    → Ends goes x rest
ends_by goes x [] h = tt
ends_by goes x (t ∷ rest) h = elim (told (goes x t)) [ inl k ↦ absurd (h t rest refl k) | inr k ↦ k ]

module _ {T X : Type 0} (IsLow : List T → List T → Type 0) (spell : X → List T) (Fits : X → Type 0) (goes : X → T → Bool) (read : List T → Read T X)
    (f : Format IsLow spell Fits goes read) where
  -- what can go on behind this front and token is read with nothing behind it
  read_on : (front : List T) (t : T) (on : CanGoOn spell Fits (front ++ t ∷ [])) → read (front ++ t ∷ (on.more ++ [])) ≡ Ok (on.some, [])
  read_on front t on =
      ap read (sym (append_assoc front (t ∷ []) (on.more ++ [])) ∙ sym (append_assoc (front ++ t ∷ []) on.more []) ∙ ap (λ (u : List T). u ++ []) (sym on.is))
      ∙ f.again on.some [] on.fits tt

  -- with a token with which x doesn't go on, no text begins
  pub no_longer : (x : X) (t : T) → Fits x → goes x t ≡ false → CanGoOn spell Fits (spell x ++ t ∷ []) → ⊥
  no_longer x t fits ends on =
      let rest : List T = t ∷ (on.more ++ []) in
      let here : X × List T = (x, rest) in
      let both = ok_is (on.some, []) here (sym (read_on (spell x) t on) ∙ f.again x rest fits ends) in
      let none : [] ≡ rest = ap (λ (q : X × List T). q.1) both in
      absurd cc

  pub ends_of : (x : X) (rest : List T) → Fits x → Ends goes x rest → (t : T) (tail : List T) → rest ≡ t ∷ tail
      → CanGoOn spell Fits (spell x ++ t ∷ []) → ⊥
  ends_of x [] fits ends t tail is on = let none : [] ≡ t ∷ tail = is in absurd cc
  ends_of x (u ∷ rest) fits ends t tail is on = let same : u ≡ t = cc in no_longer x t fits (ap (goes x) (sym same) ∙ ends) on

  -- what is read stands in front
  pub stands : (tokens : List T) (x : X) (rest : List T) → read tokens ≡ Ok (x, rest) → Stands spell Fits tokens x rest
  stands tokens x rest e = let k = f.found tokens x rest e in record { parts = k.parts; fits = k.fits; ends = ends_of x rest k.fits k.ends }

  -- what stands in front is read
  pub is_read : (tokens : List T) (x : X) (rest : List T) → Stands spell Fits tokens x rest → read tokens ≡ Ok (x, rest)
  is_read tokens x rest s =
      ap read s.parts ∙ f.again x rest s.fits (ends_by goes x rest (λ t tail is g. s.ends t tail is (f.on x t s.fits g)))

  -- a bad place is the first one
  pub first_bad : (x : X) → Fits x → (tokens rest : List T) → read tokens ≡ Err (Bad rest) → FirstBad spell Fits tokens rest
  first_bad x0 fits0 tokens rest e =
      let s = f.stuck tokens (Bad rest) e in
      record {
        front = s.front;
        parts = s.parts;
        viable = can_go_on spell Fits x0 fits0 s.front s.viable;
        dead = λ t tail is on.
            not_both (on.some, []) (Bad (t ∷ (on.more ++ []))) (sym (read_on s.front t on) ∙ s.cause t tail is (on.more ++ []));
      }
