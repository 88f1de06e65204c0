-- Items with a separator between each two.
use Rattle.df_format.proofs.Names.{◌≡◌, ℕ, zero, suc, ◌≤◌, Bool, true, false, cond, List, [], ◌∷◌, ◌++◌, length, Ok, Err, refl, sym, ap, subst, ◌∙◌, append_assoc, arith, inl, inr, Stop, Read, ◌>>=◌, more_of, items_at, CanGoOn, Ends, Found, Stuck, Format}
use Rattle.std.proofs.lemmas.List.{append-nil}
use Rattle.df_format.specs.Spelling.{more_spell, items_spell}
use Rattle.df_format.proofs.Laws.{told, both_false, stop_ends, can_within, can_behind, can_go_on, stuck_as, stuck_behind, Told, self_told, told_bind, told_on, format_of}
use Rattle.df_format.proofs.ItemSteps.{Shrinks, onto, more_step, more_stop}

-- ---- what is owed of an item

-- each may stand behind the one before it
abbrev pub Follow : {X : Type 0} → (X → X → Type 0) → X → List X → Type 0
Follow After prev [] = Unit {0}
Follow After prev (x ∷ xs) = After prev x × Follow After x xs

-- What may stand behind an item, where the separator leads to it, is read exactly; only the separator leads
-- to it, and does so before each; an item ends before the separator.
pub record Parts {T X : Type 0} (Near : X → List T → List T → Type 0) (leads : X → T → List T → Bool) (sep : T) (spell : X → List T)
    (Fits : X → Type 0) (After : X → X → Type 0) (goes : X → T → Bool) (next : X → List T → Read T X) : Type 0 where
  pub item : (prev : X) (ts : List T) → Fits prev → leads prev sep ts ≡ true → Format (Near prev) spell (After prev) goes (next prev)
  pub shrinks : (prev : X) → Shrinks (next prev)
  pub fits : (prev x : X) → Fits prev → After prev x → Fits x
  pub only : (prev : X) (t : T) (ts : List T) → leads prev t ts ≡ true → t ≡ sep
  pub led : (prev x : X) (more : List T) → Fits prev → After prev x → leads prev sep (spell x ++ more) ≡ true
  pub at_sep : (x : X) → Fits x → goes x sep ≡ false

-- no further item stands there
abbrev pub IsLast : {T X : Type 0} → (X → T → List T → Bool) → X → List T → Type 0
IsLast leads prev [] = Unit {0}
IsLast leads prev (t ∷ ts) = leads prev t ts ≡ false

-- the last of these ends there, and no further item stands there
abbrev pub LastEnds : {T X : Type 0} → (X → T → List T → Bool) → (X → T → Bool) → X → List X → List T → Type 0
LastEnds leads goes prev [] rest = Ends goes prev rest × IsLast leads prev rest
LastEnds leads goes prev (x ∷ xs) rest = LastEnds leads goes x xs rest

abbrev pub ItemsFit : {X : Type 0} → (X → Type 0) → (X → X → Type 0) → X × List X → Type 0
ItemsFit Fits After xs = Fits xs.0 × Follow After xs.0 xs.1

module _ {T X : Type 0} {Near : X → List T → List T → Type 0} {leads : X → T → List T → Bool} {sep : T} {spell : X → List T} {Fits : X → Type 0}
    {After : X → X → Type 0} {goes : X → T → Bool} {next : X → List T → Read T X} (p : Parts Near leads sep spell Fits After goes next) where
  -- the next one, where this token leads to it
  pub item_led : (prev : X) (t : T) (ts : List T) → Fits prev → leads prev t ts ≡ true → Format (Near prev) spell (After prev) goes (next prev)
  item_led prev t ts fits h = p.item prev ts fits (ap (λ (v : T). leads prev v ts) (sym (p.only prev t ts h)) ∙ h)

  -- or where it fits there
  pub item_after : (prev x : X) → Fits prev → After prev x → Format (Near prev) spell (After prev) goes (next prev)
  item_after prev x fits after = p.item prev (spell x ++ []) fits (p.led prev x [] fits after)

  pub record MoreFound (prev : X) (tokens : List T) (xs : List X) (rest : List T) : Type 0 where
    pub parts : tokens ≡ more_spell sep spell xs ++ rest
    pub fits : Follow After prev xs
    pub ends : LastEnds leads goes prev xs rest

  -- what is told of where an item stops, and of where those behind it stop
  pub record Stops (Q : X → List T → Stop T → Type 0) : Type 0 where
    pub one : (prev : X) (t : T) (ts : List T) (stop : Stop T) → Fits prev → leads prev t ts ≡ true → next prev ts ≡ Err stop → Q prev (t ∷ ts) stop
    pub more : (prev : X) (t : T) (ts : List T) (x : X) (left : List T) (stop : Stop T) → Fits prev → leads prev t ts ≡ true
        → Found spell (After prev) goes ts x left → Q x left stop → Q prev (t ∷ ts) stop

  more_told : (Q : X → List T → Stop T → Type 0) → Stops Q → (n : ℕ) (prev : X) (tokens : List T) → Fits prev → length tokens ≤ n → Ends goes prev tokens
      → Told (λ xs. MoreFound prev tokens xs.0 xs.1) (Q prev tokens) (more_of leads next prev tokens)
  more_told Q s n prev [] fits le ends = record { parts = refl; fits = tt; ends = (tt, tt) }
  more_told Q s zero prev (t ∷ ts) fits le ends = absurd (omega arith)
  more_told Q s (suc n) prev (t ∷ ts) fits le ends =
      elim (told (leads prev t ts)) [
        | inr h ↦ subst Goal (sym (more_stop leads next prev t ts h)) (record { parts = refl; fits = tt; ends = (ends, h) })
        | inl h ↦
            subst Goal (sym (more_step leads next p.shrinks prev t ts h))
            (told_bind _ _ _ _ (next prev ts) (λ x. more_of leads next x.0 x.1 >>= onto x.0) (self_told (next prev ts)) (λ x e.
            let f = (item_led prev t ts fits h).found ts x.0 x.1 e in
            let shorter = p.shrinks prev ts x.0 x.1 e in
            told_bind _ _ _ _ (more_of leads next x.0 x.1) (onto x.0)
            (more_told Q s n x.0 x.1 (p.fits prev x.0 fits f.fits) (omega arith) f.ends) (λ xs r. record {
              parts = ap (λ (u : List T). t ∷ u) (f.parts ∙ ap (λ (u : List T). spell x.0 ++ u) r.parts
                  ∙ sym (append_assoc (spell x.0) (more_spell sep spell xs.0) xs.1))
                  ∙ ap (λ (v : T). v ∷ ((spell x.0 ++ more_spell sep spell xs.0) ++ xs.1)) (p.only prev t ts h);
              fits = (f.fits, r.fits);
              ends = r.ends;
            }) (λ stop q. s.more prev t ts x.0 x.1 stop fits h f q)) (λ stop e. s.one prev t ts stop fits h e))
      ]
    where
      Goal : Read T (List X) → Type 0
      Goal r = Told (λ xs. MoreFound prev (t ∷ ts) xs.0 xs.1) (Q prev (t ∷ ts)) r

  -- an item ends before a separator, and before what the last one ends before
  ends_before : (x : X) (xs : List X) (rest : List T) → Fits x → LastEnds leads goes x xs rest → Ends goes x (more_spell sep spell xs ++ rest)
  ends_before x [] rest fits ends = ends.0
  ends_before x (y ∷ ys) rest fits ends = p.at_sep x fits

  more_again : (prev : X) (xs : List X) (rest : List T) → Fits prev → Follow After prev xs → LastEnds leads goes prev xs rest
      → more_of leads next prev (more_spell sep spell xs ++ rest) ≡ Ok (xs, rest)
  more_again prev [] [] fits each ends = refl
  more_again prev [] (t ∷ rest) fits each ends = more_stop leads next prev t rest ends.1
  more_again prev (x ∷ xs) rest fits each ends =
      let left : List T = more_spell sep spell xs ++ rest in
      let fits_x = p.fits prev x fits each.0 in
      let ends_x = ends_before x xs rest fits_x ends in
      let one : next prev (spell x ++ left) ≡ Ok (x, left) = (item_after prev x fits each.0).again x left each.0 ends_x in
      ap (λ (u : List T). more_of leads next prev (sep ∷ u)) (append_assoc (spell x) (more_spell sep spell xs) rest)
      ∙ more_step leads next p.shrinks prev sep (spell x ++ left) (p.led prev x left fits each.0) ∙ rw (one, more_again x xs rest fits_x each.1 ends) refl

  -- where what stands first fits as an item does
  module _ {First : X → Type 0} (to : (x : X) → First x → Fits x) where
    pub record ItemsFound (tokens : List T) (xs : X × List X) (rest : List T) : Type 0 where
      pub parts : tokens ≡ items_spell sep spell xs ++ rest
      pub fits : ItemsFit First After xs
      pub ends : LastEnds leads goes xs.0 xs.1 rest

    pub items_told : {IsLow : List T → List T → Type 0} {first : List T → Read T X} (R : Stop T → Type 0) (Q : X → List T → Stop T → Type 0) → Stops Q
        → Format IsLow spell First goes first → (tokens : List T) → ((stop : Stop T) → first tokens ≡ Err stop → R stop)
        → ((x : X) (left : List T) (stop : Stop T) → Found spell First goes tokens x left → Q x left stop → R stop)
        → Told (λ xs. ItemsFound tokens xs.0 xs.1) R (items_at leads first next tokens)
    items_told {first = first} R Q s fx tokens none behind =
        told_bind _ _ _ _ (first tokens) (λ x. more_of leads next x.0 x.1 >>= λ xs. Ok ((x.0, xs.0), xs.1)) (self_told (first tokens)) (λ x e.
        let f = fx.found tokens x.0 x.1 e in
        told_bind _ _ _ _ (more_of leads next x.0 x.1) (λ xs. Ok ((x.0, xs.0), xs.1))
        (more_told Q s (length x.1) x.0 x.1 (to x.0 f.fits) (omega arith) f.ends) (λ xs r. record {
          parts = f.parts ∙ ap (λ (u : List T). spell x.0 ++ u) r.parts ∙ sym (append_assoc (spell x.0) (more_spell sep spell xs.0) xs.1);
          fits = (f.fits, r.fits);
          ends = r.ends;
        }) (λ stop q. behind x.0 x.1 stop f q)) none

    pub items_again : (IsLow : List T → List T → Type 0) (first : List T → Read T X) → Format IsLow spell First goes first
        → (xs : X × List X) (rest : List T) → ItemsFit First After xs → LastEnds leads goes xs.0 xs.1 rest
        → items_at leads first next (items_spell sep spell xs ++ rest) ≡ Ok (xs, rest)
    items_again IsLow first fx xs rest fits ends =
        ap (items_at leads first next) (append_assoc (spell xs.0) (more_spell sep spell xs.1) rest)
        ∙ rw (
          fx.again xs.0 (more_spell sep spell xs.1 ++ rest) fits.0 (ends_before xs.0 xs.1 rest (to xs.0 fits.0) ends),
          more_again xs.0 xs.1 rest (to xs.0 fits.0) fits.1 ends,
        ) refl

-- ---- items as a format: one token tells whether another item follows

-- the last of an item and those behind it
abbrev pub last_of : {X : Type 0} → X → List X → X
last_of prev [] = prev
last_of prev (x ∷ xs) = last_of x xs

pub last_split : {X : Type 0} (x : X) (xs : List X) → (before : List X) × (x ∷ xs ≡ before ++ last_of x xs ∷ [])
last_split x [] = ([], refl)
last_split {X} x (y ∷ ys) = let r = last_split y ys in (x ∷ r.0, ap (λ (u : List X). x ∷ u) r.1)

-- what is spelled of items ends with the last of them
pub last_behind : {T X : Type 0} (sep : T) (spell : X → List T) (x : X) (xs : List X)
    → (before : List T) × (items_spell sep spell (x, xs) ≡ before ++ spell (last_of x xs))
last_behind sep spell x [] = ([], append-nil (spell x))
last_behind {T} sep spell x (y ∷ ys) =
    let r = last_behind sep spell y ys in
    (spell x ++ (sep ∷ r.0), ap (λ (u : List T). spell x ++ (sep ∷ u)) r.1 ∙ sym (append_assoc (spell x) (sep ∷ r.0) (spell (last_of y ys))))

-- Only the token matters to what follows; where the separator leads on there is something to follow; and
-- what is low to the reader of the next item is low behind items and the separator, where some item may stand there.
pub record Leads {T X : Type 0} (IsLow : List T → List T → Type 0) (Near : X → List T → List T → Type 0) (leads : X → T → List T → Bool) (sep : T)
    (spell : X → List T) (Fits : X → Type 0) (After : X → X → Type 0) : Type 0 where
  pub first : (prev : X) (t : T) (ts us : List T) → leads prev t ts ≡ leads prev t us
  pub some : (prev : X) (ts : List T) → Fits prev → leads prev sep ts ≡ true → (x : X) × After prev x
  pub near : (x : X) (xs : List X) (y : X) (front rest : List T) → Fits x → Follow After x xs → After (last_of x xs) y → Near (last_of x xs) front rest
      → IsLow (items_spell sep spell (x, xs) ++ (sep ∷ front)) rest

abbrev pub last_goes : {T X : Type 0} → (X → T → List T → Bool) → (X → T → Bool) → X → List X → T → Bool
last_goes leads goes prev [] t = cond (leads prev t []) true (goes prev t)
last_goes leads goes prev (x ∷ xs) t = last_goes leads goes x xs t

-- with a token with which each ends, the last does
pub last_ends_at : {T X : Type 0} (leads : X → T → List T → Bool) (goes : X → T → Bool) (t : T) → ((x : X) → cond (leads x t []) true (goes x t) ≡ false)
    → (x : X) (xs : List X) → last_goes leads goes x xs t ≡ false
last_ends_at leads goes t each x [] = each x
last_ends_at leads goes t each x (y ∷ ys) = last_ends_at leads goes t each y ys

abbrev pub items_goes : {T X : Type 0} → (X → T → List T → Bool) → (X → T → Bool) → X × List X → T → Bool
items_goes leads goes xs t = last_goes leads goes xs.0 xs.1 t

nothing_left : {T X : Type 0} (leads : X → T → List T → Bool) (goes : X → T → Bool) (prev : X) (xs : List X) → LastEnds leads goes prev xs []
nothing_left leads goes prev [] = (tt, tt)
nothing_left leads goes prev (x ∷ xs) = nothing_left leads goes x xs

module _ {T X : Type 0} {IsLow : List T → List T → Type 0} {Near : X → List T → List T → Type 0} {leads : X → T → List T → Bool} {sep : T}
    {spell : X → List T} {Fits : X → Type 0} {After : X → X → Type 0} {goes : X → T → Bool} {next : X → List T → Read T X}
    (p : Parts Near leads sep spell Fits After goes next) (l : Leads IsLow Near leads sep spell Fits After) where
  both_end : (prev : X) (xs : List X) (t : T) (rest : List T) → LastEnds leads goes prev xs (t ∷ rest) → last_goes leads goes prev xs t ≡ false
  both_end prev [] t rest h = let b : leads prev t [] ≡ false = l.first prev t [] rest ∙ h.1 in rw (b, h.0) refl
  both_end prev (x ∷ xs) t rest h = both_end x xs t rest h

  last_ends : (xs : X × List X) (rest : List T) → LastEnds leads goes xs.0 xs.1 rest → Ends (items_goes leads goes) xs rest
  last_ends xs [] h = tt
  last_ends xs (t ∷ rest) h = both_end xs.0 xs.1 t rest h

  ends_both : (prev : X) (xs : List X) (t : T) (rest : List T) → last_goes leads goes prev xs t ≡ false → LastEnds leads goes prev xs (t ∷ rest)
  ends_both prev [] t rest h = let b = both_false (leads prev t []) (goes prev t) h in (b.1, l.first prev t rest [] ∙ b.0)
  ends_both prev (x ∷ xs) t rest h = ends_both x xs t rest h

  ends_last : (xs : X × List X) (rest : List T) → Ends (items_goes leads goes) xs rest → LastEnds leads goes xs.0 xs.1 rest
  ends_last xs [] h = nothing_left leads goes xs.0 xs.1
  ends_last xs (t ∷ rest) h = ends_both xs.0 xs.1 t rest h

  -- rest is low behind the last of these items and a separator, where some item may stand
  record LowItem (prev : X) (front rest : List T) : Type 0 where
    pub xs : List X
    pub inner : List T
    pub is : front ≡ more_spell sep spell xs ++ (sep ∷ inner)
    pub follow : Follow After prev xs
    pub other : X
    pub after : After (last_of prev xs) other
    pub near : Near (last_of prev xs) inner rest

  abbrev MoreStuck : X → List T → Stop T → Type 0
  MoreStuck prev tokens stop = Stuck (LowItem prev) (more_spell sep spell) (Follow After prev) (more_of leads next prev) tokens stop

  -- one more item behind a separator
  viable_one : (prev : X) (front : List T) → CanGoOn spell (After prev) front → CanGoOn (more_spell sep spell) (Follow After prev) (sep ∷ front)
  viable_one prev front v = can_within v (v.some ∷ []) (v.fits, tt) (sep ∷ []) [] refl

  -- an item, and what may follow it
  viable_more : (prev x : X) (front : List T) → After prev x → CanGoOn (more_spell sep spell) (Follow After x) front
      → CanGoOn (more_spell sep spell) (Follow After prev) (sep ∷ (spell x ++ front))
  viable_more prev x front a v = can_behind v (x ∷ v.some) (a, v.fits) (sep ∷ spell x) refl

  low_more : (prev x : X) (front rest : List T) → After prev x → LowItem x front rest → LowItem prev (sep ∷ (spell x ++ front)) rest
  low_more prev x front rest after low = record {
    xs = x ∷ low.xs;
    inner = low.inner;
    is = ap (λ (u : List T). sep ∷ u)
        (ap (λ (u : List T). spell x ++ u) low.is ∙ sym (append_assoc (spell x) (more_spell sep spell low.xs) (sep ∷ low.inner)));
    follow = (after, low.follow);
    other = low.other;
    after = low.after;
    near = low.near;
  }

  low_items : (x : X) (front rest : List T) → Fits x → LowItem x front rest → IsLow (spell x ++ front) rest
  low_items x front rest fits low =
      subst (λ (u : List T). IsLow u rest)
      (append_assoc (spell x) (more_spell sep spell low.xs) (sep ∷ low.inner) ∙ ap (λ (u : List T). spell x ++ u) (sym low.is))
      (l.near x low.xs low.other low.inner rest fits low.follow low.after low.near)

  one_stuck : (prev : X) (t : T) (ts : List T) (stop : Stop T) → Fits prev → leads prev t ts ≡ true → next prev ts ≡ Err stop
      → MoreStuck prev (t ∷ ts) stop
  one_stuck prev t ts stop fits h e =
      let same : t ≡ sep = p.only prev t ts h in
      let lead : leads prev sep ts ≡ true = ap (λ (v : T). leads prev v ts) (sym same) ∙ h in
      let s = (p.item prev ts fits lead).stuck ts stop e in
      let y = l.some prev ts fits lead in
      stuck_behind s (sep ∷ []) (t ∷ ts) (ap (λ (v : T). v ∷ ts) same) (λ front v. viable_one prev front (can_go_on spell (After prev) y.0 y.1 front v))
      (λ u tail other is e. let more : List T = s.front ++ u ∷ other in
      more_step leads next p.shrinks prev sep more (l.first prev sep more ts ∙ lead) ∙ rw e refl)
      (λ rest low. record { xs = []; inner = s.front; is = refl; follow = tt; other = y.0; after = y.1; near = low })

  then_stuck : (prev : X) (t : T) (ts : List T) (x : X) (left : List T) (stop : Stop T) → Fits prev → leads prev t ts ≡ true
      → Found spell (After prev) goes ts x left → MoreStuck x left stop → MoreStuck prev (t ∷ ts) stop
  then_stuck prev t ts x left stop fits h f s =
      let same : t ≡ sep = p.only prev t ts h in
      stuck_behind s (sep ∷ spell x) (t ∷ ts) (ap (λ (u : List T). t ∷ u) f.parts ∙ ap (λ (v : T). v ∷ (spell x ++ left)) same)
      (λ front v. viable_more prev x front f.fits (can_go_on (more_spell sep spell) (Follow After x) [] tt front v)) (λ u tail other is e.
      let more : List T = s.front ++ u ∷ other in
      let ends = stop_ends goes x left s.front u tail other is f.ends in
      let one : next prev (spell x ++ more) ≡ Ok (x, more) = (item_after p prev x fits f.fits).again x more f.fits ends in
      let lead = l.first prev sep (spell x ++ more) ts ∙ ap (λ (v : T). leads prev v ts) (sym same) ∙ h in
      more_step leads next p.shrinks prev sep (spell x ++ more) lead ∙ rw (one, e) refl) (λ rest low. low_more prev x s.front rest f.fits low)

  -- where the last item goes on, or another may follow, a longer text begins so
  items_on : (F : X → Type 0) → ((x : X) (t : T) → F x → goes x t ≡ true → CanGoOn spell F (spell x ++ t ∷ [])) → ((x : X) → F x → Fits x)
      → (x : X) (xs : List X) (t : T) → F x → Follow After x xs → last_goes leads goes x xs t ≡ true
      → CanGoOn (items_spell sep spell) (ItemsFit F After) (items_spell sep spell (x, xs) ++ t ∷ [])
  items_on F one fits x [] t a each g =
      elim (told (leads x t [])) [
        | inl h ↦
            let same : t ≡ sep = p.only x t [] h in
            let y = l.some x [] (fits x a) (ap (λ (v : T). leads x v []) (sym same) ∙ h) in
            let more : List T = spell y.0 ++ [] in
            record {
              some = (x, y.0 ∷ []);
              fits = (a, (y.1, tt));
              more = more;
              is = ap (λ (v : T). spell x ++ (v ∷ more)) (sym same) ∙ ap (λ (u : List T). u ++ (t ∷ more)) (sym (append-nil (spell x)))
                  ∙ sym (append_assoc (spell x ++ []) (t ∷ []) more);
            }
        | inr h ↦
            let v = one x t a (sym (ap (λ b. cond b true (goes x t)) h) ∙ g) in
            record {
              some = (v.some, []);
              fits = (v.fits, tt);
              more = v.more;
              is = append-nil (spell v.some) ∙ v.is ∙ ap (λ (u : List T). (u ++ t ∷ []) ++ v.more) (sym (append-nil (spell x)));
            }
      ]
  items_on F one fits x (y ∷ ys) t a each g =
      let v = items_on (After x) (item_after p x y (fits x a) each.0).on (λ z b. p.fits x z (fits x a) b) y ys t each.0 each.1 g in
      let others : List T = items_spell sep spell (y, ys) in
      record {
        some = (x, v.some.0 ∷ v.some.1);
        fits = (a, v.fits);
        more = v.more;
        is = ap (λ (u : List T). spell x ++ (sep ∷ u)) (v.is ∙ append_assoc others (t ∷ []) v.more)
            ∙ sym (append_assoc (spell x) (sep ∷ others) (t ∷ v.more)) ∙ sym (append_assoc (spell x ++ (sep ∷ others)) (t ∷ []) v.more);
      }

  -- where what stands first fits as an item does
  module _ {First : X → Type 0} (to : (x : X) → First x → Fits x) where
    items_extend : (front : List T) → CanGoOn spell First front → CanGoOn (items_spell sep spell) (ItemsFit First After) front
    items_extend front v = can_within v (v.some, []) (v.fits, tt) [] [] refl

    items_behind : (x : X) (front : List T) → First x → CanGoOn (more_spell sep spell) (Follow After x) front
        → CanGoOn (items_spell sep spell) (ItemsFit First After) (spell x ++ front)
    items_behind x front fits v = can_behind v (x, v.some) (fits, v.fits) (spell x) refl

    pub items_format : (first : List T → Read T X) → Format IsLow spell First goes first
        → Format IsLow (items_spell sep spell) (ItemsFit First After) (items_goes leads goes) (items_at leads first next)
    items_format first fx =
        format_of (λ tokens. told_on _ _ _ _ (items_at leads first next tokens)
        (items_told p to (λ stop. ItemsStuck tokens stop) MoreStuck (record { one = one_stuck; more = then_stuck }) fx tokens
        (λ stop e. stuck_as (fx.stuck tokens stop e) items_extend (λ t tail other is e. rw e refl) (λ front rest low. low))
        (λ x left stop f s. stuck_behind s (spell x) tokens f.parts
        (λ front v. items_behind x front f.fits (can_go_on (more_spell sep spell) (Follow After x) [] tt front v)) (λ t tail other is e.
        let ends = stop_ends goes x left s.front t tail other is f.ends in rw (fx.again x (s.front ++ t ∷ other) f.fits ends, e) refl)
        (λ rest low. low_items x s.front rest (to x f.fits) low)))
        (λ xs f. record { parts = f.parts; fits = f.fits; ends = last_ends xs.0 xs.1 f.ends }) (λ stop s. s))
        (λ xs rest fits ends. items_again p to IsLow first fx xs rest fits (ends_last xs rest ends))
        (λ xs t fits g. items_on First fx.on to xs.0 xs.1 t fits.0 fits.1 g)
      where
        ItemsStuck : List T → Stop T → Type 0
        ItemsStuck tokens stop = Stuck IsLow (items_spell sep spell) (ItemsFit First After) (items_at leads first next) tokens stop
