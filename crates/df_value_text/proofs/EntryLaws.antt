-- Items in front of a closing byte, how deep values nest, and entries, read as they are spelled.
use Rattle.df_value_text.proofs.Names.{suc, is_ascii_digit, negsuc, ◌≡◌, ℕ, Bool, true, false, eqb, List, [], ◌∷◌, ◌++◌, refl, sym, ap, subst, ◌∙◌, ◌⊎◌, inl, inr, Read, items_spell, Format, never, closed_format, Refuses, Follow, ItemsFit, IsText, text_format, Of, made, fitting, either_by, joined, listed, none_listed, ended_at, ◌≤◌, max, arith, is_lt, name_cmp, Plain, Plains, Pairs, items, entries, no_items, item, no_entries, entry, from_list, from_pairs, IsSpelled, AreSpelled, AreEntries, AreBehind, append_assoc, pos, eqb-true, and_parts, items_at, then_at, in_map, low_as, nowhere, append-nil, flat_map, Parts, Leads, items_goes, items_format, format_shrinks, behind_format, own, int, greatest, leads_entry, given_at, entry_at, next_entry_at, value_text, entry_text, last_of, last_split, LowWithin, MayFollow, IsOpen, Open, open_text, entries_led, then_format}
use Rattle.df_value_text.proofs.PathLaws.{joined_items}
use Rattle.df_value_text.proofs.NameLaws.{name_apart, IsName, name_goes, name_format, AfterName, is_less, NearName, higher_format, greatest_fits, below_greatest}
use Rattle.df_value_text.proofs.NumberLaws.{number_apart}
use Rattle.df_value_text.proofs.WholeLaws.{whole_goes}

-- ---- items in front of a closing byte, of which there may be none

-- items with commas between them, and the closing byte
abbrev pub ended_text : {X : Type 0} → ℕ → (X → List ℕ) → List X → List ℕ
ended_text last spell xs = joined 44 spell xs ++ last ∷ []

-- the first fits, and each may stand behind the one before it
abbrev pub Chain : {X : Type 0} → (X → Type 0) → (X → X → Type 0) → List X → Type 0
Chain Fits After [] = Unit {0}
Chain Fits After (x ∷ xs) = Fits x × Follow After x xs

-- as far as the first and the others go on
abbrev goes_on : {X : Type 0} → (X × List X → ℕ → Bool) → List X → ℕ → Bool
goes_on goes [] c = false
goes_on goes (x ∷ xs) c = goes (x, xs) c

abbrev IsNone : {X : Type 0} → ℕ → List X → Type 0
IsNone last xs = Of none_listed (IsText (last ∷ [])) xs

abbrev IsSome : {X : Type 0} → (X → Type 0) → (X → X → Type 0) → List X → Type 0
IsSome Fits After xs = Of listed (ItemsFit Fits After) xs

module _ {X : Type 0} (spell : X → List ℕ) (Fits : X → Type 0) (After : X → X → Type 0) (last : ℕ) where
  chain_of : (xs : List X) → (IsNone last xs ⊎ IsSome Fits After xs) → Chain Fits After xs
  chain_of xs (inl h) = subst (Chain Fits After) h.2 tt
  chain_of xs (inr h) = subst (Chain Fits After) h.2 h.1

  of_chain : (xs : List X) → Chain Fits After xs → (IsNone last xs ⊎ IsSome Fits After xs)
  of_chain [] h = inl (last ∷ [], refl, refl)
  of_chain (x ∷ xs) h = inr ((x, xs), h, refl)

  pub ended_format : {IsLow : List ℕ → List ℕ → Type 0} {goes : X × List X → ℕ → Bool} {read : List ℕ → Read ℕ (X × List X)}
      → Refuses (λ c. eqb c last) true read → ((xs : X × List X) → ItemsFit Fits After xs → goes xs last ≡ false)
      → Format IsLow (items_spell 44 spell) (ItemsFit Fits After) goes read
      → Format IsLow (ended_text last spell) (Chain Fits After) never (ended_at last read)
  ended_format {IsLow} {goes} {read} refuses ends f =
      fitting chain_of of_chain (either_by (λ c. eqb c last) (made none_listed (text_format IsLow (last ∷ [])) (λ w h. sym h) (λ w c h. refl))
      (closed_format last [] {goes = goes_on goes} (λ xs h. subst (λ (ys : List X). goes_on goes ys last ≡ false) h.2 (ends h.0 h.1))
      (made listed f (λ x h. joined_items 44 spell x.0 x.1) (λ x c h. refl)))
      (record { none = refl; first = λ c cs h. rw h refl })
      (record { none = rw (refuses.none) refl; first = λ c cs h. rw (refuses.first c cs h) refl }))

-- ---- how deep lists and maps nest

-- how deep lists and maps nest
abbrev mutual
  pub nest : Plain → ℕ
  nest (items ps) = suc (items_nest ps)
  nest (entries es) = suc (entries_nest es)
  nest _ = 0

  pub items_nest : Plains → ℕ
  items_nest no_items = 0
  items_nest (item p ps) = max (nest p) (items_nest ps)

  pub entries_nest : Pairs → ℕ
  entries_nest no_entries = 0
  entries_nest (entry name p es) = max (nest p) (entries_nest es)

-- a value that has a spelling, and nests so deep at most
abbrev pub LevelFits : ℕ → Plain → Type 0
LevelFits n p = IsSpelled p × (nest p ≤ n)

-- ---- lists, item by item

pub items_to : (n : ℕ) (ps : List Plain) → Chain (LevelFits n) (λ prev. LevelFits n) ps → AreSpelled (from_list ps) × (items_nest (from_list ps) ≤ n)
items_to n [] h = (tt, omega arith)
items_to n (p ∷ []) h = ((h.0.0, tt), omega (arith, h.0.1))
items_to n (p ∷ q ∷ ps) h = let r = items_to n (q ∷ ps) h.1 in ((h.0.0, r.0), omega (arith, h.0.1, r.1))

-- where all that is spelled and nests so deep at most fits, each of these does
pub list_chain : (F : Plain → Type 0) (n : ℕ) → ((p : Plain) → LevelFits n p → F p) → (ps : List Plain) → AreSpelled (from_list ps)
    → items_nest (from_list ps) ≤ n → Chain F (λ prev. F) ps
list_chain F n fits [] h k = tt
list_chain F n fits (p ∷ []) h k = (fits p (h.0, omega (arith, k)), tt)
list_chain F n fits (p ∷ q ∷ ps) h k = (fits p (h.0, omega (arith, k)), list_chain F n fits (q ∷ ps) h.1 (omega (arith, k)))

items_list : (ps : Plains) → (list : List Plain) × (from_list list ≡ ps)
items_list no_items = ([], refl)
items_list (item p ps) = let r = items_list ps in (p ∷ r.0, ap (item p) r.1)

pub items_from : (n : ℕ) (ps : Plains) → AreSpelled ps → items_nest ps ≤ n
    → (list : List Plain) × Chain (LevelFits n) (λ prev. LevelFits n) list × (from_list list ≡ ps)
items_from n ps h k =
    let r = items_list ps in
    (r.0, list_chain (LevelFits n) n (λ p h. h) r.0 (subst AreSpelled (sym r.1) h) (subst (λ (qs : Plains). items_nest qs ≤ n) (sym r.1) k), r.1)

-- ---- maps, entry by entry

abbrev pub EntryFits : (Plain → Type 0) → List ℕ × Plain → Type 0
EntryFits F e = IsName e.0 × F e.1

abbrev pub EntryAfter : (Plain → Type 0) → List ℕ × Plain → List ℕ × Plain → Type 0
EntryAfter F prev e = AfterName prev.0 e.0 × F e.1

entries_follow : (n : ℕ) (prev : List ℕ × Plain) (es : List (List ℕ × Plain)) → Follow (EntryAfter (LevelFits n)) prev es
    → AreBehind prev.0 (from_pairs es) × (entries_nest (from_pairs es) ≤ n)
entries_follow n prev [] h = (tt, omega arith)
entries_follow n prev (e ∷ es) h =
    let r = entries_follow n e es h.1 in
    ((h.0.0.0, is_less (name_cmp prev.0 e.0) h.0.0.1, h.0.1.0, r.0), omega (arith, h.0.1.1, r.1))

pub entries_to : (n : ℕ) (es : List (List ℕ × Plain)) → Chain (EntryFits (LevelFits n)) (EntryAfter (LevelFits n)) es
    → AreEntries (from_pairs es) × (entries_nest (from_pairs es) ≤ n)
entries_to n [] h = (tt, omega arith)
entries_to n (e ∷ es) h = let r = entries_follow n e es h.1 in ((h.0.0, h.0.1.0, r.0), omega (arith, h.0.1.1, r.1))

behind_follow : (F : Plain → Type 0) (n : ℕ) → ((p : Plain) → LevelFits n p → F p) → (prev : List ℕ × Plain) (es : List (List ℕ × Plain))
    → AreBehind prev.0 (from_pairs es) → entries_nest (from_pairs es) ≤ n → Follow (EntryAfter F) prev es
behind_follow F n fits prev [] h k = tt
behind_follow F n fits prev (e ∷ es) h k =
    (((h.0, ap is_lt h.1), fits e.1 (h.2, omega (arith, k))), behind_follow F n fits e es h.3 (omega (arith, k)))

pub entries_chain : (F : Plain → Type 0) (n : ℕ) → ((p : Plain) → LevelFits n p → F p) → (es : List (List ℕ × Plain))
    → AreEntries (from_pairs es) → entries_nest (from_pairs es) ≤ n → Chain (EntryFits F) (EntryAfter F) es
entries_chain F n fits [] h k = tt
entries_chain F n fits (e ∷ es) h k = ((h.0, fits e.1 (h.1, omega (arith, k))), behind_follow F n fits e es h.2 (omega (arith, k)))

entries_list : (es : Pairs) → (list : List (List ℕ × Plain)) × (from_pairs list ≡ es)
entries_list no_entries = ([], refl)
entries_list (entry name p es) = let r = entries_list es in ((name, p) ∷ r.0, ap (entry name p) r.1)

pub entries_from : (n : ℕ) (es : Pairs) → AreEntries es → entries_nest es ≤ n
    → (list : List (List ℕ × Plain)) × Chain (EntryFits (LevelFits n)) (EntryAfter (LevelFits n)) list × (from_pairs list ≡ es)
entries_from n es h k =
    let r = entries_list es in
    (r.0, entries_chain (LevelFits n) n (λ p h. h) r.0 (subst AreEntries (sym r.1) h) (subst (λ (ds : Pairs). entries_nest ds ≤ n) (sym r.1) k), r.1)

-- ---- entries

-- only a number goes on
abbrev pub value_goes : Plain → ℕ → Bool
value_goes (int z) c = whole_goes z c
value_goes _ c = false

-- a number goes on with digits alone, and no other value does
pub value_apart : (p : Plain) (c : ℕ) → is_ascii_digit c ≡ false → value_goes p c ≡ false
value_apart (int (pos n)) c h = number_apart _ n c h
value_apart (int (negsuc n)) c h = number_apart _ (suc n) c h
value_apart _ c h = refl

-- `=` and a value
abbrev given_text : Plain → List ℕ
given_text p = 61 ∷ value_text p

abbrev pub entry_goes : List ℕ × Plain → ℕ → Bool
entry_goes e c = value_goes e.1 c

-- ---- what is low in a list or a map is so in the value

-- items, each with a comma behind it
abbrev pub led : {X : Type 0} → (X → List ℕ) → List X → List ℕ
led spell xs = flat_map (λ x. spell x ++ 44 ∷ []) xs

-- one more in front of these
pub led_one : {X : Type 0} (spell : X → List ℕ) (x : X) (xs : List X) (inner : List ℕ)
    → led spell (x ∷ xs) ++ inner ≡ spell x ++ (44 ∷ (led spell xs ++ inner))
led_one spell x xs inner = append_assoc (spell x ++ 44 ∷ []) (led spell xs) inner ∙ append_assoc (spell x) (44 ∷ []) (led spell xs ++ inner)

-- items and a comma, as they are read and as each has its comma
pub items_led : {X : Type 0} (spell : X → List ℕ) (x : X) (xs : List X) (rest : List ℕ)
    → items_spell 44 spell (x, xs) ++ (44 ∷ rest) ≡ led spell (x ∷ xs) ++ rest
items_led spell x [] rest = ap (λ (u : List ℕ). u ++ (44 ∷ rest)) (append-nil (spell x)) ∙ sym (led_one spell x [] rest)
items_led spell x (y ∷ ys) rest = append_assoc (spell x) (44 ∷ items_spell 44 spell (y, ys)) (44 ∷ rest)
    ∙ ap (λ (u : List ℕ). spell x ++ (44 ∷ u)) (items_led spell y ys rest) ∙ sym (led_one spell x (y ∷ ys) rest)

pub low_open : (o : Open) (inner rest : List ℕ) → IsOpen o → LowWithin inner rest → LowWithin (open_text o ++ inner) rest
low_open o inner rest is low = record {
  opened = o ∷ low.opened;
  are = (is, low.are);
  es = low.es;
  last = low.last;
  other = low.other;
  may = low.may;
  is = ap (λ (u : List ℕ). open_text o ++ u) low.is ∙ sym (append_assoc (open_text o) (flat_map open_text low.opened)
      (40 ∷ entries_led (low.es ++ low.last ∷ [])));
  low = low.low;
}

-- behind such a name and `=`
abbrev LowEntry : (List ℕ → Type 0) → List ℕ → List ℕ → Type 0
LowEntry F front rest = (name : List ℕ) × (inner : List ℕ) × F name × (front ≡ name ++ (61 ∷ inner)) × LowWithin inner rest

-- behind a comma: the name itself, or some place in the value
abbrev pub NearEntry : List ℕ × Plain → List ℕ → List ℕ → Type 0
NearEntry prev front rest = NearName prev.0 front rest ⊎ LowEntry (AfterName prev.0) front rest

abbrev pub LowInMap : List ℕ → List ℕ → Type 0
LowInMap front rest = LowWithin (40 ∷ front) rest

low_entry : (es : List (List ℕ × Plain)) (name inner front rest : List ℕ) → MayFollow es name → front ≡ name ++ (61 ∷ inner) → LowWithin inner rest
    → LowInMap (entries_led es ++ front) rest
low_entry es name inner front rest may is low =
    subst (λ (u : List ℕ). LowInMap u rest)
    (append_assoc (entries_led es) (name ++ 61 ∷ []) inner ∙ ap (λ (u : List ℕ). entries_led es ++ u) (append_assoc name (61 ∷ []) inner ∙ sym is))
    (low_open (in_map es name) inner rest may low)

follow_last : {X : Type 0} (After : X → X → Type 0) (x : X) (xs : List X) (y : X) → Follow After x xs → After (last_of x xs) y → Follow After x (xs ++ y ∷ [])
follow_last After x [] y follow after = (after, tt)
follow_last After x (z ∷ zs) y follow after = (follow.0, follow_last After z zs y follow.1 after)

module _ (n : ℕ) (e : List ℕ × Plain) (es : List (List ℕ × Plain)) (y : List ℕ × Plain) (front rest : List ℕ) (fits : EntryFits (LevelFits n) e)
    (follow : Follow (EntryAfter (LevelFits n)) e es) (after : EntryAfter (LevelFits n) (last_of e es) y) where
  may_follow : (name : List ℕ) → AfterName (last_of e es).0 name → MayFollow (e ∷ es) name
  may_follow name above =
      let each = follow_last (EntryAfter (LevelFits n)) e es (name, y.1) follow (above, after.1) in
      (y.1, (entries_to n (e ∷ (es ++ (name, y.1) ∷ [])) (fits, each)).0)

  near_entry : NearEntry (last_of e es) front rest → LowInMap (items_spell 44 entry_text (e, es) ++ (44 ∷ front)) rest
  near_entry (inr low) =
      subst (λ (u : List ℕ). LowInMap u rest) (sym (items_led entry_text e es front))
      (low_entry (e ∷ es) low.0 low.1 front rest (may_follow low.0 low.2) low.3 low.4)
  near_entry (inl near) =
      let split = last_split e es in
      record {
        opened = [];
        are = tt;
        es = split.0;
        last = last_of e es;
        other = y.0;
        may = subst (λ (u : List (List ℕ × Plain)). MayFollow u y.0) split.1 (may_follow y.0 after.0);
        is = ap (λ (u : List ℕ). 40 ∷ u) (items_led entry_text e es front ∙ ap (λ (u : List ℕ). entries_led (e ∷ es) ++ u) near.0
            ∙ append-nil (entries_led (e ∷ es)) ∙ ap entries_led split.1);
        low = near.1;
      }

module _ (F : Plain → Type 0) (zero : F (int (pos 0))) (inner : List ℕ → Read ℕ Plain) (f : Format LowWithin value_text F value_goes inner) where
  abbrev LowGiven : List ℕ → List ℕ → Type 0
  LowGiven front rest = (inner : List ℕ) × (front ≡ 61 ∷ inner) × LowWithin inner rest

  given_format : Format LowGiven given_text F value_goes (given_at inner)
  given_format = behind_format (61 ∷ []) (λ front rest low. (front, refl, low)) (int (pos 0)) zero f

  -- an entry whose name is read so
  named_format : {N : List ℕ → Type 0} {name : List ℕ → Read ℕ (List ℕ)} (Near : List ℕ → List ℕ → Type 0)
      → Format Near own N name_goes name
      → Format (λ front rest. Near front rest ⊎ LowEntry N front rest) entry_text (λ e. N e.0 × F e.1) entry_goes (then_at name (given_at inner))
  named_format {N} {name} Near fx =
      then_format (λ front rest low. inl low) (λ x front rest fits low. inr (x, low.0, fits, ap (λ (u : List ℕ). x ++ u) low.1, low.2)) fx given_format
      (int (pos 0)) zero (λ x p rest fits fits_p ends. name_apart x 61 refl)

  pub entry_format : Format LowInMap entry_text (EntryFits F) entry_goes (entry_at inner)
  entry_format = low_as first (named_format nowhere (name_format nowhere))
    where
      first : (front rest : List ℕ) → (nowhere front rest ⊎ LowEntry IsName front rest) → LowInMap front rest
      first front rest (inl low) = absurd low
      first front rest (inr low) = low_entry [] low.0 low.1 front rest (int (pos 0), (low.2, omega arith, tt)) low.3 low.4

  pub next_format : (prev : List ℕ × Plain) → Format (NearEntry prev) entry_text (EntryAfter F prev) entry_goes (next_entry_at inner prev.0)
  next_format prev = named_format (NearName prev.0) (higher_format prev.0)

  pub entries_parts : Parts NearEntry leads_entry 44 entry_text (EntryFits F) (EntryAfter F) entry_goes (λ prev. next_entry_at inner prev.0)
  entries_parts = record {
    item = λ prev cs fits h. next_format prev;
    shrinks = λ prev. format_shrinks (NearEntry prev) entry_text (EntryAfter F prev) entry_goes (next_entry_at inner prev.0) (next_format prev);
    fits = λ prev e fits after. (after.0.0, after.1);
    only = λ prev c cs h. eqb-true c 44 (and_parts (eqb c 44) (is_lt (name_cmp prev.0 greatest)) h).0;
    led = λ prev e more fits after. below_greatest prev.0 e.0 after.0;
    at_sep = λ e fits. value_apart e.1 44 refl;
  }

entries_lead : (n : ℕ) → Leads LowInMap NearEntry leads_entry 44 entry_text (EntryFits (LevelFits n)) (EntryAfter (LevelFits n))
entries_lead n = record {
  first = λ prev c cs ds. refl;
  some = λ prev cs fits h. ((greatest, prev.1), ((greatest_fits, h), fits.1));
  near = near_entry n;
}

pub entries_format : (n : ℕ) (inner : List ℕ → Read ℕ Plain) → Format LowWithin value_text (LevelFits n) value_goes inner
    → Format LowInMap (items_spell 44 entry_text) (ItemsFit (EntryFits (LevelFits n)) (EntryAfter (LevelFits n))) (items_goes leads_entry entry_goes)
    (items_at leads_entry (entry_at inner) (λ prev. next_entry_at inner prev.0))
entries_format n inner f =
    let zero : LevelFits n (int (pos 0)) = (omega arith, omega arith) in
    items_format (entries_parts (LevelFits n) zero inner f) (entries_lead n) (λ e fits. fits) (entry_at inner) (entry_format (LevelFits n) zero inner f)
