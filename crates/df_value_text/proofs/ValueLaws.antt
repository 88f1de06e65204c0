-- Values are read as they are spelled.
use Rattle.df_value_text.proofs.Names.{either_by, byte_refuses, Refuses, value_at, node_at, text_at, as_at, listed, none_listed, ended_at, name_at, higher_at, given_at, entry_at, own, nowhere, ◌+◌, ◌≤◌, length, append_cancel_right, Bad, Low, Stop, Err, CanGoOn, Ends, Stuck, viable_map, ◌∙◌, last_ends_at, Ok, Less, name_cmp, ◌≡◌, ℕ, zero, suc, true, eqb, List, [], ◌∷◌, ◌++◌, refl, sym, ap, subst, arith, ◌⊎◌, inl, inr, pos, IsUtf8, eqb-true, Read, behind_at, Format, nowhere_is_local, any_low, low_as, in_list, Parts, Leads, items_format, format_shrinks, Shrinks, Of, made, led, fitting, Plain, int, words, bytes, items, entries, IsSpelled, AreBytes, IsWhole, leads_value, list_of, list_at, leads_entry, next_entry_at, map_of, map_at, leaf_at, value_text, entry_text, LowWithin}
use Rattle.df_value_text.specs.ReadValue.{value_within}
use Rattle.df_format.proofs.Agrees.{Agree, itself_agrees, behind_agree, closed_agree, as_agree, then_agree, either_agree, items_agree}
use Rattle.df_format.specs.Format.{Cause}
use Rattle.df_value_text.proofs.BytesLaws.{bytes_format}
use Rattle.df_value_text.proofs.EntryLaws.{Chain, entry_goes, next_format, entry_format, ended_format, items_led, low_open, entries_parts, entries_format, LevelFits, EntryFits, EntryAfter, NearEntry, LowInMap, nest, items_to, items_from, entries_to, entries_from}
use Rattle.df_value_text.proofs.NameLaws.{AfterName, IsName, NearName, higher_format, is_less, name_format, name_goes}
use Rattle.df_value_text.proofs.Values.{items_text-joined, entries_text-joined}
use Rattle.df_value_text.proofs.WholeLaws.{whole_format}
use Rattle.df_value_text.proofs.WordsLaws.{words_format}
pub use Rattle.df_value_text.proofs.EntryLaws.{value_goes, value_apart}

-- ---- words, bytes and numbers

abbrev pub IsScalar : Plain → Type 0
IsScalar p = Of bytes AreBytes p ⊎ Of int IsWhole p

abbrev pub IsLeaf : Plain → Type 0
IsLeaf p = Of words IsUtf8 p ⊎ IsScalar p

leaf_format : Format LowWithin value_text IsLeaf value_goes leaf_at
leaf_format =
    any_low LowWithin (either_by (λ c. eqb c 34) (made words words_format (λ s h. refl) (λ s c h. refl))
    (either_by (λ c. eqb c 120) (made bytes bytes_format (λ s h. refl) (λ s c h. refl))
    (made int (whole_format nowhere nowhere_is_local) (λ z h. refl) (λ z c h. refl))
    (record { none = refl; first = λ c cs h. rw h refl }) (byte_refuses 120 refl (λ cs. refl)))
    (record { none = refl; first = λ c cs h. rw h refl }) (byte_refuses 34 refl (λ cs. refl)))

-- a leaf is what nests in no list or map
leaf_level : (n : ℕ) (p : Plain) → IsLeaf p → LevelFits n p
leaf_level n p (inl h) = subst (LevelFits n) h.2 (h.1, omega arith)
leaf_level n p (inr (inl h)) = subst (LevelFits n) h.2 (h.1, omega arith)
leaf_level n p (inr (inr h)) = subst (LevelFits n) h.2 (h.1, omega arith)

level_leaf : (p : Plain) → LevelFits 0 p → IsLeaf p
level_leaf (words s) h = inl (s, h.0, refl)
level_leaf (bytes s) h = inr (inl (s, h.0, refl))
level_leaf (int z) h = inr (inr (z, h.0, refl))
level_leaf _ h = absurd (omega (arith, h.1))

-- ---- lists and maps

abbrev IsListOf : ℕ → Plain → Type 0
IsListOf n p = Of list_of (Chain (LevelFits n) (λ prev. LevelFits n)) p

abbrev IsMapOf : ℕ → Plain → Type 0
IsMapOf n p = Of map_of (Chain (EntryFits (LevelFits n)) (EntryAfter (LevelFits n))) p

-- what one level has is a list, a map or a leaf
level_kinds : (n : ℕ) (p : Plain) → LevelFits (suc n) p → IsListOf n p ⊎ (IsMapOf n p ⊎ IsLeaf p)
level_kinds n (items ps) h = let r = items_from n ps h.0 (omega (arith, h.1)) in inl (r.0, r.1, ap items r.2)
level_kinds n (entries es) h = let r = entries_from n es h.0 (omega (arith, h.1)) in inr (inl (r.0, r.1, ap entries r.2))
level_kinds n (words s) h = inr (inr (inl (s, h.0, refl)))
level_kinds n (bytes s) h = inr (inr (inr (inl (s, h.0, refl))))
level_kinds n (int z) h = inr (inr (inr (inr (z, h.0, refl))))

kinds_level : (n : ℕ) (p : Plain) → (IsListOf n p ⊎ (IsMapOf n p ⊎ IsLeaf p)) → LevelFits (suc n) p
kinds_level n p (inl h) = let r = items_to n h.0 h.1 in subst (LevelFits (suc n)) h.2 (r.0, omega (arith, r.1))
kinds_level n p (inr (inl h)) = let r = entries_to n h.0 h.1 in subst (LevelFits (suc n)) h.2 (r.0, omega (arith, r.1))
kinds_level n p (inr (inr h)) = leaf_level (suc n) p h

-- ---- items with commas between them

abbrev LowInList : List ℕ → List ℕ → Type 0
LowInList front rest = LowWithin (91 ∷ front) rest

items_lead : (n : ℕ) → Leads LowInList (λ prev. LowWithin) leads_value 44 value_text (LevelFits n) (λ prev. LevelFits n)
items_lead n = record {
  first = λ prev c cs ds. refl;
  some = λ prev cs fits h. (prev, fits);
  near = λ p ps q front rest fits follow after low. subst (λ (u : List ℕ). LowInList u rest) (sym (items_led value_text p ps front))
      (low_open (in_list (p ∷ ps)) front rest (items_to n (p ∷ ps) (fits, follow)).0 low);
}

pub items_parts : (F : Plain → Type 0) (inner : List ℕ → Read ℕ Plain) → Format LowWithin value_text F value_goes inner
    → Parts (λ prev. LowWithin) leads_value 44 value_text F (λ prev. F) value_goes (λ prev. inner)
items_parts F inner f = record {
  item = λ prev cs fits h. f;
  shrinks = λ prev. format_shrinks LowWithin value_text F value_goes inner f;
  fits = λ prev p fits after. after;
  only = λ prev c cs h. eqb-true c 44 h;
  led = λ prev p more fits after. refl;
  at_sep = λ p fits. value_apart p 44 refl;
}

module _ (n : ℕ) (inner : List ℕ → Read ℕ Plain) (f : Format LowWithin value_text (LevelFits n) value_goes inner)
    (refuses : Refuses (λ c. eqb c 93) true inner) where
  list_format : Format LowWithin value_text (IsListOf n) value_goes (behind_at (91 ∷ []) (list_at inner))
  list_format =
      led (91 ∷ []) list_of (λ front rest low. low) [] tt
      (ended_format value_text (LevelFits n) (λ prev. LevelFits n) 93
      (record { none = rw (refuses.none) refl; first = λ c cs h. rw (refuses.first c cs h) refl })
      (λ ps fits. last_ends_at leads_value value_goes 93 (λ p. value_apart p 93 refl) ps.0 ps.1)
      (items_format (items_parts (LevelFits n) inner f) (items_lead n) (λ p fits. fits) inner
      (low_as (λ front rest low. low_open (in_list []) front rest tt low) f)))
      (λ ps h. ap (λ (u : List ℕ). 91 ∷ (u ++ 93 ∷ [])) (items_text-joined ps)) (λ ps c h. refl)

  map_format : Format LowWithin value_text (IsMapOf n) value_goes (behind_at (40 ∷ []) (map_at inner))
  map_format =
      led (40 ∷ []) map_of (λ front rest low. low) [] tt
      (ended_format entry_text (EntryFits (LevelFits n)) (EntryAfter (LevelFits n)) 41 (byte_refuses 41 refl (λ cs. refl))
      (λ es fits. last_ends_at leads_entry entry_goes 41 (λ e. value_apart e.1 41 refl) es.0 es.1) (entries_format n inner f))
      (λ es h. ap (λ (u : List ℕ). 40 ∷ (u ++ 41 ∷ [])) (entries_text-joined es)) (λ es c h. refl)

  node_format : Format LowWithin value_text (LevelFits (suc n)) value_goes (node_at inner)
  node_format =
      fitting (kinds_level n) (level_kinds n) (either_by (λ c. eqb c 91) list_format
      (either_by (λ c. eqb c 40) map_format leaf_format (record { none = refl; first = λ c cs h. rw h refl })
      (byte_refuses 40 refl (λ cs. refl))) (record { none = refl; first = λ c cs h. rw h refl }) (byte_refuses 91 refl (λ cs. refl)))

-- a value begins with no closing bracket
within_refuses : (n : ℕ) → Refuses (λ c. eqb c 93) true (value_within n)
unfolding value_within
within_refuses zero = byte_refuses 93 refl (λ cs. refl)
within_refuses (suc n) = byte_refuses 93 refl (λ cs. refl)

level_format : (n : ℕ) → Format LowWithin value_text (LevelFits n) value_goes (value_within n)
unfolding value_within
level_format zero = fitting (leaf_level 0) level_leaf leaf_format
level_format (suc n) = node_format n (value_within n) (level_format n) (within_refuses n)

-- ---- as many levels as a text has bytes are enough

ended_agree : {X : Type 0} {n : ℕ} {some other : List ℕ → Read ℕ (X × List X)} (last : ℕ) → Agree n some other
    → Agree n (ended_at last some) (ended_at last other)
ended_agree last a =
    either_agree (itself_agrees (as_at none_listed (text_at (last ∷ [])))) (λ c. eqb c last) (closed_agree (as_agree a listed) (last ∷ []))

module _ {F : Plain → Type 0} {r s : List ℕ → Read ℕ Plain} (n : ℕ) (zero : F (int (pos 0))) (f : Format LowWithin value_text F value_goes r)
    (a : Agree n r s) where
  given_agree : Agree n (given_at r) (given_at s)
  given_agree = behind_agree a (61 ∷ []) (omega arith)

  list_agree : Agree n (list_at r) (list_at s)
  list_agree =
      let shrinks : Shrinks r = format_shrinks LowWithin value_text F value_goes r f in
      as_agree (ended_agree 93 (items_agree a leads_value (λ prev. r) (λ prev. s) shrinks (λ prev. shrinks) (λ prev. a))) list_of

  map_agree : Agree n (map_at r) (map_at s)
  map_agree =
      as_agree (ended_agree 41 (items_agree (then_agree given_agree name_at (format_shrinks nowhere own IsName name_goes name_at (name_format nowhere)))
      leads_entry (λ prev. next_entry_at r prev.0) (λ prev. next_entry_at s prev.0)
      (format_shrinks LowInMap entry_text (EntryFits F) entry_goes (entry_at r) (entry_format F zero r f)) (entries_parts F zero r f).shrinks (λ prev.
      then_agree given_agree (higher_at prev.0)
      (format_shrinks (NearName prev.0) own (AfterName prev.0) name_goes (higher_at prev.0) (higher_format prev.0))))) map_of

  node_agree : Agree (suc n) (node_at r) (node_at s)
  node_agree =
      either_agree (behind_agree list_agree (91 ∷ []) (omega arith)) (λ c. eqb c 91)
      (either_agree (behind_agree map_agree (40 ∷ []) (omega arith)) (λ c. eqb c 40) (itself_agrees leaf_at))

pub value_empty : value_at [] ≡ Err (Bad [])
value_empty = (within_refuses 0).none

levels_same : (n m : ℕ) (text : List ℕ) → length text ≤ n → length text ≤ m → value_within n text ≡ value_within m text
unfolding value_within
levels_same n m [] l k = (within_refuses n).none ∙ sym (within_refuses m).none
levels_same zero m (c ∷ cs) l k = absurd (omega (arith, l))
levels_same (suc n) zero (c ∷ cs) l k = absurd (omega (arith, k))
levels_same (suc n) (suc m) (c ∷ cs) l k =
    (node_agree (length cs) (omega arith, omega arith) (level_format n) (record {
      same = λ text le. levels_same n m text (omega (arith, l, le)) (omega (arith, k, le));
    })).same (c ∷ cs) (omega arith)

-- a value is a list, a map or a leaf, and so are those in it
pub value_node : (text : List ℕ) → value_at text ≡ node_at value_at text
unfolding value_within
value_node [] = refl
value_node (c ∷ cs) =
    (node_agree (length cs) (omega arith, omega arith) (level_format (length cs)) (record {
      same = λ text le. levels_same (length cs) (length text) text le (omega arith);
    })).same (c ∷ cs) (omega arith)

-- ---- values

spelled_on : {n : ℕ} (front : List ℕ) → CanGoOn value_text (LevelFits n) front → CanGoOn value_text IsSpelled front
spelled_on front on = record { some = on.some; fits = on.fits.0; more = on.more; is = on.is }

value_again : (p : Plain) (rest : List ℕ) → IsSpelled p → Ends value_goes p rest → value_at (value_text p ++ rest) ≡ Ok (p, rest)
value_again p rest fits ends =
    let size : ℕ = length (value_text p ++ rest) in
    levels_same size (nest p + size) (value_text p ++ rest) (omega arith) (omega arith)
    ∙ (level_format (nest p + size)).again p rest (fits, omega arith) ends

value_cause : (text : List ℕ) (stop : Stop ℕ) → value_at text ≡ Err stop
    → (s : Stuck LowWithin value_text (LevelFits (length text)) (value_within (length text)) text stop) → Cause LowWithin value_at s.front stop
value_cause text (Low rest) e s = s.cause
value_cause text (Bad rest) e s = λ t tail is other.
    let longer : List ℕ = s.front ++ t ∷ other in
    let n : ℕ = length text + length longer in
    let k = (level_format n).stuck text (Bad rest) (levels_same n (length text) text (omega arith) (omega arith) ∙ e) in
    let same : s.front ≡ k.front = append_cancel_right s.front k.front rest (sym s.parts ∙ k.parts) in
    levels_same (length longer) n longer (omega arith) (omega arith)
    ∙ ap (λ (u : List ℕ). value_within n (u ++ t ∷ other)) same ∙ k.cause t tail is other

pub value_format : Format LowWithin value_text IsSpelled value_goes value_at
value_format = record {
  found = λ text p rest e.
      let f = (level_format (length text)).found text p rest e in
      record { parts = f.parts; fits = f.fits.0; ends = f.ends };
  again = value_again;
  stuck = λ text stop e.
      let s = (level_format (length text)).stuck text stop e in
      record {
        front = s.front;
        parts = s.parts;
        viable = viable_map value_text (LevelFits (length text)) value_text IsSpelled s.front (spelled_on s.front) s.viable;
        cause = value_cause text stop e s;
      };
  on = λ p c fits g. spelled_on (value_text p ++ c ∷ []) ((level_format (nest p)).on p c (fits, omega arith) g);
}

pub zero_fits : IsSpelled (int (pos 0))
zero_fits = omega arith

pub value_shrinks : Shrinks value_at
value_shrinks = format_shrinks LowWithin value_text IsSpelled value_goes value_at value_format

pub entry_parts : Parts NearEntry leads_entry 44 entry_text (EntryFits IsSpelled) (EntryAfter IsSpelled) entry_goes (λ prev. next_entry_at value_at prev.0)
entry_parts = entries_parts IsSpelled zero_fits value_at value_format

-- the name of an entry that is read is above the one before it
pub is_higher : (prev : List ℕ × Plain) (text : List ℕ) (e : List ℕ × Plain) (rest : List ℕ) → next_entry_at value_at prev.0 text ≡ Ok (e, rest)
    → name_cmp prev.0 e.0 ≡ Less
is_higher prev text e rest is =
    is_less (name_cmp prev.0 e.0) ((next_format IsSpelled zero_fits value_at value_format prev).found text e rest is).fits.0.1
