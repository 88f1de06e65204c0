-- The reader of values, step by step.
use Rattle.df_value_text.proofs.Names.{value_at, ◌≡◌, ℕ, List, [], ◌∷◌, ◌++◌, Some, refl, sym, ap, ◌∙◌, nat_list_cmp_total, Less, name_cmp, Plain, items, item, from_list, ◌+◌, ◌≤◌, Bool, true, false, ◌&&◌, length, drop, Ok, Err, arith, and_parts, Stop, Bad, Read, as_at, text_at, closed_at, items_at, begins_with, listed, either_at, behind_at, ended_at, entry_at, next_entry_at, leads_value, list_at, list_of, greatest, is_lt, leads_entry, map_at, map_of, leaf_at, ◌==◌}
use Rattle.df_frozen.specs.Entries.{IsAscending, IsBelow}
use Rattle.df_frozen.specs.Place.{push_item, push_at}
use Rattle.df_value_text.proofs.ValueLaws.{value_empty, value_node}
use Rattle.df_value_text.proofs.Loops.{LedTo, drop_first, behind_it, either_behind}

-- ---- one more value in a list, and one more name of a map

push_last : (ps : List Plain) (p : Plain) → push_item p (from_list ps) ≡ from_list (ps ++ p ∷ [])
push_last [] p = refl
push_last (q ∷ ps) p = ap (item q) (push_last ps p)

-- the list with the value behind the others
pub pushed : (ps : List Plain) (p old new : Plain) → old ≡ items (from_list ps) → push_at [] p old ≡ Some new → new ≡ items (from_list (ps ++ p ∷ []))
pushed ps p old new is e =
    let here : Some (items (push_item p (from_list ps))) ≡ Some new = ap (push_at [] p) (sym is) ∙ e in
    let same : items (push_item p (from_list ps)) ≡ new = cc in
    sym same ∙ ap items (push_last ps p)

-- each of the names is below this one
abbrev AreBelow : List (List ℕ) → List ℕ → Type 0
AreBelow [] name = Unit {0}
AreBelow (n ∷ ns) name = (name_cmp n name ≡ Less) × AreBelow ns name

-- the names ascend, and each is below what is above this one
abbrev pub AreUpTo : List (List ℕ) → List ℕ → Type 0
AreUpTo ns last = IsAscending ns × ((name : List ℕ) → name_cmp last name ≡ Less → AreBelow ns name)

pub up_to_one : (name : List ℕ) → AreUpTo (name ∷ []) name
up_to_one name = ((tt, tt), λ other less. (less, tt))

pub up_to_more : (ns : List (List ℕ)) (last name : List ℕ) → AreUpTo ns last → name_cmp last name ≡ Less → AreUpTo (ns ++ name ∷ []) name
up_to_more ns last name up less =
    (ascend ns up.0 (up.1 name less), λ other above. behind ns other (up.1 other (nat_list_cmp_total.trans last name other less above)) above)
  where
    before : (n : List ℕ) (ns : List (List ℕ)) → IsBelow n ns → name_cmp n name ≡ Less → IsBelow n (ns ++ name ∷ [])
    before n [] b l = (l, tt)
    before n (m ∷ ns) b l = (b.0, before n ns b.1 l)

    ascend : (ns : List (List ℕ)) → IsAscending ns → AreBelow ns name → IsAscending (ns ++ name ∷ [])
    ascend [] s h = (tt, tt)
    ascend (n ∷ ns) s h = (before n ns s.0 h.0, ascend ns s.1 h.1)

    behind : (ns : List (List ℕ)) (other : List ℕ) → AreBelow ns other → name_cmp name other ≡ Less → AreBelow (ns ++ name ∷ []) other
    behind [] other h above = (above, tt)
    behind (n ∷ ns) other h above = (h.0, behind ns other h.1 above)

-- ---- the kinds of values

-- where another byte stands than tells the kind, the other is read
either_other : {X : Type 0} (byte : ℕ) (read other : List ℕ → Read ℕ X) (text : List ℕ) → other [] ≡ Err (Bad [])
    → begins_with byte text ≡ false → either_at (λ c. c == byte) read other text ≡ other text
either_other byte read other [] none h = sym none
either_other byte read other (c ∷ cs) none h = rw h refl

abbrev map_or_leaf : List ℕ → Read ℕ Plain
map_or_leaf text = either_at (λ c. c == 40) (behind_at (40 ∷ []) (map_at value_at)) leaf_at text

pub opened_list : (text : List ℕ) (at : ℕ) → begins_with 91 (drop at text) ≡ true → value_at (drop at text) ≡ list_at value_at (drop (at + 1) text)
opened_list text at h = value_node (drop at text) ∙ either_behind 91 (list_at value_at) map_or_leaf text at h

no_list : (text : List ℕ) → begins_with 91 text ≡ false → value_at text ≡ map_or_leaf text
no_list text h = value_node text ∙ either_other 91 (behind_at (91 ∷ []) (list_at value_at)) map_or_leaf text refl h

pub opened_map : (text : List ℕ) (at : ℕ) → begins_with 91 (drop at text) ≡ false → begins_with 40 (drop at text) ≡ true
    → value_at (drop at text) ≡ map_at value_at (drop (at + 1) text)
opened_map text at other h = no_list (drop at text) other ∙ either_behind 40 (map_at value_at) leaf_at text at h

pub leaf_same : (text : List ℕ) → begins_with 91 text ≡ false → begins_with 40 text ≡ false → value_at text ≡ leaf_at text
leaf_same text h k = no_list text h ∙ either_other 40 (behind_at (40 ∷ []) (map_at value_at)) leaf_at text refl k

-- ---- items in front of a closing byte

-- what is read so, and what is made of it
pub record Kind (X : Type 0) : Type 0 where
  pub make : List X → Plain
  pub last : ℕ
  pub leads : X → ℕ → List ℕ → Bool
  pub first : List ℕ → Read ℕ X
  pub next : X → List ℕ → Read ℕ X
  pub empty : first [] ≡ Err (Bad [])

abbrev pub a_list : Kind Plain
a_list = record { make = list_of; last = 93; leads = leads_value; first = value_at; next = λ prev. value_at; empty = value_empty }

abbrev pub a_map : Kind (List ℕ × Plain)
a_map = record {
  make = map_of;
  last = 41;
  leads = leads_entry;
  first = entry_at value_at;
  next = λ prev. next_entry_at value_at prev.0;
  empty = refl;
}

-- the items, and what stands behind them
abbrev pub all_in : {X : Type 0} → Kind X → List ℕ → Read ℕ (List X)
all_in k text = as_at listed (items_at k.leads k.first k.next) text

module _ {X : Type 0} (k : Kind X) where
  abbrev inside : List ℕ → Read ℕ Plain
  inside text = as_at k.make (ended_at k.last (items_at k.leads k.first k.next)) text

  some_is : (text : List ℕ) → begins_with k.last text ≡ false → ended_at k.last (items_at k.leads k.first k.next) text ≡ closed_at (k.last ∷ []) (all_in k) text
  some_is [] h = rw (k.empty) refl
  some_is (c ∷ cs) h = rw h refl

  pub none_made : (text : List ℕ) (at : ℕ) → begins_with k.last (drop at text) ≡ true → inside (drop at text) ≡ Ok (k.make [], drop (at + 1) text)
  none_made text at h = let b = behind_it text at k.last h in ap inside b.1 ∙ rw (b.2) refl

  pub inside_stops : (text : List ℕ) → begins_with k.last text ≡ false → (stop : Stop ℕ) → all_in k text ≡ Err stop → inside text ≡ Err stop
  inside_stops text h stop e = rw (some_is text h, e) refl

  pub first_stops : (text : List ℕ) → begins_with k.last text ≡ false → (stop : Stop ℕ) → k.first text ≡ Err stop → inside text ≡ Err stop
  first_stops text h stop e = inside_stops text h stop (rw e refl)

  pub closing_stops : (text rest : List ℕ) (all : List X) → begins_with k.last text ≡ false → all_in k text ≡ Ok (all, rest)
      → (stop : Stop ℕ) → text_at (k.last ∷ []) rest ≡ Err stop → inside text ≡ Err stop
  closing_stops text rest all h e stop closing = rw (some_is text h, e, closing) refl

  pub inside_reads : (text rest behind : List ℕ) (all : List X) (w : List ℕ) → begins_with k.last text ≡ false → all_in k text ≡ Ok (all, rest)
      → text_at (k.last ∷ []) rest ≡ Ok (w, behind) → inside text ≡ Ok (k.make all, behind)
  inside_reads text rest behind all w h e closing = rw (some_is text h, e, closing) refl

-- ---- commas

pub entry_led : (name : List ℕ) (p : Plain) (text : List ℕ) (place : ℕ) → (begins_with 44 (drop place text) && is_lt (name_cmp name greatest)) ≡ true
    → LedTo leads_entry (name, p) text place
entry_led name p text place h =
    let a = and_parts (begins_with 44 (drop place text)) (is_lt (name_cmp name greatest)) h in
    let b = behind_it text place 44 (a.0) in
    record { first = b.0; is = b.1; leads_on = rw (b.2, a.1) refl }

pub entry_last : (name : List ℕ) (p : Plain) (text : List ℕ) → (begins_with 44 text && is_lt (name_cmp name greatest)) ≡ false
    → (c : ℕ) (cs : List ℕ) → text ≡ c ∷ cs → leads_entry (name, p) c cs ≡ false
entry_last name p text h c cs is = ap (λ (u : List ℕ). begins_with 44 u && is_lt (name_cmp name greatest)) (sym is) ∙ h

-- a byte that stands at a place takes some place
pub begins_within : (text : List ℕ) (place byte : ℕ) → begins_with byte (drop place text) ≡ true → place + 1 ≤ length text
begins_within text place byte h =
    let b = behind_it text place byte h in
    omega (arith, (drop_first text place b.0 (drop (place + 1) text) b.1).0)
