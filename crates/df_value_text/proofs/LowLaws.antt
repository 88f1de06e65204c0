-- Where the path of what is open leads to a low name, reading stops there.
use Rattle.df_value_text.proofs.Names.{value_at, IsSpelled, ◌≡◌, ℕ, Bool, true, List, [], ◌∷◌, ◌++◌, Ok, Err, refl, ap, ◌∙◌, Stop, Read, more_of, items_at, Format, Follow, Parts, more_step, same_split, eqb, length, sym, subst, append_assoc, length-append, arith, inl, inr, flat_map, eqb-true, Bad, Low, err_is, told, longest_read, Plain, from_list, from_pairs, NameStandsLow, in_list, in_map, LowInValue, ended_at, leads_value, leads_entry, entry_at, next_entry_at, nowhere, Open, values_led, entries_led, open_text, LowWithin, MayFollow, IsOpen, AreOpen, given_at, own}
use Rattle.df_value_text.proofs.EntryLaws.{Chain, led, led_one, LowInMap, entry_format, EntryFits, EntryAfter, items_nest, entries_nest, list_chain, entries_chain}
use Rattle.df_format.proofs.Items.{item_after}
use Rattle.df_format.specs.Reading.{then_at}
use Rattle.df_value_text.proofs.NameLaws.{name_goes, name_apart, AfterName, name_whole, higher_format, below_greatest, name_format}
use Rattle.df_value_text.proofs.ValueLaws.{items_parts, entry_parts, value_format, value_node, value_empty, zero_fits}

-- ---- items, of which the next stops

pub last_same : {X : Type 0} (xs ys : List X) (x y : X) → xs ++ x ∷ [] ≡ ys ++ y ∷ [] → x ≡ y
last_same xs ys x y e = let ends : x ∷ [] ≡ y ∷ [] = (same_split xs ys (x ∷ []) (y ∷ []) e refl).1 in cc

module _ {X : Type 0} {Near : X → List ℕ → List ℕ → Type 0} {leads : X → ℕ → List ℕ → Bool} {spell : X → List ℕ} {Fits : X → Type 0}
    {After : X → X → Type 0} {goes : X → ℕ → Bool} {next : X → List ℕ → Read ℕ X} (p : Parts Near leads 44 spell Fits After goes next) where
  more_stopped : (prev : X) (xs : List X) (inner : List ℕ) (stop : Stop ℕ) → Fits prev → Follow After prev xs
      → ((before : List X) (last : X) → prev ∷ xs ≡ before ++ last ∷ [] → Fits last → (leads last 44 inner ≡ true) × (next last inner ≡ Err stop))
      → more_of leads next prev (44 ∷ (led spell xs ++ inner)) ≡ Err stop
  more_stopped prev [] inner stop fits each g =
      let s = g [] prev refl fits in more_step leads next p.shrinks prev 44 inner s.0 ∙ rw (s.1) refl
  more_stopped prev (x ∷ xs) inner stop fits each g =
      let others : List ℕ = 44 ∷ (led spell xs ++ inner) in
      let fits_x = p.fits prev x fits each.0 in
      let one : next prev (spell x ++ others) ≡ Ok (x, others) = (item_after p prev x fits each.0).again x others each.0 (p.at_sep x fits_x) in
      let more = more_stopped x xs inner stop fits_x each.1 (λ before last e. g (prev ∷ before) last (ap (λ (u : List X). prev ∷ u) e)) in
      ap (λ (u : List ℕ). more_of leads next prev (44 ∷ u)) (led_one spell x xs inner)
      ∙ more_step leads next p.shrinks prev 44 (spell x ++ others) (p.led prev x others fits each.0) ∙ rw (one, more) refl

  -- what stands behind these stops as it does behind the last of them
  pub items_stopped : (IsLow : List ℕ → List ℕ → Type 0) (first : List ℕ → Read ℕ X) → Format IsLow spell Fits goes first → (xs : List X)
      (inner : List ℕ) (stop : Stop ℕ) → Chain Fits After xs → (xs ≡ [] → first inner ≡ Err stop)
      → ((before : List X) (last : X) → xs ≡ before ++ last ∷ [] → Fits last → (leads last 44 inner ≡ true) × (next last inner ≡ Err stop))
      → items_at leads first next (led spell xs ++ inner) ≡ Err stop
  items_stopped IsLow first fx [] inner stop chain none g = rw (none refl) refl
  items_stopped IsLow first fx (x ∷ xs) inner stop chain none g =
      let others : List ℕ = 44 ∷ (led spell xs ++ inner) in
      let one : first (spell x ++ others) ≡ Ok (x, others) = fx.again x others chain.0 (p.at_sep x chain.0) in
      let more = more_stopped x xs inner stop chain.0 chain.1 g in
      ap (items_at leads first next) (led_one spell x xs inner) ∙ rw (one, more) refl

  follow_front : (x : X) (xs ys : List X) → Follow After x (xs ++ ys) → Follow After x xs
  follow_front x [] ys each = tt
  follow_front x (z ∷ zs) ys each = (each.0, follow_front z zs ys each.1)

  pub chain_front : (xs ys : List X) → Chain Fits After (xs ++ ys) → Chain Fits After xs
  chain_front [] ys chain = tt
  chain_front (x ∷ xs) ys chain = (chain.0, follow_front x xs ys chain.1)

  pub after_last : (before : List X) (last y : X) → Chain Fits After ((before ++ last ∷ []) ++ y ∷ []) → After last y
  after_last [] last y chain = chain.1.0
  after_last (x ∷ []) last y chain = chain.1.1.0
  after_last (x ∷ z ∷ zs) last y chain = after_last (z ∷ zs) last y (p.fits x z chain.0 chain.1.0, chain.1.1)

abbrev values_at : List ℕ → Read ℕ (Plain × List Plain)
values_at text = items_at leads_value value_at (λ prev. value_at) text

abbrev entries_at : List ℕ → Read ℕ ((List ℕ × Plain) × List (List ℕ × Plain))
entries_at text = items_at leads_entry (entry_at value_at) (λ prev. next_entry_at value_at prev.0) text

ended_stops : {X : Type 0} (last : ℕ) (some : List ℕ → Read ℕ (X × List X)) (text rest : List ℕ) → some [] ≡ Err (Bad [])
    → ((cs : List ℕ) → some (last ∷ cs) ≡ Err (Bad (last ∷ cs))) → some text ≡ Err (Low rest) → ended_at last some text ≡ Err (Low rest)
ended_stops last some [] rest none bad e = absurd (let no : Bad [] ≡ Low rest = err_is (Bad []) (Low rest) (sym none ∙ e) in cc)
ended_stops last some (c ∷ cs) rest none bad e =
    elim (told (eqb c last)) [
      | inl h ↦
          let same : c ≡ last = eqb-true c last h in
          let one : some (c ∷ cs) ≡ Err (Bad (last ∷ cs)) = ap (λ (b : ℕ). some (b ∷ cs)) same ∙ bad cs in
          absurd (let no : Bad (last ∷ cs) ≡ Low rest = err_is (Bad (last ∷ cs)) (Low rest) (sym one ∙ e) in cc)
      | inr h ↦ rw (h, e) refl
    ]

list_stops : (ps : List Plain) (text rest : List ℕ) → IsOpen (in_list ps) → value_at text ≡ Err (Low rest)
    → value_at (open_text (in_list ps) ++ text) ≡ Err (Low rest)
list_stops ps text rest fits e =
    let chain = list_chain IsSpelled (items_nest (from_list ps)) (λ p h. h.0) ps fits (omega arith) in
    let inside : values_at (values_led ps ++ text) ≡ Err (Low rest) = items_stopped (items_parts IsSpelled value_at value_format) LowWithin value_at
    value_format ps text (Low rest) chain (λ none. e) (λ before last is h. (refl, e)) in
    let ended = ended_stops 93 values_at (values_led ps ++ text) rest (rw value_empty refl) (λ cs. rw (value_node (93 ∷ cs)) refl) inside in
    value_node (91 ∷ (values_led ps ++ text)) ∙ rw ended refl

map_stops : (es : List (List ℕ × Plain)) (text rest : List ℕ) → Chain (EntryFits IsSpelled) (EntryAfter IsSpelled) es
    → (es ≡ [] → entry_at value_at text ≡ Err (Low rest))
    → ((before : List (List ℕ × Plain)) (last : List ℕ × Plain) → es ≡ before ++ last ∷ [] → EntryFits IsSpelled last
    → (leads_entry last 44 text ≡ true) × (next_entry_at value_at last.0 text ≡ Err (Low rest)))
    → value_at (40 ∷ (entries_led es ++ text)) ≡ Err (Low rest)
map_stops es text rest chain none some =
    let inside : entries_at (entries_led es ++ text) ≡ Err (Low rest) = items_stopped entry_parts LowInMap (entry_at value_at)
    (entry_format IsSpelled zero_fits value_at value_format) es text (Low rest) chain none some in
    let ended = ended_stops 41 entries_at (entries_led es ++ text) rest refl (λ cs. refl) inside in
    value_node (40 ∷ (entries_led es ++ text)) ∙ rw ended refl

-- behind a comma an entry of a name above stops where its value does, and a low name at once
leads_on : (last : List ℕ × Plain) (name inner : List ℕ) → AfterName last.0 name → leads_entry last 44 inner ≡ true
leads_on last name inner after = below_greatest last.0 name after

entry_stops : {Near : List ℕ → List ℕ → Type 0} {Fits : List ℕ → Type 0} {first : List ℕ → Read ℕ (List ℕ)} → Format Near own Fits name_goes first
    → (name text : List ℕ) (stop : Stop ℕ) → Fits name → value_at text ≡ Err stop → then_at first (given_at value_at) (name ++ (61 ∷ text)) ≡ Err stop
entry_stops f name text stop fits e = rw (f.again name (61 ∷ text) fits (name_apart name 61 refl), e) refl

low_stops : (read : List ℕ → Read ℕ Plain) (prev rest : List ℕ) → NameStandsLow prev rest → next_entry_at read prev rest ≡ Err (Low rest)
low_stops read prev rest s = rw (longest_read name_whole rest s.name s.more s.longest, s.low) refl

module _ (es : List (List ℕ × Plain)) (name : List ℕ) (may : MayFollow es name) where
  chain : Chain (EntryFits IsSpelled) (EntryAfter IsSpelled) (es ++ (name, may.0) ∷ [])
  chain = entries_chain IsSpelled (entries_nest (from_pairs (es ++ (name, may.0) ∷ []))) (λ p h. h.0) (es ++ (name, may.0) ∷ []) may.1 (omega arith)

  front : Chain (EntryFits IsSpelled) (EntryAfter IsSpelled) es
  front = chain_front entry_parts es ((name, may.0) ∷ []) chain

  -- the name may stand behind the last of these entries
  after : (before : List (List ℕ × Plain)) (last : List ℕ × Plain) → es ≡ before ++ last ∷ [] → AfterName last.0 name
  after before last is = (after_last entry_parts before last (name, may.0)
      (subst (λ (u : List (List ℕ × Plain)). Chain (EntryFits IsSpelled) (EntryAfter IsSpelled) (u ++ (name, may.0) ∷ [])) is chain)).0

  given_stops : (text rest : List ℕ) → value_at text ≡ Err (Low rest) → value_at (open_text (in_map es name) ++ text) ≡ Err (Low rest)
  given_stops text rest e =
      ap (λ (u : List ℕ). value_at (40 ∷ u)) (append_assoc (entries_led es) (name ++ 61 ∷ []) text
      ∙ ap (λ (u : List ℕ). entries_led es ++ u) (append_assoc name (61 ∷ []) text)) ∙ map_stops es (name ++ (61 ∷ text)) rest front
      (λ none. entry_stops (name_format nowhere) name text (Low rest)
      (subst (λ (u : List (List ℕ × Plain)). Chain (EntryFits IsSpelled) (EntryAfter IsSpelled) (u ++ (name, may.0) ∷ [])) none chain).0.0 e)
      (λ before last is h. let a = after before last is in
      (leads_on last name (name ++ (61 ∷ text)) a, entry_stops (higher_format last.0) name text (Low rest) a e))

-- one list or map around
open_stops : (o : Open) → IsOpen o → (text rest : List ℕ) → value_at text ≡ Err (Low rest) → value_at (open_text o ++ text) ≡ Err (Low rest)
open_stops (in_list ps) fits text rest e = list_stops ps text rest fits e
open_stops (in_map es name) may text rest e = given_stops es name may text rest e

all_stop : (os : List Open) → AreOpen os → (text rest : List ℕ) → value_at text ≡ Err (Low rest)
    → value_at (flat_map open_text os ++ text) ≡ Err (Low rest)
all_stop [] are text rest e = e
all_stop (o ∷ os) are text rest e =
    ap value_at (append_assoc (open_text o) (flat_map open_text os) text)
    ∙ open_stops o are.0 (flat_map open_text os ++ text) rest (all_stop os are.1 text rest e)

innermost_stops : (es : List (List ℕ × Plain)) (last : List ℕ × Plain) (other rest : List ℕ) → MayFollow (es ++ last ∷ []) other → NameStandsLow last.0 rest
    → value_at ((40 ∷ entries_led (es ++ last ∷ [])) ++ rest) ≡ Err (Low rest)
innermost_stops es last other rest may low =
    let all : List (List ℕ × Plain) = es ++ last ∷ [] in
    map_stops all rest rest (front all other may) (λ none. absurd (omega (arith, ap length none, length-append es (last ∷ []))))
    (λ before l is h. let stands = subst (λ (d : List ℕ × Plain). NameStandsLow d.0 rest) (last_same es before last l is) low in
    (leads_on l other rest (after all other may before l is), low_stops value_at l.0 rest stands))

pub low_read : (text rest : List ℕ) → LowInValue text rest → value_at text ≡ Err (Low rest)
low_read text rest l =
    let w = l.2 in
    let inner : List ℕ = 40 ∷ entries_led (w.es ++ w.last ∷ []) in
    let parts : text ≡ flat_map open_text w.opened ++ (inner ++ rest) = l.1 ∙ ap (λ (u : List ℕ). u ++ rest) w.is
    ∙ append_assoc (flat_map open_text w.opened) inner rest in
    ap value_at parts ∙ all_stop w.opened w.are (inner ++ rest) rest (innermost_stops w.es w.last w.other rest w.may w.low)
