-- The instances that the tables call are those to which the journal hands the event.
use Rattle.df_tables.proofs.Names.{◌≡◌, ℕ, ◌+◌, ◌<◌, ◌&&◌, ◌||◌, Bool, true, false, not, if◌then◌else◌, List, [], ◌∷◌, ◌++◌, Option, Some, None, length, option_map, refl, ap, sym, subst, ◌∙◌, list_any, IsStrictlySortedBy, option_or, Pair, AreChosen, instance_cmp, has_place, AreNumbered, has_name, Instance, ManagedSubscription, Label, Privilege, apply, cut, Part, contents, deliveries_instance, instance_news, was_handed, fixed, is_given, own, rows, roots, readable_at, same, Fixed, is_nil, Commit, Given, Entry, UnitName, Managed, Root, Agrees, FilterIndex, is_told, all_new, instance_row, managed_by, births_by, pairs_by, places_by, places_from, event_place, given_to, pairs_of, names_of, place_of, EventRow, Unit, or-false, or-true}
use Rattle.df_instances.specs.Marks as marks
use Rattle.df_instances.proofs.Named.{chosen_by_name}
use Rattle.df_tables.specs.Table.{find as row_of}
use Rattle.df_tables.proofs.Both.{called_pairs}
use Rattle.df_tables.proofs.Called.{called_news, row_if}
use Rattle.df_tables.proofs.Fresh.{all_come, unplaced_like}
use Rattle.df_tables.proofs.Marked.{places_before, places_behind, places_both}
use Rattle.df_tables.proofs.Newborn.{place_by-append}
use Rattle.df_tables.proofs.Opened.{within}
use Rattle.df_tables.proofs.Seats.{absent, present}
use Rattle.df_tables.proofs.Steps.{news_of}
use Rattle.df_tables.proofs.Booked.{found}
use Rattle.df_tables.proofs.Calls.{births_distinct, births_unplaced, born_row, fresh_pair, named, pairs_are, row_by}

module _ (starts : List (Label × List Privilege)) (past : List Entry) (us : List Unit) (evs : List EventRow) (index : FilterIndex) (managed : List ManagedSubscription) (handed : List (List ℕ)) (agree : Agrees rows (roots starts) past us evs index (managed_by managed handed)) (numbered : AreNumbered managed)
    (k : Commit) (j : ℕ) (there : event_place k.event evs ≡ Some j) (xs : List Instance) (up : IsStrictlySortedBy instance_cmp xs) (are : AreChosen managed (contents past k.event) k.edit xs) where
  -- the pair of each instance that is handed the event stands at its place
  pub called_are : (n : UnitName) (q : ℕ) → place_of n us ≡ Some q → pairs_of q (pairs_by us managed handed j xs) ≡ called_pairs (roots starts) past k n q
  called_are n q place = pairs_are managed numbered us handed j xs up n q place ∙ by n place
    where
      joined : (g h : Bool) (l : List Pair) → (if g then (if h then [] else l) else []) ≡ (if (g && not h) then l else [])
      joined true true l = refl
      joined true false l = refl
      joined false h l = refl

      by : (n : UnitName) → place_of n us ≡ Some q → (if has_name managed xs n then fresh_pair managed numbered us handed j n q else []) ≡ called_pairs (roots starts) past k n q
      by (Root path) place =
          elim (has_name managed xs (Root path)) as (λ b. (if b then [] else []) ≡ (let l : List Pair = [] in l)) [ true ↦ refl | false ↦ refl ]
      by (Managed o i t) place =
          let given : has_name managed xs (Managed o i t) ≡ is_given (fixed rows (roots starts) past o i) t past (Some k) =
          chosen_by_name managed numbered past k xs are o i t ∙ ap (λ (fx : Option Fixed). is_given fx t past (Some k)) (agree.kept o i) in
          let told : marks.was_handed handed j q ≡ was_handed (deliveries_instance rows (roots starts) past o i t) k.event i =
          sym (ap (is_told (managed_by managed handed).told (event_place k.event evs)) place ∙ ap (λ (e : Option ℕ). is_told (managed_by managed handed).told e (Some q)) there) ∙ agree.told o i t k.event in
          ap (λ (b : Bool). if b then (if marks.was_handed handed j q then [] else (let p : Pair = (q, i) in p) ∷ []) else []) given
          ∙ ap (λ (b : Bool). if is_given (fixed rows (roots starts) past o i) t past (Some k) then (if b then [] else (let p : Pair = (q, i) in p) ∷ []) else []) told
          ∙ joined (is_given (fixed rows (roots starts) past o i) t past (Some k)) (was_handed (deliveries_instance rows (roots starts) past o i t) k.event i) ((q, i) ∷ [])

  module _ (after : List Part) (is : after ≡ apply k.edit (contents past k.event)) where
    -- no plain unit is born
    pub born_plain : (path : List ℕ) → place_of (Root path) us ≡ None → row_of (Root path) (births_by us managed k.event after xs) ≡ None
    born_plain path none = born_row managed numbered us k.event after xs (Root path) none
        ∙ (elim (list_any (named managed numbered (Root path)) xs) as (λ b. (if b then None else None) ≡ (let o : Option Unit = None in o))
        [ true ↦ refl | false ↦ refl ])

    -- an instance that has no row is born where the commit calls it
    pub born_called : (o : List ℕ) (i : ℕ) (t : List (List ℕ)) → place_of (Managed o i t) us ≡ None → row_of (Managed o i t) (births_by us managed k.event after xs) ≡ row_if starts past k after is o i t (fixed rows (roots starts) past o i)
    born_called o i t none =
        let n : UnitName = Managed o i t in
        let given : has_name managed xs n ≡ is_given (fixed rows (roots starts) past o i) t past (Some k) =
        chosen_by_name managed numbered past k xs are o i t ∙ ap (λ (fx : Option Fixed). is_given fx t past (Some k)) (agree.kept o i) in
        born_row managed numbered us k.event after xs n none
        ∙ ap (λ (fx : Option Fixed). if has_name managed xs n then row_by managed numbered us k.event after n fx else None) (agree.kept o i)
        ∙ ap (λ (b : Bool). if b then row_by managed numbered us k.event after n (fixed rows (roots starts) past o i) else None) given
        ∙ by (fixed rows (roots starts) past o i)
      where
        by : (fx : Option Fixed) → (if is_given fx t past (Some k) then row_by managed numbered us k.event after (Managed o i t) fx else None) ≡ row_if starts past k after is o i t fx
        by None = refl
        by (Some f) = refl

    -- all of them come behind the rows
    pub births_come : (vs : List Unit) → names_of vs ≡ names_of us → all_new (births_by us managed k.event after xs) vs ≡ vs ++ births_by us managed k.event after xs
    births_come vs same = all_come (births_by us managed k.event after xs) vs (births_distinct managed numbered us k.event after xs up) (unplaced_like us vs (births_by us managed k.event after xs) same (births_unplaced managed numbered us k.event after xs))

    -- the places that are marked are those of the instances to which the event is handed
    pub called_places : (births : (o : List ℕ) (i : ℕ) (t : List (List ℕ)) → own rows (roots starts) past (Managed o i t) ≡ None → deliveries_instance rows (roots starts) past o i t ≡ []) → (o : List ℕ) (i : ℕ) (t : List (List ℕ)) (q : ℕ) →
        place_of (Managed o i t) (us ++ births_by us managed k.event after xs) ≡ Some q → has_place (places_by (length us) (pairs_by us managed handed j xs) (births_by us managed k.event after xs)) q ≡ not (is_nil (news_of rows (roots starts) past (Managed o i t) (Some k)))
    unfolding news_of
    called_places births o i t q place =
        places_both (length us) q (pairs_by us managed handed j xs) bs
        ∙ by (place_of n us) refl (place_of n bs) refl (sym (place_by-append (λ (u : Unit). same u.local.unit n) us bs) ∙ place)
      where
        n : UnitName
        n = Managed o i t

        bs : List Unit
        bs = births_by us managed k.event after xs

        ds : List Given
        ds = deliveries_instance rows (roots starts) past o i t

        fx : Option Fixed
        fx = fixed rows (roots starts) past o i

        G : Bool
        G = is_given fx t past (Some k) && not (was_handed ds k.event i)

        -- where one is there, it is handed the event exactly where its place has a pair
        one : (p : ℕ) (b : Bool) (d : Given) → not (is_nil (if b then (let r : Pair = (p, i) in r) ∷ [] else [])) ≡ not (is_nil (if b then d ∷ [] else []))
        one p true d = refl
        one p false d = refl

        here : (p : ℕ) → place_of n us ≡ Some p → (not (is_nil (pairs_of p (pairs_by us managed handed j xs))) || has_place (places_from (length us) bs) p) ≡ not (is_nil (news_of rows (roots starts) past n (Some k)))
        here p e =
            let there = present rows (roots starts) past us n agree.seats p e in
            let near : p < length us = within (λ (u : Unit). same u.local.unit n) us p e in
            ap (λ (b : Bool). not (is_nil (pairs_of p (pairs_by us managed handed j xs))) || b) (places_before p (length us) bs near)
            ∙ or-false (not (is_nil (pairs_of p (pairs_by us managed handed j xs))))
            ∙ ap (λ (l : List Pair). not (is_nil l)) (called_are n p e)
            ∙ one p G (given_to k.event after there.0.input (p, i))
            ∙ sym (ap (λ (l : List Given). not (is_nil l)) (called_news starts past k after is o i t agree.legal there.0 p there.1))

        -- one that is born is handed it
        first : (f : Option Fixed) (u : Unit) → ds ≡ [] → row_if starts past k after is o i t f ≡ Some u → not (is_nil (instance_news f i t ds past (Some k))) ≡ true
        first None u none e = absurd (let z : ⊥ = cc in z)
        first (Some f) u none e = cases (is_given (Some f) t past (Some k)) e
          where
            d : Given
            d = record { event = k.event; sub = i; parts = cut (readable_at f t) (apply k.edit (contents past k.event)) }

            cases : (b : Bool) → (if b then Some (instance_row o i f t (given_to k.event after (readable_at f t) (0, i))) else None) ≡ Some u → not (is_nil (if b && not (was_handed ds k.event i) then d ∷ [] else [])) ≡ true
            cases true e = ap (λ (l : List Given). not (is_nil (if not (was_handed l k.event i) then d ∷ [] else []))) none
            cases false e = absurd (let z : ⊥ = cc in z)

        by : (p : Option ℕ) → place_of n us ≡ p → (b : Option ℕ) → place_of n bs ≡ b → option_or p (option_map (λ r. length us + r) b) ≡ Some q →
            (not (is_nil (pairs_of q (pairs_by us managed handed j xs))) || has_place (places_from (length us) bs) q) ≡ not (is_nil (news_of rows (roots starts) past n (Some k)))
        by (Some p) e b g h =
            let z : p ≡ q = cc in
            subst (λ (r : ℕ). (not (is_nil (pairs_of r (pairs_by us managed handed j xs))) || has_place (places_from (length us) bs) r) ≡ not (is_nil (news_of rows (roots starts) past n (Some k)))) z (here p e)
        by None e (Some b) g h =
            let z : length us + b ≡ q = cc in
            let gone = absent rows (roots starts) past us n agree.seats e in
            let row = found n bs b g in
            let born = sym (born_called o i t e) ∙ row.1 in
            ap (λ (c : Bool). not (is_nil (pairs_of q (pairs_by us managed handed j xs))) || c) (ap (has_place (places_from (length us) bs)) (sym z) ∙ places_behind (length us) b bs (within (λ (u : Unit). same u.local.unit n) bs b g))
            ∙ or-true (not (is_nil (pairs_of q (pairs_by us managed handed j xs))))
            ∙ sym (first fx row.0 (births o i t gone) born)
        by None e None g h = absurd (let z : ⊥ = cc in z)
