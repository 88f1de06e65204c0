-- The rows of events, and one more of them.
use Rattle.df_tables.proofs.Names.{◌≡◌, inl, inr, ℕ, zero, suc, ◌<◌, Bool, true, false, if◌then◌else◌, List, [], ◌∷◌, ◌++◌, length, set, get_or, Option, Some, None, option_map, refl, ap, sym, subst, ◌∙◌, arith, Part, same_event, EventName, same_event_decides, key_of, place_at, same_key, IsOpened, IsPlaced, blank, event_place, place_by, parts_of, Key, EventRow}
use Rattle.df_tables.specs.declared.event_places.EventPlaces.{EventPlaces}
use Rattle.df_tables.proofs.Keyed.{keys_tie}
use Rattle.df_tables.proofs.Places.{put_end}

-- what stands at the end is the first that passes, where none did
pub end_none : {A : Type 0} (p : A → Bool) (xs : List A) (x : A) → place_by p xs ≡ None → place_by p (xs ++ x ∷ []) ≡ (if p x then Some (length xs) else None)
end_none p [] x h = refl
end_none p (y ∷ ys) x h = by (p y) (place_by p ys) (p x) (end_none p ys x) h
  where
    more : (c : Bool) → option_map suc (if c then Some (length ys) else None) ≡ (if c then Some (length (y ∷ ys)) else None)
    more true = ap Some (omega arith)
    more false = refl

    by : (b : Bool) (o : Option ℕ) (c : Bool) → (o ≡ None → place_by p (ys ++ x ∷ []) ≡ (if c then Some (length ys) else None)) → (if b then Some 0 else option_map suc o) ≡ None → (if b then Some 0 else option_map suc (place_by p (ys ++ x ∷ []))) ≡ (if c then Some (length (y ∷ ys)) else None)
    by true o c ih h = absurd (cc)
    by false None c ih h = ap (option_map suc) (ih refl) ∙ more c
    by false (Some k) c ih h = absurd (cc)

-- and what passed first still does
pub end_some : {A : Type 0} (p : A → Bool) (xs ys : List A) (k : ℕ) → place_by p xs ≡ Some k → place_by p (xs ++ ys) ≡ Some k
end_some p [] ys k h = absurd (cc)
end_some p (x ∷ xs) ys k h = by (p x) (place_by p xs) (λ j g. end_some p xs ys j g) h
  where
    by : (b : Bool) (o : Option ℕ) → ((j : ℕ) → o ≡ Some j → place_by p (xs ++ ys) ≡ Some j) → (if b then Some 0 else option_map suc o) ≡ Some k → (if b then Some 0 else option_map suc (place_by p (xs ++ ys))) ≡ Some k
    by true o ih h = h
    by false None ih h = absurd (cc)
    by false (Some j) ih h = ap (option_map suc) (ih j refl) ∙ h

-- a place is one of the list
pub within : {A : Type 0} (p : A → Bool) (xs : List A) (k : ℕ) → place_by p xs ≡ Some k → k < length xs
within p [] k h = absurd (cc)
within p (x ∷ xs) k h = by (p x) (place_by p xs) (λ j g. within p xs j g) h
  where
    by : (b : Bool) (o : Option ℕ) → ((j : ℕ) → o ≡ Some j → j < length xs) → (if b then Some 0 else option_map suc o) ≡ Some k → k < length (x ∷ xs)
    by true o ih h = let z : 0 ≡ k = cc in omega arith
    by false None ih h = absurd (cc)
    by false (Some j) ih h = let z : suc j ≡ k = cc in let g = ih j refl in omega arith

pub place_within : (event : EventName) (rows : List EventRow) (k : ℕ) → event_place event rows ≡ Some k → k < length rows
place_within event rows k h = within (λ r. same_event r.event event) rows k h

-- the row of the event is the first
pub opened_place : (event : EventName) (rows : List EventRow) → event_place event rows ≡ None → event_place event (rows ++ blank event ∷ []) ≡ Some (length rows)
opened_place event rows none = end_none (λ r. same_event r.event event) rows (blank event) none ∙ ap (λ (b : Bool). if b then Some (length rows) else None) ((same_event_decides event event).1 refl)

-- where the event was found it is found as before
pub place_more : (event : EventName) (rows : List EventRow) (e : EventName) → event_place event rows ≡ None → event_place e (rows ++ blank event ∷ []) ≡ (if same_event event e then Some (length rows) else event_place e rows)
place_more event rows e none = by (same_event event e) refl (event_place e rows) refl
  where
    by : (b : Bool) → same_event event e ≡ b → (o : Option ℕ) → event_place e rows ≡ o → event_place e (rows ++ blank event ∷ []) ≡ (if b then Some (length rows) else o)
    by true same o h =
        let gone : event_place e rows ≡ None = subst (λ (x : EventName). event_place x rows ≡ None) ((same_event_decides event e).0 same) none in
        end_none (λ r. same_event r.event e) rows (blank event) gone ∙ ap (λ (b : Bool). if b then Some (length rows) else None) same
    by false same None h = end_none (λ r. same_event r.event e) rows (blank event) h ∙ ap (λ (b : Bool). if b then Some (length rows) else None) same
    by false same (Some k) h = end_some (λ r. same_event r.event e) rows (blank event ∷ []) k h

-- one more row, and its place by its key
pub placed_more : (rows : List EventRow) (old new : EventPlaces) (event : EventName) → event_place event rows ≡ None →
    ((q : Key) → place_at new q ≡ (if same_key (key_of event) q then Some (length rows) else place_at old q)) →
    IsPlaced rows old → IsPlaced (rows ++ blank event ∷ []) new
placed_more rows old new event none updates placed e =
    updates (key_of e)
    ∙ ap (λ (b : Bool). if b then Some (length rows) else place_at old (key_of e)) (sym (keys_tie event e))
    ∙ ap (λ (o : Option ℕ). if same_event event e then Some (length rows) else o) (placed e)
    ∙ sym (place_more event rows e none)

-- an event without a row has no parts
none_parts : (event : EventName) (rows : List EventRow) → event_place event rows ≡ None → parts_of event rows ≡ []
none_parts event [] h = refl
none_parts event (r ∷ rs) h = by (same_event r.event event) (event_place event rs) (none_parts event rs) h
  where
    by : (b : Bool) (o : Option ℕ) → (o ≡ None → parts_of event rs ≡ []) → (if b then Some 0 else option_map suc o) ≡ None → (if b then r.contents else parts_of event rs) ≡ []
    by true o ih h = absurd (cc)
    by false None ih h = ih refl
    by false (Some k) ih h = absurd (cc)

-- a row without parts changes the parts of no event
pub opened_parts : (event : EventName) (old new : List EventRow) → IsOpened event old new → (e : EventName) → parts_of e new ≡ parts_of e old
opened_parts event old new (inl same) e = ap (parts_of e) same
opened_parts event old new (inr more) e = ap (parts_of e) more.1 ∙ put_end event [] e old more.0 ∙ by (same_event event e) refl
  where
    by : (b : Bool) → same_event event e ≡ b → (if b then [] else parts_of e old) ≡ parts_of e old
    by true same = sym (subst (λ (x : EventName). parts_of x old ≡ []) ((same_event_decides event e).0 same) (none_parts event old more.0))
    by false same = refl

-- other parts in a row change no place
pub set_places : (e : EventName) (rows : List EventRow) (k : ℕ) (d : EventRow) (ps : List Part) → event_place e (set rows k (record { event = (get_or rows k d).event; contents = ps })) ≡ event_place e rows
set_places e [] k d ps = refl
set_places e (r ∷ rs) zero d ps = refl
set_places e (r ∷ rs) (suc k) d ps = ap (λ (o : Option ℕ). if same_event r.event e then Some 0 else option_map suc o) (set_places e rs k d ps)

-- the row at an event's place has its parts
pub parts_at : (e : EventName) (rows : List EventRow) (k : ℕ) (d : EventRow) → event_place e rows ≡ Some k → (get_or rows k d).contents ≡ parts_of e rows
parts_at e [] k d h = absurd (cc)
parts_at e (r ∷ rs) k d h = by (same_event r.event e) (event_place e rs) (λ j g. parts_at e rs j d g) h
  where
    Here : Bool → ℕ → Type 0
    Here b k = (get_or (r ∷ rs) k d).contents ≡ (if b then r.contents else parts_of e rs)

    by : (b : Bool) (o : Option ℕ) → ((j : ℕ) → o ≡ Some j → (get_or rs j d).contents ≡ parts_of e rs) → (if b then Some 0 else option_map suc o) ≡ Some k → Here b k
    by true o ih h = let z : 0 ≡ k = cc in subst (Here true) z refl
    by false None ih h = absurd (cc)
    by false (Some j) ih h = let z : suc j ≡ k = cc in subst (Here false) z (ih j refl)
