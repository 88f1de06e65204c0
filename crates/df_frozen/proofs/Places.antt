-- A change of one value of a list or a map, and what it does to the whole.
use Rattle.std.proofs.Common.{◌≡◌, ℕ, zero, suc, ◌<◌, ◌≤◌, List, [], ◌∷◌, ◌++◌, map, set, length, get_or, arith, refl, ap, sym, subst, ◌∙◌, Option, Some, None}
use Rattle.std.specs.Prelude.{option_map, Result, Ok, Err, OnOk, OnErr, IfErr}
use Rattle.std.proofs.lemmas.List.{map-set, set-get_or, get_or-map, length-map}
use Rattle.df_frozen.specs.Plain.{Plain, items, entries, item, from_list, from_pairs}
use Rattle.df_frozen.specs.Value.{plain, named}
use Rattle.df_frozen.specs.Entries.{names}
use Rattle.df_frozen.specs.Place.{change_item, change_value, push_item}
use Rattle.df_frozen.specs.code.Search.{place_of}
use Rattle.df_frozen.specs.Change.{Changes, IsCause}
use Rattle.df_frozen.specs.declared.value.Value.{Value}
use Rattle.df_frozen.specs.declared.change.Change.{Change}
use Rattle.df_frozen.specs.declared.change.Change.TheVariants.{Push}
use Rattle.df_frozen.specs.declared.put.NotPut.{NotPut}
use Rattle.df_frozen.specs.declared.put.PutCause.{PutCause}
use Rattle.df_frozen.specs.declared.put.PutCause.TheVariants.{NoSuchPlace, NoMemory}
use Rattle.df_frozen.proofs.Options.{option_map-option_map}
use Rattle.df_frozen.proofs.Named.{names-named}
use Rattle.df_frozen.proofs.Contents.{plain_same}
use Rattle.df_frozen.proofs.Search.{change_value-found}

-- ---- items

-- one more item, in items and in their list
pub push_item-from_list : (ps : List Plain) (v : Plain) → push_item v (from_list ps) ≡ from_list (ps ++ v ∷ [])
push_item-from_list [] v = refl
push_item-from_list (p ∷ ps) v = ap (item p) (push_item-from_list ps v)

-- a change at an index within
change_item-found : (f : Plain → Option Plain) (ps : List Plain) (k : ℕ) (d : Plain) → k < length ps → change_item f k (from_list ps) ≡ option_map (λ q. from_list (set ps k q)) (f (get_or ps k d))
change_item-found f [] k d h = absurd (omega arith)
change_item-found f (p ∷ ps) zero d h = refl
change_item-found f (p ∷ ps) (suc k) d h =
    ap (option_map (item p)) (change_item-found f ps k d (omega arith)) ∙ option_map-option_map (item p) (λ q. from_list (set ps k q)) (f (get_or ps k d))

-- nothing changes at an index past the end
pub change_item-missing : (f : Plain → Option Plain) (ps : List Plain) (k : ℕ) → length ps ≤ k → change_item f k (from_list ps) ≡ None
change_item-missing f [] k h = refl
change_item-missing f (p ∷ ps) zero h = absurd (omega arith)
change_item-missing f (p ∷ ps) (suc k) h = ap (option_map (item p)) (change_item-missing f ps k (omega arith))

-- ---- a change below is a change above

-- what a change below makes of the whole
pub Changes-above : (change : Change) (wrap : Plain → Plain) (wanted : Option Plain) (before after : Plain) (r : Result (Unit {0}) NotPut) → Changes change wanted before after r → Changes change (option_map wrap wanted) (wrap before) (wrap after) r
Changes-above change wrap wanted before after (Ok _) h = ap (option_map wrap) h
Changes-above change wrap wanted before after (Err e) h = (h.0, ap wrap h.1, cause e.cause wanted h.2)
  where
    cause : (c : PutCause) (w : Option Plain) → IsCause change w c → IsCause change (option_map wrap w) c
    cause NoSuchPlace w i = ap (option_map wrap) i
    cause NoMemory None i = absurd (cc)
    cause NoMemory (Some p) i = (refl, i.1)

-- a value in a whole changes, where `wrap` makes the content of the whole from that of the value
Changes-value : (change : Change) (f : Plain → Option Plain) (wrap : Plain → Plain) (wanted : Option Plain) (old new : Value) (before after : Plain) (r : Result (Unit {0}) NotPut) → wrap (plain old) ≡ before → wrap (plain new) ≡ after → wanted ≡ option_map wrap (f (plain old)) → Changes change (f (plain old)) (plain old) (plain new) r → Changes change wanted before after r
Changes-value change f wrap wanted old new before after r b a w below =
    let above = Changes-above change wrap (f (plain old)) (plain old) (plain new) r below in
    rw (w, ← b, ← a) above

-- a value of a list changes
pub Changes-item : (change : Change) (f : Plain → Option Plain) (vs : List Value) (k : ℕ) (old new : Value) (r : Result (Unit {0}) NotPut) → old ≡ get_or vs k old → k < length vs → Changes change (f (plain old)) (plain old) (plain new) r → Changes change (option_map items (change_item f k (from_list (map plain vs)))) (items (from_list (map plain vs))) (items (from_list (map plain (set vs k new)))) r
Changes-item change f vs k old new r e h below =
    let ps = map plain vs in
    let wrap : Plain → Plain = λ q. items (from_list (set ps k q)) in
    let lt : k < length ps = simp length-map h in
    let at : get_or ps k (plain old) ≡ plain old = get_or-map plain vs k old (plain old) h ∙ ap plain (sym e) in
    let before : wrap (plain old) ≡ items (from_list ps) = ap wrap (sym at) ∙ ap (λ l. items (from_list l)) (set-get_or ps k (plain old)) in
    let after : wrap (plain new) ≡ items (from_list (map plain (set vs k new))) = ap (λ l. items (from_list l)) (sym (map-set plain vs k new)) in
    let all = ap (option_map items) (change_item-found f ps k (plain old) lt) ∙ option_map-option_map items (λ q. from_list (set ps k q)) (f (get_or ps k (plain old))) ∙ ap (λ x. option_map wrap (f x)) at in
    Changes-value change f wrap _ old new _ _ r before after all below

-- a value of a map changes
pub Changes-entry : (change : Change) (f : Plain → Option Plain) (name : List ℕ) (es : List (List ℕ × Value)) (k : ℕ) (old : List ℕ × Value) (new : Value) (r : Result (Unit {0}) NotPut) → place_of name (names es) ≡ Ok k → old ≡ get_or es k old → k < length es → Changes change (f (plain old.1)) (plain old.1) (plain new) r → Changes change (option_map entries (change_value f name (from_pairs (map named es)))) (entries (from_pairs (map named es))) (entries (from_pairs (map named (set es k (old.0, new))))) r
Changes-entry change f name es k old new r p e h below =
    let ps = map named es in
    let d = named old in
    let wrap : Plain → Plain = λ q. entries (from_pairs (set ps k (old.0, q))) in
    let at : get_or ps k d ≡ d = get_or-map named es k old d h ∙ ap named (sym e) in
    let found : place_of name (names ps) ≡ Ok k = ap (place_of name) (names-named es) ∙ p in
    let before : wrap (plain old.1) ≡ entries (from_pairs ps) = ap (λ x. entries (from_pairs (set ps k x))) (sym at) ∙ ap (λ l. entries (from_pairs l)) (set-get_or ps k d) in
    let after : wrap (plain new) ≡ entries (from_pairs (map named (set es k (old.0, new)))) = ap (λ l. entries (from_pairs l)) (sym (map-set named es k (old.0, new))) in
    let all = ap (option_map entries) (change_value-found f name ps k d found) ∙ option_map-option_map entries (λ q. from_pairs (set ps k ((get_or ps k d).0, q))) (f (get_or ps k d).1) ∙ ap (λ (x : List ℕ × Plain). option_map (λ q. entries (from_pairs (set ps k (x.0, q)))) (f x.1)) at in
    Changes-value change f wrap _ old.1 new _ _ r before after all below

-- a push at the place itself
pub Changes-push : (v : Value) (old new : List Plain) (r : Result (Unit {0}) NotPut) → OnOk r (new ≡ old ++ plain v ∷ []) → OnErr r (new ≡ old) → IfErr r (λ e. e.value ≡ v) → IfErr r (λ e. e.cause ≡ NoMemory) → Changes (Push v) (Some (items (push_item (plain v) (from_list old)))) (items (from_list old)) (items (from_list new)) r
Changes-push v old new (Ok _) pushed unchanged back cause = ap (λ l. Some (items l)) (push_item-from_list old (plain v) ∙ ap from_list (sym pushed))
Changes-push v old new (Err e) pushed unchanged back cause = (back, ap (λ l. items (from_list l)) unchanged, subst (λ c. IsCause (Push v) (Some (items (push_item (plain v) (from_list old)))) c) (sym cause) (refl, tt))

-- a change that is refused changes nothing
pub Changes-refused : (change : Change) (wanted : Option Plain) (old new : Value) (r : Result (Unit {0}) NotPut) → Changes change wanted (plain old) (plain new) r → OnErr r (new ≡ old)
Changes-refused change wanted old new (Ok _) h = tt
Changes-refused change wanted old new (Err e) h = plain_same new old h.1
