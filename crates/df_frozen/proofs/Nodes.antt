-- What lies one step on.
use Rattle.std.proofs.Common.{◌≡◌, ℕ, zero, suc, ◌<◌, ◌≤◌, List, [], ◌∷◌, map, length, get_or, arith, refl, ap, sym, ◌∙◌, Option, Some, None, cond}
use Rattle.std.specs.Prelude.{option_map}
use Rattle.std.specs.Borrow.{Bor}
use Rattle.std.specs.Slice.{IsItemAt}
use Rattle.std.specs.Str.{bytes_eq}
use Rattle.df_frozen.specs.Plain.{Plain, from_list, from_pairs}
use Rattle.df_frozen.specs.Entries.{get}
use Rattle.df_frozen.specs.Place.{item_at, value_under}
use Rattle.df_frozen.specs.Value.{plain}
use Rattle.df_frozen.specs.declared.value.Value.{Value}

-- the item at an index within
item_at-found : (vs : List Value) (k : ℕ) (d : Value) → k < length vs → item_at k (from_list (map plain vs)) ≡ Some (plain (get_or vs k d))
item_at-found [] k d h = absurd (omega (arith, h))
item_at-found (v ∷ vs) zero d h = refl
item_at-found (v ∷ vs) (suc k) d h = item_at-found vs k d (omega (arith, h))

-- no item at an index past the end
item_at-missing : (vs : List Value) (k : ℕ) → length vs ≤ k → item_at k (from_list (map plain vs)) ≡ None
item_at-missing [] k h = refl
item_at-missing (v ∷ vs) zero h = absurd (omega (arith, h))
item_at-missing (v ∷ vs) (suc k) h = item_at-missing vs k (omega (arith, h))

-- what a read of a slice gives
pub item_at-read : (vs : List Value) (k : ℕ) (r : Option (Bor Value)) → IsItemAt vs k r → option_map (λ v. plain v.now) r ≡ item_at k (from_list (map plain vs))
item_at-read vs k None h = sym (item_at-missing vs k h.3)
item_at-read vs k (Some v) h = ap (λ x. Some (plain x)) (h.3.1 v.now) ∙ sym (item_at-found vs k v.now h.3.0)

-- the value under a name, in entries and in their list
pub value_under-from_pairs : (name : List ℕ) (es : List (List ℕ × Plain)) → value_under name (from_pairs es) ≡ get name es
value_under-from_pairs name [] = refl
value_under-from_pairs name (e ∷ es) = ap (cond (bytes_eq name e.0) (Some e.1)) (value_under-from_pairs name es)
