-- What a seat between two calls makes of its pass.
use Rattle.std.proofs.Common.{◌≡◌, ℕ, Bool, true, false, List, [], ◌∷◌, length, take, nat_lt, cond, max, sym, refl, ap, ◌∙◌, subst, arith, Option, Some, None}
use Rattle.std.proofs.lemmas.Bool.Decides.{nat_tests}
use mathlib.Core.List.{IsPrefix}
use Rattle.atomic_table.specs.Seated.{TableId}
use Rattle.df_desk.specs.View.{SeatState, settled_seat, IsSettled, seen_list}
use Rattle.df_desk.specs.Rule.{GoesOnFrom}
use Rattle.df_desk.specs.Plays.{longer_value}
use Rattle.df_desk.specs.Pass.{desk_of, IsSeated, longer_list}
use Rattle.df_desk.proofs.Prefixes.{take_prefix}

module _ {V : Type 0} where
  abbrev first_in_hand : List (ℕ × Option V) → Option V
  first_in_hand [] = None
  first_in_hand (x ∷ xs) = x.1

  -- a slot whose value was taken out has none
  pub nothing_in_hand : (c more : List (ℕ × Option V)) (o : Option V) (v : V) → c ≡ (0, None) ∷ [] → c ≡ (0, o) ∷ more → o ≡ Some v → ⊥
  nothing_in_hand c more o v e h is = let both : None ≡ o = ap first_in_hand (sym e ∙ h) in let apart : None ≡ Some v = both ∙ is in absurd cc

module _ {V E : Type 0} (list : V → List E) where
  -- where a pass holds the value, or nothing, its seat sits so
  pub is_settled : (holds out : Bool) (seen found : ℕ) (me : SeatState V) (is : IsSeated list holds seen found me)
      → holds ≡ out → me ≡ settled_seat out is.latest
  is_settled holds out seen found me is e = subst (λ b. me ≡ settled_seat b is.latest) e is.settled

  -- a seat between two calls has seen the list of its value
  pub seen_list-settled_seat : (out : Bool) (v : V) (me : SeatState V) → me ≡ settled_seat out v → seen_list list me.0 ≡ list v
  seen_list-settled_seat true v me e = ap (λ m. seen_list list m.0) e
  seen_list-settled_seat false v me e = ap (λ m. seen_list list m.0) e

  -- a seat whose value goes on from what it had seen has seen a list that goes on
  pub seen_list-begins : (out out' : Bool) (v x : V) (me new : SeatState V) → me ≡ settled_seat out v
      → new ≡ settled_seat out' x → IsPrefix (list v) (list x) → IsPrefix (seen_list list me.0) (seen_list list new.0)
  seen_list-begins out out' v x me new e e' begins = subst (λ (z : List E × List E). IsPrefix z.0 z.1)
      (λ i. (sym (seen_list-settled_seat out v me e) i, sym (seen_list-settled_seat out' x new e') i)) begins

  -- a pass keeps the length of what its seat has seen
  pub seated-length : (holds : Bool) (seen found : ℕ) (me : SeatState V) → IsSeated list holds seen found me
      → seen ≡ length (seen_list list me.0)
  seated-length holds seen found me is = is.seen_is ∙ ap length (sym (seen_list-settled_seat holds is.latest me is.settled))

  -- what a take found stays where the list that was seen goes on
  pub found-begins : (holds : Bool) (seen found : ℕ) (me new : SeatState V) → IsSeated list holds seen found me
      → IsPrefix (seen_list list me.0) (seen_list list new.0)
      → take found (seen_list list new.0) ≡ take found (seen_list list me.0)
  found-begins holds seen found me new is begins =
      let length_is = seated-length holds seen found me is in
      let within = is.found_is in
      take_prefix found (seen_list list me.0) (seen_list list new.0) begins (omega arith)

  length-cond : (xs ys : List E) (b : Bool) → nat_lt (length xs) (length ys) ≡ b → length (cond b ys xs) ≡ max (length xs) (length ys)
  length-cond xs ys true e = grind (arith, nat_tests)
  length-cond xs ys false e = grind (arith, nat_tests)

  -- the longer of two lists has the greater length
  pub length-longer_list : (xs ys : List E) → length (longer_list xs ys) ≡ max (length xs) (length ys)
  length-longer_list xs ys = length-cond xs ys (nat_lt (length xs) (length ys)) refl

  list-cond : (v w : V) (b : Bool) → list (cond b w v) ≡ cond b (list w) (list v)
  list-cond v w true = refl
  list-cond v w false = refl

  -- the value with the longer list has the longer list
  pub list-longer_value : (v w : V) → list (longer_value list v w) ≡ longer_list (list v) (list w)
  list-longer_value v w = list-cond v w (nat_lt (length (list v)) (length (list w)))

  -- a pass that has seen the longer of two lists keeps the greater length
  pub seats_joined : (holds holds' : Bool) (seen seen' found found' : ℕ) (me me' new : SeatState V)
      → IsSeated list holds seen found me → IsSeated list holds' seen' found' me'
      → holds ≡ false → IsSettled false new → seen_list list new.0 ≡ longer_list (seen_list list me.0) (seen_list list me'.0)
      → IsSeated list holds (max seen seen') found new
  seats_joined holds holds' seen seen' found found' me me' new is is' free sits longer_is =
      let length_is : length (list sits.0) ≡ max seen seen' =
      ap length (sym (seen_list-settled_seat false sits.0 new sits.1) ∙ longer_is) ∙ (length-longer_list (seen_list list me.0) (seen_list list me'.0)
      ∙ λ i. max (sym (seated-length holds seen found me is) i) (sym (seated-length holds' seen' found' me' is') i)) in record {
        latest = sits.0;
        settled = subst (λ b. new ≡ settled_seat b sits.0) (sym free) sits.1;
        seen_is = sym length_is;
        found_is = let within = is.found_is in omega arith;
      }

module _ {V O E : Type 0} (origin : V → O) (list : V → List E) where
  desk_of-settled_seat : (out : Bool) (v : V) (me : SeatState V) (table : TableId) → me ≡ settled_seat out v
      → desk_of origin table me.0 ≡ Some (record { table = table; origin = origin v })
  desk_of-settled_seat true v me table e = ap (λ m. desk_of origin table m.0) e
  desk_of-settled_seat false v me table e = ap (λ m. desk_of origin table m.0) e

  -- a seat whose value goes on from what it had seen is still of its desk
  pub desk_of-begins : (out out' : Bool) (v x : V) (me new : SeatState V) (table table' : TableId) → me ≡ settled_seat out v
      → new ≡ settled_seat out' x → GoesOnFrom origin list x v → table' ≡ table
      → desk_of origin table' new.0 ≡ desk_of origin table me.0
  desk_of-begins out out' v x me new table table' e e' b same =
      desk_of-settled_seat out' x new table' e' ∙ ((λ i. Some (record { table = same i; origin = sym b.0 i })) ∙ sym (desk_of-settled_seat out v me table e))
