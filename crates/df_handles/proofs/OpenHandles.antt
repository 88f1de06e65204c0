-- What opening and drafting do to the list of handles.
use Rattle.df_handles.proofs.Names.{◌≡◌, ℕ, zero, suc, ◌+◌, ◌<◌, ◌≤◌, Option, Some, None, List, [], ◌∷◌, ◌++◌, length, set, get_or, refl, ap, sym, ◌∙◌, arith, Handle, least_free, open_count, opened, handle_at, replaced, changed_at}
use Rattle.std.proofs.Common.{Vec}
use Rattle.std.proofs.lemmas.List.{length-map}
use Rattle.df_unit.specs.Handles.{closed}
use Rattle.df_handles.specs.code.Slot.{all_shown, shown}
use Rattle.df_handles.specs.declared.slot.Slot.{Slot}

-- as many handles are open as numbers below the least free one, at least
pub least_free_within : (hs : List (Option Handle)) → least_free hs ≤ open_count hs
least_free_within [] = omega arith
least_free_within (None ∷ hs) = omega arith
least_free_within (Some h ∷ hs) = omega (arith, least_free_within hs)

-- no more handles are open than there are numbers
open_count_within : (hs : List (Option Handle)) → open_count hs ≤ length hs
open_count_within [] = omega arith
open_count_within (None ∷ hs) = omega (arith, open_count_within hs)
open_count_within (Some h ∷ hs) = omega (arith, open_count_within hs)

-- no more are open than a list has room for
pub open_fits : {Z : Type 0} (slots : Vec Slot Z) → open_count (all_shown slots.items) < 9223372036854775808
open_fits slots =
    omega (arith, slots.small, slots.ok.0, slots.ok.1, open_count_within (all_shown slots.items), length-map slots.items shown)

-- one more is open behind one that is opened
pub one_more_open : (d : Handle) (hs : List (Option Handle)) → open_count (opened d hs) ≡ open_count hs + 1
one_more_open d [] = omega arith
one_more_open d (None ∷ hs) = omega arith
one_more_open d (Some x ∷ hs) = let e = one_more_open d hs in grind (arith, e)

-- one more is open in a list with one that is opened
pub one_more : (d : Handle) (hs more : List (Option Handle)) → more ≡ opened d hs → open_count more ≡ open_count hs + 1
one_more d hs more e = ap open_count e ∙ one_more_open d hs

-- one less is open where an open handle is closed
pub one_less_open : (hs : List (Option Handle)) (h : ℕ) (d : Handle) → handle_at hs h ≡ Some d → open_count (closed hs h) + 1 ≡ open_count hs
one_less_open [] h d e = absurd (cc)
one_less_open (Some x ∷ hs) zero d e = omega arith
one_less_open (None ∷ hs) zero d e = absurd (cc)
one_less_open (Some x ∷ hs) (suc h) d e = let r = one_less_open hs h d e in omega (arith, r)
one_less_open (None ∷ hs) (suc h) d e = one_less_open hs h d e

-- as many are open where none is closed
pub none_less_open : (hs : List (Option Handle)) (h : ℕ) → handle_at hs h ≡ None → open_count (closed hs h) ≡ open_count hs
none_less_open [] h e = refl
none_less_open (Some x ∷ hs) zero e = absurd (cc)
none_less_open (None ∷ hs) zero e = refl
none_less_open (Some x ∷ hs) (suc h) e = let r = none_less_open hs h e in omega (arith, r)
none_less_open (None ∷ hs) (suc h) e = none_less_open hs h e

-- as many are open where one is changed
as_many : (hs : List (Option Handle)) (h : ℕ) (f : Handle → Handle) (m : Option Handle) → handle_at hs h ≡ m
    → open_count (replaced hs h f m) ≡ open_count hs
as_many hs h f None e = refl
as_many [] h f (Some d) e = absurd (cc)
as_many (Some x ∷ hs) zero f (Some d) e = refl
as_many (None ∷ hs) zero f (Some d) e = absurd (cc)
as_many (Some x ∷ hs) (suc h) f (Some d) e = let r = as_many hs h f (Some d) e in omega (arith, r)
as_many (None ∷ hs) (suc h) f (Some d) e = as_many hs h f (Some d) e

pub as_many_open : (hs : List (Option Handle)) (h : ℕ) (f : Handle → Handle) → open_count (changed_at hs h f) ≡ open_count hs
as_many_open hs h f = as_many hs h f (handle_at hs h) refl

-- a free number within the list is written over
pub opened_in : (d : Handle) (hs : List (Option Handle)) → least_free hs < length hs → set hs (least_free hs) (Some d) ≡ opened d hs
opened_in d [] h = absurd (omega arith)
opened_in d (None ∷ hs) h = refl
opened_in d (Some x ∷ hs) h = let e = opened_in d hs (omega arith) in grind (arith, e)

-- where no number within the list is free, the handle comes last
pub opened_end : (d : Handle) (hs : List (Option Handle)) → length hs ≤ least_free hs → hs ++ Some d ∷ [] ≡ opened d hs
opened_end d [] h = refl
opened_end d (None ∷ hs) h = absurd (omega arith)
opened_end d (Some x ∷ hs) h = ap (λ l. Some x ∷ l) (opened_end d hs (omega arith))

-- no handle is open behind the last number
pub none_behind : (hs : List (Option Handle)) (h : ℕ) → length hs ≤ h → handle_at hs h ≡ None
none_behind [] h k = refl
none_behind (o ∷ hs) zero k = absurd (omega (arith, k))
none_behind (o ∷ hs) (suc h) k = none_behind hs h (omega (arith, k))

-- a free number that is written over as free changes nothing
pub none_kept : (hs : List (Option Handle)) (h : ℕ) → h < length hs → None ≡ get_or hs h None → (set hs h None ≡ hs) × (handle_at hs h ≡ None)
none_kept [] h k e = absurd (omega arith)
none_kept (None ∷ hs) zero k e = (refl, refl)
none_kept (Some x ∷ hs) zero k e = absurd (cc)
none_kept (x ∷ hs) (suc h) k e = let r = none_kept hs h (omega arith) e in (ap (λ l. x ∷ l) r.0, r.1)

-- an open handle stands at its number
handle_at-open : (hs : List (Option Handle)) (h : ℕ) (d : Option Handle) (x : Handle) → h < length hs → Some x ≡ get_or hs h d → handle_at hs h ≡ Some x
handle_at-open [] h d x k e = absurd (omega arith)
handle_at-open (o ∷ hs) zero d x k e = sym e
handle_at-open (o ∷ hs) (suc h) d x k e = handle_at-open hs h d x (omega arith) e

-- an open handle is changed in its place
pub changed_at-open : (hs : List (Option Handle)) (h : ℕ) (d : Option Handle) (x y : Handle) (f : Handle → Handle) → h < length hs → Some x ≡ get_or hs h d → y ≡ f x → set hs h (Some y) ≡ changed_at hs h f
changed_at-open hs h d x y f k e is =
    ap (λ (z : Handle). set hs h (Some z)) is ∙ ap (replaced hs h f) (sym (handle_at-open hs h d x k e))
