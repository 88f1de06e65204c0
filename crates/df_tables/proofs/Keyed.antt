-- Keys, and one more place, by its key.
use Rattle.df_tables.proofs.Names.{◌≡◌, ℕ, Bool, true, false, if◌then◌else◌, [], ◌∷◌, set, Option, Some, None, refl, ap, sym, ◌∙◌, subst, eqb-true, and_parts, same_Some, both_tied, unsigned_ties, Vec, option_or, nat_cmp, same, same_event, unit_cmp, unit_cmp_ties, EventName, UnitName, Root, Managed, same_name-exact, Others, Near, Strays, key_by, key_of, numbers_cmp, root_number, same_key, slot, slot_in, root_event, Key, and-true, and-false, and_right, false_from_ne_true}
use Rattle.std.specs.BTreeMap as tree
use Rattle.std.specs.Prelude.{◌==◌, ◌&&◌, slice_get}
use Rattle.df_tables.specs.EventPlaces.{place_by}
use Rattle.df_tables.proofs.Slots.{slot_set}
use Rattle.df_tables.specs.declared.event_places.Key.TheVariants.{Numbered, Named}

-- the unit of a root's number
root_is : (u : UnitName) (r : ℕ) → root_number u ≡ Some r → u ≡ Root (r ∷ [])
root_is (Root []) r h = absurd (cc)
root_is (Root (s ∷ [])) r h = ap (λ (i : ℕ). Root (i ∷ [])) (same_Some s r h)
root_is (Root (s ∷ n ∷ p)) r h = absurd (cc)
root_is (Managed o n t) r h = absurd (cc)

-- a root's event has the root's number and its own for a key
pub numbered_key : (e : EventName) (r : ℕ) → root_number e.unit ≡ Some r → key_of e ≡ Numbered r e.number
numbered_key e r is = ap (λ (o : Option ℕ). key_by o e.number e.unit) is

-- and is named by both
pub named_by_root : (e : EventName) (r : ℕ) → root_number e.unit ≡ Some r → root_event r e.number ≡ e
named_by_root e r is = ap (λ (u : UnitName). record { unit = u; number = e.number }) (sym (root_is e.unit r is))

-- names have one key exactly where they are one
tie : (n m : ℕ) (u v : UnitName) → ((n == m) && same u v) ≡ same_key (key_by (root_number u) n u) (key_by (root_number v) m v)
tie n m u v = by (root_number u) refl (root_number v) refl
  where
    swap : (b c : Bool) → (b && (c && true)) ≡ (c && b)
    swap true c = and-true c ∙ sym (and-true c)
    swap false c = sym (and-false c)

    apart : (o p : Option ℕ) → root_number u ≡ o → root_number v ≡ p → (o ≡ p → ⊥) → same u v ≡ true → ⊥
    apart o p f g differ is = differ (sym f ∙ ap root_number (same_name-exact u v is) ∙ g)

    by : (o : Option ℕ) → root_number u ≡ o → (p : Option ℕ) → root_number v ≡ p → ((n == m) && same u v) ≡ same_key (key_by o n u) (key_by p m v)
    by None f None g = both_tied _ _ (nat_cmp n m) (unit_cmp u v) (unsigned_ties n m) (unit_cmp_ties u v)
    by None f (Some s) g = and_right (n == m) _ (false_from_ne_true (same u v) (apart None (Some s) f g (λ e. absurd (cc))))
    by (Some r) f None g = and_right (n == m) _ (false_from_ne_true (same u v) (apart (Some r) None f g (λ e. absurd (cc))))
    by (Some r) f (Some s) g =
        ap (λ (w : UnitName). (n == m) && same w v) (root_is u r f)
        ∙ ap (λ (w : UnitName). (n == m) && same (Root (r ∷ [])) w) (root_is v s g)
        ∙ swap (n == m) (r == s)

-- events are one exactly where their keys are
pub keys_tie : (a b : EventName) → same_event a b ≡ same_key (key_of a) (key_of b)
keys_tie a b = tie a.number b.number a.unit b.unit

-- two pairs of numbers are one exactly where their order says so
numbers_tie : (r n s m : ℕ) → ((r == s) && (n == m)) ≡ tree.is_at (numbers_cmp (r, n)) (s, m)
numbers_tie r n s m = both_tied _ _ (nat_cmp r s) (nat_cmp n m) (unsigned_ties r s) (unsigned_ties n m)

-- an event that has no slot is found by the map
pub stray_put : (near new : Near) (strays more : Strays) (named : Others) (r n k : ℕ) →
    ((s m : ℕ) → slot_in new s m ≡ slot_in near s m) → slot_in new r n ≡ None →
    ((p : ℕ × ℕ) → tree.get numbers_cmp more p ≡ (if tree.is_at (numbers_cmp (r, n)) p then Some k else tree.get numbers_cmp strays p)) →
    (q : Key) → place_by new more named q ≡ (if same_key (Numbered r n) q then Some k else place_by near strays named q)
stray_put near new strays more named r n k same none up (Numbered s m) =
    ap (option_or (slot_in new s m)) (up (s, m) ∙ ap (λ (b : Bool). if b then Some k else stray) (sym (numbers_tie r n s m)))
    ∙ by ((r == s) && (n == m)) refl
    ∙ ap (λ (o : Option ℕ). if (r == s) && (n == m) then Some k else option_or o stray) (same s m)
  where
    stray : Option ℕ
    stray = tree.get numbers_cmp strays (s, m)

    by : (b : Bool) → ((r == s) && (n == m)) ≡ b →
        option_or (slot_in new s m) (if b then Some k else stray) ≡ (if b then Some k else option_or (slot_in new s m) stray)
    by true is =
        let both = and_parts (r == s) (n == m) is in
        let at : slot_in new s n ≡ None = subst (λ (t : ℕ). slot_in new t n ≡ None) (eqb-true r s both.0) none in
        ap (λ (o : Option ℕ). option_or o (Some k)) (subst (λ (t : ℕ). slot_in new s t ≡ None) (eqb-true n m both.1) at)
    by false is = refl
stray_put near new strays more named r n k same none up (Named x) = refl

-- an event is found by its slot
pub near_put : (near wide : Near) (v w : Vec (Option ℕ)) (strays : Strays) (named : Others) (r n k : ℕ) →
    ((s m : ℕ) → slot_in wide s m ≡ slot_in near s m) → slice_get wide r ≡ Some v →
    ((m : ℕ) → slot w.items m ≡ (if n == m then Some k else slot v.items m)) →
    (q : Key) → place_by (set wide r w) strays named q ≡ (if same_key (Numbered r n) q then Some k else place_by near strays named q)
near_put near wide v w strays named r n k same at put (Numbered s m) =
    ap (λ (o : Option ℕ). option_or o stray) (slot_set wide r v w (λ i o. if n == i then Some k else o) at put s m)
    ∙ by (r == s) (n == m) (slot_in wide s m)
    ∙ ap (λ (o : Option ℕ). if (r == s) && (n == m) then Some k else option_or o stray) (same s m)
  where
    stray : Option ℕ
    stray = tree.get numbers_cmp strays (s, m)

    by : (b c : Bool) (o : Option ℕ) →
        option_or (if b then (if c then Some k else o) else o) stray ≡ (if b && c then Some k else option_or o stray)
    by true true o = refl
    by true false o = refl
    by false c o = refl
near_put near wide v w strays named r n k same at put (Named x) = refl
