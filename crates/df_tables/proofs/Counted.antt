-- An entry that makes a managed subscription: what it keeps, and its number.
use Rattle.df_tables.proofs.Names.{◌≡◌, ℕ, ◌≤◌, ◌==◌, ◌&&◌, Bool, true, false, if◌then◌else◌, List, [], ◌∷◌, ◌++◌, Option, Some, None, nat_eq, option_map, refl, ap, sym, subst, ◌∙◌, arith, nat_le, pointwise, option_and_then, option_or, ne_eqb, bytes_eq-Decides, Clause, AreNumbered, is_of, kept_in, ManagedSubscription, maker_of, record_of, deliveries, Legal, answer, answer_of, left, fixed, fixed_by, made_by, own_plain, root_at, rows, fixed_of, fixes, same, Fixed, OwnState, after, is_instance, reply, Call, SubscribeManaged, Given, Effect, Entry, Done, Emitted, UnitName, Root, Reply, Sub, same_name-exact, or_none}
use Rattle.df_instances.proofs.Numbered.{AreNumbered-push, kept_in-push}
use Rattle.df_rules.proofs.Growth.{grown_after}
use Rattle.df_unit.specs.Limits.{most_subs}
use Rattle.df_tables.proofs.Subscribing.{next_number}

-- who isn't there made no managed subscription, and who is made none with a number to come
abbrev Counted : Option OwnState → ℕ → Option Fixed → Type 0
Counted None n fx = fx ≡ None
Counted (Some st) n fx = st.subs ≤ n → fx ≡ None

counted_or : (o y : Option OwnState) (n : ℕ) (fx : Option Fixed) → Counted o n fx → Counted (option_or o y) n (option_or fx None)
counted_or None None n fx h = or_none fx ∙ h
counted_or None (Some st) n fx h = λ l. or_none fx ∙ h
counted_or (Some st) y n fx h = λ l. or_none fx ∙ h l

-- an answer makes none whose number is to come after it
fixes_later : (u : UnitName) (st : OwnState) (n : ℕ) (c : Call) (r : Reply) (f : Effect) (ds : List Given) → reply u st ds c ≡ r → (after u st c r f).subs ≤ n → fixes st n c r ≡ None
fixes_later u st n (SubscribeManaged filter) (Sub m) f ds e l =
    let is : m ≡ st.subs = next_number (is_instance u) (nat_le most_subs st.subs) st.subs m (Sub m) e in
    ap (λ (b : Bool). if b then Some (fixed_of st filter) else None) (ne_eqb m n (λ z. omega (arith, is, z, l)))
fixes_later u st n (SubscribeManaged filter) _ f ds e l = refl
fixes_later u st n _ r f ds e l = refl

module _ (s : List OwnState) where
  counted : (past : List Entry) → Legal rows s past → (o : List ℕ) (n : ℕ) → Counted (own_plain rows s past o) n (fixed rows s past o n)
  counted [] legal o n = first (root_at s o)
    where
      first : (w : Option OwnState) → Counted w n None
      first None = refl
      first (Some st) = λ l. refl
  counted (Emitted k ∷ past) legal o n = counted_or (own_plain rows s past o) None n (fixed rows s past o n) (counted past legal.0 o n)
  counted (Done a c r f ∷ past) legal o n = by (same a (Root o)) refl (own_plain rows s past o) refl (counted past legal.0 o n)
    where
      fx : Option Fixed
      fx = fixed rows s past o n

      y : Option OwnState
      y = made_by rows (Done a c r f) o (own_plain rows s past (maker_of o))

      by : (b : Bool) → same a (Root o) ≡ b → (w : Option OwnState) → own_plain rows s past o ≡ w → Counted w n fx →
          Counted (option_or (if b then option_map (λ st. after (Root o) st c r f) w else w) y) n (option_or fx (if b then option_and_then (λ st. fixes st n c r) w else None))
      by true e None g h = counted_or None y n fx h
      by true e (Some st) g h = λ l.
          let is : a ≡ Root o = same_name-exact a (Root o) e in
          let ds = deliveries rows s past (Root o) in
          let right : answer_of rows (Root o) (Some st) ds c ≡ (r, f) =
          sym (ap (λ (w : Option OwnState). answer_of rows (Root o) w ds c) g) ∙ subst (λ (u : UnitName). answer rows s past u c ≡ (r, f)) is legal.1 in
          let told : reply (Root o) st (left st ds) c ≡ r = ap (λ (p : Reply × Effect). p.0) right in
          let grown = (grown_after (Root o) st c r f).subs in
          ap (option_or fx) (fixes_later (Root o) st n c r f (left st ds) told l) ∙ or_none fx ∙ h (omega (arith, grown, l))
      by false e w g h = counted_or w y n fx h

  -- a unit's next number is that of none of its managed subscriptions
  pub next_is_free : (past : List Entry) → Legal rows s past → (o : List ℕ) (st : OwnState) → own_plain rows s past o ≡ Some st → fixed rows s past o st.subs ≡ None
  next_is_free past legal o st owned =
      let all : Counted (Some st) st.subs (fixed rows s past o st.subs) = subst (λ (w : Option OwnState). Counted w st.subs (fixed rows s past o st.subs)) owned (counted past legal o st.subs) in
      all (omega arith)

  module _ (past : List Entry) (path : List ℕ) (st : OwnState) (owned : own_plain rows s past path ≡ Some st) (filter : List Clause) (n : ℕ) (f : Effect) (managed : List ManagedSubscription) (m : ManagedSubscription)
      (owner : m.owner ≡ path) (number : m.sub ≡ n) (keeps : record_of m.fixed ≡ fixed_of st filter) where
    -- what is kept where it is enrolled is what the entry makes
    pub kept_more : (o : List ℕ) (i : ℕ) → kept_in (managed ++ m ∷ []) o i ≡ option_or (kept_in managed o i) (fixed_by rows (Done (Root path) (SubscribeManaged filter) (Sub n) f) o i (own_plain rows s past o))
    kept_more o i = kept_in-push managed m o i ∙ ap (option_or (kept_in managed o i)) last
      where
        by : (b : Bool) → pointwise nat_eq path o ≡ b → (if b && (n == i) then Some (fixed_of st filter) else None) ≡ (if b then option_and_then (λ x. fixes x i (SubscribeManaged filter) (Sub n)) (own_plain rows s past o) else None)
        by true e =
            let is : path ≡ o = (bytes_eq-Decides path o).0 e in
            let mine : own_plain rows s past o ≡ Some st = ap (own_plain rows s past) (sym is) ∙ owned in
            sym (ap (option_and_then (λ x. fixes x i (SubscribeManaged filter) (Sub n))) mine)
        by false e = refl

        last : (if is_of o i m then Some (record_of m.fixed) else None) ≡ fixed_by rows (Done (Root path) (SubscribeManaged filter) (Sub n) f) o i (own_plain rows s past o)
        last =
            ap (λ (w : List ℕ). if pointwise nat_eq w o && (m.sub == i) then Some (record_of m.fixed) else None) owner
            ∙ ap (λ (k : ℕ). if pointwise nat_eq path o && (k == i) then Some (record_of m.fixed) else None) number
            ∙ ap (λ (x : Fixed). if pointwise nat_eq path o && (n == i) then Some x else None) keeps
            ∙ by (pointwise nat_eq path o) refl

    -- and its number is that of no other of its owner
    pub numbered_more : Legal rows s past → n ≡ st.subs → ((o : List ℕ) (i : ℕ) → kept_in managed o i ≡ fixed rows s past o i) → AreNumbered managed → AreNumbered (managed ++ m ∷ [])
    numbered_more legal next kept numbered =
        AreNumbered-push managed m
        (ap (λ (w : List ℕ). kept_in managed w m.sub) owner ∙ ap (kept_in managed path) (number ∙ next) ∙ kept path st.subs ∙ next_is_free past legal path st owned)
        numbered
