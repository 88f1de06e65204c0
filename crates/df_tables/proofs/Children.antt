-- An entry that makes a child: the tables tell of it, once they have its row.
use Rattle.df_tables.proofs.Names.{◌≡◌, ℕ, suc, ◌-◌, ◌≤◌, ◌==◌, Bool, true, false, if◌then◌else◌, List, [], ◌∷◌, ◌++◌, get_or, length, take, Option, Some, None, refl, ap, sym, subst, ◌∙◌, arith, eq-eqb, length-append, is_none, option_and_then, eqb-true, append-nil, take-append_seam, get_or-append_seam, maker_of, number_of, Clause, Subscription, Label, Privilege, deliveries, fixed, own, own_plain, rows, roots, row_taking_laws, child, same, OwnState, reply, Call, Instantiate, Effect, Entry, Done, UnitName, Root, Managed, Reply, same_name-exact, same_name_decides, Agrees, FilterIndex, IsSeat, IsWhole, child_row, if_new, IsBooked, IsChildBoard, managed_of, IsAnsweredAt, modify, IsAnswered, child_by, find, moved_at, moved_row, place_of, Board, EventRow, Unit, born_none}
use Rattle.df_instances.specs.Marks as marks
use Rattle.df_tables.proofs.Boards.{modify-moved}
use Rattle.df_tables.proofs.Booked.{child_at, child_some, found, no_fewer, place_in, right, told_more, unrecorded}
use Rattle.df_tables.proofs.Newborn.{modify-append}
use Rattle.df_tables.proofs.Order.{names-moved, same_length}
use Rattle.df_tables.proofs.Places.{at_some}
use Rattle.df_tables.proofs.Seats.{enrols_none, present}
use Rattle.df_tables.proofs.Steps.{agrees_plain, born_by}
use Rattle.df_tables.proofs.Tells.{row_at}

-- a path is its maker's with its own number behind it

maker_of-push : (p : List ℕ) (n : ℕ) → maker_of (p ++ n ∷ []) ≡ p
maker_of-push p n =
    let size = length-append p (n ∷ []) in
    let k : length (p ++ n ∷ []) - 1 ≡ length p = omega (arith, size) in
    ap (λ i. take i (p ++ n ∷ [])) k ∙ take-append_seam p (n ∷ [])

number_of-push : (p : List ℕ) (n : ℕ) → number_of (p ++ n ∷ []) ≡ n
number_of-push p n =
    let size = length-append p (n ∷ []) in
    let k : length (p ++ n ∷ []) - 1 ≡ length p = omega (arith, size) in
    ap (λ i. get_or (p ++ n ∷ []) i 0) k ∙ get_or-append_seam p n [] 0

split : (x : ℕ) (path : List ℕ) → x ∷ path ≡ maker_of (x ∷ path) ++ number_of (x ∷ path) ∷ []
split x [] = refl
split x (y ∷ path) =
    let k : length (x ∷ y ∷ path) - 1 ≡ suc (length (y ∷ path) - 1) = omega arith in
    ap (λ (l : List ℕ). x ∷ l) (split y path)
    ∙ ap (λ i. take i (x ∷ y ∷ path) ++ get_or (x ∷ y ∷ path) i 0 ∷ []) (sym k)

-- only a plain unit makes a child

abbrev reply_of : Bool → Reply → Reply
reply_of b r = if b then Reply.NotInManaged else r

plain_maker : (u : Unit) (s : List (List ℕ)) (ps : List Privilege) (n : ℕ) → IsAnswered (Instantiate s ps) (Reply.Unit n) Effect.Nothing u → (p : List ℕ) × (u.local.unit ≡ Root p)
plain_maker u s ps n answered = by u.local.unit refl
  where
    by : (m : UnitName) → u.local.unit ≡ m → (p : List ℕ) × (u.local.unit ≡ Root p)
    by (Root p) e = (p, e)
    by (Managed o k t) e =
        let told : Reply.NotInManaged ≡ Reply.Unit n = subst (λ (m : UnitName). reply m u.local.own u.line.left (Instantiate s ps) ≡ Reply.Unit n) e (ap (λ (x : Reply × Effect). x.0) answered) in
        absurd (let z : ⊥ = cc in z)

module _ (starts : List (Label × List Privilege)) (past : List Entry) (us : List Unit) (p : List ℕ) (st : OwnState) (n : ℕ) (s : List (List ℕ)) (ps : List Privilege) (seats : (m : UnitName) → IsSeat m (own rows (roots starts) past m) (deliveries rows (roots starts) past m) (find m us)) (maker : own_plain rows (roots starts) past p ≡ Some st) where
  abbrev newborn : Unit
  newborn = child_row (record { unit = Root p; own = st }) n s ps

  abbrev making : Entry
  making = Done (Root p) (Instantiate s ps) (Reply.Unit n) Effect.Nothing

  -- who doesn't exist has no place
  no_place : (m : UnitName) → own rows (roots starts) past m ≡ None → place_of m us ≡ None
  no_place m none = by (place_of m us) refl
    where
      by : (o : Option ℕ) → place_of m us ≡ o → o ≡ None
      by None e = refl
      by (Some k) e =
          let there = present rows (roots starts) past us m seats k e in
          absurd (let z : None ≡ Some there.0 = sym none ∙ there.1 in (let w : ⊥ = cc in w))

  -- the child has its row
  its_row : (path : List ℕ) → own_plain rows (roots starts) past path ≡ None → path ≡ p ++ n ∷ [] → find (Root path) (if_new newborn us) ≡ Some newborn
  its_row path none e =
      let gone : place_of newborn.local.unit us ≡ None = subst (λ (l : List ℕ). place_of (Root l) us ≡ None) e (no_place (Root path) none) in
      ap (λ (o : Option ℕ). find (Root path) (if is_none o then newborn ∷ [] else [])) gone
      ∙ ap (λ (b : Bool). if b then Some newborn else None) ((same_name_decides newborn.local.unit (Root path)).1 (ap Root (sym e)))

  -- no other unit has one
  no_row : (m : UnitName) → same newborn.local.unit m ≡ false → find m (if_new newborn us) ≡ None
  no_row m other = by (is_none (place_of newborn.local.unit us))
    where
      by : (b : Bool) → find m (if b then newborn ∷ [] else []) ≡ None
      by true = ap (λ (b : Bool). if b then Some newborn else None) other
      by false = refl

  born : (path : List ℕ) → own_plain rows (roots starts) past path ≡ None → IsSeat (Root path) (born_by rows (roots starts) past making (Root path)) [] (find (Root path) (if_new newborn us))
  born path none = by (same (Root p) (Root (maker_of path))) refl (n == number_of path) refl
    where
      own_of : List ℕ → Option OwnState
      own_of l = own_plain rows (roots starts) past l

      whole : (l : List ℕ) → own_of l ≡ None → p ≡ maker_of l → n ≡ number_of l → l ≡ p ++ n ∷ []
      whole [] gone e f = absurd (let z : None ≡ Some st = sym gone ∙ ap own_of (sym e) ∙ maker in (let w : ⊥ = cc in w))
      whole (x ∷ l) gone e f = split x l ∙ ap (λ (q : List ℕ). q ++ number_of (x ∷ l) ∷ []) (sym e) ∙ ap (λ (k : ℕ). p ++ k ∷ []) (sym f)

      path_in : UnitName → List ℕ
      path_in (Root l) = l
      path_in (Managed o k t) = o

      other : (b c : Bool) → same (Root p) (Root (maker_of path)) ≡ b → (n == number_of path) ≡ c → (b ≡ true → c ≡ true → ⊥) → same newborn.local.unit (Root path) ≡ false
      other b c e f never = go (same newborn.local.unit (Root path)) refl
        where
          go : (d : Bool) → same newborn.local.unit (Root path) ≡ d → d ≡ false
          go false g = refl
          go true g =
              let is : p ++ n ∷ [] ≡ path = ap path_in (same_name-exact newborn.local.unit (Root path) g) in
              let one : same (Root p) (Root (maker_of path)) ≡ true = (same_name_decides (Root p) (Root (maker_of path))).1 (ap Root (sym (maker_of-push p n) ∙ ap maker_of is)) in
              let two : (n == number_of path) ≡ true = eq-eqb n (number_of path) (sym (number_of-push p n) ∙ ap number_of is) in
              absurd (never (sym e ∙ one) (sym f ∙ two))

      by : (b : Bool) → same (Root p) (Root (maker_of path)) ≡ b → (c : Bool) → (n == number_of path) ≡ c →
          IsSeat (Root path) (if b then option_and_then (λ (x : OwnState). if c then Some (child x s ps) else None) (own_of (maker_of path)) else None) [] (find (Root path) (if_new newborn us))
      by true e true f =
          let is : p ≡ maker_of path = ap path_in (same_name-exact (Root p) (Root (maker_of path)) e) in
          let all : path ≡ p ++ n ∷ [] = whole path none is (eqb-true n (number_of path) f) in
          let mine : own_of (maker_of path) ≡ Some st = ap own_of (sym is) ∙ maker in
          subst (λ (o : Option OwnState). IsSeat (Root path) (option_and_then (λ (x : OwnState). Some (child x s ps)) o) [] (find (Root path) (if_new newborn us))) (sym mine)
          (subst (λ (o : Option Unit). IsSeat (Root path) (Some (child st s ps)) [] o) (sym (its_row path none all))
          (record { unit = ap Root (sym all); own = refl; left = refl; taken = omega arith }))
      by true e false f = subst (λ (o : Option OwnState). IsSeat (Root path) o [] (find (Root path) (if_new newborn us))) (sym (nothing (own_of (maker_of path)))) (subst (λ (o : Option Unit). IsSeat (Root path) None [] o) (sym (no_row (Root path) (other true false e f (λ x y. let z : ⊥ = cc in z)))) refl)
        where
          nothing : (o : Option OwnState) → option_and_then (λ (x : OwnState). let none : Option OwnState = None in none) o ≡ None
          nothing None = refl
          nothing (Some x) = refl
      by false e c f = subst (λ (o : Option Unit). IsSeat (Root path) None [] o) (sym (no_row (Root path) (other false c e f (λ x y. let z : ⊥ = cc in z)))) refl

  pub births : (m : UnitName) → own rows (roots starts) past m ≡ None → IsSeat m (born_by rows (roots starts) past making m) [] (find m (if_new newborn us))
  births (Root path) none = born path none
  births (Managed o k t) none =
      subst (λ (b : Option OwnState). IsSeat (Managed o k t) b [] (find (Managed o k t) (if_new newborn us)))
      (sym (born_none rows (fixed rows (roots starts) past o k) t past))
      (subst (λ (x : Option Unit). IsSeat (Managed o k t) None [] x) (sym (no_row (Managed o k t) refl)) refl)

-- after an entry that makes a child
booked_made : (a : UnitName) (q n : ℕ) (s : List (List ℕ)) (ps : List Privilege) (old new : Board) → place_of a old.rows.items ≡ Some q → IsAnsweredAt q (Instantiate s ps) (Reply.Unit n) Effect.Nothing old.rows.items → IsWhole old.rows.items old.events old.index → IsChildBoard q n s ps old new →
    IsBooked a (Instantiate s ps) (Reply.Unit n) Effect.Nothing old new
booked_made a q n s ps old new place answered whole made starts past tells =
    let us = old.rows.items in
    let all = roots starts in
    let c = Instantiate s ps in
    let r = Reply.Unit n in
    let f = Effect.Nothing in
    let F = moved_row rows c r f in
    let row = found a us q place in
    let u = row.0 in
    let at = row_at rows all past us old.events old.index (managed_of old) tells.agrees a u row.1 in
    let plain = plain_maker u s ps n (row.2 c r f answered) in
    let who : a ≡ Root plain.0 = sym at.0.unit ∙ plain.1 in
    let stands : get_or us q u ≡ u = (let e = (at_some a us q u place).0 in let g = row.1 in cc) in
    let bs : List Unit = if_new (child_row (record { unit = Root plain.0; own = u.local.own }) n s ps) us in
    let is : new.rows.items ≡ moved_at a F us ++ bs =
    made.rows u
    ∙ ap (λ (v : Unit). modify q F (us ++ if_new (child_row v.local n s ps) us)) stands
    ∙ ap (λ (m : UnitName). modify q F (us ++ if_new (child_row (record { unit = m; own = u.local.own }) n s ps) us)) plain.1
    ∙ modify-append F q us bs (place_in a us q place)
    ∙ ap (λ (l : List Unit). l ++ bs) (modify-moved a us q F place) in
    let more = length-append (moved_at a F us) bs in
    let size = same_length (moved_at a F us) us (names-moved a F (λ u. refl) us) in
    let longer : length us ≤ length new.rows.items = (let n : length new.rows.items ≡ length (moved_at a F us ++ bs) = ap (λ (l : List Unit). length l) is in omega (arith, n, more, size)) in
    told_more starts past (Done a c r f ∷ past) old new made.managed made.told longer (no_fewer old.events new.events made.events) tells
    (subst (λ (l : List Unit). Agrees rows all (Done a c r f ∷ past) l new.events new.index (managed_of new)) (sym is)
    (subst (λ (evs : List EventRow). Agrees rows all (Done a c r f ∷ past) (moved_at a F us ++ bs) evs new.index (managed_of new)) (sym made.events)
    (subst (λ (x : FilterIndex). Agrees rows all (Done a c r f ∷ past) (moved_at a F us ++ bs) old.events x (managed_of new)) (sym made.index)
    (agrees_plain rows all (row_taking_laws starts) past us bs old.events old.index old.index (managed_of old) (managed_of new) a c r f None tells.agrees refl
    (right starts past old tells a q place c r f answered) (λ st owned. refl)
    (sym (append-nil old.index.enrolled) ∙ ap (λ (l : List (Subscription (List Clause))). old.index.enrolled ++ l) (sym (enrols_none (place_of a us)))) refl
    (unrecorded starts past old new made.managed a c r f refl) (λ e p. ap (λ (h : List (List ℕ)). marks.was_handed h e p) made.told) whole.enrolled whole.seated tells.within.seated
    (λ m none. subst (λ (x : UnitName). IsSeat m (born_by rows all past (Done x c r f) m) [] (find m bs)) (sym who)
    (births starts past us plain.0 u.local.own n s ps tells.agrees.seats (subst (λ (x : UnitName). own rows all past x ≡ Some u.local.own) who at.1) m none))))))

pub booked_child : (a : UnitName) (q : ℕ) (c : Call) (r : Reply) (f : Effect) (n : ℕ) (s : List (List ℕ)) (ps : List Privilege) (old new : Board) → place_of a old.rows.items ≡ Some q → child_by c r ≡ Some (n, (s, ps)) → IsAnsweredAt q c r f old.rows.items → IsWhole old.rows.items old.events old.index →
    IsChildBoard q n s ps old new → IsBooked a c r f old new
booked_child a q c r f n s ps old new place is answered whole made =
    let both = child_some c r n s ps is in
    let told = child_at old.rows.items q c r f n s ps is answered in
    let row = found a old.rows.items q place in
    let still : Effect.Nothing ≡ f = (ap (λ (p : Reply × Effect). p.1) (subst (λ (x : Call). IsAnswered x r f row.0) both.0 (row.2 c r f answered))) in
    subst (λ (x : Effect). IsBooked a c r x old new) still
    (subst (λ (x : Reply). IsBooked a c x Effect.Nothing old new) (sym both.1)
    (subst (λ (x : Call). IsBooked a x (Reply.Unit n) Effect.Nothing old new) (sym both.0) (booked_made a q n s ps old new place told whole made)))
