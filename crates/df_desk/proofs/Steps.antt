-- Each kind of step keeps the rule of the desk's table.
use Rattle.std.proofs.Common.{◌≡◌, ℕ, zero, suc, ◌==◌, Bool, true, false, List, [], ◌∷◌, length, get_or, set, nat_lt, cond, sym, refl, ap, ◌∙◌, subst, ⊎_elim, arith, Option, Some}
use mathlib.Core.Logic.{dite}
use mathlib.Core.Option.{none, some, some-injective, some-ne-none}
use native.Mathlib.Decide.{ℕ_discrete}
use lib.ListN.{get_elem?}
use lib.Seq.{set-get_or}
use Rattle.std.proofs.lemmas.Bool.Decides.{nat_tests}
use prog.Atomic.{either}
use Rattle.atomic_table.specs.Table.{step, keeps, takes, gives, Allows, Splits, Joins, opening}
use Rattle.atomic_table.proofs.Lists.{set_here, set_else, set_again, at_snoc, at_longer, exchanged}
use Rattle.df_desk.specs.declared.view.View.{View}
use Rattle.df_desk.specs.declared.view.View.TheVariants.{Spent, Idle, Joined, Called, Counted}
use Rattle.df_desk.specs.View.{SeatState}
use Rattle.df_desk.specs.Rule.{GoesOnFrom, Knows, Moment, DeskInvariant}
use Rattle.df_desk.specs.Plays.{joined_view, Tries, Counts, Frees, Compares, longer_value}
use Rattle.df_desk.proofs.Prefixes.{prefix_shorter}
use Rattle.df_desk.proofs.Views.{below_length, joined_first, joined_second, each_set, other_seat, goes_on_from_itself, knows_called, knows_counted, knows_freed}

module _ {V O E : Type 0} (origin : V → O) (list : V → List E) (first : V) where
  abbrev Rule : Moment V → Type 0
  Rule = DeskInvariant origin list first

  first_knows : (j : ℕ) (d : View V) → get_elem? (Idle first ∷ []) j ≡ some d → Knows origin list first 0 0 j d
  first_knows zero d at = subst (Knows origin list first 0 0 zero) (some-injective (Idle first) d at) (goes_on_from_itself origin list first)
  first_knows (suc j) d at = absurd (some-ne-none d (sym at))

  -- a new desk: its value in the slot, and its length in the second word
  pub opens : (n : ℕ) → n ≡ length (list first) → Rule (opening (0 ∷ n ∷ []) (Some first ∷ []) (Idle first))
  opens n e = record {
    value = first;
    held = 0;
    holder = 0;
    words = ap (λ (m : ℕ). 0 ∷ m ∷ []) e;
    flag = omega arith;
    at_home = λ _. refl;
    away = λ h. absurd (omega arith);
    out = λ h. absurd (omega arith);
    origin_is = refl;
    each_view = first_knows;
  }

  same_rule : (s : Moment V) (ws : List ℕ) (vs : List (View V)) → ws ≡ s.words → vs ≡ s.views → Rule s
      → Rule record { words = ws; homes = s.homes; views = vs }
  same_rule s ws vs p q r = subst (λ (z : List ℕ × List (View V)). Rule record { words = z.0; homes = s.homes; views = z.1 }) (λ i. (sym p i, sym q i)) r

  -- an idle seat may be split: both seats have seen the same
  pub splits : (id : ℕ) (d : View V) (v : V) → d ≡ Idle v → Splits Rule id d d d
  splits id d v e = subst (λ (x : View V). Splits Rule id x x x) (sym e) (λ s r at. record {
    value = r.value;
    held = r.held;
    holder = r.holder;
    words = r.words;
    flag = r.flag;
    at_home = r.at_home;
    away = r.away;
    out = λ h. let t = r.out h in (t.0, at_longer (set s.views id (Idle v)) (Idle v ∷ []) r.holder t.0 (ap (λ vs. get_elem? vs r.holder) (set_again s.views id (Idle v) at) ∙ t.1), t.2);
    origin_is = r.origin_is;
    each_view = λ j d' at'. ⊎_elim
        (λ (t : get_elem? (set s.views id (Idle v)) j ≡ some d'). r.each_view j d' (ap (λ vs. get_elem? vs j) (sym (set_again s.views id (Idle v) at)) ∙ t))
        (λ (t : Idle v ≡ d'). subst (Knows origin list r.value r.held r.holder j) t (r.each_view id (Idle v) at))
        (at_snoc (set s.views id (Idle v)) (Idle v) d' j at');
  })

  -- an idle seat may take in another: it remembers both lists, and the other is spent
  pub joins : (id other : ℕ) (d e : View V) (v w : V) → d ≡ Idle v → e ≡ Idle w → Joins Rule id d other e (joined_view d e) Spent
  joins id other d e v w p q = subst (λ (x : View V × View V). Joins Rule id x.0 other x.1 (joined_view x.0 x.1) Spent) (λ i. (sym p i, sym q i))
      (λ s r at ne at'. let there : get_elem? s.views other ≡ some (Idle w) = sym (set_else s.views id other (Joined v w) ne) ∙ at' in record {
        value = r.value;
        held = r.held;
        holder = r.holder;
        words = r.words;
        flag = r.flag;
        at_home = r.at_home;
        away = r.away;
        out = λ h. let t = r.out h in (
          t.0,
          set_else (set s.views id (Joined v w)) other r.holder Spent (other_seat s.views r.holder other t.0 (Idle w) there (λ b. b) t.1 t.2)
              ∙ (set_else s.views id r.holder (Joined v w) (other_seat s.views r.holder id t.0 (Idle v) at (λ b. b) t.1 t.2) ∙ t.1),
          t.2,
        );
        origin_is = r.origin_is;
        each_view = each_set (Knows origin list r.value r.held r.holder) (set s.views id (Joined v w)) other Spent tt
            (λ j d' _ at''. each_set (Knows origin list r.value r.held r.holder) s.views id (Joined v w) (r.each_view id (Idle v) at, r.each_view other (Idle w) there)
            (λ i b _ a. r.each_view i b a) j d' at'');
      })

  -- a swap of 1 into the first word: the seat has the slot where 0 was found, and else nothing has changed
  pub tries : (n id : ℕ) (m : SeatState V) (v : V) → m ≡ (Idle v, [])
      → Allows Rule n id m 0 (λ _. 1) (Tries origin list (step n 0 1 0 none) m)
  tries n id m v e = subst (λ (x : SeatState V). Allows Rule n id x 0 (λ _. 1) (Tries origin list (step n 0 1 0 none) x)) (sym e)
      (λ s r wide at small. let found_is : get_or s.words 0 0 ≡ r.held = ap (λ l. get_or l 0 0) r.words in dite (ℕ_discrete (get_or s.words 0 0) 0)
      (λ free. let none_out : r.held ≡ 0 = sym found_is ∙ free in let b : GoesOnFrom origin list r.value v = r.each_view id (Idle v) at in (
        Called r.value,
        takes 0 (Some r.value),
        r.at_home none_out,
        record {
          value = r.value;
          held = 1;
          holder = id;
          words = ap (λ l. set l 0 1) r.words;
          flag = omega arith;
          at_home = λ h. absurd (omega arith);
          away = λ _. set_here s.homes 0 none (below_length s.homes 0 (some (Some r.value)) (r.at_home none_out));
          out = λ _. (Called r.value, set_here s.views id (Called r.value) (below_length s.views id (Idle v) at), tt);
          origin_is = r.origin_is;
          each_view = each_set (Knows origin list r.value 1 id) s.views id (Called r.value) (refl, refl, refl)
              (λ j d ne at'. knows_called origin list r.value r.held r.holder id j d none_out (r.each_view j d at'));
        },
        ((λ _ v' e'. (r.value, refl, subst (GoesOnFrom origin list r.value) (cc (e')) b)), λ ne. absurd (ne free)),
      ))
      (λ busy. let one : get_or s.words 0 0 ≡ 1 = omega (arith, r.flag) in (
        Idle v,
        keeps,
        tt,
        same_rule s (set s.words 0 1) (set s.views id (Idle v)) (subst (λ k. set s.words 0 k ≡ s.words) one (set-get_or s.words 0 0)) (set_again s.views id (Idle v) at) r,
        ((λ z. absurd (busy z)), λ _. refl),
      )))

  -- the holder writes the second word: the desk's value is then the one that it is about to give
  pub counts : (n id old new : ℕ) (m : SeatState V) (v w : V) (c : List (ℕ × Option V)) → m ≡ (Called v, c)
      → old ≡ length (list v) → new ≡ length (list w) → GoesOnFrom origin list w v
      → Allows Rule n id m 1 (λ k. either (k == old) new k) (Counts (step n 1 old new (some (Some w))) m)
  counts n id old new m v w c e was is b = subst (λ (x : SeatState V). Allows Rule n id x 1 (λ k. either (k == old) new k) (Counts (step n 1 old new (some (Some w))) x)) (sym e)
      (λ s r wide at small. let know : Knows origin list r.value r.held r.holder id (Called v) = r.each_view id (Called v) at in
      let found : get_or s.words 1 0 ≡ old = ap (λ l. get_or l 1 0) r.words ∙ (ap (λ y. length (list y)) (sym know.0) ∙ sym was) in (
        Counted w,
        keeps,
        tt,
        exchanged (get_or s.words 1 0) old new (λ k. Rule record { words = set s.words 1 k; homes = s.homes; views = set s.views id (Counted w) })
            (λ _. record {
              value = w;
              held = r.held;
              holder = r.holder;
              words = ap (λ l. set l 1 new) r.words ∙ ap (λ (k : ℕ). r.held ∷ k ∷ []) is;
              flag = r.flag;
              at_home = λ h. absurd (omega (arith, know.2));
              away = r.away;
              out = λ h. (Counted w, ap (get_elem? (set s.views id (Counted w))) (sym know.1) ∙ set_here s.views id (Counted w) (below_length s.views id (Called v) at), tt);
              origin_is = sym b.0 ∙ (ap origin know.0 ∙ r.origin_is);
              each_view = each_set (Knows origin list w r.held r.holder) s.views id (Counted w) (refl, know.1, know.2)
                  (λ j d ne at'. knows_counted origin list r.value w r.held r.holder j d (λ h. ne (h ∙ sym know.1)) (subst (GoesOnFrom origin list w) know.0 b) (r.each_view j d at'));
            })
            (λ ne. absurd (ne found)),
        λ w' e'. ap (λ (y : V). (Counted y, c)) (cc (e')),
      ))

  -- a swap of 0 into the first word, by the holder with the value back in its hand's slot: the slot is at home again
  pub frees : (n id : ℕ) (m : SeatState V) (v : V) → n ≡ 1 → m ≡ (Counted v, (0, Some v) ∷ [])
      → Allows Rule n id m 0 (λ _. 0) (Frees (step n 0 0 0 none) m)
  frees n id m v one e = subst (λ (x : SeatState V). Allows Rule n id x 0 (λ _. 0) (Frees (step n 0 0 0 none) x)) (sym e)
      (λ s r wide at small. let know : Knows origin list r.value r.held r.holder id (Counted v) = r.each_view id (Counted v) at in (
        Idle v,
        gives,
        tt,
        record {
          value = v;
          held = 0;
          holder = r.holder;
          words = ap (λ l. set l 0 0) r.words ∙ ap (λ (y : V). 0 ∷ length (list y) ∷ []) (sym know.0);
          flag = omega arith;
          at_home = λ _. set_here s.homes 0 (some (Some v)) (omega arith);
          away = λ h. absurd (omega arith);
          out = λ h. absurd (omega arith);
          origin_is = ap origin know.0 ∙ r.origin_is;
          each_view = each_set (Knows origin list v 0 r.holder) s.views id (Idle v) (goes_on_from_itself origin list v)
              (λ j d ne at'. knows_freed origin list v r.held r.holder j d (λ h. ne (h ∙ sym know.1)) (subst (λ (y : V). Knows origin list y r.held r.holder j d) (sym know.0) (r.each_view j d at')));
        },
        λ v' e'. ap (λ (y : V). (Idle y, [])) (cc (e')),
      ))

  both_begin : (x v w : V) → GoesOnFrom origin list x v → GoesOnFrom origin list x w → (b : Bool)
      → nat_lt (length (list v)) (length (list w)) ≡ b
      → GoesOnFrom origin list (cond b w v) v × GoesOnFrom origin list (cond b w v) w × GoesOnFrom origin list x (cond b w v)
  both_begin x v w p q true e = ((p.0 ∙ sym q.0, prefix_shorter (list v) (list w) (list x) p.1 q.1 (grind (arith, nat_tests))), goes_on_from_itself origin list w, q)
  both_begin x v w p q false e = (goes_on_from_itself origin list v, (q.0 ∙ sym p.0, prefix_shorter (list w) (list v) (list x) q.1 p.1 (grind (arith, nat_tests))), p)

  -- a load of the first word: of the two lists that were seen, both beginnings of the desk's list, the shorter begins the longer
  pub compares : (n id : ℕ) (m : SeatState V) (v w : V) (c : List (ℕ × Option V)) → m ≡ (Joined v w, c)
      → Allows Rule n id m 0 (λ k. k) (Compares origin list (step n 0 0 0 none) m)
  compares n id m v w c e = subst (λ (x : SeatState V). Allows Rule n id x 0 (λ k. k) (Compares origin list (step n 0 0 0 none) x)) (sym e)
      (λ s r wide at small. let know : Knows origin list r.value r.held r.holder id (Joined v w) = r.each_view id (Joined v w) at in
      let y : V = longer_value list v w in
      let t : GoesOnFrom origin list y v × GoesOnFrom origin list y w × GoesOnFrom origin list r.value y = both_begin r.value v w know.0 know.1 (nat_lt (length (list v)) (length (list w))) refl in (
        Idle y,
        keeps,
        tt,
        subst (λ (ws : List ℕ). Rule record { words = ws; homes = s.homes; views = set s.views id (Idle y) }) (sym (set-get_or s.words 0 0)) (record {
          value = r.value;
          held = r.held;
          holder = r.holder;
          words = r.words;
          flag = r.flag;
          at_home = r.at_home;
          away = r.away;
          out = λ h. let o = r.out h in (o.0, set_else s.views id r.holder (Idle y) (other_seat s.views r.holder id o.0 (Joined v w) at (λ b. b) o.1 o.2) ∙ o.1, o.2);
          origin_is = r.origin_is;
          each_view = each_set (Knows origin list r.value r.held r.holder) s.views id (Idle y) t.2 (λ j d _ at'. r.each_view j d at');
        }),
        λ v' w' e'. subst (λ (z : V × V). (◌≡◌ {A = SeatState V} (Idle y, c) (Idle (longer_value list z.0 z.1), c)) × GoesOnFrom origin list (longer_value list z.0 z.1) z.0 × GoesOnFrom origin list (longer_value list z.0 z.1) z.1)
            (λ i. (joined_first v w v' w' e' i, joined_second v w v' w' e' i)) (refl, t.0, t.1),
      ))
