-- What an entry does to each unit of the floor.
use Rattle.df_settling.proofs.Names.{◌≡◌, inl, inr, ℕ, ◌+◌, ◌≤◌, List, [], ◌∷◌, ◌++◌, Bool, true, false, true≢false, refl, sym, ◌∙◌, ap, subst, cond, Option, Some, None, drop, arith, option_to_list, option_map, option_or, Clause, commit_in, commit_of, contents, deliveries, Start, replies_of, wanted, born, fixed, is_given, own, own_instance, rows, subscriptions, same, Fixed, OwnState, after, subscribes, Call, Commit, Effect, Entry, Done, UnitName, Reply, same_name_decides, Mind, did, follow_of, moved, floor_brain}
use Rattle.df_unit.specs.Beginnings.{begin}
use Rattle.df_settling.proofs.Members.{FixedOk, Inv, IsFresh, IsWatched, Lives, Member, deliveries_grow, events_of, given_of, mind_actor, mind_other, news, opens_first, own_actor, own_other, plays, pot, pot_grows, pot_of, subs_actor, subs_other, the_mind, watcher}
use Rattle.df_settling.proofs.Players.{began}
use Rattle.df_settling.proofs.Roles.{Role, Watcher, opening_by, role_of}
use Rattle.df_settling.proofs.Settles.{Acts, Elsewhere, contents_kept}
use Rattle.df_settling.proofs.Unit.{IsOpening, NotNumber, drafts, event_of, owed, paid, priced}
use Rattle.df_settling.proofs.Worth.{watcher_tags}

pub name_refl : (u : UnitName) → same u u ≡ true
name_refl u = (same_name_decides u u).1 refl

-- what the entry does to a member

pub record Next (w : Role → ℕ) (s : List OwnState) (past : List Entry) (a : UnitName) (c : Call) (r : Reply) (f : Effect) (v : Member) : Type 0 where
  pub inv : Inv s (Done a c r f ∷ past) v
  pub cost : pot w s (Done a c r f ∷ past) v + cond (same a v.name) (1 + paid (w (plays v)) f) 0
      ≤ pot w s past v + priced w (plays v) (news s past v.name (commit_in f))

pot_next : (w : Role → ℕ) (s : List OwnState) (past : List Entry) (e : Entry) (v : Member) (b : Mind) (g : ℕ) → the_mind v (e ∷ past) ≡ b →
    given_of (own rows s (e ∷ past) v.name) ≡ g →
    pot w s (e ∷ past) v ≤ pot_of w (plays v) b g (deliveries rows s past v.name) + priced w (plays v) (news s past v.name (commit_of e))
pot_next w s past e v b g em eg =
    let r = plays v in
    let ds = deliveries rows s (e ∷ past) v.name in
    let p = ap (λ (b : Mind). pot_of w r b (given_of (own rows s (e ∷ past) v.name)) ds) em ∙ ap (λ (g : ℕ). pot_of w r b g ds) eg
    ∙ ap (pot_of w r b g) (deliveries_grow s e past v.name) in
    subst (λ (x : ℕ). x ≤ pot_of w r b g (deliveries rows s past v.name) + priced w r (news s past v.name (commit_of e))) (sym p)
    (pot_grows w r b g (deliveries rows s past v.name) (news s past v.name (commit_of e)))

sum_other : (p' p q n x : ℕ) (b : Bool) → b ≡ false → p' ≤ q + n → p ≡ q → p' + cond b x 0 ≤ p + n
sum_other p' p q n x true e h k = absurd (true≢false e)
sum_other p' p q n x false e h k = omega arith

sum_actor : (p' x y n pw u t p : ℕ) (b : Bool) → b ≡ true → p' ≤ (x + y) + n → 1 + pw + x + y ≤ u + t → p ≡ u + t → p' + cond b (1 + pw) 0 ≤ p + n
sum_actor p' x y n pw u t p false e h k l = absurd (true≢false (sym e))
sum_actor p' x y n pw u t p true e h k l = omega arith

-- one that is not the actor

elsewhere : (past : List Entry) (a : UnitName) (r : Role) (f : Effect) (u : UnitName) (k : ℕ) → IsFresh past a r f → same a u ≡ false → Elsewhere f u k
elsewhere past a r Effect.Nothing u k h e = tt
elsewhere past a r (Effect.Commit c) u k h e = inl (ap (λ (n : UnitName). same n u) h.1 ∙ e)
elsewhere past a r (Effect.Given d) u k h e = tt

pub other_step : (w : Role → ℕ) (s : List OwnState) (past : List Entry) (a : UnitName) (c : Call) (r : Reply) (f : Effect) (v : Member) (inv : Inv s past v)
    (st : OwnState) → inv.state ≡ Some st → (ro : Role) → IsFresh past a ro f → same a v.name ≡ false → Next w s past a c r f v
other_step w s past a c r f v inv st is ro fresh e =
    let em = mind_other v a c r f past e in
    let was = inv.own_is ∙ is in
    let now = own_other s past v.name a c r f st e was in
    let subs = subscriptions rows s past v.name in
    let lives : Lives v (the_mind v past) past subs (Some st) = subst (Lives v (the_mind v past) past subs) is inv.lives in
    record {
      inv = record {
        state = Some st;
        own_is = now;
        kind_is = ap (λ (b : Mind). role_of v.player.number b.kind) em ∙ inv.kind_is;
        untouched = λ k h.
            let h2 : st.events ≤ k + drafts (the_mind v past).stage = subst (λ (b : Mind). st.events ≤ k + drafts b.stage) em h in
            let none = inv.untouched k (subst (λ (o : Option OwnState). events_of o ≤ k + drafts (the_mind v past).stage) (sym is) h2) in
            contents_kept past f v.name k none (elsewhere past a ro f v.name k fresh e);
        lives = subst (λ (xs : List (ℕ × List Clause)). Lives v (the_mind v (Done a c r f ∷ past)) (Done a c r f ∷ past) xs (Some st))
            (sym (subs_other s past v.name a c r f e))
            (subst (λ (b : Mind). Lives v b (Done a c r f ∷ past) subs (Some st)) (sym em) lives);
      };
      cost = sum_other (pot w s (Done a c r f ∷ past) v) (pot w s past v) (pot_of w (plays v) (the_mind v past) st.given (deliveries rows s past v.name))
          (priced w (plays v) (news s past v.name (commit_in f))) (1 + paid (w (plays v)) f) (same a v.name) e
          (pot_next w s past (Done a c r f) v (the_mind v past) st.given em (ap given_of now))
          (ap (λ (o : Option OwnState). pot_of w (plays v) (the_mind v past) (given_of o) (deliveries rows s past v.name)) was);
    }

-- the actor

own_elsewhere : (past : List Entry) (a : UnitName) (r : Role) (f : Effect) (u : UnitName) (k : ℕ) → IsFresh past a r f → NotNumber f k → Elsewhere f u k
own_elsewhere past a r Effect.Nothing u k h e = tt
own_elsewhere past a r (Effect.Commit c) u k h e = inr e
own_elsewhere past a r (Effect.Given d) u k h e = tt

pub actor_step : (w : Role → ℕ) (s : List OwnState) (past : List Entry) (a : UnitName) (c : Call) (r : Reply) (f : Effect) (v : Member)
    (inv : Inv s past v) → Acts w s past v c r f → (ro : Role) → IsFresh past a ro f → same a v.name ≡ true → Next w s past a c r f v
actor_step w s past a c r f v inv acts ro fresh e =
    let st = acts.st in
    let mv = acts.moves in
    let b = the_mind v past in
    let b' = did b (follow_of b b.stage r) in
    let em : the_mind v (Done a c r f ∷ past) ≡ b' = mind_actor v a c r f past e in
    let st' = after v.name st c r f in
    let now = own_actor s past v.name a c r f st e acts.own_is in
    let is : inv.state ≡ Some st = sym inv.own_is ∙ acts.own_is in
    let subs' = subscriptions rows s past v.name ++ option_to_list (subscribes st c r) in
    let lives : Lives v b' (Done a c r f ∷ past) subs' (Some st') = (mv.input ∙ acts.lives.0, mv.later, mv.at) in
    record {
      inv = record {
        state = Some st';
        own_is = now;
        kind_is = ap (λ (b : Mind). role_of v.player.number b.kind) em ∙ mv.plays;
        untouched = λ k h.
            let h2 : st'.events ≤ k + drafts b'.stage = subst (λ (x : Mind). st'.events ≤ k + drafts x.stage) em h in
            let fr = mv.free k h2 in
            let none = inv.untouched k (subst (λ (o : Option OwnState). events_of o ≤ k + drafts b.stage) (sym is) fr.0) in
            contents_kept past f v.name k none (own_elsewhere past a ro f v.name k fresh fr.1);
        lives = subst (λ (xs : List (ℕ × List Clause)). Lives v (the_mind v (Done a c r f ∷ past)) (Done a c r f ∷ past) xs (Some st'))
            (sym (subs_actor s past v.name a c r f st e acts.own_is))
            (subst (λ (x : Mind). Lives v x (Done a c r f ∷ past) subs' (Some st')) (sym em) lives);
      };
      cost = sum_actor (pot w s (Done a c r f ∷ past) v) (owed w (plays v) b'.kind b'.heard b'.stage)
          (priced w (plays v) (drop st'.given (deliveries rows s past v.name))) (priced w (plays v) (news s past v.name (commit_in f))) (paid (w (plays v)) f)
          (owed w (plays v) b.kind b.heard b.stage) (priced w (plays v) (drop st.given (deliveries rows s past v.name))) (pot w s past v) (same a v.name) e
          (pot_next w s past (Done a c r f) v b' st'.given em (ap given_of now))
          mv.pays
          (ap (λ (o : Option OwnState). pot_of w (plays v) b (given_of o) (deliveries rows s past v.name)) acts.own_is);
    }

-- the regulator's instance, while it is not there

pub record IsBorn (fx : Option Fixed) (t : List (List ℕ)) (past : List Entry) (f : Effect) (st : OwnState) : Type 0 where
  pub kept : Fixed
  pub kept_is : fx ≡ Some kept
  pub begun : begin kept t ≡ st
  pub commit : Commit
  pub commits : f ≡ Effect.Commit commit
  pub chosen : is_given (Some kept) t past (Some commit) ≡ true

pub born_is : (fx : Option Fixed) (t : List (List ℕ)) (past : List Entry) (f : Effect) (st : OwnState) → born rows fx t past (commit_in f) ≡ Some st →
    IsBorn fx t past f st
born_is None t past f st h = absurd (let z : ⊥ = cc in z)
born_is (Some x) t past Effect.Nothing st h = absurd (let z : ⊥ = cc in z)
born_is (Some x) t past (Effect.Given d) st h = absurd (let z : ⊥ = cc in z)
born_is (Some x) t past (Effect.Commit k) st h = go (is_given (Some x) t past (Some k)) refl h
  where
    go : (b : Bool) → is_given (Some x) t past (Some k) ≡ b → cond b (Some (begin x t)) None ≡ Some st → IsBorn (Some x) t past (Effect.Commit k) st
    go true e h = record { kept = x; kept_is = refl; begun = (let z : begin x t ≡ st = cc in z); commit = k; commits = refl; chosen = e }
    go false e h = absurd (let z : ⊥ = cc in z)

begins_opening : (x : Fixed) → IsWatched x → IsOpening Watcher (begin x watcher_tags) [] (opening_by Watcher)
begins_opening x w = record {
  closed = inl refl;
  out = ap (λ (i : List (List ℕ)). record { s = []; i = i }) w.output_integrity;
  made = refl;
  openers = tt;
}

abbrev pub no_weight : Role → ℕ
no_weight r = 0

begins_lives : (past : List Entry) (x : Fixed) → IsWatched x → Lives watcher (moved (began watcher.player) Start) past [] (Some (begin x watcher_tags))
begins_lives past x w = (
  ap (λ (i : List (List ℕ)). record { s = watcher_tags; i = i }) w.input_integrity,
  ([], refl),
  (opens_first no_weight watcher.player watcher.name (begin x watcher_tags) (begins_opening x w)).at,
)

pub unborn_step : (w : Role → ℕ) (s : List OwnState) (past : List Entry) (a : UnitName) (c : Call) (r : Reply) (f : Effect) (inv : Inv s past watcher) →
    inv.state ≡ None → FixedOk s past → (ro : Role) → IsFresh past a ro f → same a watcher.name ≡ false → Next w s past a c r f watcher
unborn_step w s past a c r f inv is ok ro fresh e = go (born rows (fixed rows s past (2 ∷ []) 0) watcher_tags past (commit_in f)) refl
  where
    em : the_mind watcher (Done a c r f ∷ past) ≡ the_mind watcher past
    em = mind_other watcher a c r f past e

    was : own rows s past watcher.name ≡ None
    was = inv.own_is ∙ is

    lives : Lives watcher (the_mind watcher past) past (subscriptions rows s past watcher.name) None
    lives = subst (Lives watcher (the_mind watcher past) past (subscriptions rows s past watcher.name)) is inv.lives

    silent : replies_of watcher.name (Done a c r f ∷ past) ≡ []
    silent = ap (λ (b : Bool). cond b (r ∷ replies_of watcher.name past) (replies_of watcher.name past)) e ∙ lives.1

    no_subs : subscriptions rows s (Done a c r f ∷ past) watcher.name ≡ []
    no_subs = subs_other s past watcher.name a c r f e ∙ lives.2

    mind : the_mind watcher (Done a c r f ∷ past) ≡ moved (began watcher.player) Start
    mind = ap (λ (rs : List Reply). (wanted floor_brain (began watcher.player) rs).1) silent

    next_own : own rows s (Done a c r f ∷ past) watcher.name ≡ born rows (fixed rows s past (2 ∷ []) 0) watcher_tags past (commit_in f)
    next_own =
        ap (λ (b : Bool). option_or (cond b (option_map (λ st. after watcher.name st c r f) (own_instance rows s past (2 ∷ []) 0 watcher_tags))
        (own_instance rows s past (2 ∷ []) 0 watcher_tags)) (born rows (fixed rows s past (2 ∷ []) 0) watcher_tags past (commit_in f))) e
        ∙ ap (λ (o : Option OwnState). option_or o (born rows (fixed rows s past (2 ∷ []) 0) watcher_tags past (commit_in f))) was

    none : (k : ℕ) → contents (Done a c r f ∷ past) (event_of watcher.name k) ≡ []
    none k = contents_kept past f watcher.name k (inv.untouched k
        (subst (λ (o : Option OwnState). events_of o ≤ k + drafts (the_mind watcher past).stage) (sym is) (omega arith)))
        (elsewhere past a ro f watcher.name k fresh e)

    cost : (y : Option OwnState) → own rows s (Done a c r f ∷ past) watcher.name ≡ y → given_of y ≡ 0 →
        pot w s (Done a c r f ∷ past) watcher + cond (same a watcher.name) (1 + paid (w Watcher) f) 0
        ≤ pot w s past watcher + priced w Watcher (news s past watcher.name (commit_in f))
    cost y at none_given =
        sum_other (pot w s (Done a c r f ∷ past) watcher) (pot w s past watcher)
        (pot_of w Watcher (the_mind watcher past) 0 (deliveries rows s past watcher.name)) (priced w Watcher (news s past watcher.name (commit_in f)))
        (1 + paid (w Watcher) f) (same a watcher.name) e
        (pot_next w s past (Done a c r f) watcher (the_mind watcher past) 0 em (ap given_of at ∙ none_given))
        (ap (λ (o : Option OwnState). pot_of w Watcher (the_mind watcher past) (given_of o) (deliveries rows s past watcher.name)) was)

    go : (y : Option OwnState) → born rows (fixed rows s past (2 ∷ []) 0) watcher_tags past (commit_in f) ≡ y → Next w s past a c r f watcher
    go None h = record {
      inv = record {
        state = None;
        own_is = next_own ∙ h;
        kind_is = ap (λ (b : Mind). role_of 0 b.kind) em ∙ inv.kind_is;
        untouched = λ k m. none k;
        lives =
            (refl, silent, no_subs);
      };
      cost = cost None (next_own ∙ h) refl;
    }
    go (Some st) h =
        let b = born_is (fixed rows s past (2 ∷ []) 0) watcher_tags past f st h in
        let x = (ok (2 ∷ []) 0 b.kept b.kept_is).2 in
        record {
          inv = record {
            state = Some st;
            own_is = next_own ∙ h;
            kind_is = ap (λ (b : Mind). role_of 0 b.kind) em ∙ inv.kind_is;
            untouched = λ k m. none k;
            lives = subst (λ (xs : List (ℕ × List Clause)). Lives watcher (the_mind watcher (Done a c r f ∷ past)) (Done a c r f ∷ past) xs (Some st))
                (sym no_subs)
                (subst (λ (y : OwnState). Lives watcher (the_mind watcher (Done a c r f ∷ past)) (Done a c r f ∷ past) [] (Some y)) b.begun
                (subst (λ (m : Mind). Lives watcher m (Done a c r f ∷ past) [] (Some (begin b.kept watcher_tags))) (sym mind)
                (begins_lives (Done a c r f ∷ past) b.kept x)));
          };
          cost = cost (Some st) (next_own ∙ h) (ap (λ (y : OwnState). y.given) (sym b.begun));
        }
