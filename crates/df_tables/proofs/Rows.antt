-- The row of a unit after an entry.
use Rattle.df_tables.proofs.Names.{◌≡◌, ℕ, ◌+◌, ◌≤◌, zero, suc, List, [], ◌∷◌, ◌++◌, None, length, drop, refl, ap, sym, ◌∙◌, arith, length-append, add-one, drop-nil, drop-append-le, commit_in, TakingLaws, left, Rules, OwnState, Call, Commit, Given, Effect, UnitName, Reply, IsRow, with_news, moved_row, Unit}

drop-one : {X : Type 0} (k : ℕ) (xs : List X) → drop 1 (drop k xs) ≡ drop (k + 1) xs
drop-one zero [] = refl
drop-one zero (x ∷ xs) = refl
drop-one (suc k) [] = rw (add-one, drop-nil)
drop-one (suc k) (x ∷ xs) = rw (add-one (suc k)) (drop-one k xs ∙ ap (λ m. drop m xs) (add-one k))

-- where something is left, there is more than was dropped
drop_some : {X : Type 0} (k : ℕ) (xs : List X) (y : X) (ys : List X) → drop k xs ≡ y ∷ ys → k + 1 ≤ length xs
drop_some zero [] y ys e = absurd (cc)
drop_some zero (x ∷ xs) y ys e = omega arith
drop_some (suc k) [] y ys e = absurd (cc)
drop_some (suc k) (x ∷ xs) y ys e = let h = drop_some k xs y ys e in omega (arith, h)

-- a row that is given something more
row_more : (n : UnitName) (st st' : OwnState) (ds news : List Given) (u u' : Unit) → IsRow n st ds u → st'.given ≡ st.given → u'.local.unit ≡ n → u'.local.own ≡ st' → u'.line.left ≡ u.line.left ++ news → IsRow n st' (ds ++ news) u'
row_more n st st' ds news u u' row given unit own left = record {
  unit = unit;
  own = own;
  left = left ∙ ap (λ (l : List Given). l ++ news) row.left ∙ sym (drop-append-le st.given ds news row.taken) ∙ ap (λ k. drop k (ds ++ news)) (sym given);
  taken = let b = row.taken in let e = length-append ds news in omega (arith, given, b, e);
}

-- another unit's row with news
pub row_news : (given : Unit → List Given) (n : UnitName) (st : OwnState) (ds news : List Given) (u : Unit) → given u ≡ news → IsRow n st ds u → IsRow n st (ds ++ news) (with_news given u)
row_news given n st ds news u is row = row_more n st st ds news u (with_news given u) row refl row.unit row.own (ap (λ (l : List Given). u.line.left ++ l) is)

module _ (R : Rules) (s : List OwnState) (laws : TakingLaws R s) where
  after_is : (n : UnitName) (st : OwnState) (ds : List Given) (u : Unit) (c : Call) (r : Reply) (f : Effect) → IsRow n st ds u → R.after u.local.unit u.local.own c r f ≡ R.after n st c r f
  after_is n st ds u c r f row = ap (λ (m : UnitName). R.after m u.local.own c r f) row.unit ∙ ap (λ (x : OwnState). R.after n x c r f) row.own

  -- the actor's row after an entry that commits nothing
  pub row_plain : (n : UnitName) (st : OwnState) (ds : List Given) (u : Unit) (c : Call) (r : Reply) (f : Effect) → commit_in f ≡ None → R.answer n st (left st ds) c ≡ (r, f) → IsRow n st ds u → IsRow n (R.after n st c r f) ds (moved_row R c r f u)
  row_plain n st ds u c r Effect.Nothing h right row = record {
    unit = row.unit;
    own = after_is n st ds u c r Effect.Nothing row;
    left = row.left ∙ ap (λ k. drop k ds) (sym (laws.leaves n st (left st ds) c r Effect.Nothing right refl));
    taken = let b = row.taken in let g = laws.leaves n st (left st ds) c r Effect.Nothing right refl in omega (arith, b, g);
  }
  row_plain n st ds u c r (Effect.Commit k) h right row = absurd (let z : ⊥ = cc in z)
  row_plain n st ds u c r (Effect.Given d) h right row =
      let t = laws.takes n st (left st ds) c r d right in
      let more = drop_some st.given ds d t.0 t.1 in record {
        unit = row.unit;
        own = after_is n st ds u c r (Effect.Given d) row;
        left = ap (λ (l : List Given). drop 1 l) row.left ∙ drop-one st.given ds ∙ ap (λ k. drop k ds) (sym t.2);
        taken = let g = t.2 in omega (arith, g, more);
      }

  -- the actor's row after its commit
  pub row_commit : (given : Unit → List Given) (n : UnitName) (st : OwnState) (ds news : List Given) (u : Unit) (c : Call) (r : Reply) (k : Commit) → R.answer n st (left st ds) c ≡ (r, Effect.Commit k) → given u ≡ news → IsRow n st ds u →
      IsRow n (R.after n st c r (Effect.Commit k)) (ds ++ news) (moved_row R c r (Effect.Commit k) (with_news given u))
  row_commit given n st ds news u c r k right is row =
      row_more n st (R.after n st c r (Effect.Commit k)) ds news u (moved_row R c r (Effect.Commit k) (with_news given u)) row
      (laws.leaves n st (left st ds) c r (Effect.Commit k) right refl) row.unit (after_is n st ds u c r (Effect.Commit k) row) (ap (λ (l : List Given). u.line.left ++ l) is)
