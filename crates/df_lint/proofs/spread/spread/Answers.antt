use Rattle.df_lint.proofs.Names.{inl, ◌≡◌, ℕ, ◌<◌, List, [], ◌∷◌, ◌++◌, Option, option_to_list, ap, sym, subst, ◌∙◌, length, arith, Contains, Contains-append_left, Contains-push, rows_of, IsSeen}
use Rattle.df_lint.proofs.Attaching.{seen_first}
use Rattle.df_lint.proofs.Growing.{all_over_rows, rows_within, seen_popped, settled_at_end, nothing_left}
use Rattle.df_lint.proofs.spread.spread.Goals as goal

pub loop-root-init : goal.loop-root-init
loop-root-init c = record {
  table = c.requires;
  count = (λ i. length (rows_of c.args.tags.now c.args.rows.now.items));
  had = λ k p m. m;
  least = λ g passes has. has;
  in_range = λ k m. let lt = c.in_ok-waiting.ensures.only k m in subst (λ n. k < n) c.requires.count lt;
  within = rows_within (rows_of c.args.tags.now c.args.rows.now.items);
  seen = λ j k j_lt k_lt. seen_first c.args.roots.now c.args.tags.now c.args.rows.now.items c.in_ok-waiting.waiting.items c.in_ok-waiting.ensures.all j k;
}

pub settle_all-requires-clause-root : goal.settle_all-requires-clause-root
settle_all-requires-clause-root c =
    let popped : c.loop-root.waiting.items ≡ c.pop.new.self.items ++ c.in-Some.root ∷ [] = c.pop.ensures.items ∙ ap (λ (o : Option ℕ). c.pop.new.self.items ++ option_to_list o) c.in-Some.is in
    c.loop-root.invariant.in_range c.in-Some.root (subst (λ (xs : List ℕ). Contains xs c.in-Some.root) (sym popped) (Contains-push c.pop.new.self.items c.in-Some.root))

pub loop-root-preserved : goal.loop-root-preserved
loop-root-preserved c =
    let root = c.in-Some.root in
    let left = c.pop.new.self.items in
    let before = c.loop-root.invariant in
    let popped : c.loop-root.waiting.items ≡ left ++ root ∷ [] = c.pop.ensures.items ∙ ap (λ (o : Option ℕ). left ++ option_to_list o) c.in-Some.is in
    let step = c.in_ok-settle_all.ensures.extends in
    record {
      table = c.in_ok-settle_all.ensures.table;
      count = step.count ∙ before.count;
      had = λ k p m. step.had k p (before.had k p m);
      least = λ g passes has. step.least g passes (before.least g passes has);
      in_range = step.in_range (λ k m. before.in_range k (subst (λ (xs : List ℕ). Contains xs k) (sym popped) (Contains-append_left left (root ∷ []) k m)));
      within = step.within (all_over_rows (rows_of c.args.tags.now c.args.rows.now.items)) before.within;
      seen = λ j k j_lt k_lt. seen_popped c.args.roots.now root (rows_of c.args.tags.now c.loop-root.rows.items) left (rows_of c.args.tags.now c.settle_all.new.rows.items) c.settle_all.new.waiting.items step c.in_ok-settle_all.ensures.seen j k j_lt k_lt
          (subst (λ (xs : List ℕ). IsSeen c.args.roots.now (rows_of c.args.tags.now c.loop-root.rows.items) xs j k) popped (before.seen j k j_lt k_lt));
    }

pub returns-clause-spread : goal.returns-clause-spread
returns-clause-spread c =
    let before = c.loop-root.invariant in
    let none : c.loop-root.waiting.items ≡ [] = nothing_left c.loop-root.waiting.items (let e = c.in_default.ensures.cases.0 in omega arith) in
    record {
      count = before.count;
      had = before.had;
      least = before.least;
      settled = λ j k j_lt k_lt. settled_at_end c.args.roots.now (rows_of c.args.tags.now c.loop-root.rows.items) j k (subst (λ (xs : List ℕ). IsSeen c.args.roots.now (rows_of c.args.tags.now c.loop-root.rows.items) xs j k) none (before.seen j k j_lt k_lt));
    }
