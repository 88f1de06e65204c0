use Rattle.df_tables.proofs.Names.{◌≡◌, ◌+◌, ◌++◌, [], ◌∷◌, List, slice_get, take, ap, sym, ◌∙◌, arith, flat_map_more, take_all, take_more, Pair, Instance, birth_of, births_by, pair_of, pairs_by, Unit}
use Rattle.df_tables.proofs.board.Board.called.Goals as goal

pub loop-instance-preserved : goal.loop-instance-preserved
loop-instance-preserved c =
    let kept = c.loop-instance.invariant in
    let b = c.args.self.now in
    let xs : List Instance = c.as_slice-instance-items.result.now in
    let x : Instance = c.instance-item.result in
    let k = c.loop-instance.instance-index in
    let f : Instance → List Pair = λ y. pair_of b.rows.items b.marks.handed c.args.event (slice_get b.managed y.place) y.s in
    let g : Instance → List Unit = λ y. birth_of b.rows.items c.args.commit.now.event c.args.after.now (slice_get b.managed y.place) y.s in
    let more : take (k + 1) xs ≡ take k xs ++ x ∷ [] = take_more xs k x (omega arith) ∙ ap (λ (y : Instance). take k xs ++ y ∷ []) (sym c.instance-item.is) in record {
      newborn = c.in_ok-call_one.ensures.newborn;
      pairs = c.in_ok-call_one.ensures.pairs ∙ ap (λ (l : List Pair). l ++ f x) kept.pairs ∙ flat_map_more f [] (take k xs) x
          ∙ ap (pairs_by b.rows.items b.managed b.marks.handed c.args.event) (sym more);
      born = c.in_ok-call_one.ensures.born ∙ ap (λ (l : List Unit). l ++ g x) kept.born ∙ flat_map_more g [] (take k xs) x
          ∙ ap (births_by b.rows.items b.managed c.args.commit.now.event c.args.after.now) (sym more);
    }

pub returns : goal.returns
returns c =
    let kept = c.loop-instance.invariant in
    let b = c.args.self.now in
    let xs : List Instance = c.as_slice-instance-items.result.now in
    let all : take c.loop-instance.instance-index xs ≡ c.in_ok-instances.instances = take_all c.loop-instance.instance-index xs (omega arith) ∙ c.as_slice-instance-items.ensures in record {
      instances = c.in_ok-instances.instances;
      ascending = c.in_ok-instances.ensures.ascending;
      chosen = c.in_ok-instances.ensures.chosen;
      pairs = kept.pairs ∙ ap (pairs_by b.rows.items b.managed b.marks.handed c.args.event) all;
      born = kept.born ∙ ap (births_by b.rows.items b.managed c.args.commit.now.event c.args.after.now) all;
      newborn = kept.newborn;
    }
