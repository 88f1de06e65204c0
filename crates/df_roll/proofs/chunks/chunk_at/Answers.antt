use Rattle.df_roll.proofs.Names.{rules, List, ◌-◌, arith, always_returns_same, first_cmp, Seat}
use Rattle.df_roll.proofs.Spots.{partition, spot_before, spot_first, spot_found}
use Rattle.df_roll.proofs.chunks.chunk_at.Goals as goal

pub returns-in-Ok-clause-lower : goal.returns-in-Ok-clause-lower
returns-in-Ok-clause-lower c =
    let by_order = c.in-Ok.ensures.position (λ (s : List Seat). first_cmp s c.args.name.now) (always_returns_same _ _ _ (λ a r g called. search rules)) in
    (spot_found c.args.name.now c.args.chunks.now c.requires.ordered c.in-Ok.k c.in-Ok.ensures.bound by_order).lower

pub returns-in-Ok-clause-higher : goal.returns-in-Ok-clause-higher
returns-in-Ok-clause-higher c =
    let by_order = c.in-Ok.ensures.position (λ (s : List Seat). first_cmp s c.args.name.now) (always_returns_same _ _ _ (λ a r g called. search rules)) in
    (spot_found c.args.name.now c.args.chunks.now c.requires.ordered c.in-Ok.k c.in-Ok.ensures.bound by_order).higher

pub returns-in-Err-eq0-clause-higher : goal.returns-in-Err-eq0-clause-higher
returns-in-Err-eq0-clause-higher c =
    let k = c.in-Err-eq0.field-0 in
    let by_order = c.in-Err-eq0.ensures.position (λ (s : List Seat). first_cmp s c.args.name.now) (always_returns_same _ _ _ (λ a r g called. search rules)) in
    (spot_first c.args.name.now c.args.chunks.now c.requires.ordered k (partition c.args.name.now c.args.chunks.now c.requires.ordered k by_order) (omega arith)).higher

pub returns-in-Err-clause-lower : goal.returns-in-Err-clause-lower
returns-in-Err-clause-lower c =
    let k = c.in-Err.k in
    let by_order = c.in-Err.ensures.position (λ (s : List Seat). first_cmp s c.args.name.now) (always_returns_same _ _ _ (λ a r g called. search rules)) in
    (spot_before c.args.name.now c.args.chunks.now c.requires.ordered k (partition c.args.name.now c.args.chunks.now c.requires.ordered k by_order) (k - 1) (omega arith) c.in-Err.ensures.bound).lower

pub returns-in-Err-clause-higher : goal.returns-in-Err-clause-higher
returns-in-Err-clause-higher c =
    let k = c.in-Err.k in
    let by_order = c.in-Err.ensures.position (λ (s : List Seat). first_cmp s c.args.name.now) (always_returns_same _ _ _ (λ a r g called. search rules)) in
    (spot_before c.args.name.now c.args.chunks.now c.requires.ordered k (partition c.args.name.now c.args.chunks.now c.requires.ordered k by_order) (k - 1) (omega arith) c.in-Err.ensures.bound).higher
