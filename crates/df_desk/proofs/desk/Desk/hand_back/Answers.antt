use Rattle.std.proofs.Common.{rules, ◌≡◌, ◌∷◌, [], ap, sym, refl, ◌∙◌, Some, None}
use Rattle.atomic_table.specs.Table.{rest}
use Rattle.df_desk.proofs.Steps.{counts, frees}
use Rattle.df_desk.proofs.Passes.{nothing_in_hand}
use Rattle.df_desk.proofs.desk.Desk.hand_back.Goals as goal

pub compare_exchange_with-requires : goal.compare_exchange_with-requires
compare_exchange_with-requires g c = let v = c.requires.seat.1.0 in let sits = c.requires.seat.1.1 in (
  search rules,
  search rules,
  counts g.V.Journaled.origin g.V.Journaled.list _ _ _ _ _ _ v c.args.value _ sits (c.requires.seen v sits) c.count-count.ensures (c.requires.begins v sits),
)

pub exchange-old-requires : goal.exchange-old-requires
exchange-old-requires g c =
    let carried : c.compare_exchange_with.new.seat.me.1 ≡ (0, None) ∷ [] = ap (λ m. m.1) (c.compare_exchange_with.ensures.2 c.args.value refl) ∙ ap (λ m. m.1) c.requires.seat.1.1 in
    (search rules, (None, carried ∙ ap (λ l. (0, None) ∷ rest l) (sym carried)))

pub unreachable-requires : goal.unreachable-requires
unreachable-requires g c =
    let carried : c.compare_exchange_with.new.seat.me.1 ≡ (0, None) ∷ [] = ap (λ m. m.1) (c.compare_exchange_with.ensures.2 c.args.value refl) ∙ ap (λ m. m.1) c.requires.seat.1.1 in
    nothing_in_hand _ _ _ _ carried c.exchange-old.ensures.2 c.in_default.is

pub swap-requires : goal.swap-requires
swap-requires g c =
    let counted = c.compare_exchange_with.ensures.2 c.args.value refl in
    let carried : c.compare_exchange_with.new.seat.me.1 ≡ (0, None) ∷ [] = ap (λ m. m.1) counted ∙ ap (λ m. m.1) c.requires.seat.1.1 in (
      search rules,
      search rules,
      frees g.V.Journaled.origin g.V.Journaled.list _ _ _ _ c.args.value c.self.invariant.1 (c.exchange-old.ensures.3 ∙ λ i. ((counted i).0, (0, Some c.args.value) ∷ rest (carried i))),
    )

pub returns-clause-seat : goal.returns-clause-seat
returns-clause-seat g c =
    let counted = c.compare_exchange_with.ensures.2 c.args.value refl in
    c.swap.ensures.2 c.args.value (ap (λ m. m.0) c.exchange-old.ensures.3 ∙ ap (λ m. m.0) counted)
