use Rattle.std.proofs.Common.{rules, ◌∷◌, ap, sym, ◌∙◌, Some}
use Rattle.atomic_table.specs.Table.{rest}
use Rattle.df_desk.proofs.Steps.{tries}
use Rattle.df_desk.proofs.desk.Desk.try_call.Goals as goal

pub swap-held-requires : goal.swap-held-requires
swap-held-requires g c = (search rules, search rules, tries g.V.Journaled.origin g.V.Journaled.list _ _ _ _ c.requires.seat.1.0 c.requires.seat.1.1)

pub exchange-requires : goal.exchange-requires
exchange-requires g c =
    let called = c.swap-held.ensures.2.0 c.if-held-ne-NOT_HELD.false c.requires.seat.1.0 (ap (λ m. m.0) c.requires.seat.1.1) in
    let carried = ap (λ m. m.1) called.1 in
    (search rules, (Some called.0, carried ∙ ap (λ l. (0, Some called.0) ∷ rest l) (sym carried)))
