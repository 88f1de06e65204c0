use Rattle.df_local.proofs.Names.{[], ◌∙◌, ap, sym, OwnState, Effect, with_own}
use Rattle.df_local.proofs.ReadInTurn.{read_held}
use Rattle.df_local.proofs.local.Local.read_part.Goals as goal

pub returns-in-Ok-hold_shown-clause-ok : goal.returns-in-Ok-hold_shown-clause-ok
returns-in-Ok-hold_shown-clause-ok c =
    let unit = c.args.self.now in
    let held = read_held unit.unit unit.own [] Effect.Nothing c.args.h c.args.name.now c.in-Ok.reply c.in-Ok.ensures (sym c.is_accepted.ensures ∙ c.if-not-is_accepted.false) in
    record {
      replied = c.in-Ok.ensures;
      moved = c.in-Ok-hold_shown.ensures.ok ∙ ap (λ (st : OwnState). with_own unit st) held;
    }
