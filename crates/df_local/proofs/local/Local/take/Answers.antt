use Rattle.df_local.proofs.Names.{◌≡◌, OnOk, ◌∙◌, ap, sym, subst, OwnState, after, reply, Call, Effect, Reply, with_own}
use Rattle.df_local.proofs.ReadInTurn.{read_held}
use Rattle.df_local.proofs.local.Local.take.Goals as goal

pub returns-in-ReadPart-clause-ok : goal.returns-in-ReadPart-clause-ok
returns-in-ReadPart-clause-ok c =
    let unit = c.args.self.now in
    let r = c.args.reply.now in
    let f = c.args.effect.now in
    let told = sym (ap (λ (a : Reply × Effect). a.0) c.requires.right.1) ∙ ap (λ (call : Call). reply unit.unit unit.own c.requires.right.0 call) c.in-ReadPart.is in
    let held = read_held unit.unit unit.own c.requires.right.0 f _ _ r told (sym c.is_accepted.ensures ∙ c.if-not-is_accepted.false) in
    let P : OwnState → Type 0 = λ st. OnOk c.hold_shown.result (c.hold_shown.new.self ≡ with_own unit st) in
    subst P (held ∙ ap (λ (call : Call). after unit.unit unit.own call r f) (sym c.in-ReadPart.is)) c.hold_shown.ensures.ok
