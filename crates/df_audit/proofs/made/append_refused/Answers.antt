use Rattle.df_audit.proofs.Names.{subst, OnOk, Call, Enters}
use Rattle.df_audit.proofs.made.append_refused.Goals as goal

pub returns : goal.returns
returns g c =
    let told = c.append_alone-appended in
    subst
    (λ (call : Call). OnOk told.result (Enters c.args.place c.args.words.now call c.args.note.now (g.H.Hears.heard c.args.to.now told.new.to) c.args.tables.now
    told.new.tables c.args.text.now.items told.new.text.items))
    c.call-call.ensures
    told.ensures
