use Rattle.df_audit.proofs.Names.{[], ◌∷◌, sym, IfOk-weaker, Root}
use Rattle.df_audit.proofs.pass.take_next.Goals as goal

pub returns-in-Some : goal.returns-in-Some
returns-in-Some c =
    let line = c.in-Some.line in
    IfOk-weaker c.take_call.result _ _
    (λ ended takes roots bytes read so.
    takes roots bytes read (Root (line.root ∷ [])) so
    (record { seated = c.root-place.ensures; fits = c.in-Some.ensures.fits; spelled = c.in-Some.ensures.words }) (sym c.if-not-has_notes.ensures))
    c.take_call.ensures

pub returns : goal.returns
returns c = c.take_line.ensures
