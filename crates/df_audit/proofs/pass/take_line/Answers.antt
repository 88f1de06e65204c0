use Rattle.df_audit.proofs.Names.{◌≡◌, [], ◌∷◌, true, sym, subst, IfOk-weaker, CursorState, Root, IsSoFar, TakesOne}
use Rattle.df_audit.proofs.pass.take_line.Goals as goal

pub returns : goal.returns
returns c =
    let line = c.in-Some.line in
    let same : c.root_call.new.self ≡ c.args.cursor.now = c.root_call.ensures.same in
    IfOk-weaker c.take_call-ended.result _ _
    (λ ended takes roots bytes read so.
    subst
    (λ (cursor : CursorState). TakesOne c.args.wanted.now roots bytes read cursor ended c.take_call-ended.new.cursor c.take_call-ended.new.behind.tables
    c.take_call-ended.new.made.count c.take_call-ended.new.made.text.items)
    same
    (takes roots bytes read (Root (line.root ∷ []))
    (subst
    (λ (cursor : CursorState). IsSoFar c.args.wanted.now roots bytes read cursor c.args.behind.now.tables c.args.made.now.count c.args.made.now.text.items)
    (sym same) so)
    (record { seated = c.root-place.ensures; fits = c.in-Some.ensures.fits; spelled = c.in-Some.ensures.words })
    (subst (λ (cursor : CursorState). cursor.has_notes ≡ true) (sym same) c.requires.notes)))
    c.take_call-ended.ensures
