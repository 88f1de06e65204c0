use Rattle.df_value_text.proofs.Names.{[], ◌∷◌, refl, sym, ◌∙◌, failed_is, as_at, behind_at, auth_at, minus_of, plus_of}
use Rattle.df_value_text.proofs.Loops.{either_behind, fails_by}
use Rattle.df_value_text.proofs.label_reader.right_at.Goals as goal

pub returns-in_err-auth : goal.returns-in_err-auth
returns-in_err-auth c =
    let plus = either_behind 43 (as_at plus_of auth_at) (behind_at (45 ∷ []) (as_at minus_of auth_at)) c.args.bytes.now c.args.at
    (sym c.byte_stands.ensures ∙ c.if-byte_stands.true) in
    rw (failed_is _ c.from_residual.ensures.1) (fails_by c.in_err-auth.field-0.0 c.args.bytes.now _ _ (λ stop e. plus ∙ rw e refl) c.in_err-auth.ensures)

pub returns-then-auth : goal.returns-then-auth
returns-then-auth c =
    let plus = either_behind 43 (as_at plus_of auth_at) (behind_at (45 ∷ []) (as_at minus_of auth_at)) c.args.bytes.now c.args.at
    (sym c.byte_stands.ensures ∙ c.if-byte_stands.true) in
    (c.in_ok-auth.ensures.0, plus ∙ rw (c.in_ok-auth.ensures.1, c.if-auth.true) refl)

pub returns-else-auth : goal.returns-else-auth
returns-else-auth c =
    let plus = either_behind 43 (as_at plus_of auth_at) (behind_at (45 ∷ []) (as_at minus_of auth_at)) c.args.bytes.now c.args.at
    (sym c.byte_stands.ensures ∙ c.if-byte_stands.true) in
    (c.in_ok-auth.ensures.0, plus ∙ rw (c.in_ok-auth.ensures.1, c.if-auth.false) refl)
