use Rattle.df_floor_run.proofs.Names.{List, subst, ◌∙◌, Err, IfOk, Ok, Result, IsPrefix, IsMore, seen_of, Entry}
use Rattle.df_floor_run.proofs.Works.{more_of}
use Rattle.df_floor_run.proofs.workers.serve.Goals as goal

-- what follows of two things that hold where it is Ok
both : {T E : Type 0} (r : Result T E) (P Q S : T → Type 0) → ((x : T) → P x → Q x → S x) → IfOk r P → IfOk r Q → IfOk r S
both (Ok x) P Q S f p q = f x p q
both (Err e) P Q S f p q = tt

pub returns-in-Ok : goal.returns-in-Ok
returns-in-Ok g c = both c.serve_hub.result _ _ (λ after. IsMore c.args.crew after)
    (λ after origin begins. more_of c.args.crew after (origin ∙ c.in-Ok.ensures.origin)
    (subst (λ (es : List Entry). IsPrefix es (seen_of after)) c.in-Ok.ensures.new.0 begins))
    c.serve_hub.ensures.origin c.serve_hub.ensures.begins
