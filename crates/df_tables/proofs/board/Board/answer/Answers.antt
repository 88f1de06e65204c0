use Rattle.df_tables.proofs.Names.{◌≡◌, List, [], ◌∷◌, Option, slice_get, refl, ap, ◌∙◌, option_to_list, NoMemory, row_answer, LocalState, Answer, Call, Get, Given, Effect, Reply}
use Rattle.std.specs.Prelude.{Result, Ok, Err, IfOk}
use Rattle.df_tables.proofs.board.Board.answer.Goals as goal

-- an answer looks at no delivery but the first
first_only : (l : LocalState) (left : List Given) (c : Call) → row_answer l (option_to_list (slice_get left 0)) c ≡ row_answer l left c
first_only l [] c = refl
first_only l (d ∷ left) Get = refl
first_only l (d ∷ left) _ = refl

-- an answer by its reply and its effect
both : (r : Result Answer NoMemory) (x : Reply) (f : Effect) (told : Reply × Effect) → (let p : Reply × Effect = (x, f) in p) ≡ told → IfOk r (λ a. a.reply ≡ x) → IfOk r (λ a. a.effect ≡ f) →
    IfOk r (λ a. (let p : Reply × Effect = (a.reply, a.effect) in p) ≡ told)
both (Ok a) x f told e p q = (λ i. (p i, q i)) ∙ e
both (Err e) x f told h p q = tt

pub returns-in-Some : goal.returns-in-Some
returns-in-Some c =
    let u = c.in-Some.unit.now in
    let call = c.args.call.now in
    let told = ap (λ (next : Option Given). row_answer u.local (option_to_list next) call) c.first.ensures ∙ first_only u.local u.line.left call in
    rw (← c.in-Some.ensures) (both c.answer.result _ _ (row_answer u.local u.line.left call) told c.answer.ensures.reply c.answer.ensures.effect)
