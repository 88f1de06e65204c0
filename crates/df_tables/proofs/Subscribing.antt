-- An answered call makes the subscription that its reply numbers.
use Rattle.df_tables.proofs.Names.{◌≡◌, ℕ, List, Bool, true, false, if◌then◌else◌, refl, ap, ◌∙◌, eq-eqb, Clause, OwnState, subscribes, Call, Subscribe, Effect, Reply, Sub, IsAnswered, Unit}
use Rattle.std.specs.Prelude.{◌==◌}
use Rattle.df_tables.specs.Moves.{made_by}

-- the number of a subscription that is answered is the unit's next
pub next_number : (b c : Bool) (m n : ℕ) (r : Reply) → (if b then Reply.NotInManaged else if c then Reply.TooManySubs else Sub m) ≡ Sub n → n ≡ m
next_number true c m n r e = absurd (let z : ⊥ = cc in z)
next_number false true m n r e = absurd (let z : ⊥ = cc in z)
next_number false false m n r e = cc

subscribes-by : (st : OwnState) (filter : List Clause) (r : Reply) → ((n : ℕ) → r ≡ Sub n → n ≡ st.subs) → subscribes st (Subscribe filter) r ≡ made_by (Subscribe filter) r
subscribes-by st filter (Sub n) h = let e : (n == st.subs) ≡ true = eq-eqb n st.subs (h n refl) in rw e refl
subscribes-by st filter _ h = refl

pub subscribes_made : (c : Call) (r : Reply) (f : Effect) (u : Unit) → IsAnswered c r f u → subscribes u.local.own c r ≡ made_by c r
subscribes_made (Subscribe filter) r f u e = subscribes-by u.local.own filter r (λ n h. next_number _ _ u.local.own.subs n r (ap (λ (p : Reply × Effect). p.0) e ∙ h))
subscribes_made _ r f u e = refl
