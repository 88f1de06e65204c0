-- Which calls make neither managed subscriptions nor units.
use Rattle.df_tables.proofs.Names.{◌≡◌, None, refl, rows, Call, Instantiate, SubscribeManaged, Reply, Sub, MakesNoManaged, MakesNoUnit, child_by, managed_sub_by}
use Rattle.df_unit.specs.declared.reply.Reply.TheVariants.{Unit}

pub unmanaged_makes_none : (c : Call) (r : Reply) → managed_sub_by c r ≡ None → MakesNoManaged rows c r
unmanaged_makes_none (SubscribeManaged filter) (Sub n) e = absurd (let z : ⊥ = cc in z)
unmanaged_makes_none (SubscribeManaged filter) _ e = λ st n. refl
unmanaged_makes_none _ r e = λ st n. refl

pub childless_makes_none : (c : Call) (r : Reply) → child_by c r ≡ None → MakesNoUnit rows c r
childless_makes_none (Instantiate s privileges) (Unit n) e = absurd (let z : ⊥ = cc in z)
childless_makes_none (Instantiate s privileges) _ e = λ st k. refl
childless_makes_none _ r e = λ st k. refl
