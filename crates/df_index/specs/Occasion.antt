-- To whom an event is to be handed on an occasion.
use Rattle.std.specs.Prelude.{Bool, List}
use Rattle.df_part.specs.declared.part.Part.{Part}
use Rattle.df_index.specs.Due.{IsDue, Pair, is_due}
use Rattle.df_index.specs.declared.due.Occasion.{Occasion}
use Rattle.df_index.specs.declared.subscription.Subscription.{Subscription}

-- whether the event is to be handed to the subscription
abbrev pub is_due_on : {F : Type 0} → (F → List Part → Bool) → Occasion → Subscription F → Bool
is_due_on matches o s = is_due matches o.labels.now o.handed.now o.contents.now o.edit.now s

-- one of the subscriptions has this pair, and the event is to be handed to it
abbrev pub IsDueOn : {F : Type 0} → (F → List Part → Bool) → Occasion → List (Subscription F) → Pair
    → Type 0
IsDueOn matches o subscriptions p =
    IsDue matches o.labels.now o.handed.now o.contents.now o.edit.now subscriptions p
