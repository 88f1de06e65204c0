use Rattle.std.proofs.Common.{◌≡◌, take}
use Rattle.df_index.proofs.listing.Listing.copy.Given as goal

abbrev pub invariant-loop-subscription : goal.invariant-loop-subscription
invariant-loop-subscription g l = l.copy ≡ take l.subscription-index l.subscriptions
