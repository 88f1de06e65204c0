-- An index may cross threads where its filters may.
use denote.RattleType.{RattleType}
use denote.Param.Send.{IsSend, sendable}
use Rattle.std.proofs.Crossing.{crosses}
use Rattle.std.proofs.MapsCrossing.{crosses as maps}
use Rattle.df_index.specs.contracts.index.Index as Index
use Rattle.df_index.specs.contracts.listing.Listing as Listing
use Rattle.df_index.specs.contracts.marks.Marks as Marks
use Rattle.df_index.specs.contracts.listing.Places as Places
use Rattle.df_index.specs.contracts.receivers.Receivers as Receivers
use Rattle.df_index.specs.contracts.subscription.Subscription as Subscription
use Rattle.df_index.specs.declared.listed.Listed.{Ghosts}
use Rattle.df_sendable.proofs.Records.{record_send}
use Rattle.df_sendable.proofs.Values.{values}

pub receivers_send : IsSend Receivers.the_row
receivers_send = search (sendable, crosses) depth 40 fits 20000

pub marks_send : IsSend Marks.the_row
marks_send = search (receivers_send, sendable, crosses) depth 40 fits 20000

pub places_send : IsSend Places.the_row
places_send = search (sendable, crosses) depth 40 fits 20000

module _ (F : RattleType) (g : Ghosts F.Denot) (filter : IsSend F) where
  pub subscription_send : IsSend (Subscription.the_row F)
  subscription_send = record_send (Subscription.the_type F) (search (filter, sendable, crosses) depth 40)

  pub listing_send : IsSend (Listing.the_row F g)
  listing_send = search (subscription_send, places_send, values, maps, sendable, crosses) depth 40 fits 20000

  pub index_send : IsSend (Index.the_row F g)
  index_send = search (listing_send, marks_send, values, sendable, crosses) depth 40 fits 20000
