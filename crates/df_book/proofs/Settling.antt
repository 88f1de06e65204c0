-- The place of each fill is taken.
use Rattle.std.proofs.Common.{◌≡◌, ℕ, List, ◌∷◌, not, sym, ◌∙◌, ap}
use Rattle.std.specs.Prelude.{string_bytes}
use Rattle.df_book.specs.declared.order.Order.{Order}
use Rattle.df_book.specs.declared.place.Place.{Place}
use Rattle.df_book.specs.declared.place.Rest.{Rest}
use Rattle.df_book.specs.declared.plan.Fill.{Fill}
use Rattle.df_book.specs.code.Places.{by_arrival, IsInOrder, AreFills, IsTaken}
use Rattle.df_book.proofs.Planned.{next_fill}
use Rattle.df_book.proofs.Spans.{symbol_met, side_met}
use Rattle.df_book.proofs.Standing.{found_at}

pub place_taken : (o : Order) (m : ℕ) (f : Fill) (fs : List Fill) (es : List (Place × Rest)) (p : Place) → IsInOrder 0 m (by_arrival es) → AreFills o (f ∷ fs) (by_arrival es) →
    string_bytes p.symbol ≡ o.symbol → p.sell ≡ not o.sell → p.rank ≡ f.rank → p.arrival ≡ f.arrival → IsTaken p es
place_taken o m f fs es p i a s d r b =
    let n = next_fill o m f fs (by_arrival es) i a in
    found_at n.head p es
    (record {
      symbol = s ∙ symbol_met o n.head.1 n.heads.meets;
      sell = d ∙ sym (side_met o n.head.1 n.heads.meets);
      rank = r ∙ ap (λ (g : Fill). g.rank) n.fill;
      arrival = b ∙ ap (λ (g : Fill). g.arrival) n.fill;
    })
    n.heads.found
