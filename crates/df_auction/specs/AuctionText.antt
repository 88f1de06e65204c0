-- The lines that an auction of each symbol writes.
use Rattle.std.specs.Prelude.{◌≡◌, ◌≢◌, ℕ, Bool, List, [], ◌∷◌, ◌++◌, Option, Some, None, ℤ, codes, All}
use Rattle.std.specs.List.{flat_map}
use Rattle.std.specs.Fmt.{decimal, signed_decimal}
use Rattle.std.specs.Ordering.{is_lt, nat_cmp}
use Rattle.std.specs.Cmp.Lexicographic.{slice_cmp}
use Rattle.df_book.specs.declared.order.Order.{Order}
use Rattle.df_book.specs.declared.trade.Trade.{Trade}
use Rattle.df_auction.specs.declared.outcome.Auction.{Auction}
use Rattle.df_auction.specs.Ranking.{ranked}
use Rattle.df_auction.specs.Auction.{Settles}
use Rattle.df_auction.specs.OrderFile.{IsOrderFile}

-- the line of the price
abbrev pub price_line : Option ℤ → List ℕ
price_line None = codes "price none\n"
price_line (Some p) = codes "price " ++ signed_decimal p ++ codes "\n"

-- the line of a trade
abbrev pub trade_line : Trade → List ℕ
trade_line t =
    codes "trade " ++ decimal t.buyer ++ codes " " ++ decimal t.seller
    ++ codes " " ++ signed_decimal t.qty ++ codes "\n"

-- the lines of an auction: symbol, price, volume, split, and one for each trade
abbrev pub auction_lines : List ℕ → Auction → List ℕ
auction_lines symbol a =
    codes "symbol " ++ symbol ++ codes "\n"
    ++ price_line a.price
    ++ (codes "volume " ++ signed_decimal a.volume ++ codes "\n")
    ++ (codes "split " ++ signed_decimal a.split ++ codes "\n")
    ++ flat_map trade_line a.trades

-- the lines of the auction of one symbol's orders are appended
abbrev pub AppendsMarket : List Order → List ℕ → List ℕ → Type 0
AppendsMarket market old new =
    (o : Order) (same : List Order) → market ≡ o ∷ same
    → (a : Auction) × Settles market a × (new ≡ old ++ auction_lines o.symbol a)

-- the order of symbols
abbrev pub symbol_below : Order → Order → Bool
symbol_below x y = is_lt (slice_cmp nat_cmp x.symbol y.symbol)

-- the first of these orders, if there is one, is of another symbol
abbrev pub BeginsWithout : List ℕ → List Order → Type 0
BeginsWithout symbol [] = Unit {0}
BeginsWithout symbol (o ∷ orders) = o.symbol ≢ symbol

-- the lines of the auctions of orders that stand by symbol: those of one symbol are one auction
pub data AreLines : List Order → List ℕ → Type 0 where
  none : AreLines [] []
  auction : (o : Order) (same others : List Order) (a : Auction) (lines : List ℕ)
      → All (λ x. x.symbol ≡ o.symbol) same
      → BeginsWithout o.symbol others
      → Settles (o ∷ same) a
      → AreLines others lines
      → AreLines (o ∷ (same ++ others)) (auction_lines o.symbol a ++ lines)

-- the text of orders: by symbol, ascending, the orders of each in the order in which they came
abbrev pub IsText : List Order → List ℕ → Type 0
IsText orders text = AreLines (ranked symbol_below orders) text

-- the text of the orders of a file
abbrev pub IsTextOfFile : List ℕ → List ℕ → Type 0
IsTextOfFile bytes text = (orders : List Order) × IsOrderFile bytes orders × IsText orders text
