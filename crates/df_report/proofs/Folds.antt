-- Folds over parts: two lists, one behind the other, and all sums at once.
use Rattle.std.proofs.Common.{◌≡◌, List, [], ◌∷◌, ◌++◌, refl}
use Rattle.std.specs.Prelude.{codes, fold}
use Rattle.df_part.specs.declared.part.Part.{Part}
use Rattle.df_report.specs.Summing.{counted, with_trade}
use Rattle.df_report.specs.code.Tallying.{tallied}
use Rattle.df_report.specs.declared.report.Summary.{Summary}

pub fold-append : {X Y : Type 0} (f : Y → X → Y) (y : Y) (xs zs : List X) → fold f y (xs ++ zs) ≡ fold f (fold f y xs) zs
fold-append f y [] zs = refl
fold-append f y (x ∷ xs) zs = fold-append f (f y x) xs zs

-- the sums of a summary are folds of their own
pub tallied_is : (ps : List Part) (s : Summary) → fold tallied s ps ≡ record {
  ticks = fold (counted (codes "tick")) s.ticks ps;
  matches = fold (counted (codes "match")) s.matches ps;
  orders = fold (counted (codes "order")) s.orders ps;
  trades = fold (counted (codes "trade")) s.trades ps;
  quantity = fold with_trade s.quantity ps;
  warnings = fold (counted (codes "warning")) s.warnings ps;
  instances = s.instances;
}
tallied_is [] s = refl
tallied_is (p ∷ ps) s = tallied_is ps (tallied s p)
