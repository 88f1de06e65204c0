use Rattle.std.proofs.Common.{rules, ap, sym, ◌∙◌, false}
use Rattle.df_desk.specs.declared.view.View.TheVariants.{Idle}
use Rattle.df_desk.specs.Plays.{joined_view, longer_value}
use Rattle.df_desk.specs.Pass.{longer_list}
use Rattle.df_desk.proofs.Steps.{joins, compares}
use Rattle.df_desk.proofs.Passes.{seen_list-settled_seat, list-longer_value, seen_list-begins, desk_of-begins}
use Rattle.df_desk.proofs.desk.Desk.unite.Goals as goal

pub join_seat-requires : goal.join_seat-requires
join_seat-requires g c = let one = c.requires.seat.1 in let two = c.requires.other.1 in (
  search rules,
  search rules,
  ap (λ m. m.1) two.1,
  search rules,
  joins g.V.Journaled.origin g.V.Journaled.list _ _ _ _ _ one.0 two.0 (ap (λ m. m.0) one.1) (ap (λ m. m.0) two.1),
)

pub load-requires : goal.load-requires
load-requires g c = let one = c.requires.seat.1 in let two = c.requires.other.1 in (
  search rules,
  search rules,
  compares g.V.Journaled.origin g.V.Journaled.list _ _ _ _ one.0 two.0 _ (c.join_seat.ensures.2 ∙ λ i. (joined_view ((one.1 i).0) ((two.1 i).0), (one.1 i).1)),
)

pub returns : goal.returns
returns g c =
    let list = g.V.Journaled.list in
    let v = c.requires.seat.1.0 in
    let w = c.requires.other.1.0 in
    let one = c.requires.seat.1.1 in
    let two = c.requires.other.1.1 in
    let both = c.join_seat.ensures.2 ∙ λ i. (joined_view ((one i).0) ((two i).0), (one i).1) in
    let compared = c.load.ensures.2 v w (ap (λ m. m.0) both) in
    let after = compared.0 ∙ ap (λ m. (Idle (longer_value list v w), m.1)) both in
    record {
      seat = (longer_value list v w, after);
      desk = desk_of-begins g.V.Journaled.origin list false false v _ _ _ _ _ one after compared.1 (c.load.ensures.0 ∙ c.join_seat.ensures.0);
      seen = seen_list-settled_seat list false _ _ after ∙ (list-longer_value list v w ∙ λ i. longer_list (sym (seen_list-settled_seat list false v _ one) i) (sym (seen_list-settled_seat list false w _ two) i));
      this = seen_list-begins list false false v _ _ _ one after compared.1.1;
      that = seen_list-begins list false false w _ _ _ two after compared.2.1;
    }
