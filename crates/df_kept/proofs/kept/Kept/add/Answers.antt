use Rattle.std.proofs.Common.{◌≡◌, ◌++◌, ◌∷◌, [], List, sym, ap, subst, ◌∙◌, Some, None, cond, length}
use Rattle.std.specs.Option.{option_or}
use Rattle.df_roll.specs.Roll.{seat_of}
use Rattle.df_roll.specs.declared.seat.Seat.{Seat}
use Rattle.df_unit.specs.Name.{same}
use Rattle.df_unit.specs.declared.name.UnitName.{UnitName}
use Rattle.df_kept.specs.Kept.{AreKept, IsPlace, KeptState, kept_at}
use Rattle.df_kept.proofs.Keeping.{kept_more, more_kept, place_more}
use Rattle.df_kept.proofs.kept.Kept.add.Goals as goal

pub invariant_of-self-2 : goal.invariant_of-self-2
invariant_of-self-2 g c =
    let values = c.self.inside.values.items in
    let items : c.push_reserved.new.self.items ≡ values ++ c.args.value ∷ [] = c.push_reserved.ensures.items ∙ ap (λ (l : List _). l ++ c.args.value ∷ []) c.reserve.ensures.items in
    let len : length c.as_slice-place.result.now ≡ length values = ap (λ (l : List _). length l) c.as_slice-place.ensures.value in
    let seats : (n : UnitName) → seat_of n c.seat-new.new.self.seats ≡ option_or (seat_of n c.self.inside.roll.seats) (cond (same c.args.name n) (Some (length values)) None) =
    λ n. c.seat-new.ensures.seated n ∙ ap (λ (x : List Seat). option_or (seat_of n x) (cond (same c.args.name n) (Some (length c.as_slice-place.result.now)) None)) c.reserve-2.ensures.same
    ∙ ap (λ k. option_or (seat_of n c.self.inside.roll.seats) (cond (same c.args.name n) (Some k) None)) len in
    subst (λ (l : List _). AreKept (c.seat-new.new.self.seats, l)) (sym items) (more_kept c.self.inside.roll.seats values c.self.invariant c.args.name c.args.value c.seat-new.new.self.seats seats)

pub returns-clause-ok : goal.returns-clause-ok
returns-clause-ok g c = λ n.
    let values = c.self.inside.values.items in
    let items : c.push_reserved.new.self.items ≡ values ++ c.args.value ∷ [] = c.push_reserved.ensures.items ∙ ap (λ (l : List _). l ++ c.args.value ∷ []) c.reserve.ensures.items in
    let len : length c.as_slice-place.result.now ≡ length values = ap (λ (l : List _). length l) c.as_slice-place.ensures.value in
    let seats : (m : UnitName) → seat_of m c.seat-new.new.self.seats ≡ option_or (seat_of m c.self.inside.roll.seats) (cond (same c.args.name m) (Some (length values)) None) =
    λ m. c.seat-new.ensures.seated m ∙ ap (λ (x : List Seat). option_or (seat_of m x) (cond (same c.args.name m) (Some (length c.as_slice-place.result.now)) None)) c.reserve-2.ensures.same
    ∙ ap (λ k. option_or (seat_of m c.self.inside.roll.seats) (cond (same c.args.name m) (Some k) None)) len in
    let none = subst (λ (k : KeptState _). seat_of c.args.name k.0 ≡ None) (sym c.self.view_is) c.requires in
    ap (λ (l : List _). kept_at n (c.seat-new.new.self.seats, l)) items
    ∙ kept_more c.self.inside.roll.seats values c.self.invariant c.args.name c.args.value c.seat-new.new.self.seats none seats n
    ∙ ap (λ (k : KeptState _). cond (same c.args.name n) (Some c.args.value) (kept_at n k)) c.self.view_is

pub returns-clause-place : goal.returns-clause-place
returns-clause-place g c =
    let values = c.self.inside.values.items in
    let items : c.push_reserved.new.self.items ≡ values ++ c.args.value ∷ [] = c.push_reserved.ensures.items ∙ ap (λ (l : List _). l ++ c.args.value ∷ []) c.reserve.ensures.items in
    let len : length c.as_slice-place.result.now ≡ length values = ap (λ (l : List _). length l) c.as_slice-place.ensures.value in
    let seats : (m : UnitName) → seat_of m c.seat-new.new.self.seats ≡ option_or (seat_of m c.self.inside.roll.seats) (cond (same c.args.name m) (Some (length values)) None) =
    λ m. c.seat-new.ensures.seated m ∙ ap (λ (x : List Seat). option_or (seat_of m x) (cond (same c.args.name m) (Some (length c.as_slice-place.result.now)) None)) c.reserve-2.ensures.same
    ∙ ap (λ k. option_or (seat_of m c.self.inside.roll.seats) (cond (same c.args.name m) (Some k) None)) len in
    let none = subst (λ (k : KeptState _). seat_of c.args.name k.0 ≡ None) (sym c.self.view_is) c.requires in
    subst (λ k. IsPlace c.args.name k (c.seat-new.new.self.seats, c.push_reserved.new.self.items)) (sym len)
    (subst (λ (l : List _). IsPlace c.args.name (length values) (c.seat-new.new.self.seats, l)) (sym items)
    (place_more c.self.inside.roll.seats values c.self.invariant c.args.name c.args.value c.seat-new.new.self.seats none seats))
