use Rattle.std.proofs.Common.{◌≡◌, ◌<◌, ◌≤◌, ◌∙◌, ap, sym, subst, map, length, arith, refl, Ok, Err}
use Rattle.std.specs.Prelude.{option_map}
use Rattle.std.proofs.lemmas.List.{length-map}
use Rattle.df_frozen.specs.Plain.{items, entries, from_list}
use Rattle.df_frozen.specs.Place.{change_at}
use Rattle.df_frozen.specs.code.Search.{place_of}
use Rattle.df_frozen.specs.Change.{changed}
use Rattle.df_frozen.specs.Entries.{names, IsAscending}
use Rattle.df_frozen.specs.Value.{plain, named}
use Rattle.df_frozen.proofs.Named.{names-named, names-set}
use Rattle.df_frozen.proofs.Search.{change_value-missing}
use Rattle.df_frozen.proofs.Places.{change_item-missing, Changes-item, Changes-entry}
use Rattle.df_frozen.proofs.+change_at.Goals as goal

pub entries::Entries::change_at-returns-in_default : goal.entries::Entries::change_at-returns-in_default
entries::Entries::change_at-returns-in_default t c =
    let name = c.args.name.now in
    let es = c.self.inside.entries.items in
    let at : place_of name (names (map named es)) ≡ Err c.in_default.field-0 = ap (place_of name) (names-named es ∙ ap names (sym c.as_slice.ensures.value)) ∙ sym c.in_default.ensures.place in
    let none = change_value-missing (change_at (changed c.args.change) c.args.path.now) name (map named es) c.in_default.field-0 (rw (names-named es) c.self.invariant) at in
    (c.misplaced.ensures.value, refl, rw (c.misplaced.ensures.cause, ← c.self.view_is) (ap (option_map entries) none))

pub entries::Entries::change_at-invariant_of-self : goal.entries::Entries::change_at-invariant_of-self
entries::Entries::change_at-invariant_of-self t c =
    let es = c.self.inside.entries.items in
    let e = c.index_mut.result.now in
    let within : c.in-Ok.k < length es = omega (arith, c.in-Ok.ensures.within, ap length c.as_slice.ensures.value) in
    subst IsAscending (sym (names-set es c.in-Ok.k (e.0, c.change_at.new.self) e within (ap (λ x. x.0) c.index_mut.ensures.value))) c.self.invariant

pub entries::Entries::change_at-returns : goal.entries::Entries::change_at-returns
entries::Entries::change_at-returns t c =
    let name = c.args.name.now in
    let es = c.self.inside.entries.items in
    let at : place_of name (names es) ≡ Ok c.in-Ok.k = ap (λ l. place_of name (names l)) (sym c.as_slice.ensures.value) ∙ sym c.in-Ok.ensures.place in
    let within : c.in-Ok.k < length es = omega (arith, c.in-Ok.ensures.within, ap length c.as_slice.ensures.value) in
    rw (← c.self.view_is) (Changes-entry c.args.change (change_at (changed c.args.change) c.args.path.now) name es c.in-Ok.k c.index_mut.result.now c.change_at.new.self c.change_at.result at c.index_mut.ensures.value within c.change_at.ensures)

pub items::Items::change_at-returns-in_default : goal.items::Items::change_at-returns-in_default
items::Items::change_at-returns-in_default t c =
    let n : length c.args.self.now ≡ length c.self.inside.values.items = ap length (sym c.self.view_is) ∙ length-map c.self.inside.values.items plain in
    let past : length c.args.self.now ≤ c.args.k = grind (arith, n, c.in_default.ensures.variant, c.self.inside.values.ok) in
    (c.misplaced.ensures.value, ap (λ l. items (from_list l)) c.self.view_is, rw c.misplaced.ensures.cause (ap (option_map items) (change_item-missing _ c.args.self.now c.args.k past)))

pub items::Items::change_at-returns : goal.items::Items::change_at-returns
items::Items::change_at-returns t c =
    let within : c.args.k < length c.self.inside.values.items = grind (arith, c.in-Some.ensures.variant, c.self.inside.values.ok) in
    rw (← c.self.view_is) (Changes-item c.args.change (change_at (changed c.args.change) c.args.path.now) c.self.inside.values.items c.args.k c.in-Some.child.now c.change_at.new.self c.change_at.result c.in-Some.ensures.value within c.change_at.ensures)
