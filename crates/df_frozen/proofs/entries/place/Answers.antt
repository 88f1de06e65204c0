use Rattle.std.proofs.Common.{rules, ap, sym, ◌-◌, ◌∙◌, length}
use Rattle.std.specs.Prelude.{option_copied}
use Rattle.std.proofs.lemmas.Fn.{always_returns_same}
use Rattle.std.proofs.lemmas.Option.{get_or_from_slice_get}
use Rattle.df_frozen.specs.Name.{name_cmp}
use Rattle.df_frozen.proofs.Search.{place_of-behind, place_of-searched}
use Rattle.df_frozen.proofs.entries.place.Goals as goal

pub returns-in-Some-clause-place : goal.returns-in-Some-clause-place
returns-in-Some-clause-place c =
    let es = c.args.entries.now in
    let last = c.in-Some.last.now in
    let read = get_or_from_slice_get es (length es - 1) last last (sym c.last.ensures.value ∙ ap option_copied c.in-Some.is) in
    sym (place_of-behind c.args.name.now es last c.requires read (sym c.lt.ensures ∙ c.if-lt.true))

pub returns-in_default-clause-place : goal.returns-in_default-clause-place
returns-in_default-clause-place c =
    let facts = c.binary_search_by.ensures in
    let by_name = facts.position (λ entry. name_cmp entry.0 c.args.name.now) (always_returns_same _ _ _ (λ a r g called. search rules)) in
    place_of-searched _ _ c.binary_search_by.result c.requires facts.bound by_name
