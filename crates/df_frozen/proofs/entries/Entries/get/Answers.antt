use Rattle.std.proofs.Common.{◌≡◌, ◌<◌, ◌∙◌, ap, sym, map, length, arith, Ok, Err, Some}
use Rattle.std.proofs.lemmas.List.{get_or-map, length-map}
use Rattle.df_frozen.specs.Entries.{names, get}
use Rattle.df_frozen.specs.code.Search.{place_of}
use Rattle.df_frozen.specs.Value.{plain, named}
use Rattle.df_frozen.proofs.Named.{names-named}
use Rattle.df_frozen.proofs.Search.{get-found, get-missing}
use Rattle.df_frozen.proofs.entries.Entries.get.Goals as goal

pub returns-in-Ok : goal.returns-in-Ok
returns-in-Ok c =
    let es = c.self.inside.entries.items in
    let name = c.args.name.now in
    let at : place_of name (names (map named es)) ≡ Ok c.in-Ok.k = ap (place_of name) (names-named es ∙ ap names (sym c.as_slice.ensures.value)) ∙ sym c.in-Ok.ensures.place in
    let e = c.index.result.now in
    let found = get-found name (map named es) c.in-Ok.k (named e) at in
    let within : c.in-Ok.k < length es = omega (arith, found.0, length-map es named) in
    ap Some (ap (λ x. plain x.1) c.index.ensures ∙ ap (λ x. x.1) (sym (get_or-map named es c.in-Ok.k e (named e) within))) ∙ sym found.1 ∙ ap (get name) c.self.view_is

pub returns-in-Err : goal.returns-in-Err
returns-in-Err c =
    let es = c.self.inside.entries.items in
    let name = c.args.name.now in
    let at : place_of name (names (map named es)) ≡ Err c.in-Err.field-0 = ap (place_of name) (names-named es ∙ ap names (sym c.as_slice.ensures.value)) ∙ sym c.in-Err.ensures.place in
    sym (get-missing name (map named es) c.in-Err.field-0 (rw (names-named es) c.self.invariant) at) ∙ ap (get name) c.self.view_is
