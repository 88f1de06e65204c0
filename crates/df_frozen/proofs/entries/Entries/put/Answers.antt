use Rattle.std.proofs.Common.{◌≡◌, ◌∙◌, ap, sym, subst, map, Ok, Err}
use Rattle.std.proofs.lemmas.List.{map-set}
use Rattle.std.specs.List.{insert}
use Rattle.df_frozen.specs.Plain.{from_pairs}
use Rattle.df_frozen.specs.Entries.{names, IsAscending}
use Rattle.df_frozen.specs.Place.{put_entry}
use Rattle.df_frozen.specs.code.Search.{place_of}
use Rattle.df_frozen.specs.Value.{plain, named}
use Rattle.df_frozen.proofs.Named.{names-named, map-insert}
use Rattle.df_frozen.proofs.Search.{put_entry-found, put_entry-new, set-found, IsAscending-inserted}
use Rattle.df_frozen.proofs.entries.Entries.put.Goals as goal
use Rattle.df_frozen.proofs.entries.Entries.put.Goals.{in-Ok-insert, in-Err-insert}

-- where the name stands
found : (c : goal.After-drop-index_mut) → place_of c.args.name (names c.self.inside.entries.items) ≡ Ok c.in-Ok.k
found c = ap (λ l. place_of c.args.name (names l)) (sym c.as_slice.ensures.value) ∙ sym c.in-Ok.ensures.place

-- where the new name goes
placed : (c : goal.Joined-insert) → place_of c.args.name (names c.self.inside.entries.items) ≡ Err c.in-Err.k
placed c = ap (λ l. place_of c.args.name (names l)) (sym c.as_slice.ensures.value) ∙ sym c.in-Err.ensures.place

pub invariant_of-self : goal.invariant_of-self
invariant_of-self c =
    let es = c.self.inside.entries.items in
    subst IsAscending (sym (map-set (λ x. x.0) es c.in-Ok.k (c.args.name, c.args.value) ∙ set-found c.args.name (names es) c.in-Ok.k (found c))) c.self.invariant

pub invariant_of-self-in-Err : goal.invariant_of-self-in-Err
invariant_of-self-in-Err c =
    IsAscending-inserted _ c.args.name c.args.value c.self.inside.entries.items _ c.in-Err.k c.insert.ensures.items c.self.invariant (placed c)

pub returns-in-Ok-clause-put : goal.returns-in-Ok-clause-put
returns-in-Ok-clause-put c =
    let es = c.self.inside.entries.items in
    let name = c.args.name in
    let v = c.args.value in
    ap from_pairs (map-set named es c.in-Ok.k (name, v)) ∙ sym (put_entry-found name (plain v) (map named es) c.in-Ok.k (ap (place_of name) (names-named es) ∙ found c)) ∙ ap (λ l. put_entry name (plain v) (from_pairs l)) c.self.view_is

pub returns-after-insert-clause-put : goal.returns-after-insert-clause-put
returns-after-insert-clause-put c =
    let es = c.self.inside.entries.items in
    let name = c.args.name in
    let v = c.args.value in
    elim c.match-insert.branch [
      | in-Ok-insert w ↦
          let items : c.insert.new.self.items ≡ insert es c.in-Err.k (name, v) = rw w.in-Ok-insert.is at c.insert.ensures.items in
          rw w.result-is (ap (λ l. from_pairs (map named l)) items ∙ ap from_pairs (map-insert named es c.in-Err.k (name, v)) ∙ sym (put_entry-new name (plain v) (map named es) c.in-Err.k (ap (place_of name) (names-named es) ∙ placed c)) ∙ ap (λ l. put_entry name (plain v) (from_pairs l)) c.self.view_is)
      | in-Err-insert w ↦ rw w.result-is tt
    ]
