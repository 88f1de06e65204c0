use Rattle.std.proofs.Common.{◌≡◌, List, ℕ, ◌++◌, ◌∷◌, [], set, Some, None, sym, subst}
use Rattle.std.specs.List.{position_from}
use Rattle.df_io.specs.Files.{PutsFile}
use Rattle.df_io.proofs.Files.{is_named, put_at, put_end}
use Rattle.df_io.proofs.memory_shelf.Files.put.Goals as goal

pub returns-in-Some-clause-put : goal.returns-in-Some-clause-put
returns-in-Some-clause-put c =
    let name = c.args.name.now in
    let bytes = c.args.bytes.now in
    let items = c.self.inside.list.items in
    let h : position_from (is_named name) 0 items ≡ Some c.in-Some.k = rw c.as_slice.ensures.value at (sym c.in-Some.ensures.place) in
    rw c.in_ok-file.ensures (subst (λ (fs : List (List ℕ × List ℕ)). PutsFile name bytes fs (set items c.in-Some.k (name, bytes))) c.self.view_is (put_at name bytes items c.in-Some.k h))

pub returns-in_ok-push-in-None-clause-put : goal.returns-in_ok-push-in-None-clause-put
returns-in_ok-push-in-None-clause-put c =
    let name = c.args.name.now in
    let bytes = c.args.bytes.now in
    let items = c.self.inside.list.items in
    let h : position_from (is_named name) 0 items ≡ None = rw c.as_slice.ensures.value at (sym c.in-None.ensures.place) in
    rw (c.in_ok-push-in-None.ensures.items, c.in_ok-file.ensures) (subst (λ (fs : List (List ℕ × List ℕ)). PutsFile name bytes fs (items ++ (name, bytes) ∷ [])) c.self.view_is (put_end name bytes items 0 h))
