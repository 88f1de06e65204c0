use Rattle.df_lint.proofs.Names.{◌≡◌, ◌<◌, ℕ, List, true, false, length, ap, sym, subst, ◌∙◌, arith, length-map, slice_index_or, never, names, IsLeast, contains, begun, has, found, rows_of, Cell, Roots}
use Rattle.std.specs.Prelude.{[]}
use Rattle.df_lint.proofs.Least.{looked_up, may_holds, holds_may, row_many}
use Rattle.df_lint.proofs.table.Lint.may.Goals as goal

pub place_of-place-requires-clause-there : goal.place_of-place-requires-clause-there
place_of-place-requires-clause-there c =
    subst (λ (ts : List (List ℕ)). contains ts c.args.p.now.tag ≡ true) (sym c.as_slice.ensures.value)
    (c.self.invariant.tags_are c.args.p.now.tag ∙ subst (λ (s : Roots). names s c.args.p.now.tag ≡ true) (sym c.self.view_is) c.requires.tag)

pub cell_of-requires-clause-root : goal.cell_of-requires-clause-root
cell_of-requires-clause-root c =
    let many : length c.args.self.now ≡ length c.self.inside.roots.items = sym (ap length c.self.view_is) ∙ length-map c.self.inside.roots.items begun in
    let count = c.self.invariant.table.count in
    let below = c.requires.root in
    omega arith

pub cell_of-requires-clause-place : goal.cell_of-requires-clause-place
cell_of-requires-clause-place c =
    let many : length c.args.self.now ≡ length c.self.inside.roots.items = sym (ap length c.self.view_is) ∙ length-map c.self.inside.roots.items begun in
    let count = c.self.invariant.table.count in
    let below = c.requires.root in
    let lt : c.args.root < length c.self.inside.rows.items = omega arith in
    let row = row_many c.self.inside.roots.items c.self.inside.tags c.self.inside.rows.items c.args.root c.self.invariant.table lt in
    let seen : length c.as_slice.result.now ≡ length c.self.inside.tags = ap length c.as_slice.ensures.value in
    let bound = c.place_of-place.ensures.bound in
    omega arith

pub returns-clause-exact : goal.returns-clause-exact
returns-clause-exact c =
    let rows = rows_of c.self.inside.tags c.self.inside.rows.items in
    let least : IsLeast c.args.self.now (found rows) = subst (λ (s : Roots). IsLeast s (found rows)) c.self.view_is c.self.invariant.least in
    let many : length c.args.self.now ≡ length c.self.inside.roots.items = sym (ap length c.self.view_is) ∙ length-map c.self.inside.roots.items begun in
    let below = c.requires.root in
    let lt : c.args.root < length c.self.inside.roots.items = omega arith in
    let place = c.place_of-place.result in
    let place_lt : place < length c.self.inside.tags = subst (λ (ts : List (List ℕ)). place < length ts) c.as_slice.ensures.value c.place_of-place.ensures.bound in
    let tag : slice_index_or c.self.inside.tags place [] ≡ c.args.p.now.tag = subst (λ (ts : List (List ℕ)). slice_index_or ts place [] ≡ c.args.p.now.tag) c.as_slice.ensures.value c.place_of-place.ensures.tag in
    let at = looked_up c.self.inside.roots.items c.self.inside.tags c.self.inside.rows.items c.args.root place c.args.p.now c.has.result c.self.invariant.table lt place_lt tag (c.has.ensures ∙ ap (λ (x : Cell). has x c.args.p.now.right) c.cell_of.ensures) in
    (may_holds c.args.self.now rows c.args.root c.args.p.now c.has.result least at, holds_may c.args.self.now rows c.args.root c.args.p.now c.has.result least at)

pub returns-clause-never : goal.returns-clause-never
returns-clause-never c = λ said.
    let rows = rows_of c.self.inside.tags c.self.inside.rows.items in
    let least : IsLeast c.args.self.now (found rows) = subst (λ (s : Roots). IsLeast s (found rows)) c.self.view_is c.self.invariant.least in
    let many : length c.args.self.now ≡ length c.self.inside.roots.items = sym (ap length c.self.view_is) ∙ length-map c.self.inside.roots.items begun in
    let below = c.requires.root in
    let lt : c.args.root < length c.self.inside.roots.items = omega arith in
    let place = c.place_of-place.result in
    let place_lt : place < length c.self.inside.tags = subst (λ (ts : List (List ℕ)). place < length ts) c.as_slice.ensures.value c.place_of-place.ensures.bound in
    let tag : slice_index_or c.self.inside.tags place [] ≡ c.args.p.now.tag = subst (λ (ts : List (List ℕ)). slice_index_or ts place [] ≡ c.args.p.now.tag) c.as_slice.ensures.value c.place_of-place.ensures.tag in
    let at = looked_up c.self.inside.roots.items c.self.inside.tags c.self.inside.rows.items c.args.root place c.args.p.now c.has.result c.self.invariant.table lt place_lt tag (c.has.ensures ∙ ap (λ (x : Cell). has x c.args.p.now.right) c.cell_of.ensures) in
    never c.args.self.now c.args.root c.args.p.now c.requires.tag (λ may. let z : true ≡ false = sym (holds_may c.args.self.now rows c.args.root c.args.p.now c.has.result least at may) ∙ said in absurd (let y : ⊥ = cc in y))
