use Rattle.std.proofs.Common.{◌≡◌, ◌<◌, ◌∙◌, ap, sym, subst, arith, map, set, get_or, length, ℕ, List}
use Rattle.std.proofs.lemmas.List.{map-set, get_or-map, length-map}
use Rattle.df_frozen.specs.Entries.{values, IsAscending}
use Rattle.df_frozen.specs.Plain.{Plain}
use Rattle.df_frozen.specs.Value.{plain, named}
use Rattle.df_frozen.proofs.Named.{names-set}
use Rattle.df_frozen.proofs.entries.Entries.replace.Goals as goal

-- the place is one of the list that is kept
within : (c : goal.After-self-1) → c.args.k < length c.self.inside.entries.items
within c = omega (arith, c.requires, ap length c.self.view_is, length-map c.self.inside.entries.items named)

pub invariant_of-self : goal.invariant_of-self
invariant_of-self c =
    let e = c.index_mut.result.now in
    subst IsAscending (sym (names-set c.self.inside.entries.items c.args.k (e.0, c.replace.new.dest) e (within c) (ap (λ x. x.0) c.index_mut.ensures.value))) c.self.invariant

pub returns-clause-values : goal.returns-clause-values
returns-clause-values c =
    let es = c.self.inside.entries.items in
    let name = c.index_mut.result.now.0 in
    let v = c.args.by in
    ap (λ x. values (map named (set es c.args.k (name, x)))) c.replace.ensures.after ∙ ap values (map-set named es c.args.k (name, v)) ∙ map-set (λ (x : List ℕ × Plain). x.1) (map named es) c.args.k (name, plain v) ∙ ap (λ l. set (values l) c.args.k (plain v)) c.self.view_is

pub returns-clause-value : goal.returns-clause-value
returns-clause-value c =
    let es = c.self.inside.entries.items in
    let e = c.index_mut.result.now in
    let k = c.args.k in
    let d = plain c.args.by in
    let seen : k < length (map named es) = omega (arith, within c, length-map es named) in
    let at : get_or (values (map named es)) k d ≡ plain (get_or es k e).1 = get_or-map (λ (x : List ℕ × Plain). x.1) (map named es) k (named e) d seen ∙ ap (λ (x : List ℕ × Plain). x.1) (get_or-map named es k e (named e) (within c)) in
    ap plain c.replace.ensures.value ∙ ap (λ x. plain x.1) c.index_mut.ensures.value ∙ sym at ∙ ap (λ l. get_or (values l) k d) c.self.view_is
