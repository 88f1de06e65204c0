use Rattle.std.proofs.Common.{◌≡◌, List, ℕ, arith, nat_eq, take, true, subst, sym, ap, ◌∙◌}
use Rattle.std.proofs.lemmas.Bool.Decides.{nat_tests}
use Rattle.std.specs.Cmp.Lexicographic.{nat_list_eq_equiv, pointwise}
use Rattle.df_frozen.specs.code.NameBytes.{IsKept, head_of}
use Rattle.df_frozen.proofs.Heads.{same_by_head}
use Rattle.df_frozen.proofs.name.NamePartialEq.eq.Goals as goal

pub returns-then-self-le8 : goal.returns-then-self-le8
returns-then-self-le8 c =
    let bytes = c.self.inside.bytes in
    let others = c.other.inside.bytes in
    let alike = c.if-self-other.false in
    let kept = subst (IsKept others) (sym alike) c.other.invariant in
    let heads =
    ap head_of c.self.view_is ∙ sym c.head.ensures.value ∙ c.if-head.false ∙ c.head-2.ensures.value ∙ ap head_of (sym c.other.view_is)
    ∙ ap (λ (n : ℕ). head_of (take n others)) (sym alike) in
    let same = same_by_head bytes others c.self.inside.len c.self.invariant kept c.if-self-le8.true heads in
    let now : c.args.self.now ≡ c.args.other.now = sym c.self.view_is ∙ same ∙ ap (λ (n : ℕ). take n others) alike ∙ c.other.view_is in
    let told : pointwise nat_eq c.args.self.now c.args.other.now ≡ true =
    subst (λ (name : List ℕ). pointwise nat_eq c.args.self.now name ≡ true) now (nat_list_eq_equiv.refl c.args.self.now) in
    rw told (grind (arith, nat_tests, c.if-self-le8.true))
