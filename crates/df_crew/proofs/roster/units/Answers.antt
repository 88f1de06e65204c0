use Rattle.df_crew.proofs.Names.{◌≡◌, ◌++◌, ◌∷◌, [], List, None, Some, ap, sym, subst, ◌∙◌, length, take, option_copied, slice_get, IsRoll, UnitName}
use Rattle.df_crew.proofs.Rolls.{begins_all, begins_more}
use Rattle.df_crew.proofs.roster.units.Goals as goal

pub loop-unit-preserved : goal.loop-unit-preserved
loop-unit-preserved c = λ names roll.
    let items = c.loop-unit.units.items in
    let unit : UnitName = c.in-Some.unit.now in
    let at : slice_get names (length items) ≡ Some unit = sym (c.in-Some.ensures.place names roll
    ∙ ap (λ (l : List UnitName). slice_get names (length l)) c.as_slice.ensures.value) in
    let pushed : c.push.new.self.items ≡ items ++ unit ∷ [] = c.in_ok-push.ensures.items ∙ ap (λ (u : UnitName). items ++ u ∷ []) c.in_ok-copy.ensures in
    subst (λ (l : List UnitName). l ≡ take (length l) names) (sym pushed) (begins_more items names (c.loop-unit.invariant names roll) unit at)

pub returns : goal.returns
returns c =
    let items = c.loop-unit.units.items in
    let roll = c.unit_at.ensures.roll in
    let none : slice_get roll.0 (length items) ≡ None = sym (c.unit_at.ensures.place roll.0 roll.1
    ∙ ap (λ (l : List UnitName). slice_get roll.0 (length l)) c.as_slice.ensures.value) ∙ ap option_copied c.in_default.is in
    subst (λ (l : List UnitName). IsRoll c.args.core.now l) (sym (begins_all items roll.0 (c.loop-unit.invariant roll.0 roll.1) none)) roll.1
