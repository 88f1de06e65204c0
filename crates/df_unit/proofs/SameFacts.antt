-- Two names are tested as one exactly where they are equal.
use Rattle.std.proofs.Common.{◌≡◌, ◌↔◌, ℕ, [], ◌∷◌, true, ◌&&◌, refl, ◌∙◌, ap, subst, IsTrue, nat_eq}
use Rattle.std.specs.Prelude.{◌==◌}
use Rattle.std.proofs.lemmas.Bool.{eqb-true, and_parts, and_from}
use Rattle.std.specs.Cmp.Lexicographic.{pointwise, bytes_decides}
use Rattle.df_label.specs.TagSet.{tag_set_eq}
use Rattle.df_label.proofs.TagSetFacts.{tag_set_eq-Decides}
use Rattle.df_unit.specs.Name.{same, same_event}
use Rattle.df_unit.specs.declared.name.EventName.{EventName}
use Rattle.df_unit.specs.declared.name.UnitName.{UnitName}
use Rattle.df_unit.specs.declared.name.UnitName.TheVariants.{Root, Managed}

number_itself : (n : ℕ) → (n == n) ≡ true
number_itself n = (and_parts (nat_eq n n) true ((bytes_decides (n ∷ []) (n ∷ [])).1 refl)).0

pub same_name-exact : (u v : UnitName) → same u v ≡ true → u ≡ v
same_name-exact (Root p) (Root q) h = ap Root ((bytes_decides p q).0 h)
same_name-exact (Root p) (Managed q m t) h = absurd (let z : ⊥ = cc in z)
same_name-exact (Managed p n s) (Root q) h = absurd (let z : ⊥ = cc in z)
same_name-exact (Managed p n s) (Managed q m t) h =
    let owner = and_parts (pointwise nat_eq p q) ((n == m) && tag_set_eq s t) h in
    let rest = and_parts (n == m) (tag_set_eq s t) owner.1 in
    let a = (bytes_decides p q).0 owner.0 in
    let b = eqb-true n m rest.0 in
    let c = (tag_set_eq-Decides s t).0 rest.1 in cc

same_name-itself : (u : UnitName) → same u u ≡ true
same_name-itself (Root p) = (bytes_decides p p).1 refl
same_name-itself (Managed p n s) = and_from (pointwise nat_eq p p) ((n == n) && tag_set_eq s s) ((bytes_decides p p).1 refl) (and_from (n == n) (tag_set_eq s s) (number_itself n) ((tag_set_eq-Decides s s).1 refl))

pub same_name_decides : (u v : UnitName) → IsTrue (same u v) ↔ (u ≡ v)
same_name_decides u v = (same_name-exact u v, λ e. subst (λ (w : UnitName). same u w ≡ true) e (same_name-itself u))

event_exact : (a b : EventName) → same_event a b ≡ true → a ≡ b
event_exact a b h =
    let both = and_parts (a.number == b.number) (same a.unit b.unit) h in
    let n = eqb-true a.number b.number both.0 in
    let u = same_name-exact a.unit b.unit both.1 in
    ap (λ (v : UnitName). record { unit = v; number = a.number }) u ∙ ap (λ (m : ℕ). record { unit = b.unit; number = m }) n

pub same_event_decides : (a b : EventName) → IsTrue (same_event a b) ↔ (a ≡ b)
same_event_decides a b = (event_exact a b, λ e. subst (λ (c : EventName). same_event a c ≡ true) e (and_from (a.number == a.number) (same a.unit a.unit) (number_itself a.number) (same_name-itself a.unit)))
