-- Can-flow-to is a partial order, and the join is the least upper bound.
use Rattle.std.proofs.Common.{◌≡◌, true, ap}
use Rattle.std.specs.Bool.{Decides}
use Rattle.std.proofs.lemmas.Bool.{and_parts, and_from}
use Rattle.df_label.specs.TagSet.{tag_set_eq, is_subset}
use Rattle.df_label.specs.Label.{flows_to, join, label_eq, IsCanonical}
use Rattle.df_label.specs.declared.label.Label.{Label}
use Rattle.df_label.proofs.TagSetFacts.{tag_set_eq-Decides, is_subset-refl, is_subset-trans, is_subset-antisymm, ascending-union, ascending-meet, is_subset-union_left, is_subset-union_right, union-is_subset, meet-is_subset_left, meet-is_subset_right, is_subset-meet}

-- the two halves of a flow
pub flows_to-parts : (a b : Label) → flows_to a b ≡ true → (is_subset a.s b.s ≡ true) × (is_subset b.i a.i ≡ true)
flows_to-parts a b h = and_parts (is_subset a.s b.s) (is_subset b.i a.i) h

pub flows_to-from_parts : (a b : Label) → is_subset a.s b.s ≡ true → is_subset b.i a.i ≡ true → flows_to a b ≡ true
flows_to-from_parts a b h k = and_from (is_subset a.s b.s) (is_subset b.i a.i) h k

pub flows_to-refl : (a : Label) → flows_to a a ≡ true
flows_to-refl a = flows_to-from_parts a a (is_subset-refl a.s) (is_subset-refl a.i)

pub flows_to-trans : (a b c : Label) → flows_to a b ≡ true → flows_to b c ≡ true → flows_to a c ≡ true
flows_to-trans a b c h k =
    let first : (is_subset a.s b.s ≡ true) × (is_subset b.i a.i ≡ true) = flows_to-parts a b h in
    let second : (is_subset b.s c.s ≡ true) × (is_subset c.i b.i ≡ true) = flows_to-parts b c k in
    flows_to-from_parts a c (is_subset-trans a.s b.s c.s first.0 second.0) (is_subset-trans c.i b.i a.i second.1 first.1)

pub flows_to-antisymm : (a b : Label) → IsCanonical a → IsCanonical b → flows_to a b ≡ true → flows_to b a ≡ true → a ≡ b
flows_to-antisymm a b p q h k =
    let there : (is_subset a.s b.s ≡ true) × (is_subset b.i a.i ≡ true) = flows_to-parts a b h in
    let back : (is_subset b.s a.s ≡ true) × (is_subset a.i b.i ≡ true) = flows_to-parts b a k in
    let s : a.s ≡ b.s = is_subset-antisymm a.s b.s p.0 q.0 there.0 back.0 in
    let i : a.i ≡ b.i = is_subset-antisymm a.i b.i p.1 q.1 back.1 there.1 in
    λ j. record { s = s j; i = i j }

pub flows_to-join_left : (a b : Label) → flows_to a (join a b) ≡ true
flows_to-join_left a b = flows_to-from_parts a (join a b) (is_subset-union_left a.s b.s) (meet-is_subset_left a.i b.i)

pub flows_to-join_right : (a b : Label) → flows_to b (join a b) ≡ true
flows_to-join_right a b = flows_to-from_parts b (join a b) (is_subset-union_right a.s b.s) (meet-is_subset_right a.i b.i)

-- no lower label takes in both
pub join-flows_to : (a b c : Label) → flows_to a c ≡ true → flows_to b c ≡ true → flows_to (join a b) c ≡ true
join-flows_to a b c h k =
    let left : (is_subset a.s c.s ≡ true) × (is_subset c.i a.i ≡ true) = flows_to-parts a c h in
    let right : (is_subset b.s c.s ≡ true) × (is_subset c.i b.i ≡ true) = flows_to-parts b c k in
    flows_to-from_parts (join a b) c (union-is_subset a.s b.s c.s left.0 right.0) (is_subset-meet a.i b.i c.i left.1 right.1)

pub canonical-join : (a b : Label) → IsCanonical a → IsCanonical (join a b)
canonical-join a b p = (ascending-union a.s b.s p.0, ascending-meet a.i b.i p.1)

pub label_eq-Decides : (a b : Label) → Decides (label_eq a b) (a ≡ b)
label_eq-Decides a b = (tells, told)
  where
    tells : label_eq a b ≡ true → a ≡ b
    tells h =
        let both : (tag_set_eq a.s b.s ≡ true) × (tag_set_eq a.i b.i ≡ true) = and_parts (tag_set_eq a.s b.s) (tag_set_eq a.i b.i) h in
        let s : a.s ≡ b.s = (tag_set_eq-Decides a.s b.s).0 both.0 in
        let i : a.i ≡ b.i = (tag_set_eq-Decides a.i b.i).0 both.1 in
        λ j. record { s = s j; i = i j }

    told : a ≡ b → label_eq a b ≡ true
    told e =
        and_from (tag_set_eq a.s b.s) (tag_set_eq a.i b.i)
        ((tag_set_eq-Decides a.s b.s).1 (ap (λ (l : Label). l.s) e))
        ((tag_set_eq-Decides a.i b.i).1 (ap (λ (l : Label). l.i) e))
