-- Where a list is shared and not built, it is the list that would be built.
use Rattle.std.proofs.Common.{◌≡◌, ap, refl, sym, subst, Bool, true, false, cond, List, [], ◌∷◌, ◌&&◌}
use Rattle.std.specs.List.{filter, list_all}
use Rattle.df_label.specs.declared.label.Label.{Label}
use Rattle.df_part.specs.Contents.{apply}
use Rattle.df_part.specs.Part.{cut, readable}
use Rattle.df_part.specs.declared.part.Part.{Part}
use Rattle.df_part.specs.declared.edit.Spot.{Spot}

-- a choice that every element passes keeps all
kept_all : {X : Type 0} (p : X → Bool) (xs : List X) → list_all p xs ≡ true → filter p xs ≡ xs
kept_all p [] all = refl
kept_all p (x ∷ xs) all =
    elim (p x) as (λ b. (b && list_all p xs) ≡ true → cond b (x ∷ filter p xs) (filter p xs) ≡ x ∷ xs)
    [ true ↦ λ h. ap (λ ys. x ∷ ys) (kept_all p xs h) | false ↦ λ h. absurd (let no : false ≡ true = h in cc) ] all

-- where all may be read, the cut is the whole
pub all_readable : (at : Label) (parts : List Part) → list_all (readable at) parts ≡ true → cut at parts ≡ parts
all_readable at parts all = kept_all (readable at) parts all

-- an empty edit leaves the parts
left_alone : (parts : List Part) → apply ([], []) parts ≡ parts
left_alone [] = refl
left_alone (part ∷ parts) = ap (λ (ps : List Part). part ∷ ps) (left_alone parts)

-- an edit that neither deletes nor adds leaves the parts
pub idle_edit : (edit : List Spot × List Part) (parts : List Part) → edit ≡ ([], []) → apply edit parts ≡ parts
idle_edit edit parts none = subst (λ (e : List Spot × List Part). apply e parts ≡ parts) (sym none) (left_alone parts)
