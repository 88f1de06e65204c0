-- What is held only grows, and holding one privilege is not holding another.
use Rattle.std.proofs.Common.{◌≡◌, ◌≢◌, ℕ, Bool, true, false, ◌||◌, List, [], refl, ap, sym, ◌∙◌}
use Rattle.df_label.specs.Privilege.{privilege_eq}
use Rattle.df_label.specs.declared.privilege.Privilege.{Privilege}
use Rattle.df_label.specs.declared.privilege.Right.{Right}
use Rattle.df_label.specs.declared.privilege.Right.TheVariants.{Plus, Minus, PlusAuth, MinusAuth}
use Rattle.df_label.proofs.PrivilegeFacts.{contains-add, privilege_eq-Decides}
use Rattle.df_priv.specs.Held.{holds, grant}
use Rattle.df_priv.specs.Needed.{needed, auth_of, needed_to_attach}
use Rattle.df_priv.specs.declared.need.Act.{Act}
use Rattle.df_priv.specs.declared.need.Act.TheVariants.{Add, Del}

-- a grant adds one privilege
pub holds-grant : (held : List Privilege) (p q : Privilege) → holds (grant held p) q ≡ (privilege_eq p q || holds held q)
holds-grant = contains-add

-- what is held stays held
pub holds-grant_kept : (held : List Privilege) (p q : Privilege) → holds held q ≡ true → holds (grant held p) q ≡ true
holds-grant_kept held p q h = holds-grant held p q ∙ or_right (privilege_eq p q) (holds held q) h
  where
    or_right : (a b : Bool) → b ≡ true → (a || b) ≡ true
    or_right true b k = refl
    or_right false b k = k

-- what is granted is held
pub holds-grant_itself : (held : List Privilege) (p : Privilege) → holds (grant held p) p ≡ true
holds-grant_itself held p = holds-grant held p p ∙ ap (λ b. b || holds held p) ((privilege_eq-Decides p p).1 refl)

-- one right over a tag is no other
pub holds-other_right : (t : List ℕ) (r s : Right) → r ≢ s → holds (grant [] (record { tag = t; right = r })) (record { tag = t; right = s }) ≡ false
holds-other_right t r s other = by (privilege_eq (record { tag = t; right = r }) (record { tag = t; right = s })) refl
  where
    by : (b : Bool) → b ≡ privilege_eq (record { tag = t; right = r }) (record { tag = t; right = s }) → (b || false) ≡ false
    by true e = absurd (other (ap (λ (x : Privilege). x.right) ((privilege_eq-Decides (record { tag = t; right = r }) (record { tag = t; right = s })).0 (sym e))))
    by false e = refl

-- the right that a change needs is no right to pass on
pub needed-needed_to_attach : (act : Act) (t : List ℕ) (p : Privilege) → needed act t ≢ needed_to_attach p
needed-needed_to_attach act t p e = apart act p.right (ap (λ (x : Privilege). x.right) e)
  where
    apart : (act : Act) (r : Right) → (needed act t).right ≢ auth_of r
    apart Add Plus h = cc
    apart Add Minus h = cc
    apart Add PlusAuth h = cc
    apart Add MinusAuth h = cc
    apart Del Plus h = cc
    apart Del Minus h = cc
    apart Del PlusAuth h = cc
    apart Del MinusAuth h = cc
