-- Whether privileges ascend, as a loop finds it.
use Rattle.df_journal_text.proofs.Names.{◌≡◌, ℕ, ◌+◌, ◌<◌, zero, suc, Bool, true, false, List, [], ◌∷◌, ◌++◌, length, take, get_or, refl, sym, ap, subst, ◌∙◌, arith, is_lt, Less, Equal, Greater, true≢false, take_more, IsAscending, IsBelow, privilege_cmp, Privilege, privilege_cmp_exact}
use Rattle.std.specs.declared.cmp.Ordering.{Ordering}
use Rattle.df_label.proofs.SetFacts.{ascending-push}

-- what comes before all comes before the one at a place
below_at : (p : Privilege) (ps : List Privilege) (i : ℕ) (d : Privilege) → i < length ps → IsBelow privilege_cmp p ps → privilege_cmp p (get_or ps i d) ≡ Less
below_at p [] i d h b = absurd (omega arith)
below_at p (q ∷ qs) zero d h b = b.0
below_at p (q ∷ qs) (suc i) d h b = below_at p qs i d (omega arith) b.1

-- in order, each privilege comes before the next
ascending_at : (ps : List Privilege) (i j : ℕ) (d e : Privilege) → j ≡ i + 1 → j < length ps → IsAscending privilege_cmp ps
    → privilege_cmp (get_or ps i d) (get_or ps j e) ≡ Less
ascending_at [] i j d e is h a = absurd (omega arith)
ascending_at (p ∷ ps) i zero d e is h a = absurd (omega arith)
ascending_at (p ∷ ps) zero (suc j) d e is h a = below_at p ps j e (omega arith) a.0
ascending_at (p ∷ ps) (suc i) (suc j) d e is h a = ascending_at ps i j d e (omega arith) (omega arith) a.1

-- a test that finds less
pub is_less : (r : Ordering) → is_lt r ≡ true → r ≡ Less
is_less Less h = refl
is_less Equal h = absurd (true≢false (sym h))
is_less Greater h = absurd (true≢false (sym h))

-- privileges that were found out of order
pub not_ascending : (ps : List Privilege) (j i : ℕ) (p q : Privilege) (r : Ordering) (b : Bool) → i ≡ j + 1 → i < length ps → p ≡ get_or ps j p
    → q ≡ get_or ps i q → r ≡ privilege_cmp p q → b ≡ is_lt r → b ≡ false → IsAscending privilege_cmp ps → ⊥
not_ascending ps j i p q r b is h at_j at_i cmp lt fails a =
    let less : r ≡ Less = cmp ∙ ap (λ (x : Privilege). privilege_cmp x q) at_j ∙ ap (privilege_cmp (get_or ps j p)) at_i ∙ ascending_at ps j i p q is h a in
    true≢false (sym (lt ∙ ap is_lt less) ∙ fails)

-- one more privilege in order
pub ascending_more : (ps : List Privilege) (j i : ℕ) (p q : Privilege) (r : Ordering) (b : Bool) → i ≡ j + 1 → i < length ps → p ≡ get_or ps j p
    → q ≡ get_or ps i q → r ≡ privilege_cmp p q → b ≡ is_lt r → b ≡ true → IsAscending privilege_cmp (take i ps) → IsAscending privilege_cmp (take (i + 1) ps)
ascending_more ps j i p q r b is h at_j at_i cmp lt passes a =
    let less : privilege_cmp p q ≡ Less = sym cmp ∙ is_less r (sym lt ∙ passes) in
    let front : take i ps ≡ take j ps ++ p ∷ [] = ap (λ (k : ℕ). take k ps) is ∙ take_more ps j p (omega (arith, is))
    ∙ ap (λ (x : Privilege). take j ps ++ x ∷ []) (sym at_j) in
    let all : take (i + 1) ps ≡ (take j ps ++ p ∷ []) ++ q ∷ [] = take_more ps i q h ∙ ap (λ (x : Privilege). take i ps ++ x ∷ []) (sym at_i)
    ∙ ap (λ (qs : List Privilege). qs ++ q ∷ []) front in
    subst (IsAscending privilege_cmp) (sym all)
    (ascending-push privilege_cmp privilege_cmp_exact (take j ps) p q (subst (IsAscending privilege_cmp) front a) less)
