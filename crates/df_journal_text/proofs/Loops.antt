-- Readers of several things, as loops read them.
use Rattle.df_journal_text.proofs.Names.{◌≡◌, Bool, true, false, List, [], ◌∷◌, ◌++◌, Ok, Err, refl, sym, ap, ◌∙◌, Stop, Read, all_at, with_front, Several, all_none, all_step, all_stop}
use Rattle.std.proofs.lemmas.List.{append-nil}
use Rattle.df_format.proofs.ItemSteps.{regroup}

pub front_nil : {T X : Type 0} (r : Read T (List X)) → with_front [] r ≡ r
front_nil (Ok xs) = refl
front_nil (Err s) = refl

module _ {T X : Type 0} {stands : List T → Bool} {read : List T → Read T X} (s : Several stands read) where
  -- what is left is read as all was to be
  module _ (front : List X) (tokens : List T) (total : Read T (List X)) (so_far : with_front front (all_at stands read tokens) ≡ total) where
    pub all_read : (more : List X) (x : X) (rest : List T) → stands tokens ≡ true → read tokens ≡ Ok (x, rest) → more ≡ front ++ x ∷ []
        → with_front more (all_at stands read rest) ≡ total
    all_read more x rest h e is =
        ap (λ (u : List X). with_front u (all_at stands read rest)) is ∙ sym (regroup front x (all_at stands read rest))
        ∙ ap (with_front front) (sym (all_step s tokens x rest h e)) ∙ so_far

    pub all_failed : (stop : Stop T) → stands tokens ≡ true → read tokens ≡ Err stop → total ≡ Err stop
    all_failed stop h e = sym so_far ∙ ap (with_front front) (all_stop s tokens stop h e)

    pub all_done : stands tokens ≡ false → total ≡ Ok (front, tokens)
    all_done h = sym so_far ∙ ap (with_front front) (all_none s tokens h) ∙ ap (λ (xs : List X). Ok (xs, tokens)) (append-nil front)
