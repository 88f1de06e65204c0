-- Lists and maps, item by item.
use Rattle.df_value_text.proofs.Names.{◌≡◌, ℕ, List, [], ◌∷◌, ◌++◌, refl, ap, ◌∙◌, append_assoc, Plain, from_list, from_pairs, joined, value_text, items_text, entries_text, entry_text}

-- items are spelled one by one
pub items_text-joined : (ps : List Plain) → items_text (from_list ps) ≡ joined 44 value_text ps
items_text-joined [] = refl
items_text-joined (p ∷ []) = refl
items_text-joined (p ∷ q ∷ ps) = ap (λ (l : List ℕ). value_text p ++ (44 ∷ l)) (items_text-joined (q ∷ ps))

-- entries are spelled one by one
pub entries_text-joined : (es : List (List ℕ × Plain)) → entries_text (from_pairs es) ≡ joined 44 entry_text es
entries_text-joined [] = refl
entries_text-joined (e ∷ []) = refl
entries_text-joined (e ∷ d ∷ es) = ap (λ (l : List ℕ). entry_text e ++ (44 ∷ l)) (entries_text-joined (d ∷ es))

-- a body between two bytes
pub enclosed : (first opened filled closed body : List ℕ) (open_byte close_byte : ℕ) → opened ≡ first ++ open_byte ∷ [] → filled ≡ opened ++ body
    → closed ≡ filled ++ close_byte ∷ [] → closed ≡ first ++ (open_byte ∷ (body ++ close_byte ∷ []))
enclosed first opened filled closed body a b e e' e'' =
    e'' ∙ ap (λ (l : List ℕ). l ++ b ∷ []) (e' ∙ ap (λ (l : List ℕ). l ++ body) e) ∙ append_assoc (first ++ a ∷ []) body (b ∷ [])
    ∙ append_assoc first (a ∷ []) (body ++ b ∷ [])

-- a name, `=` and a value
pub entry_appended : (before named after name text : List ℕ) → named ≡ before ++ (name ++ 61 ∷ []) → after ≡ named ++ text
    → after ≡ before ++ (name ++ (61 ∷ text))
entry_appended before named after name text e e' =
    e' ∙ ap (λ (l : List ℕ). l ++ text) e ∙ append_assoc before (name ++ 61 ∷ []) text ∙ ap (λ (l : List ℕ). before ++ l) (append_assoc name (61 ∷ []) text)
