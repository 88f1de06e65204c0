-- Labels and privileges are read as they are spelled.
use Rattle.df_value_text.proofs.Names.{either_by, byte_refuses, last_ends_at, ◌≡◌, ℕ, Bool, true, false, eqb, List, [], ◌∷◌, ◌++◌, Option, Some, None, refl, sym, ap, subst, ◌∙◌, append_assoc, ◌⊎◌, inl, inr, is_ascii_digit, eqb-true, then_at, closed_at, maybe_spell, CanGoOn, Ends, Format, never, ends_never, then_second_format, then_goes, text_format, own, IsText, closed_format, MaybeFits, maybe_goes, maybe_format, Of, led, viewed, fitting, Privilege, Right, Plus, Minus, PlusAuth, MinusAuth, tags_text, label_text, privilege_text, IsTagSet, IsLabel, IsPrivilege, IsLowTag, tags_at, leads_tag, label_at, auth_at, plus_of, right_at, privilege_at, then_spell, ThenFits, right_text, label_of, minus_of, privilege_of, as_at, behind_at}
use Rattle.df_value_text.proofs.TagLaws.{nowhere, nowhere_is_local, tag_ends_at, tag_goes, tag_format}
use Rattle.df_value_text.proofs.TagSetLaws.{tags_goes, tags_format, low_is_local}

-- ---- labels

pub tags_end_at : (tags : List (List ℕ)) (c : ℕ) → is_ascii_digit c ≡ false → eqb c 46 ≡ false → eqb c 44 ≡ false → eqb c 35 ≡ false
    → tags_goes tags c ≡ false
tags_end_at [] c digit dot comma hash = hash
tags_end_at (tag ∷ tags) c digit dot comma hash = last_ends_at leads_tag tag_goes c (λ t. rw (comma, tag_ends_at t c digit dot) refl) tag tags

abbrev SetsFit : List (List ℕ) × List (List ℕ) → Type 0
SetsFit sets = ThenFits IsTagSet IsTagSet sets

abbrev sets_text : List (List ℕ) × List (List ℕ) → List ℕ
sets_text sets = then_spell (λ tags. tags_text tags ++ 124 ∷ []) (λ tags. tags_text tags ++ 125 ∷ []) sets

sets_format : Format IsLowTag sets_text SetsFit (then_goes never) (then_at (closed_at (124 ∷ []) tags_at) (closed_at (125 ∷ []) tags_at))
sets_format =
    then_second_format low_is_local (closed_format 124 [] (λ tags fits. tags_end_at tags 124 refl refl refl refl) tags_format)
    (closed_format 125 [] (λ tags fits. tags_end_at tags 125 refl refl refl refl) tags_format) [] (tt, tt)
    (λ x y rest fx fy ends. ends_never x ((tags_text y ++ 125 ∷ []) ++ rest))

pub label_format : Format IsLowTag label_text IsLabel never label_at
label_format =
    fitting (λ label h. subst IsLabel h.2 h.1) (λ label h. ((label.s, label.i), h, refl))
    (led (123 ∷ []) label_of (low_is_local (123 ∷ [])) ([], []) ((tt, tt), (tt, tt)) sets_format (λ sets h. simp append_assoc) (λ sets c h. refl))

-- ---- privileges

abbrev auth : List ℕ
auth = 97 ∷ 117 ∷ 116 ∷ 104 ∷ []

abbrev IsAuth : Option (List ℕ) → Type 0
IsAuth word = MaybeFits (IsText auth) word

abbrev begins_auth : ℕ → Bool
begins_auth c = eqb c 97

auth_can : (c : ℕ) → begins_auth c ≡ true → CanGoOn own (IsText auth) (c ∷ [])
auth_can c h = record { some = auth; fits = refl; more = 117 ∷ 116 ∷ 104 ∷ []; is = ap (λ (v : ℕ). v ∷ 117 ∷ 116 ∷ 104 ∷ []) (sym (eqb-true c 97 h)) }

auth_format : Format nowhere (maybe_spell own) IsAuth (maybe_goes begins_auth never) auth_at
auth_format =
    maybe_format begins_auth (text_format nowhere auth) (λ x fits. record { first = 97; others = 117 ∷ 116 ∷ 104 ∷ []; is = fits; test = refl }) auth_can

abbrev pub right_goes : Right → ℕ → Bool
right_goes Plus c = begins_auth c
right_goes Minus c = begins_auth c
right_goes PlusAuth c = false
right_goes MinusAuth c = false

-- a sign, and `auth` or nothing behind it
signed_format : (sign : ℕ) (make : Option (List ℕ) → Right) → right_text (make None) ≡ sign ∷ []
    → ((word : List ℕ) → right_text (make (Some word)) ≡ sign ∷ auth)
    → ((word : Option (List ℕ)) (c : ℕ) → right_goes (make word) c ≡ maybe_goes begins_auth never word c)
    → Format nowhere right_text (Of make IsAuth) right_goes (behind_at (sign ∷ []) (as_at make auth_at))
signed_format sign make bare full alike = led (sign ∷ []) make (nowhere_is_local (sign ∷ [])) None tt auth_format spelled (λ word c h. alike word c)
  where
    spelled : (word : Option (List ℕ)) → IsAuth word → right_text (make word) ≡ sign ∷ maybe_spell own word
    spelled None h = bare
    spelled (Some word) h = full word ∙ ap (λ (u : List ℕ). sign ∷ u) (sym h)

abbrev IsPlus : Right → Type 0
IsPlus r = Of plus_of IsAuth r

abbrev IsMinus : Right → Type 0
IsMinus r = Of minus_of IsAuth r

plus_goes : (word : Option (List ℕ)) (c : ℕ) → right_goes (plus_of word) c ≡ maybe_goes begins_auth never word c
plus_goes None c = refl
plus_goes (Some word) c = refl

minus_goes : (word : Option (List ℕ)) (c : ℕ) → right_goes (minus_of word) c ≡ maybe_goes begins_auth never word c
minus_goes None c = refl
minus_goes (Some word) c = refl

-- every right is of one kind
signed : (r : Right) → IsPlus r ⊎ IsMinus r
signed Plus = inl (None, tt, refl)
signed Minus = inr (None, tt, refl)
signed PlusAuth = inl (Some auth, refl, refl)
signed MinusAuth = inr (Some auth, refl, refl)

abbrev pub IsRight : Right → Type 0
IsRight r = Unit {0}

pub right_format : Format nowhere right_text IsRight right_goes right_at
right_format =
    fitting (λ r h. tt) (λ r h. signed r) (either_by (λ c. eqb c 43)
    (signed_format 43 plus_of refl (λ word. refl) plus_goes) (signed_format 45 minus_of refl (λ word. refl) minus_goes)
    (record { none = refl; first = λ c cs h. rw h refl }) (byte_refuses 43 refl (λ cs. refl)))

-- a tag ends before a sign
before_sign : (tag : List ℕ) (r : Right) (rest : List ℕ) → Ends tag_goes tag (right_text r ++ rest)
before_sign tag Plus rest = tag_ends_at tag 43 refl refl
before_sign tag Minus rest = tag_ends_at tag 45 refl refl
before_sign tag PlusAuth rest = tag_ends_at tag 43 refl refl
before_sign tag MinusAuth rest = tag_ends_at tag 45 refl refl

abbrev pub privilege_goes : Privilege → ℕ → Bool
privilege_goes p c = right_goes p.right c

pub privilege_format : Format nowhere privilege_text IsPrivilege privilege_goes privilege_at
privilege_format =
    viewed privilege_of (then_second_format nowhere_is_local (tag_format nowhere nowhere_is_local) right_format Plus tt
    (λ tag r rest fits any ends. before_sign tag r rest))
    (record { to = λ x fits. fits.0; from = λ p fits. ((p.tag, p.right), (fits, tt), refl); spelled = λ x fits. refl; alike = λ x c fits. refl })
