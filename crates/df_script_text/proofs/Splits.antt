-- Lines and their words.
use Rattle.df_script_text.proofs.Names.{◌≡◌, ℕ, ◌<◌, ◌^◌, true, false, nat_lt, List, [], ◌∷◌, ◌++◌, map, codes, decimal, refl, arith, All, AllByRecursion, list_all, All-nil, All-cons, All-append, All-weaker, recursion_from_All, nat_tests, RootStart, IsPrivilege, label_text, privilege_text, IsRoot, spaced}
use lib.Dec.{eqb}
use Rattle.std.specs.Prelude.{Bool}
use Rattle.std.proofs.lemmas.List.Sums.{AllPass-from_list_all}
use Rattle.df_script_text.proofs.Words.{is_word, AreWords, each_passes, is_word-decimal, is_word-label, AreWords-privileges}

-- no byte of this text is the byte
abbrev pub Avoids : ℕ → List ℕ → Type 0
Avoids c text = All (λ b. eqb b c ≡ false) text

-- whether no byte is below a space
abbrev pub is_line : List ℕ → Bool
is_line text = list_all (λ b. nat_lt 31 b) text

feed_below : (b : ℕ) → nat_lt 31 b ≡ true → eqb b 10 ≡ false
feed_below b h = grind (arith, nat_tests)

-- such a text has no line feed
pub Avoids-text : (text : List ℕ) → is_line text ≡ true → Avoids 10 text
Avoids-text text h = All-weaker (λ b. nat_lt 31 b ≡ true) (λ b. eqb b 10 ≡ false) feed_below text (AllPass-from_list_all (λ b. nat_lt 31 b) text h)

word_byte : (b : ℕ) → nat_lt 32 b ≡ true → nat_lt 31 b ≡ true
word_byte b h = grind (arith, nat_tests)

pub is_line-word : (w : List ℕ) → is_word w ≡ true → is_line w ≡ true
is_line-word w h = each_passes (λ b. nat_lt 32 b) (λ b. nat_lt 31 b) word_byte w h

-- a word has no line feed
pub IsLine-word : (w : List ℕ) → is_word w ≡ true → Avoids 10 w
IsLine-word w h = Avoids-text w (is_line-word w h)

-- words have no line feed
pub Avoids-words : (ws : List (List ℕ)) → AreWords ws → AllByRecursion (Avoids 10) ws
Avoids-words [] h = tt
Avoids-words (w ∷ ws) h = (IsLine-word w h.0, Avoids-words ws h.1)

-- texts without line feed behind one another
Avoids-spaced : (ws : List (List ℕ)) → AllByRecursion (Avoids 10) ws → Avoids 10 (spaced ws)
Avoids-spaced [] h = All-nil (λ b. eqb b 10 ≡ false)
Avoids-spaced (w ∷ ws) h =
    All-append (λ b. eqb b 10 ≡ false) (32 ∷ w) (spaced ws) (All-cons (λ b. eqb b 10 ≡ false) 32 w refl h.0) (Avoids-spaced ws h.1)

-- a line of texts without line feed
pub Avoids-line : (w : List ℕ) (ws : List (List ℕ)) → Avoids 10 w → AllByRecursion (Avoids 10) ws → Avoids 10 (w ++ spaced ws)
Avoids-line w ws h t = All-append (λ b. eqb b 10 ≡ false) w (spaced ws) h (Avoids-spaced ws t)

-- the words of a root's line are words
pub AreWords-root : (number : ℕ) → number < 2 ^ 32 → (root : RootStart) → IsRoot root
    → (is_word (codes "unit") ≡ true) × AreWords (decimal number ∷ label_text root.label ∷ map privilege_text root.privileges)
AreWords-root number small root f =
    let privileges = AreWords-privileges root.privileges (recursion_from_All IsPrivilege root.privileges f.1.0) in
    (refl, (is_word-decimal number (omega (arith, small)), (is_word-label root.label f.0, privileges)))
