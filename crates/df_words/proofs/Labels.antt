-- Words that are labels.
use Rattle.std.proofs.Common.{◌≡◌, ◌≢◌, ℕ, ◌-◌, ◌<◌, ◌≤◌, List, [], ◌∷◌, length, drop, get_or, Ok, codes, refl, sym, ap, subst, ◌∙◌, arith, append-nil, length-drop}
use Rattle.df_format.specs.Grammar.{Stands}
use Rattle.df_label.specs.declared.label.Label.{Label}
use Rattle.df_value_text.specs.Fits.{IsLabel}
use Rattle.df_value_text.specs.Label.{label_text}
use Rattle.df_value_text.specs.declared.refused.TextRefused.TheVariants as refused
use Rattle.df_words.specs.Words.{Ask, IsCommandOf, IsLabelIn, Spells}
use Rattle.df_words.specs.declared.command.Command.{Command}
use Rattle.df_words.specs.declared.command.Command.TheVariants.{Purge, Why, Floor, FloorWorkers}

-- a label that the word spells stands there, in front of nothing
pub stands : (word : List ℕ) (l : Label) → Spells word l → Stands label_text IsLabel word l []
stands word l spells = record { parts = spells.0 ∙ sym (append-nil (label_text l)); fits = spells.1; ends = λ t tail same goes. cc }

-- a word of which only a front is a label spells none
pub longer : (word : List ℕ) (x : Label) (end : ℕ) → end ≤ length word → end ≢ length word
    → ((y : Label) (rest : List ℕ) → Stands label_text IsLabel word y rest → (x ≡ y) × (drop end word ≡ rest)) → (l : Label) → ¬ Spells word l
longer word x end within short only l spells =
    let is = only l [] (stands word l spells) in
    let n : length word - end ≡ 0 = sym (length-drop end word) ∙ ap length is.1 in
    short (omega (arith, within))

-- the purge at the label is what the words ask for, and nothing else
asked_back : (word name : List ℕ) (label : Label) → IsLabelIn word (Ok label) → (c : Command) → Ask (codes "purge" ∷ word ∷ name ∷ []) c → Purge label 2 ≡ c
asked_back word name label is (Why journal place) ask =
    let letter : 112 ≡ 119 = ap (λ (words : List (List ℕ)). get_or (get_or words 0 []) 0 0) ask.1 in
    absurd (omega (arith, letter))
asked_back word name label is (Floor config ticks) ask =
    let letter : 112 ≡ 102 = ap (λ (words : List (List ℕ)). get_or (get_or words 0 []) 0 0) ask.2 in
    absurd (omega (arith, letter))
asked_back word name label is (FloorWorkers config ticks workers) ask =
    let count : 3 ≡ 5 = ap (λ (words : List (List ℕ)). length words) ask.2 in
    absurd (omega (arith, count))
asked_back word name label is (Purge l journal) ask =
    let spelled : word ≡ label_text l = cc in
    let same : label ≡ l = (is l).1 (spelled, ask.2) in
    let place : journal ≡ 2 = ask.4 in
    cc
asked_back word name label is _ ask = absurd (let no : ⊥ = cc in no)

pub purge_asked : (word name : List ℕ) (label : Label) → IsLabelIn word (Ok label) → 0 < length name
    → IsCommandOf (codes "purge" ∷ word ∷ name ∷ []) (Ok (Purge label 2))
purge_asked word name label is long c = (
  λ same.
      let spells = (is label).0 refl in
      subst (Ask (codes "purge" ∷ word ∷ name ∷ [])) same (name, ap (λ (w : List ℕ). codes "purge" ∷ w ∷ name ∷ []) spells.0, spells.1, long, refl),
  asked_back word name label is c,
)

-- bytes that are refused aren't refused for want of memory
pub syntax_is_no_want : (offset : ℕ) → refused.Syntax offset ≡ refused.NoMemory → ⊥
syntax_is_no_want offset e = cc
