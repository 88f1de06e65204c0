-- What the words of a command ask for.
use Rattle.std.specs.Prelude.{◌≡◌, ◌↔◌, ⊤, ℕ, Bool, true, false, ◌<◌, ◌≤◌, ◌^◌, List, [], ◌∷◌, length, map, Option, Some, Result, Ok, Err, String, string_bytes, codes, decimal}
use Rattle.std.specs.declared.alloc.Global.{Global}
use Rattle.df_label.specs.declared.label.Label.{Label}
use Rattle.df_value_text.specs.Fits.{IsLabel}
use Rattle.df_value_text.specs.Label.{label_text}
use Rattle.df_words.specs.declared.command.Command.{Command}
use Rattle.df_words.specs.declared.command.Command.TheVariants.{Steps, Check, Purge, Upgrade, Why, Auction, Lint, Gen, Floor, FloorWorkers, Load}
use Rattle.df_words.specs.declared.command.Files.{Files}
use Rattle.df_words.specs.declared.command.Files.TheVariants as files
use Rattle.df_words.specs.declared.command.WordsRefused.{WordsRefused}
use Rattle.df_words.specs.declared.command.WordsRefused.TheVariants as refused

-- the bytes of the words
abbrev pub texts : List (String Global) → List (List ℕ)
texts words = map string_bytes words

-- the words are this one and the name of a file, which has at least one byte and this place
abbrev pub NameFile : List ℕ → ℕ → List (List ℕ) → Type 0
NameFile word place words =
    (name : List ℕ) × (words ≡ word ∷ name ∷ []) × (0 < length name) × (place ≡ 1)

-- the words are this one, a label, and the name of a file, which has at least one byte and this
-- place
abbrev pub NameLabelled : List ℕ → Label → ℕ → List (List ℕ) → Type 0
NameLabelled word label place words =
    (name : List ℕ) × (words ≡ word ∷ label_text label ∷ name ∷ []) × IsLabel label
    × (0 < length name) × (place ≡ 2)

-- the words are this one, the name of a file, which has at least one byte and this place, and the
-- place of an entry
abbrev pub NamePlace : List ℕ → ℕ → ℕ → List (List ℕ) → Type 0
NamePlace word file place words =
    (name : List ℕ) × (words ≡ word ∷ name ∷ decimal place ∷ []) × (0 < length name)
    × (file ≡ 1) × (place < 2 ^ 64)

-- the words are this one and the names of two files, which have at least one byte each and these
-- places
abbrev pub NameTwo : List ℕ → ℕ → ℕ → List (List ℕ) → Type 0
NameTwo word first second words =
    (one : List ℕ) × (other : List ℕ) × (words ≡ word ∷ one ∷ other ∷ [])
    × (0 < length one) × (0 < length other) × (first ≡ 1) × (second ≡ 2)

-- a number of ticks or workers, which is at most so many
abbrev pub IsCount : ℕ → ℕ → Type 0
IsCount most n = (1 ≤ n) × (n ≤ most)

-- the words are this one, a key, and a number of ticks, which is at most so many
abbrev pub NameTicks : List ℕ → ℕ → ℕ → ℕ → List (List ℕ) → Type 0
NameTicks word most key n words =
    (words ≡ word ∷ decimal key ∷ decimal n ∷ []) × (key < 2 ^ 64) × IsCount most n

-- the words are this one, the names of two files, which have at least one byte each and these
-- places, the option, and a number of workers, which is at most 16
abbrev pub NameWorkers : List ℕ → ℕ → ℕ → ℕ → List (List ℕ) → Type 0
NameWorkers word first second workers words =
    (one : List ℕ) × (other : List ℕ)
    × (words ≡ word ∷ one ∷ other ∷ codes "--workers" ∷ decimal workers ∷ [])
    × (0 < length one) × (0 < length other) × (first ≡ 1) × (second ≡ 2) × IsCount 16 workers

-- the words ask for the command
abbrev pub Ask : List (List ℕ) → Command → Type 0
Ask words (Steps file) = NameFile (codes "steps") file words
Ask words (Check journal) = NameFile (codes "check") journal words
Ask words (Purge label journal) = NameLabelled (codes "purge") label journal words
Ask words (Upgrade journal) = NameFile (codes "upgrade") journal words
Ask words (Why journal place) = NamePlace (codes "why") journal place words
Ask words (Auction orders) = NameFile (codes "auction") orders words
Ask words (Lint script) = NameFile (codes "lint") script words
Ask words (Gen key n) = NameTicks (codes "gen") 100_000 key n words
Ask words (Floor config ticks) = NameTwo (codes "floor") config ticks words
Ask words (FloorWorkers config ticks workers) =
    NameWorkers (codes "floor") config ticks workers words
Ask words (Load key n) = NameTicks (codes "load") 4_000 key n words

-- whether the command asks for no workers
abbrev pub is_plain : Command → Bool
is_plain (FloorWorkers config ticks workers) = false
is_plain _ = true

-- the words ask for nothing
abbrev pub AskNothing : List (List ℕ) → Type 0
AskNothing words = (c : Command) → ¬ Ask words c

-- the answer is the command for which the words ask, or Usage where they ask for none, unless there
-- was no memory
abbrev pub IsCommandOf : List (List ℕ) → Result Command WordsRefused → Type 0
IsCommandOf words (Ok command) = (c : Command) → (command ≡ c) ↔ Ask words c
IsCommandOf words (Err refused.Usage) = AskNothing words
IsCommandOf words (Err refused.NoMemory) = ⊤

-- the command's files, in the order in which they are read
abbrev pub files_of : Command → Files
files_of (Steps file) = files.One file
files_of (Check journal) = files.One journal
files_of (Purge label journal) = files.One journal
files_of (Upgrade journal) = files.One journal
files_of (Why journal place) = files.One journal
files_of (Auction orders) = files.One orders
files_of (Lint script) = files.One script
files_of (Gen key n) = files.None
files_of (Floor config ticks) = files.Two config ticks
files_of (FloorWorkers config ticks workers) = files.Two config ticks
files_of (Load key n) = files.None

-- the word spells the label
abbrev pub Spells : List ℕ → Label → Type 0
Spells word label = (word ≡ label_text label) × IsLabel label

-- the answer is the label that the word spells, or Usage where it spells none, unless there was no
-- memory
abbrev pub IsLabelIn : List ℕ → Result Label WordsRefused → Type 0
IsLabelIn word (Ok label) = (l : Label) → (label ≡ l) ↔ Spells word l
IsLabelIn word (Err refused.Usage) = (l : Label) → ¬ Spells word l
IsLabelIn word (Err refused.NoMemory) = ⊤

-- the answer is the number that the word spells, or none where it spells none
abbrev pub IsNumberIn : List ℕ → Option ℕ → Type 0
IsNumberIn word answer = (n : ℕ) → (answer ≡ Some n) ↔ ((word ≡ decimal n) × (n < 2 ^ 64))

-- the answer is the number that the word spells, or none where it spells none from 1 to the most
abbrev pub IsCountIn : ℕ → List ℕ → Option ℕ → Type 0
IsCountIn most word answer = (n : ℕ) → (answer ≡ Some n) ↔ ((word ≡ decimal n) × IsCount most n)
