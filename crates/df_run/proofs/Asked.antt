-- Where a command was read, the words ask for it, and name its files.
use Rattle.df_run.proofs.Names.{◌≡◌, ◌<◌, List, ℕ, length, refl, sym, subst, arith, ◌↔◌, Ask, files_of, AsksNothing, IfAsked, IsOfACommand, UsageIsExact, Status, Command, Steps, Check, Purge, Upgrade, Why, Auction, Lint, Gen, Floor, FloorWorkers, Load}
use Rattle.df_words.specs.declared.command.Files.TheVariants as files

-- words that ask for this command, and for no other
module _ (ask : List (List ℕ) → Command → Type 0) (words : List (List ℕ)) (command : Command) (one : (c : Command) → (command ≡ c) ↔ ask words c) where
  pub some_asked : {P : Type 0} → AsksNothing ask words → P
  some_asked nothing = absurd (nothing command ((one command).0 refl))

  pub usage_exact : (s : Status) → IsOfACommand s → UsageIsExact ask words s
  usage_exact s of = (λ usage. absurd (of usage), λ nothing. some_asked nothing)

  -- what holds of the command holds of whichever they ask for
  pub if_asked : (P : Command → Type 0) → P command → IfAsked ask words P
  if_asked P p = λ c asked. subst P ((one c).1 asked) p

one_is : (a b : ℕ) → files.One a ≡ files.One b → a ≡ b
one_is a b e = cc

two_is_one : (a b d : ℕ) → files.Two b d ≡ files.One a → ⊥
two_is_one a b d e = cc

none_is_one : (a : ℕ) → files.None ≡ files.One a → ⊥
none_is_one a e = cc

-- a place below the number of words
below : (n place file : ℕ) (words : List (List ℕ)) (w : List (List ℕ)) → words ≡ w → place ≡ n → place ≡ file → n < length w → file < length words
below n place file words w is at same less = subst (λ (k : ℕ). k < length words) same
    (subst (λ (k : ℕ). k < length words) (sym at) (subst (λ (ws : List (List ℕ)). n < length ws) (sym is) less))

-- the only file has a place among the words
pub one_place : (c : Command) (words : List (List ℕ)) (file : ℕ) → Ask words c → files_of c ≡ files.One file → file < length words
one_place (Steps place) words file ask is = below 1 place file words _ ask.1 ask.3 (one_is place file is) (omega (arith))
one_place (Check place) words file ask is = below 1 place file words _ ask.1 ask.3 (one_is place file is) (omega (arith))
one_place (Purge label place) words file ask is = below 2 place file words _ ask.1 ask.4 (one_is place file is) (omega (arith))
one_place (Upgrade place) words file ask is = below 1 place file words _ ask.1 ask.3 (one_is place file is) (omega (arith))
one_place (Why place entry) words file ask is = below 1 place file words _ ask.1 ask.3 (one_is place file is) (omega (arith))
one_place (Auction place) words file ask is = below 1 place file words _ ask.1 ask.3 (one_is place file is) (omega (arith))
one_place (Lint place) words file ask is = below 1 place file words _ ask.1 ask.3 (one_is place file is) (omega (arith))
one_place (Gen key n) words file ask is = absurd (none_is_one file is)
one_place (Floor config ticks) words file ask is = absurd (two_is_one file config ticks is)
one_place (FloorWorkers config ticks workers) words file ask is = absurd (two_is_one file config ticks is)
one_place (Load key n) words file ask is = absurd (none_is_one file is)
