-- The journal, seen newest first.
use Rattle.std.specs.Prelude.{Result, Ok, Err, IsOk, is_ok}
use Rattle.std.proofs.Common.{◌≡◌, if◌then◌else◌, suc, ◌-◌, List, [], ◌∷◌, ◌++◌, length, reverse, slice_get, refl, ap, sym, ◌∙◌, arith, length-append}
use Rattle.std.proofs.lemmas.List.{reverse-append, reverse-reverse}
use Rattle.df_unit.specs.declared.call.Call.{Call}
use Rattle.df_unit.specs.declared.entry.Effect.{Effect}
use Rattle.df_unit.specs.declared.entry.Entry.{Entry}
use Rattle.df_unit.specs.declared.entry.Entry.TheVariants.{Done}
use Rattle.df_unit.specs.declared.name.UnitName.{UnitName}
use Rattle.df_unit.specs.declared.reply.Reply.{Reply}

-- a journal with one more entry at its end
pub journal_grown : (j k l : List Entry) (e : Entry) → k ≡ j → l ≡ k ++ e ∷ [] → reverse l ≡ e ∷ reverse j
journal_grown j k l e same more = ap reverse (more ∙ ap (λ (x : List Entry). x ++ e ∷ []) same) ∙ reverse-append j (e ∷ [])

-- and with that of a call
pub journal_more : (j k l : List Entry) (n a : UnitName) (c : Call) (r : Reply) (f : Effect) → k ≡ j → l ≡ k ++ Done n c r f ∷ [] → n ≡ a → reverse l ≡ Done a c r f ∷ reverse j
journal_more j k l n a c r f e g h = journal_grown j k l (Done a c r f) e (g ∙ ap (λ (m : UnitName). k ++ Done m c r f ∷ []) h)

-- a journal with these entries at its end
pub journal_on : (j k l es : List Entry) → k ≡ j → l ≡ k ++ es → reverse l ≡ reverse es ++ reverse j
journal_on j k l es e g = ap reverse (g ∙ ap (λ (x : List Entry). x ++ es) e) ∙ reverse-append j es

-- what was appended, where there was room
pub appended_ok : {A E : Type 0} (r : Result A E) (xs ys : List Entry) → IsOk r → (if is_ok r then xs else ys) ≡ xs
appended_ok (Ok a) xs ys h = refl
appended_ok (Err e) xs ys h = absurd (let z : ⊥ = cc in z)

-- and one more behind these
pub journal_then : (j k l m es : List Entry) (n : UnitName) (c : Call) (r : Reply) (f : Effect) → k ≡ j → l ≡ k ++ es
    → m ≡ l ++ Done n c r f ∷ [] → reverse m ≡ Done n c r f ∷ (reverse es ++ reverse j)
journal_then j k l m es n c r f e g h =
    journal_more l l m n n c r f refl h refl ∙ ap (λ (x : List Entry). Done n c r f ∷ x) (journal_on j k l es e g)

-- the last of a list is the first of it reversed
pub last_reverse : (es : List Entry) → slice_get es (length es - 1) ≡ slice_get (reverse es) 0
last_reverse es = ap (λ l. slice_get l (length l - 1)) (sym (reverse-reverse es)) ∙ by (reverse es)
  where
    at_end : (xs : List Entry) (e : Entry) → slice_get (xs ++ e ∷ []) (length (xs ++ e ∷ []) - 1) ≡ slice_get (e ∷ []) 0
    at_end [] e = refl
    at_end (x ∷ xs) e =
        let k : length (x ∷ (xs ++ e ∷ [])) - 1 ≡ suc (length (xs ++ e ∷ []) - 1) = omega (arith, length-append xs (e ∷ [])) in
        ap (slice_get (x ∷ (xs ++ e ∷ []))) k ∙ at_end xs e

    by : (xs : List Entry) → slice_get (reverse xs) (length (reverse xs) - 1) ≡ slice_get xs 0
    by [] = refl
    by (x ∷ xs) = ap (λ l. slice_get l (length l - 1)) (reverse-append (x ∷ []) xs) ∙ at_end (reverse xs) x
