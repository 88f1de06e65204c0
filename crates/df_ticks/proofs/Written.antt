-- What is written of ticks reads as a file of these ticks.
use Rattle.std.proofs.Common.{◌≡◌, ℕ, suc, ◌+◌, ◌-◌, ◌*◌, ◌/◌, ◌%◌, ◌^◌, ◌≤◌, ◌<◌, Bool, true, false, cond, ◌&&◌, ◌==◌, List, [], ◌∷◌, ◌++◌, length, map, refl, sym, ap, ap₂, ◌∙◌, append_assoc, arith, Option, Some, None, nat_le, codes}
use Rattle.std.specs.Prelude.{All, ℤ, pos, negsuc}
use Rattle.std.specs.List.{flat_map, list_any}
use Rattle.std.specs.Fmt.{decimal, signed_decimal}
use Rattle.std.proofs.lemmas.Int.{ints}
use Rattle.std.proofs.lemmas.Bool.Decides.{nat_tests}
use Rattle.std.proofs.lemmas.Fmt.{decimal_by_steps}
use Rattle.std.proofs.lemmas.List.{append-nil}
use Rattle.std.proofs.lemmas.List.Concat.{flat_map-cons}
use Rattle.std.proofs.lemmas.List.Folds.{list_any-append}
use Rattle.csv.specs.Machine.{next_record}
use Rattle.csv.specs.Reading.{default_config, strip_bom, Reached}
use Rattle.csv.specs.Writing.{default_writer, needs_byte, row_text, fields_text, is_blank}
use Rattle.csv.specs.declared.parser.State.TheVariants as st
use Rattle.csv.proofs.RoundTrip.{read-write-many}
use Rattle.df_ticks.specs.declared.tick.Tick.{Tick}
use Rattle.df_records.specs.Fields.{is_digit, number_from, from_least, number, are_letters, is_symbol}
use Rattle.df_records.specs.RecordFile.{Fields}
use Rattle.df_records.proofs.Fields.{both_true, some_is}
use Rattle.df_ticks.specs.TickFile.{header, tick_with, tick_of, IsTick, IsTickFile}
use Rattle.df_ticks.specs.TickText.{tick_line, ticks_text}

-- digits that follow others
from-append : (most k m : ℕ) (ds more : List ℕ) → number_from most k ds ≡ Some m → number_from most k (ds ++ more) ≡ number_from most m more
from-append most k m [] more h = ap (λ n. number_from most n more) (some_is k m h)
from-append most k m (b ∷ ds) more h =
    go (is_digit b && nat_le (10 * k + (b - 48)) most) (from-append most (10 * k + (b - 48)) m ds more) h
  where
    go : (t : Bool) → (number_from most (10 * k + (b - 48)) ds ≡ Some m → number_from most (10 * k + (b - 48)) (ds ++ more) ≡ number_from most m more)
        → cond t (number_from most (10 * k + (b - 48)) ds) None ≡ Some m → cond t (number_from most (10 * k + (b - 48)) (ds ++ more)) None ≡ number_from most m more
    go true f h = f h
    go false f h = absurd cc

-- a digit that follows n
digit_more : (most n d : ℕ) → d < 10 → 10 * n + d ≤ most → number_from most n ((48 + d) ∷ []) ≡ Some (10 * n + d)
digit_more most n d lt le =
    let digit : (48 + d) - 48 ≡ d = omega arith in
    let test : is_digit (48 + d) && nat_le (10 * n + d) most ≡ true = grind (arith, nat_tests) in
    ap (λ v. cond (is_digit (48 + d) && nat_le (10 * n + v) most) (Some (10 * n + v)) None) digit ∙ ap (λ t. cond t (Some (10 * n + d)) None) test

-- digits and letters need no quotes
plain : (b : ℕ) → 48 ≤ b → needs_byte default_writer b ≡ false
plain b le = grind (arith, nat_tests)

-- how digits spell a number
record Spelled (n : ℕ) (ds : List ℕ) : Type 0 where
  head : ℕ
  tail : List ℕ
  is : ds ≡ head ∷ tail
  leads : 0 < n → head == 48 ≡ false
  value : (most : ℕ) → n ≤ most → number_from most 0 ds ≡ Some n
  unquoted : list_any (needs_byte default_writer) ds ≡ false

one : (n : ℕ) → n < 10 → Spelled n ((48 + n) ∷ [])
one n lt = record {
  head = 48 + n;
  tail = [];
  is = refl;
  leads = λ some. grind (arith, nat_tests);
  value = λ most le. digit_more most 0 n lt (omega arith) ∙ ap (λ v. Some v) (omega arith);
  unquoted = rw (plain (48 + n) (omega arith)) refl;
}

more : (n : ℕ) (ds : List ℕ) → 10 ≤ n → Spelled (n / 10) ds → Spelled n (ds ++ (48 + n % 10) ∷ [])
more n ds ge s =
    let whole : 10 * (n / 10) + n % 10 ≡ n = omega arith in
    record {
      head = s.head;
      tail = s.tail ++ (48 + n % 10) ∷ [];
      is = ap (λ l. l ++ (48 + n % 10) ∷ []) s.is;
      leads = λ some. s.leads (omega arith);
      value = λ most le. from-append most 0 (n / 10) ds ((48 + n % 10) ∷ []) (s.value most (omega arith)) ∙ digit_more most (n / 10) (n % 10) (omega arith) (omega arith) ∙ ap (λ v. Some v) whole;
      unquoted = list_any-append (needs_byte default_writer) ds ((48 + n % 10) ∷ []) ∙ rw (s.unquoted, plain (48 + n % 10) (omega arith)) refl;
    }

spelled : (n : ℕ) → n < 2 ^ 64 → Spelled n (decimal n)
spelled n lt = decimal_by_steps Spelled one more n lt

-- a number from 1 reads back
number_back : (most n : ℕ) (ds : List ℕ) → 1 ≤ n → n ≤ most → Spelled n ds → number 1 most ds ≡ Some n
number_back most n ds ge le s = ap (number 1 most) s.is ∙ go s.head s.tail (ap (number_from most 0) (sym s.is) ∙ s.value most le) (s.leads (omega arith))
  where
    least : from_least 1 (Some n) ≡ Some n
    least = let test : nat_le 1 n ≡ true = grind (arith, nat_tests) in ap (λ t. cond t (Some n) None) test

    go : (h : ℕ) (tl : List ℕ) → number_from most 0 (h ∷ tl) ≡ Some n → h == 48 ≡ false → number 1 most (h ∷ tl) ≡ Some n
    go h [] v z = ap (from_least 1) v ∙ least
    go h (c ∷ bs) v z = ap (λ t. cond t None (from_least 1 (number_from most 0 (h ∷ c ∷ bs)))) z ∙ ap (from_least 1) v ∙ least

letters_plain : (bs : List ℕ) → are_letters bs ≡ true → list_any (needs_byte default_writer) bs ≡ false
letters_plain [] h = refl
letters_plain (b ∷ bs) h =
    let p = both_true (nat_le 65 b && nat_le b 90) (are_letters bs) h in
    let q = (both_true (nat_le 65 b) (nat_le b 90) p.0).0 in
    let le : 65 ≤ b = grind (arith, nat_tests) in
    rw (plain b (omega arith), letters_plain bs p.1) refl

symbol_plain : (bs : List ℕ) → is_symbol bs ≡ true → list_any (needs_byte default_writer) bs ≡ false
symbol_plain bs h =
    let p = both_true (nat_le 1 (length bs)) (nat_le (length bs) 8 && are_letters bs) h in
    letters_plain bs (both_true (nat_le (length bs) 8) (are_letters bs) p.1).1

-- a record of two plain fields is written as they are
row_is : (x y : List ℕ) → list_any (needs_byte default_writer) x ≡ false → list_any (needs_byte default_writer) y ≡ false
    → row_text default_writer (x ∷ y ∷ []) ≡ x ++ codes "," ++ y ++ codes "\n"
unfolding fields_text is_blank
row_is x y px py = rw (px, py, append-nil y) (ap (λ l. l ++ 10 ∷ []) (sym (append_assoc x (44 ∷ []) y)))

-- the fields of a tick
abbrev row_of : Tick → Fields
row_of t = t.symbol ∷ signed_decimal t.price ∷ []

-- a line reads as its tick's fields, which are in form
record ReadsBack (t : Tick) : Type 0 where
  reads : (tail : List ℕ) → next_record default_config st.StartRecord [] [] (tick_line t ++ tail) ≡ Some (row_of t, st.StartRecord, tail)
  gives : tick_of (row_of t) ≡ Some t

line_back : (symbol : List ℕ) (price : ℤ) → IsTick record { symbol = symbol; price = price } → ReadsBack record { symbol = symbol; price = price }
line_back symbol (pos n) h =
    let from : 1 ≤ n = omega (arith, ints, h.price_from) in
    let to : n ≤ 1_000_000_000 = omega (arith, ints, h.price_to) in
    let s = spelled n (omega arith) in
    let row = row_is symbol (decimal n) (symbol_plain symbol h.symbol) s.unquoted in
    record {
      reads = λ tail. ap (λ l. next_record default_config st.StartRecord [] [] (l ++ tail)) (sym row) ∙ read-write-many symbol (decimal n) [] tail;
      gives = ap (λ t. cond t (tick_with symbol (number 1 1_000_000_000 (decimal n))) None) h.symbol ∙ ap (tick_with symbol) (number_back 1_000_000_000 n (decimal n) from to s);
    }
line_back symbol (negsuc n) h = absurd (omega (arith, ints, h.price_from))

lines_read : (ticks : List Tick) → All IsTick ticks → Reached default_config st.StartRecord (flat_map tick_line ticks) (map row_of ticks) st.StartRecord []
unfolding Reached
lines_read [] all = (refl, refl)
lines_read (t ∷ ticks) all =
    let back = line_back t.symbol t.price (all 0 t (omega arith)) in (
      (row_of t, st.StartRecord, flat_map tick_line ticks),
      ap (next_record default_config st.StartRecord [] []) (flat_map-cons tick_line t ticks) ∙ back.reads (flat_map tick_line ticks),
      refl,
      lines_read ticks (λ k d lt. all (suc k) d (omega arith)),
    )

lines_give : (ticks : List Tick) → All IsTick ticks → map tick_of (map row_of ticks) ≡ map Some ticks
lines_give [] all = refl
lines_give (t ∷ ticks) all =
    ap₂ (λ (o : Option Tick) (os : List (Option Tick)). o ∷ os) (line_back t.symbol t.price (all 0 t (omega arith))).gives (lines_give ticks (λ k d lt. all (suc k) d (omega arith)))

no_mark : (rest : List ℕ) → strip_bom (codes "symbol,price\n" ++ rest) ≡ codes "symbol,price\n" ++ rest
unfolding strip_bom
no_mark rest = refl

columns_read : (rest : List ℕ) → next_record default_config st.StartRecord [] [] (codes "symbol,price\n" ++ rest) ≡ Some (header, st.StartRecord, rest)
unfolding next_record
columns_read rest = refl

ends_here : next_record default_config st.StartRecord [] [] [] ≡ None
unfolding next_record
ends_here = refl

-- what is written of ticks in form is a file of these ticks
pub written_is_read : (ticks : List Tick) → All IsTick ticks → IsTickFile (ticks_text ticks) ticks
unfolding Reached
written_is_read ticks all =
    let rest = flat_map tick_line ticks in (
      header ∷ map row_of ticks,
      (st.StartRecord, [], ((header, st.StartRecord, rest), ap (next_record default_config st.StartRecord [] []) (no_mark rest) ∙ columns_read rest, refl, lines_read ticks all), ends_here),
      (map row_of ticks, refl, lines_give ticks all),
    )
