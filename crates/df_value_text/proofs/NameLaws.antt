-- A name, and one above another, is read as it is spelled; above each but the greatest there is one.
use Rattle.df_value_text.proofs.Names.{◌≡◌, ℕ, zero, suc, ◌<◌, ◌≤◌, Bool, true, false, cond, ◌&&◌, List, [], ◌∷◌, ◌++◌, length, take, drop, Ok, refl, sym, ap, ◌∙◌, arith, ◌⊎◌, inl, inr, length-append, nat_lt, list_all, nat_tests, append-nil, is_letter, is_name_byte, is_name, CanGoOn, Ends, Found, Format, any_low, first_at, first_format, own, name_bytes, name_at, take-append_seam, drop-append_seam, longest_name, stuck_at, eqb, Err, subst, append_assoc, nat_cmp_is, tied_itself, nat_cmp_total, nat_list_cmp_total, Ordering, Less, Equal, Greater, is_lt, nat_cmp, eqb-true, and_parts, Stop, Bad, Low, told, Whole, is_longest, nowhere, first_stops, name_cmp, NameStandsLow, higher_at, whole_format, first_stays, higher}
use Rattle.df_format.proofs.Laws.{ends_as, Reads, cond_told, format_of, self_told, told_bind}
use Rattle.std.proofs.Common.{take-append-drop}
use Rattle.std.proofs.lemmas.List.Folds.{list_all-append}
use Rattle.df_value_text.specs.ReadValue.{greatest}

abbrev pub IsName : List ℕ → Type 0
IsName name = is_name name ≡ true

-- a name is as long as it can be, or the byte isn't one of a name
abbrev pub name_goes : List ℕ → ℕ → Bool
name_goes name c = nat_lt (length name) longest_name && is_name_byte c

-- a name goes on with its bytes alone
pub name_apart : (name : List ℕ) (c : ℕ) → is_name_byte c ≡ false → name_goes name c ≡ false
name_apart name c h = grind (arith, nat_tests)

-- so many bytes are counted at most, or the byte isn't one of a name
abbrev counts_on : ℕ → List ℕ → ℕ → Bool
counts_on most ds c = nat_lt (length ds) most && is_name_byte c

one_on : (most d : ℕ) (ds : List ℕ) (c : ℕ) → counts_on (suc most) (d ∷ ds) c ≡ counts_on most ds c
one_on most d ds c = elim (told (nat_lt (length ds) most)) [ inl h ↦ grind (arith, nat_tests) | inr h ↦ grind (arith, nat_tests) ]

-- what the count says of the bytes
record Counted (most : ℕ) (cs : List ℕ) (k : ℕ) : Type 0 where
  pub few : k ≤ most
  pub within : length (take k cs) ≡ k
  pub fits : list_all is_name_byte (take k cs) ≡ true
  pub ends : Ends (counts_on most) (take k cs) (drop k cs)

counted : (most : ℕ) (cs : List ℕ) → Counted most cs (name_bytes most cs)
counted most [] = record { few = omega arith; within = refl; fits = refl; ends = tt }
counted zero (c ∷ cs) = record { few = omega arith; within = refl; fits = refl; ends = refl }
counted (suc most) (c ∷ cs) = by (is_name_byte c) (counted most cs) refl
  where
    by : (b : Bool) → Counted most cs (name_bytes most cs) → is_name_byte c ≡ b → Counted (suc most) (c ∷ cs) (cond b (suc (name_bytes most cs)) 0)
    by false r h = record { few = omega arith; within = refl; fits = refl; ends = grind (arith, nat_tests) }
    by true r h = record {
      few = omega (arith, r.few);
      within = ap suc r.within;
      fits = rw (h, r.fits) refl;
      ends = ends_as (counts_on most) (counts_on (suc most)) (take (name_bytes most cs) cs) (c ∷ take (name_bytes most cs) cs) (drop (name_bytes most cs) cs)
          (one_on most c (take (name_bytes most cs) cs)) r.ends;
    }

-- bytes of a name in front are counted up to one that isn't, or to the limit
counts : (most : ℕ) (ds rest : List ℕ) → length ds ≤ most → list_all is_name_byte ds ≡ true → Ends (counts_on most) ds rest
    → name_bytes most (ds ++ rest) ≡ length ds
counts most [] [] le fits ends = refl
counts zero [] (c ∷ rest) le fits ends = refl
counts (suc most) [] (c ∷ rest) le fits ends =
    let end : (nat_lt 0 (suc most) && is_name_byte c) ≡ false = ends in
    let other : is_name_byte c ≡ false = grind (arith, nat_tests) in
    rw other refl
counts zero (d ∷ ds) rest le fits ends = absurd (omega (arith, le))
counts (suc most) (d ∷ ds) rest le fits ends =
    let here : is_name_byte d ≡ true = grind (arith, fits) in
    let more : list_all is_name_byte ds ≡ true = grind (arith, fits) in
    let end = ends_as (counts_on (suc most)) (counts_on most) (d ∷ ds) ds rest (λ t. sym (one_on most d ds t)) ends in
    rw here (ap suc (counts most ds rest (omega (arith, le)) more end))

-- what is read behind a letter
abbrev pub name_of : ℕ → List ℕ → List ℕ × List ℕ
name_of c cs = (c ∷ take (name_bytes 31 cs) cs, drop (name_bytes 31 cs) cs)

pub name_first : (bytes : List ℕ) → first_at is_letter name_of bytes ≡ name_at bytes
name_first [] = refl
name_first (c ∷ cs) = refl

name_found : (c : ℕ) (cs : List ℕ) → is_letter c ≡ true → Found own IsName name_goes (c ∷ cs) (name_of c cs).0 (name_of c cs).1
name_found c cs letter =
    let r = counted 31 cs in
    let ds : List ℕ = take (name_bytes 31 cs) cs in
    let short : nat_lt (length ds) 32 ≡ true = grind (arith, nat_tests, r.few, r.within) in
    record {
      parts = ap (λ (u : List ℕ). c ∷ u) (sym (take-append-drop (name_bytes 31 cs) cs));
      fits = rw (letter, short, r.fits) refl;
      ends = ends_as (counts_on 31) name_goes ds (c ∷ ds) (drop (name_bytes 31 cs) cs) (one_on 31 c ds) r.ends;
    }

name_again : (x rest : List ℕ) → IsName x → Ends name_goes x rest → name_at (x ++ rest) ≡ Ok (x, rest)
name_again [] rest fits ends = absurd (let no : false ≡ true = fits in cc)
name_again (c ∷ ds) rest fits ends =
    let letter : is_letter c ≡ true = grind (arith, fits) in
    let few : length ds < 32 = grind (arith, nat_tests) in
    let bytes : list_all is_name_byte ds ≡ true = grind (arith, fits) in
    let end = ends_as name_goes (counts_on 31) (c ∷ ds) ds rest (λ t. sym (one_on 31 c ds t)) ends in
    let count : name_bytes 31 (ds ++ rest) ≡ length ds = counts 31 ds rest (omega (arith, few)) bytes end in
    rw (letter, count, take-append_seam ds rest, drop-append_seam ds rest) refl

-- one more byte of a name is a longer name
name_on : (x : List ℕ) (c : ℕ) → IsName x → name_goes x c ≡ true → CanGoOn own IsName (x ++ c ∷ [])
name_on [] c fits g = absurd (let no : false ≡ true = fits in cc)
name_on (d ∷ ds) c fits g = record { some = (d ∷ ds) ++ c ∷ []; fits = longer d ds c fits g; more = []; is = sym (append-nil ((d ∷ ds) ++ c ∷ [])) }
  where
    longer : (d : ℕ) (ds : List ℕ) (c : ℕ) → is_name (d ∷ ds) ≡ true → name_goes (d ∷ ds) c ≡ true → is_name (d ∷ (ds ++ c ∷ [])) ≡ true
    longer d ds c fits g =
        let letter : is_letter d ≡ true = grind (arith, fits) in
        let bytes : list_all is_name_byte ds ≡ true = grind (arith, fits) in
        let byte : is_name_byte c ≡ true = grind (arith, g) in
        let room : suc (length ds) < 32 = grind (arith, nat_tests) in
        let few : nat_lt (length (ds ++ c ∷ [])) 32 ≡ true = grind (arith, nat_tests, length-append ds (c ∷ [])) in
        let all : list_all is_name_byte (ds ++ c ∷ []) ≡ true = rw (list_all-append is_name_byte ds (c ∷ []), bytes, byte) refl in
        rw (letter, few, all) refl

pub name_format : (IsLow : List ℕ → List ℕ → Type 0) → Format IsLow own IsName name_goes name_at
name_format IsLow =
    any_low IsLow (first_format own IsName name_goes name_at is_letter name_of name_first name_found
    (λ x rest fits ends. name_first (x ++ rest) ∙ name_again x rest fits ends) name_on)

abbrev pub AfterName : List ℕ → List ℕ → Type 0
AfterName prev name = IsName name × (is_lt (name_cmp prev name) ≡ true)

abbrev pub NearName : List ℕ → List ℕ → List ℕ → Type 0
NearName prev front rest = (front ≡ []) × NameStandsLow prev rest

pub is_less : (o : Ordering) → is_lt o ≡ true → o ≡ Less
is_less Less h = refl
is_less Equal h = absurd cc
is_less Greater h = absurd cc

pub tied : (n : ℕ) → nat_cmp n n ≡ Equal
tied n = tied_itself nat_cmp_total n

-- ---- the longest name

name_stops : (bytes : List ℕ) (stop : Stop ℕ) → name_at bytes ≡ Err stop → stop ≡ Bad bytes
name_stops bytes stop e = first_stops is_letter name_of bytes stop (name_first bytes ∙ e)

-- where no name begins, none begins with other bytes behind the first
name_stays : (c : ℕ) (tail other : List ℕ) (stop : Stop ℕ) → name_at (c ∷ tail) ≡ Err stop → name_at (c ∷ other) ≡ Err (Bad (c ∷ other))
name_stays c tail other stop e = first_stays is_letter name_of c tail other stop e

-- where a name stands, one is read
name_some : (name more : List ℕ) → IsName name → (y : List ℕ × List ℕ) × (name_at (name ++ more) ≡ Ok y)
name_some [] more fits = absurd (let no : false ≡ true = fits in cc)
name_some (c ∷ cs) more fits = (name_of c (cs ++ more), let letter : is_letter c ≡ true = grind (arith, fits) in rw letter refl)

pub name_whole : Whole own IsName (Ends name_goes) name_at
name_whole = whole_format (name_format nowhere) name_some

-- ---- a name above another

prefix_below : (name : List ℕ) (c : ℕ) (more : List ℕ) → name_cmp name (name ++ c ∷ more) ≡ Less
prefix_below [] c more = refl
prefix_below (d ∷ ds) c more = rw (tied d) (prefix_below ds c more)

higher_reads : (prev bytes : List ℕ) → Reads (NearName prev) own (AfterName prev) name_goes (higher_at prev) bytes (higher_at prev bytes)
higher_reads prev bytes =
    told_bind _ _ _ _ (name_at bytes) (higher prev bytes) (self_told (name_at bytes)) (λ x e.
    let f = (name_format nowhere).found bytes x.0 x.1 e in
    cond_told _ _ (is_lt (name_cmp prev x.0)) (Ok x) (Err (Low bytes)) (λ h. record { parts = f.parts; fits = (f.fits, h); ends = f.ends })
    (λ h. record {
      front = [];
      parts = refl;
      viable = tt;
      cause = (refl, record { name = x.0; more = x.1; longest = is_longest name_whole bytes x.0 x.1 e; low = h });
    })) (λ stop e. stuck_at own (AfterName prev) (higher_at prev) bytes [] bytes stop (name_stops bytes stop e) refl tt
    (λ c tail other is. rw (name_stays c tail other stop (ap name_at (sym is) ∙ e)) refl))

higher_on : (prev name : List ℕ) (c : ℕ) → AfterName prev name → name_goes name c ≡ true → CanGoOn own (AfterName prev) (name ++ c ∷ [])
higher_on prev name c after g =
    let v = (name_format nowhere).on name c after.0 g in
    let is : v.some ≡ name ++ c ∷ v.more = v.is ∙ append_assoc name (c ∷ []) v.more in
    let above : name_cmp name v.some ≡ Less = ap (name_cmp name) is ∙ prefix_below name c v.more in
    record {
      some = v.some;
      fits = (v.fits, ap is_lt (nat_list_cmp_total.trans prev name v.some (is_less (name_cmp prev name) after.1) above));
      more = v.more;
      is = v.is;
    }

pub higher_format : (prev : List ℕ) → Format (NearName prev) own (AfterName prev) name_goes (higher_at prev)
higher_format prev =
    format_of (higher_reads prev) (λ name rest after ends. rw ((name_format nowhere).again name rest after.0 ends, after.1) refl) (higher_on prev)

-- ---- the greatest name

abbrev is_z : ℕ → Bool
is_z c = eqb c 122

abbrev zs : ℕ → List ℕ
zs zero = []
zs (suc n) = 122 ∷ zs n

name_byte_most : (c : ℕ) → is_name_byte c ≡ true → c ≤ 122
name_byte_most c h = grind (arith, nat_tests)

-- so many `z` are above any no longer name but themselves
up_to_z : (n : ℕ) (cs : List ℕ) → list_all is_name_byte cs ≡ true → length cs ≤ n → (name_cmp cs (zs n) ≡ Less) ⊎ (cs ≡ zs n)
up_to_z zero [] h le = inr refl
up_to_z (suc n) [] h le = inl refl
up_to_z zero (c ∷ cs) h le = absurd (omega (arith, le))
up_to_z (suc n) (c ∷ cs) h le =
    let b = and_parts (is_name_byte c) (list_all is_name_byte cs) h in
    elim (told (is_z c)) [
      | inl k ↦ let is : c ≡ 122 = eqb-true c 122 k in elim (up_to_z n cs b.1 (omega (arith, le))) [
        | inl less ↦ inl (rw is less)
        | inr same ↦ inr (rw (is, same) refl)
      ]
      | inr k ↦
          let less : c < 122 = grind (arith, nat_tests, name_byte_most c b.0) in
          let order = nat_cmp_is c 122 Less less in
          inl (rw (← order) refl)
    ]

pub name_size : (name : List ℕ) → IsName name → (list_all is_name_byte name ≡ true) × (length name ≤ 32)
name_size [] fits = absurd (let no : false ≡ true = fits in cc)
name_size (c ∷ cs) fits =
    let letter : is_letter c ≡ true = grind (arith, fits) in
    let few : length cs < 32 = grind (arith, nat_tests) in
    let all : list_all is_name_byte cs ≡ true = grind (arith, fits) in
    let byte : is_name_byte c ≡ true = rw letter refl in
    (rw (byte, all) refl, omega (arith, few))

pub greatest_fits : IsName greatest
unfolding greatest
greatest_fits = refl

-- what has a name above it has the greatest above it
pub below_greatest : (prev name : List ℕ) → AfterName prev name → is_lt (name_cmp prev greatest) ≡ true
unfolding greatest
below_greatest prev name after =
    let w = name_size name after.0 in
    elim (up_to_z 32 name w.0 w.1) [
      | inl less ↦ ap is_lt (nat_list_cmp_total.trans prev name (zs 32) (is_less (name_cmp prev name) after.1) less)
      | inr same ↦ subst (λ (u : List ℕ). is_lt (name_cmp prev u) ≡ true) same after.1
    ]
