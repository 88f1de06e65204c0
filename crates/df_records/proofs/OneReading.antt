-- The bytes of a file determine what it tells, and such a file has no record that isn't in form.
use Rattle.std.proofs.Common.{◌≡◌, refl, ℕ, List, [], ◌∷◌, ◌++◌, Option, Some, None, ap, sym, subst, ◌∙◌, map, inl, inr}
use Rattle.csv.specs.Machine.{Read, next_record}
use Rattle.csv.specs.Reading.{AreRecords, Reached, default_config, strip_bom}
use Rattle.csv.specs.declared.parser.Config.{Config}
use Rattle.csv.specs.declared.parser.State.{State}
use Rattle.csv.specs.declared.parser.State.TheVariants as st
use Rattle.df_records.specs.RecordFile.{Fields, IsBadAfter, IsBadAt, IsFileOf, Tells}
use Rattle.df_records.proofs.Fields.{some_is}

-- there is no record where there is one
none_here : (cfg : Config) (s s2 : State) (xs zs : List ℕ) (p : Read) → next_record cfg s [] [] xs ≡ Some p → (s ≡ s2) × (xs ≡ zs)
    → next_record cfg s2 [] [] zs ≡ None → ⊥
none_here cfg s s2 xs zs p e same n = let end = ap (λ (t : State). next_record cfg t [] [] xs) same.0 ∙ ap (next_record cfg s2 [] []) same.1 ∙ n in cc

-- the record behind these is the next of all
next_of_all : (cfg : Config) (s s1 : State) (xs ys : List ℕ) (good : List Fields) (bad : Fields) (records : List Fields)
    → Reached cfg s xs (good ++ bad ∷ []) s1 ys → AreRecords cfg s xs records → (more : List Fields) × (records ≡ good ++ bad ∷ more)
unfolding Reached
next_of_all cfg s s1 xs ys [] bad [] (p, e, f, r) (s2, zs, same, n) = absurd (none_here cfg s s2 xs zs p e same n)
next_of_all cfg s s1 xs ys [] bad (record' ∷ records) (p, e, f, r) (s2, zs, (q, e2, f2, r2), n) =
    let same : p ≡ q = some_is p q (sym e ∙ e2) in
    (records, ap (λ (x : Fields). x ∷ records) (f2 ∙ ap (λ (z : Read). z.0) (sym same) ∙ sym f))
next_of_all cfg s s1 xs ys (g ∷ good) bad [] (p, e, f, r) (s2, zs, same, n) = absurd (none_here cfg s s2 xs zs p e same n)
next_of_all cfg s s1 xs ys (g ∷ good) bad (record' ∷ records) (p, e, f, r) (s2, zs, (q, e2, f2, r2), n) =
    let same : p ≡ q = some_is p q (sym e ∙ e2) in
    let more = next_of_all cfg p.1 s1 p.2 ys good bad records r (subst (λ (z : Read). AreRecords cfg z.1 z.2 records) (sym same) (s2, zs, r2, n)) in
    (more.0, ap (λ (x : Fields). x ∷ records) (f2 ∙ ap (λ (z : Read). z.0) (sym same) ∙ sym f) ∙ ap (λ (xs : List Fields). g ∷ xs) more.1)

-- all the records of a text are one list
records_are_one : (cfg : Config) (s : State) (xs : List ℕ) (some others : List Fields) → AreRecords cfg s xs some → AreRecords cfg s xs others → some ≡ others
unfolding Reached
records_are_one cfg s xs [] [] a b = refl
records_are_one cfg s xs [] (r ∷ rs) (s2, zs, same, n) (s3, ws, (q, e, f, t), m) = absurd (none_here cfg s s2 xs zs q e same n)
records_are_one cfg s xs (r ∷ rs) [] (s3, ws, (q, e, f, t), m) (s2, zs, same, n) = absurd (none_here cfg s s2 xs zs q e same n)
records_are_one cfg s xs (r ∷ rs) (r2 ∷ rs2) (s2, zs, (p, e, f, t), n) (s3, ws, (q, e2, f2, t2), m) =
    let same : p ≡ q = some_is p q (sym e ∙ e2) in
    let rest = records_are_one cfg p.1 p.2 rs rs2 (s2, zs, t, n) (subst (λ (z : Read). AreRecords cfg z.1 z.2 rs2) (sym same) (s3, ws, t2, m)) in
    ap (λ (x : Fields). x ∷ rs) (f ∙ ap (λ (z : Read). z.0) same ∙ sym f2) ∙ ap (λ (xs : List Fields). r2 ∷ xs) rest

-- lists that are the same behind Some are the same
some_map_inj : {T : Type 0} (a b : List T) → map Some a ≡ map Some b → a ≡ b
some_map_inj [] [] e = refl
some_map_inj [] (y ∷ b) e = cc
some_map_inj (x ∷ a) [] e = cc
some_map_inj {T} (x ∷ a) (y ∷ b) e =
    let first : x ≡ y = cc in
    let rest : map Some a ≡ map Some b = cc in
    ap (λ (z : T). z ∷ a) first ∙ ap (λ (zs : List T). y ∷ zs) (some_map_inj a b rest)

-- each record of what is told tells something
tells_one : {T : Type 0} (told_of : Fields → Option T) (before : List Fields) (r : Fields) (more : List Fields) (told : List T)
    → map told_of (before ++ r ∷ more) ≡ map Some told → told_of r ≡ None → ⊥
tells_one told_of [] r more [] e n = cc
tells_one told_of [] r more (o ∷ told) e n =
    let first : told_of r ≡ Some o = cc in
    let both : Some o ≡ None = sym first ∙ n in
    cc
tells_one told_of (b ∷ before) r more [] e n = cc
tells_one told_of (b ∷ before) r more (o ∷ told) e n =
    let rest : map told_of (before ++ r ∷ more) ≡ map Some told = cc in
    tells_one told_of before r more told rest n

-- where all records tell something, none behind good ones is bad
none_is_bad : {T : Type 0} (header : Fields) (told_of : Fields
    → Option T) (records : List Fields) (told : List T) (good : List Fields) (bad : Fields) (more : List Fields)
    → records ≡ good ++ bad ∷ more → Tells header told_of records told → IsBadAfter header told_of good bad → ⊥
none_is_bad header told_of records told good bad more split (rows, e, m) (inl (none, other)) =
    let whole : header ∷ rows ≡ [] ++ bad ∷ more = sym e ∙ split ∙ ap (λ (g : List Fields). g ++ bad ∷ more) none in
    let first : bad ≡ header = cc in
    other first
none_is_bad header told_of records told good bad more split (rows, e, m) (inr (some, (goods, eg, mg), n)) =
    let whole : header ∷ rows ≡ header ∷ (goods ++ bad ∷ more) = sym e ∙ split ∙ ap (λ (g : List Fields). g ++ bad ∷ more) eg in
    let rest : rows ≡ goods ++ bad ∷ more = cc in
    tells_one told_of goods bad more told (ap (λ (rs : List Fields). map told_of rs) (sym rest) ∙ m) n

-- a file that is read has no record that isn't in form
pub a_file_is_good : {T : Type 0} (header : Fields) (told_of : Fields → Option T) (bytes : List ℕ) (told : List T) (line : ℕ)
    → IsFileOf header told_of bytes told → IsBadAt header told_of bytes line → ⊥
a_file_is_good header told_of bytes told line (records, all, (rows, e, m)) (inl (none, one)) =
    let empty : [] ≡ records = records_are_one default_config st.StartRecord (strip_bom bytes) [] records none all in
    let whole : [] ≡ header ∷ rows = empty ∙ e in
    cc
a_file_is_good header told_of bytes told line (records, all, tells) (inr (good, bad, (s, rest, reached), after, at)) =
    let more = next_of_all default_config st.StartRecord s (strip_bom bytes) rest good bad records reached all in
    none_is_bad header told_of records told good bad more.0 more.1 tells after

-- the bytes determine what is told
pub told_is_one : {T : Type 0} (header : Fields) (told_of : Fields → Option T) (bytes : List ℕ) (some others : List T) → IsFileOf header told_of bytes some
    → IsFileOf header told_of bytes others → some ≡ others
told_is_one header told_of bytes some others (records, all, (rows, e, m)) (records2, all2, (rows2, e2, m2)) =
    let same : records ≡ records2 = records_are_one default_config st.StartRecord (strip_bom bytes) records records2 all all2 in
    let whole : header ∷ rows ≡ header ∷ rows2 = sym e ∙ same ∙ e2 in
    let rest : rows ≡ rows2 = cc in
    some_map_inj some others (sym m ∙ ap (λ (rs : List Fields). map told_of rs) rest ∙ m2)
