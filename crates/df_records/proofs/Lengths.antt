-- A file has more bytes than records.
use Rattle.std.proofs.Common.{◌≡◌, ℕ, suc, ◌≤◌, ◌<◌, Bool, true, false, cond, ◌==◌, List, [], ◌∷◌, ◌++◌, length, map, refl, sym, ap, subst, ◌∙◌, arith, Option, Some, None}
use Rattle.csv.specs.Machine.{Read, next_record, step, is_end, ends_at_end, after_end, fields_after, field_after, in_field, start_field, start_record}
use Rattle.csv.specs.Reading.{default_config, strip_bom, is_bom, Reached}
use Rattle.csv.specs.declared.parser.State.{State}
use Rattle.csv.specs.declared.parser.State.TheVariants as st
use Rattle.csv.specs.declared.parser.Action.{Action}
use Rattle.csv.specs.declared.parser.Action.TheVariants as act
use Rattle.csv.specs.declared.parser.Terminator.TheVariants as term
use Rattle.df_records.specs.RecordFile.{Fields, IsFileOf}
use Rattle.df_records.proofs.Fields.{some_is}

-- the rests of equal lists are equal
rest_of : {X : Type 0} (a b : X) (xs ys : List X) → a ∷ xs ≡ b ∷ ys → xs ≡ ys
rest_of a b xs ys h = cc

rows_long : {T : Type 0} (told_of : Fields → Option T) (rows : List Fields) (told : List T) → map told_of rows ≡ map Some told → length told ≤ length rows
rows_long told_of rows [] h = omega arith
rows_long told_of [] (o ∷ told) h = absurd cc
rows_long told_of (r ∷ rows) (o ∷ told) h = omega (arith, rows_long told_of rows told (rest_of (told_of r) (Some o) (map told_of rows) (map Some told) h))

-- a step of the reader's machine that ends a record leaves it between records
abbrev Between : State × Action → Type 0
Between p = is_end p.1 ≡ true → ends_at_end p.0 ≡ false

chosen : (t : Bool) (a b : State × Action) → Between a → Between b → Between (cond t a b)
chosen true a b f g = f
chosen false a b f g = g

no_end : (s : State) (a : Action) → is_end a ≡ false → Between (s, a)
no_end s a e h = let f : false ≡ true = sym e ∙ h in absurd cc

ended : (c : ℕ) → Between (after_end term.CRLF c, act.EndRecord)
ended c h = go (c == 13)
  where
    go : (t : Bool) → ends_at_end (cond t st.AfterCr st.StartRecord) ≡ false
    go true = refl
    go false = refl

in_field_between : (c : ℕ) → Between (in_field default_config c)
in_field_between c = search (chosen, no_end, ended)

start_field_between : (c : ℕ) → Between (start_field default_config c)
start_field_between c = search (chosen, no_end, in_field_between)

start_record_between : (c : ℕ) → Between (start_record default_config c)
start_record_between c = search (chosen, no_end, start_field_between)

step_between : (s : State) (c : ℕ) → Between (step default_config s c)
step_between st.StartRecord c = start_record_between c
step_between _ c = search (chosen, no_end, start_record_between, start_field_between, in_field_between)

-- a record takes a byte at least where the machine stands between records, and leaves it there
abbrev Takes : State → List ℕ → Read → Type 0
Takes s xs p = (ends_at_end p.1 ≡ false) × (length p.2 ≤ length xs) × (ends_at_end s ≡ false → suc (length p.2) ≤ length xs)

taken : (s : State) (fields : List (List ℕ)) (field xs : List ℕ) (p : Read) → next_record default_config s fields field xs ≡ Some p → Takes s xs p
unfolding next_record
taken s fields field [] p h = go (ends_at_end s) h
  where
    go : (t : Bool) → cond t (Some (fields ++ (field ∷ []), st.StartRecord, [])) None ≡ Some p
        → (ends_at_end p.1 ≡ false) × (length p.2 ≤ 0) × (t ≡ false → suc (length p.2) ≤ 0)
    go true h =
        let e : (fields ++ (field ∷ []), st.StartRecord, []) ≡ p = some_is _ p h in
        subst (λ (q : Read). (ends_at_end q.1 ≡ false) × (length q.2 ≤ 0) × (true ≡ false → suc (length q.2) ≤ 0)) e (refl, omega arith, λ no. absurd cc)
    go false h = absurd cc
taken s fields field (c ∷ rest) p h =
    go (is_end (step default_config s c).1) (step_between s c)
    (taken (step default_config s c).0 (fields_after (step default_config s c).1 fields field) (field_after (step default_config s c).1 c field) rest p) h
  where
    go : (t : Bool) → (t ≡ true → ends_at_end (step default_config s c).0 ≡ false)
        → (next_record default_config (step default_config s c).0 (fields_after (step default_config s c).1 fields field)
        (field_after (step default_config s c).1 c field) rest ≡ Some p → Takes (step default_config s c).0 rest p)
        → cond t (Some (fields_after (step default_config s c).1 fields field, (step default_config s c).0, rest))
        (next_record default_config (step default_config s c).0 (fields_after (step default_config s c).1 fields field)
        (field_after (step default_config s c).1 c field) rest) ≡ Some p
        → Takes s (c ∷ rest) p
    go true f more h =
        let e : (fields_after (step default_config s c).1 fields field, (step default_config s c).0, rest) ≡ p = some_is _ p h in
        subst (λ (q : Read). Takes s (c ∷ rest) q) e (f refl, omega arith, λ no. omega arith)
    go false f more h = let m = more h in (m.0, omega (arith, m.1), λ no. omega (arith, m.1))

records_short : (records : List Fields) (s s2 : State) (xs ys : List ℕ) → ends_at_end s ≡ false → Reached default_config s xs records s2 ys
    → length records ≤ length xs
unfolding Reached
records_short [] s s2 xs ys e r = omega arith
records_short (f ∷ records) s s2 xs ys e r =
    let t = taken s [] [] xs r.0 r.1 in
    omega (arith, t.2 e, records_short records r.0.1 s2 r.0.2 ys t.0 r.3)

strip_short : (xs : List ℕ) → length (strip_bom xs) ≤ length xs
unfolding strip_bom
strip_short [] = omega arith
strip_short (a ∷ []) = omega arith
strip_short (a ∷ b ∷ []) = omega arith
strip_short (a ∷ b ∷ c ∷ rest) = go (is_bom a b c)
  where
    go : (t : Bool) → length (cond t rest (a ∷ b ∷ c ∷ rest)) ≤ length (a ∷ b ∷ c ∷ rest)
    go true = omega arith
    go false = omega arith

-- a file tells of fewer things than it has bytes
pub file_is_longer : {T : Type 0} (header : Fields) (told_of : Fields → Option T) (bytes : List ℕ) (told : List T) → IsFileOf header told_of bytes told
    → length told < length bytes
file_is_longer header told_of bytes told f =
    let all = records_short f.0 st.StartRecord f.1.0 (strip_bom bytes) f.1.1 refl f.1.2 in
    omega (arith, all, ap length f.2.1, rows_long told_of f.2.0 told f.2.2, strip_short bytes)
