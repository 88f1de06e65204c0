-- The records of a file that were read so far.
use Rattle.std.proofs.Common.{◌≡◌, ℕ, ◌+◌, ◌<◌, true, false, List, [], ◌∷◌, ◌++◌, length, map, sym, ap, subst, ◌∙◌, ◌⊎◌, inl, inr, ⊎_elim, arith, Option, Some, nat_eq, length-append}
use Rattle.std.proofs.lemmas.List.{map-append}
use Rattle.std.proofs.lemmas.Bool.Decides.{nat_tests}
use Rattle.std.proofs.lemmas.List.Elements.{All-cons, All-nil}
use Rattle.std.specs.List.{All}
use Rattle.df_records.specs.RecordFile.{Fields, IsBadAfter, Tells}
use Rattle.df_records.specs.code.Taking.{TakesFurther, TakesHeader, TakesRecord}

-- no record yet, or the header and further ones
abbrev pub Read : {T : Type 0} → Fields → (Fields → Option T) → List Fields → List T → ℕ → Type 0
Read header told_of records told
    line = ((records ≡ []) × (told ≡ []) × (line ≡ 1)) ⊎ (Tells header told_of records told × (line ≡ length records + 1) × (1 < line))

header_alone : {T : Type 0} (header : Fields) (told_of : Fields → Option T) (fields : Fields) (told more : List T) → told ≡ [] → fields ≡ header → more ≡ told
    → Tells header told_of (fields ∷ []) more
header_alone header told_of fields told more e h m = ([], ap (λ f. f ∷ []) h, ap (map Some) (sym (m ∙ e)))

one_more : {T : Type 0} (header : Fields) (told_of : Fields → Option T) (records : List Fields) (told more : List T) (fields : Fields) (o : T)
    → Tells header told_of records told → told_of fields ≡ Some o → more ≡ told ++ o ∷ [] → Tells header told_of (records ++ fields ∷ []) more
one_more header told_of records told more fields o g e m = (
  g.0 ++ fields ∷ [],
  ap (λ l. l ++ fields ∷ []) g.1,
  map-append told_of g.0 (fields ∷ [])
      ∙ (ap (λ l. l ++ told_of fields ∷ []) g.2 ∙ (ap (λ x. map Some told ++ x ∷ []) e ∙ (sym (map-append Some told (o ∷ [])) ∙ ap (map Some) (sym m)))),
)

not_first : (line : ℕ) → 1 < line → nat_eq line 1 ≡ false
not_first line lt = grind (arith, nat_tests)

pub read_more : {T : Type 0} (header : Fields) (told_of : Fields → Option T) (records : List Fields) (told more : List T) (fields : Fields) (line : ℕ)
    → Read header told_of records told line → TakesRecord header told_of (nat_eq line 1) fields told more true → Read header told_of (records ++ fields ∷ [])
    more (line + 1)
read_more header told_of records told more fields line r t = ⊎_elim
    (λ no. let first : TakesHeader header fields told more true = subst (λ n. TakesRecord header told_of (nat_eq n 1) fields told more true) no.2 t in
    let g = header_alone header told_of fields told more no.1 first.0 first.1 in
    let e : fields ∷ [] ≡ records ++ fields ∷ [] = ap (λ l. l ++ fields ∷ []) (sym no.0) in
    let n = ap length e in
    inr (subst (λ l. Tells header told_of l more) e g, omega arith, omega arith))
    (λ so. let further : TakesFurther told_of fields told more true = subst (λ b. TakesRecord header told_of b fields told more true) (not_first line so.2) t in
    inr (one_more header told_of records told more fields further.0 so.0 further.1 further.2, omega (arith, length-append records (fields ∷ [])), omega arith))
    r

pub read_bad : {T : Type 0} (header : Fields) (told_of : Fields → Option T) (records : List Fields) (told more : List T) (fields : Fields) (line : ℕ)
    → Read header told_of records told line → TakesRecord header told_of (nat_eq line 1) fields told more false → IsBadAfter header told_of records
    fields × (line ≡ length records + 1)
read_bad header told_of records told more fields line r t = ⊎_elim
    (λ no. let first : TakesHeader header fields told more false = subst (λ n. TakesRecord header told_of (nat_eq n 1) fields told more false) no.2 t in
    (inl (no.0, first), omega (arith, ap length no.0, no.2)))
    (λ so. let further : TakesFurther told_of fields told more false = subst (λ b. TakesRecord header told_of b fields told more false) (not_first line so.2)
    t in
    (inr (told, so.0, further), so.1))
    r

pub read_all : {T : Type 0} (header : Fields) (told_of : Fields → Option T) (records : List Fields) (told : List T) (line : ℕ)
    → Read header told_of records told line → 1 < line → Tells header told_of records told
read_all header told_of records told line r lt = ⊎_elim (λ no. absurd (omega (arith, no.2))) (λ so. so.0) r

-- what holds of whatever a record tells holds of all that is told
pub all_told : {T : Type 0} (told_of : Fields → Option T) (P : T → Type 0) → ((fields : Fields) (t : T) → told_of fields ≡ Some t → P t)
    → (rows : List Fields) (told : List T) → map told_of rows ≡ map Some told → All P told
all_told told_of P gives rows [] h = All-nil P
all_told told_of P gives [] (t ∷ told) h = absurd cc
all_told told_of P gives (r ∷ rows) (t ∷ told) h =
    let first : told_of r ≡ Some t = cc in
    let rest : map told_of rows ≡ map Some told = cc in
    All-cons P t told (gives r t first) (all_told told_of P gives rows told rest)
