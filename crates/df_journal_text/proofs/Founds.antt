-- What reading gives is spelled so, and fits.
use Rattle.df_journal_text.proofs.Names.{◌≡◌, ℕ, suc, zero, ◌<◌, ◌^◌, true, eqb, Bool, Option, Some, None, List, [], ◌∷◌, ◌++◌, length, map, Ok, Err, Result, Stop, decimal, refl, sym, ap, subst, ◌∙◌, arith, append_assoc, append-nil, AllByRecursion, flat_map, All-from_recursion, Low, Read, ◌>>=◌, as_at, then_at, maybe_at, text_at, behind_at, closed_at, while_at, all_at, text_found, is_name, Privilege, IsLabel, IsPrivilege, IsTag, IsTagSet, label_text, path_text, privilege_text, tag_text, label_at, privilege_at, name_at, numbers_at, short_at, tag_at, label_format, privilege_format, nowhere, nowhere_is_local, filter_text, IsFilter, filter_at, ArePrivileges, IsUnit, spaced, word, unit_text, braced_at, instance_at, unit_at, unit_of, ascend, ascending, bare_at, begins_pair, keyed, kinds_at, privileges_at, word_at}
use Rattle.df_format.proofs.Choices.{MaybeFits}
use Rattle.df_format.proofs.Laws.{Told, cond_told, self_told, told_bind, told_on}
use Rattle.df_format.proofs.Texts.{text_format}
use Rattle.df_value_text.proofs.NameLaws.{name_format}
use Rattle.df_value_text.proofs.TagSetLaws.{tags_format}
use Rattle.df_filter_text.proofs.FilterLaws.{filter_format}
use Rattle.df_journal_text.proofs.WordBacks.{braced, spaced-privileges}
use Rattle.df_journal_text.proofs.Words.{ascending_of}
use Rattle.df_format.specs.Format.{Format}
use Rattle.df_format.specs.Spelling.{maybe_spell}
use Rattle.df_value_text.proofs.TagLaws.{behind_byte, long_found, short_format, tag_format}

-- with these bytes before it, what reading gives is spelled so, and fits
pub record Behind {X : Type 0} (front : List ℕ) (spell : X → List ℕ) (Fits : X → Type 0) (read : List ℕ → Read ℕ X) : Type 0 where
  pub found : (bytes : List ℕ) (x : X) (rest : List ℕ) → read bytes ≡ Ok (x, rest) → (front ++ bytes ≡ spell x ++ rest) × Fits x

-- what reading gives stands in front, and fits
abbrev pub Finds : {X : Type 0} → (X → List ℕ) → (X → Type 0) → (List ℕ → Read ℕ X) → Type 0
Finds spell Fits read = Behind [] spell Fits read

-- what was read
abbrev Tells : {X : Type 0} → (X → List ℕ) → (X → Type 0) → List ℕ → Read ℕ X → Type 0
Tells spell Fits bytes r = Told (λ x. (bytes ≡ spell x.0 ++ x.1) × Fits x.0) (λ stop. Unit {0}) r

finds_by : {X : Type 0} {front : List ℕ} {spell : X → List ℕ} {Fits : X → Type 0} {read : List ℕ → Read ℕ X}
    → ((bytes : List ℕ) → Tells spell Fits (front ++ bytes) (read bytes)) → Behind front spell Fits read
finds_by {front = front} {spell} {Fits} {read} all =
    record { found = λ bytes x rest e. subst (Tells spell Fits (front ++ bytes)) e (all bytes) }

-- what follows
find_next : {X B : Type 0} {spell : X → List ℕ} {Fits : X → Type 0} {read : List ℕ → Read ℕ X} (f : Finds spell Fits read) (P : B → Type 0) (bytes : List ℕ)
    (next : X × List ℕ → Result B (Stop ℕ))
    → ((x : X) (rest : List ℕ) → bytes ≡ spell x ++ rest → Fits x → Told P (λ stop. Unit {0}) (next (x, rest)))
    → Told P (λ stop. Unit {0}) (read bytes >>= next)
find_next {read = read} f P bytes next on =
    told_bind _ _ P _ (read bytes) next (self_told (read bytes)) (λ x e. let k = f.found bytes x.0 x.1 e in on x.0 x.1 k.0 k.1) (λ stop e. tt)

-- what is read is made of what another reads
pub finds_as : {X Y : Type 0} {front : List ℕ} {spell : Y → List ℕ} {Fits : Y → Type 0} {sx : X → List ℕ} {FX : X → Type 0} {read : List ℕ → Read ℕ X}
    (make : X → Y) → Finds sx FX read → ((x : X) → FX x → (spell (make x) ≡ front ++ sx x) × Fits (make x)) → Behind front spell Fits (as_at make read)
finds_as {front = front} {sx = sx} make f to = finds_by (λ bytes. find_next f _ bytes (λ x. Ok (make x.0, x.1)) (λ x rest parts fits. let t = to x fits in
    (ap (λ (u : List ℕ). front ++ u) parts ∙ sym (append_assoc front (sx x) rest) ∙ ap (λ (u : List ℕ). u ++ rest) (sym t.0), t.1)))

pub finds_then : {X Y : Type 0} {sx : X → List ℕ} {FX : X → Type 0} {rx : List ℕ → Read ℕ X} {sy : Y → List ℕ} {FY : Y → Type 0} {ry : List ℕ → Read ℕ Y}
    → Finds sx FX rx → Finds sy FY ry → Finds (λ (p : X × Y). sx p.0 ++ sy p.1) (λ (p : X × Y). FX p.0 × FY p.1) (then_at rx ry)
finds_then {sx = sx} {sy = sy} {ry = ry} f g = finds_by (λ bytes. find_next f _ bytes (λ x. ry x.1 >>= λ y. Ok ((x.0, y.0), y.1)) (λ x mid first fx.
    find_next g _ mid (λ y. Ok ((x, y.0), y.1)) (λ y rest second fy.
    (first ∙ ap (λ (u : List ℕ). sx x ++ u) second ∙ sym (append_assoc (sx x) (sy y) rest), (fx, fy)))))

-- what is read by the laws of a format
formed : {X : Type 0} {IsLow : List ℕ → List ℕ → Type 0} {spell : X → List ℕ} {Fits : X → Type 0} {goes : X → ℕ → Bool} {read : List ℕ → Read ℕ X}
    → Format IsLow spell Fits goes read → Finds spell Fits read
formed format = record { found = λ bytes x rest e. let f = format.found bytes x rest e in (f.parts, f.fits) }

pub finds_behind : {X : Type 0} {spell : X → List ℕ} {Fits : X → Type 0} {read : List ℕ → Read ℕ X} (ws : List ℕ) → Finds spell Fits read
    → Finds (λ (x : X). ws ++ spell x) Fits (behind_at ws read)
finds_behind {spell = spell} {read = read} ws f = finds_by (λ bytes. find_next (formed (text_format nowhere ws)) _ bytes (λ h. read h.1) (λ w mid first is.
    told_on _ _ _ _ (read mid) (self_told (read mid)) (λ x e. let k = f.found mid x.0 x.1 e in
    (first ∙ ap (λ (v : List ℕ). v ++ mid) is ∙ ap (λ (u : List ℕ). ws ++ u) k.0 ∙ sym (append_assoc ws (spell x.0) x.1), k.1)) (λ stop e. tt)))

pub finds_closed : {X : Type 0} {spell : X → List ℕ} {Fits : X → Type 0} {read : List ℕ → Read ℕ X} (ws : List ℕ) → Finds spell Fits read
    → Finds (λ (x : X). spell x ++ ws) Fits (closed_at ws read)
finds_closed {spell = spell} ws f = finds_by (λ bytes. find_next f _ bytes (λ x. text_at ws x.1 >>= λ h. Ok (x.0, h.1)) (λ x mid first fits.
    find_next (formed (text_format nowhere ws)) _ mid (λ h. Ok (x, h.1)) (λ w rest second is.
    (first ∙ ap (λ (u : List ℕ). spell x ++ u) (second ∙ ap (λ (v : List ℕ). v ++ rest) is) ∙ sym (append_assoc (spell x) ws rest), fits))))

pub finds_word : {X : Type 0} {spell : X → List ℕ} {Fits : X → Type 0} {read : List ℕ → Read ℕ X} → Finds spell Fits read
    → Finds (λ (x : X). word (spell x)) Fits (word_at read)
finds_word f = finds_behind (32 ∷ []) f

-- something or nothing
finds_maybe : {X : Type 0} {spell : X → List ℕ} {Fits : X → Type 0} {read : List ℕ → Read ℕ X} (begins : ℕ → Bool) → Finds spell Fits read
    → Finds (maybe_spell spell) (MaybeFits Fits) (maybe_at begins read)
finds_maybe {X} {spell} {Fits} {read} begins f = finds_by by
  where
    by : (bytes : List ℕ) → Tells (maybe_spell spell) (MaybeFits Fits) bytes (maybe_at begins read bytes)
    by [] = (refl, tt)
    by (c ∷ cs) = cond_told _ _ (begins c) (read (c ∷ cs) >>= λ x. Ok (Some x.0, x.1)) (Ok (None, c ∷ cs))
        (λ h. find_next f _ (c ∷ cs) (λ x. Ok (Some x.0, x.1)) (λ x rest parts fits. (parts, fits))) (λ h. (refl, tt))

-- ---- keywords

-- what is read behind each of these keywords is spelled with it
abbrev pub AllFind : {Y : Type 0} → (Y → List ℕ) → (Y → Type 0) → List (List ℕ × (List ℕ → Read ℕ Y)) → Type 0
AllFind spell Fits [] = Unit {0}
AllFind spell Fits (kind ∷ kinds) = Behind (word kind.0) spell Fits kind.1 × AllFind spell Fits kinds

-- what holds of one kind, and what holds of the others
infixr 4 ◌⊕◌
pub ◌⊕◌ : {A B : Type 0} → A → B → A × B
a ⊕ b = (a, b)

pub kinds_find : {Y : Type 0} (spell : Y → List ℕ) (Fits : Y → Type 0) (kinds : List (List ℕ × (List ℕ → Read ℕ Y))) → AllFind spell Fits kinds
    → Finds spell Fits (kinds_at kinds)
kinds_find {Y} spell Fits kinds all = finds_by (λ bytes. each bytes kinds all)
  where
    each : (bytes : List ℕ) (kinds : List (List ℕ × (List ℕ → Read ℕ Y))) → AllFind spell Fits kinds → Tells spell Fits bytes (kinds_at kinds bytes)
    each bytes [] h = tt
    each bytes (kind ∷ kinds) h = by (text_at (word kind.0) bytes) refl (each bytes kinds h.1)
      where
        by : (r : Read ℕ (List ℕ)) → text_at (word kind.0) bytes ≡ r → Tells spell Fits bytes (kinds_at kinds bytes)
            → Tells spell Fits bytes (keyed r kind.1 (kinds_at kinds bytes))
        by (Ok t) is others = told_on _ _ _ _ (kind.1 t.1) (self_told (kind.1 t.1)) (λ x e.
            let k = h.0.found t.1 x.0 x.1 e in ((text_found (word kind.0) bytes t.0 t.1 is).1 ∙ k.0, k.1)) (λ stop e. tt)
        by (Err s) is others = others

pub bare_finds : {Y : Type 0} {spell : Y → List ℕ} {Fits : Y → Type 0} {keyword : List ℕ} (y0 : Y) → word keyword ≡ spell y0 → Fits y0
    → Behind (word keyword) spell Fits (bare_at y0)
bare_finds y0 is fits = finds_by (λ bytes. (ap (λ (u : List ℕ). u ++ bytes) is, fits))

-- ---- literals

pub short_finds : Finds decimal (λ (n : ℕ). n < 2 ^ 32) short_at
short_finds = record { found = λ bytes n rest e. let f = (short_format nowhere).found bytes n rest e in (f.parts, omega (arith, f.fits)) }

pub tag_finds : Finds tag_text IsTag tag_at
tag_finds = formed (tag_format nowhere nowhere_is_local)

pub label_finds : Finds label_text IsLabel label_at
label_finds = formed label_format

pub privilege_finds : Finds privilege_text IsPrivilege privilege_at
privilege_finds = formed privilege_format

pub name_finds : Finds (λ (name : List ℕ). name) (λ (name : List ℕ). is_name name ≡ true) name_at
name_finds = formed (name_format nowhere)

pub filter_finds : Finds filter_text IsFilter filter_at
filter_finds = formed filter_format

pub braced_finds : Finds braced IsTagSet braced_at
braced_finds = finds_behind (123 ∷ []) (finds_closed (125 ∷ []) (formed tags_format))

-- ---- several

while_tells : {X : Type 0} {spell : X → List ℕ} {Fits : X → Type 0} {read : List ℕ → Read ℕ X} (stands : List ℕ → Bool) (f : Finds spell Fits read) (n : ℕ)
    (bytes : List ℕ) → Tells (flat_map spell) (AllByRecursion Fits) bytes (while_at stands read n bytes)
while_tells stands f zero bytes = (refl, tt)
while_tells {X} {spell} {read = read} stands f (suc n) bytes =
    cond_told _ _ (stands bytes) (read bytes >>= λ x. while_at stands read n x.1 >>= λ xs. Ok (x.0 ∷ xs.0, xs.1)) (Ok ([], bytes)) (λ h.
    find_next f _ bytes (λ x. while_at stands read n x.1 >>= λ xs. Ok (x.0 ∷ xs.0, xs.1)) (λ x mid first fits.
    told_bind _ _ _ _ (while_at stands read n mid) (λ xs. Ok (x ∷ xs.0, xs.1)) (while_tells stands f n mid) (λ xs k.
    (first ∙ ap (λ (u : List ℕ). spell x ++ u) k.0 ∙ sym (append_assoc (spell x) (flat_map spell xs.0) xs.1), (fits, k.1))) (λ stop u. u))) (λ h. (refl, tt))

finds_each : {X : Type 0} {spell : X → List ℕ} {Fits : X → Type 0} {read : List ℕ → Read ℕ X} (stands : List ℕ → Bool) → Finds spell Fits read
    → Finds (flat_map spell) (AllByRecursion Fits) (all_at stands read)
finds_each stands f = finds_by (λ bytes. while_tells stands f (length bytes) bytes)

pub privileges_finds : Finds (λ (ps : List Privilege). spaced (map privilege_text ps)) ArePrivileges privileges_at
privileges_finds = finds_by (λ bytes. find_next (finds_each (begins_pair 32 35) (finds_word privilege_finds)) _ bytes (ascending bytes) (λ ps rest parts fits.
    cond_told _ _ (ascend ps) (Ok (ps, rest)) (Err (Low bytes)) (λ h. (
      parts ∙ ap (λ (u : List ℕ). u ++ rest) (sym (spaced-privileges ps)),
      (All-from_recursion IsPrivilege ps fits, ascending_of ps h),
    )) (λ h. tt)))

-- ---- units

numbers_finds : Finds path_text IsTag numbers_at
numbers_finds = record {
  found = λ bytes path rest e.
      let f = long_found (35 ∷ bytes) path rest (behind_byte 35 numbers_at bytes ∙ e) in
      let same : 35 ∷ bytes ≡ 35 ∷ (path_text path ++ rest) = f.parts in
      (cc, f.fits);
}

abbrev instance_text : ℕ × List (List ℕ) → List ℕ
instance_text i = 47 ∷ (decimal i.0 ++ braced i.1)

abbrev IsInstance : ℕ × List (List ℕ) → Type 0
IsInstance i = (i.0 < 2 ^ 32) × IsTagSet i.1

instance_finds : Finds instance_text IsInstance instance_at
instance_finds = finds_behind (47 ∷ []) (finds_then short_finds braced_finds)

unit_is : (p : List ℕ × Option (ℕ × List (List ℕ))) → IsTag p.0 × MaybeFits IsInstance p.1
    → (unit_text (unit_of p) ≡ path_text p.0 ++ maybe_spell instance_text p.1) × IsUnit (unit_of p)
unit_is (path, None) f = (sym (append-nil (path_text path)), f.0)
unit_is (path, Some i) f = (simp append_assoc, (f.0, f.1.0, f.1.1))

pub unit_finds : Finds unit_text IsUnit unit_at
unit_finds = finds_as unit_of (finds_then numbers_finds (finds_maybe (λ c. eqb c 47) instance_finds)) unit_is
