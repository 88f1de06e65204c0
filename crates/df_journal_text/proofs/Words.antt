-- Keywords, instances and privileges, as the code reads them.
use Rattle.df_journal_text.proofs.Names.{◌≡◌, ℕ, ◌<◌, ◌≤◌, true, false, eqb, List, [], ◌∷◌, length, drop, length-drop, Some, None, Ok, Err, ◌++◌, text_again, IsStopped, refl, sym, ap, ◌∙◌, arith, inl, inr, is_lt, Less, and_parts, Low, Read, ◌>>=◌, maybe_at, text_at, bind_ok, told, text_found, IsAscending, privilege_cmp, Privilege, privilege_cmp_exact, privilege_text, IsPrivilege, begins_with, privilege_at, privilege_format, privilege_goes, nowhere, ascend, ascending, begins_pair, each_privilege_at, privileges_at, word_at, Option, BeginsWith, Several}
use Rattle.std.specs.Prelude.{MatchOption}
use Rattle.df_journal_text.proofs.Orders.{is_less}
use Rattle.df_format.proofs.ItemSteps.{format_shrinks}
use Rattle.df_label.proofs.SetFacts.{below_trans}

-- ---- keywords

keyword_off : (keyword bytes : List ℕ) → ¬ BeginsWith bytes keyword → IsStopped (text_at keyword bytes)
keyword_off keyword bytes never =
    by (text_at keyword bytes) refl
  where
    by : (r : Read ℕ (List ℕ)) → text_at keyword bytes ≡ r → IsStopped (text_at keyword bytes)
    by (Err stop) e = (stop, e)
    by (Ok x) e = absurd (never (x.1, (text_found keyword bytes x.0 x.1 e).1))

-- a keyword that stands is read, with what is left behind it; where it doesn't stand, reading it stops
pub keyword_told : (keyword bytes : List ℕ) (at : ℕ) (end : Option ℕ)
    → MatchOption end (¬ BeginsWith (drop at bytes) keyword) (λ e. (e ≤ length bytes) × (drop at bytes ≡ keyword ++ drop e bytes))
    → MatchOption end (IsStopped (text_at keyword (drop at bytes))) (λ e. (e ≤ length bytes) × (text_at keyword (drop at bytes) ≡ Ok (keyword, drop e bytes)))
keyword_told keyword bytes at None never = keyword_off keyword (drop at bytes) never
keyword_told keyword bytes at (Some end) h = (h.0, ap (text_at keyword) h.1 ∙ text_again keyword (drop end bytes))

-- ---- what may stand, by its first byte

pub maybe_not : {X : Type 0} (byte : ℕ) (read : List ℕ → Read ℕ X) (bytes : List ℕ) → begins_with byte bytes ≡ false
    → maybe_at (λ c. eqb c byte) read bytes ≡ Ok (None, bytes)
maybe_not byte read [] h = refl
maybe_not byte read (c ∷ cs) h = rw h refl

pub maybe_so : {X : Type 0} (byte : ℕ) (read : List ℕ → Read ℕ X) (bytes : List ℕ) → begins_with byte bytes ≡ true
    → maybe_at (λ c. eqb c byte) read bytes ≡ (read bytes >>= λ x. Ok (Some x.0, x.1))
maybe_so byte read [] h = absurd cc
maybe_so byte read (c ∷ cs) h = rw h refl

-- ---- privileges

pub word_read : {X : Type 0} (read : List ℕ → Read ℕ X) (bytes more : List ℕ) (x : X) (rest : List ℕ) → text_at (32 ∷ []) bytes ≡ Ok (32 ∷ [], more)
    → read more ≡ Ok (x, rest) → word_at read bytes ≡ Ok (x, rest)
word_read read bytes more x rest space e = rw (space, e) refl

privilege_shorter : (bytes : List ℕ) (p : Privilege) (rest : List ℕ) → word_at privilege_at bytes ≡ Ok (p, rest) → length rest < length bytes
privilege_shorter bytes p rest e =
    let a = bind_ok (text_at (32 ∷ []) bytes) (λ h. privilege_at h.1) (p, rest) e in
    let parts = (text_found (32 ∷ []) bytes a.0.0 a.0.1 a.1).1 in
    let shorter = format_shrinks nowhere privilege_text IsPrivilege privilege_goes privilege_at privilege_format a.0.1 p rest a.2 in
    omega (arith, ap length parts, shorter)

pub several_privileges : Several (begins_pair 32 35) (word_at privilege_at)
several_privileges = record { none = refl; some = privilege_shorter }

pub privilege_onward : (bytes : List ℕ) (place after : ℕ) (p : Privilege) → after ≤ length bytes
    → word_at privilege_at (drop place bytes) ≡ Ok (p, drop after bytes) → place < after
privilege_onward bytes place after p inside e =
    let shorter = privilege_shorter (drop place bytes) p (drop after bytes) e in
    omega (arith, shorter, length-drop place bytes, length-drop after bytes)

-- ---- their order

pub ascending_of : (ps : List Privilege) → ascend ps ≡ true → IsAscending privilege_cmp ps
ascending_of [] h = tt
ascending_of (p ∷ []) h = (tt, tt)
ascending_of (p ∷ q ∷ ps) h =
    let two = and_parts (is_lt (privilege_cmp p q)) (ascend (q ∷ ps)) h in
    let less : privilege_cmp p q ≡ Less = is_less (privilege_cmp p q) two.0 in
    let others = ascending_of (q ∷ ps) two.1 in
    ((less, below_trans privilege_cmp privilege_cmp_exact p q ps less others.0), others)

pub ascend_of : (ps : List Privilege) → IsAscending privilege_cmp ps → ascend ps ≡ true
ascend_of [] h = refl
ascend_of (p ∷ []) h = refl
ascend_of (p ∷ q ∷ ps) h = rw (h.0.0, ascend_of (q ∷ ps) h.1) refl

-- ---- as they are read

pub privileges_made : (bytes : List ℕ) (ps made : List Privilege) (rest : List ℕ) → each_privilege_at bytes ≡ Ok (ps, rest) → IsAscending privilege_cmp ps
    → made ≡ ps → privileges_at bytes ≡ Ok (made, rest)
privileges_made bytes ps made rest e above is = ap (λ (r : Read ℕ (List Privilege)). r >>= ascending bytes) e
    ∙ rw (ascend_of ps above) (ap (λ (qs : List Privilege). Ok (qs, rest)) (sym is))

pub privileges_low : (bytes : List ℕ) (ps : List Privilege) (rest : List ℕ) → each_privilege_at bytes ≡ Ok (ps, rest) → ¬ IsAscending privilege_cmp ps
    → privileges_at bytes ≡ Err (Low bytes)
privileges_low bytes ps rest e never =
    elim (told (ascend ps)) [
      | inl h ↦ absurd (never (ascending_of ps h))
      | inr h ↦ ap (λ (r : Read ℕ (List Privilege)). r >>= ascending bytes) e ∙ rw h refl
    ]
