-- What the reader of calls answers.
use Rattle.df_journal_text.proofs.Names.{◌≡◌, ℕ, ◌≤◌, List, ◌++◌, length, drop, Result, Ok, Err, codes, decimal, refl, sym, ap, subst, ◌∙◌, inl, Stop, Read, ◌>>=◌, text_at, not_both, ok_is, text_again, text_found, Label, Call, AddPart, IsSpelled, IsValue, label_text, label_at, name_at, short_at, value_at, value_text, Fails, EndsWord, Fault, value_format, IsCall, IsLargeCall, IsLargeWord, word, add_of, added_at, call_at, plain_kinds, spot_at, keyed, kinds_at, word_at, EndsCall, IsStopped, IsUnspelled, Tells, behind_add, call_text, line_fault, LineFault, Plain}
use Rattle.df_journal_text.specs.declared.line_fault.LineFault.TheVariants as fault
use Rattle.df_format.proofs.Laws.{Told}
use Rattle.df_journal_text.proofs.Appends.{four_apart, three_apart}
use Rattle.df_journal_text.proofs.CallBacks.{call_back}
use Rattle.df_journal_text.proofs.CallFounds.{plain_find, spot_finds}
use Rattle.df_journal_text.proofs.Founds.{Finds, finds_word, kinds_find}
use Rattle.df_journal_text.proofs.Stopped.{on_fault}
use Rattle.df_journal_text.proofs.ValueTells.{value_apart, value_word_text}
use Rattle.df_journal_text.proofs.WordBacks.{label_word, name_word, short_word}

value_finds : Finds value_text IsSpelled value_at
value_finds = record { found = λ bytes v rest e. let f = value_format.found bytes v rest e in (f.parts, f.fits) }

-- ---- behind `add`

call_is : (bytes : List ℕ) (call : Call) (rest : List ℕ) → IsCall call → EndsCall rest → behind_add bytes ≡ call_text call ++ rest
    → added_at bytes ≡ Ok (call, rest)
call_is bytes call rest fits may is = ap call_at is ∙ call_back call rest fits may.0 may.1

-- the words of a call whose value is too large are read up to it
spot_large : (bytes : List ℕ) (l : IsLargeCall (behind_add bytes)) → spot_at bytes ≡ Ok ((l.h, (l.large.label, l.large.name)), l.large.rest)
spot_large bytes l =
    let n = l.large in
    let last : List ℕ = word n.name ++ n.rest in
    let all : behind_add bytes ≡ behind_add (word (decimal l.h) ++ (word (label_text n.label) ++ last)) = l.parts
    ∙ ap (λ (u : List ℕ). behind_add (word (decimal l.h) ++ u)) n.parts in
    let whole : bytes ≡ word (decimal l.h) ++ (word (label_text n.label) ++ last) = cc in
    let e1 : short_at (decimal l.h ++ (word (label_text n.label) ++ last)) ≡ Ok (l.h, word (label_text n.label) ++ last) = short_word.back l.h
    (word (label_text n.label) ++ last) l.small (inl refl) in
    let e2 : label_at (label_text n.label ++ last) ≡ Ok (n.label, last) = label_word.back n.label last n.label_fits (inl refl) in
    let e3 : name_at (n.name ++ n.rest) ≡ Ok (n.name, n.rest) = name_word.back n.name n.rest n.name_fits (subst EndsWord (sym n.large.parts) (inl refl)) in
    ap spot_at whole ∙ rw (e1, e2, e3) refl

-- no call that fits is spelled in front of what may stand behind it
abbrev IsNoCall : List ℕ → Type 0
IsNoCall bytes = IsUnspelled call_text IsCall EndsCall bytes

-- what is read of an added part, one behind the other
abbrev IsAdded : List ℕ → Call × List ℕ → Type 0
IsAdded bytes c = (spot : ℕ × (Label × List ℕ)) × (value : Plain) × (mid : List ℕ) × (spot_at bytes ≡ Ok (spot, mid))
    × (word_at value_at mid ≡ Ok (value, c.1)) × (add_of (spot, value) ≡ c.0)

abbrev with_value : ℕ × (Label × List ℕ) → Plain × List ℕ → Read ℕ ((ℕ × (Label × List ℕ)) × Plain)
with_value spot v = Ok ((spot, v.0), v.1)

abbrev added : ((ℕ × (Label × List ℕ)) × Plain) × List ℕ → Read ℕ Call
added z = Ok (add_of z.0, z.1)

added_read : (bytes : List ℕ) (call : Call) (rest : List ℕ) → added_at bytes ≡ Ok (call, rest) → IsAdded bytes (call, rest)
added_read bytes call rest e = subst (Told (IsAdded bytes) (λ stop. Unit {0})) e (first (spot_at bytes) refl)
  where
    second : (spot : ℕ × (Label × List ℕ)) (mid : List ℕ) (r : Read ℕ Plain) → spot_at bytes ≡ Ok (spot, mid) → word_at value_at mid ≡ r
        → Told (IsAdded bytes) (λ stop. Unit {0}) ((r >>= with_value spot) >>= added)
    second spot mid (Ok v) a b = (spot, v.0, mid, a, b, refl)
    second spot mid (Err s) a b = tt

    first : (r : Read ℕ (ℕ × (Label × List ℕ))) → spot_at bytes ≡ r
        → Told (IsAdded bytes) (λ stop. Unit {0}) ((r >>= λ x. word_at value_at x.1 >>= with_value x.0) >>= added)
    first (Ok x) a = second x.0 x.1 (word_at value_at x.1) a refl
    first (Err s) a = tt

-- where no handle, label and name stand
no_spot : (bytes : List ℕ) (stop : Stop ℕ) → spot_at bytes ≡ Err stop → IsNoCall (behind_add bytes) × ¬ IsLargeCall (behind_add bytes)
no_spot bytes stop e = (
  λ call rest fits may is.
      let a = added_read bytes call rest (call_is bytes call rest fits may is) in
      not_both (a.0, a.2) stop (sym a.3 ∙ e),
  λ l. not_both ((l.h, (l.large.label, l.large.name)), l.large.rest) stop (sym (spot_large bytes l) ∙ e),
)

-- `add` stands at the one place, and its words begin at the other
module _ (bytes : List ℕ) (at start : ℕ) (add : drop at bytes ≡ behind_add (drop start bytes)) where
  abbrev pub CallTold : Result (Call × ℕ) LineFault → Type 0
  CallTold r = Tells call_text IsCall EndsCall IsLargeCall call_at bytes at r

  pub added_no_spot : (e : Fault) → Fails bytes e (spot_at (drop start bytes)) → CallTold (Err (line_fault e))
  added_no_spot e h =
      on_fault (λ f. CallTold (Err f)) bytes (spot_at (drop start bytes)) e h tt
      (λ stop s. subst (λ (u : List ℕ). IsNoCall u × ¬ IsLargeCall u) (sym add) (no_spot (drop start bytes) stop s))

  module _ (behind : ℕ) (x : ℕ × (Label × List ℕ)) (spot : spot_at (drop start bytes) ≡ Ok (x, drop behind bytes)) where
    unspelled : IsUnspelled value_word_text IsValue EndsWord (drop behind bytes) → IsNoCall (drop at bytes)
    unspelled u call rest fits may is =
        let a = added_read (drop start bytes) call rest (call_is (drop start bytes) call rest fits may (sym add ∙ is)) in
        let same = ok_is (x, drop behind bytes) (a.0, a.2) (sym spot ∙ a.3) in
        let v = (finds_word value_finds).found a.2 a.1 rest a.4 in
        let made : IsCall (add_of (a.0, a.1)) = subst IsCall (sym a.5) fits in
        u a.1 rest made.3 may.0 (ap (λ (q : (ℕ × (Label × List ℕ)) × List ℕ). q.1) same ∙ v.0)

    not_large : ¬ IsLargeWord (drop behind bytes) → ¬ IsLargeCall (drop at bytes)
    not_large h large =
        let l : IsLargeCall (behind_add (drop start bytes)) = subst IsLargeCall add large in
        let same = ok_is (x, drop behind bytes) ((l.h, (l.large.label, l.large.name)), l.large.rest) (sym spot ∙ spot_large (drop start bytes) l) in
        h (subst IsLargeWord (sym (ap (λ (q : (ℕ × (Label × List ℕ)) × List ℕ). q.1) same)) l.large.large)

    is_large : IsLargeWord (drop behind bytes) → IsLargeCall (drop at bytes)
    is_large h =
        let s = spot_finds.found (drop start bytes) x (drop behind bytes) spot in
        let parts : drop start bytes ≡ word (decimal x.0) ++ (word (label_text x.1.0) ++ (word x.1.1 ++ drop behind bytes)) = s.0
        ∙ three_apart (word (decimal x.0)) (word (label_text x.1.0)) (word x.1.1) (drop behind bytes) in
        record {
          h = x.0;
          rest = word (label_text x.1.0) ++ (word x.1.1 ++ drop behind bytes);
          parts = add ∙ ap behind_add parts;
          small = s.1.0;
          large = record { label = x.1.0; name = x.1.1; rest = drop behind bytes; parts = refl; label_fits = s.1.1.0; name_fits = s.1.1.1; large = h };
        }

    pub added_no_value : (f : LineFault) → Tells value_word_text IsValue EndsWord IsLargeWord (word_at value_at) bytes behind (Err f) → CallTold (Err f)
    added_no_value fault.NoMemory v = tt
    added_no_value fault.Syntax v = (unspelled v.0, not_large v.1)
    added_no_value fault.TooLarge v = (unspelled v.0, is_large v.1)

    pub added_found : (value : Plain) (end : ℕ) → Tells value_word_text IsValue EndsWord IsLargeWord (word_at value_at) bytes behind (Ok (value, end))
        → CallTold (Ok (AddPart x.0 x.1.0 x.1.1 value, end))
    added_found value end v =
        let s = spot_finds.found (drop start bytes) x (drop behind bytes) spot in
        let front : List ℕ = word (decimal x.0) ++ (word (label_text x.1.0) ++ word x.1.1) in
        let whole : call_text (AddPart x.0 x.1.0 x.1.1 value) ++ drop end bytes ≡ behind_add (front ++ (value_word_text value ++ drop end bytes)) = four_apart
        (word (codes "add")) (word (decimal x.0)) (word (label_text x.1.0)) (word x.1.1) (value_word_text value) (drop end bytes) in (
          v.0,
          (s.1.0, s.1.1.0, s.1.1.1, v.1),
          add ∙ ap behind_add (s.0 ∙ ap (λ (u : List ℕ). front ++ u) v.2) ∙ sym whole,
          ap call_at add ∙ rw (spot, v.3) refl,
        )

-- a call that is read adds nothing that is too large
pub call_apart : (bytes : List ℕ) (call : Call) (rest : List ℕ) → call_at bytes ≡ Ok (call, rest) → IsCall call → IsLargeCall bytes → ⊥
call_apart bytes call rest e fits l =
    let behind : List ℕ = word (decimal l.h) ++ l.rest in
    let read : added_at behind ≡ Ok (call, rest) = sym (ap call_at l.parts) ∙ e in
    let here : IsLargeCall (behind_add behind) = record { h = l.h; rest = l.rest; parts = refl; small = l.small; large = l.large } in
    let a = added_read behind call rest read in
    let same = ok_is ((l.h, (l.large.label, l.large.name)), l.large.rest) (a.0, a.2) (sym (spot_large behind here) ∙ a.3) in
    let made : IsCall (add_of (a.0, a.1)) = subst IsCall (sym a.5) fits in
    value_apart a.2 a.1 rest a.4 made.3 (subst IsLargeWord (ap (λ (q : (ℕ × (Label × List ℕ)) × List ℕ). q.1) same) l.large.large)

-- ---- any call

pub add_stands : (bytes : List ℕ) (at start : ℕ) → text_at (word (codes "add")) (drop at bytes) ≡ Ok (word (codes "add"), drop start bytes)
    → drop at bytes ≡ behind_add (drop start bytes)
add_stands bytes at start e = (text_found (word (codes "add")) (drop at bytes) (word (codes "add")) (drop start bytes) e).1

-- where `add` doesn't stand, the call is one of the other kinds
no_add : (bytes : List ℕ) → IsStopped (text_at (word (codes "add")) bytes) → call_at bytes ≡ kinds_at plain_kinds bytes
no_add bytes s = ap (λ (r : Read ℕ (List ℕ)). keyed r added_at (kinds_at plain_kinds bytes)) s.1

plain_is : (bytes : List ℕ) (call : Call) (rest : List ℕ) → IsStopped (text_at (word (codes "add")) bytes) → IsCall call → EndsCall rest
    → bytes ≡ call_text call ++ rest → kinds_at plain_kinds bytes ≡ Ok (call, rest)
plain_is bytes call rest s fits may is =
    sym (no_add bytes s) ∙ ap call_at is ∙ call_back call rest fits may.0 may.1

no_plain : (bytes : List ℕ) (stop : Stop ℕ) → IsStopped (text_at (word (codes "add")) bytes) → kinds_at plain_kinds bytes ≡ Err stop
    → IsNoCall bytes × ¬ IsLargeCall bytes
no_plain bytes stop s e = (
  λ call rest fits may is. not_both (call, rest) stop (sym (plain_is bytes call rest s fits may is) ∙ e),
  λ l. not_both (word (codes "add"), word (decimal l.h) ++ l.rest) s.0
      (sym (ap (text_at (word (codes "add"))) l.parts ∙ text_again (word (codes "add")) (word (decimal l.h) ++ l.rest)) ∙ s.1),
)

pub plain_fails : (bytes : List ℕ) (at : ℕ) (e : Fault) → IsStopped (text_at (word (codes "add")) (drop at bytes))
    → Fails bytes e (kinds_at plain_kinds (drop at bytes)) → Tells call_text IsCall EndsCall IsLargeCall call_at bytes at (Err (line_fault e))
plain_fails bytes at e s h =
    on_fault (λ f. Tells call_text IsCall EndsCall IsLargeCall call_at bytes at (Err f)) bytes (kinds_at plain_kinds (drop at bytes)) e h tt
    (λ stop. no_plain (drop at bytes) stop s)

pub plain_tells : (bytes : List ℕ) (at : ℕ) (call : Call) (end : ℕ) → IsStopped (text_at (word (codes "add")) (drop at bytes)) → end ≤ length bytes
    → kinds_at plain_kinds (drop at bytes) ≡ Ok (call, drop end bytes) → Tells call_text IsCall EndsCall IsLargeCall call_at bytes at (Ok (call, end))
plain_tells bytes at call end s within e =
    let k = (kinds_find call_text IsCall plain_kinds plain_find).found (drop at bytes) call (drop end bytes) e in
    (within, k.1, k.0, no_add (drop at bytes) s ∙ e)
