-- An image that is gone through record by record.
use Rattle.df_image.proofs.Names.{◌≡◌, ◌≢◌, inl, inr, ℕ, ◌+◌, ◌^◌, ◌<◌, List, [], ◌∷◌, ◌++◌, length, drop, reverse, refl, sym, ◌∙◌, ap, subst, arith, length-append, map, All, append-nil, drop_at, reverse-append, map-append, All-nil, All-push, opened, record_text, length-record, BreaksAt, IsKept, IsNext, State, entry_record, records_of, start_record, IsWholeEntry, AreRoots, RootStart, Entry}
use Rattle.df_disk.specs.Found.{BeginsWith}
use Rattle.df_disk.proofs.Crash.{opened-push}
use Rattle.df_image.proofs.SameRecords.{one_record, tail_of}
use Rattle.df_image.specs.Front.{IsFront, KeepsTo, TakesAnswer, TakesNone}

-- ---- one entry more

reversed : (entry : Entry) (past : List Entry) → reverse (entry ∷ past) ≡ reverse past ++ entry ∷ []
reversed entry past = reverse-append (entry ∷ []) past

pub records-push : (roots : List RootStart) (past : List Entry) (entry : Entry)
    → records_of (roots, entry ∷ past) ≡ records_of (roots, past) ++ entry_record entry ∷ []
records-push roots past entry = ap (λ (l : List (List ℕ)). start_record roots ∷ l)
    (ap (map entry_record) (reversed entry past) ∙ map-append entry_record (reverse past) (entry ∷ []))

pub kept-push : (roots : List RootStart) (past : List Entry) (entry : Entry) → IsKept (roots, past) → IsWholeEntry entry
    → IsNext (roots, past) entry → IsKept (roots, entry ∷ past)
kept-push roots past entry kept whole right =
    record {
      spelled = (kept.spelled.0, subst (All IsWholeEntry) (sym (reversed entry past)) (All-push IsWholeEntry (reverse past) entry kept.spelled.1 whole));
      legal = (kept.legal, right);
    }

-- ---- the first record

module _ (image text tail : List ℕ) (starts : image ≡ 1 ∷ tail) (begins : BeginsWith text tail) (small : length tail < 2 ^ 64) where
  pub first_front : (roots : List RootStart) → AreRoots roots → text ≡ start_record roots → IsFront image (roots, []) (9 + length text)
  first_front roots are is = record {
    kept = record { spelled = (are, All-nil IsWholeEntry); legal = tt };
    gate = begins.0;
    rest = begins.1;
    split = starts ∙ ap (λ (l : List ℕ). 1 ∷ l) (begins.2 ∙ ap (λ (t : List ℕ). record_text t ++ begins.0 ∷ begins.1) is)
        ∙ ap (λ (l : List ℕ). l ++ begins.0 ∷ begins.1) (sym (append-nil (1 ∷ record_text (start_record roots))));
    ends = ap (λ (l : List ℕ). length l) (append-nil (1 ∷ record_text (start_record roots))) ∙ ap (λ (t : List ℕ). length (1 ∷ record_text t)) (sym is)
        ∙ omega (arith, length-record text);
  }

  pub first_wrong : ((roots : List RootStart) → AreRoots roots → text ≢ start_record roots) → BreaksAt 0 image
  first_wrong none = inl (record {
    at = refl;
    lacks = λ roots next more are is.
        let tails : record_text text ++ begins.0 ∷ begins.1 ≡ record_text (start_record roots) ++ next ∷ more = sym begins.2 ∙ tail_of (sym starts ∙ is) in
        none roots are (one_record text (start_record roots) (begins.0 ∷ begins.1) (next ∷ more) (subst (λ (l : List ℕ). length l < 2 ^ 64) begins.2 small)
        tails);
  })

pub first_broken : (image tail : List ℕ) → image ≡ 1 ∷ tail → ((bytes : List ℕ) → ¬ BeginsWith bytes tail) → BreaksAt 0 image
first_broken image tail starts none = inl (record {
  at = refl;
  lacks = λ roots next more are is. none (start_record roots) (next, more, tail_of (sym starts ∙ is));
})

-- ---- the next record

module _ (image : List ℕ) (core : State) (place : ℕ) (front : IsFront image core place) where
  pub front_inside : place < length image
  front_inside = omega (arith, front.ends, ap (λ (l : List ℕ). length l) front.split, length-append (opened (records_of core)) (front.gate ∷ front.rest))

  here : drop place image ≡ front.gate ∷ front.rest
  here = ap (drop place) front.split ∙ drop_at (opened (records_of core)) (front.gate ∷ front.rest) place front.ends

  pub front_closed : (gate : ℕ) (rest : List ℕ) → gate ≢ 1 → drop place image ≡ gate ∷ rest → KeepsTo image core place
  front_closed gate rest shut found =
      let same : front.gate ≡ gate = let e = sym here ∙ found in cc in
      record {
        keeps = record {
          kept = front.kept;
          keeps = record { gate = front.gate; rest = front.rest; closed = λ e. shut (sym same ∙ e); split = front.split };
        };
        ends = front.ends;
      }

  module _ (tail : List ℕ) (found : drop place image ≡ 1 ∷ tail) where
    opens : front.gate ≡ 1
    opens = let e = sym here ∙ found in cc

    behind : front.rest ≡ tail
    behind = let e = sym here ∙ found in cc

    split_open : image ≡ opened (records_of core) ++ 1 ∷ tail
    split_open = front.split ∙ ap (λ (l : List ℕ). opened (records_of core) ++ l) (sym here ∙ found)

    pub front_broken : ((bytes : List ℕ) → ¬ BeginsWith bytes tail) → BreaksAt place image
    front_broken none = inr (record {
      core = core;
      rest = tail;
      kept = front.kept;
      split = split_open;
      at = sym front.ends;
      lacks = λ entry next more whole right is. none (entry_record entry) (next, more, tail_of is);
    })

    module _ (text : List ℕ) (begins : BeginsWith text tail) where
      pub front_wrong : length tail < 2 ^ 64 → TakesNone core text → BreaksAt place image
      front_wrong small none = inr (record {
        core = core;
        rest = tail;
        kept = front.kept;
        split = split_open;
        at = sym front.ends;
        lacks = λ entry next more whole right is.
            none.none entry whole right (one_record text (entry_record entry) (begins.0 ∷ begins.1) (next ∷ more)
            (subst (λ (l : List ℕ). length l < 2 ^ 64) begins.2 small) (sym begins.2 ∙ tail_of is));
      })

      pub front_more : (new : State) → TakesAnswer core text new → IsFront image new (place + (9 + length text))
      front_more new takes =
          let entry = takes.entry in
          let pushed : records_of (core.0, entry ∷ core.1) ≡ records_of core ++ entry_record entry ∷ [] = records-push core.0 core.1 entry in
          let text_of : List ℕ → List ℕ = λ t. opened (records_of core) ++ (1 ∷ record_text t ++ begins.0 ∷ begins.1) in
          let longer = ap text_of takes.is ∙ sym (opened-push (records_of core) (entry_record entry) (begins.0 ∷ begins.1))
          ∙ ap (λ (rs : List (List ℕ)). opened rs ++ begins.0 ∷ begins.1) (sym pushed) in
          let next : IsFront image (core.0, entry ∷ core.1) (place + (9 + length text)) = record {
            kept = kept-push core.0 core.1 entry front.kept takes.whole takes.right;
            gate = begins.0;
            rest = begins.1;
            split = split_open ∙ ap (λ (l : List ℕ). opened (records_of core) ++ 1 ∷ l) begins.2 ∙ longer;
            ends = omega (
              arith,
              front.ends,
              ap (λ (l : List ℕ). length l) longer,
              length-append (opened (records_of core)) (1 ∷ record_text text ++ begins.0 ∷ begins.1),
              length-append (opened (records_of (core.0, entry ∷ core.1))) (begins.0 ∷ begins.1),
              length-append (record_text text) (begins.0 ∷ begins.1),
              length-record text,
            );
          } in
          subst (λ (s : State). IsFront image s (place + (9 + length text))) (sym takes.made) next
