-- Calls that are spelled are read back.
use Rattle.df_journal_text.proofs.Names.{◌≡◌, ℕ, false, List, [], ◌∷◌, ◌++◌, map, Ok, refl, recursion_from_All, Half, S, I, Act, Add, Del, Call, AddPart, DelPart, ReadPart, CloneEvent, AttachPrivilege, ChangeOutLabel, DropEvent, Subscribe, SubscribeManaged, Publish, Release, ChangeInOut, Instantiate, IsPrivilege, label_text, privilege_text, tag_text, value_text, EndsWord, act_text, half_text, call_words, IsCall, spaced, act_at, half_at, call_at, begins_pair}
use Rattle.df_journal_text.proofs.WordBacks.{word_back, short_word, label_word, name_word, value_word, privilege_word, tag_word, filter_word, braced_word, privileges_back}

half_back : (half : Half) (words : List (List ℕ)) (rest : List ℕ) → half_at (spaced (half_text half ∷ words) ++ rest) ≡ Ok (half, spaced words ++ rest)
half_back S words rest = refl
half_back I words rest = refl

act_back : (act : Act) (words : List (List ℕ)) (rest : List ℕ) → act_at (spaced (act_text act ∷ words) ++ rest) ≡ Ok (act, spaced words ++ rest)
act_back Add words rest = refl
act_back Del words rest = refl

-- where a word ends and no privilege follows
pub call_back : (call : Call) (rest : List ℕ) → IsCall call → EndsWord rest → begins_pair 32 35 rest ≡ false
    → call_at (spaced (call_words call) ++ rest) ≡ Ok (call, rest)
call_back (AddPart h label name value) rest f end last =
    let e1 = word_back short_word h (label_text label ∷ name ∷ value_text value ∷ []) rest f.0 end in
    let e2 = word_back label_word label (name ∷ value_text value ∷ []) rest f.1 end in
    let e3 = word_back name_word name (value_text value ∷ []) rest f.2 end in
    let e4 = word_back value_word value [] rest f.3 end in
    rw (e1, e2, e3, e4) refl
call_back (DelPart h label name) rest f end last =
    let e1 = word_back short_word h (label_text label ∷ name ∷ []) rest f.0 end in
    let e2 = word_back label_word label (name ∷ []) rest f.1 end in
    let e3 = word_back name_word name [] rest f.2 end in
    rw (e1, e2, e3) refl
call_back (ReadPart h name) rest f end last =
    let e1 = word_back short_word h (name ∷ []) rest f.0 end in
    let e2 = word_back name_word name [] rest f.1 end in
    rw (e1, e2) refl
call_back (CloneEvent h label) rest f end last =
    let e1 = word_back short_word h (label_text label ∷ []) rest f.0 end in
    let e2 = word_back label_word label [] rest f.1 end in
    rw (e1, e2) refl
call_back (AttachPrivilege h label name p) rest f end last =
    let e1 = word_back short_word h (label_text label ∷ name ∷ privilege_text p ∷ []) rest f.0 end in
    let e2 = word_back label_word label (name ∷ privilege_text p ∷ []) rest f.1 end in
    let e3 = word_back name_word name (privilege_text p ∷ []) rest f.2 end in
    let e4 = word_back privilege_word p [] rest f.3 end in
    rw (e1, e2, e3, e4) refl
call_back (ChangeOutLabel half act tag) rest f end last =
    let e1 = half_back half (act_text act ∷ tag_text tag ∷ []) rest in
    let e2 = act_back act (tag_text tag ∷ []) rest in
    let e3 = word_back tag_word tag [] rest f end in
    rw (e1, e2, e3) refl
call_back (DropEvent h) rest f end last = rw (word_back short_word h [] rest f end) refl
call_back (Subscribe filter) rest f end last = rw (word_back filter_word filter [] rest f end) refl
call_back (SubscribeManaged filter) rest f end last = rw (word_back filter_word filter [] rest f end) refl
call_back (Publish h) rest f end last = rw (word_back short_word h [] rest f end) refl
call_back (Release h) rest f end last = rw (word_back short_word h [] rest f end) refl
call_back (ChangeInOut half act tag) rest f end last =
    let e1 = half_back half (act_text act ∷ tag_text tag ∷ []) rest in
    let e2 = act_back act (tag_text tag ∷ []) rest in
    let e3 = word_back tag_word tag [] rest f end in
    rw (e1, e2, e3) refl
call_back (Instantiate s privileges) rest f end last =
    let e1 = word_back braced_word s (map privilege_text privileges) rest f.0 end in
    let e2 = privileges_back privileges rest (recursion_from_All IsPrivilege privileges f.1.0) f.1.1 end last in
    rw (e1, e2) refl
call_back _ rest f end last = refl
