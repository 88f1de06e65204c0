-- Replies that are spelled are read back.
use Rattle.df_journal_text.proofs.Names.{◌≡◌, ℕ, List, [], ◌∷◌, ◌++◌, Ok, decimal, refl, Reply, label_text, EndsWord, IsReply, spaced, reply_at, reply_words}
use Rattle.df_unit.specs.declared.reply.Reply.TheVariants as reply
use Rattle.df_journal_text.proofs.WordBacks.{word_back, short_word, long_word, label_word, privilege_word, tag_word}

-- the reply without what a read shows
abbrev pub bare_of : Reply → Reply
bare_of (reply.Parts parts) = reply.Parts []
bare_of r = r

pub reply_back : (r : Reply) (rest : List ℕ) → IsReply r → EndsWord rest → reply_at (spaced (reply_words r) ++ rest) ≡ Ok (bare_of r, rest)
reply_back (reply.Handle h) rest f end = rw (word_back short_word h [] rest f end) refl
reply_back (reply.Tag tag) rest f end = rw (word_back tag_word tag [] rest f end) refl
reply_back (reply.Sub n) rest f end = rw (word_back short_word n [] rest f end) refl
reply_back (reply.Unit n) rest f end = rw (word_back short_word n [] rest f end) refl
reply_back (reply.Event h sub) rest f end =
    let e1 = word_back short_word h (decimal sub ∷ []) rest f.0 end in
    let e2 = word_back short_word sub [] rest f.1 end in
    rw (e1, e2) refl
reply_back (reply.TooManyParts wanted) rest f end = rw (word_back long_word wanted [] rest f end) refl
reply_back (reply.Lacks p) rest f end = rw (word_back privilege_word p [] rest f end) refl
reply_back (reply.CannotWrite out part) rest f end =
    let e1 = word_back label_word out (label_text part ∷ []) rest f.0 end in
    let e2 = word_back label_word part [] rest f.1 end in
    rw (e1, e2) refl
reply_back _ rest f end = refl
