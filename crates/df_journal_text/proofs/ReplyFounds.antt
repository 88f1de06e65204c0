-- Replies that are read are spelled so.
use Rattle.df_journal_text.proofs.Names.{append-nil, ℕ, ◌<◌, ◌^◌, [], decimal, refl, arith, All, All-from_recursion, nowhere, IsAnswer, IsPartRead, last_replies, long_at, refusing_replies, reply_at, reply_kinds, reply_text}
use Rattle.df_value_text.proofs.NumberLaws.{number_format}
use Rattle.df_unit.specs.declared.reply.Reply.TheVariants as reply
use Rattle.df_journal_text.proofs.Founds.{◌⊕◌, AllFind, Finds, bare_finds, finds_then, finds_word, finds_as, kinds_find, label_finds, privilege_finds, short_finds, tag_finds}

long_finds : Finds decimal (λ (n : ℕ). n < 2 ^ 64) long_at
long_finds = record {
  found = λ bytes n rest e.
      let f = (number_format nowhere 18446744073709551615 (omega arith)).found bytes n rest e in (f.parts, omega (arith, f.fits));
}

none_fit : All IsPartRead []
none_fit = All-from_recursion IsPartRead [] tt

last_find : AllFind reply_text IsAnswer last_replies
last_find =
    bare_finds reply.TooManyHandles refl (tt, tt)
    ⊕ finds_as (λ x. reply.TooManyParts x) (finds_word long_finds) (λ x f. (simp append-nil, (f, tt)))
    ⊕ bare_finds reply.TooManySubs refl (tt, tt)
    ⊕ bare_finds reply.TooManyUnits refl (tt, tt)
    ⊕ bare_finds reply.TooDeep refl (tt, tt)
    ⊕ bare_finds reply.Exhausted refl (tt, tt)
    ⊕ finds_as (λ x. reply.Lacks x) (finds_word privilege_finds) (λ x f. (simp append-nil, (f, tt)))
    ⊕ finds_as (λ x. reply.CannotWrite x.0 x.1) (finds_then (finds_word label_finds) (finds_word label_finds)) (λ x f. (simp append-nil, (f, tt)))
    ⊕ tt

refusing_find : AllFind reply_text IsAnswer refusing_replies
refusing_find =
    bare_finds reply.NoSuchUnit refl (tt, tt)
    ⊕ bare_finds reply.NoSuchHandle refl (tt, tt)
    ⊕ bare_finds reply.NoSuchPart refl (tt, tt)
    ⊕ bare_finds reply.NotDraft refl (tt, tt)
    ⊕ bare_finds reply.NotReceived refl (tt, tt)
    ⊕ bare_finds reply.EmptyEvent refl (tt, tt)
    ⊕ bare_finds reply.NotInManaged refl (tt, tt)
    ⊕ last_find

reply_find : AllFind reply_text IsAnswer reply_kinds
reply_find =
    bare_finds reply.Ok refl (tt, tt)
    ⊕ finds_as (λ x. reply.Event x.0 x.1) (finds_then (finds_word short_finds) (finds_word short_finds)) (λ x f. (simp append-nil, (f, tt)))
    ⊕ bare_finds (reply.Parts []) refl (none_fit, refl)
    ⊕ bare_finds reply.Nothing refl (tt, tt)
    ⊕ finds_as (λ x. reply.Handle x) (finds_word short_finds) (λ x f. (simp append-nil, (f, tt)))
    ⊕ finds_as (λ x. reply.Tag x) (finds_word tag_finds) (λ x f. (simp append-nil, (f, tt)))
    ⊕ finds_as (λ x. reply.Sub x) (finds_word short_finds) (λ x f. (simp append-nil, (f, tt)))
    ⊕ finds_as (λ x. reply.Unit x) (finds_word short_finds) (λ x f. (simp append-nil, (f, tt)))
    ⊕ refusing_find

pub reply_finds : Finds reply_text IsAnswer reply_at
reply_finds = kinds_find reply_text IsAnswer reply_kinds reply_find
