use Rattle.df_journal_file.proofs.Names.{drop, length, length-drop, codes, inl, inr, refl, ap, arith, drop_all, Decides-eqb}
use Rattle.std.proofs.lemmas.Slice.Eq.{starts_is}
use Rattle.df_journal_text.proofs.Between.{all_behind}
use Rattle.df_journal_file.proofs.file.is_end.Goals as goal

pub returns-then-place-bytes : goal.returns-then-place-bytes
returns-then-place-bytes c = (λ is. inl (drop_all c.args.place c.args.bytes.now (omega arith)), λ ends. refl)

pub returns : goal.returns
returns c =
    let rest = drop c.args.place c.args.bytes.now in
    let value = rw (all_behind c.args.place c.args.bytes.now) at c.starts_with.ensures.value in
    let told = starts_is Decides-eqb rest (codes "---\n") c.starts_with.result value in (
      λ is. inr (drop 4 rest, told.0 is),
      λ ends. elim ends [
        | inl none ↦ absurd (omega (arith, ap length none, length-drop c.args.place c.args.bytes.now))
        | inr more ↦ told.1 more.0 more.1
      ],
    )
