use Rattle.df_image.proofs.Names.{refl, sym, ◌∙◌, ap, start_record}
use Rattle.df_image.proofs.Readings.{if_none, start_read}
use Rattle.df_image.proofs.reading.start_of.Goals as goal

pub returns-in-Err : goal.returns-in-Err
returns-in-Err c = if_none _ c.unread.result c.unread.ensures.none c.unread.ensures.bad (λ bad. record {
  none = λ roots are is. bad (start_read _ c.args.bytes.now c.in-Err.ensures.only roots are is);
})

pub returns-then-is_text : goal.returns-then-is_text
returns-then-is_text c = record {
  fits = c.in-Ok.ensures.read.0.0;
  is = sym (c.if-is_text.ensures.0 refl) ∙ c.deref.ensures.value ∙ c.in_ok-start_text.ensures;
  one = λ others are is. sym (start_read _ c.args.bytes.now c.in-Ok.ensures.only others are is).0;
}

pub returns : goal.returns
returns c = record {
  none = λ roots are is.
      let e = c.if-is_text.ensures.1 (c.deref.ensures.value ∙ c.in_ok-start_text.ensures
      ∙ ap start_record (start_read _ c.args.bytes.now c.in-Ok.ensures.only roots are is).0 ∙ sym is) in
      absurd (let z : ⊥ = cc in z);
}
