use Rattle.df_image.proofs.Names.{◌++◌, ◌∙◌, ap}
use Rattle.df_image.proofs.Readings.{entry_read, if_none, last_told}
use Rattle.df_image.proofs.reading.last_of.Goals as goal

pub returns-in-Err : goal.returns-in-Err
returns-in-Err c = if_none _ c.unread.result c.unread.ensures.none c.unread.ensures.bad (λ bad. record {
  none = λ entry fits is. bad (entry_read _ c.deref.result.now c.in-Err.ensures.only c.args.bytes.now (c.deref.ensures.value
      ∙ c.in_ok-extend_from_slice.ensures.items ∙ ap (λ l. l ++ c.args.bytes.now) c.in_ok-whole.ensures.items) entry fits is);
})

pub returns : goal.returns
returns c = last_told c.args.bytes.now c.in-Ok.entries.items c.pop.new.self.items c.in-Ok.entries.len c.pop.result c.pop.ensures.items
    c.in-Ok.ensures.read.0.1 (λ entry fits is. (entry_read _ c.deref.result.now c.in-Ok.ensures.only c.args.bytes.now (c.deref.ensures.value
    ∙ c.in_ok-extend_from_slice.ensures.items ∙ ap (λ l. l ++ c.args.bytes.now) c.in_ok-whole.ensures.items) entry fits is).1) c.in-Ok.entries.ok.0
    c.pop.ensures.variant
