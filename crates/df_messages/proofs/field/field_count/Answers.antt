use Rattle.df_messages.proofs.FieldFacts.{count_shown}
use Rattle.df_messages.proofs.field.field_count.Goals as goal

pub returns-in-Map : goal.returns-in-Map
returns-in-Map c = count_shown c.as_slice.result.now c.args.value.now c.as_slice.ensures.value c.in-Map.is c.value.ensures.value
