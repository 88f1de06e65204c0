use Rattle.df_messages.proofs.FieldFacts.{built_within}
use Rattle.std.proofs.Common.{subst, sym}
use Rattle.df_frozen.specs.Limits.{IsWithinLimits}
use Rattle.df_frozen.specs.Plain.{entries}
use Rattle.df_messages.proofs.value.map_of.Goals as goal

pub new-requires : goal.new-requires
new-requires c = subst (λ es. IsWithinLimits (entries es)) (sym c.in_ok-entries.ensures) (built_within c.args.fields.now c.requires.good c.requires.few)
