use Rattle.std.proofs.Common.{◌+◌, [], ap, sym, ◌∙◌, drop}
use Rattle.std.proofs.lemmas.List.{at_drop_more}
use Rattle.df_unit.specs.declared.entry.Entry.{Entry}
use Rattle.df_unit.specs.declared.entry.Entry.TheVariants.{Emitted}
use Rattle.df_unit.specs.declared.name.UnitName.TheVariants.{Root}
use Rattle.df_report.specs.Summing.{one_more, with_instances}
use Rattle.df_report.proofs.instances.instances.Goals as goal

-- some entry
abbrev some : Entry
some = Emitted (record { event = record { unit = Root []; number = 0 }; edit = ([], []) })

pub loop-i-preserved : goal.loop-i-preserved
loop-i-preserved c =
    ap (λ n. with_instances n (drop (c.loop-i.i + 1) c.args.entries.now)) (c.one_more-count.ensures ∙ ap (one_more c.loop-i.count) (c.is_last.ensures some))
    ∙ sym (at_drop_more (with_instances c.loop-i.count) c.args.entries.now c.loop-i.i some c.loop-i-test.true) ∙ c.loop-i.invariant
