use Rattle.df_lint.proofs.Names.{tag_lines, row_of}
use Rattle.df_label.specs.Privileges.{contains as contains_privilege}
use Rattle.df_lint.proofs.Lines.{tags_all, tags_more}
use Rattle.df_lint.proofs.text.append_row.Goals as goal

pub loop-place-preserved : goal.loop-place-preserved
loop-place-preserved c = tags_more c.args.root c.args.tags.now c.args.cells.now c.loop-place.place c.index-tags-place.result c.args.to.now.items c.loop-place.to.items c.append_tag.new.to.items c.requires.ascending c.requires.many c.loop-place-test.true c.index-tags-place.is c.loop-place.invariant c.in_ok-append_tag.ensures

pub returns : goal.returns
returns c = tags_all (tag_lines c.args.root (contains_privilege (row_of c.args.tags.now c.args.cells.now))) c.args.tags.now c.loop-place.place c.args.to.now.items c.loop-place.to.items c.loop-place-test.false c.loop-place.invariant
