use Rattle.df_live.proofs.Names.{◌+◌, refl, sym, ◌∙◌, true≢false}
use Rattle.df_live.specs.declared.lines.NotTaken.TheVariants as not_taken
use Rattle.df_live.proofs.Parts.{takes_long, takes_part}
use Rattle.df_live.proofs.read_lines.ReadLines.take_part.Goals as goal

pub returns-then-len-gt-LONGEST_FILE-clause-part : goal.returns-then-len-gt-LONGEST_FILE-clause-part
returns-then-len-gt-LONGEST_FILE-clause-part g c =
    let self = c.args.self.now in
    takes_long not_taken.TooLong self.piece self.start self.end (g.R.Read.remaining self.from) c.args.line.now.items c.append_part.new.line.items
    c.in_ok-part.part c.in_ok-part.ensures.appends

pub returns-then-part-clause-part : goal.returns-then-part-clause-part
returns-then-part-clause-part g c =
    let self = c.args.self.now in
    let part = c.in_ok-part.part in
    takes_part self.piece self.start self.end (self.start + part.count + 1) (g.R.Read.remaining self.from) c.args.line.now.items c.append_part.new.line.items
    part c.in_ok-part.ensures.appends c.requires.some
    (λ is. refl) (λ isnt. absurd (true≢false (sym c.if-part.true ∙ isnt)))

pub returns-else-part-clause-part : goal.returns-else-part-clause-part
returns-else-part-clause-part g c =
    let self = c.args.self.now in
    let part = c.in_ok-part.part in
    takes_part self.piece self.start self.end (self.start + part.count) (g.R.Read.remaining self.from) c.args.line.now.items c.append_part.new.line.items part
    c.in_ok-part.ensures.appends c.requires.some
    (λ is. absurd (true≢false (sym is ∙ c.if-part.false))) (λ isnt. refl)
