use Rattle.df_journal_file.proofs.Names.{EffectFrom, Bad, [], arith, refl, sym, true, ◌∙◌}
use Rattle.df_unit.specs.declared.reply.Reply.TheVariants as reply
use Rattle.df_journal_file.proofs.LineKinds.{read_run}
use Rattle.df_journal_file.proofs.Ontos.{stopped}
use Rattle.df_journal_file.proofs.Opens.{alone, bare_parts}
use Rattle.df_journal_file.proofs.Places.{as_here, none_here}
use Rattle.df_journal_file.proofs.Rows.{empty_stop, filled_onto, run_stop, some_marked}
use Rattle.df_journal_file.proofs.Steps.{alone_onto, bare_onto, parts_onto}
use Rattle.df_journal_file.proofs.entry.reply_at.Goals as goal

pub returns-in_ok-parts-in-Parts-clause-read : goal.returns-in_ok-parts-in-Parts-clause-read
returns-in_ok-parts-in-Parts-clause-read c =
    let read = c.in_ok-parts-in-Parts.ensures.read in
    let some = some_marked (read_run true) _ read (sym c.mark_stands.ensures ∙ c.if-not-mark_stands.false) in
    rw c.new.ensures (as_here read.0 (read.0.fits, some, bare_parts _ _ c.requires.bare c.in-Parts.is) refl)

pub returns-in_default-clause-read : goal.returns-in_default-clause-read
returns-in_default-clause-read c =
    let a = alone c.args.reply c.in_default.not-Parts in none_here c.requires.inside (c.requires.bare.0, a.0, a.2) a.1

pub returns-in_err-parts-in-Parts-clause-stops : goal.returns-in_err-parts-in-Parts-clause-stops
returns-in_err-parts-in-Parts-clause-stops c = λ has.
    stopped _ _ c.from_residual.ensures.1
    (bare_onto has _ _ _ (bare_parts _ _ c.requires.bare c.in-Parts.is) _ (run_stop (read_run has) _ _ 0 _ c.in_err-parts-in-Parts.ensures.stops))

pub returns-then-not-mark_stands-clause-stops : goal.returns-then-not-mark_stands-clause-stops
returns-then-not-mark_stands-clause-stops c = λ has.
    let stop = empty_stop (EffectFrom has (reply.Parts [])) (read_run has) _ _ c.requires.inside (sym c.mark_stands.ensures ∙ c.if-not-mark_stands.true) in
    bare_onto has c.args.bytes.now c.args.at c.args.reply (bare_parts _ _ c.requires.bare c.in-Parts.is) (Bad c.args.at) stop

pub returns-in_ok-parts-in-Parts-clause-onto : goal.returns-in_ok-parts-in-Parts-clause-onto
returns-in_ok-parts-in-Parts-clause-onto c = λ has f s.
    let read = c.in_ok-parts-in-Parts.ensures.read in
    let some = some_marked (read_run true) _ read (sym c.mark_stands.ensures ∙ c.if-not-mark_stands.false) in
    bare_onto has _ _ _ (bare_parts _ _ c.requires.bare c.in-Parts.is) f
    (filled_onto (EffectFrom has (reply.Parts [])) (read_run has) _ _ _ _ read 0 (omega (arith, some)) f (parts_onto has _ _ _ f s))

pub returns-in_default-clause-onto : goal.returns-in_default-clause-onto
returns-in_default-clause-onto c = λ has. alone_onto has _ _ _ c.in_default.not-Parts
