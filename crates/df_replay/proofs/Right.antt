-- An entry is right where it is the one that the rules give.
use Rattle.std.proofs.Common.{◌≡◌, List, refl, ap}
use Rattle.df_machine.specs.Journal.{firsts}
use Rattle.df_rules.specs.Legal.{IsRight}
use Rattle.df_rules.specs.Start.{rows}
use Rattle.df_start.specs.declared.start.RootStart.{RootStart}
use Rattle.df_unit.specs.declared.entry.Effect.{Effect}
use Rattle.df_unit.specs.declared.entry.Entry.{Entry}
use Rattle.df_unit.specs.declared.entry.Entry.TheVariants.{Done, Emitted}
use Rattle.df_unit.specs.declared.reply.Reply.{Reply}
use Rattle.df_replay.specs.Noted.{contamination_of}
use Rattle.df_replay.specs.Replay.{entry_for}

-- the reply and the effect of an entry
abbrev told : Entry → Reply × Effect
told (Done u c r f) = (r, f)
told (Emitted c) = (Reply.Ok, Effect.Nothing)

module _ (roots : List RootStart) (past : List Entry) where
  pub right_is : (e : Entry) → IsRight rows (firsts roots) past e → entry_for (roots, past) e ≡ e
  right_is (Done u c r f) h = ap (λ (a : Reply × Effect). Done u c a.0 a.1) h
  right_is (Emitted c) h = refl

  pub is_right : (e : Entry) → entry_for (roots, past) e ≡ e → IsRight rows (firsts roots) past e
  is_right (Done u c r f) h = ap told h
  is_right (Emitted c) h = tt

  -- the entry that the rules give is one of the same actor
  pub same_contamination : (e : Entry) → contamination_of (roots, past) (entry_for (roots, past) e) ≡ contamination_of (roots, past) e
  same_contamination (Done u c r f) = refl
  same_contamination (Emitted c) = refl
