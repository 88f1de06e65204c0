-- What a brain is told and wants, as the step functions of a journal have it.
use Rattle.std.specs.Prelude.{Bool, true, false}
use Rattle.df_rules.specs.Follows as follows
use Rattle.df_unit.specs.declared.call.Call.{Call}
use Rattle.df_unit.specs.declared.call.Call.TheVariants.{Instantiate}
use Rattle.df_brain.specs.declared.last.Last.{Last}
use Rattle.df_brain.specs.declared.last.Last.TheVariants as last
use Rattle.df_brain.specs.declared.want.Want.{Want}
use Rattle.df_brain.specs.declared.want.Want.TheVariants as want

-- what a step function is told
abbrev pub last_of : Last → follows.Last
last_of last.Start = follows.Start
last_of (last.Reply r) = follows.Replied r

-- what a step function wants
abbrev pub want_of : Want → follows.Want
want_of (want.Call c) = follows.Calls c
want_of want.Wait = follows.Wait

-- whether the call makes a unit
abbrev pub makes_child : Call → Bool
makes_child (Instantiate s privileges) = true
makes_child _ = false

-- whether the call that is wanted makes a unit
abbrev pub is_child_wanted : follows.Want → Bool
is_child_wanted (follows.Calls c) = makes_child c
is_child_wanted follows.Wait = false
