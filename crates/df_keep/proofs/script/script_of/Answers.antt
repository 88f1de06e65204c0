use Rattle.std.proofs.Common.{◌≡◌, ℕ, List, ◌∙◌}
use Rattle.df_disk.proofs.Begins.{at_told}
use Rattle.df_keep.proofs.script.script_of.Goals as goal
use Rattle.df_script_text.specs.Script.{script_text}

pub returns-clause-only : goal.returns-clause-only
returns-clause-only g c = λ roots lines says. c.script_in.ensures.only roots lines says.0 (c.deref.ensures.value
    ∙ at_told (λ (file : List ℕ). c.in_ok-bytes.bytes.items ≡ file) (g.F.Shelf.bytes c.args.shelf.now c.args.name.now) (script_text roots lines) says.1
    c.in_ok-bytes.ensures.read.1)
