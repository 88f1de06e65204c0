use Rattle.df_why.specs.code.Links.{found_at, link_of}
use Rattle.df_why.specs.code.Tracks.{track_at}
use Rattle.df_why.specs.code.Walk.{blank}
use Rattle.df_why.proofs.Growing.{IsFilled}
use Rattle.df_why.proofs.links.all_links.Given as goal

abbrev pub invariant-loop-place : goal.invariant-loop-place
invariant-loop-place l = IsFilled blank (λ p. link_of l.made (track_at l.tracks p) (found_at l.finds p)) l.place l.links.items
