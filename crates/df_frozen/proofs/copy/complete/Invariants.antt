use Rattle.std.proofs.Common.{◌+◌, ◌*◌}
use Rattle.df_frozen.specs.code.Copying.{content, rest, IsCopied}
use Rattle.df_frozen.proofs.Copies.{IsChain, nodes, layers_steps}
use Rattle.df_frozen.proofs.copy.complete.Given as goal

abbrev pub invariant-loop-child : goal.invariant-loop-child
invariant-loop-child l = record { chain : IsChain (content l.fn.layer) l.below.items l.top; copied : IsCopied l.top }

abbrev pub decreases-loop-child : goal.decreases-loop-child
decreases-loop-child l = layers_steps l.below.items + 2 * nodes (rest l.top)
