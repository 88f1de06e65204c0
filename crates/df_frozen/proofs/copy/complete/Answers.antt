use Rattle.std.proofs.Common.{◌≡◌, ◌+◌, ◌*◌, ◌<◌, [], ◌∷◌, ◌++◌, Some, ap, sym, ◌∙◌, arith}
use Rattle.df_frozen.specs.code.Copying.{content, rest}
use Rattle.df_frozen.specs.Plain.{node_count}
use Rattle.df_frozen.specs.Value.{plain}
use Rattle.df_frozen.proofs.Copies.{IsChain-popped, IsChain-same, IsChain-push, IsCopied-fresh, tail, nodes, nodes-first, nodes-fresh, layers_steps, layers_steps-push}
use Rattle.df_frozen.proofs.copy.complete.Goals as goal

pub add-requires-clause-copied : goal.add-requires-clause-copied
add-requires-clause-copied c =
    rw c.replace.ensures.after (IsChain-popped _ _ _ _ _ c.in-Some-pop.ensures.items c.loop-child.invariant.chain).copied

pub add-requires-clause-copy : goal.add-requires-clause-copy
add-requires-clause-copy c =
    let popped = IsChain-popped _ _ _ _ _ c.in-Some-pop.ensures.items c.loop-child.invariant.chain in
    rw c.replace.ensures.after (popped.next ∙ ap Some (sym (c.close-whole.ensures ∙ ap content c.replace.ensures.value)))

pub loop-child-smaller-in_default : goal.loop-child-smaller-in_default
loop-child-smaller-in_default c =
    let below = c.pop.new.self.items in
    let under = c.in-Some-pop.under in
    let before = ap layers_steps c.in-Some-pop.ensures.items ∙ layers_steps-push below under in
    let left : tail (rest under) ≡ rest c.add.new.self = ap tail (ap rest (sym c.replace.ensures.after) ∙ c.in_ok-add.ensures.rest) in
    let fewer : layers_steps below + 2 * nodes (rest c.add.new.self) < layers_steps c.loop-child.below.items + 2 * nodes (rest c.loop-child.top) = omega (arith, before, ap nodes left) in
    fewer

pub loop-child-preserved-in_default : goal.loop-child-preserved-in_default
loop-child-preserved-in_default c =
    let popped = IsChain-popped _ _ _ _ _ c.in-Some-pop.ensures.items c.loop-child.invariant.chain in
    record {
      chain = IsChain-same _ _ _ _ (c.in_ok-add.ensures.content ∙ ap content c.replace.ensures.after) popped.below;
      copied = c.in_ok-add.ensures.copied;
    }

pub loop-child-preserved-in-Continue-branch-4 : goal.loop-child-preserved-in-Continue-branch-4
loop-child-preserved-in-Continue-branch-4 c = record {
  chain = IsChain-same _ _ _ _ c.in_ok-add-in-Whole.ensures.content c.loop-child.invariant.chain;
  copied = c.in_ok-add-in-Whole.ensures.copied;
}

pub loop-child-smaller : goal.loop-child-smaller
loop-child-smaller c =
    let below = c.loop-child.below.items in
    let top = c.loop-child.top in
    let layer = c.in-Layer.layer in
    let begun = rw c.in-Layer.is at c.in_ok-value.ensures in
    let pushed : c.push.new.self.items ≡ below ++ top ∷ [] = c.in_ok-push-in-Layer.ensures.items ∙ ap (λ l. below ++ l ∷ []) c.replace-in-Layer.ensures.value in
    let after = ap layers_steps pushed ∙ layers_steps-push below top in
    let first = nodes-first (rest top) (plain c.in-Some.child.now) (sym c.in-Some.ensures) in
    let fewer : layers_steps c.push.new.self.items + 2 * nodes (rest c.replace-in-Layer.new.dest) < layers_steps below + 2 * nodes (rest top) = omega (arith, after, first, nodes-fresh layer begun.1, ap node_count begun.0, ap (λ l. nodes (rest l)) c.replace-in-Layer.ensures.after) in
    fewer

pub loop-child-preserved : goal.loop-child-preserved
loop-child-preserved c =
    let below = c.loop-child.below.items in
    let top = c.loop-child.top in
    let layer = c.in-Layer.layer in
    let begun = rw c.in-Layer.is at c.in_ok-value.ensures in
    let pushed : c.push.new.self.items ≡ below ++ top ∷ [] = c.in_ok-push-in-Layer.ensures.items ∙ ap (λ l. below ++ l ∷ []) c.replace-in-Layer.ensures.value in
    record {
      chain = rw (pushed, c.replace-in-Layer.ensures.after) (IsChain-push _ below top layer (plain c.in-Some.child.now) c.loop-child.invariant.copied (sym c.in-Some.ensures) begun.0 c.loop-child.invariant.chain);
      copied = rw c.replace-in-Layer.ensures.after (IsCopied-fresh layer begun.1);
    }
