use Rattle.std.proofs.Common.{◌≡◌, ◌+◌, [], ◌∷◌, ◌++◌, max, arith, sym, ap, ◌∙◌}
use Rattle.std.proofs.lemmas.List.{nil_from_length}
use Rattle.df_frozen.specs.Plain.{item, no_items}
use Rattle.df_frozen.specs.code.Counting.{left, rows_of, pushed, rows_node_count, rows_byte_count, rows_depth}
use Rattle.df_frozen.specs.code.Inner.{children}
use Rattle.df_frozen.specs.Limits.{counted}
use Rattle.df_frozen.specs.Value.{plain}
use Rattle.df_frozen.proofs.Counts.{rows_of-last, rows_node_count-step, rows_byte_count-step, rows_depth-step, rows_steps-step, rows_node_count-empty, rows_byte_count-empty, rows_depth-empty, rows_steps-empty, rows_node_count-pushed, rows_byte_count-pushed, rows_depth-first, node_count-is, byte_count-is}
use Rattle.df_frozen.proofs.count.Counts.of.Goals as goal

-- the rows after the first node
begun : (c : goal.In_ok-push_row) → rows_of c.push_row.new.rows.items ≡ pushed [] (children (plain c.args.value.now)) 1
begun c =
    c.in_ok-push_row.ensures ∙ ap (λ l. pushed (rows_of l) (left c.inner.result) 1) c.new-rows.ensures.items ∙ ap (λ ps. pushed [] ps 1) c.inner.ensures

pub loop-values-init : goal.loop-values-init
loop-values-init c =
    let p = plain c.args.value.now in
    record {
      nodes = rw (begun c, rows_node_count-pushed) (omega (arith, c.add.ensures.nodes, node_count-is p));
      bytes = rw (begun c, rows_byte_count-pushed) (omega (arith, c.add.ensures.bytes, byte_count-is p));
      depth = rw (begun c, c.add.ensures.depth) (rows_depth-first p);
      node_fits = omega (arith, c.add.ensures.nodes);
      byte_fits = omega (arith, c.add.ensures.bytes);
      depth_fits = omega (arith, c.add.ensures.depth);
    }

-- the last row is empty
emptied : (c : goal.In_default-split_first) → rows_of c.loop-values.rows.items ≡ rows_of c.pop.new.self.items ++ (no_items, c.in-Some.around) ∷ []
emptied c = rows_of-last _ _ _ no_items c.in-Some.ensures.items c.in_default-split_first.ensures

pub loop-values-smaller-in_default-split_first : goal.loop-values-smaller-in_default-split_first
loop-values-smaller-in_default-split_first c = rw (emptied c) (rows_steps-empty _ _)

pub loop-values-preserved-in_default-split_first : goal.loop-values-preserved-in_default-split_first
loop-values-preserved-in_default-split_first c = record {
  nodes = ap (λ n. counted (c.loop-values.counts.nodes + n)) (sym (ap rows_node_count (emptied c) ∙ rows_node_count-empty _ _)) ∙ c.loop-values.invariant.nodes;
  bytes = ap (λ n. counted (c.loop-values.counts.bytes + n)) (sym (ap rows_byte_count (emptied c) ∙ rows_byte_count-empty _ _)) ∙ c.loop-values.invariant.bytes;
  depth = ap (λ n. counted (max c.loop-values.counts.depth n)) (sym (ap rows_depth (emptied c) ∙ rows_depth-empty _ _)) ∙ c.loop-values.invariant.depth;
  node_fits = c.loop-values.invariant.node_fits;
  byte_fits = c.loop-values.invariant.byte_fits;
  depth_fits = c.loop-values.invariant.depth_fits;
}

-- the rows before a step
opened : (c : goal.In_ok-push_row-3) → rows_of c.loop-values.rows.items ≡ rows_of c.pop.new.self.items ++ (item (plain c.in-Some-split_first.first.now) (left c.in-Some-split_first.rest), c.in-Some.around) ∷ []
opened c = rows_of-last _ _ _ _ c.in-Some.ensures.items c.in-Some-split_first.ensures

-- the rows after a step
stepped : (c : goal.In_ok-push_row-3) → rows_of c.push_row-in-Some-2.new.rows.items ≡ pushed (pushed (rows_of c.pop.new.self.items) (left c.in-Some-split_first.rest) c.in-Some.around) (children (plain c.in-Some-split_first.first.now)) (counted (c.in-Some.around + 1))
stepped c =
    let rest = pushed (rows_of c.pop.new.self.items) (left c.in-Some-split_first.rest) c.in-Some.around in
    c.in_ok-push_row-3.ensures ∙ ap (λ l. pushed l (left c.inner-in-Some.result) c.saturating_add.result) c.in_ok-push_row-2.ensures ∙ ap (λ ps. pushed rest ps c.saturating_add.result) c.inner-in-Some.ensures ∙ ap (pushed rest (children (plain c.in-Some-split_first.first.now))) c.saturating_add.ensures

pub loop-values-smaller : goal.loop-values-smaller
loop-values-smaller c = rw (opened c, stepped c) (rows_steps-step _ _ _ _ _)

pub loop-values-preserved : goal.loop-values-preserved
loop-values-preserved c =
    let rows = rows_of c.pop.new.self.items in
    let p = plain c.in-Some-split_first.first.now in
    let ps = left c.in-Some-split_first.rest in
    let around = c.in-Some.around in
    record {
      nodes = rw (stepped c) (omega (arith, c.loop-values.invariant.nodes, ap rows_node_count (opened c), rows_node_count-step rows p ps around (counted (around + 1)), c.add-in-Some.ensures.nodes));
      bytes = rw (stepped c) (omega (arith, c.loop-values.invariant.bytes, ap rows_byte_count (opened c), rows_byte_count-step rows p ps around (counted (around + 1)), c.add-in-Some.ensures.bytes));
      depth = rw (stepped c, c.add-in-Some.ensures.depth) (sym (rows_depth-step c.loop-values.counts.depth rows p ps around) ∙ ap (λ l. counted (max c.loop-values.counts.depth (rows_depth l))) (sym (opened c)) ∙ c.loop-values.invariant.depth);
      node_fits = omega (arith, c.add-in-Some.ensures.nodes);
      byte_fits = omega (arith, c.add-in-Some.ensures.bytes);
      depth_fits = omega (arith, c.add-in-Some.ensures.depth, c.loop-values.invariant.depth_fits);
    }

-- no row is left
ended : (c : goal.After-drop-rows-2) → rows_of c.loop-values.rows.items ≡ []
ended c =
    let none : c.pop.new.self.items ≡ [] = nil_from_length c.pop.new.self.items (omega (arith, c.in_default.ensures.cases.1, c.pop.new.self.ok.0)) in
    ap rows_of (c.in_default.ensures.items ∙ ap (λ l. l ++ []) none)

pub returns-clause-nodes : goal.returns-clause-nodes
returns-clause-nodes c = omega (arith, c.loop-values.invariant.nodes, ap rows_node_count (ended c), c.loop-values.invariant.node_fits)

pub returns-clause-bytes : goal.returns-clause-bytes
returns-clause-bytes c = omega (arith, c.loop-values.invariant.bytes, ap rows_byte_count (ended c), c.loop-values.invariant.byte_fits)

pub returns-clause-depth : goal.returns-clause-depth
returns-clause-depth c = omega (arith, c.loop-values.invariant.depth, ap rows_depth (ended c), c.loop-values.invariant.depth_fits)
