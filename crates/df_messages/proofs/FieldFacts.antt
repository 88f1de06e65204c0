-- Fields of maps: how many there are, and that a few small ones are within the limits.
use Rattle.std.proofs.Common.{◌≡◌, refl, ℕ, suc, ◌+◌, ◌*◌, ◌≤◌, Bool, true, false, ◌&&◌, List, [], ◌∷◌, ap, sym, ◌∙◌, length, map, arith}
use Rattle.std.specs.Ordering.{match_ordering}
use Rattle.std.specs.declared.cmp.Ordering.{Ordering}
use Rattle.std.specs.declared.cmp.Ordering.TheVariants.{Less, Equal, Greater}
use Rattle.std.specs.List.{list_all}
use Rattle.std.proofs.lemmas.Bool.{ltb-true, leb-true}
use Rattle.std.proofs.lemmas.List.{length-map}
use Rattle.df_frozen.specs.Limits.{IsWithinLimits}
use Rattle.df_frozen.specs.Name.{is_letter, is_name, is_name_byte, name_cmp}
use Rattle.df_frozen.specs.Place.{put_entry}
use Rattle.df_frozen.specs.Plain.{Plain, Pairs, no_entries, entry, from_pairs, node_count, byte_count, depth, entries_node_count, entries_byte_count, entries_depth}
use Rattle.df_frozen.specs.Value.{named, plain}
use Rattle.df_frozen.specs.declared.value.Value.{Value}
use Rattle.df_frozen.specs.declared.value.Value.TheVariants.{Map}
use Rattle.df_messages.specs.Fields.{entry_count, field_count}
use Rattle.df_messages.specs.code.Putting.{built, content_of, is_good, put_all, put_field}
use Rattle.df_messages.specs.declared.value.Field.{Field}
use Rattle.df_messages.specs.declared.value.Field.TheVariants.{Int, Flag, Symbol}
use Rattle.df_records.specs.Fields.{are_letters, is_symbol}

entry_count_is : (es : List (List ℕ × Plain)) → entry_count (from_pairs es) ≡ length es
entry_count_is [] = refl
entry_count_is (e ∷ es) = ap suc (entry_count_is es)

-- a map has as many fields as its entries are
pub count_shown : (shown : List (List ℕ × Value)) (p : Plain) {v : Value} {es : List (List ℕ × Plain)} → map named shown ≡ es → v ≡ Map es →
    plain v ≡ p → length shown ≡ field_count p
count_shown shown p {v = v} {es = es} e is same =
    let n : length shown ≡ length es = sym (length-map shown named) ∙ ap length e in
    let f : entry_count (from_pairs es) ≡ field_count p = ap (λ w. field_count (plain w)) (sym is) ∙ ap field_count same in
    n ∙ sym (entry_count_is es) ∙ f

pub and_left : (a b : Bool) → a && b ≡ true → a ≡ true
and_left true b h = refl
and_left false b h = h

pub and_right : (a b : Bool) → a && b ≡ true → b ≡ true
and_right true b h = h
and_right false b h = let e : false ≡ true = h in cc

short_name : (n : List ℕ) → is_name n ≡ true → length n ≤ 32
short_name [] h = omega arith
short_name (b ∷ bs) h =
    let few = ltb-true (length bs) 32 (and_left _ (list_all is_name_byte bs) (and_right (is_letter b) _ h)) in omega (arith, few)

short_symbol : (s : List ℕ) → is_symbol s ≡ true → length s ≤ 8
short_symbol s h = leb-true (length s) 8 (and_left _ (are_letters s) (and_right _ _ h))

nodes_put : (n : List ℕ) (p : Plain) (es : Pairs) → entries_node_count (put_entry n p es) ≤ node_count p + entries_node_count es
nodes_put n p no_entries = omega arith
nodes_put n p (entry m q es) = go (name_cmp n m) (nodes_put n p es)
  where
    go : (o : Ordering) → entries_node_count (put_entry n p es) ≤ node_count p + entries_node_count es →
        entries_node_count (match_ordering o (entry n p (entry m q es)) (entry m p es) (entry m q (put_entry n p es)))
        ≤ node_count p + (node_count q + entries_node_count es)
    go Less h = omega arith
    go Equal h = omega arith
    go Greater h = omega (arith, h)

bytes_put : (n : List ℕ) (p : Plain) (es : Pairs) → entries_byte_count (put_entry n p es) ≤ length n + byte_count p + entries_byte_count es
bytes_put n p no_entries = omega arith
bytes_put n p (entry m q es) = go (name_cmp n m) (bytes_put n p es)
  where
    go : (o : Ordering) → entries_byte_count (put_entry n p es) ≤ length n + byte_count p + entries_byte_count es →
        entries_byte_count (match_ordering o (entry n p (entry m q es)) (entry m p es) (entry m q (put_entry n p es)))
        ≤ length n + byte_count p + (length m + byte_count q + entries_byte_count es)
    go Less h = omega arith
    go Equal h = omega arith
    go Greater h = omega (arith, h)

flat_put : (n : List ℕ) (p : Plain) (es : Pairs) → depth p ≤ 1 → entries_depth es ≤ 1 → entries_depth (put_entry n p es) ≤ 1
flat_put n p no_entries dp des = omega arith
flat_put n p (entry m q es) dp des = go (name_cmp n m) (flat_put n p es dp (omega (arith, des)))
  where
    go : (o : Ordering) → entries_depth (put_entry n p es) ≤ 1 →
        entries_depth (match_ordering o (entry n p (entry m q es)) (entry m p es) (entry m q (put_entry n p es))) ≤ 1
    go Less h = omega (arith, dp, des)
    go Equal h = omega (arith, dp, des)
    go Greater h = omega (arith, h, des)

-- a field is small: what it has is one node without depth, and its bytes are few
record Small (f : List ℕ × Plain) : Type 0 where
  nodes : node_count f.1 ≤ 1
  bytes : length f.0 + byte_count f.1 ≤ 40
  flat : depth f.1 ≤ 1

good_is_small : (f : Field) → is_good f ≡ true → Small (content_of f)
good_is_small (Int name n) h = let s = short_name name.now h in record { nodes = omega arith; bytes = omega (arith, s); flat = omega arith }
good_is_small (Flag name true) h = let s = short_name name.now h in record { nodes = omega arith; bytes = omega (arith, s); flat = omega arith }
good_is_small (Flag name false) h = let s = short_name name.now h in record { nodes = omega arith; bytes = omega (arith, s); flat = omega arith }
good_is_small (Symbol name w) h =
    let s = short_name name.now (and_left _ (is_symbol w.now) h) in
    let t = short_symbol w.now (and_right (is_name name.now) _ h) in
    record { nodes = omega arith; bytes = omega (arith, s, t); flat = omega arith }

-- the entries of k small fields
record SmallMap (k : ℕ) (es : Pairs) : Type 0 where
  nodes : entries_node_count es ≤ k
  bytes : entries_byte_count es ≤ 40 * k
  flat : entries_depth es ≤ 1

put_small : (f : List ℕ × Plain) (k : ℕ) (es : Pairs) → Small f → SmallMap k es → SmallMap (k + 1) (put_field f es)
put_small f k es s m = record {
  nodes = omega (arith, nodes_put f.0 f.1 es, s.nodes, m.nodes);
  bytes = omega (arith, bytes_put f.0 f.1 es, s.bytes, m.bytes);
  flat = flat_put f.0 f.1 es s.flat m.flat;
}

all_small : (fs : List Field) (k : ℕ) (es : Pairs) → list_all is_good fs ≡ true → SmallMap k es → SmallMap (k + length fs) (put_all es (map content_of fs))
all_small [] k es good m = record { nodes = omega (arith, m.nodes); bytes = omega (arith, m.bytes); flat = m.flat }
all_small (f ∷ fs) k es good m =
    let one = put_small (content_of f) k es (good_is_small f (and_left (is_good f) _ good)) m in
    let rest = all_small fs (k + 1) (put_field (content_of f) es) (and_right (is_good f) _ good) one in
    record { nodes = omega (arith, rest.nodes); bytes = omega (arith, rest.bytes); flat = rest.flat }

-- few good fields make a map within the limits
pub built_within : (fs : List Field) → list_all is_good fs ≡ true → length fs ≤ 6 → IsWithinLimits (built (map content_of fs))
built_within fs good few =
    let none : SmallMap 0 no_entries = record { nodes = omega arith; bytes = omega arith; flat = omega arith } in
    let all = all_small fs 0 no_entries good none in
    record { nodes = omega (arith, all.nodes); bytes = omega (arith, all.bytes); flat = omega (arith, all.flat) }
