-- What lies in a list or a map.
use Rattle.df_frozen.specs.Plain.{Plain, Plains, Pairs, int, words, bytes, items, entries, no_items, item, no_entries, entry}

-- the values of these entries, in order
abbrev pub values_of : Pairs → Plains
values_of no_entries = no_items
values_of (entry k p es) = item p (values_of es)

-- the values in the node, of which a number, words and bytes have none
abbrev pub children : Plain → Plains
children (int n) = no_items
children (words s) = no_items
children (bytes s) = no_items
children (items ps) = ps
children (entries es) = values_of es
