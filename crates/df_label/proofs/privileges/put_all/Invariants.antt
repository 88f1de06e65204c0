use Rattle.std.proofs.Common.{◌≡◌, ◌+◌, ◌≤◌, vec_len, vec_capacity}
use Rattle.std.specs.Vec.Iter.{into_iter_items, into_iter_len}
use Rattle.df_label.specs.Ascending.{IsAscending}
use Rattle.df_label.specs.Privilege.{privilege_cmp}
use Rattle.df_label.specs.Privileges.{add_all}
use Rattle.df_label.proofs.privileges.put_all.Given as goal

abbrev pub invariant-loop-p : goal.invariant-loop-p
invariant-loop-p l = record {
  added : add_all l.list.items (into_iter_items l.p-iterator) ≡ add_all l.fn.list.items l.fn.privileges.items;
  ascending : IsAscending privilege_cmp l.list.items;
  room : vec_len l.list + into_iter_len l.p-iterator ≤ vec_capacity l.list;
}
