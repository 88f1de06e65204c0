use Rattle.std.proofs.Common.{Err, length, sym, ap, ◌∙◌, arith}
use Rattle.std.specs.Ordering.{is_lt}
use Rattle.df_label.specs.Privilege.{privilege_cmp}
use Rattle.df_label.proofs.PlaceFacts.{searched, searched_kept, searched_new, searched_ascending, searched_behind}
use Rattle.df_label.proofs.PrivilegeFacts.{privilege_cmp_exact}
use Rattle.df_label.proofs.privileges.place.Goals as goal

pub returns-clause-found : goal.returns-clause-found
returns-clause-found c = searched privilege_cmp privilege_cmp_exact c.args.p.now c.args.list.now c.requires c.binary_search.result c.binary_search.ensures.bound c.binary_search.ensures.position

pub returns-clause-kept : goal.returns-clause-kept
returns-clause-kept c = searched_kept privilege_cmp privilege_cmp_exact c.args.p.now c.args.list.now c.requires c.binary_search.result c.binary_search.ensures.bound c.binary_search.ensures.position

pub returns-clause-new : goal.returns-clause-new
returns-clause-new c = searched_new privilege_cmp privilege_cmp_exact c.args.p.now c.args.list.now c.requires c.binary_search.result c.binary_search.ensures.bound c.binary_search.ensures.position

pub returns-clause-ascending : goal.returns-clause-ascending
returns-clause-ascending c = searched_ascending privilege_cmp privilege_cmp_exact c.args.p.now c.args.list.now c.requires c.binary_search.result c.binary_search.ensures.bound c.binary_search.ensures.position

pub returns-then-is_lt-clause-found : goal.returns-then-is_lt-clause-found
returns-then-is_lt-clause-found c =
    searched privilege_cmp privilege_cmp_exact c.args.p.now c.args.list.now c.requires (Err (length c.args.list.now)) (omega arith)
    (searched_behind privilege_cmp privilege_cmp_exact c.args.p.now c.args.list.now c.requires c.in-Some.last.now c.in-Some.ensures.value (ap is_lt (sym c.cmp.ensures) ∙ sym c.is_lt.ensures ∙ c.if-is_lt.true))

pub returns-then-is_lt-clause-new : goal.returns-then-is_lt-clause-new
returns-then-is_lt-clause-new c =
    searched_new privilege_cmp privilege_cmp_exact c.args.p.now c.args.list.now c.requires (Err (length c.args.list.now)) (omega arith)
    (searched_behind privilege_cmp privilege_cmp_exact c.args.p.now c.args.list.now c.requires c.in-Some.last.now c.in-Some.ensures.value (ap is_lt (sym c.cmp.ensures) ∙ sym c.is_lt.ensures ∙ c.if-is_lt.true))

pub returns-then-is_lt-clause-ascending : goal.returns-then-is_lt-clause-ascending
returns-then-is_lt-clause-ascending c =
    searched_ascending privilege_cmp privilege_cmp_exact c.args.p.now c.args.list.now c.requires (Err (length c.args.list.now)) (omega arith)
    (searched_behind privilege_cmp privilege_cmp_exact c.args.p.now c.args.list.now c.requires c.in-Some.last.now c.in-Some.ensures.value (ap is_lt (sym c.cmp.ensures) ∙ sym c.is_lt.ensures ∙ c.if-is_lt.true))
