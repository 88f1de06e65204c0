use Rattle.df_tables.proofs.Names.{◌≡◌, ◌<◌, None, Some, length, option_map, set, refl, ap, sym, subst, ◌∙◌, arith, LocalState, UnitName, ReadsAs, find, place_of, Unit}
use Rattle.std.specs.Prelude.{Option}
use Rattle.df_tables.proofs.Booked.{place_in}
use Rattle.df_tables.proofs.Places.{at_none, at_some}
use Rattle.df_tables.proofs.Swapped.{board_swapped, put_own}
use Rattle.df_tables.proofs.board.Board.swap.Goals as goal

-- who has no row reads as none
none_reads : (l : LocalState) (o : Option Unit) → o ≡ None → ReadsAs l o → ⊥
none_reads l None e reads = reads
none_reads l (Some u) e reads = let z : ⊥ = cc in z

pub returns-in_default-clause-swapped : goal.returns-in_default-clause-swapped
returns-in_default-clause-swapped c =
    let us = c.args.self.now.rows.items in
    let none : place_of c.args.local.unit us ≡ None = subst (λ (n : UnitName). place_of n us ≡ None) c.name.ensures (sym (c.in_default.ensures ∙ c.requires.board.roll c.name.result.now)) in
    absurd (none_reads c.args.local (find c.args.local.unit us) (at_none c.args.local.unit us none).0 c.requires.reads)

pub returns-in_default-clause-before : goal.returns-in_default-clause-before
returns-in_default-clause-before c =
    let us = c.args.self.now.rows.items in
    let none : place_of c.args.local.unit us ≡ None = subst (λ (n : UnitName). place_of n us ≡ None) c.name.ensures (sym (c.in_default.ensures ∙ c.requires.board.roll c.name.result.now)) in
    absurd (none_reads c.args.local (find c.args.local.unit us) (at_none c.args.local.unit us none).0 c.requires.reads)

pub index_mut-requires : goal.index_mut-requires
index_mut-requires c =
    let us = c.args.self.now.rows.items in
    let within : c.in-Some.place < length us = place_in c.name.result.now us c.in-Some.place (sym (c.in-Some.ensures ∙ c.requires.board.roll c.name.result.now)) in
    omega (arith, within, c.args.self.now.rows.ok.0)

pub returns-clause-swapped : goal.returns-clause-swapped
returns-clause-swapped c =
    let us = c.args.self.now.rows.items in
    let here : place_of c.args.local.unit us ≡ Some c.in-Some.place = subst (λ (n : UnitName). place_of n us ≡ Some c.in-Some.place) c.name.ensures (sym (c.in-Some.ensures ∙ c.requires.board.roll c.name.result.now)) in
    let k = c.in-Some.place in
    let w = c.index_mut.result.now in record {
      rows =
          ap (λ (l : LocalState). let v : Unit = record { local = l; line = w.line } in set us k v) c.replace.ensures.after
          ∙ ap (λ (u : Unit). set us k (record u { local = c.args.local })) c.index_mut.ensures.value
          ∙ put_own c.args.local us k w here;
      roll = refl;
      events = refl;
      index = refl;
      managed = refl;
      told = refl;
    }

pub returns-clause-board : goal.returns-clause-board
returns-clause-board c =
    let us = c.args.self.now.rows.items in
    let here : place_of c.args.local.unit us ≡ Some c.in-Some.place = subst (λ (n : UnitName). place_of n us ≡ Some c.in-Some.place) c.name.ensures (sym (c.in-Some.ensures ∙ c.requires.board.roll c.name.result.now)) in
    board_swapped c.args.local c.in-Some.place c.args.self.now _ c.requires.board here c.requires.reads (returns-clause-swapped c) refl refl

pub returns-clause-before : goal.returns-clause-before
returns-clause-before c =
    let us = c.args.self.now.rows.items in
    let here : place_of c.args.local.unit us ≡ Some c.in-Some.place = subst (λ (n : UnitName). place_of n us ≡ Some c.in-Some.place) c.name.ensures (sym (c.in-Some.ensures ∙ c.requires.board.roll c.name.result.now)) in
    let w = c.index_mut.result.now in
    ap (option_map (λ (u : Unit). u.local)) (at_some c.args.local.unit us c.in-Some.place w here).0
    ∙ ap (λ (u : Unit). Some u.local) (sym c.index_mut.ensures.value)
    ∙ ap Some (sym c.replace.ensures.value)
