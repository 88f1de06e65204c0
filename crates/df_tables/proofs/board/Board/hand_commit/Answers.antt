use Rattle.df_tables.proofs.Names.{List, All, length, map, refl, ap, sym, subst, ◌∙◌, arith, with_items_is, Pair, all_new, rows_in, receivers_of, IsNews, with_news, Unit}
use Rattle.df_tables.proofs.Boards.{board_handed, receivers_within}
use Rattle.df_tables.proofs.Calls.{IsIn}
use Rattle.df_tables.proofs.HandedOver.{ready_within}
use Rattle.df_tables.proofs.Opened.{place_within}
use Rattle.df_tables.proofs.board.Board.hand_commit.Goals as goal

pub hand_out-requires-clause-receivers : goal.hand_out-requires-clause-receivers
hand_out-requires-clause-receivers c =
    subst (λ (us : List Unit). All (IsIn us) c.receivers.result.now) (sym c.as_mut_slice-rows.ensures.value)
    (subst (All (IsIn c.open.new.self.rows.items)) (sym c.receivers.ensures)
    (ready_within c.args.commit.now c.open.new.self c.in_ok-ready.ready c.open.ensures.board.whole c.in_ok-ready.ensures.ready))

pub close-requires-clause-board : goal.close-requires-clause-board
close-requires-clause-board c =
    let event = c.args.commit.now.event in
    let after = c.in_ok-ready.ready.after in
    board_handed event after (receivers_of c.in_ok-ready.ready) c.open.new.self _ c.open.ensures.board
    (λ given news.
    with_items_is c.open.new.self.rows c.hand_out.new.units (c.hand_out.auto.units ∙ c.as_mut_slice-rows.ensures.len)
    ∙ c.in_ok-hand_out.ensures.ok given
    (subst (λ (us : List Unit). IsNews given event after c.receivers.result.now us) (sym c.as_mut_slice-rows.ensures.value)
    (subst (λ (ps : List Pair). IsNews given event after ps c.open.new.self.rows.items) (sym c.receivers.ensures) news))
    ∙ ap (map (with_news given)) c.as_mut_slice-rows.ensures.value)
    refl refl refl refl refl

pub close-requires-clause-within : goal.close-requires-clause-within
close-requires-clause-within c = λ i d h.
    let near = receivers_within c.args.commit.now c.open.new.self c.in_ok-ready.ready c.open.ensures.board.whole c.in_ok-ready.ensures.ready i d h in
    let same = with_items_is c.open.new.self.rows c.hand_out.new.units (c.hand_out.auto.units ∙ c.as_mut_slice-rows.ensures.len) in
    let size = ap (λ (l : List Unit). length l) same in
    let value = ap (λ (l : List Unit). length l) c.as_mut_slice-rows.ensures.value in
    omega (arith, near, size, value, c.hand_out.auto.units)

pub close-requires-clause-place : goal.close-requires-clause-place
close-requires-clause-place c = place_within c.args.commit.now.event c.open.new.self.events c.in_ok-ready.ready.place c.in_ok-ready.ensures.ready.place

pub close-requires-clause-waits : goal.close-requires-clause-waits
close-requires-clause-waits c = c.in_ok-ready.ensures.ready.waits

pub close-requires-clause-newborn : goal.close-requires-clause-newborn
close-requires-clause-newborn c = c.in_ok-ready.ensures.ready.called.newborn

pub returns-clause-ok : goal.returns-clause-ok
returns-clause-ok c =
    let is = c.in_ok-ready.ensures.ready in
    let after = c.in_ok-ready.ready.after in
    let event = c.args.commit.now.event in
    let closed = c.close.ensures.closed in record {
      marked = record {
        opened = c.open.new.self;
        ready = c.in_ok-ready.ready;
        opening = c.open.ensures.opened;
        made = is;
        left = record {
          managed = closed.managed;
          told = closed.told;
          enrolled = closed.enrolled;
          handed = closed.handed;
          size = closed.size;
          places = closed.places;
          parts = λ e. closed.parts event is.place e;
        };
      };
      rows = λ given news.
          closed.rows
          ∙ ap (all_new (rows_in c.in_ok-ready.ready.called.born.items))
          (with_items_is c.open.new.self.rows c.hand_out.new.units (c.hand_out.auto.units ∙ c.as_mut_slice-rows.ensures.len)
          ∙ c.in_ok-hand_out.ensures.ok given
          (subst (λ (us : List Unit). IsNews given event after c.receivers.result.now us) (sym c.as_mut_slice-rows.ensures.value)
          (subst (λ (ps : List Pair). IsNews given event after ps c.open.new.self.rows.items) (sym c.receivers.ensures) news))
          ∙ ap (map (with_news given)) c.as_mut_slice-rows.ensures.value);
    }
