use Rattle.std.proofs.Common.{◌+◌, [], ◌∷◌, length, sym, ◌∙◌, subst}
use Rattle.df_disk.specs.Disk.{IsSettled}
use Rattle.df_disk.proofs.Appends.{after_all, after_gate, after_sync, after_write, kept, on_ok, place_behind, place_still, told_behind, untold_write}
use Rattle.df_disk.proofs.records.append.Goals as goal

pub write_at-requires : goal.write_at-requires
write_at-requires g c = place_behind (g.D.Disk.bytes c.args.disk.now) c.args.gate c.requires.place

pub write_at-requires-2 : goal.write_at-requires-2
write_at-requires-2 g c = rw c.sync.ensures.same
    (place_still (g.D.Disk.bytes c.args.disk.now) (g.D.Disk.bytes c.write_at.new.self) c.args.gate c.args.frame.now c.requires.place
    c.in_ok-write_at.ensures.written)

pub returns-in_err-write_at-clause-any_moment : goal.returns-in_err-write_at-clause-any_moment
returns-in_err-write_at-clause-any_moment g c = λ records bytes is rests.
    let b = g.D.Disk.bytes in
    let m = g.D.Disk.may_leave in
    let t = g.D.Disk.moment in
    let s = g.D.Disk.left_since in
    let now = g.met.D.Disk.only_now in
    let old = c.args.disk.now in
    let one = c.write_at.new.self in
    let n = length c.args.frame.now in
    let first = after_write b m t s now old records bytes c.args.gate rests one n c.write_at.ensures.time c.write_at.ensures.crash in
    first

pub returns-in_err-sync-clause-any_moment : goal.returns-in_err-sync-clause-any_moment
returns-in_err-sync-clause-any_moment g c = λ records bytes is rests.
    let b = g.D.Disk.bytes in
    let m = g.D.Disk.may_leave in
    let t = g.D.Disk.moment in
    let s = g.D.Disk.left_since in
    let now = g.met.D.Disk.only_now in
    let old = c.args.disk.now in
    let one = c.write_at.new.self in
    let n = length c.args.frame.now in
    let first = after_write b m t s now old records bytes c.args.gate rests one n c.write_at.ensures.time c.write_at.ensures.crash in
    let two = c.sync.new.self in
    let second = after_sync b m t s now old records bytes c.args.gate rests one two n first c.write_at.ensures.crash c.sync.ensures.time c.sync.ensures.crash
    in
    second

pub returns-in_err-write_at-2-clause-any_moment : goal.returns-in_err-write_at-2-clause-any_moment
returns-in_err-write_at-2-clause-any_moment g c = λ records bytes is rests.
    let b = g.D.Disk.bytes in
    let m = g.D.Disk.may_leave in
    let t = g.D.Disk.moment in
    let s = g.D.Disk.left_since in
    let now = g.met.D.Disk.only_now in
    let old = c.args.disk.now in
    let one = c.write_at.new.self in
    let n = length c.args.frame.now in
    let first = after_write b m t s now old records bytes c.args.gate rests one n c.write_at.ensures.time c.write_at.ensures.crash in
    let two = c.sync.new.self in
    let second = after_sync b m t s now old records bytes c.args.gate rests one two n first c.write_at.ensures.crash c.sync.ensures.time c.sync.ensures.crash
    in
    let three = c.write_at-2.new.self in
    let tells = c.sync.ensures.same ∙ told_behind b m t s now old records bytes c.args.gate rests one c.args.frame.now is c.in_ok-write_at.ensures.written in
    let settled = subst (λ o. IsSettled o (m two)) (sym c.sync.ensures.same) c.in_ok-sync.ensures.settled in
    let third = after_gate b m t s now old records bytes c.args.gate rests two three second tells settled c.write_at-2.ensures.crash c.write_at-2.ensures.time
    in
    third

pub returns-clause-any_moment : goal.returns-clause-any_moment
returns-clause-any_moment g c = λ records bytes is rests.
    let b = g.D.Disk.bytes in
    let m = g.D.Disk.may_leave in
    let t = g.D.Disk.moment in
    let s = g.D.Disk.left_since in
    let now = g.met.D.Disk.only_now in
    let old = c.args.disk.now in
    let one = c.write_at.new.self in
    let n = length c.args.frame.now in
    let first = after_write b m t s now old records bytes c.args.gate rests one n c.write_at.ensures.time c.write_at.ensures.crash in
    let two = c.sync.new.self in
    let second = after_sync b m t s now old records bytes c.args.gate rests one two n first c.write_at.ensures.crash c.sync.ensures.time c.sync.ensures.crash
    in
    let three = c.write_at-2.new.self in
    let tells = c.sync.ensures.same ∙ told_behind b m t s now old records bytes c.args.gate rests one c.args.frame.now is c.in_ok-write_at.ensures.written in
    let settled = subst (λ o. IsSettled o (m two)) (sym c.sync.ensures.same) c.in_ok-sync.ensures.settled in
    let third = after_gate b m t s now old records bytes c.args.gate rests two three second tells settled c.write_at-2.ensures.crash c.write_at-2.ensures.time
    in
    let four = c.sync-2.new.self in
    let fourth = after_all b m t s now old records bytes c.args.gate rests two three four third tells settled c.write_at-2.ensures.crash c.sync-2.ensures.time
    c.sync-2.ensures.crash in
    fourth

pub returns-clause-kept : goal.returns-clause-kept
returns-clause-kept g c = λ records bytes is rests.
    let b = g.D.Disk.bytes in
    let m = g.D.Disk.may_leave in
    let old = c.args.disk.now in
    let one = c.write_at.new.self in
    let two = c.sync.new.self in
    let three = c.write_at-2.new.self in
    let four = c.sync-2.new.self in
    let tells = c.sync.ensures.same ∙ told_behind b m g.D.Disk.moment g.D.Disk.left_since g.met.D.Disk.only_now old records bytes c.args.gate rests one
    c.args.frame.now is c.in_ok-write_at.ensures.written in
    on_ok c.sync-2.result c.sync-2.ensures.settled (λ settled.
    kept b m g.D.Disk.moment g.D.Disk.left_since g.met.D.Disk.only_now old records bytes c.args.gate rests two three four c.args.frame.now is tells
    c.in_ok-write_at-2.ensures.written c.sync-2.ensures.same settled)

pub returns-in_err-write_at-clause-untold : goal.returns-in_err-write_at-clause-untold
returns-in_err-write_at-clause-untold g c = λ none. untold_write _ (g.D.Disk.bytes c.args.disk.now) _ (c.args.gate + 1) c.args.frame.now
    c.write_at.ensures.written none

pub returns-in_err-sync-clause-untold : goal.returns-in_err-sync-clause-untold
returns-in_err-sync-clause-untold g c = λ none. c.sync.ensures.same
    ∙ untold_write _ (g.D.Disk.bytes c.args.disk.now) _ (c.args.gate + 1) c.args.frame.now c.write_at.ensures.written none

pub returns-in_err-write_at-2-clause-untold : goal.returns-in_err-write_at-2-clause-untold
returns-in_err-write_at-2-clause-untold g c = λ none.
    untold_write _ (g.D.Disk.bytes c.sync.new.self) _ c.args.gate (1 ∷ []) c.write_at-2.ensures.written
    (c.sync.ensures.same ∙ untold_write _ (g.D.Disk.bytes c.args.disk.now) _ (c.args.gate + 1) c.args.frame.now c.write_at.ensures.written none)

pub returns-clause-untold : goal.returns-clause-untold
returns-clause-untold g c = λ none.
    c.sync-2.ensures.same ∙ untold_write _ (g.D.Disk.bytes c.sync.new.self) _ c.args.gate (1 ∷ []) c.write_at-2.ensures.written
    (c.sync.ensures.same ∙ untold_write _ (g.D.Disk.bytes c.args.disk.now) _ (c.args.gate + 1) c.args.frame.now c.write_at.ensures.written none)
