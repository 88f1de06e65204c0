-- Runs of local calls that a brain wants: one call more, and how a turn ends behind them.
use Rattle.std.proofs.Common.{◌≡◌, ℕ, ◌+◌, ◌<◌, ◌≤◌, zero, suc, List, [], ◌∷◌, ◌++◌, Bool, refl, sym, ◌∙◌, ap, subst, cond, length, get_or, drop, arith, add-one, drop-cons}
use Rattle.df_local.specs.Locally.{with_own}
use Rattle.df_local.specs.code.LocalState.{LocalState}
use Rattle.df_local_run.specs.Runs.{IsLocalEntry, moved_by}
use Rattle.df_rules.specs.Follows.{Brain, Calls, Last, Replied, Want}
use Rattle.df_turn.specs.Locally.{RunsTo, moved_want, ready_by, ready_from, told_want, wants_local}
use Rattle.df_turn.specs.code.Going.{led}
use Rattle.df_unit.specs.Rows.{after}
use Rattle.df_unit.specs.declared.call.Call.{Call}
use Rattle.df_unit.specs.declared.entry.Effect.{Effect}
use Rattle.df_unit.specs.declared.entry.Entry.{Entry}
use Rattle.df_unit.specs.declared.entry.Entry.TheVariants.{Done, Emitted}
use Rattle.df_unit.specs.declared.name.UnitName.{UnitName}
use Rattle.df_unit.specs.declared.reply.Reply.{Reply}

-- a brain that is told one reply more
pub led_more : {B : Type 0} (brain : Brain B) (es : List Entry) (m : B × Last) (a : UnitName) (c : Call) (r : Reply) (f : Effect) →
    led brain (es ++ Done a c r f ∷ []) m ≡ ((brain.next (led brain es m).0 (led brain es m).1).1, Replied r)
led_more brain [] m a c r f = refl
led_more brain (Done b d q g ∷ es) m a c r f = led_more brain es ((brain.next m.0 m.1).1, Replied q) a c r f
led_more brain (Emitted d ∷ es) m a c r f = led_more brain es m a c r f

-- a brain that is told the reply of its first entry, and then the others
pub led_first : {B : Type 0} (brain : Brain B) (e : Entry) (es : List Entry) (m : B × Last) → led brain es (led brain (e ∷ []) m) ≡ led brain (e ∷ es) m
led_first brain (Done a c r f) es m = refl
led_first brain (Emitted c) es m = refl

-- one reply more of a list is told
pub told_more : {B : Type 0} (brain : Brain B) (es : List Entry) (i : ℕ) (e : Entry) (now new x : B × Last) → i < length es → e ≡ get_or es i e → new ≡ led brain (e ∷ []) now →
    led brain (drop i es) now ≡ x → led brain (drop (i + 1) es) new ≡ x
told_more brain es i e now new x h is told before = rw add-one (ap (led brain (drop (suc i) es)) told
    ∙ led_first brain e (drop (suc i) es) now
    ∙ ap (λ (v : Entry). led brain (v ∷ drop (suc i) es) now) is
    ∙ ap (λ (k : List Entry). led brain k now) (sym (drop-cons es i e h)) ∙ before)

dropped : {A : Type 0} (xs : List A) (i : ℕ) → length xs ≤ i → drop i xs ≡ []
dropped [] zero h = refl
dropped [] (suc i) h = refl
dropped (x ∷ xs) zero h = absurd (let z : ⊥ = omega arith in z)
dropped (x ∷ xs) (suc i) h = dropped xs i (let z : length xs ≤ i = omega arith in z)

-- all replies of a list are told
pub all_told : {B : Type 0} (brain : Brain B) (es : List Entry) (i : ℕ) (now x : B × Last) → length es ≤ i → led brain (drop i es) now ≡ x → now ≡ x
all_told brain es i now x end before = sym (ap (λ (k : List Entry). led brain k now) (dropped es i end)) ∙ before

-- how a turn ends is seen behind its run
pub run_ready : {B : Type 0} (brain : Brain B) (es : List Entry) (l present : LocalState) (m now : B × Last) → RunsTo brain es l m present now → (n k : ℕ) → n ≡ length es + k →
    ready_from brain n l m.0 m.1 ≡ ready_from brain k present now.0 now.1
run_ready brain [] l present m now run n k e = ap (λ (i : ℕ). ready_from brain i l m.0 m.1) (let z : n ≡ k = omega arith in z)
    ∙ ap (λ (x : LocalState). ready_from brain k x m.0 m.1) run.0 ∙ ap (λ (p : _ × Last). ready_from brain k present p.0 p.1) run.1
run_ready brain (Emitted c ∷ es) l present m now run n k e = absurd run
run_ready brain (Done a c r f ∷ es) l present m now run zero k e = absurd (let z : ⊥ = omega arith in z)
run_ready brain (Done a c r f ∷ es) l present m now run (suc n) k e =
    let fewer : n ≡ length es + k = omega arith in
    let x = (brain.next m.0 m.1).1 in
    ap (λ (w : Want). cond (wants_local w) (ready_from brain n (moved_want l w) x (told_want l w)) (ready_by w)) run.0
    ∙ ap (λ (b : Bool). cond b (ready_from brain n (moved_want l (Calls c)) x (told_want l (Calls c))) (ready_by (Calls c))) run.1.1
    ∙ ap (λ (p : Reply × Effect). ready_from brain n (with_own l (after l.unit l.own c p.0 p.1)) x (Replied p.0)) run.1.2
    ∙ run_ready brain es (moved_by l (Done a c r f)) present (x, Replied r) now run.2 n k fewer

-- a run of one call more
pub run_more : {B : Type 0} (brain : Brain B) (es : List Entry) (l present : LocalState) (m now : B × Last) (a : UnitName) (c : Call) (r : Reply) (f : Effect) → RunsTo brain es l m present now →
    (brain.next now.0 now.1).0 ≡ Calls c → IsLocalEntry present (Done a c r f) →
    RunsTo brain (es ++ Done a c r f ∷ []) l m (moved_by present (Done a c r f)) ((brain.next now.0 now.1).1, Replied r)
run_more brain [] l present m now a c r f run wants entry =
    subst (λ (x : LocalState). RunsTo brain (Done a c r f ∷ []) x m (moved_by present (Done a c r f)) ((brain.next now.0 now.1).1, Replied r)) (sym run.0)
    (subst (λ (p : _ × Last). RunsTo brain (Done a c r f ∷ []) present p (moved_by present (Done a c r f)) ((brain.next now.0 now.1).1, Replied r)) (sym run.1) (wants, entry, (refl, refl)))
run_more brain (Emitted k ∷ es) l present m now a c r f run wants entry = absurd run
run_more brain (Done b d q g ∷ es) l present m now a c r f run wants entry =
    (run.0, run.1, run_more brain es (moved_by l (Done b d q g)) present ((brain.next m.0 m.1).1, Replied q) now a c r f run.2 wants entry)
