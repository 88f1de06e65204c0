-- The calls that a disk in memory keeps.
use Rattle.std.proofs.Common.{◌≡◌, inl, inr, ⊎_elim, ℕ, ◌+◌, ◌-◌, ◌≤◌, suc, Bool, true, false, List, [], ◌∷◌, ◌++◌, length, take, drop, reverse, refl, sym, ◌∙◌, ap, subst, arith, length-drop}
use Rattle.std.specs.Prelude.{◌↔◌, Contains}
use Rattle.std.proofs.lemmas.List.{take-append-le, drop-append-le, reverse-append, take_all, length-reverse}
use Rattle.df_disk.specs.Disk.{Follows, NoMore, Torn}
use Rattle.df_disk.specs.MemoryDisk.{DiskState, FailsCall, MayLeave, Past, bytes_after, looked, made, past_of, stays, synced, total, with_pieces, wrote}
use Rattle.df_disk.specs.declared.memory_disk.Call.{Call}
use Rattle.df_disk.specs.declared.memory_disk.Call.TheVariants.{Looked, Synced, Wrote}
use Rattle.df_disk.proofs.Kept.{torn_overwritten, torn_not}

abbrev pub state_of : List Past → List ℕ → ℕ → ℕ → ℕ → DiskState
state_of past failing room left faults = record { past = past; failing = failing; room = room; calls_left = left; faults = faults }

abbrev pub with_room : ℕ → DiskState → DiskState
with_room room d = record d { room = room }

-- ---- one call more

looked_behind : (calls : List Call) (pieces : List ℕ) → with_pieces (calls ++ Looked ∷ []) pieces ≡ with_pieces calls pieces ++ looked ∷ []
looked_behind [] pieces = refl
looked_behind (Looked ∷ calls) pieces = ap (λ (l : List Past). looked ∷ l) (looked_behind calls pieces)
looked_behind (Synced ∷ calls) pieces = ap (λ (l : List Past). synced ∷ l) (looked_behind calls pieces)
looked_behind (Wrote at len done ∷ calls) pieces = ap (λ (l : List Past). wrote at (take len pieces) done ∷ l) (looked_behind calls (drop len pieces))

synced_behind : (calls : List Call) (pieces : List ℕ) → with_pieces (calls ++ Synced ∷ []) pieces ≡ with_pieces calls pieces ++ synced ∷ []
synced_behind [] pieces = refl
synced_behind (Looked ∷ calls) pieces = ap (λ (l : List Past). looked ∷ l) (synced_behind calls pieces)
synced_behind (Synced ∷ calls) pieces = ap (λ (l : List Past). synced ∷ l) (synced_behind calls pieces)
synced_behind (Wrote at len done ∷ calls) pieces = ap (λ (l : List Past). wrote at (take len pieces) done ∷ l) (synced_behind calls (drop len pieces))

no_pieces : (pieces : List ℕ) → 0 ≡ length pieces → pieces ≡ []
no_pieces [] none = refl
no_pieces (b ∷ pieces) none = absurd (omega arith)

wrote_behind : (calls : List Call) (pieces piece : List ℕ) (at : ℕ) (done : Bool) → total calls ≡ length pieces
    → with_pieces (calls ++ Wrote at (length piece) done ∷ []) (pieces ++ piece) ≡ with_pieces calls pieces ++ wrote at piece done ∷ []
wrote_behind [] pieces piece at done whole =
    let none : pieces ≡ [] = no_pieces pieces whole in
    ap (λ (l : List ℕ). wrote at (take (length piece) (l ++ piece)) done ∷ []) none
    ∙ ap (λ (l : List ℕ). wrote at l done ∷ []) (take_all (length piece) piece (omega arith))
wrote_behind (Looked ∷ calls) pieces piece at done whole = ap (λ (l : List Past). looked ∷ l) (wrote_behind calls pieces piece at done whole)
wrote_behind (Synced ∷ calls) pieces piece at done whole = ap (λ (l : List Past). synced ∷ l) (wrote_behind calls pieces piece at done whole)
wrote_behind (Wrote place len was ∷ calls) pieces piece at done whole =
    let inside : len ≤ length pieces = omega (arith, whole) in
    let rest : total calls ≡ length (drop len pieces) = omega (arith, whole, length-drop len pieces) in
    ap (λ (l : List ℕ). wrote place l was ∷ with_pieces (calls ++ Wrote at (length piece) done ∷ []) (drop len (pieces ++ piece)))
    (take-append-le len pieces piece inside)
    ∙ ap (λ (l : List ℕ). wrote place (take len pieces) was ∷ with_pieces (calls ++ Wrote at (length piece) done ∷ []) l)
    (drop-append-le len pieces piece inside)
    ∙ ap (λ (l : List Past). wrote place (take len pieces) was ∷ l) (wrote_behind calls (drop len pieces) piece at done rest)

newest_first : (older : List Past) (call : Past) (all : List Past) → all ≡ older ++ call ∷ [] → reverse all ≡ call ∷ reverse older
newest_first older call all is = ap reverse is ∙ reverse-append older (call ∷ [])

pub past_looked : (calls : List Call) (pieces : List ℕ) → past_of (calls ++ Looked ∷ []) pieces ≡ looked ∷ past_of calls pieces
past_looked calls pieces = newest_first _ looked _ (looked_behind calls pieces)

pub past_synced : (calls : List Call) (pieces : List ℕ) → past_of (calls ++ Synced ∷ []) pieces ≡ synced ∷ past_of calls pieces
past_synced calls pieces = newest_first _ synced _ (synced_behind calls pieces)

pub past_wrote : (calls : List Call) (pieces piece : List ℕ) (at : ℕ) (done : Bool) → total calls ≡ length pieces
    → past_of (calls ++ Wrote at (length piece) done ∷ []) (pieces ++ piece) ≡ wrote at piece done ∷ past_of calls pieces
past_wrote calls pieces piece at done whole = newest_first _ (wrote at piece done) _ (wrote_behind calls pieces piece at done whole)

pub total_more : (calls : List Call) (call : Call) → total (calls ++ call ∷ []) ≡ total (call ∷ []) + total calls
total_more [] call = sym (zero_after (total (call ∷ [])))
  where
    zero_after : (n : ℕ) → n + total [] ≡ n
    zero_after n = omega arith
total_more (Looked ∷ calls) call = total_more calls call
total_more (Synced ∷ calls) call = total_more calls call
total_more (Wrote at len done ∷ calls) call = omega (arith, total_more calls call)

length_pieces : (calls : List Call) (pieces : List ℕ) → length (with_pieces calls pieces) ≡ length calls
length_pieces [] pieces = refl
length_pieces (Looked ∷ calls) pieces = ap suc (length_pieces calls pieces)
length_pieces (Synced ∷ calls) pieces = ap suc (length_pieces calls pieces)
length_pieces (Wrote at len done ∷ calls) pieces = ap suc (length_pieces calls (drop len pieces))

pub length_past : (calls : List Call) (pieces : List ℕ) → length (past_of calls pieces) ≡ length calls
length_past calls pieces = length-reverse (with_pieces calls pieces) ∙ length_pieces calls pieces

-- ---- time

pub synced_no_more : (past : List Past) → NoMore (MayLeave past) (MayLeave (synced ∷ past))
synced_no_more past c is = subst (MayLeave past) (sym is) (stays past)

-- ---- writes

pub wrote_follows : (past : List Past) (at : ℕ) (piece : List ℕ) (done : Bool) → at ≤ length (bytes_after past)
    → Follows (Torn at (length piece)) (MayLeave past) (MayLeave (wrote at piece done ∷ past))
wrote_follows past at piece true within c (inl is) =
    (bytes_after past, stays past, subst (Torn at (length piece) (bytes_after past)) (sym is) (torn_overwritten at piece (bytes_after past) within))
wrote_follows past at piece false within c (inl is) =
    (bytes_after past, stays past, subst (Torn at (length piece) (bytes_after past)) (sym is) (torn_not at (length piece) (bytes_after past)))
wrote_follows past at piece done within c (inr torn) = torn

-- ---- the state behind a call

pub made_is : (old : DiskState) (call : Past) (new past : List Past) (failing : List ℕ) (room left faults : ℕ) → state_of past failing room left faults ≡ old
    → new ≡ call ∷ past → state_of new failing room (left - 1) faults ≡ made call old
made_is old call new past failing room left faults view more = ap (λ (p : List Past). state_of p failing room (left - 1) faults) more ∙ ap (made call) view

pub put_is : (old : DiskState) (call : Past) (n : ℕ) (new past : List Past) (failing : List ℕ) (room left faults : ℕ)
    → state_of past failing room left faults ≡ old → new ≡ call ∷ past
    → state_of new failing (room - n) (left - 1) faults ≡ with_room (old.room - n) (made call old)
put_is old call n new past failing room left faults view more = ap (λ (p : List Past). state_of p failing (room - n) (left - 1) faults) more
    ∙ ap (λ (d : DiskState). with_room (d.room - n) (made call d)) view

-- which calls fail, where there is room for them
pub fails_where : {B : Type 0} (d : DiskState) (failing : List ℕ) (call : ℕ) → failing ≡ d.failing → call ≡ length d.past + 1 → (B ↔ Contains failing call)
    → ¬ (d.calls_left ≡ 0) → (B → FailsCall d) × (FailsCall d → B)
fails_where d failing call same number fails room =
    let there : Contains failing call →
    Contains d.failing (length d.past + 1) = λ h. subst (Contains d.failing) number (subst (λ (l : List ℕ). Contains l call) same h) in
    let back : Contains d.failing (length d.past + 1)
    → Contains failing call = λ h. subst (λ (l : List ℕ). Contains l call) (sym same) (subst (Contains d.failing) (sym number) h) in
    (λ b. inl (there (fails.0 b)), λ f. ⊎_elim (λ h. fails.1 (back h)) (λ none. absurd (room none)) f)
