-- Calls that are read are spelled so.
use Rattle.df_journal_text.proofs.Names.{append-nil, ◌≡◌, ℕ, ◌<◌, ◌^◌, true, List, [], ◌∷◌, ◌++◌, codes, decimal, refl, Half, S, I, Act, Add, Del, Read, is_name, Label, CreateEvent, DelPart, ReadPart, CloneEvent, AttachPrivilege, ChangeOutLabel, CreateTag, DropEvent, Subscribe, SubscribeManaged, Get, Publish, Release, ChangeInOut, Instantiate, IsLabel, IsTag, label_text, privilege_text, tag_text, act_text, half_text, IsCall, word, act_at, change_at, half_at, named_kinds, plain_kinds, last_kinds, spot_at, bare_at, named_at, call_text}
use Rattle.df_journal_text.proofs.Appends.{four_end}
use Rattle.df_journal_text.proofs.Founds.{◌⊕◌, AllFind, Finds, bare_finds, braced_finds, filter_finds, finds_then, finds_word, finds_as, kinds_find, label_finds, name_finds, privilege_finds, privileges_finds, short_finds, tag_finds}

pub named_finds : Finds (λ (n : Label × List ℕ). word (label_text n.0) ++ word n.1) (λ (n : Label × List ℕ). IsLabel n.0 × (is_name n.1 ≡ true)) named_at
named_finds = finds_then (finds_word label_finds) (finds_word name_finds)

pub spot_finds : Finds (λ (s : ℕ × (Label × List ℕ)). word (decimal s.0) ++ (word (label_text s.1.0) ++ word s.1.1))
    (λ (s : ℕ × (Label × List ℕ)). (s.0 < 2 ^ 32) × (IsLabel s.1.0 × (is_name s.1.1 ≡ true))) spot_at
spot_finds = finds_then (finds_word short_finds) named_finds

abbrev half_kinds : List (List ℕ × (List ℕ → Read ℕ Half))
half_kinds = (codes "S", bare_at S) ∷ (codes "I", bare_at I) ∷ []

abbrev act_kinds : List (List ℕ × (List ℕ → Read ℕ Act))
act_kinds = (codes "add", bare_at Add) ∷ (codes "del", bare_at Del) ∷ []

half_finds : Finds (λ (h : Half). word (half_text h)) (λ (h : Half). Unit {0}) half_at
half_finds = kinds_find (λ (h : Half). word (half_text h)) (λ (h : Half). Unit {0}) half_kinds (bare_finds S refl tt ⊕ bare_finds I refl tt ⊕ tt)

act_finds : Finds (λ (a : Act). word (act_text a)) (λ (a : Act). Unit {0}) act_at
act_finds = kinds_find (λ (a : Act). word (act_text a)) (λ (a : Act). Unit {0}) act_kinds (bare_finds Add refl tt ⊕ bare_finds Del refl tt ⊕ tt)

change_finds : Finds (λ (c : Half × (Act × List ℕ)). word (half_text c.0) ++ (word (act_text c.1.0) ++ word (tag_text c.1.1)))
    (λ (c : Half × (Act × List ℕ)). Unit {0} × (Unit {0} × IsTag c.1.1)) change_at
change_finds = finds_then half_finds (finds_then act_finds (finds_word tag_finds))

last_find : AllFind call_text IsCall last_kinds
last_find =
    bare_finds CreateTag refl tt
    ⊕ finds_as (λ x. ChangeOutLabel x.0 x.1.0 x.1.1) change_finds (λ x f. (simp append-nil, f.1.1))
    ⊕ finds_as (λ x. ChangeInOut x.0 x.1.0 x.1.1) change_finds (λ x f. (simp append-nil, f.1.1))
    ⊕ finds_as (λ x. Subscribe x) (finds_word filter_finds) (λ x f. (simp append-nil, f))
    ⊕ finds_as (λ x. SubscribeManaged x) (finds_word filter_finds) (λ x f. (simp append-nil, f))
    ⊕ finds_as (λ x. Instantiate x.0 x.1) (finds_then (finds_word braced_finds) privileges_finds) (λ x f. (refl, f))
    ⊕ tt

named_find : AllFind call_text IsCall named_kinds
named_find =
    finds_as (λ x. DelPart x.0 x.1.0 x.1.1) spot_finds (λ x f. (simp append-nil, (f.0, f.1.0, f.1.1)))
    ⊕ finds_as (λ x. ReadPart x.0 x.1) (finds_then (finds_word short_finds) (finds_word name_finds)) (λ x f. (simp append-nil, f))
    ⊕ finds_as (λ x. CloneEvent x.0 x.1) (finds_then (finds_word short_finds) (finds_word label_finds)) (λ x f. (simp append-nil, f))
    ⊕ finds_as (λ x. AttachPrivilege x.0.0 x.0.1.0 x.0.1.1 x.1) (finds_then spot_finds (finds_word privilege_finds)) (λ x f. (
      four_end (word (codes "attach")) (word (decimal x.0.0)) (word (label_text x.0.1.0)) (word x.0.1.1) (word (privilege_text x.1)),
      (f.0.0, f.0.1.0, f.0.1.1, f.1),
    ))
    ⊕ last_find

pub plain_find : AllFind call_text IsCall plain_kinds
plain_find =
    bare_finds Get refl tt
    ⊕ bare_finds CreateEvent refl tt
    ⊕ finds_as (λ x. Publish x) (finds_word short_finds) (λ x f. (simp append-nil, f))
    ⊕ finds_as (λ x. Release x) (finds_word short_finds) (λ x f. (simp append-nil, f))
    ⊕ finds_as (λ x. DropEvent x) (finds_word short_finds) (λ x f. (simp append-nil, f))
    ⊕ named_find
