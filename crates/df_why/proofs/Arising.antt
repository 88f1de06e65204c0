-- What is kept of a unit's deliveries, as the journal grows.
use Rattle.std.proofs.Common.{◌≡◌, ◌⊎◌, inl, inr, ℕ, zero, suc, ◌+◌, ◌-◌, ◌<◌, ◌≤◌, List, [], ◌∷◌, ◌++◌, Bool, true, false, ◌&&◌, length, replicate, refl, sym, ◌∙◌, ap, subst, Option, Some, None, arith}
use Rattle.std.specs.Prelude.{◌==◌, nat_le, nat_lt, slice_get}
use Rattle.std.proofs.lemmas.Bool.{cases_lt, le-leb, leb-true, lt-ltb, ltb-true}
use Rattle.std.proofs.lemmas.List.{append-nil, length-append, length-replicate}
use Rattle.std.proofs.lemmas.Option.{slice_get-get_or, slice_get_within}
use Rattle.df_rules.specs.Commits.{commit_of}
use Rattle.df_rules.specs.Deliveries.{deliveries, instance_news, plain_news}
use Rattle.df_rules.specs.Own.{fixed, own_plain}
use Rattle.df_rules.specs.Received.{received}
use Rattle.df_rules.specs.Rules.{Rules}
use Rattle.df_rules.specs.Subscriptions.{subscriptions}
use Rattle.df_rules.proofs.Growth.{deliveries_grow}
use Rattle.df_unit.specs.OwnState.{Fixed, OwnState}
use Rattle.df_unit.specs.declared.commit.Given.{Given}
use Rattle.df_unit.specs.declared.entry.Entry.{Entry}
use Rattle.df_unit.specs.declared.name.UnitName.{UnitName}
use Rattle.df_unit.specs.declared.name.UnitName.TheVariants.{Managed, Root}
use Rattle.df_why.specs.Grounds.{brings}
use Rattle.df_why.specs.code.Arising.{IsAnswer, IsQueue, IsWhole, QueueState, extended}
use Rattle.df_why.proofs.News.{deliveries_more, news}
use Rattle.df_why.proofs.Picked.{eq_refl}
use Rattle.df_why.proofs.Turning.{apart}

-- an element of a list with copies of another behind it is an old one, or that
added_cases : (xs : List ℕ) (n here m p : ℕ) → slice_get (xs ++ replicate n here) m ≡ Some p
    → (slice_get xs m ≡ Some p) ⊎ ((here ≡ p) × (length xs ≤ m) × (m < length xs + n))
added_cases [] zero here m p h = absurd (let z : ⊥ = cc in z)
added_cases [] (suc n) here zero p h = inr ((let z = h in cc), omega arith, omega arith)
added_cases [] (suc n) here (suc m) p h = go (added_cases [] n here m p h)
  where
    go : (slice_get {X = ℕ} [] m ≡ Some p) ⊎ ((here ≡ p) × (0 ≤ m) × (m < 0 + n))
        → (slice_get {X = ℕ} [] (suc m) ≡ Some p) ⊎ ((here ≡ p) × (0 ≤ suc m) × (suc m < 0 + suc n))
    go (inl none) = absurd (let z : ⊥ = cc in z)
    go (inr is) = let lt = is.2 in inr (is.0, omega arith, omega (arith, lt))
added_cases (x ∷ xs) n here zero p h = inl h
added_cases (x ∷ xs) n here (suc m) p h = go (added_cases xs n here m p h)
  where
    go : (slice_get xs m ≡ Some p) ⊎ ((here ≡ p) × (length xs ≤ m) × (m < length xs + n))
        → (slice_get (x ∷ xs) (suc m) ≡ Some p) ⊎ ((here ≡ p) × (length (x ∷ xs) ≤ suc m) × (suc m < length (x ∷ xs) + n))
    go (inl old) = inl old
    go (inr is) = let le = is.1 in let lt = is.2 in inr (is.0, omega (arith, le), omega (arith, lt))

module _ (R : Rules) (s : List OwnState) (u : UnitName) where
  abbrev count : List Entry → ℕ
  count past = length (deliveries R s past u)

  pub count_grows : (newer past : List Entry) → count past ≤ count (newer ++ past)
  count_grows newer past =
      let more = deliveries_grow R s newer past u in
      let size = ap (λ (ds : List Given). length ds) more.1 ∙ length-append (deliveries R s past u) more.0 in
      omega (arith, size)

  not_brought : (m : ℕ) (older : List Entry) (e : Entry) → (count older ≤ m → m < count (e ∷ older) → ⊥) → brings R s u m older e ≡ false
  not_brought m older e never = go (nat_le (count older) m) refl (nat_lt m (count (e ∷ older))) refl
    where
      go : (b : Bool) → nat_le (count older) m ≡ b → (c : Bool) → nat_lt m (count (e ∷ older)) ≡ c → (b && c) ≡ false
      go true h true k = absurd (never (leb-true (count older) m h) (ltb-true m (count (e ∷ older)) k))
      go true h false k = refl
      go false h c k = refl

  brought : (m : ℕ) (older : List Entry) (e : Entry) → count older ≤ m → m < count (e ∷ older) → brings R s u m older e ≡ true
  brought m older e le lt = ap (λ (b : Bool). b && nat_lt m (count (e ∷ older))) (le-leb (count older) m le) ∙ lt-ltb m (count (e ∷ older)) lt

  -- an older place stays the answer
  answer_later : (past : List Entry) (e : Entry) (m p : ℕ) → m < count past → p < length past → IsAnswer R s past u m (Some p)
      → IsAnswer R s (e ∷ past) u m (Some p)
  answer_later past e m p lt before answer [] older x split =
      let here : older ≡ past = (let y = split in cc) in
      let le : count past ≡ count older = ap count (sym here) in
      let size : length past ≡ length older = ap (λ (l : List Entry). length l) (sym here) in
      not_brought m older x (λ below above. omega (arith, lt, le, below)) ∙ sym (apart p (length older) (λ same. omega (arith, same, before, size)))
  answer_later past e m p lt before answer (y ∷ newer) older x split = answer newer older x (let z = split in cc)

  -- what arises with an entry arises there
  answer_here : (past : List Entry) (e : Entry) (m : ℕ) → count past ≤ m → m < count (e ∷ past) → IsAnswer R s (e ∷ past) u m (Some (length past))
  answer_here past e m le lt [] older x split =
      let here : past ≡ older = (let y = split in cc) in
      let who : e ≡ x = (let y = split in cc) in
      subst (λ (l : List Entry). brings R s u m l x ≡ (length past == length l)) here
      (subst (λ (z : Entry). brings R s u m past z ≡ (length past == length past)) who (brought m past e le lt ∙ sym (eq_refl (length past))))
  answer_here past e m le lt (y ∷ newer) older x split =
      let rest : past ≡ newer ++ x ∷ older = (let z = split in cc) in
      let grows = count_grows newer (x ∷ older) in
      let total : count past ≡ count (newer ++ x ∷ older) = ap count rest in
      let size : length past ≡ length newer + suc (length older) = ap (λ (l : List Entry). length l) rest ∙ length-append newer (x ∷ older) in
      not_brought m older x (λ below above. omega (arith, le, grows, total, above))
      ∙ sym (apart (length past) (length older) (λ same. omega (arith, same, size)))

  -- no place where it didn't arise
  answer_none : (past : List Entry) (m : ℕ) → count past ≤ m → IsAnswer R s past u m None
  answer_none past m le newer older x split =
      let grows = count_grows newer (x ∷ older) in
      let total : count past ≡ count (newer ++ x ∷ older) = ap count split in
      not_brought m older x (λ below above. omega (arith, le, grows, total, above))

  -- where the place of each delivery is kept, the answer is the one that is kept
  pub whole_answers : (past : List Entry) (q : QueueState) → IsWhole R s past u q → (m : ℕ) → IsAnswer R s past u m (slice_get q.places m)
  whole_answers past q whole m = go (slice_get q.places m) refl
    where
      go : (o : Option ℕ) → slice_get q.places m ≡ o → IsAnswer R s past u m o
      go (Some p) is = whole.queue.known m p is
      go None is = answer_none past m (beyond (cases_lt m (length q.places)))
        where
          beyond : (m < length q.places) ⊎ (length q.places ≤ m) → count past ≤ m
          beyond (inl lt) = absurd (let z : None ≡ Some _ = sym is ∙ slice_get-get_or q.places m 0 lt in let w : ⊥ = cc in w)
          beyond (inr le) = let size = whole.count in omega (arith, le, size)

  -- the queue with one more entry, before what it brings is kept
  pub queue_later : (past : List Entry) (e : Entry) (q q' : QueueState) → IsQueue R s past u q → q'.taken ≡ length (received u (e ∷ past))
      → q'.places ≡ q.places → IsQueue R s (e ∷ past) u q'
  queue_later past e q q' queue taken places = record {
    taken = taken;
    short = (let grows = count_grows (e ∷ []) past in let short = queue.short in let size = ap (λ (l : List ℕ). length l) places in omega
        (arith, grows, short, size));
    before = λ m p h. (let below = queue.before m p (old m p h) in omega (arith, below));
    known = λ m p h. answer_later past e m p (within m p (old m p h)) (queue.before m p (old m p h)) (queue.known m p (old m p h));
  }
    where
      old : (m p : ℕ) → slice_get q'.places m ≡ Some p → slice_get q.places m ≡ Some p
      old m p h = ap (λ (l : List ℕ). slice_get l m) (sym places) ∙ h

      within : (m p : ℕ) → slice_get q.places m ≡ Some p → m < count past
      within m p h = let inside = slice_get_within q.places m p h in let short = queue.short in omega (arith, inside, short)

  -- the queue with the places of what the newest entry brought
  pub queue_filled : (past : List Entry) (e : Entry) (q : QueueState) (left : ℕ) → IsQueue R s (e ∷ past) u q → count past ≤ length q.places
      → q.taken ≤ length q.places → q.taken + left ≡ count (e ∷ past) → IsWhole R s (e ∷ past) u (extended q left (length past))
  queue_filled past e q left queue long few all = record {
    queue = record {
      taken = queue.taken;
      short = (let s = size in omega (arith, s));
      before = λ m p h. before m p (added_cases q.places more (length past) m p h);
      known = λ m p h. known m p (added_cases q.places more (length past) m p h);
    };
    count = size;
  }
    where
      more : ℕ
      more = left - (length q.places - q.taken)

      total : length q.places + more ≡ count (e ∷ past)
      total = let short = queue.short in omega (arith, short, few, all)

      size : length (q.places ++ replicate more (length past)) ≡ count (e ∷ past)
      size = length-append q.places (replicate more (length past)) ∙ ap (λ (n : ℕ). length q.places + n) (length-replicate more (length past)) ∙ total

      Cases : ℕ → ℕ → Type 0
      Cases m p = (slice_get q.places m ≡ Some p) ⊎ ((length past ≡ p) × (length q.places ≤ m) × (m < length q.places + more))

      before : (m p : ℕ) → Cases m p → p < length (e ∷ past)
      before m p (inl is) = queue.before m p is
      before m p (inr is) = let same = is.0 in omega (arith, same)

      known : (m p : ℕ) → Cases m p → IsAnswer R s (e ∷ past) u m (Some p)
      known m p (inl is) = queue.known m p is
      known m p (inr is) =
          let le = is.1 in
          let lt = is.2 in
          let t = total in
          subst (λ (n : ℕ). IsAnswer R s (e ∷ past) u m (Some n)) is.0 (answer_here past e m (omega (arith, le, long)) (omega (arith, lt, t)))

  -- an entry without a commit brings nothing
  pub quiet_count : (past : List Entry) (e : Entry) → commit_of e ≡ None → count (e ∷ past) ≡ count past
  quiet_count past e none = ap (λ (ds : List Given). length ds)
      (deliveries_more R s e past u ∙ ap (λ (more : List Given). deliveries R s past u ++ more) (quiet u) ∙ append-nil (deliveries R s past u))
    where
      quiet : (u : UnitName) → news R s past e u ≡ []
      quiet (Root path) = ap (plain_news (own_plain R s past path) (subscriptions R s past (Root path)) (deliveries R s past (Root path)) past) none
          ∙ go (own_plain R s past path)
        where
          go : (o : Option OwnState) → plain_news o (subscriptions R s past (Root path)) (deliveries R s past (Root path)) past None ≡ []
          go None = refl
          go (Some st) = refl
      quiet (Managed o n t) = ap (instance_news (fixed R s past o n) n t (deliveries R s past (Managed o n t)) past) none ∙ go (fixed R s past o n)
        where
          go : (fx : Option Fixed) → instance_news fx n t (deliveries R s past (Managed o n t)) past None ≡ []
          go None = refl
          go (Some f) = refl
