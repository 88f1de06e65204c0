-- Each row of the call table keeps what is kept of a unit of a root's family.
use Rattle.df_family.proofs.Names.{inl, inr, ◌≡◌, ◌⊎◌, ℕ, List, [], ◌∷◌, ◌++◌, Bool, true, false, not, ◌&&◌, refl, sym, ◌∙◌, ap, subst, cond, Option, Some, None, length, ⊤, is_some, nat_le, slice_get, map, filter, list_all, option_or, and_parts, or_left, or_right, or_cases, flows_to, maker_of, contains, meet, privilege_eq, Label, Privilege, Clause, names, begins_with, Relation, IsClosed, can_write, can_reach, is_at, is_deleted, Part, holds, needed, needed_to_attach, Add, Del, Roots, root_of, fixed_of, begin, child, draft_of, view_of, handle_at, OwnState, Fixed, reply, effect, after, changed, half_changed, is_accepted, is_instance, is_nil, where_held, at_handle, found, first_given, next_tag, path_of, next_event, published, released, sources, taken_in, unless_lacking, lacking_tag, lacking_authority, Call, CreateEvent, AddPart, DelPart, ReadPart, CloneEvent, AttachPrivilege, ChangeOutLabel, CreateTag, DropEvent, Subscribe, SubscribeManaged, Get, Publish, Release, ChangeInOut, Instantiate, Given, Effect, Handle, UnitName, Reply}
use Rattle.std.specs.Str.{bytes_eq}
use Rattle.df_label.specs.Privileges.{contains as contains_privilege, add}
use Rattle.df_label.proofs.LabelFacts.{flows_to-parts}
use Rattle.df_label.proofs.PrivilegeFacts.{contains-add}
use Rattle.df_label.proofs.SetFacts.{is_some-find_not}
use Rattle.df_label.proofs.TagFacts.{maker_of-push}
use Rattle.df_label.proofs.TagSetFacts.{contains-meet, contains-included}
use Rattle.df_family.proofs.Bound.{Each, each_append, each_weaker, each_map, each_filter, each_flat_map, each_contained, held_from, is_one, EachOpen, IfOpen, open_one, close_one, open_at, change_one, MayAttach, MayWrite, IsWritten, IsBacked, IsHandleOf, LacksOnly, IsBound, IsFixedBound, integrity_named, reached}
use Rattle.df_part.specs.declared.edit.Spot.{Spot}
use Rattle.df_priv.specs.declared.need.Act.{Act}
use Rattle.df_priv.specs.declared.need.Half.{Half}
use Rattle.df_unit.specs.Drafts.{spot, has_at, visible_named, raised, new_part, relabel, relabelled, cloned, attach, attached_in, deleted_in}
use Rattle.df_unit.specs.Limits.{most_path, most_units}
use Rattle.df_unit.specs.Held.{all_over}
use Rattle.df_unit.proofs.Members.{added_or_had, has_still, others_stay, same_or_not, stayed}

-- replies

if_accepted : (P : OwnState → Type 0) (b : Bool) (x st : OwnState) → (b ≡ true → P x) → P st → P (cond b x st)
if_accepted P true x st f h = f refl
if_accepted P false x st f h = h

held_where : (b : Bool) (q : Privilege) → is_accepted (cond b Reply.Ok (Reply.Lacks q)) ≡ true → b ≡ true
held_where true q h = refl
held_where false q h = h

held_where_plain : (i b : Bool) (q : Privilege) → is_accepted (cond i Reply.NotInManaged (cond b Reply.Ok (Reply.Lacks q))) ≡ true → b ≡ true
held_where_plain true b q h = absurd (let z : ⊥ = cc in z)
held_where_plain false b q h = held_where b q h

held_to_attach : (st : OwnState) (d : Spot) (p : Privilege) (o : Option Handle) → is_accepted (at_handle o (λ x. cond (not (has_at x.drafted d)) Reply.NoSuchPart (where_held st (needed_to_attach p) Reply.Ok))) ≡ true → holds st.held (needed_to_attach p) ≡ true
held_to_attach st d p None h = absurd (let z : ⊥ = cc in z)
held_to_attach st d p (Some x) h = go (has_at x.drafted d) h
  where
    go : (b : Bool) → is_accepted (cond (not b) Reply.NoSuchPart (where_held st (needed_to_attach p) Reply.Ok)) ≡ true → holds st.held (needed_to_attach p) ≡ true
    go true h = held_where (holds st.held (needed_to_attach p)) (needed_to_attach p) h
    go false h = absurd (let z : ⊥ = cc in z)

module _ (start : Roots) (h : Relation) (closed : IsClosed start h) (k : ℕ) (root : Label × List Privilege) (is_root : slice_get start k ≡ Some root) where
  abbrev pub Mine : OwnState → Type 0
  Mine = IsBound start h k root.0

  abbrev pub Has : Handle → Type 0
  Has = IsHandleOf start h k root.0

  abbrev pub Wrote : Part → Type 0
  Wrote = IsWritten start h k root.0

  -- parts

  no_privileges : MayAttach start h k []
  no_privileges p named m = absurd (let z : ⊥ = cc in z)

  met_left : (xs ys : List (List ℕ)) → MayWrite start h k root.0 xs → MayWrite start h k root.0 (meet xs ys)
  met_left xs ys f t named m = f t named (and_parts (contains xs t) (contains ys t) (sym (contains-meet xs ys t) ∙ m)).0

  met_right : (xs ys : List (List ℕ)) → MayWrite start h k root.0 ys → MayWrite start h k root.0 (meet xs ys)
  met_right xs ys f t named m = f t named (and_parts (contains xs t) (contains ys t) (sym (contains-meet xs ys t) ∙ m)).1

  pub relabelled_mine : (out : Label) (parts : List Part) → Each Wrote parts → Each Wrote (relabelled out parts)
  relabelled_mine out parts each = each_map Wrote Wrote (relabel out) (λ part w. record { attached = w.attached; integrity = met_left part.label.i out.i w.integrity }) parts each

  cloned_mine : (st : OwnState) (label : Label) (parts : List Part) → Mine st → Each Wrote (cloned st.output label parts)
  cloned_mine st label [] b = tt
  cloned_mine st label (part ∷ parts) b = (record { attached = no_privileges; integrity = met_right (raised label part.label).i st.output.i b.writes }, cloned_mine st label parts b)

  -- what a read brings may be held

  read_one : (input : Label) (part : Part) → LacksOnly h k root.0 input.i → flows_to part.label input ≡ true → IsBacked start h part → Each (λ p. names start p.tag ≡ true → h k p ≡ true) part.privileges
  read_one input part reads flows backed = each_contained (λ p. names start p.tag ≡ true → h k p ≡ true) part.privileges (λ p m named.
      closed.passed backed.by k backed.root root p backed.is_root is_root named (backed.written.attached p named m)
      (reached h backed.by backed.root.0 k root.0 (λ t inside. go t inside (reads t inside))))
    where
      go : (t : List ℕ) → contains root.0.i t ≡ true → (contains input.i t ≡ true) ⊎ (h k (needed Del t) ≡ true) → (can_write h backed.by backed.root.0 t ≡ true) ⊎ (h k (needed Del t) ≡ true)
      go t inside (inl m) = inl (backed.written.integrity t (integrity_named start k root t is_root inside) (contains-included input.i part.label.i t (flows_to-parts part.label input flows).1 m))
      go t inside (inr m) = inr m

  found_may : (st : OwnState) (name : List ℕ) (o : Option Handle) → Mine st → IfOpen Has o → Each (λ p. names start p.tag ≡ true → h k p ≡ true) (found st.input name o)
  found_may st name None b d = tt
  found_may st name (Some d) b has =
      each_flat_map (λ part. (flows_to part.label st.input ≡ true) × IsBacked start h part) (λ p. names start p.tag ≡ true → h k p ≡ true) (λ part. part.privileges)
      (λ part g. read_one st.input part b.reads g.0 g.1) (visible_named st.input name d)
      (each_filter (λ part. (flows_to part.label st.input ≡ true) × IsBacked start h part) (λ part. (flows_to part.label st.input ≡ true) × IsBacked start h part) (λ part. bytes_eq name part.name) (λ part e g. g) _
      (each_filter (λ part. (flows_to part.label st.input ≡ true) × IsBacked start h part) (λ part. (flows_to part.label st.input ≡ true) × IsBacked start h part) (λ part. not (is_deleted part d.named)) (λ part e g. g) _
      (each_filter (IsBacked start h) (λ part. (flows_to part.label st.input ≡ true) × IsBacked start h part) (λ part. flows_to part.label st.input) (λ part e g. (e, g)) d.seen has.seen)))

  -- changes of labels

  writes_changed : (st : OwnState) (half : Half) (act : Act) (tag : List ℕ) → Mine st → holds st.held (needed act tag) ≡ true → MayWrite start h k root.0 (half_changed half act tag st.output).i
  writes_changed st Half.S act tag b e t named m = b.writes t named m
  writes_changed st Half.I Add tag b e t named m = elim (added_or_had st.output.i tag t m) [
    | inl same ↦ or_right (contains root.0.i t) (h k (needed Add t)) (b.held (needed Add t) (subst (λ (x : List ℕ). holds st.held (needed Add x) ≡ true) same e) named)
    | inr old ↦ b.writes t named old
  ]
  writes_changed st Half.I Del tag b e t named m = b.writes t named (stayed st.output.i tag t m).0

  reads_changed : (st : OwnState) (half : Half) (act : Act) (tag : List ℕ) → Mine st → holds st.held (needed act tag) ≡ true → LacksOnly h k root.0 (half_changed half act tag st.input).i
  reads_changed st Half.S act tag b e t inside = b.reads t inside
  reads_changed st Half.I Add tag b e t inside = elim (b.reads t inside) [
    | inl m ↦ inl (has_still st.input.i tag t m)
    | inr m ↦ inr m
  ]
  reads_changed st Half.I Del tag b e t inside = elim (same_or_not t tag) [
    | inl same ↦ inr (b.held (needed Del t) (subst (λ (x : List ℕ). holds st.held (needed Del x) ≡ true) (sym same) e) (integrity_named start k root t is_root inside))
    | inr other ↦ elim (b.reads t inside) [
      | inl m ↦ inl (others_stay st.input.i tag t m other)
      | inr m ↦ inr m
    ]
  ]

  -- tags that the unit makes

  next_may : (u : UnitName) (st : OwnState) → begins_with k (path_of u) ≡ true → Each (λ p. names start p.tag ≡ true → h k p ≡ true) (all_over (next_tag u st))
  next_may u st of = (one _ refl, (one _ refl, (one _ refl, (one _ refl, tt))))
    where
      one : (p : Privilege) → p.tag ≡ next_tag u st → names start p.tag ≡ true → h k p ≡ true
      one p e named = closed.made k root p is_root named (subst (λ (path : List ℕ). begins_with k path ≡ true) (sym (ap maker_of e ∙ maker_of-push (path_of u) st.tags)) of)

  -- each call

  given_view : (st : OwnState) (d : Given) → Mine st → Each (IsBacked start h) d.parts → Mine (taken_in (Effect.Given d) st)
  given_view st d b parts = record { held = b.held; reads = b.reads; writes = b.writes; handles = open_one Has st.handles (view_of d.event d.parts) b.handles (record { seen = parts; drafted = tt }) }

  handles_are : (st : OwnState) (hs : List (Option Handle)) → Mine st → EachOpen Has hs → Mine (record st { handles = hs })
  handles_are st hs b each = record { held = b.held; reads = b.reads; writes = b.writes; handles = each }

  sources_written : (st : OwnState) (o : Option Handle) (label : Label) → Mine st → Each Wrote (cloned st.output label (sources st.input o))
  sources_written st o label b = cloned_mine st label (sources st.input o) b

  drafted_more : (d : Handle) (parts : List Part) → Has d → Each Wrote parts → Has (record d { drafted = d.drafted ++ parts })
  drafted_more d parts has each = record { seen = has.seen; drafted = each_append Wrote d.drafted parts has.drafted each }

  deleted_one : (x : Spot) (d : Handle) → Has d → Has (deleted_in x d)
  deleted_one x d has = go (has_at d.drafted x)
    where
      go : (b : Bool) → Has (cond b (record d { drafted = filter (λ part. not (is_at part x)) d.drafted }) (record d { named = d.named ++ x ∷ [] }))
      go true = record { seen = has.seen; drafted = each_filter Wrote Wrote (λ part. not (is_at part x)) (λ part e w. w) d.drafted has.drafted }
      go false = record { seen = has.seen; drafted = has.drafted }

  attached_one : (x : Spot) (p : Privilege) → (names start p.tag ≡ true → h k (needed_to_attach p) ≡ true) → (part : Part) → Wrote part → Wrote (attach x p part)
  attached_one x p may part w = go (is_at part x)
    where
      attached : MayAttach start h k (add part.privileges p)
      attached q named m = elim (or_cases (privilege_eq p q) (contains_privilege part.privileges q) (sym (contains-add part.privileges p q) ∙ m)) [
        | inl e ↦ subst (λ (z : Privilege). names start z.tag ≡ true → h k (needed_to_attach z) ≡ true) (is_one p q e) may named
        | inr old ↦ w.attached q named old
      ]

      go : (b : Bool) → Wrote (cond b (record part { privileges = add part.privileges p }) part)
      go true = record { attached = attached; integrity = w.integrity }
      go false = w

  attached_handle : (x : Spot) (p : Privilege) → (names start p.tag ≡ true → h k (needed_to_attach p) ≡ true) → (d : Handle) → Has d → Has (attached_in x p d)
  attached_handle x p may d has = record { seen = has.seen; drafted = each_map Wrote Wrote (attach x p) (attached_one x p may) d.drafted has.drafted }

  -- an accepted call
  kept_changed : (u : UnitName) → begins_with k (path_of u) ≡ true → (st : OwnState) (ds : List Given) → Each (λ d. Each (IsBacked start h) d.parts) ds → Mine st → (c : Call) → is_accepted (reply u st ds c) ≡ true → Mine (changed u st c (effect u st ds c))
  kept_changed u of st ds given b CreateEvent e = record { held = b.held; reads = b.reads; writes = b.writes; handles = open_one Has st.handles (draft_of (next_event u st) []) b.handles (record { seen = tt; drafted = tt }) }
  kept_changed u of st ds given b (AddPart n label name value) e = handles_are st _ b (change_one Has st.handles n (λ d. record d { drafted = d.drafted ++ new_part (raised st.output label) name value ∷ [] })
      (λ d has. drafted_more d (new_part (raised st.output label) name value ∷ []) has (record { attached = no_privileges; integrity = met_right label.i st.output.i b.writes }, tt)) b.handles)
  kept_changed u of st ds given b (DelPart n label name) e = handles_are st _ b (change_one Has st.handles n (deleted_in (spot name label)) (deleted_one (spot name label)) b.handles)
  kept_changed u of st ds given b (ReadPart n name) e = record {
    held = held_from (λ p. names start p.tag ≡ true → h k p ≡ true) st.held (found st.input name (handle_at st.handles n)) b.held (found_may st name (handle_at st.handles n) b (open_at Has st.handles n b.handles));
    reads = b.reads;
    writes = b.writes;
    handles = b.handles;
  }
  kept_changed u of st ds given b (CloneEvent n label) e = record {
    held = b.held;
    reads = b.reads;
    writes = b.writes;
    handles = open_one Has st.handles (draft_of (next_event u st) (cloned st.output label (sources st.input (handle_at st.handles n)))) b.handles (record { seen = tt; drafted = sources_written st (handle_at st.handles n) label b });
  }
  kept_changed u of st ds given b (AttachPrivilege n label name p) e = handles_are st _ b (change_one Has st.handles n (attached_in (spot name label) p)
      (attached_handle (spot name label) p (λ named. b.held (needed_to_attach p) (held_to_attach st (spot name label) p (handle_at st.handles n) e) named)) b.handles)
  kept_changed u of st ds given b (ChangeOutLabel half act tag) e = record { held = b.held; reads = b.reads; writes = writes_changed st half act tag b (held_where (holds st.held (needed act tag)) (needed act tag) e); handles = b.handles }
  kept_changed u of st ds given b CreateTag e = record {
    held = held_from (λ p. names start p.tag ≡ true → h k p ≡ true) st.held (all_over (next_tag u st)) b.held (next_may u st of);
    reads = b.reads;
    writes = b.writes;
    handles = b.handles;
  }
  kept_changed u of st ds given b (DropEvent n) e = handles_are st _ b (close_one Has st.handles n b.handles)
  kept_changed u of st ds given b (Subscribe filter) e = record { held = b.held; reads = b.reads; writes = b.writes; handles = b.handles }
  kept_changed u of st ds given b (SubscribeManaged filter) e = record { held = b.held; reads = b.reads; writes = b.writes; handles = b.handles }
  kept_changed u of st ds given b Get e = go (is_accepted (reply u st ds Get)) ds given
    where
      go : (a : Bool) (ds : List Given) → Each (λ d. Each (IsBacked start h) d.parts) ds → Mine (taken_in (cond a (first_given ds) Effect.Nothing) st)
      go true [] given = b
      go true (d ∷ ds) given = given_view st d b given.0
      go false ds given = b
  kept_changed u of st ds given b (Publish n) e = handles_are st _ b (close_one Has st.handles n b.handles)
  kept_changed u of st ds given b (Release n) e = handles_are st _ b (close_one Has st.handles n b.handles)
  kept_changed u of st ds given b (ChangeInOut half act tag) e =
      let held : holds st.held (needed act tag) ≡ true = held_where_plain (is_instance u) (holds st.held (needed act tag)) (needed act tag) e in
      record { held = b.held; reads = reads_changed st half act tag b held; writes = writes_changed st half act tag b held; handles = b.handles }
  kept_changed u of st ds given b (Instantiate s privileges) e = record { held = b.held; reads = b.reads; writes = b.writes; handles = b.handles }

  -- a call, with its answer
  pub kept_after : (u : UnitName) → begins_with k (path_of u) ≡ true → (st : OwnState) (ds : List Given) → Each (λ d. Each (IsBacked start h) d.parts) ds → Mine st → (c : Call) → Mine (after u st c (reply u st ds c) (effect u st ds c))
  kept_after u of st ds given b c = if_accepted Mine (is_accepted (reply u st ds c)) (changed u st c (effect u st ds c)) st (kept_changed u of st ds given b c) b

  -- what a unit commits is backed

  backed : (part : Part) → Wrote part → IsBacked start h part
  backed part w = record { by = k; root = root; is_root = is_root; written = w }

  -- the parts that an effect adds to an event are backed
  abbrev pub AddsBacked : Effect → Type 0
  AddsBacked Effect.Nothing = ⊤
  AddsBacked (Effect.Given d) = ⊤
  AddsBacked (Effect.Commit c) = Each (IsBacked start h) c.edit.1

  adds_backed : (out : Label) (d : Handle) → Has d → Each (IsBacked start h) (relabelled out d.drafted)
  adds_backed out d has = each_weaker Wrote (IsBacked start h) backed (relabelled out d.drafted) (relabelled_mine out d.drafted has.drafted)

  published_backed : (st : OwnState) (o : Option Handle) → IfOpen Has o → AddsBacked (published st o)
  published_backed st None has = tt
  published_backed st (Some d) has = adds_backed st.output d has

  released_backed : (st : OwnState) (o : Option Handle) → IfOpen Has o → AddsBacked (released st o)
  released_backed st None has = tt
  released_backed st (Some d) has = go (is_nil d.named && is_nil d.drafted)
    where
      go : (b : Bool) → AddsBacked (cond b Effect.Nothing (Effect.Commit (record { event = d.event; edit = (d.named, relabelled st.output d.drafted) })))
      go true = tt
      go false = adds_backed st.output d has

  either_backed : (b : Bool) (f : Effect) → AddsBacked f → AddsBacked (cond b f Effect.Nothing)
  either_backed true f h = h
  either_backed false f h = tt

  pub effect_backed : (u : UnitName) (st : OwnState) (ds : List Given) → Mine st → (c : Call) → AddsBacked (effect u st ds c)
  effect_backed u st ds b Get = go (is_accepted (reply u st ds Get)) ds
    where
      go : (a : Bool) (ds : List Given) → AddsBacked (cond a (first_given ds) Effect.Nothing)
      go true [] = tt
      go true (d ∷ ds) = tt
      go false ds = tt
  effect_backed u st ds b (Publish n) = either_backed (is_accepted (reply u st ds (Publish n))) (published st (handle_at st.handles n)) (published_backed st (handle_at st.handles n) (open_at Has st.handles n b.handles))
  effect_backed u st ds b (Release n) = either_backed (is_accepted (reply u st ds (Release n))) (released st (handle_at st.handles n)) (released_backed st (handle_at st.handles n) (open_at Has st.handles n b.handles))
  effect_backed u st ds b _ = tt

  -- what begins

  pub root_bound : Mine (root_of root)
  root_bound = record {
    held = λ p m named. closed.given k root p is_root m;
    reads = λ t m. inl m;
    writes = λ t named m. or_left (contains root.0.i t) (h k (needed Add t)) m;
    handles = tt;
  }

  pub fixed_bound : (st : OwnState) (filter : List Clause) → Mine st → IsFixedBound start h k root.0 (fixed_of st filter)
  fixed_bound st filter b = record { held = b.held; reads = b.reads; writes = met_right st.input.i st.output.i b.writes }

  pub begin_bound : (f : Fixed) (t : List (List ℕ)) → IsFixedBound start h k root.0 f → Mine (begin f t)
  begin_bound f t b = record { held = b.held; reads = b.reads; writes = b.writes; handles = tt }

  -- a child is given what its maker may attach
  all_held : (held ps : List Privilege) (p : Privilege) → list_all (holds held) (map needed_to_attach ps) ≡ true → contains_privilege ps p ≡ true → holds held (needed_to_attach p) ≡ true
  all_held held [] p all m = absurd (let z : ⊥ = cc in z)
  all_held held (q ∷ qs) p all m =
      let both = and_parts (holds held (needed_to_attach q)) (list_all (holds held) (map needed_to_attach qs)) all in
      elim (or_cases (privilege_eq q p) (contains_privilege qs p) m) [
        | inl e ↦ subst (λ (x : Privilege). holds held (needed_to_attach x) ≡ true) (is_one q p e) both.0
        | inr k ↦ all_held held qs p both.1 k
      ]

  none_lacks : (b : Bool) (o : Option Privilege) → is_some o ≡ not b → o ≡ None → b ≡ true
  none_lacks true o e n = refl
  none_lacks false o e n = absurd (let z : ⊥ = cc in z)

  no_authority_lacks : (x y : Option Privilege) (n m : ℕ) → unless_lacking (option_or x y) (Reply.Unit n) ≡ Reply.Unit m → y ≡ None
  no_authority_lacks None None n m e = refl
  no_authority_lacks None (Some q) n m e = absurd (let z : ⊥ = cc in z)
  no_authority_lacks (Some q) y n m e = absurd (let z : ⊥ = cc in z)

  may_make : (u : UnitName) (st : OwnState) (ds : List Given) (s : List (List ℕ)) (ps : List Privilege) (m : ℕ) → reply u st ds (Instantiate s ps) ≡ Reply.Unit m → lacking_authority st ps ≡ None
  may_make u st ds s ps m e = instance (is_instance u) e
    where
      units : (b : Bool) → cond b Reply.TooManyUnits (unless_lacking (option_or (lacking_tag st s) (lacking_authority st ps)) (Reply.Unit st.units)) ≡ Reply.Unit m → lacking_authority st ps ≡ None
      units true e = absurd (let z : ⊥ = cc in z)
      units false e = no_authority_lacks (lacking_tag st s) (lacking_authority st ps) st.units m e

      deep : (b : Bool) → cond b Reply.TooDeep (cond (nat_le most_units st.units) Reply.TooManyUnits (unless_lacking (option_or (lacking_tag st s) (lacking_authority st ps)) (Reply.Unit st.units))) ≡ Reply.Unit m → lacking_authority st ps ≡ None
      deep true e = absurd (let z : ⊥ = cc in z)
      deep false e = units (nat_le most_units st.units) e

      instance : (b : Bool) → cond b Reply.NotInManaged (cond (nat_le most_path (length (path_of u))) Reply.TooDeep (cond (nat_le most_units st.units) Reply.TooManyUnits (unless_lacking (option_or (lacking_tag st s) (lacking_authority st ps)) (Reply.Unit st.units)))) ≡ Reply.Unit m → lacking_authority st ps ≡ None
      instance true e = absurd (let z : ⊥ = cc in z)
      instance false e = deep (nat_le most_path (length (path_of u))) e

  own_reach : can_reach h k root.0 k root.0 ≡ true
  own_reach = reached h k root.0 k root.0 (λ t m. inl (or_left (contains root.0.i t) (h k (needed Add t)) m))

  pub child_bound : (u : UnitName) (st : OwnState) (ds : List Given) (s : List (List ℕ)) (ps : List Privilege) (m : ℕ) → Mine st → reply u st ds (Instantiate s ps) ≡ Reply.Unit m → Mine (child st s ps)
  child_bound u st ds s ps m b e = record {
    held = λ p inside named. closed.passed k k root root p is_root is_root named
        (b.held (needed_to_attach p) (all_held st.held ps p (none_lacks (list_all (holds st.held) (map needed_to_attach ps)) (lacking_authority st ps) (is_some-find_not (holds st.held) (map needed_to_attach ps)) (may_make u st ds s ps m e)) inside) named)
        own_reach;
    reads = b.reads;
    writes = met_right st.input.i st.output.i b.writes;
    handles = tt;
  }
