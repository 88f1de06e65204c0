-- What a read brings to its unit.
use Rattle.df_local.proofs.Names.{◌≡◌, ℕ, true, List, [], ◌∷◌, ◌++◌, Option, None, Some, refl, sym, ap, ◌∙◌, OwnState, after, at_handle, changed, found, is_accepted, is_nil, reply, Effect, Reply, brought, holding, privileges_of}
use Rattle.std.specs.Prelude.{if◌then◌else◌}
use Rattle.std.specs.List.{flat_map}
use Rattle.df_part.specs.declared.part.Part.{Part}
use Rattle.df_unit.specs.Drafts.{shown, visible_named}
use Rattle.df_unit.specs.Handles.{handle_at}
use Rattle.df_unit.specs.declared.call.Call.TheVariants.{ReadPart}
use Rattle.df_unit.specs.declared.commit.Given.{Given}
use Rattle.df_unit.specs.declared.handle.Handle.{Handle}
use Rattle.df_unit.specs.declared.name.UnitName.{UnitName}

-- what is shown of parts has their privileges
brought_shown : (parts : List Part) → privileges_of (shown parts) ≡ flat_map (λ part. part.privileges) parts
brought_shown [] = refl
brought_shown (part ∷ parts) = ap (λ l. part.privileges ++ l) (brought_shown parts)

brought_some : (parts : List Part) → is_accepted (if is_nil parts then Reply.NoSuchPart else Reply.Parts (shown parts)) ≡ true → brought (if is_nil parts then Reply.NoSuchPart else Reply.Parts (shown parts)) ≡ flat_map (λ part. part.privileges) parts
brought_some [] h = absurd (cc)
brought_some (part ∷ parts) h = brought_shown (part ∷ parts)

brought_at : (st : OwnState) (name : List ℕ) (o : Option Handle) → let r = at_handle o (λ d. if is_nil (visible_named st.input name d) then Reply.NoSuchPart else Reply.Parts (shown (visible_named st.input name d))) in
    is_accepted r ≡ true → brought r ≡ found st.input name o
brought_at st name None h = absurd (cc)
brought_at st name (Some d) h = brought_some (visible_named st.input name d) h

-- a read's reply brings the privileges of the parts that it finds
brought_found : (unit : UnitName) (st : OwnState) (left : List Given) (h : ℕ) (name : List ℕ) (r : Reply) → r ≡ reply unit st left (ReadPart h name) → is_accepted r ≡ true → brought r ≡ found st.input name (handle_at st.handles h)
brought_found unit st left h name r e ok =
    ap brought e ∙ brought_at st name (handle_at st.handles h) (ap is_accepted (sym e) ∙ ok)

-- so the unit that holds what a read's reply brings is as the read leaves it
pub read_held : (unit : UnitName) (st : OwnState) (left : List Given) (f : Effect) (h : ℕ) (name : List ℕ) (r : Reply) → r ≡ reply unit st left (ReadPart h name) → is_accepted r ≡ true → holding (brought r) st ≡ after unit st (ReadPart h name) r f
read_held unit st left f h name r e ok =
    ap (λ ps. holding ps st) (brought_found unit st left h name r e ok) ∙ sym (ap (λ b. if b then changed unit st (ReadPart h name) f else st) ok)
