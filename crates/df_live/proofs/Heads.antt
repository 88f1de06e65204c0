-- The lines of a start that were taken.
use Rattle.df_live.proofs.Names.{◌≡◌, ℕ, ◌+◌, ◌≤◌, List, [], ◌∷◌, ◌++◌, length, Option, Some, None, refl, sym, ap, subst, ◌∙◌, arith, append-nil, length-append, zero-add, inl, inr, Consumes, flat_map-append, All-push, AreRoots, IsRoot, root_text, ended, lines_text, BadKind, head_lines, IsHeadLine, RootStart, IsBadHead, IsLineDue, IsReading, StopsHead, StopsLine, TakesRoot, TakesStart, LiveStatus}
use Rattle.df_script_text.proofs.Numbered.{numbered-push}
use Rattle.df_live.proofs.Parts.{consumes-consumes}
use Rattle.df_live.proofs.Starts.{due_first, due_root, first, head_is, start_lines}
use Rattle.df_live.proofs.Taking.{ended_part}
use Rattle.df_live.specs.declared.status.LiveStatus.TheVariants as status

-- a run that stops at a line stops while it reads
reading : (IsBad : List ℕ → BadKind → Type 0) (n : ℕ) (left : Option (List ℕ)) (f f' : ℕ) (s : LiveStatus) → IsLineDue IsBad n left f f' s → IsReading s
reading IsBad n left f f' (status.BadInput m kind) d = tt
reading IsBad n left f f' status.ReadFault d = tt
reading IsBad n left f f' status.TooLong d = tt
reading IsBad n left f f' status.NoMemory d = tt
reading IsBad n left f f' status.Done d = absurd d
reading IsBad n left f f' status.Usage d = absurd d
reading IsBad n left f f' status.WriteFault d = absurd d

-- a run stops at the first line
pub stops_first : (left after : Option (List ℕ)) (f f' : ℕ) (s : LiveStatus) → StopsLine (IsBadHead (λ l. l ≡ first)) 1 left after f f' s
    → StopsHead left after f f' s
stops_first left after f f' s stop = record {
  lines = [];
  part = stop.part;
  taken = stop.taken;
  of_one = stop.of_one;
  begins = inl refl;
  reading = reading (IsBadHead (λ l. l ≡ first)) 1 left f f' s stop.due;
  due = λ w w'. due_first left f f' w w' s stop.due;
}

-- or behind the lines of roots
pub stops_root : (left mid after : Option (List ℕ)) (roots : List RootStart) (n f0 f f' : ℕ) (s : LiveStatus) → AreRoots roots
    → Consumes left mid (lines_text (head_lines roots)) → n ≡ length roots → f0 ≤ f
    → StopsLine (IsBadHead (IsHeadLine n)) (n + 2) mid after f f' s → StopsHead left after f0 f' s
stops_root left mid after roots n f0 f f' s fit k count up stop = record {
  lines = lines_text (head_lines roots);
  part = stop.part;
  taken = consumes-consumes left mid after (lines_text (head_lines roots)) stop.part k stop.taken;
  of_one = stop.of_one;
  begins = inr (roots, fit, head_is roots);
  reading = reading (IsBadHead (IsHeadLine n)) (n + 2) mid f f' s stop.due;
  due = λ w w'. due_root left mid roots n f0 f f' w w' s fit k count up stop.due;
}

-- or where there is no memory for a root
pub stops_kept : (left mid after : Option (List ℕ)) (roots : List RootStart) (root : RootStart) (n f f' : ℕ) → AreRoots roots
    → Consumes left mid (lines_text (head_lines roots)) → TakesRoot n mid after (Some root)
    → StopsHead left after f f' status.NoMemory
stops_kept left mid after roots root n f f' fit k t = record {
  lines = lines_text (head_lines roots);
  part = ended (root_text n root);
  taken = consumes-consumes left mid after (lines_text (head_lines roots)) (ended (root_text n root)) k t.3;
  of_one = ended_part (root_text n root) t.2;
  begins = inr (roots, fit, head_is roots);
  reading = tt;
  due = λ w w'. tt;
}

-- the lines of one more root
lines_more : (roots : List RootStart) (root : RootStart) (n : ℕ) → n ≡ length roots
    → lines_text (head_lines (roots ++ root ∷ [])) ≡ lines_text (head_lines roots) ++ ended (root_text n root)
lines_more roots root n is =
    ap (λ (m : List (List ℕ)). lines_text (first ∷ m)) (numbered-push root_text 0 roots root)
    ∙ flat_map-append ended (head_lines roots) (root_text (0 + length roots) root ∷ [])
    ∙ ap (λ (u : List ℕ). lines_text (head_lines roots) ++ u)
    (append-nil (ended (root_text (0 + length roots) root)) ∙ ap (λ (k : ℕ). ended (root_text k root)) (zero-add (length roots) ∙ sym is))

-- one more root was taken
pub takes_more : (left mid after : Option (List ℕ)) (roots more : List RootStart) (root : RootStart) (n : ℕ) → AreRoots roots
    → Consumes left mid (lines_text (head_lines roots)) → n ≡ length roots → TakesRoot n mid after (Some root) → more ≡ roots ++ root ∷ []
    → AreRoots more × Consumes left after (lines_text (head_lines more))
takes_more left mid after roots more root n fit k count t is =
    subst (λ (rs : List RootStart). AreRoots rs × Consumes left after (lines_text (head_lines rs))) (sym is) (
      (omega (arith, count, t.0, length-append roots (root ∷ [])), All-push IsRoot roots root fit.1 t.1),
      subst (λ (u : List ℕ). Consumes left after u) (sym (lines_more roots root n count))
          (consumes-consumes left mid after (lines_text (head_lines roots)) (ended (root_text n root)) k t.3),
    )

-- the line `run` was taken
pub takes_start : (left mid after : Option (List ℕ)) (roots : List RootStart) (n : ℕ) → AreRoots roots → Consumes left mid (lines_text (head_lines roots))
    → TakesRoot n mid after None → TakesStart left after roots
takes_start left mid after roots n fit k t =
    (fit, subst (λ (u : List ℕ). Consumes left after u) (sym (start_lines roots)) (consumes-consumes left mid after (lines_text (head_lines roots)) _ k t))
