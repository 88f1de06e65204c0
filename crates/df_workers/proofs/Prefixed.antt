-- Who was served between two journals was served between longer ones.
use Rattle.df_workers.proofs.Names.{inl, inr, ◌≤◌, List, ◌++◌, sym, ◌∙◌, ap, length, arith, append_assoc, length-append, IsPrefix, entry_before, entry_behind, Origin, prefix_trans, Brain, Entry, UnitName, HasMoved, IsServed}

module _ (u : UnitName) where
  pub moved_before : (a b c : List Entry) → IsPrefix a b → HasMoved u b c → HasMoved u a c
  moved_before a b c p m = record {
    rest = p.0 ++ m.rest;
    journal = sym (append_assoc a p.0 m.rest) ∙ ap (λ (w : List Entry). w ++ m.rest) p.1 ∙ m.journal;
    moved = entry_before u p.0 m.rest m.moved;
  }

  pub moved_behind : (a b c : List Entry) → HasMoved u a b → IsPrefix b c → HasMoved u a c
  moved_behind a b c m p = record {
    rest = m.rest ++ p.0;
    journal = sym (append_assoc a m.rest p.0) ∙ ap (λ (w : List Entry). w ++ p.0) m.journal ∙ p.1;
    moved = entry_behind u m.rest p.0 m.moved;
  }

pub prefix_length : (a b : List Entry) → IsPrefix a b → length a ≤ length b
prefix_length a b p = let k = length-append a p.0 in let e = ap (λ (w : List Entry). length w) p.1 in omega (arith, k, e)

module _ {B : Type 0} (brain : Brain B) (o : Origin B) (u : UnitName) where
  pub served_before : (a b c : List Entry) → IsPrefix a b → IsServed brain o u b c → IsServed brain o u a c
  served_before a b c p (inl m) = inl (moved_before u a b c p m)
  served_before a b c p (inr r) = inr (record { journal = r.journal; from = prefix_trans a b r.journal p r.from; to = r.to; resting = r.resting })

  pub served_behind : (a b c : List Entry) → IsServed brain o u a b → IsPrefix b c → IsServed brain o u a c
  served_behind a b c (inl m) p = inl (moved_behind u a b c m p)
  served_behind a b c (inr r) p = inr (record { journal = r.journal; from = r.from; to = prefix_trans r.journal b c r.to p; resting = r.resting })
