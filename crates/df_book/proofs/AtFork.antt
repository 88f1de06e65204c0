-- What is known of a tree's entries once its node is known.
use Rattle.std.proofs.Common.{◌≡◌, ◌<◌, ◌∷◌, ◌++◌, length, sym, ap, ap₂, ◌∙◌, subst, arith, length-append}
use Rattle.std.specs.Prelude.{Option, Some, Result, Ok, Err, IfOk}
use Rattle.std.specs.Arc.{arc_value}
use Rattle.std.specs.declared.cmp.Ordering.{Ordering}
use Rattle.std.specs.declared.sync.Arc.{Arc}
use Rattle.std.specs.declared.alloc.Global.{Global}
use Rattle.df_book.specs.declared.place.Place.{Place}
use Rattle.df_book.specs.declared.tree.Fork.{Fork}
use Rattle.df_book.specs.code.Nodes.{entries_at, entries_of}
use Rattle.df_book.specs.code.Places.{place_cmp}
use Rattle.df_book.specs.code.Trees.{IsByPlace}
use Rattle.df_book.proofs.ByPlace.{Entries, Parted, parted}

-- the entries of a node, in order of their places
pub record AtFork (es : Entries) (f : Fork) : Type 0 where
  pub is : es ≡ f.left ++ f.entry ∷ f.right
  pub by_place : IsByPlace (f.left ++ f.entry ∷ f.right)
  pub parted : Parted f.left f.entry f.right
  pub left_shorter : length f.left < length es
  pub right_shorter : length f.right < length es

pub at_fork : {root : Option (Arc Fork Global)} {a : Arc Fork Global} {es : Entries} (f : Fork) → entries_of root ≡ es → root ≡ Some a → f ≡ arc_value a → IsByPlace es → AtFork es f
at_fork {root} {a} {es} f v i d s =
    let is = sym v ∙ ap entries_of i ∙ ap entries_at (sym d) in
    let t = subst IsByPlace is s in
    record {
      is = is;
      by_place = t;
      parted = parted f.left f.entry f.right t;
      left_shorter = rw is (omega (arith, length-append f.left (f.entry ∷ f.right)));
      right_shorter = rw is (omega (arith, length-append f.left (f.entry ∷ f.right)));
    }

pub becomes : {E : Type 0} {es fs : Entries} (r : Result Entries E) → IfOk r (λ t. t ≡ es) → es ≡ fs → IfOk r (λ t. t ≡ fs)
becomes r h e = subst (λ es. IfOk r (λ t. t ≡ es)) e h

-- how two places compare, where they are read out of a tree
pub compared : {p q : Place} (s t : Place) {o r : Ordering} → o ≡ place_cmp p q → o ≡ r → p ≡ s → q ≡ t → place_cmp s t ≡ r
compared s t c i e f = ap₂ place_cmp (sym e) (sym f) ∙ sym c ∙ i

-- what follows from a result follows where there is one
pub ok_passed : {X E : Type 0} {P Q : X → Type 0} (r : Result X E) → IfOk r P → ((x : X) → P x → Q x) → IfOk r Q
ok_passed (Ok x) h f = f x h
ok_passed (Err e) h f = tt
