-- What a unit with these labels and privileges gives to a unit that it makes, and what it lacks.
use Rattle.std.specs.Prelude.{◌≡◌, ℕ, Bool, not, ◌||◌, ⊤, List, map, Option, Some}
use Rattle.std.specs.List.{find}
use Rattle.std.specs.Option.{option_map, option_or}
use Rattle.df_label.specs.TagSet.{contains, meet, union}
use Rattle.df_label.specs.declared.label.Label.{Label}
use Rattle.df_label.specs.declared.privilege.Privilege.{Privilege}
use Rattle.df_priv.specs.Held.{holds}
use Rattle.df_priv.specs.Needed.{needed, needed_to_attach}
use Rattle.df_priv.specs.declared.need.Act.TheVariants.{Add}
use Rattle.df_spawn.specs.declared.child.SpawnRefused.{SpawnRefused}
use Rattle.df_spawn.specs.declared.child.SpawnRefused.TheVariants.{Lacks, NoMemory}

-- whether the tag is in the confidentiality of one of the maker's labels, or may be added to it
abbrev pub has_or_may_add : Label → Label → List Privilege → List ℕ → Bool
has_or_may_add input output held t =
    contains input.s t || (contains output.s t || holds held (needed Add t))

-- the plus over the least tag of s that the maker neither has nor may add
abbrev pub lacking_tag : Label → Label → List Privilege → List (List ℕ) → Option Privilege
lacking_tag input output held s =
    option_map (needed Add) (find (λ t. not (has_or_may_add input output held t)) s)

-- the authority over the first of the privileges that the maker may not pass on
abbrev pub lacking_authority : List Privilege → List Privilege → Option Privilege
lacking_authority held privileges =
    find (λ q. not (holds held q)) (map needed_to_attach privileges)

-- the first privilege that the maker lacks for a unit with s and these privileges: tags first
abbrev pub lacking : Label → Label → List Privilege → List (List ℕ) → List Privilege →
    Option Privilege
lacking input output held s privileges =
    option_or (lacking_tag input output held s) (lacking_authority held privileges)

-- the confidentiality of a unit that is made with s: both labels' of its maker stick to it
abbrev pub secrets : Label → Label → List (List ℕ) → List (List ℕ)
secrets input output s = union (union s input.s) output.s

-- the input label has the integrity of the maker's
abbrev pub input_label : Label → Label → List (List ℕ) → Label
input_label input output s = record { s = secrets input output s; i = input.i }

-- the output label has the integrity that both of the maker's labels have
abbrev pub output_label : Label → Label → List (List ℕ) → Label
output_label input output s = record { s = secrets input output s; i = meet input.i output.i }

-- the refusal names what lacks; want of memory says nothing of it
abbrev pub Names : Option Privilege → SpawnRefused → Type 0
Names lacking (Lacks q) = lacking ≡ Some q
Names lacking NoMemory = ⊤
