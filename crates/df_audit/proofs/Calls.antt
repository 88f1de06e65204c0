-- Entries of calls that are made and spelled.
use Rattle.df_audit.proofs.Names.{◌≡◌, ℕ, ◌+◌, ◌<◌, ◌^◌, Bool, true, false, List, [], ◌∷◌, ◌++◌, Option, None, IfSome, codes, length, take, drop, refl, ap, sym, subst, ◌∙◌, arith, append-nil, length-append, flat_map, drop-append-le, drop_all, take-append-le, take_all, Label, State, answer_in, contamination_in, firsts, AgreesWith, IsStep, Stays, place_in, Tables, past_of, rows, RootStart, Call, Effect, Done, Noted, Reply, effect_text, entry_text, note_text, noted_text, reads_text, CursorState, HasPassed, Enters, EntersNoted, MakesCall, AppendsCall, Keeps, label_in, left_in, noted_call, shown_by, stays_in, IsSoFar, PassesOne, TakesOne, wanted_of, Wanted}
use Rattle.df_purge.specs.code.Left.{emitted_noted}
use Rattle.df_rules.specs.Commits.{commit_in, commit_of}
use Rattle.df_unit.specs.declared.commit.Commit.{Commit}
use Rattle.df_unit.specs.declared.name.UnitName.{UnitName}
use Rattle.df_value_text.specs.Fits.{IsLabel}
use Rattle.df_journal_text.specs.Call.{call_words}
use Rattle.df_journal_text.specs.Fits.{IsCall, IsUnit}
use Rattle.df_journal_text.specs.Line.{line, spaced}
use Rattle.df_journal_text.specs.Name.{unit_text}
use Rattle.df_journal_text.specs.Reply.{reply_words}
use Rattle.df_journal_file.specs.code.Entries.{IsWholeBy}
use Rattle.df_spelled.proofs.Rows.{answered_whole}
use Rattle.df_audit.specs.declared.pass.Wanted.TheVariants as wanted
use Rattle.df_audit.proofs.Passes.{one_fits, passes_one, so_far_more}

-- a step was made, and the lines of its entry were appended
pub makes_call : (core : State) (actor : UnitName) (call : Call) (note : Option Label) (Heard : Reply × Effect → Type 0) (tables : Tables)
    (before now : List ℕ) (answer : Reply × Effect) → IsStep core actor call answer tables → Heard answer
    → now ≡ before ++ entry_text note (Done actor call answer.0 answer.1) → MakesCall core actor call note Heard tables before now
makes_call core actor call note Heard tables before now answer step heard spelled =
    let told = sym step.answer in
    record {
      made = step.entry;
      heard = subst Heard told heard;
      text = spelled ∙ ap (λ (a : Reply × Effect). before ++ entry_text note (Done actor call a.0 a.1)) told;
    }

module _ {old new : Tables} {place : Option ℕ} {words before now : List ℕ} {call : Call} {note : Option Label} {Heard : Reply × Effect → Type 0} where
  -- where rows stand as they stood
  pub enters_again : {again : Tables} → Stays again old
      → Enters place words call note Heard old new before now → Enters place words call note Heard again new before now
  enters_again left enters core actor agrees seated words = enters core actor (left.agrees core agrees) (seated ∙ sym (left.places actor)) words

  -- where the note is the contamination of the unit before its call
  pub enters_noted : ((core : State) (actor : UnitName) → AgreesWith core old → place ≡ place_in old actor → note ≡ contamination_in core actor)
      → Enters place words call note Heard old new before now → EntersNoted place words call Heard old new before now
  enters_noted is enters core actor agrees seated words =
      subst (λ (n : Option Label). MakesCall core actor call n Heard new before now) (is core actor agrees seated) (enters core actor agrees seated words)

-- a call that was read was made
pub appends_call : (core : State) (actor : UnitName) (call : Call) (label : Option Label) (shown : Option Commit) (tables : Tables) (before now : List ℕ)
    → IsUnit actor × IsCall call → IfSome (contamination_in core actor) IsLabel
    → MakesCall core actor call (contamination_in core actor) (Keeps label shown) tables before now
    → AppendsCall core actor call label shown tables before now
appends_call core actor call label shown tables before now fits noted makes =
    record {
      made = makes.made;
      whole = answered_whole (firsts core.0) core.1 actor call fits makes.heard.0 makes.heard.1 noted;
      shows = makes.heard.2;
      text = makes.text;
    }

-- an entry's lines are some
some_line : (first : List ℕ) (words : List (List ℕ)) (note reads effect : List ℕ) → 0 < length (line first words ++ note ++ reads ++ effect)
some_line first words note reads effect =
    let lines = line first words in
    omega (
      arith,
      length-append (first ++ spaced words) (10 ∷ []),
      length-append lines note,
      length-append (lines ++ note) reads,
      length-append (lines ++ note ++ reads) effect,
    )

-- what stands behind a text, and the text
behind_text : (text lines : List ℕ) → drop (length text) (text ++ lines) ≡ lines
behind_text text lines = drop-append-le (length text) text lines (omega arith) ∙ ap (λ (u : List ℕ). u ++ lines) (drop_all (length text) text (omega arith))

up_to_text : (text lines : List ℕ) → take (length text) (text ++ lines) ≡ text
up_to_text text lines = take-append-le (length text) text lines (omega arith) ∙ take_all (length text) text (omega arith)

-- what is wanted of an entry, where it is wanted whole
whole_wanted : (w : Wanted) (n : Noted) → stays_in w n.contamination ≡ true → wanted_of w n ≡ n ∷ []
whole_wanted wanted.Count n stays = absurd (let no : false ≡ true = stays in cc)
whole_wanted wanted.Notes n stays = refl
whole_wanted (wanted.Purge label) n stays = rw stays refl

-- and where it isn't
left_wanted : (w : Wanted) (n : Noted) → stays_in w n.contamination ≡ false → wanted_of w n ≡ left_in w (commit_of n.entry)
left_wanted wanted.Count n stays = refl
left_wanted wanted.Notes n stays = absurd (let no : true ≡ false = stays in cc)
left_wanted (wanted.Purge label) n stays = rw stays refl

-- the text that is wanted, by whether the entry stays
wanted_lines : (w : Wanted) (n : Noted) (text spelled now : List ℕ) → spelled ≡ text ++ noted_text n → (stays : Bool) → stays ≡ stays_in w n.contamination
    → (stays ≡ true → now ≡ spelled) → (stays ≡ false → now ≡ take (length text) spelled ++ flat_map noted_text (left_in w (commit_of n.entry)))
    → now ≡ text ++ flat_map noted_text (wanted_of w n)
wanted_lines w n text spelled now is true stays whole left =
    whole refl
    ∙ is
    ∙ ap (λ (u : List ℕ). text ++ u) (sym (append-nil (noted_text n)))
    ∙ ap (λ (ns : List Noted). text ++ flat_map noted_text ns) (sym (whole_wanted w n (sym stays)))
wanted_lines w n text spelled now is false stays whole left =
    let rest = flat_map noted_text (left_in w (commit_of n.entry)) in
    left refl
    ∙ ap (λ (u : List ℕ). take (length text) u ++ rest) is
    ∙ ap (λ (u : List ℕ). u ++ rest) (up_to_text text (noted_text n))
    ∙ ap (λ (ns : List Noted). text ++ flat_map noted_text ns) (sym (left_wanted w n (sym stays)))

module _ (w : Wanted) (roots : List RootStart) (bytes : List ℕ) (read : List Noted) (old new : CursorState) (before after : Tables) (count : ℕ)
    (text spelled lines : List ℕ) (place : ℕ) (actor : UnitName) (call : Call) (label : Option Label)
    (shown : Option Commit) (so : IsSoFar w roots bytes read old before count text)
    (appends : AppendsCall (roots, past_of read) actor call label shown after text spelled)
    (begins : place ≡ length text) (are : lines ≡ drop place spelled)
    (has : old.has_notes ≡ true)
    (passes : (roots : List RootStart) (notes : List Noted) (noted : Noted) → HasPassed roots notes old → IsWholeBy old.has_notes noted
    → lines ≡ noted_text noted → HasPassed roots (notes ++ noted ∷ []) new)
    (further : new.place ≡ old.place + length lines) (same : new.bytes ≡ old.bytes) (version : new.has_notes ≡ old.has_notes) where
  abbrev given : Noted
  given = noted_call (roots, past_of read) actor call

  spelled_so : lines ≡ noted_text given
  spelled_so =
      are
      ∙ ap (λ (at : ℕ). drop at spelled) begins
      ∙ ap (drop (length text)) appends.text
      ∙ behind_text text (noted_text given)

  abbrev told : Reply × Effect
  told = answer_in (roots, past_of read) actor call

  onward : old.place < new.place
  onward =
      let words = call_words call ++ codes "->" ∷ reply_words told.0 in
      let some : 0 < length (noted_text given) =
      some_line (unit_text actor) words (note_text given.contamination) (reads_text told.0) (effect_text told.1) in
      let size : length lines ≡ length (noted_text given) = ap length spelled_so in
      omega (arith, further, some, size)

  call_passes : PassesOne roots read given old new after
  call_passes =
      let whole = subst (λ (b : Bool). IsWholeBy b given) (sym has) appends.whole in
      passes_one roots read given old new before after so.come given given.contamination (passes roots read given so.come.passed whole spelled_so)
      appends.made refl refl refl (λ _. refl) version onward same

  pub call_fits : count + 1 < 2 ^ 64
  call_fits = one_fits w roots bytes read old before count text so given new after call_passes

  pub takes_call : (now : List ℕ) (stays : Bool) → stays ≡ stays_in w (contamination_in (roots, past_of read) actor)
      → (stays ≡ false → label ≡ label_in w) → (stays ≡ true → now ≡ spelled)
      → (stays ≡ false → now ≡ take place spelled ++ flat_map noted_text (emitted_noted shown))
      → TakesOne w roots bytes read old None new after (count + 1) now
  takes_call now stays is sees whole left =
      let left_so = λ (gone : stays ≡ false).
      left gone
      ∙ ap (λ (at : ℕ). take at spelled ++ flat_map noted_text (emitted_noted shown)) begins
      ∙ ap (λ (c : Option Commit). take (length text) spelled ++ flat_map noted_text (emitted_noted c)) appends.shows
      ∙ ap (λ (l : Option Label). take (length text) spelled ++ flat_map noted_text (emitted_noted (shown_by l (commit_in told.1)))) (sees gone) in
      let written = wanted_lines w given text spelled now appends.text stays is whole left_so in
      (onward, (call_passes.kept, so_far_more w roots bytes read old before count text so given new after (count + 1) now call_passes refl written))
