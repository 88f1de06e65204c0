-- The status of a run that writes nothing.
use Rattle.df_run.proofs.Names.{◌≡◌, ◌⊎◌, ℕ, List, Option, ap, inl, inr, refl, Stops, BlamesFile, DoesInput, IfAllTold, IsCutOff, IsHindered, IsOfACommand, IsOutcome, IsToldBad, IsToldLong, NoPlaceIsDue, NoPlaceIsExact, OfTold, Reaches, UnsettledIsDue, UnsettledIsExact, Writes, WrongIsDue, WrongIsExact, IsCutInput, IsNoPlaceInput, IsRightInput, IsWrongInput, BadKind, Status, Command}
use Rattle.df_run.specs.declared.status.Status.TheVariants as status
use Rattle.df_run.specs.declared.tasks.End.TheVariants as end
use Rattle.df_run.proofs.Inputs.{ends_inputs, must_may}
use Rattle.df_run.proofs.Reaching.{AreInputs, ReadBad, ReadLong, ToldBad, ToldLong, bad_or_long, if_all_told-all, if_all_told-map, long_or_bad, one_stop, read_bad, read_long, stopped_is_bad, told_bad, told_long}

module _ (c : Command) (files : List (Option (List ℕ))) (before now : ℕ) where
  abbrev Stopped : Status → Type 0
  Stopped s = Stops c files before now s

  -- a run stops for a fault, for want of memory, at a bad file or at one that is too long
  each_stop : (P : Status → Type 0) → P status.ReadFault → P status.NoMemory
      → ((i line : ℕ) (kind : BadKind) → Stopped (status.BadInput i line kind) → P (status.BadInput i line kind))
      → ((i : ℕ) → Stopped (status.TooLong i) → P (status.TooLong i)) → (s : Status) → Stopped s → P s
  each_stop P fault memory bad long status.ReadFault stops = fault
  each_stop P fault memory bad long status.NoMemory stops = memory
  each_stop P fault memory bad long (status.BadInput i line kind) stops = bad i line kind stops
  each_stop P fault memory bad long (status.TooLong i) stops = long i stops
  each_stop P fault memory bad long status.Done stops = absurd stops.stop
  each_stop P fault memory bad long status.Usage stops = absurd stops.stop
  each_stop P fault memory bad long (status.Wrong place) stops = absurd stops.stop
  each_stop P fault memory bad long status.WriteFault stops = absurd stops.stop
  each_stop P fault memory bad long (status.Unsettled steps) stops = absurd stops.stop
  each_stop P fault memory bad long (status.NoPlace count) stops = absurd stops.stop

  -- a file that is told to be bad is blamed
  blamed : (s : Status) → Stopped s → (input : ℕ) → IsToldBad c files input → BlamesFile s input ⊎ IsCutOff s
  blamed = each_stop (λ s. (input : ℕ) → IsToldBad c files input → BlamesFile s input ⊎ IsCutOff s)
      (λ input bad. inr (inl refl)) (λ input bad. inr (inr refl))
      (λ i line kind stops input bad. inl
      (one_stop c (ReadBad c line kind) (read_bad c line kind) (ToldBad c) (told_bad c) 1 files i input stops.bad_input bad).0)
      (λ i stops input bad.
      let at = (one_stop c ReadLong (read_long c) (ToldBad c) (told_bad c) 1 files i input stops.too_long bad).1 in
      absurd (long_or_bad c i at.0 at.1 at.2))

  -- a file that is told to be too long is said to be
  long : (s : Status) → Stopped s → (input : ℕ) → Reaches OfTold c 1 files input IsToldLong → (s ≡ status.TooLong input) ⊎ IsCutOff s
  long = each_stop (λ s. (input : ℕ) → Reaches OfTold c 1 files input IsToldLong → (s ≡ status.TooLong input) ⊎ IsCutOff s)
      (λ input bad. inr (inl refl)) (λ input bad. inr (inr refl))
      (λ i line kind stops input bad.
      let at = (one_stop c (ReadBad c line kind) (read_bad c line kind) ToldLong (told_long c) 1 files i input stops.bad_input bad).1 in
      absurd (bad_or_long c line kind i at.0 at.1 at.2))
      (λ i stops input bad. inl
      (ap status.TooLong (one_stop c ReadLong (read_long c) ToldLong (told_long c) 1 files i input stops.too_long bad).0))

  -- files that are what the command reads don't stop it, but for a fault or want of memory
  abbrev MayHinder : Status → List (List ℕ) → Type 0
  MayHinder s read = AreInputs c 1 read → IsHindered s

  not_stopped : (s : Status) → IfAllTold files (λ read. AreInputs c 1 read → ⊥) → IfAllTold files (MayHinder s)
  not_stopped s = if_all_told-map files (λ read. AreInputs c 1 read → ⊥) (MayHinder s) (λ read none inputs. absurd (none inputs))

  hindered : (s : Status) → Stopped s → IfAllTold files (MayHinder s)
  hindered = each_stop (λ s. IfAllTold files (MayHinder s))
      (if_all_told-all files (MayHinder status.ReadFault) (λ read inputs. inr (inl refl)))
      (if_all_told-all files (MayHinder status.NoMemory) (λ read inputs. inr (inr refl)))
      (λ i line kind stops. not_stopped (status.BadInput i line kind)
      (stopped_is_bad c (ReadBad c line kind) (read_bad c line kind) 1 files i stops.bad_input))
      (λ i stops. not_stopped (status.TooLong i) (stopped_is_bad c ReadLong (read_long c) 1 files i stops.too_long))

  wrong_due : (s : Status) → Stopped s → WrongIsDue c files s
  wrong_due = each_stop (λ s. WrongIsDue c files s) tt tt (λ i line kind stops. tt) (λ i stops. tt)

  unsettled_due : (s : Status) → Stopped s → UnsettledIsDue c files s
  unsettled_due = each_stop (λ s. UnsettledIsDue c files s) tt tt (λ i line kind stops. tt) (λ i stops. tt)

  no_place_due : (s : Status) → Stopped s → NoPlaceIsDue c files s
  no_place_due = each_stop (λ s. NoPlaceIsDue c files s) tt tt (λ i line kind stops. tt) (λ i stops. tt)

  stop_asked : (s : Status) → Stopped s → IsOfACommand s
  stop_asked = each_stop IsOfACommand (λ e. cc) (λ e. cc) (λ i line kind stops e. cc) (λ i stops e. cc)

  stop_writes : (w : Option (List ℕ)) (s : Status) → Stopped s → Writes c files w w s
  stop_writes w = each_stop (λ s. Writes c files w w s) refl refl (λ i line kind stops. refl) (λ i stops. refl)

  no_write_fault : (s : Status) → Stopped s → s ≡ status.WriteFault → ⊥
  no_write_fault = each_stop (λ s. s ≡ status.WriteFault → ⊥) (λ e. cc) (λ e. cc) (λ i line kind stops e. cc) (λ i stops e. cc)

  module _ (s : Status) (stops : Stopped s) where
    -- where files are what the command reads, and it would end so, it was hindered
    ends_hindered : (Is : List (List ℕ) → ℕ → Type 0) (end_at : ℕ → Status) → ((read : List (List ℕ)) (n : ℕ) → Is read n → AreInputs c 1 read)
        → IfAllTold files (λ read. (n : ℕ) → Is read n → (s ≡ end_at n) ⊎ IsHindered s)
    ends_hindered Is end_at inputs = if_all_told-map files (MayHinder s) (λ read. (n : ℕ) → Is read n → (s ≡ end_at n) ⊎ IsHindered s)
        (λ read free n is. inr (free (inputs read n is))) (hindered s stops)

    stop_wrong : WrongIsExact c files s
    stop_wrong = (wrong_due s stops, ends_hindered (IsWrongInput c) status.Wrong (λ read place wrong. ends_inputs c read (end.Wrong place) wrong))

    stop_unsettled : UnsettledIsExact c files s
    stop_unsettled = (
      unsettled_due s stops,
      ends_hindered (IsCutInput c) status.Unsettled
          (λ read steps cut. ends_inputs c read (end.Unsettled steps) (must_may c read (end.Unsettled steps) cut)),
    )

    stop_no_place : NoPlaceIsExact c files s
    stop_no_place = (
      no_place_due s stops,
      ends_hindered (IsNoPlaceInput c) status.NoPlace (λ read count lacks. ends_inputs c read (end.NoPlace count) lacks),
    )

    stop_does : DoesInput c files s
    stop_does = if_all_told-map files (MayHinder s) (λ read. IsRightInput c read → (s ≡ status.Done) ⊎ IsHindered s)
        (λ read free right. inr (free (ends_inputs c read end.Done (must_may c read end.Done right)))) (hindered s stops)

    pub stop_outcome : (sink : ℕ) (written : Option (List ℕ)) → IsOutcome c files before now sink sink written written s
    stop_outcome sink written = record {
      asked = stop_asked s stops;
      bad_input = (stops.bad_input, blamed s stops);
      too_long = (stops.too_long, long s stops);
      wrong = stop_wrong;
      unsettled = stop_unsettled;
      no_place = stop_no_place;
      read_fault = stops.read_fault;
      write_fault = λ is. absurd (no_write_fault s stops is);
      writes = stop_writes written s stops;
      does = stop_does;
    }
