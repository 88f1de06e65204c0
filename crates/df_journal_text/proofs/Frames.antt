-- Whole lines: something in front, what may be too large, and something behind it.
use Rattle.df_journal_text.proofs.Names.{◌≡◌, ◌≢◌, ℕ, ◌≤◌, List, [], ◌∷◌, ◌++◌, length, drop, length-drop, Result, Ok, Err, sym, ap, subst, ◌∙◌, arith, append-nil, append_cancel_right, drop_all, Stop, Read, not_both, ok_is, Fails, Gives, Fault, IsNoLine, IsUnspelled, IsWhole, Tells, TellsLine, ended, line_fault, LineFault}
use Rattle.df_journal_text.specs.declared.line_fault.LineFault.TheVariants as fault
use Rattle.df_journal_text.proofs.Stopped.{on_fault}

-- each of the three is spelled and read, and the one before ends where it begins
pub record Frame {F M T : Type 0} (sf : F → List ℕ) (Ff : F → Type 0) (Nf : List ℕ → Type 0) (rf : List ℕ → Read ℕ F) (sm : M → List ℕ) (Fm : M → Type 0)
    (Nm : List ℕ → Type 0) (Lm : List ℕ → Type 0) (rm : List ℕ → Read ℕ M)
    (st : T → List ℕ) (Ft : T → Type 0) (rt : List ℕ → Read ℕ T) : Type 0 where
  pub front_found : (bytes : List ℕ) (x : F) (rest : List ℕ) → rf bytes ≡ Ok (x, rest) → (bytes ≡ sf x ++ rest) × Ff x
  pub front_back : (x : F) (rest : List ℕ) → Ff x → Nf rest → rf (sf x ++ rest) ≡ Ok (x, rest)
  pub front_next : (y : M) (z : T) → Fm y → Ft z → Nf (sm y ++ st z)
  pub front_large : (rest : List ℕ) → Lm rest → Nf rest
  pub middle_back : (y : M) (rest : List ℕ) → Fm y → Nm rest → rm (sm y ++ rest) ≡ Ok (y, rest)
  pub middle_next : (z : T) → Ft z → Nm (st z)
  pub apart : (bytes : List ℕ) (y : M) (rest : List ℕ) → rm bytes ≡ Ok (y, rest) → Fm y → Lm bytes → ⊥
  pub tail_found : (bytes : List ℕ) (z : T) (rest : List ℕ) → rt bytes ≡ Ok (z, rest) → (bytes ≡ st z ++ rest) × Ft z
  pub tail_back : (z : T) → Ft z → rt (st z) ≡ Ok (z, [])

-- each thing of a line is three such things
pub record Parted {F M T W : Type 0} (sf : F → List ℕ) (Ff : F → Type 0) (sm : M → List ℕ) (Fm : M → Type 0) (st : T → List ℕ) (Ft : T → Type 0)
    (text : W → List ℕ) (FW : W → Type 0) (w : W) : Type 0 where
  pub front : F
  pub middle : M
  pub tail : T
  pub front_fits : Ff front
  pub middle_fits : Fm middle
  pub tail_fits : Ft tail
  pub parts : text w ≡ ended (sf front ++ (sm middle ++ st tail))

-- lines that end alike begin alike
pub unended : (line text : List ℕ) → ended line ≡ ended text → line ≡ text
unended line text is = append_cancel_right line text (10 ∷ []) is

something_left : (line : List ℕ) (end : ℕ) → end ≤ length line → end ≢ length line → drop end line ≡ [] → ⊥
something_left line end within short none = absurd (omega (arith, short, ap length none, length-drop end line))

module _ {F M T : Type 0} {sf : F → List ℕ} {Ff : F → Type 0} {Nf : List ℕ → Type 0} {rf : List ℕ → Read ℕ F} {sm : M → List ℕ} {Fm : M → Type 0}
    {Nm : List ℕ → Type 0} {Lm : List ℕ → Type 0} {rm : List ℕ → Read ℕ M}
    {st : T → List ℕ} {Ft : T → Type 0} {rt : List ℕ → Read ℕ T} (k : Frame sf Ff Nf rf sm Fm Nm Lm rm st Ft rt) (line : List ℕ) where
  -- no such line
  abbrev NoFrame : Type 0
  NoFrame = (x : F) (y : M) (z : T) → Ff x → Fm y → Ft z → line ≡ sf x ++ (sm y ++ st z) → ⊥

  abbrev pub IsLargeFrame : List ℕ → Type 0
  IsLargeFrame l = (x : F) × (rest : List ℕ) × Ff x × (l ≡ sf x ++ rest) × Lm rest

  no_front : (stop : Stop ℕ) → rf line ≡ Err stop → NoFrame × ¬ IsLargeFrame line
  no_front stop e = (
    λ x y z fx fy fz is. not_both (x, sm y ++ st z) stop (sym (ap rf is ∙ k.front_back x (sm y ++ st z) fx (k.front_next y z fy fz)) ∙ e),
    λ l. not_both (l.0, l.1) stop (sym (ap rf l.3 ∙ k.front_back l.0 l.1 l.2 (k.front_large l.1 l.4)) ∙ e),
  )

  module _ (x : F) (rest : List ℕ) (one : rf line ≡ Ok (x, rest)) where
    same_rest : (x' : F) (rest' : List ℕ) → Ff x' → Nf rest' → line ≡ sf x' ++ rest' → rest' ≡ rest
    same_rest x' rest' fits next is =
        let same = ok_is (x', rest') (x, rest) (sym (ap rf is ∙ k.front_back x' rest' fits next) ∙ one) in
        ap (λ (q : F × List ℕ). q.1) same

    no_middle : IsUnspelled sm Fm Nm rest → NoFrame
    no_middle u x' y z fx fy fz is = u y (st z) fy (k.middle_next z fz) (sym (same_rest x' (sm y ++ st z) fx (k.front_next y z fy fz) is))

    small_middle : ¬ Lm rest → ¬ IsLargeFrame line
    small_middle h l = h (let same : l.1 ≡ rest = same_rest l.0 l.1 l.2 (k.front_large l.1 l.4) l.3 in subst Lm same l.4)

    no_tail : (y : M) (more : List ℕ) → rm rest ≡ Ok (y, more) → Fm y → ((z : T) → Ft z → more ≡ st z → ⊥) → NoFrame × ¬ IsLargeFrame line
    no_tail y more two fy h = (
      λ x' y' z fx fy' fz is.
          let whole : rest ≡ sm y' ++ st z = sym (same_rest x' (sm y' ++ st z) fx (k.front_next y' z fy' fz) is) in
          let same = ok_is (y, more) (y', st z) (sym two ∙ ap rm whole ∙ k.middle_back y' (st z) fy' (k.middle_next z fz)) in
          h z fz (ap (λ (q : M × List ℕ). q.1) same),
      small_middle (k.apart rest y more two fy),
    )

  -- ---- what is told of a line

  module _ {W : Type 0} {text : W → List ℕ} {FW : W → Type 0} (part : (w : W) → FW w → Parted sf Ff sm Fm st Ft text FW w) where
    abbrev pub LineTold : Result W LineFault → Type 0
    LineTold r = TellsLine text FW IsLargeFrame line r

    -- what is spelled as this line has nothing that is too large
    pub spelled_small : (w : W) → FW w → ended line ≡ text w → ¬ IsLargeFrame line
    spelled_small w fits is =
        let p = part w fits in
        let behind : List ℕ = sm p.middle ++ st p.tail in
        let whole : line ≡ sf p.front ++ behind = unended line (sf p.front ++ behind) (is ∙ p.parts) in
        small_middle p.front behind (ap rf whole ∙ k.front_back p.front behind p.front_fits (k.front_next p.middle p.tail p.middle_fits p.tail_fits))
        (k.apart behind p.middle (st p.tail) (k.middle_back p.middle (st p.tail) p.middle_fits (k.middle_next p.tail p.tail_fits)) p.middle_fits)

    no_line : NoFrame → IsNoLine text FW line
    no_line h w fits is =
        let p = part w fits in
        h p.front p.middle p.tail p.front_fits p.middle_fits p.tail_fits (unended line (sf p.front ++ (sm p.middle ++ st p.tail)) (is ∙ p.parts))

    pub front_failed : (e : Fault) → Fails line e (rf line) → LineTold (Err (line_fault e))
    front_failed e h = on_fault (λ f. LineTold (Err f)) line (rf line) e h tt (λ stop s. let n = no_front stop s in (no_line n.0, n.1))

    module _ (x : F) (behind : ℕ) (one : rf line ≡ Ok (x, drop behind line)) where
      pub middle_failed : (f : LineFault) → Tells sm Fm Nm Lm rm line behind (Err f) → LineTold (Err f)
      middle_failed fault.NoMemory h = tt
      middle_failed fault.Syntax h = (no_line (no_middle x (drop behind line) one h.0), small_middle x (drop behind line) one h.1)
      middle_failed fault.TooLarge h =
          let f = k.front_found line x (drop behind line) one in
          (no_line (no_middle x (drop behind line) one h.0), (x, drop behind line, f.1, f.0, h.1))

      module _ (y : M) (after : ℕ) (two : Tells sm Fm Nm Lm rm line behind (Ok (y, after))) where
        ended_so : ((z : T) → Ft z → drop after line ≡ st z → ⊥) → LineTold (Err fault.Syntax)
        ended_so h = let n = no_tail x (drop behind line) one y (drop after line) two.3 two.1 h in (no_line n.0, n.1)

        pub tail_failed : (r : Result (T × ℕ) Fault) → Gives (λ z. z) line r (rt (drop after line)) → (f : LineFault) → IsWhole (length line) r (Err f)
            → LineTold (Err f)
        tail_failed (Ok z) g f w = subst (λ (e : LineFault). LineTold (Err e)) (sym w.0) (ended_so (λ z' fz is.
            let same = ok_is (z', []) (z.0, drop z.1 line) (sym (ap rt is ∙ k.tail_back z' fz) ∙ g.1) in
            something_left line z.1 g.0 w.1 (sym (ap (λ (q : T × List ℕ). q.1) same))))
        tail_failed (Err e) g f w = subst (λ (e : LineFault). LineTold (Err e)) (sym w) (on_fault (λ f. LineTold (Err f)) line (rt (drop after line)) e g tt
            (λ stop s. ended_so (λ z fz is. not_both (z, []) stop (sym (ap rt is ∙ k.tail_back z fz) ∙ s))))

        pub tail_read : (r : Result (T × ℕ) Fault) → Gives (λ z. z) line r (rt (drop after line)) → (z : T) → IsWhole (length line) r (Ok z)
            → (Ff x × Fm y × Ft z) × (line ≡ sf x ++ (sm y ++ st z))
        tail_read (Ok z) g t w =
            let whole : rt (drop after line) ≡ Ok (t, []) = g.1 ∙ ap (λ (u : List ℕ). Ok (z.0, u)) (drop_all z.1 line (omega (arith, w.1)))
            ∙ ap (λ (v : T). Ok (v, [])) w.0 in
            let f = k.front_found line x (drop behind line) one in
            let t' = k.tail_found (drop after line) t [] whole in
            ((f.1, two.1, t'.1), f.0 ∙ ap (λ (u : List ℕ). sf x ++ u) (two.2 ∙ ap (λ (u : List ℕ). sm y ++ u) (t'.0 ∙ append-nil (st t))))
        tail_read (Err e) g t w = absurd w
