-- Reading a character of several bytes of UTF-8.
use Rattle.std.specs.Prelude.{ℕ, zero, suc, Bool, ◌&&◌, List, [], ◌∷◌, Ok, Err, ◌==◌, nat_le, nat_lt, if◌then◌else◌}
use Rattle.df_format.specs.Reading.{Bad, Read, ◌>>=◌}

-- a byte of this range
abbrev pub is_between : ℕ → ℕ → ℕ → Bool
is_between least most c = nat_le least c && nat_le c most

-- a first byte: C2 to F4
abbrev pub is_lead : ℕ → Bool
is_lead c = is_between 194 244 c

-- how many bytes stand behind it
abbrev pub trail_length : ℕ → ℕ
trail_length lead = if nat_lt lead 224 then 1 else if nat_lt lead 240 then 2 else 3

-- the least second byte: A0 behind E0, 90 behind F0, else 80
abbrev pub least_second : ℕ → ℕ
least_second lead = if lead == 224 then 160 else if lead == 240 then 144 else 128

-- the greatest second byte: 9F behind ED, 8F behind F4, else BF
abbrev pub most_second : ℕ → ℕ
most_second lead = if lead == 237 then 159 else if lead == 244 then 143 else 191

-- a byte that passes the test, and what stands behind it
abbrev pub led_at : (ℕ → Bool) → (ℕ → List ℕ → Read ℕ (List ℕ)) → List ℕ → Read ℕ (List ℕ)
led_at test next [] = Err (Bad [])
led_at test next (b ∷ bs) = if test b then (next b bs >>= λ r. Ok (b ∷ r.0, r.1))
    else Err (Bad (b ∷ bs))

-- so many bytes, the first of this range and the others from 80 to BF
abbrev pub trail_at : ℕ → ℕ → ℕ → List ℕ → Read ℕ (List ℕ)
trail_at zero least most bytes = Ok ([], bytes)
trail_at (suc n) least most bytes = led_at (is_between least most) (λ b. trail_at n 128 191) bytes

-- a character of several bytes: its bytes
abbrev pub wide_at : List ℕ → Read ℕ (List ℕ)
wide_at bytes =
    led_at is_lead (λ lead. trail_at (trail_length lead) (least_second lead) (most_second lead))
    bytes
