-- Document 02, C-18: probes that report degrees.
use Rattle.std.specs.Prelude.{◌≡◌, ◌⊎◌, Bool, true, false, ◌&&◌, cond, ℕ, ◌+◌, ◌-◌, ◌*◌, ◌/◌, ◌%◌, ◌^◌, ◌<◌, ◌≤◌, eqb, ltb, leb, ℤ, pos, negsuc, neg_ℤ, nat_abs, ◌-ℤ◌, ◌*ℤ◌, Float, Option, None, Some}
use Rattle.std.specs.Int.Signed.{le_z}
use Rattle.std.specs.Float.{nan, inf, fin, binary32}
use Rattle.std.specs.Float.Ieee.{to_bits}
use Rattle.std.specs.Float.Ieee as ieee
use Rattle.std.specs.Float.Ieee.Exact.{HasValue}
use Rattle.units.specs.Units.{hundredths}
use Rattle.units.specs.declared.Hundredths.{Hundredths}
use Rattle.model.specs.Answers.{answer_with}
use Rattle.model.specs.Served.{local_temperature_not_exposed}
use Rattle.model.specs.Temperature.{reported_temperature}
use Rattle.model.specs.Removed.{removed}
use Rattle.model.specs.Step.{step}
use Rattle.records.specs.declared.Answer.{Answer}
use Rattle.records.specs.declared.Call.{Call}
use Rattle.records.specs.declared.Config.{Config}
use Rattle.records.specs.declared.Controller.{Controller}
use Rattle.records.specs.declared.Readings.{Readings}
use Rattle.records.specs.declared.Probe.{Probe}
use Rattle.records.specs.declared.Probe.TheVariants.{Absent, Fault, Degrees}

-- the bits of a 32-bit float: sign, 8 of the exponent, 23 of the fraction
abbrev pub sign_of : ℕ → Bool
sign_of b = leb (2 ^ 31) b

abbrev pub exponent_of : ℕ → ℕ
exponent_of b = b % 2 ^ 31 / 2 ^ 23

abbrev pub fraction_of : ℕ → ℕ
fraction_of b = b % 2 ^ 23

-- a fraction of two whole numbers
pub record Fraction : Type 0 where
  pub numerator : ℤ
  pub denominator : ℕ

pub data Value : Type 0 where
  not_finite : Value
  exactly : Fraction → Value

abbrev pub signed : Bool → ℕ → ℤ
signed true n = neg_ℤ (pos n)
signed false n = pos n

abbrev pub is_negative : ℤ → Bool
is_negative (pos n) = false
is_negative (negsuc n) = true

-- a digit 1 stands before the fraction, but with exponent 0, which otherwise counts as 1
abbrev pub significand : ℕ → ℕ → ℕ
significand e t = cond (eqb e 0) t (2 ^ 23 + t)

-- the exact value: every finite float is a whole number of 2^-149. Exponent 255 is an infinity's or a NaN's
unfoldable pub exact_value : ℕ → Value
exact_value b =
    cond (eqb (exponent_of b) 255) not_finite
    (exactly (record {
      numerator = signed (sign_of b) (significand (exponent_of b) (fraction_of b) * 2 ^ (exponent_of b - 1));
      denominator = 2 ^ 149;
    }))

-- n / d to the nearest whole number, a half to the even one
unfoldable pub half_to_even : ℕ → ℕ → ℕ
half_to_even n d =
    cond (ltb (2 * (n % d)) d) (n / d)
    (cond (ltb d (2 * (n % d))) (n / d + 1)
    (n / d + n / d % 2))

-- the hundredths nearest to a number of degrees
unfoldable pub nearest_hundredths : Fraction → ℤ
nearest_hundredths f = signed (is_negative f.numerator) (half_to_even (100 * nat_abs f.numerator) f.denominator)

-- What nearest means. How far z hundredths are from the fraction, in hundredths of a denominator-th:
abbrev pub distance : Fraction → ℤ → ℕ
distance f z = nat_abs (f.numerator *ℤ pos 100 -ℤ z *ℤ pos f.denominator)

-- no whole number is nearer, and where another is as near, z is even
abbrev pub Nearest : Fraction → ℤ → Type 0
Nearest f z = (w : ℤ) → (distance f z ≤ distance f w) × (distance f w ≡ distance f z → (w ≡ z) ⊎ (nat_abs z % 2 ≡ 0))

-- a result outside -27315..32767 gives null
unfoldable pub in_range : ℤ → Option Hundredths
in_range z = cond (le_z (negsuc 27314) z && le_z z (pos 32767)) (Some (hundredths z)) None

abbrev pub of_value : Value → Option Hundredths
of_value not_finite = None
of_value (exactly f) = in_range (nearest_hundredths f)

-- what a bit pattern gives
unfoldable pub of_pattern : ℕ → Option Hundredths
of_pattern b = of_value (exact_value b)

-- what a float gives: a NaN, of which there is one here, has no bits of its own
abbrev pub of_degrees : Float → Option Hundredths
of_degrees nan = None
of_degrees (inf s) = of_pattern (to_bits binary32 (inf s))
of_degrees (fin s m e) = of_pattern (to_bits binary32 (fin s m e))

-- nothing and a fault code give null
abbrev pub temperature_of : Probe → Option Hundredths
temperature_of Absent = None
temperature_of (Fault code) = None
temperature_of (Degrees x) = of_degrees x

-- the readings of a call, their temperature from a probe
abbrev pub readings_of : Probe → ℕ → ℕ → Option ℕ → Option ℕ → ℕ → Readings
readings_of probe before after hook node clock = record {
  relaysbefore = before;
  relaysafter = after;
  temperature = temperature_of probe;
  hook = hook;
  node = node;
  clock = clock;
}

-- every fraction has a nearest number of hundredths, and it is the only one
abbrev pub NearestFound : Type 0
NearestFound = (f : Fraction) → 0 < f.denominator → Nearest f (nearest_hundredths f)

abbrev pub NearestOnlyOne : Type 0
NearestOnlyOne = (f : Fraction) (z : ℤ) → 0 < f.denominator → Nearest f z → z ≡ nearest_hundredths f

-- by the library's account of IEEE 754 a pattern stands for just that value
abbrev pub StandsFor : Value → Bool → Float → Type 0
StandsFor not_finite s nan = Unit {0}
StandsFor not_finite s (inf t) = Unit {0}
StandsFor not_finite s (fin t m e) = ⊥
StandsFor (exactly f) s x = HasValue x s (nat_abs f.numerator) f.denominator

abbrev pub ExactByStandard : Type 0
ExactByStandard = (b : ℕ) → StandsFor (exact_value b) (sign_of b) (ieee.of_bits binary32 b)

-- every pattern of 32 bits, each NaN's among them, gives what its float gives
abbrev pub EveryPattern : Type 0
EveryPattern = (b : ℕ) → b < 2 ^ 32 → temperature_of (Degrees (ieee.of_bits binary32 b)) ≡ of_pattern b

-- both zeros and every subnormal give 0
abbrev pub SubnormalsGiveZero : Type 0
SubnormalsGiveZero = (b : ℕ) → exponent_of b ≡ 0 → of_pattern b ≡ Some (hundredths (pos 0))

-- what a call answers
abbrev pub answer_at : Config → Controller → Readings → Call → Answer
answer_at cfg r d k = answer_with (step cfg r d k) (removed cfg r d k)

-- with LTNE the reported temperature is null, and every call answers alike whatever the probe delivers
abbrev pub ProbeNotExposed : Type 0
ProbeNotExposed =
    (cfg : Config) → local_temperature_not_exposed cfg ≡ true → (p q : Probe) (before after : ℕ) (hook node : Option ℕ) (clock : ℕ)
    → (reported_temperature cfg (readings_of p before after hook node clock).temperature ≡ None)
    × ((r : Controller) (k : Call) → answer_at cfg r (readings_of p before after hook node clock) k ≡ answer_at cfg r (readings_of q before after hook node clock) k)
