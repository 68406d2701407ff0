-- Bits that are set twice.
use Rattle.std.proofs.Common.{◌≡◌, refl, ◌∙◌, ap, Bool, true, false, cond, ℕ, bit_or, max, arith}
use Rattle.std.proofs.lemmas.Nat.Bits.{bit_at_or, same_from_bits}

max_assoc : (x y z : ℕ) → max (max x y) z ≡ max x (max y z)
max_assoc x y z = omega arith

or_assoc : (a b c : ℕ) → bit_or (bit_or a b) c ≡ bit_or a (bit_or b c)
or_assoc a b c = same_from_bits _ _ (λ i. simp (bit_at_or, max_assoc))

-- bits that may be set already, among those that are set now
pub set_again : (t : Bool) (p b c : ℕ) → bit_or b c ≡ c → bit_or (cond t (bit_or p b) p) c ≡ bit_or p c
set_again true p b c h = or_assoc p b c ∙ ap (bit_or p) h
set_again false p b c h = refl
