-- A word with a byte that is no digit is no number.
use Rattle.std.proofs.Common.{◌≡◌, ℕ, ◌+◌, ◌<◌, List, [], ◌∷◌, length, get_or, drop, refl, add-one, drop-cons, Some, None}
use Rattle.words.specs.Words.{appended_of, digits_after}

spoiled : (bs : List ℕ) → digits_after bs None ≡ None
unfolding digits_after
spoiled [] = refl
spoiled (b ∷ bs) = spoiled bs

pub spoiled_at : (w : List ℕ) (n i : ℕ) → i < length w → appended_of n (get_or w i 0) ≡ None → digits_after (drop i w) (Some n) ≡ None
unfolding digits_after
spoiled_at w n i h e = rw (drop-cons w i 0, digits_after, e) (rw add-one at (spoiled (drop (i + 1) w)))
