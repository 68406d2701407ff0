-- What is written of a buffer, and how far a page of output gets. Assumes nothing.
use Rattle.std.specs.Prelude.{ℕ, ◌+◌, ◌≤◌, List, take}
use Rattle.text.specs.declared.buffer.Buffer.{Buffer}

abbrev pub written : {most : ℕ} → Buffer most → List ℕ
written b = take b.filled b.bytes

-- Room and Within stay in the contracts: each function writes at most a number of bytes of its own.

-- n bytes fit on a page after what is written
abbrev pub Room : Buffer 65536 → ℕ → Type 0
Room p n = p.filled + n ≤ 65536

-- the page gets at most n bytes longer, and no shorter
abbrev pub Within : Buffer 65536 → Buffer 65536 → ℕ → Type 0
Within old new n = (old.filled ≤ new.filled) × (new.filled ≤ old.filled + n)
