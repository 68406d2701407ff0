-- Document 02, C-17: the fixed notice table from its codes alone.
use Rattle.std.specs.Prelude.{cond, List, map, ◌≡◌, ℕ, ◌+◌, ◌-◌, ltb}
use Rattle.model.specs.Sweep.{notice_row, notice_table}
use Rattle.records.specs.declared.NoticeRow.{NoticeRow}

-- the pending bit of a code: the relays' two codes share one, the limits' bits follow their codes, the setpoints' run against theirs
unfoldable pub bit_of : ℕ → ℕ
bit_of c =
    cond (ltb 0x1C c) 8
    (cond (ltb 0x18 c) 3
    (cond (ltb 0x12 c) (c + 4 - 0x15)
    (cond (ltb 0x00 c) (0x12 + 1 - c) 0)))

abbrev pub row_of : ℕ → NoticeRow
row_of c = notice_row (bit_of c) c

-- the codes, in the table's order
abbrev pub notice_codes : List ℕ
notice_codes = map (λ (w : NoticeRow). w.code) notice_table

-- row by row, bit and code are document 01's
abbrev pub TableFromCodes : Type 0
TableFromCodes = map row_of notice_codes ≡ notice_table
